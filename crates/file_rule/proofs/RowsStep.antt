-- What the rule gives for one file more.
use Rattle.std.proofs.Common.{◌≡◌, ◌+◌, ◌++◌, ℕ, true, false, List, [], ◌∷◌, map, take, Option, Some, None, Bor, refl, sym, ap, subst, ◌∙◌, inl, inr, bytes_eq}
use Rattle.std.proofs.lemmas.Option.{same_Some, none-some}
use Rattle.std.specs.Prelude.{option_map, slice_get, IsTrue}
use Rattle.std.specs.List.{find}
use Rattle.std.specs.Option.{option_copied}
use Rattle.text_model.specs.Lists.{Each, SomeOf, rises}
use Rattle.text_model.specs.Text.{Bytes, is_below}
use Rattle.text_model.proofs.EachLemmas.{Each-push}
use Rattle.text_model.specs.Id.{null, blob_id}
use Rattle.git_model.specs.Tree.{is_blob_mode}
use Rattle.git_model.specs.Object.{Object}
use Rattle.git_model.specs.Unfold.{FileRow}
use Rattle.hg_model.specs.Revision.{Revision}
use Rattle.hg_manifest.specs.Values.{manifest_entry}
use Rattle.hg_manifest.specs.declared.entry.Entry.{Entry}
use Rattle.hg_store.specs.Known.{knows_same}
use Rattle.view_model.specs.View.{Row, TreeRow, files_among}
use Rattle.view_model.specs.Dump.{file_revision}
use Rattle.view_model.specs.Held.{IsFileHeld, IsBlobHeld, IsRowHeld, file_row_of}
use Rattle.pair_model.specs.Block.{Parents}
use Rattle.pair_model.specs.Rule.{revision_at, ruled_row, ruled_rows, ruled_revision, flag_of_mode}
use Rattle.pair_known.specs.Rows.{RowValue, row_value}
use Rattle.pair_known.specs.Fresh.{group_path, fresh_revision}
use Rattle.pair_known.specs.Drafts.{AreFreshOf}
use Rattle.pair_known.specs.declared.fresh_files.FreshFile.{FreshFile}
use Rattle.text_model.proofs.Search.{IsRising, rising}
use Rattle.text_model.proofs.Elements.{each_at, get_unmap}
use Rattle.file_rule.specs.declared.parents.Parent.{Parent}
use Rattle.file_rule.specs.declared.revision.RuledRow.{RuledRow}
use Rattle.file_rule.specs.declared.rows.RuledRows.{RuledRows}
use Rattle.file_rule.specs.Parents.{row_with}
use Rattle.file_rule.specs.Made.{fresh_list, IsFresh, IsRowOf, IsMadeRow}
use Rattle.file_rule.specs.Rows.{AreRows, AreMadeRows}
use Rattle.file_rule.proofs.RowsLoop.{entry-in, IsAhead, ahead-here, among-more, among-same, rows-below, held-more, held-here}

pub copied : (o : Option (Bor Entry)) → option_map manifest_entry (option_copied o) ≡ option_map (λ e. manifest_entry e.now) o
copied None = refl
copied (Some e) = refl

pub fresh-path : (known : List Revision) (path : Bytes) (made : Option FreshFile) → IsFresh known path made → (f : FreshFile) → made ≡ Some f → f.path ≡ path
fresh-path known path None h f e = absurd (none-some _ e)
fresh-path known path (Some g) h f e = ap (λ (x : FreshFile). x.path) (sym (same_Some _ _ e)) ∙ h.0

pub all-new : (known : List Revision) (path : Bytes) (fresh : List Revision) (made : Option FreshFile) → Each (λ r. knows_same known r ≡ false) fresh → IsFresh known path made
    → Each (λ r. knows_same known r ≡ false) (fresh ++ fresh_list made)
all-new known path [] None h k = tt
all-new known path [] (Some f) h k = (k.1, tt)
all-new known path (r ∷ fresh) made h k = (h.0, all-new known path fresh made h.1 k)

push-map : (f : TreeRow → Row) (xs : List TreeRow) (x : TreeRow) → map f (xs ++ x ∷ []) ≡ map f xs ++ f x ∷ []
push-map f [] x = refl
push-map f (y ∷ xs) x = ap (λ (l : List Row). f y ∷ l) (push-map f xs x)

pub map-push : (f : Row → RowValue) (xs : List Row) (x : Row) → map f (xs ++ x ∷ []) ≡ map f xs ++ f x ∷ []
map-push f [] x = refl
map-push f (y ∷ xs) x = ap (λ (l : List RowValue). f y ∷ l) (map-push f xs x)

-- what is brought for rows and for one row more
some-left : (r : Revision) (rows : List Row) (row : Row) → SomeOf rows (λ x. r ≡ file_revision null x) → SomeOf (rows ++ row ∷ []) (λ x. r ≡ file_revision null x)
some-left r [] row h = absurd h
some-left r (x ∷ rows) row h = elim h [ inl q ↦ inl q | inr k ↦ inr (some-left r rows row k) ]

some-last : (r : Revision) (rows : List Row) (row : Row) → r ≡ file_revision null row → SomeOf (rows ++ row ∷ []) (λ x. r ≡ file_revision null x)
some-last r [] row e = inl e
some-last r (x ∷ rows) row e = inr (some-last r rows row e)

pub fresh-more : (fresh : List Revision) (made : Option FreshFile) (rows : List Row) (row : Row) → AreFreshOf fresh rows → Each (λ r. r ≡ file_revision null row) (fresh_list made) → AreFreshOf (fresh ++ fresh_list made) (rows ++ row ∷ [])
fresh-more [] None rows row h e = tt
fresh-more [] (Some f) rows row h e = (some-last (fresh_revision f) rows row e.0, tt)
fresh-more (r ∷ fresh) made rows row h e = (some-left r rows row h.0, fresh-more fresh made rows row h.1 e)

-- the file of a commit at a place, with its content
pub content-at : (objects : List Object) (files : List FileRow) (ts : List TreeRow) (i : ℕ) (file : FileRow) → files ≡ map file_row_of ts → slice_get files i ≡ Some file → is_blob_mode file.mode ≡ true → Each (IsRowHeld objects) ts
    → (t : TreeRow) × (t.id ≡ file.id) × IsBlobHeld objects t
content-at objects files ts i file same at blob held =
    let g = get_unmap file_row_of ts i file (ap (λ (l : List FileRow). slice_get l i) (sym same) ∙ at) in
    (g.0, ap (λ (x : FileRow). x.id) g.2, (each_at (IsRowHeld objects) ts i g.0 g.1 held).blob (ap (λ (x : FileRow). is_blob_mode x.mode) g.2 ∙ blob))

-- a row that is no file is passed over
pub past : (known : List Revision) (objects : List Object) (files : List FileRow) (first second : Parent) (ps : Parents) (ts : List TreeRow) (ruled : RuledRows) → AreRows known objects files first second ps ts
    → (i : ℕ) (file : FileRow) → slice_get files i ≡ Some file → is_blob_mode file.mode ≡ false → AreMadeRows known ruled ps (take i ts) → AreMadeRows known ruled ps (take (i + 1) ts)
past known objects files first second ps ts ruled are i file at other before =
    let g = get_unmap file_row_of ts i file (ap (λ (l : List FileRow). slice_get l i) (sym are.of_files) ∙ at) in
    let same : ruled_rows ps (take i ts) ≡ ruled_rows ps (take (i + 1) ts) = ap (map (ruled_row ps)) (sym (among-same ts i g.0 g.1 (ap (λ (x : FileRow). is_blob_mode x.mode) g.2 ∙ other))) in
    record {
      rows = before.rows ∙ ap (map row_value) same;
      held = subst (Each (IsFileHeld (ruled.fresh ++ known))) same before.held;
      of_rows = subst (AreFreshOf ruled.fresh) same before.of_rows;
    }

module _ (known : List Revision) (objects : List Object) (files : List FileRow) (first second : Parent) (ps : Parents) (ts : List TreeRow) (are : AreRows known objects files first second ps ts)
    (i : ℕ) (file : FileRow) (at : slice_get files i ≡ Some file) (file_is : is_blob_mode file.mode ≡ true) (up : IsTrue (rises is_below (map (λ (r : FileRow). r.path) files)))
    (e f : Option (Bor Entry)) (e_is : option_map (λ x. manifest_entry x.now) e ≡ find (λ x. bytes_eq x.path file.path) (first.manifest).now)
    (f_is : option_map (λ x. manifest_entry x.now) f ≡ find (λ x. bytes_eq x.path file.path) (second.manifest).now) where
  pub here : (t : TreeRow) × (slice_get ts i ≡ Some t) × (file_row_of t ≡ file)
  here = get_unmap file_row_of ts i file (ap (λ (l : List FileRow). slice_get l i) (sym are.of_files) ∙ at)

  here_is : is_blob_mode (here.0).mode ≡ true
  here_is = ap (λ (x : FileRow). is_blob_mode x.mode) here.2 ∙ file_is

  pub row-of : IsRowOf known objects file (option_map manifest_entry (option_copied e)) (option_map manifest_entry (option_copied f)) (revision_at (ps.first).rows file.path) (revision_at (ps.second).rows file.path) here.0
  row-of = record {
    in_first = entry-in known (first.manifest).now (ps.first).rows file.path (option_map manifest_entry (option_copied e)) (are.in_first).entries (are.in_first).files (copied e ∙ e_is);
    in_second = entry-in known (second.manifest).now (ps.second).rows file.path (option_map manifest_entry (option_copied f)) (are.in_second).entries (are.in_second).files (copied f ∙ f_is);
    of_file = here.2;
    blob = each_at (λ (t : TreeRow). is_blob_mode t.mode ≡ true → t.id ≡ blob_id t.content) ts i here.0 here.1 are.ids here_is;
    content = (each_at (IsRowHeld objects) ts i here.0 here.1 are.contents).blob here_is;
  }

  row_is : row_with file.path (flag_of_mode file.mode) (ruled_revision (revision_at (ps.first).rows file.path) (revision_at (ps.second).rows file.path) here.0) ≡ ruled_row ps here.0
  row_is = λ j. record {
    path = (sym here.2 j).path;
    flag = flag_of_mode (sym here.2 j).mode;
    revision = ruled_revision (revision_at (ps.first).rows (sym here.2 j).path) (revision_at (ps.second).rows (sym here.2 j).path) here.0;
  }

  pub one_more : (ruled ruled' : RuledRows) (made : RuledRow) → ruled'.rows ≡ ruled.rows ++ made.row ∷ [] → ruled'.fresh ≡ ruled.fresh ++ fresh_list made.fresh → IsAhead files i ruled.fresh → IsFresh known file.path made.fresh
      → AreMadeRows known ruled ps (take i ts) → IsMadeRow known made (row_with file.path (flag_of_mode file.mode) (ruled_revision (revision_at (ps.first).rows file.path) (revision_at (ps.second).rows file.path) here.0))
      → AreMadeRows known ruled' ps (take (i + 1) ts)
  one_more ruled ruled' made rows fresh ahead new before given =
      let row = ruled_row ps here.0 in
      let done = ruled_rows ps (take i ts) in
      let list : ruled_rows ps (take (i + 1) ts) ≡ done ++ row ∷ [] = ap (map (ruled_row ps)) (among-more ts i here.0 here.1 here_is) ∙ push-map (ruled_row ps) (files_among (take i ts)) here.0 in
      let one : IsMadeRow known made row = subst (IsMadeRow known made) row_is given in
      let path = fresh-path known file.path made.fresh new in
      let up_ts : IsRising (λ (r : FileRow). r.path) (map file_row_of ts) = subst (IsRising (λ (r : FileRow). r.path)) are.of_files (rising (λ (r : FileRow). r.path) files up) in
      let below = rows-below ps ts i file up_ts (ap (λ (l : List FileRow). slice_get l i) (sym are.of_files) ∙ at) in
      let row_path : file.path ≡ row.path = ap (λ (x : FileRow). x.path) (sym here.2) in
      let ahead_row = subst (λ (p : Bytes). Each (λ r. is_below (group_path r.group) p ≡ true) ruled.fresh) row_path (ahead-here files up i file at ruled.fresh ahead) in
      let held : Each (IsFileHeld ((ruled.fresh ++ fresh_list made.fresh) ++ known)) (done ++ row ∷ []) =
      Each-push (IsFileHeld ((ruled.fresh ++ fresh_list made.fresh) ++ known)) done row (held-more ruled.fresh made.fresh known file.path done path below before.held) (held-here ruled.fresh made.fresh known row ahead_row one.held) in
      record {
        rows = rows ∙ (λ j. before.rows j ++ one.value j ∷ []) ∙ sym (map-push row_value done row) ∙ ap (map row_value) (sym list);
        held = subst (λ (l : List Row). Each (IsFileHeld (ruled'.fresh ++ known)) l) (sym list) (subst (λ (fs : List Revision). Each (IsFileHeld (fs ++ known)) (done ++ row ∷ [])) (sym fresh) held);
        of_rows = subst (AreFreshOf ruled'.fresh) (sym list) (subst (λ (fs : List Revision). AreFreshOf fs (done ++ row ∷ [])) (sym fresh) (fresh-more ruled.fresh made.fresh done row before.of_rows one.of_row));
      }
