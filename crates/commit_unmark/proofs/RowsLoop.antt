-- The files that marks name, one file after the other.
use Rattle.std.proofs.Common.{◌≡◌, ◌≤◌, ◌<◌, ◌+◌, ◌++◌, ℕ, zero, suc, Bool, true, false, List, [], ◌∷◌, map, length, drop, get_or, Option, Some, None, refl, sym, ap, subst, ◌∙◌, arith, append_assoc, append-nil}
use Rattle.std.specs.Prelude.{slice_get, option_map, IsTrue, if◌then◌else◌}
use Rattle.std.proofs.lemmas.Option.{same_Some, none-some, slice_get-get_or}
use Rattle.std.proofs.lemmas.List.{length-map}
use Rattle.text_model.specs.Lists.{Each, rises}
use Rattle.text_model.specs.Text.{Bytes, is_below}
use Rattle.text_model.specs.Id.{blob_id}
use Rattle.text_model.proofs.EachLemmas.{Each-push}
use Rattle.text_model.proofs.Elements.{each_at, get_unmap, drop_next}
use Rattle.text_model.proofs.Search.{rising}
use Rattle.git_model.specs.Object.{Object}
use Rattle.git_model.specs.Tree.{is_blob_mode}
use Rattle.git_model.specs.Unfold.{FileRow}
use Rattle.hg_model.specs.Revision.{Revision}
use Rattle.view_model.specs.View.{IsRevision, Row, TreeRow, files_among, tree_paths}
use Rattle.view_model.specs.Held.{IsFileHeld, IsRowHeld, file_row_of}
use Rattle.pair_model.specs.Block.{Parents}
use Rattle.pair_model.specs.Rule.{ruled_row}
use Rattle.pair_model.specs.MarkList.{Mark, may_follow}
use Rattle.partner_model.specs.Filled.{filled_rows}
use Rattle.pair_known.specs.Rows.{row_value}
use Rattle.pair_known.specs.Drafts.{AreFreshOf}
use Rattle.pair_known.specs.Fresh.{group_path}
use Rattle.file_rule.specs.Made.{IsMadeRow, IsFresh, fresh_list}
use Rattle.file_rule.specs.declared.parents.Parent.{Parent}
use Rattle.file_rule.specs.declared.revision.RuledRow.{RuledRow}
use Rattle.file_rule.specs.declared.rows.RuledRows.{RuledRows}
use Rattle.file_rule.proofs.RowsLoop.{IsAhead, ahead-here, rises-at, held-more, held-here}
use Rattle.file_rule.proofs.RowsStep.{fresh-path, fresh-more, map-push}
use Rattle.filled_law.specs.Walks.{named_row, mark_at, behind, starts_entry}
use Rattle.filled_law.proofs.Walk.{put, walk, walked}
use Rattle.filled_law.proofs.MarkedRows.{named-row}
use Rattle.filled_law.proofs.Right.{files-rise}
use Rattle.commit_unmark.specs.Named.{IsFileOver, NamesNone, NamesRow, AreRight, AreBroughtRows, AreFilesOver, NamesNoRows, NamesRows}

-- the file at a place of a list
pub file-at : (files list : List FileRow) (i : ℕ) (file : FileRow) → list ≡ files → i < length list → file ≡ get_or list i file → slice_get files i ≡ Some file
file-at files list i file same below is = ap (λ (l : List FileRow). slice_get l i) (sym same) ∙ slice_get-get_or list i file below ∙ ap Some (sym is)

-- ---- rows that were named, before those that a walk gives

abbrev pub joined : List Row → Option (List Row) → Option (List Row)
joined rows o = option_map (λ more. rows ++ more) o

pub joined-none : (o : Option (List Row)) → joined [] o ≡ o
joined-none None = refl
joined-none (Some rows) = refl

joined-more : (rows : List Row) (row : Row) (o : Option (List Row)) → joined rows (put (Some row) o) ≡ joined (rows ++ row ∷ []) o
joined-more rows row None = refl
joined-more rows row (Some more) = ap Some (sym (append_assoc rows (row ∷ []) more))

-- the next of them is right, where all are
next-right : (rows : List Row) (o : Option Row) (more : Option (List Row)) (all : List Row) → joined rows (put o more) ≡ Some all → AreRight all → (row : Row) × (o ≡ Some row) × IsRevision row.revision
next-right rows None more all e right = absurd (none-some _ e)
next-right rows (Some row) None all e right = absurd (none-some _ e)
next-right rows (Some row) (Some more) all e right = (row, refl, last rows (subst AreRight (sym (same_Some _ _ e)) right))
  where
    last : (rs : List Row) → AreRight (rs ++ row ∷ more) → IsRevision row.revision
    last [] h = h.0
    last (r ∷ rs) h = last rs h.1

-- what is named of the files before a place
pub record NamesSoFar (known : List Revision) (files : List FileRow) (ps : Parents) (marks : List Mark) (ts : List TreeRow) (i place : ℕ) (made : RuledRows) : Type 0 where
  pub rows : List Row
  pub right : AreRight rows
  pub brought : AreBroughtRows known made rows
  pub below : (k : ℕ) (x : FileRow) → i ≤ k → slice_get files k ≡ Some x → Each (λ row. is_below row.path x.path ≡ true) rows
  pub walk_is : walk ps marks (files_among ts) ≡ joined rows (walk ps (drop place marks) (files_among (drop i ts)))

pub none-yet : (known : List Revision) (files : List FileRow) (ps : Parents) (marks : List Mark) (ts : List TreeRow) (made : RuledRows) → made.rows ≡ [] → made.fresh ≡ [] → NamesSoFar known files ps marks ts 0 0 made
none-yet known files ps marks ts made rows fresh = record {
  rows = [];
  right = tt;
  brought = record { values = rows; held = tt; of_rows = subst (λ fs. AreFreshOf fs []) (sym fresh) tt };
  below = λ k x le at. tt;
  walk_is = sym (joined-none (walk ps marks (files_among ts)));
}

module _ (known : List Revision) (objects : List Object) (files : List FileRow) (first second : Parent) (ps : Parents) (ts : List TreeRow) (over : AreFilesOver known objects files first second ps ts)
    (up : IsTrue (rises is_below (map (λ (r : FileRow). r.path) files))) (marks : List Mark) where
  paths-same : (rows : List TreeRow) → map (λ (r : FileRow). r.path) (map file_row_of rows) ≡ tree_paths rows
  paths-same [] = refl
  paths-same (t ∷ rows) = ap (λ (l : List Bytes). t.path ∷ l) (paths-same rows)

  pub names : rises may_follow marks ≡ true → walk ps marks (files_among ts) ≡ filled_rows ps marks (files_among ts)
  names list =
      let paths : map (λ (r : FileRow). r.path) files ≡ tree_paths ts = ap (map (λ (r : FileRow). r.path)) (over.rows).of_files ∙ paths-same ts in
      walked ps (files_among ts) marks list (files-rise ts (subst (λ (l : List Bytes). IsTrue (rises is_below l)) paths up))

  -- ---- one file more

  module _ (i place : ℕ) (made : RuledRows) (before : NamesSoFar known files ps marks ts i place made) (file : FileRow) (at : slice_get files i ≡ Some file) where
    pub here : (t : TreeRow) × (slice_get ts i ≡ Some t) × (file_row_of t ≡ file)
    here = get_unmap file_row_of ts i file (ap (λ (l : List FileRow). slice_get l i) (sym (over.rows).of_files) ∙ at)

    rest : drop i ts ≡ here.0 ∷ drop (i + 1) ts
    rest = drop_next ts i here.0 here.1

    below-on : (rows : List Row) → ((k : ℕ) (x : FileRow) → i ≤ k → slice_get files k ≡ Some x → Each (λ row. is_below row.path x.path ≡ true) rows) → (k : ℕ) (x : FileRow) → i + 1 ≤ k → slice_get files k ≡ Some x → Each (λ row. is_below row.path x.path ≡ true) rows
    below-on rows h k x le to = h k x (omega (arith, le)) to

    -- a row that is no file is passed over
    pub past : is_blob_mode file.mode ≡ false → NamesSoFar known files ps marks ts (i + 1) place made
    past other =
        let none : is_blob_mode (here.0).mode ≡ false = ap (λ (x : FileRow). is_blob_mode x.mode) here.2 ∙ other in
        let same : files_among (drop i ts) ≡ files_among (drop (i + 1) ts) = ap files_among rest ∙ ap (λ (b : Bool). if b then here.0 ∷ files_among (drop (i + 1) ts) else files_among (drop (i + 1) ts)) none in
        record {
          rows = before.rows;
          right = before.right;
          brought = before.brought;
          below = below-on before.rows before.below;
          walk_is = before.walk_is ∙ ap (λ us. joined before.rows (walk ps (drop place marks) us)) same;
        }

    module _ (file_is : is_blob_mode file.mode ≡ true) where
      some : is_blob_mode (here.0).mode ≡ true
      some = ap (λ (x : FileRow). is_blob_mode x.mode) here.2 ∙ file_is

      same : files_among (drop i ts) ≡ here.0 ∷ files_among (drop (i + 1) ts)
      same = ap files_among rest ∙ ap (λ (b : Bool). if b then here.0 ∷ files_among (drop (i + 1) ts) else files_among (drop (i + 1) ts)) some

      path-is : file.path ≡ (here.0).path
      path-is = ap (λ (x : FileRow). x.path) (sym here.2)

      -- the file and what is to be known of it
      pub file-over : IsFileOver known objects (first.manifest).now (second.manifest).now file ps here.0
      file-over = record {
        in_first = (((over.rows).in_first).entries, ((over.rows).in_first).files);
        in_second = (((over.rows).in_second).entries, ((over.rows).in_second).files);
        blob = record {
          of_file = here.2;
          blob = each_at (λ (t : TreeRow). is_blob_mode t.mode ≡ true → t.id ≡ blob_id t.content) ts i here.0 here.1 (over.rows).ids some;
          content = (each_at (IsRowHeld objects) ts i here.0 here.1 (over.rows).contents).blob some;
        };
        ruled = each_at (λ (t : TreeRow). is_blob_mode t.mode ≡ true → IsRevision (ruled_row ps t).revision) ts i here.0 here.1 over.ruled some;
      }

      module _ (mark : Option Mark) (mark_is : mark ≡ mark_at file.path (drop place marks)) where
        walk-next : (next : ℕ) → drop next marks ≡ behind file.path (drop place marks) → walk ps marks (files_among ts) ≡ joined before.rows (put (named_row ps mark here.0) (walk ps (drop next marks) (files_among (drop (i + 1) ts))))
        walk-next next next_is =
            before.walk_is ∙ ap (λ us. joined before.rows (walk ps (drop place marks) us)) same
            ∙ (λ j. joined before.rows (put (named_row ps (mark_at (sym path-is j) (drop place marks)) here.0) (walk ps (behind (sym path-is j) (drop place marks)) (files_among (drop (i + 1) ts)))))
            ∙ (λ j. joined before.rows (put (named_row ps (sym mark_is j) here.0) (walk ps (sym next_is j) (files_among (drop (i + 1) ts)))))

        -- where no right file is named, no right files are
        pub none-named : rises may_follow marks ≡ true → (next : ℕ) → drop next marks ≡ behind file.path (drop place marks) → NamesNone ps mark here.0 → NamesNoRows ps marks ts
        none-named list next next_is none = λ rows e right.
            let found = next-right before.rows (named_row ps mark here.0) (walk ps (drop next marks) (files_among (drop (i + 1) ts))) rows (sym (walk-next next next_is) ∙ names list ∙ e) right in
            none found.0 found.1 found.2

        pub one-more : (made' : RuledRows) (new : RuledRow) → made'.rows ≡ made.rows ++ new.row ∷ [] → made'.fresh ≡ made.fresh ++ fresh_list new.fresh → IsAhead files i made.fresh → IsFresh known file.path new.fresh
            → (next : ℕ) → drop next marks ≡ behind file.path (drop place marks) → NamesRow known ps mark here.0 new → NamesSoFar known files ps marks ts (i + 1) next made'
        one-more made' new rows fresh ahead new_is next next_is named =
            let row = named.0 in
            let done = before.rows in
            let is : IsMadeRow known new row = named.3 in
            let path = fresh-path known file.path new.fresh new_is in
            let row_path : file.path ≡ row.path = path-is ∙ sym (named-row ps mark here.0 row named.1).0 in
            let ahead_row = subst (λ (p : Bytes). Each (λ r. is_below (group_path r.group) p ≡ true) made.fresh) row_path (ahead-here files up i file at made.fresh ahead) in
            let held : Each (IsFileHeld ((made.fresh ++ fresh_list new.fresh) ++ known)) (done ++ row ∷ []) =
            Each-push (IsFileHeld ((made.fresh ++ fresh_list new.fresh) ++ known)) done row (held-more made.fresh new.fresh known file.path done path (before.below i file (omega arith) at) before.brought.held) (held-here made.fresh new.fresh known row ahead_row is.held) in
            record {
              rows = done ++ row ∷ [];
              right = Each-push (λ (r : Row). IsRevision r.revision) done row before.right named.2;
              brought = record {
                values = rows ∙ (λ j. before.brought.values j ++ is.value j ∷ []) ∙ sym (map-push row_value done row);
                held = subst (λ fs. Each (IsFileHeld (fs ++ known)) (done ++ row ∷ [])) (sym fresh) held;
                of_rows = subst (λ fs. AreFreshOf fs (done ++ row ∷ [])) (sym fresh) (fresh-more made.fresh new.fresh done row before.brought.of_rows is.of_row);
              };
              below = λ k x le to. Each-push (λ (r : Row). is_below r.path x.path ≡ true) done row (before.below k x (omega (arith, le)) to)
                  (subst (λ (p : Bytes). is_below p x.path ≡ true) row_path (rises-at files i k file x (rising (λ (r : FileRow). r.path) files up) (omega (arith, le)) at to));
              walk_is = walk-next next next_is ∙ ap (λ o. joined done (put o (walk ps (drop next marks) (files_among (drop (i + 1) ts))))) named.1
                  ∙ joined-more done row (walk ps (drop next marks) (files_among (drop (i + 1) ts)));
            }

  -- ---- behind the last file

  module _ (i place : ℕ) (made : RuledRows) (before : NamesSoFar known files ps marks ts i place made) (end : length files ≤ i) (list : rises may_follow marks ≡ true) where
    behind-all : (xs : List TreeRow) (n : ℕ) → length xs ≤ n → drop n xs ≡ []
    behind-all [] zero le = refl
    behind-all [] (suc n) le = refl
    behind-all (x ∷ xs) zero le = absurd (omega (arith, le))
    behind-all (x ∷ xs) (suc n) le = behind-all xs n (omega (arith, le))

    last : filled_rows ps marks (files_among ts) ≡ joined before.rows (if starts_entry (drop place marks) then None else Some [])
    last =
        let long : length ts ≤ i = omega (arith, length-map ts file_row_of, ap length (over.rows).of_files, end) in
        sym (names list) ∙ before.walk_is ∙ ap (λ us. joined before.rows (walk ps (drop place marks) (files_among us))) (behind-all ts i long)

    pub left-over : starts_entry (drop place marks) ≡ true → NamesNoRows ps marks ts
    left-over e = λ rows is right. none-some _ (sym (ap (λ (b : Bool). joined before.rows (if b then None else Some [])) e) ∙ sym last ∙ is)

    pub all-named : starts_entry (drop place marks) ≡ false → NamesRows known ps marks ts made
    all-named e = (before.rows, last ∙ ap (λ (b : Bool). joined before.rows (if b then None else Some [])) e ∙ ap Some (append-nil before.rows), before.right, before.brought)
