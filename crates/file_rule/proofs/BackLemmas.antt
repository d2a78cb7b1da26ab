-- Whether the rule gives a file back.
use Rattle.std.proofs.Common.{◌≡◌, ◌+◌, ℕ, zero, suc, Bool, true, false, true≢false, List, [], ◌∷◌, map, take, Option, Some, None, refl, sym, ap, subst, ◌∙◌, bytes_eq, arith}
use Rattle.std.proofs.lemmas.Option.{same_Some, none-some}
use Rattle.std.specs.Prelude.{option_map, slice_get, unwrap_or, ◌↔◌, ◌&&◌, IsTrue}
use Rattle.std.specs.Option.{option_or}
use Rattle.std.proofs.lemmas.Slice.Eq.{bytes_eq-Decides}
use Rattle.text_model.specs.Lists.{Each}
use Rattle.text_model.specs.Text.{Bytes}
use Rattle.text_model.specs.Id.{Id, blob_id}
use Rattle.text_model.proofs.Elements.{each_at}
use Rattle.git_model.specs.Tree.{is_blob_mode}
use Rattle.hg_model.specs.FileText.{IsFileText, plain_meta}
use Rattle.hg_model.specs.Manifest.{ManifestEntry, Flag, Regular, Executable, Symlink}
use Rattle.hg_model.specs.Revision.{Revision, FilesAt, revision_of}
use Rattle.hg_filelog.proofs.MarkLemmas.{one_pair}
use Rattle.hg_store.specs.Known.{AreFileParents}
use Rattle.view_model.specs.View.{FileRevision, file_node, Row, TreeRow, files_among, Compared, compared_revision, SameRow, SameRows}
use Rattle.view_model.specs.Held.{IsFileHeld}
use Rattle.pair_model.specs.Block.{Parents}
use Rattle.pair_model.specs.Rule.{with_body, node_or_null, one_or_two, new_revision, ruled_revision, ruled_row, ruled_rows, tree_row_of, mode_of_flag, flag_of_mode}
use Rattle.pair_known.specs.Rows.{RowValue}
use Rattle.pair_known.proofs.HeldViews.{one_row}
use Rattle.file_rule.specs.Parents.{row_with, IsRevisionAt}
use Rattle.file_rule.specs.Back.{IsHeldRow, row_again}
use Rattle.file_rule.proofs.OrderLemmas.{plain-order}
use Rattle.file_rule.proofs.RowLemmas.{kept-row, one_parents}
use Rattle.file_rule.proofs.RowLemmas as rows
use Rattle.file_rule.proofs.NewRow.{entry_node, ordered}

pub flag-back : (f : Flag) → flag_of_mode (mode_of_flag f) ≡ f
flag-back Regular = refl
flag-back Executable = refl
flag-back Symlink = refl

-- the row is the same where its revision is
same-row : (r s : Option FileRevision) (w : Row) → ruled_revision r s (tree_row_of w) ≡ w.revision → SameRow (row_again r s w) w
same-row r s w is = (refl, flag-back w.flag, ap compared_revision is)

module _ (known : List Revision) (row : RowValue) (first second : Option ManifestEntry) (r s : Option FileRevision) (w : Row) (is : IsHeldRow known row first second r s w) where
  rule-kept : (o : Option FileRevision) → option_or (with_body row.blob r) (with_body row.blob s) ≡ o → ruled_revision r s (tree_row_of w) ≡ unwrap_or o (new_revision r s (w.revision).body)
  unfolding ruled_revision
  rule-kept o e =
      let blob : row.blob ≡ blob_id (w.revision).body = ap (λ (x : RowValue). x.blob) is.of_row in
      λ i. unwrap_or ((ap (λ (x : Id). option_or (with_body x r) (with_body x s)) (sym blob) ∙ e) i) (new_revision r s (w.revision).body)

  held-kept : (rev : FileRevision) → option_or (with_body row.blob r) (with_body row.blob s) ≡ Some rev → IsFileHeld known (row_with w.path w.flag rev)
  held-kept rev e = by (with_body row.blob r) (with_body row.blob s) refl refl e
    where
      by : (a b : Option FileRevision) → with_body row.blob r ≡ a → with_body row.blob s ≡ b → option_or a b ≡ Some rev → IsFileHeld known (row_with w.path w.flag rev)
      by (Some x) b ea eb at = (kept-row known w.path w.flag row.blob first r rev is.in_first (ea ∙ at)).1
      by None (Some x) ea eb at = (kept-row known w.path w.flag row.blob second s rev is.in_second (eb ∙ at)).1
      by None None ea eb at = absurd (none-some _ at)

  -- a parent's revision with the body: it is the row's where it has its node
  pub back-kept : (node : Id) → Some node ≡ option_map file_node (option_or (with_body row.blob r) (with_body row.blob s)) → (t : Bool) → t ≡ bytes_eq node row.node → (IsTrue t ↔ SameRow (row_again r s w) w)
  back-kept node at t test = by (option_or (with_body row.blob r) (with_body row.blob s)) refl at
    where
      row_node : row.node ≡ file_node w.revision
      row_node = ap (λ (x : RowValue). x.node) is.of_row

      by : (o : Option FileRevision) → option_or (with_body row.blob r) (with_body row.blob s) ≡ o → Some node ≡ option_map file_node o → (IsTrue t ↔ SameRow (row_again r s w) w)
      by None e at = absurd (none-some _ (sym at))
      by (Some rev) e at = (there, back)
        where
          node_is : node ≡ file_node rev
          node_is = same_Some _ _ at

          there : IsTrue t → SameRow (row_again r s w) w
          there h =
              let same : file_node rev ≡ file_node w.revision = sym node_is ∙ (bytes_eq-Decides node row.node).0 (sym test ∙ h) ∙ row_node in
              let one : row_with w.path w.flag rev ≡ w = one_row known (row_with w.path w.flag rev) w (held-kept rev e) is.held (λ i. record { path = w.path; node = same i; flag = w.flag }) in
              same-row r s w (rule-kept (Some rev) e ∙ ap (λ (x : Row). x.revision) one)

          back : SameRow (row_again r s w) w → IsTrue t
          back h =
              let nodes : file_node (ruled_revision r s (tree_row_of w)) ≡ file_node w.revision = ap (λ (x : Compared). x.node) h.2 in
              test ∙ (bytes_eq-Decides node row.node).1 (node_is ∙ ap file_node (sym (rule-kept (Some rev) e)) ∙ nodes ∙ sym row_node)

  -- the first parent has the same revision
  pub back-first : option_map (λ (e : ManifestEntry). e.node) first ≡ Some row.node → SameRow (row_again r s w) w
  back-first at = by first r refl refl is.in_first
    where
      row_node : row.node ≡ file_node w.revision
      row_node = ap (λ (x : RowValue). x.node) is.of_row

      by : (e : Option ManifestEntry) (o : Option FileRevision) → first ≡ e → r ≡ o → IsRevisionAt known w.path e o → SameRow (row_again r s w) w
      by None o ee eo h = absurd (none-some _ (sym (ap (option_map (λ (e : ManifestEntry). e.node)) ee) ∙ at))
      by (Some e) None ee eo h = absurd h
      by (Some e) (Some rev) ee eo h =
          let node : e.node ≡ row.node = same_Some _ _ (sym (ap (option_map (λ (e : ManifestEntry). e.node)) ee) ∙ at) in
          let held : IsFileHeld known (row_with w.path w.flag rev) = record { revision = h.2.revision; is_held = h.2.is_held; parents = h.2.parents; text = h.2.text } in
          let nodes : file_node rev ≡ file_node w.revision = sym h.1 ∙ node ∙ row_node in
          let one : row_with w.path w.flag rev ≡ w = one_row known (row_with w.path w.flag rev) w held is.held (λ i. record { path = w.path; node = nodes i; flag = w.flag }) in
          let same : rev ≡ w.revision = ap (λ (x : Row). x.revision) one in
          let blob : row.blob ≡ blob_id rev.body = ap (λ (x : RowValue). x.blob) is.of_row ∙ ap (λ (x : FileRevision). blob_id x.body) (sym same) in
          let body : with_body row.blob (Some rev) ≡ Some rev = ap (λ (i : Id). with_body i (Some rev)) blob ∙ rw ((bytes_eq-Decides (blob_id rev.body) (blob_id rev.body)).1 refl) refl in
          same-row r s w (rule-kept (Some rev) (ap (λ (o : Option FileRevision). option_or (with_body row.blob o) (with_body row.blob s)) eo ∙ ap (λ (o : Option FileRevision). option_or o (with_body row.blob s)) body) ∙ same)

  -- no parent's revision has the body: it is the new one
  pub back-new : (t : Bool) → None ≡ option_map file_node (option_or (with_body row.blob r) (with_body row.blob s)) → (IsTrue t ↔ new_revision r s (w.revision).body ≡ w.revision) → (IsTrue t ↔ SameRow (row_again r s w) w)
  back-new t at new = by (option_or (with_body row.blob r) (with_body row.blob s)) refl at
    where
      by : (o : Option FileRevision) → option_or (with_body row.blob r) (with_body row.blob s) ≡ o → None ≡ option_map file_node o → (IsTrue t ↔ SameRow (row_again r s w) w)
      by (Some rev) e at = absurd (none-some _ at)
      by None e at = (there, back)
        where
          there : IsTrue t → SameRow (row_again r s w) w
          there h = same-row r s w (rule-kept None e ∙ new.0 h)

          back : SameRow (row_again r s w) w → IsTrue t
          back h =
              let c : compared_revision (new_revision r s (w.revision).body) ≡ compared_revision w.revision = ap compared_revision (sym (rule-kept None e)) ∙ h.2 in
              new.1 (λ i. record { p = (c i).p; q = (c i).q; meta = (c i).meta; body = (w.revision).body })

module _ (known : List Revision) (row : RowValue) (first second : Option ManifestEntry) (r s : Option FileRevision) (w : Row) (is : IsHeldRow known row first second r s w) where
  order_is : ◌≡◌ {A = Id × Id} ((new_revision r s (w.revision).body).p, (new_revision r s (w.revision).body).q) (ordered (entry_node first) (entry_node second))
  order_is =
      plain-order (w.revision).body (one_or_two (node_or_null r) (node_or_null s)).0 (one_or_two (node_or_null r) (node_or_null s)).1
      ∙ (λ i. ordered (sym (rows.node-or_null known w.path first r is.in_first) i) (sym (rows.node-or_null known w.path second s is.in_second) i))

  held-parents : AreFileParents known w.path (file_node w.revision) ((w.revision).p, (w.revision).q)
  held-parents = record {
    revision = (is.held).revision;
    is_held = (is.held).is_held;
    meta = (w.revision).meta;
    body = (w.revision).body;
    spells = (is.held).text;
    in_order = (is.held).parents;
  }

  -- the new revision is the row's where that has its parents and its metadata
  pub new-is : (pq : Id × Id) → pq ≡ ordered (entry_node first) (entry_node second) → (a b : Bool)
      → (a ≡ true → AreFileParents known row.path row.node pq) → (a ≡ false → AreFileParents known row.path row.node pq → ⊥)
      → (b ≡ true → (w.revision).meta ≡ plain_meta (w.revision).body) → ((w.revision).meta ≡ plain_meta (w.revision).body → b ≡ true)
      → (IsTrue (a && b) ↔ new_revision r s (w.revision).body ≡ w.revision)
  new-is pq pq_is a b a_is a_not b_is b_back = (there a b a_is b_is, back a b a_not b_back)
    where
      path_is : row.path ≡ w.path
      path_is = ap (λ (x : RowValue). x.path) is.of_row

      node_is : row.node ≡ file_node w.revision
      node_is = ap (λ (x : RowValue). x.node) is.of_row

      there : (a b : Bool) → (a ≡ true → AreFileParents known row.path row.node pq) → (b ≡ true → (w.revision).meta ≡ plain_meta (w.revision).body) → IsTrue (a && b) → new_revision r s (w.revision).body ≡ w.revision
      there true true a_is b_is h =
          let found : AreFileParents known w.path (file_node w.revision) pq = subst (λ (x : Id). AreFileParents known w.path x pq) node_is (subst (λ (x : Bytes). AreFileParents known x row.node pq) path_is (a_is refl)) in
          let parents = order_is ∙ sym pq_is ∙ one_parents known w.path (file_node w.revision) pq ((w.revision).p, (w.revision).q) found held-parents in
          λ i. record { p = (parents i).0; q = (parents i).1; meta = sym (b_is refl) i; body = (w.revision).body }
      there true false a_is b_is h = absurd (true≢false (sym h))
      there false b a_is b_is h = absurd (true≢false (sym h))

      back : (a b : Bool) → (a ≡ false → AreFileParents known row.path row.node pq → ⊥) → ((w.revision).meta ≡ plain_meta (w.revision).body → b ≡ true) → new_revision r s (w.revision).body ≡ w.revision → IsTrue (a && b)
      back true b a_not b_back e = b_back (sym (ap (λ (x : FileRevision). x.meta) e))
      back false b a_not b_back e =
          let pq_held : pq ≡ ((w.revision).p, (w.revision).q) = pq_is ∙ sym order_is ∙ (λ i. ((e i).p, (e i).q)) in
          let found : AreFileParents known w.path (file_node w.revision) pq = subst (AreFileParents known w.path (file_node w.revision)) (sym pq_held) held-parents in
          absurd (a_not refl (subst (λ (x : Bytes). AreFileParents known x row.node pq) (sym path_is) (subst (λ (x : Id). AreFileParents known w.path x pq) (sym node_is) found)))

  pub not-new : (pq : Id × Id) → pq ≡ ordered (entry_node first) (entry_node second) → (AreFileParents known row.path row.node pq → ⊥) → (IsTrue false ↔ new_revision r s (w.revision).body ≡ w.revision)
  not-new pq pq_is none = (
    (λ h. absurd (true≢false (sym h))),
    (λ e.
        let pq_held : pq ≡ ((w.revision).p, (w.revision).q) = pq_is ∙ sym order_is ∙ (λ i. ((e i).p, (e i).q)) in
        let found : AreFileParents known w.path (file_node w.revision) pq = subst (AreFileParents known w.path (file_node w.revision)) (sym pq_held) held-parents in
        absurd (none (subst (λ (x : Bytes). AreFileParents known x row.node pq) (sym (ap (λ (x : RowValue). x.path) is.of_row)) (subst (λ (x : Id). AreFileParents known w.path x pq) (sym (ap (λ (x : RowValue). x.node) is.of_row)) found)))),
  )

-- the metadata and the body of the text are those of the revision
pub meta-is : (known : List Revision) (w : Row) (text : Bytes) (meta : Option Bytes) (body : Bytes) → IsFileHeld known w → Some text ≡ option_map (λ r. r.text) (revision_of known (FilesAt w.path) (file_node w.revision))
    → IsFileText text meta body → (meta ≡ (w.revision).meta) × (body ≡ (w.revision).body)
meta-is known w text meta body held at spells =
    let same : text ≡ (held.revision).text = same_Some _ _ (at ∙ ap (option_map (λ (r : Revision). r.text)) held.is_held) in
    one_pair meta (w.revision).meta body (w.revision).body spells.0 (held.text).0 (sym spells.1 ∙ same ∙ (held.text).1)

-- ---- all files

all-files : (hs : List Row) → files_among (map tree_row_of hs) ≡ map tree_row_of hs
all-files [] = refl
all-files (h ∷ hs) = rw (blob-mode h.flag) (ap (λ (l : List TreeRow). tree_row_of h ∷ l) (all-files hs))
  where
    blob-mode : (f : Flag) → is_blob_mode (mode_of_flag f) ≡ true
    blob-mode Regular = refl
    blob-mode Executable = refl
    blob-mode Symlink = refl

abbrev pub again : Parents → Row → Row
again ps h = ruled_row ps (tree_row_of h)

map-map : (ps : Parents) (hs : List Row) → map (ruled_row ps) (map tree_row_of hs) ≡ map (again ps) hs
map-map ps [] = refl
map-map ps (h ∷ hs) = ap (λ (l : List Row). again ps h ∷ l) (map-map ps hs)

pub rows-again : (ps : Parents) (hs : List Row) → ruled_rows ps (map tree_row_of hs) ≡ map (again ps) hs
rows-again ps hs = ap (map (ruled_row ps)) (all-files hs) ∙ map-map ps hs

pub each-same : (ps : Parents) (hs : List Row) → Each (λ h. SameRow (again ps h) h) hs → SameRows (map (again ps) hs) hs
each-same ps [] h = tt
each-same ps (x ∷ hs) h = (h.0, each-same ps hs h.1)

pub same-each : (ps : Parents) (hs : List Row) → SameRows (map (again ps) hs) hs → Each (λ h. SameRow (again ps h) h) hs
same-each ps [] h = tt
same-each ps (x ∷ hs) h = (h.0, same-each ps hs h.1)

pub plain-at : (t : Bool) (meta other : Option Bytes) (body rest : Bytes) → meta ≡ other → body ≡ rest → (IsTrue t ↔ meta ≡ plain_meta body) → (IsTrue t ↔ other ≡ plain_meta rest)
plain-at t meta other body rest m b h = (λ e. sym m ∙ h.0 e ∙ ap plain_meta b, λ e. h.1 (m ∙ e ∙ ap plain_meta (sym b)))

-- one file more
pub record Here (ps : Parents) (hs : List Row) (i : ℕ) (t : Bool) : Type 0 where
  pub row : Row
  pub at : slice_get hs i ≡ Some row
  pub same : IsTrue t ↔ SameRow (again ps row) row

pub each-more : (ps : Parents) (hs : List Row) (i : ℕ) (t : Bool) → Here ps hs i t → IsTrue t → Each (λ h. SameRow (again ps h) h) (take i hs) → Each (λ h. SameRow (again ps h) h) (take (i + 1) hs)
each-more ps hs i t h is before = more hs i h.at before
  where
    more : (hs : List Row) (i : ℕ) → slice_get hs i ≡ Some h.row → Each (λ h. SameRow (again ps h) h) (take i hs) → Each (λ h. SameRow (again ps h) h) (take (i + 1) hs)
    more [] i at e = absurd (none-some _ at)
    more (x ∷ hs) zero at e = (subst (λ (r : Row). SameRow (again ps r) r) (sym (same_Some _ _ at)) (h.same.0 is), tt)
    more (x ∷ hs) (suc i) at e =
        let plus : suc i + 1 ≡ suc (i + 1) = omega arith in
        subst (λ (n : ℕ). Each (λ h. SameRow (again ps h) h) (take n (x ∷ hs))) (sym plus) (e.0, more hs i at e.1)

pub not-here : (ps : Parents) (hs : List Row) (i : ℕ) (t : Bool) → Here ps hs i t → t ≡ false → (IsTrue false ↔ SameRows (ruled_rows ps (map tree_row_of hs)) hs)
not-here ps hs i t h isnt = (
  (λ e. absurd (true≢false (sym e))),
  (λ same. absurd (true≢false (sym (h.same.1 (each_at (λ (r : Row). SameRow (again ps r) r) hs i h.row h.at (same-each ps hs (subst (λ (l : List Row). SameRows l hs) (rows-again ps hs) same)))) ∙ isnt))),
)
