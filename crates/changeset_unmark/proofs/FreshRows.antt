-- Whether the rule gives a file back whose revision a draft brings.
use Rattle.std.proofs.Common.{◌≡◌, Bool, true, List, [], ◌∷◌, ◌++◌, Option, Some, None, Bor, refl, sym, ap, subst, ◌∙◌, bytes_eq}
use Rattle.std.specs.Prelude.{◌↔◌, ◌&&◌, IsTrue, option_map, unwrap_or}
use Rattle.std.specs.Option.{option_or, option_copied}
use Rattle.std.proofs.lemmas.Bool.{and_parts}
use Rattle.std.proofs.lemmas.List.Folds.{find-append}
use Rattle.std.proofs.lemmas.Slice.Eq.{bytes_eq-Decides}
use Rattle.text_model.specs.Text.{Bytes}
use Rattle.text_model.specs.Id.{Id, blob, blob_id}
use Rattle.text_model.proofs.Options.{none_some, some_is}
use Rattle.hg_model.specs.FileText.{IsFileText, file_order, plain_meta}
use Rattle.hg_model.specs.Manifest.{ManifestEntry}
use Rattle.hg_model.specs.Revision.{Revision, FilesAt, revision_of, is_of}
use Rattle.hg_store.specs.Known.{AreFileParents}
use Rattle.view_model.specs.View.{FileRevision, file_node, Row, Compared, compared_revision, SameRow}
use Rattle.view_model.specs.Held.{IsFileHeld, IsBlobHeld, file_row_of}
use Rattle.pair_model.specs.Rule.{with_body, node_or_null, one_or_two, new_revision, ruled_revision, tree_row_of}
use Rattle.pair_known.specs.Rows.{RowValue}
use Rattle.file_rule.specs.Parents.{row_with}
use Rattle.file_rule.specs.Made.{IsRowOf}
use Rattle.file_rule.specs.Back.{row_again, IsHeldRow}
use Rattle.file_rule.proofs.OrderLemmas.{plain-order}
use Rattle.file_rule.proofs.BackLemmas.{flag-back}
use Rattle.file_rule.proofs.NewRow.{entry_node, ordered}
use Rattle.file_rule.proofs.RowLemmas as rows
use Rattle.changeset_unmark.specs.Rows.{IsDraftRow, IsFreshRow}

module _ (known : List Revision) (file : Revision) (row : RowValue) (first second : Option ManifestEntry) (r s : Option FileRevision) (w : Row) (is : IsFreshRow known file row first second r s w) where
  blob_is : row.blob ≡ blob_id (w.revision).body
  blob_is = ap (λ (x : RowValue). x.blob) is.of_row

  node_of_row : row.node ≡ file_node w.revision
  node_of_row = ap (λ (x : RowValue). x.node) is.of_row

  path_of_row : row.path ≡ w.path
  path_of_row = ap (λ (x : RowValue). x.path) is.of_row

  held_blob : IsBlobHeld (record { id = blob_id (w.revision).body; kind = blob; content = (w.revision).body } ∷ []) (tree_row_of w)
  held_blob = (record { id = blob_id (w.revision).body; kind = blob; content = (w.revision).body }, rw ((bytes_eq-Decides (blob_id (w.revision).body) (blob_id (w.revision).body)).1 refl) refl, refl)

  of_row : IsRowOf known (record { id = blob_id (w.revision).body; kind = blob; content = (w.revision).body } ∷ []) (file_row_of (tree_row_of w)) first second r s (tree_row_of w)
  of_row = record { in_first = is.in_first; in_second = is.in_second; of_file = refl; blob = refl; content = held_blob }

  -- a parent's revision has the body
  pub kept_back : (node : Id) → Some node ≡ option_map file_node (option_or (with_body row.blob r) (with_body row.blob s)) → (parents : Id × Id) → parents ≡ file_order (w.revision).meta file.p file.q
      → (meta : Option Bytes) → meta ≡ (w.revision).meta → (t u : Bool) → t ≡ bytes_eq node row.node
      → (t ≡ true → (x : Row) → x.path ≡ row.path → file_node x.revision ≡ row.node → IsFileHeld known x → (IsTrue u ↔ ((((x.revision).p, (x.revision).q) ≡ parents) × ((x.revision).meta ≡ meta)))) → (IsTrue (t && u) ↔ SameRow (row_again r s w) w)
  kept_back node at parents order meta m t u test held = (there, back)
    where
      found : (rev : FileRevision) × (ruled_revision r s (tree_row_of w) ≡ rev) × (node ≡ file_node rev) × (blob_id rev.body ≡ blob_id (w.revision).body) × IsFileHeld known (row_with w.path w.flag rev)
      found = rows.kept known _ (file_row_of (tree_row_of w)) w.flag first second r s (tree_row_of w) of_row node (at ∙ ap (λ (x : Id). option_map file_node (option_or (with_body x r) (with_body x s))) blob_is)

      says : t ≡ true → (IsTrue u ↔ ((((found.0).p, (found.0).q) ≡ parents) × ((found.0).meta ≡ meta)))
      says e = held e (row_with w.path w.flag found.0) (sym path_of_row) (sym found.2 ∙ (bytes_eq-Decides node row.node).0 (sym test ∙ e)) found.4

      own : ((w.revision).p, (w.revision).q) ≡ parents
      own = is.parents ∙ sym order

      there : IsTrue (t && u) → SameRow (row_again r s w) w
      there h =
          let both = and_parts t u h in
          let said = (says both.0).0 both.1 in
          let pq : ((found.0).p, (found.0).q) ≡ ((w.revision).p, (w.revision).q) = said.0 ∙ sym own in
          let node_same : file_node found.0 ≡ file_node w.revision = sym found.2 ∙ (bytes_eq-Decides node row.node).0 (sym test ∙ both.0) ∙ node_of_row in
          let meta_same : (found.0).meta ≡ (w.revision).meta = said.1 ∙ m in
          let same : compared_revision found.0 ≡ compared_revision w.revision =
          λ i. record { node = node_same i; p = (pq i).0; q = (pq i).1; meta = meta_same i; body = found.3 i } in
          (refl, flag-back w.flag, ap compared_revision found.1 ∙ same)

      back : SameRow (row_again r s w) w → IsTrue (t && u)
      back h =
          let same : compared_revision found.0 ≡ compared_revision w.revision = ap compared_revision (sym found.1) ∙ h.2 in
          let one : t ≡ true = test ∙ (bytes_eq-Decides node row.node).1 (found.2 ∙ ap (λ (x : Compared). x.node) same ∙ sym node_of_row) in
          let two : u ≡ true = (says one).1 ((λ i. ((same i).p, (same i).q)) ∙ own, ap (λ (x : Compared). x.meta) same ∙ sym m) in
          rw (one, two) refl

  order_is : ◌≡◌ {A = Id × Id} ((new_revision r s (w.revision).body).p, (new_revision r s (w.revision).body).q) (ordered (entry_node first) (entry_node second))
  order_is =
      plain-order (w.revision).body (one_or_two (node_or_null r) (node_or_null s)).0 (one_or_two (node_or_null r) (node_or_null s)).1
      ∙ (λ i. ordered (sym (rows.node-or_null known w.path first r is.in_first) i) (sym (rows.node-or_null known w.path second s is.in_second) i))

  rule_new : None ≡ option_map file_node (option_or (with_body row.blob r) (with_body row.blob s)) → ruled_revision r s (tree_row_of w) ≡ new_revision r s (w.revision).body
  unfolding ruled_revision
  rule_new at = by (option_or (with_body row.blob r) (with_body row.blob s)) refl at
    where
      by : (o : Option FileRevision) → option_or (with_body row.blob r) (with_body row.blob s) ≡ o → None ≡ option_map file_node o
          → unwrap_or (option_or (with_body (blob_id (w.revision).body) r) (with_body (blob_id (w.revision).body) s)) (new_revision r s (w.revision).body) ≡ new_revision r s (w.revision).body
      by None e k = ap (λ (o : Option FileRevision). unwrap_or o (new_revision r s (w.revision).body)) (ap (λ (x : Id). option_or (with_body x r) (with_body x s)) (sym blob_is) ∙ e)
      by (Some rev) e k = absurd (none_some k)

  -- no parent's revision has the body
  pub new_back : None ≡ option_map file_node (option_or (with_body row.blob r) (with_body row.blob s)) → (parents : Id × Id) → parents ≡ file_order (w.revision).meta file.p file.q
      → (new : Id × Id) → new ≡ ordered (entry_node first) (entry_node second) → (t u : Bool) → (IsTrue t ↔ parents ≡ new) → (IsTrue u ↔ (w.revision).meta ≡ plain_meta (w.revision).body) → (IsTrue (t && u) ↔ SameRow (row_again r s w) w)
  new_back at parents order new new_is t u one two = (there, back)
    where
      rule : ruled_revision r s (tree_row_of w) ≡ new_revision r s (w.revision).body
      rule = rule_new at

      own : ((w.revision).p, (w.revision).q) ≡ parents
      own = is.parents ∙ sym order

      there : IsTrue (t && u) → SameRow (row_again r s w) w
      there h =
          let both = and_parts t u h in
          let pq : ◌≡◌ {A = Id × Id} ((new_revision r s (w.revision).body).p, (new_revision r s (w.revision).body).q) ((w.revision).p, (w.revision).q) = order_is ∙ sym new_is ∙ sym (one.0 both.0) ∙ sym own in
          let same : new_revision r s (w.revision).body ≡ w.revision = λ i. record { p = (pq i).0; q = (pq i).1; meta = sym (two.0 both.1) i; body = (w.revision).body } in
          (refl, flag-back w.flag, ap compared_revision (rule ∙ same))

      back : SameRow (row_again r s w) w → IsTrue (t && u)
      back h =
          let same : compared_revision (new_revision r s (w.revision).body) ≡ compared_revision w.revision = ap compared_revision (sym rule) ∙ h.2 in
          let pq : ◌≡◌ {A = Id × Id} ((new_revision r s (w.revision).body).p, (new_revision r s (w.revision).body).q) ((w.revision).p, (w.revision).q) = λ i. ((same i).p, (same i).q) in
          let a : t ≡ true = one.1 (sym own ∙ sym pq ∙ order_is ∙ sym new_is) in
          let b : u ≡ true = two.1 (sym (ap (λ (x : Compared). x.meta) same)) in
          rw (a, b) refl

  -- its parents aren't those of a new revision
  pub not_new : None ≡ option_map file_node (option_or (with_body row.blob r) (with_body row.blob s)) → (parents : Id × Id) → parents ≡ file_order (w.revision).meta file.p file.q
      → (new : Id × Id) → new ≡ ordered (entry_node first) (entry_node second) → (parents ≡ new → ⊥) → SameRow (row_again r s w) w → ⊥
  not_new at parents order new new_is differ h =
      let same : compared_revision (new_revision r s (w.revision).body) ≡ compared_revision w.revision = ap compared_revision (sym (rule_new at)) ∙ h.2 in
      let pq : ◌≡◌ {A = Id × Id} ((new_revision r s (w.revision).body).p, (new_revision r s (w.revision).body).q) ((w.revision).p, (w.revision).q) = λ i. ((same i).p, (same i).q) in
      differ (order ∙ sym is.parents ∙ sym pq ∙ order_is ∙ sym new_is)

-- ---- which revision the row has

brought-or-held : (fresh known : List Revision) (path : Bytes) (node : Id) (o : Option Revision) → revision_of fresh (FilesAt path) node ≡ o → revision_of (fresh ++ known) (FilesAt path) node ≡ option_or o (revision_of known (FilesAt path) node)
brought-or-held fresh known path node o e = find-append (is_of (FilesAt path) node) fresh known ∙ ap (λ (p : Option Revision). option_or p (revision_of known (FilesAt path) node)) e

module _ (fresh known : List Revision) (row : RowValue) (first second : Option ManifestEntry) (r s : Option FileRevision) (w : Row) (is : IsDraftRow fresh known row first second r s w) where
  place : revision_of (fresh ++ known) (FilesAt row.path) row.node ≡ Some (is.held).revision
  place = (λ i. revision_of (fresh ++ known) (FilesAt (is.of_row i).path) (is.of_row i).node) ∙ (is.held).is_held

  pub fresh_row : (file : Revision) → Some file ≡ revision_of fresh (FilesAt row.path) row.node → IsFreshRow known file row first second r s w
  fresh_row file at =
      let same : (is.held).revision ≡ file = some_is (sym place ∙ brought-or-held fresh known row.path row.node (Some file) (sym at)) in
      record {
        of_row = is.of_row;
        parents = (is.held).parents ∙ ap (λ (x : Revision). file_order (w.revision).meta x.p x.q) same;
        text = subst (λ (x : Revision). IsFileText x.text (w.revision).meta (w.revision).body) same (is.held).text;
        in_first = is.in_first;
        in_second = is.in_second;
      }

  pub held_row : None ≡ revision_of fresh (FilesAt row.path) row.node → IsHeldRow known row first second r s w
  held_row none =
      let at : revision_of known (FilesAt row.path) row.node ≡ Some (is.held).revision = sym (brought-or-held fresh known row.path row.node None (sym none)) ∙ place in
      record {
        of_row = is.of_row;
        held = record {
          revision = (is.held).revision;
          is_held = (λ i. revision_of known (FilesAt (sym is.of_row i).path) (sym is.of_row i).node) ∙ at;
          parents = (is.held).parents;
          text = (is.held).text;
        };
        in_first = is.in_first;
        in_second = is.in_second;
      }

-- a revision that is held has these parents alone
pub held_parents : (known : List Revision) (w : Row) (path : Bytes) (node : Id) → w.path ≡ path → file_node w.revision ≡ node → IsFileHeld known w → (parents : Id × Id) → AreFileParents known path node parents → ((w.revision).p, (w.revision).q) ≡ parents
held_parents known w path node p n held parents are =
    let own : AreFileParents known w.path (file_node w.revision) ((w.revision).p, (w.revision).q) =
    record { revision = held.revision; is_held = held.is_held; meta = (w.revision).meta; body = (w.revision).body; spells = held.text; in_order = held.parents } in
    rows.one_parents known path node ((w.revision).p, (w.revision).q) parents
    (subst (λ (x : Id). AreFileParents known path x ((w.revision).p, (w.revision).q)) n (subst (λ (x : Bytes). AreFileParents known x (file_node w.revision) ((w.revision).p, (w.revision).q)) p own)) are

-- metadata that are lent, as they are said in two ways
pub lent_meta : (o : Option (Bor Bytes)) → option_copied o ≡ option_map (λ m. m.now) o
lent_meta None = refl
lent_meta (Some m) = refl

pub pairs_same : (a b : Id × Id) → (bytes_eq a.0 b.0 && bytes_eq a.1 b.1) ≡ true → a ≡ b
pairs_same a b h =
    let both = and_parts (bytes_eq a.0 b.0) (bytes_eq a.1 b.1) h in
    λ i. ((bytes_eq-Decides a.0 b.0).0 both.0 i, (bytes_eq-Decides a.1 b.1).0 both.1 i)

pub same_pairs : (a b : Id × Id) → a ≡ b → (bytes_eq a.0 b.0 && bytes_eq a.1 b.1) ≡ true
same_pairs a b e = rw ((bytes_eq-Decides a.0 b.0).1 (ap (λ (x : Id × Id). x.0) e), (bytes_eq-Decides a.1 b.1).1 (ap (λ (x : Id × Id). x.1) e)) refl
