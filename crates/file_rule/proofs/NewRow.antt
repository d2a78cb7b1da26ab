-- The row of a new revision.
use Rattle.std.proofs.Common.{◌≡◌, ◌++◌, List, ◌∷◌, Option, Some, None, sym, ap, subst, ◌∙◌}
use Rattle.text_model.specs.Lists.{Each}
use Rattle.std.specs.Prelude.{option_map, unwrap_or}
use Rattle.text_model.specs.Text.{Bytes, IsBytes}
use Rattle.text_model.specs.Id.{Id, null, node_id}
use Rattle.git_model.specs.Object.{Object}
use Rattle.git_model.specs.Unfold.{FileRow}
use Rattle.hg_model.specs.FileText.{file_text, IsFileText, plain_meta, file_order, manifest_order}
use Rattle.hg_model.specs.Manifest.{ManifestEntry, Flag}
use Rattle.hg_model.specs.Revision.{Revision, FilesAt}
use Rattle.view_model.specs.View.{FileRevision, file_node, TreeRow}
use Rattle.view_model.specs.Dump.{file_revision}
use Rattle.view_model.specs.Held.{IsFileHeld}
use Rattle.pair_model.specs.Rule.{node_or_null, one_or_two, new_revision}
use Rattle.pair_known.specs.Rows.{row_value}
use Rattle.pair_known.specs.Fresh.{fresh_revision}
use Rattle.pair_known.specs.declared.fresh_files.FreshFile.{FreshFile}
use Rattle.file_rule.specs.Parents.{row_with}
use Rattle.file_rule.specs.Made.{IsRowOf, IsMadeRow, IsKnownAs, IsTextOver, IsRevisionOver, fresh_list}
use Rattle.file_rule.specs.declared.revision.RuledRow.{RuledRow}
use Rattle.file_rule.proofs.OrderLemmas.{plain-order}
use Rattle.file_rule.proofs.RowLemmas as rows
use Rattle.file_rule.proofs.RowLemmas.{plain-splits, parents-again, fresh-held, known-held}

abbrev pub entry_node : Option ManifestEntry → Id
entry_node e = unwrap_or (option_map (λ x. x.node) e) null

abbrev pub ordered : Id → Id → Id × Id
ordered p q = manifest_order (one_or_two p q).0 (one_or_two p q).1

-- what was computed for a file: its parents and its text
pub record IsMade (content text : Bytes) (first second : Option ManifestEntry) (pq : Id × Id) : Type 0 where
  pub bytes : IsBytes content
  pub text_is : text ≡ file_text (plain_meta content) content
  pub parents : pq ≡ ordered (entry_node first) (entry_node second)

-- its parents are in their order
pub made-order : (content text : Bytes) (first second : Option ManifestEntry) (pq : Id × Id) → IsMade content text first second pq → pq ≡ file_order (plain_meta content) pq.0 pq.1
made-order content text first second pq m =
    parents-again content (one_or_two (entry_node first) (entry_node second)).0 (one_or_two (entry_node first) (entry_node second)).1 pq m.parents

-- it is a text over these parents
pub made-text : (content text : Bytes) (first second : Option ManifestEntry) (pq : Id × Id) → IsMade content text first second pq → IsTextOver text (plain_meta content) content pq.0 pq.1
made-text content text first second pq m = record {
  spells = plain-splits content text m.bytes m.text_is;
  order = made-order content text first second pq m;
}

-- what was computed is what the new revision has
pub made-revision : (known : List Revision) (objects : List Object) (file : FileRow) (first second : Option ManifestEntry) (r s : Option FileRevision) (t : TreeRow) → IsRowOf known objects file first second r s t
    → (content text : Bytes) → content ≡ t.content → (pq : Id × Id) → IsMade content text first second pq → IsRevisionOver (new_revision r s t.content) file.id pq.0 pq.1 text
made-revision known objects file first second r s t is content text same pq m =
    let order : ◌≡◌ {A = Id × Id} ((new_revision r s t.content).p, (new_revision r s t.content).q) pq =
    plain-order t.content (one_or_two (node_or_null r) (node_or_null s)).0 (one_or_two (node_or_null r) (node_or_null s)).1
    ∙ (λ i. ordered (sym (rows.node-or_null known file.path first r is.in_first) i) (sym (rows.node-or_null known file.path second s is.in_second) i))
    ∙ sym m.parents in
    record {
      parents = (ap (λ (x : Id × Id). x.0) order, ap (λ (x : Id × Id). x.1) order);
      text_is = subst (λ (b : Bytes). IsTextOver text (plain_meta b) b pq.0 pq.1) same (made-text content text first second pq m);
      blob_is = sym (ap (λ (x : FileRow). x.id) is.of_file) ∙ is.blob;
    }

-- ---- the row of a revision

module _ (known : List Revision) (file : FileRow) (flag : Flag) (r : FileRevision) (pq : Id × Id) (text : Bytes) (is : IsRevisionOver r file.id pq.0 pq.1 text) (node : Id) (node_is : node ≡ node_id pq.0 pq.1 text) where
  node_of : node ≡ file_node r
  node_of = node_is ∙ (λ i. node_id (sym is.parents.0 i) (sym is.parents.1 i) (is.text_is.spells.1 i))

  value_is : (record { path = file.path; flag = flag; node = node; blob = file.id }) ≡ row_value (row_with file.path flag r)
  value_is = λ i. record { path = file.path; flag = flag; node = node_of i; blob = is.blob_is i }

  -- what is brought is the row's revision
  brings : (f : FreshFile) → f ≡ (record { path = file.path; node = node; p = pq.0; q = pq.1; text = text }) → fresh_revision f ≡ file_revision null (row_with file.path flag r)
  brings f f_is =
      ap fresh_revision f_is
      ∙ (λ i. record { group = FilesAt file.path; node = node_of i; p = sym is.parents.0 i; q = sym is.parents.1 i; link = null; text = is.text_is.spells.1 i })

  pub ruled-known : (made : RuledRow) → made.row ≡ (record { path = file.path; flag = flag; node = node; blob = file.id }) → made.fresh ≡ None
      → IsKnownAs known file.path node pq.0 pq.1 text → IsMadeRow known made (row_with file.path flag r)
  ruled-known made row none k =
      let k' : IsKnownAs known file.path (file_node r) pq.0 pq.1 text = subst (λ (n : Id). IsKnownAs known file.path n pq.0 pq.1 text) node_of k in
      let held : IsFileHeld known (row_with file.path flag r) = known-held known (row_with file.path flag r) pq.0 pq.1 text is.parents.0 is.parents.1 is.text_is.spells k' in
      record {
        value = row ∙ value_is;
        held = subst (λ (f : Option FreshFile). IsFileHeld (fresh_list f ++ known) (row_with file.path flag r)) (sym none) held;
        of_row = subst (λ (f : Option FreshFile). Each (λ x. x ≡ file_revision null (row_with file.path flag r)) (fresh_list f)) (sym none) tt;
      }

  pub ruled-fresh : (made : RuledRow) (f : FreshFile) → made.row ≡ (record { path = file.path; flag = flag; node = node; blob = file.id }) → made.fresh ≡ Some f
      → f ≡ (record { path = file.path; node = node; p = pq.0; q = pq.1; text = text }) → IsMadeRow known made (row_with file.path flag r)
  ruled-fresh made f row some f_is =
      let order : ◌≡◌ {A = Id × Id} (r.p, r.q) (file_order r.meta f.p f.q) =
      (λ i. (is.parents.0 i, is.parents.1 i)) ∙ is.text_is.order ∙ (λ i. file_order r.meta (sym f_is i).p (sym f_is i).q) in
      let text_f : IsFileText f.text r.meta r.body = subst (λ (x : FreshFile). IsFileText x.text r.meta r.body) (sym f_is) is.text_is.spells in
      let held : IsFileHeld (fresh_revision f ∷ known) (row_with file.path flag r) =
      fresh-held known (row_with file.path flag r) f (ap (λ (x : FreshFile). x.path) f_is) (ap (λ (x : FreshFile). x.node) f_is ∙ node_of) order text_f in
      record {
        value = row ∙ value_is;
        held = subst (λ (o : Option FreshFile). IsFileHeld (fresh_list o ++ known) (row_with file.path flag r)) (sym some) held;
        of_row = subst (λ (o : Option FreshFile). Each (λ x. x ≡ file_revision null (row_with file.path flag r)) (fresh_list o)) (sym some) (brings f f_is, tt);
      }

pub known-at : (known : List Revision) (path path' : Bytes) (node p q : Id) (text text' : Bytes) → path ≡ path' → text ≡ text' → IsKnownAs known path node p q text → IsKnownAs known path' node p q text'
known-at known path path' node p q text text' a b k = subst (λ (x : Bytes). IsKnownAs known x node p q text') a (subst (λ (x : Bytes). IsKnownAs known path node p q x) b k)
