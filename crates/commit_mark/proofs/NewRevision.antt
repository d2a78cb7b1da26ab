-- Whether a revision is the new one that the rule gives over the entries of its path.
use Rattle.std.proofs.Common.{◌≡◌, Bool, true, false, true≢false, List, Option, sym, ap, ◌∙◌}
use Rattle.std.specs.Prelude.{◌↔◌, IsTrue}
use Rattle.text_model.specs.Id.{Id}
use Rattle.hg_model.specs.FileText.{plain_meta}
use Rattle.hg_model.specs.Manifest.{ManifestEntry}
use Rattle.hg_model.specs.Revision.{Revision}
use Rattle.view_model.specs.View.{FileRevision, Row}
use Rattle.pair_model.specs.Block.{Parents}
use Rattle.pair_model.specs.Rule.{node_or_null, one_or_two, new_revision, revision_at}
use Rattle.file_rule.proofs.OrderLemmas.{plain-order}
use Rattle.file_rule.proofs.NewRow.{entry_node, ordered}
use Rattle.file_rule.proofs.RowLemmas.{node-or_null}
use Rattle.commit_mark.specs.Parts.{AreEntriesAt, ArePartsOf}
use Rattle.commit_mark.specs.declared.file_parts.FileParts.{FileParts}
use Rattle.commit_mark.proofs.Revisions.{meta_in}

module _ (known : List Revision) (e f : Option ManifestEntry) (ps : Parents) (w : Row) (entries : AreEntriesAt known e f ps w) where
  abbrev new : FileRevision
  new = new_revision (revision_at (ps.first).rows w.path) (revision_at (ps.second).rows w.path) (w.revision).body

  order-is : ◌≡◌ {A = Id × Id} (new.p, new.q) (ordered (entry_node e) (entry_node f))
  order-is =
      let r = revision_at (ps.first).rows w.path in
      let s = revision_at (ps.second).rows w.path in
      plain-order (w.revision).body (one_or_two (node_or_null r) (node_or_null s)).0 (one_or_two (node_or_null r) (node_or_null s)).1
      ∙ (λ i. ordered (sym (node-or_null known w.path e r entries.in_first) i) (sym (node-or_null known w.path f s entries.in_second) i))

  module _ (parts : FileParts) (are : ArePartsOf parts w.revision) (pq : Id × Id) (pq_is : pq ≡ ordered (entry_node e) (entry_node f)) where
    first-is : pq.0 ≡ new.p
    first-is = ap (λ (x : Id × Id). x.0) (pq_is ∙ sym order-is)

    second-is : pq.1 ≡ new.q
    second-is = ap (λ (x : Id × Id). x.1) (pq_is ∙ sym order-is)

    abbrev SameParents : Type 0
    SameParents = (parts.p ≡ pq.0) × (parts.q ≡ pq.1)

    same-parents : new ≡ w.revision → SameParents
    same-parents same = (are.p ∙ ap (λ (r : FileRevision). r.p) (sym same) ∙ sym first-is, are.q ∙ ap (λ (r : FileRevision). r.q) (sym same) ∙ sym second-is)

    -- it has its parents: its metadata tell it
    pub new-by : (a : Bool) → (IsTrue a ↔ SameParents) → a ≡ true → (t : Bool) → (IsTrue t ↔ meta_in parts ≡ plain_meta (parts.body).now) → (IsTrue t ↔ new ≡ w.revision)
    new-by a parents has t plain = (there, back)
      where
        there : IsTrue t → new ≡ w.revision
        there h =
            let pair = parents.0 has in
            let p = sym first-is ∙ sym pair.0 ∙ are.p in
            let q = sym second-is ∙ sym pair.1 ∙ are.q in
            let m = ap plain_meta (sym are.body) ∙ sym (plain.0 h) ∙ are.meta in
            λ i. record { p = p i; q = q i; meta = m i; body = (w.revision).body }

        back : new ≡ w.revision → IsTrue t
        back same = plain.1 (are.meta ∙ sym (ap (λ (r : FileRevision). r.meta) same) ∙ ap plain_meta (sym are.body))

    -- it has others
    pub not-by : (a : Bool) → (IsTrue a ↔ SameParents) → a ≡ false → (IsTrue false ↔ new ≡ w.revision)
    not-by a parents hasnt = ((λ h. absurd (true≢false (sym h))), (λ same. absurd (true≢false (sym (parents.1 (same-parents same)) ∙ hasnt))))
