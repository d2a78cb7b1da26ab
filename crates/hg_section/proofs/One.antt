-- What a store holds under a node is one revision, so the revisions of held changesets are.
use Rattle.std.proofs.Common.{◌≡◌, ◌&&◌, Bool, true, false, not, List, [], ◌∷◌, refl, sym, ap, ◌∙◌}
use Rattle.std.specs.Prelude.{bytes_eq}
use Rattle.std.specs.List.{list_any}
use Rattle.std.proofs.lemmas.Slice.Eq.{bytes_eq-Decides}
use Rattle.text_model.specs.Lists.{Each}
use Rattle.text_model.specs.Id.{Id}
use Rattle.text_model.proofs.Options.{some_is}
use Rattle.hg_model.specs.Revision.{Revision, revision_of, same_parents, same_revision, is_otherwise}
use Rattle.hg_store.specs.Known.{AreAdded}
use Rattle.hg_dump.proofs.HeldLemmas.{held-revisions}
use Rattle.hg_dump_law.specs.Taken.{IsOneOf}
use Rattle.hg_dump_law.proofs.Known.{is_of-is}
use Rattle.hg_dump_law.proofs.Written.{IsWritten, each-written}
use Rattle.dump_law.proofs.Same.{parents-turn, parents-then}
use Rattle.view_model.specs.View.{ChangesetView}
use Rattle.view_model.specs.Held.{AreChangesetsHeld}
use Rattle.view_model.specs.Dump.{revisions_in}
use Rattle.state_model.specs.Saved.{has_otherwise}

module _ (known : List Revision) where
  not_otherwise : (r s : Revision) → IsOneOf known r → IsOneOf known s → is_otherwise r s ≡ false
  not_otherwise r s one other = by (same_revision r s) refl
    where
      by : (t : Bool) → same_revision r s ≡ t → is_otherwise r s ≡ false
      by false e = ap (λ (b : Bool). b && not (bytes_eq r.text s.text && same_parents r.group r.p r.q s.p s.q)) e
      by true e =
          let is = is_of-is r.group r.node s e in
          let same : one.revision ≡ other.revision = some_is (sym one.is_held ∙ (λ i. revision_of known (is.group_is i) (is.node_is i)) ∙ other.is_held) in
          let text : bytes_eq r.text s.text ≡ true = (bytes_eq-Decides r.text s.text).1 (one.text ∙ ap (λ (x : Revision). x.text) same ∙ sym other.text) in
          let theirs : same_parents r.group s.p s.q one.revision.p one.revision.q ≡ true =
          (λ i. same_parents (is.group_is i) s.p s.q (same i).p (same i).q) ∙ other.parents in
          let parents : same_parents r.group r.p r.q s.p s.q ≡ true =
          parents-then r.group r.p r.q one.revision.p one.revision.q s.p s.q one.parents (parents-turn r.group s.p s.q one.revision.p one.revision.q theirs) in
          rw (e, text, parents) refl

  none-otherwise : (r : Revision) (rs : List Revision) → IsOneOf known r → Each (IsWritten known) rs → list_any (is_otherwise r) rs ≡ false
  none-otherwise r [] one are = refl
  none-otherwise r (s ∷ rs) one are = rw (not_otherwise r s one are.0.one) (none-otherwise r rs one are.1)

  all-one : (rs all : List Revision) → Each (IsWritten known) rs → Each (IsWritten known) all → list_any (λ r. list_any (is_otherwise r) all) rs ≡ false
  all-one [] all are every = refl
  all-one (r ∷ rs) all are every = rw (none-otherwise r all are.0.one every) (all-one rs all are.1 every)

  pub held-one : AreAdded known → (nodes : List Id) (hs : List ChangesetView) → AreChangesetsHeld known nodes hs → has_otherwise (revisions_in hs) ≡ false
  held-one added nodes hs held =
      let written = each-written known added (revisions_in hs) (held-revisions known added nodes hs held) in
      all-one (revisions_in hs) (revisions_in hs) written written
