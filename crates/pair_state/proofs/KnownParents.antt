-- The parents of a store's revisions are known.
use Rattle.std.proofs.Common.{◌≡◌, ◌&&◌, true, List, [], ◌∷◌, ◌++◌, sym, subst, append_assoc}
use Rattle.std.specs.Prelude.{IsTrue}
use Rattle.text_model.specs.Lists.{Each}
use Rattle.text_model.specs.Id.{Id}
use Rattle.text_model.specs.Fault as fault
use Rattle.text_model.proofs.Elements.{each_in}
use Rattle.text_model.proofs.Options.{not_false}
use Rattle.text_model.proofs.TestLemmas.{both}
use Rattle.hg_model.proofs.ParentOrder.{file_order-either}
use Rattle.hg_model.proofs.RevisionLemmas.{first_name-two, first_name-three, named_if-None}
use Rattle.hg_model.specs.Revision.{Group, FilesAt, Revision, is_of, is_known_parent, ancestry_fault, text_fault}
use Rattle.hg_store.specs.Known.{IsAddedTo, AreAddedTo, AreAdded}
use Rattle.hg_store.proofs.Found.{found}
use Rattle.view_model.specs.View.{Row, file_node}
use Rattle.view_model.specs.Held.{IsFileHeld}
use Rattle.pair_known.specs.Ruled.{HasFileParents}
use Rattle.pair_state.proofs.CameLemmas.{find-front}
use Rattle.pair_state.proofs.ChangesetHeld.{found-of}
use Rattle.pair_state.proofs.FileLemmas.{parent-within}

-- both parents are known
abbrev HasBoth : List Revision → Group → Revision → Type 0
HasBoth known group r = (is_known_parent known group r.p ≡ true) × (is_known_parent known group r.q ≡ true)

parents-of : (known : List Revision) (r : Revision) → IsAddedTo known r → HasBoth known r.group r
unfolding ancestry_fault
parents-of known r added =
    let names = first_name-three _ _ _ (first_name-two (ancestry_fault known r) (text_fault known r) added.faultless).0 in
    let test = is_known_parent known r.group r.p && is_known_parent known r.group r.q in
    both (is_known_parent known r.group r.p) (is_known_parent known r.group r.q) (not_false test (named_if-None _ fault.ParentUnknown names.1))

each-parents : (known rs : List Revision) → AreAddedTo known rs → Each (λ r. HasBoth (known ++ rs) r.group r) rs
each-parents known [] added = tt
each-parents known (r ∷ rs) added =
    let more = parent-within known (known ++ r ∷ rs) (λ g n x e. find-front known (r ∷ rs) g n x e) r.group in
    let b = parents-of known r added.0 in (
      (more r.p b.0, more r.q b.1),
      subst (λ (l : List Revision). Each (λ x. HasBoth l x.group x) rs) (append_assoc known (r ∷ []) rs) (each-parents (known ++ r ∷ []) rs added.1),
    )

-- the parents of a file revision that is held
pub file-parents : (known : List Revision) → AreAdded known → (row : Row) → IsFileHeld known row → HasFileParents known row
file-parents known added row held =
    let r = held.revision in
    let group = FilesAt row.path in
    let here = (found-of (is_of group (file_node row.revision)) known r held.is_held).0 in
    let of = found known group (file_node row.revision) r added held.is_held in
    let b = subst (λ (g : Group). HasBoth known g r) of.group_is (each_in (λ x. HasBoth known x.group x) known r (each-parents [] known added) here) in
    let P : Id × Id → Type 0 = λ o. IsTrue (is_known_parent known group o.0) × IsTrue (is_known_parent known group o.1) in
    subst P (sym held.parents) (file_order-either P (row.revision).meta r.p r.q b (b.1, b.0))
