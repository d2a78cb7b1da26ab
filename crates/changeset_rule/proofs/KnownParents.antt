-- The parents of known revisions are known.
use Rattle.std.proofs.Common.{◌≡◌, ◌++◌, Bool, true, false, true≢false, not, ◌&&◌, ◌||◌, List, [], ◌∷◌, Option, Some, None, refl, sym, ap, subst, ◌∙◌, append_assoc}
use Rattle.std.proofs.lemmas.Option.{same_Some, none-some}
use Rattle.std.specs.Prelude.{is_some, IsTrue}
use Rattle.std.specs.List.{find}
use Rattle.text_model.specs.Id.{Id, is_null}
use Rattle.text_model.specs.Fault.{FaultName}
use Rattle.text_model.specs.Fault as fault
use Rattle.text_model.proofs.TestLemmas.{both}
use Rattle.hg_model.proofs.ParentOrder.{file_order-either, manifest_order-either}
use Rattle.hg_model.specs.Revision.{Group, Manifests, FilesAt, Revision, is_of, revision_of, knows, is_known_parent, first_name, named_if, ancestry_fault, text_fault}
use Rattle.hg_store.specs.Known.{IsAddedTo, AreAddedTo, AreAdded}
use Rattle.hg_store.proofs.Found.{found}
use Rattle.view_model.specs.View.{Row, file_node, ManifestParents, NoManifest, Over}
use Rattle.view_model.specs.Held.{IsFileHeld, IsManifestHeld}
use Rattle.pair_known.specs.Ruled.{HasFileParents, HasManifestParents}

-- ---- what an addition's tests show

first-two : (a b : Option FaultName) → first_name (a ∷ b ∷ []) ≡ None → a ≡ None
first-two None b h = refl
first-two (Some n) b h = absurd cc

second-of-three : (a b c : Option FaultName) → first_name (a ∷ b ∷ c ∷ []) ≡ None → b ≡ None
second-of-three None None c h = refl
second-of-three None (Some n) c h = absurd cc
second-of-three (Some n) b c h = absurd cc

not-named : (b : Bool) (n : FaultName) → named_if (not b) n ≡ None → b ≡ true
not-named true n h = refl
not-named false n h = absurd cc

parents-of : (known : List Revision) (r : Revision) → IsAddedTo known r → (is_known_parent known r.group r.p && is_known_parent known r.group r.q) ≡ true
unfolding ancestry_fault
parents-of known r added =
    not-named (is_known_parent known r.group r.p && is_known_parent known r.group r.q) fault.ParentUnknown
    (second-of-three _ _ _ (first-two (ancestry_fault known r) (text_fault known r) added.faultless))

-- ---- more revisions know more

or-left : (a b c : Bool) → (b ≡ true → c ≡ true) → (a || b) ≡ true → (a || c) ≡ true
or-left true b c f h = refl
or-left false b c f h = f h

more-known : (known rs : List Revision) (group : Group) (node : Id) → knows known group node ≡ true → knows (known ++ rs) group node ≡ true
more-known [] rs group node h = absurd (true≢false (sym h))
more-known (x ∷ known) rs group node h = by (is_of group node x) refl (more-known known rs group node)
  where
    by : (t : Bool) → is_of group node x ≡ t → (knows known group node ≡ true → knows (known ++ rs) group node ≡ true) → knows (x ∷ (known ++ rs)) group node ≡ true
    by true e rec = rw e refl
    by false e rec = rw e (rec (sym (rw e refl) ∙ h))

more-parents : (known rs : List Revision) (group : Group) (p : Id) → is_known_parent known group p ≡ true → is_known_parent (known ++ rs) group p ≡ true
more-parents known rs group p h = or-left (is_null p) (knows known group p) (knows (known ++ rs) group p) (more-known known rs group p) h

abbrev HasBoth : List Revision → Group → Revision → Type 0
HasBoth known group r = (is_known_parent known group r.p ≡ true) × (is_known_parent known group r.q ≡ true)

found-parents : (known rs : List Revision) (group : Group) (node : Id) (r : Revision) → AreAddedTo known rs → find (is_of group node) rs ≡ Some r → HasBoth (known ++ rs) r.group r
found-parents known [] group node r added at = absurd (none-some _ at)
found-parents known (x ∷ xs) group node r added at = by (is_of group node x) refl (found-parents (known ++ x ∷ []) xs group node r added.1)
  where
    here : HasBoth (known ++ x ∷ xs) x.group x
    here =
        let b = both (is_known_parent known x.group x.p) (is_known_parent known x.group x.q) (parents-of known x added.0) in
        (more-parents known (x ∷ xs) x.group x.p b.0, more-parents known (x ∷ xs) x.group x.q b.1)

    by : (t : Bool) → is_of group node x ≡ t → (find (is_of group node) xs ≡ Some r → HasBoth ((known ++ x ∷ []) ++ xs) r.group r) → HasBoth (known ++ x ∷ xs) r.group r
    by true e rec =
        let first : find (is_of group node) (x ∷ xs) ≡ Some x = rw e refl in
        let same : x ≡ r = same_Some _ _ (sym first ∙ at) in
        subst (λ (y : Revision). HasBoth (known ++ x ∷ xs) y.group y) same here
    by false e rec = subst (λ (l : List Revision). HasBoth l r.group r) (append_assoc known (x ∷ []) xs) (rec (sym (rw e refl) ∙ at))

-- ---- of a store

module _ (known : List Revision) (added : AreAdded known) where
  pub parents-known : (group : Group) (node : Id) (r : Revision) → revision_of known group node ≡ Some r → HasBoth known group r
  parents-known group node r at =
      subst (λ (g : Group). HasBoth known g r) (found known group node r added at).group_is (found-parents [] known group node r added at)

  pub node-known : (group : Group) (node : Id) (r : Revision) → revision_of known group node ≡ Some r → is_known_parent known group node ≡ true
  node-known group node r at = by (is_null node)
    where
      by : (t : Bool) → (t || knows known group node) ≡ true
      by true = refl
      by false = ap is_some at

  pub file-parents : (row : Row) → IsFileHeld known row → HasFileParents known row
  file-parents row held =
      let r = held.revision in
      let b = parents-known (FilesAt row.path) (file_node row.revision) r held.is_held in
      let P : Id × Id → Type 0 = λ o. IsTrue (is_known_parent known (FilesAt row.path) o.0) × IsTrue (is_known_parent known (FilesAt row.path) o.1) in
      subst P (sym held.parents) (file_order-either P (row.revision).meta r.p r.q b (b.1, b.0))

  pub manifest-parents : (node : Id) (m : ManifestParents) (rows : List Row) → IsManifestHeld known node m rows → HasManifestParents known m
  manifest-parents node NoManifest rows held = tt
  manifest-parents node (Over p q) rows held =
      let r = held.revision in
      let b = parents-known Manifests node r held.is_held in
      let P : Id × Id → Type 0 = λ o. IsTrue (is_known_parent known Manifests o.0) × IsTrue (is_known_parent known Manifests o.1) in
      subst P (sym held.parents) (manifest_order-either P r.p r.q b (b.1, b.0))

  -- the node of a manifest that is held may be a parent
  pub manifest-known : (node : Id) (m : ManifestParents) (rows : List Row) → IsManifestHeld known node m rows → is_known_parent known Manifests node ≡ true
  manifest-known node NoManifest rows held = subst (λ (n : Id). is_known_parent known Manifests n ≡ true) (sym held.0) refl
  manifest-known node (Over p q) rows held = node-known Manifests node held.revision held.is_held
