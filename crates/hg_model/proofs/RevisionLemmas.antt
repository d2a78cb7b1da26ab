-- What the tests of groups, nodes and faults say.
use Rattle.std.proofs.Common.{◌≡◌, Bool, true, false, true≢false, [], ◌∷◌, List, ◌++◌, Option, Some, None, refl, sym, ap, ◌∙◌}
use Rattle.std.proofs.lemmas.Slice.Eq.{bytes_eq-Decides}
use Rattle.text_model.specs.Fault.{FaultName}
use Rattle.text_model.proofs.TestLemmas.{same_bool, bytes_eq-self}
use Rattle.hg_model.specs.Revision.{Group, Changesets, Manifests, FilesAt, Revision, same_group, is_of, first_name, named_if, known_after, known_after_all}

-- ---- the first of some faults

pub first_name-one : (o : Option FaultName) → first_name (o ∷ []) ≡ o
first_name-one None = refl
first_name-one (Some n) = refl

pub first_name-two : (a b : Option FaultName) → first_name (a ∷ b ∷ []) ≡ None → (a ≡ None) × (b ≡ None)
first_name-two None None h = (refl, refl)
first_name-two None (Some n) h = absurd cc
first_name-two (Some n) b h = absurd cc

pub first_name-three : (a b c : Option FaultName) → first_name (a ∷ b ∷ c ∷ []) ≡ None → (a ≡ None) × (b ≡ None) × (c ≡ None)
first_name-three None None None h = (refl, refl, refl)
first_name-three None None (Some n) h = absurd cc
first_name-three None (Some n) c h = absurd cc
first_name-three (Some n) b c h = absurd cc

pub named_if-None : (b : Bool) (n : FaultName) → named_if b n ≡ None → b ≡ false
named_if-None true n h = absurd cc
named_if-None false n h = refl

-- ---- groups and nodes

-- the test of groups decides
pub same_group-is : (a b : Group) → same_group a b ≡ true → a ≡ b
same_group-is Changesets Changesets h = refl
same_group-is Changesets Manifests h = absurd (true≢false (sym h))
same_group-is Changesets (FilesAt path) h = absurd (true≢false (sym h))
same_group-is Manifests Changesets h = absurd (true≢false (sym h))
same_group-is Manifests Manifests h = refl
same_group-is Manifests (FilesAt path) h = absurd (true≢false (sym h))
same_group-is (FilesAt path) Changesets h = absurd (true≢false (sym h))
same_group-is (FilesAt path) Manifests h = absurd (true≢false (sym h))
same_group-is (FilesAt path) (FilesAt other) h = ap FilesAt ((bytes_eq-Decides path other).0 h)

pub same_group-self : (g : Group) → same_group g g ≡ true
same_group-self Changesets = refl
same_group-self Manifests = refl
same_group-self (FilesAt path) = bytes_eq-self path

pub same_group-sym : (g h : Group) → same_group g h ≡ same_group h g
same_group-sym g h = same_bool (same_group g h) (same_group h g)
    (λ e. ap (same_group h) (same_group-is g h e) ∙ same_group-self h)
    (λ e. ap (same_group g) (same_group-is h g e) ∙ same_group-self g)

pub is_of-self : (r : Revision) → is_of r.group r.node r ≡ true
is_of-self r = rw (same_group-self r.group, bytes_eq-self r.node) refl

-- ---- what is known after a list

pub known_after_all-append : (known xs ys : List Revision) → known_after_all known (xs ++ ys) ≡ known_after_all (known_after_all known xs) ys
known_after_all-append known [] ys = refl
known_after_all-append known (x ∷ xs) ys = known_after_all-append (known_after known x) xs ys
