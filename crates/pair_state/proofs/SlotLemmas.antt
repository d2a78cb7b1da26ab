-- Revisions of which none was bad as it came: none is another with other parents or another text.
use Rattle.std.proofs.Common.{◌≡◌, ◌⊎◌, Bool, true, false, not, ◌&&◌, ◌||◌, List, [], ◌∷◌, ◌++◌, refl, sym, ap, subst, ◌∙◌, inl, inr}
use Rattle.std.specs.Prelude.{bytes_eq, if◌then◌else◌}
use Rattle.std.specs.List.{list_any}
use Rattle.std.proofs.lemmas.Slice.Eq.{bytes_eq-Decides}
use Rattle.text_model.specs.Lists.{In}
use Rattle.text_model.specs.Id.{Id, is_null}
use Rattle.text_model.proofs.TestLemmas.{both}
use Rattle.text_model.proofs.Elements.{in_left, each_in, none_in, none_all}
use Rattle.text_model.proofs.Options.{or_parts, some_is}
use Rattle.hg_model.proofs.RevisionLemmas.{same_group-is}
use Rattle.hg_model.specs.Revision.{Revision, Group, Changesets, Manifests, FilesAt, same_group, same_revision, same_parents, revision_of, knows, known_after, is_otherwise, known_after_all}
use Rattle.tree_shape.proofs.Elements.{in-append}
use Rattle.pair_state.specs.Came.{AreClean}
use Rattle.pair_state.proofs.ChangesetHeld.{CameAs, all-as, either-way}

self : (a : Id) → bytes_eq a a ≡ true
self a = (bytes_eq-Decides a a).1 refl

abbrev Pair : Id → Id → Id → Id → Type 0
Pair p q p' q' = ((p ≡ p') × (q ≡ q')) ⊎ ((p ≡ q') × (q ≡ p'))

pair-like : (p q x y u v : Id) → Pair p q u v → Pair x y u v → Pair p q x y
pair-like p q x y u v (inl a) (inl b) = inl (a.0 ∙ sym b.0, a.1 ∙ sym b.1)
pair-like p q x y u v (inl a) (inr b) = inr (a.0 ∙ sym b.1, a.1 ∙ sym b.0)
pair-like p q x y u v (inr a) (inl b) = inr (a.0 ∙ sym b.1, a.1 ∙ sym b.0)
pair-like p q x y u v (inr a) (inr b) = inl (a.0 ∙ sym b.0, a.1 ∙ sym b.1)

pair-is : (p q x y : Id) → Pair p q x y → ((bytes_eq p x && bytes_eq q y) || (bytes_eq p y && bytes_eq q x)) ≡ true
pair-is p q x y (inl a) = rw ((bytes_eq-Decides p x).1 a.0, (bytes_eq-Decides q y).1 a.1) refl
pair-is p q x y (inr a) = rw ((bytes_eq-Decides p y).1 a.0, (bytes_eq-Decides q x).1 a.1) (or-true (bytes_eq p x && bytes_eq q y))
  where
    or-true : (t : Bool) → (t || true) ≡ true
    or-true true = refl
    or-true false = refl

-- both have the parents of one
parents-like : (g : Group) (p q x y u v : Id) → same_parents g p q u v ≡ true → same_parents g x y u v ≡ true → same_parents g p q x y ≡ true
parents-like Changesets p q x y u v a b =
    let m = both (bytes_eq p u) (bytes_eq q v) a in
    let n = both (bytes_eq x u) (bytes_eq y v) b in
    rw ((bytes_eq-Decides p x).1 ((bytes_eq-Decides p u).0 m.0 ∙ sym ((bytes_eq-Decides x u).0 n.0)), (bytes_eq-Decides q y).1 ((bytes_eq-Decides q v).0 m.1 ∙ sym ((bytes_eq-Decides y v).0 n.1))) refl
parents-like Manifests p q x y u v a b = pair-is p q x y (pair-like p q x y u v (either-way p q u v a) (either-way x y u v b))
parents-like (FilesAt path) p q x y u v a b = pair-is p q x y (pair-like p q x y u v (either-way p q u v a) (either-way x y u v b))

module _ (known rs : List Revision) (clean : AreClean known rs) where
  came : (r : Revision) → In r rs → CameAs (known_after_all known rs) r
  came r i = each_in (CameAs (known_after_all known rs)) rs r (all-as known rs clean) i

  none-other : (r x : Revision) → In r rs → In x rs → is_otherwise r x ≡ false
  none-other r x i j = by (same_revision r x) refl
    where
      a : CameAs (known_after_all known rs) r
      a = came r i

      b : CameAs (known_after_all known rs) x
      b = came x j

      found : r.group ≡ x.group → r.node ≡ x.node → a.found ≡ b.found
      found g n = some_is (sym a.at ∙ (λ i. revision_of (known_after_all known rs) (g i) (n i)) ∙ b.at)

      like : r.group ≡ x.group → r.node ≡ x.node → (bytes_eq r.text x.text && same_parents r.group r.p r.q x.p x.q) ≡ true
      like g n =
          let f = found g n in
          let m = both (bytes_eq r.text a.found.text) (same_parents r.group r.p r.q a.found.p a.found.q) a.like in
          let o = both (bytes_eq x.text b.found.text) (same_parents x.group x.p x.q b.found.p b.found.q) b.like in
          let text = (bytes_eq-Decides r.text x.text).1 ((bytes_eq-Decides r.text a.found.text).0 m.0 ∙ ap (λ (y : Revision). y.text) f ∙ sym ((bytes_eq-Decides x.text b.found.text).0 o.0)) in
          let second = (λ k. same_parents (g k) x.p x.q (f k).p (f k).q) ∙ o.1 in
          rw (text, parents-like r.group r.p r.q x.p x.q a.found.p a.found.q m.1 second) refl

      by : (t : Bool) → same_revision r x ≡ t → is_otherwise r x ≡ false
      by false e = rw e refl
      by true e =
          let parts = both (same_group r.group x.group) (bytes_eq r.node x.node) e in
          let l = like (same_group-is r.group x.group parts.0) ((bytes_eq-Decides r.node x.node).0 parts.1) in
          ap (λ (t : Bool). same_revision r x && not t) l ∙ and-false (same_revision r x)
        where
          and-false : (t : Bool) → (t && false) ≡ false
          and-false true = refl
          and-false false = refl

after-in : (known : List Revision) (r x : Revision) → In x known → In x (known_after known r)
after-in known r x i = by (knows known r.group r.node)
  where
    by : (t : Bool) → In x (if t then known else known ++ r ∷ [])
    by true = i
    by false = in_left x known (r ∷ []) i

clean-at : (known rs : List Revision) → AreClean known rs → (r : Revision) → In r rs → (is_null r.node ≡ false) × ((x : Revision) → In x known → is_otherwise r x ≡ false)
clean-at known [] clean r i = absurd i
clean-at known (y ∷ rs) clean r (inl q) =
    let parts = or_parts (is_null y.node) (list_any (is_otherwise y) known) clean.0 in
    subst (λ (z : Revision). (is_null z.node ≡ false) × ((x : Revision) → In x known → is_otherwise z x ≡ false)) (sym q) (parts.0, λ x j. none_in (is_otherwise y) known x parts.1 j)
clean-at known (y ∷ rs) clean r (inr i) = let c = clean-at (known_after known y) rs clean.1 r i in (c.0, λ x j. c.1 x (after-in known y x j))

pub none-bad : (known rs : List Revision) → AreClean known rs → list_any (λ r. is_null r.node || list_any (is_otherwise r) (known ++ rs)) rs ≡ false
none-bad known rs clean = none_all (λ r. is_null r.node || list_any (is_otherwise r) (known ++ rs)) rs (λ r i.
    let c = clean-at known rs clean r i in
    rw (c.0, none_all (is_otherwise r) (known ++ rs) (λ x j. by r i c.1 x (in-append x known rs j))) refl)
  where
    by : (r : Revision) → In r rs → ((x : Revision) → In x known → is_otherwise r x ≡ false) → (x : Revision) → In x known ⊎ In x rs → is_otherwise r x ≡ false
    by r i clean_r x (inl j) = clean_r x j
    by r i clean_r x (inr j) = none-other known rs clean r x i j
