-- A map whose keys are paths.
use Rattle.std.proofs.Common.{◌≡◌, ℕ, Bool, true, false, cond, Less, List, [], ◌∷◌, map, Option, Ordering, refl, sym, ap, subst, ◌∙◌}
use Rattle.std.specs.Prelude.{bytes_eq}
use Rattle.std.specs.Global.{Vec}
use Rattle.std.specs.Ordering.{nat_cmp, is_eq, eq_by_cmp}
use Rattle.std.specs.Cmp.{eq_by_cmp_equiv}
use Rattle.std.specs.Cmp.Lexicographic.{slice_cmp, nat_list_cmp_total}
use Rattle.std.specs.Map.{keys_of, lookup, IsKeyTest, AreApart, KeepsOthers}
use Rattle.std.specs.BTreeMap.{BTreeMap, get_by, is_at, UpdatesBy, IsOrdered, keys}
use Rattle.std.specs.List.{All, AllByRecursion}
use Rattle.std.specs.List.Sorted.{IsStrictlySortedBy}
use Rattle.std.proofs.lemmas.List.Elements.{All-head, All-tail}
use Rattle.text_model.specs.Lists.{Each}
use Rattle.hg_dump.specs.State.{AreRising}
use Rattle.std.proofs.lemmas.Map.Text.{is_eq-slice_cmp}
use Rattle.std.proofs.lemmas.Slice.Eq.{bytes_eq-Decides}
use Rattle.text_model.specs.Text.{Bytes}

abbrev pub path_cmp : Vec ℕ → Vec ℕ → Ordering
path_cmp x y = slice_cmp nat_cmp x.items y.items

abbrev pub by_path : {X : Type 0} → BTreeMap (Vec ℕ) X → Bytes → Option X
by_path m path = get_by (λ k. slice_cmp nat_cmp path k.items) m

differs : (bs cs ks : Bytes) → bytes_eq bs cs ≡ false → is_eq (slice_cmp nat_cmp bs ks) ≡ true → is_eq (slice_cmp nat_cmp cs ks) ≡ false
differs bs cs ks apart is = by (bytes_eq cs ks) refl
  where
    same : bs ≡ ks
    same = (bytes_eq-Decides bs ks).0 (sym (is_eq-slice_cmp bs ks) ∙ is)

    by : (b : Bool) → bytes_eq cs ks ≡ b → is_eq (slice_cmp nat_cmp cs ks) ≡ false
    by true e = absurd (not_both (sym ((bytes_eq-Decides bs cs).1 (same ∙ sym ((bytes_eq-Decides cs ks).0 e))) ∙ apart))
      where
        not_both : true ≡ false → ⊥
        not_both h = cc
    by false e = is_eq-slice_cmp cs ks ∙ e

module _ {X : Type 0} (bs : Bytes) (m n : BTreeMap (Vec ℕ) X) (w : Option X) (updates : UpdatesBy path_cmp (λ k. slice_cmp nat_cmp bs k.items) m n w) where
  others : (old new : List (Vec ℕ × X)) (test other : Vec ℕ → Bool) → KeepsOthers (eq_by_cmp path_cmp) test old new → IsKeyTest (eq_by_cmp path_cmp) other → AreApart test other → lookup other new ≡ lookup other old
  unfolding KeepsOthers
  others old new test other keeps is apart = keeps other is apart

  pub by_path-after : (cs : Bytes) → by_path n cs ≡ cond (bytes_eq bs cs) w (by_path m cs)
  by_path-after cs = by (bytes_eq bs cs) refl
    where
      by : (b : Bool) → bytes_eq bs cs ≡ b → by_path n cs ≡ cond (bytes_eq bs cs) w (by_path m cs)
      by true e = rw e (subst (λ (l : Bytes). by_path n l ≡ w) ((bytes_eq-Decides bs cs).0 e) updates.1)
      by false e = rw e (others m.entries n.entries (is_at (λ k. slice_cmp nat_cmp bs k.items)) (is_at (λ k. slice_cmp nat_cmp cs k.items)) updates.3
          (λ x y. (eq_by_cmp_equiv nat_list_cmp_total).congr cs x.items y.items) (λ k. differs bs cs k.items e))

-- ---- the entries one by one

pub to-each : {X : Type 0} (P : X → Type 0) (xs : List X) → All P xs → Each P xs
to-each P [] h = tt
to-each P (x ∷ xs) h = (All-head P x xs h, to-each P xs (All-tail P x xs h))

pub key-paths : {X : Type 0} (es : List (Vec ℕ × X)) → map (λ e. e.0.items) es ≡ map (λ k. k.items) (keys_of es)
key-paths [] = refl
key-paths (e ∷ es) = ap (λ (l : List Bytes). e.0.items ∷ l) (key-paths es)

rising-paths : (ks : List (Vec ℕ)) → IsStrictlySortedBy path_cmp ks → AreRising (map (λ k. k.items) ks)
unfolding IsStrictlySortedBy
rising-paths [] is = tt
rising-paths (k ∷ ks) is = (above ks is.0, rising-paths ks is.1)
  where
    above : (ks : List (Vec ℕ)) → AllByRecursion (λ y. path_cmp k y ≡ Less) ks → AllByRecursion (λ y. slice_cmp nat_cmp k.items y ≡ Less) (map (λ x. x.items) ks)
    above [] h = tt
    above (x ∷ xs) h = (h.0, above xs h.1)

pub rising-keys : {X : Type 0} (m : BTreeMap (Vec ℕ) X) → IsOrdered path_cmp m → AreRising (map (λ k. k.items) (keys m))
rising-keys m is = rising-paths (keys m) is
