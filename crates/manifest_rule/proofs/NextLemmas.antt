-- The least of three paths.
use Rattle.std.proofs.Common.{◌≡◌, Bool, true, false, true≢false, Option, Some, None, refl, sym, ap, subst, ◌∙◌, inl, inr}
use Rattle.std.proofs.lemmas.Option.{same_Some, none-some}
use Rattle.std.specs.Prelude.{option_map, ◌⊎◌, ◌||◌, is_some, ⊤}
use Rattle.std.proofs.lemmas.Slice.Eq.{bytes_eq-Decides}
use Rattle.text_model.specs.Text.{Bytes, is_below}
use Rattle.text_model.proofs.OrderLemmas.{is_below-one_way, is_below-irreflexive, is_below-same, is_below-chain}
use Rattle.text_model.proofs.TestLemmas.{or_true}
use Rattle.hg_model.specs.Manifest.{ManifestEntry}
use Rattle.manifest_rule.specs.Merged.{least_of, with_path, lent_row, lent_entry, IsAtFront, IsNext}
use Rattle.manifest_rule.specs.declared.merge.Found.{Found}

abbrev NotAbove : Bytes → Option Bytes → Type 0
NotAbove p None = ⊤
NotAbove p (Some a) = is_below a p ≡ false

record IsLeast (x y : Option Bytes) (p : Bytes) : Type 0 where
  first : NotAbove p x
  second : NotAbove p y
  one : (x ≡ Some p) ⊎ (y ≡ Some p)

same-not_above : (a p : Bytes) → a ≡ p → is_below a p ≡ false
same-not_above a p e = ap (is_below a) (sym e) ∙ is_below-irreflexive a

least_of-is : (x y : Option Bytes) (p : Bytes) → Some p ≡ least_of x y → IsLeast x y p
least_of-is None None p e = absurd (none-some _ (sym e))
least_of-is None (Some b) p e = record { first = tt; second = same-not_above b p (sym (same_Some _ _ e)); one = inr (sym e) }
least_of-is (Some a) None p e = record { first = same-not_above a p (sym (same_Some _ _ e)); second = tt; one = inl (sym e) }
least_of-is (Some a) (Some b) p e = by (is_below b a) refl
  where
    by : (t : Bool) → is_below b a ≡ t → IsLeast (Some a) (Some b) p
    by true t =
        let is : p ≡ b = same_Some _ _ (e ∙ rw t refl) in
        record { first = ap (is_below a) is ∙ is_below-one_way b a t; second = same-not_above b p (sym is); one = inr (ap Some (sym is)) }
    by false t =
        let is : p ≡ a = same_Some _ _ (e ∙ rw t refl) in
        record { first = same-not_above a p (sym is); second = ap (is_below b) is ∙ t; one = inl (ap Some (sym is)) }

-- what is below none of the smaller is above it
still : (a x p : Bytes) → is_below a x ≡ false → is_below x p ≡ false → is_below p x ≡ true → is_below a p ≡ false
still a x p h k less = by (is_below a p) refl
  where
    by : (t : Bool) → is_below a p ≡ t → is_below a p ≡ false
    by true t = absurd (true≢false (sym (is_below-chain a p x t less) ∙ h))
    by false t = t

record IsLeastOfThree (x y z : Option Bytes) (p : Bytes) : Type 0 where
  first : NotAbove p x
  second : NotAbove p y
  third : NotAbove p z
  one : (x ≡ Some p) ⊎ ((y ≡ Some p) ⊎ (z ≡ Some p))

not_above-still : (x : Option Bytes) (m p : Bytes) → NotAbove m x → is_below p m ≡ true → NotAbove p x
not_above-still None m p h less = tt
not_above-still (Some a) m p h less = still a m p h (is_below-one_way p m less) less

not_above-same : (x : Option Bytes) (m p : Bytes) → NotAbove m x → m ≡ p → NotAbove p x
not_above-same None m p h e = tt
not_above-same (Some a) m p h e = ap (is_below a) (sym e) ∙ h

three : (x y z : Option Bytes) (p : Bytes) → Some p ≡ least_of (least_of x y) z → IsLeastOfThree x y z p
three x y z p e = by (least_of x y) refl e
  where
    by : (m : Option Bytes) → least_of x y ≡ m → Some p ≡ least_of m z → IsLeastOfThree x y z p
    by None m e = none x y z m e
      where
        none : (x y z : Option Bytes) → least_of x y ≡ None → Some p ≡ least_of None z → IsLeastOfThree x y z p
        none None None None m e = absurd (none-some _ (sym e))
        none None None (Some c) m e = record { first = tt; second = tt; third = same-not_above c p (sym (same_Some _ _ e)); one = inr (inr (sym e)) }
        none None (Some b) z m e = absurd (none-some _ (sym m))
        none (Some a) None z m e = absurd (none-some _ (sym m))
        none (Some a) (Some b) z m e = cases (is_below b a) refl
          where
            cases : (t : Bool) → is_below b a ≡ t → IsLeastOfThree (Some a) (Some b) z p
            cases true t = absurd (none-some b (sym m ∙ rw t refl))
            cases false t = absurd (none-some a (sym m ∙ rw t refl))
    by (Some m) is e =
        let two = least_of-is x y m (sym is) in
        let last = least_of-is (Some m) z p e in
        cases two last last.one
      where
        lift : (x ≡ Some m) ⊎ (y ≡ Some m) → m ≡ p → (x ≡ Some p) ⊎ ((y ≡ Some p) ⊎ (z ≡ Some p))
        lift (inl h) e = inl (h ∙ ap Some e)
        lift (inr h) e = inr (inl (h ∙ ap Some e))

        cases : IsLeast x y m → IsLeast (Some m) z p → ((Some m ≡ Some p) ⊎ (z ≡ Some p)) → IsLeastOfThree x y z p
        cases two last (inl same) = record {
          first = not_above-same x m p two.first (same_Some _ _ same);
          second = not_above-same y m p two.second (same_Some _ _ same);
          third = last.second;
          one = lift two.one (same_Some _ _ same);
        }
        cases two last (inr third) = test (is_below p m) refl
          where
            test : (t : Bool) → is_below p m ≡ t → IsLeastOfThree x y z p
            test true t = record { first = not_above-still x m p two.first t; second = not_above-still y m p two.second t; third = last.second; one = inr (inr third) }
            test false t =
                let same : m ≡ p = is_below-same m p last.first t in
                record { first = not_above-same x m p two.first same; second = not_above-same y m p two.second same; third = last.second; one = inr (inr third) }

-- ---- the entries that have the path

abbrev path_in : Option ManifestEntry → Option Bytes
path_in e = option_map (λ x. x.path) e

front : (e : Option ManifestEntry) (p : Bytes) → NotAbove p (path_in e) → IsAtFront p e
front None p h = tt
front (Some e) p h = h

has_path : (e : Option ManifestEntry) (p : Bytes) → path_in e ≡ Some p → is_some (with_path p e) ≡ true
has_path None p h = absurd (none-some _ h)
has_path (Some e) p h = rw ((bytes_eq-Decides e.path p).1 (same_Some _ _ h)) refl

or_second : (a b c : Bool) → b ≡ true → (a || b || c) ≡ true
or_second true b c h = refl
or_second false true c h = refl
or_second false false c h = absurd (true≢false (sym h))

or_first : (a b c : Bool) → a ≡ true → (a || b || c) ≡ true
or_first true b c h = refl
or_first false b c h = absurd (true≢false (sym h))

pub record IsFront (e f g : Option ManifestEntry) (p : Bytes) : Type 0 where
  pub some : (is_some (with_path p e) || is_some (with_path p f) || is_some (with_path p g)) ≡ true
  pub before : IsAtFront p e × IsAtFront p f × IsAtFront p g

pub is_front : (e f g : Option ManifestEntry) (p : Bytes) → Some p ≡ least_of (least_of (path_in e) (path_in f)) (path_in g) → IsFront e f g p
is_front e f g p is =
    let t = three (path_in e) (path_in f) (path_in g) p is in
    record { some = some t.one; before = (front e p t.first, front f p t.second, front g p t.third) }
  where
    some : (path_in e ≡ Some p) ⊎ ((path_in f ≡ Some p) ⊎ (path_in g ≡ Some p)) → (is_some (with_path p e) || is_some (with_path p f) || is_some (with_path p g)) ≡ true
    some (inl h) = or_first (is_some (with_path p e)) (is_some (with_path p f)) (is_some (with_path p g)) (has_path e p h)
    some (inr (inl h)) = or_second (is_some (with_path p e)) (is_some (with_path p f)) (is_some (with_path p g)) (has_path f p h)
    some (inr (inr h)) = ap (λ (b : Bool). is_some (with_path p e) || is_some (with_path p f) || b) (has_path g p h) ∙ or_true (is_some (with_path p e) || is_some (with_path p f))

-- ---- where a row and an entry have one path, and nothing else is there

with-own : (e : ManifestEntry) (p : Bytes) → e.path ≡ p → Some e ≡ with_path p (Some e)
with-own e p is = sym (rw ((bytes_eq-Decides e.path p).1 is) refl)

pub is-alike : (e f : ManifestEntry) (g : Option ManifestEntry) (found : Found) → e.path ≡ (found.path).now → f.path ≡ (found.path).now → g ≡ None
    → lent_row found.row ≡ Some e → lent_entry found.first ≡ Some f → lent_entry found.second ≡ None → IsNext (Some e) (Some f) g found
is-alike e f g found e-path f-path none row first second =
    let p : Bytes = (found.path).now in
    record {
      some = ap (λ (x : Option ManifestEntry). is_some x || is_some (with_path p (Some f)) || is_some (with_path p g)) (sym (with-own e p e-path));
      before = (same-not_above e.path p e-path, same-not_above f.path p f-path, subst (IsAtFront p) (sym none) tt);
      row = row ∙ with-own e p e-path;
      first = first ∙ with-own f p f-path;
      second = second ∙ ap (with_path p) (sym none);
    }
