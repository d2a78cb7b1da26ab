-- Reading items one after the other.
use Rattle.std.proofs.Common.{◌≡◌, ◌-◌, ℕ, List, [], ◌∷◌, ◌++◌, length, Option, Some, None, refl, sym, ap, subst, ◌∙◌, append_assoc, arith}
use Rattle.std.specs.List.{flat_map}
use Rattle.text_model.specs.Lists.{Each}
use Rattle.std.proofs.lemmas.List.{append-nil, length-append}
use Rattle.std.proofs.lemmas.List.Concat.{flat_map-append}
use Rattle.text_model.proofs.Options.{none_some, some_is}
use Rattle.text_model.proofs.EachLemmas.{Each-push}
use Rattle.text_model.specs.Items.{Follow, state_after, Begins, NoItem, ReadsItems}

module _ {I S : Type 0} (text : I → List ℕ) (Is : I → Type 0) (step : S → I → S) (Fits : S → I → Type 0) where
  Follow-push : (s : S) (xs : List I) (x : I) → Follow text Is step Fits s xs → Fits (state_after text Is step Fits s xs) x → Follow text Is step Fits s (xs ++ x ∷ [])
  Follow-push s [] x h f = (f, tt)
  Follow-push s (y ∷ ys) x h f = (h.0, Follow-push (step s y) ys x h.1 f)

  pub state_after-push : (s : S) (xs : List I) (x : I) → state_after text Is step Fits s (xs ++ x ∷ []) ≡ step (state_after text Is step Fits s xs) x
  state_after-push s [] x = refl
  state_after-push s (y ∷ ys) x = state_after-push (step s y) ys x

  text-push : (xs : List I) (x : I) → flat_map text (xs ++ x ∷ []) ≡ flat_map text xs ++ text x
  text-push xs x = flat_map-append text xs (x ∷ []) ∙ ap (λ (t : List ℕ). flat_map text xs ++ t) (append-nil (text x))

  -- at the start
  pub Begins-none : (s : S) (bytes : List ℕ) → Begins text Is step Fits s bytes [] bytes
  Begins-none s bytes = record { whole = refl; each = tt; follow = tt }

  -- one item more
  pub Begins-more : (s : S) (bytes : List ℕ) (xs : List I) (rest : List ℕ) (x : I) (after : List ℕ)
      → Begins text Is step Fits s bytes xs rest → rest ≡ text x ++ after → Is x → Fits (state_after text Is step Fits s xs) x → Begins text Is step Fits s bytes (xs ++ x ∷ []) after
  Begins-more s bytes xs rest x after b e i f = record {
    whole = b.whole ∙ ap (λ (t : List ℕ). flat_map text xs ++ t) e ∙ sym (append_assoc (flat_map text xs) (text x) after) ∙ ap (λ (t : List ℕ). t ++ after) (sym (text-push xs x));
    each = Each-push Is xs x b.each i;
    follow = Follow-push s xs x b.follow f;
  }

  -- where the rest begins
  pub Begins-place : (s : S) (bytes : List ℕ) (xs : List I) (rest : List ℕ) → Begins text Is step Fits s bytes xs rest → length bytes - length rest ≡ length (flat_map text xs)
  Begins-place s bytes xs rest b = omega (arith, ap (λ (t : List ℕ). length t) b.whole, length-append (flat_map text xs) rest)

  -- nothing is left
  pub Begins-all : (s : S) (bytes : List ℕ) (xs : List I) → Begins text Is step Fits s bytes xs [] → bytes ≡ flat_map text xs
  Begins-all s bytes xs b = b.whole ∙ append-nil (flat_map text xs)

  module _ (at : List ℕ → Option (I × List ℕ)) (reads : ReadsItems text Is step Fits at) where
    -- where nothing is read no item stands
    pub NoItem-from_none : (bytes : List ℕ) → None ≡ at bytes → NoItem text Is step Fits bytes
    NoItem-from_none bytes e x more i whole = absurd (none_some {x = (x, more)} (e ∙ ap at whole ∙ reads.again x more i))

    -- items are spelled in one way
    pub one_list : (xs ys : List I) → Each Is xs → Each Is ys → flat_map text xs ≡ flat_map text ys → xs ≡ ys
    one_list [] [] hx hy e = refl
    one_list [] (y ∷ ys) hx hy e = absurd (none_some {x = (y, flat_map text ys)} (sym reads.ends ∙ ap at e ∙ reads.again y (flat_map text ys) hy.0))
    one_list (x ∷ xs) [] hx hy e = absurd (none_some {x = (x, flat_map text xs)} (sym reads.ends ∙ ap at (sym e) ∙ reads.again x (flat_map text xs) hx.0))
    one_list (x ∷ xs) (y ∷ ys) hx hy e =
        let same = some_is {x = (x, flat_map text xs)} {y = (y, flat_map text ys)} (sym (reads.again x (flat_map text xs) hx.0) ∙ ap at e ∙ reads.again y (flat_map text ys) hy.0) in
        (λ i. ap (λ (p : I × List ℕ). p.0) same i ∷ one_list xs ys hx.1 hy.1 (ap (λ (p : I × List ℕ). p.1) same) i)

    -- where items spell the bytes, those that begin them are the first of these
    pub record Continues (s : S) (xs es : List I) (rest : List ℕ) : Type 0 where
      pub ys : List I
      pub whole : es ≡ xs ++ ys
      pub rest_is : rest ≡ flat_map text ys
      pub each : Each Is ys
      pub follow : Follow text Is step Fits (state_after text Is step Fits s xs) ys

    pub continues : (s : S) (xs es : List I) (rest : List ℕ) → Each Is xs → Each Is es → Follow text Is step Fits s es → flat_map text es ≡ flat_map text xs ++ rest → Continues s xs es rest
    continues s [] es rest hx he f e = record { ys = es; whole = refl; rest_is = sym e; each = he; follow = f }
    continues s (x ∷ xs) [] rest hx he f e = absurd (none_some {x = (x, flat_map text xs ++ rest)} (sym reads.ends ∙ ap at (e ∙ append_assoc (text x) (flat_map text xs) rest) ∙ reads.again x (flat_map text xs ++ rest) hx.0))
    continues s (x ∷ xs) (y ∷ ys) rest hx he f e =
        let same = some_is {x = (y, flat_map text ys)} {y = (x, flat_map text xs ++ rest)} (sym (reads.again y (flat_map text ys) he.0) ∙ ap at (e ∙ append_assoc (text x) (flat_map text xs) rest) ∙ reads.again x (flat_map text xs ++ rest) hx.0) in
        let head : y ≡ x = ap (λ (p : I × List ℕ). p.0) same in
        let tail : flat_map text ys ≡ flat_map text xs ++ rest = ap (λ (p : I × List ℕ). p.1) same in
        let go = continues (step s y) xs ys rest hx.1 he.1 f.1 tail in
        record {
          ys = go.ys;
          whole = (λ i. head i ∷ go.whole i);
          rest_is = go.rest_is;
          each = go.each;
          follow = subst (λ (z : I). Follow text Is step Fits (state_after text Is step Fits (step s z) xs) go.ys) head go.follow;
        }
