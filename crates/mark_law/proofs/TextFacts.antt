-- A byte that stands in no part cuts a text in one way; and what lacks a byte.
use Rattle.std.proofs.Common.{◌≡◌, ◌≢◌, ◌<◌, ◌+◌, ◌/◌, ◌%◌, ◌==◌, ◌^◌, ℕ, zero, suc, Bool, true, false, List, [], ◌∷◌, ◌++◌, refl, sym, ap, ◌∙◌, append_assoc, append-nil, arith}
use Rattle.std.specs.Prelude.{decimal, if◌then◌else◌, ℤ, pos, negsuc}
use Rattle.std.specs.Fmt.{digits, digits_onto, digit_glyph}
use Rattle.std.specs.List.{flat_map}
use Rattle.std.proofs.lemmas.Bool.{lt-ltb}
use Rattle.text_model.specs.Lists.{Each}
use Rattle.text_model.specs.Text.{IsBytes, spaced, signed_decimal}
use Rattle.text_model.specs.Cuts.{Lacks, cut_of}
use Rattle.text_model.proofs.CutLemmas.{cut_of-at}
use Rattle.text_model.proofs.LackLemmas.{Lacks-append}
use Rattle.text_model.proofs.Options.{some_is}
use Rattle.hg_model.specs.Changeset.{signed_of}
use Rattle.hg_model.proofs.DateLemmas.{IsWithin, signed_of-text}

pub cut_one : (b : ℕ) (w v r s : List ℕ) → Lacks b w → Lacks b v → w ++ b ∷ r ≡ v ++ b ∷ s → (w ≡ v) × (r ≡ s)
cut_one b w v r s l m e =
    let same = some_is (sym (cut_of-at b w r l) ∙ ap (cut_of b) e ∙ cut_of-at b v s m) in
    (ap (λ p. p.0) same, ap (λ p. p.1) same)

-- ---- items that are read one by one are one list

-- items that lack the byte, each with the byte behind it, are one list
pub ended_one : {X : Type 0} (b : ℕ) (f : X → List ℕ) (Is : X → Type 0)
    → ((x : X) → Is x → Lacks b (f x)) → ((x y : X) → Is x → Is y → f x ≡ f y → x ≡ y)
    → (xs ys : List X) → Each Is xs → Each Is ys → flat_map (λ x. f x ++ b ∷ []) xs ≡ flat_map (λ x. f x ++ b ∷ []) ys → xs ≡ ys
ended_one b f Is lacks one [] [] h k e = refl
ended_one b f Is lacks one [] (y ∷ ys) h k e = absurd (nil_is (f y) (flat_map (λ x. f x ++ b ∷ []) ys) e)
  where
    nil_is : (xs r : List ℕ) → [] ≡ (xs ++ b ∷ []) ++ r → ⊥
    nil_is [] r e = cc
    nil_is (x ∷ xs) r e = cc
ended_one b f Is lacks one (x ∷ xs) [] h k e = absurd (nil_is (f x) (flat_map (λ x. f x ++ b ∷ []) xs) (sym e))
  where
    nil_is : (xs r : List ℕ) → [] ≡ (xs ++ b ∷ []) ++ r → ⊥
    nil_is [] r e = cc
    nil_is (x ∷ xs) r e = cc
ended_one b f Is lacks one (x ∷ xs) (y ∷ ys) h k e =
    let c = cut_one b (f x) (f y) (flat_map (λ x. f x ++ b ∷ []) xs) (flat_map (λ x. f x ++ b ∷ []) ys) (lacks x h.0) (lacks y k.0) (simp append_assoc at e) in
    let same = one x y h.0 k.0 c.0 in
    let t = ended_one b f Is lacks one xs ys h.1 k.1 c.1 in
    cc

-- ---- words with a space between each two

spaced_ended : (w : List ℕ) (ws : List (List ℕ)) → spaced (w ∷ ws) ++ 32 ∷ [] ≡ flat_map (λ v. v ++ 32 ∷ []) (w ∷ ws)
spaced_ended w [] = simp (append_assoc, append-nil)
spaced_ended w (v ∷ vs) = simp append_assoc (ap (λ (x : List ℕ). w ++ 32 ∷ x) (sym (append_assoc v (flat_map (λ x. 32 ∷ x) vs) (32 ∷ [])) ∙ spaced_ended v vs ∙ append_assoc v (32 ∷ []) (flat_map (λ x. x ++ 32 ∷ []) vs)))

pub spaced_one : (w v : List ℕ) (ws vs : List (List ℕ)) → Each (Lacks 32) (w ∷ ws) → Each (Lacks 32) (v ∷ vs) → spaced (w ∷ ws) ≡ spaced (v ∷ vs) → w ∷ ws ≡ v ∷ vs
spaced_one w v ws vs h k e =
    ended_one 32 (λ x. x) (Lacks 32) (λ x i. i) (λ x y i j s. s) (w ∷ ws) (v ∷ vs) h k (sym (spaced_ended w ws) ∙ ap (λ (x : List ℕ). x ++ 32 ∷ []) e ∙ spaced_ended v vs)

pub Lacks-spaced : (b : ℕ) → 32 ≢ b → (ws : List (List ℕ)) → Each (Lacks b) ws → Lacks b (spaced ws)
Lacks-spaced b ne [] h = tt
Lacks-spaced b ne (w ∷ ws) h = Lacks-append b w (flat_map (λ v. 32 ∷ v) ws) h.0 (more ws h.1)
  where
    more : (vs : List (List ℕ)) → Each (Lacks b) vs → Lacks b (flat_map (λ v. 32 ∷ v) vs)
    more [] k = tt
    more (v ∷ vs) k = (ne, Lacks-append b v (flat_map (λ v. 32 ∷ v) vs) k.0 (more vs k.1))

-- ---- numbers

module _ (P : ℕ → Type 0) (glyph : (d : ℕ) → d < 10 → P (48 + d)) where
  digits-each : (k n : ℕ) (acc : List ℕ) → Each P acc → Each P (digits_onto k 10 false n acc)
  digits-each zero n acc h = h
  digits-each (suc k) n acc h = by (n / 10 == 0) (digits-each k (n / 10) (digit_glyph false (n % 10) ∷ acc) more)
    where
      digit : (d : ℕ) → d < 10 → P (digit_glyph false d)
      digit d lt = rw (lt-ltb d 10 lt) (glyph d lt)

      more : Each P (digit_glyph false (n % 10) ∷ acc)
      more = (digit (n % 10) (omega arith), h)

      by : (t : Bool) → Each P (digits_onto k 10 false (n / 10) (digit_glyph false (n % 10) ∷ acc)) → Each P (if t then digit_glyph false (n % 10) ∷ acc else digits_onto k 10 false (n / 10) (digit_glyph false (n % 10) ∷ acc))
      by true rest = more
      by false rest = rest

  -- of the digits of numbers of any size
  pub decimal-each : (n : ℕ) → Each P (decimal n)
  unfolding digits
  decimal-each n = digits-each 64 n [] tt

pub Lacks-decimal : (b n : ℕ) → b < 48 → Lacks b (decimal n)
Lacks-decimal b n lt = decimal-each (λ x. x ≢ b) (λ d small e. omega (arith, lt, e)) n

pub IsBytes-decimal : (n : ℕ) → IsBytes (decimal n)
IsBytes-decimal n = decimal-each (λ x. x < 256) (λ d small. omega (arith, small)) n

pub signed-bytes : (z : ℤ) → IsBytes (signed_decimal z)
signed-bytes (pos n) = IsBytes-decimal n
signed-bytes (negsuc n) = (omega arith, IsBytes-decimal (n + 1))

pub signed_one : (y z : ℤ) → IsWithin (2 ^ 62) y → IsWithin (2 ^ 62) z → signed_decimal y ≡ signed_decimal z → y ≡ z
signed_one y z h k e = some_is (sym (signed_of-text (2 ^ 62) y (omega arith) h) ∙ ap (signed_of (2 ^ 62)) e ∙ signed_of-text (2 ^ 62) z (omega arith) k)
