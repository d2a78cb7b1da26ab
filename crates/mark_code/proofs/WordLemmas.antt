-- Words with one space between each two, and what stands in none of them.
use Rattle.std.proofs.Common.{◌≡◌, ◌≢◌, ◌<◌, ◌+◌, ◌==◌, ◌/◌, ◌%◌, ℕ, zero, suc, Bool, true, false, List, [], ◌∷◌, ◌++◌, Option, Some, None, refl, ap, subst, ◌∙◌, append-nil, arith, eqb-true}
use Rattle.std.specs.Prelude.{decimal, nat_lt, if◌then◌else◌}
use Rattle.std.specs.Fmt.{digits, digits_onto, digit_glyph}
use Rattle.std.specs.List.{slice_split, flat_map}
use Rattle.text_model.specs.Lists.{Each}
use Rattle.text_model.specs.Text.{Bytes, sp, spaced}
use Rattle.text_model.specs.Cuts.{Lacks, cut_of}
use Rattle.text_model.proofs.CutLemmas.{cut_of-at, cut_of-takes}
use Rattle.text_model.proofs.LackLemmas.{Lacks-append, Lacks-rest}
use Rattle.mark_code.proofs.PathsLemmas.{pieces-cut, pieces-one}

-- ---- cutting at a byte

-- where the byte is nowhere, nothing is cut off
pub cut-none : (b : ℕ) (text : Bytes) → Lacks b text → cut_of b text ≡ None
cut-none b text h = by (cut_of b text) refl
  where
    by : (r : Option (Bytes × Bytes)) → cut_of b text ≡ r → cut_of b text ≡ None
    by None r = r
    by (Some p) r =
        let t = cut_of-takes b text p.0 p.1 r in
        absurd ((Lacks-rest b p.0 (b ∷ p.1) (subst (Lacks b) t.0 h)).0 refl)

-- the first word is cut off
pub cut-word : (w v : Bytes) (vs : List Bytes) → Lacks sp w → cut_of sp (spaced (w ∷ v ∷ vs)) ≡ Some (w, spaced (v ∷ vs))
cut-word w v vs h = cut_of-at sp w (spaced (v ∷ vs)) h

pub one-word : (w : Bytes) → spaced (w ∷ []) ≡ w
one-word w = append-nil w

-- a word and a space before the others
pub joined : (text w v rest u : Bytes) (us : List Bytes) → text ≡ w ++ sp ∷ rest → w ≡ v → rest ≡ spaced (u ∷ us) → text ≡ spaced (v ∷ u ∷ us)
joined text w v rest u us whole first others = whole ∙ (λ i. first i ++ sp ∷ others i)

-- ---- the texts between the spaces

pub pieces-spaced : (w : Bytes) (ws : List Bytes) → Each (Lacks sp) (w ∷ ws) → slice_split (λ b. b == sp) (spaced (w ∷ ws)) ≡ w ∷ ws
pieces-spaced w [] h = ap (slice_split (λ b. b == sp)) (append-nil w) ∙ pieces-one w h.0
pieces-spaced w (v ∷ vs) h = pieces-cut w (spaced (v ∷ vs)) h.0 ∙ ap (λ (ps : List Bytes). w ∷ ps) (pieces-spaced v vs h.1)

pub record Pieces (text : Bytes) : Type 0 where
  pub first : Bytes
  pub others : List Bytes
  pub split : slice_split (λ b. b == sp) text ≡ first ∷ others
  pub whole : text ≡ spaced (first ∷ others)

pub pieces : (text : Bytes) → Pieces text
pieces [] = record { first = []; others = []; split = refl; whole = refl }
pieces (b ∷ text) = by (b == sp) refl (pieces text)
  where
    by : (t : Bool) → (b == sp) ≡ t → Pieces text → Pieces (b ∷ text)
    by true t p = record { first = []; others = p.first ∷ p.others; split = rw (t, p.split) refl; whole = λ i. eqb-true b 32 t i ∷ p.whole i }
    by false t p = record { first = b ∷ p.first; others = p.others; split = rw (t, p.split) refl; whole = λ i. b ∷ p.whole i }

-- ---- bytes that stand nowhere

pub Lacks-spaced : (b : ℕ) → sp ≢ b → (ws : List Bytes) → Each (Lacks b) ws → Lacks b (spaced ws)
Lacks-spaced b other [] h = tt
Lacks-spaced b other (w ∷ ws) h = Lacks-append b w (flat_map (λ v. sp ∷ v) ws) h.0 (more ws h.1)
  where
    more : (vs : List Bytes) → Each (Lacks b) vs → Lacks b (flat_map (λ v. sp ∷ v) vs)
    more [] k = tt
    more (v ∷ vs) k = (other, Lacks-append b v (flat_map (λ v. sp ∷ v) vs) k.0 (more vs k.1))

digits-lack : (b : ℕ) → b < 48 → (k n : ℕ) (acc : Bytes) → Lacks b acc → Lacks b (digits_onto k 10 false n acc)
digits-lack b lt zero n acc h = h
digits-lack b lt (suc k) n acc h = by (n / 10 == 0) (digits-lack b lt k (n / 10) (digit_glyph false (n % 10) ∷ acc) more)
  where
    glyph : (t : Bool) (d : ℕ) → (if t then 48 + d else 87 + d) ≢ b
    glyph true d e = absurd (omega arith)
    glyph false d e = absurd (omega arith)

    more : Lacks b (digit_glyph false (n % 10) ∷ acc)
    more = (glyph (nat_lt (n % 10) 10) (n % 10), h)

    by : (t : Bool) → Lacks b (digits_onto k 10 false (n / 10) (digit_glyph false (n % 10) ∷ acc)) → Lacks b (if t then digit_glyph false (n % 10) ∷ acc else digits_onto k 10 false (n / 10) (digit_glyph false (n % 10) ∷ acc))
    by true rest = more
    by false rest = rest

-- no decimal has a byte below the digits
pub decimal-lacks : (b n : ℕ) → b < 48 → Lacks b (decimal n)
unfolding digits
decimal-lacks b n lt = digits-lack b lt 64 n [] tt
