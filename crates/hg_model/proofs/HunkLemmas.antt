-- A hunk is read as it was written, and what is read of bytes was written there.
use Rattle.std.proofs.Common.{◌≡◌, ℕ, zero, suc, ◌+◌, ◌-◌, ◌^◌, ◌<◌, ◌≤◌, Bool, true, false, cond, ltb, ◌||◌, [], ◌∷◌, ◌++◌, length, get_or, take, drop, Some, None, refl, sym, ap, subst, ◌∙◌, append_assoc, arith, inl, inr}
use Rattle.std.specs.Prelude.{slice_range}
use Rattle.std.proofs.lemmas.Bool.{cases_lt, ltb-false, le-ltb, or_parts}
use Rattle.std.proofs.lemmas.List.{take_at, drop_at, drop-drop, take-append-drop, length-append, length-take, length-drop, get_or-drop, get_or-take, get_or_past}
use Rattle.std.proofs.lemmas.List.Folds.{drop_split}
use Rattle.std.proofs.lemmas.List.Edits.{length-between}
use Rattle.std.proofs.lemmas.Nat.{be_bytes_4}
use Rattle.byteorder.specs.Numbers.{big_number-reads_back}
use Rattle.text_model.specs.Text.{Bytes, IsBytes}
use Rattle.hg_model.specs.Delta.{Hunk, number32, first_number32, hunk_text, IsHunk, first_hunk}

-- each is a byte, by its index
abbrev pub AreBytes : Bytes → Type 0
AreBytes bytes = (i : ℕ) → get_or bytes i 0 < 256

pub AreBytes-each : (bytes : Bytes) → IsBytes bytes → AreBytes bytes
AreBytes-each [] h i = omega arith
AreBytes-each (b ∷ bytes) h zero = h.0
AreBytes-each (b ∷ bytes) h (suc i) = AreBytes-each bytes h.1 i

pub AreBytes-drop : (n : ℕ) (bytes : Bytes) → AreBytes bytes → AreBytes (drop n bytes)
AreBytes-drop n bytes h i = rw get_or-drop (h (n + i))

pub AreBytes-take : (n : ℕ) (bytes : Bytes) → AreBytes bytes → AreBytes (take n bytes)
AreBytes-take n bytes h i =
    elim (cases_lt i n) [
      | inl lt ↦ rw (get_or-take n bytes i 0 lt) (h i)
      | inr le ↦ rw (get_or_past (take n bytes) i 0 (omega (arith, length-take n bytes))) (omega arith)
    ]

-- a number has four bytes
pub length-number32 : (n : ℕ) → length (number32 n) ≡ 4
unfolding number32
length-number32 n = refl

-- what was written is read
pub first_number32-number32 : (n : ℕ) (rest : Bytes) → n < 2 ^ 32 → first_number32 (number32 n ++ rest) ≡ n
unfolding number32 first_number32
first_number32-number32 n rest lt = big_number-reads_back 4 n rest lt

-- what was read was written
pub number32-first_number32 : (bytes : Bytes) → 4 ≤ length bytes → AreBytes bytes → number32 (first_number32 bytes) ≡ take 4 bytes
unfolding number32 first_number32
number32-first_number32 (a ∷ b ∷ d ∷ e ∷ bytes) long fits =
    be_bytes_4 (a ∷ b ∷ d ∷ e ∷ []) (first_number32 (a ∷ b ∷ d ∷ e ∷ bytes)) refl (AreBytes-take 4 (a ∷ b ∷ d ∷ e ∷ bytes) fits) (omega arith)
number32-first_number32 [] long fits = absurd (omega arith)
number32-first_number32 (a ∷ []) long fits = absurd (omega arith)
number32-first_number32 (a ∷ b ∷ []) long fits = absurd (omega arith)
number32-first_number32 (a ∷ b ∷ d ∷ []) long fits = absurd (omega arith)

pub first_number32-lt : (bytes : Bytes) → AreBytes bytes → first_number32 bytes < 2 ^ 32
unfolding first_number32
first_number32-lt bytes fits = omega (arith, fits 0, fits 1, fits 2, fits 3)

-- the value of a choice that isn't `None`
some_of_choice : {A : Type 0} (b : Bool) (x y : A) → cond b None (Some x) ≡ Some y → (b ≡ false) × (x ≡ y)
some_of_choice true x y e = absurd cc
some_of_choice false x y e = (refl, cc)

-- the hunk at the beginning of bytes that hold one
pub whole_hunk : Bytes → Hunk
whole_hunk bytes = record { start = first_number32 bytes; finish = first_number32 (drop 4 bytes); bytes = slice_range bytes 12 (12 + first_number32 (drop 8 bytes)) }

-- what is known of a hunk that was read
pub record Reads (bytes : Bytes) (h : Hunk) (rest : Bytes) : Type 0 where
  pub long : 12 + first_number32 (drop 8 bytes) ≤ length bytes
  pub size : length h.bytes ≡ first_number32 (drop 8 bytes)
  pub start : h.start ≡ first_number32 bytes
  pub finish : h.finish ≡ first_number32 (drop 4 bytes)
  pub part : h.bytes ≡ slice_range bytes 12 (12 + first_number32 (drop 8 bytes))
  pub rest_is : rest ≡ drop (12 + first_number32 (drop 8 bytes)) bytes

pub first_hunk-reads : (bytes : Bytes) (h : Hunk) (rest : Bytes) → first_hunk bytes ≡ Some (h, rest) → Reads bytes h rest
unfolding first_hunk
first_hunk-reads bytes h rest e =
    let size = first_number32 (drop 8 bytes) in
    let made : Hunk × Bytes = (record { start = first_number32 bytes; finish = first_number32 (drop 4 bytes); bytes = slice_range bytes 12 (12 + size) }, drop (12 + size) bytes) in
    let g = some_of_choice (ltb (length bytes) 12 || ltb (length bytes) (12 + size)) made (h, rest) e in
    let tests = or_parts (ltb (length bytes) 12) (ltb (length bytes) (12 + size)) g.0 in
    let long : 12 + size ≤ length bytes = ltb-false _ _ tests.1 in
    subst (λ (p : Hunk × Bytes). Reads bytes p.0 p.1) g.1 (record { long = long; size = omega (arith, length-between bytes 12 (12 + size) long); start = refl; finish = refl; part = refl; rest_is = refl })

-- the bytes that were read, counted
pub first_hunk-length : (bytes : Bytes) (h : Hunk) (rest : Bytes) → first_hunk bytes ≡ Some (h, rest) → length bytes ≡ 12 + length h.bytes + length rest
first_hunk-length bytes h rest e =
    let r = first_hunk-reads bytes h rest e in
    omega (arith, r.long, r.size, length-drop (12 + first_number32 (drop 8 bytes)) bytes, ap length r.rest_is)

-- what was read is the text of the hunk
pub first_hunk-spells : (bytes : Bytes) (h : Hunk) (rest : Bytes) → AreBytes bytes → first_hunk bytes ≡ Some (h, rest) → (bytes ≡ hunk_text h ++ rest) × IsHunk h × AreBytes rest
first_hunk-spells bytes h rest fits e =
    let r = first_hunk-reads bytes h rest e in
    let n = first_number32 (drop 8 bytes) in
    let long : 12 ≤ length bytes = omega (arith, r.long) in
    let a : bytes ≡ take 4 bytes ++ drop 4 bytes = sym (take-append-drop 4 bytes) in
    let b : drop 4 bytes ≡ take 4 (drop 4 bytes) ++ drop 8 bytes = sym (take-append-drop 4 (drop 4 bytes)) ∙ ap (λ (t : Bytes). take 4 (drop 4 bytes) ++ t) (drop-drop 4 4 bytes) in
    let d : drop 8 bytes ≡ take 4 (drop 8 bytes) ++ drop 12 bytes = sym (take-append-drop 4 (drop 8 bytes)) ∙ ap (λ (t : Bytes). take 4 (drop 8 bytes) ++ t) (drop-drop 4 8 bytes) in
    let f : drop 12 bytes ≡ h.bytes ++ rest = drop_split bytes 12 (12 + n) (omega arith) ∙ sym (ap (λ (t : Bytes). t ++ drop (12 + n) bytes) r.part) ∙ sym (ap (λ (t : Bytes). h.bytes ++ t) r.rest_is) in
    let first : take 4 bytes ≡ number32 h.start = sym (number32-first_number32 bytes (omega arith) fits) ∙ ap number32 (sym r.start) in
    let second : take 4 (drop 4 bytes) ≡ number32 h.finish = sym (number32-first_number32 (drop 4 bytes) (omega (arith, length-drop 4 bytes)) (AreBytes-drop 4 bytes fits)) ∙ ap number32 (sym r.finish) in
    let third : take 4 (drop 8 bytes) ≡ number32 (length h.bytes) = sym (number32-first_number32 (drop 8 bytes) (omega (arith, length-drop 8 bytes)) (AreBytes-drop 8 bytes fits)) ∙ ap number32 (sym r.size) in
    let joined : bytes ≡ number32 h.start ++ (number32 h.finish ++ (number32 (length h.bytes) ++ (h.bytes ++ rest))) = cc in
    let start_fits : h.start < 2 ^ 32 = rw r.start (first_number32-lt bytes fits) in
    let finish_fits : h.finish < 2 ^ 32 = rw r.finish (first_number32-lt (drop 4 bytes) (AreBytes-drop 4 bytes fits)) in
    let size_fits : length h.bytes < 2 ^ 32 = rw r.size (first_number32-lt (drop 8 bytes) (AreBytes-drop 8 bytes fits)) in
    (joined ∙ simp append_assoc, (start_fits, finish_fits, size_fits), rw r.rest_is (AreBytes-drop (12 + n) bytes fits))

-- a hunk is read from its numbers and its bytes
read_again : (a b d : Bytes) (h : Hunk) (rest : Bytes) → length a ≡ 4 → length b ≡ 4 → length d ≡ 4
    → first_number32 (a ++ (b ++ (d ++ (h.bytes ++ rest)))) ≡ h.start → first_number32 (b ++ (d ++ (h.bytes ++ rest))) ≡ h.finish → first_number32 (d ++ (h.bytes ++ rest)) ≡ length h.bytes
    → first_hunk (a ++ (b ++ (d ++ (h.bytes ++ rest)))) ≡ Some (h, rest)
unfolding first_hunk
read_again a b d h rest la lb ld start finish size =
    let whole : Bytes = a ++ (b ++ (d ++ (h.bytes ++ rest))) in
    let n = length h.bytes in
    let past_start : drop 4 whole ≡ b ++ (d ++ (h.bytes ++ rest)) = drop_at a (b ++ (d ++ (h.bytes ++ rest))) 4 la in
    let past_finish : drop 8 whole ≡ d ++ (h.bytes ++ rest) = sym (drop-drop 4 4 whole) ∙ ap (λ (t : Bytes). drop 4 t) past_start ∙ drop_at b (d ++ (h.bytes ++ rest)) 4 lb in
    let past_size : drop 12 whole ≡ h.bytes ++ rest = sym (drop-drop 4 8 whole) ∙ ap (λ (t : Bytes). drop 4 t) past_finish ∙ drop_at d (h.bytes ++ rest) 4 ld in
    let past_all : drop (12 + n) whole ≡ rest = sym (drop-drop n 12 whole) ∙ ap (λ (t : Bytes). drop n t) past_size ∙ drop_at h.bytes rest n refl in
    let count : length whole ≡ 12 + n + length rest = simp length-append (omega arith) in
    let part : slice_range whole 12 (12 + n) ≡ h.bytes = ap (λ (t : Bytes). take (12 + n - 12) t) past_size ∙ take_at h.bytes rest (12 + n - 12) (omega arith) in
    let tests : (ltb (length whole) 12 || ltb (length whole) (12 + n)) ≡ false = rw (le-ltb (length whole) 12 (omega arith), le-ltb (length whole) (12 + n) (omega arith)) refl in
    let number : first_number32 (drop 8 whole) ≡ n = ap first_number32 past_finish ∙ size in
    rw (number, tests, start, ap first_number32 past_start ∙ finish, part, past_all) refl

-- a hunk that was written is read, whatever follows it
pub first_hunk-hunk_text : (h : Hunk) (rest : Bytes) → IsHunk h → first_hunk (hunk_text h ++ rest) ≡ Some (h, rest)
first_hunk-hunk_text h rest fits =
    let regrouped : hunk_text h ++ rest ≡ number32 h.start ++ (number32 h.finish ++ (number32 (length h.bytes) ++ (h.bytes ++ rest))) = simp append_assoc in
    ap first_hunk regrouped
    ∙ read_again (number32 h.start) (number32 h.finish) (number32 (length h.bytes)) h rest (length-number32 h.start) (length-number32 h.finish) (length-number32 (length h.bytes))
    (first_number32-number32 h.start (number32 h.finish ++ (number32 (length h.bytes) ++ (h.bytes ++ rest))) fits.0)
    (first_number32-number32 h.finish (number32 (length h.bytes) ++ (h.bytes ++ rest)) fits.1)
    (first_number32-number32 (length h.bytes) (h.bytes ++ rest) fits.2)
