-- Which chunks are taken, and what a chunk that is taken shows of the bytes that it begins.
use Rattle.std.proofs.Common.{◌≡◌, ℕ, zero, suc, ◌+◌, ◌-◌, ◌<◌, ◌≤◌, ◌^◌, nat_lt, if◌then◌else◌, [], ◌∷◌, ◌++◌, length, take, drop, Option, None, Some, refl, sym, ap, ◌∙◌, arith, append_assoc, length-append, length-drop}
use Rattle.std.proofs.lemmas.Nat.{be_bytes_4}
use Rattle.std.proofs.lemmas.Bool.Decides.{nat_tests}
use Rattle.std.proofs.lemmas.List.{take-append-drop, drop-drop, length-take-le}
use Rattle.byteorder.specs.Endian.{big_number, big_bytes}
use Rattle.byteorder.specs.Numbers.{big_from-take}
use Rattle.text_model.specs.Text.{Bytes, IsBytes}
use Rattle.text_model.specs.Fault.{Refusal, reach, input_limit}
use Rattle.text_model.proofs.ByteLemmas.{IsBytes-take, IsBytes-at}
use Rattle.text_model.proofs.FaultLemmas.{within-reach}
use Rattle.hg_model.specs.Chunk.{field_of, field_fault, need_of, chunk_text, chunk_fault, first_payload, or_else}
use Rattle.hg_model.proofs.ChunkLemmas.{length-chunk, field_of-length, chunk_of_field}
use Rattle.hg_model.proofs.FramingLemmas.{number_first}

-- ---- the bytes of a chunk that is taken

-- a chunk within the limits, of its field and of the input
pub chunk_none : (most at : ℕ) (payload rest : Bytes) → field_of payload ≤ most → most < 2 ^ 31 → at + length (chunk_text payload ++ rest) ≤ input_limit
    → chunk_fault most at (chunk_text payload ++ rest) ≡ None
unfolding chunk_fault
chunk_none most at [] rest fits small within =
    let size = length-append (chunk_text []) rest in
    let chunk = length-chunk [] in
    rw (number_first [] rest (omega arith)) (grind (arith, nat_tests, size, chunk))
chunk_none most at (byte ∷ bytes) rest fits small within =
    let size = length-append (chunk_text (byte ∷ bytes)) rest in
    let chunk = length-chunk (byte ∷ bytes) in
    rw (number_first (byte ∷ bytes) rest (omega arith)) (grind (arith, nat_tests, size, chunk))

-- ---- the chunk of bytes that are taken

pub or_else_none : (first later : Option Refusal) → or_else first later ≡ None → (first ≡ None) × (later ≡ None)
or_else_none None later e = (refl, e)
or_else_none (Some why) later e = absurd cc

-- the length of a chunk that isn't empty
field_none : (most at n : ℕ) → 0 < n → field_fault most at n ≡ None → (5 ≤ n) × (n < 2 ^ 31) × (n ≤ most)
field_none most at n some fits = (grind (arith, nat_tests), grind (arith, nat_tests), grind (arith, nat_tests))

has_field : (most at len n : ℕ) (later : Option Refusal) → (if nat_lt len 4 then reach (at + len) (at + 4) else later) ≡ None → (4 ≤ len) × (later ≡ None)
has_field most at len n later fits = (grind (arith, nat_tests), grind (arith, nat_tests))

-- the four bytes of a field are those of its number
field_bytes : (bytes : Bytes) → IsBytes bytes → 4 ≤ length bytes → big_bytes 4 (big_number 4 bytes) ≡ take 4 bytes
field_bytes bytes are enough =
    be_bytes_4 (take 4 bytes) (big_number 4 bytes) (length-take-le 4 bytes enough) (λ i. IsBytes-at (take 4 bytes) (IsBytes-take 4 bytes are) i) (sym (big_from-take 0 4 4 bytes (omega arith)) ∙ omega arith)

-- what a chunk that is taken shows of the bytes that it begins
pub record Begins (most at : ℕ) (payload bytes rest : Bytes) : Type 0 where
  pub text : bytes ≡ chunk_text payload ++ rest
  pub field : field_of payload ≤ most
  pub within : at + (length payload + 4) ≤ input_limit

begins_text : (n : ℕ) (payload rest bytes : Bytes) → IsBytes bytes → 4 ≤ length bytes → n ≡ big_number 4 bytes → n ≡ field_of payload → payload ++ rest ≡ drop 4 bytes → bytes ≡ chunk_text payload ++ rest
begins_text n payload rest bytes are enough number size split =
    sym (take-append-drop 4 bytes)
    ∙ ap (λ (l : Bytes). l ++ drop 4 bytes) (sym (field_bytes bytes are enough) ∙ ap (big_bytes 4) (sym number))
    ∙ ap (λ (l : Bytes). big_bytes 4 n ++ l) (sym split)
    ∙ sym (append_assoc (big_bytes 4 n) payload rest)
    ∙ ap (λ (l : Bytes). l ++ rest) (chunk_of_field n payload size)

needs : (n : ℕ) → 5 ≤ n → n < 2 ^ 31 → need_of n ≡ n
needs n low high = grind (arith, nat_tests)

begins_by : (most at n : ℕ) (bytes : Bytes) → IsBytes bytes → n ≡ big_number 4 bytes → 4 ≤ length bytes → reach (at + length bytes) (at + need_of n) ≡ None → field_fault most at n ≡ None
    → Begins most at (take (n - 4) (drop 4 bytes)) bytes (drop (length (take (n - 4) (drop 4 bytes)) + 4) bytes)
begins_by most at zero bytes are e enough reached fits = record {
  text = begins_text 0 [] (drop 4 bytes) bytes are enough e refl refl;
  field = omega arith;
  within = (within-reach _ _ reached).1;
}
begins_by most at (suc m) bytes are e enough reached fits =
    let n : ℕ = suc m in
    let payload : Bytes = take (n - 4) (drop 4 bytes) in
    let field = field_none most at n (omega arith) fits in
    let need = needs n field.0 field.1 in
    let whole = within-reach (at + length bytes) (at + need_of n) reached in
    let size : length payload ≡ n - 4 = length-take-le (n - 4) (drop 4 bytes) (omega (arith, length-drop 4 bytes, need, whole.0)) in
    let number : n ≡ field_of payload = sym (field_of-length payload (omega (arith, size, field.0)) ∙ omega (arith, size, field.0)) in
    let total : length payload + 4 ≡ 4 + (n - 4) = omega (arith, size) in
    let behind : payload ++ drop (length payload + 4) bytes ≡ drop 4 bytes =
    ap (λ (k : ℕ). payload ++ drop k bytes) total ∙ ap (λ (l : Bytes). payload ++ l) (sym (drop-drop (n - 4) 4 bytes)) ∙ take-append-drop (n - 4) (drop 4 bytes) in record {
      text = begins_text n payload (drop (length payload + 4) bytes) bytes are enough e number behind;
      field = omega (arith, number, field.2);
      within = omega (arith, size, need, whole.1, field.0);
    }

pub chunk_begins : (most at : ℕ) (bytes : Bytes) → IsBytes bytes → chunk_fault most at bytes ≡ None
    → Begins most at (first_payload bytes) bytes (drop (length (first_payload bytes) + 4) bytes)
unfolding chunk_fault first_payload
chunk_begins most at bytes are fits =
    let field = has_field most at (length bytes) (big_number 4 bytes) _ fits in
    let judged = or_else_none _ _ field.1 in
    begins_by most at (big_number 4 bytes) bytes are refl field.0 judged.0 judged.1
