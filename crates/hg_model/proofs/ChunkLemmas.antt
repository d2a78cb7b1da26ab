-- What the first bytes of a text say of the chunk that it begins with.
use Rattle.std.proofs.Common.{◌≡◌, ℕ, ◌+◌, ◌<◌, ◌≤◌, ◌^◌, List, [], ◌∷◌, ◌++◌, length, refl, sym, ap, ◌∙◌, arith, append_assoc, length-append, take, drop}
use Rattle.std.proofs.lemmas.List.{take_at, drop_at}
use Rattle.byteorder.specs.Endian.{big_bytes, big_number}
use Rattle.byteorder.specs.Numbers.{length-bytes_high_first, big_number-reads_back}
use Rattle.text_model.specs.Text.{Bytes, IsBytes}
use Rattle.text_model.proofs.ByteLemmas.{IsBytes-append}
use Rattle.hg_model.specs.Chunk.{chunk_text, field_of}

pub length-chunk : (payload : List ℕ) → length (chunk_text payload) ≡ length payload + 4
unfolding chunk_text
length-chunk payload = omega (arith, length-append (big_bytes 4 (field_of payload)) payload, length-bytes_high_first 4 (field_of payload))

-- the field of a payload that is not empty
pub field_of-length : (payload : List ℕ) → 0 < length payload → field_of payload ≡ length payload + 4
field_of-length [] some = absurd (omega arith)
field_of-length (byte ∷ bytes) some = refl

-- payloads with one field have one length
field_of-equal : (payload other : List ℕ) → field_of payload ≡ field_of other → length payload ≡ length other
field_of-equal [] [] e = refl
field_of-equal [] (x ∷ xs) e = absurd (omega arith)
field_of-equal (x ∷ xs) [] e = absurd (omega arith)
field_of-equal (x ∷ xs) (y ∷ ys) e = omega arith

-- the empty payload alone has field 0
pub field_of-zero : (payload : List ℕ) → field_of payload ≡ 0 → payload ≡ []
field_of-zero [] none = refl
field_of-zero (byte ∷ bytes) none = absurd (omega arith)

pub field_of-small : (payload : List ℕ) → 0 < field_of payload → (5 ≤ field_of payload) × (field_of payload ≡ length payload + 4)
field_of-small [] some = absurd (omega arith)
field_of-small (byte ∷ bytes) some = (omega arith, refl)

-- a field and a payload of the length that it says are a chunk
pub chunk_of_field : (n : ℕ) (payload : List ℕ) → n ≡ field_of payload → big_bytes 4 n ++ payload ≡ chunk_text payload
unfolding chunk_text
chunk_of_field n payload e = ap (λ (k : ℕ). big_bytes 4 k ++ payload) e

-- the number in the field of a chunk
pub number_of_chunk : (n : ℕ) (rest payload more : List ℕ) → n < 2 ^ 32 → field_of payload < 2 ^ 32 → big_bytes 4 n ++ rest ≡ chunk_text payload ++ more → n ≡ field_of payload
unfolding chunk_text
number_of_chunk n rest payload more small fits e =
    sym (big_number-reads_back 4 n rest (omega arith))
    ∙ ap (big_number 4) (e ∙ append_assoc (big_bytes 4 (field_of payload)) payload more)
    ∙ big_number-reads_back 4 (field_of payload) (payload ++ more) (omega arith)

-- no chunk is the front of another
pub same_chunk : (payload other rest more : List ℕ) → field_of payload < 2 ^ 32 → field_of other < 2 ^ 32 → chunk_text payload ++ rest ≡ chunk_text other ++ more
    → (payload ≡ other) × (rest ≡ more)
unfolding chunk_text
same_chunk payload other rest more fits other_fits e =
    let number = number_of_chunk (field_of payload) (payload ++ rest) other more fits other_fits (sym (append_assoc (big_bytes 4 (field_of payload)) payload rest) ∙ e) in
    let size : length payload ≡ length other = field_of-equal payload other number in
    let longer : length (chunk_text payload) ≡ length (chunk_text other) = omega (arith, length-chunk payload, length-chunk other, size) in
    let bodies : chunk_text payload ≡ chunk_text other = sym (take_at (chunk_text payload) rest (length (chunk_text payload)) refl) ∙ ap (λ (l : List ℕ). take (length (chunk_text payload)) l) e ∙ take_at (chunk_text other) more (length (chunk_text payload)) (sym longer) in (
      sym (drop_at (big_bytes 4 (field_of payload)) payload 4 refl) ∙ ap (λ (l : List ℕ). drop 4 l) bodies ∙ drop_at (big_bytes 4 (field_of other)) other 4 refl,
      sym (drop_at (chunk_text payload) rest (length (chunk_text payload)) refl) ∙ ap (λ (l : List ℕ). drop (length (chunk_text payload)) l) e ∙ drop_at (chunk_text other) more (length (chunk_text payload)) (sym longer),
    )

-- the chunk of bytes is bytes
pub IsBytes-chunk : (payload : Bytes) → IsBytes payload → IsBytes (chunk_text payload)
unfolding chunk_text
IsBytes-chunk payload are = IsBytes-append (big_bytes 4 (field_of payload)) payload (omega arith, (omega arith, (omega arith, (omega arith, tt)))) are
