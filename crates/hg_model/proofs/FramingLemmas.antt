-- A bundle's framing, one chunk at a time.
use Rattle.std.proofs.Common.{◌≡◌, ℕ, suc, ◌+◌, ◌-◌, ◌<◌, ◌^◌, Bool, true, List, [], ◌∷◌, ◌++◌, length, take, drop, Option, None, Some, refl, ap, ◌∙◌, arith, append_assoc}
use Rattle.std.proofs.lemmas.List.{take_at, drop_at}
use Rattle.byteorder.specs.Endian.{big_bytes, big_number}
use Rattle.byteorder.specs.Numbers.{big_number-reads_back}
use Rattle.text_model.specs.Text.{Bytes}
use Rattle.text_model.specs.Fault.{Refusal}
use Rattle.hg_model.specs.Chunk.{field_of, chunk_text, magic_text, chunk_fault, first_payload, magic_fault, trailing_fault}
use Rattle.hg_model.specs.Bundle.{Place, InGroup, AtPath, Framing, framed_end, put_item, framing_from, bundle_framing, listing_fault, length_limit, place_after, place_after_empty, is_path}
use Rattle.hg_model.specs.Revision.{Changesets, Manifests, FilesAt}
use Rattle.hg_model.proofs.ChunkLemmas.{length-chunk}

-- what follows where the next chunk, or the end, stands at an offset
abbrev pub framing_at : ℕ → Bool → ℕ → Option Place → Bytes → Framing
framing_at fuel first at None rest = framed_end (trailing_fault at rest)
framing_at fuel first at (Some place) rest = framing_from fuel place first at rest

-- the number in the field of a chunk that begins the bytes
pub number_first : (payload rest : Bytes) → field_of payload < 2 ^ 31 → big_number 4 (chunk_text payload ++ rest) ≡ field_of payload
unfolding chunk_text
number_first payload rest fits =
    ap (big_number 4) (append_assoc (big_bytes 4 (field_of payload)) payload rest) ∙ big_number-reads_back 4 (field_of payload) (payload ++ rest) (omega arith)

behind_field : (payload rest : Bytes) → drop 4 (chunk_text payload ++ rest) ≡ payload ++ rest
unfolding chunk_text
behind_field payload rest =
    ap (drop 4) (append_assoc (big_bytes 4 (field_of payload)) payload rest) ∙ drop_at (big_bytes 4 (field_of payload)) (payload ++ rest) 4 refl

pub first_payload_is : (payload rest : Bytes) → field_of payload < 2 ^ 31 → first_payload (chunk_text payload ++ rest) ≡ payload
unfolding first_payload
first_payload_is [] rest fits = ap (λ (n : ℕ). take (n - 4) (drop 4 (chunk_text [] ++ rest))) (number_first [] rest fits)
first_payload_is (x ∷ xs) rest fits =
    ap (λ (n : ℕ). take (n - 4) (drop 4 (chunk_text (x ∷ xs) ++ rest))) (number_first (x ∷ xs) rest fits)
    ∙ ap (λ (l : List ℕ). take ((length (x ∷ xs) + 4) - 4) l) (behind_field (x ∷ xs) rest)
    ∙ take_at (x ∷ xs) rest ((length (x ∷ xs) + 4) - 4) (omega arith)

pub behind_chunk : (payload rest : Bytes) → drop (length payload + 4) (chunk_text payload ++ rest) ≡ rest
behind_chunk payload rest = drop_at (chunk_text payload) rest (length payload + 4) (length-chunk payload)

-- nothing is read behind a chunk that is refused
pub framing_refused : (n : ℕ) (place : Place) (first : Bool) (at : ℕ) (bytes : Bytes) (why : Refusal) → chunk_fault (length_limit place) at bytes ≡ Some why
    → framing_from (suc n) place first at bytes ≡ framed_end (Some why)
unfolding framing_from
framing_refused n place first at bytes why refused = rw (refused, framing_from) refl

pub framing_empty : (n : ℕ) (place : Place) (first : Bool) (at : ℕ) (rest : Bytes) → chunk_fault (length_limit place) at (chunk_text [] ++ rest) ≡ None
    → framing_from (suc n) place first at (chunk_text [] ++ rest) ≡ framing_at n true (at + 4) (place_after_empty place) rest
unfolding framing_from
framing_empty n (InGroup Changesets) first at rest fits = rw (fits, first_payload_is [] rest (omega arith), behind_chunk [] rest, framing_from) refl
framing_empty n (InGroup Manifests) first at rest fits = rw (fits, first_payload_is [] rest (omega arith), behind_chunk [] rest, framing_from) refl
framing_empty n (InGroup (FilesAt path)) first at rest fits = rw (fits, first_payload_is [] rest (omega arith), behind_chunk [] rest, framing_from) refl
framing_empty n AtPath first at rest fits = rw (fits, first_payload_is [] rest (omega arith), behind_chunk [] rest, framing_from) refl

pub framing_item : (n : ℕ) (place : Place) (first : Bool) (at : ℕ) (byte : ℕ) (bytes rest : Bytes) → field_of (byte ∷ bytes) < 2 ^ 31
    → chunk_fault (length_limit place) at (chunk_text (byte ∷ bytes) ++ rest) ≡ None
    → framing_from (suc n) place first at (chunk_text (byte ∷ bytes) ++ rest)
    ≡ put_item (record { place = place; first = first; at = at; payload = byte ∷ bytes })
    (framing_from n (place_after place (byte ∷ bytes)) (is_path place) (at + (length (byte ∷ bytes) + 4)) rest)
unfolding framing_from
framing_item n place first at byte bytes rest small fits = rw (fits, first_payload_is (byte ∷ bytes) rest small, behind_chunk (byte ∷ bytes) rest, framing_from) refl

-- where the magic is refused, so is the listing
pub magic_refused : (bytes : Bytes) (why : Refusal) → magic_fault bytes ≡ Some why → listing_fault bytes ≡ Some why
unfolding bundle_framing
magic_refused bytes why refused = rw (refused, bundle_framing) refl

pub framing_behind_magic : (rest : Bytes) → magic_fault (magic_text ++ rest) ≡ None → bundle_framing (magic_text ++ rest) ≡ framing_from (length (magic_text ++ rest)) (InGroup Changesets) true 6 rest
unfolding bundle_framing
framing_behind_magic rest fits = rw (fits, bundle_framing) refl
