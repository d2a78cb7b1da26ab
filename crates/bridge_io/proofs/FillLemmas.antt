-- A buffer that is filled piece by piece.
use Rattle.std.proofs.Common.{◌≡◌, ℕ, ◌+◌, ◌-◌, ◌≤◌, List, ◌++◌, length, take, drop, Option, refl, sym, ap, ◌∙◌, arith, append_assoc, length-append}
use Rattle.std.proofs.KnownBytes.{Consumes-trans}
use Rattle.std.specs.Io.KnownBytes.{Consumes}
use Rattle.std.proofs.lemmas.List.{take-append-le, take-take, take_all, take_at}
use Rattle.std.proofs.Math.Seq.{take-append-add}
use Rattle.std.proofs.lemmas.List.{length-take-le}
use borrow.Rule.Slice.PartMut.{put_mid}

-- the front of a buffer after a write to all behind a place
take_past : (filled n : ℕ) (buf part : List ℕ) → filled ≤ length buf → length part ≡ length buf - filled → n ≤ length part
    → take (filled + n) (put_mid filled (length buf - filled) buf part) ≡ take filled buf ++ take n part
take_past filled n buf part within size fits =
    let past : List ℕ = part ++ drop (length buf - filled) (drop filled buf) in
    ap (λ (k : ℕ). take (k + n) (take filled buf ++ past)) (sym (length-take-le filled buf within))
    ∙ take-append-add (take filled buf) past n
    ∙ ap (λ (l : List ℕ). take filled buf ++ l) (take-append-le n part (drop (length buf - filled) (drop filled buf)) fits)

-- n more bytes of the part behind what is filled
pub filled_more : (old mid new : Option (List ℕ)) (filled n : ℕ) (buf part : List ℕ) → filled ≤ length buf → length part ≡ length buf - filled → n ≤ length part
    → Consumes old mid (take filled buf) → Consumes mid new (take n part)
    → Consumes old new (take (filled + n) (put_mid filled (length buf - filled) buf part))
filled_more old mid new filled n buf part within size fits first second =
    rw (take_past filled n buf part within size fits) (Consumes-trans old mid new (take filled buf) (take n part) first second)

-- so many bytes came, and so many more
pub gave_more : (old mid new : Option (List ℕ)) (came more : ℕ) (buf : List ℕ) → ((bytes : List ℕ) × Consumes old mid bytes × (length bytes ≡ came)) → more ≤ length buf
    → Consumes mid new (take more buf) → (bytes : List ℕ) × Consumes old new bytes × (length bytes ≡ came + more)
gave_more old mid new came more buf so_far fits next = (
  so_far.0 ++ take more buf,
  Consumes-trans old mid new so_far.0 (take more buf) so_far.1 next,
  length-append so_far.0 (take more buf) ∙ omega (arith, so_far.2, length-take-le more buf fits),
)

-- a vector that was lengthened, written from a place on and cut behind what came, keeps what it had before that place
pub piece_behind : (start n len : ℕ) (had buf part past rest : List ℕ) → start ≡ length had → take start buf ≡ had → start ≤ length buf → n ≤ length part → start + n ≤ len
    → take (start + n) (take len ((take start buf ++ (part ++ past)) ++ rest)) ≡ had ++ take n part
piece_behind start n len had buf part past rest size same within fits room =
    let regrouped : (take start buf ++ (part ++ past)) ++ rest ≡ had ++ (part ++ (past ++ rest)) =
    append_assoc (take start buf) (part ++ past) rest ∙ ap (λ (l : List ℕ). l ++ ((part ++ past) ++ rest)) same ∙ ap (λ (l : List ℕ). had ++ l) (append_assoc part past rest) in
    take-take (start + n) len ((take start buf ++ (part ++ past)) ++ rest) room
    ∙ ap (λ (l : List ℕ). take (start + n) l) regrouped
    ∙ ap (λ (k : ℕ). take (k + n) (had ++ (part ++ (past ++ rest)))) size
    ∙ take-append-add had (part ++ (past ++ rest)) n
    ∙ ap (λ (l : List ℕ). had ++ l) (take-append-le n part (past ++ rest) fits)

-- the front of a list that was lengthened
pub front_lengthened : (start room : ℕ) (had more : List ℕ) → start ≡ length had → take start (take (start + room) had ++ more) ≡ had
front_lengthened start room had more size =
    let all : take (start + room) had ≡ had = take_all (start + room) had (omega arith) in
    ap (λ (l : List ℕ). take start (l ++ more)) all ∙ ap (λ (k : ℕ). take k (had ++ more)) size ∙ take_at had more (length had) refl
