-- Bytes, as a recursion says them and as the code knows them: each index has a number below 256.
use Rattle.std.proofs.Common.{◌<◌, ℕ, zero, suc, List, [], ◌∷◌, ◌++◌, take, drop, arith}
use Rattle.std.specs.Prelude.{slice_index}
use Rattle.text_model.specs.Text.{IsBytes}

-- what the code knows of a slice of bytes
pub IsBytes-by_index : (bytes : List ℕ) → ((i : ℕ) → slice_index bytes i < 256) → IsBytes bytes
IsBytes-by_index [] h = tt
IsBytes-by_index (b ∷ bytes) h = (h 0, IsBytes-by_index bytes (λ i. h (suc i)))

pub IsBytes-at : (bytes : List ℕ) → IsBytes bytes → (i : ℕ) → slice_index bytes i < 256
IsBytes-at [] h i = omega arith
IsBytes-at (b ∷ bytes) h zero = h.0
IsBytes-at (b ∷ bytes) h (suc i) = IsBytes-at bytes h.1 i

pub IsBytes-append : (front rest : List ℕ) → IsBytes front → IsBytes rest → IsBytes (front ++ rest)
IsBytes-append [] rest f r = r
IsBytes-append (b ∷ bytes) rest f r = (f.0, IsBytes-append bytes rest f.1 r)

pub IsBytes-front : (front rest : List ℕ) → IsBytes (front ++ rest) → IsBytes front
IsBytes-front [] rest h = tt
IsBytes-front (b ∷ bytes) rest h = (h.0, IsBytes-front bytes rest h.1)

pub IsBytes-rest : (front rest : List ℕ) → IsBytes (front ++ rest) → IsBytes rest
IsBytes-rest [] rest h = h
IsBytes-rest (b ∷ bytes) rest h = IsBytes-rest bytes rest h.1

pub IsBytes-drop : (n : ℕ) (bytes : List ℕ) → IsBytes bytes → IsBytes (drop n bytes)
IsBytes-drop zero bytes h = h
IsBytes-drop (suc n) [] h = tt
IsBytes-drop (suc n) (b ∷ bytes) h = IsBytes-drop n bytes h.1

pub IsBytes-take : (n : ℕ) (bytes : List ℕ) → IsBytes bytes → IsBytes (take n bytes)
IsBytes-take zero bytes h = tt
IsBytes-take (suc n) [] h = tt
IsBytes-take (suc n) (b ∷ bytes) h = (h.0, IsBytes-take n bytes h.1)
