-- The line of an object, piece by piece, and fronts.
use Rattle.std.proofs.Common.{◌≡◌, ℕ, ◌≤◌, List, [], ◌∷◌, ◌++◌, length, take, sym, ap, ◌∙◌, arith, append_assoc, append-nil, decimal}
use Rattle.std.proofs.lemmas.List.{length-take, take-take}
use Rattle.text_model.specs.Text.{Bytes}
use Rattle.text_model.specs.Id.{Id, hex, ObjectKind, kind_word}
use Rattle.git_model.specs.Stream.{object_line}

-- what was appended first and then, is appended in all
pub grows : (old a mid b new : List ℕ) → mid ≡ old ++ a → new ≡ mid ++ b → new ≡ old ++ (a ++ b)
grows old a mid b new first second = second ∙ ap (λ (l : List ℕ). l ++ b) first ∙ append_assoc old a b

-- the front of a front
pub front_of_front : (xs ys zs : List ℕ) → take (length ys) xs ≡ ys → take (length zs) ys ≡ zs → take (length zs) xs ≡ zs
front_of_front xs ys zs first second =
    let shorter : length zs ≤ length ys = omega (arith, length-take (length zs) ys, ap length second) in
    sym (take-take (length zs) (length ys) xs shorter) ∙ ap (λ (l : List ℕ). take (length zs) l) first ∙ second

regroup : (a b c : Bytes) → (((a ++ 32 ∷ []) ++ b) ++ 32 ∷ []) ++ c ≡ a ++ (32 ∷ (b ++ (32 ∷ (c ++ []))))
regroup a b c =
    append_assoc ((a ++ 32 ∷ []) ++ b) (32 ∷ []) c
    ∙ append_assoc (a ++ 32 ∷ []) b (32 ∷ c)
    ∙ append_assoc a (32 ∷ []) (b ++ 32 ∷ c)
    ∙ ap (λ (l : List ℕ). a ++ 32 ∷ (b ++ 32 ∷ l)) (sym (append-nil c))

pub line_pieces : (id : Id) (kind : ObjectKind) (size : ℕ) → ((((hex id ++ 32 ∷ []) ++ kind_word kind) ++ 32 ∷ []) ++ decimal size) ++ 10 ∷ [] ≡ object_line id kind size
unfolding object_line
line_pieces id kind size = ap (λ (l : List ℕ). l ++ 10 ∷ []) (regroup (hex id) (kind_word kind) (decimal size))
