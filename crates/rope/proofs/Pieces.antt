-- Pieces one behind the other.
use Rattle.std.proofs.Common.{◌≡◌, ℕ, List, [], ◌∷◌, ◌++◌, ap, sym, ◌∙◌, append_assoc, append-nil}
use Rattle.std.specs.List.{concat}

-- one piece more
pub concat_push : (pieces : List (List ℕ)) (piece : List ℕ) → concat (pieces ++ piece ∷ []) ≡ concat pieces ++ piece
concat_push [] piece = append-nil piece
concat_push (first ∷ rest) piece = ap (λ (t : List ℕ). first ++ t) (concat_push rest piece) ∙ sym (append_assoc first (concat rest) piece)

-- one piece more, with nothing behind it
pub concat_end : (pieces : List (List ℕ)) (piece : List ℕ) → concat (pieces ++ piece ∷ []) ++ [] ≡ concat pieces ++ piece
concat_end pieces piece = append-nil (concat (pieces ++ piece ∷ [])) ∙ concat_push pieces piece
