-- Pieces one behind the other, of which some are done.
use Rattle.std.proofs.Common.{◌≡◌, ℕ, ◌+◌, ◌<◌, ◌≤◌, List, ◌∷◌, [], ◌++◌, length, get_or, take, drop, ap, sym, ◌∙◌, arith, length-append, append_assoc, Option}
use Rattle.std.specs.List.{concat}
use Rattle.std.specs.Io.KnownBytes.{Appends}
use Rattle.std.proofs.KnownBytes.{Appends-trans}
use Rattle.std.proofs.lemmas.List.{take-append-drop, take_more}
use Rattle.std.proofs.lemmas.List.Folds.{concat-append}
use Rattle.rope.proofs.Pieces.{concat_push}
use Rattle.bridge_io.specs.Sink.{AppendsPrefix}

-- one piece more is done
pub done_more : (pieces : List (List ℕ)) (i : ℕ) (d piece : List ℕ) → i < length pieces → piece ≡ get_or pieces i d → concat (take (i + 1) pieces) ≡ concat (take i pieces) ++ piece
done_more pieces i d piece within is =
    ap concat (take_more pieces i d within ∙ ap (λ (p : List ℕ). take i pieces ++ p ∷ []) (sym is)) ∙ concat_push (take i pieces) piece

-- how many bytes are done with one piece more
pub done_len : (pieces : List (List ℕ)) (i : ℕ) (d piece : List ℕ) → i < length pieces → piece ≡ get_or pieces i d → length (concat (take (i + 1) pieces)) ≡ length (concat (take i pieces)) + length piece
done_len pieces i d piece within is = ap length (done_more pieces i d piece within is) ∙ length-append (concat (take i pieces)) piece

-- those that are done, and those that are left
pub done_and_left : (pieces : List (List ℕ)) (i : ℕ) → concat pieces ≡ concat (take i pieces) ++ concat (drop i pieces)
done_and_left pieces i = ap concat (sym (take-append-drop i pieces)) ∙ concat-append (take i pieces) (drop i pieces)

-- where one more is done, these are no more bytes than all pieces have
pub done_fits : (pieces : List (List ℕ)) (i : ℕ) (d piece : List ℕ) → i < length pieces → piece ≡ get_or pieces i d → length (concat (take i pieces)) + length piece ≤ length (concat pieces)
done_fits pieces i d piece within is = omega (
  arith,
  ap length (done_and_left pieces (i + 1)) ∙ length-append (concat (take (i + 1) pieces)) (concat (drop (i + 1) pieces)),
  done_len pieces i d piece within is,
)

-- where some bytes were taken, and then a front of others, a front of all of them was taken
pub prefix_behind : (old mid new : Option (List ℕ)) (done next : List ℕ) → Appends old mid done → AppendsPrefix mid new next → AppendsPrefix old new (done ++ next)
prefix_behind old mid new done next so_far more =
    (done ++ more.0, more.1, ap (λ (l : List ℕ). done ++ l) more.2 ∙ sym (append_assoc done more.0 more.1), Appends-trans old mid new done more.0 so_far more.3)

-- a front of bytes is one of these and of those behind them
pub prefix_before : (old new : Option (List ℕ)) (bytes behind : List ℕ) → AppendsPrefix old new bytes → AppendsPrefix old new (bytes ++ behind)
prefix_before old new bytes behind more =
    (more.0, more.1 ++ behind, ap (λ (l : List ℕ). l ++ behind) more.2 ∙ append_assoc more.0 more.1 behind, more.3)

-- a piece was taken in part, after those before it
pub prefix_of_pieces : (old mid new : Option (List ℕ)) (pieces : List (List ℕ)) (i : ℕ) (d piece : List ℕ) → i < length pieces → piece ≡ get_or pieces i d
    → Appends old mid (concat (take i pieces)) → AppendsPrefix mid new piece → AppendsPrefix old new (concat pieces)
prefix_of_pieces old mid new pieces i d piece within is so_far more =
    let left : List ℕ = concat (drop (i + 1) pieces) in
    let all : concat pieces ≡ (concat (take i pieces) ++ piece) ++ left = done_and_left pieces (i + 1) ∙ ap (λ (l : List ℕ). l ++ left) (done_more pieces i d piece within is) in
    rw all (prefix_before old new (concat (take i pieces) ++ piece) left (prefix_behind old mid new (concat (take i pieces)) piece so_far more))
