-- Where the first line of bytes ends.
use Rattle.std.proofs.Common.{◌≡◌, ◌+◌, ◌≤◌, ◌<◌, List, [], ◌∷◌, ◌++◌, length, take, drop, Some, None, sym, ap, ◌∙◌, append_assoc, arith}
use Rattle.std.proofs.lemmas.List.{take_at, drop_at, take_all, drop_all, length-append}
use Rattle.text_model.specs.Text.{Bytes, whole_lines}
use Rattle.text_model.specs.Cuts.{cut_of}
use Rattle.text_model.proofs.CutLemmas.{cut_of-takes, cut_of-none}
use Rattle.text_model.proofs.LineLemmas.{whole_lines-line, whole_lines-last, whole_lines-none}

-- a first line that has its LF
pub record CutLine (bytes front : Bytes) : Type 0 where
  pub room : length front + 1 ≤ length bytes
  pub lines : whole_lines bytes ≡ take (length front + 1) bytes ∷ whole_lines (drop (length front + 1) bytes)

pub cut_line : (bytes front rest : Bytes) → Some (front, rest) ≡ cut_of 10 bytes → CutLine bytes front
cut_line bytes front rest e =
    let cut = cut_of-takes 10 bytes front rest (sym e) in
    let whole : bytes ≡ (front ++ 10 ∷ []) ++ rest = cut.0 ∙ sym (append_assoc front (10 ∷ []) rest) in
    let long : length (front ++ 10 ∷ []) ≡ length front + 1 = length-append front (10 ∷ []) in
    let first : take (length front + 1) bytes ≡ front ++ 10 ∷ [] = ap (take (length front + 1)) whole ∙ take_at (front ++ 10 ∷ []) rest (length front + 1) long in
    let after : drop (length front + 1) bytes ≡ rest = ap (drop (length front + 1)) whole ∙ drop_at (front ++ 10 ∷ []) rest (length front + 1) long in
    record {
      room = omega (arith, ap (λ (x : Bytes). length x) cut.0, length-append front (10 ∷ rest));
      lines = ap whole_lines cut.0 ∙ whole_lines-line front rest cut.1 ∙ (λ i. sym first i ∷ whole_lines (sym after i));
    }

-- a line that lacks it
pub last_line : (bytes : Bytes) → 0 < length bytes → None ≡ cut_of 10 bytes → whole_lines bytes ≡ take (length bytes) bytes ∷ whole_lines (drop (length bytes) bytes)
last_line [] some e = absurd (omega arith)
last_line (b ∷ bytes) some e =
    let first : take (length (b ∷ bytes)) (b ∷ bytes) ≡ b ∷ bytes = take_all (length (b ∷ bytes)) (b ∷ bytes) (omega arith) in
    let after : drop (length (b ∷ bytes)) (b ∷ bytes) ≡ [] = drop_all (length (b ∷ bytes)) (b ∷ bytes) (omega arith) in
    whole_lines-last b bytes (cut_of-none 10 (b ∷ bytes) (sym e)) ∙ ap (λ (x : List Bytes). (b ∷ bytes) ∷ x) (sym whole_lines-none) ∙ (λ i. sym first i ∷ whole_lines (sym after i))
