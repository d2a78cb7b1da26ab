-- Header lines, one after the other.
use Rattle.std.proofs.Common.{◌≡◌, ◌≢◌, ◌<◌, ◌+◌, ◌-◌, ◌==◌, ℕ, true, false, [], ◌∷◌, ◌++◌, length, take, Some, None, refl, sym, ap, subst, ◌∙◌, arith, append_assoc, append-nil, length-append, true≢false}
use Rattle.std.specs.List.{flat_map}
use Rattle.std.proofs.lemmas.List.{take_at}
use Rattle.std.proofs.lemmas.List.Concat.{flat_map-append}
use Rattle.text_model.specs.Text.{Bytes, IsBytes, lf, line, has_byte}
use Rattle.text_model.specs.Cuts.{cut_of}
use Rattle.text_model.proofs.ByteLemmas.{IsBytes-front, IsBytes-rest}
use Rattle.text_model.proofs.CutLemmas.{cut_of-takes}
use Rattle.text_model.proofs.EachLemmas.{Each-push}
use Rattle.text_model.proofs.TestLemmas.{differs}
use Rattle.text_model.proofs.LackLemmas.{has_byte-lacks}
use Rattle.git_model.specs.Commit.{AreHeaders}
use Rattle.git_object.specs.Lines.{IsCutAt, IsSplit}

-- the text is header lines and then the rest
pub record Headed (text rest : Bytes) : Type 0 where
  pub headers : Bytes
  pub are : AreHeaders headers
  pub whole : text ≡ headers ++ rest
  pub bytes : IsBytes rest

pub Headed-place : (text rest : Bytes) (h : Headed text rest) → length text ≡ length h.headers + length rest
Headed-place text rest h = ap (λ (l : Bytes). length l) h.whole ∙ length-append h.headers rest

pub Headed-none : (text : Bytes) → IsBytes text → Headed text text
Headed-none text bytes = record { headers = []; are = record { lines = []; each = tt; are = refl }; whole = refl; bytes = bytes }

-- a line that isn't blank
pub Headed-more : (text rest front after : Bytes) → Headed text rest → Some (front, after) ≡ cut_of lf rest → false ≡ (length front == 0) → Headed text after
Headed-more text rest front after h cut some =
    let t = cut_of-takes lf rest front after (sym cut) in
    let bytes : IsBytes (front ++ lf ∷ after) = subst IsBytes t.0 h.bytes in
    let is_some : front ≢ [] = λ e. true≢false (sym (some ∙ ap (λ (l : Bytes). length l == 0) e)) in
    record {
      headers = h.headers ++ line front;
      are = record {
        lines = h.are.lines ++ front ∷ [];
        each = Each-push (λ (l : Bytes). (l ≢ []) × (has_byte lf l ≡ false) × IsBytes l) h.are.lines front h.are.each (is_some, has_byte-lacks lf front t.1, IsBytes-front front (lf ∷ after) bytes);
        are = ap (λ (l : Bytes). l ++ line front) h.are.are ∙ ap (λ (l : Bytes). flat_map line h.are.lines ++ l) (sym (append-nil (line front))) ∙ sym (flat_map-append line h.are.lines (front ∷ []));
      };
      whole = h.whole ∙ ap (λ (l : Bytes). h.headers ++ l) (t.0 ∙ sym (append_assoc front (lf ∷ []) after)) ∙ sym (append_assoc h.headers (line front) after);
      bytes = (IsBytes-rest front (lf ∷ after) bytes).1;
    }

-- the blank line
pub Headed-split : (text rest front after headers : Bytes) → Headed text rest → Some (front, after) ≡ cut_of lf rest → true ≡ (length front == 0) → headers ≡ take (length text - length rest) text → IsSplit text headers after
Headed-split text rest front after headers h cut none is =
    let t = cut_of-takes lf rest front after (sym cut) in
    let blank : rest ≡ lf ∷ after = t.0 ∙ ap (λ (l : Bytes). l ++ lf ∷ after) (empty front none) in
    let place : length text - length rest ≡ length h.headers = omega (arith, Headed-place text rest h) in
    let same : headers ≡ h.headers = is ∙ ap (λ (l : Bytes). take (length text - length rest) l) h.whole ∙ ap (λ (n : ℕ). take n (h.headers ++ rest)) place ∙ take_at h.headers rest (length h.headers) refl in
    (subst AreHeaders (sym same) h.are, h.whole ∙ (λ i. sym same i ++ blank i))
  where
    empty : (front : Bytes) → true ≡ (length front == 0) → front ≡ []
    empty [] e = refl
    empty (x ∷ xs) e = absurd (true≢false (e ∙ differs (length (x ∷ xs)) 0 (λ z. absurd (omega (arith, z)))))

-- a line that lacks its LF
pub Headed-cut : (text rest : Bytes) → Headed text rest → None ≡ cut_of lf rest → IsCutAt text (length text - length rest)
Headed-cut text rest h cut = record {
  headers = h.headers;
  rest = rest;
  are = h.are;
  whole = h.whole;
  cut = sym cut;
  place = omega (arith, Headed-place text rest h);
}

pub Headed-shorter : (rest front after : Bytes) → Some (front, after) ≡ cut_of lf rest → length after < length rest
Headed-shorter rest front after cut = omega (arith, ap (λ (l : Bytes). length l) (cut_of-takes lf rest front after (sym cut)).0, length-append front (lf ∷ after))
