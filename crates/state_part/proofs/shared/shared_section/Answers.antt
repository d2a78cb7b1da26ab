use Rattle.std.proofs.Common.{◌≡◌, ℕ, ◌-◌, [], ◌∷◌, ◌++◌, length, take, drop, sym, ap, subst, ◌∙◌, append_assoc, arith}
use Rattle.std.specs.Prelude.{slice_range, decimal}
use Rattle.std.proofs.lemmas.List.{length-append, take_at, drop_at}
use Rattle.text_model.specs.Text.{Bytes, line, spaced}
use Rattle.state_part.specs.Form.{HasSection}
use Rattle.state_part.proofs.shared.shared_section.Goals as goal

-- what a section says, as a part of the whole text
part-is : (whole front head text rest : Bytes) (start end : ℕ) → whole ≡ front ++ ((head ++ (text ++ 10 ∷ [])) ++ rest) → end ≡ length whole - length rest - 1 → start ≡ end - length text → slice_range whole start end ≡ text
part-is whole front head text rest start end is last first =
    let shape : whole ≡ (front ++ head) ++ (text ++ 10 ∷ rest) =
    is
    ∙ ap (λ (x : Bytes). front ++ x) (append_assoc head (text ++ 10 ∷ []) rest)
    ∙ ap (λ (x : Bytes). front ++ (head ++ x)) (append_assoc text (10 ∷ []) rest)
    ∙ sym (append_assoc front head (text ++ 10 ∷ rest)) in
    let long : length whole ≡ length ((front ++ head) ++ (text ++ 10 ∷ rest)) = ap (λ (x : Bytes). length x) shape in
    let at : length (front ++ head) ≡ start = omega (arith, long, length-append (front ++ head) (text ++ 10 ∷ rest), length-append text (10 ∷ rest), last, first) in
    let count : length text ≡ end - start = omega (arith, long, length-append (front ++ head) (text ++ 10 ∷ rest), length-append text (10 ∷ rest), last, first) in
    ap (λ (x : Bytes). take (end - start) x) (ap (λ (x : Bytes). drop start x) shape ∙ drop_at (front ++ head) (text ++ 10 ∷ rest) start at)
    ∙ take_at text (10 ∷ rest) (end - start) count

pub returns-clause-section : goal.returns-clause-section
returns-clause-section c =
    let word = c.args.word.now in
    let bytes = c.args.bytes.now in
    let text = c.in-Some.found.text.now in
    let rest = c.in-Some.found.rest.now in
    let ends = c.requires.ends in
    let section : HasSection word bytes text rest = c.in-Some.ensures in
    let own : c.in_ok-own.own ≡ text =
    c.in_ok-own.ensures
    ∙ part-is c.args.text.now ends.0 (line (spaced (word ∷ decimal (length text) ∷ []))) text rest _ _ (ends.1 ∙ ap (λ (x : Bytes). ends.0 ++ x) section) (omega (arith, c.len.ensures.value)) (omega arith) in
    subst (λ (t : Bytes). HasSection word bytes t rest) (sym own) section
