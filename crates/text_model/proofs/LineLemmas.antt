-- Lines: the first one as a cut at LF, and a text as its lines.
use Rattle.std.proofs.Common.{◌≡◌, ◌<◌, ◌≤◌, ◌+◌, ◌-◌, ◌==◌, eqb-true, ℕ, suc, Bool, true, false, List, [], ◌∷◌, ◌++◌, length, take, drop, Option, Some, None, option_map, position, refl, sym, ap, subst, ◌∙◌, arith, length-append, length-take, length-drop, drop-drop}
use Rattle.std.specs.List.{flat_map}
use Rattle.text_model.proofs.Options.{none_some, some_is, some_none}
use Rattle.text_model.specs.Text.{Bytes, lf, first_line, onto_first_line, whole_lines}
use Rattle.text_model.specs.Cuts.{Lacks, cut_of, place_from}
use Rattle.text_model.proofs.TestLemmas.{differs}
use Rattle.text_model.proofs.CutLemmas.{cut_of-takes, cut_of-none}

pub first_line-at : (front rest : Bytes) → Lacks lf front → first_line (front ++ lf ∷ rest) ≡ Some (front, rest)
first_line-at [] rest h = refl
first_line-at (b ∷ bytes) rest h = rw (differs b 10 h.0, first_line-at bytes rest h.1) refl

pub first_line-none : (text : Bytes) → Lacks lf text → first_line text ≡ None
first_line-none [] h = refl
first_line-none (b ∷ bytes) h = rw (differs b 10 h.0, first_line-none bytes h.1) refl

-- the first line is the cut at the first LF
pub first_line-is_cut : (text : Bytes) → first_line text ≡ cut_of lf text
first_line-is_cut text = by (cut_of lf text) refl
  where
    by : (r : Option (Bytes × Bytes)) → cut_of lf text ≡ r → first_line text ≡ cut_of lf text
    by None e = first_line-none text (cut_of-none lf text e) ∙ sym e
    by (Some p) e =
        let t = cut_of-takes lf text p.0 p.1 e in
        ap first_line t.0 ∙ first_line-at p.0 p.1 t.1 ∙ sym e

-- a line, and what follows it
pub whole_lines-line : (front rest : Bytes) → Lacks lf front → whole_lines (front ++ lf ∷ rest) ≡ (front ++ lf ∷ []) ∷ whole_lines rest
unfolding whole_lines
whole_lines-line [] rest h = refl
whole_lines-line (b ∷ bytes) rest h = rw (differs b 10 h.0, whole_lines-line bytes rest h.1) refl

-- a last line without its LF
pub whole_lines-last : (b : ℕ) (text : Bytes) → Lacks lf (b ∷ text) → whole_lines (b ∷ text) ≡ (b ∷ text) ∷ []
unfolding whole_lines
whole_lines-last b [] h = rw (differs b 10 h.0) refl
whole_lines-last b (c ∷ text) h = rw (differs b 10 h.0, whole_lines-last c text h.1) refl

pub whole_lines-none : whole_lines [] ≡ []
unfolding whole_lines
whole_lines-none = refl

-- the lines are the whole text
pub whole_lines-whole : (text : Bytes) → flat_map (λ line. line) (whole_lines text) ≡ text
unfolding whole_lines
whole_lines-whole [] = refl
whole_lines-whole (b ∷ text) = by (whole_lines-whole text) (b == 10) refl
  where
    onto : (lines : List Bytes) → flat_map (λ line. line) (onto_first_line b lines) ≡ b ∷ flat_map (λ line. line) lines
    onto [] = refl
    onto (line ∷ lines) = refl

    by : flat_map (λ line. line) (whole_lines text) ≡ text → (t : Bool) → (b == 10) ≡ t → flat_map (λ line. line) (whole_lines (b ∷ text)) ≡ b ∷ text
    by whole true t = rw (t, whole, eqb-true b 10 t) refl
    by whole false t = rw t (onto (whole_lines text) ∙ ap (λ (rest : Bytes). b ∷ rest) whole)

-- ---- the first b at or after a place

-- it stands there, and not before it
pub record StandsAt (b : ℕ) (text : Bytes) (from place : ℕ) : Type 0 where
  pub after : from ≤ place
  pub within : place < length text
  pub splits : drop from text ≡ take (place - from) (drop from text) ++ b ∷ drop (place + 1) text
  pub first : Lacks b (take (place - from) (drop from text))

place_is : (b : ℕ) (text : Bytes) (from i : ℕ) → from ≤ length text → position (λ x. x == b) (drop from text) ≡ Some i → StandsAt b text from (from + i)
unfolding cut_of
place_is b text from i le e =
    let cut : cut_of b (drop from text) ≡ Some (take i (drop from text), drop (suc i) (drop from text)) =
    ap (option_map (λ (k : ℕ). (take k (drop from text), drop (suc k) (drop from text)))) e in
    let t = cut_of-takes b (drop from text) (take i (drop from text)) (drop (suc i) (drop from text)) cut in
    let back : from + i - from ≡ i = omega arith in
    let rest : drop (suc i) (drop from text) ≡ drop (from + i + 1) text = rw drop-drop (ap (λ (k : ℕ). drop k text) (omega arith)) in
    let long : length (drop from text) ≡ length (take i (drop from text)) + suc (length (drop (suc i) (drop from text))) =
    ap (λ (x : Bytes). length x) t.0 ∙ length-append (take i (drop from text)) (b ∷ drop (suc i) (drop from text)) in
    record {
      after = omega arith;
      within = omega (arith, long, le, length-take i (drop from text), length-drop from text);
      splits = rw (back, ← rest) t.0;
      first = rw back t.1;
    }

pub place_from-takes : (b : ℕ) (text : Bytes) (from place : ℕ) → from ≤ length text → place_from b text from ≡ Some place → StandsAt b text from place
place_from-takes b text from place le e = by (position (λ x. x == b) (drop from text)) refl
  where
    by : (r : Option ℕ) → position (λ x. x == b) (drop from text) ≡ r → StandsAt b text from place
    by None p = absurd (none_some {x = place} (sym (ap (option_map (λ (i : ℕ). from + i)) p) ∙ e))
    by (Some i) p = subst (StandsAt b text from) (some_is {x = from + i} {y = place} (sym (ap (option_map (λ (k : ℕ). from + k)) p) ∙ e)) (place_is b text from i le p)

pub place_from-none : (b : ℕ) (text : Bytes) (from : ℕ) → place_from b text from ≡ None → Lacks b (drop from text)
unfolding cut_of
place_from-none b text from e = by (position (λ x. x == b) (drop from text)) refl
  where
    by : (r : Option ℕ) → position (λ x. x == b) (drop from text) ≡ r → Lacks b (drop from text)
    by None p = cut_of-none b (drop from text) (ap (option_map (λ (k : ℕ). (take k (drop from text), drop (suc k) (drop from text)))) p)
    by (Some i) p = absurd (some_none {x = from + i} (sym (ap (option_map (λ (k : ℕ). from + k)) p) ∙ e))
