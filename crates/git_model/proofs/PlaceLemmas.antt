-- The lines of a content, one after the other, up to the first that doesn't fit.
use Rattle.std.proofs.Common.{◌≡◌, ◌<◌, ◌≤◌, ◌+◌, ◌-◌, ◌==◌, ℕ, zero, suc, true, false, ◌∷◌, ◌++◌, length, Option, Some, None, refl, sym, ap, ◌∙◌, arith, length-append, eq-eqb}
use Rattle.std.specs.Option.{option_and_then}
use Rattle.text_model.specs.Text.{Bytes, lf}
use Rattle.text_model.specs.Cuts.{Lacks, cut_of}
use Rattle.text_model.proofs.CutLemmas.{cut_of-takes, cut_of-none}
use Rattle.text_model.proofs.LineLemmas.{first_line-at, first_line-none}
use Rattle.git_model.specs.Commit.{lines_fault}

module _ (next : ℕ → Bytes → Option ℕ) (last : ℕ) where
  -- the offset of the first line of a content that doesn't fit
  abbrev pub fault_of : Bytes → Option ℕ
  fault_of content = lines_fault next last (length content + 1) 0 0 content

  -- What the definition says of the content is what it says of the rest, whose first line stands at this place.
  pub record Reached (content : Bytes) (place : ℕ) (rest : Bytes) : Type 0 where
    pub more : ℕ
    pub enough : length rest < more
    pub within : length rest ≤ length content
    pub fault : fault_of content ≡ lines_fault next last more place (length content - length rest) rest

  pub reached_start : (content : Bytes) → Reached content 0 content
  reached_start content =
      let none : 0 ≡ length content - length content = omega arith in
      record { more = length content + 1; enough = omega arith; within = omega arith; fault = ap (λ (at : ℕ). lines_fault next last (length content + 1) 0 at content) none }

  -- a line more
  line_from : (more place at following : ℕ) (text after : Bytes) → (place == last) ≡ false → Lacks lf text → next place text ≡ Some following
      → lines_fault next last (suc more) place at (text ++ lf ∷ after) ≡ lines_fault next last more following (at + length text + 1) after
  unfolding lines_fault
  line_from more place at following text after is_open lacks fits = rw (is_open, first_line-at text after lacks, fits) refl

  line_refused : (more place at : ℕ) (text after : Bytes) → (place == last) ≡ false → Lacks lf text → next place text ≡ None
      → lines_fault next last (suc more) place at (text ++ lf ∷ after) ≡ Some at
  unfolding lines_fault
  line_refused more place at text after is_open lacks unfit = rw (is_open, first_line-at text after lacks, unfit) refl

  cut_refused : (more place at : ℕ) (text : Bytes) → (place == last) ≡ false → Lacks lf text → lines_fault next last (suc more) place at text ≡ Some at
  unfolding lines_fault
  cut_refused more place at text is_open lacks = rw (is_open, first_line-none text lacks) refl

  all_fits : (more at : ℕ) (text : Bytes) → (last == last) ≡ true → lines_fault next last more last at text ≡ None
  unfolding lines_fault
  all_fits zero at text h = refl
  all_fits (suc more) at text h = rw h refl

  pub reached_line : (content : Bytes) (place following : ℕ) (text after : Bytes) → Reached content place (text ++ lf ∷ after) → (place == last) ≡ false → Lacks lf text → next place text ≡ Some following → Reached content following after
  reached_line content place following text after so_far is_open lacks fits = by so_far.more so_far.enough so_far.fault
    where
      long : length (text ++ lf ∷ after) ≡ length text + 1 + length after
      long = omega (arith, length-append text (lf ∷ after))

      by : (more : ℕ) → length (text ++ lf ∷ after) < more → fault_of content ≡ lines_fault next last more place (length content - length (text ++ lf ∷ after)) (text ++ lf ∷ after) → Reached content following after
      by zero enough fault = absurd (omega (arith, enough))
      by (suc more) enough fault =
          let at : length content - length (text ++ lf ∷ after) + length text + 1 ≡ length content - length after = omega (arith, long, so_far.within) in
          record {
            more = more;
            enough = omega (arith, enough, long);
            within = omega (arith, long, so_far.within);
            fault = fault ∙ line_from more place (length content - length (text ++ lf ∷ after)) following text after is_open lacks fits ∙ ap (λ (n : ℕ). lines_fault next last more following n after) at;
          }

  -- where the first line of the rest leads to
  abbrev pub next_at : ℕ → Bytes → Option ℕ
  next_at place rest = option_and_then (λ p. next place p.0) (cut_of lf rest)

  pub reached_refused : (content : Bytes) (place : ℕ) (rest : Bytes) → Reached content place rest → (place == last) ≡ false → next_at place rest ≡ None → fault_of content ≡ Some (length content - length rest)
  reached_refused content place rest so_far is_open unfit = by so_far.more so_far.enough so_far.fault (cut_of lf rest) refl
    where
      by : (more : ℕ) → length rest < more → fault_of content ≡ lines_fault next last more place (length content - length rest) rest → (r : Option (Bytes × Bytes)) → cut_of lf rest ≡ r → fault_of content ≡ Some (length content - length rest)
      by zero enough fault r e = absurd (omega (arith, enough))
      by (suc more) enough fault None e = fault ∙ cut_refused more place (length content - length rest) rest is_open (cut_of-none lf rest e)
      by (suc more) enough fault (Some p) e =
          let t = cut_of-takes lf rest p.0 p.1 e in
          let bad : next place p.0 ≡ None = sym (ap (λ (r : Option (Bytes × Bytes)). option_and_then (λ q. next place q.0) r) e) ∙ unfit in
          fault ∙ ap (lines_fault next last (suc more) place (length content - length rest)) t.0 ∙ line_refused more place (length content - length rest) p.0 p.1 is_open t.1 bad

  pub reached_end : (content rest : Bytes) → Reached content last rest → fault_of content ≡ None
  reached_end content rest so_far = so_far.fault ∙ all_fits so_far.more (length content - length rest) rest (eq-eqb last last refl)
