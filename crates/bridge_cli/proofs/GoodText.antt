-- The text of a state is never refused as the text of none.
use Rattle.std.proofs.Common.{◌≡◌, ◌<◌, ◌≤◌, ℕ, zero, suc, [], ◌∷◌, ◌++◌, length, codes, Some, refl, sym, ap, ◌∙◌, arith, append_assoc, append-nil}
use Rattle.std.proofs.lemmas.List.{append_cancel_left}
use Rattle.text_model.specs.Text.{Bytes, lf, first_line, spaced}
use Rattle.text_model.proofs.LackLemmas.{Lacks-by_test}
use Rattle.text_model.proofs.LineLemmas.{first_line-at}
use Rattle.text_model.proofs.Options.{some_is}
use Rattle.state_model.specs.Kept.{State}
use Rattle.state_model.specs.Text.{Sections, sections_of, section_text, text_up_to, state_text, version_word, version}
use Rattle.state_model.specs.Saved.{IsStateText, IsVersionFault, SectionsHold, SectionsFit}
use Rattle.command_model.specs.Run.{BadState, TooLong, OtherVersion, BadShape}
use Rattle.command_model.specs.Command.{IsBadSlot}

-- ---- sections

-- the text begins with the sections 0 to k, which hold
record Begins (k : ℕ) (text : Bytes) (s : Sections) : Type 0 where
  rest : Bytes
  begins : text ≡ text_up_to k s ++ rest
  hold : SectionsHold k s

less : (k : ℕ) (text : Bytes) (s : Sections) → Begins (suc k) text s → Begins k text s
unfolding text_up_to
less k text s b = record {
  rest = section_text (suc k) s ++ b.rest;
  begins = b.begins ∙ append_assoc (text_up_to k s) (section_text (suc k) s) b.rest;
  hold = b.hold.0;
}

below : (k : ℕ) (text : Bytes) (s : Sections) → k < 5 → Begins k text s → SectionsFit k text
below k text s few b = record { sections = s; rest = b.rest; begins = b.begins; hold = b.hold; last = λ e. absurd (omega (arith, few, e)) }

all : (text : Bytes) (s : Sections) → text ≡ text_up_to 5 s → SectionsHold 5 s → Begins 5 text s
all text s is hold = record { rest = []; begins = is ∙ sym (append-nil (text_up_to 5 s)); hold = hold }

fit : (text : Bytes) (s : Sections) → text ≡ text_up_to 5 s → SectionsHold 5 s → (k : ℕ) → k ≤ 5 → SectionsFit k text
fit text s is hold k few = by k few
  where
    b5 : Begins 5 text s
    b5 = all text s is hold

    b4 : Begins 4 text s
    b4 = less 4 text s b5

    b3 : Begins 3 text s
    b3 = less 3 text s b4

    b2 : Begins 2 text s
    b2 = less 2 text s b3

    b1 : Begins 1 text s
    b1 = less 1 text s b2

    by : (k : ℕ) → k ≤ 5 → SectionsFit k text
    by zero few = below 0 text s (omega arith) (less 0 text s b1)
    by (suc zero) few = below 1 text s (omega arith) b1
    by (suc (suc zero)) few = below 2 text s (omega arith) b2
    by (suc (suc (suc zero))) few = below 3 text s (omega arith) b3
    by (suc (suc (suc (suc zero)))) few = below 4 text s (omega arith) b4
    by (suc (suc (suc (suc (suc zero))))) few = record { sections = s; rest = []; begins = is ∙ sym (append-nil (text_up_to 5 s)); hold = hold; last = λ e. refl }
    by (suc (suc (suc (suc (suc (suc k)))))) few = absurd (omega (arith, few))

-- ---- the version

-- what stands before the number
before_number : Bytes
before_number = codes "hg-git-bridge "

line_of : (number : Bytes) → spaced (version_word ∷ number ∷ []) ≡ before_number ++ number
unfolding before_number
line_of number = ap (λ (t : Bytes). codes "hg-git-bridge " ++ t) (append-nil number)

first-is : (text : Bytes) (s : Sections) (b : Begins 0 text s) → first_line text ≡ Some (spaced (version_word ∷ version ∷ []), b.rest)
unfolding text_up_to
first-is text s b =
    let head = spaced (version_word ∷ version ∷ []) in
    ap first_line (b.begins ∙ append_assoc head (lf ∷ []) b.rest) ∙ first_line-at head b.rest (Lacks-by_test lf head refl)

in-force : (text : Bytes) (s : Sections) → Begins 0 text s → ¬ (IsVersionFault text)
in-force text s b v =
    let same = ap (λ (p : Bytes × Bytes). p.0) (some_is (sym v.first ∙ first-is text s b)) in
    v.other (append_cancel_left before_number _ _ (sym (line_of v.number) ∙ same ∙ line_of version))

-- ---- the slot

whole : (text : Bytes) (s : State) → text ≡ state_text s → text ≡ text_up_to 5 (sections_of s)
unfolding state_text
whole text s e = e

pub good-text : (text : Bytes) (s : State) (why : BadState) → IsStateText text s → ¬ (IsBadSlot (Some text) why)
good-text text s TooLong (is, same) long =
    let short = is.1.1.1 in
    omega (arith, long, short, ap (λ (t : Bytes). length t) (whole text s same))
good-text text s OtherVersion (is, same) (short, fault) =
    let b = all text (sections_of s) (whole text s same) is.1 in
    in-force text (sections_of s) (less 0 text _ (less 1 text _ (less 2 text _ (less 3 text _ (less 4 text _ b))))) fault
good-text text s (BadShape k) (is, same) (short, none, (within, unfit, earlier)) = unfit (fit text (sections_of s) (whole text s same) is.1 k within)
