-- The first line of a state's text is read in one way.
use Rattle.std.proofs.Common.{◌≡◌, ◌≢◌, true, false, [], ◌∷◌, ◌++◌, Some, None, codes, refl, sym, ap, ◌∙◌, append-nil, true≢false}
use Rattle.std.proofs.lemmas.List.{append_cancel_left}
use Rattle.text_model.specs.Text.{Bytes, lf, spaced, is_decimal}
use Rattle.text_model.specs.Cuts.{cut_of}
use Rattle.text_model.proofs.CutLemmas.{cut_of-at, cut_of-takes}
use Rattle.text_model.proofs.LineLemmas.{first_line-is_cut}
use Rattle.text_model.proofs.LackLemmas.{Lacks-by_test}
use Rattle.text_model.proofs.Options.{some_is, none_some}
use Rattle.state_model.specs.Text.{version_word, version}
use Rattle.state_model.specs.Saved.{IsVersionFault}
use Rattle.state_part.specs.Form.{head_line, IsHeadFault}
use Rattle.state_part.specs.declared.head.HeadFault.{HeadFault}
use Rattle.state_part.specs.declared.head.HeadFault.TheVariants.{OtherVersion, Shape}

-- what stands before the number
abbrev pub before_number : Bytes
before_number = codes "hg-git-bridge "

line_of : (number : Bytes) → spaced (version_word ∷ number ∷ []) ≡ before_number ++ number
line_of number = ap (λ (t : Bytes). before_number ++ t) (append-nil number)

cut_of-head : (rest : Bytes) → cut_of lf (head_line ++ rest) ≡ Some (before_number ++ version, rest)
cut_of-head rest = cut_of-at lf (before_number ++ version) rest (Lacks-by_test lf (before_number ++ version) refl)

-- what another version makes of the first line
pub record OtherLine (first : Bytes) : Type 0 where
  pub number : Bytes
  pub is : first ≡ before_number ++ number
  pub number_is : is_decimal number ≡ true
  pub other : number ≢ version

other_line : (bytes first rest : Bytes) → Some (first, rest) ≡ cut_of lf bytes → IsVersionFault bytes → OtherLine first
other_line bytes first rest cut v = record {
  number = v.number;
  is = ap (λ (p : Bytes × Bytes). p.0) (some_is (cut ∙ sym (first_line-is_cut bytes) ∙ v.first)) ∙ line_of v.number;
  number_is = v.number_is;
  other = v.other;
}

head_line-first : (bytes first rest after : Bytes) → Some (first, rest) ≡ cut_of lf bytes → bytes ≡ head_line ++ after → first ≡ before_number ++ version
head_line-first bytes first rest after cut is = ap (λ (p : Bytes × Bytes). p.0) (some_is (cut ∙ ap (cut_of lf) is ∙ cut_of-head after))

-- no line at all
pub no_line : (bytes : Bytes) → None ≡ cut_of lf bytes → IsHeadFault bytes Shape
no_line bytes none = (
  λ v. none_some (none ∙ sym (first_line-is_cut bytes) ∙ v.first),
  λ rest is. none_some (none ∙ ap (cut_of lf) is ∙ cut_of-head rest),
)

-- another word
pub no_word : (bytes first rest : Bytes) → Some (first, rest) ≡ cut_of lf bytes → ((number : Bytes) → first ≢ before_number ++ number) → IsHeadFault bytes Shape
no_word bytes first rest cut none = (
  λ v. let o = other_line bytes first rest cut v in none o.number o.is,
  λ after is. none version (head_line-first bytes first rest after cut is),
)

-- neither the version in force nor another
pub no_number : (bytes first rest number : Bytes) → Some (first, rest) ≡ cut_of lf bytes → first ≡ before_number ++ number → is_decimal number ≡ false → IsHeadFault bytes Shape
no_number bytes first rest number cut first_is none = (
  λ v. let o = other_line bytes first rest cut v in true≢false (sym o.number_is ∙ ap is_decimal (append_cancel_left before_number _ _ (sym o.is ∙ first_is)) ∙ none),
  λ after is. true≢false (ap is_decimal (append_cancel_left before_number _ _ (sym (head_line-first bytes first rest after cut is) ∙ first_is)) ∙ none),
)

pub another : (bytes first rest number : Bytes) → Some (first, rest) ≡ cut_of lf bytes → first ≡ before_number ++ number → is_decimal number ≡ true → number ≢ version → IsVersionFault bytes
another bytes first rest number cut first_is number_is other = record {
  number = number;
  rest = rest;
  first = first_line-is_cut bytes ∙ sym cut ∙ ap (λ (t : Bytes). Some (t, rest)) (first_is ∙ sym (line_of number));
  number_is = number_is;
  other = other;
}

pub in_force : (bytes first rest number : Bytes) → Some (first, rest) ≡ cut_of lf bytes → first ≡ before_number ++ number → number ≡ version → bytes ≡ head_line ++ rest
in_force bytes first rest number cut first_is number_is =
    (cut_of-takes lf bytes first rest (sym cut)).0 ∙ ap (λ (t : Bytes). t ++ lf ∷ rest) (first_is ∙ ap (λ (t : Bytes). before_number ++ t) number_is)

pub no_other : (bytes first rest number : Bytes) → Some (first, rest) ≡ cut_of lf bytes → first ≡ before_number ++ number → number ≡ version → ¬ (IsVersionFault bytes)
no_other bytes first rest number cut first_is number_is v =
    let o = other_line bytes first rest cut v in
    o.other (append_cancel_left before_number _ _ (sym o.is ∙ first_is) ∙ number_is)

-- the version in force is no other
in_force-first : (bytes rest : Bytes) → bytes ≡ head_line ++ rest → ¬ (IsVersionFault bytes)
in_force-first bytes rest is v =
    let o = other_line bytes (before_number ++ version) rest (sym (ap (cut_of lf) is ∙ cut_of-head rest)) v in
    o.other (append_cancel_left before_number _ _ (sym o.is))

-- no first line at all
pub no_head : (bytes : Bytes) (why : HeadFault) → IsHeadFault bytes why → (rest : Bytes) → bytes ≢ head_line ++ rest
no_head bytes OtherVersion v rest is = in_force-first bytes rest is v
no_head bytes Shape h rest is = h.1 rest is
