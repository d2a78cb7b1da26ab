-- The parts of a ref, one after the other.
use Rattle.std.proofs.Common.{◌≡◌, ◌&&◌, Bool, true, false, [], ◌∷◌, ap, ◌∙◌}
use Rattle.std.specs.List.{list_all}
use Rattle.text_model.specs.Text.{Bytes}
use Rattle.text_model.specs.Path.{components}
use Rattle.text_model.proofs.PathLemmas.{Turn}
use Rattle.state_model.specs.Ref.{is_ref_part}

-- what is left is all that is left to test
abbrev pub Left : Bytes → Bytes → Type 0
Left name rest = list_all is_ref_part (components name) ≡ list_all is_ref_part (components rest)

pub fit_on : (name rest part after : Bytes) → Left name rest → Turn rest part after → is_ref_part part ≡ true → Left name after
fit_on name rest part after l t fit = l ∙ ap (list_all is_ref_part) t.parts ∙ ap (λ (b : Bool). b && list_all is_ref_part (components after)) fit

pub unfit : (name rest part after : Bytes) → Left name rest → Turn rest part after → is_ref_part part ≡ false → list_all is_ref_part (components name) ≡ false
unfit name rest part after l t bad = l ∙ ap (list_all is_ref_part) t.parts ∙ ap (λ (b : Bool). b && list_all is_ref_part (components after)) bad

and-true : (b : Bool) → (b && true) ≡ b
and-true true = λ i. true
and-true false = λ i. false

pub last_part : (name rest : Bytes) → Left name rest → components rest ≡ rest ∷ [] → list_all is_ref_part (components name) ≡ is_ref_part rest
last_part name rest l one = l ∙ ap (list_all is_ref_part) one ∙ and-true (is_ref_part rest)
