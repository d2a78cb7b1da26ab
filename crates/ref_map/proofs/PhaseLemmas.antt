-- The ref of a phase, by its parts.
use Rattle.std.proofs.Common.{◌≡◌, ◌≢◌, ◌==◌, eqb, ℕ, Bool, true, false, ◌&&◌, [], ◌∷◌, ◌++◌, take, Option, Some, None, refl, sym, ap, ◌∙◌, arith}
use Rattle.std.specs.Prelude.{if◌then◌else◌, bytes_eq}
use Rattle.std.specs.Cmp.Lexicographic.{pointwise}
use Rattle.text_model.specs.Text.{Bytes}
use Rattle.text_model.specs.Id.{Id, hex}
use Rattle.text_model.specs.Cuts.{Lacks, cut_of}
use Rattle.text_model.proofs.CutLemmas.{cut_of-takes, cut_of-none}
use Rattle.text_model.proofs.TestLemmas.{differs, bytes_eq-other}
use Rattle.state_part.proofs.StripLemmas.{stripped_none}
use Rattle.name_model.specs.Line.{Phase, Public, Draft, Secret, phase_of, phase_ref, phase_word, phases}
use Rattle.name_model.specs.Targets.{phase_in}

chosen : Bool → Bool → Bool → Option Phase
chosen a b c = if a then Some Public else if b then Some Draft else if c then Some Secret else None

by_tests : (name : Bytes) (node : Id) → phase_in name node ≡ chosen (bytes_eq name (phase_ref Public node)) (bytes_eq name (phase_ref Draft node)) (bytes_eq name (phase_ref Secret node))
unfolding chosen
by_tests name node = refl

by_words : (word : Bytes) → chosen (bytes_eq word (48 ∷ [])) (bytes_eq word (49 ∷ [])) (bytes_eq word (50 ∷ [])) ≡ phase_of word
unfolding chosen
by_words word = refl

none_is : chosen false false false ≡ None
unfolding chosen
none_is = refl

-- where the three tests fail there is none
no_phase : (name : Bytes) (node : Id) → ((phase : Phase) → bytes_eq name (phase_ref phase node) ≡ false) → phase_in name node ≡ None
no_phase name node none = by_tests name node ∙ (λ i. chosen (none Public i) (none Draft i) (none Secret i)) ∙ none_is

pub no_front : (name : Bytes) (node : Id) → pointwise ◌==◌ (take 14 name) phases ≡ false → phase_in name node ≡ None
no_front name node e = no_phase name node (λ phase. bytes_eq-other name (phase_ref phase node) (λ is. stripped_none phases name e (phase_word phase ++ 47 ∷ hex node) is))

-- what is behind the front decides
behind_front : (name rest : Bytes) (node : Id) (phase : Phase) → name ≡ phases ++ rest → bytes_eq name (phase_ref phase node) ≡ bytes_eq rest (phase_word phase ++ 47 ∷ hex node)
behind_front name rest node phase is = ap (λ (x : Bytes). bytes_eq x (phase_ref phase node)) is

no_slash : (rest tail : Bytes) (d : ℕ) → Lacks 47 rest → bytes_eq rest (d ∷ 47 ∷ tail) ≡ false
no_slash [] tail d h = refl
no_slash (x ∷ []) tail d h = by (eqb x d)
  where
    by : (t : Bool) → (t && false) ≡ false
    by true = refl
    by false = refl
no_slash (x ∷ y ∷ rest) tail d h = ap (λ (t : Bool). eqb x d && (t && bytes_eq rest tail)) (differs y 47 h.1.0) ∙ by (eqb x d)
  where
    by : (t : Bool) → (t && false) ≡ false
    by true = refl
    by false = refl

-- a word of one byte, a slash and digits
by_parts : (word digits tail : Bytes) (d : ℕ) → Lacks 47 word → d ≢ 47 → bytes_eq (word ++ 47 ∷ digits) (d ∷ 47 ∷ tail) ≡ (bytes_eq word (d ∷ []) && bytes_eq digits tail)
by_parts [] digits tail d h other = ap (λ (t : Bool). t && bytes_eq digits (47 ∷ tail)) (differs 47 d (λ e. other (sym e)))
by_parts (x ∷ []) digits tail d h other = by (eqb x d)
  where
    by : (t : Bool) → (t && bytes_eq digits tail) ≡ ((t && true) && bytes_eq digits tail)
    by true = refl
    by false = refl
by_parts (x ∷ y ∷ word) digits tail d h other = ap (λ (t : Bool). eqb x d && (t && bytes_eq (word ++ 47 ∷ digits) tail)) (differs y 47 h.1.0) ∙ by (eqb x d)
  where
    by : (t : Bool) → (t && false) ≡ ((t && false) && bytes_eq digits tail)
    by true = refl
    by false = refl

pub no_word : (name rest : Bytes) (node : Id) → name ≡ phases ++ rest → None ≡ cut_of 47 rest → phase_in name node ≡ None
no_word name rest node is cut = no_phase name node none
  where
    lacks : Lacks 47 rest
    lacks = cut_of-none 47 rest (sym cut)

    none : (phase : Phase) → bytes_eq name (phase_ref phase node) ≡ false
    none Public = behind_front name rest node Public is ∙ no_slash rest (hex node) 48 lacks
    none Draft = behind_front name rest node Draft is ∙ no_slash rest (hex node) 49 lacks
    none Secret = behind_front name rest node Secret is ∙ no_slash rest (hex node) 50 lacks

-- the test of a phase, by the word and the digits
tested : (name rest word digits : Bytes) (node : Id) (phase : Phase) (d : ℕ) → phase_word phase ≡ d ∷ [] → d ≢ 47 → name ≡ phases ++ rest → Some (word, digits) ≡ cut_of 47 rest
    → bytes_eq name (phase_ref phase node) ≡ (bytes_eq word (d ∷ []) && bytes_eq digits (hex node))
tested name rest word digits node phase d spelt other is cut =
    let t = cut_of-takes 47 rest word digits (sym cut) in
    behind_front name rest node phase is
    ∙ (λ i. bytes_eq (t.0 i) (spelt i ++ 47 ∷ hex node))
    ∙ by_parts word digits (hex node) d t.1 other

module _ (name rest word digits : Bytes) (node : Id) (is : name ≡ phases ++ rest) (cut : Some (word, digits) ≡ cut_of 47 rest) where
  by_three : phase_in name node ≡ chosen (bytes_eq word (48 ∷ []) && bytes_eq digits (hex node)) (bytes_eq word (49 ∷ []) && bytes_eq digits (hex node)) (bytes_eq word (50 ∷ []) && bytes_eq digits (hex node))
  by_three =
      let a = tested name rest word digits node Public 48 refl (λ e. absurd (omega (arith, e))) is cut in
      let b = tested name rest word digits node Draft 49 refl (λ e. absurd (omega (arith, e))) is cut in
      let c = tested name rest word digits node Secret 50 refl (λ e. absurd (omega (arith, e))) is cut in
      by_tests name node ∙ (λ i. chosen (a i) (b i) (c i))

  with_true : (t : Bool) → (t && true) ≡ t
  with_true true = refl
  with_true false = refl

  with_false : (t : Bool) → (t && false) ≡ false
  with_false true = refl
  with_false false = refl

  pub this_node : bytes_eq digits (hex node) ≡ true → phase_in name node ≡ phase_of word
  this_node e =
      by_three
      ∙ ap (λ (t : Bool). chosen (bytes_eq word (48 ∷ []) && t) (bytes_eq word (49 ∷ []) && t) (bytes_eq word (50 ∷ []) && t)) e
      ∙ (λ i. chosen (with_true (bytes_eq word (48 ∷ [])) i) (with_true (bytes_eq word (49 ∷ [])) i) (with_true (bytes_eq word (50 ∷ [])) i))
      ∙ by_words word

  pub other_node : bytes_eq digits (hex node) ≡ false → phase_in name node ≡ None
  other_node e =
      by_three
      ∙ ap (λ (t : Bool). chosen (bytes_eq word (48 ∷ []) && t) (bytes_eq word (49 ∷ []) && t) (bytes_eq word (50 ∷ []) && t)) e
      ∙ (λ i. chosen (with_false (bytes_eq word (48 ∷ [])) i) (with_false (bytes_eq word (49 ∷ [])) i) (with_false (bytes_eq word (50 ∷ [])) i))
      ∙ none_is
