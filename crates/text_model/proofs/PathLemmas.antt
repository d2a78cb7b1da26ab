-- The components of a path, one after the other.
use Rattle.std.proofs.Common.{◌≡◌, ◌<◌, ◌+◌, ◌&&◌, ℕ, Bool, true, false, List, [], ◌∷◌, ◌++◌, length, Some, None, refl, sym, ap, ◌∙◌, arith}
use Rattle.std.specs.Prelude.{nat_le, nat_lt}
use Rattle.std.proofs.lemmas.Bool.Decides.{nat_tests}
use Rattle.std.specs.List.{list_all}
use Rattle.std.proofs.lemmas.List.{length-append}
use Rattle.text_model.specs.Cuts.{Lacks, cut_of}
use Rattle.text_model.specs.Path.{is_fit_component, components}
use Rattle.text_model.proofs.CutLemmas.{cut_of-takes, cut_of-none}
use Rattle.text_model.proofs.TestLemmas.{differs}

-- a part that lacks the slash comes first
components-cut : (front rest : List ℕ) → Lacks 47 front → components (front ++ 47 ∷ rest) ≡ front ∷ components rest
components-cut [] rest h = refl
components-cut (x ∷ xs) rest h = rw (differs x 47 h.0, components-cut xs rest h.1) refl

components-one : (part : List ℕ) → Lacks 47 part → components part ≡ part ∷ []
components-one [] h = refl
components-one (x ∷ xs) h = rw (differs x 47 h.0, components-one xs h.1) refl

-- what a turn knows
pub record Turn (rest name after : List ℕ) : Type 0 where
  pub parts : components rest ≡ name ∷ components after
  pub len : length after < length rest

pub turn : (rest name after : List ℕ) → Some (name, after) ≡ cut_of 47 rest → Turn rest name after
turn rest name after e =
    let t = cut_of-takes 47 rest name after (sym e) in
    record {
      parts = ap components t.0 ∙ components-cut name after t.1;
      len = omega (arith, ap (λ (x : List ℕ). length x) t.0, length-append name (47 ∷ after));
    }

pub last : (rest : List ℕ) → None ≡ cut_of 47 rest → components rest ≡ rest ∷ []
last rest e = components-one rest (cut_of-none 47 rest (sym e))

and-false : (b : Bool) → (b && false) ≡ false
and-false true = refl
and-false false = refl

and-true : (b : Bool) → (b && true) ≡ b
and-true true = refl
and-true false = refl

-- what is left has this many parts, which are all that is left to test
pub record Left (path rest : List ℕ) (count : ℕ) : Type 0 where
  pub parts : count + length (components rest) ≡ length (components path)
  pub fit : list_all is_fit_component (components path) ≡ list_all is_fit_component (components rest)

-- a part that is not fit
pub unfit : (path rest name after : List ℕ) (count : ℕ) → Left path rest count → Turn rest name after → is_fit_component name ≡ false
    → false ≡ (nat_le (length (components path)) 256 && list_all is_fit_component (components path))
unfit path rest name after count l t not_it =
    let bad : list_all is_fit_component (components rest) ≡ false = ap (list_all is_fit_component) t.parts ∙ ap (λ (b : Bool). b && list_all is_fit_component (components after)) not_it in
    sym (ap (λ (b : Bool). nat_le (length (components path)) 256 && b) (l.fit ∙ bad) ∙ and-false (nat_le (length (components path)) 256))

-- a part that is fit
pub fit_on : (path rest name after : List ℕ) (count : ℕ) → Left path rest count → Turn rest name after → is_fit_component name ≡ true → Left path after (count + 1)
fit_on path rest name after count l t yes_it_is = record {
  parts = omega (arith, l.parts, ap (λ (x : List (List ℕ)). length x) t.parts);
  fit = l.fit ∙ ap (list_all is_fit_component) t.parts ∙ ap (λ (b : Bool). b && list_all is_fit_component (components after)) yes_it_is;
}

below_is_upto : (c n : ℕ) → c + 1 ≡ n → nat_lt c 256 ≡ nat_le n 256
below_is_upto c n e = grind (arith, nat_tests)

-- the last part
pub at_end : (path rest : List ℕ) (count : ℕ) → Left path rest count → components rest ≡ rest ∷ [] → is_fit_component rest ≡ true
    → nat_lt count 256 ≡ (nat_le (length (components path)) 256 && list_all is_fit_component (components path))
at_end path rest count l one yes_it_is =
    let all : list_all is_fit_component (components path) ≡ true = l.fit ∙ ap (list_all is_fit_component) one ∙ ap (λ (b : Bool). b && true) yes_it_is in
    let n : count + 1 ≡ length (components path) = omega (arith, l.parts, ap (λ (x : List (List ℕ)). length x) one) in
    below_is_upto count (length (components path)) n ∙ sym (ap (λ (b : Bool). nat_le (length (components path)) 256 && b) all ∙ and-true (nat_le (length (components path)) 256))

pub not_at_end : (path rest : List ℕ) (count : ℕ) → Left path rest count → components rest ≡ rest ∷ [] → is_fit_component rest ≡ false
    → false ≡ (nat_le (length (components path)) 256 && list_all is_fit_component (components path))
not_at_end path rest count l one not_it =
    let bad : list_all is_fit_component (components path) ≡ false = l.fit ∙ ap (list_all is_fit_component) one ∙ ap (λ (b : Bool). b && true) not_it in
    sym (ap (λ (b : Bool). nat_le (length (components path)) 256 && b) bad ∙ and-false (nat_le (length (components path)) 256))
