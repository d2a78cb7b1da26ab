-- The names on the way to a file.
use Rattle.std.proofs.Common.{◌≡◌, ◌≢◌, ℕ, Bool, true, false, not, ◌==◌, List, [], ◌∷◌, ◌++◌, refl, sym, ap, ◌∙◌, append_assoc}
use Rattle.std.specs.Prelude.{if◌then◌else◌}
use Rattle.std.specs.List.{join_with_byte, onto_first}
use Rattle.std.proofs.lemmas.List.{append-nil}
use Rattle.std.proofs.lemmas.List.Splits.{join_with_byte-slice_split, slice_split-cons_no}
use Rattle.text_model.specs.Cuts.{Lacks}
use Rattle.text_model.specs.Lists.{Each}
use Rattle.text_model.proofs.TestLemmas.{differs, both}
use Rattle.text_model.specs.Text.{Bytes, has_byte}
use Rattle.text_model.specs.Path.{components, is_fit_path, is_fit_name}
use Rattle.text_model.proofs.Options.{not_true, or_parts}
use Rattle.git_model.specs.Unfold.{joined_path}

-- a name that is one component
pub record IsName (name : Bytes) : Type 0 where
  pub some : name ≢ []
  pub plain : has_byte 47 name ≡ false

-- a path with more names behind it
abbrev pub way : Bytes → List Bytes → Bytes
way path [] = path
way path (name ∷ names) = way (joined_path path name) names

pub fit-name : (name : Bytes) → is_fit_name name ≡ true → IsName name
unfolding is_fit_path
fit-name [] h = absurd cc
fit-name (b ∷ name) h = record { some = λ e. cc; plain = not_true (has_byte 47 (b ∷ name)) (both (is_fit_path (b ∷ name)) (not (has_byte 47 (b ∷ name))) h).1 }

-- a part that lacks the slash comes first
pub components-cut : (front rest : Bytes) → Lacks 47 front → components (front ++ 47 ∷ rest) ≡ front ∷ components rest
components-cut [] rest h = refl
components-cut (x ∷ xs) rest h = rw (differs x 47 h.0, components-cut xs rest h.1) refl

pub components-last : (part : Bytes) → Lacks 47 part → components part ≡ part ∷ []
components-last [] h = refl
components-last (x ∷ xs) h = rw (differs x 47 h.0, components-last xs h.1) refl

pub components-one : (name : Bytes) → has_byte 47 name ≡ false → components name ≡ name ∷ []
components-one [] h = refl
components-one (b ∷ name) h =
    let parts = or_parts (b == 47) (has_byte 47 name) h in
    slice_split-cons_no (λ (c : ℕ). c == 47) b name parts.0 ∙ ap (onto_first b) (components-one name parts.1)

onto-more : (b : ℕ) (parts more : List Bytes) → parts ≢ [] → onto_first b (parts ++ more) ≡ onto_first b parts ++ more
onto-more b [] more h = absurd (h refl)
onto-more b (p ∷ parts) more h = refl

pub components-some : (path : Bytes) → components path ≢ []
components-some [] e = cc
components-some (b ∷ path) e = by (b == 47) (components path) e
  where
    by : (t : Bool) (parts : List Bytes) → (if t then [] ∷ parts else onto_first b parts) ≡ [] → ⊥
    by true parts e = cc
    by false [] e = cc
    by false (p ∷ parts) e = cc

pub components-append : (path rest : Bytes) → components (path ++ 47 ∷ rest) ≡ components path ++ components rest
components-append [] rest = refl
components-append (b ∷ path) rest = by (b == 47) (components path) (components (path ++ 47 ∷ rest)) (components rest) (components-some path) (components-append path rest)
  where
    by : (t : Bool) (parts whole more : List Bytes) → parts ≢ [] → whole ≡ parts ++ more → (if t then [] ∷ whole else onto_first b whole) ≡ (if t then [] ∷ parts else onto_first b parts) ++ more
    by true parts whole more h e = ap (λ (w : List Bytes). [] ∷ w) e
    by false parts whole more h e = ap (onto_first b) e ∙ onto-more b parts more h

pub components-joined : (path name : Bytes) → path ≢ [] → has_byte 47 name ≡ false → components (joined_path path name) ≡ components path ++ name ∷ []
components-joined [] name some h = absurd (some refl)
components-joined (b ∷ path) name some h = components-append (b ∷ path) name ∙ ap (λ (c : List Bytes). components (b ∷ path) ++ c) (components-one name h)

pub joined-some : (path name : Bytes) → name ≢ [] → joined_path path name ≢ []
joined-some [] name h e = h e
joined-some (b ∷ path) name h e = cc

pub components-way : (path : Bytes) (names : List Bytes) → path ≢ [] → Each IsName names → components (way path names) ≡ components path ++ names
components-way path [] some h = sym (append-nil (components path))
components-way path (name ∷ names) some h =
    components-way (joined_path path name) names (joined-some path name h.0.some) h.1
    ∙ ap (λ (c : List Bytes). c ++ names) (components-joined path name some h.0.plain)
    ∙ append_assoc (components path) (name ∷ []) names

-- the way of names has these names for components
pub components-whole : (names : List Bytes) → names ≢ [] → Each IsName names → components (way [] names) ≡ names
components-whole [] some h = absurd (some refl)
components-whole (name ∷ names) some h = components-way name names h.0.some h.1 ∙ ap (λ (c : List Bytes). c ++ names) (components-one name h.0.plain)

-- a path is known by its components
pub same-components : (p q : Bytes) → components p ≡ components q → p ≡ q
same-components p q e = sym (join_with_byte-slice_split 47 p) ∙ ap (join_with_byte 47) e ∙ join_with_byte-slice_split 47 q

-- a path whose components are names is the way of them
pub way-of-components : (path : Bytes) → Each IsName (components path) → path ≡ way [] (components path)
way-of-components path h = same-components path (way [] (components path)) (sym (components-whole (components path) (components-some path) h))
