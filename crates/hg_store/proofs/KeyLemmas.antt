-- Looking a revision up by its key, where a path is told by its number.
use Rattle.std.proofs.Common.{◌≡◌, ◌≢◌, ◌<◌, ◌+◌, ◌&&◌, ℕ, Bool, true, false, cond, not, eqb, ltb, List, [], ◌∷◌, length, get_or, slice_get, Option, Some, None, refl, sym, ap, subst, ◌∙◌, arith, inl, inr, Bor, IfSome}
use Rattle.std.specs.Prelude.{AllPairs, position, option_map, bytes_eq}
use Rattle.std.specs.List.{prefix_len, position_or_len}
use Rattle.std.specs.Map.{lookup}
use Rattle.std.specs.Option.{option_copied}
use Rattle.std.specs.Global.{Vec}
use Rattle.std.proofs.lemmas.Bool.{cases_lt, ltb-false, false_from_ne_true}
use Rattle.std.proofs.lemmas.Bool.Decides.{eqb_tells}
use Rattle.std.proofs.lemmas.Option.{slice_get-get_or}
use Rattle.std.proofs.lemmas.List.{length-map}
use Rattle.std.proofs.lemmas.List.Sums.{prefix_len_passes}
use Rattle.std.proofs.lemmas.List.Quantifiers.{position-Some}
use Rattle.std.proofs.lemmas.Slice.Eq.{bytes_eq-Decides}
use Rattle.text_model.specs.Lists.{Each}
use Rattle.text_model.specs.Text.{Bytes}
use Rattle.text_model.specs.Id.{Id}
use Rattle.text_model.proofs.TestLemmas.{both}
use Rattle.text_model.proofs.Options.{not_true, some_is, some_none}
use Rattle.hg_model.proofs.RevisionLemmas.{same_group-is}
use Rattle.hg_model.specs.Revision as model
use Rattle.hg_model.specs.Revision.{Revision, same_group, is_of, revision_of}
use Rattle.hg_store.specs.declared.group.KeyGroup.{KeyGroup}
use Rattle.hg_store.specs.declared.group.KeyGroup.TheVariants as key
use Rattle.hg_store.specs.declared.held.Key.{Key}
use Rattle.hg_store.specs.declared.held.Held.{Held}
use Rattle.hg_store.specs.Groups.{paths_in, key_group, group_in, HasNumber, IsNumberOf, same_key_group, held_revision, revision_in, revisions_in, HasValue}

-- ---- the number of a path

prefix_len-items : (test : Bytes → Bool) (keys : List (Vec ℕ)) → prefix_len (λ k. test k.items) keys ≡ prefix_len test (paths_in keys)
prefix_len-items test [] = refl
prefix_len-items test (k ∷ ks) = ap (λ n. cond (test k.items) (1 + n) 0) (prefix_len-items test ks)

pub position-items : (test : Bytes → Bool) (keys : List (Vec ℕ)) → position (λ k. test k.items) keys ≡ position test (paths_in keys)
position-items test keys =
    let p = prefix_len-items (λ x. not (test x)) keys in
    let l = length-map keys (λ k. k.items) in
    (λ i. cond (ltb (p i) (sym l i)) (Some (p i)) None)

-- two paths are the same exactly where their numbers are
its_own : (paths : List Bytes) → AllPairs (λ x y. x ≢ y) paths → (i j : ℕ) → i < length paths → j < length paths → bytes_eq (get_or paths i []) (get_or paths j []) ≡ eqb i j
its_own paths apart i j within within' =
    elim (eqb_tells i j) [
      | inl e ↦ (bytes_eq-Decides (get_or paths i []) (get_or paths j [])).1 (ap (λ (k : ℕ). get_or paths k []) e.1) ∙ sym e.0
      | inr e ↦ false_from_ne_true (bytes_eq (get_or paths i []) (get_or paths j [])) (λ same. clash e.1 ((bytes_eq-Decides (get_or paths i []) (get_or paths j [])).0 same)) ∙ sym e.0
    ]
  where
    clash : i ≢ j → get_or paths i [] ≡ get_or paths j [] → ⊥
    clash ne same = elim (cases_lt i j) [
      | inl below ↦ apart i j [] below within' same
      | inr above ↦ elim (cases_lt j i) [
        | inl below ↦ apart j i [] below within (sym same)
        | inr above' ↦ ne (omega arith)
      ]
    ]

-- a path that has no number is no path
no_path : (paths : List Bytes) (path : Bytes) → position (bytes_eq path) paths ≡ None → (j : ℕ) → j < length paths → bytes_eq path (get_or paths j []) ≡ false
no_path paths path none j within = by (ltb (position_or_len (bytes_eq path) paths) (length paths)) refl
  where
    by : (t : Bool) → ltb (position_or_len (bytes_eq path) paths) (length paths) ≡ t → bytes_eq path (get_or paths j []) ≡ false
    by true t = absurd (some_none {x = position_or_len (bytes_eq path) paths} (sym (rw t refl) ∙ none))
    by false t = not_true (bytes_eq path (get_or paths j [])) (prefix_len_passes (λ x. not (bytes_eq path x)) paths j [] (omega (arith, ltb-false _ _ t)))

-- ---- groups

-- groups of numbers are the same exactly where the numbers are
pub same_group-numbers : (paths : List Bytes) → AllPairs (λ x y. x ≢ y) paths → (a b : KeyGroup) → HasNumber paths a → HasNumber paths b
    → same_group (group_in paths a) (group_in paths b) ≡ same_key_group a b
same_group-numbers paths apart key.Changesets key.Changesets h k = refl
same_group-numbers paths apart key.Changesets key.Manifests h k = refl
same_group-numbers paths apart key.Changesets (key.FilesAt j) h k = refl
same_group-numbers paths apart key.Manifests key.Changesets h k = refl
same_group-numbers paths apart key.Manifests key.Manifests h k = refl
same_group-numbers paths apart key.Manifests (key.FilesAt j) h k = refl
same_group-numbers paths apart (key.FilesAt i) key.Changesets h k = refl
same_group-numbers paths apart (key.FilesAt i) key.Manifests h k = refl
same_group-numbers paths apart (key.FilesAt i) (key.FilesAt j) h k = its_own paths apart i j h k

number_found : (keys : List (Vec ℕ)) (path : Bytes) (a : KeyGroup) (o : Option ℕ) → position (λ k. bytes_eq path k.items) keys ≡ o → option_map key.FilesAt o ≡ Some a → IsNumberOf (paths_in keys) (model.FilesAt path) a
number_found keys path a None at h = absurd cc
number_found keys path a (Some i) at h =
    let found = position-Some (bytes_eq path) (paths_in keys) i [] (sym (position-items (bytes_eq path) keys) ∙ at) in
    let is : IsNumberOf (paths_in keys) (model.FilesAt path) (key.FilesAt i) = record {
      within = found.0;
      is = ap model.FilesAt (sym ((bytes_eq-Decides path (get_or (paths_in keys) i [])).0 found.1));
    } in
    subst (IsNumberOf (paths_in keys) (model.FilesAt path)) (some_is h) is

-- what the set gives is the number of the path
pub key_group-Some : (keys : List (Vec ℕ)) (group : model.Group) (a : KeyGroup) → key_group keys group ≡ Some a → IsNumberOf (paths_in keys) group a
key_group-Some keys model.Changesets key.Changesets h = record { within = tt; is = refl }
key_group-Some keys model.Changesets key.Manifests h = absurd cc
key_group-Some keys model.Changesets (key.FilesAt i) h = absurd cc
key_group-Some keys model.Manifests key.Manifests h = record { within = tt; is = refl }
key_group-Some keys model.Manifests key.Changesets h = absurd cc
key_group-Some keys model.Manifests (key.FilesAt i) h = absurd cc
key_group-Some keys (model.FilesAt path) a h = number_found keys path a (position (λ k. bytes_eq path k.items) keys) refl h

-- ---- look-ups

module _ (paths : List Bytes) (apart : AllPairs (λ x y. x ≢ y) paths) (a : KeyGroup) (within : HasNumber paths a) (node : Id) (test : Key → Bool)
    (tests : (k : Key) → test k ≡ (same_key_group a k.group && bytes_eq node k.node)) where
  group_test : (e : Key × Held) → HasNumber paths e.0.group → is_of (group_in paths a) node (revision_in paths e) ≡ test e.0
  group_test e h = ap (λ (t : Bool). t && bytes_eq node e.0.node) (same_group-numbers paths apart a e.0.group within h) ∙ sym (tests e.0)

  -- a revision that passes is of the group and the node
  passes : (e : Key × Held) → HasNumber paths e.0.group → test e.0 ≡ true → (group_in paths e.0.group ≡ group_in paths a) × (e.0.node ≡ node)
  passes e h t =
      let parts = both (same_group (group_in paths a) (group_in paths e.0.group)) (bytes_eq node e.0.node) (group_test e h ∙ t) in
      (sym (same_group-is (group_in paths a) (group_in paths e.0.group) parts.0), sym ((bytes_eq-Decides node e.0.node).0 parts.1))

  -- what the key finds is what is held
  pub find-by_key : (es : List (Key × Held)) → Each (λ e. HasNumber paths e.0.group) es
      → revision_of (revisions_in paths es) (group_in paths a) node ≡ option_map (held_revision (group_in paths a) node) (lookup test es)
  find-by_key [] h = refl
  find-by_key (e ∷ es) h = by (test e.0) refl (find-by_key es h.1)
    where
      rest : Option Revision
      rest = revision_of (revisions_in paths es) (group_in paths a) node

      by : (t : Bool) → test e.0 ≡ t → rest ≡ option_map (held_revision (group_in paths a) node) (lookup test es)
          → cond (is_of (group_in paths a) node (revision_in paths e)) (Some (revision_in paths e)) rest ≡ option_map (held_revision (group_in paths a) node) (cond (test e.0) (Some e.1) (lookup test es))
      by true t later =
          let parts = passes e h.0 t in
          rw (group_test e h.0 ∙ t, t) (λ i. Some (held_revision (parts.0 i) (parts.1 i) e.1))
      by false t later = rw (group_test e h.0 ∙ t, t) later

  -- and what was parsed of it is what its text says
  pub value-by_key : (es : List (Key × Held)) → Each (λ e. HasNumber paths e.0.group) es → Each (λ e. HasValue (group_in paths e.0.group) e.1.text e.1.parsed) es
      → (held : Held) → lookup test es ≡ Some held → HasValue (group_in paths a) held.text held.parsed
  value-by_key [] h k held at = absurd cc
  value-by_key (e ∷ es) h k held at = by (test e.0) refl (value-by_key es h.1 k.1 held)
    where
      by : (t : Bool) → test e.0 ≡ t → (lookup test es ≡ Some held → HasValue (group_in paths a) held.text held.parsed) → HasValue (group_in paths a) held.text held.parsed
      by true t later =
          subst (λ (x : Held). HasValue (group_in paths a) x.text x.parsed) {x = e.1} {y = held} (some_is (sym (rw t refl) ∙ at))
          (subst (λ (g : model.Group). HasValue g e.1.text e.1.parsed) (passes e h.0 t).0 k.0)
      by false t later = later (sym (rw t refl) ∙ at)

-- what is lent is what was found
pub value-lent : (group : model.Group) (o : Option (Bor Held)) (found : Option Held) → option_copied o ≡ found → ((h : Held) → found ≡ Some h → HasValue group h.text h.parsed)
    → IfSome o (λ held. HasValue group held.now.text held.now.parsed)
value-lent group None found is value = tt
value-lent group (Some held) found is value = value held.now (sym is)

-- a path without a number has no revisions
pub find-no_number : (keys : List (Vec ℕ)) (group : model.Group) (node : Id) → key_group keys group ≡ None → (es : List (Key × Held)) → Each (λ e. HasNumber (paths_in keys) e.0.group) es
    → revision_of (revisions_in (paths_in keys) es) group node ≡ None
find-no_number keys model.Changesets node none es h = absurd cc
find-no_number keys model.Manifests node none es h = absurd cc
find-no_number keys (model.FilesAt path) node none es h = walk es h
  where
    paths : List Bytes
    paths = paths_in keys

    no_number : (o : Option ℕ) → option_map key.FilesAt o ≡ None → o ≡ None
    no_number None e = refl
    no_number (Some i) e = absurd cc

    another : (b : KeyGroup) → HasNumber paths b → same_group (model.FilesAt path) (group_in paths b) ≡ false
    another key.Changesets k = refl
    another key.Manifests k = refl
    another (key.FilesAt j) k = no_path paths path (sym (position-items (bytes_eq path) keys) ∙ no_number (position (λ x. bytes_eq path x.items) keys) none) j k

    walk : (es : List (Key × Held)) → Each (λ e. HasNumber paths e.0.group) es → revision_of (revisions_in paths es) (model.FilesAt path) node ≡ None
    walk [] h = refl
    walk (e ∷ es) h = rw (another e.0.group h.0) (walk es h.1)

-- the path that has a number stands there
pub path-by_number : (keys : List (Vec ℕ)) (path : Bytes) (i : ℕ) → position (λ k. bytes_eq path k.items) keys ≡ Some i → slice_get (paths_in keys) i ≡ Some path
path-by_number keys path i at =
    let found = position-Some (bytes_eq path) (paths_in keys) i [] (sym (position-items (bytes_eq path) keys) ∙ at) in
    slice_get-get_or (paths_in keys) i [] found.0 ∙ ap Some (sym ((bytes_eq-Decides path (get_or (paths_in keys) i [])).0 found.1))
