-- What a store keeps as it grows.
use Rattle.std.proofs.Common.{◌≡◌, ◌++◌, ◌&&◌, Bool, false, true≢false, Option, Some, None, Result, Ok, Err, OnErr, List, [], ◌∷◌, length, get_or, refl, sym, ap, subst, ◌∙◌, arith, length-append}
use Rattle.std.specs.Prelude.{bytes_eq, is_some, option_map}
use Rattle.std.specs.Map.{lookup}
use Rattle.std.proofs.lemmas.List.{get_or_append_left}
use Rattle.text_model.specs.Lists.{Each}
use Rattle.text_model.specs.Text.{Bytes}
use Rattle.text_model.proofs.EachLemmas.{Each-push, Each-weaker}
use Rattle.hg_model.specs.Revision as model
use Rattle.hg_model.specs.Revision.{Revision, knows}
use Rattle.hg_store.specs.declared.group.KeyGroup.{KeyGroup}
use Rattle.hg_store.specs.declared.group.KeyGroup.TheVariants as key
use Rattle.hg_store.specs.declared.held.Key.{Key}
use Rattle.hg_store.specs.declared.held.Held.{Held}
use Rattle.hg_store.specs.Known.{IsAddedTo, AreAdded}
use Rattle.hg_store.specs.Groups.{group_in, HasNumber, same_key_group, AreGrown, IsNumberOf, held_revision, revision_in, revisions_in, HasValue, IsNewerIn, IsStore}
use Rattle.hg_store.proofs.KeyLemmas.{find-by_key}
use Rattle.hg_store.proofs.KnownLemmas.{AreAddedTo-push}
use Rattle.hg_store.proofs.NewerLemmas.{newer-more}

-- ---- more paths

module _ (old new : List Bytes) (grown : AreGrown old new) where
  HasNumber-grown : (a : KeyGroup) → HasNumber old a → HasNumber new a
  HasNumber-grown key.Changesets h = tt
  HasNumber-grown key.Manifests h = tt
  HasNumber-grown (key.FilesAt i) h = omega (arith, h, ap length grown.whole, length-append old grown.more)

  pub group_in-grown : (a : KeyGroup) → HasNumber old a → group_in new a ≡ group_in old a
  group_in-grown key.Changesets h = refl
  group_in-grown key.Manifests h = refl
  group_in-grown (key.FilesAt i) h = ap model.FilesAt (ap (λ (l : List Bytes). get_or l i []) grown.whole ∙ get_or_append_left old grown.more [] i h)

  pub revisions_in-grown : (es : List (Key × Held)) → Each (λ e. HasNumber old e.0.group) es → revisions_in new es ≡ revisions_in old es
  revisions_in-grown [] h = refl
  revisions_in-grown (e ∷ es) h =
      (λ i. record { group = group_in-grown e.0.group h.0 i; node = e.0.node; p = e.1.p; q = e.1.q; link = e.1.link; text = e.1.text } ∷ revisions_in-grown es h.1 i)

  values-grown : (es : List (Key × Held)) → Each (λ e. HasNumber old e.0.group) es → Each (λ e. HasValue (group_in old e.0.group) e.1.text e.1.parsed) es
      → Each (λ e. HasValue (group_in new e.0.group) e.1.text e.1.parsed) es
  values-grown [] h k = tt
  values-grown (e ∷ es) h k = (subst (λ (g : model.Group). HasValue g e.1.text e.1.parsed) (sym (group_in-grown e.0.group h.0)) k.0, values-grown es h.1 k.1)

  pub IsStore-grown : (es : List (Key × Held)) → IsStore old es → IsStore new es
  IsStore-grown es s = record {
    apart = grown.apart s.apart;
    numbers = Each-weaker (λ e. HasNumber old e.0.group) (λ e. HasNumber new e.0.group) (λ e h. HasNumber-grown e.0.group h) es s.numbers;
    values = values-grown es s.numbers s.values;
    newer = subst (λ (known : List Revision). Each (λ e. IsNewerIn known e.1.p e.1.parsed) es) (sym (revisions_in-grown es s.numbers)) s.newer;
    added = subst AreAdded (sym (revisions_in-grown es s.numbers)) s.added;
  }

pub on_err : {A E P : Type 0} (r : Result A E) → P → OnErr r P
on_err (Ok x) p = tt
on_err (Err e) p = p

-- ---- one more revision

pub revisions_in-push : (paths : List Bytes) (es : List (Key × Held)) (e : Key × Held) → revisions_in paths (es ++ e ∷ []) ≡ revisions_in paths es ++ revision_in paths e ∷ []
revisions_in-push paths [] e = refl
revisions_in-push paths (x ∷ xs) e = ap (λ (l : List Revision). revision_in paths x ∷ l) (revisions_in-push paths xs e)

pub IsStore-push : (paths : List Bytes) (es : List (Key × Held)) (e : Key × Held) → IsStore paths es → HasNumber paths e.0.group
    → HasValue (group_in paths e.0.group) e.1.text e.1.parsed → IsNewerIn (revisions_in paths es) e.1.p e.1.parsed → IsAddedTo (revisions_in paths es) (revision_in paths e) → IsStore paths (es ++ e ∷ [])
IsStore-push paths es e s number value newer added = record {
  apart = s.apart;
  numbers = Each-push (λ x. HasNumber paths x.0.group) es e s.numbers number;
  values = Each-push (λ x. HasValue (group_in paths x.0.group) x.1.text x.1.parsed) es e s.values value;
  newer =
      let known = revisions_in paths es in
      let r = revision_in paths e in
      subst (λ (rs : List Revision). Each (λ (x : Key × Held). IsNewerIn rs x.1.p x.1.parsed) (es ++ e ∷ [])) (sym (revisions_in-push paths es e))
      (Each-push (λ (x : Key × Held). IsNewerIn (known ++ r ∷ []) x.1.p x.1.parsed) es e
      (Each-weaker (λ (x : Key × Held). IsNewerIn known x.1.p x.1.parsed) (λ (x : Key × Held). IsNewerIn (known ++ r ∷ []) x.1.p x.1.parsed) (λ x n. newer-more known r x.1.p x.1.parsed n) es s.newer)
      (newer-more known r e.1.p e.1.parsed newer));
  added = subst AreAdded (sym (revisions_in-push paths es e)) (AreAddedTo-push [] (revisions_in paths es) (revision_in paths e) s.added added);
}

none_of : {A B : Type 0} (f : A → B) (o : Option A) → is_some (option_map f o) ≡ false → o ≡ None
none_of f None h = refl
none_of f (Some x) h = absurd (true≢false h)

module _ (paths : List Bytes) (es : List (Key × Held)) (s : IsStore paths es) (known : List Revision) (view : revisions_in paths es ≡ known)
    (r : Revision) (a : KeyGroup) (number : IsNumberOf paths r.group a) where
  -- a node that isn't known has no entry
  pub absent : (test : Key → Bool) → ((k : Key) → test k ≡ (same_key_group a k.group && bytes_eq r.node k.node)) → knows known r.group r.node ≡ false → lookup test es ≡ None
  absent test tests fresh =
      none_of (held_revision (group_in paths a) r.node) (lookup test es)
      (ap is_some (sym (find-by_key paths s.apart a number.within r.node test tests es s.numbers))
      ∙ (λ i. knows (view i) (number.is i) r.node) ∙ fresh)

  -- a revision that was added is the last one
  pub kept : (held : Held) → held_revision r.group r.node held ≡ r → HasValue r.group held.text held.parsed → IsNewerIn known held.p held.parsed → IsAddedTo known r
      → IsStore paths (es ++ (record { group = a; node = r.node }, held) ∷ []) × (revisions_in paths (es ++ (record { group = a; node = r.node }, held) ∷ []) ≡ known ++ r ∷ [])
  kept held is value newer added =
      let e : Key × Held = (record { group = a; node = r.node }, held) in
      let last : revision_in paths e ≡ r = ap (λ (g : model.Group). held_revision g r.node held) number.is ∙ is in (
        IsStore-push paths es e s number.within (subst (λ (g : model.Group). HasValue g held.text held.parsed) (sym number.is) value) (subst (λ (l : List Revision). IsNewerIn l held.p held.parsed) (sym view) newer) (subst (λ (x : Revision). IsAddedTo (revisions_in paths es) x) (sym last) (subst (λ (l : List Revision). IsAddedTo l r) (sym view) added)),
        revisions_in-push paths es e ∙ (λ i. view i ++ last i ∷ []),
      )
