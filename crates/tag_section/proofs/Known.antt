-- The objects of a section of commits are those of their dump.
use Rattle.std.proofs.Common.{◌≡◌, ◌⊎◌, inl, inr, Bool, true, false, true≢false, not, List, [], ◌∷◌, ◌++◌, Option, Some, None, refl, sym, ap, subst, ◌∙◌}
use Rattle.std.specs.Prelude.{is_some, if◌then◌else◌, bytes_eq}
use Rattle.std.specs.List.{list_any}
use Rattle.text_model.specs.Lists.{In, only_new, first_of_each}
use Rattle.text_model.specs.Id.{Id}
use Rattle.text_model.proofs.TestLemmas.{bytes_eq-self}
use Rattle.git_model.specs.Object.{Object, same_object, object_at, knows_object, objects_after, objects_after_all}
use Rattle.git_store.specs.Growth.{IsThere}
use Rattle.git_store.proofs.Growth.{found-in}
use Rattle.git_view.proofs.Found.{found-id}
use Rattle.tree_shape.proofs.Elements.{in-append}
use Rattle.view_model.specs.View.{CommitView}
use Rattle.view_model.specs.Dump.{objects_in}
use Rattle.dump_law.specs.Same.{AreSameObjects}
use Rattle.dump_law.proofs.Elements.{of-filter, of-first}
use Rattle.git_section.specs.declared.section.GitSection.{GitSection}
use Rattle.git_section.specs.Sections.{HoldsCommits}
use Rattle.git_dump.proofs.There.{all_there}

-- what is known behind objects was known before or is one of them
of-after : (known os : List Object) (o : Object) → In o (objects_after_all known os) → In o known ⊎ In o os
of-after known [] o i = inl i
of-after known (x ∷ os) o i = by (of-after (objects_after known x) os o i)
  where
    one : (t : Bool) → In o (if t then known else known ++ x ∷ []) → In o known ⊎ In o (x ∷ os)
    one true j = inl j
    one false j = elim (in-append o known (x ∷ []) j) [ inl k ↦ inl k | inr k ↦ elim k [ inl e ↦ inr (inl e) | inr never ↦ absurd never ] ]

    by : In o (objects_after known x) ⊎ In o os → In o known ⊎ In o (x ∷ os)
    by (inl j) = one (knows_object known x.id) j
    by (inr j) = inr (inr j)

is_known : (os : List Object) (o : Object) → In o os → is_some (object_at os o.id) ≡ true
is_known [] o i = absurd i
is_known (x ∷ os) o (inl e) = ap (λ (b : Bool). is_some (if b then Some x else object_at os o.id)) (ap (λ (y : Object). bytes_eq y.id x.id) e ∙ bytes_eq-self x.id)
is_known (x ∷ os) o (inr i) = by (bytes_eq o.id x.id) refl (is_known os o i)
  where
    by : (t : Bool) → bytes_eq o.id x.id ≡ t → is_some (object_at os o.id) ≡ true → is_some (object_at (x ∷ os) o.id) ≡ true
    by true t rest = ap (λ (b : Bool). is_some (if b then Some x else object_at os o.id)) t
    by false t rest = ap (λ (b : Bool). is_some (if b then Some x else object_at os o.id)) t ∙ rest

module _ (s : GitSection) (cs : List CommitView) (holds : HoldsCommits s cs) where
  there : (o : Object) → In o (objects_in cs) → IsThere s.store o
  there o i = all_there s.store holds.sound s.ids cs o (holds.held, holds.walks) i

  back : (o : Object) → In o s.store → In o (objects_in cs)
  back o i = elim (of-after [] (only_new same_object [] (objects_in cs)) o (subst (λ (l : List Object). In o l) holds.known i)) [
    | inl never ↦ absurd never
    | inr j ↦ of-first same_object o (objects_in cs) (of-filter (λ (x : Object). not (list_any (same_object x) [])) o (first_of_each same_object (objects_in cs)) j)
  ]

  same-at : (id : Id) → object_at (objects_in cs) id ≡ object_at s.store id
  same-at id = by (object_at (objects_in cs) id) refl (object_at s.store id) refl
    where
      by : (a : Option Object) → object_at (objects_in cs) id ≡ a → (b : Option Object) → object_at s.store id ≡ b → object_at (objects_in cs) id ≡ object_at s.store id
      by None e None f = e ∙ sym f
      by None e (Some o) f =
          let known = is_known (objects_in cs) o (back o (found-in s.store id o f)) in
          absurd (true≢false (sym known ∙ ap (λ (x : Id). is_some (object_at (objects_in cs) x)) (sym (found-id s.store id o f)) ∙ ap is_some e))
      by (Some o) e b f = e ∙ sym (there o (found-in (objects_in cs) id o e)) ∙ ap (object_at s.store) (sym (found-id (objects_in cs) id o e))

  pub same-objects : AreSameObjects (objects_in cs) s.store
  same-objects = record { to = λ o i. found-in s.store o.id o (there o i); from = back; at = same-at }
