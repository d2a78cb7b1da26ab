-- The faults of an addition, by the object that has the id.
use Rattle.std.proofs.Common.{◌≡◌, Bool, true, false, true≢false, not, ◌&&◌, List, [], ◌∷◌, map, Option, Some, None, refl, sym, ap, subst, ◌∙◌, bytes_eq}
use Rattle.std.specs.Prelude.{if◌then◌else◌, is_some}
use Rattle.std.specs.List.{list_any}
use Rattle.std.proofs.lemmas.Slice.Eq.{bytes_eq-Decides}
use Rattle.text_model.specs.Lists.{Each}
use Rattle.text_model.specs.Id.{Id, ObjectKind, blob, tree, commit, tag, same_kind}
use Rattle.text_model.specs.Fault.{FaultName, Collision}
use Rattle.text_model.specs.Fault as name
use Rattle.text_model.proofs.Options.{some_is, not_true, or_false}
use Rattle.text_model.proofs.TestLemmas.{both}
use Rattle.git_model.specs.Tree.{has_distinct}
use Rattle.git_model.specs.Object.{Object, object_at, knows_object, is_other_content, content_fault, object_fault}
use Rattle.git_store.specs.declared.fault.GitAddFault.{GitAddFault}
use Rattle.git_store.specs.declared.fault.GitAddFault.TheVariants as add
use Rattle.git_store.specs.Faults.{IsFault}
use Rattle.git_store.specs.Known.{AreKnown, IsSound, is_same_as, knows_same}

abbrev pub ids_of : List Object → List Id
ids_of known = map (λ (o : Object). o.id) known

-- an object that was found is of another kind or content
abbrev is_other_of : Object → Option Object → Bool
is_other_of o None = false
is_other_of o (Some h) = not (same_kind o.kind h.kind && bytes_eq o.content h.content)

none_other : (o : Object) (known : List Object) → list_any (bytes_eq o.id) (ids_of known) ≡ false → list_any (is_other_content o) known ≡ false
none_other o [] h = refl
none_other o (x ∷ known) h = by (bytes_eq o.id x.id) refl (none_other o known)
  where
    by : (t : Bool) → bytes_eq o.id x.id ≡ t → (list_any (bytes_eq o.id) (ids_of known) ≡ false → list_any (is_other_content o) known ≡ false) → list_any (is_other_content o) (x ∷ known) ≡ false
    by true t later = absurd (true≢false (sym (rw t refl) ∙ h))
    by false t later = rw t (later (sym (rw t refl) ∙ h))

-- where no two have one id, another content is that of the object with this id
other_content : (o : Object) (known : List Object) → has_distinct (ids_of known) ≡ true → list_any (is_other_content o) known ≡ is_other_of o (object_at known o.id)
other_content o [] distinct = refl
other_content o (x ∷ known) distinct = by (bytes_eq o.id x.id) refl (other_content o known parts.1)
  where
    parts : (not (list_any (bytes_eq x.id) (ids_of known)) ≡ true) × (has_distinct (ids_of known) ≡ true)
    parts = both (not (list_any (bytes_eq x.id) (ids_of known))) (has_distinct (ids_of known)) distinct

    by : (t : Bool) → bytes_eq o.id x.id ≡ t → (list_any (is_other_content o) known ≡ is_other_of o (object_at known o.id))
        → list_any (is_other_content o) (x ∷ known) ≡ is_other_of o (object_at (x ∷ known) o.id)
    by true t later =
        let same = (bytes_eq-Decides o.id x.id).0 t in
        let rest = none_other o known (ap (λ (i : Id). list_any (bytes_eq i) (ids_of known)) same ∙ not_true (list_any (bytes_eq x.id) (ids_of known)) parts.0) in
        rw (t, rest) (or_false (not (same_kind o.kind x.kind && bytes_eq o.content x.content)))
    by false t later = rw t later

-- ---- a content without a fault

pub fault_by : (known : List Object) (o : Object) → content_fault o.kind o.content ≡ None → object_fault known o ≡ (if list_any (is_other_content o) known then Some Collision else None)
unfolding object_fault
fault_by known o fits = rw (fits, object_fault) refl

module _ (known : List Object) (are : AreKnown known) (o : Object) where
  clean_fault : content_fault o.kind o.content ≡ None → object_fault known o ≡ (if is_other_of o (object_at known o.id) then Some Collision else None)
  clean_fault fits = fault_by known o fits ∙ ap (λ (b : Bool). if b then Some Collision else None) (other_content o known are.are.distinct)

  pub fresh-fault : content_fault o.kind o.content ≡ None → knows_object known o.id ≡ false → object_fault known o ≡ None
  fresh-fault fits unknown = clean_fault fits ∙ by (object_at known o.id) unknown
    where
      by : (found : Option Object) → is_some found ≡ false → (if is_other_of o found then Some Collision else None) ≡ None
      by None h = refl
      by (Some h) e = absurd (true≢false e)

  pub other-fault : content_fault o.kind o.content ≡ None → knows_same known o ≡ false → knows_object known o.id ≡ true → object_fault known o ≡ Some Collision
  other-fault fits other there = clean_fault fits ∙ by (object_at known o.id) other there
    where
      by : (found : Option Object) → is_same_as o found ≡ false → is_some found ≡ true → (if is_other_of o found then Some Collision else None) ≡ Some Collision
      by None e h = absurd (true≢false (sym h))
      by (Some h) e k = rw e refl

-- a fault of the content comes first
pub first : (known : List Object) (o : Object) (name : FaultName) → content_fault o.kind o.content ≡ Some name → object_fault known o ≡ Some name
unfolding object_fault
first known o name h = rw (h, object_fault) refl

pub fault-first : (known : List Object) (o : Object) (e : GitAddFault) → IsFault (content_fault o.kind o.content) e → IsFault (object_fault known o) e
fault-first known o add.ObjectShape is = first known o name.ObjectShape is
fault-first known o add.ModeOut is = first known o name.ModeOut is
fault-first known o add.NameUnfit is = first known o name.NameUnfit is
fault-first known o add.ParentTwice is = first known o name.ParentTwice is
fault-first known o add.ParentLimit is = first known o name.ParentLimit is
fault-first known o add.Collision is = first known o name.Collision is
fault-first known o add.Memory is = tt

-- ---- the same object

pub same_kind-is : (a b : ObjectKind) → same_kind a b ≡ true → a ≡ b
same_kind-is blob blob h = refl
same_kind-is blob tree h = absurd (true≢false (sym h))
same_kind-is blob commit h = absurd (true≢false (sym h))
same_kind-is blob tag h = absurd (true≢false (sym h))
same_kind-is tree blob h = absurd (true≢false (sym h))
same_kind-is tree tree h = refl
same_kind-is tree commit h = absurd (true≢false (sym h))
same_kind-is tree tag h = absurd (true≢false (sym h))
same_kind-is commit blob h = absurd (true≢false (sym h))
same_kind-is commit tree h = absurd (true≢false (sym h))
same_kind-is commit commit h = refl
same_kind-is commit tag h = absurd (true≢false (sym h))
same_kind-is tag blob h = absurd (true≢false (sym h))
same_kind-is tag tree h = absurd (true≢false (sym h))
same_kind-is tag commit h = absurd (true≢false (sym h))
same_kind-is tag tag h = refl

-- an object that was found is one of those known
pub found-sound : (P : Object → Type 0) (known : List Object) (id : Id) (h : Object) → Each P known → object_at known id ≡ Some h → P h
found-sound P [] id h all e = absurd cc
found-sound P (x ∷ known) id h all e = by (bytes_eq id x.id) refl (found-sound P known id h all.1)
  where
    by : (t : Bool) → bytes_eq id x.id ≡ t → (object_at known id ≡ Some h → P h) → P h
    by true t later = subst P {x = x} {y = h} (some_is (sym (rw t refl) ∙ e)) all.0
    by false t later = later (sym (rw t refl) ∙ e)

module _ (known : List Object) (are : AreKnown known) (o : Object) (same : knows_same known o ≡ true) where
  by_found : (found : Option Object) → object_at known o.id ≡ found → is_same_as o found ≡ true → object_fault known o ≡ None
  by_found None at h = absurd (true≢false (sym h))
  by_found (Some h) at like =
      let parts = both (same_kind o.kind h.kind) (bytes_eq o.content h.content) like in
      let sound = found-sound IsSound known o.id h are.sound at in
      let fits : content_fault o.kind o.content ≡ None =
      (λ i. content_fault (same_kind-is o.kind h.kind parts.0 i) ((bytes_eq-Decides o.content h.content).0 parts.1 i)) ∙ sound.fits in
      clean_fault known are o fits ∙ rw at (rw like refl)

  -- the same object has no fault
  pub same-has_no_fault : object_fault known o ≡ None
  same-has_no_fault = by_found (object_at known o.id) refl same

  pub same-known : knows_object known o.id ≡ true
  same-known = by (object_at known o.id) same
    where
      by : (found : Option Object) → is_same_as o found ≡ true → is_some found ≡ true
      by None h = absurd (true≢false (sym h))
      by (Some h) k = refl
