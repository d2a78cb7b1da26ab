-- The marks that were met are those of the revisions that are written.
use Rattle.std.proofs.Common.{◌≡◌, ◌<◌, ◌||◌, Bool, true, false, not, List, [], ◌∷◌, ◌++◌, length, map, arith, refl, sym, ap, subst, ◌∙◌, append-nil, append_assoc}
use Rattle.std.specs.Prelude.{if◌then◌else◌}
use Rattle.std.specs.List.{list_any}
use Rattle.std.proofs.lemmas.List.Folds.{list_any-append}
use Rattle.std.proofs.Math.Bool.{or_comm}
use Rattle.text_model.specs.Id.{Id}
use Rattle.text_model.specs.Lists.{Each, only_new}
use Rattle.text_model.proofs.Elements.{map_append}
use Rattle.hg_model.proofs.RevisionLemmas.{same_group-is}
use Rattle.hg_model.specs.Revision.{Group, Revision, same_group, same_revision}
use Rattle.hg_store.specs.Known.{AreAdded}
use Rattle.view_model.specs.View.{ChangesetView}
use Rattle.view_model.specs.Held.{AreChangesetsHeld}
use Rattle.view_model.specs.Dump.{revisions_of, revisions_in, brought_by, of_group}
use Rattle.hg_dump.specs.declared.references.Reference.{Reference}
use Rattle.hg_dump.specs.declared.brought.Brought.{Brought}
use Rattle.hg_dump.specs.Marks.{Mark, mark_of, same_mark, references_at, marks_of, marks_in, Met, none, meet, meets, IsMet}
use Rattle.hg_dump.specs.State.{referred_in, met_of, AreBrought}
use Rattle.hg_dump.specs.Written.{reference_to, IsHeldIn}
use Rattle.hg_dump.proofs.GroupLemmas.{same_mark-sym}
use Rattle.hg_dump.proofs.HeldLemmas.{held-revisions}
use Rattle.hg_dump.proofs.OnceLemmas.{added, only_new-push, only_new-image, Each-new}

-- old marks bring nothing
old-all : (s : Met) (ms : List Mark) → meets false s ms ≡ record { all = s.all ++ ms; brought = s.brought }
old-all s [] = ap (λ (l : List Mark). record { all = l; brought = s.brought }) (sym (append-nil s.all))
old-all s (m ∷ ms) = old-all (meet false s m) ms ∙ ap (λ (l : List Mark). record { all = l; brought = s.brought }) (append_assoc s.all (m ∷ []) ms)

any-turned : (m : Mark) (ms : List Mark) → list_any (λ x. same_mark x m) ms ≡ list_any (same_mark m) ms
any-turned m [] = refl
any-turned m (x ∷ xs) = (λ i. same_mark-sym x m i || any-turned m xs i)

grows : (b : Bool) (m : Mark) (l : List Mark) → l ++ added same_mark b m ≡ (if not b then l ++ m ∷ [] else l)
grows true m l = append-nil l
grows false m l = refl

-- new marks bring those that are new
new-all : (old before ms : List Mark) → meets true (record { all = old ++ before; brought = only_new same_mark old before }) ms
    ≡ record { all = old ++ (before ++ ms); brought = only_new same_mark old (before ++ ms) }
new-all old before [] = (λ i. record { all = old ++ sym (append-nil before) i; brought = only_new same_mark old (sym (append-nil before) i) })
new-all old before (m ∷ ms) =
    ap (λ (s : Met). meets true s ms) one ∙ new-all old (before ++ m ∷ []) ms
    ∙ (λ i. record { all = old ++ append_assoc before (m ∷ []) ms i; brought = only_new same_mark old (append_assoc before (m ∷ []) ms i) })
  where
    any : (list_any (λ x. same_mark x m) before || list_any (same_mark m) old) ≡ list_any (same_mark m) (old ++ before)
    any = or_comm (list_any (λ x. same_mark x m) before) (list_any (same_mark m) old) ∙ ap (λ (b : Bool). list_any (same_mark m) old || b) (any-turned m before) ∙ sym (list_any-append (same_mark m) old before)

    one : meet true (record { all = old ++ before; brought = only_new same_mark old before }) m ≡ record { all = old ++ (before ++ m ∷ []); brought = only_new same_mark old (before ++ m ∷ []) }
    one = (λ i. record {
      all = append_assoc old before (m ∷ []) i;
      brought = (sym (grows (list_any (same_mark m) (old ++ before)) m (only_new same_mark old before))
          ∙ ap (λ (b : Bool). only_new same_mark old before ++ added same_mark b m) (sym any)
          ∙ sym (only_new-push same_mark old before m)) i;
    })

pub met-is : (old new : List ChangesetView) → (met_of old new).brought ≡ only_new same_mark (marks_in old) (marks_in new)
met-is old new =
    ap (λ (s : Met). (meets true s (marks_in new)).brought) (old-all none (marks_in old) ∙ ap (λ (l : List Mark). record { all = l; brought = [] }) (sym (append-nil (marks_in old))))
    ∙ ap (λ (s : Met). s.brought) (new-all (marks_in old) [] (marks_in new))

marks-are : (hs : List ChangesetView) → map mark_of (revisions_in hs) ≡ marks_in hs
marks-are [] = refl
marks-are (h ∷ hs) = map_append mark_of (revisions_of h) (revisions_in hs) ∙ ap (λ (l : List Mark). marks_of h ++ l) (marks-are hs)

pub brought-marks : (old new : List ChangesetView) → map mark_of (brought_by old new) ≡ (met_of old new).brought
unfolding brought_by
brought-marks old new =
    only_new-image mark_of same_revision same_mark (λ a b. refl) (revisions_in old) (revisions_in new)
    ∙ (λ i. only_new same_mark (marks-are old i) (marks-are new i))
    ∙ sym (met-is old new)

-- the references of a group
references-are : (group : Group) (rs : List Revision) → references_at group (map mark_of rs) ≡ map reference_to (of_group group rs)
references-are group [] = refl
references-are group (r ∷ rs) = by (same_group group r.group) refl (references-are group rs)
  where
    by : (b : Bool) → same_group group r.group ≡ b → references_at group (map mark_of rs) ≡ map reference_to (of_group group rs)
        → references_at group (map mark_of (r ∷ rs)) ≡ map reference_to (of_group group (r ∷ rs))
    by true e rest = rw e (ap (λ (l : List Reference). reference_to r ∷ l) rest)
    by false e rest = rw e rest

-- those of a group are held in it
held-group : (known : List Revision) (group : Group) (rs : List Revision) → Each (λ r. IsHeldIn known r.group r) rs → Each (IsHeldIn known group) (of_group group rs)
held-group known group [] held = tt
held-group known group (r ∷ rs) held = by (same_group group r.group) refl (held-group known group rs held.1)
  where
    by : (b : Bool) → same_group group r.group ≡ b → Each (IsHeldIn known group) (of_group group rs) → Each (IsHeldIn known group) (of_group group (r ∷ rs))
    by true e rest = rw e (subst (λ (g : Group). IsHeldIn known g r) (sym (same_group-is group r.group e)) held.0, rest)
    by false e rest = rw e rest

-- without changesets nothing has to be known
held-new : (known : List Revision) (nodes : List Id) (new : List ChangesetView) → (0 < length nodes → AreAdded known) → AreChangesetsHeld known nodes new
    → Each (λ r. IsHeldIn known r.group r) (revisions_in new)
held-new known [] [] added held = tt
held-new known [] (h ∷ hs) added held = absurd held
held-new known (n ∷ nodes) new added held = held-revisions known (added (omega arith)) (n ∷ nodes) new held

pub are-brought : (known : List Revision) (nodes : List Id) (old new : List ChangesetView) (b : Brought) → (0 < length nodes → AreAdded known) → AreChangesetsHeld known nodes new → IsMet (met_of old new) (referred_in b)
    → AreBrought known b (brought_by old new)
unfolding brought_by
are-brought known nodes old new b added held met group = record {
  references_are = met.brought group ∙ ap (references_at group) (sym (brought-marks old new)) ∙ references-are group (brought_by old new);
  are_held = held-group known group (brought_by old new) (Each-new (λ r. IsHeldIn known r.group r) same_revision (revisions_in old) (revisions_in new) (held-new known nodes new added held));
}
