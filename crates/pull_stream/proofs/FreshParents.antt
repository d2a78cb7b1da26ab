-- The parents of a changeset's file revisions are known where those of the revisions are that its draft brings.
use Rattle.std.proofs.Common.{◌≡◌, Bool, true, false, ◌&&◌, ◌++◌, ◌⊎◌, List, [], ◌∷◌, Some, refl, sym, ap, subst, ◌∙◌, inl, inr}
use Rattle.std.proofs.lemmas.Option.{same_Some}
use Rattle.std.specs.Prelude.{bytes_eq, if◌then◌else◌, IsTrue}
use Rattle.text_model.specs.Lists.{Each, In, SomeOf}
use Rattle.text_model.specs.Id.{Id, null}
use Rattle.text_model.proofs.Elements.{each_in}
use Rattle.text_model.proofs.TestLemmas.{both}
use Rattle.hg_model.specs.Revision.{Group, FilesAt, Revision, is_of, same_group, revision_of, is_known_parent}
use Rattle.hg_model.proofs.ParentOrder.{file_order-either}
use Rattle.hg_model.proofs.RevisionLemmas.{same_group-is}
use Rattle.hg_store.specs.Known.{AreAdded}
use Rattle.view_model.specs.View.{ChangesetView, Row, file_node}
use Rattle.view_model.specs.Dump.{file_revision}
use Rattle.view_model.specs.Held.{IsFileHeld}
use Rattle.pair_known.specs.Drafts.{AreFreshOf}
use Rattle.pair_known.specs.Ruled.{IsMadeChangeset, HasFileParents}
use Rattle.pair_known.specs.declared.hg_draft.HgDraft.{HgDraft}
use Rattle.changeset_rule.proofs.KnownParents.{parents-known}

-- both parents of a revision are known
abbrev pub has_both : List Revision → Revision → Bool
has_both known r = is_known_parent known r.group r.p && is_known_parent known r.group r.q

abbrev pub HasBoth : List Revision → Revision → Type 0
HasBoth known r = IsTrue (has_both known r)

-- a revision that is found is one of the first, or one of the others
found-either : (fresh known : List Revision) (group : Group) (node : Id) (r : Revision) → revision_of (fresh ++ known) group node ≡ Some r
    → (In r fresh × (is_of group node r ≡ true)) ⊎ (revision_of known group node ≡ Some r)
found-either [] known group node r at = inr at
found-either (x ∷ fresh) known group node r at = by (is_of group node x) refl at (found-either fresh known group node r)
  where
    by : (t : Bool) → is_of group node x ≡ t → (if t then Some x else revision_of (fresh ++ known) group node) ≡ Some r
        → (revision_of (fresh ++ known) group node ≡ Some r → (In r fresh × (is_of group node r ≡ true)) ⊎ (revision_of known group node ≡ Some r))
        → (In r (x ∷ fresh) × (is_of group node r ≡ true)) ⊎ (revision_of known group node ≡ Some r)
    by true e k later = let same = same_Some _ _ k in inl (inl (sym same), ap (is_of group node) (sym same) ∙ e)
    by false e k later = elim (later k) [ inl among ↦ inl (inr among.0, among.1) | inr held ↦ inr held ]

both-true : (a b : Bool) → a ≡ true → b ≡ true → (a && b) ≡ true
both-true a b e f = rw (e, f) refl

-- of what a draft brings, where each row has its own
pub of-rows : (known : List Revision) (fresh : List Revision) (rows : List Row) → AreFreshOf fresh rows → Each (HasFileParents known) rows → Each (HasBoth known) fresh
of-rows known [] rows of have = tt
of-rows known (r ∷ fresh) rows of have = (one rows of.0 have, of-rows known fresh rows of.1 have)
  where
    one : (rows : List Row) → SomeOf rows (λ row. r ≡ file_revision null row) → Each (HasFileParents known) rows → HasBoth known r
    one [] some have = absurd some
    one (row ∷ rows) some have = elim some [
      | inl is ↦ subst (HasBoth known) (sym is) (both-true (is_known_parent known (FilesAt row.path) (row.revision).p) (is_known_parent known (FilesAt row.path) (row.revision).q) have.0.0 have.0.1)
      | inr rest ↦ one rows rest have.1
    ]

module _ (known : List Revision) (added : AreAdded known) (fresh : List Revision) (all : Each (HasBoth known) fresh) where
  row-parents : (row : Row) → IsFileHeld (fresh ++ known) row → HasFileParents known row
  row-parents row held =
      let r = held.revision in
      let group = FilesAt row.path in
      let b : (is_known_parent known (FilesAt row.path) r.p ≡ true) × (is_known_parent known (FilesAt row.path) r.q ≡ true) = elim (found-either fresh known group (file_node row.revision) r held.is_held) [
        | inl at ↦
            let same : FilesAt row.path ≡ r.group = same_group-is (FilesAt row.path) r.group (both (same_group (FilesAt row.path) r.group) (bytes_eq (file_node row.revision) r.node) at.1).0 in
            subst (λ (g : Group). (is_known_parent known g r.p ≡ true) × (is_known_parent known g r.q ≡ true)) (sym same)
            (both (is_known_parent known r.group r.p) (is_known_parent known r.group r.q) (each_in (HasBoth known) fresh r all at.0))
        | inr at ↦ parents-known known added group (file_node row.revision) r at
      ] in
      let P : Id × Id → Type 0 = λ o. IsTrue (is_known_parent known (FilesAt row.path) o.0) × IsTrue (is_known_parent known (FilesAt row.path) o.1) in
      subst P (sym held.parents) (file_order-either P (row.revision).meta r.p r.q b (b.1, b.0))

  pub of-fresh : (rows : List Row) → Each (IsFileHeld (fresh ++ known)) rows → Each (HasFileParents known) rows
  of-fresh [] held = tt
  of-fresh (row ∷ rows) held = (row-parents row held.0, of-fresh rows held.1)

-- the parents of the rows are known exactly where those of what is brought are
module _ (known : List Revision) (d : HgDraft) (v : ChangesetView) (added : AreAdded known) (made : IsMadeChangeset known d v) where
  pub from-rows : Each (HasFileParents known) v.rows → Each (HasBoth known) d.fresh
  from-rows have = of-rows known d.fresh v.rows made.of_rows have

  pub to-rows : Each (HasBoth known) d.fresh → Each (HasFileParents known) v.rows
  to-rows all = of-fresh known added d.fresh all v.rows (made.draft).files
