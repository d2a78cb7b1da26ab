-- The parents of the next changeset, where those before it are held: their views, and what both are together.
use Rattle.std.proofs.Common.{◌≡◌, ℕ, true, false, true≢false, arith, List, [], ◌∷◌, map, Option, Some, None, refl, sym, ap, subst, ◌∙◌}
use Rattle.std.specs.Prelude.{slice_get, IsTrue, ℤ, pos}
use Rattle.std.proofs.lemmas.Slice.Eq.{bytes_eq-Decides}
use Rattle.text_model.specs.Lists.{Each, rises}
use Rattle.text_model.specs.Text.{has_byte, is_below}
use Rattle.text_model.specs.Id.{IsId, null, is_null}
use Rattle.text_model.proofs.Digests.{IsId-node_id}
use Rattle.text_model.proofs.EachLemmas.{Each-weaker}
use Rattle.text_model.proofs.Elements.{each_at}
use Rattle.text_model.proofs.HexLemmas.{IsId-null}
use Rattle.text_model.proofs.Options.{some_is}
use Rattle.hg_model.specs.Changeset.{Changeset, Extra, Plain, IsChangesetText, changeset_text}
use Rattle.hg_model.specs.Revision.{Revision, Changesets, revision_of, is_known_parent}
use Rattle.hg_model.proofs.ChangesetLemmas.{one_changeset}
use Rattle.hg_store.specs.Known.{AreAdded}
use Rattle.hg_view.proofs.Right.{held-is_view}
use Rattle.view_model.specs.View.{Row, ChangesetView, changeset_node, paths_of}
use Rattle.view_model.specs.Held.{IsChangesetHeld, AreChangesetsHeld}
use Rattle.pair_model.specs.Block.{no_changeset}
use Rattle.pair_known.proofs.HeldViews.{held-as}
use Rattle.file_rule.specs.Parents.{IsParentView}
use Rattle.changeset_rule.proofs.KnownParents.{node-known}
use Rattle.make_model.specs.History.{first_parent, second_parent, node_or_null, view_or_none, made_parents, made_history}
use Rattle.make_history.specs.Drafts.{IsOver}
use Rattle.make_history.proofs.BehindLemmas.{first-either, second-either}
use Rattle.make_history.proofs.PathLemmas.{IsGoodPath}
use Rattle.make_history.proofs.SmallLemmas.{IsSmall, small-first, made-numbered, IsNumbered}

abbrev pub IsHeld : List Revision → ChangesetView → Type 0
IsHeld known v = IsChangesetHeld known (changeset_node v) v

pub held-each : (known : List Revision) (vs : List ChangesetView) → AreChangesetsHeld known (map changeset_node vs) vs → Each (IsHeld known) vs
held-each known [] are = tt
held-each known (v ∷ vs) are = (are.0, held-each known vs are.1)

-- ---- one of them

id-of : (o : Option ChangesetView) → IsId (node_or_null o)
unfolding changeset_node
id-of None = IsId-null
id-of (Some v) = IsId-node_id v.p v.q (changeset_text v.fields)

pub parent-ids : (number : ℕ) (before : List ChangesetView) → IsId (made_parents number before).p × IsId (made_parents number before).q
unfolding made_parents
parent-ids number before = (id-of (first_parent number before), id-of (second_parent number before))

module _ (known : List Revision) (added : AreAdded known) where
  node-there : (v : ChangesetView) → IsHeld known v → is_null (changeset_node v) ≡ false
  node-there v h = (held-as known added Changesets (changeset_node v) h.revision h.is_held).some

  not-null : (v : ChangesetView) → IsHeld known v → changeset_node v ≡ null → ⊥
  not-null v h e = true≢false (sym ((bytes_eq-Decides (changeset_node v) null).1 e) ∙ node-there v h)

  some-view : (v : ChangesetView) → IsHeld known v → IsParentView known (changeset_node v) v
  some-view v h = record { of_null = λ e. absurd (true≢false (sym e ∙ node-there v h)); held = λ e. h }

  none-view : IsParentView known null no_changeset
  none-view = record { of_null = λ e. refl; held = λ e. absurd (true≢false (sym ((bytes_eq-Decides null null).1 refl) ∙ e)) }

  module _ (number : ℕ) (before : List ChangesetView) (held : Each (IsHeld known) before) where
    pub first-view : IsParentView known (made_parents number before).p (made_parents number before).first
    unfolding made_parents
    first-view = first-either (λ o. IsParentView known (node_or_null o) (view_or_none o)) number before (λ i v at few. some-view v (each_at (IsHeld known) before i v at held)) (λ none. none-view)

    pub second-view : IsParentView known (made_parents number before).q (made_parents number before).second
    unfolding made_parents
    second-view = second-either (λ o. IsParentView known (node_or_null o) (view_or_none o)) number before (λ i v at few. some-view v (each_at (IsHeld known) before i v at held)) none-view

    first-rises : IsTrue (rises is_below (paths_of ((made_parents number before).first).rows))
    unfolding made_parents
    first-rises =
        first-either (λ o. IsTrue (rises is_below (paths_of (view_or_none o).rows))) number before
        (λ i v at few. (held-is_view known added (changeset_node v) v (each_at (IsHeld known) before i v at held)).in_order) (λ none. refl)

    -- the draft of the next one may be made
    pub over : (n : ℕ) → Each (IsSmall n) before → IsOver known (made_parents number before).p (made_parents number before).q (made_parents number before)
    over n small = record {
      first = first-view;
      second = second-view;
      nodes = (refl, refl);
      rising = first-rises;
      clean = Each-weaker (λ (row : Row). IsGoodPath row.path) (λ (row : Row). has_byte 1 row.path ≡ false) (λ row good. good.clean) ((made_parents number before).first).rows (small-first n number before small).paths;
    }

    node-parent : (v : ChangesetView) → IsHeld known v → is_known_parent known Changesets (changeset_node v) ≡ true
    node-parent v h = node-known known added Changesets (changeset_node v) h.revision h.is_held

    pub first-parent : is_known_parent known Changesets (made_parents number before).p ≡ true
    unfolding made_parents
    first-parent = first-either (λ o. is_known_parent known Changesets (node_or_null o) ≡ true) number before (λ i v at few. node-parent v (each_at (IsHeld known) before i v at held)) (λ none. refl)

    pub second-parent : is_known_parent known Changesets (made_parents number before).q ≡ true
    unfolding made_parents
    second-parent = second-either (λ o. is_known_parent known Changesets (node_or_null o) ≡ true) number before (λ i v at few. node-parent v (each_at (IsHeld known) before i v at held)) refl

    -- ---- both together

    -- where there is no first one there is no second one
    pub none-first : (made_parents number before).p ≡ null → (made_parents number before).q ≡ null
    unfolding made_parents
    none-first =
        second-either (λ o. node_or_null (first_parent number before) ≡ null → node_or_null o ≡ null) number before
        (λ i w at back e.
        absurd (first-either (λ o. node_or_null o ≡ null → ⊥) number before (λ j v there few. not-null v (each_at (IsHeld known) before j v there held)) (λ none f. omega (arith, back, none)) e))
        (λ e. refl)

    apart-when : ((i j : ℕ) (v w : ChangesetView) → slice_get before i ≡ Some v → slice_get before j ≡ Some w → changeset_node v ≡ changeset_node w → i ≡ j) → (made_parents number before).p ≡ (made_parents number before).q → (made_parents number before).p ≡ null
    unfolding made_parents
    apart-when one =
        second-either (λ o. node_or_null (first_parent number before) ≡ node_or_null o → node_or_null (first_parent number before) ≡ null) number before
        (λ j w there back.
        first-either (λ o. node_or_null o ≡ changeset_node w → node_or_null o ≡ null) number before
        (λ i v at few e. absurd (omega (arith, one i j v w at there e, few, back))) (λ none e. refl))
        (λ e. e)

-- ---- no node stands twice

one-time : (i j : ℕ) (v w : ChangesetView) → IsNumbered i v → IsNumbered j w → v.fields ≡ w.fields → i ≡ j
one-time i j v w a b e = let t = times (sym a.2 ∙ ap (λ (x : Changeset). x.date) e ∙ b.2) in omega (arith, t)
  where
    times : {m n : ℕ} {y z : ℤ} {xs ys : List Extra} → Plain (pos m) y xs ≡ Plain (pos n) z ys → m ≡ n
    times e = cc

module _ (known : List Revision) (seed n : ℕ) (held : Each (IsHeld known) (made_history seed n)) where
  one-place : (i j : ℕ) (v w : ChangesetView) → slice_get (made_history seed n) i ≡ Some v → slice_get (made_history seed n) j ≡ Some w → changeset_node v ≡ changeset_node w → i ≡ j
  one-place i j v w at there e =
      let a = each_at (IsHeld known) (made_history seed n) i v at held in
      let b = each_at (IsHeld known) (made_history seed n) j w there held in
      let same : a.revision ≡ b.revision = some_is (sym a.is_held ∙ ap (revision_of known Changesets) e ∙ b.is_held) in
      let fields : v.fields ≡ w.fields = one_changeset (b.revision).text v.fields w.fields (subst (λ (r : Revision). IsChangesetText r.text v.fields) same a.fields) b.fields in
      one-time i j v w (made-numbered seed n i v at) (made-numbered seed n j w there) fields

  pub distinct : AreAdded known → (number : ℕ) → (made_parents number (made_history seed n)).p ≡ (made_parents number (made_history seed n)).q → (made_parents number (made_history seed n)).p ≡ null
  distinct added number = apart-when known added number (made_history seed n) held one-place
