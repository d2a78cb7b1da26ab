-- The parts of a history: the changesets before a block, its own and those behind it.
use Rattle.std.proofs.Common.{◌≡◌, false, true, List, [], ◌∷◌, ◌++◌, map, refl, ap, subst, ◌∙◌}
use Rattle.std.specs.Prelude.{is_some}
use Rattle.text_model.specs.Lists.{Each}
use Rattle.text_model.proofs.EachLemmas.{Each-rest, Each-front}
use Rattle.text_model.proofs.Elements.{none_all, flat_map_append}
use Rattle.hg_model.specs.Revision.{Revision, known_after_all}
use Rattle.git_model.specs.Tree.{has_distinct}
use Rattle.view_model.specs.View.{ChangesetView, changeset_node}
use Rattle.view_model.specs.Dump.{revisions_of, revisions_in}
use Rattle.pair_model.specs.Block.{Block, view_at, changesets_in}
use Rattle.partner_model.specs.Clash.{is_any_saved}
use Rattle.next_law.proofs.NewBlocks.{changesets-more}
use Rattle.frame_law.proofs.Lists.{finds_none}
use Rattle.frame_law.proofs.Fronts.{changesets_front}
use Rattle.right_law.proofs.Changesets.{nodes_apart}

-- the revisions that are known once a stream has brought these blocks, over what was known
abbrev pub known_behind : List Revision → List Block → List Revision
known_behind start front = known_after_all start (revisions_in (changesets_in front))

-- and once it has brought one block more
pub known_push : (start : List Revision) (front : List Block) (b : Block) → known_after_all (known_behind start front) (revisions_in (b.links ++ b.changeset ∷ [])) ≡ known_behind start (front ++ b ∷ [])
known_push start front b = changesets-more (record { revisions = start; objects = []; blocks = [] }) front b

module _ (before after : List Block) (b : Block) where
  abbrev pub own : List ChangesetView
  own = b.links ++ b.changeset ∷ []

  all_parts : changesets_in (before ++ b ∷ after) ≡ changesets_in before ++ (own ++ changesets_in after)
  all_parts = changesets_front before (b ∷ after)

  pub all_revisions : revisions_in (changesets_in (before ++ b ∷ after)) ≡ revisions_in (changesets_in before) ++ (revisions_in own ++ revisions_in (changesets_in after))
  all_revisions =
      ap revisions_in all_parts ∙ flat_map_append revisions_of (changesets_in before) (own ++ changesets_in after)
      ∙ ap (λ (l : List Revision). revisions_in (changesets_in before) ++ l) (flat_map_append revisions_of own (changesets_in after))

  pub each_before : (P : ChangesetView → Type 0) → Each P (changesets_in (before ++ b ∷ after)) → Each P (changesets_in before)
  each_before P each = Each-front P (changesets_in before) (own ++ changesets_in after) (subst (Each P) all_parts each)

  pub each_own : (P : ChangesetView → Type 0) → Each P (changesets_in (before ++ b ∷ after)) → Each P own
  each_own P each = Each-front P own (changesets_in after) (Each-rest P (changesets_in before) (own ++ changesets_in after) (subst (Each P) all_parts each))

  -- none of its changesets stands before it
  pub none_saved : has_distinct (map changeset_node (changesets_in (before ++ b ∷ after))) ≡ true → is_any_saved before own ≡ false
  none_saved d = none_all (λ h. is_some (view_at (changesets_in before) (changeset_node h))) own (λ v i.
      ap is_some (finds_none changeset_node (changeset_node v) (changesets_in before) (λ x j. nodes_apart (before ++ b ∷ after) before after b refl d x v j i)))
