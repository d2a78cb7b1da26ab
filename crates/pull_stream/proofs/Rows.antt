-- The files of the changeset of a block that came last are known.
use Rattle.std.proofs.Common.{◌≡◌, ◌++◌, List, [], ◌∷◌, map, inl, inr, refl, sym, subst}
use Rattle.text_model.specs.Lists.{In, Each}
use Rattle.text_model.proofs.Elements.{in_right}
use Rattle.hg_model.specs.Revision.{Revision}
use Rattle.view_model.specs.View.{Row, ChangesetView, changeset_node}
use Rattle.view_model.specs.Held.{IsFileHeld, IsChangesetHeld, AreChangesetsHeld}
use Rattle.pair_model.specs.Block.{Block, changesets_in}
use Rattle.pair_known.specs.Rows.{RowValue, row_value}
use Rattle.pair_known.specs.Drafts.{IsRowKnown}
use Rattle.link_rule.proofs.PartnerViews.{changeset-in}
use Rattle.pair_state.specs.declared.state_parts.StateParts.{StateParts}
use Rattle.pair_state.specs.Blocks.{IsStateOf}

-- a file that is held is a row that is known
rows-known : (known : List Revision) (rows : List Row) → Each (IsFileHeld known) rows → Each (IsRowKnown known) (map row_value rows)
rows-known known [] held = tt
rows-known known (row ∷ rows) held = (
  record {
    revision = held.0.revision;
    is_held = held.0.is_held;
    has_blob = record { meta = (row.revision).meta; body = (row.revision).body; spells = held.0.text; id = refl };
  },
  rows-known known rows held.1,
)

-- a changeset is held that is among those that are held
held-there : (known : List Revision) (hs : List ChangesetView) (h : ChangesetView) → AreChangesetsHeld known (map changeset_node hs) hs → In h hs → IsChangesetHeld known (changeset_node h) h
held-there known [] h held there = absurd there
held-there known (x ∷ hs) h held there = elim there [
  | inl same ↦ subst (λ (v : ChangesetView). IsChangesetHeld known (changeset_node v) v) (sym same) held.0
  | inr more ↦ held-there known hs h held.1 more
]

pub last-rows : (s : StateParts) (blocks : List Block) (b : Block) (rows : List RowValue) → IsStateOf s (blocks ++ b ∷ []) → rows ≡ map row_value (b.changeset).rows → Each (IsRowKnown s.known.hg) rows
last-rows s blocks b rows state same =
    let there = changeset-in (blocks ++ b ∷ []) b (in_right b blocks (b ∷ []) (inl refl)) in
    let held = held-there s.known.hg (changesets_in (blocks ++ b ∷ [])) b.changeset ((state.held).held).changesets there in
    subst (Each (IsRowKnown s.known.hg)) (sym same) (rows-known s.known.hg (b.changeset).rows held.files)
