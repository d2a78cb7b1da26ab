-- A saved state's blocks, and the first of them, are histories of what its store knows.
use Rattle.std.proofs.Common.{◌≡◌, true≢false, List, ◌++◌, sym, subst, ◌∙◌}
use Rattle.std.specs.Prelude.{is_some}
use Rattle.std.proofs.lemmas.Slice.Eq.{bytes_eq-Decides}
use Rattle.text_model.specs.Lists.{Each, In}
use Rattle.text_model.specs.Id.{Id, null, has_id}
use Rattle.hg_model.specs.Revision.{Changesets}
use Rattle.view_model.specs.View.{changeset_node}
use Rattle.pair_model.specs.Block.{Block, block_of_node, changesets_in}
use Rattle.partner_model.specs.Partner.{IsHeldView}
use Rattle.state_model.specs.Kept.{State}
use Rattle.state_model.specs.Saved.{IsState}
use Rattle.next_law.proofs.Known.{saved-of}
use Rattle.frame_law.specs.Ground.{IsGround}
use Rattle.frame_law.proofs.Fronts.{each_held, ground_front, front_among}
use Rattle.pair_known.specs.Blocks.{IsHistoryHeld}
use Rattle.pair_known.specs.declared.known.Known.{Known}
use Rattle.pair_known.proofs.HeldViews.{held-as}
use Rattle.commit_rule.proofs.Tables.{table}
use Rattle.pair_choice.proofs.Histories.{apart}
use Rattle.state_audit.specs.Before.{IsBefore}

-- ---- all blocks

pub ground : (k : Known) (m : State) → IsState m → IsHistoryHeld k m.blocks → IsGround m.blocks (IsHeldView k.hg)
ground k m saved history =
    let t = table k m.blocks history in
    record {
      nodes = ((saved-of m saved).dumped).distinct;
      ids = t.ids;
      rows = t.rows;
      known = each_held k.hg (changesets_in m.blocks) (history.held).changesets;
      no_links = history.no_links;
      apart = apart k m.blocks history;
      real = λ v held e. true≢false (sym ((bytes_eq-Decides (changeset_node v) null).1 e) ∙ (held-as k.hg history.added Changesets (changeset_node v) held.revision held.is_held).some);
    }

-- ---- the first of them

pub before : (k : Known) (m : State) (front more : List Block) (nodes : List Id) → IsState m → IsHistoryHeld k m.blocks → m.blocks ≡ front ++ more
    → ((node : Id) → has_id nodes node ≡ is_some (block_of_node front node)) → IsBefore k m.blocks front nodes
before k m front more nodes saved history split are = record {
  whole = ground k m saved history;
  part = ground_front front more (IsHeldView k.hg) (subst (λ (bs : List Block). IsGround bs (IsHeldView k.hg)) split (ground k m saved history));
  among = subst (λ (bs : List Block). Each (λ b. In b bs) front) (sym split) (front_among front more);
  nodes_are = are;
}
