-- What the store knows has one view for each node.
use Rattle.std.proofs.Common.{List, sym, subst}
use Rattle.text_model.specs.Id.{Id}
use Rattle.view_model.specs.View.{ChangesetView, SameChangeset, changeset_node}
use Rattle.view_model.specs.Held.{IsChangesetHeld}
use Rattle.pair_model.specs.Block.{Block}
use Rattle.partner_model.specs.Partner.{IsHeldView}
use Rattle.partner_model.specs.Table.{AreApart}
use Rattle.pair_known.specs.Blocks.{IsHistoryHeld}
use Rattle.pair_known.specs.declared.known.Known.{Known}
use Rattle.pair_known.proofs.HeldViews.{one_view}
use Rattle.unmark_law.proofs.Same.{same_changeset}

pub apart : (k : Known) (blocks : List Block) → IsHistoryHeld k blocks → AreApart (IsHeldView k.hg)
apart k blocks history v w a b e =
    let one = one_view k.hg history.added (changeset_node v) v w a (subst (λ (node : Id). IsChangesetHeld k.hg node w) (sym e) b) in
    subst (λ (z : ChangesetView). SameChangeset v z) one (same_changeset v)
