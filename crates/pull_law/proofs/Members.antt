-- The block of a member is one over a table of blocks, and so is the name for which it is refused.
use Rattle.std.proofs.Common.{◌≡◌, false, List, sym, subst}
use Rattle.std.specs.Prelude.{IsTrue}
use Rattle.text_model.specs.Id.{Id}
use Rattle.text_model.specs.Fault.{FaultName}
use Rattle.text_model.specs.Fault as fault
use Rattle.hg_model.specs.Revision.{Revision}
use Rattle.hg_view.proofs.One.{one_held}
use Rattle.view_model.specs.View.{ChangesetView, SameChangeset, changeset_node}
use Rattle.view_model.specs.Held.{IsChangesetHeld}
use Rattle.pair_model.specs.Block.{Block}
use Rattle.partner_model.specs.Partner.{Member, IsHeldView}
use Rattle.partner_model.specs.Given.{IsBlockFor, has_late_file, has_late_manifest}
use Rattle.partner_model.specs.Table.{IsTable, AreApart}
use Rattle.partner_law.proofs.Choices.{block_for_one}
use Rattle.unmark_law.proofs.Same.{same_changeset}
use Rattle.history_model.specs.Pull.{BlockRefused}
use Rattle.pull_law.proofs.Choices.{IsOneName, nothing-one, unless-one, nothing-none, unless-none, not-true}
use Rattle.pull_law.proofs.Known.{HasNoNull}

-- known changesets of one node are the same
pub apart : (known : List Revision) → HasNoNull known → AreApart (IsHeldView known)
apart known none v w a b e =
    let one = one_held known none (changeset_node v) v w a (subst (λ (node : Id). IsChangesetHeld known node w) (sym e) b) in
    subst (λ (z : ChangesetView). SameChangeset v z) one (same_changeset v)

module _ (known : List Revision) (none : HasNoNull known) (blocks : List Block) (table : IsTable blocks) (m : Member) where
  pub one-block : (b d : Block) → IsBlockFor blocks (IsHeldView known) m b → IsBlockFor blocks (IsHeldView known) m d → b ≡ d
  one-block = block_for_one blocks (IsHeldView known) table (apart known none) m

  module _ (IsLarge Collides : Block → Type 0) where
    -- why the member is refused that has a block
    abbrev pub IsRefusedFor : FaultName → Type 0
    IsRefusedFor found = (b : Block) × IsBlockFor blocks (IsHeldView known) m b × BlockRefused (IsLarge b) (Collides b) blocks b found

    pub block-refusal_one : IsOneName IsRefusedFor
    block-refusal_one x y (b, is, why) (d, is', why') =
        unless-one (IsLarge b) fault.PairLimit _
        (unless-one (IsTrue (has_late_file blocks (b.changeset).rows)) fault.FileParentLate _
        (unless-one (IsTrue (has_late_manifest blocks (b.changeset).manifest)) fault.ManifestParentLate _
        (unless-one (Collides b) fault.Collision _ nothing-one))) x y why
        (subst (λ (z : Block). BlockRefused (IsLarge z) (Collides z) blocks z y) (one-block d b is' is) why')

    pub block-or_refused : (b : Block) → IsBlockFor blocks (IsHeldView known) m b → ¬ (IsLarge b) → has_late_file blocks (b.changeset).rows ≡ false
        → has_late_manifest blocks (b.changeset).manifest ≡ false → ¬ (Collides b) → (found : FaultName) → IsRefusedFor found → ⊥
    block-or_refused b is small files manifest free found (d, is', why) =
        unless-none (IsLarge b) fault.PairLimit _ small
        (unless-none (IsTrue (has_late_file blocks (b.changeset).rows)) fault.FileParentLate _ (not-true files)
        (unless-none (IsTrue (has_late_manifest blocks (b.changeset).manifest)) fault.ManifestParentLate _ (not-true manifest)
        (unless-none (Collides b) fault.Collision _ free nothing-none))) found
        (subst (λ (z : Block). BlockRefused (IsLarge z) (Collides z) blocks z found) (one-block d b is' is) why)
