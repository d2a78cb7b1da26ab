-- What is claimed of the bundle of new changesets over the history behind which they come. It is this project's own.
use Rattle.std.specs.Prelude.{List, [], ◌++◌}
use Rattle.text_model.specs.Fault.{Refusal}
use Rattle.view_model.specs.Dump.{revisions_in, hg_increment}
use Rattle.pair_model.specs.Block.{Block, changesets_in}
use Rattle.state_model.specs.Kept.{Kept}
use Rattle.saved_model.specs.Step.{Pull, OfBundle, Accepts, Refuses}

-- the bundle of the changesets of new blocks, without what the earlier ones have
abbrev pub bundle_behind : Kept → List Block → Pull
bundle_behind k new = OfBundle (hg_increment (revisions_in (changesets_in (k.blocks ++ new))) (changesets_in k.blocks) (changesets_in new))

-- over the history the bundle is accepted, brings just the new blocks, and no fault is one of it
pub record BundleGoesOn (k : Kept) (new : List Block) : Type 0 where
  pub accepted : Accepts k (bundle_behind k new) new []
  pub no_fault : (why : Refusal) → ¬ (Refuses k (bundle_behind k new) why)
