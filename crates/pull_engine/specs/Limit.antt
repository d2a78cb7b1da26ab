-- The limits of a saved state.
use Rattle.std.specs.Prelude.{◌≡◌, ◌⊎◌, ℕ, List, Option, Some, None, unwrap_or}
use Rattle.text_model.specs.Id.{Id}
use Rattle.git_model.specs.Object.{Object}
use Rattle.bridge_text.specs.declared.fault.Fault.{Fault}
use Rattle.bridge_text.specs.declared.fault.Fault.TheVariants.{StateLimit}
use Rattle.hg_bundle.specs.declared.arrival.Arrival as listed
use Rattle.git_batch.specs.declared.arrival.ObjectArrival.{ObjectArrival}
use Rattle.pair_model.specs.Block.{Block, node_of, id_of}
use Rattle.state_model.specs.Kept.{Kept}
use Rattle.saved_model.specs.Step.{first_large_block, first_large_tag, with_blocks}
use Rattle.pull_outcome.specs.declared.refused.PullFault.{PullFault}
use Rattle.pull_outcome.specs.declared.refused.PullFault.TheVariants.{Refused, Memory}
use Rattle.pull_engine.specs.declared.limit.TooLarge.{TooLarge}
use Rattle.pull_engine.specs.declared.limit.TooLarge.TheVariants as large
use Rattle.pull_stream.specs.Ready.{place_among}
use Rattle.pull_engine.specs.Places.{node_place}

-- the answer names the first added block, or else the first new tag, with which a limit is passed
abbrev pub IsTooLarge : Kept → List Block → List Object → Option TooLarge → Type 0
IsTooLarge old added new None = (first_large_block old added ≡ None) × (first_large_tag (with_blocks old added) new ≡ None)
IsTooLarge old added new (Some (large.Block found)) = (b : Block) × (first_large_block old added ≡ Some b) × (found.node ≡ node_of b) × (found.commit ≡ id_of b)
IsTooLarge old added new (Some (large.Tag id)) = (first_large_block old added ≡ None) × (t : Object) × (first_large_tag (with_blocks old added) new ≡ Some t) × (id ≡ t.id)

-- a refusal of this id at a place; at 0 where there is none
abbrev pub refused_at : Fault → Id → Option ℕ → PullFault
refused_at fault id place = Refused (record { fault = fault; id = id; place = unwrap_or place 0 })

-- the refusal of the commit of a block, or of a new tag
abbrev pub large_refused : List ObjectArrival → TooLarge → PullFault
large_refused arrivals (large.Block b) = refused_at StateLimit b.commit (place_among arrivals b.commit)
large_refused arrivals (large.Tag id) = refused_at StateLimit id (place_among arrivals id)

-- the refusal is that of the first added block with which a limit is passed, at the place of its changeset
abbrev pub IsLargeBundle : Kept → List Block → List listed.Arrival → PullFault → Type 0
IsLargeBundle old added arrivals fault =
    (fault ≡ Memory)
    ⊎ ((b : Block) × (first_large_block old added ≡ Some b) × (fault ≡ refused_at StateLimit (node_of b) (node_place arrivals (node_of b))))

-- the same of the commit of a block, or else of a new tag
abbrev pub IsLargeStream : Kept → List Block → List Object → List ObjectArrival → PullFault → Type 0
IsLargeStream old added new arrivals fault =
    (fault ≡ Memory)
    ⊎ ((b : Block) × (first_large_block old added ≡ Some b) × (fault ≡ refused_at StateLimit (id_of b) (place_among arrivals (id_of b))))
    ⊎ ((first_large_block old added ≡ None) × (t : Object) × (first_large_tag (with_blocks old added) new ≡ Some t)
    × (fault ≡ refused_at StateLimit t.id (place_among arrivals t.id)))
