-- How many steps the commits of a stream take.
use Rattle.std.proofs.Common.{◌≡◌, ◌≤◌, ◌+◌, ◌*◌, ◌++◌, ℕ, List, [], length, take, drop, Ok, inr, sym, ap, subst, ◌∙◌, arith, append-nil}
use Rattle.std.proofs.lemmas.List.{length-map, length-append, length-take-le, take-append-drop}
use Rattle.text_model.specs.Text.{Bytes}
use Rattle.text_model.specs.Id.{Id}
use Rattle.hg_model.specs.Revision.{Revision}
use Rattle.git_model.specs.Object.{Object}
use Rattle.git_model.specs.Stream.{Placed, stream_reading}
use Rattle.git_batch.specs.declared.arrival.ObjectArrival.{ObjectArrival}
use Rattle.pair_model.specs.Block.{Block, id_of}
use Rattle.history_model.specs.Pull as model
use Rattle.history_model.specs.Pull.{CommitsBring, objects_with}
use Rattle.pair_state.specs.declared.state_parts.StateParts.{StateParts}
use Rattle.pair_state.specs.Blocks.{value_of, block_value}
use Rattle.pair_state.specs.AllBlocks.{HasAllBlocks, state_value}
use Rattle.pull_outcome.specs.Steps.{StepsGit}
use Rattle.pull_stream.specs.Ready.{IsInOrder}
use Rattle.pull_stream.specs.Taken.{CommitsTaken, SomeTaken}

-- each commit brings a block
as-many : (s next : StateParts) (blocks : List Block) (ids : List Id) (new : List Block) → CommitsTaken s next blocks ids new → length new ≡ length ids
as-many s next blocks ids new taken = sym (length-map new id_of) ∙ ap (length {A = Id}) taken.ids_are

-- the first commits were taken, and the next one was asked
pub some-taken : (s next : StateParts) (m : model.State) (ordered : List Id) (i : ℕ) (new : List Block) (before so_far now : ℕ) → CommitsTaken s next m.blocks (take i ordered) new → i ≤ length ordered
    → so_far ≤ before + 18 * i → now ≤ so_far + 18 → SomeTaken s m ordered before now
some-taken s next m ordered i new before so_far now taken within few one = record {
  first = take i ordered;
  others = drop i ordered;
  split = sym (take-append-drop i ordered);
  new = new;
  brings = taken.brings;
  few = omega (arith, as-many s next m.blocks (take i ordered) new taken, length-take-le i ordered within, few, one);
}

-- all were taken
pub all-taken : (s next : StateParts) (m : model.State) (ordered : List Id) (new : List Block) (before now : ℕ) → CommitsTaken s next m.blocks ordered new → now ≤ before + 18 * length ordered → SomeTaken s m ordered before now
all-taken s next m ordered new before now taken few = record {
  first = ordered;
  others = [];
  split = sym (append-nil ordered);
  new = new;
  brings = taken.brings;
  few = omega (arith, as-many s next m.blocks ordered new taken, few);
}

-- the blocks that came are counted in the next state
block-count : (next : StateParts) (blocks new : List Block) → HasAllBlocks next (blocks ++ new) → length next.blocks ≡ length blocks + length new
block-count next blocks new all =
    sym (length-map next.blocks value_of) ∙ ap length all.state.blocks_are ∙ length-map (blocks ++ new) block_value ∙ length-append blocks new

-- at most 18 steps for each of them
pub so-many : (s : StateParts) (blocks : List Block) (mid next : StateParts) (ordered : List Id) (new : List Block) (first_new before now : ℕ) → CommitsTaken mid next blocks ordered new → first_new ≡ length blocks
    → now ≤ before + 18 * length ordered → now + 18 * first_new ≤ before + 18 * length next.blocks
so-many s blocks mid next ordered new first_new before now taken count few = omega (arith, few, count, as-many mid next blocks ordered new taken, block-count next blocks new taken.state)

module _ (s : StateParts) (blocks : List Block) (mid : StateParts) (arrivals : List ObjectArrival) (ordered : List Id) (came : List Placed) (o : IsInOrder mid arrivals ordered (state_value s blocks) came) where
  -- so often a pull that fails was asked
  pub asked-git : (bytes : Bytes) (before now : ℕ) → stream_reading s.known.git bytes ≡ Ok came → SomeTaken mid (state_value s blocks) ordered before now → StepsGit (state_value s blocks) bytes before now
  asked-git bytes before now reads some = inr (record {
    came = came;
    reads = reads;
    ordered = ordered;
    order = o.order;
    first = some.first;
    others = some.others;
    split = some.split;
    new = some.new;
    brings =
        subst (λ (k : List Revision). CommitsBring k (objects_with (state_value s blocks) came) blocks some.first some.new) (o.ready).revisions
        (subst (λ (os : List Object). CommitsBring mid.known.hg os blocks some.first some.new) (o.ready).objects some.brings);
    few = some.few;
  })
