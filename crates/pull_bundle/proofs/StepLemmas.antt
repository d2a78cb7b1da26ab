-- How many steps the changesets take of what came.
use Rattle.std.proofs.Common.{◌≡◌, ◌+◌, ◌*◌, ◌≤◌, ℕ, length, List, ◌++◌, sym, ap, ◌∙◌, arith, length-append}
use Rattle.std.proofs.lemmas.List.{length-map}
use Rattle.std.proofs.lemmas.List.Elements.{filter-append}
use Rattle.hg_model.specs.Revision.{Revision}
use Rattle.hg_model.specs.Reading.{Arrival}
use Rattle.pair_model.specs.Block.{Block}
use Rattle.history_model.specs.Pull.{changesets_among, is_changesets}
use Rattle.pair_state.specs.declared.state_parts.StateParts.{StateParts}
use Rattle.pair_state.specs.Blocks.{IsStateOf, value_of, block_value}
use Rattle.pull_bundle.specs.declared.taking.Taking.{Taking}
use Rattle.pull_bundle.specs.Takes.{IsTaking, TakesArrivals, SomeTaken}

pub count-is : (s : StateParts) (blocks : List Block) → IsStateOf s blocks → length s.blocks ≡ length blocks
count-is s blocks state = sym (length-map s.blocks value_of) ∙ ap length state.blocks_are ∙ length-map blocks block_value

module _ (start mid : Taking) (base : List Revision) (blocks : List Block) (taking : IsTaking start blocks) (came front rest : List Arrival) (split : came ≡ front ++ rest) (t : TakesArrivals start mid base blocks front) where
  -- the first have their blocks, and one more was asked at most
  pub some-taken : (before at now : ℕ) → at + 18 * length (start.state).blocks ≤ before + 18 * length (mid.state).blocks → now ≤ at + 18 → SomeTaken start blocks came before now
  some-taken before at now few last = record {
    first = changesets_among front;
    others = changesets_among rest;
    split = ap changesets_among split ∙ filter-append (λ a. is_changesets (a.revision).group) front rest;
    new = (t.takes).new;
    brings = (t.takes).brings;
    few =
        let mine = count-is start.state blocks taking.state in
        let all = count-is mid.state (blocks ++ (t.takes).new) ((t.takes).taking).state in
        let count = length-append blocks (t.takes).new in
        omega arith;
  }
