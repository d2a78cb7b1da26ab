-- The ids of the last block, over the pairs that the code lists, and the lines of numbers.
use Rattle.std.specs.Prelude.{ℕ, ◌-◌, ◌++◌, List, length, slice_get, option_map, unwrap_or, codes}
use Rattle.text_model.specs.Text.{Bytes}
use Rattle.text_model.specs.Id.{Id, null}
use Rattle.saved_model.specs.Written.{count_line}
use Rattle.command_model.specs.Made.{last_line}
use Rattle.pair_state.specs.declared.blocks.Block.{Block}

-- both ids of the last pair; null where there is none
abbrev pub last_ids : List Block → Id × Id
last_ids blocks =
    let last = slice_get blocks (length blocks - 1) in
    (unwrap_or (option_map (λ b. b.node) last) null, unwrap_or (option_map (λ b. b.commit) last) null)

-- the lines of so many changesets, commits and marked commits, and of a node and an id
abbrev pub lines_with : ℕ → ℕ → ℕ → Id × Id → Bytes
lines_with changesets commits marked last =
    count_line (codes "changesets") changesets
    ++ (count_line (codes "commits") commits
    ++ (count_line (codes "marked") marked
    ++ last_line last.0 last.1))
