-- How often a run unmarks a member.
use Rattle.std.specs.Prelude.{◌≡◌, ◌≤◌, ◌+◌, ◌*◌, ℕ, length, Option, Some, None}
use Rattle.text_model.specs.Text.{Bytes}
use Rattle.state_model.specs.Kept.{kept_of}
use Rattle.saved_model.specs.Step.{known_of}
use Rattle.command_model.specs.Command.{Command, PullHg, PullGit, Verify, Make}
use Rattle.pull_outcome.specs.Steps.{StepsHg, StepsGit}
use Rattle.bridge_cli.specs.Over.{OverAny}

-- in a pull at most 18 times for each new block, and for the member that is refused; in an audit at most 18 times for each block of the state; in a history
-- that is made any number of times; another command unmarks nothing
abbrev pub StepsOf : Command → Option Bytes → Option (Option Bytes) → ℕ → ℕ → Type 0
StepsOf PullHg input slot before now = (before ≤ now) × OverAny PullHg input slot (λ s bytes. StepsHg (known_of (kept_of s)) bytes before now)
StepsOf PullGit input slot before now = (before ≤ now) × OverAny PullGit input slot (λ s bytes. StepsGit (known_of (kept_of s)) bytes before now)
StepsOf Verify input slot before now = (before ≤ now) × OverAny Verify input slot (λ s bytes. now ≤ before + 18 * length s.blocks)
StepsOf (Make n seed) input slot before now = before ≤ now
StepsOf other input slot before now = now ≡ before

-- the same of what the words ask for
abbrev pub StepsOfRun : Option Command → Option Bytes → Option (Option Bytes) → ℕ → ℕ → Type 0
StepsOfRun (Some command) input slot before now = StepsOf command input slot before now
StepsOfRun None input slot before now = now ≡ before
