-- What is claimed of the output of a pull: the other pull takes it over the history that was there. It is this project's own.
use Rattle.std.specs.Prelude.{◌≡◌, List, [], ◌++◌, Option, IfSome, ⊤}
use Rattle.std.specs.Io.KnownBytes.{Appends}
use Rattle.text_model.specs.Text.{Bytes}
use Rattle.text_model.specs.Fault.{Refusal}
use Rattle.git_model.specs.Object.{Object}
use Rattle.pair_model.specs.Block.{Block}
use Rattle.state_model.specs.Kept.{State, Kept, kept_of}
use Rattle.state_model.specs.Saved.{IsState, SlotHolds}
use Rattle.saved_model.specs.Step.{Pull, OfBundle, OfStream, Accepts, Refuses, Steps, next_of}
use Rattle.verify_model.specs.Holds.{StateHolds}
use Rattle.command_model.specs.Command.{Command, PullHg, PullGit}
use Rattle.closure_law.specs.After.{IsSavedAfter}

-- over this history the pull is accepted and refused for nothing, and brings just these blocks and no tag
abbrev pub Takes : Kept → Pull → List Block → Type 0
Takes k pull new = Accepts k pull new [] × ((why : Refusal) → ¬ (Refuses k pull why))

-- the pull of what another pull wrote: of a bundle's commits, or of a stream's changesets
abbrev pub back_of : Pull → Bytes → Pull
back_of (OfBundle bundle) made = OfStream made
back_of (OfStream stream) made = OfBundle made

-- The next history has some blocks more than the one that was there. Each saved history of the blocks that were there takes the pull, which brings just
-- the new ones, whatever tags it has, if it can be saved with the new blocks, and with more tags or none.
abbrev pub GoesBack : State → State → Pull → Type 0
GoesBack s next pull =
    (new : List Block) × (next.blocks ≡ s.blocks ++ new)
    × ((t after : State) (tags : List Object) → IsState t → IsState after → t.blocks ≡ s.blocks → kept_of after ≡ next_of (kept_of t) new tags → Takes (kept_of t) pull new)

-- what is claimed of each pull over a right history that is saved, and that leaves one that is saved too
abbrev pub OutputGoesBack : Type 0
OutputGoesBack = (s next : State) (pull : Pull) (made : Bytes) → IsState s → IsState next → StateHolds s → Steps (kept_of s) pull (kept_of next) made → GoesBack s next (back_of pull made)

-- the same of what a run wrote, where the slot held what a list of pulls left; input, slot and output tell their bytes
abbrev pub WritesBack : (Bytes → Pull) → Option Bytes → Option (Option Bytes) → Option (Option Bytes) → Option Bytes → Option Bytes → Type 0
WritesBack back input before after old new =
    IfSome input (λ _. IfSome before (λ held. IfSome after (λ kept. (pulls : List Pull) (s next : State) → SlotHolds held s → SlotHolds kept next → IsSavedAfter pulls (kept_of s)
    → (made : Bytes) × Appends old new made × GoesBack s next (back made))))

-- What is claimed of the output of a run that is done: what `pull-hg` writes goes back by a pull of that stream, and what `pull-git` writes by one of
-- that bundle. Nothing is said of another command.
abbrev pub OutputReturns : Command → Option Bytes → Option (Option Bytes) → Option (Option Bytes) → Option Bytes → Option Bytes → Type 0
OutputReturns PullHg input before after old new = WritesBack OfStream input before after old new
OutputReturns PullGit input before after old new = WritesBack OfBundle input before after old new
OutputReturns command input before after old new = ⊤
