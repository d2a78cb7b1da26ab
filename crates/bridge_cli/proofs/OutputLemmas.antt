-- What the output of a pull brings over the history that was there, from what its command comes to.
use Rattle.std.proofs.Common.{◌≡◌, List, Option, None, Some, sym, subst}
use Rattle.std.specs.Io.KnownBytes.{Appends}
use Rattle.text_model.specs.Text.{Bytes}
use Rattle.state_model.specs.Kept.{State, Kept, kept_of, with_kept}
use Rattle.state_model.specs.Saved.{SlotHolds}
use Rattle.saved_model.specs.Step.{Pull, OfBundle, OfStream, Steps}
use Rattle.history_law.proofs.States.{slot-one}
use Rattle.closure_law.specs.After.{IsSavedAfter}
use Rattle.increment_law.specs.Taken.{back_of, GoesBack, OutputReturns}
use Rattle.increment_law.proofs.Output.{slot-goes-back}
use Rattle.command_model.specs.Run.{Done}
use Rattle.command_model.specs.Command.{Command, ListHg, CheckHg, ListGit, CheckGit, PullHg, PullGit, DumpHg, DumpGit, Map, SetNamesHg, SetNamesGit, NamesHg, NamesGit, Verify, Make, IsKept}
use Rattle.bridge_cli.specs.Ends.{EndsBy}

-- the slot holds one state before the pull and one behind it
goes-back : (pull : Pull) (held after old new : Option Bytes) (s next : State) (k : Kept) (output : Bytes) → SlotHolds held s → Steps (kept_of s) pull k output → next ≡ with_kept s k
    → Appends old new output → IsKept (Some next) held after → (pulls : List Pull) (t u : State) → SlotHolds held t → SlotHolds after u → IsSavedAfter pulls (kept_of t)
    → (made : Bytes) × Appends old new made × GoesBack t u (back_of pull made)
goes-back pull held after old new s next k output begins steps is appends (text, after-is, next-text) = λ pulls t u holds left earlier.
    let to-next : Steps (kept_of s) pull (kept_of next) output = subst (λ (x : State). Steps (kept_of s) pull (kept_of x) output) (sym is) steps in
    let kept : SlotHolds after next = subst (λ (x : Option Bytes). SlotHolds x next) (sym after-is) next-text in
    let over : Steps (kept_of t) pull (kept_of next) output = subst (λ (x : State). Steps (kept_of x) pull (kept_of next) output) (slot-one held s t begins holds) to-next in
    let to : Steps (kept_of t) pull (kept_of u) output = subst (λ (x : State). Steps (kept_of t) pull (kept_of x) output) (slot-one after next u kept left) over in
    (output, appends, slot-goes-back pulls pull held after t u output holds left earlier to)

pub output-returns : (command : Command) (input rest old new : Option Bytes) (slot kept : Option (Option Bytes)) → EndsBy command input rest old new slot kept Done → OutputReturns command input slot kept old new
output-returns ListHg input rest old new slot kept ends = tt
output-returns CheckHg input rest old new slot kept ends = tt
output-returns ListGit input rest old new slot kept ends = tt
output-returns CheckGit input rest old new slot kept ends = tt
output-returns DumpHg input rest old new slot kept ends = tt
output-returns DumpGit input rest old new slot kept ends = tt
output-returns Map input rest old new slot kept ends = tt
output-returns SetNamesHg input rest old new slot kept ends = tt
output-returns SetNamesGit input rest old new slot kept ends = tt
output-returns NamesHg input rest old new slot kept ends = tt
output-returns NamesGit input rest old new slot kept ends = tt
output-returns Verify input rest old new slot kept ends = tt
output-returns (Make n seed) input rest old new slot kept ends = tt
output-returns PullHg None rest old new slot kept ends = tt
output-returns PullHg (Some x) rest old new None kept ends = tt
output-returns PullHg (Some x) rest old new (Some held) None ends = tt
output-returns PullHg (Some x) rest old new (Some held) (Some after) (_, (s, begins, (output, Some next, (k, steps, is), appends, keeps))) =
    goes-back (OfBundle x) held after old new s next k output begins steps is appends keeps
output-returns PullHg (Some x) rest old new (Some held) (Some after) (_, (s, begins, (output, None, never, appends, keeps))) = absurd never
output-returns PullGit None rest old new slot kept ends = tt
output-returns PullGit (Some x) rest old new None kept ends = tt
output-returns PullGit (Some x) rest old new (Some held) None ends = tt
output-returns PullGit (Some x) rest old new (Some held) (Some after) (_, (s, begins, (output, Some next, (k, steps, is), appends, keeps))) =
    goes-back (OfStream x) held after old new s next k output begins steps is appends keeps
output-returns PullGit (Some x) rest old new (Some held) (Some after) (_, (s, begins, (output, None, never, appends, keeps))) = absurd never
