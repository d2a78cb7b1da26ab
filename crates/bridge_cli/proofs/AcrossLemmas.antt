-- What a run leaves of the names, from what its command comes to.
use Rattle.std.proofs.Common.{◌≡◌, List, Option, None, Some, Result, Ok, Err, refl, sym, subst, arith}
use Rattle.text_model.specs.Text.{Bytes}
use Rattle.text_model.specs.Fault.{Refusal}
use Rattle.state_model.specs.Kept.{State, Kept, NameRow, kept_of, with_kept}
use Rattle.state_model.specs.Names.{AreNames}
use Rattle.state_model.specs.Saved.{IsState, SlotHolds}
use Rattle.saved_model.specs.Step.{Pull, OfBundle, OfStream, Steps}
use Rattle.dump_law.proofs.Names.{names-saved}
use Rattle.command_model.specs.Run.{Report, Done, IsRefused, Usage, ReadFault, WriteFault, SlotFault, StateBad, Memory, Mismatch}
use Rattle.command_model.specs.Names.{targets_saved}
use Rattle.command_model.specs.Command.{Command, ListHg, CheckHg, ListGit, CheckGit, PullHg, PullGit, DumpHg, DumpGit, Map, SetNamesHg, SetNamesGit, NamesHg, NamesGit, Verify, Make, Written, named_by, IsKept}
use Rattle.command_model.specs.Across.{HaveSameNames, IsSet, LeavesNames, NamesLaw}
use Rattle.state_law.proofs.Back.{come-back}
use Rattle.state_law.proofs.Printed.{same-names}
use Rattle.bridge_cli.specs.Ends.{EndsBy}
use Rattle.bridge_cli.specs.Status.{status_of}
use Rattle.bridge_cli.specs.declared.status.Status.TheVariants as status

-- one report has the status of a run that is done
pub done-is : (report : Report) → status_of report ≡ status.Done → report ≡ Done
done-is Done e = refl
done-is (IsRefused why) e = absurd cc
done-is Usage e = absurd cc
done-is ReadFault e = absurd cc
done-is WriteFault e = absurd cc
done-is SlotFault e = absurd cc
done-is (StateBad why) e = absurd cc
done-is Memory e = absurd cc
done-is (Mismatch commit right) e = absurd cc

-- ---- pulls

own-names : (held : Option Bytes) (s : State) → SlotHolds held s → AreNames (targets_saved s) s.names
own-names None s e = subst (λ (t : State). AreNames (targets_saved t) t.names) (sym e) (record { few = omega arith; fit = tt; targets = tt; rising = refl })
own-names (Some text) s is = names-saved s is.0

left-names : (pull : Pull) (held after : Option Bytes) (s next : State) (k : Kept) (made : Bytes) → SlotHolds held s → Steps (kept_of s) pull k made → next ≡ with_kept s k
    → IsKept (Some next) held after → LeavesNames held after
left-names pull held after s next k made holds steps is (text, after-is, next-text) =
    let state : IsState (with_kept s k) = subst IsState is next-text.0 in
    let same = same-names s pull k made (own-names held s holds) state steps in
    (s, next, holds, subst (λ (x : Option Bytes). SlotHolds x next) (sym after-is) next-text, subst (HaveSameNames s) (sym is) same)

-- ---- names that are set

saves : (s : State) (reading : Result (List NameRow) Refusal) (output : Bytes) → named_by s reading ≡ Written output None → ⊥
saves s (Ok names) output e = cc
saves s (Err why) output e = cc

set-names : (held after : Option Bytes) (s : State) (reading : Result (List NameRow) Refusal) (output : Bytes) (saved : Option State) → named_by s reading ≡ Written output saved
    → IsKept saved held after → IsSet after
set-names held after s reading output None comes kept = absurd (saves s reading output comes)
set-names held after s reading output (Some next) comes (text, after-is, next-text) =
    (next, subst (λ (x : Option Bytes). SlotHolds x next) (sym after-is) next-text, come-back next next-text.0)

-- ---- a run that is done

pub names-hold : (command : Command) (input rest old new : Option Bytes) (slot kept : Option (Option Bytes)) → EndsBy command input rest old new slot kept Done → NamesLaw command input slot kept
names-hold ListHg input rest old new slot kept ends = tt
names-hold CheckHg input rest old new slot kept ends = tt
names-hold ListGit input rest old new slot kept ends = tt
names-hold CheckGit input rest old new slot kept ends = tt
names-hold DumpHg input rest old new slot kept ends = tt
names-hold DumpGit input rest old new slot kept ends = tt
names-hold Map input rest old new slot kept ends = tt
names-hold NamesHg input rest old new slot kept ends = tt
names-hold NamesGit input rest old new slot kept ends = tt
names-hold Verify input rest old new slot kept ends = tt
names-hold (Make n seed) input rest old new slot kept ends = tt
names-hold PullHg None rest old new slot kept ends = tt
names-hold PullHg (Some x) rest old new None kept ends = tt
names-hold PullHg (Some x) rest old new (Some held) None ends = tt
names-hold PullHg (Some x) rest old new (Some held) (Some after) (_, (s, begins, (output, Some next, (k, steps, is), appends, keeps))) =
    left-names (OfBundle x) held after s next k output begins steps is keeps
names-hold PullHg (Some x) rest old new (Some held) (Some after) (_, (s, begins, (output, None, never, appends, keeps))) = absurd never
names-hold PullGit None rest old new slot kept ends = tt
names-hold PullGit (Some x) rest old new None kept ends = tt
names-hold PullGit (Some x) rest old new (Some held) None ends = tt
names-hold PullGit (Some x) rest old new (Some held) (Some after) (_, (s, begins, (output, Some next, (k, steps, is), appends, keeps))) =
    left-names (OfStream x) held after s next k output begins steps is keeps
names-hold PullGit (Some x) rest old new (Some held) (Some after) (_, (s, begins, (output, None, never, appends, keeps))) = absurd never
names-hold SetNamesHg None rest old new slot kept ends = tt
names-hold SetNamesHg (Some x) rest old new None kept ends = tt
names-hold SetNamesHg (Some x) rest old new (Some held) None ends = tt
names-hold SetNamesHg (Some x) rest old new (Some held) (Some after) (_, (s, begins, (output, saved, comes, appends, keeps))) = set-names held after s _ output saved comes keeps
names-hold SetNamesGit None rest old new slot kept ends = tt
names-hold SetNamesGit (Some x) rest old new None kept ends = tt
names-hold SetNamesGit (Some x) rest old new (Some held) None ends = tt
names-hold SetNamesGit (Some x) rest old new (Some held) (Some after) (_, (s, begins, (output, saved, comes, appends, keeps))) = set-names held after s _ output saved comes keeps
