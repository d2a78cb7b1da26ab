-- The headline of a run, from what its command comes to.
use Rattle.std.proofs.Common.{◌≡◌, List, ◌∷◌, Option, None, Some, refl, sym, subst}
use Rattle.std.specs.Prelude.{⊤}
use Rattle.text_model.specs.Text.{Bytes}
use Rattle.text_model.specs.Fault.{Refusal}
use Rattle.state_model.specs.Kept.{State, Kept, kept_of, with_kept}
use Rattle.state_model.specs.Saved.{SlotHolds}
use Rattle.saved_model.specs.Step.{Pull, OfBundle, OfStream, Steps}
use Rattle.command_model.specs.Run.{Report, Done, IsRefused, Usage, ReadFault, WriteFault, SlotFault, StateBad, Memory, Mismatch}
use Rattle.command_model.specs.Command.{Command, ListHg, CheckHg, ListGit, CheckGit, PullHg, PullGit, DumpHg, DumpGit, Map, SetNamesHg, SetNamesGit, NamesHg, NamesGit, Verify, Make, IsKept}
use Rattle.saved_model.specs.Theorem.{IsSaved, GoesOn}
use Rattle.command_model.specs.Headline.{EndsAs, Headline}
use Rattle.history_law.proofs.States.{done, stopped}
use Rattle.bridge_cli.specs.Ends.{EndsBy}
use Rattle.bridge_cli.specs.Status.{status_of}
use Rattle.bridge_cli.specs.declared.status.Status.{Status}
use Rattle.bridge_cli.specs.declared.status.Status.TheVariants as status
use Rattle.bridge_cli.proofs.OverLemmas.{some-is}

-- what a slot holds behind a pull that is done is the text of the next state
pulls-on : (pull : Pull) (held after : Option Bytes) (s next : State) (k : Kept) (made : Bytes)
    → SlotHolds held s → Steps (kept_of s) pull k made → next ≡ with_kept s k → IsKept (Some next) held after → GoesOn pull held after None
pulls-on pull held after s next k made holds steps is (text, after-is, next-text) =
    done pull held after s next made holds (subst (λ (x : Option Bytes). SlotHolds x next) (sym after-is) next-text)
    (subst (λ (x : State). Steps (kept_of s) pull (kept_of x) made) (sym is) steps)

-- what a run with this command says of the history of any list of pulls
pub headline-holds : (command : Command) (input rest old new : Option Bytes) (slot kept : Option (Option Bytes)) (report : Report)
    → EndsBy command input rest old new slot kept report → ((why : Refusal) → report ≡ IsRefused why → kept ≡ slot) → Headline command input slot kept report
headline-holds ListHg input rest old new slot kept report ends same = tt
headline-holds CheckHg input rest old new slot kept report ends same = tt
headline-holds ListGit input rest old new slot kept report ends same = tt
headline-holds CheckGit input rest old new slot kept report ends same = tt
headline-holds DumpHg input rest old new slot kept report ends same = tt
headline-holds DumpGit input rest old new slot kept report ends same = tt
headline-holds Map input rest old new slot kept report ends same = tt
headline-holds SetNamesHg input rest old new slot kept report ends same = tt
headline-holds SetNamesGit input rest old new slot kept report ends same = tt
headline-holds NamesHg input rest old new slot kept report ends same = tt
headline-holds NamesGit input rest old new slot kept report ends same = tt
headline-holds Verify input rest old new slot kept report ends same = tt
headline-holds (Make n seed) input rest old new slot kept report ends same = tt
headline-holds PullHg None rest old new slot kept report ends same = tt
headline-holds PullHg (Some x) rest old new None kept report ends same = tt
headline-holds PullHg (Some x) rest old new (Some held) None report ends same = tt
headline-holds PullHg (Some x) rest old new (Some held) (Some after) Done (_, (s, begins, (output, Some next, (k, steps, is), appends, keeps))) same =
    pulls-on (OfBundle x) held after s next k output begins steps is keeps
headline-holds PullHg (Some x) rest old new (Some held) (Some after) Done (_, (s, begins, (output, None, never, appends, keeps))) same = absurd never
headline-holds PullHg (Some x) rest old new (Some held) (Some after) (IsRefused why) (_, (s, begins, due)) same =
    stopped (OfBundle x) held after s why begins due (some-is (same why refl))
headline-holds PullHg (Some x) rest old new (Some held) (Some after) Usage ends same = tt
headline-holds PullHg (Some x) rest old new (Some held) (Some after) ReadFault ends same = tt
headline-holds PullHg (Some x) rest old new (Some held) (Some after) WriteFault ends same = tt
headline-holds PullHg (Some x) rest old new (Some held) (Some after) SlotFault ends same = tt
headline-holds PullHg (Some x) rest old new (Some held) (Some after) (StateBad why) ends same = tt
headline-holds PullHg (Some x) rest old new (Some held) (Some after) Memory ends same = tt
headline-holds PullHg (Some x) rest old new (Some held) (Some after) (Mismatch commit right) ends same = tt
headline-holds PullGit None rest old new slot kept report ends same = tt
headline-holds PullGit (Some x) rest old new None kept report ends same = tt
headline-holds PullGit (Some x) rest old new (Some held) None report ends same = tt
headline-holds PullGit (Some x) rest old new (Some held) (Some after) Done (_, (s, begins, (output, Some next, (k, steps, is), appends, keeps))) same =
    pulls-on (OfStream x) held after s next k output begins steps is keeps
headline-holds PullGit (Some x) rest old new (Some held) (Some after) Done (_, (s, begins, (output, None, never, appends, keeps))) same = absurd never
headline-holds PullGit (Some x) rest old new (Some held) (Some after) (IsRefused why) (_, (s, begins, due)) same =
    stopped (OfStream x) held after s why begins due (some-is (same why refl))
headline-holds PullGit (Some x) rest old new (Some held) (Some after) Usage ends same = tt
headline-holds PullGit (Some x) rest old new (Some held) (Some after) ReadFault ends same = tt
headline-holds PullGit (Some x) rest old new (Some held) (Some after) WriteFault ends same = tt
headline-holds PullGit (Some x) rest old new (Some held) (Some after) SlotFault ends same = tt
headline-holds PullGit (Some x) rest old new (Some held) (Some after) (StateBad why) ends same = tt
headline-holds PullGit (Some x) rest old new (Some held) (Some after) Memory ends same = tt
headline-holds PullGit (Some x) rest old new (Some held) (Some after) (Mismatch commit right) ends same = tt

-- ---- the report is known by its status

-- what is said of a pull whose run ends with this status
abbrev EndsWith : Pull → Option Bytes → Option Bytes → Status → Type 0
EndsWith pull before after status.Done = GoesOn pull before after None
EndsWith pull before after status.Refused = (after ≡ before) × ((pulls : List Pull) → IsSaved pulls before → IsSaved (pull ∷ pulls) before)
EndsWith pull before after other = ⊤

to-status : (pull : Pull) (before after : Option Bytes) (report : Report) → EndsAs pull before after report → EndsWith pull before after (status_of report)
to-status pull before after Done h = h
to-status pull before after (IsRefused why) h = h
to-status pull before after Usage h = tt
to-status pull before after ReadFault h = tt
to-status pull before after WriteFault h = tt
to-status pull before after SlotFault h = tt
to-status pull before after (StateBad why) h = tt
to-status pull before after Memory h = tt
to-status pull before after (Mismatch commit right) h = tt

of-status : (pull : Pull) (before after : Option Bytes) (report : Report) → EndsWith pull before after (status_of report) → EndsAs pull before after report
of-status pull before after Done h = h
of-status pull before after (IsRefused why) h = h
of-status pull before after Usage h = tt
of-status pull before after ReadFault h = tt
of-status pull before after WriteFault h = tt
of-status pull before after SlotFault h = tt
of-status pull before after (StateBad why) h = tt
of-status pull before after Memory h = tt
of-status pull before after (Mismatch commit right) h = tt

same-end : (pull : Pull) (before after : Option Bytes) (r q : Report) → status_of r ≡ status_of q → EndsAs pull before after r → EndsAs pull before after q
same-end pull before after r q e h = of-status pull before after q (subst (EndsWith pull before after) e (to-status pull before after r h))

-- two reports of one status say the same
pub same-headline : (command : Command) (input : Option Bytes) (slot kept : Option (Option Bytes)) (r q : Report) → status_of r ≡ status_of q
    → Headline command input slot kept r → Headline command input slot kept q
same-headline ListHg input slot kept r q e h = tt
same-headline CheckHg input slot kept r q e h = tt
same-headline ListGit input slot kept r q e h = tt
same-headline CheckGit input slot kept r q e h = tt
same-headline DumpHg input slot kept r q e h = tt
same-headline DumpGit input slot kept r q e h = tt
same-headline Map input slot kept r q e h = tt
same-headline SetNamesHg input slot kept r q e h = tt
same-headline SetNamesGit input slot kept r q e h = tt
same-headline NamesHg input slot kept r q e h = tt
same-headline NamesGit input slot kept r q e h = tt
same-headline Verify input slot kept r q e h = tt
same-headline (Make n seed) input slot kept r q e h = tt
same-headline PullHg None slot kept r q e h = tt
same-headline PullHg (Some x) None kept r q e h = tt
same-headline PullHg (Some x) (Some before) None r q e h = tt
same-headline PullHg (Some x) (Some before) (Some after) r q e h = same-end (OfBundle x) before after r q e h
same-headline PullGit None slot kept r q e h = tt
same-headline PullGit (Some x) None kept r q e h = tt
same-headline PullGit (Some x) (Some before) None r q e h = tt
same-headline PullGit (Some x) (Some before) (Some after) r q e h = same-end (OfStream x) before after r q e h
