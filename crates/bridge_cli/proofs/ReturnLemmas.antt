-- What a dump brings into an empty slot, from what its command comes to.
use Rattle.std.proofs.Common.{◌≡◌, List, [], ◌++◌, Option, Some, None, sym, ap, subst, ◌∙◌}
use Rattle.text_model.specs.Text.{Bytes}
use Rattle.git_model.specs.Object.{Object}
use Rattle.git_model.specs.Stream.{stream_text}
use Rattle.pair_model.specs.Block.{changesets_in, commits_in}
use Rattle.state_model.specs.Kept.{State, kept_of, hg_dump, git_dump}
use Rattle.saved_model.specs.Step.{Pull, OfBundle, OfStream}
use Rattle.history_law.proofs.States.{slot-one}
use Rattle.closure_law.specs.Returned.{Returns, DumpReturns}
use Rattle.closure_law.proofs.After.{right-after}
use Rattle.command_model.specs.Run.{Done}
use Rattle.command_model.specs.Command.{Command, ListHg, CheckHg, ListGit, CheckGit, PullHg, PullGit, DumpHg, DumpGit, Map, SetNamesHg, SetNamesGit, NamesHg, NamesGit, Verify, Make, Outcome, Written, Refused, Mismatched}
use Rattle.bridge_cli.specs.Ends.{EndsBy}

abbrev output_of : Outcome → Bytes
output_of (Written output saved) = output
output_of (Refused why) = []
output_of (Mismatched kept right) = []

-- the dump of the state that the slot holds is that of the state behind the pulls
moved : (make : Bytes → Pull) (dump_of : State → Bytes) (s t : State) (output : Bytes) (tags : List Object) → s ≡ t → dump_of s ≡ output → Returns (make (dump_of t)) t tags → Returns (make output) t tags
moved make dump_of s t output tags one is returns = subst (λ (bytes : Bytes). Returns (make bytes) t tags) (ap dump_of (sym one) ∙ is) returns

pub dump-returns : (command : Command) (input rest old new : Option Bytes) (slot kept : Option (Option Bytes)) → EndsBy command input rest old new slot kept Done → DumpReturns command slot old new
dump-returns ListHg input rest old new slot kept ends = tt
dump-returns CheckHg input rest old new slot kept ends = tt
dump-returns ListGit input rest old new slot kept ends = tt
dump-returns CheckGit input rest old new slot kept ends = tt
dump-returns PullHg input rest old new slot kept ends = tt
dump-returns PullGit input rest old new slot kept ends = tt
dump-returns Map input rest old new slot kept ends = tt
dump-returns SetNamesHg input rest old new slot kept ends = tt
dump-returns SetNamesGit input rest old new slot kept ends = tt
dump-returns NamesHg input rest old new slot kept ends = tt
dump-returns NamesGit input rest old new slot kept ends = tt
dump-returns Verify input rest old new slot kept ends = tt
dump-returns (Make n seed) input rest old new slot kept ends = tt
dump-returns DumpHg input rest old new None kept ends = tt
dump-returns DumpHg input rest old new (Some held) kept (_, (s, begins, (output, saved, comes, appends, keeps))) = λ pulls t holds after.
    let right = right-after pulls (kept_of t) after in
    (output, appends, moved OfBundle (λ (x : State). hg_dump (changesets_in x.blocks)) s t output [] (slot-one held s t begins holds) (ap output_of comes) ((right.returns).bundle, (right.returns).bundle_faults))
dump-returns DumpGit input rest old new None kept ends = tt
dump-returns DumpGit input rest old new (Some held) kept (_, (s, begins, (output, saved, comes, appends, keeps))) = λ pulls t holds after.
    let right = right-after pulls (kept_of t) after in
    (output, appends, moved OfStream (λ (x : State). git_dump (commits_in x.blocks) ++ stream_text x.tags) s t output t.tags (slot-one held s t begins holds) (ap output_of comes) ((right.returns).stream, (right.returns).stream_faults))
