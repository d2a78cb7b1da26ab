use Rattle.std.proofs.Common.{subst}
use Rattle.text_model.specs.Text.{Bytes}
use Rattle.state_model.specs.Kept.{kept_of, empty_state}
use Rattle.saved_model.specs.Step.{OfBundle, Refuses}
use Rattle.pull_outcome.specs.Refused.{IsRefusedBy}
use Rattle.pull_engine.specs.Read.{IsPulled}
use Rattle.pull_engine.proofs.Empty.{empty-is-read}
use Rattle.make_engine.specs.Taken.{RefusesAlone}
use Rattle.make_engine.proofs.NameLemmas.{hg-named}
use Rattle.make_engine.proofs.TakenLemmas.{taken, no-read, refused-alone}
use Rattle.make_engine.proofs.taken.state_of_bundle.Goals as goal

pub returns-in-Ok-clause-taken : goal.returns-in-Ok-clause-taken
returns-in-Ok-clause-taken g c =
    let read = empty-is-read c.empty.result c.empty.ensures.state c.empty.ensures.revisions c.empty.ensures.objects c.empty.ensures.tags c.empty.ensures.names in
    taken (OfBundle c.args.bundle.now) c.in-Ok.pulled c.args.steps.now c.pull_hg.new.steps
    (subst (λ (b : Bytes). IsPulled empty_state (OfBundle b) c.in-Ok.pulled) c.new.ensures (c.in-Ok.ensures.pulled empty_state read)) c.in-Ok.ensures.steps

pub of_pull-requires : goal.of_pull-requires
of_pull-requires g c = record { no_read = no-read c.in-Err.fault c.in-Err.ensures.cause }

pub returns-in-Err-clause-refused : goal.returns-in-Err-clause-refused
returns-in-Err-clause-refused g c =
    let read = empty-is-read c.empty.result c.empty.ensures.state c.empty.ensures.revisions c.empty.ensures.objects c.empty.ensures.tags c.empty.ensures.names in
    let due = subst (λ (b : Bytes). IsRefusedBy (Refuses (kept_of empty_state) (OfBundle b)) c.in-Err.fault) c.new.ensures (c.in-Err.ensures.refused empty_state read) in
    rw c.of_pull.ensures (refused-alone (RefusesAlone (OfBundle c.args.bundle.now)) c.in-Err.fault due)

pub returns-in-Err-clause-names : goal.returns-in-Err-clause-names
returns-in-Err-clause-names g c = rw c.of_pull.ensures (hg-named c.in-Err.fault c.in-Err.ensures.names)
