use Rattle.bridge_cli.proofs.FetchLemmas.{leaves-count, text-fetched, text-held, nothing-fetched, none-held}
use Rattle.bridge_cli.proofs.fetch.fetch.Goals as goal

pub returns-in-Ok-true-clause-state : goal.returns-in-Ok-true-clause-state
returns-in-Ok-true-clause-state g c =
    text-fetched _ _ _ _ c.fetched_of.result c.in-Ok-true.ensures.gives c.in-Ok-true.field-0-test c.fetched_of.ensures.bytes c.fetched_of.ensures.reads

pub returns-in-Ok-true-clause-cause : goal.returns-in-Ok-true-clause-cause
returns-in-Ok-true-clause-cause g c = leaves-count _ _ _ _ c.fetched_of.ensures.reads c.in-Ok-true.ensures.cause

pub returns-in-Ok-false-clause-state : goal.returns-in-Ok-false-clause-state
returns-in-Ok-false-clause-state g c =
    nothing-fetched _ _ _ _ c.empty.result c.in-Ok-false.ensures.gives c.in-Ok-false.field-0-test c.empty.ensures.state c.empty.ensures.revisions c.empty.ensures.objects c.empty.ensures.tags c.empty.ensures.names

pub returns-in-Ok-true-clause-text : goal.returns-in-Ok-true-clause-text
returns-in-Ok-true-clause-text g c = text-held _ _ _ _ c.fetched_of.result c.in-Ok-true.ensures.gives c.in-Ok-true.field-0-test c.fetched_of.ensures.reads

pub returns-in-Ok-false-clause-text : goal.returns-in-Ok-false-clause-text
returns-in-Ok-false-clause-text g c = none-held _ _ _ _ c.in-Ok-false.ensures.gives c.in-Ok-false.field-0-test
