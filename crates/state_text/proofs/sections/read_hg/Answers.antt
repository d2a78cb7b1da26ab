use Rattle.std.proofs.Common.{List, sym, subst, ◌∙◌}
use Rattle.text_model.specs.Id.{Id}
use Rattle.view_model.specs.Held.{AreChangesetsHeld}
use Rattle.state_text.proofs.ReadLemmas.{no-dump, no-heads}
use Rattle.state_text.proofs.sections.read_hg.Goals as goal

pub returns-in_default-2 : goal.returns-in_default-2
returns-in_default-2 c =
    let bytes = c.args.bytes.now in
    let part = c.in-Some.part in
    let section = rw c.in-Some.is at c.in_ok-part.ensures.section in
    let short = rw c.in-Some.is at c.in_ok-part.ensures.short in
    let none = rw c.in_default-2.is at c.in_ok-section.ensures in
    no-dump bytes part.text part.rest.now short section none

pub returns-in_default-3 : goal.returns-in_default-3
returns-in_default-3 c =
    let bytes = c.args.bytes.now in
    let part = c.in-Some.part in
    let section = rw c.in-Some.is at c.in_ok-part.ensures.section in
    let short = rw c.in-Some.is at c.in_ok-part.ensures.short in
    let found = rw c.in-Some-2.is at c.in_ok-section.ensures in
    let held = subst (λ (l : List Id). AreChangesetsHeld c.in-Some-2.section.store l found.0) (sym c.as_slice.ensures) (found.3).held in
    let none = rw c.in_default-3.is at (c.in_ok-heads.ensures found.0 (c.as_slice.ensures ∙ (found.3).nodes, held)) in
    no-heads bytes part.text part.rest.now short section found.0 found.1 found.2 none
