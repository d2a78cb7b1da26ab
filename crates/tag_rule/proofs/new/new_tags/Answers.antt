use Rattle.std.proofs.Common.{ap, ◌∙◌}
use Rattle.std.specs.Prelude.{filter, find}
use Rattle.tag_rule.specs.Named.{lacks_over}
use Rattle.tag_rule.specs.Fates.{is_new_over}
use Rattle.tag_rule.proofs.ModelLemmas.{kept-are, none-lacks, first-lacks}
use Rattle.tag_rule.proofs.new.new_tags.Goals as goal

pub returns-in-Some-clause-fault : goal.returns-in-Some-clause-fault
returns-in-Some-clause-fault c placed blocks tags have saved set =
    let a = c.args in
    let rows = c.in_ok-rows.rows.set in
    let lacks = lacks_over a.store.now a.commits.now a.kept.now rows in
    first-lacks a.store.now a.came.now placed have rows c.in_ok-rows.ensures.set a.kept.now tags set a.commits.now blocks saved
    c.in-Some.tag.now (c.in-Some.ensures ∙ ap (find lacks) c.as_slice.ensures)

pub returns-clause-ids : goal.returns-clause-ids
returns-clause-ids c placed tags have set =
    let a = c.args in
    let rows = c.in_ok-rows.rows.set in
    let is_new = is_new_over a.store.now a.kept.now rows in
    c.in_ok-new_among-in-None.ensures ∙ ap (filter is_new) (c.as_slice-in-None.ensures ∙ c.in_ok-rows.ensures.ids)
    ∙ kept-are a.store.now a.came.now placed have rows c.in_ok-rows.ensures.set a.kept.now tags set

pub returns-clause-targets : goal.returns-clause-targets
returns-clause-targets c placed blocks tags have saved set =
    let a = c.args in
    let rows = c.in_ok-rows.rows.set in
    let lacks = lacks_over a.store.now a.commits.now a.kept.now rows in
    none-lacks a.store.now a.came.now placed have rows c.in_ok-rows.ensures.set a.kept.now tags set a.commits.now blocks saved
    (c.in-None.ensures ∙ ap (find lacks) c.as_slice.ensures)
