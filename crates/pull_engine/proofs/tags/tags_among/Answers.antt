use Rattle.std.proofs.Common.{sym, subst, ◌∙◌}
use Rattle.std.specs.List.{find}
use Rattle.saved_model.specs.Step.{lacks_target}
use Rattle.pull_engine.specs.Names.{IsTargetFault}
use Rattle.pull_engine.specs.Tags.{IsLacking}
use Rattle.pull_engine.proofs.Tagged.{lacking-of, target-of, commits-set, kept-set, came-to}
use Rattle.pull_engine.proofs.tags.tags_among.Goals as goal

pub returns-in-Ok-clause-tags : goal.returns-in-Ok-clause-tags
returns-in-Ok-clause-tags c blocks tags placed asked =
    let s = c.args.state.now in
    let came = c.args.came.now in
    let have = came-to s came blocks tags placed asked c.known.result.now c.known.ensures in
    let saved = commits-set s came blocks tags placed asked c.in_ok-commits.commits c.as_slice.result.now c.in_ok-commits.ensures (c.as_slice.ensures ∙ c.commits.ensures) in
    let kept = kept-set s came blocks tags placed asked c.in_ok-kept.kept c.as_slice-2.result.now c.in_ok-kept.ensures (c.as_slice-2.ensures ∙ c.tags.ensures) in
    (c.in-Ok.ensures.ids placed tags have kept, c.in-Ok.ensures.targets placed blocks tags have saved kept)

pub returns-clause-lacking : goal.returns-clause-lacking
returns-clause-lacking c blocks tags placed asked =
    let s = c.args.state.now in
    let came = c.args.came.now in
    let have = came-to s came blocks tags placed asked c.known.result.now c.known.ensures in
    let saved = commits-set s came blocks tags placed asked c.in_ok-commits.commits c.as_slice.result.now c.in_ok-commits.ensures (c.as_slice.ensures ∙ c.commits.ensures) in
    let kept = kept-set s came blocks tags placed asked c.in_ok-kept.kept c.as_slice-2.result.now c.in_ok-kept.ensures (c.as_slice-2.ensures ∙ c.tags.ensures) in
    let found = find (lacks_target blocks tags placed) placed in
    subst (IsLacking found) (sym c.tag_fault.ensures) (lacking-of found c.in-Err.fault (c.in-Err.ensures.fault placed blocks tags have saved kept))

pub returns-clause-names : goal.returns-clause-names
returns-clause-names c = subst IsTargetFault (sym c.tag_fault.ensures) (target-of c.in-Err.fault c.in-Err.ensures.names)
