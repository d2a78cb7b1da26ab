use Rattle.std.proofs.Common.{List, subst}
use Rattle.text_model.specs.Lists.{Each}
use Rattle.hg_model.specs.Manifest.{ManifestEntry}
use Rattle.pull_bundle.specs.Late.{IsLineInTime}
use Rattle.pull_bundle.proofs.LateLemmas.{near-view, lines-in_time}
use Rattle.pull_bundle.proofs.late.lines_near.Goals as goal

pub lines_of-requires : goal.lines_of-requires
lines_of-requires c =
    let n = near-view c.args.taking.now c.requires.taking.0 c.in-Some.node.now c.requires.taking.1 c.in-Some.ensures in
    record { held = (n.0, (n.1).is_held) }

pub returns-in-Some : goal.returns-in-Some
returns-in-Some c = λ blocks taking.
    let known = ((c.args.taking.now).state).known.hg in
    let n = near-view c.args.taking.now blocks c.in-Some.node.now taking c.in-Some.ensures in
    subst (λ (es : List ManifestEntry). Each (IsLineInTime known blocks) es) (c.lines_of.ensures n.0 (n.1).is_held) (lines-in_time known blocks (n.0).rows ((n.1).is_held).files (n.1).in_time)
