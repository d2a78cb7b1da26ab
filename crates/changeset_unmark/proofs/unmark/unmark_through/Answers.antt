use Rattle.std.proofs.Common.{length, ap, arith}
use Rattle.std.proofs.lemmas.List.{length-map}
use Rattle.mark_code.specs.Values.{changeset_marks}
use Rattle.pair_model.specs.Block.{hg_partner}
use Rattle.changeset_unmark.proofs.OctopusOver.{base, own, named-over, first-at-node}
use Rattle.changeset_unmark.proofs.OctopusWhole.{octopus-none, octopus-apart, octopus-some}
use Rattle.changeset_unmark.proofs.unmark.unmark_through.Goals as goal

pub at-first-requires : goal.at-first-requires
at-first-requires c =
    let over = c.requires.over in
    omega (arith, ap length over.2.nodes_are, length-map c.args.parents (hg_partner over.0), over.2.least)

pub unmark_over-requires-clause-over : goal.unmark_over-requires-clause-over
unmark_over-requires-clause-over c =
    let over = c.requires.over in (
      over.0,
      over.1,
      own c.args.known.now over.2.inside.history.added over.0 c.args.h.now over.1 c.args.parents c.args.nodes.now over.2,
      named-over c.args.known.now over.2.inside.history.added over.0 c.args.h.now over.1 c.args.parents c.args.nodes.now over.2 c.at-first.result.now c.at-first.ensures,
    )

pub returns-in_default : goal.returns-in_default
returns-in_default c = λ blocks v over.
    octopus-none c.args.known.now over.inside.history.added blocks c.args.h.now v c.args.parents c.args.nodes.now over (changeset_marks c.args.marks) c.requires.date c.requires.many
    c.at-first.result.now c.at-first.ensures c.in_ok-made.field-0 (c.in_ok-made.ensures.found blocks v) c.in_default.is

pub parent_of-manifest-requires : goal.parent_of-manifest-requires
parent_of-manifest-requires c =
    let over = c.requires.over in
    record {
      known = (
        base c.args.known.now over.2.inside.history.added over.0 c.args.h.now over.1 c.args.parents c.args.nodes.now over.2,
        first-at-node c.args.known.now over.2.inside.history.added over.0 c.args.h.now over.1 c.args.parents c.args.nodes.now over.2 c.at-first.result.now c.at-first.ensures,
      );
    }

pub returns-then-not-branch : goal.returns-then-not-branch
returns-then-not-branch c = λ blocks v over.
    octopus-apart c.args.known.now over.inside.history.added blocks c.args.h.now v c.args.parents c.args.nodes.now over (changeset_marks c.args.marks) c.requires.date c.requires.many
    c.at-first.result.now c.at-first.ensures c.in_ok-made.field-0 (c.in_ok-made.ensures.found blocks v)
    c.in-Some.made c.in-Some.is c.parent_of-manifest.result c.parent_of-manifest.ensures.view c.in_ok-are_links_known.field-0 c.as_slice.result.now c.as_slice.ensures c.in_ok-are_links_known.ensures c.if-not-branch.true

pub returns : goal.returns
returns c = λ blocks v over.
    octopus-some c.args.known.now over.inside.history.added blocks c.args.h.now v c.args.parents c.args.nodes.now over (changeset_marks c.args.marks) c.requires.date c.requires.many
    c.at-first.result.now c.at-first.ensures c.in_ok-made.field-0 (c.in_ok-made.ensures.found blocks v)
    c.in-Some.made c.in-Some.is c.parent_of-manifest.result c.parent_of-manifest.ensures.view c.in_ok-are_links_known.field-0 c.as_slice.result.now c.as_slice.ensures c.in_ok-are_links_known.ensures (λ b at. c.unmark_over.ensures.known blocks b over.inside.history.held at) c.if-not-branch.false
