use Rattle.std.proofs.Common.{Err, sym, ap, ◌∙◌}
use Rattle.partner_model.specs.Mark.{mark_commit}
use Rattle.pair_known.specs.Over.{IsChangesetOver}
use Rattle.pair_known.specs.Fault.{choice_fault}
use Rattle.pair_choice.proofs.LimitLemmas.{err-is}
use Rattle.pair_choice.proofs.ParentLemmas.{no-link-parents}
use Rattle.pair_choice.proofs.CommitLemmas.{chosen, refused, alone-choice}
use Rattle.pair_choice.proofs.changeset.commit_without.Goals as goal

pub mark_commit-requires : goal.mark_commit-requires
mark_commit-requires c =
    let is = c.requires.alone.2 in
    record {
      over = (
        c.requires.alone.0,
        c.requires.alone.1,
        record { inside = is.inside; parents = no-link-parents c.requires.alone.0 c.requires.alone.1 (sym (c.has_link_parent.ensures c.requires.alone.0 c.requires.alone.1 is.inside) ∙ c.if-has_link_parent.false) },
        is.no_clash,
      );
    }

pub returns-then-has_link_parent-clause-refused : goal.returns-then-has_link_parent-clause-refused
returns-then-has_link_parent-clause-refused c = λ blocks v alone. (alone.no_clash, (sym (c.has_link_parent.ensures blocks v alone.inside) ∙ c.if-has_link_parent.true, alone.none))

pub returns-clause-ok : goal.returns-clause-ok
returns-clause-ok c = λ blocks v alone.
    let no_link = sym (c.has_link_parent.ensures blocks v alone.inside) ∙ c.if-has_link_parent.false in
    let over : IsChangesetOver c.args.known.now blocks c.args.h.now v = record { inside = alone.inside; parents = no-link-parents blocks v no_link } in (
      mark_commit blocks v,
      chosen c.args.known.now blocks v _ (mark_commit blocks v) alone.no_clash
          (alone-choice c.args.known.now blocks (alone.inside).history v (alone.inside).view alone.none no_link) (c.in_ok-mark_commit.ensures.ok blocks v over),
    )

pub returns-in_err-mark_commit-clause-refused : goal.returns-in_err-mark_commit-clause-refused
returns-in_err-mark_commit-clause-refused c = err-is _ c.from_residual.result (choice_fault c.in_err-mark_commit.field-0.0) c.from_residual.ensures.1 (λ blocks v alone.
    let no_link = sym (c.has_link_parent.ensures blocks v alone.inside) ∙ c.if-has_link_parent.false in
    let over : IsChangesetOver c.args.known.now blocks c.args.h.now v = record { inside = alone.inside; parents = no-link-parents blocks v no_link } in
    refused c.args.known.now blocks v (mark_commit blocks v) c.in_err-mark_commit.field-0.0 alone.no_clash
    (alone-choice c.args.known.now blocks (alone.inside).history v (alone.inside).view alone.none no_link) (λ e fits. c.in_err-mark_commit.ensures.limit (ap Err e) blocks v over fits))
