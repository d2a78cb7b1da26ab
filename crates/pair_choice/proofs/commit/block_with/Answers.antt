use Rattle.std.proofs.Common.{Err, [], ◌∷◌, length, ap, subst, ◌∙◌}
use Rattle.std.specs.Prelude.{◌==◌}
use Rattle.text_model.proofs.EachLemmas.{Each-rest}
use Rattle.view_model.specs.View.{ChangesetFits}
use Rattle.pair_model.specs.Octopus.{links_of}
use Rattle.partner_model.specs.Mark.{mark_changeset}
use Rattle.partner_model.specs.Partner.{OfGit}
use Rattle.pair_choice.specs.Depths.{IsDepth}
use Rattle.pair_known.specs.Fault.{choice_fault}
use Rattle.pair_choice.proofs.LimitLemmas.{err-is}
use Rattle.pair_choice.proofs.ChangesetLemmas.{chosen, refused, plain-choice, odd-choice, even-choice, no-headers, not-plain}
use Rattle.pair_choice.proofs.commit.block_with.Goals as goal

pub returns-then-is_empty-clause-ok : goal.returns-then-is_empty-clause-ok
returns-then-is_empty-clause-ok g c = λ blocks v h is.
    let k = c.args.known.now in
    let bare = no-headers k blocks c.args.c.now v is.over c.is_empty.result (c.is_empty.ensures ∙ ap (λ d. length (d.commit).headers == 0) c.c.view_is) c.if-is_empty.true in
    (h, chosen k blocks v c.in_ok-unmarked_block.field-0 h (plain-choice k blocks is.over.history v h is.unmarks bare) (c.in_ok-unmarked_block.ensures.ok k blocks v h is.over.history.added is.unmarks is.made))

pub returns-in_err-unmarked_block-clause-refused : goal.returns-in_err-unmarked_block-clause-refused
returns-in_err-unmarked_block-clause-refused g c = err-is _ c.from_residual.result (choice_fault c.in_err-unmarked_block.field-0.0) c.from_residual.ensures.1 (λ blocks v h is.
    let k = c.args.known.now in
    let bare = no-headers k blocks c.args.c.now v is.over c.is_empty.result (c.is_empty.ensures ∙ ap (λ d. length (d.commit).headers == 0) c.c.view_is) c.if-is_empty.true in
    refused k blocks v h c.in_err-unmarked_block.field-0.0 (plain-choice k blocks is.over.history v h is.unmarks bare)
    (λ e fits. c.in_err-unmarked_block.ensures.limit (ap Err e) k.hg h is.over.history.added is.made (Each-rest ChangesetFits (links_of blocks v) (h ∷ []) fits).0))

pub depth_of_commit-requires : goal.depth_of_commit-requires
depth_of_commit-requires g c =
    let r = c.requires.unmarks in
    record {
      unmarks = (r.0, r.1, r.2, r.3, not-plain c.args.known.now r.0 c.args.c.now r.1 r.3.over c.is_empty.result (c.is_empty.ensures ∙ ap (λ d. length (d.commit).headers == 0) c.c.view_is) c.if-is_empty.false);
    }

pub returns-in_ok-marked_block-in-Even-clause-ok : goal.returns-in_ok-marked_block-in-Even-clause-ok
returns-in_ok-marked_block-in-Even-clause-ok g c = λ blocks v h is.
    let k = c.args.known.now in
    let not = not-plain k blocks c.args.c.now v is.over c.is_empty.result (c.is_empty.ensures ∙ ap (λ d. length (d.commit).headers == 0) c.c.view_is) c.if-is_empty.false in
    let depth = subst (IsDepth k blocks (OfGit v)) c.in-Even.is (c.in_ok-depth_of_commit.ensures.depth blocks v h is not) in
    (mark_changeset blocks v, chosen k blocks v _ (mark_changeset blocks v) (even-choice k blocks is.over.history v is.over.parents depth.0 depth.1 depth.2.0 depth.2.1 depth.3) (c.in_ok-marked_block-in-Even.ensures.ok blocks v is.over))

pub returns-in_err-marked_block-in-Even-clause-refused : goal.returns-in_err-marked_block-in-Even-clause-refused
returns-in_err-marked_block-in-Even-clause-refused g c = err-is _ c.from_residual-in_err-marked_block-in-Even.result (choice_fault c.in_err-marked_block-in-Even.field-0.0) c.from_residual-in_err-marked_block-in-Even.ensures.1 (λ blocks v h is.
    let k = c.args.known.now in
    let not = not-plain k blocks c.args.c.now v is.over c.is_empty.result (c.is_empty.ensures ∙ ap (λ d. length (d.commit).headers == 0) c.c.view_is) c.if-is_empty.false in
    let depth = subst (IsDepth k blocks (OfGit v)) c.in-Even.is (c.in_ok-depth_of_commit.ensures.depth blocks v h is not) in
    refused k blocks v (mark_changeset blocks v) c.in_err-marked_block-in-Even.field-0.0 (even-choice k blocks is.over.history v is.over.parents depth.0 depth.1 depth.2.0 depth.2.1 depth.3)
    (λ e. c.in_err-marked_block-in-Even.ensures.limit (ap Err e) blocks v is.over))

pub returns-in_ok-unmarked_block-in-Odd-clause-ok : goal.returns-in_ok-unmarked_block-in-Odd-clause-ok
returns-in_ok-unmarked_block-in-Odd-clause-ok g c = λ blocks v h is.
    let k = c.args.known.now in
    let not = not-plain k blocks c.args.c.now v is.over c.is_empty.result (c.is_empty.ensures ∙ ap (λ d. length (d.commit).headers == 0) c.c.view_is) c.if-is_empty.false in
    let depth = subst (IsDepth k blocks (OfGit v)) c.in-Odd.is (c.in_ok-depth_of_commit.ensures.depth blocks v h is not) in
    (h, chosen k blocks v _ h (odd-choice k blocks is.over.history v h is.unmarks depth.0 depth.1 depth.2.0 depth.2.1 depth.3) (c.in_ok-unmarked_block-in-Odd.ensures.ok k blocks v h is.over.history.added is.unmarks is.made))

pub returns-in_err-unmarked_block-in-Odd-clause-refused : goal.returns-in_err-unmarked_block-in-Odd-clause-refused
returns-in_err-unmarked_block-in-Odd-clause-refused g c = err-is _ c.from_residual-in_err-unmarked_block-in-Odd.result (choice_fault c.in_err-unmarked_block-in-Odd.field-0.0) c.from_residual-in_err-unmarked_block-in-Odd.ensures.1 (λ blocks v h is.
    let k = c.args.known.now in
    let not = not-plain k blocks c.args.c.now v is.over c.is_empty.result (c.is_empty.ensures ∙ ap (λ d. length (d.commit).headers == 0) c.c.view_is) c.if-is_empty.false in
    let depth = subst (IsDepth k blocks (OfGit v)) c.in-Odd.is (c.in_ok-depth_of_commit.ensures.depth blocks v h is not) in
    refused k blocks v h c.in_err-unmarked_block-in-Odd.field-0.0 (odd-choice k blocks is.over.history v h is.unmarks depth.0 depth.1 depth.2.0 depth.2.1 depth.3)
    (λ e fits. c.in_err-unmarked_block-in-Odd.ensures.limit (ap Err e) k.hg h is.over.history.added is.made (Each-rest ChangesetFits (links_of blocks v) (h ∷ []) fits).0))

pub returns-in-TooDeep-clause-refused : goal.returns-in-TooDeep-clause-refused
returns-in-TooDeep-clause-refused g c = λ blocks v h is.
    let k = c.args.known.now in
    let not = not-plain k blocks c.args.c.now v is.over c.is_empty.result (c.is_empty.ensures ∙ ap (λ d. length (d.commit).headers == 0) c.c.view_is) c.if-is_empty.false in
    let depth = subst (IsDepth k blocks (OfGit v)) c.in-TooDeep.is (c.in_ok-depth_of_commit.ensures.depth blocks v h is not) in
    (depth.1, depth.0)

pub returns-in-Collides-clause-refused : goal.returns-in-Collides-clause-refused
returns-in-Collides-clause-refused g c = λ blocks v h is.
    let k = c.args.known.now in
    let not = not-plain k blocks c.args.c.now v is.over c.is_empty.result (c.is_empty.ensures ∙ ap (λ d. length (d.commit).headers == 0) c.c.view_is) c.if-is_empty.false in
    subst (IsDepth k blocks (OfGit v)) c.in-Collides.is (c.in_ok-depth_of_commit.ensures.depth blocks v h is not)
