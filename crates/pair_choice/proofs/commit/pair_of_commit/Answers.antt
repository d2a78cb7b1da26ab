use Rattle.std.proofs.Common.{Err, ap}
use Rattle.std.proofs.lemmas.Result.{IfOk-weaker, IfErr-weaker}
use Rattle.view_model.specs.View.{ChangesetView}
use Rattle.partner_model.specs.Mark.{mark_changeset}
use Rattle.partner_model.specs.Partner.{UnmarksCommit}
use Rattle.pair_known.specs.Ruled.{IsMadeChangeset}
use Rattle.pair_known.specs.Fault.{choice_fault}
use Rattle.pair_choice.proofs.LimitLemmas.{err-is, match-some, match-none}
use Rattle.pair_choice.proofs.ChangesetLemmas.{chosen, refused, alone-choice}
use Rattle.pair_choice.proofs.commit.pair_of_commit.Goals as goal

pub block_with-requires : goal.block_with-requires
block_with-requires g c =
    let r = c.requires.over in
    let found = match-some _ (λ d. (h : ChangesetView) × UnmarksCommit r.0 r.1 h × IsMadeChangeset c.args.known.now.hg d h) c.in_ok-first.field-0 c.in-Some.first (c.in_ok-first.ensures r.0 r.1 r.2) c.in-Some.is in
    record { unmarks = (r.0, r.1, found.0, record { over = r.2; unmarks = found.1; made = found.2 }) }

pub returns-in-Some-clause-ok : goal.returns-in-Some-clause-ok
returns-in-Some-clause-ok g c = IfOk-weaker c.block_with.result _ _ (λ d chosen blocks v is.
    let found = match-some _ (λ x. (h : ChangesetView) × UnmarksCommit blocks v h × IsMadeChangeset c.args.known.now.hg x h) c.in_ok-first.field-0 c.in-Some.first (c.in_ok-first.ensures blocks v is) c.in-Some.is in
    chosen blocks v found.0 (record { over = is; unmarks = found.1; made = found.2 })) c.block_with.ensures.ok

pub returns-in-Some-clause-refused : goal.returns-in-Some-clause-refused
returns-in-Some-clause-refused g c = IfErr-weaker c.block_with.result _ _ (λ fault refused blocks v is.
    let found = match-some _ (λ x. (h : ChangesetView) × UnmarksCommit blocks v h × IsMadeChangeset c.args.known.now.hg x h) c.in_ok-first.field-0 c.in-Some.first (c.in_ok-first.ensures blocks v is) c.in-Some.is in
    refused blocks v found.0 (record { over = is; unmarks = found.1; made = found.2 })) c.block_with.ensures.refused

pub returns-in_ok-marked_block-in-None-clause-ok : goal.returns-in_ok-marked_block-in-None-clause-ok
returns-in_ok-marked_block-in-None-clause-ok g c = λ blocks v is.
    let none = match-none _ _ c.in_ok-first.field-0 (c.in_ok-first.ensures blocks v is) c.in-None.is in
    (mark_changeset blocks v, chosen c.args.known.now blocks v _ (mark_changeset blocks v) (alone-choice c.args.known.now blocks is.history v is.parents none) (c.in_ok-marked_block-in-None.ensures.ok blocks v is))

pub returns-in_err-marked_block-in-None-clause-refused : goal.returns-in_err-marked_block-in-None-clause-refused
returns-in_err-marked_block-in-None-clause-refused g c = err-is _ c.from_residual-in_err-marked_block-in-None.result (choice_fault c.in_err-marked_block-in-None.field-0.0) c.from_residual-in_err-marked_block-in-None.ensures.1 (λ blocks v is.
    let none = match-none _ _ c.in_ok-first.field-0 (c.in_ok-first.ensures blocks v is) c.in-None.is in
    refused c.args.known.now blocks v (mark_changeset blocks v) c.in_err-marked_block-in-None.field-0.0 (alone-choice c.args.known.now blocks is.history v is.parents none)
    (λ e. c.in_err-marked_block-in-None.ensures.limit (ap Err e) blocks v is))
