use Rattle.std.proofs.Common.{Err, true≢false, sym, ap, subst, ◌∙◌}
use Rattle.hg_model.specs.Changeset.{Changeset}
use Rattle.partner_model.specs.Mark.{mark_commit}
use Rattle.partner_model.specs.Partner.{OfHg}
use Rattle.pair_choice.specs.Depths.{IsDepth}
use Rattle.pair_known.specs.Fault.{choice_fault}
use Rattle.pair_choice.specs.Parts.{is_bare_date}
use Rattle.pair_choice.specs.declared.depth.Depth.{Depth}
use Rattle.pair_choice.proofs.LimitLemmas.{err-is}
use Rattle.pair_choice.proofs.CommitLemmas.{chosen, refused, plain-choice}
use Rattle.pair_choice.proofs.UnmarkedLemmas.{not-plain, colliding, collides-below, asked, none, even-over, even, odd, deep}
use Rattle.pair_choice.proofs.changeset.commit_with.Goals as goal

pub returns-then-is_bare-clause-ok : goal.returns-then-is_bare-clause-ok
returns-then-is_bare-clause-ok g c = λ blocks v w is clear.
    let bare = ap (λ (x : Changeset). is_bare_date x.date) (is.inside).draft.fields ∙ sym c.is_bare.ensures ∙ c.if-is_bare.true in (
      w,
      chosen c.args.known.now blocks v _ w clear (plain-choice c.args.known.now blocks (is.inside).history v w is.unmarks bare) (c.in_ok-unmarked_commit.ensures.ok blocks v w is),
    )

pub returns-in_err-unmarked_commit-clause-refused : goal.returns-in_err-unmarked_commit-clause-refused
returns-in_err-unmarked_commit-clause-refused g c = err-is _ c.from_residual.result (choice_fault c.in_err-unmarked_commit.field-0.0) c.from_residual.ensures.1 (λ blocks v w is clear.
    let bare = ap (λ (x : Changeset). is_bare_date x.date) (is.inside).draft.fields ∙ sym c.is_bare.ensures ∙ c.if-is_bare.true in
    refused c.args.known.now blocks v w c.in_err-unmarked_commit.field-0.0 clear (plain-choice c.args.known.now blocks (is.inside).history v w is.unmarks bare)
    (λ e fits. c.in_err-unmarked_commit.ensures.limit (ap Err e) blocks v w is fits))

pub returns-then-not-has_bodies-clause-refused : goal.returns-then-not-has_bodies-clause-refused
returns-then-not-has_bodies-clause-refused g c = λ blocks v w is clear.
    let draft = (is.inside).draft in
    let marked = ap (λ (x : Changeset). is_bare_date x.date) draft.fields ∙ sym c.is_bare.ensures ∙ c.if-is_bare.false in
    colliding c.args.known.now blocks c.args.h.now c.args.first v w is marked clear
    (λ alone. true≢false (sym ((c.has_bodies.ensures v.rows (draft.rows, draft.files)).1 alone) ∙ c.if-not-has_bodies.true))

pub depth_of_changeset-requires : goal.depth_of_changeset-requires
depth_of_changeset-requires g c =
    let k = c.args.known.now in
    let r = c.requires.unmarks in
    let draft = (r.3.inside).draft in
    let marked = ap (λ (x : Changeset). is_bare_date x.date) draft.fields ∙ sym c.is_bare.ensures ∙ c.if-is_bare.false in
    let alone = (c.has_bodies.ensures r.1.rows (draft.rows, draft.files)).0 c.if-not-has_bodies.false in
    record { unmarks = (r.0, r.1, r.2, r.3.unmarks, asked k r.0 c.args.h.now c.args.first r.1 r.2 r.3 marked alone, not-plain k r.0 c.args.h.now c.args.first r.1 r.2 r.3 marked, none k r.0 c.args.h.now c.args.first r.1 r.2 r.3 marked alone) }

pub mark_commit-requires : goal.mark_commit-requires
mark_commit-requires g c =
    let blocks = c.requires.unmarks.0 in
    let v = c.requires.unmarks.1 in
    let w = c.requires.unmarks.2 in
    let is = c.requires.unmarks.3 in
    let k = c.args.known.now in
    let draft = (is.inside).draft in
    let marked = ap (λ (x : Changeset). is_bare_date x.date) draft.fields ∙ sym c.is_bare.ensures ∙ c.if-is_bare.false in
    let alone = (c.has_bodies.ensures v.rows (draft.rows, draft.files)).0 c.if-not-has_bodies.false in
    let found = c.in_ok-depth_of_changeset.ensures.depth blocks v w is.unmarks (asked k blocks c.args.h.now c.args.first v w is marked alone) (not-plain k blocks c.args.h.now c.args.first v w is marked) (none k blocks c.args.h.now c.args.first v w is marked alone) in
    let depth = subst (λ (x : Depth). IsDepth k blocks (OfHg v) x) c.in-Even.is found in
    record { over = (blocks, v, even-over k blocks c.args.h.now c.args.first v w is marked alone depth, c.requires.unmarks.4) }

pub returns-in_ok-mark_commit-in-Even-clause-ok : goal.returns-in_ok-mark_commit-in-Even-clause-ok
returns-in_ok-mark_commit-in-Even-clause-ok g c = λ blocks v w is clear.
    let k = c.args.known.now in
    let draft = (is.inside).draft in
    let marked = ap (λ (x : Changeset). is_bare_date x.date) draft.fields ∙ sym c.is_bare.ensures ∙ c.if-is_bare.false in
    let alone = (c.has_bodies.ensures v.rows (draft.rows, draft.files)).0 c.if-not-has_bodies.false in
    let found = c.in_ok-depth_of_changeset.ensures.depth blocks v w is.unmarks (asked k blocks c.args.h.now c.args.first v w is marked alone) (not-plain k blocks c.args.h.now c.args.first v w is marked) (none k blocks c.args.h.now c.args.first v w is marked alone) in
    let depth = subst (λ (x : Depth). IsDepth k blocks (OfHg v) x) c.in-Even.is found in
    let over = even-over k blocks c.args.h.now c.args.first v w is marked alone depth in
    (mark_commit blocks v, chosen k blocks v _ (mark_commit blocks v) clear (even k blocks c.args.h.now c.args.first v w is marked alone depth) (c.in_ok-mark_commit-in-Even.ensures.ok blocks v over))

pub returns-in_err-mark_commit-in-Even-clause-refused : goal.returns-in_err-mark_commit-in-Even-clause-refused
returns-in_err-mark_commit-in-Even-clause-refused g c = err-is _ c.from_residual-in_err-mark_commit-in-Even.result (choice_fault c.in_err-mark_commit-in-Even.field-0.0) c.from_residual-in_err-mark_commit-in-Even.ensures.1 (λ blocks v w is clear.
    let k = c.args.known.now in
    let draft = (is.inside).draft in
    let marked = ap (λ (x : Changeset). is_bare_date x.date) draft.fields ∙ sym c.is_bare.ensures ∙ c.if-is_bare.false in
    let alone = (c.has_bodies.ensures v.rows (draft.rows, draft.files)).0 c.if-not-has_bodies.false in
    let found = c.in_ok-depth_of_changeset.ensures.depth blocks v w is.unmarks (asked k blocks c.args.h.now c.args.first v w is marked alone) (not-plain k blocks c.args.h.now c.args.first v w is marked) (none k blocks c.args.h.now c.args.first v w is marked alone) in
    let depth = subst (λ (x : Depth). IsDepth k blocks (OfHg v) x) c.in-Even.is found in
    let over = even-over k blocks c.args.h.now c.args.first v w is marked alone depth in
    refused k blocks v (mark_commit blocks v) c.in_err-mark_commit-in-Even.field-0.0 clear (even k blocks c.args.h.now c.args.first v w is marked alone depth)
    (λ e fits. c.in_err-mark_commit-in-Even.ensures.limit (ap Err e) blocks v over fits))

pub returns-in_ok-unmarked_commit-in-Odd-clause-ok : goal.returns-in_ok-unmarked_commit-in-Odd-clause-ok
returns-in_ok-unmarked_commit-in-Odd-clause-ok g c = λ blocks v w is clear.
    let k = c.args.known.now in
    let draft = (is.inside).draft in
    let marked = ap (λ (x : Changeset). is_bare_date x.date) draft.fields ∙ sym c.is_bare.ensures ∙ c.if-is_bare.false in
    let alone = (c.has_bodies.ensures v.rows (draft.rows, draft.files)).0 c.if-not-has_bodies.false in
    let found = c.in_ok-depth_of_changeset.ensures.depth blocks v w is.unmarks (asked k blocks c.args.h.now c.args.first v w is marked alone) (not-plain k blocks c.args.h.now c.args.first v w is marked) (none k blocks c.args.h.now c.args.first v w is marked alone) in
    let depth = subst (λ (x : Depth). IsDepth k blocks (OfHg v) x) c.in-Odd.is found in
    (w, chosen k blocks v _ w clear (odd k blocks c.args.h.now c.args.first v w is marked alone depth) (c.in_ok-unmarked_commit-in-Odd.ensures.ok blocks v w is))

pub returns-in_err-unmarked_commit-in-Odd-clause-refused : goal.returns-in_err-unmarked_commit-in-Odd-clause-refused
returns-in_err-unmarked_commit-in-Odd-clause-refused g c = err-is _ c.from_residual-in_err-unmarked_commit-in-Odd.result (choice_fault c.in_err-unmarked_commit-in-Odd.field-0.0) c.from_residual-in_err-unmarked_commit-in-Odd.ensures.1 (λ blocks v w is clear.
    let k = c.args.known.now in
    let draft = (is.inside).draft in
    let marked = ap (λ (x : Changeset). is_bare_date x.date) draft.fields ∙ sym c.is_bare.ensures ∙ c.if-is_bare.false in
    let alone = (c.has_bodies.ensures v.rows (draft.rows, draft.files)).0 c.if-not-has_bodies.false in
    let found = c.in_ok-depth_of_changeset.ensures.depth blocks v w is.unmarks (asked k blocks c.args.h.now c.args.first v w is marked alone) (not-plain k blocks c.args.h.now c.args.first v w is marked) (none k blocks c.args.h.now c.args.first v w is marked alone) in
    let depth = subst (λ (x : Depth). IsDepth k blocks (OfHg v) x) c.in-Odd.is found in
    refused k blocks v w c.in_err-unmarked_commit-in-Odd.field-0.0 clear (odd k blocks c.args.h.now c.args.first v w is marked alone depth)
    (λ e fits. c.in_err-unmarked_commit-in-Odd.ensures.limit (ap Err e) blocks v w is fits))

pub returns-in-TooDeep-clause-refused : goal.returns-in-TooDeep-clause-refused
returns-in-TooDeep-clause-refused g c = λ blocks v w is clear.
    let k = c.args.known.now in
    let draft = (is.inside).draft in
    let marked = ap (λ (x : Changeset). is_bare_date x.date) draft.fields ∙ sym c.is_bare.ensures ∙ c.if-is_bare.false in
    let alone = (c.has_bodies.ensures v.rows (draft.rows, draft.files)).0 c.if-not-has_bodies.false in
    let found = c.in_ok-depth_of_changeset.ensures.depth blocks v w is.unmarks (asked k blocks c.args.h.now c.args.first v w is marked alone) (not-plain k blocks c.args.h.now c.args.first v w is marked) (none k blocks c.args.h.now c.args.first v w is marked alone) in
    let depth = subst (λ (x : Depth). IsDepth k blocks (OfHg v) x) c.in-TooDeep.is found in
    deep k blocks c.args.h.now c.args.first v w is marked alone clear depth

pub returns-in-Collides-clause-refused : goal.returns-in-Collides-clause-refused
returns-in-Collides-clause-refused g c = λ blocks v w is clear.
    let k = c.args.known.now in
    let draft = (is.inside).draft in
    let marked = ap (λ (x : Changeset). is_bare_date x.date) draft.fields ∙ sym c.is_bare.ensures ∙ c.if-is_bare.false in
    let alone = (c.has_bodies.ensures v.rows (draft.rows, draft.files)).0 c.if-not-has_bodies.false in
    let found = c.in_ok-depth_of_changeset.ensures.depth blocks v w is.unmarks (asked k blocks c.args.h.now c.args.first v w is marked alone) (not-plain k blocks c.args.h.now c.args.first v w is marked) (none k blocks c.args.h.now c.args.first v w is marked alone) in
    let depth = subst (λ (x : Depth). IsDepth k blocks (OfHg v) x) c.in-Collides.is found in
    collides-below k blocks c.args.h.now c.args.first v w is marked clear depth
