use Rattle.std.proofs.Common.{true≢false, sym, ap, ◌∙◌}
use Rattle.pair_model.specs.User.{user_of_line}
use Rattle.pair_known.specs.declared.git_draft.GitDraft.{GitDraft}
use Rattle.mark_code.specs.Values.{changeset_marks}
use Rattle.changeset_mark.proofs.MarkedLemmas.{are-extras, marked-made, marked-parents, marked-ruled}
use Rattle.changeset_mark.proofs.marked.mark_changeset.Goals as goal

pub returns-then-not-branch-clause-limit : goal.returns-then-not-branch-clause-limit
returns-then-not-branch-clause-limit c = λ e blocks v over fits.
    let items = are-extras c.in_ok-extras.extras (changeset_marks c.in_ok-marks_of.field-0) c.in_ok-extras.ensures in
    let given-is = c.in_ok-given.ensures ∙ ap user_of_line (c.as_slice.ensures ∙ ap (λ (d : GitDraft). (d.commit).author) c.c.view_is) in
    let made =
    marked-made c.args.known.now blocks c.args.c.now v over c.in_ok-given.given given-is c.in_ok-extras.extras (changeset_marks c.in_ok-marks_of.field-0) c.in_ok-extras.ensures
    (c.in_ok-marks_of.ensures.marks blocks v over) c.in_ok-plain.plain c.in_ok-marked.marked (c.in_ok-plain.ensures blocks v over) (c.in_ok-marked.ensures items) in
    true≢false (sym ((c.in_ok-changeset_fits.ensures _ _ over.history.added made).1 fits) ∙ c.if-not-branch.true)

pub returns-clause-ok : goal.returns-clause-ok
returns-clause-ok c = λ blocks v over.
    let items = are-extras c.in_ok-extras.extras (changeset_marks c.in_ok-marks_of.field-0) c.in_ok-extras.ensures in
    let given-is = c.in_ok-given.ensures ∙ ap user_of_line (c.as_slice.ensures ∙ ap (λ (d : GitDraft). (d.commit).author) c.c.view_is) in
    let made =
    marked-made c.args.known.now blocks c.args.c.now v over c.in_ok-given.given given-is c.in_ok-extras.extras (changeset_marks c.in_ok-marks_of.field-0) c.in_ok-extras.ensures
    (c.in_ok-marks_of.ensures.marks blocks v over) c.in_ok-plain.plain c.in_ok-marked.marked (c.in_ok-plain.ensures blocks v over) (c.in_ok-marked.ensures items) in
    (made, (c.in_ok-changeset_fits.ensures _ _ over.history.added made).0 c.if-not-branch.false)

pub returns-clause-known_parents : goal.returns-clause-known_parents
returns-clause-known_parents c = λ blocks v over.
    let items = are-extras c.in_ok-extras.extras (changeset_marks c.in_ok-marks_of.field-0) c.in_ok-extras.ensures in
    let given-is = c.in_ok-given.ensures ∙ ap user_of_line (c.as_slice.ensures ∙ ap (λ (d : GitDraft). (d.commit).author) c.c.view_is) in
    marked-parents c.args.known.now blocks c.args.c.now v over c.in_ok-given.given given-is c.in_ok-extras.extras (changeset_marks c.in_ok-marks_of.field-0) c.in_ok-extras.ensures
    (c.in_ok-marks_of.ensures.marks blocks v over) c.in_ok-plain.plain c.in_ok-marked.marked (c.in_ok-plain.ensures blocks v over) (c.in_ok-marked.ensures items)

pub returns-clause-strict : goal.returns-clause-strict
returns-clause-strict c = λ blocks v over few.
    let items = are-extras c.in_ok-extras.extras (changeset_marks c.in_ok-marks_of.field-0) c.in_ok-extras.ensures in
    let given-is = c.in_ok-given.ensures ∙ ap user_of_line (c.as_slice.ensures ∙ ap (λ (d : GitDraft). (d.commit).author) c.c.view_is) in
    let marks-are = c.in_ok-marks_of.ensures.marks blocks v over in
    let plain = c.in_ok-plain.ensures blocks v over in
    let made =
    marked-made c.args.known.now blocks c.args.c.now v over c.in_ok-given.given given-is c.in_ok-extras.extras (changeset_marks c.in_ok-marks_of.field-0) c.in_ok-extras.ensures
    marks-are c.in_ok-plain.plain c.in_ok-marked.marked plain (c.in_ok-marked.ensures items) in
    marked-ruled c.args.known.now blocks c.args.c.now v over c.in_ok-given.given given-is c.in_ok-extras.extras (changeset_marks c.in_ok-marks_of.field-0) c.in_ok-extras.ensures
    marks-are c.in_ok-plain.plain c.in_ok-marked.marked plain (c.in_ok-marked.ensures items) few items ((c.in_ok-changeset_fits.ensures _ _ over.history.added made).0 c.if-not-branch.false)
