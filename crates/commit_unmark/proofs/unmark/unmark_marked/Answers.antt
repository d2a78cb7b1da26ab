use Rattle.std.proofs.Common.{◌≡◌, List, sym, ap, subst, ◌∙◌}
use Rattle.std.specs.Prelude.{MatchOption}
use Rattle.text_model.specs.Text.{Bytes}
use Rattle.pair_model.specs.MarkList.{Mark, AreHeadersOf}
use Rattle.partner_model.specs.Mark.{commit_marks, parents_of_changeset}
use Rattle.commit_unmark.proofs.Whole.{own-list, no-answer, named-over, wrong-answer, right-answer}
use Rattle.commit_unmark.proofs.unmark.unmark_marked.Goals as goal

pub returns-in_default : goal.returns-in_default
returns-in_default c = λ blocks v over h u.
    let headers : c.as_slice.result.now ≡ (v.value).headers = c.as_slice.ensures ∙ ap (λ d. (d.commit).headers) c.c.view_is ∙ ap (λ x. x.headers) (sym over.draft.value) in
    let none = subst (λ o. MatchOption o ((ms : List Mark) → AreHeadersOf c.as_slice.result.now ms → ⊥) (λ ms. AreHeadersOf c.as_slice.result.now ms)) c.in_default.is c.in_ok-marks.ensures in
    none (commit_marks (parents_of_changeset blocks h) h) (subst (λ (x : Bytes). AreHeadersOf x (commit_marks (parents_of_changeset blocks h) h)) (sym headers) (own-list blocks v h u))

pub returns-in_default-2 : goal.returns-in_default-2
returns-in_default-2 c = λ blocks v over.
    no-answer c.args.known.now blocks c.args.c.now v over c.requires.few c.as_slice.result.now (c.as_slice.ensures ∙ ap (λ d. (d.commit).headers) c.c.view_is)
    c.in_ok-marks.field-0 c.in-Some.marks c.in-Some.is c.in_ok-marks.ensures c.in_ok-named.field-0 (c.in_ok-named.ensures blocks v over) c.in_default-2.is

pub is_right-requires : goal.is_right-requires
is_right-requires c =
    let over = c.requires.over in
    let named =
    named-over c.args.known.now over.0 c.args.c.now over.1 over.2 c.requires.few c.as_slice.result.now (c.as_slice.ensures ∙ ap (λ d. (d.commit).headers) c.c.view_is)
    c.in_ok-marks.field-0 c.in-Some.marks c.in-Some.is c.in_ok-marks.ensures c.in_ok-named.field-0 (c.in_ok-named.ensures over.0 over.1 over.2) c.in-Some-2.named c.in-Some-2.is in
    record { over = (over.0, named.0, named.1) }

pub returns-then-not-branch : goal.returns-then-not-branch
returns-then-not-branch c = λ blocks v over.
    wrong-answer c.args.known.now blocks c.args.c.now v over c.requires.few c.as_slice.result.now (c.as_slice.ensures ∙ ap (λ d. (d.commit).headers) c.c.view_is)
    c.in_ok-marks.field-0 c.in-Some.marks c.in-Some.is c.in_ok-marks.ensures c.in_ok-named.field-0 (c.in_ok-named.ensures blocks v over) c.in-Some-2.named c.in-Some-2.is
    c.in_ok-is_right.field-0 (c.in_ok-is_right.ensures blocks v) c.if-not-branch.true

pub returns : goal.returns
returns c = λ blocks v over.
    right-answer c.args.known.now blocks c.args.c.now v over c.requires.few c.as_slice.result.now (c.as_slice.ensures ∙ ap (λ d. (d.commit).headers) c.c.view_is)
    c.in_ok-marks.field-0 c.in-Some.marks c.in-Some.is c.in_ok-marks.ensures c.in_ok-named.field-0 (c.in_ok-named.ensures blocks v over) c.in-Some-2.named c.in-Some-2.is
    c.in_ok-is_right.field-0 (c.in_ok-is_right.ensures blocks v) c.if-not-branch.false
