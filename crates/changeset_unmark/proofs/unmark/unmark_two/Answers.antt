use Rattle.std.proofs.Common.{[], ◌∷◌, refl, sym, subst, ◌∙◌}
use Rattle.text_model.specs.Lists.{Each}
use Rattle.hg_model.specs.Changeset.{Changeset}
use Rattle.mark_code.specs.Values.{changeset_marks}
use Rattle.partner_model.specs.Mark.{parents_of_changeset}
use Rattle.partner_model.specs.Partner.{IsHeldView, IsKnownAs}
use Rattle.plain_rule.proofs.OverLemmas.{if_weaker}
use Rattle.changeset_unmark.specs.Heads.{IsDateOf}
use Rattle.changeset_unmark.specs.Named.{commit_named}
use Rattle.changeset_unmark.proofs.PartnerSteps.{partners_none, partners_some}
use Rattle.changeset_unmark.proofs.TwoParents.{named-over, no-count, over-is, no-links, unmarked-have, unmarked-parents}
use Rattle.changeset_unmark.proofs.WholeLemmas.{answer-over}
use Rattle.changeset_unmark.proofs.unmark.unmark_two.Goals as goal

pub returns-in_default : goal.returns-in_default
returns-in_default c = λ blocks v inside commit u.
    let k = c.args.known.now in
    let d = c.args.h.now in
    let m = changeset_marks c.args.marks in
    let date = subst (λ (x : Changeset). IsDateOf x.date m) (sym inside.draft.fields) c.requires.date in
    partners_none k.partners (d.p1 ∷ d.p2 ∷ []) c.in_ok-parents.field-0 c.in_default.is c.in_ok-parents.ensures
    (unmarked-have k inside.history.added blocks d v inside (IsHeldView k.hg) m date c.requires.few commit u)

pub unmark_over-requires-clause-over : goal.unmark_over-requires-clause-over
unmark_over-requires-clause-over c =
    let k = c.args.known.now in
    let d = c.args.h.now in
    let inside = c.requires.inside in
    let found = partners_some k.partners (d.p1 ∷ d.p2 ∷ []) c.in_ok-parents.field-0 c.in-Some.parents c.in-Some.is c.in_ok-parents.ensures in
    (inside.0, inside.1, parents_of_changeset inside.0 inside.1, named-over k inside.2.history.added inside.0 d inside.1 inside.2 found.0 c.in-Some.parents found.1)

pub returns : goal.returns
returns c =
    let k = c.args.known.now in
    let d = c.args.h.now in
    let m = changeset_marks c.args.marks in
    let ids = c.in-Some.parents in
    let found = partners_some k.partners (d.p1 ∷ d.p2 ∷ []) c.in_ok-parents.field-0 c.in-Some.parents c.in-Some.is c.in_ok-parents.ensures in
    if_weaker c.unmark_over.result _ _ (λ answer says blocks v inside.
    let date = subst (λ (x : Changeset). IsDateOf x.date m) (sym inside.draft.fields) c.requires.date in
    let over = named-over k inside.history.added blocks d v inside found.0 ids found.1 in
    let ps = parents_of_changeset blocks v in
    answer-over k inside.history.added blocks d v ids d.p1 ps over m date
    (no-count k inside.history.added blocks d v inside found.0 ids found.1 ∙ sym c.requires.few)
    (λ b at. c.unmark_over.ensures.known blocks b inside.history.held at)
    (λ commit same. over-is k inside.history.added blocks d v inside found.0 ids found.1 commit same)
    (λ named. subst (Each (IsKnownAs (IsHeldView k.hg))) (sym (no-links k inside.history.added blocks d v inside found.0 ids found.1 (commit_named blocks ids v m) refl)) tt)
    (λ commit u. unmarked-parents k inside.history.added blocks d v inside (IsHeldView k.hg) m date c.requires.few commit u ids found.1)
    answer (says blocks v ps over)) c.unmark_over.ensures.found
