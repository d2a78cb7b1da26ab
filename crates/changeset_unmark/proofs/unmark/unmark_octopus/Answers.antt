use Rattle.std.proofs.Common.{◌≤◌, true≢false, Some, sym, ap, subst, ◌∙◌}
use Rattle.git_model.specs.Tree.{has_distinct}
use Rattle.hg_model.specs.Changeset.{Changeset}
use Rattle.mark_code.specs.Values.{changeset_marks}
use Rattle.pair_model.specs.MarkList.{IsParentCount}
use Rattle.plain_rule.proofs.OverLemmas.{if_weaker}
use Rattle.commit_rule.specs.Parts.{partners_at}
use Rattle.changeset_unmark.specs.Heads.{IsDateOf}
use Rattle.changeset_unmark.specs.Parents.{HavePartners}
use Rattle.changeset_unmark.proofs.PartnerSteps.{partners_none, partners_some}
use Rattle.changeset_unmark.proofs.OctopusParents.{octopus-over, ids-count, leads-none, leads-found, unmarked-leads, unmarked-have, unmarked-ids}
use Rattle.changeset_unmark.proofs.OctopusWhole.{through-whole}
use Rattle.changeset_unmark.proofs.unmark.unmark_octopus.Goals as goal

pub nodes_named-requires-clause-least : goal.nodes_named-requires-clause-least
nodes_named-requires-clause-least c = let bounds : (3 ≤ c.args.count) × (c.args.count ≤ 64) = subst IsParentCount c.requires.many c.requires.date.3.parents in bounds.0

pub nodes_named-requires-clause-most : goal.nodes_named-requires-clause-most
nodes_named-requires-clause-most c = let bounds : (3 ≤ c.args.count) × (c.args.count ≤ 64) = subst IsParentCount c.requires.many c.requires.date.3.parents in bounds.1

pub returns-in_default : goal.returns-in_default
returns-in_default c = λ blocks v inside commit u.
    let k = c.args.known.now in
    let d = c.args.h.now in
    let m = changeset_marks c.args.marks in
    let bounds : (3 ≤ c.args.count) × (c.args.count ≤ 64) = subst IsParentCount c.requires.many c.requires.date.3.parents in
    let date = subst (λ (x : Changeset). IsDateOf x.date m) (sym inside.draft.fields) c.requires.date in
    leads-none k.hg c.args.count d.p1 d.p2 c.in_ok-nodes.field-0 c.in_default.is c.in_ok-nodes.ensures _
    (unmarked-leads k inside.history.added blocks d v inside c.args.count bounds.0 bounds.1 m date c.requires.many commit u)

pub returns-in_default-2 : goal.returns-in_default-2
returns-in_default-2 c = λ blocks v inside commit u.
    let k = c.args.known.now in
    let d = c.args.h.now in
    let m = changeset_marks c.args.marks in
    let bounds : (3 ≤ c.args.count) × (c.args.count ≤ 64) = subst IsParentCount c.requires.many c.requires.date.3.parents in
    let date = subst (λ (x : Changeset). IsDateOf x.date m) (sym inside.draft.fields) c.requires.date in
    let leads = leads-found k.hg c.args.count d.p1 d.p2 c.in_ok-nodes.field-0 c.in-Some.nodes c.in-Some.is c.in_ok-nodes.ensures in
    partners_none k.partners c.as_slice.result.now c.in_ok-parents.field-0 c.in_default-2.is c.in_ok-parents.ensures
    (subst (HavePartners c.args.known.now.partners) (sym c.as_slice.ensures) (unmarked-have k inside.history.added blocks d v inside c.args.count bounds.0 bounds.1 m date c.requires.many commit u c.in-Some.nodes leads))

pub returns-then-not-are_distinct : goal.returns-then-not-are_distinct
returns-then-not-are_distinct c = λ blocks v inside commit u.
    let k = c.args.known.now in
    let d = c.args.h.now in
    let m = changeset_marks c.args.marks in
    let bounds : (3 ≤ c.args.count) × (c.args.count ≤ 64) = subst IsParentCount c.requires.many c.requires.date.3.parents in
    let date = subst (λ (x : Changeset). IsDateOf x.date m) (sym inside.draft.fields) c.requires.date in
    let leads = leads-found k.hg c.args.count d.p1 d.p2 c.in_ok-nodes.field-0 c.in-Some.nodes c.in-Some.is c.in_ok-nodes.ensures in
    let found = partners_some k.partners c.as_slice.result.now c.in_ok-parents.field-0 c.in-Some-2.parents c.in-Some-2.is c.in_ok-parents.ensures in
    let same = unmarked-ids k inside.history.added blocks d v inside c.args.count bounds.0 bounds.1 m date c.requires.many commit u c.in-Some.nodes leads c.in-Some-2.parents (found.1 ∙ ap (partners_at k.partners) c.as_slice.ensures) in
    true≢false (sym (ap has_distinct (sym same) ∙ u.view.distinct) ∙ sym (c.are_distinct.ensures ∙ ap has_distinct c.as_slice-2.ensures) ∙ c.if-not-are_distinct.true)

pub unmark_through-requires-clause-over : goal.unmark_through-requires-clause-over
unmark_through-requires-clause-over c =
    let k = c.args.known.now in
    let d = c.args.h.now in
    let inside = c.requires.inside in
    let bounds : (3 ≤ c.args.count) × (c.args.count ≤ 64) = subst IsParentCount c.requires.many c.requires.date.3.parents in
    let leads = leads-found k.hg c.args.count d.p1 d.p2 c.in_ok-nodes.field-0 c.in-Some.nodes c.in-Some.is c.in_ok-nodes.ensures in
    let found = partners_some k.partners c.as_slice.result.now c.in_ok-parents.field-0 c.in-Some-2.parents c.in-Some-2.is c.in_ok-parents.ensures in
    let distinct = sym (c.are_distinct.ensures ∙ ap has_distinct c.as_slice-2.ensures) ∙ c.if-not-are_distinct.false in (
      inside.0,
      inside.1,
      octopus-over k inside.2.history.added inside.0 d inside.1 inside.2 c.args.count bounds.0 bounds.1 c.in-Some.nodes leads
          (subst (HavePartners c.args.known.now.partners) c.as_slice.ensures found.0) c.in-Some-2.parents (found.1 ∙ ap (partners_at k.partners) c.as_slice.ensures) distinct,
    )

pub unmark_through-requires-clause-many : goal.unmark_through-requires-clause-many
unmark_through-requires-clause-many c =
    let k = c.args.known.now in
    let d = c.args.h.now in
    let inside = c.requires.inside in
    let bounds : (3 ≤ c.args.count) × (c.args.count ≤ 64) = subst IsParentCount c.requires.many c.requires.date.3.parents in
    let leads = leads-found k.hg c.args.count d.p1 d.p2 c.in_ok-nodes.field-0 c.in-Some.nodes c.in-Some.is c.in_ok-nodes.ensures in
    let found = partners_some k.partners c.as_slice.result.now c.in_ok-parents.field-0 c.in-Some-2.parents c.in-Some-2.is c.in_ok-parents.ensures in
    c.requires.many ∙ ap Some (sym (ids-count k inside.2.history.added inside.0 d inside.1 inside.2 c.args.count bounds.0 bounds.1 c.in-Some.nodes leads c.in-Some-2.parents (found.1 ∙ ap (partners_at k.partners) c.as_slice.ensures)))

pub returns : goal.returns
returns c =
    let k = c.args.known.now in
    let d = c.args.h.now in
    let m = changeset_marks c.args.marks in
    let bounds : (3 ≤ c.args.count) × (c.args.count ≤ 64) = subst IsParentCount c.requires.many c.requires.date.3.parents in
    let leads = leads-found k.hg c.args.count d.p1 d.p2 c.in_ok-nodes.field-0 c.in-Some.nodes c.in-Some.is c.in_ok-nodes.ensures in
    let found = partners_some k.partners c.as_slice.result.now c.in_ok-parents.field-0 c.in-Some-2.parents c.in-Some-2.is c.in_ok-parents.ensures in
    let ids-are = found.1 ∙ ap (partners_at k.partners) c.as_slice.ensures in
    let distinct = sym (c.are_distinct.ensures ∙ ap has_distinct c.as_slice-2.ensures) ∙ c.if-not-are_distinct.false in
    if_weaker c.unmark_through.result _ _ (λ answer says blocks v inside.
    let date = subst (λ (x : Changeset). IsDateOf x.date m) (sym inside.draft.fields) c.requires.date in
    let over = octopus-over k inside.history.added blocks d v inside c.args.count bounds.0 bounds.1 c.in-Some.nodes leads (subst (HavePartners c.args.known.now.partners) c.as_slice.ensures found.0) c.in-Some-2.parents ids-are distinct in
    through-whole k blocks v c.in-Some-2.parents (λ commit u. unmarked-ids k inside.history.added blocks d v inside c.args.count bounds.0 bounds.1 m date c.requires.many commit u c.in-Some.nodes leads c.in-Some-2.parents ids-are)
    answer (says blocks v over)) c.unmark_through.ensures
