use Rattle.std.proofs.Common.{◌++◌, List, [], ◌∷◌, Some, sym, ap, subst, ◌∙◌}
use Rattle.std.proofs.lemmas.Option.{slice_get-get_or}
use Rattle.text_model.specs.Id.{Id}
use Rattle.text_model.proofs.Elements.{take_whole}
use Rattle.commit_rule.specs.Parts.{partners_at}
use Rattle.changeset_unmark.specs.Parents.{HavePartners}
use Rattle.changeset_unmark.proofs.PartnerSteps.{have-more, partners-more, have-at}
use Rattle.changeset_unmark.proofs.parents.partners_of.Goals as goal

pub returns-then-not-branch : goal.returns-then-not-branch
returns-then-not-branch c = λ have.
    let at = slice_get-get_or c.args.nodes.now c.loop-node.node-index c.node-item.result c.loop-node-test.true ∙ ap Some (sym c.node-item.is) in
    c.in_ok-push_partner.ensures.lacks c.if-not-branch.true (have-at c.args.partners.now c.args.nodes.now c.loop-node.node-index c.node-item.result at have)

pub loop-node-preserved : goal.loop-node-preserved
loop-node-preserved c =
    let at = slice_get-get_or c.args.nodes.now c.loop-node.node-index c.node-item.result c.loop-node-test.true ∙ ap Some (sym c.node-item.is) in
    record {
      have = have-more c.args.partners.now c.args.nodes.now c.loop-node.node-index c.node-item.result at c.loop-node.invariant.have (c.in_ok-push_partner.ensures.had c.if-not-branch.false);
      are = c.in_ok-push_partner.ensures.pushed c.if-not-branch.false ∙ ap (λ (xs : List Id). xs ++ partners_at c.args.partners.now (c.node-item.result ∷ [])) c.loop-node.invariant.are
          ∙ sym (partners-more c.args.partners.now c.args.nodes.now c.loop-node.node-index c.node-item.result at);
    }

pub returns : goal.returns
returns c =
    let whole = take_whole c.args.nodes.now c.loop-node.node-index c.loop-node-test.false in (
      subst (HavePartners c.args.partners.now) whole c.loop-node.invariant.have,
      c.loop-node.invariant.are ∙ ap (partners_at c.args.partners.now) whole,
    )
