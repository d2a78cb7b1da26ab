use Rattle.std.proofs.Common.{map, ap, ◌∙◌}
use Rattle.std.proofs.lemmas.Result.{IfOk-weaker}
use Rattle.pair_model.specs.Octopus.{links_of}
use Rattle.link_rule.specs.declared.link.Link.{Link}
use Rattle.link_rule.proofs.DraftLemmas.{nodes-are}
use Rattle.link_rule.proofs.links.link_nodes.Goals as goal

pub returns : goal.returns
returns c =
    IfOk-weaker c.nodes_of.result _ _ (λ nodes is blocks v over.
    is ∙ ap (map (λ (l : Link). l.node)) c.as_slice.ensures.value ∙ nodes-are c.in_ok-links.links.items (links_of blocks v) (c.in_ok-links.ensures blocks v over)) c.nodes_of.ensures
