use Rattle.std.proofs.Common.{rules, List, ap, ◌∙◌}
use Rattle.std.proofs.lemmas.Cmp.{nat_list_cmp_total}
use Rattle.std.proofs.lemmas.List.Sorted.{ranks_by, answers_always}
use Rattle.text_model.specs.Lists.{in_order}
use Rattle.state_part.specs.declared.pairs.IdPair.{IdPair}
use Rattle.state_part.specs.Pairs.{has_node_below}
use Rattle.state_part.proofs.SortLemmas.{sorted_is}
use Rattle.state_part.proofs.pairs.sorted_by_node.Goals as goal

pub returns : goal.returns
returns c =
    sorted_is has_node_below (ranks_by nat_list_cmp_total (λ (p : IdPair). p.node)) c.into_vec-items.result.items c.sort_by_key.new.self.items
    (c.in_ok-sort_by_key.ensures.sorted (λ (p : IdPair). p.node) (answers_always _ _ _ (λ f a r g q. search rules)))
    (c.in_ok-sort_by_key.ensures.stable (λ (p : IdPair). p.node) (answers_always _ _ _ (λ f a r g q. search rules)))
    ∙ ap (λ (l : List IdPair). in_order has_node_below l) c.into_vec-items.ensures
