use Rattle.std.proofs.Common.{not, Some, ap, ◌∙◌}
use Rattle.tree_sum.proofs.Files.{summed-files}
use Rattle.tree_sum.proofs.sums.Sums.summed_entries.Goals as goal

pub returns-in-Some-tree : goal.returns-in-Some-tree
returns-in-Some-tree c =
    summed-files c.args.store.now c.args.self.now c.in-Some.id c.entries.result.now c.get.result c.requires.sums c.get.ensures (c.is_none.ensures ∙ ap not c.if-is_none.false)
    (ap Some c.entries.ensures.entries ∙ c.in-Some-tree.ensures.tree)
