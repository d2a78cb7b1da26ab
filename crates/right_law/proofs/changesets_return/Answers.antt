use Rattle.text_model.specs.Lists.{In}
use Rattle.text_model.proofs.Elements.{each_in}
use Rattle.view_model.specs.Dump.{objects_in}
use Rattle.pair_model.specs.Block.{commits_in}
use Rattle.right_law.proofs.Changesets.{changesets_bring, by_nodes}
use Rattle.right_law.proofs.changesets_return.Goals as goal

pub returns-clause-blocks : goal.returns-clause-blocks
returns-clause-blocks c = λ known came objects blocks g k v are one here h. changesets_bring known came objects blocks g k v are one (λ o i. each_in (λ p. In p objects) (objects_in (commits_in blocks)) o here i) h

pub returns-clause-nodes : goal.returns-clause-nodes
returns-clause-nodes c = by_nodes
