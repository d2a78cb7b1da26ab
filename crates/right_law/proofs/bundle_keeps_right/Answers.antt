use Rattle.view_model.specs.Dump.{objects_in}
use Rattle.pair_model.specs.Block.{commits_in}
use Rattle.right_law.proofs.Brought.{holds_too, bundle_holds}
use Rattle.right_law.proofs.bundle_keeps_right.Goals as goal

pub returns-clause-known : goal.returns-clause-known
returns-clause-known c = λ known came objects others blocks g k v w one h. holds_too known objects blocks g v w (objects_in (commits_in blocks)) (λ o i. i) came others k one h

pub returns-clause-bundle : goal.returns-clause-bundle
returns-clause-bundle c = bundle_holds
