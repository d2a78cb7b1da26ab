use Rattle.arrival_law.proofs.Whole.{read-again}
use Rattle.arrival_law.proofs.history_is_shaped.Goals as goal

pub returns-clause-shaped : goal.returns-clause-shaped
returns-clause-shaped c = λ s is. (read-again s is).shaped

pub returns-clause-blobs : goal.returns-clause-blobs
returns-clause-blobs c = λ s is. (read-again s is).blobs

pub returns-clause-tags : goal.returns-clause-tags
returns-clause-tags c = λ s is. (read-again s is).tags

pub returns-clause-small : goal.returns-clause-small
returns-clause-small c = λ s is. (read-again s is).small
