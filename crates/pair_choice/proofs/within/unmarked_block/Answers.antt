use Rattle.pair_choice.proofs.ChangesetLemmas.{unmarked-made}
use Rattle.pair_choice.proofs.within.unmarked_block.Goals as goal

pub returns-clause-ok : goal.returns-clause-ok
returns-clause-ok c = λ known blocks v h added u made. unmarked-made known blocks v h _ u made c.new.ensures ((c.in_ok-changeset_fits.ensures known.hg h added made).0 c.if-not-branch.false)
