use Rattle.closure_law.proofs.Dumps.{dumps-return}
use Rattle.closure_law.proofs.dumps_return.Goals as goal

pub returns : goal.returns
returns c = dumps-return
