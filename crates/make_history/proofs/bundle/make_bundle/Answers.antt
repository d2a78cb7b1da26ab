use Rattle.std.proofs.Common.{[]}
use Rattle.make_model.specs.Dump.{made_revisions}
use Rattle.make_history.proofs.HistoryLemmas.{clean-free}
use Rattle.make_history.proofs.bundle.make_bundle.Goals as goal

pub returns-clause-apart : goal.returns-clause-apart
returns-clause-apart c = clean-free [] (made_revisions c.args.n c.args.seed) c.in_ok-history.ensures.ok.came.clean
