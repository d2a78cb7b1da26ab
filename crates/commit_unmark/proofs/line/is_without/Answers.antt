use Rattle.commit_unmark.proofs.PartLemmas.{without-by}
use Rattle.commit_unmark.proofs.line.is_without.Goals as goal

pub returns : goal.returns
returns c = without-by c.args.byte c.args.text.now c.cut_at.result _ c.is_none.result c.cut_at.ensures c.is_none.ensures
