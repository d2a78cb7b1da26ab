use Rattle.std.proofs.lemmas.Result.{on_ok_weaker}
use Rattle.hg_dump.proofs.RefersLemmas.{met-of, as-met, more-revisions, near-met}
use Rattle.hg_dump.proofs.refers.Refers.add.Goals as goal

pub returns : goal.returns
returns c = on_ok_weaker c.refer_all.result (λ all hs rs are to.
    more-revisions _ rs hs (all hs are (met-of rs) (as-met c.args.self.now rs to) (near-met c.args.self.now c.args.store.now rs c.args.near c.lines_near-before.result.1 c.lines_near-before.ensures.lines c.requires.near to))) c.refer_all.ensures.steps
