use Rattle.std.proofs.lemmas.Result.{err_from_is_err_and}
use Rattle.pull_bundle.proofs.TakeLemmas.{all-put, all-collide}
use Rattle.pull_bundle.proofs.take.take_new.Goals as goal

pub returns-in_err-pair-clause-refused : goal.returns-in_err-pair-clause-refused
returns-in_err-pair-clause-refused g c =
    let p = err_from_is_err_and c.from_residual.result c.from_residual.ensures.1 in
    rw (p.1, p.2) c.in_err-pair.ensures.refused

pub returns-in_err-pair-clause-names : goal.returns-in_err-pair-clause-names
returns-in_err-pair-clause-names g c =
    let p = err_from_is_err_and c.from_residual.result c.from_residual.ensures.1 in
    rw (p.1, p.2) c.in_err-pair.ensures.names

pub put_pair-requires : goal.put_pair-requires
put_pair-requires g c =
    let x = c.requires.new in
    let q = c.in_ok-pair.ensures.ok x.0 x.1 x.2 x.3 in
    record { pair = (x.0, q.0, q.1, q.2) }

pub returns-clause-ok : goal.returns-clause-ok
returns-clause-ok g c = all-put c.args.taking c.args.node.now c.in_ok-pair.pair c.in_ok-pair.ensures.ok c.put_pair.result c.put_pair.ensures.ok

pub returns-clause-refused : goal.returns-clause-refused
returns-clause-refused g c = all-collide c.args.taking c.args.node.now c.in_ok-pair.pair c.in_ok-pair.ensures.ok c.put_pair.result c.put_pair.ensures.refused
