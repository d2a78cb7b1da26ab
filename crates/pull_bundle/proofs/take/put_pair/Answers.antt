use Rattle.std.proofs.Common.{ap}
use Rattle.std.specs.Prelude.{Err}
use Rattle.std.proofs.lemmas.Result.{err_from_is_err_and}
use Rattle.view_model.specs.Dump.{revisions_in}
use Rattle.pair_model.specs.Block.{changesets_in}
use Rattle.partner_model.specs.Given.{block_with}
use Rattle.pair_state.proofs.BlockLemmas.{parts_of}
use Rattle.pull_bundle.proofs.PutLemmas.{pushes, new-held, near-files, put, push-fault, push-named}
use Rattle.pull_bundle.proofs.take.put_pair.Goals as goal

pub push_commit-requires : goal.push_commit-requires
push_commit-requires c =
    let p = c.requires.pair in
    record { block = (p.0, block_with p.0 p.1 p.2, pushes c.args.taking c.args.node.now c.args.pair p.0 p.1 p.2 p.3) }

pub returns-in_err-state-clause-refused : goal.returns-in_err-state-clause-refused
returns-in_err-state-clause-refused c =
    let e = err_from_is_err_and c.from_residual.result c.from_residual.ensures.1 in
    rw e.1 (push-fault c.args.taking c.args.node.now c.args.pair c.in_err-state.field-0.0 (λ same. c.in_err-state.ensures.collision (ap Err same)) e.0 e.2)

pub returns-in_err-state-clause-names : goal.returns-in_err-state-clause-names
returns-in_err-state-clause-names c =
    let e = err_from_is_err_and c.from_residual.result c.from_residual.ensures.1 in
    rw e.1 (push-named c.in_err-state.field-0.0 e.0 e.2)

pub refer-requires : goal.refer-requires
refer-requires c =
    let p = c.requires.pair in
    let t = c.args.taking in
    let pushed = c.in_ok-state.ensures.ok p.0 (block_with p.0 p.1 p.2) (pushes t c.args.node.now c.args.pair p.0 p.1 p.2 p.3) in
    record {
      held = (parts_of (block_with p.0 p.1 p.2), new-held t c.args.node.now c.args.pair p.0 p.1 p.2 p.3 c.in_ok-state.state pushed);
      near = near-files t p.0 c.in_ok-state.state (p.3).taking pushed.revisions c.near_of-near.result c.near_of-near.ensures;
    }

pub returns-in_err-refer-clause-refused : goal.returns-in_err-refer-clause-refused
returns-in_err-refer-clause-refused c = let e = err_from_is_err_and c.from_residual-in_err-refer.result c.from_residual-in_err-refer.ensures.1 in rw (e.1, e.2) tt

pub returns-in_err-refer-clause-names : goal.returns-in_err-refer-clause-names
returns-in_err-refer-clause-names c = let e = err_from_is_err_and c.from_residual-in_err-refer.result c.from_residual-in_err-refer.ensures.1 in rw (e.1, e.2) tt

pub returns-clause-ok : goal.returns-clause-ok
returns-clause-ok c = λ blocks v made for.
    let t = c.args.taking in
    let b = block_with blocks v made in
    let pushed = c.in_ok-state.ensures.ok blocks b (pushes t c.args.node.now c.args.pair blocks v made for) in
    put t c.args.node.now c.args.pair blocks v made for c.in_ok-state.state pushed c.refer.new.referred
    (c.in_ok-refer.ensures (parts_of b) (revisions_in (changesets_in blocks)) (new-held t c.args.node.now c.args.pair blocks v made for c.in_ok-state.state pushed) (for.taking).referred)
    c.into_rows.result c.into_rows.ensures
