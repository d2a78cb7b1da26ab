use Rattle.std.proofs.Common.{Err, sym, ap, ◌∙◌}
use Rattle.std.proofs.lemmas.Result.{err_from_is_err_and}
use Rattle.pair_state.proofs.GrowthLemmas.{errs}
use Rattle.pair_state.proofs.PushState.{parts-push, parts-history, pushed-state, collides-state}
use Rattle.pair_state.proofs.state.State.push.Goals as goal

pub put-requires : goal.put-requires
put-requires c = record { block = parts-push c.args.self c.into_parts-parts.result c.into_parts-parts.ensures.parts c.args.block c.args.commit c.requires.block }

pub from_parts-requires : goal.from_parts-requires
from_parts-requires c = record {
  history =
      parts-history c.args.self c.into_parts-parts.result c.into_parts-parts.ensures.parts c.args.block c.args.commit c.put.new.self c.requires.block c.into_parts-parts.ensures.history
      c.in_ok-put.ensures.ok;
}

pub returns-in_err-put-clause-collision : goal.returns-in_err-put-clause-collision
returns-in_err-put-clause-collision c = λ is.
    let q = err_from_is_err_and c.from_residual.result c.from_residual.ensures.1 in
    collides-state c.args.self c.into_parts-parts.result c.into_parts-parts.ensures.parts c.args.block c.args.commit (c.in_err-put.ensures.collision (errs _ _ (ap Err (sym q.2) ∙ sym q.1 ∙ is)))

pub returns-clause-ok : goal.returns-clause-ok
returns-clause-ok c = pushed-state c.args.self c.into_parts-parts.result c.into_parts-parts.ensures.parts c.args.block c.args.commit c.put.new.self c.from_parts.result c.from_parts.ensures c.in_ok-put.ensures.ok
