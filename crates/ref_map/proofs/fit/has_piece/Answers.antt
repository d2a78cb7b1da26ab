use Rattle.std.proofs.Common.{◌∙◌}
use Rattle.ref_map.proofs.PieceLemmas.{finds}
use Rattle.ref_map.proofs.fit.has_piece.Goals as goal

pub returns : goal.returns
returns c = c.is_some.ensures ∙ finds c.args.piece.now c.args.name.now c.find.result c.find.ensures
