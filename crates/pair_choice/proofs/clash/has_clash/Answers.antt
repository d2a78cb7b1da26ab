use Rattle.std.proofs.Common.{◌∙◌}
use Rattle.pair_choice.proofs.ClashRows.{files-rise, clash-found}
use Rattle.pair_choice.proofs.clash.has_clash.Goals as goal

pub find_row_clash-requires : goal.find_row_clash-requires
find_row_clash-requires c = files-rise c.args.rows.now c.requires

pub returns : goal.returns
returns c = c.is_some.ensures ∙ clash-found c.args.rows.now c.find_row_clash.result c.requires c.find_row_clash.ensures
