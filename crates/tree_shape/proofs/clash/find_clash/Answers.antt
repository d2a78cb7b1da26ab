use Rattle.std.proofs.Common.{◌≡◌, ◌∙◌, subst, sym, ap, List, map}
use Rattle.std.proofs.lemmas.List.{map-id}
use Rattle.git_model.specs.Unfold.{FileRow}
use Rattle.git_model.specs.Shape.{first_clash}
use Rattle.tree_shape.proofs.ClashLemmas.{rise}
use Rattle.tree_shape.proofs.clash.find_clash.Goals as goal

pub find_row_clash-requires : goal.find_row_clash-requires
find_row_clash-requires c = subst rise (sym (map-id c.args.rows.now)) c.requires

pub returns : goal.returns
returns c = c.find_row_clash.ensures ∙ ap first_clash (map-id c.args.rows.now)
