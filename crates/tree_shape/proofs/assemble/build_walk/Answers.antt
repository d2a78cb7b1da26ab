use Rattle.std.proofs.Common.{◌∙◌, ◌++◌, sym, ap, subst, List}
use Rattle.git_model.specs.Unfold.{FileRow}
use Rattle.tree_shape.specs.Shapes.{Good, id_of_rows, trees_of_rows}
use Rattle.tree_shape.proofs.WalkOrder.{shorts-none}
use Rattle.tree_shape.proofs.assemble.build_walk.Goals as goal

pub put_rows-requires : goal.put_rows-requires
put_rows-requires c = record { good = subst Good (sym (shorts-none c.args.rows.now)) c.requires.good }

pub returns-clause-root : goal.returns-clause-root
returns-clause-root c = c.in_ok-root.ensures.0 ∙ ap (λ (r : List FileRow). id_of_rows 257 r) (shorts-none c.args.rows.now)

pub returns-clause-made : goal.returns-clause-made
returns-clause-made c = c.in_ok-root.ensures.1 ∙ (λ k. c.new-made.ensures k ++ trees_of_rows 257 (shorts-none c.args.rows.now k))
