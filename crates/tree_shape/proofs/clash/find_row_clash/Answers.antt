use Rattle.std.proofs.Common.{◌∙◌, refl, sym, ap}
use Rattle.git_model.specs.Shape.{first_clash}
use Rattle.tree_shape.proofs.ClashLemmas.{no-rows}
use Rattle.tree_shape.proofs.PathRows.{before, front-rises, row-clash, row-clear}
use Rattle.tree_shape.proofs.clash.find_row_clash.Goals as goal

pub loop-place-init : goal.loop-place-init
loop-place-init g c = record { clear = record { whole = refl; none = no-rows } }

pub lies_below_one-requires-clause-rising : goal.lies_below_one-requires-clause-rising
lies_below_one-requires-clause-rising g c =
    front-rises g.R.HasPath.file c.args.rows.now c.split_at.result.0.now c.loop-place.place c.index-rows-place.result c.split_at.ensures.front c.loop-place-test.true c.index-rows-place.is c.requires

pub lies_below_one-requires-clause-apart : goal.lies_below_one-requires-clause-apart
lies_below_one-requires-clause-apart g c =
    ap first_clash (before g.R.HasPath.file c.args.rows.now c.split_at.result.0.now c.loop-place.place c.index-rows-place.result c.split_at.ensures.front c.loop-place-test.true c.index-rows-place.is) ∙ c.loop-place.invariant.clear.none

pub returns-then-lies_below_one : goal.returns-then-lies_below_one
returns-then-lies_below_one g c =
    row-clash g.R.HasPath.file c.args.rows.now c.split_at.result.0.now c.loop-place.place c.index-rows-place.result c.split_at.ensures.front c.loop-place-test.true c.index-rows-place.is c.loop-place.invariant.clear
    (sym c.if-lies_below_one.true ∙ c.lies_below_one.ensures)

pub loop-place-preserved : goal.loop-place-preserved
loop-place-preserved g c = record {
  clear = row-clear g.R.HasPath.file c.args.rows.now c.split_at.result.0.now c.loop-place.place c.index-rows-place.result c.split_at.ensures.front c.loop-place-test.true c.index-rows-place.is c.loop-place.invariant.clear
      (sym c.if-lies_below_one.false ∙ c.lies_below_one.ensures);
}
