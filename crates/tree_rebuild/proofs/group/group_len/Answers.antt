use Rattle.std.proofs.Common.{arith}
use Rattle.std.proofs.lemmas.Fn.{always_returns_same}
use Rattle.tree_shape.specs.Shapes.{short, is_in}
use Rattle.tree_rebuild.proofs.Groups.{Ends, ends, group-end, group-parted}
use Rattle.tree_rebuild.proofs.group.group_len.Goals as goal

pub returns : goal.returns
returns c =
    let skip = c.args.skip in
    let name = c.args.name.now in
    let rows = c.args.rows.now in
    let e : Ends skip name rows = ends skip name rows c.requires.good c.requires.first in
    let point = c.partition_point.ensures.partitioned (λ r. is_in name (short skip r)) (always_returns_same _ _ _ (λ a r f called. (called.met.1 c.requires.plain, λ i. record { 0 = called.met.0.0 i; 1 = called.met.0.1 i }))) (group-parted skip name rows e) in
    group-end skip name rows c.partition_point.result e c.partition_point.ensures.bound (λ k d lt. point.0 k d (omega arith) lt) (λ k d le lt. point.1 k d le lt)
