use Rattle.std.proofs.Common.{◌≡◌, ◌∙◌, length, get_or, map, ap, sym, arith}
use Rattle.std.proofs.lemmas.List.{take_all, length-map}
use Rattle.std.specs.Prelude.{bytes_eq}
use Rattle.std.proofs.lemmas.Fn.{always_returns_same}
use Rattle.text_model.specs.Text.{Bytes, is_below}
use Rattle.tree_shape.proofs.ClashLemmas.{IsParted, path-at, path-past}
use Rattle.tree_shape.proofs.PathRows.{files-get, rows-parted, files-parted}
use Rattle.tree_shape.proofs.clash.has_path.Goals as goal

pub returns-then-place-rows : goal.returns-then-place-rows
returns-then-place-rows g c =
    let file = g.R.HasPath.file in
    let rows = c.args.rows.now in
    let path = c.args.path.now in
    let place = c.partition_point-place.result in
    let row = c.index-rows-place.result in
    let point = c.partition_point-place.ensures.partitioned (λ r. is_below (file r).path path) (always_returns_same _ _ _ (λ a r f called. (called.met.1 ∙ ap (is_below (file a.0.now).path) (take_all (length path) path (omega arith)), λ i. record { 0 = called.met.0 i }))) (rows-parted file rows path c.requires) in
    let parts : IsParted (map file rows) path place = files-parted file rows path place c.partition_point-place.ensures.bound (λ k d lt. point.0 k d (omega (arith, lt, c.partition_point-place.ensures.bound)) lt) (λ k d le lt. point.1 k d le lt) in
    c.eq.ensures ∙ ap (λ (p : Bytes). bytes_eq p path) c.path.ensures
    ∙ path-at (map file rows) path place (file row) c.requires parts (omega (arith, c.if-place-rows.true, length-map rows file)) (ap file c.index-rows-place.is ∙ sym (files-get file rows place row))

pub returns-else-place-rows : goal.returns-else-place-rows
returns-else-place-rows g c =
    let file = g.R.HasPath.file in
    let rows = c.args.rows.now in
    let path = c.args.path.now in
    let place = c.partition_point-place.result in
    let point = c.partition_point-place.ensures.partitioned (λ r. is_below (file r).path path) (always_returns_same _ _ _ (λ a r f called. (called.met.1 ∙ ap (is_below (file a.0.now).path) (take_all (length path) path (omega arith)), λ i. record { 0 = called.met.0 i }))) (rows-parted file rows path c.requires) in
    let parts : IsParted (map file rows) path place = files-parted file rows path place c.partition_point-place.ensures.bound (λ k d lt. point.0 k d (omega (arith, lt, c.partition_point-place.ensures.bound)) lt) (λ k d le lt. point.1 k d le lt) in
    path-past (map file rows) path place parts (omega (arith, c.if-place-rows.false, length-map rows file))
