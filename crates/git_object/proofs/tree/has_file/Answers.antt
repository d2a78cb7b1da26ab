use Rattle.std.proofs.Common.{◌∙◌, arith}
use Rattle.std.proofs.lemmas.Fn.{always_returns_same}
use Rattle.text_model.specs.Text.{is_below}
use Rattle.git_model.specs.Tree.{sort_name}
use Rattle.git_model.proofs.TreeOrderLemmas.{IsParted, parted, file_at, file_past}
use Rattle.git_object.proofs.tree.has_file.Goals as goal

pub returns-then-place-entries : goal.returns-then-place-entries
returns-then-place-entries c =
    let entries = c.args.entries.now in
    let name = c.args.name.now in
    let place = c.partition_point-place.result in
    let point = c.partition_point-place.ensures.partitioned (λ e. is_below (sort_name e.mode e.name) name) (always_returns_same _ _ _ (λ a r f called. (called.met.1, λ i. record { 0 = called.met.0 i }))) (parted entries name c.requires) in
    let parts : IsParted entries name place = record { before = λ k d lt. point.0 k d (omega arith) lt; behind = λ k d le lt. point.1 k d le lt } in
    c.is_file_named.ensures ∙ file_at entries name place c.index-entries-place.result c.requires parts c.if-place-entries.true c.index-entries-place.is

pub returns-else-place-entries : goal.returns-else-place-entries
returns-else-place-entries c =
    let entries = c.args.entries.now in
    let name = c.args.name.now in
    let place = c.partition_point-place.result in
    let point = c.partition_point-place.ensures.partitioned (λ e. is_below (sort_name e.mode e.name) name) (always_returns_same _ _ _ (λ a r f called. (called.met.1, λ i. record { 0 = called.met.0 i }))) (parted entries name c.requires) in
    let parts : IsParted entries name place = record { before = λ k d lt. point.0 k d (omega arith) lt; behind = λ k d le lt. point.1 k d le lt } in
    file_past entries name place c.requires parts c.if-place-entries.false
