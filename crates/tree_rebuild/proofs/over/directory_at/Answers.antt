use Rattle.std.proofs.Common.{◌∙◌, List, sym, subst, true, arith}
use Rattle.std.proofs.lemmas.Fn.{always_returns_same}
use Rattle.std.proofs.lemmas.Slice.Eq.{bytes_eq-Decides}
use Rattle.std.specs.Prelude.{bytes_eq}
use Rattle.text_model.specs.Lists.{In}
use Rattle.text_model.specs.Text.{is_below}
use Rattle.text_model.proofs.TestLemmas.{both}
use Rattle.git_model.specs.Tree.{TreeEntry, IsTree, is_directory, order_name, sort_name}
use Rattle.git_model.proofs.TreeOrderLemmas.{IsParted, parted}
use Rattle.tree_rebuild.specs.Directories.{LacksDirectory}
use Rattle.tree_rebuild.proofs.Kept.{at-in}
use Rattle.tree_rebuild.proofs.Parted.{lacks-past, lacks-at}
use Rattle.tree_rebuild.proofs.over.directory_at.Goals as goal

pub returns-then-is_directory_named-clause-entry : goal.returns-then-is_directory_named-clause-entry
returns-then-is_directory_named-clause-entry c =
    let tests = both (is_directory c.index-entries-place.result.mode) (bytes_eq c.index-entries-place.result.name c.args.name.now) (sym c.is_directory_named.ensures ∙ c.if-is_directory_named.true) in (
      subst (λ (es : List TreeEntry). In c.index-entries-place.result es) c.entries-entries.ensures.entries
          (at-in c.entries-entries.result.now c.partition_point-place.result c.index-entries-place.result (omega (arith, c.if-place-entries.false)) c.index-entries-place.is),
      tests.0,
      (bytes_eq-Decides c.index-entries-place.result.name c.args.name.now).0 tests.1,
    )

pub returns-then-place-entries-clause-entry : goal.returns-then-place-entries-clause-entry
returns-then-place-entries-clause-entry c =
    let entries = c.entries-entries.result.now in
    let is_tree : IsTree entries = subst IsTree (sym c.entries-entries.ensures.entries) c.entries-entries.ensures.tree in
    let name = order_name true c.args.name.now in
    let place = c.partition_point-place.result in
    let point = c.partition_point-place.ensures.partitioned (λ e. is_below (sort_name e.mode e.name) name) (always_returns_same _ _ _ (λ a r f called. (called.met.1, λ i. record { 0 = called.met.0 i }))) (parted entries name is_tree.1) in
    let parts : IsParted entries name place = record { before = λ k d lt. point.0 k d (omega arith) lt; behind = λ k d le lt. point.1 k d le lt } in
    subst (LacksDirectory c.args.name.now) c.entries-entries.ensures.entries (lacks-past entries c.args.name.now place is_tree.1 parts (omega (arith, c.if-place-entries.true)))

pub returns-else-is_directory_named-clause-entry : goal.returns-else-is_directory_named-clause-entry
returns-else-is_directory_named-clause-entry c =
    let entries = c.entries-entries.result.now in
    let is_tree : IsTree entries = subst IsTree (sym c.entries-entries.ensures.entries) c.entries-entries.ensures.tree in
    let name = order_name true c.args.name.now in
    let place = c.partition_point-place.result in
    let point = c.partition_point-place.ensures.partitioned (λ e. is_below (sort_name e.mode e.name) name) (always_returns_same _ _ _ (λ a r f called. (called.met.1, λ i. record { 0 = called.met.0 i }))) (parted entries name is_tree.1) in
    let parts : IsParted entries name place = record { before = λ k d lt. point.0 k d (omega arith) lt; behind = λ k d le lt. point.1 k d le lt } in
    subst (LacksDirectory c.args.name.now) c.entries-entries.ensures.entries
    (lacks-at entries c.args.name.now place is_tree.1 parts c.index-entries-place.result (omega (arith, c.if-place-entries.false)) c.index-entries-place.is (sym c.is_directory_named.ensures ∙ c.if-is_directory_named.false))
