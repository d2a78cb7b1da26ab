use Rattle.std.proofs.Common.{◌≡◌, ◌∙◌, ◌&&◌, sym, ap, Bool, true, false, map, take, drop, bytes_eq, arith}
use Rattle.std.specs.List.{list_any}
use Rattle.text_model.specs.Text.{Bytes}
use Rattle.tree_shape.specs.Clashes.{shared, begins_with_slash}
use Rattle.tree_shape.proofs.ClashLemmas.{shared-within, rises-front, decides}
use Rattle.tree_shape.proofs.PathRows.{last-file}
use Rattle.tree_shape.proofs.clash.lies_below_one.Goals as goal

pub split_at-requires : goal.split_at-requires
split_at-requires g c = omega (arith, c.shared_len-count.ensures, shared-within c.path.result.now c.path-path.result.now)

pub has_path-requires : goal.has_path-requires
has_path-requires g c = rises-front (map g.R.HasPath.file c.args.before.now) (g.R.HasPath.file c.args.row.now) c.requires.rising

pub returns-then-begins_with_slash : goal.returns-then-begins_with_slash
returns-then-begins_with_slash g c =
    let file = g.R.HasPath.file in
    let row = file c.args.row.now in
    let before = map file c.args.before.now in
    let last = file c.in-Some.last.now in
    let count : c.shared_len-count.result ≡ shared last.path row.path = c.shared_len-count.ensures ∙ (λ k. shared (c.path.ensures k) (c.path-path.ensures k)) in
    let slash : begins_with_slash (drop (shared last.path row.path) row.path) ≡ true =
    sym (ap begins_with_slash (c.split_at.ensures.back ∙ (λ k. drop (count k) (c.path-path.ensures k)))) ∙ sym c.begins_with_slash.ensures ∙ c.if-begins_with_slash.true in
    c.has_path.ensures ∙ ap (λ (p : Bytes). list_any (λ r. bytes_eq r.path p) before) (c.split_at.ensures.front ∙ (λ k. take (count k) (c.path-path.ensures k)))
    ∙ ap (λ (b : Bool). b && list_any (λ r. bytes_eq r.path (take (shared last.path row.path) row.path)) before) (sym slash)
    ∙ decides before row last c.requires.rising c.requires.apart (last-file file c.args.before.now c.in-Some.last.now c.in-Some.ensures.value)

pub returns-else-begins_with_slash : goal.returns-else-begins_with_slash
returns-else-begins_with_slash g c =
    let file = g.R.HasPath.file in
    let row = file c.args.row.now in
    let before = map file c.args.before.now in
    let last = file c.in-Some.last.now in
    let count : c.shared_len-count.result ≡ shared last.path row.path = c.shared_len-count.ensures ∙ (λ k. shared (c.path.ensures k) (c.path-path.ensures k)) in
    let slash : begins_with_slash (drop (shared last.path row.path) row.path) ≡ false =
    sym (ap begins_with_slash (c.split_at.ensures.back ∙ (λ k. drop (count k) (c.path-path.ensures k)))) ∙ sym c.begins_with_slash.ensures ∙ c.if-begins_with_slash.false in
    c.if-begins_with_slash.false
    ∙ ap (λ (b : Bool). b && list_any (λ r. bytes_eq r.path (take (shared last.path row.path) row.path)) before) (sym slash)
    ∙ decides before row last c.requires.rising c.requires.apart (last-file file c.args.before.now c.in-Some.last.now c.in-Some.ensures.value)
