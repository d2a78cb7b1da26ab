use Rattle.std.proofs.Common.{◌∙◌, ◌&&◌, Bool, length, take, drop, sym, ap, arith}
use Rattle.std.specs.Prelude.{bytes_eq}
use Rattle.tree_shape.specs.Shapes.{short}
use Rattle.tree_rebuild.proofs.Groups.{too-short, by-front}
use Rattle.tree_rebuild.proofs.group.lies_in.Goals as goal

pub returns-then-path-name : goal.returns-then-path-name
returns-then-path-name c = λ plain. let n = ap length c.rest_of-path.ensures.rest in too-short c.args.name.now (short c.args.skip c.args.row.now) (omega (arith, n, c.if-path-name.true))

pub returns-then-begins_with_slash : goal.returns-then-begins_with_slash
returns-then-begins_with_slash c = λ plain.
    let front = c.split_at.result.0.now in
    let after = c.split_at.result.1.now in
    c.eq.ensures ∙ ap (λ (t : Bool). t && bytes_eq front c.args.name.now) (sym (sym c.begins_with_slash.ensures ∙ c.if-begins_with_slash.true))
    ∙ by-front c.args.name.now front after (short c.args.skip c.args.row.now) plain
    (c.split_at.ensures.front ∙ ap (take (length c.args.name.now)) c.rest_of-path.ensures.rest) (c.split_at.ensures.back ∙ ap (drop (length c.args.name.now)) c.rest_of-path.ensures.rest)

pub returns-else-begins_with_slash : goal.returns-else-begins_with_slash
returns-else-begins_with_slash c = λ plain.
    let front = c.split_at.result.0.now in
    let after = c.split_at.result.1.now in
    c.if-begins_with_slash.false ∙ ap (λ (t : Bool). t && bytes_eq front c.args.name.now) (sym (sym c.begins_with_slash.ensures ∙ c.if-begins_with_slash.false))
    ∙ by-front c.args.name.now front after (short c.args.skip c.args.row.now) plain
    (c.split_at.ensures.front ∙ ap (take (length c.args.name.now)) c.rest_of-path.ensures.rest) (c.split_at.ensures.back ∙ ap (drop (length c.args.name.now)) c.rest_of-path.ensures.rest)
