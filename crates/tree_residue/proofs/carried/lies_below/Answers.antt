use Rattle.std.proofs.Common.{◌≡◌, ◌∙◌, ◌&&◌, true, false, Bool, bytes_eq, length, take, drop, sym, ap}
use Rattle.text_model.specs.Text.{Bytes}
use Rattle.tree_shape.specs.Clashes.{begins_with_slash}
use Rattle.tree_residue.proofs.PathTests.{lies-by}
use Rattle.tree_residue.proofs.carried.lies_below.Goals as goal

pub returns-then-eq : goal.returns-then-eq
returns-then-eq c =
    let path = c.args.path.now in
    let d = c.args.directory.now in
    let first : bytes_eq (take (length d) path) d ≡ true = ap (λ (f : Bytes). bytes_eq f d) (sym c.split_at.ensures.front) ∙ sym c.eq.ensures ∙ c.if-eq.true in
    c.begins_with_slash.ensures ∙ ap begins_with_slash c.split_at.ensures.back ∙ ap (λ (t : Bool). t && begins_with_slash (drop (length d) path)) (sym first) ∙ lies-by path d

pub returns-else-eq : goal.returns-else-eq
returns-else-eq c =
    let path = c.args.path.now in
    let d = c.args.directory.now in
    let first : bytes_eq (take (length d) path) d ≡ false = ap (λ (f : Bytes). bytes_eq f d) (sym c.split_at.ensures.front) ∙ sym c.eq.ensures ∙ c.if-eq.false in
    c.if-eq.false ∙ ap (λ (t : Bool). t && begins_with_slash (drop (length d) path)) (sym first) ∙ lies-by path d
