use Rattle.std.proofs.Common.{sym, ◌∙◌}
use Rattle.std.proofs.lemmas.Slice.Eq.{bytes_eq-Decides, slice_eq-Decides}
use Rattle.state_audit.proofs.kept.are_same_nodes.Goals as goal

pub returns : goal.returns
returns c =
    let test = slice_eq-Decides bytes_eq-Decides c.as_slice.result.now c.args.links.now c.eq.result c.eq.ensures in
    ((λ t. sym (test.0 t) ∙ c.as_slice.ensures), (λ same. test.1 (c.as_slice.ensures ∙ sym same)))
