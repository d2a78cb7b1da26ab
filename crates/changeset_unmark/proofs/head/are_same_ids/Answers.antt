use Rattle.std.proofs.Common.{sym, ◌∙◌}
use Rattle.std.proofs.lemmas.Slice.Eq.{bytes_eq-Decides, slice_eq-Decides}
use Rattle.changeset_unmark.proofs.head.are_same_ids.Goals as goal

pub returns : goal.returns
returns c =
    let test = slice_eq-Decides bytes_eq-Decides c.as_slice.result.now c.as_slice-2.result.now c.eq.result c.eq.ensures in (
      (λ t. sym c.as_slice.ensures ∙ test.0 t ∙ c.as_slice-2.ensures),
      (λ same. test.1 (c.as_slice.ensures ∙ same ∙ sym c.as_slice-2.ensures)),
    )
