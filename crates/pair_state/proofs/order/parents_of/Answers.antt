use Rattle.std.proofs.Common.{Option, sym, ap, subst, ◌∙◌}
use Rattle.text_model.specs.Text.{Bytes}
use Rattle.hg_model.specs.FileText.{IsFileText, file_order}
use Rattle.pair_state.proofs.order.parents_of.Goals as goal

pub returns-in-Ok : goal.returns-in-Ok
returns-in-Ok c = λ meta body spells.
    let same = (c.in-Ok.ensures.only meta body (subst (λ (t : Bytes). IsFileText t meta body) (sym c.as_slice.ensures) spells)).0 in
    c.file_order.ensures ∙ ap (λ (m : Option Bytes). file_order m c.args.file.now.p c.args.file.now.q) same
