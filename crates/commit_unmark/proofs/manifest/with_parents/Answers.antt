use Rattle.std.proofs.Common.{Some, refl, sym, ap, ◌∙◌}
use Rattle.text_model.specs.Text.{Bytes}
use Rattle.text_model.specs.Id.{node_id}
use Rattle.commit_unmark.proofs.PartLemmas.{none-with, over-with}
use Rattle.commit_unmark.proofs.manifest.with_parents.Goals as goal

pub returns-in-Null : goal.returns-in-Null
returns-in-Null c = λ rows is. none-with _ c.args.manifest rows c.in-Null.is refl

pub returns-in_ok-text-in-Over : goal.returns-in_ok-text-in-Over
returns-in_ok-text-in-Over c = λ rows is.
    let text : Bytes = c.in_ok-text-in-Over.text in
    let node = c.node_id.ensures ∙ ap (node_id c.in-Over.p c.in-Over.q) c.as_slice.ensures in
    over-with _ c.args.manifest c.args.rows.now rows c.in-Over.p c.in-Over.q text is c.in-Over.is c.in_ok-text-in-Over.ensures
    (λ i. record { node = node i; manifest = sym c.in-Over.is i; text = Some text })
