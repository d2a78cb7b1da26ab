use Rattle.std.proofs.Common.{◌∙◌, ap, List, map}
use Rattle.std.proofs.lemmas.Result.{IfOk-weaker}
use Rattle.text_model.specs.Lists.{rises}
use Rattle.text_model.specs.Text.{is_below}
use Rattle.git_model.specs.Unfold.{FileRow}
use Rattle.git_model.proofs.SortLemmas.{order-rises}
use Rattle.tree_residue.proofs.Visits.{residue-same}
use Rattle.tree_residue.proofs.walk.residue_at.Goals as goal

pub residue_in-requires : goal.residue_in-requires
residue_in-requires g c =
    ap (λ (rows : List FileRow). rises is_below (map (λ r. r.path) rows)) (c.deref.ensures.value ∙ c.in_ok-rows.ensures)
    ∙ order-rises (λ (r : FileRow). r.path) c.in_ok-rows_at.field-0.items c.in_ok-rows_at.ensures.apart

pub returns : goal.returns
returns g c = IfOk-weaker c.residue_in.result _ _
    (λ residue is. is ∙ residue-same (g.G.Objects.objects c.args.store.now) c.args.root.now c.in_ok-rows_at.field-0.items c.deref.result.now c.in_ok-rows_at.ensures.rows (c.deref.ensures.value ∙ c.in_ok-rows.ensures))
    c.residue_in.ensures
