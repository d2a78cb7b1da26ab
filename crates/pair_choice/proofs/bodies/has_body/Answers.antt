use Rattle.std.proofs.Common.{◌≡◌, ◌++◌, Bool, sym, ap, subst, ◌∙◌}
use Rattle.std.specs.Prelude.{IsTrue, ◌↔◌}
use Rattle.text_model.specs.Id.{blob, blob_id}
use Rattle.git_store.specs.Known.{content_at}
use Rattle.pair_known.specs.Rows.{RowValue}
use Rattle.pair_choice.specs.Bodies.{IsBodyAlone}
use Rattle.pair_choice.proofs.Contents.{body-alone, none-alone}
use Rattle.pair_choice.proofs.bodies.has_body.Goals as goal

pub returns-in-Some : goal.returns-in-Some
returns-in-Some c = λ r is.
    let git = c.args.known.now.git in
    let fresh = c.args.d.now.fresh in
    let id : c.row.inside.blob ≡ blob_id (r.revision).body = ap (λ (v : RowValue). v.blob) (c.row.view_is ∙ sym is.0) in
    let content = c.in-Some.ensures.content ∙ ap (content_at blob (git ++ fresh)) id in
    subst (λ (t : Bool). IsTrue t ↔ IsBodyAlone git fresh r) (sym c.eq.ensures)
    (body-alone git fresh c.in-Some.ensures.objects r c.in-Some.content.now c.body_of.result.now content (c.body_of.ensures r is))

pub returns-in-None : goal.returns-in-None
returns-in-None c = λ r is.
    let git = c.args.known.now.git in
    let fresh = c.args.d.now.fresh in
    let id : c.row.inside.blob ≡ blob_id (r.revision).body = ap (λ (v : RowValue). v.blob) (c.row.view_is ∙ sym is.0) in
    none-alone git fresh c.in-None.ensures.objects r (c.in-None.ensures.content ∙ ap (content_at blob (git ++ fresh)) id)
