use Rattle.std.proofs.Common.{◌≡◌, ◌∷◌, ◌++◌, [], List, true, false, map, sym, ap, subst, ◌∙◌}
use Rattle.text_model.specs.Id.{blob}
use Rattle.git_model.specs.Object.{Object, object_at, knows_object}
use Rattle.pair_model.specs.Rule.{tree_row_of}
use Rattle.pair_known.specs.Rows.{RowValue}
use Rattle.commit_rule.specs.Parts.{AreBrought}
use Rattle.commit_rule.proofs.BlobLemmas.{brought-none, brought-one, knows-front, knows-back, both-some, one-some}
use Rattle.commit_rule.proofs.fresh.add_blob.Goals as goal

pub returns-then-is_some : goal.returns-then-is_some
returns-then-is_some c = λ rows r was is.
    let known = c.args.known.now.git in
    let id : c.row.inside.blob ≡ (tree_row_of r).id = ap (λ (v : RowValue). v.blob) (c.row.view_is ∙ sym is.0) in
    let knows : true ≡ knows_object known c.row.inside.blob = sym c.if-is_some.true ∙ c.is_some.ensures ∙ both-some _ _ c.content.result (object_at known c.row.inside.blob) c.content.ensures.content in
    brought-none known c.args.fresh.now (map tree_row_of rows) (tree_row_of r) was (knows-back c.args.fresh.now known (tree_row_of r).id (sym (knows ∙ ap (knows_object known) id)))

pub returns-then-is_some-2 : goal.returns-then-is_some-2
returns-then-is_some-2 c = λ rows r was is.
    let id : c.row.inside.blob ≡ (tree_row_of r).id = ap (λ (v : RowValue). v.blob) (c.row.view_is ∙ sym is.0) in
    let knows : true ≡ knows_object c.args.fresh.now c.row.inside.blob = sym c.if-is_some-2.true ∙ c.is_some-2.ensures ∙ one-some _ c.get.result (object_at c.args.fresh.now c.row.inside.blob) c.get.ensures in
    brought-none c.args.known.now.git c.args.fresh.now (map tree_row_of rows) (tree_row_of r) was
    (knows-front c.args.fresh.now c.args.known.now.git (tree_row_of r).id (sym (knows ∙ ap (knows_object c.args.fresh.now) id)))

pub returns : goal.returns
returns c = λ rows r was is.
    let known = c.args.known.now.git in
    let id : c.row.inside.blob ≡ (tree_row_of r).id = ap (λ (v : RowValue). v.blob) (c.row.view_is ∙ sym is.0) in
    let new : false ≡ knows_object known c.row.inside.blob = sym c.if-is_some.false ∙ c.is_some.ensures ∙ both-some _ _ c.content.result (object_at known c.row.inside.blob) c.content.ensures.content in
    let body : c.in_ok-content.content ≡ (tree_row_of r).content = c.in_ok-content.ensures r is in
    subst (λ (os : List Object). AreBrought known os (map tree_row_of rows ++ tree_row_of r ∷ []))
    (sym (c.in_ok-push.ensures.ok ∙ (λ i. c.args.fresh.now ++ record { id = id i; kind = blob; content = body i } ∷ [])))
    (brought-one known c.args.fresh.now (map tree_row_of rows) (tree_row_of r) was (sym (new ∙ ap (knows_object known) id)))
