use Rattle.std.proofs.Common.{◌≡◌, List, sym, ap, ◌∙◌}
use Rattle.std.specs.Prelude.{slice_get}
use Rattle.std.proofs.lemmas.Result.{IfOk-weaker}
use Rattle.text_model.specs.Id.{Id}
use Rattle.text_model.proofs.Options.{none_some}
use Rattle.git_model.specs.Commit.{Commit}
use Rattle.git_model.specs.Residue.{ResidueItem, residue_of}
use Rattle.git_model.specs.Unfold.{tree_rows}
use Rattle.view_model.specs.View.{CommitView}
use Rattle.pair_model.specs.Block.{Block}
use Rattle.pair_known.specs.Over.{IsCommitOver}
use Rattle.pair_known.specs.declared.git_draft.GitDraft.{GitDraft}
use Rattle.partner_model.specs.Mark.{first_residue}
use Rattle.changeset_mark.proofs.FirstParent.{first-stored, residue-is}
use Rattle.changeset_mark.proofs.residue.first_residue.Goals as goal

pub returns-in-Some-commit : goal.returns-in-Some-commit
returns-in-Some-commit c =
    let known = c.args.known.now in
    IfOk-weaker c.residue_at.result (λ (r : List ResidueItem). r ≡ residue_of (tree_rows known.git c.parent.inside.tree))
    (λ (r : List ResidueItem). (blocks : List Block) (v : CommitView) → IsCommitOver known blocks c.args.c.now v → r ≡ first_residue blocks (v.value).parents)
    (λ r is blocks v over.
    let ids : c.as_slice.result.now ≡ (v.value).parents =
    c.as_slice.ensures ∙ ap (λ (d : GitDraft). (d.commit).parents) c.c.view_is ∙ ap (λ (x : Commit). x.parents) (sym over.draft.value) in
    let at = sym (c.in-Some.ensures.value ∙ ap (λ (l : List Id). slice_get l 0) ids) in
    is ∙ ap (λ (x : Commit). residue_of (tree_rows known.git x.tree_id)) c.parent.view_is
    ∙ residue-is known blocks c.args.c.now v over c.in-Some.first.now at c.in-Some-commit.ensures.known c.in-Some-commit.parent.now c.in-Some-commit.ensures.commit)
    c.residue_at.ensures

pub returns-in-None : goal.returns-in-None
returns-in-None c = λ blocks v over.
    let ids : c.as_slice.result.now ≡ (v.value).parents =
    c.as_slice.ensures ∙ ap (λ (d : GitDraft). (d.commit).parents) c.c.view_is ∙ ap (λ (x : Commit). x.parents) (sym over.draft.value) in
    let at = sym (c.in-Some.ensures.value ∙ ap (λ (l : List Id). slice_get l 0) ids) in
    let stored = (first-stored c.args.known.now blocks c.args.c.now v over c.in-Some.first.now at).1 in
    absurd (none_some (sym c.in-None.ensures.commit ∙ stored.held))
