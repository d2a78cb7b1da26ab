use Rattle.std.proofs.Common.{◌≡◌, List, sym, ap, subst, ◌∙◌}
use Rattle.std.specs.Prelude.{slice_get}
use Rattle.text_model.specs.Id.{Id}
use Rattle.text_model.proofs.Options.{none_some}
use Rattle.git_model.specs.Commit.{Commit}
use Rattle.commit_rule.specs.Parts.{IsTreeOf}
use Rattle.pair_known.specs.declared.git_draft.GitDraft.{GitDraft}
use Rattle.plain_rule.specs.CommitHead.{first_partner}
use Rattle.plain_rule.proofs.PlainCommit.{no-first, first-stored, first-tree}
use Rattle.plain_rule.proofs.commit.first_tree.Goals as goal

pub returns-in_default-clause-tree : goal.returns-in_default-clause-tree
returns-in_default-clause-tree c = λ blocks v over.
    let ids : c.as_slice.result.now ≡ (v.value).parents =
    c.as_slice.ensures ∙ ap (λ (d : GitDraft). (d.commit).parents) c.c.view_is ∙ ap (λ (x : Commit). x.parents) (sym over.draft.value) in
    no-first c.args.known.now blocks c.args.c.now v over (sym (c.in_default.ensures.value ∙ ap (λ (l : List Id). slice_get l 0) ids))

pub returns-in-Some-commit-clause-tree : goal.returns-in-Some-commit-clause-tree
returns-in-Some-commit-clause-tree c = λ blocks v over.
    let ids : c.as_slice.result.now ≡ (v.value).parents =
    c.as_slice.ensures ∙ ap (λ (d : GitDraft). (d.commit).parents) c.c.view_is ∙ ap (λ (x : Commit). x.parents) (sym over.draft.value) in
    let at = sym (c.in-Some.ensures.value ∙ ap (λ (l : List Id). slice_get l 0) ids) in
    subst (IsTreeOf blocks (first_partner blocks v)) (sym (ap (λ (x : Commit). x.tree_id) c.parent.view_is))
    (first-tree c.args.known.now blocks c.args.c.now v over c.in-Some.first.now at c.in-Some-commit.parent.now c.in-Some-commit.ensures.commit)

pub returns-in-None-clause-tree : goal.returns-in-None-clause-tree
returns-in-None-clause-tree c = λ blocks v over.
    let ids : c.as_slice.result.now ≡ (v.value).parents =
    c.as_slice.ensures ∙ ap (λ (d : GitDraft). (d.commit).parents) c.c.view_is ∙ ap (λ (x : Commit). x.parents) (sym over.draft.value) in
    let at = sym (c.in-Some.ensures.value ∙ ap (λ (l : List Id). slice_get l 0) ids) in
    let stored = (first-stored c.args.known.now blocks c.args.c.now v over c.in-Some.first.now at).2 in
    absurd (none_some (sym c.in-None.ensures.commit ∙ stored.held))

pub returns-in_default-clause-known : goal.returns-in_default-clause-known
returns-in_default-clause-known c = λ first at.
    let ids = c.as_slice.ensures ∙ ap (λ (d : GitDraft). (d.commit).parents) c.c.view_is in
    absurd (none_some (c.in_default.ensures.value ∙ ap (λ (l : List Id). slice_get l 0) ids ∙ at))

pub returns-in-Some-commit-clause-known : goal.returns-in-Some-commit-clause-known
returns-in-Some-commit-clause-known c = λ first at. c.in-Some-commit.ensures.known

pub returns-in-None-clause-known : goal.returns-in-None-clause-known
returns-in-None-clause-known c = λ first at. c.in-None.ensures.known
