use Rattle.std.proofs.Common.{true≢false, refl, sym, ap, subst, ◌∙◌}
use Rattle.std.specs.Option.{option_copied}
use Rattle.text_model.specs.Text.{Bytes}
use Rattle.hg_model.specs.FileText.{file_text}
use Rattle.view_model.specs.View.{IsRevision}
use Rattle.commit_unmark.specs.Named.{revision_with}
use Rattle.commit_unmark.proofs.revision.row_with_revision.Goals as goal

pub returns-then-not-is_revision-clause-found : goal.returns-then-not-is_revision-clause-found
returns-then-not-is_revision-clause-found c = λ t is right.
    let body = c.as_slice.ensures ∙ c.content_text-body.ensures t (ap (λ x. x.id) is.of_file ∙ sym c.blob.ensures) is.content in
    true≢false (sym (c.is_revision.ensures.1 (subst (λ (b : Bytes). IsRevision (revision_with c.args.parents (option_copied c.args.meta) b)) (sym body) right)) ∙ c.if-not-is_revision.true)

pub returns-clause-found : goal.returns-clause-found
returns-clause-found c = λ t is.
    let body = c.content_text-body.ensures t (ap (λ x. x.id) is.of_file ∙ sym c.blob.ensures) is.content in
    let right : IsRevision (revision_with c.args.parents (option_copied c.args.meta) t.content) =
    subst (λ (b : Bytes). IsRevision (revision_with c.args.parents (option_copied c.args.meta) b)) (c.as_slice.ensures ∙ body) (c.is_revision.ensures.0 c.if-not-is_revision.false) in
    let text = c.in_ok-text.ensures ∙ ap (file_text (option_copied c.args.meta)) body in (
      right,
      c.in_ok-row.ensures.ok (revision_with c.args.parents (option_copied c.args.meta) t.content) (record {
        parents = (refl, refl);
        text_is = record { spells = (right.2, text); order = sym right.3 };
        blob_is = sym (ap (λ x. x.id) is.of_file) ∙ is.blob;
      }),
    )
