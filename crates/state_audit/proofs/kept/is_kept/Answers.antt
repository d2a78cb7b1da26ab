use Rattle.std.proofs.Common.{◌≡◌, true≢false, None, refl, sym, subst, ◌∙◌}
use Rattle.git_model.specs.Unfold.{walk_fault}
use Rattle.git_view.proofs.One.{one-held}
use Rattle.view_model.specs.View.{CommitView}
use Rattle.state_audit.proofs.KeptFiles.{kept-files}
use Rattle.state_audit.proofs.SameCommits.{other-text, same-held, same-commit}
use Rattle.state_audit.proofs.kept.is_kept.Goals as goal

pub draft_of_commit-requires : goal.draft_of_commit-requires
draft_of_commit-requires c = record { held = c.requires.held }

pub returns-then-not-has_text : goal.returns-then-not-has_text
returns-then-not-has_text c = λ e v held made. (
  (λ t. absurd (true≢false (sym t))),
  (λ s. absurd (other-text c.args.known.now.git c.args.id.now e v held c.args.partner.now made c.args.text.now c.requires.text (sym (c.has_text.ensures.same e held) ∙ c.if-not-has_text.true) s)),
)

pub returns-then-are_stored : goal.returns-then-are_stored
returns-then-are_stored c = λ e v held made.
    let walk : walk_fault c.args.known.now.git (e.value).tree_id ≡ None =
    subst (λ (x : CommitView). walk_fault c.args.known.now.git (x.value).tree_id ≡ None) (one-held c.args.known.now.git c.args.id.now c.requires.held.0 e c.requires.held.1 held) c.requires.held.2 in
    let stored = sym c.are_stored.ensures ∙ c.if-are_stored.true in (
      (λ t. same-held c.args.known.now.git c.args.id.now e v held c.args.partner.now made c.args.text.now c.requires.text (sym (c.has_text.ensures.same e held) ∙ c.if-not-has_text.false)
          (λ same. kept-files c.args.known.now.git c.has_text.ensures.known c.args.partner.now v made stored c.args.id.now e held walk same)),
      (λ s. refl),
    )

pub returns : goal.returns
returns c = λ e v held made.
    same-commit c.args.known.now.git c.args.id.now e v held c.args.partner.now made c.args.text.now c.requires.text c.in_ok-kept.kept (c.in_ok-kept.ensures.draft e held) c.are_same_files.result c.are_same_files.ensures
    (sym (c.has_text.ensures.same e held) ∙ c.if-not-has_text.false)
