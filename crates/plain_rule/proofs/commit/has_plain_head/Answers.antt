use Rattle.std.proofs.Common.{◌≡◌, ◌≤◌, ◌==◌, ℕ, not, ◌∷◌, [], IsTrue, ◌↔◌, sym, ap, subst, ◌∙◌}
use Rattle.std.specs.Prelude.{bytes_eq}
use Rattle.std.specs.List.{ends_with}
use Rattle.std.proofs.lemmas.Result.{IfOk-weaker}
use Rattle.text_model.specs.Text.{Bytes, lf}
use Rattle.git_model.specs.Commit.{Commit}
use Rattle.plain_rule.specs.CommitHead.{line_again, IsPlainHead}
use Rattle.plain_rule.proofs.PlainCommit.{head-by-tests}
use Rattle.plain_rule.proofs.commit.has_plain_head.Goals as goal

pub returns : goal.returns
returns c =
    let line : Bytes = c.as_slice-author.result.now in
    let few = subst (λ (n : ℕ). n ≤ 2) c.len.ensures c.if-len-gt2.false in
    IfOk-weaker c.comes_back.result (λ back. IsTrue back ↔ (line_again line ≡ line)) (λ plain. IsTrue plain ↔ IsPlainHead c.args.commit.now)
    (λ plain h. subst (λ (x : Commit). IsTrue plain ↔ IsPlainHead x) c.commit.view_is
    (head-by-tests _ line plain few (sym c.is_empty.ensures ∙ c.if-not-is_empty.false)
    (ap (λ (x : Bytes). not (bytes_eq x line)) (sym c.as_slice.ensures) ∙ sym c.ne.ensures ∙ c.if-ne.false)
    (ap (λ (x : Bytes). ends_with ◌==◌ x (lf ∷ [])) (sym c.as_slice-2.ensures) ∙ sym c.ends_with.ensures.value ∙ c.if-not-ends_with.false)
    c.as_slice-author.ensures h))
    c.comes_back.ensures
