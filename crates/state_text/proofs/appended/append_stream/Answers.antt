use Rattle.std.proofs.Common.{◌≡◌, ◌++◌, ℕ, [], ◌∷◌, List, length, sym, subst, arith, ◌∙◌, ap}
use Rattle.std.specs.Prelude.{codes}
use Rattle.text_model.specs.Text.{Bytes}
use Rattle.text_model.specs.Id.{Id}
use Rattle.view_model.specs.Dump.{git_increment}
use Rattle.git_dump.specs.Commits.{AreWalkableCommits}
use Rattle.state_part.specs.Form.{count_line}
use Rattle.state_text.proofs.SizedText.{regroup}
use Rattle.state_text.proofs.appended.append_stream.Goals as goal

pub returns-clause-ok : goal.returns-clause-ok
returns-clause-ok c = λ cs are.
    let text = git_increment [] cs in
    let of : c.in_ok-dump.dump ≡ text = c.in_ok-dump.ensures cs (subst (λ (ids : List Id). AreWalkableCommits c.args.store.now ids cs) (sym c.as_slice.ensures) are) in
    let appended = c.in_ok-append.ensures.ok ∙ ap (λ (l : Bytes). c.put_count.new.out ++ l) of in
    let whole : c.in_ok-size.size ≡ length text = omega (arith, c.len.ensures, ap (λ (l : Bytes). length l) of, c.in_ok-size.ensures.0, c.in_ok-size.ensures.1) in
    c.in_ok-push.ensures.ok
    ∙ ap (λ (l : Bytes). l ++ 10 ∷ []) (appended ∙ ap (λ (l : Bytes). l ++ text) (c.in_ok-put_count.ensures.ok ∙ ap (λ (n : ℕ). c.args.out.now ++ count_line (codes "git") n) whole))
    ∙ regroup c.args.out.now (count_line (codes "git") (length text)) text (10 ∷ [])

pub returns-clause-size : goal.returns-clause-size
returns-clause-size c = λ cs are.
    let of = c.in_ok-dump.ensures cs (subst (λ (ids : List Id). AreWalkableCommits c.args.store.now ids cs) (sym c.as_slice.ensures) are) in
    omega (arith, c.len.ensures, ap (λ (l : Bytes). length l) of, c.in_ok-size.ensures.0, c.in_ok-size.ensures.1)
