use Rattle.std.proofs.Common.{◌≡◌, ◌++◌, ℕ, [], ◌∷◌, List, length, sym, subst, arith, ◌∙◌, ap}
use Rattle.std.proofs.Transfers.{starts_with_trans}
use Rattle.std.specs.Prelude.{codes}
use Rattle.text_model.specs.Text.{Bytes}
use Rattle.text_model.specs.Id.{Id}
use Rattle.view_model.specs.Held.{AreChangesetsHeld}
use Rattle.view_model.specs.Dump.{hg_increment}
use Rattle.state_part.specs.Form.{count_line}
use Rattle.state_text.proofs.SizedText.{regroup}
use Rattle.state_text.proofs.appended.append_bundle.Goals as goal

pub returns-clause-ok : goal.returns-clause-ok
returns-clause-ok c = λ hs are.
    let text = hg_increment c.args.store.now [] hs in
    let of = c.in_ok-dump.ensures.text hs (subst (λ (ids : List Id). AreChangesetsHeld c.args.store.now ids hs) (sym c.as_slice.ensures) are) in
    let appended = c.in_ok-append.ensures.ok text of in
    let whole : c.in_ok-size.size ≡ length text = omega (arith, c.len.ensures text of, c.in_ok-size.ensures.0, c.in_ok-size.ensures.1) in
    c.in_ok-push.ensures.ok
    ∙ ap (λ (l : Bytes). l ++ 10 ∷ []) (appended ∙ ap (λ (l : Bytes). l ++ text) (c.in_ok-put_count.ensures.ok ∙ ap (λ (n : ℕ). c.args.out.now ++ count_line (codes "hg") n) whole))
    ∙ regroup c.args.out.now (count_line (codes "hg") (length text)) text (10 ∷ [])

pub returns-clause-size : goal.returns-clause-size
returns-clause-size c = λ hs are.
    let text = hg_increment c.args.store.now [] hs in
    let of = c.in_ok-dump.ensures.text hs (subst (λ (ids : List Id). AreChangesetsHeld c.args.store.now ids hs) (sym c.as_slice.ensures) are) in
    omega (arith, c.len.ensures text of, c.in_ok-size.ensures.0, c.in_ok-size.ensures.1)

pub returns-clause-front : goal.returns-clause-front
returns-clause-front c =
    starts_with_trans _ _ _ c.push.ensures.front (starts_with_trans _ _ _ c.append.ensures.front c.put_count.ensures.front)
