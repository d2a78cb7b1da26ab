use Rattle.std.proofs.Common.{◌≡◌, List, sym, ap, subst, IsTrue, ◌∷◌, [], ◌++◌, ◌∙◌}
use Rattle.text_model.specs.Text.{IsBytes}
use Rattle.hg_model.specs.Changeset.{Extra, AreExtras, key_rises, last_key}
use Rattle.hg_model.proofs.ExtrasLemmas.{AreExtras-push}
use Rattle.hg_changeset.proofs.extras.Extras.push.Goals as goal

pub invariant_of-self-2 : goal.invariant_of-self-2
invariant_of-self-2 c =
    let old = c.self.inside.items.items in
    let item = c.args.item in
    let kept : Extra = record { key = c.fitted.result; value = c.fitted-2.result } in
    let same : kept ≡ item = (λ i. record { key = c.fitted.ensures.same i; value = c.fitted-2.ensures.same i }) ∙ c.item.view_is in
    let key = subst (λ (e : Extra). IsBytes e.key) same c.fitted.ensures.bytes in
    let value = subst (λ (e : Extra). IsBytes e.value) same c.fitted-2.ensures.bytes in
    let rises = subst (λ (es : List Extra). IsTrue (key_rises (last_key es) item.key)) (sym c.self.view_is) c.requires.rises in
    subst AreExtras (sym (c.in_ok-push.ensures.items ∙ ap (λ (e : Extra). old ++ e ∷ []) same)) (AreExtras-push old item c.self.invariant (c.requires.some, c.requires.plain, key, value) rises)
