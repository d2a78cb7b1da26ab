use Rattle.std.proofs.Common.{◌≡◌, Bool, true, false, not, if◌then◌else◌, List, [], ◌∷◌, ◌++◌, Some, sym, ap, ◌∙◌}
use Rattle.std.proofs.lemmas.Option.{slice_get-get_or}
use Rattle.text_model.specs.Id.{Id, has_id}
use Rattle.text_model.proofs.Elements.{take_push}
use Rattle.state_text.proofs.Distinct.{id-free}
use Rattle.state_text.proofs.nameable.id_set.Goals as goal

pub loop-id-preserved : goal.loop-id-preserved
loop-id-preserved c = λ distinct.
    let ids = c.args.ids.now in
    let i = c.loop-id.id-index in
    let id = c.id-item.result in
    let so-far = c.loop-id.invariant distinct in
    let at = slice_get-get_or ids i id c.loop-id-test.true ∙ ap Some (sym c.id-item.is) in
    let free : has_id c.loop-id.set id ≡ false = ap (λ (l : List Id). has_id l id) so-far ∙ id-free ids i id distinct at in
    let new : c.in_ok-insert.field-0 ≡ true = c.in_ok-insert.ensures.new ∙ ap not free in
    c.in_ok-insert.ensures.ok
    ∙ ap (λ (t : Bool). if t then c.loop-id.set ++ id ∷ [] else c.loop-id.set) new
    ∙ ap (λ (l : List Id). l ++ id ∷ []) so-far
    ∙ sym (take_push ids i id at)
