use Rattle.std.proofs.Common.{◌≡◌, ◌<◌, ℕ, Bool, true, false, true≢false, not, ◌&&◌, ◌||◌, List, length, get_or, Some, refl, sym, ap, ◌∙◌, inl, inr, arith}
use Rattle.std.specs.Prelude.{option_map, slice_get}
use Rattle.std.proofs.lemmas.Bool.{cases_lt}
use Rattle.std.proofs.lemmas.List.{length-map}
use Rattle.std.proofs.lemmas.Option.{slice_get-get_or, slice_get_within}
use Rattle.text_model.specs.Id.{Id}
use Rattle.text_model.proofs.Options.{some_is}
use Rattle.git_model.specs.Object.{Object}
use Rattle.git_model.specs.Order.{Ancestry, has, is_waiting}
use Rattle.git_store.specs.Ancestry.{ancestry_at, ancestries}
use Rattle.git_store.specs.Stage.{is_known}
use Rattle.git_store.proofs.FindLemmas.{get-map, find-first, find-none}
use Rattle.git_store.proofs.order.came.Came.first_waiting.Goals as goal

row : (known : List Object) (ids : List Id) (i : ℕ) (id : Id) → i < length ids → id ≡ get_or ids i id → slice_get (ancestries known ids) i ≡ Some (ancestry_at known id)
row known ids i id below is =
    get-map (ancestry_at known) ids i ∙ ap (option_map (ancestry_at known)) (slice_get-get_or ids i id below ∙ ap Some (sym is))

waits : (saved placed : List Id) (id : Id) → is_known saved placed id ≡ false → (not (has saved id) && not (has placed id)) ≡ true
waits saved placed id unknown = by (has saved id) (has placed id) unknown
  where
    by : (s p : Bool) → (s || p) ≡ false → (not s && not p) ≡ true
    by true p h = absurd (true≢false h)
    by false true h = absurd (true≢false h)
    by false false h = refl

waits-not : (saved placed : List Id) (id : Id) → is_known saved placed id ≡ true → (not (has saved id) && not (has placed id)) ≡ true → ⊥
waits-not saved placed id known h = by (has saved id) (has placed id) known h
  where
    by : (s p : Bool) → (s || p) ≡ true → (not s && not p) ≡ true → ⊥
    by true p h k = true≢false (sym k)
    by false true h k = true≢false (sym k)
    by false false h k = true≢false (sym h)

pub returns-then-not-is_known : goal.returns-then-not-is_known
returns-then-not-is_known c =
    let known = c.args.self.now.store.now in
    let ids = c.args.self.now.ids.now in
    let saved = c.args.self.now.saved.now in
    let id = c.id-item.result in
    sym (ap (option_map (λ (a : Ancestry). a.id))
    (find-first (is_waiting saved c.args.placed.now) (ancestries known ids) c.loop-id.id-index (ancestry_at known id)
    (row known ids c.loop-id.id-index id (omega arith) c.id-item.is) (waits saved c.args.placed.now id (sym c.is_known.ensures ∙ c.if-not-is_known.true))
    (λ j a lt at passes. c.loop-id.invariant j a lt at passes)))

pub loop-id-preserved : goal.loop-id-preserved
loop-id-preserved c i a lt at passes =
    let known = c.args.self.now.store.now in
    let ids = c.args.self.now.ids.now in
    let saved = c.args.self.now.saved.now in
    let id = c.id-item.result in
    elim (cases_lt i c.loop-id.id-index) [
      | inl below ↦ c.loop-id.invariant i a below at passes
      | inr above ↦
          let here : i ≡ c.loop-id.id-index = omega (arith, lt, above) in
          let same : a ≡ ancestry_at known id = some_is (sym at ∙ ap (slice_get (ancestries known ids)) here ∙ row known ids c.loop-id.id-index id (omega arith) c.id-item.is) in
          waits-not saved c.args.placed.now id (sym c.is_known.ensures ∙ c.if-not-is_known.false) (ap (is_waiting saved c.args.placed.now) (sym same) ∙ passes)
    ]

pub returns : goal.returns
returns c =
    let known = c.args.self.now.store.now in
    let ids = c.args.self.now.ids.now in
    sym (ap (option_map (λ (a : Ancestry). a.id))
    (find-none (is_waiting c.args.self.now.saved.now c.args.placed.now) (ancestries known ids)
    (λ i a at passes. c.loop-id.invariant i a
    (let below : i < length (ancestries known ids) = slice_get_within (ancestries known ids) i a at in omega (arith, below, length-map ids (ancestry_at known))) at passes)))
