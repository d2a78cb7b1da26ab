use Rattle.std.proofs.Common.{◌≡◌, ◌++◌, true, false, true≢false, List, [], Option, Some, None, refl, sym, ap, ◌∙◌}
use Rattle.std.specs.Prelude.{option_map, is_some, not}
use Rattle.text_model.specs.Id.{Id}
use Rattle.git_model.specs.Object.{Object, object_at}
use Rattle.git_model.specs.Tree.{File}
use Rattle.view_model.specs.View.{TreeRow}
use Rattle.view_model.specs.Held.{IsBlobHeld}
use Rattle.file_rule.proofs.RowLemmas.{object-behind}
use Rattle.pair_tests.proofs.drafts.lends_content.Goals as goal

none-of : {X Y : Type 0} (f : X → Y) (o : Option X) (y : Option Y) → option_map f o ≡ y → is_some o ≡ false → y ≡ None
none-of f None y e h = sym e
none-of f (Some x) y e h = absurd (true≢false h)

some-of : {X Y Z : Type 0} (f : X → Z) (g : Y → Z) (a : Option X) (b : Option Y) → option_map f a ≡ option_map g b → is_some a ≡ true → (y : Y) × (b ≡ Some y)
some-of f g None b e h = absurd (true≢false (sym h))
some-of f g (Some x) (Some y) e h = (y, refl)
some-of f g (Some x) None e h = absurd (true≢false (ap is_some e))

-- what stands in the second list alone is held over both
held : (xs ys : List Object) (id : Id) → object_at xs id ≡ None → (o : Object) × (object_at ys id ≡ Some o) → (t : TreeRow) × (t.id ≡ id) × IsBlobHeld (xs ++ ys) t
held xs ys id none at = (record { path = []; mode = File; id = id; content = (at.0).content }, refl, (at.0, object-behind xs ys id none ∙ at.1, refl))

pub content_text-requires : goal.content_text-requires
content_text-requires c =
    let git = c.args.known.now.git in
    let none = none-of _ c.get.result (object_at c.args.c.now.fresh c.args.id.now) c.get.ensures (sym c.is_some.ensures ∙ c.if-is_some.false) in
    let at = some-of _ _ c.shared_object.result (object_at git c.args.id.now) c.shared_object.ensures.content (c.is_none.ensures ∙ ap not c.if-is_none.false) in
    record { held = held c.args.c.now.fresh git c.args.id.now none at }
