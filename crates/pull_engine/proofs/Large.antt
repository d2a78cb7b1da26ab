-- With what a state first passes a limit, by what the code answers.
use Rattle.std.proofs.Common.{◌≡◌, ◌≤◌, ◌+◌, ℕ, List, [], length, take, drop, Option, Some, refl, sym, ap, ◌∙◌, subst, inr, arith}
use Rattle.std.specs.Prelude.{option_map, slice_get}
use Rattle.std.proofs.lemmas.List.{length-map, take-append-drop, take_all, drop_all}
use Rattle.text_model.specs.Id.{Id}
use Rattle.text_model.proofs.Elements.{get_unmap}
use Rattle.git_model.specs.Object.{Object}
use Rattle.git_store.proofs.FindLemmas.{get-map}
use Rattle.bridge_text.specs.declared.fault.Fault.TheVariants.{StateLimit}
use Rattle.hg_bundle.specs.declared.arrival.Arrival as listed
use Rattle.pair_model.specs.Block.{Block}
use Rattle.state_model.specs.Kept as saved
use Rattle.state_model.specs.Kept.{Kept, ids_of}
use Rattle.pair_state.specs.declared.blocks.Block as code
use Rattle.pair_state.specs.declared.state_parts.StateParts.{StateParts}
use Rattle.pair_state.specs.Blocks.{BlockValue, IsStateOf, value_of, block_value}
use Rattle.state_size.specs.declared.large.Large.TheVariants as size
use Rattle.state_size.specs.Large.{IsLarge, kept_up_to}
use Rattle.state_size.proofs.Places.{get-drop}
use Rattle.pull_engine.specs.declared.limit.TooLarge.{TooLarge}
use Rattle.pull_engine.specs.declared.limit.TooLarge.TheVariants as large
use Rattle.pull_engine.specs.Limit.{IsTooLarge, IsLargeBundle, refused_at}
use Rattle.pull_engine.specs.Places.{node_place}

-- the block of the code at a place
record CodeBlock (s : StateParts) (place : ℕ) (b : Block) : Type 0 where
  found : code.Block
  at : slice_get s.blocks place ≡ Some found
  is : value_of found ≡ block_value b

code-block : (s : StateParts) (blocks : List Block) → IsStateOf s blocks → (place : ℕ) (b : Block) → slice_get blocks place ≡ Some b → CodeBlock s place b
code-block s blocks state place b at =
    let x = get_unmap value_of s.blocks place (block_value b)
    (ap (λ (l : List BlockValue). slice_get l place) state.blocks_are ∙ get-map block_value blocks place ∙ ap (option_map block_value) at) in
    record { found = x.0; at = x.1; is = x.2 }

module _ (s : StateParts) (m : saved.State) (n first_tag : ℕ) where
  abbrev old : Kept
  old = kept_up_to n m.blocks (take first_tag m.tags)

  abbrev added : List Block
  added = drop n m.blocks

  abbrev new : List Object
  new = drop first_tag m.tags

  pub block-large : IsStateOf s m.blocks → (place : ℕ) → IsLarge old added new (Some (size.Block place)) → IsTooLarge old added new (option_map large.Block (slice_get s.blocks place))
  block-large state place (b, first, at, above) =
      let x = code-block s m.blocks state place b (ap (λ (l : List Block). slice_get l place) (sym (take-append-drop n m.blocks)) ∙ at) in
      subst (IsTooLarge old added new) (sym (ap (option_map large.Block) x.at))
      (b, first, ap (λ (v : BlockValue). v.node) x.is, ap (λ (v : BlockValue). v.commit) x.is)

  pub tag-large : s.tags ≡ ids_of m.tags → (place : ℕ) → IsLarge old added new (Some (size.Tag place)) → IsTooLarge old added new (option_map large.Tag (slice_get (drop first_tag s.tags) place))
  tag-large are place (none, t, first, at) =
      let x : slice_get (drop first_tag s.tags) place ≡ Some t.id =
      get-drop first_tag s.tags place ∙ ap (λ (l : List Id). slice_get l (first_tag + place)) are ∙ get-map (λ (o : Object). o.id) m.tags (first_tag + place)
      ∙ ap (option_map (λ (o : Object). o.id)) (sym (get-drop first_tag m.tags place) ∙ at) in
      subst (IsTooLarge old added new) (sym (ap (option_map large.Tag) x)) (none, t, first, refl)

-- no tag is new where the place of the first is behind all of them
pub no-new-tags : (s : StateParts) (m : saved.State) (n first_tag : ℕ) → s.tags ≡ ids_of m.tags → first_tag ≡ length s.tags
    → (found : Option TooLarge) → IsTooLarge (kept_up_to n m.blocks (take first_tag m.tags)) (drop n m.blocks) (drop first_tag m.tags) found
    → IsTooLarge (kept_up_to n m.blocks m.tags) (drop n m.blocks) [] found
no-new-tags s m n first_tag are is found h =
    let end : length m.tags ≤ first_tag = omega (arith, is, ap length are, length-map m.tags (λ (o : Object). o.id)) in
    subst (λ (kept : List Object). IsTooLarge (kept_up_to n m.blocks kept) (drop n m.blocks) [] found) (take_all first_tag m.tags end)
    (subst (λ (new : List Object). IsTooLarge (kept_up_to n m.blocks (take first_tag m.tags)) (drop n m.blocks) new found) (drop_all first_tag m.tags end) h)

-- ---- refusals

module _ (old : Kept) (added : List Block) (new : List Object) where
  pub large-bundle : (arrivals : List listed.Arrival) (found : code.Block) → IsTooLarge old added new (Some (large.Block found))
      → IsLargeBundle old added arrivals (refused_at StateLimit found.node (node_place arrivals found.node))
  large-bundle arrivals found (b, first, node, commit) = inr (b, first, ap (λ (n : Id). refused_at StateLimit n (node_place arrivals n)) node)
