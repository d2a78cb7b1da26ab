-- A stream that is accepted is refused for nothing.
use Rattle.std.proofs.Common.{◌≡◌, List, ◌++◌, Some, Ok, Result, refl, sym, ap, subst, ◌∙◌, inl, inr}
use Rattle.std.specs.List.{find}
use Rattle.text_model.specs.Text.{Bytes}
use Rattle.text_model.specs.Fault.{Refusal}
use Rattle.text_model.proofs.Options.{none_some}
use Rattle.git_model.specs.Object.{Object}
use Rattle.git_model.specs.Stream.{Placed, stream_reading}
use Rattle.pair_model.specs.Block.{Block}
use Rattle.history_model.specs.Pull.{StreamBrings}
use Rattle.state_model.specs.Kept.{Kept}
use Rattle.saved_model.specs.Step.{known_of, OfStream, AcceptsStream, StreamIsTooLarge, Refuses, lacks_target, new_tags, with_blocks, first_large_block, first_large_tag}
use Rattle.pull_law.specs.Sound.{IsSoundState}
use Rattle.pull_law.proofs.Stream.{new-one, not-both}

one_read : (read : Result (List Placed) Refusal) (xs ys : List Placed) → read ≡ Ok xs → read ≡ Ok ys → xs ≡ ys
one_read read xs ys h k = cc

module _ (s : Kept) (sound : IsSoundState (known_of s)) (stream : Bytes) (new : List Block) (tags : List Object) (a : AcceptsStream s stream new tags) where
  no_limit : (why : Refusal) → ¬ (StreamIsTooLarge s stream why)
  no_limit why x = elim x.cause [ inl c ↦ no_target c.1 | inr c ↦ elim c [ inl d ↦ no_block d.3 | inr d ↦ no_tag d.4 ] ]
    where
      came_is : a.came ≡ x.came
      came_is = one_read (stream_reading (known_of s).objects stream) a.came x.came a.reads x.reads

      brings : StreamBrings (known_of s) a.came x.new
      brings = subst (λ (c : List Placed). StreamBrings (known_of s) c x.new) (sym came_is) x.brings

      new_is : new ≡ x.new
      new_is = new-one (known_of s) sound stream a.came a.reads new x.new a.brings brings

      tags_are : tags ≡ new_tags s.tags x.came
      tags_are = a.tags_are ∙ ap (new_tags s.tags) came_is

      no_target : {o : Placed} → find (lacks_target (s.blocks ++ x.new) s.tags x.came) x.came ≡ Some o → ⊥
      no_target e = none_some (sym a.targets ∙ (λ i. find (lacks_target (s.blocks ++ new_is i) s.tags (came_is i)) (came_is i)) ∙ e)

      no_block : {b : Block} → first_large_block s x.new ≡ Some b → ⊥
      no_block e = none_some (sym a.small ∙ ap (first_large_block s) new_is ∙ e)

      no_tag : {o : Object} → first_large_tag (with_blocks s x.new) (new_tags s.tags x.came) ≡ Some o → ⊥
      no_tag e = none_some (sym a.small_tags ∙ (λ i. first_large_tag (with_blocks s (new_is i)) (tags_are i)) ∙ e)

  pub not_refused : (why : Refusal) → ¬ (Refuses s (OfStream stream) why)
  not_refused why (inl x) = not-both (known_of s) stream _ why sound (record { came = a.came; reads = a.reads; new = new; brings = a.brings; is = refl }) x
  not_refused why (inr x) = no_limit why x
