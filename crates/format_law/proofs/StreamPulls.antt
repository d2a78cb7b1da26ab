-- A pull of a stream, with the targets of its tags and its limits, comes to one thing over a sound state.
use Rattle.std.proofs.Common.{◌≡◌, ◌⊎◌, ℕ, List, ◌++◌, Option, Some, None, inl, inr, refl, sym, ap, subst, ◌∙◌}
use Rattle.std.specs.Prelude.{Result, Ok, find}
use Rattle.text_model.specs.Text.{Bytes}
use Rattle.text_model.specs.Fault.{Refusal, refusal}
use Rattle.text_model.specs.Fault as fault
use Rattle.text_model.proofs.Options.{some_is, none_some}
use Rattle.hg_model.specs.Revision.{known_after_all}
use Rattle.git_model.specs.Object.{Object}
use Rattle.git_model.specs.Stream.{Placed, stream_reading}
use Rattle.view_model.specs.Dump.{revisions_in, hg_increment}
use Rattle.pair_model.specs.Block.{Block, id_of, changesets_in}
use Rattle.history_model.specs.Pull.{StreamBrings, PullGitMakes, place_of}
use Rattle.state_model.specs.Kept.{Kept}
use Rattle.saved_model.specs.Step.{known_of, OfStream, AcceptsStream, StreamIsTooLarge, Steps, Refuses, lacks_target, new_tags, with_blocks, first_large_block, first_large_tag, made_of, next_of}
use Rattle.pull_law.specs.Sound.{IsSoundState}
use Rattle.pull_law.proofs.Stream.{new-one, refusals, not-both}

one-read : (read : Result (List Placed) Refusal) (xs ys : List Placed) → read ≡ Ok xs → read ≡ Ok ys → xs ≡ ys
one-read read xs ys h k = cc

-- ---- what came and the new blocks: what they lack, or that they are too large

module _ (k : Kept) (came : List Placed) (new : List Block) where
  -- the first tag that lacks its target
  abbrev lacking : Option Placed
  lacking = find (lacks_target (k.blocks ++ new) k.tags came) came

  -- the first new tag that is over a limit
  abbrev large_tag : Option Object
  large_tag = first_large_tag (with_blocks k new) (new_tags k.tags came)

  abbrev Lacks : Refusal → Type 0
  Lacks why = (o : Placed) × (lacking ≡ Some o) × (why ≡ refusal fault.ObjectUnknown (o.object).id o.at)

  abbrev HasLargeBlock : Refusal → Type 0
  HasLargeBlock why =
      (lacking ≡ None) × (b : Block) × (at : ℕ) × (first_large_block k new ≡ Some b) × (place_of came (id_of b) ≡ Some at)
      × (why ≡ refusal fault.StateLimit (id_of b) at)

  abbrev HasLargeTag : Refusal → Type 0
  HasLargeTag why =
      (lacking ≡ None) × (first_large_block k new ≡ None) × (t : Object) × (at : ℕ) × (large_tag ≡ Some t) × (place_of came t.id ≡ Some at)
      × (why ≡ refusal fault.StateLimit t.id at)

  abbrev Cause : Refusal → Type 0
  Cause why = Lacks why ⊎ HasLargeBlock why ⊎ HasLargeTag why

  cause-one : (a b : Refusal) → Cause a → Cause b → a ≡ b
  cause-one a b (inl (o, first, is)) (inl (o', first', is')) =
      is ∙ ap (λ (p : Placed). refusal fault.ObjectUnknown (p.object).id p.at) (some_is (sym first ∙ first')) ∙ sym is'
  cause-one a b (inl (o, first, is)) (inr (inl y)) = absurd (none_some (sym y.0 ∙ first))
  cause-one a b (inl (o, first, is)) (inr (inr y)) = absurd (none_some (sym y.0 ∙ first))
  cause-one a b (inr (inl x)) (inl (o, first, is)) = absurd (none_some (sym x.0 ∙ first))
  cause-one a b (inr (inr x)) (inl (o, first, is)) = absurd (none_some (sym x.0 ∙ first))
  cause-one a b (inr (inl (none, t, at, first, place, is))) (inr (inl (none', t', at', first', place', is'))) =
      let block : t ≡ t' = some_is (sym first ∙ first') in
      let places : at ≡ at' = some_is (sym place ∙ ap (λ (x : Block). place_of came (id_of x)) block ∙ place') in
      is ∙ (λ i. refusal fault.StateLimit (id_of (block i)) (places i)) ∙ sym is'
  cause-one a b (inr (inl (none, t, at, first, place, is))) (inr (inr y)) = absurd (none_some (sym y.1 ∙ first))
  cause-one a b (inr (inr x)) (inr (inl (none, t, at, first, place, is))) = absurd (none_some (sym x.1 ∙ first))
  cause-one a b (inr (inr (none, small, t, at, first, place, is))) (inr (inr (none', small', t', at', first', place', is'))) =
      let tag : t ≡ t' = some_is (sym first ∙ first') in
      let places : at ≡ at' = some_is (sym place ∙ ap (λ (x : Object). place_of came x.id) tag ∙ place') in
      is ∙ (λ i. refusal fault.StateLimit ((tag i).id) (places i)) ∙ sym is'

  no-cause : (why : Refusal) → lacking ≡ None → first_large_block k new ≡ None → large_tag ≡ None → Cause why → ⊥
  no-cause why targets small small_tags (inl (o, first, is)) = none_some (sym targets ∙ first)
  no-cause why targets small small_tags (inr (inl (none, b, at, first, place, is))) = none_some (sym small ∙ first)
  no-cause why targets small small_tags (inr (inr (none, small', t, at, first, place, is))) = none_some (sym small_tags ∙ first)

-- ---- a pull

module _ (k : Kept) (sound : IsSoundState (known_of k)) (stream : Bytes) where
  -- the stream is read, and has these blocks
  record Brought : Type 0 where
    came : List Placed
    new : List Block
    reads : stream_reading (known_of k).objects stream ≡ Ok came
    brings : StreamBrings (known_of k) came new

  same-came : (x y : Brought) → x.came ≡ y.came
  same-came x y = one-read (stream_reading (known_of k).objects stream) x.came y.came x.reads y.reads

  same-new : (x y : Brought) → x.new ≡ y.new
  same-new x y = new-one (known_of k) sound stream x.came x.reads x.new y.new x.brings
      (subst (λ (l : List Placed). StreamBrings (known_of k) l y.new) (same-came y x) y.brings)

  makes : (x : Brought)
      → PullGitMakes (known_of k) stream (hg_increment (known_after_all (known_of k).revisions (revisions_in (changesets_in x.new))) (changesets_in k.blocks) (changesets_in x.new))
  makes x = record { came = x.came; reads = x.reads; new = x.new; brings = x.brings; is = refl }

  abbrev of-accepted : (new : List Block) (tags : List Object) → AcceptsStream k stream new tags → Brought
  of-accepted new tags x = record { came = x.came; new = new; reads = x.reads; brings = x.brings }

  abbrev of-large : (why : Refusal) → StreamIsTooLarge k stream why → Brought
  of-large why x = record { came = x.came; new = x.new; reads = x.reads; brings = x.brings }

  -- the cause is one of the other's members and blocks too
  cause-of : (x : Brought) (why : Refusal) (y : StreamIsTooLarge k stream why) → Cause k x.came x.new why
  cause-of x why y =
      let came : y.came ≡ x.came = same-came (of-large why y) x in
      let new : y.new ≡ x.new = same-new (of-large why y) x in
      subst (λ (l : List Block). Cause k x.came l why) new (subst (λ (l : List Placed). Cause k l y.new why) came y.cause)

  -- ---- what it comes to

  pub refusal-one : (a b : Refusal) → Refuses k (OfStream stream) a → Refuses k (OfStream stream) b → a ≡ b
  refusal-one a b (inl x) (inl y) = refusals (known_of k) stream a b sound x y
  refusal-one a b (inl x) (inr y) = absurd (not-both (known_of k) stream _ a sound (makes (of-large b y)) x)
  refusal-one a b (inr x) (inl y) = absurd (not-both (known_of k) stream _ b sound (makes (of-large a x)) y)
  refusal-one a b (inr x) (inr y) = cause-one k x.came x.new a b x.cause (cause-of (of-large a x) b y)

  pub step-one : (next other : Kept) (made written : Bytes) → Steps k (OfStream stream) next made → Steps k (OfStream stream) other written
      → (next ≡ other) × (made ≡ written)
  step-one next other made written (new, tags, x, is, output) (new', tags', y, is', output') =
      let same = same-new (of-accepted new tags x) (of-accepted new' tags' y) in
      let kept : tags ≡ tags' = x.tags_are ∙ ap (new_tags k.tags) (same-came (of-accepted new tags x) (of-accepted new' tags' y)) ∙ sym y.tags_are in
      (is ∙ (λ i. next_of k (same i) (kept i)) ∙ sym is', output ∙ ap (made_of k (OfStream stream)) same ∙ sym output')

  pub step-or_refused : (next : Kept) (made : Bytes) (why : Refusal) → Steps k (OfStream stream) next made → Refuses k (OfStream stream) why → ⊥
  step-or_refused next made why (new, tags, x, is, output) (inl y) = not-both (known_of k) stream _ why sound (makes (of-accepted new tags x)) y
  step-or_refused next made why (new, tags, x, is, output) (inr y) =
      no-cause k x.came new why x.targets x.small (ap (first_large_tag (with_blocks k new)) (sym x.tags_are) ∙ x.small_tags)
      (cause-of (of-accepted new tags x) why y)
