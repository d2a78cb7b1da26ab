-- A pull of a bundle, with its limits, comes to one thing over a sound state.
use Rattle.std.proofs.Common.{◌≡◌, List, inl, inr, refl, sym, ap, subst, ◌∙◌}
use Rattle.std.specs.Prelude.{Ok}
use Rattle.text_model.specs.Text.{Bytes}
use Rattle.text_model.specs.Fault.{Refusal, refusal}
use Rattle.text_model.specs.Fault as fault
use Rattle.text_model.proofs.Options.{some_is, none_some}
use Rattle.hg_model.specs.Reading.{Arrival, bundle_reading}
use Rattle.view_model.specs.Dump.{git_increment}
use Rattle.pair_model.specs.Block.{Block, node_of, commits_in}
use Rattle.history_model.specs.Pull.{BundleBrings, PullHgMakes}
use Rattle.state_model.specs.Kept.{Kept}
use Rattle.saved_model.specs.Step.{known_of, OfBundle, AcceptsBundle, BundleIsTooLarge, Steps, Refuses, first_large_block, place_of_node, made_of, next_of}
use Rattle.pull_law.specs.Sound.{IsSoundState}
use Rattle.pull_law.proofs.Bundle.{new-one, one_read, refusals, not-both}

module _ (k : Kept) (sound : IsSoundState (known_of k)) (bundle : Bytes) where
  -- the bundle is read, and has these blocks
  record Brought : Type 0 where
    arrivals : List Arrival
    new : List Block
    reads : bundle_reading (known_of k).revisions bundle ≡ Ok arrivals
    brings : BundleBrings (known_of k) arrivals new

  same-arrivals : (x y : Brought) → x.arrivals ≡ y.arrivals
  same-arrivals x y = one_read x.arrivals y.arrivals (bundle_reading (known_of k).revisions bundle) x.reads y.reads

  same-new : (x y : Brought) → x.new ≡ y.new
  same-new x y = new-one (known_of k) sound bundle x.arrivals x.reads x.new y.new x.brings
      (subst (λ (l : List Arrival). BundleBrings (known_of k) l y.new) (same-arrivals y x) y.brings)

  makes : (x : Brought) → PullHgMakes (known_of k) bundle (git_increment (commits_in k.blocks) (commits_in x.new))
  makes x = record { arrivals = x.arrivals; reads = x.reads; new = x.new; brings = x.brings; is = refl }

  abbrev of-accepted : (new : List Block) → AcceptsBundle k bundle new → Brought
  of-accepted new x = record { arrivals = x.arrivals; new = new; reads = x.reads; brings = x.brings }

  abbrev of-large : (why : Refusal) → BundleIsTooLarge k bundle why → Brought
  of-large why x = record { arrivals = x.arrivals; new = x.new; reads = x.reads; brings = x.brings }

  large-one : (a b : Refusal) → BundleIsTooLarge k bundle a → BundleIsTooLarge k bundle b → a ≡ b
  large-one a b x y =
      let new = same-new (of-large a x) (of-large b y) in
      let arrivals = same-arrivals (of-large a x) (of-large b y) in
      let block : x.block ≡ y.block = some_is (sym x.first ∙ ap (first_large_block k) new ∙ y.first) in
      let place : x.at ≡ y.at = some_is (sym x.place ∙ (λ i. place_of_node (arrivals i) (node_of (block i))) ∙ y.place) in
      x.is ∙ (λ i. refusal fault.StateLimit (node_of (block i)) (place i)) ∙ sym y.is

  -- ---- what a pull comes to

  pub refusal-one : (a b : Refusal) → Refuses k (OfBundle bundle) a → Refuses k (OfBundle bundle) b → a ≡ b
  refusal-one a b (inl x) (inl y) = refusals (known_of k) bundle a b sound x y
  refusal-one a b (inl x) (inr y) = absurd (not-both (known_of k) bundle _ a sound (makes (of-large b y)) x)
  refusal-one a b (inr x) (inl y) = absurd (not-both (known_of k) bundle _ b sound (makes (of-large a x)) y)
  refusal-one a b (inr x) (inr y) = large-one a b x y

  pub step-one : (next other : Kept) (made written : Bytes) → Steps k (OfBundle bundle) next made → Steps k (OfBundle bundle) other written
      → (next ≡ other) × (made ≡ written)
  step-one next other made written (new, tags, x, is, output) (new', tags', y, is', output') =
      let same = same-new (of-accepted new x.0) (of-accepted new' y.0) in
      let none : tags ≡ tags' = x.1 ∙ sym y.1 in
      (is ∙ (λ i. next_of k (same i) (none i)) ∙ sym is', output ∙ ap (made_of k (OfBundle bundle)) same ∙ sym output')

  pub step-or_refused : (next : Kept) (made : Bytes) (why : Refusal) → Steps k (OfBundle bundle) next made → Refuses k (OfBundle bundle) why → ⊥
  step-or_refused next made why (new, tags, x, is, output) (inl y) = not-both (known_of k) bundle _ why sound (makes (of-accepted new x.0)) y
  step-or_refused next made why (new, tags, x, is, output) (inr y) =
      none_some (sym x.0.small ∙ ap (first_large_block k) (same-new (of-accepted new x.0) (of-large why y)) ∙ y.first)
