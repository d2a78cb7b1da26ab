-- Over a saved state the outcome of a pull is one.
use Rattle.std.proofs.Common.{◌≡◌, Some, None, ap, sym, ◌∙◌}
use Rattle.text_model.specs.Text.{Bytes}
use Rattle.state_model.specs.Kept.{State, Kept, kept_of, with_kept}
use Rattle.state_model.specs.Saved.{IsState}
use Rattle.saved_model.specs.Step.{known_of}
use Rattle.command_model.specs.Command.{PullHg, PullGit, Outcome, Written, Refused, Mismatched, ComesTo}
use Rattle.pull_law.specs.Sound.{IsSoundState}
use Rattle.history_law.proofs.States.{saved-sound}
use Rattle.format_law.proofs.BundlePulls as bundle
use Rattle.format_law.proofs.StreamPulls as stream

-- what is known where the state is saved is sound
known-sound : (s : State) → IsState s → IsSoundState (known_of (kept_of s))
known-sound s is = (saved-sound s is).state

-- the next state, of the next history
saved-one : (s next other : State) (k k' : Kept) (output output' : Bytes) → (k ≡ k') × (output ≡ output') → next ≡ with_kept s k → other ≡ with_kept s k'
    → Written output (Some next) ≡ Written output' (Some other)
saved-one s next other k k' output output' same is is' =
    let saved : next ≡ other = is ∙ ap (with_kept s) same.0 ∙ sym is' in
    λ i. Written (same.1 i) (Some (saved i))

pub bundles : (s : State) (bytes : Bytes) (a b : Outcome) → IsState s → ComesTo PullHg s bytes a → ComesTo PullHg s bytes b → a ≡ b
bundles s bytes (Written output (Some next)) (Written output' (Some other)) is (k, x, saves) (k', y, saves') =
    saved-one s next other k k' output output' (bundle.step-one (kept_of s) (known-sound s is) bytes k k' output output' x y) saves saves'
bundles s bytes (Written output (Some next)) (Refused why) is (k, x, saves) y =
    absurd (bundle.step-or_refused (kept_of s) (known-sound s is) bytes k output why x y)
bundles s bytes (Refused why) (Written output (Some next)) is x (k, y, saves) =
    absurd (bundle.step-or_refused (kept_of s) (known-sound s is) bytes k output why y x)
bundles s bytes (Refused why) (Refused why') is x y = ap Refused (bundle.refusal-one (kept_of s) (known-sound s is) bytes why why' x y)
bundles s bytes (Written output None) b is x y = absurd x
bundles s bytes (Mismatched kept right) b is x y = absurd x
bundles s bytes (Written output (Some next)) (Written output' None) is x y = absurd y
bundles s bytes (Written output (Some next)) (Mismatched kept right) is x y = absurd y
bundles s bytes (Refused why) (Written output None) is x y = absurd y
bundles s bytes (Refused why) (Mismatched kept right) is x y = absurd y

pub streams : (s : State) (bytes : Bytes) (a b : Outcome) → IsState s → ComesTo PullGit s bytes a → ComesTo PullGit s bytes b → a ≡ b
streams s bytes (Written output (Some next)) (Written output' (Some other)) is (k, x, saves) (k', y, saves') =
    saved-one s next other k k' output output' (stream.step-one (kept_of s) (known-sound s is) bytes k k' output output' x y) saves saves'
streams s bytes (Written output (Some next)) (Refused why) is (k, x, saves) y =
    absurd (stream.step-or_refused (kept_of s) (known-sound s is) bytes k output why x y)
streams s bytes (Refused why) (Written output (Some next)) is x (k, y, saves) =
    absurd (stream.step-or_refused (kept_of s) (known-sound s is) bytes k output why y x)
streams s bytes (Refused why) (Refused why') is x y = ap Refused (stream.refusal-one (kept_of s) (known-sound s is) bytes why why' x y)
streams s bytes (Written output None) b is x y = absurd x
streams s bytes (Mismatched kept right) b is x y = absurd x
streams s bytes (Written output (Some next)) (Written output' None) is x y = absurd y
streams s bytes (Written output (Some next)) (Mismatched kept right) is x y = absurd y
streams s bytes (Refused why) (Written output None) is x y = absurd y
streams s bytes (Refused why) (Mismatched kept right) is x y = absurd y
