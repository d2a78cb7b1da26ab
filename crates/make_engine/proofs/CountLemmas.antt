-- What both pulls come to, and why nothing is counted.
use Rattle.std.proofs.Common.{◌≡◌, ◌≤◌, ℕ, ◌++◌, false, inl, inr, refl, subst, arith}
use Rattle.text_model.specs.Text.{Bytes}
use Rattle.git_model.specs.Stream.{stream_text}
use Rattle.pair_model.specs.Block.{commits_in}
use Rattle.state_model.specs.Kept.{State, kept_of, with_kept, empty_state, git_dump}
use Rattle.saved_model.specs.Step.{OfBundle, OfStream, Steps}
use Rattle.make_model.specs.Dump.{most_changesets, made_collides, made_bundle}
use Rattle.command_model.specs.Made.{made_lines, RefusesMake}
use Rattle.pair_state.specs.declared.state_parts.StateParts.{StateParts}
use Rattle.state_text.specs.Stands.{Stands}
use Rattle.make_history.specs.declared.fault.MakeFault.{MakeFault}
use Rattle.make_history.specs.declared.fault.MakeFault.TheVariants.{CountLimit, Collision, Memory}
use Rattle.make_history.specs.Made.{IsMakeFault}
use Rattle.bridge_text.specs.Refusals.{refusal_value}
use Rattle.make_engine.specs.declared.fault.CountsFault.{CountsFault}
use Rattle.make_engine.specs.declared.fault.CountsFault.TheVariants as counts
use Rattle.make_engine.specs.Faults.{make_fault, IsRefusedFor}
use Rattle.make_engine.specs.Taken.{IsTaken, RefusesAlone, IsStreamOfMade, CountsSteps}

module _ (n seed : ℕ) where
  pub not-made : (fault : MakeFault) → IsMakeFault n seed fault → IsRefusedFor (RefusesMake n seed) (make_fault fault)
  not-made CountLimit h = inl (h, refl)
  not-made Collision h = inr (inl (h.0, h.1, refl))
  not-made Memory h = tt

  pub bundle-refused : n ≤ most_changesets → made_collides n seed ≡ false → (fault : CountsFault) → IsRefusedFor (RefusesAlone (OfBundle (made_bundle n seed))) fault → IsRefusedFor (RefusesMake n seed) fault
  bundle-refused few apart (counts.Refused why) h = inr (inr (few, apart, inl h))
  bundle-refused few apart counts.Memory h = tt

  pub stream-refused : (before now : ℕ) (stream : Bytes) → IsStreamOfMade n seed before now stream → (fault : CountsFault) → IsRefusedFor (RefusesAlone (OfStream stream)) fault → IsRefusedFor (RefusesMake n seed) fault
  stream-refused before now stream made (counts.Refused why) h =
      inr (inr (made.few, made.apart, inr (made.first, made.written, made.takes, subst (λ (s : Bytes). RefusesAlone (OfStream s) (refusal_value why)) made.is h)))
  stream-refused before now stream made counts.Memory h = tt

  -- the stream of the state into which the bundle was taken
  pub made-stream : n ≤ most_changesets → made_collides n seed ≡ false → (bundle stream : Bytes) (before now : ℕ) (s : StateParts) → bundle ≡ made_bundle n seed → (taken : IsTaken (OfBundle bundle) before now s)
      → ((m : State) → Stands s m → stream ≡ git_dump (commits_in m.blocks) ++ stream_text m.tags) → IsStreamOfMade n seed before now stream
  made-stream few apart bundle stream before now s is taken written = record {
    few = few;
    apart = apart;
    first = taken.kept;
    written = taken.written;
    takes = subst (λ (b : Bytes). Steps (kept_of empty_state) (OfBundle b) taken.kept taken.written) is taken.takes;
    is = written (with_kept empty_state taken.kept) taken.stands;
    steps = taken.steps;
  }

  -- the lines of the state into which the stream was taken
  pub made-counts : (before between now : ℕ) (stream lines : Bytes) (s : StateParts) → IsStreamOfMade n seed before between stream → IsTaken (OfStream stream) between now s
      → ((m : State) → Stands s m → lines ≡ made_lines m.blocks) → CountsSteps n seed lines before now
  made-counts before between now stream lines s made taken told = (
    record {
      few = made.few;
      apart = made.apart;
      first = made.first;
      stream = made.written;
      takes = made.takes;
      second = taken.kept;
      bundle = taken.written;
      again = subst (λ (b : Bytes). Steps (kept_of empty_state) (OfStream b) taken.kept taken.written) made.is taken.takes;
      lines = told (with_kept empty_state taken.kept) taken.stands;
    },
    omega (arith, made.steps, taken.steps),
  )
