-- A state as it is read from its text, and what a pull makes of it.
use Rattle.std.specs.Prelude.{◌≡◌, length}
use Rattle.state_model.specs.Kept as saved
use Rattle.state_model.specs.Kept.{Kept, kept_of, with_kept}
use Rattle.state_model.specs.Saved.{IsState}
use Rattle.saved_model.specs.Step.{Pull, Steps}
use Rattle.state_text.specs.Stands.{Stands, HoldsExactly}
use Rattle.pair_state.specs.declared.state_parts.StateParts.{StateParts}
use Rattle.pull_engine.specs.declared.pulled.Pulled.{Pulled}

-- the parts stand for a saved state, and their stores hold what its text brings
pub record IsReadState (s : StateParts) (m : saved.State) : Type 0 where
  pub saved : IsState m
  pub stands : Stands s m
  pub holds : HoldsExactly s m

-- the pull is accepted: this is written, and the next state stands for the next history
abbrev pub IsPulled : saved.State → Pull → Pulled → Type 0
IsPulled m pull p = (k : Kept) × Steps (kept_of m) pull k p.made × Stands p.state (with_kept m k) × (p.first_new ≡ length m.blocks)
