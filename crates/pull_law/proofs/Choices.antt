-- A name that is chosen by statements of which the first that holds decides is one.
use Rattle.std.proofs.Common.{◌≡◌, Bool, true, false, true≢false, sym, ◌∙◌, inl, inr}
use Rattle.text_model.specs.Fault.{FaultName}
use Rattle.history_model.specs.Pull.{Unless, Nothing}

-- two names of one choice are equal
abbrev pub IsOneName : (FaultName → Type 0) → Type 0
IsOneName Names = (a b : FaultName) → Names a → Names b → a ≡ b

pub nothing-one : IsOneName Nothing
nothing-one a b h k = absurd h

pub unless-one : (Holds : Type 0) (name : FaultName) (Later : FaultName → Type 0) → IsOneName Later → IsOneName (Unless Holds name Later)
unless-one Holds name Later one a b (inl h) (inl k) = h.1 ∙ sym k.1
unless-one Holds name Later one a b (inl h) (inr k) = absurd (k.0 h.0)
unless-one Holds name Later one a b (inr h) (inl k) = absurd (h.0 k.0)
unless-one Holds name Later one a b (inr h) (inr k) = one a b h.1 k.1

-- where no statement holds there is no name
pub unless-none : (Holds : Type 0) (name : FaultName) (Later : FaultName → Type 0) → (Holds → ⊥) → ((found : FaultName) → Later found → ⊥)
    → (found : FaultName) → Unless Holds name Later found → ⊥
unless-none Holds name Later never none found (inl h) = never h.0
unless-none Holds name Later never none found (inr h) = none found h.1

pub nothing-none : (found : FaultName) → Nothing found → ⊥
nothing-none found h = h

pub not-true : {b : Bool} → b ≡ false → b ≡ true → ⊥
not-true e h = true≢false (sym h ∙ e)
