-- A delta that replaces a whole base.
use Rattle.std.specs.Prelude.{◌≡◌, ℕ, [], ◌∷◌, drop}
use Rattle.text_model.specs.Text.{Bytes}
use Rattle.hg_model.specs.Delta.{Hunk, Hunks, delta_reading}

-- the hunk that replaces a whole base of this size by what stands behind the three numbers of the delta
abbrev pub whole_of : ℕ → Bytes → Hunk
whole_of base_size delta = record { start = 0; finish = base_size; bytes = drop 12 delta }

-- the delta is this hunk alone
abbrev pub IsWhole : ℕ → Bytes → Type 0
IsWhole base_size delta = delta_reading base_size delta ≡ Hunks (whole_of base_size delta ∷ [])

-- nothing follows a hunk that replaces a whole base of this size
pub record IsAlone (behind base_size start finish : ℕ) : Type 0 where
  pub none : behind ≡ 0
  pub first : start ≡ 0
  pub last : finish ≡ base_size
