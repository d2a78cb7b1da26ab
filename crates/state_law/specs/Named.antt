-- What setting names leaves over a saved state, and what becomes of names behind a pull.
use Rattle.std.specs.Prelude.{List}
use Rattle.text_model.specs.Text.{Bytes}
use Rattle.state_model.specs.Kept.{State, Kept, NameRow, kept_of, with_kept}
use Rattle.state_model.specs.Names.{AreNames}
use Rattle.state_model.specs.Saved.{IsState}
use Rattle.saved_model.specs.Step.{Pull, Steps}
use Rattle.command_model.specs.Names.{with_names, targets_saved}
use Rattle.command_model.specs.Across.{ComeBack, HaveSameNames}

-- A state with other names that can be kept is one.
abbrev pub SetIsLeft : Type 0
SetIsLeft = (s : State) (names : List NameRow) → IsState s → AreNames (targets_saved s) names → IsState (with_names s names)

-- The names of a state come back from either side.
abbrev pub NamesComeBack : Type 0
NamesComeBack = (s : State) → IsState s → ComeBack s

-- The names of a state are those behind a pull, and either side's command writes the same of them, where what the pull leaves is a state.
abbrev pub NamesAreLeft : Type 0
NamesAreLeft =
    (s : State) (pull : Pull) (k : Kept) (made : Bytes) → AreNames (targets_saved s) s.names → IsState (with_kept s k) → Steps (kept_of s) pull k made → HaveSameNames s (with_kept s k)
