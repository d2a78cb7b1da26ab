-- Names that are set in a saved state, and the text of those that it has, by the side that has the text.
use Rattle.std.specs.Prelude.{◌≡◌, List, Result, Ok, Err, ⊤}
use Rattle.text_model.specs.Text.{Bytes}
use Rattle.text_model.specs.Fault.{Refusal}
use Rattle.bridge_text.specs.Refusals.{refusal_value}
use Rattle.state_model.specs.Kept.{State, NameRow}
use Rattle.state_model.specs.Saved.{IsState}
use Rattle.command_model.specs.Names.{with_names, hg_names, git_names, hg_names_text, git_names_text}
use Rattle.ref_map.specs.declared.row.Side.{Side}
use Rattle.ref_map.specs.declared.row.Side.TheVariants.{Hg, Git}
use Rattle.pair_state.specs.declared.state_parts.StateParts.{StateParts}
use Rattle.state_text.specs.Stands.{Stands}
use Rattle.name_engine.specs.declared.fault.SetFault.{SetFault}
use Rattle.name_engine.specs.declared.fault.SetFault.TheVariants.{Refused, Read, Memory}

-- the names that a text of the side sets, or why it is refused
abbrev pub names_of : Side → State → Bytes → Result (List NameRow) Refusal
names_of Hg m text = hg_names m text
names_of Git m text = git_names m text

-- the text of the saved names, as the side has them
abbrev pub text_of : Side → State → Bytes
text_of Hg m = hg_names_text m
text_of Git m = git_names_text m

-- the parts stand for a saved state
pub record IsSaved (s : StateParts) (m : State) : Type 0 where
  pub saved : IsState m
  pub stands : Stands s m

-- the parts stand for the state with the names that the text sets
abbrev pub IsSet : Side → State → Bytes → StateParts → Type 0
IsSet side m text next = (names : List NameRow) × (names_of side m text ≡ Ok names) × Stands next (with_names m names)

-- a refusal is that of the text; of a failed read and of memory nothing is told here
abbrev pub IsRefused : Side → State → Bytes → SetFault → Type 0
IsRefused side m text (Refused why) = names_of side m text ≡ Err (refusal_value why)
IsRefused side m text Read = ⊤
IsRefused side m text Memory = ⊤
