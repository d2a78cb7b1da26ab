-- Names over a saved state: what a text of either side sets, and the texts of those that are saved. All of it is this project's own rule.
use Rattle.std.specs.Prelude.{nat_lt, if◌then◌else◌, List, length, Result, Err}
use Rattle.text_model.specs.Text.{Bytes}
use Rattle.text_model.specs.Fault.{Refusal, InputLimit, refusal_at, input_limit}
use Rattle.state_model.specs.Kept.{State, NameRow, kept_of}
use Rattle.state_model.specs.Text.{refs_text}
use Rattle.state_model.specs.Names.{Targets, targets_in}
use Rattle.name_model.specs.Reading.{refs_reading, names_reading, names_text}

-- the state with these names in place of all its own; its blocks and tags stay
abbrev pub with_names : State → List NameRow → State
with_names s names = record { blocks = s.blocks; tags = s.tags; names = names }

-- what names may name: the changesets and commits of the state, and its kept tags
abbrev pub targets_saved : State → Targets
targets_saved s = targets_in (kept_of s)

-- an input that is too long is refused before its lines are read
abbrev pub within_limit : Bytes → Result (List NameRow) Refusal → Result (List NameRow) Refusal
within_limit input reading = if nat_lt input_limit (length input) then Err (refusal_at InputLimit input_limit) else reading

-- the names that a text of Mercurial's side sets, or why it is refused
abbrev pub hg_names : State → Bytes → Result (List NameRow) Refusal
hg_names s input = within_limit input (names_reading (targets_saved s) input)

-- the names that a text of refs sets, or why it is refused
abbrev pub git_names : State → Bytes → Result (List NameRow) Refusal
git_names s input = within_limit input (refs_reading (targets_saved s) input)

-- the saved names as Mercurial's side has them, a line for each in the order of the refs
abbrev pub hg_names_text : State → Bytes
hg_names_text s = names_text (targets_saved s) s.names

-- the saved names as refs, a line for each in their order
abbrev pub git_names_text : State → Bytes
git_names_text s = refs_text s.names
