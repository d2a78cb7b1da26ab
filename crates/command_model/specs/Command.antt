-- The commands of the program, by the words that ask for them, and what each comes to over a saved state and an input. Both are this project's
-- own rule.
use Rattle.std.specs.Prelude.{◌≡◌, ◌<◌, ◌≤◌, ◌^◌, ℕ, Bool, true, false, if◌then◌else◌, List, [], ◌∷◌, ◌++◌, length, Option, Some, None, Result, Ok, Err, MatchBool, codes, bytes_eq}
use Rattle.text_model.specs.Text.{Bytes, decimal_below}
use Rattle.text_model.specs.Id.{Id}
use Rattle.text_model.specs.Fault.{Refusal}
use Rattle.hg_model.specs.Bundle.{bundle_framing, listing, listing_fault}
use Rattle.hg_model.specs.Reading.{bundle_reading}
use Rattle.git_model.specs.Stream.{stream_framing, stream_listing, stream_reading, stream_text}
use Rattle.pair_model.specs.Block.{changesets_in, commits_in}
use Rattle.state_model.specs.Limits.{slot_limit}
use Rattle.state_model.specs.Kept.{State, Kept, NameRow, kept_of, with_kept, empty_state, hg_dump, git_dump}
use Rattle.state_model.specs.Saved.{IsStateText, IsVersionFault, IsShapeFault, SlotHolds}
use Rattle.saved_model.specs.Step.{OfBundle, OfStream, Steps, Refuses}
use Rattle.saved_model.specs.Written.{count_line, revision_counts, object_counts, map_text}
use Rattle.verify_model.specs.Holds.{StateHolds, StateDiffers}
use Rattle.command_model.specs.Run.{BadState, TooLong, OtherVersion, BadShape}
use Rattle.command_model.specs.Names.{with_names, hg_names, git_names, hg_names_text, git_names_text}
use Rattle.command_model.specs.Made.{MakesCounts, RefusesMake}

pub data Command : Type 0 where
  ListHg : Command
  CheckHg : Command
  ListGit : Command
  CheckGit : Command
  PullHg : Command
  PullGit : Command
  DumpHg : Command
  DumpGit : Command
  Map : Command
  SetNamesHg : Command
  SetNamesGit : Command
  NamesHg : Command
  NamesGit : Command
  Verify : Command
  Make : (n : ℕ) (seed : ℕ) → Command

-- a word, and the command that it asks for: those on names, and all
abbrev pub names_commands : List (Bytes × Command)
names_commands =
    (codes "set-names-hg", SetNamesHg)
    ∷ (codes "set-names-git", SetNamesGit)
    ∷ (codes "names-hg", NamesHg)
    ∷ (codes "names-git", NamesGit)
    ∷ []

abbrev pub plain_commands : List (Bytes × Command)
plain_commands =
    (codes "list-hg", ListHg)
    ∷ (codes "check-hg", CheckHg)
    ∷ (codes "list-git", ListGit)
    ∷ (codes "check-git", CheckGit)
    ∷ (codes "pull-hg", PullHg)
    ∷ (codes "pull-git", PullGit)
    ∷ (codes "dump-hg", DumpHg)
    ∷ (codes "dump-git", DumpGit)
    ∷ (codes "map", Map)
    ∷ (codes "verify", Verify)
    ∷ names_commands

abbrev pub command_named : Bytes → List (Bytes × Command) → Option Command
command_named word [] = None
command_named word (c ∷ cs) = if bytes_eq c.0 word then Some c.1 else command_named word cs

-- `make` with two numbers, where both are read
abbrev pub made_command : Bytes → Option ℕ → Option ℕ → Option Command
made_command word (Some n) (Some seed) = if bytes_eq word (codes "make") then Some (Make n seed) else None
made_command word _ _ = None

-- the command that the words ask for; no words at all ask for the listing of a bundle, and the numbers of `make` are decimals below 2^64
abbrev pub command_of : List Bytes → Option Command
command_of [] = Some ListHg
command_of (word ∷ []) = command_named word plain_commands
command_of (word ∷ n ∷ seed ∷ []) = made_command word (decimal_below (2 ^ 64) n) (decimal_below (2 ^ 64) seed)
command_of _ = None

-- the command reads its input
abbrev pub reads_input : Command → Bool
reads_input DumpHg = false
reads_input DumpGit = false
reads_input Map = false
reads_input NamesHg = false
reads_input NamesGit = false
reads_input Verify = false
reads_input (Make n seed) = false
reads_input _ = true

-- the command begins with the saved state
abbrev pub reads_slot : Command → Bool
reads_slot PullHg = true
reads_slot PullGit = true
reads_slot DumpHg = true
reads_slot DumpGit = true
reads_slot Map = true
reads_slot SetNamesHg = true
reads_slot SetNamesGit = true
reads_slot NamesHg = true
reads_slot NamesGit = true
reads_slot Verify = true
reads_slot _ = false

-- ---- outcomes

-- what a command comes to: its output, with the state that it saves, or why it is refused, or the commit of the saved state that isn't right, with the
-- right one
pub data Outcome : Type 0 where
  Written : (output : Bytes) (saved : Option State) → Outcome
  Refused : (why : Refusal) → Outcome
  Mismatched : (kept right : Id) → Outcome

-- an output without a state to be saved, or why there is none
abbrev pub written_unless : Option Refusal → Bytes → Outcome
written_unless None output = Written output None
written_unless (Some why) output = Refused why

-- what a reading comes to, with what is written of what it brought
abbrev pub written_of : {T : Type 0} → (T → Bytes) → Result T Refusal → Outcome
written_of output (Ok read) = Written (output read) None
written_of output (Err why) = Refused why

-- what a reading of names comes to: no output, and the state with what was read in place of its own names
abbrev pub named_by : State → Result (List NameRow) Refusal → Outcome
named_by s (Ok names) = Written [] (Some (with_names s names))
named_by s (Err why) = Refused why

-- What a command comes to over a saved state and an input. The listings check the framing alone; the checks read the whole input over no known
-- revisions and objects; the pulls take it into the state, and save the next one; a text of names is set in place of all names of the state. An audit
-- counts the blocks of a state each of which is right, or tells the first that isn't.
abbrev pub ComesTo : Command → State → Bytes → Outcome → Type 0
ComesTo ListHg s input outcome = written_unless (listing_fault input) (listing (bundle_framing input).items) ≡ outcome
ComesTo CheckHg s input outcome = written_of revision_counts (bundle_reading [] input) ≡ outcome
ComesTo ListGit s input outcome = written_unless (stream_framing input).bad (stream_listing (stream_framing input).objects) ≡ outcome
ComesTo CheckGit s input outcome = written_of object_counts (stream_reading [] input) ≡ outcome
ComesTo PullHg s input (Written output (Some next)) = (k : Kept) × Steps (kept_of s) (OfBundle input) k output × (next ≡ with_kept s k)
ComesTo PullHg s input (Written output None) = ⊥
ComesTo PullHg s input (Refused why) = Refuses (kept_of s) (OfBundle input) why
ComesTo PullHg s input (Mismatched kept right) = ⊥
ComesTo PullGit s input (Written output (Some next)) = (k : Kept) × Steps (kept_of s) (OfStream input) k output × (next ≡ with_kept s k)
ComesTo PullGit s input (Written output None) = ⊥
ComesTo PullGit s input (Refused why) = Refuses (kept_of s) (OfStream input) why
ComesTo PullGit s input (Mismatched kept right) = ⊥
ComesTo DumpHg s input outcome = Written (hg_dump (changesets_in s.blocks)) None ≡ outcome
ComesTo DumpGit s input outcome = Written (git_dump (commits_in s.blocks) ++ stream_text s.tags) None ≡ outcome
ComesTo Map s input outcome = Written (map_text s.blocks) None ≡ outcome
ComesTo SetNamesHg s input outcome = named_by s (hg_names s input) ≡ outcome
ComesTo SetNamesGit s input outcome = named_by s (git_names s input) ≡ outcome
ComesTo NamesHg s input outcome = Written (hg_names_text s) None ≡ outcome
ComesTo NamesGit s input outcome = Written (git_names_text s) None ≡ outcome
ComesTo Verify s input (Written output None) = StateHolds s × (output ≡ count_line (codes "verified") (length s.blocks))
ComesTo Verify s input (Written output (Some next)) = ⊥
ComesTo Verify s input (Refused why) = ⊥
ComesTo Verify s input (Mismatched kept right) = StateDiffers s kept right
ComesTo (Make n seed) s input (Written output None) = MakesCounts n seed output
ComesTo (Make n seed) s input (Written output (Some next)) = ⊥
ComesTo (Make n seed) s input (Refused why) = RefusesMake n seed why
ComesTo (Make n seed) s input (Mismatched kept right) = ⊥

-- ---- the slot

-- why what a slot holds is the text of no state
abbrev pub IsBadSlot : Option Bytes → BadState → Type 0
IsBadSlot None why = ⊥
IsBadSlot (Some text) TooLong = slot_limit < length text
IsBadSlot (Some text) OtherVersion = (length text ≤ slot_limit) × IsVersionFault text
IsBadSlot (Some text) (BadShape section) = (length text ≤ slot_limit) × (¬ (IsVersionFault text)) × IsShapeFault text section

-- the state with which a command begins
abbrev pub BeginsWith : Command → Option Bytes → State → Type 0
BeginsWith command held s = MatchBool (reads_slot command) (SlotHolds held s) (s ≡ empty_state)

-- what the slot holds behind a run that is done
abbrev pub IsKept : Option State → Option Bytes → Option Bytes → Type 0
IsKept None before after = after ≡ before
IsKept (Some s) before after = (text : Bytes) × (after ≡ Some text) × IsStateText text s
