-- What a line of names gives over what names may name, and the line of a ref.
use Rattle.std.specs.Prelude.{◌==◌, Bool, if◌then◌else◌, [], ◌∷◌, length, map, drop, Option, Some, None, option_map, Result, Ok, Err, bytes_eq, IsTrue}
use Rattle.std.specs.List.{find, starts_with}
use Rattle.text_model.specs.Lists.{Each}
use Rattle.text_model.specs.Text.{Bytes}
use Rattle.text_model.specs.Id.{Id, IsId, has_id}
use Rattle.text_model.specs.Fault.{FaultName, RefUnfit, TargetUnknown, TagUnknown}
use Rattle.git_model.specs.Tree.{has_distinct}
use Rattle.state_model.specs.Kept.{NameRow}
use Rattle.state_model.specs.Ref.{is_fit_ref}
use Rattle.state_model.specs.Names.{Targets, changeset_of, is_target}
use Rattle.name_model.specs.Line.{Phase, Public, Draft, Secret, NameLine, Bookmark, PlainTag, Annotated, InPhase, OtherRef, heads, tags, phase_ref, ref_name}

-- ids, of which no node and no commit stands twice
pub record AreTargets (t : Targets) : Type 0 where
  pub pair_ids : Each (λ e. IsId e.0 × IsId e.1) t.pairs
  pub tag_ids : Each IsId t.tags
  pub nodes : IsTrue (has_distinct (map (λ e. e.0) t.pairs))
  pub commits : IsTrue (has_distinct (map (λ e. e.1) t.pairs))

-- the partner of a changeset
abbrev pub commit_of : Targets → Id → Option Id
commit_of t node = option_map (λ e. e.1) (find (λ e. bytes_eq e.0 node) t.pairs)

-- ---- from a line to the ref that it gives

abbrev pub found_or : FaultName → Option Id → Result Id FaultName
found_or why None = Err why
found_or why (Some id) = Ok id

abbrev pub known_or : FaultName → Bool → Id → Result Id FaultName
known_or why known id = if known then Ok id else Err why

-- the commit or tag that the line names
abbrev pub target : Targets → NameLine → Result Id FaultName
target t (Bookmark node name) = found_or TargetUnknown (commit_of t node)
target t (PlainTag node name) = found_or TargetUnknown (commit_of t node)
target t (Annotated id name) = known_or TagUnknown (has_id t.tags id) id
target t (InPhase phase node) = found_or TargetUnknown (commit_of t node)
target t (OtherRef id name) = known_or TargetUnknown (is_target t id) id

abbrev pub row_of : Bytes → Result Id FaultName → Result NameRow FaultName
row_of name (Err why) = Err why
row_of name (Ok id) = Ok (record { id = id; name = name })

abbrev pub given : Targets → NameLine → Result NameRow FaultName
given t l = if is_fit_ref (ref_name l) then row_of (ref_name l) (target t l) else Err RefUnfit

-- ---- from a ref to its line: the first form that fits

-- the name without what it begins with, where it begins so
abbrev pub behind : Bytes → Bytes → Option Bytes
behind front name = if starts_with ◌==◌ name front then Some (drop (length front) name) else None

abbrev pub phase_in : Bytes → Id → Option Phase
phase_in name node = find (λ phase. bytes_eq name (phase_ref phase node)) (Public ∷ Draft ∷ Secret ∷ [])

abbrev pub phase_line : NameRow → Id → Option Phase → NameLine
phase_line row node None = OtherRef row.id row.name
phase_line row node (Some phase) = InPhase phase node

abbrev pub tag_or_phase : NameRow → Id → Option Bytes → NameLine
tag_or_phase row node (Some name) = PlainTag node name
tag_or_phase row node None = phase_line row node (phase_in row.name node)

abbrev pub commit_line_by : NameRow → Id → Option Bytes → NameLine
commit_line_by row node (Some name) = Bookmark node name
commit_line_by row node None = tag_or_phase row node (behind tags row.name)

-- of a ref of this changeset's partner
abbrev pub commit_line : NameRow → Id → NameLine
commit_line row node = commit_line_by row node (behind heads row.name)

abbrev pub tag_line_by : NameRow → Option Bytes → NameLine
tag_line_by row (Some name) = Annotated row.id name
tag_line_by row None = OtherRef row.id row.name

-- of a ref of no commit
abbrev pub tag_line : Targets → NameRow → NameLine
tag_line t row = if has_id t.tags row.id then tag_line_by row (behind tags row.name) else OtherRef row.id row.name

abbrev pub line_with : Targets → NameRow → Option Id → NameLine
line_with t row (Some node) = commit_line row node
line_with t row None = tag_line t row

abbrev pub line_of_ref : Targets → NameRow → NameLine
line_of_ref t row = line_with t row (changeset_of t row.id)
