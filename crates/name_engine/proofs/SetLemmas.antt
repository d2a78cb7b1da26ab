-- What is read of a text of names, and what it sets in a state.
use Rattle.std.proofs.Common.{◌≡◌, ◌≤◌, ◌<◌, ℕ, List, length, Option, None, Some, Result, Ok, Err, refl, sym, ap, subst, ◌∙◌}
use Rattle.std.specs.Prelude.{IfSome}
use Rattle.text_model.specs.Text.{Bytes}
use Rattle.text_model.specs.Fault.{Refusal, input_limit}
use Rattle.state_model.specs.Kept.{State, NameRow}
use Rattle.name_model.specs.Reading.{set_of, names_reading, refs_reading}
use Rattle.command_model.specs.Names as command
use Rattle.command_model.specs.Names.{targets_saved}
use Rattle.command_model.proofs.Limits.{within, beyond}
use Rattle.ref_map.specs.declared.row.Side.{Side}
use Rattle.ref_map.specs.declared.row.Side.TheVariants.{Hg, Git}
use Rattle.ref_map.specs.declared.fault.NameFault.{NameFault}
use Rattle.ref_map.specs.declared.fault.NameFault.TheVariants as name
use Rattle.ref_map.specs.Faults.{IsNameFault}
use Rattle.ref_map.specs.Rows.{reader}
use Rattle.pair_state.specs.declared.state_parts.StateParts.{StateParts}
use Rattle.pair_state.specs.Names.{with_names}
use Rattle.pair_state.proofs.AllBlocks.{named-all}
use Rattle.state_text.specs.Stands.{Stands}
use Rattle.name_engine.specs.Faults.{name_fault, FaultCause, IsTooLong}
use Rattle.name_engine.specs.declared.fault.SetFault.{SetFault}
use Rattle.name_engine.specs.declared.fault.SetFault.TheVariants.{Refused, Read, Memory}
use Rattle.name_engine.specs.Set.{IsSaved, names_of, IsSet, IsRefused}

-- a text that isn't too long is what its lines read as
reads : (side : Side) (m : State) (text : Bytes) → length text ≤ input_limit → names_of side m text ≡ set_of (reader side (targets_saved m)) text
reads Hg m text short = within text (names_reading (targets_saved m) text) short
reads Git m text short = within text (refs_reading (targets_saved m) text) short

too-long : (side : Side) (m : State) (text : Bytes) (fault : SetFault) → IsTooLong text fault → IsRefused side m text fault
too-long Hg m text (Refused why) h = beyond text (names_reading (targets_saved m) text) h.0 ∙ ap Err (sym h.1)
too-long Git m text (Refused why) h = beyond text (refs_reading (targets_saved m) text) h.0 ∙ ap Err (sym h.1)
too-long side m text Read h = tt
too-long side m text Memory h = tt

bad-line : (side : Side) (m : State) (text : Bytes) (f : NameFault) → length text ≤ input_limit → IsNameFault (set_of (reader side (targets_saved m)) text) f → IsRefused side m text (name_fault f)
bad-line side m text (name.NameLimit line) short h = reads side m text short ∙ h
bad-line side m text (name.NameShape line) short h = reads side m text short ∙ h
bad-line side m text (name.RefUnfit line) short h = reads side m text short ∙ h
bad-line side m text (name.TargetUnknown line) short h = reads side m text short ∙ h
bad-line side m text (name.TagUnknown line) short h = reads side m text short ∙ h
bad-line side m text (name.NameTwice line) short h = reads side m text short ∙ h
bad-line side m text name.Memory short h = tt

-- a bad line is no failed read
pub line-cause : (before now : ℕ) (f : NameFault) → now ≡ before → FaultCause before now (name_fault f)
line-cause before now (name.NameLimit line) e = e
line-cause before now (name.NameShape line) e = e
line-cause before now (name.RefUnfit line) e = e
line-cause before now (name.TargetUnknown line) e = e
line-cause before now (name.TagUnknown line) e = e
line-cause before now (name.NameTwice line) e = e
line-cause before now name.Memory e = e

module _ (side : Side) (s : StateParts) where
  -- the whole input was too long
  pub refused-long : (left : Option Bytes) (fault : SetFault) → IfSome left (λ text. IsTooLong text fault) → IfSome left (λ text. (m : State) → IsSaved s m → IsRefused side m text fault)
  refused-long None fault h = tt
  refused-long (Some text) fault h = λ m saved. too-long side m text fault h

  module _ (text items : Bytes) (value : text ≡ items) (length_is : length items ≤ input_limit) where
    short : length text ≤ input_limit
    short = subst (λ (t : Bytes). length t ≤ input_limit) (sym value) length_is

    -- a line of the input was refused
    pub refused-line : (left : Option Bytes) (f : NameFault) → IfSome left (λ bytes. items ≡ bytes) → ((m : State) → IsSaved s m → IsNameFault (set_of (reader side (targets_saved m)) text) f)
        → IfSome left (λ bytes. (m : State) → IsSaved s m → IsRefused side m bytes (name_fault f))
    refused-line None f same h = tt
    refused-line (Some bytes) f same h = λ m saved. subst (λ (t : Bytes). IsRefused side m t (name_fault f)) (value ∙ same) (bad-line side m text f short (h m saved))

    -- the names are set
    stands : (m : State) (names : List NameRow) → IsSaved s m → Stands (with_names s names) (command.with_names m names)
    stands m names saved = record {
      blocks = named-all s names m.blocks (saved.stands).blocks;
      tags = (saved.stands).tags;
      tags_held = (saved.stands).tags_held;
      names = refl;
    }

    pub set-next : (names : List NameRow) (next : StateParts) → next ≡ with_names s names → (m : State) → IsSaved s m → (n : State) × Stands next n
    set-next names next is m saved = (command.with_names m names, subst (λ (x : StateParts). Stands x (command.with_names m names)) (sym is) (stands m names saved))

    pub set-done : (left : Option Bytes) (names : List NameRow) (next : StateParts) → next ≡ with_names s names → IfSome left (λ bytes. items ≡ bytes)
        → ((m : State) → IsSaved s m → set_of (reader side (targets_saved m)) text ≡ Ok names) → IfSome left (λ bytes. (m : State) → IsSaved s m → IsSet side m bytes next)
    set-done None names next is same h = tt
    set-done (Some bytes) names next is same h = λ m saved.
        let done : IsSet side m text next = (names, reads side m text short ∙ h m saved, subst (λ (x : StateParts). Stands x (command.with_names m names)) (sym is) (stands m names saved)) in
        subst (λ (t : Bytes). IsSet side m t next) (value ∙ same) done
