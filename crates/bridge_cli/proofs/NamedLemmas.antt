-- What a command that sets names makes over a saved state.
use Rattle.std.proofs.Common.{◌≡◌, ℕ, Bool, true, false, List, [], length, Option, None, Some, Result, Ok, Err, refl, sym, ap, ◌∙◌}
use Rattle.std.specs.Prelude.{nat_lt, if◌then◌else◌, IfSome}
use Rattle.std.specs.Io.KnownBytes.{IsAtEnd}
use Rattle.text_model.specs.Text.{Bytes}
use Rattle.text_model.specs.Fault.{Refusal, InputLimit, refusal_at, input_limit}
use Rattle.state_model.specs.Kept as model
use Rattle.state_model.specs.Kept.{NameRow}
use Rattle.state_model.specs.Names.{AreNames}
use Rattle.state_model.specs.Saved.{IsState}
use Rattle.name_law.proofs.Kept.{refs-kept, names-kept}
use Rattle.command_model.specs.Names.{with_names, targets_saved}
use Rattle.command_model.specs.Command.{Command, SetNamesHg, SetNamesGit, Written, reads_slot, named_by, ComesTo}
use Rattle.ref_map.specs.declared.row.Side.{Side}
use Rattle.ref_map.specs.declared.row.Side.TheVariants.{Hg, Git}
use Rattle.pair_state.specs.declared.state.State.{State}
use Rattle.pull_engine.specs.Read.{IsReadState}
use Rattle.name_engine.specs.declared.fault.SetFault.{SetFault}
use Rattle.name_engine.specs.declared.fault.SetFault.TheVariants as set
use Rattle.name_engine.specs.Faults as cause
use Rattle.name_engine.specs.Names.{IsOfNames}
use Rattle.name_engine.specs.Set.{IsSaved, names_of, IsSet, IsRefused}
use Rattle.state_law.proofs.Set.{set-left}
use Rattle.bridge_cli.specs.Over.{Over}
use Rattle.bridge_cli.specs.Fetched.{IsFetched, IsNotFetched}
use Rattle.bridge_cli.specs.Makes.{IsTextOf, IsNextText, IsEndOf, Makes, EndCause, FetchEndCause}
use Rattle.bridge_cli.specs.Report.{set_report}
use Rattle.bridge_cli.specs.Sides.{set_command}
use Rattle.bridge_cli.specs.declared.report.Report.{Report}
use Rattle.bridge_cli.specs.declared.report.Report.TheVariants as code
use Rattle.bridge_cli.specs.declared.work.Work.{Work}

pub saved-of : (s : State) (m : model.State) → IsReadState s m → IsSaved s m
saved-of s m read = record { saved = read.saved; stands = read.stands }

-- ---- the names that a text sets can be kept

err-ok : (why : Refusal) (names : List NameRow) → ◌≡◌ {A = Result (List NameRow) Refusal} (Err why) (Ok names) → ⊥
err-ok why names e = cc

by-length : (b : Bool) (reading : Result (List NameRow) Refusal) (names : List NameRow) → (if b then Err (refusal_at InputLimit input_limit) else reading) ≡ Ok names → reading ≡ Ok names
by-length true reading names e = absurd (err-ok (refusal_at InputLimit input_limit) names e)
by-length false reading names e = e

are-names : (side : Side) (m : model.State) (text : Bytes) (names : List NameRow) → names_of side m text ≡ Ok names → AreNames (targets_saved m) names
are-names Hg m text names e = names-kept (targets_saved m) text names (by-length (nat_lt input_limit (length text)) _ names e)
are-names Git m text names e = refs-kept (targets_saved m) text names (by-length (nat_lt input_limit (length text)) _ names e)

-- ---- a slot that gives no state

pub unfetched : (command : Command) → reads_slot command ≡ true → (input : Option Bytes) (slot : Option (Option Bytes)) (report : Report) → IsNotFetched slot report → IsEndOf command input slot report
unfetched command reads input slot code.SlotFault end = tt
unfetched command reads input slot (code.StateBad why) end = rw reads end
unfetched command reads input slot code.Memory end = tt
unfetched command reads input slot code.Done end = absurd end
unfetched command reads input slot (code.Refused why) end = absurd end
unfetched command reads input slot code.Usage end = absurd end
unfetched command reads input slot code.ReadFault end = absurd end
unfetched command reads input slot code.WriteFault end = absurd end
unfetched command reads input slot (code.Mismatch commit right) end = absurd end

-- ---- a text is set

-- what the command comes to, and the text of the state that it saves
outcome : (side : Side) (m : model.State) (bytes output : Bytes) (next : State) (text : Option Bytes) → output ≡ [] → IsNextText next text → IsState m → IsSet side m bytes next
    → (saved : Option model.State) × ComesTo (set_command side) m bytes (Written output saved) × IsTextOf saved text
outcome side m bytes output next None none is state set = absurd is
outcome Hg m bytes output next (Some text) none is state (names, reads, stands) =
    let saved = with_names m names in
    (Some saved, ap (named_by m) reads ∙ ap (λ (o : Bytes). Written o (Some saved)) (sym none), is saved stands (set-left m names state (are-names Hg m bytes names reads)))
outcome Git m bytes output next (Some text) none is state (names, reads, stands) =
    let saved = with_names m names in
    (Some saved, ap (named_by m) reads ∙ ap (λ (o : Bytes). Written o (Some saved)) (sym none), is saved stands (set-left m names state (are-names Git m bytes names reads)))

set-makes : (side : Side) (input : Option Bytes) (slot : Option (Option Bytes)) (s next : State) (text : Option Bytes) (output : Bytes) → output ≡ [] → IsFetched slot s
    → IfSome input (λ bytes. (m : model.State) → IsSaved s m → IsSet side m bytes next) → IsNextText next text
    → Over (set_command side) input slot (λ m bytes. (saved : Option model.State) × ComesTo (set_command side) m bytes (Written output saved) × IsTextOf saved text)
set-makes Hg None slot s next text output none fetched set is = tt
set-makes Hg (Some bytes) None s next text output none fetched set is = tt
set-makes Hg (Some bytes) (Some held) s next text output none (m, read, are, holds) set is =
    (m, holds, outcome Hg m bytes output next text none is read.saved (set m (saved-of s m read)))
set-makes Git None slot s next text output none fetched set is = tt
set-makes Git (Some bytes) None s next text output none fetched set is = tt
set-makes Git (Some bytes) (Some held) s next text output none (m, read, are, holds) set is =
    (m, holds, outcome Git m bytes output next text none is read.saved (set m (saved-of s m read)))

-- the work of the command
pub set-done : (side : Side) (input rest : Option Bytes) (slot : Option (Option Bytes)) (s next : State) (w : Work) → IsAtEnd rest → w.output ≡ [] → IsFetched slot s
    → IfSome input (λ bytes. (m : model.State) → IsSaved s m → IsSet side m bytes next) → IsNextText next w.text → Makes (set_command side) input rest slot (Ok w)
set-done Hg input rest slot s next w end none fetched set is = (end, set-makes Hg input slot s next w.text w.output none fetched set is)
set-done Git input rest slot s next w end none fetched set is = (end, set-makes Git input slot s next w.text w.output none fetched set is)

-- no state is fetched
pub set-unfetched : (side : Side) (input : Option Bytes) (slot : Option (Option Bytes)) (report : Report) → IsNotFetched slot report → IsEndOf (set_command side) input slot report
set-unfetched Hg input slot report end = unfetched SetNamesHg refl input slot report end
set-unfetched Git input slot report end = unfetched SetNamesGit refl input slot report end

-- why none is set
pub set-refuses : (side : Side) (input : Option Bytes) (slot : Option (Option Bytes)) (s : State) (e : SetFault) → IsFetched slot s → IsOfNames side e
    → IfSome input (λ bytes. (m : model.State) → IsSaved s m → IsRefused side m bytes e) → IsEndOf (set_command side) input slot (set_report e)
set-refuses Hg None slot s (set.Refused why) fetched named told = ((why.fault, refl, named), tt)
set-refuses Hg (Some bytes) None s (set.Refused why) fetched named told = ((why.fault, refl, named), tt)
set-refuses Hg (Some bytes) (Some held) s (set.Refused why) (m, read, are, holds) named told = ((why.fault, refl, named), (m, holds, ap (named_by m) (told m (saved-of s m read))))
set-refuses Git None slot s (set.Refused why) fetched named told = ((why.fault, refl, named), tt)
set-refuses Git (Some bytes) None s (set.Refused why) fetched named told = ((why.fault, refl, named), tt)
set-refuses Git (Some bytes) (Some held) s (set.Refused why) (m, read, are, holds) named told = ((why.fault, refl, named), (m, holds, ap (named_by m) (told m (saved-of s m read))))
set-refuses Hg input None s set.Read fetched named told = tt
set-refuses Hg input (Some held) s set.Read (m, read, are, holds) named told = (m, holds)
set-refuses Git input None s set.Read fetched named told = tt
set-refuses Git input (Some held) s set.Read (m, read, are, holds) named told = (m, holds)
set-refuses side input slot s set.Memory fetched named told = tt

pub set-cause : (before now : ℕ) (e : SetFault) → cause.FaultCause before now e → EndCause before now (set_report e)
set-cause before now (set.Refused why) h = h
set-cause before now set.Read h = h
set-cause before now set.Memory h = h

pub set-slot : (before now : ℕ) (e : SetFault) → now ≡ before → FetchEndCause before now (set_report e)
set-slot before now (set.Refused why) same = same
set-slot before now set.Read same = same
set-slot before now set.Memory same = same
