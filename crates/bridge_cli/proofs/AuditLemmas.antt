-- What an audit makes of the saved state.
use Rattle.std.proofs.Common.{◌≡◌, ◌≤◌, ◌+◌, ◌*◌, ℕ, length, codes, Option, None, Some, Ok, refl, sym, ap, subst, ◌∙◌, arith}
use Rattle.std.specs.Prelude.{◌↔◌}
use Rattle.std.specs.Global.{Vec}
use Rattle.text_model.specs.Text.{Bytes}
use Rattle.text_model.specs.Id.{Id}
use Rattle.state_model.specs.Kept as model
use Rattle.state_model.specs.Saved.{IsState}
use Rattle.saved_model.specs.Written.{count_line}
use Rattle.verify_model.specs.Holds.{StateHolds, StateDiffers}
use Rattle.history_law.proofs.States.{slot-one}
use Rattle.pair_state.specs.declared.state.State.{State}
use Rattle.state_text.specs.Stands.{Stands, HoldsExactly}
use Rattle.state_audit.specs.declared.verdict.Verdict.{Verdict}
use Rattle.state_audit.specs.declared.verdict.Verdict.TheVariants as verdict
use Rattle.command_model.specs.Command.{Verify}
use Rattle.bridge_cli.specs.Fetched.{IsFetched}
use Rattle.bridge_cli.specs.Makes.{IsTextOf, IsEndOf, Makes}
use Rattle.bridge_cli.specs.Steps.{StepsOf}
use Rattle.bridge_cli.specs.declared.report.Report.TheVariants as code
use Rattle.bridge_cli.specs.declared.work.Work.{Work}
use Rattle.bridge_cli.proofs.SavedLemmas.{count}

-- what the audit of a state is found to be
abbrev Finds : State → Verdict → Type 0
Finds s found = (m : model.State) → IsState m → Stands s m → HoldsExactly s m → (n : ℕ) → (found ≡ verdict.Holds n) ↔ (StateHolds m × (n ≡ length m.blocks))

abbrev Tells : State → Verdict → Type 0
Tells s found = (m : model.State) → IsState m → Stands s m → HoldsExactly s m → (kept right : Id) → (found ≡ verdict.Differs kept right) ↔ StateDiffers m kept right

-- each block is right
pub audit-makes : (slot : Option (Option Bytes)) (s : State) (w : Work) (line : Vec ℕ) (found : Verdict) (blocks : ℕ) → IsFetched slot s → Finds s found → found ≡ verdict.Holds blocks
    → line.items ≡ count_line (codes "verified") blocks → w.output ≡ line.items → w.text ≡ None → (input : Option Bytes) → Makes Verify input input slot (Ok w)
audit-makes None s w line found blocks fetched finds is printed same none input = (tt, tt)
audit-makes (Some held) s w line found blocks (m, read, are, holds) finds is printed same none input =
    let x = (finds m read.saved read.stands read.holds blocks).0 is in
    let output : w.output ≡ count_line (codes "verified") (length m.blocks) =
    same ∙ printed ∙ ap (λ (n : ℕ). count_line (codes "verified") n) x.1 in
    (tt, (m, holds, (None, (x.0, output), subst (IsTextOf None) (sym none) tt)))

-- the first that isn't
pub audit-differs : (slot : Option (Option Bytes)) (s : State) (found : Verdict) (kept right : Id) → IsFetched slot s → Tells s found → found ≡ verdict.Differs kept right
    → (input : Option Bytes) → IsEndOf Verify input slot (code.Mismatch kept right)
audit-differs None s found kept right fetched tells is input = (refl, tt)
audit-differs (Some held) s found kept right (m, read, are, holds) tells is input = (refl, (m, holds, (tells m read.saved read.stands read.holds kept right).0 is))

-- how often it unmarks a member
pub audit-steps : (slot : Option (Option Bytes)) (s : State) (before now : ℕ) → IsFetched slot s → before ≤ now → now ≤ before + 18 * length s.blocks
    → (input : Option Bytes) → StepsOf Verify input slot before now
audit-steps None s before now fetched least most input = (least, tt)
audit-steps (Some held) s before now (m, read, are, holds) least most input =
    (least, λ t begins. subst (λ (x : model.State). now ≤ before + 18 * length x.blocks) (slot-one held m t holds begins) (omega (arith, most, count s m read.stands)))

-- where nothing is audited
pub no-audit-steps : (slot : Option (Option Bytes)) (n : ℕ) (input : Option Bytes) → StepsOf Verify input slot n n
no-audit-steps None n input = (omega arith, tt)
no-audit-steps (Some held) n input = (omega arith, λ s begins. omega arith)
