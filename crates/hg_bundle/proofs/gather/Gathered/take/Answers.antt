use Rattle.std.proofs.Common.{◌≡◌, ℕ, ◌==◌, [], ◌∷◌, None, Some, false, true≢false, arith, ap, length, length-drop, sym}
use Rattle.std.specs.Prelude.{if◌then◌else◌}
use Rattle.std.proofs.lemmas.Result.{err_from_is_err_and}
use Rattle.text_model.specs.Text.{Bytes}
use Rattle.text_model.specs.Path.{is_fit_path}
use Rattle.text_model.specs.Fault.{refusal_at}
use Rattle.text_model.specs.Fault as fault
use Rattle.hg_model.specs.Bundle.{BundleEntry, AtPath}
use Rattle.hg_bundle.specs.declared.fault.BundleFault.{BundleFault}
use Rattle.hg_bundle.specs.declared.gather.Gathered.{Gathered}
use Rattle.hg_bundle.specs.Faults.{IsJudgement}
use Rattle.hg_bundle.specs.Payload.{payload_bytes}
use Rattle.hg_bundle.specs.Steps.{step_refusal}
use Rattle.hg_bundle.proofs.gather.Gathered.take.Goals as goal

pub add-requires-clause-small : goal.add-requires-clause-small
add-requires-clause-small c = omega (arith, ap (λ (e : BundleEntry). length e.delta) c.of.ensures.value, length-drop 80 (payload_bytes c.args.payload.now))

-- a path that is refused
unfit : (at : ℕ) (g : Gathered) (e : BundleFault) (path : Bytes) → (length path == 0) ≡ false
    → IsJudgement (if is_fit_path path then None else Some (refusal_at fault.PathUnfit at)) e → IsJudgement (step_refusal AtPath at path g) e
unfit at g e [] some is = absurd (true≢false some)
unfit at g e (byte ∷ bytes) some is = is

pub returns-in_err-file_group-in-AtPath-clause-fault : goal.returns-in_err-file_group-in-AtPath-clause-fault
returns-in_err-file_group-in-AtPath-clause-fault c =
    let p = err_from_is_err_and c.from_residual.result c.from_residual.ensures.1 in
    rw (p.1, p.2, c.in-AtPath.is)
    (unfit c.args.at c.args.self.now _ (payload_bytes c.args.payload.now) (rw c.bytes.ensures at (sym c.if-is_end.ensures.end))
    (rw c.bytes-in-AtPath.ensures at c.in_err-file_group-in-AtPath.ensures.fault))

pub returns-in_ok-file_group-in-AtPath-clause-bytes : goal.returns-in_ok-file_group-in-AtPath-clause-bytes
returns-in_ok-file_group-in-AtPath-clause-bytes c = rw (← c.bytes.ensures) c.if-is_end.ensures.bytes

pub returns-in_ok-add-in-In-clause-bytes : goal.returns-in_ok-add-in-In-clause-bytes
returns-in_ok-add-in-In-clause-bytes c = rw (← c.bytes.ensures) c.if-is_end.ensures.bytes
