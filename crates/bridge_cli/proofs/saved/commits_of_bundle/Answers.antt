use Rattle.std.proofs.Common.{sym, subst}
use Rattle.std.proofs.lemmas.Result.{err_from_is_err_and}
use Rattle.state_law.proofs.Next.{state-left}
use Rattle.bridge_cli.specs.Makes.{IsNextText}
use Rattle.bridge_cli.proofs.SavedLemmas.{hg-makes, hg-refuses, hg-asked, hg-steps, read-cause, slot-cause}
use Rattle.bridge_cli.proofs.saved.commits_of_bundle.Goals as goal

pub returns-in_err-pulled-clause-makes : goal.returns-in_err-pulled-clause-makes
returns-in_err-pulled-clause-makes g c =
    let p = err_from_is_err_and c.from_residual-in_err-pulled.result c.from_residual-in_err-pulled.ensures.1 in
    rw (p.1, p.2) (hg-refuses (g.I.Source.left c.args.input.now) (g.K.Slot.held c.args.slot.now) c.in_ok-state.state c.in_err-pulled.field-0.0 c.in_ok-state.ensures.state c.in_err-pulled.ensures.names c.in_err-pulled.ensures.refused)

pub returns-in_err-pulled-clause-input : goal.returns-in_err-pulled-clause-input
returns-in_err-pulled-clause-input g c =
    let p = err_from_is_err_and c.from_residual-in_err-pulled.result c.from_residual-in_err-pulled.ensures.1 in
    rw (p.1, p.2) (read-cause _ _ c.in_err-pulled.field-0.0 c.in_err-pulled.ensures.cause)

pub returns-in_err-pulled-clause-slot : goal.returns-in_err-pulled-clause-slot
returns-in_err-pulled-clause-slot g c =
    let p = err_from_is_err_and c.from_residual-in_err-pulled.result c.from_residual-in_err-pulled.ensures.1 in
    rw (p.1, p.2) (slot-cause _ _ c.in_err-pulled.field-0.0 c.in_ok-state.ensures.cause)

pub returns-in_err-pulled-clause-steps : goal.returns-in_err-pulled-clause-steps
returns-in_err-pulled-clause-steps g c =
    hg-steps (g.I.Source.left c.args.input.now) (g.K.Slot.held c.args.slot.now) c.in_ok-state.state _ _ c.in_ok-state.ensures.state c.in_err-pulled.ensures.least c.in_err-pulled.ensures.asked

pub returns-clause-makes : goal.returns-clause-makes
returns-clause-makes g c = (
  c.in_ok-pulled.ensures.end,
  hg-makes state-left (g.I.Source.left c.args.input.now) (g.K.Slot.held c.args.slot.now) c.in_ok-state.state c.in_ok-pulled.pulled _ _ c.saved_work.ensures.output c.in_ok-state.ensures.state
      c.in_ok-pulled.ensures.bytes c.in_ok-pulled.ensures.pulled (subst (IsNextText c.in_ok-pulled.pulled.state) (sym c.saved_work.ensures.text) c.in_ok-pulled.ensures.text),
)

pub returns-clause-steps : goal.returns-clause-steps
returns-clause-steps g c =
    hg-steps (g.I.Source.left c.args.input.now) (g.K.Slot.held c.args.slot.now) c.in_ok-state.state _ _ c.in_ok-state.ensures.state c.in_ok-pulled.ensures.least
    (hg-asked (g.I.Source.left c.args.input.now) c.in_ok-state.state c.in_ok-pulled.pulled _ _ c.in_ok-pulled.ensures.pulled c.in_ok-pulled.ensures.steps)
