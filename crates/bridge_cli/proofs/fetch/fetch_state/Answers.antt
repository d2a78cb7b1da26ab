use Rattle.bridge_cli.proofs.FetchLemmas.{state-fetched}
use Rattle.bridge_cli.proofs.fetch.fetch_state.Goals as goal

pub returns-clause-state : goal.returns-clause-state
returns-clause-state g c = rw c.into_state.ensures (state-fetched (g.K.Slot.held c.args.slot.now) c.in_ok-fetched.fetched c.in_ok-fetched.ensures.state)
