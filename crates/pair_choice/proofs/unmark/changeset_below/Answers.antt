use Rattle.pair_choice.proofs.DepthLemmas.{changeset-found, no-changeset}
use Rattle.pair_choice.proofs.LimitLemmas.{match-some, match-none}
use Rattle.pair_choice.proofs.unmark.changeset_below.Goals as goal

pub returns-in-Some-clause-found : goal.returns-in-Some-clause-found
returns-in-Some-clause-found g c = λ blocks v over. changeset-found c.args.known.now blocks c.args.c.now v over c.in-Some.h (match-some _ _ _ c.in-Some.h (c.in_ok-h.ensures blocks v over) c.in-Some.is)

pub returns-in-None-clause-found : goal.returns-in-None-clause-found
returns-in-None-clause-found g c = λ blocks v over. no-changeset c.args.known.now blocks v (match-none _ _ _ (c.in_ok-h.ensures blocks v over) c.in-None.is)
