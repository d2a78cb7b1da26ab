use Rattle.std.proofs.Common.{take}
use Rattle.text_model.specs.Lists.{Each}
use Rattle.pair_choice.proofs.LimitLemmas.{IsWithin}
use Rattle.pair_choice.proofs.within.links_fit.Given as goal

-- the links so far are within their limits
abbrev pub invariant-loop-link : goal.invariant-loop-link
invariant-loop-link l = Each IsWithin (take l.link-index l.links)
