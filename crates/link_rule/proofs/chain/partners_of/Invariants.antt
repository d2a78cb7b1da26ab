use Rattle.std.proofs.Common.{◌≡◌, map, take}
use Rattle.std.specs.Prelude.{unwrap_or}
use Rattle.text_model.specs.Id.{null}
use Rattle.pair_known.specs.Partners.{hg_at}
use Rattle.link_rule.proofs.chain.partners_of.Given as goal

-- the partners of the commits so far
abbrev pub invariant-loop-id : goal.invariant-loop-id
invariant-loop-id l = l.nodes ≡ map (λ id. unwrap_or (hg_at l.partners id) null) (take l.id-index l.ids)
