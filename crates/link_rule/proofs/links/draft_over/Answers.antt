use Rattle.link_rule.proofs.DraftLemmas.{made}
use Rattle.link_rule.proofs.links.draft_over.Goals as goal

pub returns-clause-made : goal.returns-clause-made
returns-clause-made c = λ known b h draft none view is over.
    made known b h c.args.base.now c.args.link c.in_ok-rows.rows c.new.result c.in_ok-rows.ensures c.new.ensures draft none view is over
