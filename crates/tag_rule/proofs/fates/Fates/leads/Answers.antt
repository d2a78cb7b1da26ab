use Rattle.tag_rule.specs.Named.{names}
use Rattle.tag_rule.proofs.FollowLemmas.{still-right}
use Rattle.tag_rule.proofs.fates.Fates.leads.Goals as goal

pub returns : goal.returns
returns c = record {
  fate = c.in_ok-chain.ensures.fate;
  right = still-right (names c.args.targets.now) c.args.id.now c.args.self.now c.follow.new.self c.keep.new.self c.in_ok-chain.chain
      c.requires.right c.in_ok-chain.ensures c.in_ok-keep.ensures.leading c.in_ok-keep.ensures.followed;
}
