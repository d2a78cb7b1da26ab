use Rattle.std.proofs.Common.{◌≡◌, ◌<◌, ◌+◌, List, length, take, get_or, ap, ◌∙◌, arith}
use Rattle.text_model.specs.Id.{Id}
use Rattle.tag_rule.proofs.FollowLemmas.{put-has, more-has, front}
use Rattle.tag_rule.proofs.fates.Fates.keep.Goals as goal

pub loop-id-preserved : goal.loop-id-preserved
loop-id-preserved c =
    let ids = c.args.chain.now.ids in
    let i = c.loop-id.id-index in
    let x = c.id-item.result in
    let below : i < length ids = omega (arith, ap length c.as_slice-id-items.ensures) in
    let is : x ≡ get_or ids i x = c.id-item.is ∙ ap (λ (l : List Id). get_or l i x) c.as_slice-id-items.ensures in
    record {
      leading = more-has c.loop-id.self.leading c.args.self.now.leading (take i ids) x c.insert.new.self (take (i + 1) ids)
          (put-has c.loop-id.self.leading c.insert.new.self x c.in_ok-insert.field-0 c.in_ok-insert.ensures.new c.in_ok-insert.ensures.ok)
          (front ids i x below is) c.loop-id.invariant.leading;
      followed = c.loop-id.invariant.followed;
    }
