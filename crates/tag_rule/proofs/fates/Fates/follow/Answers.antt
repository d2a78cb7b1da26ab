use Rattle.std.proofs.Common.{◌≡◌, Bool, true, false, List, [], ◌∷◌, ◌++◌, sym, ap, subst, ◌∙◌}
use Rattle.std.specs.Prelude.{if◌then◌else◌}
use Rattle.text_model.specs.Id.{Id}
use Rattle.git_model.specs.Order.{has}
use Rattle.git_store.proofs.DistinctLemmas.{fresh, again}
use Rattle.tag_rule.specs.Named.{names}
use Rattle.tag_rule.specs.Fates.{HasFate}
use Rattle.tag_rule.proofs.FateLemmas.{IsChain, first_of, first-push, chain-push, fate-commit, fate-other}
use Rattle.tag_rule.proofs.FollowLemmas.{put-has, more-has, fewer, names-closed, share-known, ended}
use Rattle.tag_rule.proofs.fates.Fates.follow.Goals as goal

pub returns-then-not-new : goal.returns-then-not-new
returns-then-not-new c =
    let named = names c.args.targets.now in
    let now = c.tags in
    let inv = c.tags.invariant in
    let leads = c.contains-leads.result in
    let there : has now.self.followed now.at ≡ true = again c.in_ok-new.new (has now.self.followed now.at) c.in_ok-new.ensures.new c.if-not-new.true in
    let same : c.insert.new.self ≡ now.self.followed =
    c.in_ok-new.ensures.ok ∙ ap (λ (b : Bool). if b then now.self.followed ++ now.at ∷ [] else now.self.followed) c.if-not-new.true in
    let share = share-known named c.args.self.now c.requires.right now.ids now.at inv.chain leads
    (c.contains-leads.ensures ∙ ap (λ (l : List Id). has l now.at) inv.leading) (sym (inv.followed now.at) ∙ there) in
    record {
      followed = λ id. ap (λ (l : List Id). has l id) same ∙ inv.followed id;
      leading = inv.leading;
      fate = subst (HasFate named leads) inv.first share.fate;
      fates = share.fates;
    }

pub returns-in-Commit : goal.returns-in-Commit
returns-in-Commit c =
    let named = names c.args.targets.now in
    let now = c.tags in
    let inv = c.tags.invariant in
    ended named c.args.self.now c.args.from now.self.followed now.ids now.at true c.insert.new.self now.self.leading c.push.new.self
    inv.chain inv.first (fate-commit named now.at (sym c.in-Commit.ensures)) inv.followed
    (put-has now.self.followed c.insert.new.self now.at c.in_ok-new.new c.in_ok-new.ensures.new c.in_ok-new.ensures.ok) c.in_ok-push.ensures.ok inv.leading

pub returns-in-Other : goal.returns-in-Other
returns-in-Other c =
    let named = names c.args.targets.now in
    let now = c.tags in
    let inv = c.tags.invariant in
    ended named c.args.self.now c.args.from now.self.followed now.ids now.at false c.insert.new.self now.self.leading c.push.new.self
    inv.chain inv.first (fate-other named now.at (sym c.in-Other.ensures)) inv.followed
    (put-has now.self.followed c.insert.new.self now.at c.in_ok-new.new c.in_ok-new.ensures.new c.in_ok-new.ensures.ok) c.in_ok-push.ensures.ok inv.leading

pub tags-smaller : goal.tags-smaller
tags-smaller c =
    let now = c.tags in
    fewer c.args.targets.now.came.now now.self.followed c.insert.new.self now.at now.invariant.here
    (fresh c.in_ok-new.new (has now.self.followed now.at) c.in_ok-new.ensures.new c.if-not-new.false)
    (put-has now.self.followed c.insert.new.self now.at c.in_ok-new.new c.in_ok-new.ensures.new c.in_ok-new.ensures.ok)

pub tags-preserved : goal.tags-preserved
tags-preserved c =
    let t = c.args.targets.now in
    let named = names t in
    let now = c.tags in
    let inv = c.tags.invariant in
    let next = c.in-Tag.next in
    let pushed : c.push.new.self ≡ now.ids ++ now.at ∷ [] = c.in_ok-push.ensures.ok in
    record {
      chain = subst (λ (l : List Id). IsChain named l next) (sym pushed) (chain-push named now.ids now.at next inv.chain (sym c.in-Tag.ensures));
      first = ap (λ (l : List Id). first_of l next) pushed ∙ sym (first-push now.ids now.at next) ∙ inv.first;
      here = names-closed t.store.now t.kept.now t.came.now now.at next (sym c.in-Tag.ensures);
      followed = more-has now.self.followed c.args.self.now.followed now.ids now.at c.insert.new.self c.push.new.self
          (put-has now.self.followed c.insert.new.self now.at c.in_ok-new.new c.in_ok-new.ensures.new c.in_ok-new.ensures.ok) pushed inv.followed;
      leading = inv.leading;
    }
