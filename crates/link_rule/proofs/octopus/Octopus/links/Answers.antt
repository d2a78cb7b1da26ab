use Rattle.std.proofs.Common.{[], List, sym, refl, subst}
use Rattle.std.specs.List.{AllZip}
use Rattle.link_rule.specs.Links.{IsLinkOf}
use Rattle.link_rule.specs.declared.link.Link.{Link}
use Rattle.link_rule.proofs.LinkLemmas.{links-none, links-some, more, all}
use Rattle.link_rule.proofs.octopus.Octopus.links.Goals as goal

pub returns-in_default : goal.returns-in_default
returns-in_default c = λ base is.
    subst (AllZip IsLinkOf c.new-links.result.items) (sym (links-none c.args.self.now.commit base c.args.self.now.count c.args.partners.now c.in_default.len_below))
    (subst (λ (l : List Link). AllZip IsLinkOf l []) (sym c.new-links.ensures.items) tt)

pub loop-place-init : goal.loop-place-init
loop-place-init c = λ base is. record { done = []; are = subst (λ (l : List Link). AllZip IsLinkOf l []) (sym c.new-links.ensures.items) tt; left = refl }

pub loop-place-preserved : goal.loop-place-preserved
loop-place-preserved c = λ base is.
    more c.args.self.now.commit base c.args.self.now.count c.loop-place.links.items c.push.new.self.items c.in_ok-link.link c.loop-place.place c.loop-place.before c.index-seconds-place.result _ _
    c.in_ok-push.ensures.items (c.loop-place.invariant base is) c.loop-place-test.true c.index-seconds-place.is (c.in_ok-link.ensures base is)

pub returns : goal.returns
returns c = λ base is.
    subst (AllZip IsLinkOf c.loop-place.links.items) (sym (links-some c.args.self.now.commit base c.args.self.now.count c.args.partners.now c.first-item.result c.in-len2-up.len_at_least c.first-item.is))
    (all c.args.self.now.commit base c.args.self.now.count c.loop-place.links.items _ _ _ _ _ (c.loop-place.invariant base is) c.loop-place-test.false)
