use Rattle.std.proofs.Common.{◌-◌, List, length, true≢false, sym, ap, subst, ◌∙◌}
use Rattle.std.specs.Prelude.{slice_get}
use Rattle.std.specs.List.{list_all, AllZip}
use Rattle.text_model.specs.Id.{Id}
use Rattle.link_rule.specs.Links.{IsLinkOf, links_along}
use Rattle.link_rule.specs.declared.link.Link.{Link}
use Rattle.changeset_unmark.specs.Links.{is_known_link, has_node}
use Rattle.changeset_unmark.proofs.OctopusLemmas.{there, all-there, last-there}
use Rattle.changeset_unmark.proofs.octopus.are_links_known.Goals as goal

pub returns-then-not-are_known : goal.returns-then-not-are_known
returns-then-not-are_known c = λ base e.
    let nodes = c.args.nodes.now in
    let links = c.in_ok-links.links.items in
    let zip = subst (λ (x : Id). AllZip IsLinkOf c.in_ok-links.links.items (links_along x base (length c.args.nodes.now) c.args.nodes.now)) c.in_ok-id_of.ensures (c.in_ok-links.ensures base e) in
    let test = sym (c.are_known.ensures ∙ ap (list_all (is_known_link c.args.store.now)) c.as_slice.ensures.value) ∙ c.if-not-are_known.true in (
      (λ t. absurd (true≢false (sym t))),
      (λ are. absurd (true≢false (sym (all-there c.args.store.now links _ c.args.last.now zip are) ∙ test))),
    )

pub returns : goal.returns
returns c = λ base e.
    let links = c.in_ok-links.links.items in
    let zip = subst (λ (x : Id). AllZip IsLinkOf c.in_ok-links.links.items (links_along x base (length c.args.nodes.now) c.args.nodes.now)) c.in_ok-id_of.ensures (c.in_ok-links.ensures base e) in
    let all = sym (c.are_known.ensures ∙ ap (list_all (is_known_link c.args.store.now)) c.as_slice.ensures.value) ∙ c.if-not-are_known.false in
    let end = c.ends_at.ensures ∙ ap (λ (l : List Link). has_node c.args.last.now (slice_get l (length l - 1))) c.as_slice-2.ensures.value in (
      (λ t. there c.args.store.now links _ c.args.last.now zip all (sym end ∙ t)),
      (λ are. end ∙ last-there c.args.store.now links _ c.args.last.now zip are),
    )
