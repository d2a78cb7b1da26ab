use Rattle.std.proofs.Common.{◌<◌, List, [], length, map, sym, ap, subst, ◌∙◌}
use Rattle.std.specs.List.{AllZip}
use Rattle.std.proofs.lemmas.Result.{IfOk-weaker}
use Rattle.std.specs.Prelude.{unwrap_or}
use Rattle.text_model.specs.Id.{Id, null}
use Rattle.pair_known.specs.Partners.{hg_at}
use Rattle.pair_known.specs.declared.git_draft.GitDraft.{GitDraft}
use Rattle.link_rule.specs.Links.{IsLinkOf}
use Rattle.link_rule.specs.declared.link.Link.{Link}
use Rattle.link_rule.proofs.ChainLemmas.{none, nodes-are, base, at-first, base-at, chained}
use Rattle.link_rule.proofs.chain.chain_of.Goals as goal

pub returns-then-parents-lt3 : goal.returns-then-parents-lt3
returns-then-parents-lt3 c = λ blocks v over.
    let ids = c.as_slice-parents.ensures ∙ ap (λ (d : GitDraft). (d.commit).parents) c.c.view_is in
    let few = subst (λ (l : List Id). length l < 3) ids c.if-parents-lt3.true in
    subst (AllZip IsLinkOf c.new.result.items) (sym (none c.args.known.now blocks c.args.c.now v over few))
    (subst (λ (l : List Link). AllZip IsLinkOf l []) (sym c.new.ensures.items) tt)

pub parent_of-requires : goal.parent_of-requires
parent_of-requires c =
    let blocks = c.requires.over.0 in
    let v = c.requires.over.1 in
    let over = c.requires.over.2 in
    let ids = c.as_slice-parents.ensures ∙ ap (λ (d : GitDraft). (d.commit).parents) c.c.view_is in
    let nodes = c.in_ok-partners.ensures ∙ ap (λ (l : List Id). map (λ id. unwrap_or (hg_at c.args.known.now.partners id) null) l) ids ∙ nodes-are c.args.known.now blocks c.args.c.now v over in
    record { known = (base c.args.known.now blocks c.args.c.now v over, base-at c.args.known.now blocks c.args.c.now v over c.at.result.now (at-first c.args.known.now blocks c.args.c.now v over _ _ nodes c.at.ensures)) }

pub returns : goal.returns
returns c =
    IfOk-weaker c.links.result _ _ (λ links all blocks v over.
    let k = c.args.known.now in
    let d = c.args.c.now in
    let ids = c.as_slice-parents.ensures ∙ ap (λ (x : GitDraft). (x.commit).parents) c.c.view_is in
    let nodes = c.in_ok-partners.ensures ∙ ap (λ (l : List Id). map (λ id. unwrap_or (hg_at k.partners id) null) l) ids ∙ nodes-are k blocks d v over in
    let parent = c.parent_of.ensures.view (base k blocks d v over) (base-at k blocks d v over c.at.result.now (at-first k blocks d v over _ _ nodes c.at.ensures)) in
    chained k blocks d v over c.as_slice.result.now c.in_ok-id_of.field-0 _ c.parent_of.result.manifest_node links.items (c.as_slice.ensures ∙ nodes) c.in_ok-id_of.ensures (ap (length {A = Id}) ids) (sym parent.node) all) c.links.ensures
