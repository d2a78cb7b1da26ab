use Rattle.std.proofs.Common.{refl, ap, ◌∙◌}
use Rattle.pair_state.specs.declared.state_parts.StateParts.{StateParts}
use Rattle.state_text.proofs.Assembled.{IsMadeOf, stands, has-blocks, exactly}
use Rattle.state_text.proofs.assemble.assemble.Goals as goal

pub from_parts-requires : goal.from_parts-requires
from_parts-requires c =
    let s : StateParts = record {
      known = record { hg = c.into_store.result; git = c.into_parts-git.result.0; partners = c.into_parts-partners.result.0 };
      blocks = c.args.blocks;
      changesets = c.in_ok-changesets.changesets;
      commits = c.into_parts-git.result.1;
      tags = c.into_parts-git.result.2;
      names = c.into_parts-partners.result.1;
      agreed = c.new.result;
      alloc = c.args.alloc;
    } in
    let made : IsMadeOf s c.args.hg c.args.blocks c.args.tags c.args.named.names = record {
      hg_is = c.into_store.ensures;
      git_is = c.into_parts-git.ensures.store;
      partners_are = c.into_parts-partners.ensures.partners ∙ c.requires.partners;
      blocks_are = refl;
      changesets_are = c.in_ok-changesets.ensures ∙ c.as_slice.ensures;
      commits_are = c.into_parts-git.ensures.ids;
      tags_are = c.into_parts-git.ensures.tags;
      names_are = c.into_parts-partners.ensures.names;
      none_agreed = c.new.ensures;
    } in
    record { history = has-blocks s c.args.hg c.args.blocks c.args.tags c.args.named.names c.requires.sections.0 c.requires.sections.1 made }

pub returns-clause-stands : goal.returns-clause-stands
returns-clause-stands c =
    let s = c.from_parts.result in
    let e = c.from_parts.ensures in
    let made : IsMadeOf s c.args.hg c.args.blocks c.args.tags c.args.named.names = record {
      hg_is = ap (λ (x : StateParts). x.known.hg) e ∙ c.into_store.ensures;
      git_is = ap (λ (x : StateParts). x.known.git) e ∙ c.into_parts-git.ensures.store;
      partners_are = ap (λ (x : StateParts). x.known.partners) e ∙ c.into_parts-partners.ensures.partners ∙ c.requires.partners;
      blocks_are = ap (λ (x : StateParts). x.blocks) e;
      changesets_are = ap (λ (x : StateParts). x.changesets) e ∙ c.in_ok-changesets.ensures ∙ c.as_slice.ensures;
      commits_are = ap (λ (x : StateParts). x.commits) e ∙ c.into_parts-git.ensures.ids;
      tags_are = ap (λ (x : StateParts). x.tags) e ∙ c.into_parts-git.ensures.tags;
      names_are = ap (λ (x : StateParts). x.names) e ∙ c.into_parts-partners.ensures.names;
      none_agreed = ap (λ (x : StateParts). x.agreed) e ∙ c.new.ensures;
    } in
    (λ m a. stands s c.args.hg c.args.blocks c.args.tags c.args.named.names m a made)

pub returns-clause-exactly : goal.returns-clause-exactly
returns-clause-exactly c =
    let s = c.from_parts.result in
    let e = c.from_parts.ensures in
    let made : IsMadeOf s c.args.hg c.args.blocks c.args.tags c.args.named.names = record {
      hg_is = ap (λ (x : StateParts). x.known.hg) e ∙ c.into_store.ensures;
      git_is = ap (λ (x : StateParts). x.known.git) e ∙ c.into_parts-git.ensures.store;
      partners_are = ap (λ (x : StateParts). x.known.partners) e ∙ c.into_parts-partners.ensures.partners ∙ c.requires.partners;
      blocks_are = ap (λ (x : StateParts). x.blocks) e;
      changesets_are = ap (λ (x : StateParts). x.changesets) e ∙ c.in_ok-changesets.ensures ∙ c.as_slice.ensures;
      commits_are = ap (λ (x : StateParts). x.commits) e ∙ c.into_parts-git.ensures.ids;
      tags_are = ap (λ (x : StateParts). x.tags) e ∙ c.into_parts-git.ensures.tags;
      names_are = ap (λ (x : StateParts). x.names) e ∙ c.into_parts-partners.ensures.names;
      none_agreed = ap (λ (x : StateParts). x.agreed) e ∙ c.new.ensures;
    } in
    (λ m a. exactly s c.args.hg c.args.blocks c.args.tags c.args.named.names m a made)
