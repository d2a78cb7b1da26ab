use Rattle.std.proofs.Common.{◌≡◌, ◌∷◌, List, map, sym, ap, subst, ◌∙◌}
use Rattle.std.specs.Prelude.{unwrap_or, if◌then◌else◌}
use Rattle.text_model.specs.Id.{Id, null, has_id}
use Rattle.pair_model.specs.Octopus.{parents_of_commit, first_of, second_of, last_id}
use Rattle.pair_known.specs.Partners.{hg_at}
use Rattle.pair_known.specs.declared.git_draft.GitDraft.{GitDraft}
use Rattle.link_rule.proofs.ChainLemmas.{nodes-are}
use Rattle.changeset_rule.specs.Parents.{HasFilesAt}
use Rattle.changeset_rule.proofs.ParentLemmas.{nodes, last-is, p-is, q-is, first-at, second-at}
use Rattle.changeset_rule.proofs.parents.parent_nodes.Goals as goal

pub returns : goal.returns
returns c = λ blocks v over.
    let k = c.args.known.now in
    let d = c.args.c.now in
    let ps = parents_of_commit blocks v in
    let partners = λ (l : List Id). map (λ id. unwrap_or (hg_at k.partners id) null) l in
    let of = ap partners (c.as_slice-parents.ensures ∙ ap (λ (x : GitDraft). (x.commit).parents) c.c.view_is) ∙ nodes-are k blocks d v over in
    let links = c.in_ok-links.ensures blocks v over in
    let first : c.first_partner-first.result ≡ first_of (nodes k blocks d v over) = c.first_partner-first.ensures ∙ ap first_of of in
    let last : c.last_partner-p2.result ≡ second_of (nodes k blocks d v over) = c.last_partner-p2.ensures ∙ ap second_of of in
    record {
      parents = (
        c.last_or.ensures ∙ last-is c.first_partner-first.result c.in_ok-links.links ∙ (λ i. last_id (first i ∷ links i)) ∙ sym (p-is k blocks d v over),
        last ∙ sym (q-is k blocks d v over),
      );
      first = subst (λ (x : Id). HasFilesAt k.hg x ps.first) (sym first) (first-at k blocks d v over);
      second = subst (λ (x : Id). HasFilesAt k.hg x ps.second) (sym (c.stored_at.ensures ∙ (λ i. if has_id (links i) (last i) then first i else last i))) (second-at k blocks d v over);
    }
