use Rattle.std.proofs.Common.{◌≡◌, ◌==◌, true, eqb-true, List, [], ◌∷◌, length, refl, sym, ap, ◌∙◌, arith}
use Rattle.text_model.specs.Id.{Id}
use Rattle.pair_known.specs.declared.git_draft.GitDraft.{GitDraft}
use Rattle.pull_bundle.proofs.PutLemmas.{link-nodes, no-nodes}
use Rattle.state_audit.proofs.kept.has_links.Goals as goal

empty-is : (ids : List Id) → (length ids == 0) ≡ true → ids ≡ []
empty-is [] h = refl
empty-is (id ∷ ids) h = absurd (omega (arith, eqb-true (length (id ∷ ids)) 0 h))

pub returns-then-len-le2 : goal.returns-then-len-le2
returns-then-len-le2 c = λ blocks v made chosen.
    let n = c.len.ensures ∙ ap (λ (d : GitDraft). length (d.commit).parents) c.partner.view_is in
    let none = no-nodes c.args.known.now blocks v c.args.partner.now made chosen (omega (arith, n, c.if-len-le2.true)) [] refl in (
      (λ t. empty-is c.args.links.now (sym c.is_empty.ensures ∙ t) ∙ none),
      (λ same. c.is_empty.ensures ∙ ap (λ (ids : List Id). length ids == 0) (same ∙ sym none)),
    )

pub link_nodes-requires : goal.link_nodes-requires
link_nodes-requires c =
    let p = c.requires.chosen in
    let n = c.len.ensures ∙ ap (λ (d : GitDraft). length (d.commit).parents) c.partner.view_is in
    record { over = (p.0, p.2, link-nodes c.args.known.now p.0 p.1 c.args.partner.now p.2 p.3 (omega (arith, n, c.if-len-le2.false))) }

pub returns : goal.returns
returns c = λ blocks v made chosen.
    let n = c.len.ensures ∙ ap (λ (d : GitDraft). length (d.commit).parents) c.partner.view_is in
    let is = c.in_ok-nodes.ensures blocks made (link-nodes c.args.known.now blocks v c.args.partner.now made chosen (omega (arith, n, c.if-len-le2.false))) in
    ((λ t. c.are_same_nodes.ensures.0 t ∙ is), (λ same. c.are_same_nodes.ensures.1 (same ∙ sym is)))
