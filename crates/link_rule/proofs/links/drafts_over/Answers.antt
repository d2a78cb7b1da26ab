use Rattle.std.proofs.Common.{◌≡◌, ◌∷◌, [], ◌++◌, List, sym, ap, subst, ◌∙◌, append_assoc, append-nil, arith}
use Rattle.std.specs.List.{AllZip}
use Rattle.std.proofs.lemmas.List.{nil_from_length}
use Rattle.link_rule.specs.declared.link.Link.{Link}
use Rattle.link_rule.proofs.LinkLemmas.{zip-push}
use Rattle.link_rule.proofs.DraftLemmas.{IsDraftOf, all-made}
use Rattle.link_rule.proofs.links.drafts_over.Goals as goal

pub loop-link-preserved : goal.loop-link-preserved
loop-link-preserved c =
    let l = c.loop-link in
    let o = c.in-Some.link in (
      tt,
      tt,
      l.invariant.2 ∙ ap (λ r. l.yielded ++ r) c.in-Some.ensures.steps.0 ∙ sym (append_assoc l.yielded (o ∷ []) _),
      subst (AllZip (IsDraftOf c.args.base.now) (l.yielded ++ o ∷ [])) (sym c.in_ok-push.ensures.ok)
          (zip-push (IsDraftOf c.args.base.now) l.yielded l.drafts o c.in_ok-draft.draft l.invariant.3 (c.in_ok-draft.ensures.made, c.in_ok-draft.ensures.nothing_fresh)),
    )

pub returns : goal.returns
returns c = λ known b ls draft none view is over.
    let l = c.loop-link in
    let empty : l.link-iterator.rest.items ≡ [] = nil_from_length l.link-iterator.rest.items (omega (arith, c.in-None.ensures.steps.0, l.link-iterator.rest.ok)) in
    let yielded : l.yielded ≡ c.args.links.items =
    sym (append-nil l.yielded) ∙ ap (λ r. l.yielded ++ r) (sym empty) ∙ sym l.invariant.2 ∙ c.into_iter-link-iterator.ensures.into_iter_gives.0 in
    all-made known b c.args.base.now c.args.links.items l.drafts ls draft none view (subst (λ (ks : List Link). AllZip (IsDraftOf c.args.base.now) ks l.drafts) yielded l.invariant.3) is over
