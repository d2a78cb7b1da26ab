use Rattle.std.proofs.Common.{List, sym, ap, ◌∙◌}
use Rattle.std.proofs.lemmas.Result.{IfOk-weaker}
use Rattle.std.specs.Prelude.{slice_get}
use Rattle.link_rule.specs.declared.link.Link.{Link}
use Rattle.pair_model.specs.Octopus.{links_of}
use Rattle.hg_view.proofs.Right.{held-is_view}
use Rattle.link_rule.proofs.HasViews.{has-view}
use Rattle.link_rule.proofs.ChainLemmas.{base, overs, first-held}
use Rattle.link_rule.proofs.links.links_of.Goals as goal

pub draft_of_changeset-requires : goal.draft_of_changeset-requires
draft_of_changeset-requires c =
    let k = c.args.known.now in
    let blocks = c.requires.over.0 in
    let v = c.requires.over.1 in
    let over = c.requires.over.2 in
    let at = ap (λ (l : List Link). slice_get l 0) (sym c.deref.ensures.value) ∙ sym c.in-Some.ensures.value in
    record { view = has-view k.hg over.history.added c.in-Some.first.now.p (base k blocks c.args.c.now v over) (first-held k blocks c.args.c.now v over c.in_ok-links.links.items c.in-Some.first.now (c.in_ok-links.ensures blocks v over) at) }

pub returns : goal.returns
returns c =
    IfOk-weaker c.drafts_over.result _ _ (λ drafts all blocks v over.
    let k = c.args.known.now in
    let at = ap (λ (l : List Link). slice_get l 0) (sym c.deref.ensures.value) ∙ sym c.in-Some.ensures.value in
    let held = first-held k blocks c.args.c.now v over c.in_ok-links.links.items c.in-Some.first.now (c.in_ok-links.ensures blocks v over) at in
    let b = base k blocks c.args.c.now v over in
    all k.hg b (links_of blocks v) (c.in_ok-base.ensures.draft b held) c.in_ok-base.ensures.nothing_fresh (held-is_view k.hg over.history.added c.in-Some.first.now.p b held)
    (c.in_ok-links.ensures blocks v over) (overs k blocks c.args.c.now v over)) c.drafts_over.ensures
