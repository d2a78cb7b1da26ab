use Rattle.std.proofs.Common.{◌∙◌, ap, length, arith}
use Rattle.std.proofs.lemmas.Result.{IfOk-weaker}
use Rattle.pair_known.specs.declared.git_draft.GitDraft.{GitDraft}
use Rattle.pull_bundle.proofs.PutLemmas.{link-nodes, no-nodes}
use Rattle.pull_bundle.proofs.take.links_for.Goals as goal

pub returns-then-len-le2 : goal.returns-then-len-le2
returns-then-len-le2 c = λ blocks v made chosen.
    let n = c.len.ensures ∙ ap (λ (d : GitDraft). length (d.commit).parents) c.commit.view_is in
    no-nodes c.args.known.now blocks v c.args.commit.now made chosen (omega (arith, n, c.if-len-le2.true)) c.new.result c.new.ensures

pub link_nodes-requires : goal.link_nodes-requires
link_nodes-requires c =
    let p = c.requires.chosen in
    let n = c.len.ensures ∙ ap (λ (d : GitDraft). length (d.commit).parents) c.commit.view_is in
    record { over = (p.0, p.2, link-nodes c.args.known.now p.0 p.1 c.args.commit.now p.2 p.3 (omega (arith, n, c.if-len-le2.false))) }

pub returns : goal.returns
returns c =
    let n = c.len.ensures ∙ ap (λ (d : GitDraft). length (d.commit).parents) c.commit.view_is in
    IfOk-weaker c.link_nodes.result _ _ (λ nodes h blocks v made chosen. h blocks made (link-nodes c.args.known.now blocks v c.args.commit.now made chosen (omega (arith, n, c.if-len-le2.false)))) c.link_nodes.ensures
