use Rattle.std.proofs.Common.{◌≡◌, ◌<◌, ◌++◌, List, [], ◌∷◌, length, Some, slice_get, sym, ap, ◌∙◌, arith}
use Rattle.std.proofs.lemmas.Option.{slice_get-get_or}
use Rattle.pair_state.specs.declared.blocks.Block.{Block}
use Rattle.state_text.specs.Sections.{paired}
use Rattle.state_text.proofs.BlockLemmas.{paired-more}
use Rattle.state_text.proofs.blocks.blocks_of.Goals as goal

pub loop-i-init : goal.loop-i-init
unfolding paired
loop-i-init c = c.new-blocks.ensures

pub loop-i-preserved : goal.loop-i-preserved
loop-i-preserved c =
    let heads = c.args.heads.now in
    let commits = c.args.commits.now in
    let i = c.loop-i.i in
    let head = c.index-heads-i.result in
    let commit = c.index-commits-i.result in
    let below : i < length heads = omega arith in
    let within : i < length commits = omega arith in
    let at_head : slice_get heads i ≡ Some head = slice_get-get_or heads i head below ∙ ap Some (sym c.index-heads-i.is) in
    let at_commit : slice_get commits i ≡ Some commit = slice_get-get_or commits i commit within ∙ ap Some (sym c.index-commits-i.is) in
    c.in_ok-push.ensures.ok ∙ ap (λ (l : List Block). l ++ record { node = head.node; commit = commit; links = head.links } ∷ []) c.loop-i.invariant
    ∙ sym (paired-more heads commits i head commit c.requires at_head at_commit)
