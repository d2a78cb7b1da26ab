use Rattle.std.proofs.Common.{◌≡◌, List, Some, slice_get, sym, ap, ◌∙◌}
use Rattle.std.proofs.lemmas.Option.{slice_get-get_or}
use Rattle.text_model.specs.Id.{Id}
use Rattle.pair_known.specs.Partners.{git_at, hg_at}
use Rattle.pair_state.specs.declared.blocks.Block.{Block}
use Rattle.state_text.proofs.Distinct.{git-free, hg-free}
use Rattle.state_text.proofs.blocks.partners_of.Goals as goal

-- the block of a place, as the list that was borrowed says
at-place : (list blocks : List Block) (i : _) (b : Block) → list ≡ blocks → slice_get list i ≡ Some b → slice_get blocks i ≡ Some b
at-place list blocks i b same at = ap (λ (l : List Block). slice_get l i) (sym same) ∙ at

pub add-requires-clause-node_is_free : goal.add-requires-clause-node_is_free
add-requires-clause-node_is_free c =
    let blocks = c.args.blocks.now in
    let list = c.as_slice-block-items.result.now in
    let i = c.loop-block.block-index in
    let b = c.block-item.result in
    let at = at-place list blocks i b c.as_slice-block-items.ensures (slice_get-get_or list i b c.loop-block-test.true ∙ ap Some (sym c.block-item.is)) in
    ap (λ (l : List (Id × Id)). git_at l b.node) c.loop-block.invariant ∙ git-free (λ (x : Block). x.node) (λ (x : Block). x.commit) blocks i b c.requires.nodes at

pub add-requires-clause-id_is_free : goal.add-requires-clause-id_is_free
add-requires-clause-id_is_free c =
    let blocks = c.args.blocks.now in
    let list = c.as_slice-block-items.result.now in
    let i = c.loop-block.block-index in
    let b = c.block-item.result in
    let at = at-place list blocks i b c.as_slice-block-items.ensures (slice_get-get_or list i b c.loop-block-test.true ∙ ap Some (sym c.block-item.is)) in
    ap (λ (l : List (Id × Id)). hg_at l b.commit) c.loop-block.invariant ∙ hg-free (λ (x : Block). x.node) (λ (x : Block). x.commit) blocks i b c.requires.commits at
