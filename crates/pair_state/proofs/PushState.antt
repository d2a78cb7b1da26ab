-- A block comes to the parts of a state, and so to the state.
use Rattle.std.proofs.Common.{◌≡◌, List, [], ◌∷◌, ◌++◌, sym, subst}
use Rattle.std.specs.Prelude.{IsTrue}
use Rattle.pair_model.specs.Block.{Block}
use Rattle.pair_known.specs.declared.hg_block.HgBlock.{HgBlock}
use Rattle.pair_known.specs.declared.git_draft.GitDraft.{GitDraft}
use Rattle.pair_state.specs.AllBlocks.{HasAllBlocks}
use Rattle.pair_state.specs.Push.{PushesBlock, BlockPushed, block_collides}
use Rattle.pair_state.specs.declared.state_parts.StateParts.{StateParts}
use Rattle.pair_state.proofs.AllBlocks.{all-pushed}

abbrev Pushes : StateParts → HgBlock → GitDraft → Type 0
Pushes s h d = (blocks : List Block) × (b : Block) × PushesBlock s h d blocks b

abbrev Pushed : StateParts → HgBlock → GitDraft → StateParts → Type 0
Pushed s h d next = (blocks : List Block) (b : Block) → PushesBlock s h d blocks b → BlockPushed s next blocks b

abbrev Collides : StateParts → HgBlock → GitDraft → Type 0
Collides s h d = (blocks : List Block) (b : Block) → PushesBlock s h d blocks b → IsTrue (block_collides s.known.hg s.known.git blocks b)

next-history : (s next : StateParts) (h : HgBlock) (d : GitDraft) → (blocks : List Block) × HasAllBlocks s blocks → Pushes s h d → Pushed s h d next → (blocks : List Block) × HasAllBlocks next blocks
next-history s next h d history x pushed =
    let blocks = x.0 in
    let b = x.1 in
    let done = pushed blocks b x.2 in
    (blocks ++ b ∷ [], all-pushed s next history.0 blocks b history.1 (x.2).brings.state done.state done.revisions)

module _ (s parts : StateParts) (same : parts ≡ s) (h : HgBlock) (d : GitDraft) where
  pub parts-push : Pushes s h d → Pushes parts h d
  parts-push x = subst (λ (t : StateParts). Pushes t h d) (sym same) x

  pub parts-history : (next : StateParts) → Pushes s h d → (blocks : List Block) × HasAllBlocks parts blocks → Pushed parts h d next → (blocks : List Block) × HasAllBlocks next blocks
  parts-history next x history pushed = next-history parts next h d history (parts-push x) pushed

  pub collides-state : Collides parts h d → Collides s h d
  collides-state c = subst (λ (t : StateParts). Collides t h d) same c

  pub pushed-state : (next last : StateParts) → last ≡ next → Pushed parts h d next → Pushed s h d last
  pushed-state next last end pushed = subst (λ (t : StateParts). Pushed s h d t) (sym end) (subst (λ (t : StateParts). Pushed t h d next) same pushed)
