-- Each block has one commit, and one changeset that is no link.
use Rattle.std.proofs.Common.{◌≡◌, suc, List, [], ◌∷◌, length, map, refl, sym, ap, ◌∙◌}
use Rattle.view_model.specs.View.{ChangesetView}
use Rattle.pair_model.specs.Block.{Block, changesets_in, commits_in}
use Rattle.state_model.specs.Text.{no_links}
use Rattle.state_model.specs.Saved.{AreBlocks}
use Rattle.dump_law.proofs.Blocks.{no_links-blocks}

as-many : (blocks : List Block) → length (commits_in blocks) ≡ length (map (λ (b : Block). b.changeset) blocks)
as-many [] = refl
as-many (b ∷ blocks) = ap (λ n. suc n) (as-many blocks)

pub pairs-count : (blocks : List Block) → AreBlocks blocks → length (commits_in blocks) ≡ length (no_links (changesets_in blocks))
pairs-count blocks h = as-many blocks ∙ ap (λ (hs : List ChangesetView). length hs) (sym (no_links-blocks blocks h))
