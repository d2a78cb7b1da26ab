-- How many bytes the dumps of a saved state take.
use Rattle.std.specs.Prelude.{◌≡◌, length}
use Rattle.git_model.specs.Stream.{stream_text}
use Rattle.pair_model.specs.Block.{changesets_in, commits_in}
use Rattle.state_model.specs.Kept.{Kept, hg_dump, git_dump}
use Rattle.state_text.specs.declared.sizes.Sizes.{Sizes}

-- the sizes are those of the bundle of the changesets, of the stream of the commits, and of the tags behind it
pub record AreSizes (k : Kept) (sizes : Sizes) : Type 0 where
  pub bundle : sizes.bundle ≡ length (hg_dump (changesets_in k.blocks))
  pub stream : sizes.stream ≡ length (git_dump (commits_in k.blocks))
  pub tags : sizes.tags ≡ length (stream_text k.tags)
