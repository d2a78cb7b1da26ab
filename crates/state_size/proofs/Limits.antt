-- When the first blocks of a state pass a limit.
use Rattle.std.proofs.Common.{◌≡◌, ℕ, ◌<◌, ◌≤◌, Bool, true, false, List, length, take, sym, arith}
use Rattle.std.specs.Prelude.{nat_lt}
use Rattle.std.proofs.lemmas.Bool.{lt-ltb, le-ltb}
use Rattle.git_model.specs.Object.{Object}
use Rattle.pair_model.specs.Block.{Block, changesets_in, commits_in}
use Rattle.state_model.specs.Limits.{changeset_limit}
use Rattle.state_model.specs.Saved.{passes_limit}
use Rattle.pair_state.specs.Blocks.{IsStateOf}
use Rattle.pair_state.specs.declared.state_parts.StateParts.{StateParts}
use Rattle.state_size.specs.Sizes.{count_of, is_bundle_large, is_stream_large}
use Rattle.state_size.proofs.Objects.{any-first, any-middle, any-last}
use Rattle.state_size.proofs.Prefixes.{count-is}

module _ (s : StateParts) (blocks : List Block) (state : IsStateOf s blocks) (tags : List Object) (n : ℕ) where
  abbrev passes : Bool
  passes = passes_limit (record { blocks = take n blocks; tags = tags })

  abbrev bundle : Bool
  bundle = is_bundle_large (changesets_in (take n blocks))

  abbrev stream : Bool
  stream = is_stream_large (commits_in (take n blocks)) tags

  abbrev many : Bool
  many = nat_lt changeset_limit (length (changesets_in (take n blocks)))

  pub has-many : changeset_limit < count_of (take n s.blocks) → true ≡ passes
  has-many more = sym (any-last bundle stream many (lt-ltb changeset_limit (length (changesets_in (take n blocks))) (omega (arith, more, count-is s blocks state n))))

  pub has-large-bundle : bundle ≡ true → true ≡ passes
  has-large-bundle large = sym (any-first bundle stream many large)

  pub is-stream : count_of (take n s.blocks) ≤ changeset_limit → bundle ≡ false → stream ≡ passes
  is-stream few small = any-middle bundle stream many small (le-ltb changeset_limit (length (changesets_in (take n blocks))) (omega (arith, few, count-is s blocks state n)))
