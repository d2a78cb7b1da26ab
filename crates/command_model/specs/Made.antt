-- What is counted of a history that is made from two numbers: it is pulled into an empty state, and what that state writes for the other side into
-- another. All of it is this project's own.
use Rattle.std.specs.Prelude.{◌≡◌, ◌≤◌, ◌<◌, ◌⊎◌, ℕ, ◌-◌, Bool, true, false, not, ◌==◌, List, [], ◌∷◌, ◌++◌, length, slice_get, Option, option_map, unwrap_or, codes, count_by}
use Rattle.text_model.specs.Text.{Bytes, line, spaced}
use Rattle.text_model.specs.Id.{Id, null, hex}
use Rattle.text_model.specs.Fault.{Refusal, CountLimit, Collision, refusal_at}
use Rattle.git_model.specs.Stream.{stream_text}
use Rattle.view_model.specs.View.{CommitView}
use Rattle.pair_model.specs.Block.{Block, node_of, id_of, changesets_in, commits_in}
use Rattle.state_model.specs.Kept.{Kept, kept_of, empty_state, git_dump}
use Rattle.saved_model.specs.Step.{OfBundle, OfStream, Steps, Refuses}
use Rattle.saved_model.specs.Written.{count_line}
use Rattle.make_model.specs.Dump.{most_changesets, made_collides, made_bundle}

-- ---- what is printed

-- the commit is a marked one: it has headers
abbrev pub is_marked : CommitView → Bool
is_marked c = not (length (c.value).headers == 0)

abbrev pub last_block : List Block → Option Block
last_block blocks = slice_get blocks (length blocks - 1)

-- the id of either side of a block; null where there is none
abbrev pub id_or_null : (Block → Id) → Option Block → Id
id_or_null side block = unwrap_or (option_map side block) null

-- `last NODE ID`
abbrev pub last_line : Id → Id → Bytes
last_line node id = line (spaced (codes "last" ∷ hex node ∷ hex id ∷ []))

-- how many changesets and commits the blocks have, how many of the commits are marked, and the ids of the last block
abbrev pub made_lines : List Block → Bytes
made_lines blocks =
    count_line (codes "changesets") (length (changesets_in blocks))
    ++ (count_line (codes "commits") (length (commits_in blocks))
    ++ (count_line (codes "marked") (count_by is_marked (commits_in blocks))
    ++ last_line (id_or_null node_of (last_block blocks)) (id_or_null id_of (last_block blocks))))

-- ---- both pulls

-- the stream that is written of a history
abbrev pub stream_of : Kept → Bytes
stream_of k = git_dump (commits_in k.blocks) ++ stream_text k.tags

-- the bundle of the history is taken into an empty state, whose stream is taken into another one, of which the output tells
pub record MakesCounts (n seed : ℕ) (output : Bytes) : Type 0 where
  pub few : n ≤ most_changesets
  pub apart : made_collides n seed ≡ false
  pub first : Kept
  pub stream : Bytes
  pub takes : Steps (kept_of empty_state) (OfBundle (made_bundle n seed)) first stream
  pub second : Kept
  pub bundle : Bytes
  pub again : Steps (kept_of empty_state) (OfStream (stream_of first)) second bundle
  pub lines : output ≡ made_lines second.blocks

-- the pull of the bundle is refused, or else that of the stream
abbrev pub RefusesPulls : ℕ → ℕ → Refusal → Type 0
RefusesPulls n seed why =
    Refuses (kept_of empty_state) (OfBundle (made_bundle n seed)) why
    ⊎ ((first : Kept) × (stream : Bytes) × Steps (kept_of empty_state) (OfBundle (made_bundle n seed)) first stream
    × Refuses (kept_of empty_state) (OfStream (stream_of first)) why)

-- More changesets are asked for than a history has, or else two of its revisions have one id, or else a pull is refused.
abbrev pub RefusesMake : ℕ → ℕ → Refusal → Type 0
RefusesMake n seed why =
    ((most_changesets < n) × (why ≡ refusal_at CountLimit 0))
    ⊎ ((n ≤ most_changesets) × (made_collides n seed ≡ true) × (why ≡ refusal_at Collision 0))
    ⊎ ((n ≤ most_changesets) × (made_collides n seed ≡ false) × RefusesPulls n seed why)
