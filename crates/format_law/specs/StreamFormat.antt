-- What the outcome of a command over a stream says of its input, in the words of the format.
use Rattle.std.specs.Prelude.{◌≡◌, List, [], map}
use Rattle.text_model.specs.Text.{Bytes}
use Rattle.git_model.specs.Object.{Object}
use Rattle.git_model.specs.Stream.{Placed, IsFitStream, IsChecked, stream_listing}
use Rattle.saved_model.specs.Written.{object_counts}
use Rattle.git_batch.specs.Arrivals.{AddsAll}

-- the bytes are a stream within the limits, and the lines are those of its objects
pub record ListsStream (bytes output : Bytes) : Type 0 where
  pub placed : List Placed
  pub is : IsFitStream bytes (map (λ p. p.object) placed)
  pub lines : output ≡ stream_listing placed

-- the bytes are no stream within the limits
abbrev pub IsNoStream : Bytes → Type 0
IsNoStream bytes = (objects : List Object) → IsFitStream bytes objects → ⊥

-- a stream within the limits whose objects have the ids of their kinds and contents, of which none is refused behind those before it
pub record IsSoundStream (bytes : Bytes) (objects : List Object) : Type 0 where
  pub is : IsFitStream bytes objects
  pub checked : IsChecked objects
  pub added : AddsAll [] objects

-- the bytes are such a stream, and the counts are those of its objects
pub record CountsStream (bytes output : Bytes) : Type 0 where
  pub placed : List Placed
  pub is : IsSoundStream bytes (map (λ p. p.object) placed)
  pub counts : output ≡ object_counts placed

-- the bytes are no such stream
abbrev pub IsNoSoundStream : Bytes → Type 0
IsNoSoundStream bytes = (objects : List Object) → IsSoundStream bytes objects → ⊥
