-- A stream, one object at a time.
use Rattle.std.proofs.Common.{◌≡◌, ℕ, suc, ◌+◌, ◌++◌, length, None, Some, refl}
use Rattle.std.proofs.lemmas.List.{drop_at}
use Rattle.text_model.specs.Text.{Bytes}
use Rattle.text_model.specs.Fault.{Refusal}
use Rattle.git_model.specs.Object.{Object}
use Rattle.git_model.specs.Stream.{object_text, no_more, put_placed, NoObject, Found, BadObject, object_reading, stream_from}

-- nothing is read behind an object that is refused
pub stream_refused : (n at : ℕ) (bytes : Bytes) (why : Refusal) → object_reading at bytes ≡ BadObject why → stream_from (suc n) at bytes ≡ no_more (Some why)
unfolding stream_from
stream_refused n at bytes why refused = rw (refused, stream_from) refl

pub stream_item : (n at : ℕ) (rest : Bytes) (o : Object) → object_reading at (object_text o ++ rest) ≡ Found o
    → stream_from (suc n) at (object_text o ++ rest) ≡ put_placed (record { object = o; at = at }) (stream_from n (at + length (object_text o)) rest)
unfolding stream_from
stream_item n at rest o found = rw (found, drop_at (object_text o) rest (length (object_text o)) refl, stream_from) refl

pub stream_end : (n at : ℕ) (bytes : Bytes) → object_reading at bytes ≡ NoObject → stream_from (suc n) at bytes ≡ no_more None
unfolding stream_from
stream_end n at bytes none = rw (none, stream_from) refl
