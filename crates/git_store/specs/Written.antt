-- The first objects of a store in one text.
use Rattle.std.specs.Prelude.{◌≡◌, ◌≤◌, List, length, take}
use Rattle.git_model.specs.Object.{Object}
use Rattle.git_model.specs.Stream.{stream_text}
use Rattle.git_store.specs.declared.written.Written.{Written}

-- the text is the stream of so many of the first objects
pub record IsWritten (known : List Object) (w : Written) : Type 0 where
  pub count : w.count ≤ length known
  pub text : w.text ≡ stream_text (take w.count known)
