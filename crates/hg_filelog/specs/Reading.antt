-- The two lines of a copy, as they are read.
use Rattle.std.specs.Prelude.{◌==◌, length, drop, Option, Some, None, codes, if◌then◌else◌}
use Rattle.std.specs.List.{starts_with}
use Rattle.text_model.specs.Text.{Bytes}
use Rattle.text_model.specs.Id.{Id, id_of_hex}
use Rattle.text_model.specs.Cuts.{cut_of}

infixl 10 ◌>>=◌
abbrev pub ◌>>=◌ : {A B : Type 0} → Option A → (A → Option B) → Option B
(Some x) >>= f = f x
None >>= f = None

-- what stands after a word at the front
unfoldable pub after_word : Bytes → Bytes → Option Bytes
after_word word text = if starts_with ◌==◌ text word then Some (drop (length word) text) else None

-- the path of a first line, unless it is empty
unfoldable pub path_in : Bytes → Option Bytes
path_in line = do
  path ← after_word (codes "copy: ") line
  if length path == 0 then None else Some path

-- the node of a second line
unfoldable pub node_in : Bytes → Option Id
node_in line = do
  digits ← after_word (codes "copyrev: ") line
  id_of_hex digits

-- the path and the node of the only two lines
unfoldable pub copy_in : Bytes → Option (Bytes × Id)
copy_in meta = do
  first ← cut_of 10 meta
  second ← cut_of 10 first.1
  path ← path_in first.0
  node ← node_in second.0
  if length second.1 == 0 then Some (path, node) else None
