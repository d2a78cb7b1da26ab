-- Bodies of files and the blobs that have their ids.
use Rattle.std.specs.Prelude.{◌≡◌, false, List, ◌++◌, Some}
use Rattle.std.specs.List.{list_any}
use Rattle.text_model.specs.Lists.{Each}
use Rattle.text_model.specs.Id.{blob_id}
use Rattle.git_model.specs.Object.{Object, object_at, is_other_content}
use Rattle.view_model.specs.View.{Row}
use Rattle.partner_model.specs.Clash.{body_object}

-- the object that has the file's blob id is its body
abbrev pub IsBodyHeld : List Object → Row → Type 0
IsBodyHeld objects row = (o : Object) × (object_at objects (blob_id (row.revision).body) ≡ Some o) × (o.content ≡ (row.revision).body)

-- of the known objects and of fresh ones the first with that id is its blob, and no known one with that id is another
pub record IsBodyAlone (known fresh : List Object) (row : Row) : Type 0 where
  pub held : object_at (known ++ fresh) (blob_id (row.revision).body) ≡ Some (body_object row)
  pub alone : list_any (is_other_content (body_object row)) known ≡ false

-- Each body is that of the object with its blob id, which is known or else is a fresh one. So no two bodies have one blob id.
pub record AreBodiesApart (known : List Object) (rows : List Row) : Type 0 where
  pub fresh : List Object
  pub held : Each (IsBodyHeld (known ++ fresh)) rows
