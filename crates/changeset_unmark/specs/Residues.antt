-- What the commit that the marks of a changeset name has beside the files.
use Rattle.std.specs.Prelude.{◌≡◌, true, List, Option, Some, None, unwrap_or, ⊤}
use Rattle.std.specs.List.{list_all}
use Rattle.text_model.specs.Path.{is_fit_path}
use Rattle.git_model.specs.Unfold.{FileRow}
use Rattle.git_model.specs.Shape.{first_clash}
use Rattle.git_model.specs.Residue.{ResidueItem, fits, rows_with}
use Rattle.partner_model.specs.Mark.{residue_unless}

-- the items by their mark, or those that are handed on
abbrev pub items_named : List ResidueItem → Option (List ResidueItem) → List ResidueItem
items_named given tree = unwrap_or tree given

-- items that a mark names fit the files, and their paths are fit
abbrev pub AreItemsFit : List FileRow → Option (List ResidueItem) → Type 0
AreItemsFit files None = ⊤
AreItemsFit files (Some items) = (list_all (fits files) items ≡ true) × (list_all (λ i. is_fit_path i.path) items ≡ true)

-- the items are fit and have this mark over the given ones, and no path of their rows lies below another
pub record IsResidueNamed (files : List FileRow) (given : List ResidueItem) (tree : Option (List ResidueItem)) : Type 0 where
  pub fit : AreItemsFit files tree
  pub needed : residue_unless (items_named given tree) given ≡ tree
  pub apart : first_clash (rows_with (items_named given tree) files) ≡ None
