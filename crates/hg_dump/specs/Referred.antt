-- The references to the revisions of a group.
use Rattle.std.specs.Prelude.{Bool, if◌then◌else◌, List, [], ◌∷◌, ◌++◌, Option, Some, None}
use Rattle.text_model.specs.Id.{Id, has_id}
use Rattle.hg_dump.specs.declared.references.Reference.{Reference}

-- the nodes that were met, and the references that are new
pub record Referred : Type 0 where
  pub met : List Id
  pub brought : List Reference

abbrev pub nothing : Referred
nothing = record { met = []; brought = [] }

-- one reference more
abbrev pub referred : Bool → Reference → Referred → Referred
referred is_new reference r =
    if has_id r.met reference.node then r
    else record { met = r.met ++ reference.node ∷ []; brought = if is_new then r.brought ++ reference ∷ [] else r.brought }

abbrev pub or_nothing : Option Referred → Referred
or_nothing None = nothing
or_nothing (Some r) = r
