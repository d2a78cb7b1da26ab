-- Trees that are put behind others.
use Rattle.std.specs.Prelude.{◌≡◌, List, ◌++◌}
use Rattle.text_model.specs.Lists.{In, Each}
use Rattle.git_model.specs.Object.{Object}

-- of these trees those were put behind the others that are not known
pub record IsAdded (known old new trees : List Object) : Type 0 where
  pub added : List Object
  pub is : new ≡ old ++ added
  pub are : Each (λ o. In o trees) added
  pub held : Each (λ o. In o (added ++ known)) trees
