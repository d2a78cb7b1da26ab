-- Where objects stand in a store.
use Rattle.std.specs.Prelude.{◌≡◌, ℕ, List, Some, slice_get}
use Rattle.text_model.specs.Id.{Id}
use Rattle.git_model.specs.Object.{Object, object_at}

-- the object at this place is the one that is found under the id
pub record IsPlaceOf (known : List Object) (id : Id) (place : ℕ) : Type 0 where
  pub object : Object
  pub stands : slice_get known place ≡ Some object
  pub found : object_at known id ≡ Some object
