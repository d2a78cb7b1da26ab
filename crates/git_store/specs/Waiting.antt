-- Those that wait for an id.
use Rattle.std.specs.Prelude.{List, [], Option, Some, None, bytes_eq}
use Rattle.std.specs.Map.{lookup}
use Rattle.text_model.specs.Id.{Id}
use Rattle.git_store.specs.declared.order.waiting.Wait.{Wait}
use Rattle.git_store.specs.declared.order.waiting.Waiting.{Waiting}

abbrev pub or_none : Option (List Wait) → List Wait
or_none None = []
or_none (Some waits) = waits

abbrev pub waits_for : Waiting → Id → List Wait
waits_for w id = or_none (lookup (bytes_eq id) (w.lists).entries)
