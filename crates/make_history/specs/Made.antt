-- Histories that are made, in the words of the model.
use Rattle.std.specs.Prelude.{◌≡◌, ◌<◌, ◌≤◌, ℕ, true, ⊤}
use Rattle.make_model.specs.Numbers as model
use Rattle.make_model.specs.Dump.{most_changesets, made_collides}
use Rattle.pair_state.specs.declared.fault.PushFault.{PushFault}
use Rattle.pair_state.specs.declared.fault.PushFault.TheVariants as push
use Rattle.make_history.specs.declared.numbers.Numbers.{Numbers}
use Rattle.make_history.specs.declared.fault.MakeFault.{MakeFault}
use Rattle.make_history.specs.declared.fault.MakeFault.TheVariants.{CountLimit, Collision, Memory}

abbrev pub numbers_value : Numbers → model.Numbers
numbers_value x = record {
  parents = x.parents;
  directory = x.directory;
  file = x.file;
  executable = x.executable;
  copied = x.copied;
  user = x.user;
  zone = x.zone;
  branch = x.branch;
  state = x.state;
}

abbrev pub make_refused : PushFault → MakeFault
make_refused push.Collision = Collision
make_refused push.Memory = Memory

-- why a history is not made
abbrev pub IsMakeFault : ℕ → ℕ → MakeFault → Type 0
IsMakeFault n seed CountLimit = most_changesets < n
IsMakeFault n seed Collision = (n ≤ most_changesets) × (made_collides n seed ≡ true)
IsMakeFault n seed Memory = ⊤
