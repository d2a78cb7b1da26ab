-- Histories that are made, with what is held of them.
use Rattle.std.specs.Prelude.{◌≡◌, ℕ, ◌+◌, true, List, [], map, ⊤}
use Rattle.hg_store.specs.Known.{AreAdded}
use Rattle.view_model.specs.View.{ChangesetView, changeset_node}
use Rattle.view_model.specs.Held.{AreChangesetsHeld}
use Rattle.view_model.specs.Dump.{revisions_in}
use Rattle.pair_state.specs.Came.{HaveCome}
use Rattle.make_model.specs.Dump.{made_collides}
use Rattle.make_history.specs.declared.add.History.{History}
use Rattle.make_history.specs.declared.fault.MakeFault.{MakeFault}
use Rattle.make_history.specs.declared.fault.MakeFault.TheVariants.{CountLimit, Collision, Memory}

-- the revisions of the changesets came, of which none collided, each over those before it, and these are their nodes
pub record IsMade (h : History) (changesets : List ChangesetView) : Type 0 where
  pub came : HaveCome [] h.store (revisions_in changesets)
  pub added : AreAdded h.store
  pub nodes : h.nodes ≡ map changeset_node changesets
  pub held : AreChangesetsHeld h.store h.nodes changesets

-- why the changeset with this number can't be added
abbrev pub IsNextFault : ℕ → ℕ → MakeFault → Type 0
IsNextFault seed number CountLimit = ⊥
IsNextFault seed number Collision = made_collides (number + 1) seed ≡ true
IsNextFault seed number Memory = ⊤
