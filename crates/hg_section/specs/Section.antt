-- The changesets of a saved state, as they are read from their dump.
use Rattle.std.specs.Prelude.{◌≡◌, ◌≤◌, Bool, false, not, ◌&&◌, List, [], length, map, filter, Ok, is_ok}
use Rattle.text_model.specs.Text.{Bytes}
use Rattle.text_model.specs.Id.{Id}
use Rattle.hg_model.specs.Revision.{Revision, known_after_all}
use Rattle.hg_model.specs.Reading.{bundle_reading}
use Rattle.hg_store.specs.Known.{AreAdded}
use Rattle.hg_bundle.specs.declared.arrival.Arrival.{Arrival}
use Rattle.hg_bundle.specs.declared.arrival.RevKind.TheVariants.{Changeset}
use Rattle.hg_bundle.specs.Arrivals.{same_kind, Reads}
use Rattle.view_model.specs.View.{ChangesetView, changeset_node}
use Rattle.view_model.specs.Held.{AreChangesetsHeld}
use Rattle.view_model.specs.Dump.{brought_by, hg_increment}
use Rattle.state_model.specs.Limits.{dump_limit}
use Rattle.hg_dump.specs.Told.{TellsTexts}
use Rattle.hg_dump_law.specs.Taken.{in_bundle_order}
use Rattle.hg_section.specs.declared.section.HgSection.{HgSection}

-- the changesets are held under their nodes, and nothing is known but what their dump brings, in its order: each revision was added to those before it
pub record HoldsChangesets (s : HgSection) (hs : List ChangesetView) : Type 0 where
  pub nodes : s.nodes ≡ map changeset_node hs
  pub held : AreChangesetsHeld s.store s.nodes hs
  pub known : s.store ≡ known_after_all [] (in_bundle_order (brought_by [] hs))
  pub added : AreAdded s.store

-- ---- the steps

-- the bytes aren't read over nothing
abbrev pub IsRefused : Bytes → Type 0
IsRefused bytes = is_ok (bundle_reading [] bytes) ≡ false

-- the bytes are read: what is known then, each revision added to those before it, and the arrivals. Each entry makes the text that is known then.
pub record IsRead (bytes : Bytes) (store : List Revision) (listed : List Arrival) : Type 0 where
  pub reads : Reads [] bytes (Ok (store, listed))
  pub short : length bytes ≤ dump_limit
  pub added : AreAdded store
  pub told : TellsTexts store bytes

abbrev pub is_changeset : Arrival → Bool
is_changeset a = same_kind Changeset a.kind

-- a changeset that came before
abbrev pub is_again : Arrival → Bool
is_again a = is_changeset a && not a.fresh

-- the nodes of the changesets that arrived, in their order
abbrev pub nodes_of : List Arrival → List Id
nodes_of arrivals = map (λ a. a.node) (filter is_changeset arrivals)

-- the changesets of these nodes are held, and what is written of them is these bytes
abbrev pub IsWrittenOf : List Revision → List Id → Bytes → List ChangesetView → Type 0
IsWrittenOf known nodes bytes hs = AreChangesetsHeld known nodes hs × (hg_increment known [] hs ≡ bytes)
