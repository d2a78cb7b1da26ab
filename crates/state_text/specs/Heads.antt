-- The changesets that are no links, each with the number of the links just before it.
use Rattle.std.specs.Prelude.{◌≡◌, ℕ, ◌+◌, if◌then◌else◌, List, [], ◌∷◌, map}
use Rattle.text_model.specs.Id.{Id}
use Rattle.hg_model.specs.Revision.{Revision}
use Rattle.view_model.specs.View.{ChangesetView, changeset_node}
use Rattle.view_model.specs.Held.{AreChangesetsHeld}
use Rattle.pair_model.specs.Octopus.{is_link_view}
use Rattle.state_text.specs.declared.heads.Head.{Head}

abbrev pub head_of : ℕ → ChangesetView → Head
head_of n h = record { node = changeset_node h; links = n }

-- the number counts the links so far
unfoldable pub heads_of : ℕ → List ChangesetView → List Head
heads_of n [] = []
heads_of n (h ∷ hs) = if is_link_view h then heads_of (n + 1) hs else head_of n h ∷ heads_of 0 hs

-- the changesets are held under these ids, which are their nodes
abbrev pub AreHeldAt : List Revision → List Id → List ChangesetView → Type 0
AreHeldAt known nodes hs = (nodes ≡ map changeset_node hs) × AreChangesetsHeld known nodes hs
