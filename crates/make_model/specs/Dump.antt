-- The bundle of the history that is made from a number, and when it can't be made. This is this project's own.
use Rattle.std.specs.Prelude.{ℕ, Bool, false, ◌||◌, List, [], ◌∷◌}
use Rattle.std.specs.List.{list_any}
use Rattle.text_model.specs.Text.{Bytes}
use Rattle.text_model.specs.Id.{is_null}
use Rattle.hg_model.specs.Revision.{Revision, is_otherwise, known_after, known_after_all}
use Rattle.view_model.specs.Dump.{revisions_in, hg_increment}
use Rattle.make_model.specs.History.{made_history}

-- the changesets of one history
abbrev pub most_changesets : ℕ
most_changesets = 20000

-- a revision has the null id, or is known with another text or other parents, when those before it are held
abbrev pub has_collision : List Revision → List Revision → Bool
has_collision known [] = false
has_collision known (r ∷ rs) = (is_null r.node || list_any (is_otherwise r) known) || has_collision (known_after known r) rs

abbrev pub made_revisions : ℕ → ℕ → List Revision
made_revisions n seed = revisions_in (made_history seed n)

-- one of the revisions of so many changesets collides
abbrev pub made_collides : ℕ → ℕ → Bool
made_collides n seed = has_collision [] (made_revisions n seed)

-- the bundle of so many changesets
abbrev pub made_bundle : ℕ → ℕ → Bytes
made_bundle n seed = hg_increment (known_after_all [] (made_revisions n seed)) [] (made_history seed n)
