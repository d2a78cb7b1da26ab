-- How the dumps of a history grow when blocks are added.
use Rattle.std.specs.Prelude.{◌≡◌, List, [], ◌∷◌, ◌++◌}
use Rattle.text_model.specs.Text.{Bytes}
use Rattle.hg_model.specs.Revision.{Group, Revision}
use Rattle.hg_model.specs.Bundle.{BundleEntry}
use Rattle.view_model.specs.View.{ChangesetView, CommitView}
use Rattle.view_model.specs.Dump.{brought_by, of_group, written_from, written_group, git_increment}
use Rattle.state_model.specs.Kept.{git_dump}

-- the stream of more commits is that of the first, and behind it that of the others over them
abbrev pub StreamGrows : Type 0
StreamGrows = (old new : List CommitView) → git_dump (old ++ new) ≡ git_dump old ++ git_increment old new

-- what more changesets bring is what the first bring, and behind it what the others bring over them
abbrev pub RevisionsGrow : Type 0
RevisionsGrow = (before old new : List ChangesetView) → brought_by before (old ++ new) ≡ brought_by before old ++ brought_by (before ++ old) new

-- the text of the last revision
unfoldable pub last_text : Bytes → List Revision → Bytes
last_text base [] = base
last_text base (r ∷ rs) = last_text r.text rs

-- the entries that new revisions of a group add behind those of the old ones
unfoldable pub added_entries : List Revision → Group → List Revision → List Revision → List BundleEntry
added_entries known group [] new = written_group known group new
added_entries known group (r ∷ rs) new = written_from (last_text r.text rs) new

-- each group of a longer dump begins with that of the shorter one, and only the text before the new entries counts for them
abbrev pub GroupGrows : Type 0
GroupGrows = (known : List Revision) (group : Group) (before old new : List ChangesetView)
    → written_group known group (of_group group (brought_by before (old ++ new)))
    ≡ written_group known group (of_group group (brought_by before old))
    ++ added_entries known group (of_group group (brought_by before old)) (of_group group (brought_by (before ++ old) new))
