-- When the other side of a block can't be added: an id is known with another value. These rules are this project's own.
use Rattle.std.specs.Prelude.{Bool, ◌||◌, List, ◌++◌, is_some}
use Rattle.std.specs.List.{list_any}
use Rattle.text_model.specs.Id.{is_null}
use Rattle.hg_model.specs.Revision.{Revision, is_otherwise}
use Rattle.git_model.specs.Object.{Object, is_other_content}
use Rattle.view_model.specs.View.{ChangesetView, CommitView, changeset_node, commit_id, commit_objects}
use Rattle.view_model.specs.Dump.{revisions_of}
use Rattle.pair_model.specs.Block.{Block, block_of_id, view_at, changesets_in}

-- An object of the commit is known with another content, or is another part of it; or the commit stands in a block.
abbrev pub commit_collides : List Object → List Block → CommitView → Bool
commit_collides known blocks c =
    list_any (λ o. list_any (is_other_content o) (known ++ commit_objects c)) (commit_objects c)
    || is_some (block_of_id blocks (commit_id c))

-- A revision of the changeset is null or known otherwise, or is another part of it; or the changeset stands in a block.
abbrev pub changeset_collides : List Revision → List Block → ChangesetView → Bool
changeset_collides known blocks h =
    list_any (λ r. is_null r.node || list_any (is_otherwise r) (known ++ revisions_of h)) (revisions_of h)
    || is_some (view_at (changesets_in blocks) (changeset_node h))
