-- What a pull over a saved history leaves of its tags.
use Rattle.std.specs.Prelude.{[], map, is_ok, IsTrue}
use Rattle.text_model.specs.Lists.{Each}
use Rattle.git_model.specs.Tree.{has_distinct}
use Rattle.git_model.specs.Stream.{stream_text, stream_reading}
use Rattle.view_model.specs.View.{commit_id}
use Rattle.view_model.specs.Dump.{objects_in}
use Rattle.pair_model.specs.Block.{commits_in}
use Rattle.state_model.specs.Kept.{Kept, is_tag, ids_of}
use Rattle.state_model.specs.Tags.{leads, has_target}
use Rattle.state_model.specs.Saved.{AreTagsSaved}

-- all that is kept are tags
abbrev pub HasTagsOnly : Kept → Type 0
HasTagsOnly k = Each (λ o. IsTrue (is_tag o)) k.tags

-- no tag stands twice
abbrev pub HasDistinctTags : Kept → Type 0
HasDistinctTags k = IsTrue (has_distinct (ids_of k.tags))

-- each tag leads to a commit over all tags
abbrev pub HasLead : Kept → Type 0
HasLead k = Each (λ o. IsTrue (leads [] k.tags o)) k.tags

-- the target of each tag is a commit of the blocks or a tag
abbrev pub HasTargets : Kept → Type 0
HasTargets k = Each (λ o. IsTrue (has_target (map commit_id (commits_in k.blocks)) [] k.tags o)) k.tags

-- the stream of the tags is read over the objects of the commits
abbrev pub HasTagStream : Kept → Type 0
HasTagStream k = IsTrue (is_ok (stream_reading (objects_in (commits_in k.blocks)) (stream_text k.tags)))

-- the tags have their section
abbrev pub HasTags : Kept → Type 0
HasTags k = AreTagsSaved (commits_in k.blocks) k.tags
