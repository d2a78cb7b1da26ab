-- What a section of commits and tags holds.
use Rattle.std.specs.Prelude.{◌≡◌, List, [], ◌++◌, map, Some, None, Ok, IsTrue}
use Rattle.text_model.specs.Lists.{Each, only_new}
use Rattle.text_model.specs.Text.{Bytes}
use Rattle.git_model.specs.Tree.{has_distinct}
use Rattle.git_model.specs.Object.{Object, same_object, object_at, objects_after_all}
use Rattle.git_model.specs.Stream.{Placed, stream_reading}
use Rattle.git_model.specs.Unfold.{walk_fault}
use Rattle.git_store.specs.Known.{AreKnown}
use Rattle.git_batch.specs.Arrivals.{arrival_of}
use Rattle.history_model.specs.Pull.{objects_among}
use Rattle.view_model.specs.View.{CommitView, commit_id}
use Rattle.view_model.specs.Held.{AreCommitsHeld}
use Rattle.view_model.specs.Dump.{objects_in}
use Rattle.state_model.specs.Kept.{is_tag, ids_of}
use Rattle.state_model.specs.Tags.{leads, has_target}
use Rattle.tag_section.specs.declared.stream.Arrived.{Arrived}
use Rattle.tag_section.specs.declared.tags.TagSection.{TagSection}

-- the section holds these commits and tags: the objects of the dump of the commits, in its order, and behind them the tags
pub record HoldsTags (t : TagSection) (cs : List CommitView) (tags : List Object) : Type 0 where
  pub ids : t.ids ≡ map commit_id cs
  pub tags_are : t.tags ≡ ids_of tags
  pub held : AreCommitsHeld t.store t.ids cs
  pub walks : Each (λ c. walk_fault t.store (c.value).tree_id ≡ None) cs
  pub known : t.store ≡ objects_after_all [] (only_new same_object [] (objects_in cs) ++ tags)
  pub tags_held : Each (λ o. object_at t.store o.id ≡ Some o) tags
  pub sound : AreKnown t.store

-- all of them are tags, each once, with its target, and each leads to a commit over these alone
pub record AreKept (cs : List CommitView) (tags : List Object) : Type 0 where
  pub tags_only : Each (λ o. IsTrue (is_tag o)) tags
  pub distinct : IsTrue (has_distinct (ids_of tags))
  pub targets : Each (λ o. IsTrue (has_target (map commit_id cs) [] tags o)) tags
  pub lead : Each (λ o. IsTrue (leads [] tags o)) tags

-- the bytes bring these objects to those known, and they are listed; what a store holds stays sound
pub record Brings (known : List Object) (bytes : Bytes) (a : Arrived) : Type 0 where
  pub placed : List Placed
  pub reads : stream_reading known bytes ≡ Ok placed
  pub listed : a.came ≡ map arrival_of placed
  pub holds : a.store ≡ objects_after_all known (objects_among placed)
  pub sound : AreKnown known → AreKnown a.store
