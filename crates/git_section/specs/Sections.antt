-- What a section of commits holds.
use Rattle.std.specs.Prelude.{◌≡◌, Bool, false, List, [], map, filter, None, Result, Ok, Err}
use Rattle.text_model.specs.Lists.{Each, only_new}
use Rattle.text_model.specs.Text.{Bytes}
use Rattle.text_model.specs.Id.{Id, commit, same_kind}
use Rattle.text_model.specs.Fault.{Refusal}
use Rattle.git_model.specs.Tree.{has_distinct}
use Rattle.git_model.specs.Object.{Object, same_object, objects_after_all}
use Rattle.git_model.specs.Stream.{Placed, stream_reading}
use Rattle.git_model.specs.Unfold.{walk_fault}
use Rattle.git_store.specs.Known.{AreKnown}
use Rattle.view_model.specs.View.{CommitView, commit_id}
use Rattle.view_model.specs.Held.{AreCommitsHeld}
use Rattle.view_model.specs.Dump.{objects_in}
use Rattle.git_section.specs.declared.section.GitSection.{GitSection}

-- the section holds these commits: the objects of their dump, in its order
pub record HoldsCommits (s : GitSection) (cs : List CommitView) : Type 0 where
  pub ids : s.ids ≡ map commit_id cs
  pub held : AreCommitsHeld s.store s.ids cs
  pub walks : Each (λ c. walk_fault s.store (c.value).tree_id ≡ None) cs
  pub known : s.store ≡ objects_after_all [] (only_new same_object [] (objects_in cs))
  pub sound : AreKnown s.store

-- the objects of a stream
abbrev pub objects_of : List Placed → List Object
objects_of placed = map (λ o. o.object) placed

-- the ids of the commits among objects
abbrev pub commit_ids : List Object → List Id
commit_ids objects = map (λ o. o.id) (filter (λ o. same_kind commit o.kind) objects)

abbrev pub ids_of : List Object → List Id
ids_of objects = map (λ o. o.id) objects

-- the stream is read, and none of its objects comes twice
abbrev pub brings_once : Result (List Placed) Refusal → Bool
brings_once (Ok placed) = has_distinct (ids_of (objects_of placed))
brings_once (Err why) = false

-- the bytes bring just these objects, in their order, and their commits are listed
pub record IsRead (bytes : Bytes) (s : GitSection) : Type 0 where
  pub placed : List Placed
  pub reads : stream_reading [] bytes ≡ Ok placed
  pub holds : s.store ≡ objects_of placed
  pub ids : s.ids ≡ commit_ids (objects_of placed)
  pub known : AreKnown s.store
