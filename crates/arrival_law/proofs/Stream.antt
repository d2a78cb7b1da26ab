-- The stream of a saved history with its tags is read where nothing is known: it is one of the objects of both.
use Rattle.std.proofs.Common.{◌≡◌, ◌≤◌, List, [], ◌∷◌, ◌++◌, length, Ok, sym, ap, subst, ◌∙◌, arith, length-append}
use Rattle.text_model.specs.Text.{Bytes}
use Rattle.text_model.specs.Id.{object_id}
use Rattle.text_model.specs.Fault.{input_limit}
use Rattle.text_model.proofs.EachLemmas.{Each-append}
use Rattle.git_model.specs.Object.{Object, objects_after, objects_after_all}
use Rattle.git_model.specs.Stream.{Placed, IsFit, stream_text, stream_reading}
use Rattle.git_batch.specs.Arrivals.{AddsAll}
use Rattle.git_batch.proofs.StreamLaws.{brings_all}
use Rattle.view_model.specs.View.{CommitView}
use Rattle.view_model.specs.Dump.{objects_in}
use Rattle.pair_model.specs.Block.{commits_in}
use Rattle.history_model.specs.Pull.{objects_among}
use Rattle.state_model.specs.Kept.{Kept, git_dump}
use Rattle.saved_model.specs.Step.{dump_objects}
use Rattle.dump_law.proofs.CommitsHeld.{of_new}
use Rattle.dump_law.proofs.Grows.{stream_text-append}
use Rattle.next_law.proofs.Known.{IsSaved}
use Rattle.next_law.proofs.Objects.{AreRead, are-read, adds-contents, dump-is, dump-read}
use Rattle.tag_law.proofs.Adds.{adds-apart, adds-all, in-all, distinct-apart}

adds-both : (known xs ys : List Object) → AddsAll known xs → AddsAll (objects_after_all known xs) ys → AddsAll known (xs ++ ys)
adds-both known [] ys xs-add ys-add = ys-add
adds-both known (x ∷ xs) ys xs-add ys-add = (xs-add.0, adds-both (objects_after known x) xs ys xs-add.1 ys-add)

-- what the stream brings
pub record IsRead (k : Kept) : Type 0 where
  pub came : List Placed
  pub reads : stream_reading [] (git_dump (commits_in k.blocks) ++ stream_text k.tags) ≡ Ok came
  pub are : objects_among came ≡ dump_objects (commits_in k.blocks) ++ k.tags

module _ (k : Kept) (saved : IsSaved k) where
  abbrev cs : List CommitView
  cs = commits_in k.blocks

  abbrev dump : List Object
  dump = dump_objects cs

  of-commits : AreRead [] dump
  of-commits = dump-read cs saved.commits

  of-tags : AreRead (objects_in cs) k.tags
  of-tags = are-read (objects_in cs) k.tags (saved.tags).read

  tags-add : AddsAll (objects_after_all [] dump) k.tags
  tags-add =
      adds-all (objects_after_all [] dump) k.tags (adds-contents (objects_in cs) k.tags of-tags.adds)
      (λ o x i j. adds-apart (objects_in cs) k.tags of-tags.adds o x i (of_new cs saved.commits x (in-all dump x j)))
      (distinct-apart k.tags (saved.tags).distinct)

  text-is : stream_text (dump ++ k.tags) ≡ git_dump cs ++ stream_text k.tags
  text-is = stream_text-append dump k.tags ∙ ap (λ (l : Bytes). l ++ stream_text k.tags) (sym (dump-is cs))

  short : length (stream_text (dump ++ k.tags)) ≤ input_limit
  short = omega (arith, ap (λ (l : Bytes). length l) text-is, length-append (git_dump cs) (stream_text k.tags), (saved.tags).short)

  pub is-read : IsRead k
  is-read =
      let brings = brings_all [] (dump ++ k.tags) (Each-append IsFit dump k.tags of-commits.fit of-tags.fit) short
      (Each-append (λ o. o.id ≡ object_id o.kind o.content) dump k.tags of-commits.checked of-tags.checked) (adds-both [] dump k.tags of-commits.adds tags-add) in
      record { came = brings.placed; reads = subst (λ (bytes : Bytes). stream_reading [] bytes ≡ Ok brings.placed) text-is brings.reads; are = brings.are }
