-- The objects that are known when a stream is read, where the text of the history and the stream are made of bytes.
use Rattle.std.proofs.Common.{◌≡◌, Bool, true, false, List, [], ◌∷◌, ◌++◌, map, Option, Some, None, Ok, refl, sym, ap, subst, ◌∙◌}
use Rattle.std.specs.Prelude.{bytes_eq, IsTrue}
use Rattle.std.specs.List.{list_any}
use Rattle.text_model.specs.Lists.{Each}
use Rattle.text_model.specs.Text.{Bytes, IsBytes}
use Rattle.text_model.specs.Id.{Id, IsId, ObjectKind, blob, tree, commit, tag, same_kind, object_id}
use Rattle.text_model.proofs.Digests.{IsId-object_id}
use Rattle.text_model.proofs.Elements.{map_append, each_in, each_from}
use Rattle.text_model.proofs.Options.{some_none}
use Rattle.git_model.specs.Tree.{has_distinct, TreeFault, TreeEntry, tree_fault, IsTreeText}
use Rattle.git_model.specs.Object.{Object, content_fault, tree_name, knows_object, objects_after, objects_after_all}
use Rattle.git_model.specs.Stream.{Placed, stream_text, stream_reading}
use Rattle.git_store.specs.Known.{IsSound, AreKnown}
use Rattle.git_batch.proofs.StreamLaws.{brings_only}
use Rattle.dump_law.proofs.Parts.{tree_text_is}
use Rattle.pair_model.specs.Block.{commits_in}
use Rattle.history_model.specs.Pull.{objects_with, objects_among}
use Rattle.saved_model.specs.Step.{dump_objects, known_of}
use Rattle.state_model.specs.Kept.{Kept, git_dump}
use Rattle.pull_law.proofs.Known.{objects-after}
use Rattle.pull_law.proofs.Tables.{distinct-push}
use Rattle.next_law.proofs.Bytes.{contents-bytes}
use Rattle.next_law.proofs.Known.{IsSaved, sound-known, contents-known}
use Rattle.next_law.proofs.Objects.{HasContent, dump-is, known-each}
use Rattle.next_law.proofs.Pulls.{checked, contents}

-- ---- distinct ids

any-id : (id : Id) (known : List Object) → list_any (bytes_eq id) (map (λ (o : Object). o.id) known) ≡ knows_object known id
any-id id [] = refl
any-id id (o ∷ known) = by (bytes_eq id o.id) refl (any-id id known)
  where
    by : (t : Bool) → bytes_eq id o.id ≡ t → list_any (bytes_eq id) (map (λ (o : Object). o.id) known) ≡ knows_object known id → list_any (bytes_eq id) (map (λ (o : Object). o.id) (o ∷ known)) ≡ knows_object (o ∷ known) id
    by true e rest = rw e refl
    by false e rest = rw e rest

pub distinct-after : (known os : List Object) → has_distinct (map (λ (o : Object). o.id) known) ≡ true → has_distinct (map (λ (o : Object). o.id) (objects_after_all known os)) ≡ true
distinct-after known [] h = h
distinct-after known (o ∷ os) h = distinct-after (objects_after known o) os (by (knows_object known o.id) refl)
  where
    by : (t : Bool) → knows_object known o.id ≡ t → has_distinct (map (λ (x : Object). x.id) (objects_after known o)) ≡ true
    by true e = rw e h
    by false e =
        let more : has_distinct (map (λ (x : Object). x.id) (known ++ o ∷ [])) ≡ true =
        ap has_distinct (map_append (λ (x : Object). x.id) known (o ∷ [])) ∙ distinct-push (map (λ (x : Object). x.id) known) o.id h (any-id o.id known ∙ e) in
        rw e more

-- ---- sound objects

abbrev HasId : Object → Type 0
HasId o = o.id ≡ object_id o.kind o.content

abbrev HasBytes : Object → Type 0
HasBytes o = IsBytes o.content

none-tree : (f : Option TreeFault) → tree_name f ≡ None → f ≡ None
none-tree None e = refl
none-tree (Some f) e = absurd (some_none e)

tree-of : (o : Object) → HasContent o → HasBytes o → IsTrue (same_kind o.kind tree) → (entries : List TreeEntry) × IsTreeText o.content entries
tree-of o fits bytes is = by o.kind refl is
  where
    by : (k : ObjectKind) → o.kind ≡ k → same_kind k tree ≡ true → (entries : List TreeEntry) × IsTreeText o.content entries
    by tree e t = tree_text_is o.content bytes (none-tree (tree_fault o.content) (sym (ap (λ (k : ObjectKind). content_fault k o.content) e) ∙ fits))
    by blob e t = absurd cc
    by commit e t = absurd cc
    by tag e t = absurd cc

pub are-known : (known : List Object) → has_distinct (map (λ (o : Object). o.id) known) ≡ true → Each HasId known → Each HasContent known → Each HasBytes known → AreKnown known
are-known known distinct checked fits bytes = record {
  are = record {
    distinct = distinct;
    ids = checked;
    trees = each_from (λ o. IsTrue (same_kind o.kind tree) → (entries : List TreeEntry) × IsTreeText o.content entries) known
        (λ o i is. tree-of o (each_in HasContent known o fits i) (each_in HasBytes known o bytes i) is);
  };
  sound = each_from IsSound known (λ o i. record {
    id = subst IsId (sym (each_in HasId known o checked i)) (IsId-object_id o.kind o.content);
    bytes = each_in HasBytes known o bytes i;
    fits = each_in HasContent known o fits i;
  });
}

-- ---- when a stream is read

module _ (k : Kept) (saved : IsSaved k) (dump : IsBytes (git_dump (commits_in k.blocks))) (tags : IsBytes (stream_text k.tags)) where
  old-bytes : Each HasBytes (known_of k).objects
  old-bytes = known-each k saved.commits saved.tags HasBytes (contents-bytes (dump_objects (commits_in k.blocks)) (subst IsBytes (dump-is (commits_in k.blocks)) dump)) (contents-bytes k.tags tags)

  pub stream-known : (stream : Bytes) (came : List Placed) → stream_reading (known_of k).objects stream ≡ Ok came → IsBytes stream → AreKnown (objects_with (known_of k) came)
  stream-known stream came reads bytes =
      let s = known_of k in
      let sound = sound-known k saved in
      let brings = brings_only s.objects stream came reads in
      are-known (objects_with s came) (distinct-after s.objects (objects_among came) (distinct-after [] (dump_objects (commits_in k.blocks) ++ k.tags) refl))
      (checked s sound stream came reads) (contents s sound stream came reads (contents-known k saved))
      (objects-after HasBytes s.objects (objects_among came) old-bytes (contents-bytes (objects_among came) (subst IsBytes (brings.0).is bytes)))
