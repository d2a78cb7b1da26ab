-- The objects that are known where a history is saved: each has its own id, and the content of its kind.
use Rattle.std.proofs.Common.{◌≡◌, ◌≤◌, true≢false, List, [], ◌∷◌, ◌++◌, length, map, Option, Some, None, Result, Ok, Err, refl, sym, subst, arith}
use Rattle.std.specs.Prelude.{is_ok, IsTrue, if◌then◌else◌}
use Rattle.std.specs.List.{list_any}
use Rattle.text_model.specs.Lists.{Each}
use Rattle.text_model.specs.Text.{Bytes}
use Rattle.text_model.specs.Id.{IsId, object_id}
use Rattle.text_model.specs.Fault.{FaultName, Refusal, input_limit}
use Rattle.text_model.specs.Fault as fault
use Rattle.text_model.proofs.EachLemmas.{Each-append, Each-weaker}
use Rattle.git_model.specs.Object.{Object, content_fault, object_fault, objects_after, is_other_content}
use Rattle.git_model.specs.Stream.{Placed, IsFit, IsChecked, stream_text, stream_reading}
use Rattle.git_batch.specs.Arrivals.{AddsAll}
use Rattle.git_batch.proofs.StreamLaws.{brings_only}
use Rattle.view_model.specs.View.{CommitView}
use Rattle.view_model.specs.Dump.{objects_in, git_increment}
use Rattle.pair_model.specs.Block.{commits_in}
use Rattle.state_model.specs.Kept.{Kept, git_dump}
use Rattle.state_model.specs.Saved.{AreCommitsSaved, AreTagsSaved}
use Rattle.saved_model.specs.Step.{dump_objects, known_of}
use Rattle.dump_law.proofs.Streams.{one_stream}
use Rattle.pull_law.proofs.Known.{objects-after}

abbrev pub objects_of : List Placed → List Object
objects_of placed = map (λ (p : Placed). p.object) placed

-- the content is that of an object of the kind
abbrev pub HasContent : Object → Type 0
HasContent o = content_fault o.kind o.content ≡ None

no-content_fault : (known : List Object) (o : Object) → object_fault known o ≡ None → HasContent o
unfolding object_fault
no-content_fault known o h = by (content_fault o.kind o.content) refl h
  where
    by : (f : Option FaultName) → content_fault o.kind o.content ≡ f
        → elim f as (λ _. Option FaultName) [ Some name ↦ Some name | None ↦ if list_any (is_other_content o) known then Some fault.Collision else None ] ≡ None → HasContent o
    by None e k = e
    by (Some name) e k = absurd cc

pub adds-contents : (known objects : List Object) → AddsAll known objects → Each HasContent objects
adds-contents known [] adds = tt
adds-contents known (o ∷ objects) adds = (no-content_fault known o adds.0, adds-contents (objects_after known o) objects adds.1)

-- ---- the objects of a stream that is read

pub record AreRead (known objects : List Object) : Type 0 where
  pub checked : IsChecked objects
  pub adds : AddsAll known objects
  pub fit : Each IsFit objects
  pub fits : length (stream_text objects) ≤ input_limit

ok-read : (r : Result (List Placed) Refusal) → IsTrue (is_ok r) → (came : List Placed) × (r ≡ Ok came)
ok-read (Ok came) h = (came, refl)
ok-read (Err why) h = absurd (true≢false (sym h))

pub are-read : (known objects : List Object) → IsTrue (is_ok (stream_reading known (stream_text objects))) → AreRead known objects
are-read known objects h =
    let ok = ok-read (stream_reading known (stream_text objects)) h in
    let brings = brings_only known (stream_text objects) ok.0 ok.1 in
    let came = objects_of ok.0 in
    let ids : Each (λ o. IsId o.id) came = Each-weaker IsFit (λ (o : Object). IsId o.id) (λ o f. f.0) came (brings.0).fit in
    let same : objects ≡ came = one_stream objects came ids (omega (arith, (brings.0).fits)) (brings.0).is in
    record {
      checked = subst IsChecked (sym same) brings.1;
      adds = subst (AddsAll known) (sym same) brings.2;
      fit = subst (Each IsFit) (sym same) (brings.0).fit;
      fits = (brings.0).fits;
    }

-- ---- those of a saved history

pub dump-is : (cs : List CommitView) → git_dump cs ≡ stream_text (dump_objects cs)
unfolding git_increment
dump-is cs = refl

pub dump-read : (cs : List CommitView) → AreCommitsSaved cs → AreRead [] (dump_objects cs)
dump-read cs saved = are-read [] (dump_objects cs) (subst (λ (bytes : Bytes). IsTrue (is_ok (stream_reading [] bytes))) (dump-is cs) saved.read)

module _ (k : Kept) (commits : AreCommitsSaved (commits_in k.blocks)) (tags : AreTagsSaved (commits_in k.blocks) k.tags) where
  pub known-each : (P : Object → Type 0) → Each P (dump_objects (commits_in k.blocks)) → Each P k.tags → Each P (known_of k).objects
  known-each P dump own = objects-after P [] (dump_objects (commits_in k.blocks) ++ k.tags) tt (Each-append P (dump_objects (commits_in k.blocks)) k.tags dump own)

  pub known-checked : IsChecked (known_of k).objects
  known-checked = known-each (λ o. o.id ≡ object_id o.kind o.content) (dump-read (commits_in k.blocks) commits).checked (are-read (objects_in (commits_in k.blocks)) k.tags tags.read).checked

  pub known-contents : Each HasContent (known_of k).objects
  known-contents = known-each HasContent (adds-contents [] (dump_objects (commits_in k.blocks)) (dump-read (commits_in k.blocks) commits).adds)
      (adds-contents (objects_in (commits_in k.blocks)) k.tags (are-read (objects_in (commits_in k.blocks)) k.tags tags.read).adds)
