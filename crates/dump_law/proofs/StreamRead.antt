-- What is read of a stream: the objects of which it was made.
use Rattle.std.proofs.Common.{◌≡◌, ◌<◌, ◌^◌, Bool, true, false, true≢false, List, [], ◌∷◌, length, map, Option, Some, None, Ok, refl, sym, ap, subst, ◌∙◌, arith}
use Rattle.std.specs.Prelude.{bytes_eq, IsTrue, is_ok, ⊤}
use Rattle.std.proofs.lemmas.Slice.Eq.{bytes_eq-Decides}
use Rattle.text_model.specs.Lists.{Each, only_new}
use Rattle.text_model.specs.Fault.{Refusal, FaultName}
use Rattle.text_model.specs.Id.{IsId, object_id}
use Rattle.text_model.proofs.Options.{some_none}
use Rattle.git_model.specs.Object.{Object, same_object, object_fault, objects_after}
use Rattle.git_model.specs.Stream.{Placed, stream_text, stream_framing, stream_reading, placed_fault, objects_fault, reading_by, IsFit}
use Rattle.git_model.proofs.StreamTakes.{stream_takes}
use Rattle.view_model.specs.View.{CommitView}
use Rattle.view_model.specs.Dump.{objects_in, git_increment}
use Rattle.state_model.specs.Kept.{git_dump}
use Rattle.state_model.specs.Saved.{AreCommitsSaved}
use Rattle.dump_law.proofs.Streams.{one_stream}

-- each has the id of its kind and content, and none is refused behind those before it
abbrev pub AreAdded : List Object → List Object → Type 0
AreAdded known [] = ⊤
AreAdded known (o ∷ os) = (o.id ≡ object_id o.kind o.content) × (object_fault known o ≡ None) × AreAdded (objects_after known o) os

added_one : (known : List Object) (p : Placed) → placed_fault known p ≡ None → ((p.object).id ≡ object_id (p.object).kind (p.object).content) × (object_fault known p.object ≡ None)
added_one known p h = by (bytes_eq (p.object).id (object_id (p.object).kind (p.object).content)) refl (object_fault known p.object) refl
  where
    by : (t : Bool) → bytes_eq (p.object).id (object_id (p.object).kind (p.object).content) ≡ t → (o : Option FaultName) → object_fault known p.object ≡ o
        → ((p.object).id ≡ object_id (p.object).kind (p.object).content) × (object_fault known p.object ≡ None)
    by true e None f = ((bytes_eq-Decides (p.object).id (object_id (p.object).kind (p.object).content)).0 e, f)
    by true e (Some name) f = absurd (some_none (rw (e, f) at h))
    by false e o f = absurd (some_none (rw e at h))

record AllAdded (known : List Object) (objects : List Placed) (bad : Option Refusal) : Type 0 where
  pub added : AreAdded known (map (λ p. p.object) objects)
  pub sound : bad ≡ None

all_added : (known : List Object) (objects : List Placed) (bad : Option Refusal) → objects_fault known objects bad ≡ None → AllAdded known objects bad
unfolding objects_fault
all_added known [] bad h = record { added = tt; sound = h }
all_added known (p ∷ objects) bad h = by (placed_fault known p) refl (all_added (objects_after known p.object) objects bad)
  where
    by : (u : Option Refusal) → placed_fault known p ≡ u → (objects_fault (objects_after known p.object) objects bad ≡ None → AllAdded (objects_after known p.object) objects bad) → AllAdded known (p ∷ objects) bad
    by None e go =
        let one = added_one known p e in
        let others = go (rw (e, objects_fault) at h) in
        record { added = (one.0, one.1, others.added); sound = others.sound }
    by (Some why) e go = absurd (some_none (rw (e, objects_fault) at h))

fit_ids : (os : List Object) → Each IsFit os → Each (λ o. IsId o.id) os
fit_ids [] h = tt
fit_ids (o ∷ os) h = (h.0.0, fit_ids os h.1)

pub record IsStreamRead (known objects : List Object) : Type 0 where
  pub came : List Placed
  pub reads : stream_reading known (stream_text objects) ≡ Ok came
  pub are : map (λ p. p.object) came ≡ objects
  pub added : AreAdded known objects
  pub ids : Each (λ o. IsId o.id) objects

pub stream_is_read : (known objects : List Object) → length (stream_text objects) < 2 ^ 64 → IsTrue (is_ok (stream_reading known (stream_text objects))) → IsStreamRead known objects
unfolding stream_reading
stream_is_read known objects small ok = by (objects_fault known came (stream_framing (stream_text objects)).bad) refl
  where
    came : List Placed
    came = (stream_framing (stream_text objects)).objects

    by : (u : Option Refusal) → objects_fault known came (stream_framing (stream_text objects)).bad ≡ u → IsStreamRead known objects
    by None e =
        let all = all_added known came (stream_framing (stream_text objects)).bad e in
        let takes = stream_takes (stream_text objects) all.sound in
        let ids = fit_ids (map (λ p. p.object) came) takes.fit in
        let are : map (λ p. p.object) came ≡ objects = sym (one_stream objects (map (λ p. p.object) came) ids small takes.is) in
        record { came = came; reads = ap (reading_by came) e; are = are; added = subst (AreAdded known) are all.added; ids = subst (Each (λ o. IsId o.id)) are ids }
    by (Some why) e = absurd (true≢false (sym ok ∙ ap (λ (u : Option Refusal). is_ok (reading_by came u)) e))

pub commits_are_read : (cs : List CommitView) → AreCommitsSaved cs → IsStreamRead [] (only_new same_object [] (objects_in cs))
unfolding git_increment
commits_are_read cs s = stream_is_read [] (only_new same_object [] (objects_in cs)) (omega (arith, s.short)) s.read

pub git-brings : (cs : List CommitView) → AreCommitsSaved cs → (came : List Placed) × (stream_reading [] (git_dump cs) ≡ Ok came) × (map (λ o. o.object) came ≡ only_new same_object [] (objects_in cs))
unfolding git_increment
git-brings cs s = let r = commits_are_read cs s in (r.came, r.reads, r.are)
