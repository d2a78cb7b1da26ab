-- What a stream brought is within the limits of a stream, and so is each object of its commits.
use Rattle.std.proofs.Common.{◌≡◌, ◌≤◌, ◌<◌, ◌^◌, inl, false, true≢false, List, [], ◌∷◌, length, map, Option, Some, None, refl, sym, ap, subst, ◌∙◌, arith}
use Rattle.std.specs.Prelude.{is_ok, IsTrue}
use Rattle.std.proofs.lemmas.Slice.Eq.{bytes_eq-Decides}
use Rattle.text_model.proofs.Options.{some_none}
use Rattle.text_model.proofs.Elements.{each_from, each_in, in_right}
use Rattle.text_model.proofs.TestLemmas.{bytes_eq-self}
use Rattle.text_model.specs.Lists.{Each, In, only_new, first_of_each}
use Rattle.text_model.specs.Fault.{Refusal}
use Rattle.text_model.specs.Id.{IsId}
use Rattle.git_model.specs.Object.{Object, same_object, object_at, has_id, objects_after}
use Rattle.git_model.specs.Stream.{Placed, stream_text, stream_framing, stream_reading, placed_fault, objects_fault, reading_by, IsFit}
use Rattle.git_model.proofs.StreamTakes.{stream_takes}
use Rattle.git_model.proofs.StreamAgain.{size_limit-small}
use Rattle.view_model.specs.View.{CommitFits, commit_objects}
use Rattle.view_model.specs.Dump.{objects_in, git_increment}
use Rattle.state_model.specs.Saved.{has_other_content}
use Rattle.dump_law.proofs.Brought.{find_first}
use Rattle.dump_law.proofs.Commits.{alike}
use Rattle.dump_law.proofs.Elements.{in-flat}
use Rattle.dump_law.proofs.Grows.{same_object_turned}
use Rattle.dump_law.proofs.News.{only_new-nothing}
use Rattle.dump_law.proofs.Saved.{finds}
use Rattle.dump_law.proofs.Streams.{one_stream, own, commit_split, shapes_of}
use Rattle.dump_law.proofs.Trees.{found_is}
use Rattle.stream_law.specs.Stream.{OldCommitsFit}

sound-end : (known : List Object) (placed : List Placed) (bad : Option Refusal) → objects_fault known placed bad ≡ None → bad ≡ None
unfolding objects_fault
sound-end known [] bad h = h
sound-end known (p ∷ placed) bad h = by (placed_fault known p) refl (sound-end (objects_after known p.object) placed bad)
  where
    by : (u : Option Refusal) → placed_fault known p ≡ u → (objects_fault (objects_after known p.object) placed bad ≡ None → bad ≡ None) → bad ≡ None
    by None e go = go (rw (e, objects_fault) at h)
    by (Some why) e go = absurd (some_none (rw (e, objects_fault) at h))

-- each object of a stream that was read is fit
pub stream-fits : (known objects : List Object) → length (stream_text objects) < 2 ^ 64 → IsTrue (is_ok (stream_reading known (stream_text objects))) → Each IsFit objects
unfolding stream_reading
stream-fits known objects small ok = by (objects_fault known came (stream_framing (stream_text objects)).bad) refl
  where
    came : List Placed
    came = (stream_framing (stream_text objects)).objects

    by : (u : Option Refusal) → objects_fault known came (stream_framing (stream_text objects)).bad ≡ u → Each IsFit objects
    by None e =
        let takes = stream_takes (stream_text objects) (sound-end known came (stream_framing (stream_text objects)).bad e) in
        let all : List Object = map (λ p. p.object) came in
        let ids : Each (λ o. IsId o.id) all = each_from (λ o. IsId o.id) all (λ o i. (each_in IsFit all o takes.fit i).0) in
        subst (Each IsFit) (sym (one_stream objects all ids small takes.is)) takes.fit
    by (Some why) e = absurd (true≢false (sym ok ∙ ap (λ (u : Option Refusal). is_ok (reading_by came u)) e))

-- an object stands among the first of each id
pub first-there : (objects : List Object) → has_other_content objects ≡ false → (o : Object) → In o objects → In o (only_new same_object [] objects)
first-there objects one o i =
    let f = finds (has_id o.id) o objects i (bytes_eq-self o.id) in
    let first : object_at (first_of_each same_object objects) o.id ≡ Some f.it =
    find_first (has_id o.id) same_object objects (λ x y s t.
    (bytes_eq-Decides o.id x.id).1 ((bytes_eq-Decides o.id y.id).0 t ∙ sym ((bytes_eq-Decides x.id y.id).0 s))) ∙ f.is in
    let a = alike objects one o f.it i f.there f.passes in
    let id : o.id ≡ (f.it).id = (bytes_eq-Decides o.id (f.it).id).0 f.passes in
    let same : f.it ≡ o = (λ k. record { id = sym id k; kind = sym a.kind k; content = sym a.content k }) in
    let there : In f.it (first_of_each same_object objects) = (found_is (has_id o.id) f.it (first_of_each same_object objects) first).0 in
    subst (λ (l : List Object). In o l) (sym (only_new-nothing same_object same_object_turned objects)) (subst (λ (x : Object). In x (first_of_each same_object objects)) same there)

pub old-fit : OldCommitsFit
unfolding git_increment
old-fit cs s = each_from CommitFits cs (λ c i.
    let fit : Each IsFit (only_new same_object [] (objects_in cs)) = stream-fits [] (only_new same_object [] (objects_in cs)) (omega (arith, s.short)) s.read in
    let one : (o : Object) → In o (commit_objects c) → IsFit o = λ o j.
    each_in IsFit (only_new same_object [] (objects_in cs)) o fit (first-there (objects_in cs) s.one o (in-flat commit_objects c o cs i j)) in
    record {
      text = (one (own c) (subst (λ (l : List Object). In (own c) l) (sym (commit_split c)) (in_right (own c) (shapes_of c) (own c ∷ []) (inl refl)))).1;
      objects = each_from (λ o. length o.content ≤ 2 ^ 26) (commit_objects c) (λ o j. omega (arith, (one o j).1, size_limit-small o.kind));
      rows = each_in (λ c. _) cs c s.rows i;
    })
