-- The stream of commits that are views within their limits is read.
use Rattle.std.proofs.Common.{◌≡◌, ◌≤◌, inl, inr, Bool, true, false, true≢false, not, List, [], ◌∷◌, ◌++◌, length, None, refl, sym, subst}
use Rattle.std.specs.Prelude.{if◌then◌else◌}
use Rattle.std.specs.List.{list_any}
use Rattle.text_model.specs.Lists.{Each, In, only_new, first_of_each}
use Rattle.text_model.specs.Id.{IsId, ObjectKind, blob, tree, commit, tag, same_kind}
use Rattle.text_model.proofs.Elements.{each_from, each_in, none_in, none_all}
use Rattle.git_model.specs.Object.{Object, same_object, is_other_content, knows_object, object_fault, objects_after}
use Rattle.git_model.specs.Stream.{IsFit, size_limit}
use Rattle.view_model.specs.View.{CommitView, IsCommitView, CommitFits, commit_objects, text_limit}
use Rattle.view_model.specs.Dump.{objects_in, git_increment}
use Rattle.state_model.specs.Saved.{has_other_content}
use Rattle.dump_law.proofs.Elements.{of-filter, of-first}
use Rattle.dump_law.proofs.StreamRead.{AreAdded}
use Rattle.dump_law.proofs.Streams.{all_ids, commit_parts, commit_split, shapes_of, own, of_append, of_flat}
use Rattle.stream_law.specs.Stream.{CommitsAreRead}
use Rattle.stream_law.proofs.ReadStream.{stream-read}
use Rattle.stream_law.proofs.Sound.{IsSound, objects-sound}

-- ---- none is refused behind others

module _ (all : List Object) (one : has_other_content all ≡ false) where
  not-refused : (known : List Object) (o : Object) → ((x : Object) → In x known → In x all) → In o all → IsSound o → object_fault known o ≡ None
  unfolding object_fault
  not-refused known o in_all i s =
      let none : list_any (is_other_content o) known ≡ false =
      none_all (is_other_content o) known (λ x j. none_in (is_other_content o) all x (none_in (λ y. list_any (is_other_content y) all) all o one i) (in_all x j)) in
      rw (s.1, none, object_fault) refl

  pub all-added : (known os : List Object) → ((x : Object) → In x known → In x all) → ((o : Object) → In o os → In o all) → ((o : Object) → In o all → IsSound o) → AreAdded known os
  all-added known [] in_all of_all sound = tt
  all-added known (o ∷ os) in_all of_all sound =
      let s = sound o (of_all o (inl refl)) in
      (s.0, not-refused known o in_all (of_all o (inl refl)) s, all-added (objects_after known o) os after (λ x i. of_all x (inr i)) sound)
    where
      after : (x : Object) → In x (objects_after known o) → In x all
      after x i = by (knows_object known o.id) i
        where
          by : (t : Bool) → In x (if t then known else known ++ o ∷ []) → In x all
          by true j = in_all x j
          by false j = elim (of_append x known (o ∷ []) j) [
            | inl k ↦ in_all x k
            | inr (inl q) ↦ subst (λ (y : Object). In y all) (sym q) (of_all o (inl refl))
            | inr (inr k) ↦ absurd k
          ]

-- ---- each is within the limits of a stream

wide : (kind : ObjectKind) → same_kind commit kind ≡ false → size_limit kind ≡ text_limit
wide blob h = refl
wide tree h = refl
wide tag h = refl
wide commit h = absurd (true≢false h)

within : (c : CommitView) → IsCommitView c → CommitFits c → (o : Object) → In o (commit_objects c) → length o.content ≤ size_limit o.kind
within c v f o i = elim (of_append o (shapes_of c) (own c ∷ []) (subst (λ (l : List Object). In o l) (commit_split c) i)) [
  | inl j ↦ subst (λ n. length o.content ≤ n) (sym (wide o.kind (commit_parts c v o j).no_commit)) (each_in (λ x. length x.content ≤ text_limit) (commit_objects c) o f.objects i)
  | inr (inl q) ↦ subst (λ (x : Object). length x.content ≤ size_limit x.kind) (sym q) f.text
  | inr (inr k) ↦ absurd k
]

all-fit : (cs : List CommitView) → Each IsCommitView cs → Each CommitFits cs → (o : Object) → In o (objects_in cs) → IsFit o
all-fit cs vs fits o i =
    let r = of_flat commit_objects o cs i in
    (each_in (λ x. IsId x.id) (objects_in cs) o (all_ids cs vs) i, within r.0 (each_in IsCommitView cs r.0 vs r.1) (each_in CommitFits cs r.0 fits r.1) o r.2)

-- ---- the whole

pub commits-read : CommitsAreRead
unfolding git_increment
commits-read cs vs fits one short =
    let new : List Object = only_new same_object [] (objects_in cs) in
    let of_new : (o : Object) → In o (only_new same_object [] (objects_in cs)) → In o (objects_in cs) =
    λ o i. of-first same_object o (objects_in cs) (of-filter (λ x. not (list_any (same_object x) [])) o (first_of_each same_object (objects_in cs)) i) in
    stream-read [] new (each_from IsFit new (λ o i. all-fit cs vs fits o (of_new o i)))
    (all-added (objects_in cs) one [] new (λ x i. absurd i) of_new (objects-sound cs vs)) short
