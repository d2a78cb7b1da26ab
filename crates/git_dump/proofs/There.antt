-- The objects of commits that can be walked through are known.
use Rattle.std.proofs.Common.{◌≡◌, ℕ, zero, suc, Bool, true, false, List, [], ◌∷◌, ◌++◌, take, drop, Option, Some, None, refl, sym, ap, subst, ◌∙◌, inl, inr}
use Rattle.std.specs.Prelude.{if◌then◌else◌}
use Rattle.std.specs.List.{flat_map}
use Rattle.std.proofs.lemmas.List.Concat.{flat_map-append}
use Rattle.text_model.specs.Lists.{In, Each, only_new}
use Rattle.text_model.specs.Id.{Id, has_id}
use Rattle.text_model.proofs.Elements.{each_from}
use Rattle.git_model.specs.Tree.{TreeEntry, is_directory, is_blob_mode}
use Rattle.git_model.specs.Object.{Object, object_at, tree_at, same_object}
use Rattle.git_store.specs.Known.{AreKnown}
use Rattle.git_store.specs.Growth.{IsThere}
use Rattle.git_store.proofs.Places.{found-one}
use Rattle.tree_shape.proofs.Elements.{in-append, of-flat}
use Rattle.view_model.specs.View.{CommitView, commit_objects}
use Rattle.view_model.specs.Dump.{objects_in}
use Rattle.git_view.proofs.Found.{found-id}
use Rattle.git_dump.specs.Commits.{IsWalkableCommit, AreWalkableCommits}
use Rattle.git_dump.specs.Walks.{object_list, objects_at, objects_between, objects_of, entry_objects, walk_objects}
use Rattle.git_dump.specs.Visits.{ids_of, first_met}
use Rattle.git_dump.proofs.CommitLemmas.{objects-of}
use Rattle.git_dump.proofs.OnlyNew.{first_met-new}
use Rattle.git_dump.proofs.WalkLemmas.{walk-none, walk-some}

in-take : {X : Type 0} (x : X) (n : ℕ) (xs : List X) → In x (take n xs) → In x xs
in-take x zero xs i = absurd i
in-take x (suc n) [] i = absurd i
in-take x (suc n) (y ∷ xs) (inl q) = inl q
in-take x (suc n) (y ∷ xs) (inr j) = inr (in-take x n xs j)

in-drop : {X : Type 0} (x : X) (n : ℕ) (xs : List X) → In x (drop n xs) → In x xs
in-drop x zero xs i = i
in-drop x (suc n) [] i = absurd i
in-drop x (suc n) (y ∷ xs) i = inr (in-drop x n xs i)

module _ (known : List Object) where
  of_one : (id : Id) (o : Object) → In o (objects_at known id) → IsThere known o
  of_one id o i = by (object_at known id) refl i
    where
      by : (found : Option Object) → object_at known id ≡ found → In o (object_list found) → IsThere known o
      by None e j = absurd j
      by (Some x) e (inl q) =
          let at : object_at known id ≡ Some o = e ∙ ap (λ (y : Object). Some y) (sym q) in
          ap (object_at known) (sym (found-id known id o at)) ∙ at
      by (Some x) e (inr j) = absurd j

  of_entry : (subtree : Id → List Object) (e : TreeEntry) (o : Object) → (In o (subtree e.id) → IsThere known o) → In o (entry_objects known subtree e) → IsThere known o
  of_entry subtree e o deeper i = by (is_directory e.mode) (is_blob_mode e.mode) i
    where
      by : (d b : Bool) → In o (if d then subtree e.id else if b then objects_at known e.id else []) → IsThere known o
      by true b j = deeper j
      by false true j = of_one e.id o j
      by false false j = absurd j

  of_walk : (depth : ℕ) (id : Id) (o : Object) → In o (walk_objects known depth id) → IsThere known o
  unfolding walk_objects
  of_walk zero id o i = absurd i
  of_walk (suc depth) id o i = by (tree_at known id) refl (of_walk depth)
    where
      by : (t : Option (List TreeEntry)) → tree_at known id ≡ t → ((id : Id) (o : Object) → In o (walk_objects known depth id) → IsThere known o) → IsThere known o
      by None e deeper = absurd (subst (λ (os : List Object). In o os) (walk-none known depth id e) i)
      by (Some entries) e deeper = elim (in-append o (flat_map (entry_objects known (walk_objects known depth)) entries) (objects_at known id) (subst (λ (os : List Object). In o os) (walk-some known depth id entries e) i)) [
        | inl j ↦ (let f = of-flat (entry_objects known (walk_objects known depth)) entries o j in of_entry (walk_objects known depth) f.0 o (deeper (f.0).id o) f.2)
        | inr j ↦ of_one id o j
      ]

  module _ (are : AreKnown known) where
    of_commit : (id : Id) (c : CommitView) (o : Object) → IsWalkableCommit known id c → In o (commit_objects c) → IsThere known o
    of_commit id c o is i = elim (in-append o (walk_objects known 257 (c.value).tree_id) (objects_at known id) (subst (λ (os : List Object). In o os) (objects-of known are id c is) i)) [
      | inl j ↦ of_walk 257 (c.value).tree_id o j
      | inr j ↦ of_one id o j
    ]

    pub all_there : (ids : List Id) (cs : List CommitView) (o : Object) → AreWalkableCommits known ids cs → In o (objects_in cs) → IsThere known o
    all_there [] [] o are i = absurd i
    all_there [] (c ∷ cs) o are i = absurd are.0
    all_there (id ∷ ids) [] o are i = absurd are.0
    all_there (id ∷ ids) (c ∷ cs) o are i = elim (in-append o (commit_objects c) (objects_in cs) i) [
      | inl j ↦ of_commit id c o (are.0.0, are.1.0) j
      | inr j ↦ all_there ids cs o (are.0.1, are.1.1) j
    ]

-- ---- objects by their ids

module _ (known : List Object) where
  -- objects that are known are found under their ids
  pub all-of : (os : List Object) → Each (IsThere known) os → objects_of known (ids_of os) ≡ os
  all-of [] h = refl
  all-of (o ∷ os) h = ap (λ (found : Option Object). object_list found ++ objects_of known (ids_of os)) h.0 ∙ ap (λ (l : List Object). o ∷ l) (all-of os h.1)

  first-there : (met : List Id) (os : List Object) → Each (IsThere known) os → Each (IsThere known) (first_met met os)
  first-there met [] h = tt
  first-there met (o ∷ os) h = by (has_id met o.id) (first-there met os h.1) (first-there (met ++ o.id ∷ []) os h.1)
    where
      by : (t : Bool) → Each (IsThere known) (first_met met os) → Each (IsThere known) (first_met (met ++ o.id ∷ []) os)
          → Each (IsThere known) (if t then first_met met os else o ∷ first_met (met ++ o.id ∷ []) os)
      by true old new = old
      by false old new = (h.0, new)

  pub new-there : (old new : List Object) → Each (IsThere known) new → Each (IsThere known) (only_new same_object old new)
  new-there old new h = subst (Each (IsThere known)) (first_met-new old new) (first-there (ids_of (first_met [] old)) new h)

  -- those of a list that are new are found under their ids
  pub new-of : (old new : List Object) → Each (IsThere known) new → objects_of known (ids_of (only_new same_object old new)) ≡ only_new same_object old new
  new-of old new h = all-of (only_new same_object old new) (new-there old new h)

  pub each-there : AreKnown known → (ids : List Id) (cs : List CommitView) → AreWalkableCommits known ids cs → Each (IsThere known) (objects_in cs)
  each-there are ids cs walk = each_from (IsThere known) (objects_in cs) (λ o i. all_there known are ids cs o walk i)

  -- the objects of the store itself are found under their ids
  known-there : AreKnown known → (os : List Object) → ((o : Object) → In o os → In o known) → Each (IsThere known) os
  known-there are os within = each_from (IsThere known) os (λ o i. found-one known are.are.distinct o (within o i))

  -- the objects from one place up to another, and then those of a list, are found under their ids
  pub between-of : AreKnown known → (start end : ℕ) (listed : List Id)
      → objects_of known (ids_of (objects_between known start end) ++ listed) ≡ objects_between known start end ++ objects_of known listed
  between-of are start end listed =
      flat_map-append (objects_at known) (ids_of (objects_between known start end)) listed
      ∙ ap (λ (os : List Object). os ++ objects_of known listed)
      (all-of (objects_between known start end) (known-there are (objects_between known start end) (λ o i. in-take o end known (in-drop o start (take end known) i))))

  -- where the ids are those of the store, so are the objects
  pub same-objects : AreKnown known → (news : List Object) → Each (IsThere known) news → ids_of news ≡ ids_of known → known ≡ news
  same-objects are news there same =
      sym (all-of known (known-there are known (λ o i. i))) ∙ ap (objects_of known) (sym same) ∙ all-of news there
