-- Objects that are known with their kinds and contents: one id has one kind and content.
use Rattle.std.proofs.Common.{◌≡◌, ℕ, zero, suc, Bool, true, false, true≢false, not, ◌&&◌, List, [], ◌∷◌, ◌++◌, Option, Some, None, refl, sym, ap, subst, ◌∙◌, inl, inr, if◌then◌else◌}
use Rattle.std.specs.Prelude.{bytes_eq}
use Rattle.std.specs.List.{find, flat_map, list_any}
use Rattle.text_model.specs.Lists.{Each, In}
use Rattle.text_model.specs.Id.{Id, ObjectKind, blob, tree, commit, tag, same_kind}
use Rattle.text_model.proofs.EachLemmas.{Each-append}
use Rattle.text_model.proofs.Elements.{each_in, each_from, in_right, none_in, none_all, find-more}
use Rattle.text_model.proofs.Options.{some_is}
use Rattle.text_model.proofs.TestLemmas.{both, bytes_eq-is, bytes_eq-self}
use Rattle.git_model.specs.Tree.{TreeEntry, is_directory, is_blob_mode}
use Rattle.git_model.specs.Object.{Object, has_id, object_at, knows_object, same_object, is_other_content, objects_after, objects_after_all, tree_at}
use Rattle.git_model.specs.Unfold.{walk_fault}
use Rattle.git_store.specs.Known.{AreKnown}
use Rattle.git_dump.specs.Walks.{objects_at, object_list, file_objects, entry_objects, walk_objects}
use Rattle.git_dump.proofs.CommitLemmas.{objects-of}
use Rattle.view_model.specs.View.{CommitView, commit_objects}
use Rattle.view_model.specs.Held.{IsCommitHeld}
use Rattle.state_model.specs.Saved.{has_other_content}
use Rattle.next_law.proofs.LikeNew.{find-in}

-- the object is known with its kind and content
pub record IsKnownAs (known : List Object) (o : Object) : Type 0 where
  pub it : Object
  pub found : object_at known o.id ≡ Some it
  pub kind : o.kind ≡ it.kind
  pub content : o.content ≡ it.content

-- all that is found in the first is found in the second
abbrev pub IsMore : List Object → List Object → Type 0
IsMore known other = (id : Id) (o : Object) → object_at known id ≡ Some o → object_at other id ≡ Some o

pub known-more : (known other : List Object) → IsMore known other → (o : Object) → IsKnownAs known o → IsKnownAs other o
known-more known other more o k = record { it = k.it; found = more o.id k.it k.found; kind = k.kind; content = k.content }

pub append-more : (known more : List Object) → IsMore known (known ++ more)
append-more known more id o h = find-more (has_id id) known more o h

after-more : (known : List Object) (o : Object) → IsMore known (objects_after known o)
after-more known o id x h = by (knows_object known o.id)
  where
    by : (t : Bool) → object_at (if t then known else known ++ o ∷ []) id ≡ Some x
    by true = h
    by false = find-more (has_id id) known (o ∷ []) x h

pub all-more : (known os : List Object) → IsMore known (objects_after_all known os)
all-more known [] id x h = h
all-more known (o ∷ os) id x h = all-more (objects_after known o) os id x (after-more known o id x h)

-- ---- one id has one kind and content

kind-self : (k : ObjectKind) → same_kind k k ≡ true
kind-self blob = refl
kind-self tree = refl
kind-self commit = refl
kind-self tag = refl

alike : (a b : Object) → a.kind ≡ b.kind → a.content ≡ b.content → is_other_content a b ≡ false
alike a b kind content = by (same_object a b)
  where
    same : (same_kind a.kind b.kind && bytes_eq a.content b.content) ≡ true
    same = rw (ap (same_kind a.kind) (sym kind) ∙ kind-self a.kind, ap (bytes_eq a.content) (sym content) ∙ bytes_eq-self a.content) refl

    by : (t : Bool) → (t && not (same_kind a.kind b.kind && bytes_eq a.content b.content)) ≡ false
    by true = rw same refl
    by false = refl

known-both : (known : List Object) (a b : Object) → IsKnownAs known a → IsKnownAs known b → is_other_content a b ≡ false
known-both known a b x y = by (same_object a b) refl
  where
    by : (t : Bool) → same_object a b ≡ t → is_other_content a b ≡ false
    by false e = rw e refl
    by true e =
        let id : a.id ≡ b.id = bytes_eq-is a.id b.id e in
        let one : x.it ≡ y.it = some_is (sym x.found ∙ ap (object_at known) id ∙ y.found) in
        alike a b (x.kind ∙ ap (λ (o : Object). o.kind) one ∙ sym y.kind) (x.content ∙ ap (λ (o : Object). o.content) one ∙ sym y.content)

pub none-other : (known os : List Object) → Each (IsKnownAs known) os → has_other_content os ≡ false
none-other known os each =
    none_all (λ o. list_any (is_other_content o) os) os
    (λ o i. none_all (is_other_content o) os (λ x j. known-both known o x (each_in (IsKnownAs known) os o each i) (each_in (IsKnownAs known) os x each j)))

-- ---- what a commit that is held has

pub found-as : (known : List Object) (id : Id) (o : Object) → object_at known id ≡ Some o → IsKnownAs known o
found-as known id o h =
    let at = find-in (has_id id) known o h in
    record { it = o; found = ap (object_at known) (sym (bytes_eq-is id o.id at.1)) ∙ h; kind = refl; content = refl }

at-known : (known : List Object) (id : Id) → Each (IsKnownAs known) (objects_at known id)
at-known known id = by (object_at known id) refl
  where
    by : (o : Option Object) → object_at known id ≡ o → Each (IsKnownAs known) (object_list o)
    by None e = tt
    by (Some o) e = (found-as known id o e, tt)

file-known : (known : List Object) (e : TreeEntry) → Each (IsKnownAs known) (file_objects known e)
file-known known e = by (is_blob_mode e.mode)
  where
    by : (t : Bool) → Each (IsKnownAs known) (if t then objects_at known e.id else [])
    by true = at-known known e.id
    by false = tt

entries-known : (known : List Object) (subtree : Id → List Object) → ((id : Id) → Each (IsKnownAs known) (subtree id)) → (entries : List TreeEntry) → Each (IsKnownAs known) (flat_map (entry_objects known subtree) entries)
entries-known known subtree go [] = tt
entries-known known subtree go (e ∷ entries) =
    Each-append (IsKnownAs known) (entry_objects known subtree e) (flat_map (entry_objects known subtree) entries) (by (is_directory e.mode)) (entries-known known subtree go entries)
  where
    by : (t : Bool) → Each (IsKnownAs known) (if t then subtree e.id else file_objects known e)
    by true = go e.id
    by false = file-known known e

walk-known : (known : List Object) (depth : ℕ) (id : Id) → Each (IsKnownAs known) (walk_objects known depth id)
unfolding walk_objects
walk-known known zero id = tt
walk-known known (suc depth) id = by (tree_at known id) (λ n. walk-known known depth n)
  where
    by : (o : Option (List TreeEntry)) → ((n : Id) → Each (IsKnownAs known) (walk_objects known depth n)) → Each (IsKnownAs known) (elim o as (λ _. List Object) [ None ↦ [] | Some entries ↦ flat_map (entry_objects known (walk_objects known depth)) entries ++ objects_at known id ])
    by None go = tt
    by (Some entries) go =
        Each-append (IsKnownAs known) (flat_map (entry_objects known (walk_objects known depth)) entries) (objects_at known id)
        (entries-known known (walk_objects known depth) go entries) (at-known known id)

pub commit-known : (known : List Object) → AreKnown known → (id : Id) (c : CommitView) → IsCommitHeld known id c → walk_fault known (c.value).tree_id ≡ None → Each (IsKnownAs known) (commit_objects c)
commit-known known are id c held walks =
    subst (Each (IsKnownAs known)) (sym (objects-of known are id c (held, walks)))
    (Each-append (IsKnownAs known) (walk_objects known 257 (c.value).tree_id) (objects_at known id) (walk-known known 257 (c.value).tree_id) (at-known known id))

-- ---- what isn't known otherwise

find-some : {X : Type 0} (p : X → Bool) (x : X) (xs : List X) → In x xs → p x ≡ true → (y : X) × (find p xs ≡ Some y)
find-some {X = X} p x [] i h = absurd i
find-some {X = X} p x (y ∷ xs) i h = by (p y) refl i (find-some p x xs)
  where
    by : (t : Bool) → p y ≡ t → In x (y ∷ xs) → (In x xs → p x ≡ true → (z : X) × (find p xs ≡ Some z)) → (z : X) × (find p (y ∷ xs) ≡ Some z)
    by true e j go = (y, rw e refl)
    by false e (inl q) go = absurd (true≢false (sym h ∙ ap p q ∙ e))
    by false e (inr j) go = let r = go j h in (r.0, rw e r.1)

kinds-same : (a b : ObjectKind) → same_kind a b ≡ true → a ≡ b
kinds-same blob blob e = refl
kinds-same tree tree e = refl
kinds-same commit commit e = refl
kinds-same tag tag e = refl
kinds-same blob tree e = absurd cc
kinds-same blob commit e = absurd cc
kinds-same blob tag e = absurd cc
kinds-same tree blob e = absurd cc
kinds-same tree commit e = absurd cc
kinds-same tree tag e = absurd cc
kinds-same commit blob e = absurd cc
kinds-same commit tree e = absurd cc
kinds-same commit tag e = absurd cc
kinds-same tag blob e = absurd cc
kinds-same tag tree e = absurd cc
kinds-same tag commit e = absurd cc

not-other : (t u : Bool) → t ≡ true → (t && not u) ≡ false → u ≡ true
not-other true true e h = refl
not-other true false e h = absurd (true≢false h)
not-other false u e h = absurd (true≢false (sym e))

pub added-known : (known own : List Object) → list_any (λ o. list_any (is_other_content o) (known ++ own)) own ≡ false → Each (IsKnownAs (known ++ own)) own
added-known known own none = each_from (IsKnownAs (known ++ own)) own one
  where
    one : (o : Object) → In o own → IsKnownAs (known ++ own) o
    one o i =
        let f = find-some (has_id o.id) o (known ++ own) (in_right o known own i) (bytes_eq-self o.id) in
        let at = find-in (has_id o.id) (known ++ own) f.0 f.1 in
        let other = none_in (is_other_content o) (known ++ own) f.0 (none_in (λ o. list_any (is_other_content o) (known ++ own)) own o none i) at.0 in
        let parts = both (same_kind o.kind (f.0).kind) (bytes_eq o.content (f.0).content) (not-other (same_object o f.0) (same_kind o.kind (f.0).kind && bytes_eq o.content (f.0).content) at.1 other) in
        record { it = f.0; found = f.1; kind = kinds-same o.kind (f.0).kind parts.0; content = bytes_eq-is o.content (f.0).content parts.1 }
