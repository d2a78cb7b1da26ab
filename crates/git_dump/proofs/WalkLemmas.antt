-- What a walk has met: with a tree all that it reaches.
use Rattle.tree_shape.proofs.VisitLemmas.{no-dir}
use Rattle.std.proofs.Common.{◌≡◌, ℕ, zero, suc, ◌+◌, ◌-◌, ◌≤◌, ◌<◌, length, take, get_or, arith, append-nil, Bool, true, false, true≢false, List, [], ◌∷◌, ◌++◌, Option, Some, None, refl, sym, ap, subst, ◌∙◌, append_assoc, inl, inr}
use Rattle.std.specs.Prelude.{if◌then◌else◌, is_some}
use Rattle.std.specs.List.{flat_map}
use Rattle.std.proofs.lemmas.List.{take_all}
use Rattle.std.proofs.lemmas.List.Concat.{flat_map-append}
use Rattle.std.proofs.Math.Seq.{take-suc}
use Rattle.text_model.specs.Lists.{In, Each}
use Rattle.text_model.specs.Id.{Id, ObjectKind, blob, tree, same_kind, has_id}
use Rattle.text_model.proofs.EachLemmas.{Each-append, Each-front, Each-rest, Each-weaker}
use Rattle.text_model.proofs.OrderLemmas.{has_id-In, In-has_id}
use Rattle.git_model.specs.Tree.{TreeEntry, is_directory, is_blob_mode}
use Rattle.git_model.specs.Object.{Object, object_at, knows_object, entries_of, tree_at}
use Rattle.git_model.specs.Unfold.{is_kind_there}
use Rattle.text_model.proofs.Options.{none_some, some_is}
use Rattle.text_model.proofs.Elements.{in_left, in_right}
use Rattle.tree_shape.proofs.Elements.{in-append}
use Rattle.git_view.proofs.Found.{found-id, some-tree, there}
use Rattle.git_dump.specs.Walks.{object_list, objects_at, file_objects, entry_objects, walk_objects, IsWalkableEntry, IsWalkable, IsMetEntry, IsClosed}
use Rattle.git_dump.specs.Visits.{ids_of, first_met, Met, Visited}
use Rattle.git_dump.proofs.VisitLemmas.{visited-none, visited-append}

abbrev pub AreMet : List Id → List Object → Type 0
AreMet met objects = Each (λ o. has_id met o.id ≡ true) objects

pub stays-met : (met more : List Id) (id : Id) → has_id met id ≡ true → has_id (met ++ more) id ≡ true
stays-met met more id h = In-has_id (met ++ more) id (in_left id met more (has_id-In met id h))

entry-stays : (met more : List Id) (e : TreeEntry) → IsMetEntry met e → IsMetEntry (met ++ more) e
entry-stays met more e h = record { subtree = λ d. stays-met met more e.id (h.subtree d); file = λ d. stays-met met more e.id (h.file d) }

-- ---- the walk, step by step

pub walk-none : (known : List Object) (depth : ℕ) (id : Id) → tree_at known id ≡ None → walk_objects known (suc depth) id ≡ []
unfolding walk_objects
walk-none known depth id h = rw (h, walk_objects) refl

pub walk-some : (known : List Object) (depth : ℕ) (id : Id) (entries : List TreeEntry) → tree_at known id ≡ Some entries
    → walk_objects known (suc depth) id ≡ flat_map (entry_objects known (walk_objects known depth)) entries ++ objects_at known id
unfolding walk_objects
walk-some known depth id entries h = rw (h, walk_objects) refl

-- ---- what was met before is not met again

one-met : (known : List Object) (met : List Id) (id : Id) → has_id met id ≡ true → AreMet met (objects_at known id)
one-met known met id h = by (object_at known id) refl
  where
    by : (o : Option Object) → object_at known id ≡ o → AreMet met (object_list o)
    by None e = tt
    by (Some o) e = (subst (λ (x : Id). has_id met x ≡ true) (found-id known id o e) h, tt)

entry-met : (known : List Object) (met : List Id) (subtree : Id → List Object) (e : TreeEntry) → IsMetEntry met e → (has_id met e.id ≡ true → AreMet met (subtree e.id)) → AreMet met (entry_objects known subtree e)
entry-met known met subtree e h below = by (is_directory e.mode) refl
  where
    file : (t : Bool) → is_blob_mode e.mode ≡ t → AreMet met (if t then objects_at known e.id else [])
    file true t = one-met known met e.id (h.file t)
    file false t = tt

    by : (t : Bool) → is_directory e.mode ≡ t → AreMet met (if t then subtree e.id else file_objects known e)
    by true t = below (h.subtree t)
    by false t = file (is_blob_mode e.mode) refl

entries-met : (known : List Object) (met : List Id) (subtree : Id → List Object) → ((id : Id) → has_id met id ≡ true → AreMet met (subtree id)) → (entries : List TreeEntry) → Each (IsMetEntry met) entries
    → AreMet met (flat_map (entry_objects known subtree) entries)
entries-met known met subtree below [] h = tt
entries-met known met subtree below (e ∷ entries) h =
    Each-append (λ o. has_id met o.id ≡ true) (entry_objects known subtree e) (flat_map (entry_objects known subtree) entries) (entry-met known met subtree e h.0 (below e.id)) (entries-met known met subtree below entries h.1)

pub all-met : (known : List Object) (met : List Id) → IsClosed known met → (depth : ℕ) (id : Id) → has_id met id ≡ true → AreMet met (walk_objects known depth id)
unfolding walk_objects
all-met known met closed zero id h = tt
all-met known met closed (suc depth) id h = by (tree_at known id) refl (all-met known met closed depth)
  where
    by : (o : Option (List TreeEntry)) → tree_at known id ≡ o → ((id : Id) → has_id met id ≡ true → AreMet met (walk_objects known depth id)) → AreMet met (walk_objects known (suc depth) id)
    by None e below = subst (AreMet met) (sym (walk-none known depth id e)) tt
    by (Some entries) e below =
        subst (AreMet met) (sym (walk-some known depth id entries e))
        (Each-append (λ o. has_id met o.id ≡ true) (flat_map (entry_objects known (walk_objects known depth)) entries) (objects_at known id)
        (entries-met known met (walk_objects known depth) below entries (closed.entries id entries h e)) (one-met known met id h))

none-first : (met : List Id) (objects : List Object) → AreMet met objects → first_met met objects ≡ []
none-first met [] h = refl
none-first met (o ∷ objects) h = ap (λ (t : Bool). if t then first_met met objects else o ∷ first_met (met ++ o.id ∷ []) objects) h.0 ∙ none-first met objects h.1

pub visited-again : (objects : List Object) (a : Met) → AreMet a.met objects → Visited objects a a
visited-again objects a h =
    let none = none-first a.met objects h in
    let nothing = visited-none a in
    record {
      met = nothing.met ∙ ap (λ (l : List Object). a.met ++ ids_of l) (sym none);
      listed = nothing.listed ∙ ap (λ (l : List Object). a.listed ++ ids_of l) (sym none);
    }

-- an entry that was met adds nothing
pub entry-again : (known : List Object) (depth : ℕ) (e : TreeEntry) (a : Met) → IsClosed known a.met → has_id a.met e.id ≡ true → Visited (entry_objects known (walk_objects known depth) e) a a
entry-again known depth e a closed h =
    visited-again (entry_objects known (walk_objects known depth) e) a
    (entry-met known a.met (walk_objects known depth) e (record { subtree = λ d. h; file = λ d. h }) (all-met known a.met closed depth e.id))

-- ---- what was visited is met

pub first-met : (met : List Id) (objects : List Object) → AreMet (met ++ ids_of (first_met met objects)) objects
first-met met [] = tt
first-met met (o ∷ objects) = by (has_id met o.id) refl (first-met met objects) (first-met (met ++ o.id ∷ []) objects)
  where
    by : (t : Bool) → has_id met o.id ≡ t → AreMet (met ++ ids_of (first_met met objects)) objects → AreMet ((met ++ o.id ∷ []) ++ ids_of (first_met (met ++ o.id ∷ []) objects)) objects
        → AreMet (met ++ ids_of (if t then first_met met objects else o ∷ first_met (met ++ o.id ∷ []) objects)) (o ∷ objects)
    by true e known new = (stays-met met (ids_of (first_met met objects)) o.id e, known)
    by false e known new =
        let rest : List Id = ids_of (first_met (met ++ o.id ∷ []) objects) in
        let is : (met ++ o.id ∷ []) ++ rest ≡ met ++ o.id ∷ rest = append_assoc met (o.id ∷ []) rest in (
          In-has_id (met ++ o.id ∷ rest) o.id (in_right o.id met (o.id ∷ rest) (inl refl)),
          subst (λ (m : List Id). AreMet m objects) is new,
        )

pub visited-met : (objects : List Object) (a b : Met) → Visited objects a b → AreMet b.met objects
visited-met objects a b v = subst (λ (m : List Id). AreMet m objects) (sym v.met) (first-met a.met objects)

-- ---- what was met stays so

pub id-later : (objects : List Object) (a b : Met) (id : Id) → Visited objects a b → has_id a.met id ≡ true → has_id b.met id ≡ true
id-later objects a b id v h = subst (λ (m : List Id). has_id m id ≡ true) (sym v.met) (stays-met a.met (ids_of (first_met a.met objects)) id h)

pub entries-later : (objects : List Object) (a b : Met) (es : List TreeEntry) → Visited objects a b → Each (IsMetEntry a.met) es → Each (IsMetEntry b.met) es
entries-later objects a b es v h =
    Each-weaker (IsMetEntry a.met) (IsMetEntry b.met) (λ e k. record { subtree = λ d. id-later objects a b e.id v (k.subtree d); file = λ d. id-later objects a b e.id v (k.file d) }) es h

-- ---- what stays closed

pub of-first : (met : List Id) (objects : List Object) (id : Id) → In id (ids_of (first_met met objects)) → In id (ids_of objects)
of-first met [] id h = absurd h
of-first met (o ∷ objects) id h = by (has_id met o.id) h (of-first met objects id) (of-first (met ++ o.id ∷ []) objects id)
  where
    by : (t : Bool) → In id (ids_of (if t then first_met met objects else o ∷ first_met (met ++ o.id ∷ []) objects)) → (In id (ids_of (first_met met objects)) → In id (ids_of objects))
        → (In id (ids_of (first_met (met ++ o.id ∷ []) objects)) → In id (ids_of objects)) → In id (o.id ∷ ids_of objects)
    by true i known new = inr (known i)
    by false i known new = elim i [ inl q ↦ inl q | inr j ↦ inr (new j) ]

closed-after : (known : List Object) (objects : List Object) (a b : Met) → IsClosed known a.met → Visited objects a b
    → ((id : Id) (es : List TreeEntry) → In id (ids_of objects) → tree_at known id ≡ Some es → Each (IsMetEntry b.met) es) → IsClosed known b.met
closed-after known objects a b closed v new = record {
  entries = λ id es h at.
      elim (in-append id a.met (ids_of (first_met a.met objects)) (subst (λ (m : List Id). In id m) v.met (has_id-In b.met id h))) [
        | inl i ↦
            Each-weaker (IsMetEntry a.met) (IsMetEntry b.met)
            (λ e k. subst (λ (m : List Id). IsMetEntry m e) (sym v.met) (entry-stays a.met (ids_of (first_met a.met objects)) e k)) es (closed.entries id es (In-has_id a.met id i) at)
        | inr j ↦ new id es (of-first a.met objects id j) at
      ];
}

-- the ids of the objects with an id
of-one : (known : List Object) (id other : Id) → In other (ids_of (objects_at known id)) → other ≡ id
of-one known id other h = by (object_at known id) refl h
  where
    by : (o : Option Object) → object_at known id ≡ o → In other (ids_of (object_list o)) → other ≡ id
    by None e i = absurd i
    by (Some o) e i = elim i [ inl q ↦ q ∙ sym (found-id known id o e) | inr j ↦ absurd j ]

-- an object that is no tree
pub closed-other : (known : List Object) (id : Id) (a b : Met) → IsClosed known a.met → Visited (objects_at known id) a b → tree_at known id ≡ None → IsClosed known b.met
closed-other known id a b closed v none = closed-after known (objects_at known id) a b closed v (λ other es i at. absurd (none_some {x = es} (sym none ∙ ap (tree_at known) (sym (of-one known id other i)) ∙ at)))

pub no-tree : (known : List Object) (id : Id) (o : Object) → object_at known id ≡ Some o → same_kind o.kind tree ≡ false → tree_at known id ≡ None
no-tree known id o at other = ap entries_of at ∙ rw other refl

pub blob-there : (known : List Object) (id : Id) → is_kind_there blob (object_at known id) ≡ true → (o : Object) × (object_at known id ≡ Some o) × (same_kind o.kind tree ≡ false)
blob-there known id h = let t = there known blob id h in (t.object, t.at, ap (λ (k : ObjectKind). same_kind k tree) t.kind_is)

-- ---- a tree whose entries were visited

self-met : (known : List Object) (met : List Id) (id : Id) (o : Object) → object_at known id ≡ Some o → AreMet met (objects_at known id) → has_id met id ≡ true
self-met known met id o at h = subst (λ (x : Id). has_id met x ≡ true) (sym (found-id known id o at)) (subst (λ (p : Option Object). AreMet met (object_list p)) at h).0

pub root-met : (known : List Object) (met : List Id) (depth : ℕ) (id : Id) → IsWalkable known depth id → AreMet met (walk_objects known depth id) → has_id met id ≡ true
unfolding IsWalkable
root-met known met zero id w h = absurd w
root-met known met (suc depth) id w h =
    let o = some-tree known id w.0 w.1 in
    self-met known met id o.0 o.1 (Each-rest (λ o. has_id met o.id ≡ true) (flat_map (entry_objects known (walk_objects known depth)) w.0) (objects_at known id) (subst (AreMet met) (walk-some known depth id w.0 w.1) h))

entry-id-met : (known : List Object) (met : List Id) (depth : ℕ) (e : TreeEntry) → IsWalkableEntry known (IsWalkable known depth) e → AreMet met (entry_objects known (walk_objects known depth) e) → IsMetEntry met e
entry-id-met known met depth e w h = record {
  subtree = λ d. root-met known met depth e.id (w.subtree d) (subst (λ (t : Bool). AreMet met (if t then walk_objects known depth e.id else file_objects known e)) d h);
  file = λ b.
      let o = blob-there known e.id (w.file b) in
      self-met known met e.id o.0 o.1 (subst (λ (t : Bool). AreMet met (if t then objects_at known e.id else [])) b
      (subst (λ (t : Bool). AreMet met (if t then walk_objects known depth e.id else file_objects known e)) (no-dir e.mode b) h));
}

ids-met : (known : List Object) (met : List Id) (depth : ℕ) (entries : List TreeEntry) → Each (IsWalkableEntry known (IsWalkable known depth)) entries
    → AreMet met (flat_map (entry_objects known (walk_objects known depth)) entries) → Each (IsMetEntry met) entries
ids-met known met depth [] w h = tt
ids-met known met depth (e ∷ entries) w h = (
  entry-id-met known met depth e w.0 (Each-front (λ o. has_id met o.id ≡ true) (entry_objects known (walk_objects known depth) e) (flat_map (entry_objects known (walk_objects known depth)) entries) h),
  ids-met known met depth entries w.1 (Each-rest (λ o. has_id met o.id ≡ true) (entry_objects known (walk_objects known depth) e) (flat_map (entry_objects known (walk_objects known depth)) entries) h),
)

pub walkable-entries : (known : List Object) (depth : ℕ) (id : Id) (entries : List TreeEntry) → IsWalkable known (suc depth) id → tree_at known id ≡ Some entries → Each (IsWalkableEntry known (IsWalkable known depth)) entries
unfolding IsWalkable
walkable-entries known depth id entries w at = subst (Each (IsWalkableEntry known (IsWalkable known depth))) (some_is {x = w.0} {y = entries} (sym w.1 ∙ at)) w.2

pub closed-tree : (known : List Object) (depth : ℕ) (id : Id) (entries : List TreeEntry) (a b c : Met) → IsWalkable known (suc depth) id → tree_at known id ≡ Some entries
    → IsClosed known b.met → Visited (flat_map (entry_objects known (walk_objects known depth)) entries) a b → Visited (objects_at known id) b c → IsClosed known c.met
closed-tree known depth id entries a b c w at closed v last =
    let below : Each (IsMetEntry b.met) entries = ids-met known b.met depth entries (walkable-entries known depth id entries w at) (visited-met _ a b v) in
    closed-after known (objects_at known id) b c closed last (λ other es i there.
    let same : entries ≡ es = some_is {x = entries} {y = es} (sym at ∙ ap (tree_at known) (sym (of-one known id other i)) ∙ there) in
    Each-weaker (IsMetEntry b.met) (IsMetEntry c.met)
    (λ e k. subst (λ (m : List Id). IsMetEntry m e) (sym last.met) (entry-stays b.met (ids_of (first_met b.met (objects_at known id))) e k)) es (subst (Each (IsMetEntry b.met)) same below))

-- ---- the entries one by one

each-at : {X : Type 0} (P : X → Type 0) (xs : List X) (i : ℕ) (x : X) → Each P xs → i < length xs → x ≡ get_or xs i x → P x
each-at P [] i x h below is = absurd (omega (arith, below))
each-at P (y ∷ xs) zero x h below is = subst P (sym is) h.0
each-at P (y ∷ xs) (suc i) x h below is = each-at P xs i x h.1 (omega (arith, below)) is

flat-more : (f : TreeEntry → List Object) (entries : List TreeEntry) (i : ℕ) (e : TreeEntry) → i < length entries → e ≡ get_or entries i e → flat_map f (take (i + 1) entries) ≡ flat_map f (take i entries) ++ f e
flat-more f entries i e h is =
    let one : i + 1 ≡ suc i = omega arith in
    ap (λ (n : ℕ). flat_map f (take n entries)) one
    ∙ ap (flat_map f) (take-suc entries i e h ∙ ap (λ (x : TreeEntry). take i entries ++ x ∷ []) (sym is))
    ∙ flat_map-append f (take i entries) (e ∷ [])
    ∙ ap (λ (t : List Object). flat_map f (take i entries) ++ t) (append-nil (f e))

pub one-more : (depth : ℕ) → (depth ≡ 0 → ⊥) → depth ≡ suc (depth - 1)
one-more depth h = omega (arith, h)

-- the entry at a place of the tree
pub record Turn (known : List Object) (depth : ℕ) (id : Id) (items : List TreeEntry) (i : ℕ) (e : TreeEntry) : Type 0 where
  pub at : tree_at known id ≡ Some items
  pub walkable : IsWalkable known (suc depth) id
  pub within : i < length items
  pub is : e ≡ get_or items i e

pub turn-of : (known : List Object) (depth : ℕ) (id : Id) (entries items : List TreeEntry) (i : ℕ) (e : TreeEntry) → (depth ≡ 0 → ⊥) → Some entries ≡ tree_at known id → items ≡ entries
    → IsWalkable known depth id → i < length items → e ≡ get_or items i e → Turn known (depth - 1) id items i e
turn-of known depth id entries items i e some at same walkable within is = record {
  at = sym at ∙ ap (λ (es : List TreeEntry). Some es) (sym same);
  walkable = subst (λ (n : ℕ). IsWalkable known n id) (one-more depth some) walkable;
  within = within;
  is = is;
}

pub turn-entry : (known : List Object) (depth : ℕ) (id : Id) (items : List TreeEntry) (i : ℕ) (e : TreeEntry) → Turn known depth id items i e → IsWalkableEntry known (IsWalkable known depth) e
turn-entry known depth id items i e t = each-at (IsWalkableEntry known (IsWalkable known depth)) items i e (walkable-entries known depth id items t.walkable t.at) t.within t.is

pub turn-visited : (known : List Object) (depth : ℕ) (id : Id) (items : List TreeEntry) (i : ℕ) (e : TreeEntry) (a b c : Met) → Turn known depth id items i e
    → Visited (flat_map (entry_objects known (walk_objects known depth)) (take i items)) a b → Visited (entry_objects known (walk_objects known depth) e) b c
    → Visited (flat_map (entry_objects known (walk_objects known depth)) (take (i + 1) items)) a c
turn-visited known depth id items i e a b c t v w =
    subst (λ (os : List Object). Visited os a c) (sym (flat-more (entry_objects known (walk_objects known depth)) items i e t.within t.is)) (visited-append _ _ a b c v w)

pub dir-objects : (known : List Object) (subtree : Id → List Object) (e : TreeEntry) (id : Id) → is_directory e.mode ≡ true → id ≡ e.id → subtree id ≡ entry_objects known subtree e
dir-objects known subtree e id d is = ap subtree is ∙ sym (rw d refl)

pub file-entry : (known : List Object) (subtree : Id → List Object) (e : TreeEntry) → is_directory e.mode ≡ false → file_objects known e ≡ entry_objects known subtree e
file-entry known subtree e d = sym (ap (λ (t : Bool). if t then subtree e.id else file_objects known e) d)

-- a commit of another repository
pub no-object : (known : List Object) (e : TreeEntry) (a : Met) → is_blob_mode e.mode ≡ false → Visited (file_objects known e) a a
no-object known e a other = subst (λ (os : List Object). Visited os a a) (sym (ap (λ (t : Bool). if t then objects_at known e.id else []) other)) (visited-none a)

pub file-closed : (known : List Object) (depth : ℕ) (e : TreeEntry) (a b : Met) → IsWalkableEntry known (IsWalkable known depth) e → IsClosed known a.met → Visited (file_objects known e) a b → IsClosed known b.met
file-closed known depth e a b w closed v = by (is_blob_mode e.mode) refl v
  where
    by : (t : Bool) → is_blob_mode e.mode ≡ t → Visited (if t then objects_at known e.id else []) a b → IsClosed known b.met
    by true t v = let o = blob-there known e.id (w.file t) in closed-other known e.id a b closed v (no-tree known e.id o.0 o.1 o.2)
    by false t v = closed-after known [] a b closed v (λ id es i. absurd i)

pub last-visited : (known : List Object) (depth : ℕ) (id : Id) (items : List TreeEntry) (i : ℕ) (a b c : Met) → tree_at known id ≡ Some items → length items ≤ i
    → Visited (flat_map (entry_objects known (walk_objects known depth)) (take i items)) a b → Visited (objects_at known id) b c → Visited (walk_objects known (suc depth) id) a c
last-visited known depth id items i a b c at end v w =
    subst (λ (os : List Object). Visited os a c) (sym (walk-some known depth id items at))
    (visited-append _ _ a b c (subst (λ (es : List TreeEntry). Visited (flat_map (entry_objects known (walk_objects known depth)) es) a b) (take_all i items end) v) w)

pub last-closed : (known : List Object) (depth : ℕ) (id : Id) (items : List TreeEntry) (i : ℕ) (a b c : Met) → IsWalkable known (suc depth) id → tree_at known id ≡ Some items → length items ≤ i → IsClosed known b.met
    → Visited (flat_map (entry_objects known (walk_objects known depth)) (take i items)) a b → Visited (objects_at known id) b c → IsClosed known c.met
last-closed known depth id items i a b c w at end closed v last =
    closed-tree known depth id items a b c w at closed (subst (λ (es : List TreeEntry). Visited (flat_map (entry_objects known (walk_objects known depth)) es) a b) (take_all i items end) v) last

-- no tree lies on the way to a file
pub no-depth : (known : List Object) (depth : ℕ) (id : Id) → depth ≡ 0 → IsWalkable known depth id → ⊥
unfolding IsWalkable
no-depth known zero id is w = w
no-depth known (suc depth) id is w = absurd (omega (arith, is))

pub no-root : (known : List Object) (depth : ℕ) (id : Id) → tree_at known id ≡ None → IsWalkable known depth id → ⊥
unfolding IsWalkable
no-root known zero id at w = w
no-root known (suc depth) id at w = none_some {x = w.0} (sym at ∙ w.1)

-- an id that is unknown is that of no tree
pub no-place : (known : List Object) (depth : ℕ) (id : Id) → knows_object known id ≡ false → IsWalkable known depth id → ⊥
no-place known depth id unknown w = no-root known depth id (by (object_at known id) unknown) w
  where
    by : (found : Option Object) → is_some found ≡ false → entries_of found ≡ None
    by None h = refl
    by (Some o) h = absurd (true≢false h)
