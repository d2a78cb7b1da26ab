-- A commit that was made comes to the store.
use Rattle.std.proofs.Common.{◌≡◌, ◌≤◌, ◌⊎◌, ◌||◌, not, nat_lt, Bool, true, false, true≢false, arith, List, [], ◌∷◌, ◌++◌, length, map, Option, Some, None, refl, sym, ap, subst, ◌∙◌, inl, inr}
use Rattle.std.specs.Prelude.{bytes_eq, is_some, if◌then◌else◌, IsTrue}
use Rattle.std.specs.List.{list_any}
use Rattle.std.proofs.lemmas.Bool.{and_parts}
use Rattle.std.proofs.lemmas.Bool.Decides.{nat_tests}
use Rattle.std.proofs.lemmas.Slice.Eq.{bytes_eq-Decides}
use Rattle.text_model.specs.Lists.{In, Each, SomeOf}
use Rattle.text_model.specs.Text.{Bytes}
use Rattle.text_model.specs.Fault as fault
use Rattle.text_model.specs.Id.{Id, blob, commit, object_id, blob_id, has_id}
use Rattle.text_model.proofs.EachLemmas.{Each-front, Each-rest}
use Rattle.git_model.specs.Tree.{has_distinct}
use Rattle.git_model.specs.Commit.{commit_text}
use Rattle.git_model.specs.Object.{Object, object_at, knows_object, content_fault}
use Rattle.git_model.specs.Shape.{trees_of}
use Rattle.git_model.specs.Unfold.{FileRow, walk_fault}
use Rattle.text_model.proofs.Options.{some_is}
use Rattle.text_model.proofs.Elements.{in_left, in_right, each_in, none_in, each_from, in_map}
use Rattle.git_model.proofs.CommitLemmas.{commit_fault-text, parent_ids-text}
use Rattle.git_store.specs.Known.{AreKnown}
use Rattle.tree_shape.specs.Laws.{IsKnown}
use Rattle.tree_shape.proofs.Elements.{in-append}
use Rattle.view_model.specs.View.{Row, TreeRow, CommitView, IsCommitView, HaveSameBodies, commit_id, commit_objects, files_among}
use Rattle.view_model.specs.Held.{file_row_of}
use Rattle.pair_model.specs.Block.{Block, commits_in}
use Rattle.pair_model.specs.Collision.{commit_collides}
use Rattle.pair_known.specs.Ruled.{IsMadeCommit, blob_of_row}
use Rattle.pair_known.specs.declared.git_draft.GitDraft.{GitDraft}
use Rattle.pair_state.specs.Blocks.{body_blob}
use Rattle.git_store.specs.Growth.{IsRight, HasGrown, Clash}
use Rattle.git_store.proofs.Growth.{found-in}
use Rattle.git_store.proofs.Places.{found-one}
use Rattle.pair_state.specs.declared.state_parts.StateParts.{StateParts}
use Rattle.pair_state.proofs.CommitParts.{own, are-files, no-clash, own-in, among, blob-of, tree-of, HoldsAll, known-part, clash-collides, blob-id}
use Rattle.pair_state.proofs.TreeTexts.{trees-right}
use Rattle.git_view.proofs.WalkGrowth.{walk-on}

pub some-row : (rows : List TreeRow) (P : TreeRow → Type 0) → SomeOf rows P → (row : TreeRow) × In row rows × P row
some-row [] P s = absurd s
some-row (row ∷ rows) P (inl p) = (row, inl refl, p)
some-row (row ∷ rows) P (inr s) = let r = some-row rows P s in (r.0, inr r.1, r.2)

pub some-body : (rows : List Row) (P : Object → Type 0) → SomeOf rows (λ x. P (body_blob x)) → (o : Object) × In o (map body_blob rows) × P o
some-body [] P s = absurd s
some-body (row ∷ rows) P (inl p) = (body_blob row, inl refl, p)
some-body (row ∷ rows) P (inr s) = let r = some-body rows P s in (r.0, inr r.1, r.2)

pub each-of_map : {X Y : Type 0} (P : Y → Type 0) (f : X → Y) (xs : List X) → Each P (map f xs) → Each (λ x. P (f x)) xs
each-of_map P f [] h = tt
each-of_map P f (x ∷ xs) h = (h.0, each-of_map P f xs h.1)

pub each-to_map : {X Y : Type 0} (P : Y → Type 0) (f : X → Y) (xs : List X) → Each (λ x. P (f x)) xs → Each P (map f xs)
each-to_map P f [] h = tt
each-to_map P f (x ∷ xs) h = (h.0, each-to_map P f xs h.1)

-- an id that the new objects or the store have is known after they came
pub knows-grown : (old new fresh : List Object) (id : Id) → ((id : Id) (o : Object) → object_at old id ≡ Some o → object_at new id ≡ Some o) → Each (IsKnown new) fresh → knows_object (fresh ++ old) id ≡ true → knows_object new id ≡ true
knows-grown old new [] id kept added h = by (object_at old id) refl h
  where
    by : (o : Option Object) → object_at old id ≡ o → is_some o ≡ true → knows_object new id ≡ true
    by None e i = absurd (true≢false (sym i))
    by (Some o) e i = ap is_some (kept id o e)
knows-grown old new (x ∷ fresh) id kept added h = by (bytes_eq id x.id) refl h (knows-grown old new fresh id kept added.1)
  where
    by : (t : Bool) → bytes_eq id x.id ≡ t → is_some (if t then Some x else object_at (fresh ++ old) id) ≡ true → (knows_object (fresh ++ old) id ≡ true → knows_object new id ≡ true) → knows_object new id ≡ true
    by true t i later = ap (knows_object new) ((bytes_eq-Decides id x.id).0 t) ∙ ap is_some added.0
    by false t i later = later i

-- the bodies are the blobs of the files
pub same-blobs : (xs : List Row) (ts : List TreeRow) → HaveSameBodies xs ts → ((t : TreeRow) → In t ts → t.id ≡ blob_id t.content) → map body_blob xs ≡ map blob_of_row ts
same-blobs [] [] same ids = refl
same-blobs [] (t ∷ ts) same ids = absurd same
same-blobs (x ∷ xs) [] same ids = absurd same
same-blobs (x ∷ xs) (t ∷ ts) same ids =
    (λ i. record { id = (ap blob_id same.1 ∙ sym (ids t (inl refl))) i; kind = blob; content = same.1 i } ∷ same-blobs xs ts same.2 (λ u j. ids u (inr j)) i)

-- the state with these objects and these agreed changesets
abbrev pub with_objects : StateParts → List Object → List Id → StateParts
with_objects s git ids = record {
  known = record { hg = s.known.hg; git = git; partners = s.known.partners };
  blocks = s.blocks;
  changesets = s.changesets;
  commits = s.commits;
  tags = s.tags;
  names = s.names;
  agreed = ids;
  alloc = s.alloc;
}

pub has-push : (ids : List Id) (x y : Id) → has_id (ids ++ y ∷ []) x ≡ true → (has_id ids x ≡ true) ⊎ (x ≡ y)
has-push [] x y h = inr (by (bytes_eq x y) refl h)
  where
    by : (t : Bool) → bytes_eq x y ≡ t → (t || false) ≡ true → x ≡ y
    by true e h = (bytes_eq-Decides x y).0 e
    by false e h = absurd (true≢false (sym h))
has-push (i ∷ ids) x y h = by (bytes_eq x i) h (has-push ids x y)
  where
    by : (t : Bool) → (t || has_id (ids ++ y ∷ []) x) ≡ true → (has_id (ids ++ y ∷ []) x ≡ true → (has_id ids x ≡ true) ⊎ (x ≡ y)) → ((t || has_id ids x) ≡ true) ⊎ (x ≡ y)
    by true h later = inl refl
    by false h later = later h

-- an object that is found among the new objects or the store is found after they came
pub found-grown : (old new fresh : List Object) (o : Object) → ((id : Id) (o : Object) → object_at old id ≡ Some o → object_at new id ≡ Some o) → Each (IsKnown new) fresh → object_at (fresh ++ old) o.id ≡ Some o → object_at new o.id ≡ Some o
found-grown old new [] o kept added h = kept o.id o h
found-grown old new (x ∷ fresh) o kept added h = by (bytes_eq o.id x.id) h (found-grown old new fresh o kept added.1)
  where
    by : (t : Bool) → (if t then Some x else object_at (fresh ++ old) o.id) ≡ Some o → (object_at (fresh ++ old) o.id ≡ Some o → object_at new o.id ≡ Some o) → object_at new o.id ≡ Some o
    by true is later = let q : x ≡ o = some_is {x = x} {y = o} is in subst (λ (y : Object). object_at new y.id ≡ Some y) q added.0
    by false is later = later is

few-fit : (n : _) → n ≤ 64 → nat_lt 64 n ≡ false
few-fit n h = grind (arith, h, nat_tests)

pub inserted : (ids old : List Id) (y : Id) (new : Bool) → ids ≡ (if new then old ++ y ∷ [] else old) → (x : Id) → has_id ids x ≡ true → (has_id old x ≡ true) ⊎ (x ≡ y)
inserted ids old y true is x h = has-push old x y (sym (ap (λ (l : List Id). has_id l x) is) ∙ h)
inserted ids old y false is x h = inl (sym (ap (λ (l : List Id). has_id l x) is) ∙ h)

module _ (git : List Object) (d : GitDraft) (c : CommitView) (made : IsMadeCommit git d c) where
  abbrev pub parts : List Object
  parts = d.fresh ++ d.trees ++ own c ∷ []

  abbrev pub view : IsCommitView c
  view = made.view

  pub file-id : (row : TreeRow) → In row (files_among c.rows) → row.id ≡ blob_id row.content
  file-id row i = let a = among c view row i in blob-id row.mode row.id row.content (each_in _ c.rows row view.rows a.0).3 a.1

  -- ---- what is added

  fresh-of : (o : Object) → In o d.fresh → (row : TreeRow) × In row (files_among c.rows) × (o ≡ blob_of_row row)
  fresh-of o i = some-row (files_among c.rows) (λ row. o ≡ blob_of_row row) (each_in (λ o. SomeOf (files_among c.rows) (λ row. o ≡ blob_of_row row)) d.fresh o made.blobs i)

  pub right-blobs : Each IsRight d.fresh
  right-blobs = each_from IsRight d.fresh (λ o i.
      let r = fresh-of o i in
      subst IsRight (sym r.2) (sym (file-id r.0 r.1), refl))

  tree-among : (o : Object) → In o d.trees → In o (trees_of (map file_row_of c.rows))
  tree-among o i = subst (λ (fs : List FileRow). In o (trees_of fs)) made.files (each_in (λ o. In o (trees_of d.files)) d.trees o made.trees_are i)

  pub right-trees : Each IsRight d.trees
  right-trees = each_from IsRight d.trees (λ o i. each_in IsRight (trees_of (map file_row_of c.rows)) o (trees-right (map file_row_of c.rows) (are-files c view) (no-clash c view)) (tree-among o i))

  module _ (text : Bytes) (is : text ≡ commit_text d.commit) where
    text-is : text ≡ commit_text c.value
    text-is = is ∙ sym (ap commit_text made.value)

    pub right-commit : content_fault commit text ≡ None
    right-commit =
        ap (content_fault commit) text-is
        ∙ (λ i. if is_some (commit_fault-text (commit_text c.value) c.value (view.value, refl) i) then Some fault.ObjectShape
        else if not (has_distinct (parent_ids-text (commit_text c.value) c.value (view.value, refl) i)) then Some fault.ParentTwice
        else if nat_lt 64 (length (parent_ids-text (commit_text c.value) c.value (view.value, refl) i)) then Some fault.ParentLimit else None)
        ∙ (λ i. if not (view.distinct i) then Some fault.ParentTwice else if nat_lt 64 (length (c.value).parents) then Some fault.ParentLimit else None)
        ∙ (λ i. if few-fit (length (c.value).parents) view.few i then Some fault.ParentLimit else None)

    pub id-is : (id : Id) → id ≡ object_id commit text → id ≡ commit_id c
    unfolding commit_id
    id-is id e = e ∙ ap (object_id commit) text-is

    pub own-is : (id : Id) → id ≡ object_id commit text → record { id = id; kind = commit; content = text } ≡ own c
    own-is id e = (λ i. record { id = (e ∙ ap (object_id commit) text-is) i; kind = commit; content = text-is i })

  pub inside : (o : Object) → In o parts → In o (commit_objects c)
  inside o i = by (in-append o (d.fresh ++ d.trees) (own c ∷ []) i)
    where
      whole : In o d.fresh ⊎ In o d.trees → In o (commit_objects c)
      whole (inl j) = let r = fresh-of o j in subst (λ (x : Object). In x (commit_objects c)) (sym r.2) (blob-of c view r.0 r.1)
      whole (inr j) = tree-of c view o (tree-among o j)

      by : In o (d.fresh ++ d.trees) ⊎ In o (own c ∷ []) → In o (commit_objects c)
      by (inl j) = whole (in-append o d.fresh d.trees j)
      by (inr (inl q)) = subst (λ (x : Object). In x (commit_objects c)) (sym q) (own-in c view)
      by (inr (inr j)) = absurd j

  pub parts-clash : (blocks : List Block) → Clash git parts → IsTrue (commit_collides git blocks c)
  parts-clash blocks k = clash-collides c git parts blocks inside k

  module _ (new : List Object) (grown : HasGrown git new parts) where
    pub added : Each (IsKnown new) (d.fresh ++ d.trees)
    added = Each-front (IsKnown new) (d.fresh ++ d.trees) (own c ∷ []) grown.added

    pub knows-new : (id : Id) → knows_object (d.fresh ++ git) id ≡ true → knows_object new id ≡ true
    knows-new id h = knows-grown git new d.fresh id grown.kept (Each-front (IsKnown new) d.fresh d.trees added) h

    pub known-new : (o : Object) → IsKnown (d.fresh ++ git) o → IsKnown new o
    known-new o h = found-grown git new d.fresh o grown.kept (Each-front (IsKnown new) d.fresh d.trees added) h

    -- what is another content of a body is another one of the objects of the commit
    pub among-all : (o : Object) → In o new → In o (git ++ commit_objects c)
    among-all o i = by (in-append o git parts (grown.only o i))
      where
        by : In o git ⊎ In o parts → In o (git ++ commit_objects c)
        by (inl j) = in_left o git (commit_objects c) j
        by (inr j) = in_right o git (commit_objects c) (inside o j)

    module _ (before : AreKnown git) (are : AreKnown new) (blobs : Each (λ row. IsKnown new (blob_of_row row)) (files_among c.rows)) where
      pub all : HoldsAll c view new
      all = record {
        trees = each_from (IsKnown new) (trees_of (map file_row_of c.rows)) (λ o i. tree o (in-append o d.trees git
            (each_in (λ o. In o (d.trees ++ git)) (trees_of d.files) o made.trees_held (subst (λ (fs : List FileRow). In o (trees_of fs)) (sym made.files) i))));
        blobs = blobs;
        itself = (Each-rest (IsKnown new) (d.fresh ++ d.trees) (own c ∷ []) grown.added).0;
      }
        where
          tree : (o : Object) → In o d.trees ⊎ In o git → IsKnown new o
          tree o (inl j) = each_in (IsKnown new) d.trees o (Each-rest (IsKnown new) d.fresh d.trees added) j
          tree o (inr j) = grown.kept o.id o (found-one git before.are.distinct o j)

      pub all-among : (o : Object) → In o (git ++ commit_objects c) → In o new
      all-among o i = by (in-append o git (commit_objects c) i)
        where
          by : In o git ⊎ In o (commit_objects c) → In o new
          by (inl j) = grown.older o j
          by (inr j) = found-in new o.id o (known-part c view new are all o j)

-- ---- walks through the trees of commits that were there

pub old-walks : (git : List Object) (bs : List Block) → Each (λ b. walk_fault git ((b.commit).value).tree_id ≡ None) bs → Each (λ (c : CommitView). walk_fault git (c.value).tree_id ≡ None) (commits_in bs)
old-walks git [] a = tt
old-walks git (b ∷ bs) a = (a.0, old-walks git bs a.1)

pub new-walks : (git new : List Object) → ((id : Id) (o : Object) → object_at git id ≡ Some o → object_at new id ≡ Some o) → AreKnown git → (bs : List Block)
    → Each (λ b. walk_fault git ((b.commit).value).tree_id ≡ None) bs → Each (λ b. walk_fault new ((b.commit).value).tree_id ≡ None) bs
new-walks git new kept before [] a = tt
new-walks git new kept before (b ∷ bs) a = (walk-on git new kept before ((b.commit).value).tree_id a.0, new-walks git new kept before bs a.1)
