-- Looking fresh file revisions and blobs up.
use Rattle.std.proofs.Common.{◌≡◌, ◌<◌, ◌+◌, ℕ, zero, suc, Bool, true, false, true≢false, cond, not, ltb, List, [], ◌∷◌, ◌++◌, length, map, get_or, Option, Some, None, refl, sym, ap, subst, ◌∙◌, bytes_eq, find, arith}
use Rattle.std.specs.List.{list_any, prefix_len}
use Rattle.std.proofs.lemmas.Bool.{or_parts}
use Rattle.std.proofs.lemmas.List.{length-map}
use Rattle.std.proofs.lemmas.List.Quantifiers.{position-Some}
use Rattle.std.specs.Prelude.{option_map, if◌then◌else◌, position}
use Rattle.std.proofs.lemmas.Slice.Eq.{bytes_eq-Decides}
use Rattle.text_model.specs.Lists.{Each, rises}
use Rattle.text_model.specs.Text.{Bytes, is_below}
use Rattle.text_model.specs.Id.{Id}
use Rattle.text_model.proofs.OrderLemmas.{is_below-irreflexive}
use Rattle.git_store.proofs.DistinctLemmas.{bytes_eq-comm}
use Rattle.git_model.specs.Object.{object_at, knows_object}
use Rattle.hg_model.specs.Revision.{Revision, FilesAt, revision_of}
use Rattle.pair_known.specs.declared.fresh_files.FreshFile.{FreshFile}
use Rattle.pair_known.specs.declared.fresh_blobs.FreshBlob.{FreshBlob}
use Rattle.pair_known.specs.Fresh.{fresh_revision, fresh_object, group_path, AreFreshFiles}
use Rattle.text_model.proofs.Search.{IsRising, rising, found_in, find-map}

abbrev pub path_in : FreshFile → Bytes
path_in f = f.path

-- the revision, where it has the node
abbrev pub with_node : Id → Option FreshFile → Option Revision
with_node node None = None
with_node node (Some f) = if bytes_eq f.node node then Some (fresh_revision f) else None

above : (path : Bytes) (node : Id) (fs : List FreshFile) → Each (λ f. is_below path f.path ≡ true) fs → revision_of (map fresh_revision fs) (FilesAt path) node ≡ None
above path node [] h = refl
above path node (f ∷ fs) h = by (bytes_eq path f.path) refl (above path node fs h.1)
  where
    by : (t : Bool) → bytes_eq path f.path ≡ t → revision_of (map fresh_revision fs) (FilesAt path) node ≡ None → revision_of (map fresh_revision (f ∷ fs)) (FilesAt path) node ≡ None
    by true t later =
        let same : path ≡ f.path = (bytes_eq-Decides path f.path).0 t in
        absurd (true≢false (sym h.0 ∙ ap (λ (p : Bytes). is_below p f.path) same ∙ is_below-irreflexive f.path))
    by false t later = rw t later

both_by : (path : Bytes) (node : Id) (f : FreshFile) → bytes_eq f.path path ≡ true → revision_of (fresh_revision f ∷ []) (FilesAt path) node ≡ with_node node (Some f)
both_by path node f same = rw (bytes_eq-comm path f.path, same, bytes_eq-comm node f.node) refl

pub fresh-at : (fs : List FreshFile) (path : Bytes) (node : Id) → IsRising path_in fs → revision_of (map fresh_revision fs) (FilesAt path) node ≡ with_node node (found_in path_in fs path)
fresh-at [] path node up = refl
fresh-at (f ∷ fs) path node up = by (bytes_eq f.path path) (bytes_eq f.node node) refl refl (fresh-at fs path node up.1)
  where
    by : (s t : Bool) → bytes_eq f.path path ≡ s → bytes_eq f.node node ≡ t → revision_of (map fresh_revision fs) (FilesAt path) node ≡ with_node node (found_in path_in fs path)
        → revision_of (map fresh_revision (f ∷ fs)) (FilesAt path) node ≡ with_node node (found_in path_in (f ∷ fs) path)
    by true true s t later = rw (bytes_eq-comm path f.path, bytes_eq-comm node f.node, s, t) refl
    by true false s t later =
        let same : f.path ≡ path = (bytes_eq-Decides f.path path).0 s in
        let none = above path node fs (subst (λ (p : Bytes). Each (λ x. is_below p x.path ≡ true) fs) same up.0) in
        rw (bytes_eq-comm path f.path, bytes_eq-comm node f.node, s, t) none
    by false t s e later = rw (bytes_eq-comm path f.path, s) later

-- ---- blobs

pub blob-at : (bs : List FreshBlob) (id : Id) → object_at (map fresh_object bs) id ≡ option_map fresh_object (find (λ (b : FreshBlob). bytes_eq id b.id) bs)
blob-at [] id = refl
blob-at (b ∷ bs) id = by (bytes_eq id b.id) refl (blob-at bs id)
  where
    by : (t : Bool) → bytes_eq id b.id ≡ t → object_at (map fresh_object bs) id ≡ option_map fresh_object (find (λ (b : FreshBlob). bytes_eq id b.id) bs)
        → object_at (map fresh_object (b ∷ bs)) id ≡ option_map fresh_object (find (λ (b : FreshBlob). bytes_eq id b.id) (b ∷ bs))
    by true t later = rw t refl
    by false t later = rw t later

pub ids_free : (bs : List FreshBlob) (id : Id) → list_any (bytes_eq id) (map (λ (b : FreshBlob). b.id) bs) ≡ false → find (λ (b : FreshBlob). bytes_eq id b.id) bs ≡ None
ids_free [] id h = refl
ids_free (b ∷ bs) id h =
    let parts = or_parts (bytes_eq id b.id) (list_any (bytes_eq id) (map (λ (b : FreshBlob). b.id) bs)) h in
    rw (parts.0) (ids_free bs id parts.1)

pub ids_any : (bs : List FreshBlob) (id : Id) → knows_object (map fresh_object bs) id ≡ false → list_any (bytes_eq id) (map (λ (b : FreshBlob). b.id) bs) ≡ false
ids_any [] id h = refl
ids_any (b ∷ bs) id h = by (bytes_eq id b.id) refl (ids_any bs id)
  where
    by : (t : Bool) → bytes_eq id b.id ≡ t → (knows_object (map fresh_object bs) id ≡ false → list_any (bytes_eq id) (map (λ (b : FreshBlob). b.id) bs) ≡ false)
        → list_any (bytes_eq id) (map (λ (b : FreshBlob). b.id) (b ∷ bs)) ≡ false
    by true t later = absurd (true≢false (sym (rw t refl) ∙ h))
    by false t later = rw t (later (sym (rw t refl) ∙ h))

find_here : {X : Type 0} (p : X → Bool) (xs : List X) (i : ℕ) (d : X) → i < length xs → p (get_or xs i d) ≡ true → ((k : ℕ) → k < i → p (get_or xs k d) ≡ false) → find p xs ≡ Some (get_or xs i d)
find_here p [] i d lt here before = absurd (omega arith)
find_here p (x ∷ xs) zero d lt here before = rw here refl
find_here p (x ∷ xs) (suc i) d lt here before = rw (before 0 (omega arith)) (find_here p xs i d (omega arith) here (λ k below. before (suc k) (omega arith)))

position-map : {X Y : Type 0} (f : X → Y) (test : Y → Bool) (xs : List X) → position test (map f xs) ≡ position (λ x. test (f x)) xs
position-map f test xs =
    let p = prefix f test xs in
    let l = length-map xs f in
    (λ i. cond (ltb (p i) (l i)) (Some (p i)) None)
  where
    prefix : {X Y : Type 0} (f : X → Y) (test : Y → Bool) (xs : List X) → prefix_len (λ y. not (test y)) (map f xs) ≡ prefix_len (λ x. not (test (f x))) xs
    prefix f test [] = refl
    prefix f test (x ∷ xs) = ap (λ n. cond (not (test (f x))) (1 + n) 0) (prefix f test xs)

module _ (bs : List FreshBlob) (ids : List Id) (keys : ids ≡ map (λ (b : FreshBlob). b.id) bs) (id : Id) (i : ℕ) (at : Some i ≡ position (bytes_eq id) ids) where
  place : position (λ (b : FreshBlob). bytes_eq id b.id) bs ≡ Some i
  place = sym (at ∙ ap (position (bytes_eq id)) keys ∙ position-map (λ (b : FreshBlob). b.id) (bytes_eq id) bs)

  pub blob-within : (d : FreshBlob) → i < length bs
  blob-within d = (position-Some (λ (b : FreshBlob). bytes_eq id b.id) bs i d place).0

  pub blob-here : (b : FreshBlob) → b ≡ get_or bs i b → Some (fresh_object b) ≡ object_at (map fresh_object bs) id
  blob-here b is =
      let p = position-Some (λ (b : FreshBlob). bytes_eq id b.id) bs i b place in
      ap (λ (x : FreshBlob). Some (fresh_object x)) is
      ∙ ap (option_map fresh_object) (sym (find_here (λ (b : FreshBlob). bytes_eq id b.id) bs i b p.0 p.1 p.2)) ∙ sym (blob-at bs id)

  pub blob-within_len : i < length bs
  blob-within_len = by bs refl
    where
      by : (xs : List FreshBlob) → bs ≡ xs → i < length bs
      by [] e = absurd (no (sym place ∙ ap (position (λ (b : FreshBlob). bytes_eq id b.id)) e))
        where
          no : Some i ≡ None → ⊥
          no e = cc
      by (x ∷ xs) e = blob-within x

map-push : (bs : List FreshBlob) (b : FreshBlob) → map (λ (b : FreshBlob). b.id) (bs ++ b ∷ []) ≡ map (λ (b : FreshBlob). b.id) bs ++ b.id ∷ []
map-push [] b = refl
map-push (x ∷ bs) b = ap (λ (l : List Id). x.id ∷ l) (map-push bs b)

pub ids-push : (bs : List FreshBlob) (b : FreshBlob) (ids ids' : List Id) (bs' : List FreshBlob) → ids ≡ map (λ (b : FreshBlob). b.id) bs → ids' ≡ ids ++ b.id ∷ [] → bs' ≡ bs ++ b ∷ []
    → ids' ≡ map (λ (b : FreshBlob). b.id) bs'
ids-push bs b ids ids' bs' keys more is =
    more ∙ ap (λ (l : List Id). l ++ b.id ∷ []) keys ∙ sym (map-push bs b) ∙ ap (map (λ (b : FreshBlob). b.id)) (sym is)

-- ---- files

pub paths_rise : (fs : List FreshFile) → AreFreshFiles (map fresh_revision fs) → rises is_below (map path_in fs) ≡ true
paths_rise fs up = ap (rises is_below) (sym (same fs)) ∙ up
  where
    same : (fs : List FreshFile) → map (λ r. group_path r.group) (map fresh_revision fs) ≡ map path_in fs
    same [] = refl
    same (f ∷ fs) = ap (λ (l : List Bytes). f.path ∷ l) (same fs)

module _ (fs : List FreshFile) (path : Bytes) (node : Id) (up : AreFreshFiles (map fresh_revision fs)) where
  found_is : (o : Option Revision) → o ≡ find (λ r. bytes_eq (group_path r.group) path) (map fresh_revision fs) → o ≡ option_map fresh_revision (found_in path_in fs path)
  found_is o is = is ∙ find-map fresh_revision (λ r. bytes_eq (group_path r.group) path) fs

  pub fresh-none : None ≡ find (λ r. bytes_eq (group_path r.group) path) (map fresh_revision fs) → None ≡ revision_of (map fresh_revision fs) (FilesAt path) node
  fresh-none is = by (found_in path_in fs path) refl (found_is None is)
    where
      by : (o : Option FreshFile) → found_in path_in fs path ≡ o → None ≡ option_map fresh_revision o → None ≡ revision_of (map fresh_revision fs) (FilesAt path) node
      by None at e = sym (fresh-at fs path node (rising path_in fs (paths_rise fs up)) ∙ ap (with_node node) at)
      by (Some f) at e = absurd (no e)
        where
          no : {r : Revision} → None ≡ Some r → ⊥
          no e = cc

  pub fresh-some : (f : FreshFile) → Some (fresh_revision f) ≡ find (λ r. bytes_eq (group_path r.group) path) (map fresh_revision fs)
      → (t : Bool) → bytes_eq f.node node ≡ t → (if t then Some (fresh_revision f) else None) ≡ revision_of (map fresh_revision fs) (FilesAt path) node
  fresh-some f is t test = by (found_in path_in fs path) refl (found_is (Some (fresh_revision f)) is)
    where
      inside : {r s : Revision} → Some r ≡ Some s → r ≡ s
      inside e = cc

      no : {r : Revision} → Some r ≡ None → ⊥
      no e = cc

      by : (o : Option FreshFile) → found_in path_in fs path ≡ o → Some (fresh_revision f) ≡ option_map fresh_revision o → (if t then Some (fresh_revision f) else None) ≡ revision_of (map fresh_revision fs) (FilesAt path) node
      by None at e = absurd (no e)
      by (Some g) at e =
          let same : fresh_revision f ≡ fresh_revision g = inside e in
          let node_same : f.node ≡ g.node = ap (λ (r : Revision). r.node) same in
          ap (λ (b : Bool). if b then Some (fresh_revision f) else None) (sym test) ∙ (λ i. if bytes_eq f.node node then Some (same i) else None) ∙ ap (λ (n : Id). if bytes_eq n node then Some (fresh_revision g) else None) node_same
          ∙ sym (fresh-at fs path node (rising path_in fs (paths_rise fs up)) ∙ ap (with_node node) at)
