-- One file more.
use Rattle.std.proofs.Common.{◌≡◌, ◌≤◌, ◌<◌, ◌+◌, ◌++◌, ℕ, zero, suc, Bool, true, false, true≢false, List, [], ◌∷◌, map, take, Option, Some, None, refl, sym, ap, subst, ◌∙◌, bytes_eq, arith, append_assoc, append-nil}
use Rattle.std.proofs.lemmas.Option.{same_Some, none-some}
use Rattle.std.specs.Prelude.{slice_get, IsTrue, if◌then◌else◌}
use Rattle.std.specs.List.{find}
use Rattle.std.proofs.lemmas.Slice.Eq.{bytes_eq-Decides}
use Rattle.text_model.specs.Lists.{Each, rises}
use Rattle.text_model.specs.Text.{Bytes, is_below}
use Rattle.text_model.specs.Id.{Id}
use Rattle.text_model.proofs.OrderLemmas.{is_below-irreflexive}
use Rattle.text_model.proofs.TestLemmas.{both}
use Rattle.git_model.specs.Tree.{is_blob_mode}
use Rattle.git_model.specs.Unfold.{FileRow}
use Rattle.hg_model.specs.Manifest.{ManifestEntry}
use Rattle.hg_model.specs.Revision.{Revision, Group, Changesets, Manifests, FilesAt, is_of, revision_of, same_group}
use Rattle.view_model.specs.View.{file_node, files_among, Row, TreeRow, entry_of_row}
use Rattle.view_model.specs.Held.{IsFileHeld, file_row_of}
use Rattle.pair_model.specs.Block.{Parents}
use Rattle.pair_model.specs.Rule.{revision_at, ruled_row, ruled_rows}
use Rattle.pair_known.specs.Fresh.{group_path, AreFreshFiles}
use Rattle.pair_known.specs.declared.fresh_files.FreshFile.{FreshFile}
use Rattle.text_model.proofs.Search.{IsRising, rising}
use Rattle.file_rule.specs.Parents.{IsRevisionAt, row_with}
use Rattle.file_rule.specs.Made.{fresh_list}

-- ---- the entry of a path in a parent

entry-there : (known : List Revision) (rows : List Row) (path : Bytes) → Each (IsFileHeld known) rows
    → IsRevisionAt known path (find (λ e. bytes_eq e.path path) (map entry_of_row rows)) (revision_at rows path)
entry-there known [] path h = tt
entry-there known (row ∷ rows) path h = by (bytes_eq row.path path) refl (entry-there known rows path h.1)
  where
    by : (t : Bool) → bytes_eq row.path path ≡ t → IsRevisionAt known path (find (λ e. bytes_eq e.path path) (map entry_of_row rows)) (revision_at rows path)
        → IsRevisionAt known path (find (λ e. bytes_eq e.path path) (map entry_of_row (row ∷ rows))) (revision_at (row ∷ rows) path)
    by true t go =
        let same : row.path ≡ path = (bytes_eq-Decides row.path path).0 t in
        let held : IsFileHeld known (row_with row.path row.flag row.revision) = record { revision = h.0.revision; is_held = h.0.is_held; parents = h.0.parents; text = h.0.text } in
        rw t (same, refl, subst (λ (p : Bytes). IsFileHeld known (row_with p row.flag row.revision)) same held)
    by false t go = rw t go

pub entry-in : (known : List Revision) (manifest : List ManifestEntry) (rows : List Row) (path : Bytes) (e : Option ManifestEntry) → map entry_of_row rows ≡ manifest → Each (IsFileHeld known) rows
    → e ≡ find (λ x. bytes_eq x.path path) manifest → IsRevisionAt known path e (revision_at rows path)
entry-in known manifest rows path e same held is =
    subst (λ (o : Option ManifestEntry). IsRevisionAt known path o (revision_at rows path)) (sym (is ∙ ap (λ (l : List ManifestEntry). find (λ x. bytes_eq x.path path) l) (sym same))) (entry-there known rows path held)

-- what a walk through a parent's entries finds
pub seen : (manifest walk : List ManifestEntry) (p q : Bytes) (e : Option ManifestEntry) → walk ≡ manifest → p ≡ q → e ≡ find (λ x. bytes_eq x.path p) walk → e ≡ find (λ x. bytes_eq x.path q) manifest
seen manifest walk p q e same path is = is ∙ (λ i. find (λ x. bytes_eq x.path (path i)) (same i))

-- ---- looking behind what is brought for other paths

other : (path p : Bytes) → (path ≡ p → ⊥) → bytes_eq path p ≡ false
other path p h = by (bytes_eq path p) refl
  where
    by : (t : Bool) → bytes_eq path p ≡ t → bytes_eq path p ≡ false
    by true e = absurd (h ((bytes_eq-Decides path p).0 e))
    by false e = e

pub apart-below : (g : Group) (path : Bytes) → is_below (group_path g) path ≡ true → same_group (FilesAt path) g ≡ false
apart-below Changesets path h = refl
apart-below Manifests path h = refl
apart-below (FilesAt p) path h = other path p (λ same. true≢false (sym h ∙ ap (λ (x : Bytes). is_below p x) same ∙ is_below-irreflexive p))

pub apart-above : (path p : Bytes) → is_below path p ≡ true → same_group (FilesAt path) (FilesAt p) ≡ false
apart-above path p h = other path p (λ same. true≢false (sym h ∙ ap (λ (x : Bytes). is_below x p) same ∙ is_below-irreflexive p))

behind : (xs ys : List Revision) (path : Bytes) (node : Id) → Each (λ r. same_group (FilesAt path) r.group ≡ false) xs → revision_of (xs ++ ys) (FilesAt path) node ≡ revision_of ys (FilesAt path) node
behind [] ys path node h = refl
behind (x ∷ xs) ys path node h = rw (h.0) (behind xs ys path node h.1)

between : (xs fl ys : List Revision) (path : Bytes) (node : Id) → Each (λ r. same_group (FilesAt path) r.group ≡ false) fl → revision_of ((xs ++ fl) ++ ys) (FilesAt path) node ≡ revision_of (xs ++ ys) (FilesAt path) node
between [] fl ys path node h = behind fl ys path node h
between (x ∷ xs) fl ys path node h = by (is_of (FilesAt path) node x) refl (between xs fl ys path node h)
  where
    by : (t : Bool) → is_of (FilesAt path) node x ≡ t → revision_of ((xs ++ fl) ++ ys) (FilesAt path) node ≡ revision_of (xs ++ ys) (FilesAt path) node
        → revision_of (x ∷ ((xs ++ fl) ++ ys)) (FilesAt path) node ≡ revision_of (x ∷ (xs ++ ys)) (FilesAt path) node
    by true t go = rw t refl
    by false t go = rw t go

held-between : (xs fl ys : List Revision) (row : Row) → Each (λ r. same_group (FilesAt row.path) r.group ≡ false) fl → IsFileHeld (xs ++ ys) row → IsFileHeld ((xs ++ fl) ++ ys) row
held-between xs fl ys row apart h = record {
  revision = h.revision;
  is_held = between xs fl ys row.path (file_node row.revision) apart ∙ h.is_held;
  parents = h.parents;
  text = h.text;
}

held-behind : (xs fl ys : List Revision) (row : Row) → Each (λ r. same_group (FilesAt row.path) r.group ≡ false) xs → IsFileHeld (fl ++ ys) row → IsFileHeld ((xs ++ fl) ++ ys) row
held-behind xs fl ys row apart h = record {
  revision = h.revision;
  is_held = ap (λ (l : List Revision). revision_of l (FilesAt row.path) (file_node row.revision)) (append_assoc xs fl ys) ∙ behind xs (fl ++ ys) row.path (file_node row.revision) apart ∙ h.is_held;
  parents = h.parents;
  text = h.text;
}

-- ---- what was brought lies below what comes

-- each path that was brought is below those of the files from a place on
abbrev pub IsAhead : List FileRow → ℕ → List Revision → Type 0
IsAhead files i fresh = Each (λ r. (k : ℕ) (x : FileRow) → i ≤ k → slice_get files k ≡ Some x → is_below (group_path r.group) x.path ≡ true) fresh

get_below : (x : FileRow) (files : List FileRow) (k : ℕ) (y : FileRow) → Each (λ z. is_below x.path z.path ≡ true) files → slice_get files k ≡ Some y → is_below x.path y.path ≡ true
get_below x [] k y h at = absurd (none-some _ at)
get_below x (z ∷ files) zero y h at = ap (λ (v : FileRow). is_below x.path v.path) (sym (same_Some _ _ at)) ∙ h.0
get_below x (z ∷ files) (suc k) y h at = get_below x files k y h.1 at

pub rises-at : (files : List FileRow) (i k : ℕ) (x y : FileRow) → IsRising (λ (r : FileRow). r.path) files → i < k → slice_get files i ≡ Some x → slice_get files k ≡ Some y → is_below x.path y.path ≡ true
rises-at [] i k x y up lt at to = absurd (none-some _ at)
rises-at (z ∷ files) i zero x y up lt at to = absurd (omega (arith, lt))
rises-at (z ∷ files) zero (suc k) x y up lt at to = ap (λ (v : FileRow). is_below v.path y.path) (sym (same_Some _ _ at)) ∙ get_below z files k y up.0 to
rises-at (z ∷ files) (suc i) (suc k) x y up lt at to = rises-at files i k x y up.1 (omega (arith, lt)) at to

module _ (files : List FileRow) (up : IsTrue (rises is_below (map (λ (r : FileRow). r.path) files))) (i : ℕ) (file : FileRow) (at : slice_get files i ≡ Some file) where
  pub ahead-more : (fresh : List Revision) (made : Option FreshFile) → IsAhead files i fresh → ((f : FreshFile) → made ≡ Some f → f.path ≡ file.path) → IsAhead files (i + 1) (fresh ++ fresh_list made)
  ahead-more [] None h path = tt
  ahead-more [] (Some f) h path =
      ((λ k x le to. ap (λ (p : Bytes). is_below p x.path) (path f refl) ∙ rises-at files i k file x (rising (λ (r : FileRow). r.path) files up) (omega (arith, le)) at to), tt)
  ahead-more (r ∷ fresh) made h path = ((λ k x le to. h.0 k x (omega (arith, le)) to), ahead-more fresh made h.1 path)

  pub ahead-past : (fresh : List Revision) → IsAhead files i fresh → IsAhead files (i + 1) fresh
  ahead-past [] h = tt
  ahead-past (r ∷ fresh) h = ((λ k x le to. h.0 k x (omega (arith, le)) to), ahead-past fresh h.1)

  pub ahead-here : (fresh : List Revision) → IsAhead files i fresh → Each (λ r. is_below (group_path r.group) file.path ≡ true) fresh
  ahead-here [] h = tt
  ahead-here (r ∷ fresh) h = (h.0 i file (omega arith) at, ahead-here fresh h.1)

-- paths that rise, and one more above them
pub fresh-rises : (fresh : List Revision) (made : Option FreshFile) (path : Bytes) → AreFreshFiles fresh → Each (λ r. is_below (group_path r.group) path ≡ true) fresh → ((f : FreshFile) → made ≡ Some f → f.path ≡ path)
    → AreFreshFiles (fresh ++ fresh_list made)
fresh-rises fresh None path up below is = subst AreFreshFiles (sym (append-nil fresh)) up
fresh-rises [] (Some f) path up below is = refl
fresh-rises (r ∷ []) (Some f) path up below is = rw (ap (is_below (group_path r.group)) (is f refl) ∙ below.0) refl
fresh-rises (r ∷ s ∷ fresh) (Some f) path up below is =
    let parts = both (is_below (group_path r.group) (group_path s.group)) (rises is_below (map (λ (x : Revision). group_path x.group) (s ∷ fresh))) up in
    rw (parts.0) (fresh-rises (s ∷ fresh) (Some f) path parts.1 below.1 is)

-- ---- one row more

-- ---- files among rows

-- one row more, a file
pub among-more : (ts : List TreeRow) (i : ℕ) (t : TreeRow) → slice_get ts i ≡ Some t → is_blob_mode t.mode ≡ true → files_among (take (i + 1) ts) ≡ files_among (take i ts) ++ t ∷ []
among-more [] i t at file = absurd (none-some _ at)
among-more (y ∷ ts) zero t at file =
    let is : y ≡ t = same_Some _ _ at in
    ap (λ (b : Bool). if b then y ∷ [] else []) (ap (λ (x : TreeRow). is_blob_mode x.mode) is ∙ file) ∙ ap (λ (x : TreeRow). x ∷ []) is
among-more (y ∷ ts) (suc i) t at file = rw plus (by (is_blob_mode y.mode) (among-more ts i t at file))
  where
    plus : suc i + 1 ≡ suc (i + 1)
    plus = omega arith

    by : (b : Bool) → files_among (take (i + 1) ts) ≡ files_among (take i ts) ++ t ∷ [] → (if b then y ∷ files_among (take (i + 1) ts) else files_among (take (i + 1) ts)) ≡ (if b then y ∷ files_among (take i ts) else files_among (take i ts)) ++ t ∷ []
    by true rest = ap (λ (l : List TreeRow). y ∷ l) rest
    by false rest = rest

-- one row more, no file
pub among-same : (ts : List TreeRow) (i : ℕ) (t : TreeRow) → slice_get ts i ≡ Some t → is_blob_mode t.mode ≡ false → files_among (take (i + 1) ts) ≡ files_among (take i ts)
among-same [] i t at other = absurd (none-some _ at)
among-same (y ∷ ts) zero t at other = ap (λ (b : Bool). if b then y ∷ [] else []) (ap (λ (x : TreeRow). is_blob_mode x.mode) (same_Some _ _ at) ∙ other)
among-same (y ∷ ts) (suc i) t at other = rw plus (ap (λ (l : List TreeRow). if is_blob_mode y.mode then y ∷ l else l) (among-same ts i t at other))
  where
    plus : suc i + 1 ≡ suc (i + 1)
    plus = omega arith

-- what holds of all rows holds of the files
each-among : {Y : Type 0} (P : Y → Type 0) (f : TreeRow → Y) (ts : List TreeRow) → Each P (map f ts) → Each P (map f (files_among ts))
each-among P f [] h = tt
each-among P f (y ∷ ts) h = by (is_blob_mode y.mode) (each-among P f ts h.1)
  where
    by : (b : Bool) → Each P (map f (files_among ts)) → Each P (map f (if b then y ∷ files_among ts else files_among ts))
    by true rest = (h.0, rest)
    by false rest = rest

-- rows before a place have paths below that of the file there
all-below : (ps : Parents) (ts : List TreeRow) (i : ℕ) (file : FileRow) → IsRising (λ (r : FileRow). r.path) (map file_row_of ts) → slice_get (map file_row_of ts) i ≡ Some file
    → Each (λ row. is_below row.path file.path ≡ true) (map (ruled_row ps) (take i ts))
all-below ps [] i file up at = absurd (none-some _ at)
all-below ps (t ∷ ts) zero file up at = tt
all-below ps (t ∷ ts) (suc i) file up at = (get_below (file_row_of t) (map file_row_of ts) i file up.0 at, all-below ps ts i file up.1 at)

-- files before a place have paths below that of the row there
pub rows-below : (ps : Parents) (ts : List TreeRow) (i : ℕ) (file : FileRow) → IsRising (λ (r : FileRow). r.path) (map file_row_of ts) → slice_get (map file_row_of ts) i ≡ Some file
    → Each (λ row. is_below row.path file.path ≡ true) (ruled_rows ps (take i ts))
rows-below ps ts i file up at = each-among (λ (row : Row). is_below row.path file.path ≡ true) (ruled_row ps) (take i ts) (all-below ps ts i file up at)

pub held-more : (fresh : List Revision) (made : Option FreshFile) (known : List Revision) (path : Bytes) (rows : List Row) → ((f : FreshFile) → made ≡ Some f → f.path ≡ path)
    → Each (λ row. is_below row.path path ≡ true) rows → Each (IsFileHeld (fresh ++ known)) rows → Each (IsFileHeld ((fresh ++ fresh_list made) ++ known)) rows
held-more fresh made known path [] is below h = tt
held-more fresh made known path (row ∷ rows) is below h =
    (held-between fresh (fresh_list made) known row (apart made is) h.0, held-more fresh made known path rows is below.1 h.1)
  where
    apart : (m : Option FreshFile) → ((f : FreshFile) → m ≡ Some f → f.path ≡ path) → Each (λ r. same_group (FilesAt row.path) r.group ≡ false) (fresh_list m)
    apart None is = tt
    apart (Some f) is = (apart-above row.path f.path (ap (is_below row.path) (is f refl) ∙ below.0), tt)

pub held-here : (fresh : List Revision) (made : Option FreshFile) (known : List Revision) (row : Row) → Each (λ r. is_below (group_path r.group) row.path ≡ true) fresh
    → IsFileHeld (fresh_list made ++ known) row → IsFileHeld ((fresh ++ fresh_list made) ++ known) row
held-here fresh made known row below h = held-behind fresh (fresh_list made) known row (apart fresh below) h
  where
    apart : (fs : List Revision) → Each (λ r. is_below (group_path r.group) row.path ≡ true) fs → Each (λ r. same_group (FilesAt row.path) r.group ≡ false) fs
    apart [] h = tt
    apart (r ∷ fs) h = (apart-below r.group row.path h.0, apart fs h.1)
