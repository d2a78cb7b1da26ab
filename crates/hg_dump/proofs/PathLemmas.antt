-- The paths of a map, rising, are those of which revisions are written.
use Rattle.std.proofs.Common.{◌≡◌, ◌&&◌, ◌||◌, Bool, true, false, true≢false, Less, ℕ, List, [], ◌∷◌, ◌++◌, map, Option, Some, None, refl, sym, ap, ◌∙◌}
use Rattle.std.specs.Prelude.{bytes_eq, filter, if◌then◌else◌, is_some}
use Rattle.std.specs.List.{list_any, flat_map, filter_map, AllByRecursion}
use Rattle.std.specs.List.Sorted.{IsStrictlySortedBy}
use Rattle.std.specs.Global.{Vec}
use Rattle.std.specs.Map.{keys_of, lookup}
use Rattle.std.specs.Ordering.{nat_cmp, is_lt, is_eq}
use Rattle.std.specs.Cmp.Lexicographic.{slice_cmp}
use Rattle.std.specs.BTreeMap.{BTreeMap}
use Rattle.std.proofs.lemmas.Map.Text.{is_eq-slice_cmp}
use Rattle.std.proofs.lemmas.Slice.Eq.{bytes_eq-Decides}
use Rattle.text_model.specs.Lists.{Each, first_of_each}
use Rattle.text_model.specs.Text.{Bytes, is_below}
use Rattle.text_model.proofs.TestLemmas.{same_bool}
use Rattle.hg_model.specs.Revision.{Group, Changesets, Manifests, FilesAt, Revision, same_group}
use Rattle.hg_model.specs.Bundle.{FileGroup, file_group_text}
use Rattle.view_model.specs.Dump.{of_group, path_of_group, paths_in, written_file}
use Rattle.hg_dump.specs.declared.references.Reference.{Reference}
use Rattle.hg_dump.specs.Referred.{Referred, or_nothing}
use Rattle.hg_dump.specs.Written.{reference_to, file_part, file_part_of}
use Rattle.hg_dump.specs.State.{AreFiles, AreRising, paths_of}
use Rattle.hg_dump.proofs.FileLemmas.{by_path}
use Rattle.path_law.proofs.Order.{has, IsUp, same-rising, up-in_order, apart-first, has-in_order, has-first}

-- ---- rising paths

pub up-from_rising : (xs : List Bytes) → AreRising xs → IsUp xs
unfolding IsStrictlySortedBy
up-from_rising [] h = tt
up-from_rising (x ∷ xs) h = (above xs h.0, up-from_rising xs h.1)
  where
    above : (ys : List Bytes) → AllByRecursion (λ y. slice_cmp nat_cmp x y ≡ Less) ys → Each (λ y. is_below x y ≡ true) ys
    above [] a = tt
    above (y ∷ ys) a = (ap is_lt a.0, above ys a.1)

-- ---- the paths of revisions

abbrev pub is_at_path : Bytes → Revision → Bool
is_at_path p r = same_group (FilesAt p) r.group

abbrev pub is_written : List Revision → Bytes → Bool
is_written rs p = list_any (is_at_path p) rs

has-paths : (p : Bytes) (rs : List Revision) → has (filter_map (λ r. path_of_group r.group) rs) p ≡ is_written rs p
has-paths p [] = refl
has-paths p (r ∷ rs) = by r.group refl (has-paths p rs)
  where
    by : (g : Group) → r.group ≡ g → has (filter_map (λ x. path_of_group x.group) rs) p ≡ is_written rs p
        → has (filter_map (λ x. path_of_group x.group) (r ∷ rs)) p ≡ is_written (r ∷ rs) p
    by Changesets e rest = rw e rest
    by Manifests e rest = rw e rest
    by (FilesAt q) e rest = rw e (ap (λ (b : Bool). bytes_eq p q || b) rest)

has-paths_in : (p : Bytes) (rs : List Revision) → has (paths_in rs) p ≡ is_written rs p
unfolding paths_in
has-paths_in p rs =
    has-in_order p (first_of_each bytes_eq (filter_map (λ r. path_of_group r.group) rs)) ∙ has-first p (filter_map (λ r. path_of_group r.group) rs) ∙ has-paths p rs

up-paths_in : (rs : List Revision) → IsUp (paths_in rs)
unfolding paths_in
up-paths_in rs = up-in_order (first_of_each bytes_eq (filter_map (λ r. path_of_group r.group) rs)) (apart-first (filter_map (λ r. path_of_group r.group) rs))

-- ---- the paths of a map

is_some-lookup : (p : Bytes) (es : List (Vec ℕ × Referred)) → is_some (lookup (λ k. is_eq (slice_cmp nat_cmp p k.items)) es) ≡ has (map (λ k. k.items) (keys_of es)) p
is_some-lookup p [] = refl
is_some-lookup p (e ∷ es) = by (bytes_eq p e.0.items) refl (is_some-lookup p es)
  where
    by : (b : Bool) → bytes_eq p e.0.items ≡ b → is_some (lookup (λ k. is_eq (slice_cmp nat_cmp p k.items)) es) ≡ has (map (λ k. k.items) (keys_of es)) p
        → is_some (lookup (λ k. is_eq (slice_cmp nat_cmp p k.items)) (e ∷ es)) ≡ has (map (λ k. k.items) (keys_of (e ∷ es))) p
    by true t rest = rw (is_eq-slice_cmp p e.0.items ∙ t, t) refl
    by false t rest = rw (is_eq-slice_cmp p e.0.items ∙ t, t) rest

module _ (known : List Revision) (files : BTreeMap (Vec ℕ) Referred) (rs : List Revision) (are : AreFiles known files rs) where
  -- the map has each path of which something is written
  has-written : (p : Bytes) → is_written rs p ≡ true → has (paths_of files) p ≡ true
  has-written p h = by (by_path files p) refl
    where
      none-of : (rs : List Revision) → is_written rs p ≡ true → [] ≡ map reference_to (of_group (FilesAt p) rs) → ⊥
      none-of [] t e = true≢false (sym t)
      none-of (r ∷ rs) t e = at (is_at_path p r) refl (none-of rs)
        where
          at : (b : Bool) → is_at_path p r ≡ b → (is_written rs p ≡ true → [] ≡ map reference_to (of_group (FilesAt p) rs) → ⊥) → ⊥
          at true u rest = let f : map reference_to (of_group (FilesAt p) (r ∷ rs)) ≡ reference_to r ∷ map reference_to (of_group (FilesAt p) rs) = rw u refl in empty (e ∙ f)
            where
              empty : {x : Reference} {xs : List Reference} → [] ≡ x ∷ xs → ⊥
              empty c = cc
          at false u rest = let f : map reference_to (of_group (FilesAt p) (r ∷ rs)) ≡ map reference_to (of_group (FilesAt p) rs) = rw u refl in rest (sym (rw u refl) ∙ t) (e ∙ f)

      by : (o : Option Referred) → by_path files p ≡ o → has (paths_of files) p ≡ true
      by None e = absurd (none-of rs h (ap (λ (x : Option Referred). (or_nothing x).brought) (sym e) ∙ (are p).references_are))
      by (Some x) e = sym (is_some-lookup p files.entries) ∙ ap is_some e

  has-kept : (p : Bytes) (ps : List Bytes) → has (filter (is_written rs) ps) p ≡ (has ps p && is_written rs p)
  has-kept p [] = refl
  has-kept p (q ∷ qs) = by (bytes_eq p q) (is_written rs q) refl refl (has-kept p qs)
    where
      and-true : (a : Bool) → (a && true) ≡ a
      and-true true = refl
      and-true false = refl

      and-false : (a : Bool) → (a && false) ≡ false
      and-false true = refl
      and-false false = refl

      by : (b k : Bool) → bytes_eq p q ≡ b → is_written rs q ≡ k → has (filter (is_written rs) qs) p ≡ (has qs p && is_written rs p)
          → has (filter (is_written rs) (q ∷ qs)) p ≡ (has (q ∷ qs) p && is_written rs p)
      by true true e t rest = rw (t, e) (sym (ap (is_written rs) ((bytes_eq-Decides p q).0 e) ∙ t))
      by true false e t rest =
          let none : is_written rs p ≡ false = ap (is_written rs) ((bytes_eq-Decides p q).0 e) ∙ t in
          rw (t, e) (rest ∙ ap (λ (b : Bool). has qs p && b) none ∙ and-false (has qs p) ∙ sym none)
      by false true e t rest = rw (t, e) rest
      by false false e t rest = rw (t, e) rest

  kept-is : AreRising (paths_of files) → filter (is_written rs) (paths_of files) ≡ paths_in rs
  kept-is rising = same-rising (filter (is_written rs) (paths_of files)) (paths_in rs) (up-filter (paths_of files) (up-from_rising (paths_of files) rising)) (up-paths_in rs)
      (λ p. has-kept p (paths_of files) ∙ same_bool (has (paths_of files) p && is_written rs p) (is_written rs p) (right (has (paths_of files) p) (is_written rs p)) (λ h. both' (has (paths_of files) p) (is_written rs p) (has-written p h) h) ∙ sym (has-paths_in p rs))
    where
      right : (a b : Bool) → (a && b) ≡ true → b ≡ true
      right true b h = h
      right false b h = absurd (true≢false (sym h))

      both' : (a b : Bool) → a ≡ true → b ≡ true → (a && b) ≡ true
      both' a b h k = rw (h, k) refl

      each-filter : (P : Bytes → Type 0) (xs : List Bytes) → Each P xs → Each P (filter (is_written rs) xs)
      each-filter P [] h = tt
      each-filter P (x ∷ xs) h = by (is_written rs x) refl (each-filter P xs h.1)
        where
          by : (b : Bool) → is_written rs x ≡ b → Each P (filter (is_written rs) xs) → Each P (filter (is_written rs) (x ∷ xs))
          by true e rest = rw e (h.0, rest)
          by false e rest = rw e rest

      up-filter : (xs : List Bytes) → IsUp xs → IsUp (filter (is_written rs) xs)
      up-filter [] h = tt
      up-filter (x ∷ xs) h = by (is_written rs x) refl (up-filter xs h.1)
        where
          by : (b : Bool) → is_written rs x ≡ b → IsUp (filter (is_written rs) xs) → IsUp (filter (is_written rs) (x ∷ xs))
          by true e rest = rw e (each-filter (λ y. is_below x y ≡ true) xs h.0, rest)
          by false e rest = rw e rest

  part-is : (p : Bytes) → file_part known rs p ≡ (if is_written rs p then file_group_text (written_file known rs p) else [])
  part-is p = by rs
    where
      f : FileGroup
      f = written_file known rs p

      by : (xs : List Revision) → file_part_of f (of_group (FilesAt p) xs) ≡ (if is_written xs p then file_group_text f else [])
      by [] = refl
      by (x ∷ xs) = at (is_at_path p x) refl (by xs)
        where
          at : (b : Bool) → is_at_path p x ≡ b → file_part_of f (of_group (FilesAt p) xs) ≡ (if is_written xs p then file_group_text f else [])
              → file_part_of f (of_group (FilesAt p) (x ∷ xs)) ≡ (if is_written (x ∷ xs) p then file_group_text f else [])
          at true e rest = rw e refl
          at false e rest = rw e rest

  parts-are : (ps : List Bytes) → flat_map (file_part known rs) ps ≡ flat_map file_group_text (map (written_file known rs) (filter (is_written rs) ps))
  parts-are [] = refl
  parts-are (p ∷ ps) = by (is_written rs p) refl (parts-are ps)
    where
      by : (b : Bool) → is_written rs p ≡ b → flat_map (file_part known rs) ps ≡ flat_map file_group_text (map (written_file known rs) (filter (is_written rs) ps))
          → flat_map (file_part known rs) (p ∷ ps) ≡ flat_map file_group_text (map (written_file known rs) (filter (is_written rs) (p ∷ ps)))
      by true e rest = rw e (λ i. (part-is p ∙ pick true e) i ++ rest i)
        where
          pick : (b : Bool) → is_written rs p ≡ b → (if is_written rs p then file_group_text (written_file known rs p) else []) ≡ (if b then file_group_text (written_file known rs p) else [])
          pick b t = ap (λ (x : Bool). if x then file_group_text (written_file known rs p) else []) t
      by false e rest = rw e ((λ i. (part-is p ∙ ap (λ (x : Bool). if x then file_group_text (written_file known rs p) else []) e) i ++ rest i))

  -- the parts of the map's paths are the file part of the bundle
  pub file-parts : AreRising (paths_of files) → flat_map (file_part known rs) (paths_of files) ≡ flat_map file_group_text (map (written_file known rs) (paths_in rs))
  file-parts rising = parts-are (paths_of files) ∙ ap (λ (ps : List Bytes). flat_map file_group_text (map (written_file known rs) ps)) (kept-is rising)
