-- The bundle of new changesets behind old ones is no longer than that of all of them.
use Rattle.std.proofs.Common.{◌≡◌, ◌≤◌, ◌+◌, ℕ, Bool, true, false, true≢false, not, List, [], ◌∷◌, ◌++◌, length, map, refl, ap, ◌∙◌, arith}
use Rattle.std.specs.Prelude.{sum_by, filter, bytes_eq}
use Rattle.std.proofs.lemmas.List.Sums.{sum_by-cons}
use Rattle.std.proofs.lemmas.List.Elements.{filter_map-append}
use Rattle.std.proofs.lemmas.Slice.Eq.{bytes_eq-Decides}
use Rattle.text_model.specs.Lists.{Each, first_of_each, with_inserted, in_order}
use Rattle.text_model.specs.Text.{Bytes, is_below}
use Rattle.text_model.proofs.EachLemmas.{Each-append}
use Rattle.hg_model.specs.Revision.{Group, Changesets, Manifests, FilesAt, Revision, same_group, same_revision}
use Rattle.hg_model.specs.Bundle.{bundle_text}
use Rattle.view_model.specs.View.{ChangesetView, Row, ManifestParents, NoManifest, Over, changeset_node}
use Rattle.view_model.specs.Dump.{manifest_revision, file_revision, revisions_of, revisions_in, brought_by, of_group, path_of_group, paths_in, written_group, written_file, written_bundle, hg_increment}
use Rattle.path_law.proofs.Order.{has, AreApart, apart-first}
use Rattle.hg_dump.proofs.OnceLemmas.{Each-filter, Each-new}
use Rattle.dump_law.specs.Sizes.{entries_size, file_size, paths_among}
use Rattle.dump_law.proofs.Sums.{bundle-size}
use Rattle.dump_law.proofs.Grows.{revisions-grow, of_group-append}
use Rattle.dump_law.proofs.Brought.{node_is_id}
use Rattle.bundle_size_law.proofs.Groups.{HasLink, group_less}

-- ---- each revision has the node of a changeset as its link

links : (h : ChangesetView) → Each HasLink (revisions_of h)
unfolding revisions_of
links h = (
  (node_is_id h).0,
  Each-append HasLink (manifest_revision h h.manifest) (map (file_revision (changeset_node h)) h.rows) (of_manifest h.manifest) (of_rows h.rows),
)
  where
    of_manifest : (m : ManifestParents) → Each HasLink (manifest_revision h m)
    of_manifest NoManifest = tt
    of_manifest (Over p q) = ((node_is_id h).0, tt)

    of_rows : (rows : List Row) → Each HasLink (map (file_revision (changeset_node h)) rows)
    of_rows [] = tt
    of_rows (row ∷ rows) = ((node_is_id h).0, of_rows rows)

all_links : (hs : List ChangesetView) → Each HasLink (revisions_in hs)
all_links [] = tt
all_links (h ∷ hs) = Each-append HasLink (revisions_of h) (revisions_in hs) (links h) (all_links hs)

brought_links : (old new : List ChangesetView) → Each HasLink (brought_by old new)
unfolding brought_by
brought_links old new = Each-new HasLink same_revision (revisions_in old) (revisions_in new) (all_links new)

-- ---- sums over paths, each once

-- what isn't in a list leaves it whole
kept_whole : (x : Bytes) (ys : List Bytes) → has ys x ≡ false → filter (λ y. not (bytes_eq x y)) ys ≡ ys
kept_whole x [] h = refl
kept_whole x (y ∷ ys) h = by (bytes_eq x y) refl (kept_whole x ys)
  where
    by : (t : Bool) → bytes_eq x y ≡ t → (has ys x ≡ false → filter (λ z. not (bytes_eq x z)) ys ≡ ys) → filter (λ z. not (bytes_eq x z)) (y ∷ ys) ≡ y ∷ ys
    by true e go = absurd (true≢false (rw e at h))
    by false e go = rw e (ap (λ (l : List Bytes). y ∷ l) (go (rw e at h)))

-- without a path the others' sum is less by that path's at most
sum_without : (f : Bytes → ℕ) (x : Bytes) (ys : List Bytes) → AreApart ys → sum_by f ys ≤ f x + sum_by f (filter (λ y. not (bytes_eq x y)) ys)
sum_without f x [] apart = omega arith
sum_without f x (y ∷ ys) apart = by (bytes_eq x y) refl (sum_without f x ys apart.1)
  where
    by : (t : Bool) → bytes_eq x y ≡ t → sum_by f ys ≤ f x + sum_by f (filter (λ z. not (bytes_eq x z)) ys) → sum_by f (y ∷ ys) ≤ f x + sum_by f (filter (λ z. not (bytes_eq x z)) (y ∷ ys))
    by true e go =
        let same = (bytes_eq-Decides x y).0 e in
        rw e (omega (arith, sum_by-cons f y ys, ap f same, ap (sum_by f) (kept_whole x ys (ap (has ys) same ∙ apart.0))))
    by false e go = rw e (omega (arith, sum_by-cons f y ys, sum_by-cons f y (filter (λ z. not (bytes_eq x z)) ys), go))

-- the paths of the second list alone
sum_first : (f : Bytes → ℕ) (xs ys : List Bytes) → sum_by f (first_of_each bytes_eq ys) ≤ sum_by f (first_of_each bytes_eq (xs ++ ys))
sum_first f [] ys = omega arith
sum_first f (x ∷ xs) ys =
    let all = first_of_each bytes_eq (xs ++ ys) in
    omega (arith, sum_first f xs ys, sum_without f x all (apart-first (xs ++ ys)), sum_by-cons f x (filter (λ y. not (bytes_eq x y)) all))

-- in order the sum is the same
sum_inserted : (f : Bytes → ℕ) (x : Bytes) (ys : List Bytes) → sum_by f (with_inserted is_below x ys) ≡ f x + sum_by f ys
sum_inserted f x [] = sum_by-cons f x []
sum_inserted f x (y ∷ ys) = by (is_below y x) refl (sum_inserted f x ys)
  where
    by : (t : Bool) → is_below y x ≡ t → sum_by f (with_inserted is_below x ys) ≡ f x + sum_by f ys → sum_by f (with_inserted is_below x (y ∷ ys)) ≡ f x + sum_by f (y ∷ ys)
    by true e go = rw e (omega (arith, sum_by-cons f y (with_inserted is_below x ys), go, sum_by-cons f y ys))
    by false e go = rw e (sum_by-cons f x (y ∷ ys))

sum_ordered : (f : Bytes → ℕ) (xs : List Bytes) → sum_by f (in_order is_below xs) ≡ sum_by f xs
sum_ordered f [] = refl
sum_ordered f (x ∷ xs) = omega (arith, sum_inserted f x (in_order is_below xs), sum_ordered f xs, sum_by-cons f x xs)

sum_map : {X Y : Type 0} (f : Y → ℕ) (g : X → Y) (xs : List X) → sum_by f (map g xs) ≡ sum_by (λ x. f (g x)) xs
sum_map f g [] = refl
sum_map f g (x ∷ xs) = omega (arith, sum_by-cons f (g x) (map g xs), sum_map f g xs, sum_by-cons (λ x. f (g x)) x xs)

sum_less : (f g : Bytes → ℕ) (xs : List Bytes) → ((x : Bytes) → f x ≤ g x) → sum_by f xs ≤ sum_by g xs
sum_less f g [] e = omega arith
sum_less f g (x ∷ xs) e = omega (arith, sum_by-cons f x xs, sum_by-cons g x xs, e x, sum_less f g xs e)

-- ---- the bundle

module _ (known : List Revision) where
  -- the files of a bundle
  files_sum : (rs : List Revision)
      → sum_by file_size (map (written_file known rs) (paths_in rs)) ≡ sum_by (λ path. file_size (written_file known rs path)) (first_of_each bytes_eq (paths_among rs))
  unfolding paths_in
  files_sum rs =
      sum_map file_size (written_file known rs) (in_order is_below (first_of_each bytes_eq (paths_among rs)))
      ∙ sum_ordered (λ path. file_size (written_file known rs path)) (first_of_each bytes_eq (paths_among rs))

  module _ (old new : List Revision) (h : Each HasLink old) where
    one_less : (group : Group) → entries_size (written_group known group (of_group group new)) ≤ entries_size (written_group known group (of_group group (old ++ new)))
    one_less group = omega (
      arith,
      group_less known group (of_group group old) (of_group group new) (Each-filter HasLink (λ r. same_group group r.group) old h),
      ap (λ (l : List Revision). entries_size (written_group known group l)) (of_group-append group old new),
    )

    files_less : sum_by file_size (map (written_file known new) (paths_in new)) ≤ sum_by file_size (map (written_file known (old ++ new)) (paths_in (old ++ new)))
    files_less =
        let size : Bytes → ℕ = λ path. file_size (written_file known new path) in
        let whole : Bytes → ℕ = λ path. file_size (written_file known (old ++ new) path) in
        omega (
          arith,
          files_sum new,
          files_sum (old ++ new),
          sum_less size whole (first_of_each bytes_eq (paths_among new)) (λ path. omega (arith, one_less (FilesAt path))),
          sum_first whole (paths_among old) (paths_among new),
          ap (λ (l : List Bytes). sum_by whole (first_of_each bytes_eq l)) (filter_map-append (λ (r : Revision). path_of_group r.group) old new),
        )

    pub bundle_less : length (bundle_text (written_bundle known new)) ≤ length (bundle_text (written_bundle known (old ++ new)))
    unfolding written_bundle
    bundle_less = omega (
      arith,
      bundle-size (written_bundle known new),
      bundle-size (written_bundle known (old ++ new)),
      one_less Changesets,
      one_less Manifests,
      files_less,
    )

pub shorter : (known : List Revision) (old new : List ChangesetView) → length (hg_increment known old new) ≤ length (hg_increment known [] (old ++ new))
shorter known old new = omega (
  arith,
  bundle_less known (brought_by [] old) (brought_by old new) (brought_links [] old),
  ap (λ (rs : List Revision). length (bundle_text (written_bundle known rs))) (revisions-grow [] old new),
)
