-- The entries of a bundle are as many as the revisions that it brings.
use Rattle.std.proofs.Common.{◌≡◌, ◌+◌, ℕ, suc, Bool, true, false, List, [], ◌∷◌, ◌++◌, length, refl, sym, ap, ◌∙◌, arith}
use Rattle.std.specs.Prelude.{count_by, cond}
use Rattle.std.proofs.lemmas.List.Sums.{sum_by-cons, sum_by-append}
use Rattle.text_model.specs.Text.{Bytes}
use Rattle.hg_model.specs.Bundle.{BundleEntry, FileGroup, Bundle}
use Rattle.hg_model.specs.Revision.{Group, Changesets, Manifests, FilesAt, Revision, known_after_all}
use Rattle.hg_model.specs.Reading.{Arrival, AreTextsFrom, AreTextsOf, revision_by}
use Rattle.hg_bundle.specs.Arrivals.{revisions_of}
use Rattle.hg_bundle.specs.Brought.{AreOfGroup, AreOfFiles, AreOfBundle, revisions_with}
use Rattle.saved_model.specs.Written.{count_in, is_manifests, is_files, revision_counts}
use Rattle.history_model.specs.Pull.{is_changesets}
use Rattle.format_law.specs.BundleFormat.{file_entries, entry_counts}

-- ---- the revisions whose groups pass a test

module _ (is_kind : Group → Bool) where
  abbrev count_of : List Revision → ℕ
  count_of rs = count_by (λ r. is_kind r.group) rs

  count-cons : (r : Revision) (rs : List Revision) → count_of (r ∷ rs) ≡ cond {A = ℕ} (is_kind r.group) 1 0 + count_of rs
  count-cons r rs = sum_by-cons (λ x. cond {A = ℕ} (is_kind x.group) 1 0) r rs

  count-append : (xs ys : List Revision) → count_of (xs ++ ys) ≡ count_of xs + count_of ys
  count-append xs ys = sum_by-append (λ x. cond {A = ℕ} (is_kind x.group) 1 0) xs ys

  count-arrivals : (arrivals : List Arrival) → count_in is_kind arrivals ≡ count_of (revisions_of arrivals)
  count-arrivals [] = refl
  count-arrivals (a ∷ arrivals) =
      sum_by-cons (λ (x : Arrival). cond {A = ℕ} (is_kind (x.revision).group) 1 0) a arrivals
      ∙ ap (λ (n : ℕ). cond {A = ℕ} (is_kind (a.revision).group) 1 0 + n) (count-arrivals arrivals)
      ∙ sym (count-cons a.revision (revisions_of arrivals))

  -- ---- a group

  group-none : (group : Group) (es : List BundleEntry) (ts : List Bytes) → is_kind group ≡ false → count_of (revisions_with group es ts) ≡ 0
  group-none group [] ts no_kind = refl
  group-none group (e ∷ es) [] no_kind = refl
  group-none group (e ∷ es) (t ∷ ts) no_kind =
      count-cons (revision_by group e t) (revisions_with group es ts)
      ∙ (λ i. cond {A = ℕ} (no_kind i) 1 0 + group-none group es ts no_kind i)

  group-from : (group : Group) (base : Bytes) (es : List BundleEntry) (ts : List Bytes) → is_kind group ≡ true → AreTextsFrom base es ts
      → count_of (revisions_with group es ts) ≡ length es
  group-from group base [] ts kind made = refl
  group-from group base (e ∷ es) [] kind made = absurd made
  group-from group base (e ∷ es) (t ∷ ts) kind made =
      let next : 1 + length es ≡ suc (length es) = omega arith in
      count-cons (revision_by group e t) (revisions_with group es ts)
      ∙ (λ i. cond {A = ℕ} (kind i) 1 0 + group-from group t es ts kind made.1 i)
      ∙ next

  group-all : (known : List Revision) (group : Group) (es : List BundleEntry) (ts : List Bytes) → is_kind group ≡ true → AreTextsOf known group es ts
      → count_of (revisions_with group es ts) ≡ length es
  group-all known group [] ts kind made = refl
  group-all known group (e ∷ es) ts kind made = group-from group made.0 (e ∷ es) ts kind made.2

  of-group : (known : List Revision) (group : Group) (es : List BundleEntry) (rs : List Revision) → is_kind group ≡ true → AreOfGroup known group es rs
      → count_of rs ≡ length es
  of-group known group es rs kind g = ap count_of g.are ∙ group-all known group es g.texts kind g.made

  of-other_group : (known : List Revision) (group : Group) (es : List BundleEntry) (rs : List Revision) → is_kind group ≡ false
      → AreOfGroup known group es rs → count_of rs ≡ 0
  of-other_group known group es rs no_kind g = ap count_of g.are ∙ group-none group es g.texts no_kind

  -- ---- the groups of files

  of-files : (known : List Revision) (fs : List FileGroup) (rs : List Revision) → ((path : Bytes) → is_kind (FilesAt path) ≡ true)
      → AreOfFiles known fs rs
      → count_of rs ≡ file_entries fs
  of-files known [] rs kind are = ap count_of are
  of-files known (f ∷ fs) rs kind (front, later, all, fit, group, others) =
      ap count_of all ∙ count-append front later
      ∙ (λ i. of-group known (FilesAt f.path) f.entries front (kind f.path) group i + of-files (known_after_all known front) fs later kind others i)
      ∙ sym (sum_by-cons (λ (g : FileGroup). length g.entries) f fs)

  of-other_files : (known : List Revision) (fs : List FileGroup) (rs : List Revision) → ((path : Bytes) → is_kind (FilesAt path) ≡ false)
      → AreOfFiles known fs rs → count_of rs ≡ 0
  of-other_files known [] rs no_kind are = ap count_of are
  of-other_files known (f ∷ fs) rs no_kind (front, later, all, fit, group, others) =
      ap count_of all ∙ count-append front later
      ∙ (λ i. of-other_group known (FilesAt f.path) f.entries front (no_kind f.path) group i + of-other_files
      (known_after_all known front) fs later no_kind others i)

  parts : (known : List Revision) (b : Bundle) (rs : List Revision) (arrivals : List Arrival) (are : AreOfBundle known b rs)
      → revisions_of arrivals ≡ rs
      → count_in is_kind arrivals ≡ count_of are.changesets + (count_of are.manifests + count_of are.files)
  parts known b rs arrivals are came =
      count-arrivals arrivals ∙ ap count_of (came ∙ are.all) ∙ count-append are.changesets (are.manifests ++ are.files)
      ∙ ap (λ (n : ℕ). count_of are.changesets + n) (count-append are.manifests are.files)

-- ---- a whole bundle

module _ (known : List Revision) (b : Bundle) (rs : List Revision) (arrivals : List Arrival) (are : AreOfBundle known b rs)
    (came : revisions_of arrivals ≡ rs) where
  changesets : count_in is_changesets arrivals ≡ length b.changesets
  changesets = omega (
    arith,
    parts is_changesets known b rs arrivals are came,
    of-group is_changesets known Changesets b.changesets are.changesets refl are.are_changesets,
    of-other_group is_changesets (known_after_all known are.changesets) Manifests b.manifests are.manifests refl are.are_manifests,
    of-other_files is_changesets (known_after_all (known_after_all known are.changesets) are.manifests) b.files are.files (λ path. refl) are.are_files,
  )

  manifests : count_in is_manifests arrivals ≡ length b.manifests
  manifests = omega (
    arith,
    parts is_manifests known b rs arrivals are came,
    of-other_group is_manifests known Changesets b.changesets are.changesets refl are.are_changesets,
    of-group is_manifests (known_after_all known are.changesets) Manifests b.manifests are.manifests refl are.are_manifests,
    of-other_files is_manifests (known_after_all (known_after_all known are.changesets) are.manifests) b.files are.files (λ path. refl) are.are_files,
  )

  files : count_in is_files arrivals ≡ file_entries b.files
  files = omega (
    arith,
    parts is_files known b rs arrivals are came,
    of-other_group is_files known Changesets b.changesets are.changesets refl are.are_changesets,
    of-other_group is_files (known_after_all known are.changesets) Manifests b.manifests are.manifests refl are.are_manifests,
    of-files is_files (known_after_all (known_after_all known are.changesets) are.manifests) b.files are.files (λ path. refl) are.are_files,
  )

  pub counts-entries : revision_counts arrivals ≡ entry_counts b
  counts-entries = rw (changesets, manifests, files) refl
