-- The lengths of dumps.
use Rattle.std.proofs.Common.{◌≡◌, ◌≤◌, ◌+◌, ◌⊎◌, inl, inr, ◌||◌, ℕ, Bool, true, false, true≢false, not, List, [], ◌∷◌, ◌++◌, length, map, Option, Some, None, refl, sym, ap, ◌∙◌, arith, length-append}
use Rattle.std.specs.Prelude.{bytes_eq, sum_by, filter, nat_lt, unwrap_or, ◌==◌, ◌&&◌}
use Rattle.std.specs.List.{flat_map, list_any}
use Rattle.std.proofs.lemmas.List.{map-append}
use Rattle.std.proofs.lemmas.List.Sums.{sum_by-cons, sum_by-append}
use Rattle.std.proofs.lemmas.List.Elements.{filter_map-append}
use Rattle.std.proofs.lemmas.Grind.{flat_map-append}
use Rattle.std.proofs.lemmas.Bool.Decides.{nat_tests}
use Rattle.text_model.specs.Lists.{first_of_each, only_new, with_inserted, in_order}
use Rattle.text_model.specs.Text.{Bytes, is_below}
use Rattle.text_model.specs.Id.{Id, is_null}
use Rattle.text_model.proofs.TestLemmas.{differs, bytes_eq-sym}
use Rattle.hg_model.specs.Chunk.{chunk_text, magic_text}
use Rattle.hg_model.specs.Delta.{number32, hunk_text, whole_delta}
use Rattle.hg_model.specs.Revision.{Group, Changesets, Manifests, FilesAt, Revision, is_of, revision_of}
use Rattle.hg_model.specs.Bundle.{BundleEntry, FileGroup, bundle_text, entry_payload, group_text}
use Rattle.hg_model.specs.Reading.{first_base}
use Rattle.hg_model.proofs.HunkLemmas.{length-number32}
use Rattle.hg_model.proofs.ChunkLemmas.{length-chunk}
use Rattle.hg_model.proofs.ListingLemmas.{files_text, files_text-cons, bundle_text-parts}
use Rattle.git_model.specs.Object.{Object}
use Rattle.git_model.specs.Stream.{object_text, stream_text}
use Rattle.view_model.specs.View.{ChangesetView, CommitView}
use Rattle.view_model.specs.Dump.{revisions_in, brought_by, of_group, path_of_group, paths_in, written_from, written_group, written_file, written_bundle, git_increment}
use Rattle.pair_model.specs.Block.{Block, changesets_in, commits_in}
use Rattle.state_model.specs.Kept.{hg_dump, git_dump}
use Rattle.state_model.specs.Limits.{dump_limit}
use Rattle.path_law.proofs.Order.{has}
use Rattle.dump_law.specs.Grown.{added_entries}
use Rattle.dump_law.specs.Sizes.{entries_size, file_size, BundleSize, StreamSize, added_to, paths_among, added_size, BundleGrows, LimitIsKept}
use Rattle.dump_law.proofs.News.{first_of_each-append}
use Rattle.dump_law.proofs.Brought.{path-there}
use Rattle.dump_law.proofs.Grows.{revisions-grow, of_group-append, written_group-append, stream-grows, stream_text-append, revisions_in-append}

-- ---- sums over chunks

group-size : (es : List BundleEntry) → length (group_text es) ≡ entries_size es + 4
unfolding group_text
group-size es = omega (arith, length-append (flat_map (λ e. chunk_text (entry_payload e)) es) (chunk_text []), length-chunk [], all es)
  where
    all : (fs : List BundleEntry) → length (flat_map (λ e. chunk_text (entry_payload e)) fs) ≡ entries_size fs
    all [] = refl
    all (f ∷ fs) = omega (
      arith,
      length-append (chunk_text (entry_payload f)) (flat_map (λ e. chunk_text (entry_payload e)) fs),
      length-chunk (entry_payload f),
      all fs,
      sum_by-cons (λ (e : BundleEntry). length (entry_payload e) + 4) f fs,
    )

files-size : (fs : List FileGroup) → length (files_text fs) ≡ sum_by file_size fs + 4
files-size [] = length-chunk []
files-size (f ∷ fs) = omega (
  arith,
  ap (λ (l : Bytes). length l) (files_text-cons f fs),
  length-append (chunk_text f.path) (group_text f.entries ++ files_text fs),
  length-append (group_text f.entries) (files_text fs),
  length-chunk f.path,
  group-size f.entries,
  files-size fs,
  sum_by-cons file_size f fs,
)

pub bundle-size : BundleSize
bundle-size b = omega (
  arith,
  ap (λ (l : Bytes). length l) (bundle_text-parts b),
  length-append magic_text (group_text b.changesets ++ (group_text b.manifests ++ files_text b.files)),
  length-append (group_text b.changesets) (group_text b.manifests ++ files_text b.files),
  length-append (group_text b.manifests) (files_text b.files),
  group-size b.changesets,
  group-size b.manifests,
  files-size b.files,
)

pub stream-size : StreamSize
unfolding stream_text
stream-size [] = refl
stream-size (o ∷ os) = omega (arith, length-append (object_text o) (flat_map object_text os), stream-size os, sum_by-cons (λ (x : Object). length (object_text x)) o os)

-- ---- paths

sum_inserted : (f : Bytes → ℕ) (x : Bytes) (ys : List Bytes) → sum_by f (with_inserted is_below x ys) ≡ f x + sum_by f ys
sum_inserted f x [] = sum_by-cons f x []
sum_inserted f x (y ∷ ys) = by (is_below y x) refl (sum_inserted f x ys)
  where
    by : (t : Bool) → is_below y x ≡ t → sum_by f (with_inserted is_below x ys) ≡ f x + sum_by f ys → sum_by f (with_inserted is_below x (y ∷ ys)) ≡ f x + sum_by f (y ∷ ys)
    by true e go = rw e (omega (arith, sum_by-cons f y (with_inserted is_below x ys), go, sum_by-cons f y ys))
    by false e go = rw e (sum_by-cons f x (y ∷ ys))

sum_ordered : (f : Bytes → ℕ) (xs : List Bytes) → sum_by f (in_order is_below xs) ≡ sum_by f xs
sum_ordered f [] = refl
sum_ordered f (x ∷ xs) = omega (arith, sum_inserted f x (in_order is_below xs), sum_ordered f xs, sum_by-cons f x xs)

sum_map : {X Y : Type 0} (f : Y → ℕ) (g : X → Y) (xs : List X) → sum_by f (map g xs) ≡ sum_by (λ x. f (g x)) xs
sum_map f g [] = refl
sum_map f g (x ∷ xs) = omega (arith, sum_by-cons f (g x) (map g xs), sum_map f g xs, sum_by-cons (λ x. f (g x)) x xs)

sum_both : {X : Type 0} (f g h : X → ℕ) (xs : List X) → ((x : X) → f x ≡ g x + h x) → sum_by f xs ≡ sum_by g xs + sum_by h xs
sum_both f g h [] e = refl
sum_both f g h (x ∷ xs) e = omega (arith, sum_by-cons f x xs, sum_by-cons g x xs, sum_by-cons h x xs, e x, sum_both f g h xs e)

sum_less : {X : Type 0} (f g : X → ℕ) (xs : List X) → ((x : X) → f x ≤ g x) → sum_by f xs ≤ sum_by g xs
sum_less f g [] e = omega arith
sum_less f g (x ∷ xs) e = omega (arith, sum_by-cons f x xs, sum_by-cons g x xs, e x, sum_less f g xs e)

-- the files of a bundle
files_sum : (known rs : List Revision) → sum_by file_size (map (written_file known rs) (paths_in rs)) ≡ sum_by (λ path. file_size (written_file known rs path)) (first_of_each bytes_eq (paths_among rs))
unfolding paths_in
files_sum known rs =
    sum_map file_size (written_file known rs) (in_order is_below (first_of_each bytes_eq (paths_among rs)))
    ∙ sum_ordered (λ path. file_size (written_file known rs path)) (first_of_each bytes_eq (paths_among rs))

group_sum : (known : List Revision) (group : Group) (old new : List Revision) → entries_size (written_group known group (of_group group (old ++ new))) ≡ entries_size (written_group known group (of_group group old)) + added_to known old new group
group_sum known group old new =
    ap (λ l. entries_size (written_group known group l)) (of_group-append group old new)
    ∙ ap entries_size (written_group-append known group (of_group group old) (of_group group new))
    ∙ sum_by-append (λ (e : BundleEntry). length (entry_payload e) + 4) (written_group known group (of_group group old)) (added_entries known group (of_group group old) (of_group group new))

sum_filtered : {X : Type 0} (f g : X → ℕ) (p : X → Bool) (xs : List X) → ((x : X) → p x ≡ true → f x ≡ g x) → sum_by f (filter p xs) ≡ sum_by g (filter p xs)
sum_filtered f g p [] e = refl
sum_filtered {X = X} f g p (x ∷ xs) e = by (p x) refl (sum_filtered f g p xs e)
  where
    by : (t : Bool) → p x ≡ t → sum_by f (filter p xs) ≡ sum_by g (filter p xs) → sum_by f (filter p (x ∷ xs)) ≡ sum_by g (filter p (x ∷ xs))
    by true q go = rw q (omega (arith, sum_by-cons f x (filter p xs), sum_by-cons g x (filter p xs), e x q, go))
    by false q go = rw q go

nothing : (known : List Revision) (group : Group) → entries_size (written_group known group []) ≡ 0
unfolding written_group
nothing known group = refl

files_grow : (known old new : List Revision) → sum_by file_size (map (written_file known (old ++ new)) (paths_in (old ++ new)))
    ≡ sum_by file_size (map (written_file known old) (paths_in old))
    + (sum_by (λ path. added_to known old new (FilesAt path)) (first_of_each bytes_eq (paths_among old))
    + sum_by (λ path. (length path + 8) + added_to known old new (FilesAt path)) (only_new bytes_eq (paths_among old) (paths_among new)))
files_grow known old new =
    let whole : Bytes → ℕ = λ path. file_size (written_file known (old ++ new) path) in
    let before : Bytes → ℕ = λ path. file_size (written_file known old path) in
    let added : Bytes → ℕ = λ path. added_to known old new (FilesAt path) in
    let paths : first_of_each bytes_eq (paths_among (old ++ new)) ≡ first_of_each bytes_eq (paths_among old) ++ only_new bytes_eq (paths_among old) (paths_among new) =
    ap (first_of_each bytes_eq) (filter_map-append (λ (r : Revision). path_of_group r.group) old new) ∙ first_of_each-append bytes_eq bytes_eq-sym (paths_among old) (paths_among new) in
    let each : (path : Bytes) → whole path ≡ before path + added path = λ path. omega (arith, group_sum known (FilesAt path) old new) in
    let ends : sum_by whole (only_new bytes_eq (paths_among old) (paths_among new)) ≡ sum_by (λ path. (length path + 8) + added path) (only_new bytes_eq (paths_among old) (paths_among new)) =
    sum_filtered whole (λ path. (length path + 8) + added path) (λ x. not (list_any (bytes_eq x) (paths_among old))) (first_of_each bytes_eq (paths_among new))
    (λ path n. omega (arith, each path, ap (λ (l : List Revision). entries_size (written_group known (FilesAt path) l)) (path-there old path (not_true (has (paths_among old) path) n)), nothing known (FilesAt path))) in
    omega (
      arith,
      files_sum known (old ++ new),
      ap (sum_by whole) paths,
      sum_by-append whole (first_of_each bytes_eq (paths_among old)) (only_new bytes_eq (paths_among old) (paths_among new)),
      sum_both whole before added (first_of_each bytes_eq (paths_among old)) each,
      files_sum known old,
      ends,
    )
  where
    not_true : (b : Bool) → not b ≡ true → b ≡ false
    not_true true h = sym h
    not_true false h = refl

pub written-grows : (known old new : List Revision) → length (bundle_text (written_bundle known (old ++ new))) ≡ length (bundle_text (written_bundle known old)) + added_size known old new
unfolding written_bundle
written-grows known old new = omega (
  arith,
  bundle-size (written_bundle known (old ++ new)),
  bundle-size (written_bundle known old),
  group_sum known Changesets old new,
  group_sum known Manifests old new,
  files_grow known old new,
)

pub bundle-grows : BundleGrows
bundle-grows known before old new =
    ap (λ l. length (bundle_text (written_bundle known l))) (revisions-grow before old new) ∙ written-grows known (brought_by before old) (brought_by (before ++ old) new)

-- ---- a limit once passed stays passed

base_grows : (known more : List Revision) (group : Group) (p : Id)
    → (unwrap_or (first_base known group p) [] ≡ unwrap_or (first_base (known ++ more) group p) []) ⊎ (unwrap_or (first_base known group p) [] ≡ [])
base_grows known more group p = by (is_null p) refl (revision_of known group p) refl
  where
    longer : (r : Revision) (xs : List Revision) → revision_of xs group p ≡ Some r → revision_of (xs ++ more) group p ≡ Some r
    longer r [] h = absurd cc
    longer r (x ∷ xs) h = at (is_of group p x) refl (longer r xs)
      where
        at : (t : Bool) → is_of group p x ≡ t → (revision_of xs group p ≡ Some r → revision_of (xs ++ more) group p ≡ Some r) → revision_of (x ∷ xs ++ more) group p ≡ Some r
        at true e go = rw e (rw e at h)
        at false e go = rw e (go (rw e at h))

    by : (t : Bool) → is_null p ≡ t → (o : Option Revision) → revision_of known group p ≡ o
        → (unwrap_or (first_base known group p) [] ≡ unwrap_or (first_base (known ++ more) group p) []) ⊎ (unwrap_or (first_base known group p) [] ≡ [])
    by true e o f = inl (rw e refl)
    by false e None f = inr (rw (e, f) refl)
    by false e (Some r) f = inl (rw (e, f, longer r known f) refl)

hunk-size : (n : ℕ) (text : Bytes) → length (hunk_text (record { start = 0; finish = n; bytes = text })) ≡ 12 + length text
hunk-size n text = omega (
  arith,
  length-append (number32 0 ++ number32 n ++ number32 (length text)) text,
  length-append (number32 0 ++ number32 n) (number32 (length text)),
  length-append (number32 0) (number32 n),
  length-number32 0,
  length-number32 n,
  length-number32 (length text),
)

delta_some : (n : ℕ) (b : ℕ) (bytes : Bytes) → length (whole_delta n (b ∷ bytes)) ≡ 12 + length (b ∷ bytes)
delta_some n b bytes = by (n == 0) refl
  where
    some : (length (b ∷ bytes) == 0) ≡ false
    some = differs (length (b ∷ bytes)) 0 (λ e. omega (arith, e))

    by : (t : Bool) → (n == 0) ≡ t → length (whole_delta n (b ∷ bytes)) ≡ 12 + length (b ∷ bytes)
    by true e = rw (e, some) (hunk-size n (b ∷ bytes))
    by false e = rw (ap (λ (t : Bool). t && length (b ∷ bytes) == 0) e) (hunk-size n (b ∷ bytes))

delta_least : (n : ℕ) (text : Bytes) → length (whole_delta 0 text) ≤ length (whole_delta n text)
delta_least n [] = omega arith
delta_least n (b ∷ bytes) = omega (arith, delta_some n b bytes, delta_some 0 b bytes)

entry-size : (e : BundleEntry) → length (entry_payload e) ≡ length e.node + (length e.p + (length e.q + (length e.link + length e.delta)))
entry-size e = omega (arith, length-append e.node (e.p ++ (e.q ++ (e.link ++ e.delta))), length-append e.p (e.q ++ (e.link ++ e.delta)), length-append e.q (e.link ++ e.delta), length-append e.link e.delta)

abbrev first_entry : Bytes → Revision → BundleEntry
first_entry base r = record { node = r.node; p = r.p; q = r.q; link = r.link; delta = whole_delta (length base) r.text }

from_size : (base : Bytes) (r : Revision) (rs : List Revision) → entries_size (written_from base (r ∷ rs)) ≡ (length (entry_payload (first_entry base r)) + 4) + entries_size (written_from r.text rs)
unfolding written_from
from_size base r rs = sum_by-cons (λ (e : BundleEntry). length (entry_payload e) + 4) (first_entry base r) (written_from r.text rs)

entry_less : (a b : Bytes) (r : Revision) → (a ≡ b) ⊎ (a ≡ []) → length (entry_payload (first_entry a r)) ≤ length (entry_payload (first_entry b r))
entry_less a b r (inl e) = omega (arith, ap (λ (l : Bytes). length (entry_payload (first_entry l r))) e)
entry_less a b r (inr e) = omega (arith, ap (λ (l : Bytes). length (entry_payload (first_entry l r))) e, entry-size (first_entry [] r), entry-size (first_entry b r), delta_least (length b) r.text)

group_less : (known more : List Revision) (group : Group) (rs : List Revision) → entries_size (written_group known group rs) ≤ entries_size (written_group (known ++ more) group rs)
unfolding written_group
group_less known more group [] = omega arith
group_less known more group (r ∷ rs) =
    let a = unwrap_or (first_base known group r.p) [] in
    let b = unwrap_or (first_base (known ++ more) group r.p) [] in
    omega (arith, from_size a r rs, from_size b r rs, entry_less a b r (base_grows known more group r.p))

known_less : (known more rs : List Revision) → length (bundle_text (written_bundle known rs)) ≤ length (bundle_text (written_bundle (known ++ more) rs))
unfolding written_bundle
known_less known more rs =
    let files = sum_less (λ path. file_size (written_file known rs path)) (λ path. file_size (written_file (known ++ more) rs path)) (first_of_each bytes_eq (paths_among rs))
    (λ path. omega (arith, group_less known more (FilesAt path) (of_group (FilesAt path) rs))) in
    omega (
      arith,
      bundle-size (written_bundle known rs),
      bundle-size (written_bundle (known ++ more) rs),
      group_less known more Changesets (of_group Changesets rs),
      group_less known more Manifests (of_group Manifests rs),
      files_sum known rs,
      files_sum (known ++ more) rs,
      files,
    )

pub dump-less : (old new : List ChangesetView) → length (hg_dump old) ≤ length (hg_dump (old ++ new))
dump-less old new =
    let more = ap (λ (known : List Revision). length (bundle_text (written_bundle known (brought_by [] (old ++ new))))) (revisions_in-append old new) in
    omega (
      arith,
      known_less (revisions_in old) (revisions_in new) (brought_by [] old),
      more,
      ap (λ (rs : List Revision). length (bundle_text (written_bundle (revisions_in old ++ revisions_in new) rs))) (revisions-grow [] old new),
      written-grows (revisions_in old ++ revisions_in new) (brought_by [] old) (brought_by old new),
    )

pub git-less : (old new : List CommitView) → length (git_dump old) ≤ length (git_dump (old ++ new))
git-less old new = omega (arith, ap (λ (l : Bytes). length l) (stream-grows old new), length-append (git_dump old) (git_increment old new))

over : (limit a b : ℕ) → a ≤ b → nat_lt limit a ≡ true → nat_lt limit b ≡ true
over limit a b le h = grind (arith, nat_tests, le, h)

three : (a b c x y z : Bool) → (a ≡ true → x ≡ true) → (b ≡ true → y ≡ true) → (c ≡ true → z ≡ true) → (a || b || c) ≡ true → (x || y || z) ≡ true
three true b c x y z f g h e = rw (f refl) refl
three false true c true y z f g h e = refl
three false true c false y z f g h e = rw (g refl) refl
three false false true true y z f g h e = refl
three false false true false true z f g h e = refl
three false false true false false z f g h e = h refl
three false false false x y z f g h e = absurd (true≢false (sym e))

pub limit-is-kept : LimitIsKept
limit-is-kept k new tags e =
    let blocks = k.blocks ++ new in
    let changesets = flat_map-append (λ (b : Block). b.links ++ b.changeset ∷ []) k.blocks new in
    let commits = map-append (λ (b : Block). b.commit) k.blocks new in
    let hg : length (hg_dump (changesets_in k.blocks)) ≤ length (hg_dump (changesets_in (k.blocks ++ new))) =
    omega (arith, dump-less (changesets_in k.blocks) (changesets_in new), ap (λ (l : List ChangesetView). length (hg_dump l)) changesets) in
    let git : length (git_dump (commits_in k.blocks)) ≤ length (git_dump (commits_in (k.blocks ++ new))) =
    omega (arith, git-less (commits_in k.blocks) (commits_in new), ap (λ (l : List CommitView). length (git_dump l)) commits) in
    let stream : length (stream_text k.tags) ≤ length (stream_text (k.tags ++ tags)) =
    omega (arith, ap (λ (l : Bytes). length l) (stream_text-append k.tags tags), length-append (stream_text k.tags) (stream_text tags)) in
    let count : length (changesets_in k.blocks) ≤ length (changesets_in (k.blocks ++ new)) =
    omega (arith, ap (λ (l : List ChangesetView). length l) changesets, length-append (changesets_in k.blocks) (changesets_in new)) in
    three
    (nat_lt dump_limit (length (hg_dump (changesets_in k.blocks))))
    (nat_lt dump_limit (length (git_dump (commits_in k.blocks)) + length (stream_text k.tags)))
    (nat_lt 1000000 (length (changesets_in k.blocks)))
    (nat_lt dump_limit (length (hg_dump (changesets_in (k.blocks ++ new)))))
    (nat_lt dump_limit (length (git_dump (commits_in (k.blocks ++ new))) + length (stream_text (k.tags ++ tags))))
    (nat_lt 1000000 (length (changesets_in (k.blocks ++ new))))
    (over dump_limit _ _ hg) (over dump_limit _ _ (omega (arith, git, stream))) (over 1000000 _ _ count) e
