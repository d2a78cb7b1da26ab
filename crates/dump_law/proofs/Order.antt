-- The revisions in the order of their bundle: each group has them in their own order, and what is known after them is what they are.
use Rattle.std.proofs.Common.{◌≡◌, ◌||◌, Bool, true, false, List, [], ◌∷◌, ◌++◌, map, refl, sym, ap, ◌∙◌, append-nil, append_assoc}
use Rattle.std.specs.Prelude.{bytes_eq, if◌then◌else◌}
use Rattle.std.specs.List.{flat_map}
use Rattle.std.proofs.lemmas.Slice.Eq.{bytes_eq-Decides}
use Rattle.text_model.specs.Lists.{Each, only_new}
use Rattle.text_model.specs.Text.{Bytes}
use Rattle.text_model.specs.Id.{Id}
use Rattle.hg_model.specs.Revision.{Group, Changesets, Manifests, FilesAt, Revision, revision_of, knows, same_group, same_revision, known_after_all}
use Rattle.hg_model.proofs.RevisionLemmas.{same_group-self}
use Rattle.view_model.specs.View.{ChangesetView, changeset_node}
use Rattle.view_model.specs.Held.{AreChangesetsHeld}
use Rattle.view_model.specs.Dump.{revisions_in, brought_by, of_group, paths_in}
use Rattle.state_model.specs.Saved.{AreDumped}
use Rattle.path_law.proofs.Order.{has, AreApart}
use Rattle.hg_dump_law.specs.Taken.{in_bundle_order}
use Rattle.hg_dump_law.proofs.Known.{new-known, new-first}
use Rattle.dump_law.proofs.News.{only_new-nothing}
use Rattle.dump_law.proofs.Grows.{same_revision_turned, of_group-append}
use Rattle.dump_law.proofs.Brought.{all_of_group, found_in_group, found_first, path-there, has-paths}
use Rattle.dump_law.proofs.Saved.{saved-held, views-moved}
use Rattle.dump_law.proofs.BundleRead.{not_same, paths-apart}
use Rattle.dump_law.proofs.Dumped.{found_brought}

-- ---- one group of them

of_all : (group : Group) (xs : List Revision) → Each (λ x. x.group ≡ group) xs → of_group group xs ≡ xs
of_all group [] are = refl
of_all group (x ∷ xs) are = rw (ap (same_group group) are.0 ∙ same_group-self group) (ap (λ (l : List Revision). x ∷ l) (of_all group xs are.1))

of_none : (group : Group) (xs : List Revision) → Each (λ x. same_group group x.group ≡ false) xs → of_group group xs ≡ []
of_none group [] others = refl
of_none group (x ∷ xs) others = rw others.0 (of_none group xs others.1)

module _ (rs : List Revision) where
  again : (group : Group) → of_group group (of_group group rs) ≡ of_group group rs
  again group = of_all group (of_group group rs) (all_of_group group rs)

  other : (group from : Group) → same_group group from ≡ false → of_group group (of_group from rs) ≡ []
  other group from e = of_none group (of_group from rs) (not_same group from e (of_group from rs) (all_of_group from rs))

  abbrev files_at : List Bytes → List Revision
  files_at paths = flat_map (λ path. of_group (FilesAt path) rs) paths

  no_file : (group : Group) → ((path : Bytes) → same_group group (FilesAt path) ≡ false) → (paths : List Bytes) → of_group group (files_at paths) ≡ []
  no_file group e [] = refl
  no_file group e (path ∷ paths) = of_group-append group (of_group (FilesAt path) rs) (files_at paths) ∙ (λ i. other group (FilesAt path) (e path) i ++ no_file group e paths i)

  file_of : (p : Bytes) (paths : List Bytes) → AreApart paths → of_group (FilesAt p) (files_at paths) ≡ (if has paths p then of_group (FilesAt p) rs else [])
  file_of p [] apart = refl
  file_of p (path ∷ paths) apart = of_group-append (FilesAt p) (of_group (FilesAt path) rs) (files_at paths) ∙ by (bytes_eq p path) refl (file_of p paths apart.1)
    where
      by : (t : Bool) → bytes_eq p path ≡ t → of_group (FilesAt p) (files_at paths) ≡ (if has paths p then of_group (FilesAt p) rs else [])
          → of_group (FilesAt p) (of_group (FilesAt path) rs) ++ of_group (FilesAt p) (files_at paths) ≡ (if bytes_eq p path || has paths p then of_group (FilesAt p) rs else [])
      by true e later =
          let same : p ≡ path = (bytes_eq-Decides p path).0 e in
          let mine : of_group (FilesAt p) (of_group (FilesAt path) rs) ≡ of_group (FilesAt p) rs = ap (λ (x : Bytes). of_group (FilesAt p) (of_group (FilesAt x) rs)) (sym same) ∙ again (FilesAt p) in
          let none : of_group (FilesAt p) (files_at paths) ≡ [] = later ∙ ap (λ (b : Bool). if b then of_group (FilesAt p) rs else []) (ap (has paths) same ∙ apart.0) in
          (λ i. mine i ++ none i) ∙ append-nil (of_group (FilesAt p) rs) ∙ ap (λ (b : Bool). if b || has paths p then of_group (FilesAt p) rs else []) (sym e)
      by false e later = ap (λ (l : List Revision). l ++ of_group (FilesAt p) (files_at paths)) (other (FilesAt p) (FilesAt path) e) ∙ later ∙ ap (λ (b : Bool). if b || has paths p then of_group (FilesAt p) rs else []) (sym e)

  parts : (group : Group) → of_group group (in_bundle_order rs) ≡ of_group group (of_group Changesets rs) ++ (of_group group (of_group Manifests rs) ++ of_group group (files_at (paths_in rs)))
  unfolding in_bundle_order
  parts group =
      of_group-append group (of_group Changesets rs) (of_group Manifests rs ++ files_at (paths_in rs))
      ∙ ap (λ (l : List Revision). of_group group (of_group Changesets rs) ++ l) (of_group-append group (of_group Manifests rs) (files_at (paths_in rs)))

  pub order-group : (group : Group) → of_group group (in_bundle_order rs) ≡ of_group group rs
  order-group Changesets = parts Changesets ∙ (λ i. again Changesets i ++ (other Changesets Manifests refl i ++ no_file Changesets (λ path. refl) (paths_in rs) i)) ∙ append-nil (of_group Changesets rs)
  order-group Manifests = parts Manifests ∙ (λ i. other Manifests Changesets refl i ++ (again Manifests i ++ no_file Manifests (λ path. refl) (paths_in rs) i)) ∙ append-nil (of_group Manifests rs)
  order-group (FilesAt p) =
      parts (FilesAt p)
      ∙ (λ i. other (FilesAt p) Changesets refl i ++ (other (FilesAt p) Manifests refl i ++ file_of p (paths_in rs) (paths-apart rs) i))
      ∙ by (has (paths_in rs) p) refl
    where
      by : (t : Bool) → has (paths_in rs) p ≡ t → (if has (paths_in rs) p then of_group (FilesAt p) rs else []) ≡ of_group (FilesAt p) rs
      by true e = rw e refl
      by false e = rw e (sym (path-there rs p (sym (has-paths rs p) ∙ e)))

-- ---- what is known after them

all-new : (known xs : List Revision) → known_after_all known xs ≡ known ++ only_new same_revision known xs
all-new known [] = sym (append-nil known)
all-new known (x ∷ xs) = by (knows known x.group x.node) refl (λ k. all-new k xs)
  where
    by : (t : Bool) → knows known x.group x.node ≡ t → ((k : List Revision) → known_after_all k xs ≡ k ++ only_new same_revision k xs) → known_after_all known (x ∷ xs) ≡ known ++ only_new same_revision known (x ∷ xs)
    by true e later = rw e (later known ∙ ap (λ (l : List Revision). known ++ l) (sym (new-known known x xs e)))
    by false e later =
        rw e (later (known ++ x ∷ []) ∙ append_assoc known (x ∷ []) (only_new same_revision (known ++ x ∷ []) xs) ∙ ap (λ (l : List Revision). known ++ l) (sym (new-first known x xs e)))

pub found_after : (xs : List Revision) (group : Group) (node : Id) → revision_of (known_after_all [] xs) group node ≡ revision_of xs group node
found_after xs group node =
    ap (λ (l : List Revision). revision_of l group node) (all-new [] xs ∙ only_new-nothing same_revision same_revision_turned xs) ∙ found_first xs group node

-- where all that changesets bring was added to nothing, it knows what they refer to
pub found_dump : (hs : List ChangesetView) (group : Group) (node : Id) → revision_of (known_after_all [] (in_bundle_order (brought_by [] hs))) group node ≡ revision_of (revisions_in hs) group node
found_dump hs group node =
    let rs = brought_by [] hs in
    found_after (in_bundle_order rs) group node
    ∙ sym (found_in_group (in_bundle_order rs) group node)
    ∙ ap (λ (l : List Revision). revision_of l group node) (order-group rs group)
    ∙ found_in_group rs group node
    ∙ found_brought hs group node

pub dump-held : (hs : List ChangesetView) → AreDumped hs → AreChangesetsHeld (known_after_all [] (in_bundle_order (brought_by [] hs))) (map changeset_node hs) hs
dump-held hs s = views-moved (revisions_in hs) (known_after_all [] (in_bundle_order (brought_by [] hs))) (λ group node. sym (found_dump hs group node)) (map changeset_node hs) hs (saved-held hs s.views s.one)
