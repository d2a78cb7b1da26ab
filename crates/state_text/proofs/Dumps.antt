-- A state whose history refers to all that is known writes the dump of its changesets.
use Rattle.std.proofs.Common.{◌≡◌, Bool, true, false, true≢false, List, [], ◌∷◌, map, is_some, IsTrue, Option, Some, None, option_map, unwrap_or, refl, sym, ap, ◌∙◌}
use Rattle.text_model.specs.Lists.{Each}
use Rattle.text_model.specs.Text.{Bytes}
use Rattle.text_model.specs.Id.{Id, is_null}
use Rattle.text_model.proofs.Elements.{each_in}
use Rattle.hg_model.specs.Bundle.{bundle_text}
use Rattle.hg_model.specs.Revision.{Group, Changesets, Manifests, FilesAt, Revision, is_of, revision_of, knows}
use Rattle.hg_model.specs.Reading.{first_base}
use Rattle.hg_dump_law.proofs.Known.{is_of-is}
use Rattle.view_model.specs.View.{ChangesetView, changeset_node}
use Rattle.view_model.specs.Held.{AreChangesetsHeld}
use Rattle.view_model.specs.Dump.{revisions_in, brought_by, of_group, paths_in, written_from, written_group, written_file, written_bundle, hg_increment}
use Rattle.dump_law.proofs.Bases.{text_in, IsTextHeld, all-held}
use Rattle.dump_law.proofs.Trees.{found_is}
use Rattle.state_model.specs.Kept.{hg_dump}

-- ---- the texts of what is held

module _ (known : List Revision) where
  -- the texts that are known are those of the changesets, and no others
  text-same : (all : List Revision) → Each (IsTextHeld known) all → Each (λ r. IsTrue (knows all r.group r.node)) known → (g : Group) (n : Id) → text_in known g n ≡ text_in all g n
  text-same all held only g n = by (revision_of all g n) refl (revision_of known g n) refl
    where
      by : (o : Option Revision) → revision_of all g n ≡ o → (u : Option Revision) → revision_of known g n ≡ u → text_in known g n ≡ text_in all g n
      by None e None f = rw (e, f) refl
      by None e (Some r) f =
          let found = found_is (is_of g n) r known f in
          let is = is_of-is g n r found.1 in
          let there : knows all g n ≡ true = (λ i. knows all (is.group_is i) (is.node_is i)) ∙ each_in (λ r. IsTrue (knows all r.group r.node)) known r only found.0 in
          absurd (true≢false (sym there ∙ ap is_some e))
      by (Some r) e u f =
          let found = found_is (is_of g n) r all e in
          let is = is_of-is g n r found.1 in
          (λ i. text_in known (is.group_is i) (is.node_is i)) ∙ each_in (IsTextHeld known) all r held found.0 ∙ sym (ap (option_map (λ (x : Revision). x.text)) e)

-- ---- what is written

module _ (known all : List Revision) (same : (g : Group) (n : Id) → text_in known g n ≡ text_in all g n) where
  base-same : (g : Group) (p : Id) → first_base known g p ≡ first_base all g p
  base-same g p = by (is_null p) refl
    where
      by : (t : Bool) → is_null p ≡ t → first_base known g p ≡ first_base all g p
      by true e = rw e refl
      by false e = rw e (same g p)

  group-same : (group : Group) (rs : List Revision) → written_group known group rs ≡ written_group all group rs
  unfolding written_group
  group-same group [] = refl
  group-same group (r ∷ rs) = ap (λ (o : Option Bytes). written_from (unwrap_or o []) (r ∷ rs)) (base-same group r.p)

  files-same : (rs : List Revision) (paths : List Bytes) → map (written_file known rs) paths ≡ map (written_file all rs) paths
  files-same rs [] = refl
  files-same rs (path ∷ paths) = (λ i. record { path = path; entries = group-same (FilesAt path) (of_group (FilesAt path) rs) i } ∷ files-same rs paths i)

  bundle-same : (rs : List Revision) → written_bundle known rs ≡ written_bundle all rs
  unfolding written_bundle
  bundle-same rs = (λ i. record {
    changesets = group-same Changesets (of_group Changesets rs) i;
    manifests = group-same Manifests (of_group Manifests rs) i;
    files = files-same rs (paths_in rs) i;
  })

pub dump-written : (known : List Revision) (hs : List ChangesetView) → AreChangesetsHeld known (map changeset_node hs) hs → Each (λ r. IsTrue (knows (revisions_in hs) r.group r.node)) known
    → hg_increment known [] hs ≡ hg_dump hs
dump-written known hs held only =
    ap bundle_text (bundle-same known (revisions_in hs) (text-same known (revisions_in hs) (all-held known hs held) only) (brought_by [] hs))
