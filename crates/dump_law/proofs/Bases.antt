-- Of a store an increment reads the texts of parents alone, and these are those of the changesets.
use Rattle.std.proofs.Common.{◌≡◌, ◌⊎◌, inl, inr, ◌||◌, Bool, true, false, true≢false, not, List, [], ◌∷◌, ◌++◌, length, map, ◌≤◌, arith, Option, Some, None, refl, sym, ap, subst, ◌∙◌, append_assoc}
use Rattle.std.specs.Prelude.{is_some, option_map, unwrap_or, IsTrue, is_ok}
use Rattle.std.specs.List.{list_any}
use Rattle.text_model.specs.Lists.{Each, In, first_of_each, only_new}
use Rattle.text_model.specs.Text.{Bytes}
use Rattle.text_model.specs.Id.{Id, is_null}
use Rattle.text_model.proofs.EachLemmas.{Each-append}
use Rattle.text_model.proofs.Elements.{each_from, each_in, in_left, in_any}
use Rattle.hg_model.specs.Bundle.{bundle_text}
use Rattle.hg_model.specs.Revision.{Group, Changesets, Manifests, FilesAt, Revision, is_of, revision_of, knows, same_revision, same_group, is_known_parent}
use Rattle.hg_model.specs.Reading.{first_base, bundle_reading}
use Rattle.view_model.specs.View.{ChangesetView, IsChangesetView, Row, ManifestParents, NoManifest, Over, changeset_node}
use Rattle.view_model.specs.Held.{IsFileHeld, IsManifestHeld, IsChangesetHeld, AreChangesetsHeld}
use Rattle.view_model.specs.Dump.{manifest_revision, file_revision, revisions_of, revisions_in, brought_by, of_group, paths_in, written_from, written_group, written_file, written_bundle, hg_increment}
use Rattle.state_model.specs.Kept.{hg_dump}
use Rattle.state_model.specs.Limits.{dump_limit}
use Rattle.state_model.specs.Saved.{AreDumped}
use Rattle.hg_dump.proofs.OnceLemmas.{Each-filter}
use Rattle.hg_dump_law.specs.Taken.{HasParents, AreParentsEarlier}
use Rattle.hg_dump_law.proofs.Known.{is_of-is}
use Rattle.dump_law.specs.Bases.{BaseIsSame}
use Rattle.dump_law.proofs.News.{only_new-append}
use Rattle.dump_law.proofs.Grows.{same_revision_turned, revisions_in-append}
use Rattle.dump_law.proofs.Brought.{all_of_group}
use Rattle.dump_law.proofs.Saved.{finds}
use Rattle.dump_law.proofs.Elements.{passes, of-filter, of-first}
use Rattle.dump_law.proofs.Trees.{found_is}
use Rattle.dump_law.proofs.Streams.{of_append}
use Rattle.dump_law.proofs.BundleRead.{HasNoFirst}
use Rattle.dump_law.proofs.Dumped.{IsRead, increment_is_read, dump_is_read}

abbrev pub text_in : List Revision → Group → Id → Option Bytes
text_in known group node = option_map (λ (r : Revision). r.text) (revision_of known group node)

-- ---- the texts of what is held

module _ (known : List Revision) where
  abbrev pub IsTextHeld : Revision → Type 0
  IsTextHeld r = text_in known r.group r.node ≡ Some r.text

  files-held : (link : Id) (rows : List Row) → Each (IsFileHeld known) rows → Each IsTextHeld (map (file_revision link) rows)
  files-held link [] h = tt
  files-held link (row ∷ rows) h = (ap (option_map (λ (r : Revision). r.text)) (h.0).is_held ∙ ap Some (h.0).text.1, files-held link rows h.1)

  manifest-held : (h : ChangesetView) (m : ManifestParents) → IsManifestHeld known (h.fields).manifest m h.rows → Each IsTextHeld (manifest_revision h m)
  manifest-held h NoManifest x = tt
  manifest-held h (Over p q) x = (ap (option_map (λ (r : Revision). r.text)) x.is_held ∙ ap Some x.text.1, tt)

  texts-held : (h : ChangesetView) → IsChangesetHeld known (changeset_node h) h → Each IsTextHeld (revisions_of h)
  unfolding revisions_of
  texts-held h x = (
    ap (option_map (λ (r : Revision). r.text)) x.is_held ∙ ap Some x.fields.1,
    Each-append IsTextHeld (manifest_revision h h.manifest) (map (file_revision (changeset_node h)) h.rows) (manifest-held h h.manifest x.manifest) (files-held (changeset_node h) h.rows x.files),
  )

  pub all-held : (hs : List ChangesetView) → AreChangesetsHeld known (map changeset_node hs) hs → Each IsTextHeld (revisions_in hs)
  all-held [] x = tt
  all-held (h ∷ hs) x = Each-append IsTextHeld (revisions_of h) (revisions_in hs) (texts-held h x.0) (all-held hs x.1)

  text-same : (all : List Revision) → Each IsTextHeld all → (g : Group) (n : Id) → knows all g n ≡ true → text_in known g n ≡ text_in all g n
  text-same all held g n k = by (revision_of all g n) refl
    where
      by : (o : Option Revision) → revision_of all g n ≡ o → text_in known g n ≡ text_in all g n
      by None e = absurd (true≢false (sym k ∙ ap is_some e))
      by (Some r) e =
          let f = found_is (is_of g n) r all e in
          let is = is_of-is g n r f.1 in
          (λ i. text_in known (is.group_is i) (is.node_is i)) ∙ each_in IsTextHeld all r held f.0 ∙ sym (ap (option_map (λ (x : Revision). x.text)) e)

-- ---- parents are there

module _ (all : List Revision) where
  parent-there : (before : List Revision) → ((s : Revision) → In s before → In s all) → (g : Group) (p : Id) → is_known_parent before g p ≡ true → is_known_parent all g p ≡ true
  parent-there before inside g p h = by (is_null p) refl (revision_of before g p) refl
    where
      by : (t : Bool) → is_null p ≡ t → (o : Option Revision) → revision_of before g p ≡ o → (is_null p || knows all g p) ≡ true
      by true e o f = rw e refl
      by false e None f = absurd (true≢false (sym h ∙ rw (e, f) refl))
      by false e (Some s) f =
          let r = found_is (is_of g p) s before f in
          rw e (ap is_some (finds (is_of g p) s all (inside s r.0) r.1).is)

  new-parent : (before : List Revision) (h : ChangesetView) (r : Revision) → Each (λ r. (knows before r.group r.node ≡ true) ⊎ HasParents before r) (revisions_of h)
      → ((s : Revision) → In s before → In s all) → In r (only_new same_revision before (revisions_of h)) → is_known_parent all r.group r.p ≡ true
  new-parent before h r each inside i =
      by (each_in (λ r. (knows before r.group r.node ≡ true) ⊎ HasParents before r) (revisions_of h) r each (of-first same_revision r (revisions_of h) (of-filter (λ x. not (list_any (same_revision x) before)) r (first_of_each same_revision (revisions_of h)) i)))
    where
      by : (knows before r.group r.node ≡ true) ⊎ HasParents before r → is_known_parent all r.group r.p ≡ true
      by (inr parents) = parent-there before inside r.group r.p parents.0
      by (inl k) = at (revision_of before r.group r.node) refl
        where
          at : (o : Option Revision) → revision_of before r.group r.node ≡ o → is_known_parent all r.group r.p ≡ true
          at None e = absurd (true≢false (sym k ∙ ap is_some e))
          at (Some s) e =
              let f = found_is (is_of r.group r.node) s before e in
              let there : list_any (same_revision r) before ≡ true = in_any (same_revision r) before s f.0 f.1 in
              absurd (true≢false (sym (passes (λ x. not (list_any (same_revision x) before)) r (first_of_each same_revision (revisions_of h)) i) ∙ ap not there))

  parents-there : (before : List Revision) (hs : List ChangesetView) (r : Revision) → ((s : Revision) → In s (before ++ revisions_in hs) → In s all) → AreParentsEarlier before hs
      → In r (only_new same_revision before (revisions_in hs)) → is_known_parent all r.group r.p ≡ true
  parents-there before [] r inside earlier i = absurd i
  parents-there before (h ∷ hs) r inside earlier i =
      elim (of_append r (only_new same_revision before (revisions_of h)) (only_new same_revision (before ++ revisions_of h) (revisions_in hs))
      (subst (λ (l : List Revision). In r l) (only_new-append same_revision same_revision_turned before (revisions_of h) (revisions_in hs)) i)) [
        | inl j ↦ new-parent before h r earlier.0 (λ s k. inside s (in_left s before (revisions_of h ++ revisions_in hs) k)) j
        | inr j ↦ parents-there (before ++ revisions_of h) hs r (λ s k. inside s (subst (λ (l : List Revision). In s l) (append_assoc before (revisions_of h) (revisions_in hs)) k)) earlier.1 j
      ]

-- ---- what is written

module _ (known all : List Revision) where
  files-same : (rs : List Revision) → ((group : Group) → written_group known group (of_group group rs) ≡ written_group all group (of_group group rs)) → (paths : List Bytes) → map (written_file known rs) paths ≡ map (written_file all rs) paths
  files-same rs of [] = refl
  files-same rs of (path ∷ paths) = (λ i. record { path = path; entries = of (FilesAt path) i } ∷ files-same rs of paths i)

  bundle-same : (rs : List Revision) → ((group : Group) → written_group known group (of_group group rs) ≡ written_group all group (of_group group rs)) → written_bundle known rs ≡ written_bundle all rs
  unfolding written_bundle
  bundle-same rs of = (λ i. record { changesets = of Changesets i; manifests = of Manifests i; files = files-same rs of (paths_in rs) i })

  abbrev HasBase : Revision → Type 0
  HasBase r = first_base known r.group r.p ≡ first_base all r.group r.p

  group-same : (group : Group) (rs : List Revision) → Each (λ r. r.group ≡ group) rs → Each HasBase rs → written_group known group rs ≡ written_group all group rs
  unfolding written_group
  group-same group [] is h = refl
  group-same group (r ∷ rs) is h =
      ap (λ (o : Option Bytes). written_from (unwrap_or o []) (r ∷ rs)) (subst (λ (g : Group). first_base known g r.p ≡ first_base all g r.p) is.0 h.0)

  based-same : (rs : List Revision) → Each HasBase rs → written_bundle known rs ≡ written_bundle all rs
  based-same rs h = bundle-same rs (λ group. group-same group (of_group group rs) (all_of_group group rs) (Each-filter HasBase (λ r. same_group group r.group) rs h))

  -- a first revision without a first parent has no base
  first-same : (group : Group) (rs : List Revision) → HasNoFirst rs → written_group known group rs ≡ written_group all group rs
  unfolding written_group
  first-same group [] none = refl
  first-same group (r ∷ rs) none = rw none refl

-- ---- where a bundle is read that stands on nothing, no base counts

read-same : (known other : List Revision) (hs : List ChangesetView) → IsRead known hs → hg_increment other [] hs ≡ hg_increment known [] hs
read-same known other hs r =
    ap bundle_text (bundle-same other known (brought_by [] hs) (λ group. first-same other known group (of_group group (brought_by [] hs)) (r.written.firsts group)))

pub dump-same : (hs : List ChangesetView) → AreDumped hs → (known : List Revision) → hg_increment known [] hs ≡ hg_dump hs
dump-same hs s known = read-same (revisions_in hs) known hs (dump_is_read hs s)

pub read-is-dump : (known : List Revision) (hs : List ChangesetView) → Each IsChangesetView hs → length (hg_increment known [] hs) ≤ dump_limit → IsTrue (is_ok (bundle_reading [] (hg_increment known [] hs))) → hg_increment known [] hs ≡ hg_dump hs
read-is-dump known hs views small ok = sym (read-same known (revisions_in hs) hs (increment_is_read known hs views (omega (arith, small)) ok))

-- ---- behind old changesets, over revisions that hold all

pub base-is-same : BaseIsSame
unfolding brought_by
base-is-same known old new held parents =
    let all = revisions_in (old ++ new) in
    let texts = all-held known (old ++ new) held in
    ap bundle_text (based-same known (revisions_in (old ++ new)) (only_new same_revision (revisions_in old) (revisions_in new))
    (each_from (HasBase known (revisions_in (old ++ new))) (only_new same_revision (revisions_in old) (revisions_in new)) (λ r i.
    base texts r (parents-there (revisions_in (old ++ new)) (revisions_in old) new r (λ s j. subst (λ (l : List Revision). In s l) (sym (revisions_in-append old new)) j) parents i))))
  where
    base : Each (IsTextHeld known) (revisions_in (old ++ new)) → (r : Revision) → is_known_parent (revisions_in (old ++ new)) r.group r.p ≡ true → first_base known r.group r.p ≡ first_base (revisions_in (old ++ new)) r.group r.p
    base texts r h = by (is_null r.p) refl
      where
        by : (t : Bool) → is_null r.p ≡ t → first_base known r.group r.p ≡ first_base (revisions_in (old ++ new)) r.group r.p
        by true e = rw e refl
        by false e = rw e (text-same known (revisions_in (old ++ new)) texts r.group r.p (sym (rw e refl) ∙ h))
