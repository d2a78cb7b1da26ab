-- The whole of a bundle that is written.
use Rattle.std.proofs.Common.{◌≡◌, ◌≢◌, ℕ, ◌≤◌, ◌<◌, ◌^◌, ◌⊎◌, inl, inr, Bool, true, false, true≢false, not, List, [], ◌∷◌, ◌++◌, length, map, refl, sym, ap, subst, ◌∙◌, arith, length-append}
use Rattle.std.specs.Prelude.{bytes_eq}
use Rattle.std.specs.List.{flat_map, filter_map}
use Rattle.std.proofs.lemmas.List.Sums.{sum_by-append}
use Rattle.std.proofs.lemmas.Slice.Eq.{bytes_eq-Decides}
use Rattle.std.proofs.lemmas.Bool.{or_cases, or_left, or_right}
use Rattle.text_model.specs.Lists.{Each, first_of_each, in_order, only_new}
use Rattle.text_model.specs.Text.{Bytes, is_below}
use Rattle.text_model.specs.Id.{Id, IsId}
use Rattle.text_model.specs.Path.{is_fit_path}
use Rattle.text_model.specs.Fault.{input_limit}
use Rattle.text_model.proofs.Elements.{flat_map_append}
use Rattle.text_model.proofs.TestLemmas.{bytes_eq-self}
use Rattle.hg_model.proofs.RevisionLemmas.{same_group-is}
use Rattle.hg_model.specs.Changeset.{changeset_text}
use Rattle.hg_model.specs.Chunk.{field_of, chunk_text, magic_text}
use Rattle.hg_model.specs.Bundle.{BundleEntry, group_text, entry_payload, IsBundleEntry, IsSize, IsBundle, IsWithinLimits, AreShort, delta_limit, path_limit, bundle_text, bundle_framing}
use Rattle.hg_model.specs.Revision.{Group, Changesets, Manifests, FilesAt, Revision, is_of, knows, is_bad_link, same_group, same_revision, known_after_all}
use Rattle.hg_model.specs.Reading.{text_limit, sum_limit}
use Rattle.hg_model.proofs.ListingLemmas.{files_text, files_text-cons, bundle_text-parts}
use Rattle.hg_bundle.specs.Arrivals.{arrival_of}
use Rattle.hg_bundle.specs.Brought.{AreListed, AreOfFiles, AreOfBundle}
use Rattle.hg_bundle.proofs.Reading.{reading_is}
use Rattle.hg_bundle.proofs.Taken.{all_taken}
use Rattle.hg_bundle.proofs.Unreadable.{bundle_read}
use Rattle.hg_store.specs.Known.{AreAdded, HasFitPath}
use Rattle.view_model.specs.View.{ChangesetView, Row, ManifestParents, NoManifest, Over, changeset_node, commit_limit}
use Rattle.view_model.specs.Dump.{written_from, written_group, written_file, written_bundle, of_group, path_of_group, paths_in, brought_by, manifest_revision, file_revision, revisions_of, revisions_in, hg_increment}
use Rattle.hg_dump.specs.Written.{IsHeldIn}
use Rattle.hg_dump.proofs.OnceLemmas.{Each-filter, Each-new, Each-append}
use Rattle.path_law.proofs.Order.{has, has-in_order, has-first}
use Rattle.hg_dump_law.specs.Taken.{IsOneOf, KnowsOld, AreParentsEarlier, in_bundle_order, IsShortIncrement, Brings}
use Rattle.hg_dump_law.proofs.After.{all-after, order-holds}
use Rattle.hg_dump_law.proofs.Known.{IsKnown, each-known, HoldsIn, Holds, is_of-is, knows-cons, holds-both, holds-each, holds-after_all, knows-group, holds-new}
use Rattle.hg_dump_law.proofs.Earlier.{HaveParents, all-earlier, HasLink, has-link, links, AreReady, ready-append, ready-front, ready-rest, ready-group}
use Rattle.hg_dump_law.proofs.Written.{IsWritten, each-written, each-one-all, additions}
use Rattle.hg_dump_law.proofs.Bundle.{IsSmall, group-is}
use Rattle.hg_dump_law.proofs.Sizes.{total, IsShort, HasIds, group-short, group-long, path-short}

-- ---- what is written of a group

in-group : (group : Group) (rs : List Revision) → Each (λ r. r.group ≡ group) (of_group group rs)
in-group group [] = tt
in-group group (r ∷ rs) = by (same_group group r.group) refl (in-group group rs)
  where
    by : (b : Bool) → same_group group r.group ≡ b → Each (λ s. s.group ≡ group) (of_group group rs) → Each (λ s. s.group ≡ group) (of_group group (r ∷ rs))
    by true e rest = rw e (sym (same_group-is group r.group e), rest)
    by false e rest = rw e rest

-- ---- what is known, step by step

each-link : (small large : List Revision) (rs : List Revision) → HoldsIn Changesets small large → Each (HasLink small) rs → Each (HasLink large) rs
each-link small large [] holds are = tt
each-link small large (r ∷ rs) holds are = (has-link small large r holds are.0, each-link small large rs holds are.1)

-- the link node of a changeset is its own
own-links : (all large : List Revision) (rs : List Revision) → Each (HasLink all) rs → Each (λ r. r.group ≡ Changesets → HasLink large r) rs
own-links all large [] are = tt
own-links all large (r ∷ rs) are = ((λ e. by r.group e are.0), own-links all large rs are.1)
  where
    by : (g : Group) → g ≡ Changesets → is_bad_link all g r ≡ false → is_bad_link large g r ≡ false
    by Changesets e h = h
    by Manifests e h = absurd cc
    by (FilesAt path) e h = absurd cc

group-links : (group : Group) (known rs : List Revision) → Each (HasLink known) rs → Each (λ r. r.group ≡ group → HasLink known r) rs
group-links group known [] are = tt
group-links group known (r ∷ rs) are = ((λ e. are.0), group-links group known rs are.1)

abbrev files_at : List Revision → List Bytes → List Revision
files_at rs paths = flat_map (λ path. of_group (FilesAt path) rs) paths

ready-files : (met known rs : List Revision) (paths : List Bytes) → HaveParents met rs → Holds met known → Each (HasLink known) rs → AreReady known (files_at rs paths)
ready-files met known rs [] parents holds linked = tt
ready-files met known rs (p ∷ ps) parents holds linked =
    let front = of_group (FilesAt p) rs in
    let after = known_after_all known front in
    ready-append known front (files_at rs ps)
    (ready-group (FilesAt p) met known rs parents (holds (FilesAt p)) (group-links (FilesAt p) known rs linked))
    (ready-files met after rs ps parents (λ g n h. holds-after_all known front g n (holds g n h)) (each-link known after rs (holds-after_all known front Changesets) linked))

-- ---- the paths

fit-among : (rs : List Revision) (p : Bytes) → Each (λ r. HasFitPath r.group) rs → has (filter_map (λ r. path_of_group r.group) rs) p ≡ true → is_fit_path p ≡ true
fit-among [] p fit h = absurd (true≢false (sym h))
fit-among (r ∷ rs) p fit h = by r.group refl fit.0 (fit-among rs p fit.1)
  where
    by : (g : Group) → r.group ≡ g → HasFitPath g → (has (filter_map (λ r. path_of_group r.group) rs) p ≡ true → is_fit_path p ≡ true) → is_fit_path p ≡ true
    by Changesets e f later = later (sym (rw e refl) ∙ h)
    by Manifests e f later = later (sym (rw e refl) ∙ h)
    by (FilesAt q) e f later = at (or_cases (bytes_eq p q) (has (filter_map (λ r. path_of_group r.group) rs) p) (sym (rw e refl) ∙ h))
      where
        at : ((bytes_eq p q ≡ true) ⊎ (has (filter_map (λ r. path_of_group r.group) rs) p ≡ true)) → is_fit_path p ≡ true
        at (inl a) = ap is_fit_path ((bytes_eq-Decides p q).0 a) ∙ f
        at (inr b) = later b

each-has : (P : Bytes → Type 0) (ps : List Bytes) → ((p : Bytes) → has ps p ≡ true → P p) → Each P ps
each-has P [] h = tt
each-has P (p ∷ ps) h = (h p (or_left (bytes_eq p p) (has ps p) (bytes_eq-self p)), each-has P ps (λ q e. h q (or_right (bytes_eq q p) (has ps q) e)))

each-fit : (rs : List Revision) → Each (λ r. HasFitPath r.group) rs → Each (λ p. is_fit_path p ≡ true) (paths_in rs)
unfolding paths_in
each-fit rs fit =
    let paths = filter_map (λ r. path_of_group r.group) rs in
    each-has (λ p. is_fit_path p ≡ true) (in_order is_below (first_of_each bytes_eq paths))
    (λ p h. fit-among rs p fit (sym (has-in_order p (first_of_each bytes_eq paths) ∙ has-first p paths) ∙ h))

not-empty : (p : Bytes) → is_fit_path p ≡ true → p ≢ []
unfolding is_fit_path
not-empty p fit e = none (subst (λ (x : Bytes). is_fit_path x ≡ true) e fit)
  where
    none : is_fit_path [] ≡ true → ⊥
    none h = true≢false (sym h)

-- ---- what holds of each

each-map : (P Q : Revision → Type 0) → ((r : Revision) → P r → Q r) → (rs : List Revision) → Each P rs → Each Q rs
each-map P Q f [] h = tt
each-map P Q f (r ∷ rs) h = (f r h.0, each-map P Q f rs h.1)

each-group : (P : Revision → Type 0) (group : Group) (rs : List Revision) → Each P rs → Each P (of_group group rs)
each-group P group rs h = Each-filter P (λ r. same_group group r.group) rs h

each-file : (P : Revision → Type 0) (rs : List Revision) (paths : List Bytes) → Each P rs → Each P (files_at rs paths)
each-file P rs [] h = tt
each-file P rs (p ∷ ps) h = Each-append P (of_group (FilesAt p) rs) (files_at rs ps) (each-group P (FilesAt p) rs h) (each-file P rs ps h)

-- ---- ids and sizes

known-id : (known xs : List Revision) (group : Group) (node : Id) → Each (IsWritten known) xs → knows xs group node ≡ true → IsId node
known-id known [] group node are h = absurd (true≢false (sym h))
known-id known (x ∷ xs) group node are h = by (or_cases (is_of group node x) (knows xs group node) (sym (knows-cons x xs group node) ∙ h)) (known-id known xs group node are.1)
  where
    by : ((is_of group node x ≡ true) ⊎ (knows xs group node ≡ true)) → (knows xs group node ≡ true → IsId node) → IsId node
    by (inl a) later = subst IsId (sym (is_of-is group node x a).node_is) (are.0).ids.0
    by (inr b) later = later b

link-id : (known all : List Revision) (r : Revision) → Each (IsWritten known) all → IsWritten known r → HasLink all r → IsId r.link
link-id known all r are is = by r.group
  where
    not_false : (b : Bool) → not b ≡ false → b ≡ true
    not_false true e = refl
    not_false false e = cc

    by : (g : Group) → is_bad_link all g r ≡ false → IsId r.link
    by Changesets h = subst IsId (sym ((bytes_eq-Decides r.link r.node).0 (not_false (bytes_eq r.link r.node) h))) is.ids.0
    by Manifests h = known-id known all Changesets r.link are (not_false (knows all Changesets r.link) h)
    by (FilesAt path) h = known-id known all Changesets r.link are (not_false (knows all Changesets r.link) h)

each-ids : (known all rs : List Revision) → Each (IsWritten known) all → Each (IsWritten known) rs → Each (HasLink all) rs → Each HasIds rs
each-ids known all [] are written linked = tt
each-ids known all (r ∷ rs) are written linked =
    (((written.0).ids.0.0, (written.0).ids.1.0, (written.0).ids.2.0, (link-id known all r are written.0 linked.0).0), each-ids known all rs are written.1 linked.1)

abbrev AreEntries : List BundleEntry → Type 0
AreEntries entries = Each (λ e. IsBundleEntry e × IsSize (entry_payload e)) entries

entries-are : (base : Bytes) (rs : List Revision) → Each HasIds rs → AreShort (written_from base rs) → AreEntries (written_from base rs)
unfolding written_from
entries-are base [] ids short = tt
entries-are base (r ∷ rs) ids short = ((record { node = ids.0.0; p = ids.0.1; q = ids.0.2; link = ids.0.3 }, size short.0), entries-are r.text rs ids.1 short.1)
  where
    size : {n : ℕ} → n ≤ delta_limit → n < 2 ^ 31
    size h = omega (arith, h)

group-entries : (known : List Revision) (group : Group) (rs : List Revision) → Each HasIds rs → AreShort (written_group known group rs) → AreEntries (written_group known group rs)
unfolding written_group
group-entries known group [] ids short = tt
group-entries known group (r ∷ rs) ids short = entries-are _ (r ∷ rs) ids short

file-entries : (known rs : List Revision) (paths : List Bytes) → Each (λ p. is_fit_path p ≡ true) paths → Each HasIds rs
    → Each (λ f. (field_of f.path ≤ path_limit) × AreShort f.entries) (map (written_file known rs) paths)
    → Each (λ f. (f.path ≢ []) × IsSize f.path × AreEntries f.entries) (map (written_file known rs) paths)
file-entries known rs [] fit ids short = tt
file-entries known rs (p ∷ ps) fit ids short =
    ((not-empty p fit.0, size short.0.0, group-entries known (FilesAt p) (of_group (FilesAt p) rs) (each-group HasIds (FilesAt p) rs ids) short.0.1), file-entries known rs ps fit.1 ids short.1)
  where
    size : {n : ℕ} → n ≤ path_limit → n < 2 ^ 31
    size h = omega (arith, h)

-- ---- limits

small : {n : ℕ} → n ≤ 2 ^ 26 → n < 2 ^ 32
small h = omega (arith, h)

files-short : (known rs : List Revision) (paths : List Bytes) → Each (λ p. is_fit_path p ≡ true) paths → Each HasIds rs → Each IsShort rs
    → Each (λ f. (field_of f.path ≤ path_limit) × AreShort f.entries) (map (written_file known rs) paths)
files-short known rs [] fit ids short = tt
files-short known rs (p ∷ ps) fit ids short =
    ((path-short p fit.0, group-short known (FilesAt p) (of_group (FilesAt p) rs) (each-group HasIds (FilesAt p) rs ids) (each-group IsShort (FilesAt p) rs short)), files-short known rs ps fit.1 ids short)

files-long : (known rs : List Revision) (paths : List Bytes) → Each HasIds rs → total (files_at rs paths) ≤ length (files_text (map (written_file known rs) paths))
files-long known rs [] ids = omega arith
files-long known rs (p ∷ ps) ids =
    let front = of_group (FilesAt p) rs in
    let entries = written_group known (FilesAt p) front in
    let rest = files_text (map (written_file known rs) ps) in
    omega (
      arith,
      sum_by-append (λ (r : Revision). length r.text) front (files_at rs ps),
      ap length (files_text-cons (written_file known rs p) (map (written_file known rs) ps)),
      length-append (chunk_text p) (group_text entries ++ rest),
      group-long known (FilesAt p) front rest (each-group HasIds (FilesAt p) rs ids),
      files-long known rs ps ids,
    )

-- the text of a changeset is within its own limit
abbrev IsWithin : Revision → Type 0
IsWithin r = r.group ≡ Changesets → length r.text ≤ text_limit Changesets

module _ (h : ChangesetView) (fits : length (changeset_text h.fields) ≤ commit_limit) where
  manifest-within : (m : ManifestParents) → Each IsWithin (manifest_revision h m)
  manifest-within NoManifest = tt
  manifest-within (Over p q) = ((λ e. absurd cc), tt)

  rows-within : (link : Id) (rows : List Row) → Each IsWithin (map (file_revision link) rows)
  rows-within link [] = tt
  rows-within link (row ∷ rows) = ((λ e. absurd cc), rows-within link rows)

  view-within : Each IsWithin (revisions_of h)
  unfolding revisions_of
  view-within = ((λ e. fits), Each-append IsWithin (manifest_revision h h.manifest) (map (file_revision (changeset_node h)) h.rows) (manifest-within h.manifest) (rows-within (changeset_node h) h.rows))

all-within : (hs : List ChangesetView) → Each (λ h. length (changeset_text h.fields) ≤ commit_limit) hs → Each IsWithin (revisions_in hs)
all-within [] fits = tt
all-within (h ∷ hs) fits = Each-append IsWithin (revisions_of h) (revisions_in hs) (view-within h fits.0) (all-within hs fits.1)

each-limit : (rs : List Revision) → Each IsWithin rs → Each IsShort rs → Each (λ r. length r.text ≤ text_limit r.group) rs
each-limit [] within short = tt
each-limit (r ∷ rs) within short = (by r.group within.0, each-limit rs within.1 short.1)
  where
    by : (g : Group) → (g ≡ Changesets → length r.text ≤ text_limit Changesets) → length r.text ≤ text_limit g
    by Changesets w = w refl
    by Manifests w = short.0
    by (FilesAt path) w = short.0

-- ---- the groups of files

files-are : (known base rs : List Revision) (paths : List Bytes) → AreAdded known → Each (IsOneOf known) base → Each (IsWritten known) rs → Each (λ p. is_fit_path p ≡ true) paths
    → AreReady base (files_at rs paths) → AreOfFiles base (map (written_file known rs) paths) (files_at rs paths)
files-are known base rs [] added are written fit ready = refl
files-are known base rs (p ∷ ps) added are written fit ready =
    let front = of_group (FilesAt p) rs in
    let more = files_at rs ps in
    let front_written = each-group (IsWritten known) (FilesAt p) rs written in (
      front,
      more,
      refl,
      fit.0,
      group-is known base added are (FilesAt p) front (in-group (FilesAt p) rs) (each-map (IsWritten known) IsSmall (λ r w. small w.short) front front_written) (ready-front base front more ready),
      files-are known (known_after_all base front) rs ps added (each-one-all known base front front_written are) written fit.1 (ready-rest base front more ready),
    )

-- ---- the whole

module _ (known base : List Revision) (added : AreAdded known) (old new : List ChangesetView) (held : Each (λ r. IsHeldIn known r.group r) (revisions_in new)) (knows_old : KnowsOld known base old)
    (parents : AreParentsEarlier (revisions_in old) new) (short : IsShortIncrement known old new) where
  abbrev rs : List Revision
  rs = only_new same_revision (revisions_in old) (revisions_in new)

  abbrev cs : List Revision
  cs = of_group Changesets rs

  abbrev ms : List Revision
  ms = of_group Manifests rs

  abbrev after_cs : List Revision
  after_cs = known_after_all base cs

  abbrev after_ms : List Revision
  after_ms = known_after_all after_cs ms

  all-written : Each (IsWritten known) (revisions_in new)
  all-written = each-written known added (revisions_in new) held

  written : Each (IsWritten known) rs
  written = Each-new (IsWritten known) same_revision (revisions_in old) (revisions_in new) all-written

  linked : Each (HasLink (revisions_in new)) rs
  linked = Each-new (HasLink (revisions_in new)) same_revision (revisions_in old) (revisions_in new) (links (revisions_in new) new (λ g n h. h))

  earlier : HaveParents (revisions_in old) rs
  earlier = all-earlier (revisions_in old) (revisions_in old) new (λ g n h. h) parents

  old-held : Holds (revisions_in old) base
  old-held = holds-each (revisions_in old) base knows_old.has_old

  new-held : HoldsIn Changesets (revisions_in new) after_cs
  new-held n h =
      holds-both Changesets (revisions_in old) rs after_cs (λ m k. holds-after_all base cs Changesets m (old-held Changesets m k)) (knows-group Changesets base rs) n
      (holds-new (revisions_in old) (revisions_in new) Changesets n h)

  cs-ready : AreReady base cs
  cs-ready = ready-group Changesets (revisions_in old) base rs earlier (old-held Changesets) (own-links (revisions_in new) base rs linked)

  links-known : Each (HasLink after_cs) rs
  links-known = each-link (revisions_in new) after_cs rs new-held linked

  old-after : Holds (revisions_in old) after_cs
  old-after g n h = holds-after_all base cs g n (old-held g n h)

  ms-ready : AreReady after_cs ms
  ms-ready = ready-group Manifests (revisions_in old) after_cs rs earlier (old-after Manifests) (group-links Manifests after_cs rs links-known)

  fs-ready : AreReady after_ms (files_at rs (paths_in rs))
  fs-ready =
      ready-files (revisions_in old) after_ms rs (paths_in rs) earlier (λ g n h. holds-after_all after_cs ms g n (old-after g n h))
      (each-link after_cs after_ms rs (holds-after_all after_cs ms Changesets) links-known)

  fit : Each (λ p. is_fit_path p ≡ true) (paths_in rs)
  fit = each-fit rs (each-map (IsWritten known) (λ r. HasFitPath r.group) (λ r w. w.path) rs written)

  small-group : (group : Group) → Each IsSmall (of_group group rs)
  small-group group = each-group IsSmall group rs (each-map (IsWritten known) IsSmall (λ r w. small w.short) rs written)

  one-after_cs : Each (IsOneOf known) after_cs
  one-after_cs = each-one-all known base cs (each-group (IsWritten known) Changesets rs written) knows_old.of_store

  one-after_ms : Each (IsOneOf known) after_ms
  one-after_ms = each-one-all known after_cs ms (each-group (IsWritten known) Manifests rs written) one-after_cs

  ids : Each HasIds rs
  ids = each-ids known (revisions_in new) rs all-written written linked

  short-texts : Each IsShort rs
  short-texts = each-map (IsWritten known) IsShort (λ r w. w.short) rs written

  order-written : Each (IsWritten known) (cs ++ (ms ++ files_at rs (paths_in rs)))
  order-written =
      Each-append (IsWritten known) cs (ms ++ files_at rs (paths_in rs)) (each-group (IsWritten known) Changesets rs written)
      (Each-append (IsWritten known) ms (files_at rs (paths_in rs)) (each-group (IsWritten known) Manifests rs written) (each-file (IsWritten known) rs (paths_in rs) written))

  limits : Each (λ r. length r.text ≤ text_limit r.group) (cs ++ (ms ++ files_at rs (paths_in rs)))
  limits =
      let within = Each-new IsWithin same_revision (revisions_in old) (revisions_in new) (all-within new short.changesets) in
      let limit = λ (r : Revision). length r.text ≤ text_limit r.group in
      let each = each-limit rs within short-texts in
      Each-append limit cs (ms ++ files_at rs (paths_in rs)) (each-group limit Changesets rs each)
      (Each-append limit ms (files_at rs (paths_in rs)) (each-group limit Manifests rs each) (each-file limit rs (paths_in rs) each))

  bundle-short : length (bundle_text (written_bundle known rs)) ≤ input_limit
  unfolding brought_by
  bundle-short = short.bundle

  sum-short : total (cs ++ (ms ++ files_at rs (paths_in rs))) ≤ sum_limit
  unfolding written_bundle
  sum-short =
      let first = written_group known Changesets cs in
      let second = written_group known Manifests ms in
      let third = map (written_file known rs) (paths_in rs) in
      let rest = group_text second ++ files_text third in
      omega (
        arith,
        bundle-short,
        ap length (bundle_text-parts (written_bundle known rs)),
        length-append magic_text (group_text first ++ rest),
        sum_by-append (λ (r : Revision). length r.text) cs (ms ++ files_at rs (paths_in rs)),
        sum_by-append (λ (r : Revision). length r.text) ms (files_at rs (paths_in rs)),
        group-long known Changesets cs rest (each-group HasIds Changesets rs ids),
        group-long known Manifests ms (files_text third) (each-group HasIds Manifests rs ids),
        files-long known rs (paths_in rs) ids,
      )

  is-within : IsWithinLimits (bundle_text (written_bundle known rs)) (written_bundle known rs)
  unfolding written_bundle
  is-within = record {
    input = bundle-short;
    changesets = group-short known Changesets cs (each-group HasIds Changesets rs ids) (each-group IsShort Changesets rs short-texts);
    manifests = group-short known Manifests ms (each-group HasIds Manifests rs ids) (each-group IsShort Manifests rs short-texts);
    files = files-short known rs (paths_in rs) fit ids short-texts;
  }

  is-of_bundle : AreOfBundle base (written_bundle known rs) (in_bundle_order rs)
  unfolding written_bundle in_bundle_order
  is-of_bundle = record {
    changesets = cs;
    manifests = ms;
    files = files_at rs (paths_in rs);
    all = refl;
    are_changesets = group-is known base added knows_old.of_store Changesets cs (in-group Changesets rs) (small-group Changesets) cs-ready;
    are_manifests = group-is known after_cs added one-after_cs Manifests ms (in-group Manifests rs) (small-group Manifests) ms-ready;
    are_files = files-are known after_ms rs (paths_in rs) added one-after_ms written fit fs-ready;
    additions = additions known base 0 (in_bundle_order rs) knows_old.of_store order-written
        (ready-append base cs (ms ++ files_at rs (paths_in rs)) cs-ready (ready-append after_cs ms (files_at rs (paths_in rs)) ms-ready fs-ready)) limits (omega (arith, sum-short));
  }

  is-bundle : IsWithinLimits (bundle_text (written_bundle known rs)) (written_bundle known rs) → IsBundle (bundle_text (written_bundle known rs)) (written_bundle known rs)
  unfolding written_bundle
  is-bundle within = record {
    spells = refl;
    changesets = group-entries known Changesets cs (each-group HasIds Changesets rs ids) within.changesets;
    manifests = group-entries known Manifests ms (each-group HasIds Manifests rs ids) within.manifests;
    files = file-entries known rs (paths_in rs) fit ids within.files;
  }

  pub increment-read : Brings base (hg_increment known old new) (in_bundle_order (brought_by old new))
  unfolding brought_by
  increment-read =
      let bytes = bundle_text (written_bundle known rs) in
      let read = bundle_read base bytes (written_bundle known rs) (in_bundle_order rs) (is-bundle is-within) is-within is-of_bundle in
      let f = bundle_framing bytes in
      let taken = all_taken base [] 0 f.items f.bad read.0 (omega arith) (sym (reading_is base bytes) ∙ read.1) in
      (read.0, read.1, read.2, subst (λ (l : List Revision). AreListed base l (map arrival_of read.0)) read.2 taken.listed)

  -- ---- what is known then

  abbrev after : List Revision
  after = known_after_all base (in_bundle_order rs)

  pub after-known : Each (λ r. IsKnown after r.group r.node) (revisions_in (old ++ new))
  after-known =
      subst (Each (λ r. IsKnown after r.group r.node)) (sym (flat_map_append revisions_of old new))
      (Each-append (λ r. IsKnown after r.group r.node) (revisions_in old) (revisions_in new) (each-known (revisions_in old) after old-after_all) (each-known (revisions_in new) after new-after_all))
    where
      old-after_all : Holds (revisions_in old) after
      old-after_all g n h = holds-after_all base (in_bundle_order rs) g n (old-held g n h)

      new-after_all : Holds (revisions_in new) after
      new-after_all g n h =
          holds-both g (revisions_in old) rs after (old-after_all g) (λ m k. all-after base (in_bundle_order rs) g m (order-holds rs g m k)) n (holds-new (revisions_in old) (revisions_in new) g n h)

  after-store : Each (IsOneOf known) after
  unfolding in_bundle_order
  after-store = each-one-all known base (in_bundle_order rs) order-written knows_old.of_store

  pub increment-known : KnowsOld known (known_after_all base (in_bundle_order (brought_by old new))) (old ++ new)
  unfolding brought_by
  increment-known = record { has_old = after-known; of_store = after-store }
