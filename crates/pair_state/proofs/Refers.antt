-- To which revisions changesets refer, group by group, and that these are known where the changesets are held.
use Rattle.std.proofs.Common.{◌≡◌, ◌&&◌, ◌||◌, Bool, true, false, true≢false, List, [], ◌∷◌, ◌++◌, map, Option, Some, None, refl, sym, ap, subst, ◌∙◌, inl, inr}
use Rattle.std.specs.Prelude.{bytes_eq, is_some}
use Rattle.std.specs.List.{list_any}
use Rattle.std.proofs.lemmas.List.Concat.{flat_map-append}
use Rattle.text_model.specs.Lists.{Each, In}
use Rattle.text_model.specs.Text.{Bytes}
use Rattle.text_model.specs.Id.{Id, null, is_null, has_id}
use Rattle.text_model.proofs.EachLemmas.{Each-append}
use Rattle.text_model.proofs.Elements.{each_in}
use Rattle.text_model.proofs.Options.{or_false}
use Rattle.text_model.proofs.TestLemmas.{both, bytes_eq-is, bytes_eq-sym, or_true}
use Rattle.hg_model.proofs.RevisionLemmas.{is_of-self, same_group-is}
use Rattle.hg_model.specs.Revision.{Group, Changesets, Manifests, FilesAt, Revision, is_of, knows, revision_of, same_group}
use Rattle.view_model.specs.View.{ChangesetView, ManifestParents, NoManifest, Over, Row, changeset_node, file_node, rows_text}
use Rattle.view_model.specs.Held.{IsFileHeld, IsManifestHeld, IsChangesetHeld, AreChangesetsHeld}
use Rattle.view_model.specs.Dump.{own_revision, manifest_revision, file_revision, revisions_of, revisions_in}
use Rattle.pair_state.proofs.CameLemmas.{find-front, within-knows}
use Rattle.pair_state.proofs.ChangesetHeld.{found-of}

-- ---- what lists know

knows-cons : (x : Revision) (xs : List Revision) (group : Group) (node : Id) → knows (x ∷ xs) group node ≡ (is_of group node x || knows xs group node)
knows-cons x xs group node = by (is_of group node x) refl
  where
    by : (t : Bool) → is_of group node x ≡ t → knows (x ∷ xs) group node ≡ (is_of group node x || knows xs group node)
    by true t = rw t refl
    by false t = rw t refl

or-assoc : (a b c : Bool) → (a || (b || c)) ≡ ((a || b) || c)
or-assoc true b c = refl
or-assoc false b c = refl

pub knows-append : (xs ys : List Revision) (group : Group) (node : Id) → knows (xs ++ ys) group node ≡ (knows xs group node || knows ys group node)
knows-append [] ys group node = refl
knows-append (x ∷ xs) ys group node =
    knows-cons x (xs ++ ys) group node ∙ ap (λ (b : Bool). is_of group node x || b) (knows-append xs ys group node)
    ∙ or-assoc (is_of group node x) (knows xs group node) (knows ys group node)
    ∙ ap (λ (b : Bool). b || knows ys group node) (sym (knows-cons x xs group node))

pub knows-in : (rs : List Revision) (r : Revision) → In r rs → knows rs r.group r.node ≡ true
knows-in [] r i = absurd i
knows-in (x ∷ rs) r (inl e) = subst (λ (y : Revision). knows (y ∷ rs) r.group r.node ≡ true) e (rw (is_of-self r) refl)
knows-in (x ∷ rs) r (inr i) = knows-cons x rs r.group r.node ∙ ap (λ (b : Bool). is_of r.group r.node x || b) (knows-in rs r i) ∙ or_true (is_of r.group r.node x)

-- ---- the changesets to which changesets refer

module _ (node : Id) where
  no-changeset-file : (link : Id) (rows : List Row) → knows (map (file_revision link) rows) Changesets node ≡ false
  no-changeset-file link [] = refl
  no-changeset-file link (row ∷ rows) = no-changeset-file link rows

  no-changeset : (v : ChangesetView) (m : ManifestParents) → knows (manifest_revision v m ++ map (file_revision (changeset_node v)) v.rows) Changesets node ≡ false
  no-changeset v NoManifest = no-changeset-file (changeset_node v) v.rows
  no-changeset v (Over p q) = no-changeset-file (changeset_node v) v.rows

  own-referred : (v : ChangesetView) → knows (revisions_of v) Changesets node ≡ bytes_eq node (changeset_node v)
  unfolding revisions_of
  own-referred v =
      let rest = manifest_revision v v.manifest ++ map (file_revision (changeset_node v)) v.rows in
      knows-cons (own_revision v) rest Changesets node ∙ ap (λ (b : Bool). bytes_eq node (changeset_node v) || b) (no-changeset v v.manifest) ∙ or_false (bytes_eq node (changeset_node v))

  pub changesets-referred : (vs : List ChangesetView) → knows (revisions_in vs) Changesets node ≡ has_id (map changeset_node vs) node
  changesets-referred [] = refl
  changesets-referred (v ∷ vs) = knows-append (revisions_of v) (revisions_in vs) Changesets node ∙ (λ i. own-referred v i || changesets-referred vs i)

-- ---- the file revisions

-- the row has this revision of the path
abbrev pub is_file_at : Bytes → Id → Row → Bool
is_file_at path node row = bytes_eq row.path path && bytes_eq (file_node row.revision) node

module _ (path : Bytes) (node : Id) where
  rows-referred : (link : Id) (rows : List Row) → knows (map (file_revision link) rows) (FilesAt path) node ≡ list_any (is_file_at path node) rows
  rows-referred link [] = refl
  rows-referred link (row ∷ rows) =
      knows-cons (file_revision link row) (map (file_revision link) rows) (FilesAt path) node
      ∙ (λ i. (bytes_eq-sym path row.path i && bytes_eq-sym node (file_node row.revision) i) || rows-referred link rows i)

  behind-manifest : (v : ChangesetView) (m : ManifestParents) → knows (manifest_revision v m ++ map (file_revision (changeset_node v)) v.rows) (FilesAt path) node ≡ list_any (is_file_at path node) v.rows
  behind-manifest v NoManifest = rows-referred (changeset_node v) v.rows
  behind-manifest v (Over p q) = rows-referred (changeset_node v) v.rows

  own-files : (v : ChangesetView) → knows (revisions_of v) (FilesAt path) node ≡ list_any (is_file_at path node) v.rows
  unfolding revisions_of
  own-files v = behind-manifest v v.manifest

  pub files-referred : (vs : List ChangesetView) → knows (revisions_in vs) (FilesAt path) node ≡ list_any (λ v. list_any (is_file_at path node) v.rows) vs
  files-referred [] = refl
  files-referred (v ∷ vs) = knows-append (revisions_of v) (revisions_in vs) (FilesAt path) node ∙ (λ i. own-files v i || files-referred vs i)

-- ---- the manifests

module _ (known : List Revision) (node : Id) (some : is_null node ≡ false) where
  no-manifest-file : (link : Id) (rows : List Row) → knows (map (file_revision link) rows) Manifests node ≡ false
  no-manifest-file link [] = refl
  no-manifest-file link (row ∷ rows) = no-manifest-file link rows

  manifest-among : (v : ChangesetView) (m : ManifestParents) → IsManifestHeld known (v.fields).manifest m v.rows
      → knows (manifest_revision v m ++ map (file_revision (changeset_node v)) v.rows) Manifests node ≡ bytes_eq (v.fields).manifest node
  manifest-among v NoManifest held = no-manifest-file (changeset_node v) v.rows ∙ sym (ap (λ (n : Id). bytes_eq n node) held.0 ∙ bytes_eq-sym null node ∙ some)
  manifest-among v (Over p q) held =
      let own : Revision = record { group = Manifests; node = (v.fields).manifest; p = p; q = q; link = changeset_node v; text = rows_text v.rows } in
      knows-cons own (map (file_revision (changeset_node v)) v.rows) Manifests node
      ∙ ap (λ (b : Bool). bytes_eq node (v.fields).manifest || b) (no-manifest-file (changeset_node v) v.rows) ∙ or_false (bytes_eq node (v.fields).manifest)
      ∙ bytes_eq-sym node (v.fields).manifest

  own-manifest : (v : ChangesetView) → IsManifestHeld known (v.fields).manifest v.manifest v.rows → knows (revisions_of v) Manifests node ≡ bytes_eq (v.fields).manifest node
  unfolding revisions_of
  own-manifest v held = manifest-among v v.manifest held

  -- where the changesets are held; one without a manifest has the null id
  pub manifests-referred : (nodes : List Id) (vs : List ChangesetView) → AreChangesetsHeld known nodes vs → knows (revisions_in vs) Manifests node ≡ list_any (λ v. bytes_eq (v.fields).manifest node) vs
  manifests-referred nodes [] held = refl
  manifests-referred [] (v ∷ vs) held = absurd held
  manifests-referred (n ∷ nodes) (v ∷ vs) held =
      knows-append (revisions_of v) (revisions_in vs) Manifests node ∙ (λ i. own-manifest v (held.0).manifest i || manifests-referred nodes vs held.1 i)

-- ---- what held changesets refer to is known

module _ (known : List Revision) where
  abbrev pub IsKnown : Revision → Type 0
  IsKnown r = knows known r.group r.node ≡ true

  files-known : (link : Id) (rows : List Row) → Each (IsFileHeld known) rows → Each IsKnown (map (file_revision link) rows)
  files-known link [] held = tt
  files-known link (row ∷ rows) held = (ap is_some (held.0).is_held, files-known link rows held.1)

  manifest-known : (v : ChangesetView) (m : ManifestParents) → IsManifestHeld known (v.fields).manifest m v.rows → Each IsKnown (manifest_revision v m)
  manifest-known v NoManifest held = tt
  manifest-known v (Over p q) held = (ap is_some held.is_held, tt)

  own-known : (v : ChangesetView) → IsChangesetHeld known (changeset_node v) v → Each IsKnown (revisions_of v)
  unfolding revisions_of
  own-known v held =
      (ap is_some held.is_held, Each-append IsKnown (manifest_revision v v.manifest) (map (file_revision (changeset_node v)) v.rows) (manifest-known v v.manifest held.manifest) (files-known (changeset_node v) v.rows held.files))

  pub referred-known : (vs : List ChangesetView) → AreChangesetsHeld known (map changeset_node vs) vs → Each IsKnown (revisions_in vs)
  referred-known [] held = tt
  referred-known (v ∷ vs) held = Each-append IsKnown (revisions_of v) (revisions_in vs) (own-known v held.0) (referred-known vs held.1)

-- ---- more changesets refer to more

pub referred-more : (vs ws : List ChangesetView) (group : Group) (node : Id) → knows (revisions_in vs) group node ≡ true → knows (revisions_in (vs ++ ws)) group node ≡ true
referred-more vs ws group node h =
    ap (λ (rs : List Revision). knows rs group node) (flat_map-append revisions_of vs ws)
    ∙ within-knows (revisions_in vs) (revisions_in vs ++ revisions_in ws) (λ g n r e. find-front (revisions_in vs) (revisions_in ws) g n r e) group node h

pub referred-rest : (vs ws : List ChangesetView) (group : Group) (node : Id) → knows (revisions_in ws) group node ≡ true → knows (revisions_in (vs ++ ws)) group node ≡ true
referred-rest vs ws group node h =
    ap (λ (rs : List Revision). knows rs group node) (flat_map-append revisions_of vs ws)
    ∙ knows-append (revisions_in vs) (revisions_in ws) group node ∙ ap (λ (b : Bool). knows (revisions_in vs) group node || b) h ∙ or_true (knows (revisions_in vs) group node)

-- ---- what one list knows, another does

known-of : (rs : List Revision) (group : Group) (node : Id) → knows rs group node ≡ true → (r : Revision) × In r rs × (r.group ≡ group) × (r.node ≡ node)
known-of rs group node h = by (revision_of rs group node) refl h
  where
    by : (o : Option Revision) → revision_of rs group node ≡ o → is_some o ≡ true → (r : Revision) × In r rs × (r.group ≡ group) × (r.node ≡ node)
    by None e i = absurd (true≢false (sym i))
    by (Some r) e i =
        let f = found-of (is_of group node) rs r e in
        let is = both (same_group group r.group) (bytes_eq node r.node) f.1 in
        (r, f.0, sym (same_group-is group r.group is.0), sym (bytes_eq-is node r.node is.1))

-- where each of its revisions is known
pub known-all : (rs known : List Revision) → Each (IsKnown known) rs → (group : Group) (node : Id) → knows rs group node ≡ true → knows known group node ≡ true
known-all rs known all group node h =
    let of = known-of rs group node h in
    (λ i. knows known (sym of.2 i) (sym of.3 i)) ∙ each_in (IsKnown known) rs of.0 all of.1
