-- The changeset that the rule gives is right: its ids agree, its parents and its fields are those of a changeset.
use Rattle.std.proofs.Common.{◌≡◌, ◌≢◌, ◌≤◌, ◌++◌, Bool, true, false, true≢false, not, List, [], ◌∷◌, length, map, refl, sym, ap, subst, ◌∙◌, arith}
use Rattle.std.specs.Prelude.{bytes_eq, ◌==◌, if◌then◌else◌, IsTrue, ℤ, pos, negsuc, neg_ℤ, unsigned_abs, ◌≤ℤ◌, ◌^◌}
use Rattle.std.proofs.lemmas.Slice.Eq.{bytes_eq-Decides}
use Rattle.std.proofs.lemmas.Int.{ints}
use Rattle.text_model.specs.Lists.{Each, first_of_each}
use Rattle.text_model.specs.Text.{Bytes, IsBytes, has_byte, is_below, lf, nul}
use Rattle.text_model.specs.Path.{is_fit_path}
use Rattle.text_model.specs.Id.{Id, IsId, null, is_null, hex}
use Rattle.text_model.proofs.HexLemmas.{IsId-null}
use Rattle.text_model.proofs.TestLemmas.{both}
use Rattle.text_model.proofs.Digests.{IsId-node_id}
use Rattle.text_model.proofs.Options.{not_true}
use Rattle.hg_model.proofs.ParentOrder.{manifest_order-again, manifest_order-either, manifest_order-ids}
use Rattle.hg_model.specs.Changeset.{IsPlainDate}
use Rattle.hg_model.specs.Manifest.{entry_text, manifest_text, flag_text}
use Rattle.hg_model.specs.Revision.{Revision, Manifests, is_known_parent}
use Rattle.hg_model.proofs.ManifestLemmas.{manifest_text-none, manifest_text-cons}
use Rattle.git_model.proofs.RowOrder.{behind_filter, each_ordered}
use Rattle.hg_store.specs.Known.{AreAdded}
use Rattle.hg_view.proofs.Right.{held-is_view}
use Rattle.view_model.specs.View.{ChangesetView, IsRevision, ManifestParents, NoManifest, Over, AreManifestParents, manifest_node, Row, rows_text, entry_of_row, file_node}
use Rattle.view_model.specs.Held.{IsFileHeld, IsManifestHeld}
use Rattle.pair_model.specs.Block.{Parents, no_changeset}
use Rattle.pair_model.specs.Rule.{one_or_two, over_pair, ruled_manifest, ruled_files}
use Rattle.pair_model.specs.User.{user_of_line}
use Rattle.pair_model.proofs.UserLemmas.{time-within, tz-within}
use Rattle.pair_known.specs.Ruled.{HasManifestParents}
use Rattle.file_rule.specs.Parents.{IsParentView}
use Rattle.changeset_rule.proofs.KnownParents.{manifest-parents, manifest-known}
use Rattle.changeset_rule.proofs.RowViews.{IsRightRow}
use Rattle.changeset_rule.specs.Parents.{HasFilesAt}

-- ---- lists

each-append : {X : Type 0} (P : X → Type 0) (xs ys : List X) → Each P xs → Each P ys → Each P (xs ++ ys)
each-append P [] ys a b = b
each-append P (x ∷ xs) ys a b = (a.0, each-append P xs ys a.1 b)

each-once : {X : Type 0} (P : X → Type 0) (same : X → X → Bool) (xs : List X) → Each P xs → Each P (first_of_each same xs)
each-once P same [] h = tt
each-once P same (x ∷ xs) h = (h.0, behind_filter P (λ y. not (same x y)) (first_of_each same xs) (each-once P same xs h.1))

-- ---- paths

abbrev pub IsListed : Bytes → Type 0
IsListed f = (f ≢ []) × (has_byte 10 f ≡ false) × IsBytes f

pub fit-listed : (path : Bytes) → is_fit_path path ≡ true → IsBytes path → IsListed path
unfolding is_fit_path
fit-listed path h bytes =
    let last = both _ _ h in
    let cr = both _ _ last.0 in
    let newline = both _ _ cr.0 in
    let nul = both _ _ newline.0 in
    let many = both _ _ nul.0 in
    let long = both _ _ many.0 in
    (λ e. true≢false (sym long.0 ∙ ap (λ (p : Bytes). not (length p == 0)) e), not_true (has_byte 10 path) newline.1, bytes)

pub rows-listed : (known : List Revision) (rows : List Row) → Each (IsRightRow known) rows → Each IsListed (map (λ (row : Row). row.path) rows)
rows-listed known [] h = tt
rows-listed known (row ∷ rows) h = (fit-listed row.path (h.0).fit (h.0).bytes, rows-listed known rows h.1)

pub files-listed : (ps : Parents) (rows : List Row) → Each IsListed (map (λ (row : Row). row.path) rows) → Each IsListed (map (λ (row : Row). row.path) (ps.first).rows) → Each IsListed (map (λ (row : Row). row.path) (ps.second).rows)
    → Each IsListed (ruled_files ps rows)
unfolding ruled_files
files-listed ps rows a b c =
    behind_filter IsListed _ _ (each_ordered IsListed is_below _ (each-once IsListed bytes_eq _ (each-append IsListed _ _ (each-append IsListed _ _ a b) c)))

-- ---- dates

pub date-plain : (line : Bytes) → IsPlainDate (user_of_line line).time (user_of_line line).tz []
date-plain line = record {
  time_low = low (user_of_line line).time (time-within line).0;
  time_high = (time-within line).1;
  tz_low = west (user_of_line line).tz (tz-within line);
  tz_high = east (user_of_line line).tz (tz-within line);
  items = (tt, refl);
}
  where
    low : (z : ℤ) → pos 0 ≤ℤ z → neg_ℤ (pos (2 ^ 62)) ≤ℤ z
    low (pos n) h = omega (arith, ints)
    low (negsuc n) h = absurd (omega (arith, ints, h))

    west : (z : ℤ) → unsigned_abs z ≤ 362340 → neg_ℤ (pos (2 ^ 31)) ≤ℤ z
    west (pos n) h = omega (arith, ints, h)
    west (negsuc n) h = omega (arith, ints, h)

    east : (z : ℤ) → unsigned_abs z ≤ 362340 → z ≤ℤ pos (2 ^ 31)
    east (pos n) h = omega (arith, ints, h)
    east (negsuc n) h = omega (arith, ints, h)

-- ---- a parent

pub IsId-manifest_node : (m : ManifestParents) (rows : List Row) → IsId (manifest_node m rows)
unfolding manifest_node
IsId-manifest_node NoManifest rows = IsId-null
IsId-manifest_node (Over p q) rows = IsId-node_id p q (rows_text rows)

module _ (known : List Revision) (added : AreAdded known) where
  parent-rows : (node : Id) (x : ChangesetView) → IsParentView known node x → Each (IsRightRow known) x.rows
  parent-rows node x is = by (is_null node) refl
    where
      joined : (rows : List Row) → Each (IsFileHeld known) rows → Each (λ row. IsTrue (is_fit_path row.path) × IsBytes row.path × IsRevision row.revision) rows → Each (IsRightRow known) rows
      joined [] a b = tt
      joined (row ∷ rows) a b = (record { held = a.0; fit = b.0.0; bytes = b.0.1; revision = b.0.2 }, joined rows a.1 b.1)

      by : (t : Bool) → is_null node ≡ t → Each (IsRightRow known) x.rows
      by true e = subst (λ (y : ChangesetView). Each (IsRightRow known) y.rows) (sym (is.of_null e)) tt
      by false e = let h = is.held e in joined x.rows h.files (held-is_view known added node x h).rows

  abbrev pub Facts : Id → ManifestParents → List Row → Type 0
  Facts node m rows = AreManifestParents m rows × IsId node × HasManifestParents known m × IsManifestHeld known node m rows

  parent-manifest : (node : Id) (x : ChangesetView) → IsParentView known node x → Facts (x.fields).manifest x.manifest x.rows
  parent-manifest node x is = by (is_null node) refl
    where
      none : Facts (no_changeset.fields).manifest no_changeset.manifest no_changeset.rows
      none = (refl, IsId-null, tt, (refl, refl))

      by : (t : Bool) → is_null node ≡ t → Facts (x.fields).manifest x.manifest x.rows
      by true e = subst (λ (y : ChangesetView). Facts (y.fields).manifest y.manifest y.rows) (sym (is.of_null e)) none
      by false e =
          let h = is.held e in
          let view = held-is_view known added node x h in
          (view.manifest, (view.fields).manifest, manifest-parents known added (x.fields).manifest x.manifest x.rows h.manifest, h.manifest)

  -- the same of one with its files, as a link has them of its base
  pub rows-at : (node : Id) (x : ChangesetView) → HasFilesAt known node x → Each (IsRightRow known) x.rows
  rows-at node x is = subst (Each (IsRightRow known)) (sym is.rows) (parent-rows node is.base is.view)

  pub manifest-at : (node : Id) (x : ChangesetView) → HasFilesAt known node x → Facts (x.fields).manifest x.manifest x.rows
  manifest-at node x is =
      let P : Id × ManifestParents × List Row → Type 0 = λ t. Facts t.0 t.1 t.2 in
      subst P (λ i. (sym is.manifest_node i, sym is.manifest i, sym is.rows i)) (parent-manifest node is.base is.view)

-- ---- the manifest

left-none : (xs ys : Bytes) → xs ++ ys ≡ [] → xs ≡ []
left-none [] ys e = refl
left-none (x ∷ xs) ys e = absurd cc

behind-path : (path rest : Bytes) → path ++ nul ∷ rest ≡ [] → ⊥
behind-path [] rest e = cc
behind-path (b ∷ path) rest e = cc

pub no-lines : (rows : List Row) → rows_text rows ≡ [] → rows ≡ []
no-lines [] h = refl
no-lines (row ∷ rows) h =
    let line = left-none (entry_text (entry_of_row row)) (manifest_text (map entry_of_row rows)) (sym (manifest_text-cons (entry_of_row row) (map entry_of_row rows)) ∙ h) in
    absurd (behind-path row.path (hex (file_node row.revision)) (left-none (row.path ++ nul ∷ hex (file_node row.revision)) (flag_text row.flag) (left-none _ (lf ∷ []) line)))

module _ (known : List Revision) (ps : Parents) (rows : List Row) where
  abbrev pub Right : ManifestParents → Type 0
  Right m = AreManifestParents m rows × HasManifestParents known m

  same-lines : (m : ManifestParents) → rows_text rows ≡ rows_text (ps.first).rows → AreManifestParents m (ps.first).rows → HasManifestParents known m → Right m
  same-lines NoManifest e are has = (no-lines rows (e ∙ ap rows_text are ∙ manifest_text-none), tt)
  same-lines (Over p q) e are has = (are, has)

  ordered-right : (x y : Id) → IsId x → IsId y → is_known_parent known Manifests x ≡ true → is_known_parent known Manifests y ≡ true → Right (over_pair (x, y))
  ordered-right x y i j a b =
      let ids = manifest_order-ids x y i j in
      let P : Id × Id → Type 0 = λ o. IsTrue (is_known_parent known Manifests o.0) × IsTrue (is_known_parent known Manifests o.1) in
      ((ids.0, ids.1, manifest_order-again x y), manifest_order-either P x y (a, b) (b, a))

  pub manifest-right : AreAdded known → (p q : Id) → HasFilesAt known p ps.first → HasFilesAt known q ps.second → Right (ruled_manifest ps rows)
  unfolding ruled_manifest
  manifest-right added p q a b = by (bytes_eq (rows_text rows) (rows_text (ps.first).rows)) refl
    where
      m1 : Id
      m1 = ((ps.first).fields).manifest

      m2 : Id
      m2 = ((ps.second).fields).manifest

      first-known : is_known_parent known Manifests m1 ≡ true
      first-known = manifest-known known added m1 (ps.first).manifest (ps.first).rows (manifest-at known added p ps.first a).3

      second-known : is_known_parent known Manifests m2 ≡ true
      second-known = manifest-known known added m2 (ps.second).manifest (ps.second).rows (manifest-at known added q ps.second b).3

      new : (t : Bool) → Right (over_pair (if t then (m1, null) else (m1, m2)))
      new true = ordered-right m1 null (manifest-at known added p ps.first a).1 IsId-null first-known refl
      new false = ordered-right m1 m2 (manifest-at known added p ps.first a).1 (manifest-at known added q ps.second b).1 first-known second-known

      by : (t : Bool) → bytes_eq (rows_text rows) (rows_text (ps.first).rows) ≡ t → Right (if t then (ps.first).manifest else over_pair (one_or_two m1 m2))
      by true e = same-lines (ps.first).manifest ((bytes_eq-Decides (rows_text rows) (rows_text (ps.first).rows)).0 e) (manifest-at known added p ps.first a).0 (manifest-at known added p ps.first a).2
      by false e = new (bytes_eq m1 m2)
