-- The bundle of new changesets is read behind the saved ones: it brings the new changesets in order, and then all of both are held.
use Rattle.std.proofs.Common.{◌≡◌, ◌⊎◌, ◌≤◌, true, false, List, [], ◌∷◌, ◌++◌, length, map, sym, ap, subst, ◌∙◌, arith, inl, inr, append-nil, append_assoc}
use Rattle.std.specs.Prelude.{is_some, IsTrue}
use Rattle.std.specs.List.{flat_map}
use Rattle.std.proofs.lemmas.List.{append_cancel_left}
use Rattle.text_model.specs.Lists.{Each, In}
use Rattle.text_model.specs.Text.{Bytes}
use Rattle.text_model.specs.Id.{is_null}
use Rattle.text_model.proofs.EachLemmas.{Each-rest, Each-weaker}
use Rattle.text_model.proofs.Elements.{each_from, each_in, in_left, map_append}
use Rattle.hg_model.specs.Changeset.{changeset_text}
use Rattle.hg_model.specs.Revision.{Revision, Changesets, Manifests, FilesAt, same_group, same_revision, knows, known_after_all}
use Rattle.git_model.specs.Tree.{has_distinct}
use Rattle.hg_store.specs.Known.{AreAdded}
use Rattle.view_model.specs.View.{ChangesetView, ChangesetFits, changeset_node, commit_limit}
use Rattle.view_model.specs.Held.{AreChangesetsHeld}
use Rattle.view_model.specs.Dump.{own_revision, revisions_of, revisions_in, of_group, paths_in, brought_by, hg_increment}
use Rattle.state_model.specs.Saved.{AreDumped}
use Rattle.hg_dump.specs.Written.{IsHeldIn}
use Rattle.hg_dump.proofs.HeldLemmas.{held-revisions}
use Rattle.hg_dump.proofs.OnceLemmas.{Each-new}
use Rattle.hg_dump_law.specs.Taken.{IsOneOf, KnowsOld, AreParentsEarlier, IsShortIncrement, Brings, in_bundle_order}
use Rattle.hg_dump_law.proofs.After.{views-same}
use Rattle.hg_dump_law.proofs.Whole.{increment-read, increment-known}
use Rattle.dump_law.proofs.Bases.{base-is-same}
use Rattle.dump_law.proofs.DumpOne.{own_in_order}
use Rattle.dump_law.proofs.Earlier.{dump-earlier}
use Rattle.dump_law.proofs.Elements.{of-filter}
use Rattle.dump_law.proofs.Grows.{revisions_in-append, revisions-grow, of_group-append}
use Rattle.dump_law.proofs.Order.{order-group, found_after}
use Rattle.dump_law.proofs.Saved.{saved-held, views-moved}
use Rattle.dump_law.proofs.Streams.{of_append, of_flat}
use Rattle.next_law.proofs.Added.{views-added}
use Rattle.next_law.proofs.Alike.{IsLike, all-like}
use Rattle.right_law.proofs.Closed.{own_nodes}
use Rattle.bundle_size_law.proofs.Shorter.{shorter}

-- ---- lists of revisions

-- a bundle orders what it brings
of-order : (rs : List Revision) (r : Revision) → In r (in_bundle_order rs) → In r rs
unfolding in_bundle_order
of-order rs r i = by (of_append r (of_group Changesets rs) _ i)
  where
    by : In r (of_group Changesets rs) ⊎ In r (of_group Manifests rs ++ flat_map (λ path. of_group (FilesAt path) rs) (paths_in rs)) → In r rs
    by (inl j) = of-filter (λ x. same_group Changesets x.group) r rs j
    by (inr j) = elim (of_append r (of_group Manifests rs) (flat_map (λ path. of_group (FilesAt path) rs) (paths_in rs)) j) [
      | inl x ↦ of-filter (λ x. same_group Manifests x.group) r rs x
      | inr x ↦ let f = of_flat (λ path. of_group (FilesAt path) rs) r (paths_in rs) x in of-filter (λ x. same_group (FilesAt f.0) x.group) r rs f.2
    ]

-- each of those that a bundle brings belongs to one of its changesets
pub brought-among : (old new : List ChangesetView) (r : Revision) → In r (in_bundle_order (brought_by old new)) → In r (revisions_in new)
unfolding brought_by
brought-among old new r i =
    let rs = revisions_in new in
    each_in (λ x. In x rs) (brought_by old new) r (Each-new (λ x. In x rs) same_revision (revisions_in old) rs (each_from (λ x. In x rs) rs (λ x j. j))) (of-order (brought_by old new) r i)

earlier-rest : (before : List Revision) (xs ys : List ChangesetView) → AreParentsEarlier before (xs ++ ys) → AreParentsEarlier (before ++ revisions_in xs) ys
earlier-rest before [] ys h = subst (λ (l : List Revision). AreParentsEarlier l ys) (sym (append-nil before)) h
earlier-rest before (x ∷ xs) ys h =
    subst (λ (l : List Revision). AreParentsEarlier l ys) (append_assoc before (revisions_of x) (revisions_in xs)) (earlier-rest (before ++ revisions_of x) xs ys h.1)

-- ---- two lists of changesets that have a dump

-- what the reader knows is of the old changesets, and all of these are known
pub record IsOfOld (base : List Revision) (old : List ChangesetView) : Type 0 where
  pub among : Each (λ r. In r (revisions_in old)) base
  pub like : Each (IsLike base) (revisions_in old)

module _ (base : List Revision) (old new : List ChangesetView) (dumped : AreDumped (old ++ new)) (fits : Each ChangesetFits (old ++ new)) (some : Each (λ r. is_null r.node ≡ false) (revisions_in (old ++ new)))
    (is : IsOfOld base old) where
  abbrev hs : List ChangesetView
  hs = old ++ new

  abbrev known : List Revision
  known = known_after_all [] (revisions_in hs)

  earlier : AreParentsEarlier [] hs
  earlier = dump-earlier hs dumped

  added : AreAdded known
  added = views-added hs dumped.views fits some dumped.one earlier

  held : AreChangesetsHeld known (map changeset_node hs) hs
  held = views-moved (revisions_in hs) known (λ group node. sym (found_after (revisions_in hs) group node)) (map changeset_node hs) hs (saved-held hs dumped.views dumped.one)

  new-held : Each (λ r. IsHeldIn known r.group r) (revisions_in new)
  new-held =
      let P = λ (r : Revision). IsHeldIn known r.group r in
      Each-rest P (revisions_in old) (revisions_in new) (subst (Each P) (revisions_in-append old new) (held-revisions known added (map changeset_node hs) hs held))

  parents : AreParentsEarlier (revisions_in old) new
  parents = earlier-rest [] old new earlier

  knows-old : KnowsOld known base old
  knows-old = record {
    has_old = Each-weaker (IsLike base) (λ r. knows base r.group r.node ≡ true) (λ r l. ap is_some l.is_held) (revisions_in old) is.like;
    of_store = each_from (IsOneOf known) base (λ r i.
        let l = each_in (IsLike known) (revisions_in hs) r (all-like known hs held)
        (subst (λ (rs : List Revision). In r rs) (sym (revisions_in-append old new)) (in_left r (revisions_in old) (revisions_in new) (each_in (λ x. In x (revisions_in old)) base r is.among i))) in
        record { revision = l.revision; is_held = l.is_held; text = l.text; parents = l.parents });
  }

  short : IsShortIncrement known old new
  short = record {
    changesets = Each-weaker ChangesetFits (λ h. length (changeset_text h.fields) ≤ commit_limit) (λ h f. f.text) new (Each-rest ChangesetFits old new fits);
    bundle = omega (arith, ap (λ (bytes : Bytes). length bytes) (base-is-same known old new held parents), shorter (revisions_in hs) old new, dumped.short);
  }

  pub reads : Brings base (hg_increment (revisions_in hs) old new) (in_bundle_order (brought_by old new))
  reads =
      subst (λ (bytes : Bytes). Brings base bytes (in_bundle_order (brought_by old new))) (base-is-same known old new held parents)
      (increment-read known base added old new new-held knows-old parents short)

  -- all changesets are held then
  pub held-then : AreChangesetsHeld (known_after_all base (in_bundle_order (brought_by old new))) (map changeset_node hs) hs
  held-then =
      let after = known_after_all base (in_bundle_order (brought_by old new)) in
      let all = increment-known known base added old new new-held knows-old parents short in
      views-same known after added all.of_store (map changeset_node hs) hs all.has_old held

  -- the new changesets stand in their order
  pub nodes : IsTrue (has_distinct (map changeset_node old)) → map (λ (r : Revision). r.node) (of_group Changesets (in_bundle_order (brought_by old new))) ≡ map changeset_node new
  nodes distinct =
      let front : of_group Changesets (brought_by [] old) ≡ map own_revision old = own_in_order old distinct in
      let all : of_group Changesets (brought_by [] old) ++ of_group Changesets (brought_by old new) ≡ map own_revision (old ++ new) =
      sym (of_group-append Changesets (brought_by [] old) (brought_by old new)) ∙ ap (of_group Changesets) (sym (revisions-grow [] old new)) ∙ own_in_order hs dumped.distinct in
      let rest : of_group Changesets (brought_by old new) ≡ map own_revision new =
      append_cancel_left (map own_revision old) (of_group Changesets (brought_by old new)) (map own_revision new)
      (ap (λ l. l ++ of_group Changesets (brought_by old new)) (sym front) ∙ all ∙ map_append own_revision old new) in
      ap (map (λ (r : Revision). r.node)) (order-group (brought_by old new) Changesets ∙ rest) ∙ own_nodes new
