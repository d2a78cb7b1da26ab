-- A dump is that of one list of changesets.
use Rattle.std.proofs.Common.{◌≡◌, ◌||◌, Bool, true, false, true≢false, not, List, [], ◌∷◌, ◌++◌, map, refl, sym, ap, subst, ◌∙◌, arith}
use Rattle.std.specs.Prelude.{bytes_eq, filter}
use Rattle.std.specs.List.{list_any}
use Rattle.text_model.specs.Lists.{first_of_each}
use Rattle.text_model.specs.Id.{Id}
use Rattle.text_model.proofs.TestLemmas.{both}
use Rattle.hg_model.specs.Revision.{Group, Changesets, Revision, same_group, same_revision}
use Rattle.hg_model.proofs.RevisionLemmas.{same_group-is}
use Rattle.git_model.specs.Tree.{has_distinct}
use Rattle.view_model.specs.View.{ChangesetView, Row, ManifestParents, NoManifest, Over, changeset_node}
use Rattle.view_model.specs.Held.{AreChangesetsHeld}
use Rattle.view_model.specs.Dump.{own_revision, manifest_revision, file_revision, revisions_of, revisions_in, brought_by, of_group}
use Rattle.state_model.specs.Kept.{hg_dump}
use Rattle.state_model.specs.Saved.{AreDumped}
use Rattle.hg_dump_law.specs.Taken.{in_bundle_order}
use Rattle.dump_law.proofs.News.{only_new-nothing, filter_first}
use Rattle.dump_law.proofs.Grows.{same_revision_turned, of_group-append}
use Rattle.dump_law.proofs.Brought.{dump_groups, same_known}
use Rattle.dump_law.proofs.Saved.{saved-held, views-moved, one_list}
use Rattle.dump_law.proofs.Dumped.{no_null}
use Rattle.dump_law.proofs.Order.{order-group}

-- ---- the changesets of a dump, in order

same_kind : (group : Group) (x y : Revision) → same_revision x y ≡ true → same_group group y.group ≡ same_group group x.group
same_kind group x y e = ap (same_group group) (sym (same_group-is x.group y.group (both (same_group x.group y.group) (bytes_eq x.node y.node) e).0))

no_files : (link : Id) (rows : List Row) → of_group Changesets (map (file_revision link) rows) ≡ []
no_files link [] = refl
no_files link (row ∷ rows) = no_files link rows

no_manifest : (h : ChangesetView) (m : ManifestParents) → of_group Changesets (manifest_revision h m) ≡ []
no_manifest h NoManifest = refl
no_manifest h (Over p q) = refl

own_alone : (hs : List ChangesetView) → of_group Changesets (revisions_in hs) ≡ map own_revision hs
unfolding revisions_of
own_alone [] = refl
own_alone (h ∷ hs) =
    let rest = manifest_revision h h.manifest ++ map (file_revision (changeset_node h)) h.rows in
    let none : of_group Changesets rest ≡ [] =
    of_group-append Changesets (manifest_revision h h.manifest) (map (file_revision (changeset_node h)) h.rows) ∙ (λ i. no_manifest h h.manifest i ++ no_files (changeset_node h) h.rows i) in
    ap (λ (l : List Revision). own_revision h ∷ l) (of_group-append Changesets rest (revisions_in hs) ∙ (λ i. none i ++ own_alone hs i))

own_once : (hs : List ChangesetView) → has_distinct (map changeset_node hs) ≡ true → first_of_each same_revision (map own_revision hs) ≡ map own_revision hs
own_once [] h = refl
own_once (x ∷ hs) h =
    let d = both (not (list_any (bytes_eq (changeset_node x)) (map changeset_node hs))) (has_distinct (map changeset_node hs)) h in
    ap (λ (l : List Revision). own_revision x ∷ l) (ap (filter (λ y. not (same_revision (own_revision x) y))) (own_once hs d.1) ∙ others hs d.0)
  where
    others : (ks : List ChangesetView) → not (list_any (bytes_eq (changeset_node x)) (map changeset_node ks)) ≡ true → filter (λ y. not (same_revision (own_revision x) y)) (map own_revision ks) ≡ map own_revision ks
    others [] n = refl
    others (k ∷ ks) n = by (bytes_eq (changeset_node x) (changeset_node k)) refl (others ks)
      where
        by : (t : Bool) → bytes_eq (changeset_node x) (changeset_node k) ≡ t
            → (not (list_any (bytes_eq (changeset_node x)) (map changeset_node ks)) ≡ true → filter (λ y. not (same_revision (own_revision x) y)) (map own_revision ks) ≡ map own_revision ks)
            → filter (λ y. not (same_revision (own_revision x) y)) (map own_revision (k ∷ ks)) ≡ map own_revision (k ∷ ks)
        by true e go = absurd (true≢false (sym n ∙ ap (λ (b : Bool). not (b || list_any (bytes_eq (changeset_node x)) (map changeset_node ks))) e))
        by false e go = rw e (ap (λ (l : List Revision). own_revision k ∷ l) (go (sym (ap (λ (b : Bool). not (b || list_any (bytes_eq (changeset_node x)) (map changeset_node ks))) e) ∙ n)))

pub own_in_order : (hs : List ChangesetView) → has_distinct (map changeset_node hs) ≡ true → of_group Changesets (brought_by [] hs) ≡ map own_revision hs
unfolding brought_by
own_in_order hs d =
    ap (of_group Changesets) (only_new-nothing same_revision same_revision_turned (revisions_in hs))
    ∙ filter_first (λ r. same_group Changesets r.group) same_revision (revisions_in hs) (λ x y i j. same_kind Changesets x y)
    ∙ ap (first_of_each same_revision) (own_alone hs)
    ∙ own_once hs d

nodes_of : (hs : List ChangesetView) → map (λ (r : Revision). r.node) (map own_revision hs) ≡ map changeset_node hs
nodes_of [] = refl
nodes_of (h ∷ hs) = ap (λ l. changeset_node h ∷ l) (nodes_of hs)

-- the nodes of the changesets that a dump brings, in order
pub dump-nodes : (hs : List ChangesetView) → AreDumped hs → map (λ (r : Revision). r.node) (of_group Changesets (in_bundle_order (brought_by [] hs))) ≡ map changeset_node hs
dump-nodes hs s = ap (map (λ (r : Revision). r.node)) (order-group (brought_by [] hs) Changesets ∙ own_in_order hs s.distinct) ∙ nodes_of hs

-- ---- the whole

pub one_dump : (hs ks : List ChangesetView) → AreDumped hs → AreDumped ks → hg_dump hs ≡ hg_dump ks → hs ≡ ks
one_dump hs ks s t e =
    let groups = dump_groups hs ks s.views t.views (omega (arith, s.short)) e in
    let nodes : map changeset_node hs ≡ map changeset_node ks =
    sym (nodes_of hs) ∙ ap (map (λ (r : Revision). r.node)) (sym (own_in_order hs s.distinct) ∙ groups Changesets ∙ own_in_order ks t.distinct) ∙ nodes_of ks in
    let known = same_known ks hs (λ g. sym (groups g)) in
    one_list (revisions_in hs) (no_null hs s) (map changeset_node hs) hs ks
    (saved-held hs s.views s.one)
    (subst (λ (l : List Id). AreChangesetsHeld (revisions_in hs) l ks) (sym nodes) (views-moved (revisions_in ks) (revisions_in hs) known (map changeset_node ks) ks (saved-held ks t.views t.one)))
