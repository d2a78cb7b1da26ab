-- The known revisions are those of the blocks, and stay so with one block more.
use Rattle.std.proofs.Common.{◌≡◌, true, false, ◌||◌, List, [], ◌∷◌, ◌++◌, map, refl, sym, ap, subst, ◌∙◌, append-nil, inl, inr}
use Rattle.std.specs.Prelude.{bytes_eq, IsTrue}
use Rattle.std.specs.List.{list_any}
use Rattle.std.proofs.lemmas.Slice.Eq.{bytes_eq-Decides}
use Rattle.text_model.specs.Lists.{In, Each}
use Rattle.text_model.specs.Id.{Id, is_null}
use Rattle.text_model.proofs.EachLemmas.{Each-append, Each-weaker}
use Rattle.text_model.proofs.Elements.{each_from, each_in, in_left, in_right, in_map, none_in, flat_map_append, map_append}
use Rattle.text_model.proofs.TestLemmas.{both}
use Rattle.text_model.proofs.Options.{or_parts}
use Rattle.hg_model.specs.Revision.{Revision, Changesets, Group, Manifests, FilesAt, same_group, is_of, known_after_all, is_otherwise}
use Rattle.view_model.specs.View.{ChangesetView, IsChangesetView, Row, ManifestParents, NoManifest, Over, changeset_node}
use Rattle.view_model.specs.Held.{IsChangesetHeld}
use Rattle.view_model.specs.Dump.{manifest_revision, file_revision, revisions_of, revisions_in}
use Rattle.hg_view.proofs.One.{one_held}
use Rattle.hg_view.proofs.Grown.{more-all, view-more}
use Rattle.pair_model.specs.Block.{Block, changesets_in}
use Rattle.partner_model.specs.Partner.{IsHeldView}
use Rattle.partner_model.specs.Clash.{changeset_side_collides, is_any_saved}
use Rattle.history_model.specs.Pull.{is_changesets}
use Rattle.saved_model.specs.History.{IsOfBlocks}
use Rattle.pull_law.proofs.Known.{after-all, no-null}
use Rattle.history_law.specs.Sound.{IsFromBlocks, AreOfBlocks}
use Rattle.history_law.proofs.Held.{IsLike, is-like, come-held, find-in}

-- the changesets of a block
abbrev pub changesets_of : Block → List ChangesetView
changesets_of b = b.links ++ b.changeset ∷ []

pub changesets-push : (blocks : List Block) (b : Block) → changesets_in (blocks ++ b ∷ []) ≡ changesets_in blocks ++ changesets_of b
changesets-push blocks b = flat_map_append changesets_of blocks (b ∷ []) ∙ ap (λ (l : List ChangesetView). changesets_in blocks ++ l) (append-nil (changesets_of b))

-- ---- the changesets among revisions

-- each changeset among the revisions of changesets has the node of one of them
files-from : (nodes : List Id) (link : Id) (rows : List Row) → Each (λ r. IsTrue (is_changesets r.group) → In r.node nodes) (map (file_revision link) rows)
files-from nodes link [] = tt
files-from nodes link (row ∷ rows) = ((λ h. absurd cc), files-from nodes link rows)

manifest-from : (nodes : List Id) (h : ChangesetView) (m : ManifestParents) → Each (λ r. IsTrue (is_changesets r.group) → In r.node nodes) (manifest_revision h m)
manifest-from nodes h NoManifest = tt
manifest-from nodes h (Over p q) = ((λ h. absurd cc), tt)

one-from : (nodes : List Id) (h : ChangesetView) → In (changeset_node h) nodes → Each (λ r. IsTrue (is_changesets r.group) → In r.node nodes) (revisions_of h)
unfolding revisions_of
one-from nodes h i = (
  (λ e. i),
  Each-append (λ r. IsTrue (is_changesets r.group) → In r.node nodes) (manifest_revision h h.manifest) (map (file_revision (changeset_node h)) h.rows)
      (manifest-from nodes h h.manifest) (files-from nodes (changeset_node h) h.rows),
)

pub all-from : (nodes : List Id) (hs : List ChangesetView) → ((h : ChangesetView) → In h hs → In (changeset_node h) nodes)
    → Each (λ r. IsTrue (is_changesets r.group) → In r.node nodes) (revisions_in hs)
all-from nodes [] in' = tt
all-from nodes (h ∷ hs) in' =
    Each-append (λ r. IsTrue (is_changesets r.group) → In r.node nodes) (revisions_of h) (revisions_in hs)
    (one-from nodes h (in' h (inl refl))) (all-from nodes hs (λ k i. in' k (inr i)))

-- ---- one block more

module _ (known : List Revision) (blocks : List Block) (b : Block) (apart : changeset_side_collides known blocks b ≡ false) where
  abbrev brought : List Revision
  brought = revisions_in (changesets_of b)

  clear : (r : Revision) → In r brought → (is_null r.node ≡ false) × (list_any (is_otherwise r) (known ++ brought) ≡ false)
  clear r i =
      let test = λ (r : Revision). is_null r.node || list_any (is_otherwise r) (known ++ brought) in
      or_parts (is_null r.node) (list_any (is_otherwise r) (known ++ brought))
      (none_in test brought r (or_parts (list_any test brought) (is_any_saved blocks (changesets_of b)) apart).0 i)

  of-one : (h : ChangesetView) (hs : List ChangesetView) → In h hs → (r : Revision) → In r (revisions_of h) → In r (revisions_in hs)
  of-one h [] i r j = absurd i
  of-one h (k ∷ hs) (inl e) r j = in_left r (revisions_of k) (revisions_in hs) (subst (λ (v : ChangesetView). In r (revisions_of v)) e j)
  of-one h (k ∷ hs) (inr i) r j = in_right r (revisions_of k) (revisions_in hs) (of-one h hs i r j)

  pub block-more : AreOfBlocks known blocks → Each IsChangesetView (changesets_of b) → AreOfBlocks (known_after_all known brought) (blocks ++ b ∷ [])
  block-more are views =
      let next = known_after_all known brought in
      let old = changesets_in blocks in
      let nodes = map changeset_node (old ++ changesets_of b) in
      let more = Each-weaker (IsHeldView known) (IsHeldView next) (λ h x. view-more known next (more-all known brought) (changeset_node h) h x) old are.held in
      let new = each_from (IsHeldView next) (changesets_of b) (λ h i. come-held next h (each_in IsChangesetView (changesets_of b) h views i)
      (each_from (IsLike next) (revisions_of h) (λ r j. let k = of-one h (changesets_of b) i r j in is-like known brought r k (clear r k).1))) in
      let before = Each-weaker (IsFromBlocks blocks) (λ r. IsTrue (is_changesets r.group) → In r.node nodes)
      (λ r x e. subst (λ (l : List Id). In r.node l) (sym (map_append changeset_node old (changesets_of b)))
      (in_left r.node (map changeset_node old) (map changeset_node (changesets_of b)) (x e))) known are.only in
      let behind = all-from nodes (changesets_of b) (λ h i. in_map changeset_node h (old ++ changesets_of b) (in_right h old (changesets_of b) i)) in
      let all = after-all (λ r. IsTrue (is_changesets r.group) → In r.node nodes) known brought before behind in
      record {
        some = after-all (λ r. is_null r.node ≡ false) known brought are.some (each_from (λ r. is_null r.node ≡ false) brought (λ r i. (clear r i).0));
        held = subst (Each (IsHeldView next)) (sym (changesets-push blocks b)) (Each-append (IsHeldView next) old (changesets_of b) more new);
        only = subst (λ (l : List ChangesetView). Each (λ r. IsTrue (is_changesets r.group) → In r.node (map changeset_node l)) next) (sym (changesets-push blocks b)) all;
      }

-- ---- the views that are known

module _ (known : List Revision) (blocks : List Block) (are : AreOfBlocks known blocks) where
  -- the changeset of a node
  of-node : (node : Id) (hs : List ChangesetView) → In node (map changeset_node hs) → (h : ChangesetView) × In h hs × (node ≡ changeset_node h)
  of-node node [] i = absurd i
  of-node node (h ∷ hs) (inl e) = (h, inl refl, e)
  of-node node (h ∷ hs) (inr i) = let x = of-node node hs i in (x.0, inr x.1, x.2)

  pub to-blocks : (v : ChangesetView) → IsHeldView known v → IsOfBlocks blocks v
  to-blocks v held =
      let r = held.revision in
      let at = find-in (is_of Changesets (changeset_node v)) known r held.is_held in
      let of = both (same_group Changesets r.group) (bytes_eq (changeset_node v) r.node) at.1 in
      let h = of-node r.node (changesets_in blocks) (each_in (IsFromBlocks blocks) known r are.only at.0 (is-changesets r.group of.0)) in
      let node : changeset_node v ≡ changeset_node h.0 = (bytes_eq-Decides (changeset_node v) r.node).0 of.1 ∙ h.2 in
      let one : v ≡ h.0 = one_held known (no-null known are.some) (changeset_node v) v h.0 held
      (subst (λ (n : Id). IsChangesetHeld known n h.0) (sym node) (each_in (IsHeldView known) (changesets_in blocks) h.0 are.held h.1)) in
      subst (IsOfBlocks blocks) (sym one) h.1
    where
      is-changesets : (g : Group) → same_group Changesets g ≡ true → IsTrue (is_changesets g)
      is-changesets Changesets e = refl
      is-changesets Manifests e = absurd cc
      is-changesets (FilesAt path) e = absurd cc

  pub from-blocks : (v : ChangesetView) → IsOfBlocks blocks v → IsHeldView known v
  from-blocks v i = each_in (IsHeldView known) (changesets_in blocks) v are.held i
