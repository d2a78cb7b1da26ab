-- What is known of the changesets of a saved history: each of them, one for a node, and nothing under the null id.
use Rattle.std.proofs.Common.{◌≡◌, ◌≢◌, Bool, true, false, true≢false, List, [], ◌∷◌, ◌++◌, map, None, refl, sym, ap, subst, ◌∙◌}
use Rattle.std.specs.Prelude.{is_some}
use Rattle.std.specs.List.{list_any}
use Rattle.text_model.specs.Lists.{Each, In}
use Rattle.text_model.specs.Id.{Id, null, is_null}
use Rattle.text_model.proofs.EachLemmas.{Each-front}
use Rattle.text_model.proofs.Elements.{each_from, in_left, none_in, none_all, flat_map_append}
use Rattle.text_model.proofs.Options.{none_some}
use Rattle.text_model.proofs.TestLemmas.{bytes_eq-is}
use Rattle.hg_model.specs.Revision.{Revision, Group, Changesets, Manifests, revision_of, knows, known_after_all, is_otherwise}
use Rattle.view_model.specs.View.{ChangesetView, IsChangesetView, changeset_node}
use Rattle.view_model.specs.Dump.{revisions_of, revisions_in, brought_by}
use Rattle.pair_model.specs.Block.{Block, changesets_in}
use Rattle.pair_model.specs.Octopus.{is_link_view}
use Rattle.partner_model.specs.Partner.{IsHeldView}
use Rattle.state_model.specs.Kept.{Kept}
use Rattle.state_model.specs.Saved.{AreBlocks, has_otherwise}
use Rattle.saved_model.specs.Step.{known_of}
use Rattle.pull_law.proofs.Known.{AreSome, own-some}
use Rattle.pull_law.proofs.Members.{apart}
use Rattle.dump_law.proofs.Dumped.{find_none}
use Rattle.dump_law.proofs.Order.{found_after, found_dump}
use Rattle.dump_law.proofs.Saved.{saved-held, views-moved}
use Rattle.next_law.proofs.Known.{IsSaved, in-order, own-known, sound-known}
use Rattle.next_law.proofs.Knows.{in-knows}
use Rattle.frame_law.specs.Ground.{IsGround}
use Rattle.frame_law.proofs.Fronts.{each_held, changesets_front, ground_front}

-- what is found among these revisions is what is found among those to which the changesets refer
abbrev pub IsReferred : List ChangesetView → List Revision → Type 0
IsReferred hs known = (group : Group) (node : Id) → revision_of known group node ≡ revision_of (revisions_in hs) group node

module _ (hs : List ChangesetView) (known : List Revision) (same : IsReferred hs known) (some : AreSome (revisions_in hs)) where
  none-null : (group : Group) → revision_of known group null ≡ None
  none-null group = same group null ∙ find_none group (revisions_in hs) some

  pub real : (v : ChangesetView) → IsHeldView known v → changeset_node v ≢ null
  real v held e = none_some (sym (none-null Changesets) ∙ ap (revision_of known Changesets) (sym e) ∙ held.is_held)

  pub all-held : Each IsChangesetView hs → has_otherwise (revisions_in hs) ≡ false → Each (IsHeldView known) hs
  all-held views one = each_held known hs (views-moved (revisions_in hs) known (λ group node. sym (same group node)) (map changeset_node hs) hs (saved-held hs views one))

-- a history of some changesets is one of those that are known here
ground-over : (blocks : List Block) (known : List Revision) (K : ChangesetView → Type 0) → IsReferred (changesets_in blocks) known → AreSome (revisions_in (changesets_in blocks))
    → Each IsChangesetView (changesets_in blocks) → has_otherwise (revisions_in (changesets_in blocks)) ≡ false → IsGround blocks K → IsGround blocks (IsHeldView known)
ground-over blocks known K same some views one g =
    let hs = changesets_in blocks in
    record {
      nodes = g.nodes;
      ids = g.ids;
      rows = g.rows;
      known = all-held hs known same some views one;
      no_links = g.no_links;
      apart = apart known (none-null hs known same some Manifests);
      real = real hs known same some;
    }

-- ---- the first changesets

revisions-front : (xs ys : List ChangesetView) → revisions_in (xs ++ ys) ≡ revisions_in xs ++ revisions_in ys
revisions-front xs ys = flat_map_append revisions_of xs ys

one-front : (xs ys : List Revision) → has_otherwise (xs ++ ys) ≡ false → has_otherwise xs ≡ false
one-front xs ys one =
    none_all (λ r. list_any (is_otherwise r) xs) xs (λ r i. none_all (is_otherwise r) xs (λ x j.
    none_in (is_otherwise r) (xs ++ ys) x (none_in (λ x. list_any (is_otherwise x) (xs ++ ys)) (xs ++ ys) r one (in_left r xs ys i)) (in_left x xs ys j)))

-- ---- a saved history

module _ (k : Kept) (saved : IsSaved k) where
  abbrev changesets : List ChangesetView
  changesets = changesets_in k.blocks

  pub referred : IsReferred changesets (known_of k).revisions
  referred group node = ap (λ (rs : List Revision). revision_of (known_after_all [] rs) group node) (in-order (brought_by [] changesets)) ∙ found_dump changesets group node

  -- no revision to which its changesets refer is null
  pub some-referred : AreSome (revisions_in changesets)
  some-referred = each_from (λ r. is_null r.node ≡ false) (revisions_in changesets) (λ r i. by r i (is_null r.node) refl)
    where
      none : (group : Group) → knows (revisions_in changesets) group null ≡ false
      none group = ap is_some (sym (referred group null) ∙ find_none group (known_of k).revisions (own-some (known_of k).revisions (own-known k saved)))

      by : (r : Revision) → In r (revisions_in changesets) → (t : Bool) → is_null r.node ≡ t → is_null r.node ≡ false
      by r i false e = e
      by r i true e = absurd (true≢false (sym (in-knows r (revisions_in changesets) i) ∙ ap (knows (revisions_in changesets) r.group) (bytes_eq-is r.node null e) ∙ none r.group))

  no-link : (blocks : List Block) → AreBlocks blocks → Each (λ b. is_link_view b.changeset ≡ false) blocks
  no-link [] are = tt
  no-link (b ∷ blocks) are = (are.0.1, no-link blocks are.1)

  pub ground : IsGround k.blocks (IsHeldView (known_of k).revisions)
  ground =
      let known = (known_of k).revisions in
      let table = (sound-known k saved).blocks in
      record {
        nodes = (saved.dumped).distinct;
        ids = table.ids;
        rows = table.rows;
        known = all-held changesets known referred some-referred (saved.dumped).views (saved.dumped).one;
        no_links = no-link k.blocks saved.blocks;
        apart = apart known (none-null changesets known referred some-referred Manifests);
        real = real changesets known referred some-referred;
      }

  -- the first blocks are a history of what they refer to
  pub ground-of : (before after : List Block) → k.blocks ≡ before ++ after → IsGround before (IsHeldView (known_after_all [] (revisions_in (changesets_in before))))
  ground-of before after split =
      let hs = changesets_in before in
      let more = changesets_in after in
      let all : changesets ≡ hs ++ more = ap changesets_in split ∙ changesets_front before after in
      let parts : revisions_in changesets ≡ revisions_in hs ++ revisions_in more = ap revisions_in all ∙ revisions-front hs more in
      ground-over before (known_after_all [] (revisions_in hs)) (IsHeldView (known_of k).revisions) (found_after (revisions_in hs))
      (Each-front (λ r. is_null r.node ≡ false) (revisions_in hs) (revisions_in more) (subst AreSome parts some-referred))
      (Each-front IsChangesetView hs more (subst (Each IsChangesetView) all (saved.dumped).views))
      (one-front (revisions_in hs) (revisions_in more) (ap has_otherwise (sym parts) ∙ (saved.dumped).one))
      (ground_front before after (IsHeldView (known_of k).revisions) (subst (λ (bs : List Block). IsGround bs (IsHeldView (known_of k).revisions)) split ground))
