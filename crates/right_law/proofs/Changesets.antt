-- The changesets of a right history, in order, bring its blocks.
use Rattle.std.proofs.Common.{◌≡◌, ◌≢◌, ◌⊎◌, true, false, List, [], ◌∷◌, ◌++◌, map, None, refl, sym, ap, subst, ◌∙◌, inl, inr, append-nil}
use Rattle.std.specs.Prelude.{not, is_some, IsTrue, bytes_eq}
use Rattle.std.specs.List.{flat_map, list_any}
use Rattle.std.proofs.lemmas.Bool.{true≢false}
use Rattle.text_model.specs.Lists.{Each, In}
use Rattle.text_model.specs.Text.{Bytes}
use Rattle.text_model.proofs.Elements.{each_from, each_in, in_left, in_right, in_map, in_any, none_in, none_all, map_append, flat_map_append}
use Rattle.text_model.proofs.Options.{some_is, not_true}
use Rattle.text_model.proofs.TestLemmas.{both, bytes_eq-self}
use Rattle.hg_model.specs.Changeset.{IsChangesetText}
use Rattle.hg_model.specs.Revision.{Revision}
use Rattle.hg_model.proofs.ChangesetLemmas.{one_changeset}
use Rattle.git_model.specs.Object.{Object, is_other_content}
use Rattle.git_model.specs.Tree.{has_distinct}
use Rattle.view_model.specs.View.{ChangesetView, changeset_node, commit_id, commit_objects}
use Rattle.view_model.specs.Dump.{own_revision, objects_in}
use Rattle.pair_model.specs.Block.{Block, node_of, id_of, block_of_id, view_at, changesets_in, commits_in}
use Rattle.pair_model.specs.Octopus.{is_link, is_link_view}
use Rattle.pair_model.specs.Collision.{commit_collides}
use Rattle.partner_model.specs.Clash.{is_any_saved, commit_side_collides}
use Rattle.partner_model.specs.Partner.{IsHeldView}
use Rattle.history_model.specs.Pull.{BringBlocks, GivesBlock, IsKnownLink, is_saved}
use Rattle.state_model.specs.Saved.{AreBlocks, has_other_content}
use Rattle.verify_model.specs.Holds.{HasPartner, Holds}
use Rattle.dump_law.proofs.Streams.{of_append}
use Rattle.frame_law.specs.Ground.{IsGround}
use Rattle.frame_law.proofs.Lists.{finds_none}
use Rattle.frame_law.proofs.Frame.{block_in}
use Rattle.frame_law.proofs.Fronts.{changesets_front}
use Rattle.right_law.specs.Views.{AreViews}
use Rattle.right_law.proofs.Order.{behind, split_in, link_in, links_known, front_ground, own_at}
use Rattle.right_law.proofs.Judged.{AreHere, partner_less}

-- an element of the first part and one of the second have different values
pub distinct_apart : {X : Type 0} (f : X → Bytes) (xs ys : List X) → IsTrue (has_distinct (map f (xs ++ ys))) → (a b : X) → In a xs → In b ys → f a ≢ f b
distinct_apart f [] ys d a b i j e = absurd i
distinct_apart f (x ∷ xs) ys d a b (inl i) j e =
    let parts = both (not (list_any (bytes_eq (f x)) (map f (xs ++ ys)))) (has_distinct (map f (xs ++ ys))) d in
    let same : bytes_eq (f x) (f b) ≡ true = ap (bytes_eq (f x)) (sym (ap f (sym i) ∙ e)) ∙ bytes_eq-self (f x) in
    true≢false (sym (in_any (bytes_eq (f x)) (map f (xs ++ ys)) (f b) (in_map f b (xs ++ ys) (in_right b xs ys j)) same) ∙ not_true (list_any (bytes_eq (f x)) (map f (xs ++ ys))) parts.0)
distinct_apart f (x ∷ xs) ys d a b (inr i) j e =
    distinct_apart f xs ys (both (not (list_any (bytes_eq (f x)) (map f (xs ++ ys)))) (has_distinct (map f (xs ++ ys))) d).1 a b i j e

-- ---- the objects of the commits

pub objects_front : (front more : List Block) → objects_in (commits_in (front ++ more)) ≡ objects_in (commits_in front) ++ objects_in (commits_in more)
objects_front front more = ap (flat_map commit_objects) (map_append (λ (b : Block). b.commit) front more) ∙ flat_map_append commit_objects (commits_in front) (commits_in more)

pub objects_push : (front : List Block) (b : Block) → objects_in (commits_in (front ++ b ∷ [])) ≡ objects_in (commits_in front) ++ commit_objects b.commit
objects_push front b = objects_front front (b ∷ []) ∙ ap (λ (l : List Object). objects_in (commits_in front) ++ l) (append-nil (commit_objects b.commit))

pub objects_of_block : (blocks : List Block) (b : Block) → In b blocks → (o : Object) → In o (commit_objects b.commit) → In o (objects_in (commits_in blocks))
objects_of_block [] b i o j = absurd i
objects_of_block (x ∷ xs) b (inl e) o j = in_left o (commit_objects x.commit) (objects_in (commits_in xs)) (subst (λ (z : Block). In o (commit_objects z.commit)) e j)
objects_of_block (x ∷ xs) b (inr i) o j = in_right o (commit_objects x.commit) (objects_in (commits_in xs)) (objects_of_block xs b i o j)

pub objects_before : (blocks before after : List Block) → blocks ≡ before ++ after → AreHere (objects_in (commits_in before)) (objects_in (commits_in blocks))
objects_before blocks before after e o i =
    subst (λ (x : List Block). In o (objects_in (commits_in x))) (sym e) (subst (In o) (sym (objects_front before after)) (in_left o (objects_in (commits_in before)) (objects_in (commits_in after)) i))

-- ---- no changeset of a block stands before it

module _ (blocks before after : List Block) (b : Block) (e : blocks ≡ before ++ b ∷ after) (d : IsTrue (has_distinct (map changeset_node (changesets_in blocks)))) where
  pub nodes_apart : (x v : ChangesetView) → In x (changesets_in before) → In v (b.links ++ b.changeset ∷ []) → changeset_node x ≢ changeset_node v
  nodes_apart x v i j =
      let whole = subst (λ (z : List ChangesetView). IsTrue (has_distinct (map changeset_node z))) (ap changesets_in e ∙ changesets_front before (b ∷ after)) d in
      distinct_apart changeset_node (changesets_in before) (changesets_in (b ∷ after)) whole x v i (in_left v (b.links ++ b.changeset ∷ []) (changesets_in after) j)

-- ---- a block behind others collides with nothing

module _ (all : List Object) (blocks before after : List Block) (b : Block) (e : blocks ≡ before ++ b ∷ after) (one : has_other_content all ≡ false) (here : AreHere (objects_in (commits_in blocks)) all) where
  own_here : AreHere (commit_objects b.commit) all
  own_here o i = here o (objects_of_block blocks b (split_in blocks before after b e) o i)

  own_fits : (objects : List Object) → AreHere objects all → list_any (λ o. list_any (is_other_content o) (objects ++ commit_objects b.commit)) (commit_objects b.commit) ≡ false
  own_fits objects old = none_all (λ o. list_any (is_other_content o) (objects ++ commit_objects b.commit)) (commit_objects b.commit) (λ o i.
      none_all (is_other_content o) (objects ++ commit_objects b.commit) (λ p j.
      none_in (is_other_content o) all p (none_in (λ q. list_any (is_other_content q) all) all o one (own_here o i)) (joined p (of_append p objects (commit_objects b.commit) j))))
    where
      joined : (p : Object) → In p objects ⊎ In p (commit_objects b.commit) → In p all
      joined p (inl j) = old p j
      joined p (inr j) = own_here p j

  module _ (nodes : IsTrue (has_distinct (map changeset_node (changesets_in blocks)))) where
    not_saved_block : is_saved before (node_of b) ≡ false
    not_saved_block =
        let own : In b.changeset (b.links ++ b.changeset ∷ []) = in_right b.changeset b.links (b.changeset ∷ []) (inl refl) in
        ap is_some (finds_none node_of (node_of b) before (λ x j. nodes_apart blocks before after b e nodes x.changeset b.changeset (block_in before x j) own))

    no_link_saved : is_any_saved before b.links ≡ false
    no_link_saved = none_all (λ h. is_some (view_at (changesets_in before) (changeset_node h))) b.links (λ l i.
        ap is_some (finds_none changeset_node (changeset_node l) (changesets_in before) (λ x j. nodes_apart blocks before after b e nodes x l j (in_left l b.links (b.changeset ∷ []) i))))

    apart : (objects : List Object) → AreHere objects all → IsTrue (has_distinct (map id_of blocks)) → commit_side_collides objects before b ≡ false
    apart objects old ids =
        let whole = subst (λ (z : List Block). IsTrue (has_distinct (map id_of z))) e ids in
        let free : block_of_id before (id_of b) ≡ None = finds_none id_of (id_of b) before (λ x i. distinct_apart id_of before (b ∷ after) whole x b i (inl refl)) in
        let second : is_some (block_of_id before (commit_id b.commit)) ≡ false = ap is_some free in
        let commit : commit_collides objects before b.commit ≡ false = rw (own_fits objects old, second) refl in
        rw (commit, no_link_saved) refl

-- ---- which revisions are of links

known_link : (known : List Revision) (l : ChangesetView) → IsHeldView known l → IsTrue (is_link_view l) → IsKnownLink known (changeset_node l)
known_link known l held link = record {
  revision = held.revision;
  is_held = held.is_held;
  fields = l.fields;
  text = held.fields;
  link = ap (is_link l.fields (held.revision).p) (sym (held.parents).1) ∙ ap (λ p. is_link l.fields p l.q) (sym (held.parents).0) ∙ link;
}

no_known_link : (known : List Revision) (h : ChangesetView) → IsHeldView known h → is_link_view h ≡ false → ¬ (IsKnownLink known (changeset_node h))
no_known_link known h held plain k =
    let revision : k.revision ≡ held.revision = some_is (sym k.is_held ∙ held.is_held) in
    let fields : k.fields ≡ h.fields = one_changeset (k.revision).text k.fields h.fields k.text (subst (λ (r : Revision). IsChangesetText r.text h.fields) (sym revision) held.fields) in
    let p : (k.revision).p ≡ h.p = ap (λ (r : Revision). r.p) revision ∙ sym (held.parents).0 in
    let q : (k.revision).q ≡ h.q = ap (λ (r : Revision). r.q) revision ∙ sym (held.parents).1 in
    true≢false (sym k.link ∙ (λ i. is_link (fields i) (p i) (q i)) ∙ plain)

-- links bring nothing
behind_links : (came : List Revision) (objects : List Object) (before : List Block) (links : List ChangesetView) (rs : List Revision) (new : List Block) → Each (IsHeldView came) links → Each (λ l. IsTrue (is_link_view l)) links
    → BringBlocks came objects before rs new → BringBlocks came objects before (map own_revision links ++ rs) new
unfolding BringBlocks
behind_links came objects before [] rs new k f h = h
behind_links came objects before (l ∷ links) rs new k f h = inl (known_link came l k.0 f.0, behind_links came objects before links rs new k.1 f.1 h)

own_revisions : (b : Block) (after : List Block) → map own_revision (changesets_in (b ∷ after)) ≡ map own_revision b.links ++ own_revision b.changeset ∷ map own_revision (changesets_in after)
own_revisions b after = by b.links
  where
    by : (links : List ChangesetView) → map own_revision ((links ++ b.changeset ∷ []) ++ changesets_in after) ≡ map own_revision links ++ own_revision b.changeset ∷ map own_revision (changesets_in after)
    by [] = refl
    by (l ∷ ls) = ap (λ (x : List Revision). own_revision l ∷ x) (by ls)

-- what revisions bring, those of the same nodes bring
pub by_nodes : (came : List Revision) (objects : List Object) (before : List Block) (rs ss : List Revision) (new : List Block) → map (λ (r : Revision). r.node) rs ≡ map (λ (r : Revision). r.node) ss
    → BringBlocks came objects before rs new → BringBlocks came objects before ss new
unfolding BringBlocks
by_nodes came objects before [] [] new e h = h
by_nodes came objects before [] (s ∷ ss) new e h = absurd cc
by_nodes came objects before (r ∷ rs) [] new e h = absurd cc
by_nodes came objects before (r ∷ rs) (s ∷ ss) new e h = by (λ os bs zs. by_nodes came os bs rs ss zs rest) h
  where
    one : r.node ≡ s.node
    one = cc

    rest : map (λ (x : Revision). x.node) rs ≡ map (λ (x : Revision). x.node) ss
    rest = cc

    by : ((os : List Object) (bs zs : List Block) → BringBlocks came os bs rs zs → BringBlocks came os bs ss zs) → BringBlocks came objects before (r ∷ rs) new → BringBlocks came objects before (s ∷ ss) new
    by go (inl x) = inl (subst (IsKnownLink came) one x.0, go objects before new x.1)
    by go (inr (inl x)) = inr (inl ((λ k. x.0 (subst (IsKnownLink came) (sym one) k)), ap (is_saved before) (sym one) ∙ x.1, go objects before new x.2))
    by go (inr (inr x)) =
        inr (inr (
          (λ k. x.0 (subst (IsKnownLink came) (sym one) k)),
          ap (is_saved before) (sym one) ∙ x.1,
          x.2,
          x.3,
          x.4,
          subst (λ n. GivesBlock came objects before n x.2) one x.5,
          go (objects ++ commit_objects (x.2).commit) (before ++ x.2 ∷ []) x.3 x.6,
        ))

-- ---- the law

module _ (known came : List Revision) (judged all : List Object) (blocks : List Block) (g : IsGround blocks (IsHeldView known)) (k : IsGround blocks (IsHeldView came)) (views : AreViews blocks) (are : AreBlocks blocks)
    (one : has_other_content all ≡ false) (here : AreHere (objects_in (commits_in blocks)) all) (less : AreHere all judged) where
  -- a right block, judged over fewer objects
  gives : (objects : List Object) → AreHere objects all → (before after : List Block) (b : Block) → blocks ≡ before ++ b ∷ after → HasPartner known judged before b.changeset b
      → GivesBlock came objects before (node_of b) b
  gives objects old before after b e p =
      let among = split_in blocks before after b e in
      let first = front_ground known judged blocks g views before (b ∷ after) e in
      let second = front_ground came judged blocks k views before (b ∷ after) e in
      let own = partner_less known came judged objects before b.changeset b first second (links_known blocks (IsHeldView came) k b among) p (λ o i. less o (old o i)) in
      record {
        view = b.changeset;
        is_held = each_in (IsHeldView came) (changesets_in blocks) b.changeset k.known (block_in blocks b among);
        passes = record {
          no_clash = own.no_clash;
          on_no_link = own.on_no_link;
          no_collision = own.no_collision;
          not_deep = own.not_deep;
          block = own.block;
          fits = own.fits;
          files_in_time = own.files_in_time;
          manifest_in_time = own.manifest_in_time;
          apart = apart all blocks before after b e one here g.nodes objects old g.ids;
        };
      }

  pub brings_by : (objects : List Object) → AreHere objects all → (before rest : List Block) → blocks ≡ before ++ rest → Holds known judged before rest
      → BringBlocks came objects before (map own_revision (changesets_in rest)) rest
  unfolding BringBlocks Holds
  brings_by objects old before [] e h = refl
  brings_by objects old before (b ∷ rest) e h =
      let among = split_in blocks before rest b e in
      let shape = each_in (λ (d : Block). Each (λ l. IsTrue (is_link_view l)) d.links × (is_link_view d.changeset ≡ false)) blocks b are among in
      let held_links = each_from (IsHeldView came) b.links (λ l j. each_in (IsHeldView came) (changesets_in blocks) l k.known (link_in blocks b among l j)) in
      let given = gives objects old before rest b e (own_at known judged blocks g views before rest b e h.0) in
      let next = brings_by (objects ++ commit_objects b.commit) (more b among) (before ++ b ∷ []) rest (e ∙ behind before b rest) h.1 in
      let held = each_in (IsHeldView came) (changesets_in blocks) b.changeset k.known (block_in blocks b among) in
      let own = inr (inr (no_known_link came b.changeset held shape.1, not_saved_block all blocks before rest b e one here g.nodes, b, rest, refl, given, next)) in
      subst (λ (x : List Revision). BringBlocks came objects before x (b ∷ rest)) (sym (own_revisions b rest))
      (behind_links came objects before b.links (own_revision b.changeset ∷ map own_revision (changesets_in rest)) (b ∷ rest) held_links shape.0 own)
    where
      more : (b : Block) → In b blocks → AreHere (objects ++ commit_objects b.commit) all
      more b i o j = elim (of_append o objects (commit_objects b.commit) j) [ inl x ↦ old o x | inr x ↦ here o (objects_of_block blocks b i o x) ]

-- behind nothing, the changesets of the whole
pub changesets_bring : (known came : List Revision) (objects : List Object) (blocks : List Block) → IsGround blocks (IsHeldView known) → IsGround blocks (IsHeldView came) → AreViews blocks → AreBlocks blocks
    → has_other_content (objects_in (commits_in blocks)) ≡ false → AreHere (objects_in (commits_in blocks)) objects → Holds known objects [] blocks → BringBlocks came [] [] (map own_revision (changesets_in blocks)) blocks
changesets_bring known came objects blocks g k views are one here h =
    brings_by known came objects (objects_in (commits_in blocks)) blocks g k views are one (λ o i. i) here [] (λ o i. absurd i) [] blocks refl h
