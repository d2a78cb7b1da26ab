-- The changesets of a new block stand in no block before it, and none stands twice in it.
use Rattle.std.proofs.Common.{◌≡◌, Bool, true, false, true≢false, not, ◌&&◌, ◌||◌, List, [], ◌∷◌, ◌++◌, map, refl, sym, ap, subst, ◌∙◌, inl, inr}
use Rattle.std.specs.Prelude.{is_some, bytes_eq}
use Rattle.std.specs.List.{list_any}
use Rattle.std.proofs.lemmas.List.Folds.{list_any-append}
use Rattle.text_model.specs.Lists.{Each, In}
use Rattle.text_model.specs.Id.{Id, is_null}
use Rattle.text_model.proofs.EachLemmas.{Each-append}
use Rattle.text_model.proofs.Elements.{each_in, in_left, in_right, map_append, none_in}
use Rattle.text_model.proofs.Options.{or_parts}
use Rattle.text_model.proofs.TestLemmas.{both, bytes_eq-is, bytes_eq-self}
use Rattle.hg_model.specs.Changeset.{changeset_text}
use Rattle.hg_model.specs.Revision.{Changesets, Revision, same_parents, is_otherwise}
use Rattle.git_model.specs.Object.{Object}
use Rattle.git_model.specs.Tree.{has_distinct}
use Rattle.view_model.specs.View.{ChangesetView, CommitView, changeset_node}
use Rattle.view_model.specs.Held.{IsChangesetHeld}
use Rattle.view_model.specs.Dump.{own_revision, revisions_of, revisions_in}
use Rattle.pair_model.specs.Block.{Block, node_of, block_of_node, view_at, changesets_in}
use Rattle.pair_model.specs.Octopus.{is_link, is_link_view, links_of}
use Rattle.partner_model.specs.Partner.{IsHeldView, IsKnownAs}
use Rattle.partner_model.specs.Given.{IsCommitFor, IsChangesetFor}
use Rattle.partner_model.specs.Clash.{is_any_saved}
use Rattle.partner_model.specs.Table.{IsTable}
use Rattle.pair_model.specs.Collision.{commit_collides}
use Rattle.unmark_law.proofs.Same.{same_changeset}
use Rattle.history_model.specs.Pull.{GivesBlock, CommitGives, is_saved}
use Rattle.hg_view.proofs.One.{one_held}
use Rattle.pull_law.specs.Sound.{HasOwnNode}
use Rattle.pull_law.proofs.Known.{HasNoNull, no-null, own-some, held-node}
use Rattle.pull_law.proofs.Searches.{not-among}
use Rattle.next_law.proofs.Linked.{AreKnownLinks, no-links, few-links}
use Rattle.next_law.proofs.Alike.{node-same}
use Rattle.next_law.proofs.Seconds.{seconds-distinct, nodes-distinct}

-- the changesets of a block
abbrev pub own_of : Block → List ChangesetView
own_of b = b.links ++ b.changeset ∷ []

-- none of the changesets of the block stands in the blocks, and none stands twice in the block
pub record IsApart (blocks : List Block) (b : Block) : Type 0 where
  pub alone : has_distinct (map changeset_node (own_of b)) ≡ true
  pub others : Each (λ h. list_any (bytes_eq (changeset_node h)) (map changeset_node (changesets_in blocks)) ≡ false) (own_of b)

any-both : (test : Id → Bool) (xs ys : List Id) → list_any test xs ≡ false → list_any test ys ≡ false → list_any test (xs ++ ys) ≡ false
any-both test xs ys h k = list_any-append test xs ys ∙ rw (h, k) refl

-- ---- changesets of which none stands in the blocks

pub none-saved : (blocks : List Block) (hs : List ChangesetView) → is_any_saved blocks hs ≡ false
    → Each (λ h. list_any (bytes_eq (changeset_node h)) (map changeset_node (changesets_in blocks)) ≡ false) hs
none-saved blocks [] h = tt
none-saved blocks (x ∷ hs) h =
    let parts = or_parts (is_some (view_at (changesets_in blocks) (changeset_node x))) (is_any_saved blocks hs) h in
    (not-among changeset_node (changeset_node x) (changesets_in blocks) parts.0, none-saved blocks hs parts.1)

-- ---- what is known under one node

module _ (known : List Revision) (none : HasNoNull known) where
  -- two changesets that are known have one second parent where they have one node
  known-second : (a b : ChangesetView) → IsKnownAs (IsHeldView known) a → IsKnownAs (IsHeldView known) b → changeset_node a ≡ changeset_node b → a.q ≡ b.q
  known-second a b (k, held, same) (l, held', same') e =
      let nodes : changeset_node k ≡ changeset_node l = node-same k a same ∙ e ∙ sym (node-same l b same') in
      let one : k ≡ l = one_held known none (changeset_node k) k l held (subst (λ (n : Id). IsChangesetHeld known n l) (sym nodes) held') in
      sym same.q ∙ ap (λ (h : ChangesetView). h.q) one ∙ same'.q

  -- a changeset that is held and is no link has not the node of a known link
  apart-link : (node : Id) (h l : ChangesetView) → IsChangesetHeld known node h → is_link_view h ≡ false → IsKnownAs (IsHeldView known) l → is_link_view l ≡ true → bytes_eq node (changeset_node l) ≡ false
  apart-link node h l held plain (k, held', same) link = by (bytes_eq node (changeset_node l)) refl
    where
      by : (t : Bool) → bytes_eq node (changeset_node l) ≡ t → bytes_eq node (changeset_node l) ≡ false
      by false e = e
      by true e =
          let nodes : node ≡ changeset_node k = bytes_eq-is node (changeset_node l) e ∙ sym (node-same k l same) in
          let one : h ≡ k = one_held known none node h k held (subst (λ (n : Id). IsChangesetHeld known n k) (sym nodes) held') in
          let links : is_link_view k ≡ is_link_view l = (λ i. is_link (same.fields i) (same.p i) (same.q i)) in
          absurd (true≢false (sym (ap is_link_view one ∙ links ∙ link) ∙ plain))

  apart-links : (node : Id) (h : ChangesetView) (ls : List ChangesetView) → IsChangesetHeld known node h → is_link_view h ≡ false → Each (IsKnownAs (IsHeldView known)) ls → Each (λ l. is_link_view l ≡ true) ls
      → list_any (bytes_eq node) (map changeset_node ls) ≡ false
  apart-links node h [] held plain as' links = refl
  apart-links node h (l ∷ ls) held plain as' links = rw (apart-link node h l held plain as'.0 links.0, apart-links node h ls held plain as'.1 links.1) refl

  -- it stands in no block
  apart-blocks : (node : Id) (h : ChangesetView) → IsChangesetHeld known node h → is_link_view h ≡ false → (blocks : List Block) → Each (AreKnownLinks known) blocks
      → is_some (block_of_node blocks node) ≡ false → list_any (bytes_eq node) (map changeset_node (changesets_in blocks)) ≡ false
  apart-blocks node h held plain blocks links free = go blocks links (not-among node_of node blocks free)
    where
      go : (bs : List Block) → Each (AreKnownLinks known) bs → list_any (bytes_eq node) (map node_of bs) ≡ false → list_any (bytes_eq node) (map changeset_node (changesets_in bs)) ≡ false
      go [] each none-of = refl
      go (b ∷ bs) each none-of =
          let parts = or_parts (bytes_eq node (node_of b)) (list_any (bytes_eq node) (map node_of bs)) none-of in
          let front = apart-links node h b.links held plain (each.0).known_as (each.0).links in
          ap (list_any (bytes_eq node)) (map_append changeset_node (own_of b) (changesets_in bs) ∙ ap (λ (l : List Id). l ++ map changeset_node (changesets_in bs)) (map_append changeset_node b.links (b.changeset ∷ [])))
          ∙ any-both (bytes_eq node) (map changeset_node b.links ++ node_of b ∷ []) (map changeset_node (changesets_in bs))
          (any-both (bytes_eq node) (map changeset_node b.links) (node_of b ∷ []) front (rw parts.0 refl)) (go bs each.1 parts.1)

-- ---- a block of a bundle

module _ (known : List Revision) (own : Each HasOwnNode known) (objects : List Object) (blocks : List Block) (table : IsTable blocks) (node : Id) (b : Block)
    (plain : is_link_view b.changeset ≡ false) (linked : AreKnownLinks known b) (links : Each (AreKnownLinks known) blocks) (free : is_saved blocks node ≡ false) (gives : GivesBlock known objects blocks node b) where
  none : HasNoNull known
  none = no-null known (own-some known own)

  is-held : IsChangesetHeld known node b.changeset
  is-held = subst (IsChangesetHeld known node) (sym (ap (λ (d : Block). d.changeset) ((gives.passes).block).2)) gives.is_held

  node-is : changeset_node b.changeset ≡ node
  node-is = (held-node known node b.changeset own is-held).0

  all-known : Each (IsKnownAs (IsHeldView known)) (own_of b)
  all-known = Each-append (IsKnownAs (IsHeldView known)) b.links (b.changeset ∷ []) linked.known_as
      ((b.changeset, subst (λ (n : Id). IsChangesetHeld known n b.changeset) (sym node-is) is-held, same_changeset b.changeset), tt)

  seconds : (h : ChangesetView) (c : CommitView) → IsCommitFor blocks (IsHeldView known) h c → has_distinct (map (λ (h : ChangesetView). h.q) (links_of blocks c ++ h ∷ [])) ≡ true
  seconds h c (inl (even, paired, is)) = ap (λ (l : List ChangesetView). has_distinct (map (λ (h : ChangesetView). h.q) (l ++ h ∷ []))) (no-links blocks c h is)
  seconds h c (inr (odd, unmarks)) = seconds-distinct blocks table c h unmarks.paired (unmarks.view).distinct (sym (unmarks.marked).q)

  pub bundle-apart : IsApart blocks b
  bundle-apart =
      let for = (gives.passes).block in
      let saved = (or_parts (commit_collides objects blocks b.commit) (is_any_saved blocks b.links) (gives.passes).apart).1 in
      record {
        alone = nodes-distinct (own_of b)
            (λ x y i j e. known-second known none x y (each_in (IsKnownAs (IsHeldView known)) (own_of b) x all-known i) (each_in (IsKnownAs (IsHeldView known)) (own_of b) y all-known j) e)
            (ap (λ (d : Block). has_distinct (map (λ (h : ChangesetView). h.q) (own_of d))) for.2 ∙ seconds gives.view for.0 for.1);
        others = Each-append (λ h. list_any (bytes_eq (changeset_node h)) (map changeset_node (changesets_in blocks)) ≡ false) b.links (b.changeset ∷ []) (none-saved blocks b.links saved)
            (ap (λ (n : Id). list_any (bytes_eq n) (map changeset_node (changesets_in blocks))) node-is ∙ apart-blocks known none node b.changeset is-held plain blocks links free, tt);
      }

-- ---- a block of a stream

own-in : (h : ChangesetView) (hs : List ChangesetView) → In h hs → In (own_revision h) (revisions_in hs)
unfolding revisions_of
own-in h [] i = absurd i
own-in h (x ∷ hs) (inl e) = in_left (own_revision h) (revisions_of x) (revisions_in hs) (inl (ap own_revision e))
own-in h (x ∷ hs) (inr i) = in_right (own_revision h) (revisions_of x) (revisions_in hs) (own-in h hs i)

-- where no revision of changesets is another one of the same node, one node has one second parent
same-second : (a b : ChangesetView) → is_otherwise (own_revision a) (own_revision b) ≡ false → changeset_node a ≡ changeset_node b → a.q ≡ b.q
same-second a b h e = by (bytes_eq (changeset_node a) (changeset_node b)) refl (bytes_eq (changeset_text a.fields) (changeset_text b.fields) && same_parents Changesets a.p a.q b.p b.q) refl h
  where
    by : (t : Bool) → bytes_eq (changeset_node a) (changeset_node b) ≡ t → (u : Bool) → (bytes_eq (changeset_text a.fields) (changeset_text b.fields) && same_parents Changesets a.p a.q b.p b.q) ≡ u
        → (t && not u) ≡ false → a.q ≡ b.q
    by false is u of k = absurd (true≢false (sym (bytes_eq-self (changeset_node a)) ∙ ap (bytes_eq (changeset_node a)) e ∙ is))
    by true is false of k = absurd (true≢false k)
    by true is true of k =
        let parents = (both (bytes_eq (changeset_text a.fields) (changeset_text b.fields)) (same_parents Changesets a.p a.q b.p b.q) of).1 in
        bytes_eq-is a.q b.q (both (bytes_eq a.p b.p) (bytes_eq a.q b.q) parents).1

pub stream-seconds : (known : List Revision) (blocks : List Block) → IsTable blocks → (c : CommitView) (h : ChangesetView) → has_distinct (c.value).parents ≡ true → IsChangesetFor blocks (IsHeldView known) c h
    → has_distinct (map (λ (h : ChangesetView). h.q) (links_of blocks c ++ h ∷ [])) ≡ true
stream-seconds known blocks table c h distinct (inl (even, paired, is)) = seconds-distinct blocks table c h paired distinct (ap (λ (x : ChangesetView). x.q) is)
stream-seconds known blocks table c h distinct (inr (odd, unmarks)) =
    ap (λ (l : List ChangesetView). has_distinct (map (λ (h : ChangesetView). h.q) (l ++ h ∷ []))) (few-links blocks c h unmarks.marked)

pub stream-apart : (known : List Revision) (objects : List Object) (blocks : List Block) → IsTable blocks → (id : Id) (b : Block) (gives : CommitGives known objects blocks id b)
    → has_distinct ((gives.view).value).parents ≡ true → IsApart blocks b
stream-apart known objects blocks table id b gives distinct =
    let for = (gives.passes).block in
    let all = revisions_in (own_of b) in
    let clashes = λ (r : Revision). is_null r.node || list_any (is_otherwise r) (known ++ all) in
    let parts = or_parts (list_any clashes all) (is_any_saved blocks (own_of b)) (gives.passes).apart in
    record {
      alone = nodes-distinct (own_of b)
          (λ x y i j e. same-second x y (none_in (is_otherwise (own_revision x)) (known ++ all) (own_revision y)
          (or_parts (is_null (own_revision x).node) (list_any (is_otherwise (own_revision x)) (known ++ all)) (none_in clashes all (own_revision x) parts.0 (own-in x (own_of b) i))).1
          (in_right (own_revision y) known all (own-in y (own_of b) j))) e)
          (ap (λ (d : Block). has_distinct (map (λ (h : ChangesetView). h.q) (own_of d))) for.2 ∙ stream-seconds known blocks table gives.view for.0 distinct for.1);
      others = none-saved blocks (own_of b) parts.1;
    }
