-- The links of a new block have the form of links and are few, and its changeset has it not.
use Rattle.std.proofs.Common.{◌≡◌, ◌≤◌, Bool, true, false, List, [], ◌∷◌, ◌++◌, length, map, refl, sym, ap, subst, ◌∙◌, inl, inr, arith}
use Rattle.std.specs.Prelude.{◌||◌, IsTrue, is_some}
use Rattle.std.specs.List.{list_any}
use Rattle.std.proofs.lemmas.List.{length-map}
use Rattle.text_model.specs.Lists.{Each}
use Rattle.text_model.specs.Id.{Id, null, is_null}
use Rattle.text_model.proofs.EachLemmas.{Each-front, Each-rest, Each-weaker}
use Rattle.text_model.proofs.Options.{or_parts}
use Rattle.text_model.proofs.TestLemmas.{bytes_eq-other}
use Rattle.hg_model.specs.Revision.{Revision, is_otherwise}
use Rattle.git_model.specs.Object.{Object}
use Rattle.git_model.proofs.FitLemmas.{each_none}
use Rattle.view_model.specs.View.{ChangesetView, CommitView, SameCommit, changeset_node}
use Rattle.view_model.specs.Held.{IsChangesetHeld}
use Rattle.view_model.specs.Dump.{revisions_of, revisions_in}
use Rattle.pair_model.specs.Block.{Block, block_of_id, hg_partner}
use Rattle.pair_model.specs.Octopus.{is_link, is_link_view, links_of}
use Rattle.partner_model.specs.Partner.{IsHeldView, IsKnownAs}
use Rattle.partner_model.specs.Mark.{mark_commit}
use Rattle.partner_model.specs.Given.{IsCommitFor, IsChangesetFor}
use Rattle.partner_model.specs.Clash.{changeset_side_collides, is_any_saved}
use Rattle.partner_model.specs.Table.{IsTable}
use Rattle.unmark_law.proofs.Tables.{hg_there}
use Rattle.unmark_law.proofs.Same.{same_commit}
use Rattle.depth_law.proofs.Back.{links_none}
use Rattle.depth_law.proofs.PlainCommit.{commit_few}
use Rattle.history_model.specs.Pull.{IsKnownLink, GivesBlock, CommitGives}
use Rattle.pull_law.specs.Sound.{HasOwnNode}
use Rattle.pull_law.proofs.Known.{held-node}
use Rattle.next_law.proofs.Alike.{node-same}
use Rattle.next_law.proofs.Links.{links-good, links-few}
use Rattle.next_law.proofs.Leads.{IsLinked}
use Rattle.unmark_law.proofs.NoLinks.{marked-no_link}

-- ---- links of a commit

pub partners-some : (blocks : List Block) → IsTable blocks → (ids : List Id) → Each (λ id. IsTrue (is_some (block_of_id blocks id))) ids → Each (λ x. is_null x ≡ false) (map (hg_partner blocks) ids)
partners-some blocks table [] each = tt
partners-some blocks table (id ∷ ids) each = (bytes_eq-other (hg_partner blocks id) null (hg_there blocks table id each.0), partners-some blocks table ids each.1)

pub few-links : (blocks : List Block) (c : CommitView) (h : ChangesetView) → SameCommit (mark_commit blocks h) c → links_of blocks c ≡ []
few-links blocks c h marked = links_none blocks c (omega (arith, length-map (c.value).parents (hg_partner blocks), commit_few blocks c h marked))

pub no-links : (blocks : List Block) (c : CommitView) (h : ChangesetView) → c ≡ mark_commit blocks h → links_of blocks c ≡ []
no-links blocks c h is = few-links blocks c h (subst (λ (d : CommitView). SameCommit d c) is (same_commit c))

-- a changeset that is held and isn't a known link has not the form of one
pub not-link : (known : List Revision) (node : Id) (v : ChangesetView) → IsChangesetHeld known node v → ¬ (IsKnownLink known node) → is_link_view v ≡ false
not-link known node v held unlinked = by (is_link_view v) refl
  where
    by : (t : Bool) → is_link_view v ≡ t → is_link_view v ≡ false
    by true e = absurd (unlinked (record { revision = held.revision; is_held = held.is_held; fields = v.fields; text = held.fields; link = (λ i. is_link v.fields (sym held.parents.0 i) (sym held.parents.1 i)) ∙ e }))
    by false e = e

-- ---- of a bundle

known-some : (known : List Revision) → Each HasOwnNode known → (ls : List ChangesetView) → Each (IsKnownAs (IsHeldView known)) ls → Each (λ l. is_null (changeset_node l) ≡ false) ls
known-some known own [] each = tt
known-some known own (l ∷ ls) each =
    (ap is_null (sym (node-same (each.0).0 l (each.0).2)) ∙ (held-node known (changeset_node (each.0).0) (each.0).0 own (each.0).1).1, known-some known own ls each.1)

record HasLinks (links : List ChangesetView) : Type 0 where
  pub are : Each (λ l. is_link_view l ≡ true) links
  pub few : length links ≤ 62

no-more : (links : List ChangesetView) → links ≡ [] → HasLinks links
no-more links is = subst HasLinks (sym is) (record { are = tt; few = omega arith })

commit-links : (known : List Revision) → Each HasOwnNode known → (blocks : List Block) → IsTable blocks → (h : ChangesetView) (c : CommitView) → IsCommitFor blocks (IsHeldView known) h c → HasLinks (links_of blocks c)
commit-links known own blocks table h c (inl (even, paired, is)) = no-more (links_of blocks c) (no-links blocks c h is)
commit-links known own blocks table h c (inr (odd, unmarks)) = record {
  are = links-good blocks c (unmarks.view).few (partners-some blocks table (c.value).parents unmarks.paired) (known-some known own (links_of blocks c) unmarks.walked);
  few = links-few blocks c (unmarks.view).few;
}

with-links : (blocks : List Block) (b : Block) (c : CommitView) → b.links ≡ links_of blocks c → HasLinks (links_of blocks c) → is_link_view b.changeset ≡ false → IsLinked b
with-links blocks b c is links none = record {
  links = subst (λ (ls : List ChangesetView). Each (λ l. is_link_view l ≡ true) ls) (sym is) links.are;
  few = omega (arith, ap (λ (ls : List ChangesetView). length ls) is, links.few);
  no_link = none;
}

pub bundle-linked : (known : List Revision) → Each HasOwnNode known → (objects : List Object) (blocks : List Block) → IsTable blocks → (node : Id) (b : Block) → ¬ (IsKnownLink known node)
    → GivesBlock known objects blocks node b → IsLinked b
bundle-linked known own objects blocks table node b unlinked gives =
    let for = (gives.passes).block in
    with-links blocks b for.0 (ap (λ (d : Block). d.links) for.2) (commit-links known own blocks table gives.view for.0 for.1)
    (ap (λ (d : Block). is_link_view d.changeset) for.2 ∙ not-link known node gives.view gives.is_held unlinked)

-- the links of a block are known, and have the form of links
pub record AreKnownLinks (known : List Revision) (b : Block) : Type 0 where
  pub known_as : Each (IsKnownAs (IsHeldView known)) b.links
  pub links : Each (λ l. is_link_view l ≡ true) b.links

commit-known : (known : List Revision) (blocks : List Block) (h : ChangesetView) (c : CommitView) → IsCommitFor blocks (IsHeldView known) h c → Each (IsKnownAs (IsHeldView known)) (links_of blocks c)
commit-known known blocks h c (inl (even, paired, is)) = subst (Each (IsKnownAs (IsHeldView known))) (sym (no-links blocks c h is)) tt
commit-known known blocks h c (inr (odd, unmarks)) = unmarks.walked

pub bundle-known : (known : List Revision) → Each HasOwnNode known → (objects : List Object) (blocks : List Block) → IsTable blocks → (node : Id) (b : Block) → ¬ (IsKnownLink known node)
    → GivesBlock known objects blocks node b → AreKnownLinks known b
bundle-known known own objects blocks table node b unlinked gives =
    let for = (gives.passes).block in
    record {
      known_as = subst (Each (IsKnownAs (IsHeldView known))) (sym (ap (λ (d : Block). d.links) for.2)) (commit-known known blocks gives.view for.0 for.1);
      links = (bundle-linked known own objects blocks table node b unlinked gives).links;
    }

-- ---- of a stream

-- of the revisions of changesets one is each one's own
nodes-some : (hs : List ChangesetView) → Each (λ r. is_null r.node ≡ false) (revisions_in hs) → Each (λ h. is_null (changeset_node h) ≡ false) hs
unfolding revisions_of
nodes-some [] each = tt
nodes-some (h ∷ hs) each = (each.0, nodes-some hs (Each-rest (λ (r : Revision). is_null r.node ≡ false) (revisions_of h) (revisions_in hs) each))

pub block-some : (known : List Revision) (blocks : List Block) (b : Block) → changeset_side_collides known blocks b ≡ false → Each (λ r. is_null r.node ≡ false) (revisions_in (b.links ++ b.changeset ∷ []))
block-some known blocks b apart =
    let own = revisions_in (b.links ++ b.changeset ∷ []) in
    let clashes = λ (r : Revision). is_null r.node || list_any (is_otherwise r) (known ++ own) in
    Each-weaker (λ r. clashes r ≡ false) (λ r. is_null r.node ≡ false) (λ r h. (or_parts (is_null r.node) (list_any (is_otherwise r) (known ++ own)) h).0) own
    (each_none clashes own (or_parts (list_any clashes own) (is_any_saved blocks (b.links ++ b.changeset ∷ [])) apart).0)

record IsLinkedFor (blocks : List Block) (h : ChangesetView) (c : CommitView) : Type 0 where
  pub links : HasLinks (links_of blocks c)
  pub none : is_link_view h ≡ false

changeset-links : (known : List Revision) (blocks : List Block) → IsTable blocks → (c : CommitView) (h : ChangesetView) → length (c.value).parents ≤ 64 → IsChangesetFor blocks (IsHeldView known) c h
    → Each (λ l. is_null (changeset_node l) ≡ false) (links_of blocks c) → IsLinkedFor blocks h c
changeset-links known blocks table c h most (inl (even, paired, is)) some = record {
  links = record {
    are = links-good blocks c most (partners-some blocks table (c.value).parents paired) some;
    few = links-few blocks c most;
  };
  none = ap is_link_view is ∙ marked-no_link blocks c;
}
changeset-links known blocks table c h most (inr (odd, unmarks)) some = record {
  links = no-more (links_of blocks c) (few-links blocks c h unmarks.marked);
  none = unmarks.no_link;
}

pub stream-linked : (known : List Revision) (objects : List Object) (blocks : List Block) → IsTable blocks → (id : Id) (b : Block) (gives : CommitGives known objects blocks id b) → length ((gives.view).value).parents ≤ 64 → IsLinked b
stream-linked known objects blocks table id b gives few =
    let for = (gives.passes).block in
    let c = gives.view in
    let is : b.links ≡ links_of blocks c = ap (λ (d : Block). d.links) for.2 in
    let all = nodes-some (b.links ++ b.changeset ∷ []) (block-some known blocks b (gives.passes).apart) in
    let some = subst (λ (ls : List ChangesetView). Each (λ l. is_null (changeset_node l) ≡ false) ls) is (Each-front (λ l. is_null (changeset_node l) ≡ false) b.links (b.changeset ∷ []) all) in
    let of = changeset-links known blocks table c for.0 few for.1 some in
    with-links blocks b c is of.links (ap (λ (d : Block). is_link_view d.changeset) for.2 ∙ of.none)
