-- Each block that a pull leaves is of views.
use Rattle.std.proofs.Common.{◌≡◌, false, List, [], ◌∷◌, ◌++◌, sym, ap, subst, append_assoc, append-nil, inl, inr}
use Rattle.std.specs.Prelude.{is_some, length, ◌||◌}
use Rattle.std.specs.List.{list_any}
use Rattle.text_model.specs.Lists.{Each}
use Rattle.text_model.specs.Id.{is_null}
use Rattle.text_model.proofs.EachLemmas.{Each-append, Each-front, Each-push, Each-rest}
use Rattle.text_model.proofs.Options.{or_parts}
use Rattle.hg_model.specs.Revision.{Revision, is_otherwise}
use Rattle.git_model.specs.Object.{Object}
use Rattle.git_model.specs.Stream.{IsFit}
use Rattle.git_model.proofs.FitLemmas.{each_none}
use Rattle.git_store.specs.Known.{AreKnown}
use Rattle.git_view.proofs.Right.{held-is_view}
use Rattle.view_model.specs.View.{ChangesetView, IsChangesetView, changeset_node, CommitView, IsCommitView, CommitFits, commit_id, paths_of, has_clash}
use Rattle.view_model.specs.Dump.{revisions_of, revisions_in}
use Rattle.pair_model.specs.Block.{Block, view_at, changesets_in, commits_in}
use Rattle.pair_model.specs.Octopus.{links_of, partners_of_parents}
use Rattle.partner_model.specs.Clash.{is_any_saved}
use Rattle.partner_model.specs.Given.{IsCommitFor, IsChangesetFor}
use Rattle.partner_model.specs.Partner.{IsHeldView, IsKnownAs}
use Rattle.partner_model.specs.Table.{IsTable}
use Rattle.history_model.specs.Pull.{State}
use Rattle.pull_law.specs.Sound.{HasOwnNode}
use Rattle.next_law.proofs.Linked.{few-links, bundle-known, block-some}
use Rattle.next_law.proofs.NewBlocks.{AreNew, IsOfBundle, IsOfStream, known_behind}
use Rattle.view_law.proofs.CommitFit.{held-commit_fits}
use Rattle.next_law.proofs.Founded.{IsFounded, held-view}
use Rattle.view_law.proofs.Links.{IsNewNode, known-links, new-links}
use Rattle.view_law.proofs.RuledChangeset.{first-apart, partners-right, marked-changeset}
use Rattle.view_law.proofs.RuledCommit.{marked-view}
use Rattle.pair_known.proofs.PartnerLemmas.{IsId-commit_id}

-- its links, its changeset and its commit are views, and the commit is within its limits
pub record IsRightBlock (b : Block) : Type 0 where
  pub changesets : Each IsChangesetView (b.links ++ b.changeset ∷ [])
  pub commit : IsCommitView b.commit
  pub fits : CommitFits b.commit

pub all-changesets : (bs : List Block) → Each IsRightBlock bs → Each IsChangesetView (changesets_in bs)
all-changesets [] all = tt
all-changesets (b ∷ bs) all = Each-append IsChangesetView (b.links ++ b.changeset ∷ []) (changesets_in bs) (all.0).changesets (all-changesets bs all.1)

pub all-commits : (bs : List Block) → Each IsRightBlock bs → Each IsCommitView (commits_in bs)
all-commits [] all = tt
all-commits (b ∷ bs) all = ((all.0).commit, all-commits bs all.1)

pub all-commits_fit : (bs : List Block) → Each IsRightBlock bs → Each CommitFits (commits_in bs)
all-commits_fit [] all = tt
all-commits_fit (b ∷ bs) all = ((all.0).fits, all-commits_fit bs all.1)

-- ---- new blocks, one behind another

module _ (P : List Block → Block → Type 0) (Q : Block → Type 0) (old : List Block) (go : (front : List Block) (b : Block) → Each Q (old ++ front) → P front b → Q b) where
  each-behind : (front new : List Block) → Each Q (old ++ front) → AreNew P front new → Each Q new
  each-behind front [] all h = tt
  each-behind front (b ∷ new) all h =
      let one = go front b all h.0 in
      (one, each-behind (front ++ b ∷ []) new (subst (Each Q) (append_assoc old front (b ∷ [])) (Each-push Q (old ++ front) b all one)) h.1)

  pub each-grown : (new : List Block) → Each Q old → AreNew P [] new → Each Q (old ++ new)
  each-grown new all h = Each-append Q old new all (each-behind [] new (subst (Each Q) (sym (append-nil old)) all) h)

-- ---- a block of a bundle

module _ (s : State) (known : List Revision) (own : Each HasOwnNode known) (founded : Each IsFounded known) where
  commit-view : (blocks : List Block) → IsTable blocks → Each IsCommitView (commits_in blocks) → (h : ChangesetView) → IsChangesetView h → has_clash (paths_of h.rows) ≡ false → (c : CommitView) → IsCommitFor blocks (IsHeldView known) h c → IsCommitView c
  commit-view blocks table views h view clear c (inl (even, paired, is)) = subst IsCommitView (sym is) (marked-view blocks views h view clear table paired)
  commit-view blocks table views h view clear c (inr (odd, unmarks)) = unmarks.view

  pub bundle-right : (front : List Block) (b : Block) → Each IsRightBlock (s.blocks ++ front) → IsOfBundle s known front b → IsRightBlock b
  bundle-right front b all x =
      let blocks = s.blocks ++ front in
      let passes = (x.gives).passes in
      let for = passes.block in
      let h = (x.gives).view in
      let view = held-view known founded x.node h (x.gives).is_held in
      let walked = subst (Each (IsKnownAs (IsHeldView known))) (ap (λ (d : Block). d.links) for.2) (bundle-known known own _ blocks x.table x.node b x.no_link x.gives).known_as in
      let links = known-links known founded blocks (all-changesets blocks all) for.0 walked in
      subst IsRightBlock (sym for.2) (record {
        changesets = Each-push IsChangesetView (links_of blocks for.0) h links view;
        commit = commit-view blocks x.table (all-commits blocks all) h view passes.no_clash for.0 for.1;
        fits = subst CommitFits (ap (λ (d : Block). d.commit) for.2) passes.fits;
      })

-- ---- a block of a stream

-- of the revisions of changesets one is each one's own
nodes-some : (hs : List ChangesetView) → Each (λ r. is_null r.node ≡ false) (revisions_in hs) → Each (λ h. is_null (changeset_node h) ≡ false) hs
unfolding revisions_of
nodes-some [] each = tt
nodes-some (h ∷ hs) each = (each.0, nodes-some hs (Each-rest (λ (r : Revision). is_null r.node ≡ false) (revisions_of h) (revisions_in hs) each))

new-nodes : (blocks : List Block) (hs : List ChangesetView) → Each (λ h. is_null (changeset_node h) ≡ false) hs → Each (λ h. is_some (view_at (changesets_in blocks) (changeset_node h)) ≡ false) hs
    → Each (λ h. IsNewNode blocks (changeset_node h)) hs
new-nodes blocks [] some unsaved = tt
new-nodes blocks (h ∷ hs) some unsaved = (record { some = some.0; unsaved = unsaved.0 }, new-nodes blocks hs some.1 unsaved.1)

links-right : (blocks : List Block) → IsTable blocks → Each IsChangesetView (changesets_in blocks) → (Known : ChangesetView → Type 0) (c : CommitView) → IsCommitView c → (h : ChangesetView) → IsChangesetFor blocks Known c h
    → Each (λ l. IsNewNode blocks (changeset_node l)) (links_of blocks c) → Each IsChangesetView (links_of blocks c)
unfolding links_of
links-right blocks table views Known c view h (inl (even, paired, is)) nodes =
    new-links blocks views (commit_id c) (IsId-commit_id c) (length (c.value).parents) (partners_of_parents blocks c) (first-apart blocks table (c.value).parents paired view.distinct)
    (partners-right blocks table (c.value).parents paired) nodes
links-right blocks table views Known c view h (inr (odd, unmarks)) nodes = subst (Each IsChangesetView) (sym (few-links blocks c h unmarks.marked)) tt

changeset-right : (blocks : List Block) → IsTable blocks → Each IsChangesetView (changesets_in blocks) → (Known : ChangesetView → Type 0) (c : CommitView) → IsCommitView c → (h : ChangesetView) → IsChangesetFor blocks Known c h
    → Each IsChangesetView (links_of blocks c) → Each (λ l. IsNewNode blocks (changeset_node l)) (links_of blocks c) → IsChangesetView h
changeset-right blocks table views Known c view h (inl (even, paired, is)) links nodes = subst IsChangesetView (sym is) (marked-changeset blocks c view table views links paired nodes)
changeset-right blocks table views Known c view h (inr (odd, unmarks)) links nodes = unmarks.view

module _ (s : State) (objects : List Object) (are : AreKnown objects) (fit : Each IsFit objects) where
  pub stream-right : (front : List Block) (b : Block) → Each IsRightBlock (s.blocks ++ front) → IsOfStream s objects front b → IsRightBlock b
  stream-right front b all x =
      let blocks = s.blocks ++ front in
      let known = known_behind s front in
      let passes = (x.gives).passes in
      let for = passes.block in
      let c = (x.gives).view in
      let h = for.0 in
      let table = (x.goes_on).table in
      let views = all-changesets blocks all in
      let view = held-is_view objects are x.id c (x.gives).is_held (x.gives).walks in
      let own = b.links ++ b.changeset ∷ [] in
      let clashes = λ (r : Revision). is_null r.node || list_any (is_otherwise r) (known ++ revisions_in own) in
      let unsaved = each_none (λ h. is_some (view_at (changesets_in blocks) (changeset_node h))) own (or_parts (list_any clashes (revisions_in own)) (is_any_saved blocks own) passes.apart).1 in
      let every = new-nodes blocks own (nodes-some own (block-some known blocks b passes.apart)) unsaved in
      let are-links : b.links ≡ links_of blocks c = ap (λ (d : Block). d.links) for.2 in
      let nodes = subst (Each (λ l. IsNewNode blocks (changeset_node l))) are-links (Each-front (λ l. IsNewNode blocks (changeset_node l)) b.links (b.changeset ∷ []) every) in
      let links = links-right blocks table views (IsHeldView known) c view h for.1 nodes in
      let own-view = changeset-right blocks table views (IsHeldView known) c view h for.1 links nodes in
      subst IsRightBlock (sym for.2) (record {
        changesets = Each-push IsChangesetView (links_of blocks c) h links own-view;
        commit = view;
        fits = held-commit_fits objects fit are.are x.id c view (x.gives).is_held (x.gives).walks;
      })
