-- The parents of what a pull leaves belong to earlier changesets.
use Rattle.std.proofs.Common.{◌≡◌, ◌+◌, ℕ, true, false, Option, Some, None, length, List, [], ◌∷◌, ◌++◌, refl, sym, ap, subst, ◌∙◌, inl, inr, append_assoc, append-nil}
use Rattle.std.specs.Prelude.{IsTrue, is_some, unwrap_or, bytes_eq}
use Rattle.text_model.specs.Lists.{Each}
use Rattle.text_model.specs.Id.{Id, null}
use Rattle.text_model.proofs.EachLemmas.{Each-append}
use Rattle.text_model.proofs.Elements.{each_in, flat_map_append}
use Rattle.hg_model.specs.Revision.{Changesets, Revision, is_known_parent}
use Rattle.git_model.specs.Object.{Object}
use Rattle.view_model.specs.View.{ManifestParents, NoManifest, Over, ChangesetView, IsChangesetView, CommitView, Row, changeset_node, manifest_node, commit_id}
use Rattle.view_model.specs.Held.{IsChangesetHeld, IsManifestHeld}
use Rattle.view_model.specs.Dump.{revisions_in}
use Rattle.pair_model.specs.Block.{Block, block_of_id, changesets_in, view_at, view_or_none, no_changeset}
use Rattle.pair_model.specs.Octopus.{link_view, links_over, links_by, links_of, partners_of_parents, second_of}
use Rattle.pair_model.specs.Rule.{rule_changeset}
use Rattle.partner_model.specs.Mark.{mark_changeset}
use Rattle.partner_model.specs.Partner.{OfGit, IsHeldView}
use Rattle.partner_model.specs.Given.{IsCommitFor, IsChangesetFor, IsBlockFor, has_late_file, has_late_manifest}
use Rattle.history_model.specs.Pull.{State, known_with, objects_with}
use Rattle.state_model.specs.Kept.{Kept, kept_of}
use Rattle.saved_model.specs.Step.{Pull, OfBundle, OfStream, Accepts, known_of}
use Rattle.hg_dump_law.specs.Taken.{AreParentsEarlier}
use Rattle.dump_law.proofs.Earlier.{dump-earlier}
use Rattle.next_law.specs.Next.{IsLeft, HasParentsEarlier}
use Rattle.next_law.proofs.Apart.{own_of}
use Rattle.next_law.proofs.InTime.{HasNullManifest, links-time, marked-first, second-known, changeset-time}
use Rattle.next_law.proofs.Knows.{parent-left}
use Rattle.next_law.proofs.Known.{IsSaved, saved-of, sound-known}
use Rattle.next_law.proofs.LikeNew.{find-in}
use Rattle.next_law.proofs.Linked.{few-links, no-links}
use Rattle.next_law.proofs.NewBlocks.{AreNew, IsOfBundle, IsOfStream, each-turned, known_behind}
use Rattle.next_law.proofs.Otherwise.{referred}
use Rattle.next_law.proofs.Parents.{earlier-append, knows-partners, paired-first}
use Rattle.next_law.proofs.Pulls.{bundle-new, stream-new}
use Rattle.next_law.proofs.Seconds.{marked-second}

-- ---- one block

-- the changesets of the block have parents that belong to earlier ones, and a null id for no manifest
pub record IsTimely (blocks : List Block) (b : Block) : Type 0 where
  pub earlier : AreParentsEarlier (referred blocks) (own_of b)
  pub manifests : Each HasNullManifest (own_of b)

-- the parents of a changeset are known behind the links
record KnowsParents (rs : List Revision) (h : ChangesetView) : Type 0 where
  pub first : is_known_parent rs Changesets h.p ≡ true
  pub second : is_known_parent rs Changesets h.q ≡ true

of-paired : (blocks : List Block) (links : List ChangesetView) (h : ChangesetView) → (is_known_parent (referred blocks) Changesets h.p ≡ true) × (is_known_parent (referred blocks) Changesets h.q ≡ true) → KnowsParents (referred blocks ++ revisions_in links) h
of-paired blocks links h known = record {
  first = parent-left (referred blocks) (revisions_in links) Changesets h.p known.0;
  second = parent-left (referred blocks) (revisions_in links) Changesets h.q known.1;
}

-- those of a marked changeset are the last link and the last partner
of-marked : (blocks : List Block) (c : CommitView) (h : ChangesetView) → Each (λ id. IsTrue (is_some (block_of_id blocks id))) (c.value).parents → h.p ≡ (mark_changeset blocks c).p → h.q ≡ (mark_changeset blocks c).q
    → KnowsParents (referred blocks ++ revisions_in (links_of blocks c)) h
of-marked blocks c h paired p q =
    let all = knows-partners blocks (c.value).parents paired in
    let rs = referred blocks in
    let more = revisions_in (links_of blocks c) in
    record {
      first = ap (is_known_parent (rs ++ more) Changesets) (p ∙ marked-first blocks c) ∙ (links-time blocks c all).first;
      second = ap (is_known_parent (rs ++ more) Changesets) (q ∙ marked-second blocks c) ∙ parent-left rs more Changesets (second_of (partners_of_parents blocks c)) (second-known rs (partners_of_parents blocks c) all);
    }

-- the links have the manifest of a changeset of the blocks
null-base : (hs : List ChangesetView) → Each HasNullManifest hs → (node : Id) → HasNullManifest (view_or_none hs node)
null-base hs each node = by (view_at hs node) refl
  where
    by : (o : Option ChangesetView) → view_at hs node ≡ o → HasNullManifest (unwrap_or o no_changeset)
    by None e = λ x. refl
    by (Some v) e = each_in HasNullManifest hs v each (find-in (λ (v : ChangesetView). bytes_eq (changeset_node v) node) hs v e).0

null-over : (id : Id) (base : ChangesetView) → HasNullManifest base → (n k : ℕ) (before : Id) (xs : List Id) → Each HasNullManifest (links_over id base n k before xs)
unfolding links_over link_view
null-over id base h n k before [] = tt
null-over id base h n k before (x ∷ []) = tt
null-over id base h n k before (x ∷ y ∷ rest) = (h, null-over id base h n (k + 1) (changeset_node (link_view id base n k before x)) (y ∷ rest))

null-links : (blocks : List Block) → Each HasNullManifest (changesets_in blocks) → (c : CommitView) → Each HasNullManifest (links_of blocks c)
unfolding links_of
null-links blocks each c = by (partners_of_parents blocks c)
  where
    by : (xs : List Id) → Each HasNullManifest (links_by blocks (commit_id c) (length (c.value).parents) xs)
    by [] = tt
    by (x ∷ rest) = null-over (commit_id c) (view_or_none (changesets_in blocks) x) (null-base (changesets_in blocks) each x) (length (c.value).parents) 1 x rest

-- a block with the links of its commit, whose changeset has known parents and files in time
timely : (blocks : List Block) (b : Block) (c : CommitView) → Each HasNullManifest (changesets_in blocks) → b.links ≡ links_of blocks c → AreParentsEarlier (referred blocks) (links_of blocks c)
    → KnowsParents (referred blocks ++ revisions_in (links_of blocks c)) b.changeset → has_late_file blocks (b.changeset).rows ≡ false → has_late_manifest blocks (b.changeset).manifest ≡ false
    → HasNullManifest b.changeset → IsTimely blocks b
timely blocks b c each is links parents files manifest null = record {
  earlier = subst (λ (ls : List ChangesetView). AreParentsEarlier (referred blocks) (ls ++ b.changeset ∷ [])) (sym is)
      (earlier-append (referred blocks) (links_of blocks c) (b.changeset ∷ []) links
      (changeset-time blocks each (revisions_in (links_of blocks c)) b.changeset parents.first parents.second files manifest, tt));
  manifests = subst (λ (ls : List ChangesetView). Each HasNullManifest (ls ++ b.changeset ∷ [])) (sym is)
      (Each-append HasNullManifest (links_of blocks c) (b.changeset ∷ []) (null-links blocks each c) (null, tt));
}

no-links-earlier : (blocks : List Block) (links : List ChangesetView) → links ≡ [] → AreParentsEarlier (referred blocks) links
no-links-earlier blocks links is = subst (AreParentsEarlier (referred blocks)) (sym is) tt

-- ---- a manifest that is held or made

null-held : (known : List Revision) (node : Id) (h : ChangesetView) → IsChangesetHeld known node h → HasNullManifest h
null-held known node h held e = (subst (λ (m : ManifestParents). IsManifestHeld known (h.fields).manifest m h.rows) e held.manifest).0

null-node : (m : ManifestParents) (rows : List Row) → m ≡ NoManifest → manifest_node m rows ≡ null
unfolding manifest_node
null-node NoManifest rows e = refl
null-node (Over p q) rows e = absurd cc

null-view : (h : ChangesetView) → IsChangesetView h → HasNullManifest h
null-view h view e = view.agrees ∙ null-node h.manifest h.rows e

null-marked : (blocks : List Block) (c : CommitView) → HasNullManifest (mark_changeset blocks c)
unfolding mark_changeset rule_changeset
null-marked blocks c e = null-node (mark_changeset blocks c).manifest (mark_changeset blocks c).rows e

-- ---- of a bundle, and of a stream

pub bundle-timely : (s : State) (known : List Revision) (front : List Block) (b : Block) → IsOfBundle s known front b → Each HasNullManifest (changesets_in (s.blocks ++ front)) → IsTimely (s.blocks ++ front) b
bundle-timely s known front b x each =
    let for = ((x.gives).passes).block in
    by for.0 for.1 (ap (λ (d : Block). d.changeset) for.2) (ap (λ (d : Block). d.links) for.2)
  where
    blocks : List Block
    blocks = s.blocks ++ front

    by : (c : CommitView) → IsCommitFor blocks (IsHeldView known) (x.gives).view c → b.changeset ≡ (x.gives).view → b.links ≡ links_of blocks c → IsTimely blocks b
    by c (inl (even, paired, made)) is links =
        let h = (x.gives).view in
        timely blocks b c each links (no-links-earlier blocks (links_of blocks c) (no-links blocks c h made))
        (subst (KnowsParents (referred blocks ++ revisions_in (links_of blocks c))) (sym is) (of-paired blocks (links_of blocks c) h (paired-first blocks h.p h.q paired)))
        (ap (λ (v : ChangesetView). has_late_file blocks v.rows) is ∙ ((x.gives).passes).files_in_time) (ap (λ (v : ChangesetView). has_late_manifest blocks v.manifest) is ∙ ((x.gives).passes).manifest_in_time)
        (subst HasNullManifest (sym is) (null-held known x.node h (x.gives).is_held))
    by c (inr (odd, unmarks)) is links =
        let h = (x.gives).view in
        timely blocks b c each links (links-time blocks c (knows-partners blocks (c.value).parents unmarks.paired)).earlier
        (subst (KnowsParents (referred blocks ++ revisions_in (links_of blocks c))) (sym is) (of-marked blocks c h unmarks.paired (sym (unmarks.marked).p) (sym (unmarks.marked).q)))
        (ap (λ (v : ChangesetView). has_late_file blocks v.rows) is ∙ ((x.gives).passes).files_in_time) (ap (λ (v : ChangesetView). has_late_manifest blocks v.manifest) is ∙ ((x.gives).passes).manifest_in_time)
        (subst HasNullManifest (sym is) (null-held known x.node h (x.gives).is_held))

pub stream-timely : (s : State) (objects : List Object) (front : List Block) (b : Block) → IsOfStream s objects front b → Each HasNullManifest (changesets_in (s.blocks ++ front)) → IsTimely (s.blocks ++ front) b
stream-timely s objects front b x each = by (x.gives).view for.0 for.1 (ap (λ (d : Block). d.changeset) for.2) (ap (λ (d : Block). d.links) for.2)
  where
    blocks : List Block
    blocks = s.blocks ++ front

    for : IsBlockFor (s.blocks ++ front) (IsHeldView (known_behind s front)) (OfGit (x.gives).view) b
    for = ((x.gives).passes).block

    by : (c : CommitView) (h : ChangesetView) → IsChangesetFor blocks (IsHeldView (known_behind s front)) c h → b.changeset ≡ h → b.links ≡ links_of blocks c → IsTimely blocks b
    by c h (inl (even, paired, made)) is links =
        timely blocks b c each links (links-time blocks c (knows-partners blocks (c.value).parents paired)).earlier
        (subst (KnowsParents (referred blocks ++ revisions_in (links_of blocks c))) (sym is) (of-marked blocks c h paired (ap (λ (v : ChangesetView). v.p) made) (ap (λ (v : ChangesetView). v.q) made)))
        ((x.gives).passes).files_in_time ((x.gives).passes).manifest_in_time (subst HasNullManifest (sym (is ∙ made)) (null-marked blocks c))
    by c h (inr (odd, unmarks)) is links =
        timely blocks b c each links (no-links-earlier blocks (links_of blocks c) (few-links blocks c h unmarks.marked))
        (subst (KnowsParents (referred blocks ++ revisions_in (links_of blocks c))) (sym is) (of-paired blocks (links_of blocks c) h (paired-first blocks h.p h.q unmarks.paired)))
        ((x.gives).passes).files_in_time ((x.gives).passes).manifest_in_time (subst HasNullManifest (sym is) (null-view h unmarks.view))

-- ---- all blocks

-- a block is timely wherever those before it have null ids for no manifests
abbrev pub TimelyBehind : List Block → List Block → Block → Type 0
TimelyBehind old front b = Each HasNullManifest (changesets_in (old ++ front)) → IsTimely (old ++ front) b

nulls-push : (blocks : List Block) (b : Block) → Each HasNullManifest (changesets_in blocks) → Each HasNullManifest (own_of b) → Each HasNullManifest (changesets_in (blocks ++ b ∷ []))
nulls-push blocks b each mine =
    subst (Each HasNullManifest) (sym (flat_map_append own_of blocks (b ∷ [])))
    (Each-append HasNullManifest (changesets_in blocks) (changesets_in (b ∷ [])) each (subst (Each HasNullManifest) (sym (append-nil (own_of b))) mine))

earlier-push : (blocks : List Block) (b : Block) → AreParentsEarlier [] (changesets_in blocks) → IsTimely blocks b → AreParentsEarlier [] (changesets_in (blocks ++ b ∷ []))
earlier-push blocks b h t =
    subst (AreParentsEarlier []) (sym (flat_map_append own_of blocks (b ∷ [])))
    (earlier-append [] (changesets_in blocks) (changesets_in (b ∷ [])) h (subst (AreParentsEarlier (referred blocks)) (sym (append-nil (own_of b))) t.earlier))

pub earlier-on : (old front new : List Block) → AreNew (TimelyBehind old) front new → Each HasNullManifest (changesets_in (old ++ front)) → AreParentsEarlier [] (changesets_in (old ++ front)) → AreParentsEarlier [] (changesets_in (old ++ (front ++ new)))
earlier-on old front [] h each earlier = subst (λ (l : List Block). AreParentsEarlier [] (changesets_in (old ++ l))) (sym (append-nil front)) earlier
earlier-on old front (b ∷ new) h each earlier =
    let t = h.0 each in
    let longer = append_assoc old front (b ∷ []) in
    subst (λ (l : List Block). AreParentsEarlier [] (changesets_in (old ++ l))) (append_assoc front (b ∷ []) new)
    (earlier-on old (front ++ b ∷ []) new h.1
    (subst (λ (l : List Block). Each HasNullManifest (changesets_in l)) longer (nulls-push (old ++ front) b each t.manifests))
    (subst (λ (l : List Block). AreParentsEarlier [] (changesets_in l)) longer (earlier-push (old ++ front) b earlier t)))

pub null-views : (hs : List ChangesetView) → Each IsChangesetView hs → Each HasNullManifest hs
null-views [] views = tt
null-views (h ∷ hs) views = (null-view h views.0, null-views hs views.1)

all-timely : (k : Kept) → IsSaved k → (pull : Pull) (new : List Block) (tags : List Object) → Accepts k pull new tags → AreNew (TimelyBehind k.blocks) [] new
all-timely k saved (OfBundle bundle) new tags (a, none) =
    let s = known_of k in
    let known = known_with s a.arrivals in
    each-turned (IsOfBundle s known) (TimelyBehind k.blocks) (λ front b x each. bundle-timely s known front b x each) [] new (bundle-new k (sound-known k saved) bundle new a)
all-timely k saved (OfStream stream) new tags a =
    let s = known_of k in
    let objects = objects_with s a.came in
    each-turned (IsOfStream s objects) (TimelyBehind k.blocks) (λ front b x each. stream-timely s objects front b x each) [] new (stream-new k (sound-known k saved) stream new tags a)

pub earlier-left : IsLeft HasParentsEarlier
earlier-left s pull k made is (new, tags, accepts, next, wrote) =
    let saved = saved-of s is in
    let nil = sym (append-nil s.blocks) in
    subst HasParentsEarlier (sym next) (earlier-on s.blocks [] new (all-timely (kept_of s) saved pull new tags accepts)
    (subst (λ (l : List Block). Each HasNullManifest (changesets_in l)) nil (null-views (changesets_in s.blocks) (saved.dumped).views))
    (subst (λ (l : List Block). AreParentsEarlier [] (changesets_in l)) nil (dump-earlier (changesets_in s.blocks) saved.dumped)))
