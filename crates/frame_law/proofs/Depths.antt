-- A member whose parents have partners has the same unmarkings and the same depth over both lists.
use Rattle.std.proofs.Common.{◌≡◌, ℕ, zero, suc, ◌≤◌, List, [], ◌∷◌, length, map, sym, ap, subst, ◌∙◌, inl, inr}
use Rattle.std.specs.Prelude.{option_map, unwrap_or}
use Rattle.std.specs.List.{AllZip}
use Rattle.std.proofs.lemmas.List.{length-map}
use Rattle.text_model.specs.Lists.{Each, In}
use Rattle.text_model.specs.Id.{Id, null}
use Rattle.view_model.specs.View.{ChangesetView, CommitView, SameChangeset, SameCommit, files_among}
use Rattle.pair_model.specs.Block.{Block, node_of, id_of, git_partner, hg_partner, not_null}
use Rattle.pair_model.specs.Octopus.{links_of, partners_of_parents}
use Rattle.partner_model.specs.Mark.{mark_commit, mark_changeset}
use Rattle.partner_model.specs.Partner.{Member, OfHg, OfGit, IsKnownAs, IsUnmarkedRow, Unmarks, UnmarksCommit, UnmarksChangeset, IsPlain, HasDepth, AreChangesetParentsPaired, AreCommitParentsPaired}
use Rattle.partner_model.specs.Given.{Peels}
use Rattle.frame_law.specs.Ground.{IsGround, AreParentsPaired}
use Rattle.text_model.proofs.Elements.{each_in}
use Rattle.unmark_law.proofs.Tables.{HasNode, HasId, finds, one_for, found_there}
use Rattle.depth_law.proofs.Back.{links_none}
use Rattle.unmark_law.proofs.CommitOne.{parents_are}
use Rattle.unmark_law.proofs.ChangesetOne.{q_is, there}
use Rattle.depth_law.proofs.PlainCommit.{commit_paired, commit_few}
use Rattle.depth_law.proofs.PlainChangeset.{nodes_back, first_is}
use Rattle.unmark_law.proofs.Same.{same_commit}
use Rattle.frame_law.proofs.Frame.{AreTwo, ground_table, parents_are_same, commit_same, changeset_same, links_same, partners_there}
use Rattle.frame_law.proofs.Links.{few_below}

-- ---- what is paired in the first list is in the second

node_there : (xs : List Block) (K : ChangesetView → Type 0) (ys : List Block) (L : ChangesetView → Type 0) → AreTwo xs K ys L → (n : Id) → HasNode xs n → HasNode ys n
node_there xs K ys L t n h =
    let f = finds node_of n xs h in
    subst (λ (m : Id). HasNode ys m) f.is (found_there node_of ys f.it (each_in (λ b. In b ys) xs f.it t.among f.among))

id_there : (xs : List Block) (K : ChangesetView → Type 0) (ys : List Block) (L : ChangesetView → Type 0) → AreTwo xs K ys L → (n : Id) → HasId xs n → HasId ys n
id_there xs K ys L t n h =
    let f = finds id_of n xs h in
    subst (λ (m : Id). HasId ys m) f.is (found_there id_of ys f.it (each_in (λ b. In b ys) xs f.it t.among f.among))

each_through : (P Q : Id → Type 0) → ((n : Id) → P n → Q n) → (ns : List Id) → Each P ns → Each Q ns
each_through P Q f [] h = tt
each_through P Q f (n ∷ ns) h = (f n h.0, each_through P Q f ns h.1)

pub paired_there : (xs : List Block) (K : ChangesetView → Type 0) (ys : List Block) (L : ChangesetView → Type 0) → AreTwo xs K ys L → (m : Member) → AreParentsPaired xs m → AreParentsPaired ys m
paired_there xs K ys L t (OfHg h) p = each_through (HasNode xs) (HasNode ys) (node_there xs K ys L t) (not_null (h.p ∷ h.q ∷ [])) p
paired_there xs K ys L t (OfGit c) p = each_through (HasId xs) (HasId ys) (id_there xs K ys L t) (c.value).parents p

-- a block of the second list whose commit is one of the first is in the first
node_back : (xs : List Block) (K : ChangesetView → Type 0) (ys : List Block) (L : ChangesetView → Type 0) → AreTwo xs K ys L → (n : Id) → HasNode ys n → HasId xs (git_partner ys n) → HasNode xs n
node_back xs K ys L t n h k =
    let d = finds node_of n ys h in
    let e = finds id_of (git_partner ys n) xs k in
    let is : git_partner ys n ≡ id_of d.it = ap (λ o. unwrap_or (option_map id_of o) null) d.found in
    let same = one_for id_of ys (t.second).ids e.it d.it (each_in (λ b. In b ys) xs e.it t.among e.among) d.among (e.is ∙ is) in
    subst (λ (m : Id). HasNode xs m) (ap node_of same ∙ d.is) (found_there node_of xs e.it e.among)

id_back : (xs : List Block) (K : ChangesetView → Type 0) (ys : List Block) (L : ChangesetView → Type 0) → AreTwo xs K ys L → (n : Id) → HasId ys n → HasNode xs (hg_partner ys n) → HasId xs n
id_back xs K ys L t n h k =
    let d = finds id_of n ys h in
    let e = finds node_of (hg_partner ys n) xs k in
    let is : hg_partner ys n ≡ node_of d.it = ap (λ o. unwrap_or (option_map node_of o) null) d.found in
    let same = one_for node_of ys (ground_table ys L t.second).nodes e.it d.it (each_in (λ b. In b ys) xs e.it t.among e.among) d.among (e.is ∙ is) in
    subst (λ (m : Id). HasId xs m) (ap id_of same ∙ d.is) (found_there id_of xs e.it e.among)

nodes_back_all : (xs : List Block) (K : ChangesetView → Type 0) (ys : List Block) (L : ChangesetView → Type 0) → AreTwo xs K ys L → (ns : List Id) → Each (HasNode ys) ns → Each (HasId xs) (map (git_partner ys) ns) → Each (HasNode xs) ns
nodes_back_all xs K ys L t [] h k = tt
nodes_back_all xs K ys L t (n ∷ ns) h k = (node_back xs K ys L t n h.0 k.0, nodes_back_all xs K ys L t ns h.1 k.1)

ids_back_all : (xs : List Block) (K : ChangesetView → Type 0) (ys : List Block) (L : ChangesetView → Type 0) → AreTwo xs K ys L → (ns : List Id) → Each (HasId ys) ns → Each (HasNode xs) (map (hg_partner ys) ns) → Each (HasId xs) ns
ids_back_all xs K ys L t [] h k = tt
ids_back_all xs K ys L t (n ∷ ns) h k = (id_back xs K ys L t n h.0 k.0, ids_back_all xs K ys L t ns h.1 k.1)

-- ---- unmarkings

-- those of a commit
pub commit_down : (xs : List Block) (K : ChangesetView → Type 0) (ys : List Block) (L : ChangesetView → Type 0) → AreTwo xs K ys L → (c : CommitView) (h : ChangesetView) → UnmarksCommit xs c h → UnmarksCommit ys c h
commit_down xs K ys L t c h u = record {
  view = u.view;
  no_link = u.no_link;
  paired = paired_there xs K ys L t (OfHg h) u.paired;
  marked = subst (λ x. SameCommit x c) (commit_same xs K ys L t h u.paired) u.marked;
  bodies = subst (λ x. AllZip (IsUnmarkedRow x) h.rows (files_among c.rows)) (parents_are_same xs K ys L t h u.paired) u.bodies;
}

-- the changeset of a marked commit has its parents where the commit has them
pub below_paired : (xs : List Block) (K : ChangesetView → Type 0) (ys : List Block) (L : ChangesetView → Type 0) → AreTwo xs K ys L → (c : CommitView) (h : ChangesetView) → AreCommitParentsPaired xs c → AreChangesetParentsPaired ys h → SameCommit (mark_commit ys h) c → AreChangesetParentsPaired xs h
below_paired xs K ys L t c h pc ph marked =
    let ids : (c.value).parents ≡ map (git_partner ys) (not_null (h.p ∷ h.q ∷ [])) = ap (λ x. x.parents) (sym marked.value) ∙ parents_are ys h in
    nodes_back_all xs K ys L t (not_null (h.p ∷ h.q ∷ [])) ph (subst (λ x. Each (HasId xs) x) ids pc)

pub commit_up : (xs : List Block) (K : ChangesetView → Type 0) (ys : List Block) (L : ChangesetView → Type 0) → AreTwo xs K ys L → (c : CommitView) (h : ChangesetView) → AreCommitParentsPaired xs c → UnmarksCommit ys c h → UnmarksCommit xs c h
commit_up xs K ys L t c h p u =
    let paired = below_paired xs K ys L t c h p u.paired u.marked in
    record {
      view = u.view;
      no_link = u.no_link;
      paired = paired;
      marked = subst (λ x. SameCommit x c) (sym (commit_same xs K ys L t h paired)) u.marked;
      bodies = subst (λ x. AllZip (IsUnmarkedRow x) h.rows (files_among c.rows)) (sym (parents_are_same xs K ys L t h paired)) u.bodies;
    }

-- those of a changeset
pub changeset_down : (xs : List Block) (K : ChangesetView → Type 0) (ys : List Block) (L : ChangesetView → Type 0) → AreTwo xs K ys L → (h : ChangesetView) (c : CommitView) → UnmarksChangeset xs K h c → Each (IsKnownAs L) (links_of xs c) → UnmarksChangeset ys L h c
changeset_down xs K ys L t h c u w = record {
  view = u.view;
  paired = paired_there xs K ys L t (OfGit c) u.paired;
  marked = subst (λ x. SameChangeset x h) (changeset_same xs K ys L t c u.paired) u.marked;
  walked = subst (λ x. Each (IsKnownAs L) x) (links_same xs K ys L t c u.paired) w;
  bodies = u.bodies;
}

-- the parents of the changeset of a commit with two parents at most
pub those_parents : (ys : List Block) (L : ChangesetView → Type 0) → IsGround ys L → (c : CommitView) → AreCommitParentsPaired ys c → length (partners_of_parents ys c) ≤ 2 → not_null ((mark_changeset ys c).p ∷ (mark_changeset ys c).q ∷ []) ≡ partners_of_parents ys c
those_parents ys L g c paired few =
    let p = first_is ys c few in
    let q = q_is ys c in
    (λ i. not_null (p i ∷ q i ∷ [])) ∙ nodes_back (partners_of_parents ys c) (there ys (ground_table ys L g) (c.value).parents paired) few

-- and the same of a changeset like it
pub like_parents : (ys : List Block) (L : ChangesetView → Type 0) → IsGround ys L → (h : ChangesetView) (c : CommitView) → UnmarksChangeset ys L h c → length (partners_of_parents ys c) ≤ 2 → not_null (h.p ∷ h.q ∷ []) ≡ partners_of_parents ys c
like_parents ys L g h c u few = (λ i. not_null (sym (u.marked).p i ∷ sym (u.marked).q i ∷ [])) ∙ those_parents ys L g c u.paired few

pub changeset_up : (xs : List Block) (K : ChangesetView → Type 0) (ys : List Block) (L : ChangesetView → Type 0) → AreTwo xs K ys L → (h : ChangesetView) (c : CommitView) → AreChangesetParentsPaired xs h → UnmarksChangeset ys L h c → UnmarksChangeset xs K h c
changeset_up xs K ys L t h c p u =
    let few = few_below ys L t.second h c (paired_there xs K ys L t (OfHg h) p) u in
    let nodes = subst (λ x. Each (HasNode xs) x) (like_parents ys L t.second h c u few) p in
    let paired = ids_back_all xs K ys L t (c.value).parents u.paired nodes in
    let none : links_of xs c ≡ [] = links_same xs K ys L t c paired ∙ links_none ys c few in
    record {
      view = u.view;
      paired = paired;
      marked = subst (λ x. SameChangeset x h) (sym (changeset_same xs K ys L t c paired)) u.marked;
      walked = subst (λ x. Each (IsKnownAs K) x) (sym none) tt;
      bodies = u.bodies;
    }

-- those of any member whose parents have partners
pub down : (xs : List Block) (K : ChangesetView → Type 0) (ys : List Block) (L : ChangesetView → Type 0) → AreTwo xs K ys L → (m k : Member) → AreParentsPaired xs m → Unmarks xs K m k → Unmarks ys L m k
down xs K ys L t (OfGit c) (OfHg h) p u = commit_down xs K ys L t c h u
down xs K ys L t (OfGit c) (OfGit d) p u = absurd u
down xs K ys L t (OfHg h) (OfHg k) p u = absurd u
down xs K ys L t (OfHg h) (OfGit c) p u =
    let few = few_below xs K t.first h c p u in
    changeset_down xs K ys L t h c u (subst (λ x. Each (IsKnownAs L) x) (sym (links_none xs c few)) tt)

pub up : (xs : List Block) (K : ChangesetView → Type 0) (ys : List Block) (L : ChangesetView → Type 0) → AreTwo xs K ys L → (m k : Member) → AreParentsPaired xs m → Unmarks ys L m k → Unmarks xs K m k
up xs K ys L t (OfGit c) (OfHg h) p u = commit_up xs K ys L t c h p u
up xs K ys L t (OfGit c) (OfGit d) p u = absurd u
up xs K ys L t (OfHg h) (OfHg k) p u = absurd u
up xs K ys L t (OfHg h) (OfGit c) p u = changeset_up xs K ys L t h c p u

-- an unmarking's parents have partners
pub next_paired : (xs : List Block) (K : ChangesetView → Type 0) (m k : Member) → Unmarks xs K m k → AreParentsPaired xs k
next_paired xs K (OfGit c) (OfHg h) u = u.paired
next_paired xs K (OfGit c) (OfGit d) u = absurd u
next_paired xs K (OfHg h) (OfHg k) u = absurd u
next_paired xs K (OfHg h) (OfGit c) u = u.paired

-- ---- plain members

marked_paired : (xs : List Block) (K : ChangesetView → Type 0) → IsGround xs K → (c : CommitView) → AreCommitParentsPaired xs c → length (c.value).parents ≤ 2 → AreChangesetParentsPaired xs (mark_changeset xs c)
marked_paired xs K g c paired few = subst (λ x. Each (HasNode xs) x) (sym (those_parents xs K g c paired (simp length-map few))) (partners_there xs c paired)

-- the commit marked there and back
there_and_back : (xs : List Block) (K : ChangesetView → Type 0) (ys : List Block) (L : ChangesetView → Type 0) → AreTwo xs K ys L → (c : CommitView) → AreCommitParentsPaired xs c → length (c.value).parents ≤ 2 → mark_commit xs (mark_changeset xs c) ≡ mark_commit ys (mark_changeset ys c)
there_and_back xs K ys L t c p few = commit_same xs K ys L t (mark_changeset xs c) (marked_paired xs K t.first c p few) ∙ ap (mark_commit ys) (changeset_same xs K ys L t c p)

back_and_there : (xs : List Block) (K : ChangesetView → Type 0) (ys : List Block) (L : ChangesetView → Type 0) → AreTwo xs K ys L → (h : ChangesetView) → AreChangesetParentsPaired xs h → mark_changeset xs (mark_commit xs h) ≡ mark_changeset ys (mark_commit ys h)
back_and_there xs K ys L t h p = changeset_same xs K ys L t (mark_commit xs h) (commit_paired xs (mark_commit xs h) h p (same_commit (mark_commit xs h))) ∙ ap (mark_changeset ys) (commit_same xs K ys L t h p)

pub plain_down : (xs : List Block) (K : ChangesetView → Type 0) (ys : List Block) (L : ChangesetView → Type 0) → AreTwo xs K ys L → (m : Member) → AreParentsPaired xs m → IsPlain xs m → IsPlain ys m
plain_down xs K ys L t (OfHg h) p e = (paired_there xs K ys L t (OfHg h) p, subst (λ x. SameChangeset x h) (back_and_there xs K ys L t h p) e.1)
plain_down xs K ys L t (OfGit c) p e = (paired_there xs K ys L t (OfGit c) p, subst (λ x. SameCommit x c) (there_and_back xs K ys L t c p (commit_few xs c (mark_changeset xs c) e.1)) e.1)

pub plain_up : (xs : List Block) (K : ChangesetView → Type 0) (ys : List Block) (L : ChangesetView → Type 0) → AreTwo xs K ys L → (m : Member) → AreParentsPaired xs m → IsPlain ys m → IsPlain xs m
plain_up xs K ys L t (OfHg h) p e = (p, subst (λ x. SameChangeset x h) (sym (back_and_there xs K ys L t h p)) e.1)
plain_up xs K ys L t (OfGit c) p e = (p, subst (λ x. SameCommit x c) (sym (there_and_back xs K ys L t c p (commit_few ys c (mark_changeset ys c) e.1))) e.1)

-- ---- depths

pub depth_down : (xs : List Block) (K : ChangesetView → Type 0) (ys : List Block) (L : ChangesetView → Type 0) → AreTwo xs K ys L → (n : ℕ) (m : Member) → AreParentsPaired xs m → HasDepth xs K n m → HasDepth ys L n m
unfolding HasDepth
depth_down xs K ys L t zero m p (inl e) = inl (plain_down xs K ys L t m p e)
depth_down xs K ys L t zero m p (inr none) = inr (λ k u. none k (up xs K ys L t m k p u))
depth_down xs K ys L t (suc n) m p h = ((λ e. h.0 (plain_up xs K ys L t m p e)), h.1, down xs K ys L t m h.1 p h.2, depth_down xs K ys L t n h.1 (next_paired xs K m h.1 h.2) h.3)

pub depth_up : (xs : List Block) (K : ChangesetView → Type 0) (ys : List Block) (L : ChangesetView → Type 0) → AreTwo xs K ys L → (n : ℕ) (m : Member) → AreParentsPaired xs m → HasDepth ys L n m → HasDepth xs K n m
unfolding HasDepth
depth_up xs K ys L t zero m p (inl e) = inl (plain_up xs K ys L t m p e)
depth_up xs K ys L t zero m p (inr none) = inr (λ k u. none k (down xs K ys L t m k p u))
depth_up xs K ys L t (suc n) m p h =
    let u = up xs K ys L t m h.1 p h.2 in
    ((λ e. h.0 (plain_down xs K ys L t m p e)), h.1, u, depth_up xs K ys L t n h.1 (next_paired xs K m h.1 u) h.3)

pub peels_down : (xs : List Block) (K : ChangesetView → Type 0) (ys : List Block) (L : ChangesetView → Type 0) → AreTwo xs K ys L → (i : ℕ) (m k : Member) → AreParentsPaired xs m → Peels xs K i m k → Peels ys L i m k
unfolding Peels
peels_down xs K ys L t zero m k p h = h
peels_down xs K ys L t (suc i) m k p h = ((λ e. h.0 (plain_up xs K ys L t m p e)), h.1, down xs K ys L t m h.1 p h.2, peels_down xs K ys L t i h.1 k (next_paired xs K m h.1 h.2) h.3)

pub peels_up : (xs : List Block) (K : ChangesetView → Type 0) (ys : List Block) (L : ChangesetView → Type 0) → AreTwo xs K ys L → (i : ℕ) (m k : Member) → AreParentsPaired xs m → Peels ys L i m k → Peels xs K i m k
unfolding Peels
peels_up xs K ys L t zero m k p h = h
peels_up xs K ys L t (suc i) m k p h =
    let u = up xs K ys L t m h.1 p h.2 in
    ((λ e. h.0 (plain_down xs K ys L t m p e)), h.1, u, peels_up xs K ys L t i h.1 k (next_paired xs K m h.1 u) h.3)
