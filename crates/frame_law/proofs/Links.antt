-- A changeset over changesets of blocks has no unmarking with links.
use Rattle.std.proofs.Common.{◌≡◌, ◌≢◌, ℕ, ◌≤◌, true, false, List, [], ◌∷◌, length, map, refl, sym, ap, subst, ◌∙◌, arith}
use Rattle.std.proofs.lemmas.Bool.{true≢false, false_from_ne_true}
use Rattle.text_model.specs.Lists.{Each}
use Rattle.text_model.specs.Id.{Id, null, is_null}
use Rattle.text_model.proofs.Elements.{each_in}
use Rattle.text_model.proofs.EachLemmas.{Each-weaker}
use Rattle.view_model.specs.View.{ChangesetView, CommitView, changeset_node, commit_id, SameChangeset}
use Rattle.pair_model.specs.Block.{Block, node_of, not_null, changesets_in, view_or_none}
use Rattle.pair_model.specs.Octopus.{is_link_view, links_over, links_by, links_of, partners_of_parents, is_link, last_id, first_of}
use Rattle.partner_model.specs.Partner.{IsKnownAs, AreChangesetParentsPaired, AreCommitParentsPaired, UnmarksChangeset}
use Rattle.unmark_law.proofs.Tables.{eq_true, HasNode, finds}
use Rattle.next_law.proofs.Links.{links-good}
use Rattle.next_law.proofs.Linked.{partners-some}
use Rattle.next_law.proofs.Alike.{node-same}
use Rattle.next_law.proofs.InTime.{marked-first}
use Rattle.frame_law.specs.Ground.{IsGround}
use Rattle.frame_law.proofs.Lists.{last_is}
use Rattle.frame_law.proofs.Frame.{block_in, ground_table}

null_is : (x : Id) → x ≢ null → is_null x ≡ false
null_is x n = false_from_ne_true (is_null x) (λ e. n (eq_true x null e))

known_real : (blocks : List Block) (Known : ChangesetView → Type 0) → IsGround blocks Known → (v : ChangesetView) → IsKnownAs Known v → changeset_node v ≢ null
known_real blocks Known g v k e = g.real k.0 k.1 (node-same k.0 v k.2 ∙ e)

-- known links of a commit have the form
pub links_are_links : (blocks : List Block) (Known : ChangesetView → Type 0) → IsGround blocks Known → (c : CommitView) → length (c.value).parents ≤ 64 → AreCommitParentsPaired blocks c → Each (IsKnownAs Known) (links_of blocks c)
    → Each (λ l. is_link_view l ≡ true) (links_of blocks c)
links_are_links blocks Known g c few paired w =
    links-good blocks c few (partners-some blocks (ground_table blocks Known g) (c.value).parents paired)
    (Each-weaker (IsKnownAs Known) (λ l. is_null (changeset_node l) ≡ false) (λ l k. null_is (changeset_node l) (known_real blocks Known g l k)) (links_of blocks c) w)

link_same : (k l : ChangesetView) → SameChangeset k l → is_link_view k ≡ is_link_view l
link_same k l s = λ i. is_link (s.fields i) (s.p i) (s.q i)

-- the node of a known link is that of no block
pub no_block : (blocks : List Block) (Known : ChangesetView → Type 0) → IsGround blocks Known → (l : ChangesetView) → IsKnownAs Known l → is_link_view l ≡ true → HasNode blocks (changeset_node l) → ⊥
no_block blocks Known g l k link h =
    let f = finds node_of (changeset_node l) blocks h in
    let known = each_in Known (changesets_in blocks) (f.it).changeset g.known (block_in blocks f.it f.among) in
    let same = g.apart k.0 (f.it).changeset k.1 known (node-same k.0 l k.2 ∙ sym f.is) in
    true≢false (sym link ∙ sym (link_same k.0 l k.2) ∙ link_same k.0 (f.it).changeset same ∙ each_in (λ b. is_link_view b.changeset ≡ false) blocks f.it g.no_links f.among)

-- ---- a commit whose changeset is over changesets of blocks has no links

few_from_none : (id : Id) (base : ChangesetView) (n k : ℕ) (before : Id) (xs : List Id) → links_over id base n k before xs ≡ [] → length xs ≤ 1
unfolding links_over
few_from_none id base n k before [] e = omega arith
few_from_none id base n k before (x ∷ []) e = omega arith
few_from_none id base n k before (x ∷ y ∷ rest) e = absurd cc

few_by : (blocks : List Block) (id : Id) (n : ℕ) (xs : List Id) → links_by blocks id n xs ≡ [] → length xs ≤ 2
few_by blocks id n [] e = omega arith
few_by blocks id n (x ∷ rest) e = omega (arith, few_from_none id (view_or_none (changesets_in blocks) x) n 1 x rest e)

links_unfolded : (blocks : List Block) (c : CommitView) → links_of blocks c ≡ links_by blocks (commit_id c) (length (c.value).parents) (partners_of_parents blocks c)
unfolding links_of
links_unfolded blocks c = refl

head_paired : (P : Id → Type 0) (n : Id) (rest : List Id) → n ≢ null → Each P (not_null (n ∷ rest)) → P n
head_paired P n rest not h =
    let e : is_null n ≡ false = null_is n not in
    let g = rw e at h in
    g.0

-- an unmarking of a changeset over changesets of blocks has two parents at most
pub few_below : (blocks : List Block) (Known : ChangesetView → Type 0) → IsGround blocks Known → (h : ChangesetView) (c : CommitView) → AreChangesetParentsPaired blocks h → UnmarksChangeset blocks Known h c → length (partners_of_parents blocks c) ≤ 2
few_below blocks Known g h c paired u = by (links_of blocks c) refl
  where
    by : (ls : List ChangesetView) → links_of blocks c ≡ ls → length (partners_of_parents blocks c) ≤ 2
    by [] e = few_by blocks (commit_id c) (length (c.value).parents) (partners_of_parents blocks c) (sym (links_unfolded blocks c) ∙ e)
    by (l ∷ ls) e =
        let r = last_is changeset_node (first_of (partners_of_parents blocks c)) l ls in
        let walked = subst (λ x. Each (IsKnownAs Known) x) e u.walked in
        let links = subst (λ x. Each (λ l. is_link_view l ≡ true) x) e (links_are_links blocks Known g c (u.view).few u.paired u.walked) in
        let known = each_in (IsKnownAs Known) (l ∷ ls) r.it walked r.among in
        let link = each_in (λ l. is_link_view l ≡ true) (l ∷ ls) r.it links r.among in
        let p : h.p ≡ changeset_node r.it = sym (u.marked).p ∙ marked-first blocks c ∙ ap (λ x. last_id (first_of (partners_of_parents blocks c) ∷ map changeset_node x)) e ∙ r.is in
        let real = known_real blocks Known g r.it known in
        let own_block : HasNode blocks h.p = head_paired (HasNode blocks) h.p (h.q ∷ []) (λ z. real (sym p ∙ z)) paired in
        absurd (no_block blocks Known g r.it known link (subst (λ (x : Id). HasNode blocks x) p own_block))
