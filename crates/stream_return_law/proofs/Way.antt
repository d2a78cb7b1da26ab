-- Where bodies of one blob id are one, a changeset is the exact partner of its partner; then neither is too deep and neither meets a collision of bodies, where the
-- other is and does neither.
use Rattle.std.proofs.Common.{◌≡◌, ℕ, zero, suc, ◌<◌, ◌≤◌, ◌+◌, ◌-◌, ◌%◌, Bool, true, false, List, [], ◌∷◌, ◌++◌, map, refl, sym, ap, subst, ◌∙◌, inl, inr, ◌⊎◌, arith, leb-true, leb-false}
use Rattle.std.specs.Prelude.{nat_le}
use Rattle.text_model.specs.Lists.{In}
use Rattle.text_model.specs.Id.{Id, blob_id}
use Rattle.git_model.specs.Object.{Object}
use Rattle.view_model.specs.View.{FileRevision, Row, TreeRow, ChangesetView, IsChangesetView, CommitView, SameRow, SameRows, SameCommit, SameChangeset, Compared, files_among, HaveSameBodies, HasBodiesOf, changeset_node}
use Rattle.pair_model.specs.Block.{Block, changesets_in, view_or_none, Parents, parents_among}
use Rattle.pair_model.specs.Rule.{ruled_row, revision_at}
use Rattle.pair_model.specs.Octopus.{is_link_view, links_of, partners_of_parents, parents_of_commit, last_id, first_of, second_of}
use Rattle.partner_model.specs.Mark.{mark_commit, mark_changeset}
use Rattle.partner_model.specs.Partner.{Member, OfHg, OfGit, UnmarksCommit, UnmarksChangeset, HasDepth, IsPartner}
use Rattle.partner_model.specs.Given.{IsCommitFor, IsChangesetFor, IsTooDeep, Peels, depth_limit}
use Rattle.partner_model.specs.Clash.{MeetsCollision, IsColliding}
use Rattle.partner_model.specs.Table.{IsTable, AreApart, AreBlobsApart}
use Rattle.unmark_law.proofs.Same.{same_commit}
use Rattle.unmark_law.proofs.ChangesetOne.{rows_are}
use Rattle.depth_law.proofs.Falls.{IsBare, plain_is_bare}
use Rattle.depth_law.proofs.Depths.{bare_or_not, unmarking_one}
use Rattle.depth_law.proofs.PlainCommit.{plain_commit, commit_is_plain, commit_paired}
use Rattle.partner_law.proofs.Agreeing.{IsHeld, unmarks_from}
use Rattle.partner_law.proofs.Agreeing.{source_by}
use Rattle.partner_law.proofs.Given.{ruled_by, revision_is}
use Rattle.partner_law.proofs.Choices.{depth_is_below}
use Rattle.partner_law.proofs.Returns.{plain_depth, odd_above, even_below}

-- ---- the rows of a marked changeset

row_exact : (views : List ChangesetView) (p q : Id) (h : ChangesetView) (row : Row) (of : TreeRow) → AreBlobsApart (h ∷ views) → In row h.rows → SameRow (ruled_row (parents_among views p q) of) row → (row.revision).body ≡ of.content
    → ruled_row (parents_among views p q) of ≡ row
row_exact views p q h row of apart among s b = by (source_by views p q of.path of.id of.content)
  where
    found : FileRevision
    found = ruled_by (revision_at (view_or_none views p).rows of.path) (revision_at (view_or_none views q).rows of.path) of.id of.content

    is : (ruled_row (parents_among views p q) of).revision ≡ found
    is = revision_is (parents_among views p q) of

    whole : found.body ≡ (row.revision).body → ruled_row (parents_among views p q) of ≡ row
    whole e =
        let body : ((ruled_row (parents_among views p q) of).revision).body ≡ (row.revision).body = ap (λ x. x.body) is ∙ e in
        λ i. record { path = s.0 i; flag = s.1 i; revision = record { p = (s.2 i).p; q = (s.2 i).q; meta = (s.2 i).meta; body = body i } }

    by : IsHeld views found ⊎ (found.body ≡ of.content) → ruled_row (parents_among views p q) of ≡ row
    by (inr e) = whole (e ∙ sym b)
    by (inl k) =
        let ids : blob_id ((k.row).revision).body ≡ blob_id (row.revision).body = ap (λ x. blob_id x.body) (k.is ∙ sym is) ∙ ap (λ (x : Compared). x.body) s.2 in
        whole (ap (λ x. x.body) (sym k.is) ∙ apart k.view h k.row row (inr k.among) (inl refl) k.in_rows among ids)

rows_exact : (views : List ChangesetView) (p q : Id) (h : ChangesetView) (rows : List Row) (cs : List TreeRow) → AreBlobsApart (h ∷ views) → ((row : Row) → In row rows → In row h.rows)
    → SameRows (map (ruled_row (parents_among views p q)) cs) rows → HaveSameBodies rows cs → map (ruled_row (parents_among views p q)) cs ≡ rows
rows_exact views p q h [] [] apart f s b = refl
rows_exact views p q h [] (c ∷ cs) apart f s b = absurd s
rows_exact views p q h (r ∷ rs) [] apart f s b = absurd s
rows_exact views p q h (r ∷ rs) (c ∷ cs) apart f s b =
    let e = row_exact views p q h r c apart (f r (inl refl)) s.0 b.1 in
    let t = rows_exact views p q h rs cs apart (λ row i. f row (inr i)) s.1 b.2 in
    λ i. e i ∷ t i

pub over_is : (blocks : List Block) (c : CommitView) → parents_of_commit blocks c ≡ parents_among (links_of blocks c ++ changesets_in blocks) (last_id (first_of (partners_of_parents blocks c) ∷ map changeset_node (links_of blocks c))) (second_of (partners_of_parents blocks c))
unfolding parents_of_commit
over_is blocks c = refl

-- a changeset like the marked one, with the bodies of the commit, is the marked one
pub changeset_exact : (blocks : List Block) (h : ChangesetView) (c : CommitView) → AreBlobsApart (h ∷ links_of blocks c ++ changesets_in blocks) → SameChangeset (mark_changeset blocks c) h → HaveSameBodies h.rows (files_among c.rows) → mark_changeset blocks c ≡ h
changeset_exact blocks h c apart s b =
    let views : List ChangesetView = links_of blocks c ++ changesets_in blocks in
    let p : Id = last_id (first_of (partners_of_parents blocks c) ∷ map changeset_node (links_of blocks c)) in
    let q : Id = second_of (partners_of_parents blocks c) in
    let is : (mark_changeset blocks c).rows ≡ map (ruled_row (parents_among views p q)) (files_among c.rows) = rows_are blocks c ∙ ap (λ (x : Parents). map (ruled_row x) (files_among c.rows)) (over_is blocks c) in
    let rows = is ∙ rows_exact views p q h h.rows (files_among c.rows) apart (λ row i. i) (subst (λ x. SameRows x h.rows) is s.rows) b in
    λ i. record { p = s.p i; q = s.q i; fields = s.fields i; manifest = s.manifest i; rows = rows i }

-- ---- the way back

-- the exact partner is one
pub partner_of : (blocks : List Block) (K : ChangesetView → Type 0) (h : ChangesetView) (c : CommitView) → IsCommitFor blocks K h c → IsPartner blocks K (OfHg h) (OfGit c)
partner_of blocks K h c (inl x) = inl (x.0, x.1, subst (SameCommit (mark_commit blocks h)) (sym x.2) (same_commit (mark_commit blocks h)))
partner_of blocks K h c (inr x) = inr x

pub way_back : (blocks : List Block) (K : ChangesetView → Type 0) → IsTable blocks → AreApart K → (h : ChangesetView) (c : CommitView) → IsChangesetView h → is_link_view h ≡ false → HasBodiesOf h.rows c.rows
    → AreBlobsApart (h ∷ changesets_in blocks) → AreBlobsApart (h ∷ links_of blocks c ++ changesets_in blocks) → IsPartner blocks K (OfHg h) (OfGit c) → IsChangesetFor blocks K c h
way_back blocks K t a h c view plain bodies one more (inl x) =
    let u = unmarks_from blocks h c one view plain x.1 x.2 bodies in
    by u (bare_or_not (OfGit c))
  where
    by : UnmarksCommit blocks c h → IsBare (OfGit c) ⊎ (¬ (IsBare (OfGit c))) → IsChangesetFor blocks K c h
    by u (inl b) = inl (plain_depth blocks K (OfGit c) (commit_is_plain blocks t c h u b), commit_paired blocks c h u.paired u.marked, sym (plain_commit blocks t c h u b))
    by u (inr n) = inr (odd_above blocks K (OfGit c) (OfHg h) u n x.0, u)
way_back blocks K t a h c view plain bodies one more (inr x) = inl (even_below blocks K t a (OfHg h) (OfGit c) x.1 x.0, (x.1).paired, sym (changeset_exact blocks h c more (x.1).marked bodies))

-- ---- how deep

peels_there : (blocks : List Block) (K : ChangesetView → Type 0) (i j : ℕ) (m : Member) → HasDepth blocks K (i + j) m → (k : Member) × Peels blocks K i m k
unfolding HasDepth Peels
peels_there blocks K zero j m h = (m, refl)
peels_there blocks K (suc i) j m h =
    let e : suc i + j ≡ suc (i + j) = omega arith in
    let g : HasDepth blocks K (suc (i + j)) m = subst (λ (x : ℕ). HasDepth blocks K x m) e h in
    let r = peels_there blocks K i j g.1 g.3 in
    (r.0, (g.0, g.1, g.2, r.1))

pub low : (blocks : List Block) (K : ChangesetView → Type 0) (n : ℕ) (m : Member) → HasDepth blocks K n m → ¬ (IsTooDeep blocks K m) → n < depth_limit
low blocks K n m h not = by (nat_le depth_limit n) refl
  where
    by : (t : Bool) → nat_le depth_limit n ≡ t → n < depth_limit
    by true e =
        let l : depth_limit ≤ n = leb-true depth_limit n e in
        let is : n ≡ depth_limit + (n - depth_limit) = omega (arith, l) in
        absurd (not (peels_there blocks K depth_limit (n - depth_limit) m (subst (λ (x : ℕ). HasDepth blocks K x m) is h)))
    by false e = omega (arith, leb-false depth_limit n e)

pub not_deep_back : (blocks : List Block) (K : ChangesetView → Type 0) → IsTable blocks → AreApart K → (h : ChangesetView) (c : CommitView) → IsChangesetView h → is_link_view h ≡ false → HasBodiesOf h.rows c.rows
    → AreBlobsApart (h ∷ changesets_in blocks) → IsPartner blocks K (OfHg h) (OfGit c) → ¬ (IsTooDeep blocks K (OfHg h)) → ¬ (IsTooDeep blocks K (OfGit c))
unfolding HasDepth
not_deep_back blocks K t a h c view plain bodies one (inl x) not =
    let u = unmarks_from blocks h c one view plain x.1 x.2 bodies in
    by u (bare_or_not (OfGit c))
  where
    by : UnmarksCommit blocks c h → IsBare (OfGit c) ⊎ (¬ (IsBare (OfGit c))) → ¬ (IsTooDeep blocks K (OfGit c))
    by u (inl b) = depth_is_below blocks K t a (OfGit c) 0 (inl (commit_is_plain blocks t c h u b)) (omega arith)
    by u (inr n) =
        let less = low blocks K (x.0).0 (OfHg h) (x.0).2 not in
        depth_is_below blocks K t a (OfGit c) (suc (x.0).0) ((λ p. n (plain_is_bare blocks (OfGit c) p)), OfHg h, u, (x.0).2) (omega (arith, less, (x.0).1))
not_deep_back blocks K t a h c view plain bodies one (inr x) not = by (x.0).0 (x.0).1 (x.0).2 (low blocks K (x.0).0 (OfHg h) (x.0).2 not)
  where
    by : (n : ℕ) → n % 2 ≡ 1 → HasDepth blocks K n (OfHg h) → n < depth_limit → ¬ (IsTooDeep blocks K (OfGit c))
    by zero e d less = absurd (omega arith)
    by (suc n) e d less =
        let same = unmarking_one blocks K t a (OfHg h) d.1 (OfGit c) d.2 x.1 in
        depth_is_below blocks K t a (OfGit c) n (subst (λ (z : Member). HasDepth blocks K n z) same d.3) (omega (arith, less))

-- ---- collisions of bodies

pub no_collision_back : (blocks : List Block) (K : ChangesetView → Type 0) → IsTable blocks → AreApart K → (objects : List Object) (h : ChangesetView) (c : CommitView) → IsChangesetView h → is_link_view h ≡ false → HasBodiesOf h.rows c.rows
    → AreBlobsApart (h ∷ changesets_in blocks) → IsPartner blocks K (OfHg h) (OfGit c) → ¬ (IsTooDeep blocks K (OfHg h)) → ¬ (MeetsCollision blocks K objects (OfHg h)) → ¬ (MeetsCollision blocks K objects (OfGit c))
unfolding Peels HasDepth
no_collision_back blocks K t a objects h c view plain bodies one partner low free m = by m.count m.below m.peels partner
  where
    below : (i : ℕ) (n : Member) → i < depth_limit → n ≡ OfHg h → Peels blocks K i n m.member → ⊥
    below i n less e p = free (record { count = i; below = less; member = m.member; peels = subst (λ (x : Member). Peels blocks K i x m.member) e p; marked = m.marked; collides = m.collides })

    above : (n i : ℕ) → n % 2 ≡ 1 → HasDepth blocks K n (OfHg h) → UnmarksChangeset blocks K h c → i < depth_limit → Peels blocks K i (OfGit c) m.member → ⊥
    above zero i e d u less p = absurd (omega arith)
    above (suc n) i e d u less p = deeper (nat_le depth_limit (suc i)) refl
      where
        whole : Peels blocks K (suc i) (OfHg h) m.member
        whole = (d.0, OfGit c, u, p)

        deeper : (k : Bool) → nat_le depth_limit (suc i) ≡ k → ⊥
        deeper true f =
            let l : depth_limit ≤ suc i = leb-true depth_limit (suc i) f in
            let is : suc i ≡ depth_limit = omega (arith, l, less) in
            low (m.member, subst (λ (j : ℕ). Peels blocks K j (OfHg h) m.member) is whole)
        deeper false f = below (suc i) (OfHg h) (omega (arith, leb-false depth_limit (suc i) f)) refl whole

    by : (i : ℕ) → i < depth_limit → Peels blocks K i (OfGit c) m.member → IsPartner blocks K (OfHg h) (OfGit c) → ⊥
    by zero less p (inl x) = absurd (subst (λ (k : Member). IsColliding blocks K objects k) (sym p) m.collides)
    by (suc i) less p (inl x) =
        let u = unmarks_from blocks h c one view plain x.1 x.2 bodies in
        below i p.1 (omega (arith, less)) (unmarking_one blocks K t a (OfGit c) p.1 (OfHg h) p.2 u) p.3
    by i less p (inr x) = above (x.0).0 i (x.0).1 (x.0).2 x.1 less p
