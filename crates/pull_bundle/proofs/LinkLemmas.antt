-- Changesets of the form of a link, and the links of a partner, which are held.
use Rattle.std.proofs.Common.{◌≡◌, ◌≢◌, ◌≤◌, ◌+◌, ◌-◌, ℕ, Bool, true, false, true≢false, List, [], ◌∷◌, length, map, refl, sym, ap, subst, ◌∙◌, inl, inr, arith}
use Rattle.std.specs.Prelude.{is_some, IsTrue, ◌↔◌}
use Rattle.std.proofs.lemmas.List.{length-map}
use Rattle.text_model.specs.Lists.{Each}
use Rattle.text_model.specs.Id.{Id, is_null, node_id}
use Rattle.text_model.proofs.Options.{some_is}
use Rattle.hg_model.specs.Changeset.{Changeset, IsChangesetText, changeset_text}
use Rattle.hg_model.specs.Revision.{Revision, Changesets, revision_of, knows}
use Rattle.hg_model.proofs.ChangesetLemmas.{one_changeset}
use Rattle.hg_store.specs.Views.{IsChangesetOf}
use Rattle.view_model.specs.View.{ChangesetView, CommitView, ManifestParents, Row, SameChangeset, changeset_node, commit_id}
use Rattle.view_model.specs.Held.{IsFileHeld, IsManifestHeld, IsChangesetHeld, AreChangesetsHeld}
use Rattle.pair_model.specs.Block.{Block, block_of_id, changesets_in, hg_partner, git_partner, not_null, view_or_none}
use Rattle.pair_model.specs.Octopus.{is_link, is_link_view, link_view, links_over, links_by, links_of, partners_of_parents}
use Rattle.pair_model.specs.Rule.{rule_commit}
use Rattle.partner_model.specs.Mark.{mark_commit}
use Rattle.partner_model.specs.Given.{IsCommitFor}
use Rattle.partner_model.specs.Partner.{IsHeldView, IsKnownAs}
use Rattle.history_model.specs.Pull.{IsKnownLink}
use Rattle.pair_known.specs.declared.known.Known.{Known}
use Rattle.pair_known.specs.Blocks.{IsHistoryHeld}
use Rattle.link_rule.proofs.PartnerViews.{partner-held}

-- ---- the form

pub known-link : (known : List Revision) (node : Id) (p q : Id) (x : Changeset) (b : Bool) → IsChangesetOf known node p q x → b ≡ is_link x p q → IsTrue b ↔ IsKnownLink known node
known-link known node p q x b of is = (there, back)
  where
    there : b ≡ true → IsKnownLink known node
    there e = record { revision = of.revision; is_held = of.is_held; fields = x; text = of.fields; link = (λ i. is_link x (sym of.first i) (sym of.second i)) ∙ sym is ∙ e }

    back : IsKnownLink known node → b ≡ true
    back k =
        let same : k.revision ≡ of.revision = some_is (sym k.is_held ∙ of.is_held) in
        let fields : k.fields ≡ x = one_changeset (of.revision).text k.fields x (subst (λ (r : Revision). IsChangesetText r.text k.fields) same k.text) of.fields in
        is ∙ (λ i. is_link (sym fields i) (of.first i) (of.second i)) ∙ (λ i. is_link k.fields (sym same i).p (sym same i).q) ∙ k.link

pub no-link : (known : List Revision) (node : Id) (b : Bool) → b ≡ false → knows known Changesets node ≡ false → IsTrue b ↔ IsKnownLink known node
no-link known node b is unknown = ((λ e. absurd (true≢false (sym e ∙ is))), (λ k. absurd (true≢false (sym (ap is_some k.is_held) ∙ unknown))))

-- a changeset that is held and isn't a link
pub not-link : (known : List Revision) (node : Id) (v : ChangesetView) → IsChangesetHeld known node v → (¬ (IsKnownLink known node)) → is_link_view v ≡ false
not-link known node v held unlinked = by (is_link_view v) refl
  where
    by : (t : Bool) → is_link_view v ≡ t → is_link_view v ≡ false
    by true e = absurd (unlinked (record { revision = held.revision; is_held = held.is_held; fields = v.fields; text = held.fields; link = (λ i. is_link v.fields (sym held.parents.0 i) (sym held.parents.1 i)) ∙ e }))
    by false e = e

-- ---- how many links there are

over-count : (id : Id) (base : ChangesetView) (n k : ℕ) (before : Id) (xs : List Id) → length (links_over id base n k before xs) ≤ length xs - 1
unfolding links_over
over-count id base n k before [] = omega arith
over-count id base n k before (x ∷ []) = omega arith
over-count id base n k before (x ∷ y ∷ xs) = omega (arith, over-count id base n (k + 1) (changeset_node (link_view id base n k before x)) (y ∷ xs))

by-count : (blocks : List Block) (id : Id) (n : ℕ) (xs : List Id) → length (links_by blocks id n xs) ≤ length xs - 2
by-count blocks id n [] = omega arith
by-count blocks id n (x ∷ xs) = omega (arith, over-count id (view_or_none (changesets_in blocks) x) n 1 x xs)

pub links-count : (blocks : List Block) (c : CommitView) → length (links_of blocks c) ≤ length (c.value).parents - 2
unfolding links_of
links-count blocks c =
    let n = length-map (c.value).parents (hg_partner blocks) in
    omega (arith, n, by-count blocks (commit_id c) (length (c.value).parents) (partners_of_parents blocks c))

none-left : {X : Type 0} (xs : List X) → length xs ≤ 0 → xs ≡ []
none-left [] few = refl
none-left (x ∷ xs) few = absurd (omega (arith, few))

pub links-none : (blocks : List Block) (c : CommitView) → length (c.value).parents ≤ 2 → links_of blocks c ≡ []
links-none blocks c few = none-left (links_of blocks c) (omega (arith, few, links-count blocks c))

pub links-some : (blocks : List Block) (c : CommitView) → 3 ≤ length (c.value).parents → links_of blocks c ≢ []
unfolding links_of links_over
links-some blocks c some = by (c.value).parents some
  where
    by : (ids : List Id) → 3 ≤ length ids → links_by blocks (commit_id c) (length (c.value).parents) (map (hg_partner blocks) ids) ≢ []
    by [] some = absurd (omega (arith, some))
    by (a ∷ []) some = absurd (omega (arith, some))
    by (a ∷ b ∷ []) some = absurd (omega (arith, some))
    by (a ∷ b ∷ d ∷ ids) some = λ e. cc

-- ---- the links are held

-- what a link has of its base
record IsLike (base l : ChangesetView) : Type 0 where
  node : (l.fields).manifest ≡ (base.fields).manifest
  manifest : l.manifest ≡ base.manifest
  rows : l.rows ≡ base.rows

all-like : (id : Id) (base : ChangesetView) (n k : ℕ) (before : Id) (xs : List Id) → Each (IsLike base) (links_over id base n k before xs)
unfolding links_over link_view
all-like id base n k before [] = tt
all-like id base n k before (x ∷ []) = tt
all-like id base n k before (x ∷ y ∷ xs) = (record { node = refl; manifest = refl; rows = refl }, all-like id base n (k + 1) (changeset_node (link_view id base n k before x)) (y ∷ xs))

same-node : (k l : ChangesetView) → SameChangeset k l → changeset_node k ≡ changeset_node l
unfolding changeset_node
same-node k l s = λ i. node_id (s.p i) (s.q i) (changeset_text (s.fields i))

module _ (known : List Revision) (node : Id) (base : ChangesetView) (held : IsChangesetHeld known node base) where
  link-held : (l : ChangesetView) → IsLike base l → IsKnownAs (IsHeldView known) l → IsChangesetHeld known (changeset_node l) l
  link-held l like k =
      let own = k.1 in
      let same = k.2 in
      record {
        revision = own.revision;
        is_held = ap (revision_of known Changesets) (sym (same-node k.0 l same)) ∙ own.is_held;
        parents = (sym same.p ∙ own.parents.0, sym same.q ∙ own.parents.1);
        fields = subst (IsChangesetText (own.revision).text) same.fields own.fields;
        manifest = subst (λ (w : Id). IsManifestHeld known w l.manifest l.rows) (sym like.node)
            (subst (λ (m : ManifestParents). IsManifestHeld known (base.fields).manifest m l.rows) (sym like.manifest)
            (subst (λ (rows : List Row). IsManifestHeld known (base.fields).manifest base.manifest rows) (sym like.rows) held.manifest));
        files = subst (Each (IsFileHeld known)) (sym like.rows) held.files;
      }

  all-held : (ls : List ChangesetView) → Each (IsLike base) ls → Each (IsKnownAs (IsHeldView known)) ls → AreChangesetsHeld known (map changeset_node ls) ls
  all-held [] like k = tt
  all-held (l ∷ ls) like k = (link-held l like.0 k.0, all-held ls like.1 k.1)

-- the partners of at most two parents
few-parents : (blocks : List Block) (p q : Id) → length (map (git_partner blocks) (not_null (p ∷ q ∷ []))) ≤ 2
few-parents blocks p q = by (is_null p) (is_null q) refl refl
  where
    by : (a b : Bool) → is_null p ≡ a → is_null q ≡ b → length (map (git_partner blocks) (not_null (p ∷ q ∷ []))) ≤ 2
    by true true e f = rw (e, f) (omega arith)
    by true false e f = rw (e, f) (omega arith)
    by false true e f = rw (e, f) (omega arith)
    by false false e f = rw (e, f) (omega arith)

marked-few : (blocks : List Block) (h : ChangesetView) → length ((mark_commit blocks h).value).parents ≤ 2
unfolding mark_commit rule_commit
marked-few blocks h = few-parents blocks h.p h.q

module _ (k : Known) (blocks : List Block) (history : IsHistoryHeld k blocks) where
  walked-held : (c : CommitView) → Each (λ id. IsTrue (is_some (block_of_id blocks id))) (c.value).parents → Each (IsKnownAs (IsHeldView k.hg)) (links_of blocks c)
      → AreChangesetsHeld k.hg (map changeset_node (links_of blocks c)) (links_of blocks c)
  unfolding links_of
  walked-held c paired walked = by (c.value).parents paired walked
    where
      by : (ids : List Id) → Each (λ id. IsTrue (is_some (block_of_id blocks id))) ids → Each (IsKnownAs (IsHeldView k.hg)) (links_by blocks (commit_id c) (length (c.value).parents) (map (hg_partner blocks) ids))
          → AreChangesetsHeld k.hg (map changeset_node (links_by blocks (commit_id c) (length (c.value).parents) (map (hg_partner blocks) ids))) (links_by blocks (commit_id c) (length (c.value).parents) (map (hg_partner blocks) ids))
      by [] paired walked = tt
      by (id ∷ ids) paired walked =
          let x = hg_partner blocks id in
          let base = view_or_none (changesets_in blocks) x in
          let n = length (c.value).parents in
          let rest = map (hg_partner blocks) ids in
          all-held k.hg x base (partner-held k blocks history history.added id paired.0) (links_over (commit_id c) base n 1 x rest) (all-like (commit_id c) base n 1 x rest) walked

  -- the links of the partner of a changeset are known, and so they are held
  pub partner-links : (h : ChangesetView) (c : CommitView) → IsCommitFor blocks (IsHeldView k.hg) h c → AreChangesetsHeld k.hg (map changeset_node (links_of blocks c)) (links_of blocks c)
  partner-links h c (inl even) =
      let none : links_of blocks c ≡ [] = links-none blocks c (subst (λ (x : CommitView). length (x.value).parents ≤ 2) (sym even.2) (marked-few blocks h)) in
      subst (λ (ls : List ChangesetView). AreChangesetsHeld k.hg (map changeset_node ls) ls) (sym none) tt
  partner-links h c (inr odd) = let u = odd.1 in walked-held c u.paired u.walked
