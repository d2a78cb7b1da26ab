-- The parents of the changeset of a commit.
use Rattle.std.proofs.Common.{◌≡◌, ◌<◌, ◌≤◌, ◌-◌, ◌++◌, ℕ, suc, Bool, true, false, true≢false, List, [], ◌∷◌, length, map, get_or, Some, None, refl, sym, ap, subst, ◌∙◌, inl, inr, arith}
use Rattle.std.specs.Prelude.{bytes_eq, is_some, slice_get, unwrap_or, if◌then◌else◌, IsTrue}
use Rattle.std.specs.List.{last_or}
use Rattle.text_model.specs.Lists.{In, Each}
use Rattle.text_model.specs.Id.{Id, IsId, null, has_id}
use Rattle.text_model.proofs.HexLemmas.{IsId-null}
use Rattle.text_model.proofs.Options.{or_parts, none_some, some_is}
use Rattle.text_model.proofs.TestLemmas.{bytes_eq-self, bytes_eq-sym, bytes_eq-is}
use Rattle.hg_model.specs.Revision.{Revision}
use Rattle.view_model.specs.View.{ChangesetView, CommitView, ManifestParents, Row, changeset_node, entry_of_row}
use Rattle.view_model.specs.Held.{IsFileHeld, IsManifestHeld}
use Rattle.pair_model.specs.Block.{Block, block_of_id, hg_partner, changesets_in, view_at, view_or_none, no_changeset, parents_among}
use Rattle.pair_model.specs.Octopus.{links_of, links_by, links_over, partners_of_parents, parents_of_commit, first_of, second_of, last_id}
use Rattle.pair_known.specs.Over.{IsCommitOver}
use Rattle.pair_known.specs.declared.known.Known.{Known}
use Rattle.pair_known.specs.declared.git_draft.GitDraft.{GitDraft}
use Rattle.file_rule.specs.Parents.{IsParent, IsParentView}
use Rattle.file_rule.specs.declared.parents.Parent.{Parent}
use Rattle.link_rule.specs.Links.{IsLinkOver}
use Rattle.changeset_rule.specs.Parents.{HasFilesAt}
use Rattle.link_rule.proofs.PartnerViews.{null-parent, partner-parent}
use Rattle.link_rule.proofs.DraftLemmas.{HasFilesOf, files-of}
use Rattle.link_rule.proofs.ChainLemmas as chain
use Rattle.link_rule.proofs.ChainLemmas.{IsId-changeset_node, IsId-partner, IsId-partners}

-- ---- a commit of two parents at most has no links

no-links : (blocks : List Block) (id : Id) (n : ℕ) (ps : List Id) → length ps ≤ 2 → links_by blocks id n (map (hg_partner blocks) ps) ≡ []
unfolding links_over
no-links blocks id n [] few = refl
no-links blocks id n (a ∷ []) few = refl
no-links blocks id n (a ∷ b ∷ []) few = refl
no-links blocks id n (a ∷ b ∷ c ∷ ps) few = absurd (grind (arith, few))

pub parents-are : (blocks : List Block) (v : CommitView) → length (v.value).parents ≤ 2
    → parents_of_commit blocks v ≡ parents_among (changesets_in blocks) (first_of (partners_of_parents blocks v)) (second_of (partners_of_parents blocks v))
unfolding parents_of_commit links_of
parents-are blocks v few =
    ap (λ (links : List ChangesetView). parents_among (links ++ changesets_in blocks) (last_id (first_of (partners_of_parents blocks v) ∷ map changeset_node links)) (second_of (partners_of_parents blocks v)))
    (no-links blocks _ _ (v.value).parents few)

-- ---- a view among links and others

-- the last of the nodes is one of them
last-in : (n : Id) (ns : List Id) → In (last_id (n ∷ ns)) (n ∷ ns)
last-in n [] = inl refl
last-in n (m ∷ ns) = inr (last-in m ns)

pub last-is : (n : Id) (ns : List Id) → unwrap_or (last_or None ns) n ≡ last_id (n ∷ ns)
last-is n [] = refl
last-is n (m ∷ ns) = some m ns
  where
    some : (m : Id) (ns : List Id) → unwrap_or (last_or (Some m) ns) n ≡ unwrap_or (last_or (Some m) ns) null
    some m [] = refl
    some m (x ∷ ns) = some x ns

pub last-got : (ns : List Id) (n last : Id) → slice_get ns (length ns - 1) ≡ Some last → last ≡ unwrap_or (last_or None ns) n
last-got [] n last at = absurd (none_some at)
last-got (m ∷ []) n last at = sym (some_is at)
last-got (m ∷ x ∷ ns) n last at =
    let long : length (m ∷ x ∷ ns) - 1 ≡ suc (length (x ∷ ns) - 1) = omega arith in
    last-got (x ∷ ns) n last (sym (ap (slice_get (m ∷ x ∷ ns)) long) ∙ at)

-- the view that is found with a node of one of the first is one of the first
found-first : (P : ChangesetView → Type 0) (ls vs : List ChangesetView) (node : Id) → Each P ls → In node (map changeset_node ls) → P (view_or_none (ls ++ vs) node)
found-first P [] vs node each i = absurd i
found-first P (l ∷ ls) vs node each i = by (bytes_eq (changeset_node l) node) refl (found-first P ls vs node each.1)
  where
    by : (t : Bool) → bytes_eq (changeset_node l) node ≡ t → (In node (map changeset_node ls) → P (view_or_none (ls ++ vs) node)) → P (unwrap_or (if t then Some l else view_at (ls ++ vs) node) no_changeset)
    by true e rest = each.0
    by false e rest = elim i [ inl q ↦ absurd (true≢false (sym (ap (λ (x : Id). bytes_eq x node) (sym q) ∙ bytes_eq-self node) ∙ e)) | inr j ↦ rest j ]

-- and where none of the first has the node, it is one of the others
not-first : (ls vs : List ChangesetView) (node : Id) → has_id (map changeset_node ls) node ≡ false → view_or_none (ls ++ vs) node ≡ view_or_none vs node
not-first [] vs node e = refl
not-first (l ∷ ls) vs node e =
    let parts = or_parts (bytes_eq node (changeset_node l)) (has_id (map changeset_node ls) node) e in
    rw (bytes_eq-sym (changeset_node l) node, parts.0) (not-first ls vs node parts.1)

has-in : (ns : List Id) (node : Id) → has_id ns node ≡ true → In node ns
has-in [] node e = absurd (true≢false (sym e))
has-in (n ∷ ns) node e = by (bytes_eq node n) refl (has-in ns node)
  where
    by : (t : Bool) → bytes_eq node n ≡ t → (has_id ns node ≡ true → In node ns) → In node (n ∷ ns)
    by true h rest = inl (bytes_eq-is node n h)
    by false h rest = inr (rest (sym (rw h refl) ∙ e))

-- ---- the partners

pub last-at : {X : Type 0} (f : X → Id) (xs : List X) (d : X) → 1 ≤ length xs → last_id (map f xs) ≡ f (get_or xs (length xs - 1) d)
last-at f [] d some = absurd (omega (arith, some))
last-at f (x ∷ []) d some = refl
last-at f (x ∷ y ∷ xs) d some =
    let at : length (x ∷ y ∷ xs) - 1 ≡ suc (length (y ∷ xs) - 1) = omega arith in
    last-at f (y ∷ xs) d (omega arith) ∙ ap (λ (i : ℕ). f (get_or (x ∷ y ∷ xs) i d)) (sym at)

pub partner-at : {X : Type 0} (f : X → Id) (xs : List X) (d : X) → 2 ≤ length xs → second_of (map f xs) ≡ f (get_or xs (length xs - 1) d)
partner-at f [] d some = absurd (omega (arith, some))
partner-at f (x ∷ xs) d some =
    let at : length (x ∷ xs) - 1 ≡ suc (length xs - 1) = omega (arith, some) in
    last-at f xs d (omega (arith, some)) ∙ ap (λ (i : ℕ). f (get_or (x ∷ xs) i d)) (sym at)

pub second-none : {X : Type 0} (f : X → Id) (xs : List X) → length xs < 2 → second_of (map f xs) ≡ null
second-none f [] few = refl
second-none f (x ∷ []) few = refl
second-none f (x ∷ y ∷ xs) few = absurd (omega (arith, few))

-- ---- the parents of the changeset

-- what a store lends for the stored changeset it lends for one with the same files
pub same-parent : (known : List Revision) (node : Id) (x : ChangesetView) (parent : Parent) → HasFilesAt known node x → ((b : ChangesetView) → IsParentView known node b → IsParent known parent b) → IsParent known parent x
same-parent known node x parent of lends =
    let is = lends of.base of.view in
    record {
      node = of.manifest_node ∙ is.node;
      entries = ap (map entry_of_row) of.rows ∙ is.entries;
      held = let P : Id × ManifestParents × List Row → Type 0 = λ t. IsManifestHeld known t.0 t.1 t.2 in subst P (λ i. (sym of.manifest_node i, sym of.manifest i, sym of.rows i)) is.held;
      files = subst (Each (IsFileHeld known)) (sym of.rows) is.files;
    }

module _ (k : Known) (blocks : List Block) (d : GitDraft) (v : CommitView) (over : IsCommitOver k blocks d v) where
  abbrev pub links : List ChangesetView
  links = links_of blocks v

  abbrev pub base : ChangesetView
  base = chain.base k blocks d v over

  abbrev pub nodes : List Id
  nodes = partners_of_parents blocks v

  all-like : Each (HasFilesOf base) links
  all-like = each-weaker links (chain.overs k blocks d v over)
    where
      each-weaker : (ls : List ChangesetView) → Each (IsLinkOver base) ls → Each (HasFilesOf base) ls
      each-weaker [] h = tt
      each-weaker (l ∷ ls) h = (files-of base l h.0, each-weaker ls h.1)

  pub p-is : (parents_of_commit blocks v).p ≡ last_id (first_of nodes ∷ map changeset_node links)
  unfolding parents_of_commit
  p-is = refl

  pub q-is : (parents_of_commit blocks v).q ≡ second_of nodes
  unfolding parents_of_commit
  q-is = refl

  pub first-of : HasFilesOf base (parents_of_commit blocks v).first
  unfolding parents_of_commit
  first-of = by links all-like
    where
      by : (ls : List ChangesetView) → Each (HasFilesOf base) ls → HasFilesOf base (view_or_none (ls ++ changesets_in blocks) (last_id (first_of nodes ∷ map changeset_node ls)))
      by [] each = record { manifest = refl; node = refl; rows = refl }
      by (l ∷ ls) each = found-first (HasFilesOf base) (l ∷ ls) (changesets_in blocks) (last_id (changeset_node l ∷ map changeset_node ls)) each (last-in (changeset_node l) (map changeset_node ls))

  at-base : (x : ChangesetView) → HasFilesOf base x → HasFilesAt k.hg (first_of nodes) x
  at-base x of = record { base = base; view = chain.base-view k blocks d v over; manifest = of.manifest; manifest_node = of.node; rows = of.rows }

  pub first-at : HasFilesAt k.hg (first_of nodes) (parents_of_commit blocks v).first
  first-at = at-base (parents_of_commit blocks v).first first-of

  -- the second parent where no link has its node, and where one has
  pub second-else : has_id (map changeset_node links) (second_of nodes) ≡ false → (parents_of_commit blocks v).second ≡ view_or_none (changesets_in blocks) (second_of nodes)
  unfolding parents_of_commit
  second-else e = not-first links (changesets_in blocks) (second_of nodes) e

  pub second-link : has_id (map changeset_node links) (second_of nodes) ≡ true → HasFilesOf base (parents_of_commit blocks v).second
  unfolding parents_of_commit
  second-link e = found-first (HasFilesOf base) links (changesets_in blocks) (second_of nodes) all-like (has-in (map changeset_node links) (second_of nodes) e)

  abbrev Held : Id → Type 0
  Held node = IsParentView k.hg node (view_or_none (changesets_in blocks) node)

  pub second-view : Held (second_of nodes)
  second-view = by (v.value).parents over.parents
    where
      last : (ids : List Id) → Each (λ p. IsTrue (is_some (block_of_id blocks p))) ids → Held (last_id (map (hg_partner blocks) ids))
      last [] all = null-parent k blocks over.history over.history.added
      last (a ∷ []) all = partner-parent k blocks over.history over.history.added a all.0
      last (a ∷ b ∷ ids) all = last (b ∷ ids) all.1

      by : (ids : List Id) → Each (λ p. IsTrue (is_some (block_of_id blocks p))) ids → Held (second_of (map (hg_partner blocks) ids))
      by [] all = null-parent k blocks over.history over.history.added
      by (a ∷ ids) all = last ids all.1

  abbrev pub second-node : Id
  second-node = if has_id (map changeset_node links) (second_of nodes) then first_of nodes else second_of nodes

  pub second-at : HasFilesAt k.hg second-node (parents_of_commit blocks v).second
  second-at = by (has_id (map changeset_node links) (second_of nodes)) refl
    where
      by : (t : Bool) → has_id (map changeset_node links) (second_of nodes) ≡ t → HasFilesAt k.hg (if t then first_of nodes else second_of nodes) (parents_of_commit blocks v).second
      by true e = at-base (parents_of_commit blocks v).second (second-link e)
      by false e =
          let is = second-else e in
          record {
            base = view_or_none (changesets_in blocks) (second_of nodes);
            view = second-view;
            manifest = ap (λ (x : ChangesetView). x.manifest) is;
            manifest_node = ap (λ (x : ChangesetView). (x.fields).manifest) is;
            rows = ap (λ (x : ChangesetView). x.rows) is;
          }

  -- ---- the ids

  last-id : (n : Id) (ns : List Id) → IsId n → Each IsId ns → IsId (last_id (n ∷ ns))
  last-id n [] is are = is
  last-id n (m ∷ ns) is are = last-id m ns are.0 are.1

  pub ids : IsId (parents_of_commit blocks v).p × IsId (parents_of_commit blocks v).q
  ids = (subst IsId (sym p-is) (last-id (first_of nodes) (map changeset_node links) (first (v.value).parents) (linked links)), subst IsId (sym q-is) (second (v.value).parents))
    where
      first : (xs : List Id) → IsId (first_of (map (hg_partner blocks) xs))
      first [] = IsId-null
      first (x ∷ xs) = IsId-partner blocks x

      second : (xs : List Id) → IsId (second_of (map (hg_partner blocks) xs))
      second [] = IsId-null
      second (x ∷ []) = IsId-null
      second (x ∷ y ∷ xs) = last-id (hg_partner blocks y) (map (hg_partner blocks) xs) (IsId-partner blocks y) (IsId-partners blocks xs)

      linked : (ls : List ChangesetView) → Each IsId (map changeset_node ls)
      linked [] = tt
      linked (l ∷ ls) = (IsId-changeset_node l, linked ls)
