-- The second parents of a block's changesets are the partners of its commit's parents but the first, so no changeset of the block stands twice.
use Rattle.std.proofs.Common.{◌≡◌, ◌+◌, ℕ, true, List, [], ◌∷◌, ◌++◌, length, map, refl, ap, ◌∙◌}
use Rattle.std.specs.Prelude.{IsTrue, is_some, not, bytes_eq}
use Rattle.std.specs.List.{list_any}
use Rattle.text_model.specs.Lists.{Each, In}
use Rattle.text_model.specs.Id.{Id}
use Rattle.text_model.proofs.Elements.{each_in, map_append}
use Rattle.text_model.proofs.TestLemmas.{both}
use Rattle.git_model.specs.Tree.{has_distinct}
use Rattle.view_model.specs.View.{ChangesetView, CommitView, changeset_node, commit_id}
use Rattle.pair_model.specs.Block.{Block, block_of_id, changesets_in, hg_partner, view_or_none}
use Rattle.pair_model.specs.Octopus.{link_view, links_over, links_by, links_of, partners_of_parents, parents_of_commit, last_id, second_of}
use Rattle.pair_model.specs.Rule.{rule_changeset}
use Rattle.partner_model.specs.Mark.{mark_changeset}
use Rattle.partner_model.specs.Table.{IsTable}
use Rattle.unmark_law.proofs.Tables.{hg_one}
use Rattle.next_law.proofs.Distinct.{distinct-by}

pub marked-second : (blocks : List Block) (c : CommitView) → (mark_changeset blocks c).q ≡ second_of (partners_of_parents blocks c)
unfolding mark_changeset rule_changeset parents_of_commit
marked-second blocks c = refl

over-seconds : (id : Id) (base : ChangesetView) (n k : ℕ) (before x : Id) (rest : List Id) → map (λ (h : ChangesetView). h.q) (links_over id base n k before (x ∷ rest)) ++ last_id (x ∷ rest) ∷ [] ≡ x ∷ rest
unfolding links_over link_view
over-seconds id base n k before x [] = refl
over-seconds id base n k before x (y ∷ rest) = ap (λ (l : List Id). x ∷ l) (over-seconds id base n (k + 1) (changeset_node (link_view id base n k before x)) y rest)

by-seconds : (blocks : List Block) (id : Id) (n : ℕ) (xs : List Id) (h : ChangesetView) → h.q ≡ second_of xs → has_distinct xs ≡ true → has_distinct (map (λ (h : ChangesetView). h.q) (links_by blocks id n xs ++ h ∷ [])) ≡ true
unfolding links_over
by-seconds blocks id n [] h is distinct = refl
by-seconds blocks id n (x ∷ []) h is distinct = refl
by-seconds blocks id n (x ∷ y ∷ rest) h is distinct =
    let links = links_by blocks id n (x ∷ y ∷ rest) in
    let all : map (λ (h : ChangesetView). h.q) (links ++ h ∷ []) ≡ y ∷ rest =
    map_append (λ (h : ChangesetView). h.q) links (h ∷ []) ∙ ap (λ (q : Id). map (λ (h : ChangesetView). h.q) links ++ q ∷ []) is
    ∙ over-seconds id (view_or_none (changesets_in blocks) x) n 1 x y rest in
    ap has_distinct all ∙ (both (not (list_any (bytes_eq x) (y ∷ rest))) (has_distinct (y ∷ rest)) distinct).1

plain-ids : (ids : List Id) → map (λ (id : Id). id) ids ≡ ids
plain-ids [] = refl
plain-ids (id ∷ ids) = ap (λ (l : List Id). id ∷ l) (plain-ids ids)

pub partners-distinct : (blocks : List Block) → IsTable blocks → (ids : List Id) → Each (λ id. IsTrue (is_some (block_of_id blocks id))) ids → has_distinct ids ≡ true → has_distinct (map (hg_partner blocks) ids) ≡ true
partners-distinct blocks table ids paired distinct =
    distinct-by (hg_partner blocks) (λ (id : Id). id) ids
    (λ a b i j e. hg_one blocks table a b (each_in (λ id. IsTrue (is_some (block_of_id blocks id))) ids a paired i) (each_in (λ id. IsTrue (is_some (block_of_id blocks id))) ids b paired j) e)
    (ap has_distinct (plain-ids ids) ∙ distinct)

pub seconds-distinct : (blocks : List Block) → IsTable blocks → (c : CommitView) (h : ChangesetView) → Each (λ id. IsTrue (is_some (block_of_id blocks id))) (c.value).parents
    → has_distinct (c.value).parents ≡ true → h.q ≡ (mark_changeset blocks c).q → has_distinct (map (λ (h : ChangesetView). h.q) (links_of blocks c ++ h ∷ [])) ≡ true
unfolding links_of
seconds-distinct blocks table c h paired distinct is =
    by-seconds blocks (commit_id c) (length (c.value).parents) (partners_of_parents blocks c) h (is ∙ marked-second blocks c) (partners-distinct blocks table (c.value).parents paired distinct)

-- where no two changesets of one node have different second parents, none stands twice
pub nodes-distinct : (hs : List ChangesetView) → ((a b : ChangesetView) → In a hs → In b hs → changeset_node a ≡ changeset_node b → a.q ≡ b.q)
    → has_distinct (map (λ (h : ChangesetView). h.q) hs) ≡ true → has_distinct (map changeset_node hs) ≡ true
nodes-distinct hs same distinct = distinct-by changeset_node (λ (h : ChangesetView). h.q) hs same distinct
