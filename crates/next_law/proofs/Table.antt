-- The blocks of a saved state are a table.
use Rattle.std.proofs.Common.{◌≡◌, ◌≢◌, true, false, true≢false, List, [], ◌∷◌, ◌++◌, map, refl, sym, ap, ◌∙◌, append_assoc}
use Rattle.std.specs.Prelude.{not, IsTrue, bytes_eq}
use Rattle.std.specs.List.{list_any}
use Rattle.std.proofs.lemmas.List.Folds.{list_any-append}
use Rattle.text_model.specs.Lists.{Each, rises}
use Rattle.text_model.specs.Text.{is_below}
use Rattle.text_model.specs.Id.{Id, null, is_null}
use Rattle.text_model.proofs.Elements.{map_append}
use Rattle.text_model.proofs.EachLemmas.{Each-front, Each-rest}
use Rattle.text_model.proofs.Options.{or_parts, not_true}
use Rattle.text_model.proofs.TestLemmas.{both, bytes_eq-self}
use Rattle.git_model.specs.Tree.{has_distinct}
use Rattle.view_model.specs.View.{ChangesetView, IsCommitView, changeset_node, commit_id, tree_paths}
use Rattle.pair_model.specs.Block.{Block, node_of, id_of, changesets_in, commits_in}
use Rattle.partner_model.specs.Table.{IsTable}

pub distinct-rest : (xs ys : List Id) → has_distinct (xs ++ ys) ≡ true → has_distinct ys ≡ true
distinct-rest [] ys h = h
distinct-rest (x ∷ xs) ys h = distinct-rest xs ys (both (not (list_any (bytes_eq x) (xs ++ ys))) (has_distinct (xs ++ ys)) h).1

-- the nodes of the changesets of blocks, links among them
abbrev nodes_in : List Block → List Id
nodes_in blocks = map changeset_node (changesets_in blocks)

nodes-cons : (b : Block) (blocks : List Block) → nodes_in (b ∷ blocks) ≡ map changeset_node b.links ++ node_of b ∷ nodes_in blocks
nodes-cons b blocks =
    map_append changeset_node (b.links ++ b.changeset ∷ []) (changesets_in blocks) ∙ ap (λ (l : List Id). l ++ nodes_in blocks) (map_append changeset_node b.links (b.changeset ∷ []))
    ∙ append_assoc (map changeset_node b.links) (node_of b ∷ []) (nodes_in blocks)

none-among : (node : Id) (blocks : List Block) → list_any (bytes_eq node) (nodes_in blocks) ≡ false → list_any (bytes_eq node) (map node_of blocks) ≡ false
none-among node [] h = refl
none-among node (b ∷ blocks) h =
    let front = map changeset_node b.links in
    let parts = or_parts (list_any (bytes_eq node) front) (list_any (bytes_eq node) (node_of b ∷ nodes_in blocks))
    (sym (ap (list_any (bytes_eq node)) (nodes-cons b blocks) ∙ list_any-append (bytes_eq node) front (node_of b ∷ nodes_in blocks)) ∙ h) in
    let own = or_parts (bytes_eq node (node_of b)) (list_any (bytes_eq node) (nodes_in blocks)) parts.1 in
    rw (own.0, none-among node blocks own.1) refl

pub distinct-nodes : (blocks : List Block) → has_distinct (nodes_in blocks) ≡ true → has_distinct (map node_of blocks) ≡ true
distinct-nodes [] h = refl
distinct-nodes (b ∷ blocks) h =
    let here = distinct-rest (map changeset_node b.links) (node_of b ∷ nodes_in blocks) (sym (ap has_distinct (nodes-cons b blocks)) ∙ h) in
    let parts = both (not (list_any (bytes_eq (node_of b)) (nodes_in blocks))) (has_distinct (nodes_in blocks)) here in
    rw (none-among (node_of b) blocks (not_true (list_any (bytes_eq (node_of b)) (nodes_in blocks)) parts.0), distinct-nodes blocks parts.1) refl

pub ids-are : (blocks : List Block) → map commit_id (commits_in blocks) ≡ map id_of blocks
ids-are [] = refl
ids-are (b ∷ blocks) = ap (λ (l : List Id). id_of b ∷ l) (ids-are blocks)

nodes-there : (blocks : List Block) → Each (λ h. is_null (changeset_node h) ≡ false) (changesets_in blocks) → Each (λ b. node_of b ≢ null) blocks
nodes-there [] each = tt
nodes-there (b ∷ blocks) each =
    let own = b.links ++ b.changeset ∷ [] in
    let rest = Each-rest (λ (h : ChangesetView). is_null (changeset_node h) ≡ false) own (changesets_in blocks) each in
    let here = (Each-rest (λ (h : ChangesetView). is_null (changeset_node h) ≡ false) b.links (b.changeset ∷ []) (Each-front (λ (h : ChangesetView). is_null (changeset_node h) ≡ false) own (changesets_in blocks) each)).0 in
    ((λ e. true≢false (sym (bytes_eq-self null) ∙ ap (λ (n : Id). bytes_eq n null) (sym e) ∙ here)), nodes-there blocks rest)

rows-up : (blocks : List Block) → Each IsCommitView (commits_in blocks) → Each (λ b. IsTrue (rises is_below (tree_paths (b.commit).rows))) blocks
rows-up [] each = tt
rows-up (b ∷ blocks) each = ((each.0).in_order, rows-up blocks each.1)

pub is-table : (blocks : List Block) → has_distinct (nodes_in blocks) ≡ true → has_distinct (map commit_id (commits_in blocks)) ≡ true
    → Each (λ h. is_null (changeset_node h) ≡ false) (changesets_in blocks) → Each IsCommitView (commits_in blocks) → IsTable blocks
is-table blocks nodes ids some views = record {
  nodes = distinct-nodes blocks nodes;
  ids = ap has_distinct (sym (ids-are blocks)) ∙ ids;
  there = nodes-there blocks some;
  rows = rows-up blocks views;
}
