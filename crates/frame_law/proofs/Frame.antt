-- Two lists of blocks, one among the other: a member whose parents have partners in the first has the same marked one in both.
use Rattle.std.proofs.Common.{◌≡◌, ◌≢◌, ℕ, Bool, true, false, List, [], ◌∷◌, ◌++◌, length, map, Option, Some, refl, sym, ap, subst, ◌∙◌, inl, inr}
use Rattle.std.specs.Prelude.{bytes_eq, is_some, option_map, unwrap_or, IsTrue}
use Rattle.text_model.specs.Lists.{Each, In}
use Rattle.text_model.specs.Id.{Id, null, is_null}
use Rattle.git_model.specs.Residue.{ResidueItem, carried}
use Rattle.pair_model.specs.Block.{Block, node_of, id_of, block_of_node, block_of_id, git_partner, hg_partner, changesets_in, view_at, no_changeset, not_null, Parents}
use Rattle.pair_model.specs.User.{user_of_line, message_of}
use Rattle.pair_model.specs.Rule.{old_residue, carried_to, tree_rows_with, author_by, rule_commit, rule_changeset, tree_row_of}
use Rattle.pair_model.specs.MarkList.{marks_text, extras_of}
use Rattle.pair_model.specs.Octopus.{links_of, links_by, links_over, partners_of_parents, parents_of_commit, last_id, first_of, second_of}
use Rattle.view_model.specs.Held.{file_row_of}
use Rattle.view_model.specs.View.{ChangesetView, CommitView, changeset_node, commit_id, root_of_rows}
use Rattle.partner_model.specs.Mark.{commit_marks, parents_of_changeset, mark_commit, with_extras, changeset_marks, residue_in, first_residue, mark_changeset}
use Rattle.partner_model.specs.Partner.{AreChangesetParentsPaired, AreCommitParentsPaired}
use Rattle.partner_model.specs.Table.{IsTable}
use Rattle.text_model.proofs.Elements.{each_in, each_from, in_left, in_right}
use Rattle.unmark_law.proofs.Tables.{HasNode, HasId, eq_true, finds, found_there, hg_has}
use Rattle.unmark_law.proofs.TreeRows.{residue_at}
use Rattle.frame_law.specs.Ground.{IsGround, AreAmong}
use Rattle.next_law.proofs.Table.{distinct-nodes}
use Rattle.frame_law.proofs.Lists.{find_longer, find_behind, finds_it, finds_none, last_is, last_alone}

pub block_in : (blocks : List Block) (b : Block) → In b blocks → In b.changeset (changesets_in blocks)
block_in [] b h = absurd h
block_in (d ∷ ds) b (inl e) = in_left b.changeset (d.links ++ d.changeset ∷ []) (changesets_in ds) (in_right b.changeset d.links (d.changeset ∷ []) (inl (ap (λ x. x.changeset) e)))
block_in (d ∷ ds) b (inr h) = in_right b.changeset (d.links ++ d.changeset ∷ []) (changesets_in ds) (block_in ds b h)

-- ---- a ground is a table

-- no changeset of the blocks has the null node
pub not_null_in : (blocks : List Block) (Known : ChangesetView → Type 0) → IsGround blocks Known → (v : ChangesetView) → In v (changesets_in blocks) → changeset_node v ≢ null
not_null_in blocks Known g v i = g.real v (each_in Known (changesets_in blocks) v g.known i)

pub ground_table : (blocks : List Block) (Known : ChangesetView → Type 0) → IsGround blocks Known → IsTable blocks
ground_table blocks Known g = record {
  nodes = distinct-nodes blocks g.nodes;
  ids = g.ids;
  there = each_from (λ b. node_of b ≢ null) blocks (λ b i. not_null_in blocks Known g b.changeset (block_in blocks b i));
  rows = g.rows;
}

-- ---- what is found at a node and at an id

pub view_is : (blocks : List Block) (Known : ChangesetView → Type 0) → IsGround blocks Known → (b : Block) → In b blocks → view_at (changesets_in blocks) (node_of b) ≡ Some b.changeset
view_is blocks Known g b i = finds_it changeset_node (changesets_in blocks) g.nodes b.changeset (block_in blocks b i)

pub block_is : (blocks : List Block) (Known : ChangesetView → Type 0) → IsGround blocks Known → (b : Block) → In b blocks → block_of_node blocks (node_of b) ≡ Some b
block_is blocks Known g b i = finds_it node_of blocks (ground_table blocks Known g).nodes b i

pub id_is : (blocks : List Block) (Known : ChangesetView → Type 0) → IsGround blocks Known → (b : Block) → In b blocks → block_of_id blocks (id_of b) ≡ Some b
id_is blocks Known g b i = finds_it id_of blocks g.ids b i

-- both lists show the same at the node
pub record AreSameAt (xs ys : List Block) (n : Id) : Type 0 where
  pub view : view_at (changesets_in xs) n ≡ view_at (changesets_in ys) n
  pub block : block_of_node xs n ≡ block_of_node ys n

-- two histories, the first among the second
pub record AreTwo (xs : List Block) (K : ChangesetView → Type 0) (ys : List Block) (L : ChangesetView → Type 0) : Type 0 where
  pub first : IsGround xs K
  pub second : IsGround ys L
  pub among : AreAmong xs ys

same_at : (xs : List Block) (K : ChangesetView → Type 0) (ys : List Block) (L : ChangesetView → Type 0) → AreTwo xs K ys L → (n : Id) → HasNode xs n → AreSameAt xs ys n
same_at xs K ys L t n h =
    let f = finds node_of n xs h in
    let also = each_in (λ b. In b ys) xs f.it t.among f.among in
    subst (λ (m : Id). AreSameAt xs ys m) f.is (record {
      view = view_is xs K t.first f.it f.among ∙ sym (view_is ys L t.second f.it also);
      block = block_is xs K t.first f.it f.among ∙ sym (block_is ys L t.second f.it also);
    })

same_null : (xs : List Block) (K : ChangesetView → Type 0) (ys : List Block) (L : ChangesetView → Type 0) → AreTwo xs K ys L → AreSameAt xs ys null
same_null xs K ys L t = record {
  view = finds_none changeset_node null (changesets_in xs) (not_null_in xs K t.first) ∙ sym (finds_none changeset_node null (changesets_in ys) (not_null_in ys L t.second));
  block = finds_none node_of null xs (λ b i. not_null_in xs K t.first b.changeset (block_in xs b i)) ∙ sym (finds_none node_of null ys (λ b i. not_null_in ys L t.second b.changeset (block_in ys b i)));
}

pub same_id : (xs : List Block) (K : ChangesetView → Type 0) (ys : List Block) (L : ChangesetView → Type 0) → AreTwo xs K ys L → (i : Id) → HasId xs i → block_of_id xs i ≡ block_of_id ys i
same_id xs K ys L t i h =
    let f = finds id_of i xs h in
    let also = each_in (λ b. In b ys) xs f.it t.among f.among in
    subst (λ (m : Id). block_of_id xs m ≡ block_of_id ys m) f.is (id_is xs K t.first f.it f.among ∙ sym (id_is ys L t.second f.it also))

-- ---- the marked commit

-- a parent that has a block or is null
parent_same : (xs : List Block) (K : ChangesetView → Type 0) (ys : List Block) (L : ChangesetView → Type 0) → AreTwo xs K ys L → (n : Id) (rest : List Id) → Each (HasNode xs) (not_null (n ∷ rest)) → AreSameAt xs ys n
parent_same xs K ys L t n rest h = by (is_null n) refl
  where
    by : (s : Bool) → is_null n ≡ s → AreSameAt xs ys n
    by true e = subst (λ (m : Id). AreSameAt xs ys m) (sym (eq_true n null e)) (same_null xs K ys L t)
    by false e =
        let g = rw e at h in
        same_at xs K ys L t n g.0

pub rest_paired : (P : Id → Type 0) (n : Id) (rest : List Id) → Each P (not_null (n ∷ rest)) → Each P (not_null rest)
rest_paired P n rest h = by (is_null n) refl
  where
    by : (s : Bool) → is_null n ≡ s → Each P (not_null rest)
    by true e = rw e at h
    by false e =
        let g = rw e at h in
        g.1

gits_same : (xs : List Block) (K : ChangesetView → Type 0) (ys : List Block) (L : ChangesetView → Type 0) → AreTwo xs K ys L → (ns : List Id) → Each (HasNode xs) ns → map (git_partner xs) ns ≡ map (git_partner ys) ns
gits_same xs K ys L t [] h = refl
gits_same xs K ys L t (n ∷ ns) h =
    let a : git_partner xs n ≡ git_partner ys n = ap (λ o. unwrap_or (option_map id_of o) null) (same_at xs K ys L t n h.0).block in
    let b = gits_same xs K ys L t ns h.1 in
    λ i. a i ∷ b i

abbrev made : List Id → List ResidueItem → Parents → ChangesetView → CommitView
made ids items ps h = record {
  value = record {
    tree_id = root_of_rows (tree_rows_with items (map tree_row_of h.rows));
    parents = ids;
    author = author_by (h.fields).user (h.fields).date;
    committer = author_by (h.fields).user (h.fields).date;
    headers = marks_text (commit_marks ps h);
    message = message_of (h.fields).description;
  };
  rows = tree_rows_with items (map tree_row_of h.rows);
}

commit_is : (blocks : List Block) (h : ChangesetView) → mark_commit blocks h ≡ made (map (git_partner blocks) (not_null (h.p ∷ h.q ∷ []))) (carried_to blocks h) (parents_of_changeset blocks h) h
unfolding mark_commit rule_commit
commit_is blocks h = refl

pub parents_are_same : (xs : List Block) (K : ChangesetView → Type 0) (ys : List Block) (L : ChangesetView → Type 0) → AreTwo xs K ys L → (h : ChangesetView) → AreChangesetParentsPaired xs h → parents_of_changeset xs h ≡ parents_of_changeset ys h
parents_are_same xs K ys L t h paired =
    let p = (parent_same xs K ys L t h.p (h.q ∷ []) paired).view in
    let q = (parent_same xs K ys L t h.q [] (rest_paired (HasNode xs) h.p (h.q ∷ []) paired)).view in
    λ i. record { p = h.p; q = h.q; first = unwrap_or (p i) no_changeset; second = unwrap_or (q i) no_changeset }

pub commit_same : (xs : List Block) (K : ChangesetView → Type 0) (ys : List Block) (L : ChangesetView → Type 0) → AreTwo xs K ys L → (h : ChangesetView) → AreChangesetParentsPaired xs h → mark_commit xs h ≡ mark_commit ys h
commit_same xs K ys L t h paired =
    let ps = parents_are_same xs K ys L t h paired in
    let ids = gits_same xs K ys L t (not_null (h.p ∷ h.q ∷ [])) paired in
    let old : old_residue xs h.p ≡ old_residue ys h.p = ap (λ o. residue_at o) (parent_same xs K ys L t h.p (h.q ∷ []) paired).block in
    commit_is xs h ∙ (λ i. made (ids i) (carried (old i) (map file_row_of (map tree_row_of h.rows))) (ps i) h) ∙ sym (commit_is ys h)

-- ---- the links and the marked changeset

pub partners_same : (xs : List Block) (K : ChangesetView → Type 0) (ys : List Block) (L : ChangesetView → Type 0) → AreTwo xs K ys L → (ids : List Id) → Each (HasId xs) ids → map (hg_partner xs) ids ≡ map (hg_partner ys) ids
partners_same xs K ys L t [] h = refl
partners_same xs K ys L t (n ∷ ns) h =
    let a : hg_partner xs n ≡ hg_partner ys n = ap (λ o. unwrap_or (option_map node_of o) null) (same_id xs K ys L t n h.0) in
    let b = partners_same xs K ys L t ns h.1 in
    λ i. a i ∷ b i

nodes_there : (xs : List Block) (ids : List Id) → Each (HasId xs) ids → Each (HasNode xs) (map (hg_partner xs) ids)
nodes_there xs [] h = tt
nodes_there xs (i ∷ is) h = (hg_has xs i h.0, nodes_there xs is h.1)

-- the nodes of a commit's parents' partners have blocks
pub partners_there : (xs : List Block) (c : CommitView) → AreCommitParentsPaired xs c → Each (HasNode xs) (partners_of_parents xs c)
partners_there xs c h = nodes_there xs (c.value).parents h

links_by_same : (xs : List Block) (K : ChangesetView → Type 0) (ys : List Block) (L : ChangesetView → Type 0) → AreTwo xs K ys L → (id : Id) (n : ℕ) (ns : List Id) → Each (HasNode xs) ns → links_by xs id n ns ≡ links_by ys id n ns
links_by_same xs K ys L t id n [] h = refl
links_by_same xs K ys L t id n (x ∷ rest) h = ap (λ o. links_over id (unwrap_or o no_changeset) n 1 x rest) (same_at xs K ys L t x h.0).view

links_unfolded : (xs : List Block) (c : CommitView) → links_of xs c ≡ links_by xs (commit_id c) (length (c.value).parents) (partners_of_parents xs c)
unfolding links_of
links_unfolded xs c = refl

pub links_same : (xs : List Block) (K : ChangesetView → Type 0) (ys : List Block) (L : ChangesetView → Type 0) → AreTwo xs K ys L → (c : CommitView) → AreCommitParentsPaired xs c → links_of xs c ≡ links_of ys c
links_same xs K ys L t c h =
    links_unfolded xs c ∙ links_by_same xs K ys L t (commit_id c) (length (c.value).parents) (partners_of_parents xs c) (partners_there xs c h)
    ∙ ap (links_by ys (commit_id c) (length (c.value).parents)) (partners_same xs K ys L t (c.value).parents h) ∙ sym (links_unfolded ys c)

-- the last link, or the first partner
first_view : (xs : List Block) (K : ChangesetView → Type 0) (ys : List Block) (L : ChangesetView → Type 0) → AreTwo xs K ys L → (links : List ChangesetView) (ns : List Id) → Each (HasNode xs) ns
    → view_at (links ++ changesets_in xs) (last_id (first_of ns ∷ map changeset_node links)) ≡ view_at (links ++ changesets_in ys) (last_id (first_of ns ∷ map changeset_node links))
first_view xs K ys L t [] [] h = (same_null xs K ys L t).view
first_view xs K ys L t [] (n ∷ ns) h = (same_at xs K ys L t n h.0).view
first_view xs K ys L t (l ∷ ls) ns h =
    let r = last_is changeset_node (first_of ns) l ls in
    let n : Id = last_id (first_of ns ∷ map changeset_node (l ∷ ls)) in
    let there : IsTrue (is_some (view_at (l ∷ ls) n)) = subst (λ (m : Id). IsTrue (is_some (view_at (l ∷ ls) m))) (sym r.is) (found_there changeset_node (l ∷ ls) r.it r.among) in
    find_longer (λ v. bytes_eq (changeset_node v) n) (l ∷ ls) (changesets_in xs) there ∙ sym (find_longer (λ v. bytes_eq (changeset_node v) n) (l ∷ ls) (changesets_in ys) there)

map_self : (ns : List Id) → map (λ (x : Id). x) ns ≡ ns
map_self [] = refl
map_self (n ∷ ns) = ap (λ (x : List Id). n ∷ x) (map_self ns)

last_same : (xs : List Block) (K : ChangesetView → Type 0) (ys : List Block) (L : ChangesetView → Type 0) → AreTwo xs K ys L → (ns : List Id) → Each (HasNode xs) ns → AreSameAt xs ys (last_id ns)
last_same xs K ys L t [] h = same_null xs K ys L t
last_same xs K ys L t (n ∷ ns) h =
    let r = last_alone (λ (x : Id). x) n ns in
    let e : last_id (n ∷ ns) ≡ r.it = ap last_id (sym (map_self (n ∷ ns))) ∙ r.is in
    subst (λ (m : Id). AreSameAt xs ys m) (sym e) (same_at xs K ys L t r.it (each_in (HasNode xs) (n ∷ ns) r.it h r.among))

second_same : (xs : List Block) (K : ChangesetView → Type 0) (ys : List Block) (L : ChangesetView → Type 0) → AreTwo xs K ys L → (ns : List Id) → Each (HasNode xs) ns → AreSameAt xs ys (second_of ns)
second_same xs K ys L t [] h = same_null xs K ys L t
second_same xs K ys L t (n ∷ ns) h = last_same xs K ys L t ns h.1

abbrev over_nodes : List ChangesetView → List Id → Option ChangesetView → Option ChangesetView → Parents
over_nodes links ns first second = record {
  p = last_id (first_of ns ∷ map changeset_node links);
  q = second_of ns;
  first = unwrap_or first no_changeset;
  second = unwrap_or second no_changeset;
}

parents_unfolded : (xs : List Block) (c : CommitView) → parents_of_commit xs c ≡ over_nodes (links_of xs c) (partners_of_parents xs c) (view_at (links_of xs c ++ changesets_in xs) (last_id (first_of (partners_of_parents xs c) ∷ map changeset_node (links_of xs c)))) (view_at (links_of xs c ++ changesets_in xs) (second_of (partners_of_parents xs c)))
unfolding parents_of_commit
parents_unfolded xs c = refl

pub commit_parents_same : (xs : List Block) (K : ChangesetView → Type 0) (ys : List Block) (L : ChangesetView → Type 0) → AreTwo xs K ys L → (c : CommitView) → AreCommitParentsPaired xs c → parents_of_commit xs c ≡ parents_of_commit ys c
commit_parents_same xs K ys L t c h =
    let links : List ChangesetView = links_of xs c in
    let ns : List Id = partners_of_parents xs c in
    let there = partners_there xs c h in
    let one = first_view xs K ys L t links ns there in
    let two = find_behind (λ v. bytes_eq (changeset_node v) (second_of ns)) links (changesets_in xs) (changesets_in ys) (second_same xs K ys L t ns there).view in
    let ls = links_same xs K ys L t c h in
    let ps : partners_of_parents xs c ≡ partners_of_parents ys c = partners_same xs K ys L t (c.value).parents h in
    parents_unfolded xs c ∙ (λ i. over_nodes links ns (one i) (two i))
    ∙ (λ i. over_nodes (ls i) (ps i) (view_at (ls i ++ changesets_in ys) (last_id (first_of (ps i) ∷ map changeset_node (ls i)))) (view_at (ls i ++ changesets_in ys) (second_of (ps i))))
    ∙ sym (parents_unfolded ys c)

-- what the first parent of a commit has beside its files
residue_same : (xs : List Block) (K : ChangesetView → Type 0) (ys : List Block) (L : ChangesetView → Type 0) → AreTwo xs K ys L → (ids : List Id) → Each (HasId xs) ids → first_residue xs ids ≡ first_residue ys ids
residue_same xs K ys L t [] h = refl
residue_same xs K ys L t (i ∷ is) h = ap (λ o. unwrap_or (option_map (λ (b : Block). residue_in (b.commit).rows) o) []) (same_id xs K ys L t i h.0)

abbrev over : List ResidueItem → Parents → CommitView → ChangesetView
over items ps c =
    with_extras (rule_changeset ps c) (user_of_line (c.value).author)
    (extras_of (changeset_marks c.value ((rule_changeset ps c).fields).description (residue_in c.rows) (carried items (map file_row_of (map tree_row_of (rule_changeset ps c).rows)))))

changeset_is : (xs : List Block) (c : CommitView) → mark_changeset xs c ≡ over (first_residue xs (c.value).parents) (parents_of_commit xs c) c
unfolding mark_changeset
changeset_is xs c = refl

pub changeset_same : (xs : List Block) (K : ChangesetView → Type 0) (ys : List Block) (L : ChangesetView → Type 0) → AreTwo xs K ys L → (c : CommitView) → AreCommitParentsPaired xs c → mark_changeset xs c ≡ mark_changeset ys c
changeset_same xs K ys L t c h =
    let items = residue_same xs K ys L t (c.value).parents h in
    let ps = commit_parents_same xs K ys L t c h in
    changeset_is xs c ∙ (λ i. over (items i) (ps i) c) ∙ sym (changeset_is ys c)
