-- Blocks, and the changesets and the commits of which they are made.
use Rattle.std.proofs.Common.{◌≡◌, ℕ, ◌+◌, suc, Bool, true, false, true≢false, List, [], ◌∷◌, ◌++◌, length, map, take, slice_get, Some, nat_lt, ◌==◌, IsTrue, refl, sym, ap, ◌∙◌, arith, append_assoc, length-append, codes, decimal, flat_map}
use Rattle.std.proofs.lemmas.Bool.{ne_eqb}
use Rattle.std.proofs.lemmas.List.{length-take}
use Rattle.text_model.specs.Lists.{Each}
use Rattle.text_model.specs.Text.{Bytes, line, spaced}
use Rattle.text_model.specs.Id.{Id}
use Rattle.text_model.proofs.EachLemmas.{Each-push}
use Rattle.text_model.proofs.Elements.{take_push}
use Rattle.view_model.specs.View.{ChangesetView, CommitView, changeset_node, commit_id}
use Rattle.git_model.specs.Tree.{has_distinct}
use Rattle.pair_model.specs.Block.{Block, node_of, id_of, changesets_in, commits_in}
use Rattle.pair_model.specs.Octopus.{is_link_view}
use Rattle.state_model.specs.Limits.{link_limit}
use Rattle.state_model.specs.Text.{no_links, map_lines}
use Rattle.state_model.specs.Saved.{links_lead, AreBlocks}
use Rattle.dump_law.proofs.Blocks.{no_links-blocks, nodes-distinct, ids-blocks}
use Rattle.state_part.specs.Pairs.{pair_line}
use Rattle.pair_state.specs.declared.blocks.Block as pair
use Rattle.state_text.specs.declared.heads.Head.{Head}
use Rattle.state_text.specs.Heads.{head_of, heads_of}
use Rattle.state_text.specs.Sections.{paired, pair_in, pairs_text}
use Rattle.state_text.specs.Stands.{pair_of}
use Rattle.state_text.specs.Whole.{block_in}

-- ---- the heads of blocks

abbrev pub head_in : Block → Head
head_in b = head_of (length b.links) b.changeset

heads-links : (n : ℕ) (ls : List ChangesetView) (h : ChangesetView) (rest : List ChangesetView) → Each (λ l. IsTrue (is_link_view l)) ls → is_link_view h ≡ false
    → heads_of n ((ls ++ h ∷ []) ++ rest) ≡ head_of (n + length ls) h ∷ heads_of 0 rest
unfolding heads_of
heads-links n [] h rest links none =
    let same : n ≡ n + 0 = omega arith in
    rw none (ap (λ (k : ℕ). head_of k h ∷ heads_of 0 rest) same)
heads-links n (l ∷ ls) h rest links none =
    let same : (n + 1) + length ls ≡ n + length (l ∷ ls) = omega arith in
    rw links.0 (heads-links (n + 1) ls h rest links.1 none ∙ ap (λ (k : ℕ). head_of k h ∷ heads_of 0 rest) same)

pub heads-blocks : (bs : List Block) → AreBlocks bs → heads_of 0 (changesets_in bs) ≡ map head_in bs
unfolding heads_of
heads-blocks [] are = refl
heads-blocks (b ∷ bs) are =
    let same : 0 + length b.links ≡ length b.links = omega arith in
    heads-links 0 b.links b.changeset (changesets_in bs) are.0.0 are.0.1 ∙ (λ i. head_of (same i) b.changeset ∷ heads-blocks bs are.1 i)

-- ---- pairs

pub paired-blocks : (bs : List Block) → paired (map head_in bs) (map id_of bs) ≡ map block_in bs
unfolding paired
paired-blocks [] = refl
paired-blocks (b ∷ bs) = ap (λ (l : List pair.Block). block_in b ∷ l) (paired-blocks bs)

paired-push : (hs : List Head) (cs : List Id) (h : Head) (c : Id) → length hs ≡ length cs
    → paired (hs ++ h ∷ []) (cs ++ c ∷ []) ≡ paired hs cs ++ record { node = h.node; commit = c; links = h.links } ∷ []
unfolding paired
paired-push [] [] h c same = refl
paired-push [] (d ∷ cs) h c same = absurd (omega (arith, same))
paired-push (g ∷ hs) [] h c same = absurd (omega (arith, same))
paired-push (g ∷ hs) (d ∷ cs) h c same =
    ap (λ (l : List pair.Block). record { node = g.node; commit = d; links = g.links } ∷ l) (paired-push hs cs h c (omega (arith, same)))

pub paired-more : (hs : List Head) (cs : List Id) (i : ℕ) (h : Head) (c : Id) → length hs ≡ length cs → slice_get hs i ≡ Some h → slice_get cs i ≡ Some c
    → paired (take (i + 1) hs) (take (i + 1) cs) ≡ paired (take i hs) (take i cs) ++ record { node = h.node; commit = c; links = h.links } ∷ []
paired-more hs cs i h c same at_h at_c =
    let level : length (take i hs) ≡ length (take i cs) = omega (arith, length-take i hs, length-take i cs, same) in
    (λ j. paired (take_push hs i h at_h j) (take_push cs i c at_c j)) ∙ paired-push (take i hs) (take i cs) h c level

-- ---- the section of the pairs

lines-same : (bs : List Block) → flat_map pair_line (map pair_in (map block_in bs)) ≡ map_lines (commits_in bs) (map (λ b. b.changeset) bs)
lines-same [] = refl
lines-same (b ∷ bs) = ap (λ (l : Bytes). pair_line (pair_of b) ++ l) (lines-same bs)

length-same : (bs : List Block) → length (map pair_in (map block_in bs)) ≡ length (commits_in bs)
length-same [] = refl
length-same (b ∷ bs) = ap suc (length-same bs)

-- what the third section says
abbrev pub map_text_of : List CommitView → List ChangesetView → Bytes
map_text_of cs hs = line (spaced (codes "map" ∷ decimal (length cs) ∷ [])) ++ map_lines cs (no_links hs)

pub pairs-section : (bs : List Block) → AreBlocks bs → pairs_text (map block_in bs) ≡ map_text_of (commits_in bs) (changesets_in bs)
pairs-section bs are =
    let lines = lines-same bs ∙ ap (map_lines (commits_in bs)) (sym (no_links-blocks bs are)) in
    (λ i. line (spaced (codes "map" ∷ decimal (length-same bs i) ∷ [])) ++ lines i)

pub pairs-of : (bs : List Block) → map pair_in (map block_in bs) ≡ map pair_of bs
pairs-of [] = refl
pairs-of (b ∷ bs) = (λ i. pair_of b ∷ pairs-of bs i)

-- ---- the blocks that changesets and commits make

pub record Made (ls hs : List ChangesetView) (cs : List CommitView) : Type 0 where
  pub blocks : List Block
  pub are : AreBlocks blocks
  pub changesets : changesets_in blocks ≡ ls ++ hs
  pub commits : commits_in blocks ≡ cs

nothing-left : (ls : List ChangesetView) → (length ls == 0) ≡ true → (cs : List CommitView) → length cs ≡ 0 → Made ls [] cs
nothing-left [] none [] same = record { blocks = []; are = tt; changesets = refl; commits = refl }
nothing-left [] none (c ∷ cs) same = absurd (omega (arith, same))
nothing-left (l ∷ ls) none cs same = absurd (true≢false (sym none ∙ ne_eqb (length (l ∷ ls)) 0 (λ e. absurd (omega (arith, e)))))

pub blocks-made : (hs ls : List ChangesetView) (cs : List CommitView) → Each (λ l. IsTrue (is_link_view l)) ls → links_lead (length ls) hs ≡ true → length cs ≡ length (no_links hs) → Made ls hs cs
unfolding links_lead
blocks-made [] ls cs links lead same = nothing-left ls lead cs same
blocks-made (h ∷ hs) ls cs links lead same = by (is_link_view h) refl (nat_lt (length ls) link_limit) refl cs lead same (blocks-made hs)
  where
    by : (t : Bool) → is_link_view h ≡ t → (u : Bool) → nat_lt (length ls) link_limit ≡ u → (cs : List CommitView) → links_lead (length ls) (h ∷ hs) ≡ true → length cs ≡ length (no_links (h ∷ hs))
        → ((ms : List ChangesetView) (ds : List CommitView) → Each (λ l. IsTrue (is_link_view l)) ms → links_lead (length ms) hs ≡ true → length ds ≡ length (no_links hs) → Made ms hs ds)
        → Made ls (h ∷ hs) cs
    by true e true f cs lead same go =
        let count : length ls + 1 ≡ length (ls ++ h ∷ []) = omega (arith, length-append ls (h ∷ [])) in
        let step : links_lead (length ls + 1) hs ≡ links_lead (length ls) (h ∷ hs) = rw (e, f) refl in
        let left : no_links (h ∷ hs) ≡ no_links hs = rw e refl in
        let more = go (ls ++ h ∷ []) cs (Each-push (λ l. IsTrue (is_link_view l)) ls h links e) (ap (λ (n : ℕ). links_lead n hs) (sym count) ∙ step ∙ lead) (same ∙ ap (λ (l : List ChangesetView). length l) left) in
        record { blocks = more.blocks; are = more.are; changesets = more.changesets ∙ append_assoc ls (h ∷ []) hs; commits = more.commits }
    by true e false f cs lead same go =
        let step : false ≡ links_lead (length ls) (h ∷ hs) = rw (e, f) refl in
        absurd (true≢false (sym (step ∙ lead)))
    by false e u f [] lead same go =
        let left : no_links (h ∷ hs) ≡ h ∷ no_links hs = rw e refl in
        absurd (omega (arith, same ∙ ap (λ (l : List ChangesetView). length l) left))
    by false e u f (c ∷ cs) lead same go =
        let step : links_lead 0 hs ≡ links_lead (length ls) (h ∷ hs) = rw e refl in
        let left : no_links (h ∷ hs) ≡ h ∷ no_links hs = rw e refl in
        let fewer : length cs ≡ length (no_links hs) = omega (arith, same ∙ ap (λ (l : List ChangesetView). length l) left) in
        let more = go [] cs tt (step ∙ lead) fewer in
        record {
          blocks = record { links = ls; changeset = h; commit = c } ∷ more.blocks;
          are = ((links, e), more.are);
          changesets = append_assoc ls (h ∷ []) (changesets_in more.blocks) ∙ ap (λ (l : List ChangesetView). ls ++ h ∷ l) more.changesets;
          commits = ap (λ (l : List CommitView). c ∷ l) more.commits;
        }

-- ---- ids, each of which stands once

pub partners-blocks : (bs : List Block) → map {B = Id × Id} (λ b. (b.node, b.commit)) (map block_in bs) ≡ map {B = Id × Id} (λ b. (node_of b, id_of b)) bs
partners-blocks [] = refl
partners-blocks (b ∷ bs) = ap (λ (l : List (Id × Id)). (node_of b, id_of b) ∷ l) (partners-blocks bs)

nodes-blocks : (bs : List Block) → map (λ b. b.node) (map block_in bs) ≡ map node_of bs
nodes-blocks [] = refl
nodes-blocks (b ∷ bs) = ap (λ (l : List Id). node_of b ∷ l) (nodes-blocks bs)

commits-blocks : (bs : List Block) → map (λ b. b.commit) (map block_in bs) ≡ map id_of bs
commits-blocks [] = refl
commits-blocks (b ∷ bs) = ap (λ (l : List Id). id_of b ∷ l) (commits-blocks bs)

pub nodes-once : (blocks : List pair.Block) (bs : List Block) → blocks ≡ map block_in bs → has_distinct (map changeset_node (changesets_in bs)) ≡ true → has_distinct (map (λ b. b.node) blocks) ≡ true
nodes-once blocks bs are h = ap (λ (l : List pair.Block). has_distinct (map (λ b. b.node) l)) are ∙ ap has_distinct (nodes-blocks bs) ∙ nodes-distinct bs h

pub ids-once : (blocks : List pair.Block) (bs : List Block) → blocks ≡ map block_in bs → has_distinct (map commit_id (commits_in bs)) ≡ true → has_distinct (map (λ b. b.commit) blocks) ≡ true
ids-once blocks bs are h = ap (λ (l : List pair.Block). has_distinct (map (λ b. b.commit) l)) are ∙ ap has_distinct (commits-blocks bs ∙ sym (ids-blocks bs)) ∙ h
