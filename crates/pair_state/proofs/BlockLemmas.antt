-- Blocks that are stored, with one more behind them.
use Rattle.std.proofs.Common.{◌≡◌, Bool, true, false, ◌||◌, List, [], ◌∷◌, ◌++◌, length, map, Some, None, refl, sym, ap, subst, ◌∙◌, append-nil}
use Rattle.std.specs.Prelude.{bytes_eq, option_map, is_some, if◌then◌else◌, IsTrue}
use Rattle.std.specs.List.{find, list_any}
use Rattle.std.proofs.lemmas.List.{length-map}
use Rattle.std.proofs.lemmas.List.Concat.{flat_map-append}
use Rattle.text_model.specs.Lists.{Each}
use Rattle.text_model.specs.Id.{Id, has_id}
use Rattle.text_model.proofs.EachLemmas.{Each-push}
use Rattle.text_model.proofs.Options.{some_mapped}
use Rattle.text_model.proofs.Elements.{map_append}
use Rattle.hg_model.specs.Revision.{Revision}
use Rattle.git_model.specs.Object.{Object}
use Rattle.git_model.specs.Unfold.{walk_fault}
use Rattle.git_store.proofs.DistinctLemmas.{bytes_eq-comm}
use Rattle.view_model.specs.View.{ChangesetView, CommitView, changeset_node, commit_id}
use Rattle.view_model.specs.Held.{IsCommitHeld, AreChangesetsHeld, AreCommitsHeld}
use Rattle.pair_model.specs.Block.{Block, node_of, id_of, changesets_in, commits_in, view_at, block_of_node, block_of_id}
use Rattle.pair_model.specs.Octopus.{is_link_view}
use Rattle.partner_model.specs.Clash.{is_any_saved}
use Rattle.pair_known.specs.Blocks.{AreBlocksHeld, IsHistoryHeld}
use Rattle.pair_known.specs.Partners.{git_at, hg_at, ArePartners}
use Rattle.pair_known.specs.declared.known.Known.{Known}
use Rattle.git_store.specs.Known.{AreKnown}
use Rattle.hg_store.specs.Known.{AreAdded}
use Rattle.pair_state.specs.Blocks.{BlockValue, value_of, block_value, IsAgreed, IsStateOf}
use Rattle.pair_state.specs.Step.{IsPushed}
use Rattle.pair_state.specs.declared.state_parts.StateParts.{StateParts}

-- ---- partners

abbrev pair_of : Block → Id × Id
pair_of b = (node_of b, id_of b)

git-blocks : (blocks : List Block) (node : Id) → git_at (map pair_of blocks) node ≡ option_map id_of (block_of_node blocks node)
git-blocks [] node = refl
git-blocks (b ∷ blocks) node = by (bytes_eq (node_of b) node) (git-blocks blocks node)
  where
    by : (t : Bool) → git_at (map pair_of blocks) node ≡ option_map id_of (block_of_node blocks node)
        → option_map (λ (e : Id × Id). e.1) (if t then Some (pair_of b) else find (λ (e : Id × Id). bytes_eq e.0 node) (map pair_of blocks)) ≡ option_map id_of (if t then Some b else block_of_node blocks node)
    by true rest = refl
    by false rest = rest

hg-blocks : (blocks : List Block) (id : Id) → hg_at (map pair_of blocks) id ≡ option_map node_of (block_of_id blocks id)
hg-blocks [] id = refl
hg-blocks (b ∷ blocks) id = by (bytes_eq (id_of b) id) (hg-blocks blocks id)
  where
    by : (t : Bool) → hg_at (map pair_of blocks) id ≡ option_map node_of (block_of_id blocks id)
        → option_map (λ (e : Id × Id). e.0) (if t then Some (pair_of b) else find (λ (e : Id × Id). bytes_eq e.1 id) (map pair_of blocks)) ≡ option_map node_of (if t then Some b else block_of_id blocks id)
    by true rest = refl
    by false rest = rest

module _ (k : Known) (blocks : List Block) (held : IsHistoryHeld k blocks) where
  pub git-some : (node : Id) → is_some (git_at k.partners node) ≡ is_some (block_of_node blocks node)
  git-some node = ap (λ (ps : List (Id × Id)). is_some (git_at ps node)) held.held.partners ∙ ap is_some (git-blocks blocks node) ∙ some_mapped id_of (block_of_node blocks node)

  pub hg-some : (id : Id) → is_some (hg_at k.partners id) ≡ is_some (block_of_id blocks id)
  hg-some id = ap (λ (ps : List (Id × Id)). is_some (hg_at ps id)) held.held.partners ∙ ap is_some (hg-blocks blocks id) ∙ some_mapped node_of (block_of_id blocks id)

-- ---- nodes

pub has-view : (vs : List ChangesetView) (node : Id) → has_id (map changeset_node vs) node ≡ is_some (view_at vs node)
has-view [] node = refl
has-view (v ∷ vs) node = ap (λ (t : Bool). t || has_id (map changeset_node vs) node) (bytes_eq-comm node (changeset_node v)) ∙ by (bytes_eq (changeset_node v) node) (has-view vs node)
  where
    by : (t : Bool) → has_id (map changeset_node vs) node ≡ is_some (view_at vs node) → (t || has_id (map changeset_node vs) node) ≡ is_some (if t then Some v else view_at vs node)
    by true rest = refl
    by false rest = rest

pub any-saved : (nodes : List Id) (blocks : List Block) → nodes ≡ map changeset_node (changesets_in blocks) → (ls : List ChangesetView) → list_any (has_id nodes) (map changeset_node ls) ≡ is_any_saved blocks ls
any-saved nodes blocks are [] = refl
any-saved nodes blocks are (l ∷ ls) =
    (λ i. (ap (λ (ns : List Id). has_id ns (changeset_node l)) are ∙ has-view (changesets_in blocks) (changeset_node l)) i || any-saved nodes blocks are ls i)

-- ---- lists with one more

map-push : {X Y : Type 0} (f : X → Y) (xs : List X) (x : X) → map f (xs ++ x ∷ []) ≡ map f xs ++ f x ∷ []
map-push f [] x = refl
map-push f (y ∷ xs) x = ap (λ l. f y ∷ l) (map-push f xs x)

-- the changesets of a block
abbrev pub parts_of : Block → List ChangesetView
parts_of b = b.links ++ b.changeset ∷ []

changesets-push : (blocks : List Block) (b : Block) → changesets_in (blocks ++ b ∷ []) ≡ changesets_in blocks ++ parts_of b
changesets-push blocks b = flat_map-append parts_of blocks (b ∷ []) ∙ ap (λ (l : List ChangesetView). changesets_in blocks ++ l) (append-nil (parts_of b))

abbrev AreHeld : List Revision → List ChangesetView → Type 0
AreHeld known vs = AreChangesetsHeld known (map changeset_node vs) vs

pub held-append : (known : List Revision) (vs ws : List ChangesetView) → AreHeld known vs → AreHeld known ws → AreHeld known (vs ++ ws)
held-append known [] ws a b = b
held-append known (v ∷ vs) ws a b = (a.0, held-append known vs ws a.1 b)

commits-held : (known : List Object) (ids : List Id) (cs : List CommitView) (id : Id) (c : CommitView) → AreCommitsHeld known ids cs → IsCommitHeld known id c → AreCommitsHeld known (ids ++ id ∷ []) (cs ++ c ∷ [])
commits-held known [] [] id c are is = (is, tt)
commits-held known [] (d ∷ cs) id c are is = absurd are
commits-held known (i ∷ ids) [] id c are is = absurd are
commits-held known (i ∷ ids) (d ∷ cs) id c are is = (are.0, commits-held known ids cs id c are.1 is)

-- what the stores hold of the blocks and of one more
pub record HoldMore (hg : List Revision) (git : List Object) (blocks : List Block) (b : Block) : Type 0 where
  pub changesets : AreChangesetsHeld hg (map changeset_node (changesets_in blocks)) (changesets_in blocks)
  pub parts : AreChangesetsHeld hg (map changeset_node (parts_of b)) (parts_of b)
  pub commits : AreCommitsHeld git (map commit_id (commits_in blocks)) (commits_in blocks)
  pub commit : IsCommitHeld git (id_of b) b.commit
  pub walks : Each (λ b. walk_fault git ((b.commit).value).tree_id ≡ None) blocks
  pub walk : walk_fault git ((b.commit).value).tree_id ≡ None
  pub no_link : is_link_view b.changeset ≡ false
  pub sound : AreKnown git

-- the lists of the state with one block more
pub record HasMore (old next : StateParts) (b : Block) : Type 0 where
  pub partners : next.known.partners ≡ old.known.partners ++ (node_of b, id_of b) ∷ []
  pub blocks : map value_of next.blocks ≡ map value_of old.blocks ++ block_value b ∷ []
  pub changesets : next.changesets ≡ old.changesets ++ map changeset_node (parts_of b)
  pub commits : next.commits ≡ old.commits ++ id_of b ∷ []
  pub added : AreAdded next.known.hg
  pub one : ArePartners next.known.partners
  pub agreed : (node : Id) → IsTrue (has_id next.agreed node) → IsAgreed next.known.hg next.known.git node

-- what was put behind the others is a block
pub has-more : (old next : StateParts) (b : Block) (links : List Id) (node id : Id) → IsPushed old next links node id → AreAdded old.known.hg → links ≡ map changeset_node b.links → node ≡ node_of b → id ≡ id_of b
    → (next_agreed : (node : Id) → IsTrue (has_id next.agreed node) → IsAgreed next.known.hg next.known.git node) → HasMore old next b
has-more old next b links node id by added links_are node_is id_is agreed = record {
  partners = by.partners ∙ (λ i. old.known.partners ++ (node_is i, id_is i) ∷ []);
  blocks = by.blocks ∙ (λ i. map value_of old.blocks ++ record { node = node_is i; commit = id_is i; links = (ap (λ (l : List Id). length l) links_are ∙ length-map b.links changeset_node) i } ∷ []);
  changesets = by.changesets ∙ ap (λ (l : List Id). old.changesets ++ l) ((λ i. links_are i ++ node_is i ∷ []) ∙ sym (map_append changeset_node b.links (b.changeset ∷ [])));
  commits = by.commits ∙ (λ i. old.commits ++ id_is i ∷ []);
  added = subst AreAdded (sym by.hg) added;
  one = by.one;
  agreed = agreed;
}

module _ (old next : StateParts) (blocks : List Block) (b : Block) (of : IsStateOf old blocks) (more : HoldMore next.known.hg next.known.git blocks b) (has : HasMore old next b) where
  blocks-more : AreBlocksHeld next.known (blocks ++ b ∷ [])
  blocks-more = record {
    changesets = subst (λ (vs : List ChangesetView). AreChangesetsHeld next.known.hg (map changeset_node vs) vs) (sym (changesets-push blocks b))
        (held-append next.known.hg (changesets_in blocks) (parts_of b) more.changesets more.parts);
    commits = subst (λ (cs : List CommitView). AreCommitsHeld next.known.git (map commit_id cs) cs) (sym (map-push (λ (b : Block). b.commit) blocks b))
        (subst (λ (is : List Id). AreCommitsHeld next.known.git is (commits_in blocks ++ b.commit ∷ [])) (sym (map-push commit_id (commits_in blocks) b.commit))
        (commits-held next.known.git (map commit_id (commits_in blocks)) (commits_in blocks) (id_of b) b.commit more.commits more.commit));
    walks = Each-push (λ (b : Block). walk_fault next.known.git ((b.commit).value).tree_id ≡ None) blocks b more.walks more.walk;
    partners = has.partners ∙ ap (λ (ps : List (Id × Id)). ps ++ pair_of b ∷ []) of.held.held.partners ∙ sym (map-push pair_of blocks b);
  }

  pub state-more : IsStateOf next (blocks ++ b ∷ [])
  state-more = record {
    held = record { held = blocks-more; no_links = Each-push (λ (b : Block). is_link_view b.changeset ≡ false) blocks b of.held.no_links more.no_link; added = has.added; partners = has.one };
    sound = more.sound;
    blocks_are = has.blocks ∙ ap (λ (l : List BlockValue). l ++ block_value b ∷ []) of.blocks_are ∙ sym (map-push block_value blocks b);
    changesets = has.changesets ∙ ap (λ (l : List Id). l ++ map changeset_node (parts_of b)) of.changesets
        ∙ sym (map_append changeset_node (changesets_in blocks) (parts_of b)) ∙ ap (map changeset_node) (sym (changesets-push blocks b));
    commits = has.commits ∙ ap (λ (l : List Id). l ++ id_of b ∷ []) of.commits ∙ sym (map-push id_of blocks b);
    agreed = has.agreed;
  }

-- the nodes of the changesets of blocks and of others behind them
pub nodes-append : (blocks new : List Block) → map changeset_node (changesets_in (blocks ++ new)) ≡ map changeset_node (changesets_in blocks) ++ map changeset_node (changesets_in new)
nodes-append blocks new = ap (map changeset_node) (flat_map-append parts_of blocks new) ∙ map_append changeset_node (changesets_in blocks) (changesets_in new)
