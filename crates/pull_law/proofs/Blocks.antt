-- The blocks that changesets bring are one list, and some of them bring the beginning of it. With them the blocks are a table.
use Rattle.std.proofs.Common.{◌≡◌, inl, inr, false, true≢false, List, [], ◌∷◌, ◌++◌, map, refl, sym, ap, subst, ◌∙◌, append_assoc, append-nil}
use Rattle.std.specs.Prelude.{is_some, bytes_eq}
use Rattle.std.specs.List.{list_any}
use Rattle.std.proofs.lemmas.List.{map-append}
use Rattle.text_model.specs.Lists.{Each}
use Rattle.text_model.specs.Id.{Id, is_null}
use Rattle.text_model.proofs.Options.{or_parts}
use Rattle.git_model.specs.Tree.{has_distinct}
use Rattle.hg_model.specs.Revision.{Revision}
use Rattle.git_model.specs.Object.{Object, is_other_content}
use Rattle.view_model.specs.View.{commit_objects}
use Rattle.view_model.specs.Dump.{objects_in}
use Rattle.pair_model.specs.Block.{Block, node_of, id_of, block_of_id, commits_in}
use Rattle.pair_model.specs.Collision.{commit_collides}
use Rattle.partner_model.specs.Partner.{IsHeldView}
use Rattle.partner_model.specs.Given.{IsCommitFor}
use Rattle.partner_model.specs.Clash.{is_any_saved}
use Rattle.partner_model.specs.Table.{IsTable}
use Rattle.history_model.specs.Pull.{BringBlocks, GivesBlock, IsKnownLink, is_saved}
use Rattle.pull_law.specs.Sound.{HasOwnNode}
use Rattle.pull_law.proofs.Known.{HasNoNull, no-null, own-some, held-node}
use Rattle.pull_law.proofs.Searches.{not-among}
use Rattle.pull_law.proofs.Tables.{distinct-push, push, partner-rises}
use Rattle.pull_law.proofs.Views.{block-one}

module _ (known : List Revision) (own : Each HasOwnNode known) where
  none : HasNoNull known
  none = no-null known (own-some known own)

  -- the block of a changeset that stands in none is one more of a table
  gives-table : (objects : List Object) (blocks : List Block) (node : Id) (b : Block) → IsTable blocks → is_saved blocks node ≡ false
      → GivesBlock known objects blocks node b → IsTable (blocks ++ b ∷ [])
  gives-table objects blocks node b table free gives =
      let for = (gives.passes).block in
      let held = held-node known node gives.view own gives.is_held in
      let node_is : node_of b ≡ node = ap (λ (d : Block). node_of d) for.2 ∙ held.0 in
      let commit_free : commit_collides objects blocks b.commit ≡ false =
      (or_parts (commit_collides objects blocks b.commit) (is_any_saved blocks b.links) (gives.passes).apart).0 in
      let id_free : is_some (block_of_id blocks (id_of b)) ≡ false =
      (or_parts (list_any (λ o. list_any (is_other_content o) (objects ++ commit_objects b.commit)) (commit_objects b.commit))
      (is_some (block_of_id blocks (id_of b))) commit_free).1 in
      push blocks b table
      (ap (λ (n : Id). list_any (bytes_eq n) (map node_of blocks)) node_is ∙ not-among node_of node blocks free)
      (ap has_distinct (map-append id_of blocks (b ∷ [])) ∙ distinct-push (map id_of blocks) (id_of b) table.ids (not-among id_of (id_of b) blocks id_free))
      (ap is_null node_is ∙ held.1)
      (partner-rises known node blocks table gives.view b.commit gives.is_held
      (subst (λ (d : Block). IsCommitFor blocks (IsHeldView known) gives.view d.commit) (sym for.2) for.1))

  pub brings-table : (objects : List Object) (blocks : List Block) (rs : List Revision) (new : List Block) → IsTable blocks
      → BringBlocks known objects blocks rs new → IsTable (blocks ++ new)
  unfolding BringBlocks
  brings-table objects blocks [] new table h = subst (λ (l : List Block). IsTable (blocks ++ l)) (sym h) (subst IsTable (sym (append-nil blocks)) table)
  brings-table objects blocks (r ∷ rs) new table (inl h) = brings-table objects blocks rs new table h.1
  brings-table objects blocks (r ∷ rs) new table (inr (inl h)) = brings-table objects blocks rs new table h.2
  brings-table objects blocks (r ∷ rs) new table (inr (inr (no_link, free, b, rest, is, gives, later))) =
      let more = brings-table (objects ++ commit_objects b.commit) (blocks ++ b ∷ []) rs rest (gives-table objects blocks r.node b table free gives) later in
      subst IsTable (append_assoc blocks (b ∷ []) rest ∙ ap (λ (l : List Block). blocks ++ l) (sym is)) more

  pub blocks-one : (objects : List Object) (blocks : List Block) (rs : List Revision) (xs ys : List Block) → IsTable blocks
      → BringBlocks known objects blocks rs xs → BringBlocks known objects blocks rs ys → xs ≡ ys
  unfolding BringBlocks
  blocks-one objects blocks [] xs ys table h k = h ∙ sym k
  blocks-one objects blocks (r ∷ rs) xs ys table (inl h) (inl k) = blocks-one objects blocks rs xs ys table h.1 k.1
  blocks-one objects blocks (r ∷ rs) xs ys table (inl h) (inr (inl k)) = absurd (k.0 h.0)
  blocks-one objects blocks (r ∷ rs) xs ys table (inl h) (inr (inr k)) = absurd (k.0 h.0)
  blocks-one objects blocks (r ∷ rs) xs ys table (inr (inl h)) (inl k) = absurd (h.0 k.0)
  blocks-one objects blocks (r ∷ rs) xs ys table (inr (inr h)) (inl k) = absurd (h.0 k.0)
  blocks-one objects blocks (r ∷ rs) xs ys table (inr (inl h)) (inr (inl k)) = blocks-one objects blocks rs xs ys table h.2 k.2
  blocks-one objects blocks (r ∷ rs) xs ys table (inr (inl h)) (inr (inr k)) = absurd (true≢false (sym h.1 ∙ k.1))
  blocks-one objects blocks (r ∷ rs) xs ys table (inr (inr h)) (inr (inl k)) = absurd (true≢false (sym k.1 ∙ h.1))
  blocks-one objects blocks (r ∷ rs) xs ys table (inr (inr (no_link, free, b, rest, is, gives, later))) (inr (inr (no_link', free', c, rest', is', gives', later'))) =
      let same : b ≡ c = block-one known none objects blocks table r.node b c gives gives' in
      let others : rest ≡ rest' = blocks-one (objects ++ commit_objects b.commit) (blocks ++ b ∷ []) rs rest rest'
      (gives-table objects blocks r.node b table free gives) later
      (subst (λ (x : Block). BringBlocks known (objects ++ commit_objects x.commit) (blocks ++ x ∷ []) rs rest') (sym same) later') in
      is ∙ (λ i. same i ∷ others i) ∙ sym is'

-- what some changesets bring, and what others bring behind them
pub record BringsParts (known : List Revision) (objects : List Object) (blocks : List Block) (rs rs' : List Revision) : Type 0 where
  pub front : List Block
  pub back : List Block
  pub first : BringBlocks known objects blocks rs front
  pub then : BringBlocks known (objects ++ objects_in (commits_in front)) (blocks ++ front) rs' back

pub parts : (known : List Revision) (objects : List Object) (blocks : List Block) (rs rs' : List Revision) (new : List Block)
    → BringBlocks known objects blocks (rs ++ rs') new → BringsParts known objects blocks rs rs'
unfolding BringBlocks
parts known objects blocks [] rs' new h = record {
  front = [];
  back = new;
  first = refl;
  then = subst (λ (l : List Object). BringBlocks known l (blocks ++ []) rs' new) (sym (append-nil objects))
      (subst (λ (l : List Block). BringBlocks known objects l rs' new) (sym (append-nil blocks)) h);
}
parts known objects blocks (r ∷ rs) rs' new (inl h) =
    let p = parts known objects blocks rs rs' new h.1 in
    record { front = p.front; back = p.back; first = inl (h.0, p.first); then = p.then }
parts known objects blocks (r ∷ rs) rs' new (inr (inl h)) =
    let p = parts known objects blocks rs rs' new h.2 in
    record { front = p.front; back = p.back; first = inr (inl (h.0, h.1, p.first)); then = p.then }
parts known objects blocks (r ∷ rs) rs' new (inr (inr (no_link, free, b, rest, is, gives, later))) =
    let p = parts known (objects ++ commit_objects b.commit) (blocks ++ b ∷ []) rs rs' rest later in
    record {
      front = b ∷ p.front;
      back = p.back;
      first = inr (inr (no_link, free, b, p.front, refl, gives, p.first));
      then = subst (λ (l : List Object). BringBlocks known l (blocks ++ b ∷ p.front) rs' p.back)
          (append_assoc objects (commit_objects b.commit) (objects_in (commits_in p.front)))
          (subst (λ (l : List Block). BringBlocks known ((objects ++ commit_objects b.commit) ++ objects_in (commits_in p.front)) l rs' p.back)
          (append_assoc blocks (b ∷ []) p.front) p.then);
    }

-- a changeset behind others has its block, where it is no link and none of those before it is its own
pub gives-behind : (known : List Revision) (own : Each HasOwnNode known) (objects : List Object) (blocks : List Block) (rs : List Revision) (r : Revision)
    (later : List Revision) (new all : List Block) → IsTable blocks → BringBlocks known objects blocks (rs ++ r ∷ later) all
    → BringBlocks known objects blocks rs new → ¬ (IsKnownLink known r.node) → is_saved (blocks ++ new) r.node ≡ false
    → (b : Block) × GivesBlock known (objects ++ objects_in (commits_in new)) (blocks ++ new) r.node b
unfolding BringBlocks
gives-behind known own objects blocks rs r later new all table h k no_link free =
    let p = parts known objects blocks rs (r ∷ later) all h in
    let same : p.front ≡ new = blocks-one known own objects blocks rs p.front new table p.first k in
    by p.back (subst (λ (l : List Block). BringBlocks known (objects ++ objects_in (commits_in l)) (blocks ++ l) (r ∷ later) p.back) same p.then)
  where
    by : (back : List Block) → BringBlocks known (objects ++ objects_in (commits_in new)) (blocks ++ new) (r ∷ later) back
        → (b : Block) × GivesBlock known (objects ++ objects_in (commits_in new)) (blocks ++ new) r.node b
    by back (inl x) = absurd (no_link x.0)
    by back (inr (inl x)) = absurd (true≢false (sym x.1 ∙ free))
    by back (inr (inr x)) = (x.2, x.5)
