-- The blocks that commits bring are one list, and some of them bring the beginning of it. With them the blocks are a table.
use Rattle.std.proofs.Common.{◌≡◌, Bool, true, false, ◌||◌, List, [], ◌∷◌, ◌++◌, map, refl, sym, ap, subst, ◌∙◌, append_assoc, append-nil}
use Rattle.std.specs.Prelude.{is_some}
use Rattle.std.specs.List.{list_any}
use Rattle.std.proofs.lemmas.List.{map-append}
use Rattle.text_model.specs.Lists.{rises}
use Rattle.text_model.specs.Text.{is_below}
use Rattle.text_model.specs.Id.{Id, is_null}
use Rattle.text_model.proofs.EachLemmas.{Each-rest, Each-weaker}
use Rattle.text_model.proofs.Elements.{flat_map_append}
use Rattle.text_model.proofs.Options.{or_parts}
use Rattle.hg_model.specs.Revision.{Revision, is_otherwise, known_after_all}
use Rattle.hg_model.proofs.RevisionLemmas.{known_after_all-append}
use Rattle.git_model.specs.Object.{Object}
use Rattle.git_model.specs.Stream.{IsChecked}
use Rattle.git_model.specs.Tree.{has_distinct}
use Rattle.git_model.proofs.FitLemmas.{each_none}
use Rattle.view_model.specs.View.{ChangesetView, CommitView, changeset_node, commit_id, tree_paths}
use Rattle.view_model.specs.Dump.{revisions_of, revisions_in}
use Rattle.pair_model.specs.Block.{Block, node_of, id_of, view_at, changesets_in}
use Rattle.partner_model.specs.Clash.{changeset_side_collides, is_any_saved}
use Rattle.partner_model.specs.Table.{IsTable}
use Rattle.history_model.specs.Pull.{CommitGives, CommitsBring}
use Rattle.pull_law.proofs.Known.{AreSome, no-null, after-all, held-id}
use Rattle.pull_law.proofs.Tables.{distinct-front, push, not-saved, paths-joined}
use Rattle.pull_law.proofs.Commits.{block-one}

-- ---- what lasts from block to block

-- the changesets of a block
abbrev changesets_of : Block → List ChangesetView
changesets_of b = b.links ++ b.changeset ∷ []

-- No known revision has the null id, the blocks are a table, and the ids of what is to come are new and distinct.
pub record GoesOn (known : List Revision) (blocks : List Block) (ids : List Id) : Type 0 where
  pub some : AreSome known
  pub table : IsTable blocks
  pub distinct : has_distinct (map id_of blocks ++ ids) ≡ true

-- the first of them go on where all do
pub on-front : (known : List Revision) (blocks : List Block) (ids later : List Id) → GoesOn known blocks (ids ++ later) → GoesOn known blocks ids
on-front known blocks ids later on = record {
  some = on.some;
  table = on.table;
  distinct = distinct-front (map id_of blocks ++ ids) later (ap has_distinct (append_assoc (map id_of blocks) ids later) ∙ on.distinct);
}

-- one of the revisions of a changeset is its own
own-some : (views : List ChangesetView) (h : ChangesetView) → AreSome (revisions_in (views ++ h ∷ [])) → is_null (changeset_node h) ≡ false
unfolding revisions_of
own-some [] h some = some.0
own-some (v ∷ views) h some = own-some views h (Each-rest (λ r. is_null r.node ≡ false) (revisions_of v) (revisions_in (views ++ h ∷ [])) some)

module _ (known : List Revision) (blocks : List Block) (b : Block) (apart : changeset_side_collides known blocks b ≡ false) where
  abbrev clashes : Revision → Bool
  clashes r = is_null r.node || list_any (is_otherwise r) (known ++ revisions_in (changesets_of b))

  parts-apart : (list_any clashes (revisions_in (changesets_of b)) ≡ false) × (is_any_saved blocks (changesets_of b) ≡ false)
  parts-apart = or_parts (list_any clashes (revisions_in (changesets_of b))) (is_any_saved blocks (changesets_of b)) apart

  -- no revision of the block has the null id
  block-some : AreSome (revisions_in (changesets_of b))
  block-some = Each-weaker (λ r. clashes r ≡ false) (λ r. is_null r.node ≡ false)
      (λ r h. (or_parts (is_null r.node) (list_any (is_otherwise r) (known ++ revisions_in (changesets_of b))) h).0)
      (revisions_in (changesets_of b)) (each_none clashes (revisions_in (changesets_of b)) parts-apart.0)

  -- the changeset of the block stands in none before it
  changeset-new : is_some (view_at (changesets_in blocks) (node_of b)) ≡ false
  changeset-new =
      let test = λ (h : ChangesetView). is_some (view_at (changesets_in blocks) (changeset_node h)) in
      (Each-rest (λ h. test h ≡ false) b.links (b.changeset ∷ []) (each_none test (changesets_of b) parts-apart.1)).0

module _ (objects : List Object) (checked : IsChecked objects) where
  -- with the block of a commit it lasts
  gives-on : (known : List Revision) (blocks : List Block) (id : Id) (ids : List Id) (b : Block) → GoesOn known blocks (id ∷ ids)
      → CommitGives known objects blocks id b → GoesOn (known_after_all known (revisions_in (changesets_of b))) (blocks ++ b ∷ []) ids
  gives-on known blocks id ids b on gives =
      let apart = (gives.passes).apart in
      let commit : b.commit ≡ gives.view = ap (λ (d : Block). d.commit) ((gives.passes).block).2 in
      let id_is : id_of b ≡ id = ap commit_id commit ∙ held-id objects id gives.view checked gives.is_held in
      let ids_are : map id_of (blocks ++ b ∷ []) ≡ map id_of blocks ++ id ∷ [] =
      map-append id_of blocks (b ∷ []) ∙ ap (λ (i : Id). map id_of blocks ++ i ∷ []) id_is in
      let all_are : map id_of (blocks ++ b ∷ []) ++ ids ≡ map id_of blocks ++ id ∷ ids =
      ap (λ (l : List Id). l ++ ids) ids_are ∙ append_assoc (map id_of blocks) (id ∷ []) ids in
      let distinct = ap has_distinct all_are ∙ on.distinct in
      record {
        some = after-all (λ r. is_null r.node ≡ false) known (revisions_in (changesets_of b)) on.some (block-some known blocks b apart);
        table = push blocks b on.table (not-saved blocks (node_of b) (changeset-new known blocks b apart))
            (distinct-front (map id_of (blocks ++ b ∷ [])) ids distinct)
            (own-some b.links b.changeset (block-some known blocks b apart))
            (ap (λ (c : CommitView). rises is_below (tree_paths c.rows)) commit
            ∙ ap (rises is_below) (sym (paths-joined (gives.view).rows)) ∙ ((gives.is_held).rows).in_order);
        distinct = distinct;
      }

  -- what is known behind a block and those that follow it
  known-behind : (known : List Revision) (b : Block) (front : List Block) → known_after_all known (revisions_in (changesets_in (b ∷ front)))
      ≡ known_after_all (known_after_all known (revisions_in (changesets_of b))) (revisions_in (changesets_in front))
  known-behind known b front =
      ap (known_after_all known) (flat_map_append revisions_of (changesets_of b) (changesets_in front))
      ∙ known_after_all-append known (revisions_in (changesets_of b)) (revisions_in (changesets_in front))

  -- with the blocks of commits it lasts
  pub brings-on : (known : List Revision) (blocks : List Block) (ids later : List Id) (new : List Block) → GoesOn known blocks (ids ++ later)
      → CommitsBring known objects blocks ids new → GoesOn (known_after_all known (revisions_in (changesets_in new))) (blocks ++ new) later
  unfolding CommitsBring
  brings-on known blocks [] later new on h =
      subst (λ (l : List Block). GoesOn (known_after_all known (revisions_in (changesets_in l))) (blocks ++ l) later) (sym h)
      (subst (λ (l : List Block). GoesOn known l later) (sym (append-nil blocks)) on)
  brings-on known blocks (id ∷ ids) later new on (b, rest, is, gives, more) =
      let behind = brings-on (known_after_all known (revisions_in (changesets_of b))) (blocks ++ b ∷ []) ids later rest
      (gives-on known blocks id (ids ++ later) b on gives) more in
      subst (λ (l : List Block). GoesOn (known_after_all known (revisions_in (changesets_in l))) (blocks ++ l) later) (sym is)
      (subst (λ (k : List Revision). GoesOn k (blocks ++ b ∷ rest) later) (sym (known-behind known b rest))
      (subst (λ (l : List Block). GoesOn (known_after_all (known_after_all known (revisions_in (changesets_of b))) (revisions_in (changesets_in rest))) l later)
      (append_assoc blocks (b ∷ []) rest) behind))

  -- ---- the blocks that commits bring

  pub blocks-one : (known : List Revision) (blocks : List Block) (ids later : List Id) (xs ys : List Block) → GoesOn known blocks (ids ++ later)
      → CommitsBring known objects blocks ids xs → CommitsBring known objects blocks ids ys → xs ≡ ys
  unfolding CommitsBring
  blocks-one known blocks [] later xs ys on h k = h ∙ sym k
  blocks-one known blocks (id ∷ ids) later xs ys on (b, rest, is, gives, more) (c, rest', is', gives', more') =
      let same : b ≡ c = block-one known (no-null known on.some) objects blocks on.table id b c gives gives' in
      let others : rest ≡ rest' = blocks-one (known_after_all known (revisions_in (changesets_of b))) (blocks ++ b ∷ []) ids later rest rest'
      (gives-on known blocks id (ids ++ later) b on gives) more
      (subst (λ (x : Block). CommitsBring (known_after_all known (revisions_in (changesets_of x))) objects (blocks ++ x ∷ []) ids rest') (sym same) more') in
      is ∙ (λ i. same i ∷ others i) ∙ sym is'

  -- what some commits bring, and what others bring behind them
  record BringsParts (known : List Revision) (blocks : List Block) (ids ids' : List Id) : Type 0 where
    front : List Block
    back : List Block
    first : CommitsBring known objects blocks ids front
    then : CommitsBring (known_after_all known (revisions_in (changesets_in front))) objects (blocks ++ front) ids' back

  parts : (known : List Revision) (blocks : List Block) (ids ids' : List Id) (new : List Block) → CommitsBring known objects blocks (ids ++ ids') new
      → BringsParts known blocks ids ids'
  unfolding CommitsBring
  parts known blocks [] ids' new h = record {
    front = [];
    back = new;
    first = refl;
    then = subst (λ (l : List Block). CommitsBring known objects l ids' new) (sym (append-nil blocks)) h;
  }
  parts known blocks (id ∷ ids) ids' new (b, rest, is, gives, more) =
      let p = parts (known_after_all known (revisions_in (changesets_of b))) (blocks ++ b ∷ []) ids ids' rest more in
      record {
        front = b ∷ p.front;
        back = p.back;
        first = (b, p.front, refl, gives, p.first);
        then = subst (λ (l : List Revision). CommitsBring l objects (blocks ++ b ∷ p.front) ids' p.back) (sym (known-behind known b p.front))
            (subst (λ (l : List Block). CommitsBring
            (known_after_all (known_after_all known (revisions_in (changesets_of b))) (revisions_in (changesets_in p.front))) objects l ids' p.back)
            (append_assoc blocks (b ∷ []) p.front) p.then);
      }

  -- a commit behind others has its block
  pub gives-behind : (known : List Revision) (blocks : List Block) (ids : List Id) (id : Id) (later : List Id) (new all : List Block)
      → GoesOn known blocks (ids ++ id ∷ later) → CommitsBring known objects blocks (ids ++ id ∷ later) all → CommitsBring known objects blocks ids new
      → (b : Block) × CommitGives (known_after_all known (revisions_in (changesets_in new))) objects (blocks ++ new) id b
  unfolding CommitsBring
  gives-behind known blocks ids id later new all on h k =
      let p = parts known blocks ids (id ∷ later) all h in
      let same : p.front ≡ new = blocks-one known blocks ids (id ∷ later) p.front new on p.first k in
      by p.back (subst (λ (l : List Block). CommitsBring (known_after_all known (revisions_in (changesets_in l))) objects (blocks ++ l)
      (id ∷ later) p.back) same p.then)
    where
      by : (back : List Block) → CommitsBring (known_after_all known (revisions_in (changesets_in new))) objects (blocks ++ new) (id ∷ later) back
          → (b : Block) × CommitGives (known_after_all known (revisions_in (changesets_in new))) objects (blocks ++ new) id b
      by back x = (x.0, x.3)
