-- A history that is stored is a table of blocks.
use Rattle.std.proofs.Common.{◌≡◌, ◌≢◌, true, true≢false, List, [], ◌∷◌, ◌++◌, map, refl, sym, ap, subst, ◌∙◌}
use Rattle.std.specs.Prelude.{IsTrue}
use Rattle.std.proofs.lemmas.Slice.Eq.{bytes_eq-Decides}
use Rattle.text_model.specs.Lists.{Each, rises}
use Rattle.text_model.specs.Text.{Bytes, is_below}
use Rattle.text_model.specs.Id.{Id, null}
use Rattle.git_model.specs.Object.{Object}
use Rattle.git_model.specs.Tree.{has_distinct}
use Rattle.hg_model.specs.Revision.{Revision, Changesets}
use Rattle.hg_store.specs.Known.{AreAdded}
use Rattle.view_model.specs.View.{ChangesetView, changeset_node, commit_id, tree_paths}
use Rattle.view_model.specs.Held.{IsChangesetHeld, AreChangesetsHeld, AreCommitsHeld}
use Rattle.pair_model.specs.Block.{Block, node_of, id_of, changesets_in, commits_in}
use Rattle.partner_model.specs.Table.{IsTable}
use Rattle.pair_known.specs.Blocks.{IsHistoryHeld}
use Rattle.pair_known.specs.Partners.{ArePartners}
use Rattle.pair_known.specs.declared.known.Known.{Known}
use Rattle.pair_known.proofs.HeldViews.{held-as}
use Rattle.commit_rule.proofs.FileLemmas.{paths-same}

map-both : {X Y Z : Type 0} (f : X → Y) (g : Y → Z) (xs : List X) → map g (map f xs) ≡ map (λ x. g (f x)) xs
map-both f g [] = refl
map-both {X} {Y} {Z} f g (x ∷ xs) = ap (λ (l : List Z). g (f x) ∷ l) (map-both f g xs)

-- what holds of each changeset holds of that of each block
views-back : (known : List Revision) (xs ys : List ChangesetView) → AreChangesetsHeld known (map changeset_node (xs ++ ys)) (xs ++ ys) → AreChangesetsHeld known (map changeset_node ys) ys
views-back known [] ys h = h
views-back known (x ∷ xs) ys h = views-back known xs ys h.1

none-null : (known : List Revision) → AreAdded known → (blocks : List Block) → AreChangesetsHeld known (map changeset_node (changesets_in blocks)) (changesets_in blocks) → Each (λ b. node_of b ≢ null) blocks
none-null known added [] h = tt
none-null known added (b ∷ blocks) h =
    let back = views-back known (b.links ++ b.changeset ∷ []) (changesets_in blocks) h in
    let own = first known b.links b.changeset (changesets_in blocks) h in (
      (λ e. true≢false (sym ((bytes_eq-Decides (node_of b) null).1 e) ∙ (held-as known added Changesets (node_of b) own.revision own.is_held).some)),
      none-null known added blocks back,
    )
  where
    first : (known : List Revision) (xs : List ChangesetView) (y : ChangesetView) (ys : List ChangesetView) → AreChangesetsHeld known (map changeset_node ((xs ++ y ∷ []) ++ ys)) ((xs ++ y ∷ []) ++ ys) → IsChangesetHeld known (changeset_node y) y
    first known [] y ys h = h.0
    first known (x ∷ xs) y ys h = first known xs y ys h.1

rows-rise : (known : List Object) (blocks : List Block) → AreCommitsHeld known (map commit_id (commits_in blocks)) (commits_in blocks) → Each (λ b. IsTrue (rises is_below (tree_paths (b.commit).rows))) blocks
rows-rise known [] h = tt
rows-rise known (b ∷ blocks) h = (subst (λ (ps : List Bytes). IsTrue (rises is_below ps)) (paths-same (b.commit).rows) (h.0).rows.in_order, rows-rise known blocks h.1)

pub table : (k : Known) (blocks : List Block) → IsHistoryHeld k blocks → IsTable blocks
table k blocks history =
    let are = subst ArePartners (history.held).partners history.partners in
    record {
      nodes = subst (λ (ids : List Id). has_distinct ids ≡ true) (map-both (λ (b : Block). (node_of b, id_of b)) (λ (e : Id × Id). e.0) blocks) are.nodes;
      ids = subst (λ (ids : List Id). has_distinct ids ≡ true) (map-both (λ (b : Block). (node_of b, id_of b)) (λ (e : Id × Id). e.1) blocks) are.ids;
      there = none-null k.hg history.added blocks (history.held).changesets;
      rows = rows-rise k.git blocks (history.held).commits;
    }
