-- What holds of the rows of each changeset of a history, links among them, holds of those of one block more: the rows of a link are those of a changeset before it.
use Rattle.std.proofs.Common.{◌≡◌, ℕ, ◌+◌, List, [], ◌∷◌, ◌++◌, length, Option, Some, None, refl, sym, ap, subst, ◌∙◌, append-nil}
use Rattle.std.specs.Prelude.{unwrap_or}
use Rattle.text_model.specs.Lists.{Each}
use Rattle.text_model.specs.Id.{Id}
use Rattle.text_model.proofs.EachLemmas.{Each-append}
use Rattle.text_model.proofs.Elements.{each_in}
use Rattle.view_model.specs.View.{Row, ChangesetView, CommitView, changeset_node, commit_id}
use Rattle.pair_model.specs.Block.{Block, changesets_in, view_at, view_or_none, no_changeset}
use Rattle.pair_model.specs.Octopus.{link_view, links_over, links_by, links_of, partners_of_parents}
use Rattle.partner_law.proofs.Agreeing.{view_found}
use Rattle.frame_law.proofs.Fronts.{changesets_front}

pub changesets_push : (front : List Block) (b : Block) → changesets_in (front ++ b ∷ []) ≡ changesets_in front ++ (b.links ++ b.changeset ∷ [])
changesets_push front b = changesets_front front (b ∷ []) ∙ ap (λ (l : List ChangesetView). changesets_in front ++ l) (append-nil (b.links ++ b.changeset ∷ []))

module _ (P : List Row → Type 0) (nothing : P []) (front : List Block) (each : Each (λ v. P v.rows) (changesets_in front)) where
  base_has : (node : Id) → P (view_or_none (changesets_in front) node).rows
  base_has node = by (view_at (changesets_in front) node) refl
    where
      by : (o : Option ChangesetView) → view_at (changesets_in front) node ≡ o → P (unwrap_or o no_changeset).rows
      by None e = nothing
      by (Some v) e = each_in (λ v. P v.rows) (changesets_in front) v each (view_found (changesets_in front) node v e)

  over_have : (id : Id) (base : ChangesetView) (n k : ℕ) (before : Id) (xs : List Id) → P base.rows → Each (λ l. P l.rows) (links_over id base n k before xs)
  unfolding links_over link_view
  over_have id base n k before [] p = tt
  over_have id base n k before (x ∷ []) p = tt
  over_have id base n k before (x ∷ y ∷ rest) p = (p, over_have id base n (k + 1) (changeset_node (link_view id base n k before x)) (y ∷ rest) p)

  by_have : (id : Id) (n : ℕ) (xs : List Id) → Each (λ l. P l.rows) (links_by front id n xs)
  by_have id n [] = tt
  by_have id n (x ∷ rest) = over_have id (view_or_none (changesets_in front) x) n 1 x rest (base_has x)

  pub links_have : (c : CommitView) → Each (λ l. P l.rows) (links_of front c)
  unfolding links_of
  links_have c = by_have (commit_id c) (length (c.value).parents) (partners_of_parents front c)

  pub all_push : (b : Block) (c : CommitView) → b.links ≡ links_of front c → P (b.changeset).rows → Each (λ v. P v.rows) (changesets_in (front ++ b ∷ []))
  all_push b c links own =
      subst (Each (λ v. P v.rows)) (sym (changesets_push front b))
      (Each-append (λ (v : ChangesetView). P v.rows) (changesets_in front) (b.links ++ b.changeset ∷ []) each
      (Each-append (λ (v : ChangesetView). P v.rows) b.links (b.changeset ∷ []) (subst (Each (λ v. P v.rows)) (sym links) (links_have c)) (own, tt)))
