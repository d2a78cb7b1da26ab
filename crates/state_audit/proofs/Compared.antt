-- What is known of the files of the blocks that were found right, and that it is known of one more.
use Rattle.std.proofs.Common.{◌≡◌, ◌+◌, ℕ, false, List, [], ◌∷◌, ◌++◌, length, Option, Some, None, refl, sym, ap, subst, ◌∙◌, append_assoc, append-nil}
use Rattle.std.specs.Prelude.{unwrap_or, bytes_eq}
use Rattle.text_model.specs.Lists.{Each}
use Rattle.text_model.specs.Id.{Id}
use Rattle.text_model.proofs.EachLemmas.{Each-append}
use Rattle.text_model.proofs.Elements.{each_in, each_from, flat_map_append}
use Rattle.hg_model.specs.Revision.{Revision}
use Rattle.git_model.specs.Object.{Object}
use Rattle.view_model.specs.View.{ChangesetView, CommitView, IsCommitView, Row, changeset_node, commit_id}
use Rattle.view_model.specs.Held.{IsCommitHeld}
use Rattle.pair_model.specs.Block.{Block, id_of, changesets_in, view_at, view_or_none, no_changeset}
use Rattle.pair_model.specs.Octopus.{link_view, links_over, links_by, links_of, partners_of_parents}
use Rattle.partner_model.specs.Given.{has_late_file}
use Rattle.verify_model.specs.Holds.{IsRight, Holds}
use Rattle.next_law.proofs.LikeNew.{find-in}
use Rattle.pair_choice.specs.Bodies.{IsBodyHeld}
use Rattle.pull_bundle.proofs.PutLemmas.{rows-more}
use Rattle.state_audit.specs.Audited.{AreRight}
use Rattle.state_audit.proofs.SameBodies.{bodies-held}

-- ---- the files of links are those of a changeset of the blocks, or none

link-rows : (id : Id) (base : ChangesetView) (n k : ℕ) (before : Id) (xs : List Id) → Each (λ l. l.rows ≡ base.rows) (links_over id base n k before xs)
unfolding links_over link_view
link-rows id base n k before [] = tt
link-rows id base n k before (x ∷ []) = tt
link-rows id base n k before (x ∷ y ∷ rest) = (refl, link-rows id base n (k + 1) (changeset_node (link_view id base n k before x)) (y ∷ rest))

module _ (P : List Row → Type 0) (nothing : P []) (front : List Block) (each : Each (λ v. P v.rows) (changesets_in front)) where
  base-has : (node : Id) → P (view_or_none (changesets_in front) node).rows
  base-has node = by (view_at (changesets_in front) node) refl
    where
      by : (o : Option ChangesetView) → view_at (changesets_in front) node ≡ o → P (unwrap_or o no_changeset).rows
      by None e = nothing
      by (Some v) e = each_in (λ v. P v.rows) (changesets_in front) v each (find-in (λ (v : ChangesetView). bytes_eq (changeset_node v) node) (changesets_in front) v e).0

  by-has : (id : Id) (n : ℕ) (xs : List Id) → Each (λ l. P l.rows) (links_by front id n xs)
  by-has id n [] = tt
  by-has id n (x ∷ rest) =
      let base = view_or_none (changesets_in front) x in
      each_from (λ l. P l.rows) (links_over id base n 1 x rest) (λ l i. subst P (sym (each_in (λ l. l.rows ≡ base.rows) (links_over id base n 1 x rest) l (link-rows id base n 1 x rest) i)) (base-has x))

  links-have : (c : CommitView) → Each (λ l. P l.rows) (links_of front c)
  unfolding links_of
  links-have c = by-has (commit_id c) (length (c.value).parents) (partners_of_parents front c)

-- ---- one more

changesets-more : (front : List Block) (b : Block) → changesets_in (front ++ b ∷ []) ≡ changesets_in front ++ (b.links ++ b.changeset ∷ [])
changesets-more front b = flat_map_append (λ (b : Block). b.links ++ b.changeset ∷ []) front (b ∷ []) ∙ ap (λ (l : List ChangesetView). changesets_in front ++ l) (append-nil (b.links ++ b.changeset ∷ []))

all-more : (P : List Row → Type 0) → P [] → (front : List Block) (b : Block) (c : CommitView) → Each (λ v. P v.rows) (changesets_in front) → b.links ≡ links_of front c → P (b.changeset).rows
    → Each (λ v. P v.rows) (changesets_in (front ++ b ∷ []))
all-more P nothing front b c each links own =
    subst (Each (λ v. P v.rows)) (sym (changesets-more front b))
    (Each-append (λ (v : ChangesetView). P v.rows) (changesets_in front) (b.links ++ b.changeset ∷ []) each
    (Each-append (λ (v : ChangesetView). P v.rows) b.links (b.changeset ∷ []) (subst (Each (λ v. P v.rows)) (sym links) (links-have P nothing front each c)) (own, tt)))

holds-more : (hg : List Revision) (git : List Object) (before front : List Block) (b : Block) → Holds hg git before front → IsRight hg git (before ++ front) b → Holds hg git before (front ++ b ∷ [])
unfolding Holds
holds-more hg git before [] b h r = (subst (λ (bs : List Block). IsRight hg git bs b) (append-nil before) r, tt)
holds-more hg git before (x ∷ front) b h r = (h.0, holds-more hg git (before ++ x ∷ []) front b h.1 (subst (λ (bs : List Block). IsRight hg git bs b) (sym (append_assoc before (x ∷ []) front)) r))

pub right-more : (hg : List Revision) (git : List Object) (front : List Block) (b : Block) → AreRight hg git front → IsRight hg git front b → IsCommitHeld git (id_of b) b.commit → IsCommitView b.commit → AreRight hg git (front ++ b ∷ [])
right-more hg git front b right r held view =
    let for = (r.gets).block in
    let links : b.links ≡ links_of front for.0 = r.links ∙ ap (λ (x : Block). x.links) for.2 in
    let times : Each (λ v. has_late_file front v.rows ≡ false) (changesets_in (front ++ b ∷ [])) = all-more (λ rows. has_late_file front rows ≡ false) refl front b for.0 (right.compared).in_time links (r.gets).files_in_time in
    record {
      hold = holds-more hg git [] front b right.hold r;
      compared = record {
        in_time = each_from (λ v. has_late_file (front ++ b ∷ []) v.rows ≡ false) (changesets_in (front ++ b ∷ []))
            (λ v i. rows-more front (b ∷ []) v.rows (each_in (λ v. has_late_file front v.rows ≡ false) (changesets_in (front ++ b ∷ [])) v times i));
        blobs = all-more (Each (IsBodyHeld git)) tt front b for.0 (right.compared).blobs links (bodies-held git (id_of b) b.commit (b.changeset).rows held view r.bodies);
      };
    }
