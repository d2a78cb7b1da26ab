-- The links of a commit as parts of its block.
use Rattle.std.proofs.Common.{◌≡◌, ◌+◌, ◌≤◌, ℕ, suc, true, false, Bool, List, [], ◌∷◌, length, map, refl, sym, ap, subst, arith}
use Rattle.std.proofs.lemmas.List.{length-map}
use Rattle.text_model.specs.Lists.{Each}
use Rattle.text_model.specs.Id.{Id, is_null}
use Rattle.text_model.proofs.EachLemmas.{Each-weaker}
use Rattle.hg_model.specs.Revision.{Revision}
use Rattle.view_model.specs.View.{ChangesetView, ChangesetFits, CommitView, changeset_node, commit_id}
use Rattle.view_model.specs.Held.{IsFileHeld}
use Rattle.pair_model.specs.Block.{Block, hg_partner, changesets_in, view_or_none}
use Rattle.pair_model.specs.Octopus.{link_view, links_over, links_by, links_of, first_of}
use Rattle.pair_known.specs.Over.{IsCommitOver}
use Rattle.pair_known.specs.Ruled.{HasFileParents, HasManifestParents}
use Rattle.pair_known.specs.declared.known.Known.{Known}
use Rattle.pair_known.specs.declared.hg_draft.HgDraft.{HgDraft}
use Rattle.pair_known.specs.declared.git_draft.GitDraft.{GitDraft}
use Rattle.link_rule.specs.Links.{AreLinksMade, IsLinkOver}
use Rattle.link_rule.proofs.ChainLemmas.{base, base-view, overs}
use Rattle.link_rule.proofs.DraftLemmas.{files-of}
use Rattle.changeset_rule.proofs.KnownParents.{file-parents, manifest-parents}
use Rattle.pair_state.specs.Push.{AreLinkParts, HasShortTexts}

-- the limit of a changeset's text is below that of all texts
pub short : (h : ChangesetView) → ChangesetFits h → HasShortTexts h
short h fits = record { text = omega (arith, fits.text); manifest = fits.manifest; files = fits.files }

-- ---- how many there are

count-over : (id : Id) (first : ChangesetView) (n k : ℕ) (before x : Id) (xs : List Id) → length (links_over id first n k before (x ∷ xs)) ≡ length xs
unfolding links_over
count-over id first n k before x [] = refl
count-over id first n k before x (y ∷ ys) = ap suc (count-over id first n (k + 1) (changeset_node (link_view id first n k before x)) y ys)

count-by : (blocks : List Block) (id : Id) (n : ℕ) (xs : List Id) → length xs ≤ 64 → length (links_by blocks id n xs) ≤ 62
unfolding links_over
count-by blocks id n [] few = omega arith
count-by blocks id n (x ∷ []) few = omega arith
count-by blocks id n (x ∷ y ∷ ys) few = omega (arith, few, count-over id (view_or_none (changesets_in blocks) x) n 1 x y ys)

pub few-links : (blocks : List Block) (v : CommitView) → length (v.value).parents ≤ 64 → length (links_of blocks v) ≤ 62
unfolding links_of
few-links blocks v few = count-by blocks (commit_id v) (length (v.value).parents) (map (hg_partner blocks) (v.value).parents) (omega (arith, few, length-map (v.value).parents (hg_partner blocks)))

-- ---- their files are those of the first partner

-- the parents of the revisions that a changeset names are known
abbrev pub HasRevisionParents : List Revision → ChangesetView → Type 0
HasRevisionParents known h = Each (HasFileParents known) h.rows × HasManifestParents known h.manifest

module _ (k : Known) (blocks : List Block) (d : GitDraft) (v : CommitView) (over : IsCommitOver k blocks d v) where
  abbrev of : ChangesetView
  of = base k blocks d v over

  base-parents : HasRevisionParents k.hg of
  base-parents = by (is_null (first_of (map (hg_partner blocks) (v.value).parents))) refl
    where
      by : (t : Bool) → is_null (first_of (map (hg_partner blocks) (v.value).parents)) ≡ t → HasRevisionParents k.hg of
      by true e = subst (HasRevisionParents k.hg) (sym ((base-view k blocks d v over).of_null e)) (tt, tt)
      by false e =
          let held = (base-view k blocks d v over).held e in (
            Each-weaker (IsFileHeld k.hg) (HasFileParents k.hg) (file-parents k.hg over.history.added) of.rows held.files,
            manifest-parents k.hg over.history.added (of.fields).manifest of.manifest of.rows held.manifest,
          )

  parts : (ds : List HgDraft) (ls : List ChangesetView) → AreLinksMade k.hg ds ls → Each ChangesetFits ls → Each (IsLinkOver of) ls → AreLinkParts k.hg ds ls
  parts [] [] made fits are = tt
  parts [] (l ∷ ls) made fits are = absurd made
  parts (x ∷ ds) [] made fits are = absurd made
  parts (x ∷ ds) (l ∷ ls) made fits are =
      let files = files-of of l are.0 in (
        record {
          made = made.0;
          file_parents = subst (Each (HasFileParents k.hg)) (sym files.rows) base-parents.0;
          manifest_parents = subst (HasManifestParents k.hg) (sym files.manifest) base-parents.1;
          fits = short l fits.0;
        },
        made.1,
        parts ds ls made.2 fits.1 are.1,
      )

  pub link-parts : (ds : List HgDraft) → AreLinksMade k.hg ds (links_of blocks v) → Each ChangesetFits (links_of blocks v) → AreLinkParts k.hg ds (links_of blocks v)
  link-parts ds made fits = parts ds (links_of blocks v) made fits (overs k blocks d v over)
