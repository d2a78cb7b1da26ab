-- The parents of a changeset over a history that is held, and a lemma on answers.
use Rattle.std.proofs.Common.{List, Result, Ok, Err, IfOk, subst}
use Rattle.text_model.specs.Id.{Id}
use Rattle.hg_store.specs.Known.{AreAdded}
use Rattle.view_model.specs.View.{ChangesetView}
use Rattle.pair_model.specs.Block.{Block, changesets_in, view_or_none, Parents, parents_among}
use Rattle.pair_known.specs.Over.{IsChangesetOver}
use Rattle.pair_known.specs.declared.known.Known.{Known}
use Rattle.pair_known.specs.declared.hg_draft.HgDraft.{HgDraft}
use Rattle.file_rule.specs.Parents.{IsParentView}
use Rattle.plain_rule.proofs.BlockLemmas.{parent-view, among-first, among-second}

pub if_weaker : {A B : Type 0} (r : Result A B) (P Q : A → Type 0) → ((a : A) → P a → Q a) → IfOk r P → IfOk r Q
if_weaker (Ok a) P Q f h = f a h
if_weaker (Err e) P Q f h = tt

-- ---- the parents

abbrev pub parents_in : List Block → ChangesetView → Parents
parents_in blocks v = parents_among (changesets_in blocks) v.p v.q

module _ (k : Known) (added : AreAdded k.hg) (blocks : List Block) (d : HgDraft) (v : ChangesetView) (over : IsChangesetOver k blocks d v) where
  first-at : IsParentView k.hg v.p (view_or_none (changesets_in blocks) v.p)
  first-at = parent-view k.hg added blocks over.inside.history.held.changesets v.p (among-first blocks v.p v.q over.parents)

  second-at : IsParentView k.hg v.q (view_or_none (changesets_in blocks) v.q)
  second-at = parent-view k.hg added blocks over.inside.history.held.changesets v.q (among-second blocks v.p v.q over.parents)

  pub first-view : IsParentView k.hg d.p1 (view_or_none (changesets_in blocks) v.p)
  first-view = subst (λ (x : Id). IsParentView k.hg x (view_or_none (changesets_in blocks) v.p)) over.inside.draft.parents.0 first-at

  pub second-view : IsParentView k.hg d.p2 (view_or_none (changesets_in blocks) v.q)
  second-view = subst (λ (x : Id). IsParentView k.hg x (view_or_none (changesets_in blocks) v.q)) over.inside.draft.parents.1 second-at
