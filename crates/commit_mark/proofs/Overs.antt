-- What is lent for the marks of a changeset stands for the changeset over its parents.
use Rattle.std.proofs.Common.{◌≡◌, List, refl, sym, ap, subst, ◌∙◌}
use Rattle.std.specs.Prelude.{not}
use Rattle.text_model.specs.Id.{Id, is_null}
use Rattle.hg_model.specs.Revision.{Revision}
use Rattle.hg_store.specs.Known.{AreAdded}
use Rattle.view_model.specs.View.{ChangesetView}
use Rattle.pair_model.specs.Block.{Block, changesets_in, view_or_none}
use Rattle.pair_known.specs.Drafts.{IsHgDraft}
use Rattle.pair_known.specs.Over.{IsChangesetOver}
use Rattle.pair_known.specs.declared.known.Known.{Known}
use Rattle.pair_known.specs.declared.hg_draft.HgDraft.{HgDraft}
use Rattle.file_rule.specs.Parents.{IsParent}
use Rattle.plain_rule.proofs.OverLemmas.{first-view, second-view}
use Rattle.partner_model.specs.Mark.{parents_of_changeset}
use Rattle.commit_mark.specs.Over.{IsOver}
use Rattle.commit_mark.specs.declared.over.Over.{Over}

module _ (k : Known) (added : AreAdded k.hg) (blocks : List Block) (d : HgDraft) (v : ChangesetView) (over : IsChangesetOver k blocks d v) (o : Over) (store : (o.store).now ≡ k.hg) (fresh : (o.fresh).now ≡ d.fresh)
    (first : IsParent k.hg o.first (view_or_none (changesets_in blocks) v.p)) (second : IsParent k.hg o.second (view_or_none (changesets_in blocks) v.q))
    (is-first : (o.first).is_there ≡ not (is_null d.p1)) (is-second : (o.second).is_there ≡ not (is_null d.p2)) where
  pub is-over : IsOver o d (parents_of_changeset blocks v) v
  is-over =
      let nodes = over.inside.draft.parents in
      record {
        draft = subst (λ (known : List Revision). IsHgDraft known d v) (sym store) over.inside.draft;
        fresh = sym fresh;
        view = over.inside.view;
        parents = record {
          first = subst (λ (known : List Revision). IsParent known o.first (view_or_none (changesets_in blocks) v.p)) (sym store) first;
          second = subst (λ (known : List Revision). IsParent known o.second (view_or_none (changesets_in blocks) v.q)) (sym store) second;
        };
        nodes = (refl, refl);
        there = (is-first ∙ ap (λ (p : Id). not (is_null p)) (sym nodes.0), is-second ∙ ap (λ (p : Id). not (is_null p)) (sym nodes.1));
        no_first = λ none. (first-view k added blocks d v over).of_null (ap is_null (sym nodes.0) ∙ none);
        no_second = λ none. (second-view k added blocks d v over).of_null (ap is_null (sym nodes.1) ∙ none);
      }
