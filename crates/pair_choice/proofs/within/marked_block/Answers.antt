use Rattle.std.proofs.Common.{Err, [], ◌∷◌, ap, sym, true≢false, ◌∙◌}
use Rattle.text_model.proofs.EachLemmas.{Each-append, Each-front, Each-rest}
use Rattle.view_model.specs.View.{ChangesetFits}
use Rattle.pair_model.specs.Octopus as octopus
use Rattle.partner_model.specs.Mark as mark
use Rattle.pair_known.specs.declared.fault.PairFault.TheVariants.{PairLimit}
use Rattle.pair_choice.proofs.ChangesetLemmas.{few-parents}
use Rattle.pair_choice.proofs.LimitLemmas.{fault-is}
use Rattle.pair_choice.proofs.within.marked_block.Goals as goal

pub returns-in_err-last-clause-limit : goal.returns-in_err-last-clause-limit
returns-in_err-last-clause-limit c = λ e blocks v over each.
    let is = fault-is c.from_residual.result c.in_err-last.field-0.0 PairLimit c.from_residual.ensures.1 e in
    c.in_err-last.ensures.limit (ap Err is) blocks v over (Each-rest ChangesetFits (octopus.links_of blocks v) (mark.mark_changeset blocks v ∷ []) each).0

pub returns-then-not-branch-clause-limit : goal.returns-then-not-branch-clause-limit
returns-then-not-branch-clause-limit c = λ e blocks v over each.
    true≢false (sym ((c.in_ok-links_fit.ensures _ (octopus.links_of blocks v) over.history.added (c.in_ok-links.ensures blocks v over)).1 (Each-front ChangesetFits (octopus.links_of blocks v) (mark.mark_changeset blocks v ∷ []) each)) ∙ c.if-not-branch.true)

pub returns-clause-ok : goal.returns-clause-ok
returns-clause-ok c = λ blocks v over.
    let marked = c.in_ok-last.ensures.ok blocks v over in
    let links = c.in_ok-links.ensures blocks v over in
    let fit = (c.in_ok-links_fit.ensures _ (octopus.links_of blocks v) over.history.added links).0 c.if-not-branch.false in
    record {
      made = marked.0;
      links = links;
      strict = λ none. (c.in_ok-last.ensures.strict blocks v over (few-parents blocks v none)).view;
      fits = Each-append ChangesetFits (octopus.links_of blocks v) (mark.mark_changeset blocks v ∷ []) fit (marked.1, tt);
    }
