use Rattle.std.proofs.Common.{true≢false, List, Option, refl, sym, ap, subst, ◌∙◌}
use Rattle.text_model.proofs.Options.{none_some}
use Rattle.git_model.specs.Residue.{ResidueItem}
use Rattle.partner_model.specs.Mark.{residue_unless}
use Rattle.depth_law.proofs.PlainCommit.{residue_none}
use Rattle.changeset_unmark.specs.Residues.{items_named, AreItemsFit}
use Rattle.changeset_unmark.proofs.ItemLemmas.{unless-other}
use Rattle.changeset_unmark.proofs.residue.items_named.Goals as goal

pub returns-then-is_same_residue : goal.returns-then-is_same_residue
returns-then-is_same_residue c = λ named.
    let given = c.args.given.now in
    let none = residue_none c.in-Some.items given (c.is_same_residue.ensures.0 c.if-is_same_residue.true) in
    let own = ap (λ (t : Option (List ResidueItem)). residue_unless (items_named given t) given) (sym c.in-Some.is) ∙ named.1 ∙ c.in-Some.is in
    none_some (sym none ∙ own)

pub returns-then-not-branch : goal.returns-then-not-branch
returns-then-not-branch c = λ named.
    true≢false (sym (c.in_ok-are_fit-in-Some.ensures.1 (subst (AreItemsFit c.args.files.now) c.in-Some.is named.0)) ∙ c.if-not-branch.true)

pub returns-else-not-branch : goal.returns-else-not-branch
returns-else-not-branch c =
    let given = c.args.given.now in
    let other = unless-other c.in-Some.items given (λ e. true≢false (sym (c.is_same_residue.ensures.1 e) ∙ c.if-is_same_residue.false)) in (
      subst (AreItemsFit c.args.files.now) (sym c.in-Some.is) (c.in_ok-are_fit-in-Some.ensures.0 c.if-not-branch.false),
      ap (λ (t : Option (List ResidueItem)). residue_unless (items_named given t) given) c.in-Some.is ∙ other ∙ sym c.in-Some.is,
      ap (λ (t : Option (List ResidueItem)). items_named given t) (sym c.in-Some.is),
    )

pub returns-in-None : goal.returns-in-None
returns-in-None c =
    let given = c.args.given.now in (
      subst (AreItemsFit c.args.files.now) (sym c.in-None.is) tt,
      ap (λ (t : Option (List ResidueItem)). residue_unless (items_named given t) given) c.in-None.is ∙ residue_none given given refl ∙ sym c.in-None.is,
      ap (λ (t : Option (List ResidueItem)). items_named given t) (sym c.in-None.is),
    )
