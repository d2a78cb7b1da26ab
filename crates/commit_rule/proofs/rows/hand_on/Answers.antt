use Rattle.std.proofs.Common.{List, sym, ap, ◌∙◌}
use Rattle.git_model.specs.Residue.{ResidueItem, carried, rows_with}
use Rattle.git_model.proofs.SortLemmas.{rises-ascends}
use Rattle.git_model.proofs.ResidueLemmas.{path_of}
use Rattle.commit_rule.specs.Parts.{residue_below}
use Rattle.tree_residue.proofs.RowsOf.{none-with}
use Rattle.commit_rule.proofs.rows.hand_on.Goals as goal

pub returns-in_default : goal.returns-in_default
returns-in_default c =
    sym (ap (λ (items : List ResidueItem). rows_with (carried items c.args.files) c.args.files) (ap (residue_below c.args.git.now) c.in_default.is)
    ∙ none-with c.args.files (rises-ascends path_of c.args.files c.requires.files.in_order))
