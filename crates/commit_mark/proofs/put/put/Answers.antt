use Rattle.std.proofs.Common.{◌++◌, ◌∷◌, [], Option, subst}
use Rattle.mark_code.specs.Values.{mark_value}
use Rattle.mark_code.specs.declared.mark.Mark.{Mark}
use Rattle.commit_mark.specs.Parts.{BeginList, marks_in}
use Rattle.commit_mark.proofs.Begun.{begun}
use Rattle.commit_mark.proofs.put.put.Goals as goal

pub push-requires : goal.push-requires
push-requires c = begun (c.args.marks.now ++ mark_value c.in-Some.mark ∷ []) (subst (λ (o : Option Mark). BeginList (c.args.marks.now ++ marks_in o)) c.in-Some.is c.requires)
