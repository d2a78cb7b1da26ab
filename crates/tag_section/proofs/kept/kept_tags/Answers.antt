use Rattle.std.proofs.Common.{◌≡◌, List, [], sym, ap, subst, ◌∙◌}
use Rattle.std.specs.Prelude.{MatchOption, Option}
use Rattle.text_model.specs.Id.{Id}
use Rattle.git_model.specs.Order.{has}
use Rattle.history_model.specs.Pull.{objects_among}
use Rattle.state_model.specs.Kept.{ids_of}
use Rattle.tag_section.specs.Tags.{AreKept}
use Rattle.tag_section.proofs.Rule.{blocks_of, block-set, none-lacks, all-kept, not-all}
use Rattle.tag_section.proofs.kept.kept_tags.Goals as goal
use Rattle.tag_section.proofs.kept.kept_tags.Goals.{then-len, else-len}

pub returns-in-Ok : goal.returns-in-Ok
returns-in-Ok c cs placed are come =
    let came = c.args.came.now in
    let set = block-set cs c.in_ok-saved.saved c.args.commits.now c.in_ok-saved.ensures are in
    let none = λ (id : Id). ap (λ (l : List Id). has l id) c.new-none.ensures in
    let found = c.in-Ok.ensures.targets placed (blocks_of cs) [] come set none in
    let ids = c.in-Ok.ensures.ids placed [] come none in
    let Answer = λ (o : Option (List Id)). MatchOption o (¬ (AreKept cs (objects_among placed))) (λ ids. AreKept cs (objects_among placed) × (ids ≡ ids_of (objects_among placed))) in
    elim c.if-len.branch [
      | then-len w ↦ subst Answer (sym w.result-is) (all-kept cs placed came come.listed c.in-Ok.ids ids found (sym c.len.ensures ∙ w.if-len.true ∙ c.len-in-Ok.ensures))
      | else-len w ↦ subst Answer (sym w.result-is) (not-all cs placed came come.listed c.in-Ok.ids ids (λ same. w.if-len.false (c.len.ensures ∙ same ∙ sym c.len-in-Ok.ensures)))
    ]

pub returns-in-Err-Refused : goal.returns-in-Err-Refused
returns-in-Err-Refused c cs placed are come =
    let set = block-set cs c.in_ok-saved.saved c.args.commits.now c.in_ok-saved.ensures are in
    let none = λ (id : Id). ap (λ (l : List Id). has l id) c.new-none.ensures in
    let fault = rw c.in-Err-Refused.field-0-is at (c.in-Err-Refused.ensures.fault placed (blocks_of cs) [] come set none) in
    none-lacks cs placed fault.0 fault.1
