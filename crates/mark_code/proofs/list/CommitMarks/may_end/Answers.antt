use Rattle.std.proofs.Common.{◌-◌, List, length, map, sym, ap, ◌∙◌, arith}
use Rattle.pair_model.specs.MarkList as model
use Rattle.pair_model.specs.MarkList.{may_follow}
use Rattle.mark_code.specs.declared.mark.Mark.{Mark}
use Rattle.mark_code.specs.Values.{mark_value}
use Rattle.mark_code.specs.Reading.{may_end}
use Rattle.mark_code.proofs.ListLemmas.{may_end-at}
use Rattle.mark_code.proofs.list.CommitMarks.may_end.Goals as goal

pub returns-in-len1-up : goal.returns-in-len1-up
returns-in-len1-up c =
    c.may_follow.ensures ∙ ap (λ (x : Mark). may_follow (mark_value x) (mark_value c.args.mark.now)) c.last-item.is
    ∙ sym (may_end-at c.as_slice.result.now (length c.as_slice.result.now - 1) c.last-item.result (mark_value c.args.mark.now) (omega (arith, c.in-len1-up.len_at_least)))
    ∙ ap (λ (ms : List model.Mark). may_end ms (mark_value c.args.mark.now)) (ap (map mark_value) c.as_slice.ensures.value ∙ c.self.view_is)
