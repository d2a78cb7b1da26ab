use Rattle.std.proofs.Common.{◌||◌, Bool, sym, ap, ◌∙◌}
use Rattle.hg_model.specs.FileText as file_text
use Rattle.hg_filelog.proofs.CopyLemmas.{line_turn, last_line}
use Rattle.hg_filelog.proofs.copy.has_copy.Goals as goal

pub returns-then-starts_with : goal.returns-then-starts_with
returns-then-starts_with c =
    let t = line_turn c.loop-line.rest.now c.in-Some.line.now c.in-Some.after.now c.in-Some.ensures in
    let v = c.if-starts_with.ensures.value in
    sym (c.loop-line.invariant ∙ t.copies ∙ ap (λ (b : Bool). b || file_text.has_copy c.in-Some.after.now) (sym v))

pub loop-line-smaller : goal.loop-line-smaller
loop-line-smaller c =
    (line_turn c.loop-line.rest.now c.in-Some.line.now c.in-Some.after.now c.in-Some.ensures).shorter

pub loop-line-preserved : goal.loop-line-preserved
loop-line-preserved c =
    let t = line_turn c.loop-line.rest.now c.in-Some.line.now c.in-Some.after.now c.in-Some.ensures in
    c.loop-line.invariant ∙ t.copies ∙ ap (λ (b : Bool). b || file_text.has_copy c.in-Some.after.now) (sym c.if-starts_with.ensures.value)

pub returns : goal.returns
returns c =
    c.starts_with-2.ensures.value ∙ sym (c.loop-line.invariant ∙ last_line c.loop-line.rest.now c.in_default.ensures)
