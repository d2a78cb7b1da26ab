use Rattle.std.proofs.Common.{◌∷◌, sym, ◌∙◌}
use Rattle.text_model.specs.Text.{whole_lines}
use Rattle.bridge_text.proofs.LineTurns.{cut_line, last_line}
use Rattle.bridge_text.proofs.cut.first_line.Goals as goal

pub split_at-requires : goal.split_at-requires
split_at-requires c = (cut_line c.args.bytes.now c.in-Some.front.now c.in-Some.field-0-1.now c.in-Some.ensures).room

pub returns-in-Some-clause-lines : goal.returns-in-Some-clause-lines
returns-in-Some-clause-lines c =
    (cut_line c.args.bytes.now c.in-Some.front.now c.in-Some.field-0-1.now c.in-Some.ensures).lines
    ∙ (λ i. sym c.split_at.ensures.front i ∷ whole_lines (sym c.split_at.ensures.back i))

pub returns-in-None-clause-lines : goal.returns-in-None-clause-lines
returns-in-None-clause-lines c =
    last_line c.args.bytes.now c.requires c.in-None.ensures
    ∙ (λ i. sym c.split_at-in-None.ensures.front i ∷ whole_lines (sym c.split_at-in-None.ensures.back i))
