use Rattle.std.proofs.Common.{sym, ◌∙◌}
use Rattle.text_model.proofs.LineLemmas.{first_line-is_cut}
use Rattle.hg_changeset.proofs.lines.first_line.Goals as goal

pub returns : goal.returns
returns c = c.cut_at.ensures ∙ sym (first_line-is_cut c.args.text.now)
