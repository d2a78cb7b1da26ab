use Rattle.std.proofs.Common.{sym, ap, ◌-◌, ◌^◌, length, ◌∙◌}
use Rattle.std.specs.Prelude.{min}
use Rattle.text_model.specs.Text.{Bytes}
use Rattle.hg_dump.proofs.dump.Dump.len.Goals as goal

pub bundle_len-requires : goal.bundle_len-requires
bundle_len-requires c = (c.requires.1.revisions, c.requires.1.brought)

pub returns : goal.returns
returns c = λ text is. c.bundle_len.ensures is.revisions is.brought ∙ ap (λ (t : Bytes). min (length t) (2 ^ 64 - 1)) (sym is.text_is)
