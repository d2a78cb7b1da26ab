use Rattle.std.proofs.Common.{sym, ap, Some, ◌∙◌}
use Rattle.text_model.specs.Text.{Bytes}
use Rattle.mark_code.proofs.RawLemmas.{raw_of-appended, raw_of-bad}
use Rattle.mark_code.proofs.escape.unescaped.Goals as goal

pub returns-in-Ok : goal.returns-in-Ok
returns-in-Ok c =
    ap (λ (x : Bytes). Some x) c.keep.ensures
    ∙ raw_of-appended c.args.text.now c.new-raw.result.items c.unescape_into.new.out.items c.new-raw.ensures.items c.in-Ok.ensures.ok

pub returns-in-Err-Shape : goal.returns-in-Err-Shape
returns-in-Err-Shape c = sym (raw_of-bad c.args.text.now c.in-Err-Shape.field-0-0 (rw c.in-Err-Shape.field-0-is at c.in-Err-Shape.ensures.fault))
