use Rattle.pull_bundle.proofs.Referred.{late-file}
use Rattle.std.proofs.Common.{◌≡◌, not, Bool, ap, sym, ◌∙◌, false}
use Rattle.std.specs.Prelude.{◌&&◌}
use Rattle.text_model.specs.Id.{is_null}
use Rattle.pull_bundle.proofs.late.is_file_late.Goals as goal

pub returns-then-not-is_null : goal.returns-then-not-is_null
returns-then-not-is_null c = λ blocks refers.
    let some : is_null c.args.parent.now ≡ false = sym c.is_null.ensures ∙ c.if-not-is_null.true in
    ap (λ (t : Bool). not t && not c.has.result) (sym some) ∙ late-file c.args.path.now c.args.parent.now c.args.referred.now blocks refers c.has.result c.has.ensures
