use Rattle.std.proofs.Common.{subst}
use Rattle.std.proofs.lemmas.Result.{err_from_is_err_and}
use Rattle.text_model.specs.Text.{Bytes}
use Rattle.state_part.specs.Form.{IsHeadFault}
use Rattle.state_text.specs.Faults.{head_refused}
use Rattle.state_text.proofs.WholeText.{err-is, head-fault}
use Rattle.state_text.proofs.reading.behind_head.Goals as goal

pub returns-in_err-rest-clause-fault : goal.returns-in_err-rest-clause-fault
returns-in_err-rest-clause-fault c =
    let p = err_from_is_err_and c.from_residual.result c.from_residual.ensures.1 in
    let why = c.in_err-rest.field-0.0 in
    err-is c.from_residual.result c.args.bytes.now p.0 (head_refused why) p.1 p.2 (head-fault c.args.bytes.now why (subst (λ (t : Bytes). IsHeadFault t why) c.as_slice.ensures c.in_err-rest.ensures.head))
