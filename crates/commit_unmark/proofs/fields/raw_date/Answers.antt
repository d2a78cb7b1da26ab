use Rattle.std.proofs.Common.{ap, arith}
use Rattle.text_model.proofs.ByteLemmas.{IsBytes-by_index}
use Rattle.hg_changeset.specs.Values.{date_value}
use Rattle.commit_unmark.proofs.DateLemmas.{raw-found, plain-found}
use Rattle.commit_unmark.proofs.fields.raw_date.Goals as goal

pub returns-in-Raw : goal.returns-in-Raw
returns-in-Raw c =
    raw-found c.args.text.now (IsBytes-by_index c.args.text.now (λ i. omega (arith, c.type_inv.text i))) (c.is_without.ensures.0 (cc c.if-not-is_without.false))
    (date_value c.in_ok-date.date) c.in_ok-date.ensures c.in-Raw.field-0 (ap date_value c.in-Raw.is)

pub returns-in-Plain : goal.returns-in-Plain
returns-in-Plain c = plain-found c.args.text.now (date_value c.in_ok-date.date) c.in_ok-date.ensures _ _ _ (ap date_value c.in-Plain.is)
