use Rattle.std.proofs.Common.{IfOk, w64, rules, subst, sym, ap, ◌∙◌}
use Rattle.std.specs.Prelude.{option_map, ℤ}
use Rattle.std.proofs.lemmas.Result.{IfOk-weaker}
use Rattle.std.specs.Int.RustNames.{FitsSigned}
use Rattle.std.proofs.lemmas.Int.{to_z-of_z}
use Rattle.pair_model.specs.MarkList.{IsMark}
use Rattle.mark_code.specs.Values.{mark_value}
use Rattle.commit_unmark.specs.Parts.{is_of}
use Rattle.commit_unmark.specs.declared.marks.Kind.TheVariants as kind
use Rattle.commit_unmark.proofs.DateLemmas.{PlainFound, find-each, by-mark, by-given}
use Rattle.commit_unmark.proofs.fields.named_date.Goals as goal

pub marked_date-requires : goal.marked_date-requires
marked_date-requires c = record { mark = find-each IsMark (is_of kind.Date) c.args.marks.now _ (sym (ap (option_map (λ m. mark_value m.now)) c.in-Some.is) ∙ c.first_of.ensures.first) c.first_of.ensures.list.0 }

pub returns-in-Some : goal.returns-in-Some
returns-in-Some c = IfOk-weaker c.marked_date.result _ _
    (λ found h. by-mark c.args.marks.now c.args.time c.args.tz _ (sym (ap (option_map (λ m. mark_value m.now)) c.in-Some.is) ∙ c.first_of.ensures.first) found h) c.marked_date.ensures

pub returns-in-None : goal.returns-in-None
returns-in-None c =
    let time : FitsSigned w64 c.args.time = search rules in
    let tz : FitsSigned w64 c.args.tz = search rules in
    IfOk-weaker c.plain_date.result (PlainFound c.args.marks.now c.args.time c.args.tz) _
    (λ found h. by-given c.args.marks.now c.args.time c.args.tz (sym (ap (option_map (λ m. mark_value m.now)) c.in-None.is) ∙ c.first_of.ensures.first) found h)
    (subst (λ (p : ℤ × ℤ). IfOk c.plain_date.result (PlainFound c.args.marks.now p.0 p.1)) (λ i. (to_z-of_z w64 c.args.time time i, to_z-of_z w64 c.args.tz tz i)) c.plain_date.ensures)
