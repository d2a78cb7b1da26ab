use Rattle.std.proofs.Common.{◌++◌, [], ◌∷◌, ◌∙◌, if◌then◌else◌, map, subst, rules, w64}
use Rattle.std.proofs.lemmas.Int.{to_z-of_z}
use Rattle.std.specs.Int.RustNames.{FitsSigned}
use Rattle.hg_changeset.specs.Values.{date_value}
use Rattle.hg_changeset.specs.declared.date.DateLine.{DateLine}
use Rattle.pair_model.specs.MarkList.{Date, OneExtra}
use Rattle.partner_model.specs.Mark.{same_numbers, date_marks}
use Rattle.commit_mark.specs.Parts.{marks_in, BeginList}
use Rattle.commit_mark.proofs.Begun.{begin-part, begin-rest}
use Rattle.commit_mark.proofs.fields.put_date.Goals as goal

pub put-requires : goal.put-requires
put-requires c =
    let old = c.args.marks.now in
    let given = c.args.given.now in
    let time = c.in-Plain.time in
    let tz = c.in-Plain.tz in
    let time-fits : FitsSigned w64 time = search rules in
    let tz-fits : FitsSigned w64 tz = search rules in
    let time-is = to_z-of_z w64 time time-fits in
    let tz-is = to_z-of_z w64 tz tz-fits in
    let mark = c.numbers_mark.ensures ∙ (λ i. if same_numbers (time-is i) (tz-is i) given then [] else Date (time-is i) (tz-is i) ∷ []) in
    let begins = subst (λ (d : DateLine). BeginList (old ++ date_marks (date_value d) given)) c.in-Plain.is c.requires in
    begin-part old (marks_in c.numbers_mark.result) (if same_numbers time tz given then [] else Date time tz ∷ []) (map OneExtra c.in-Plain.extras) mark begins

pub put_extras-requires : goal.put_extras-requires
put_extras-requires c =
    let old = c.args.marks.now in
    let given = c.args.given.now in
    let time = c.in-Plain.time in
    let tz = c.in-Plain.tz in
    let time-fits : FitsSigned w64 time = search rules in
    let tz-fits : FitsSigned w64 tz = search rules in
    let time-is = to_z-of_z w64 time time-fits in
    let tz-is = to_z-of_z w64 tz tz-fits in
    let mark = c.numbers_mark.ensures ∙ (λ i. if same_numbers (time-is i) (tz-is i) given then [] else Date (time-is i) (tz-is i) ∷ []) in
    let begins = subst (λ (d : DateLine). BeginList (old ++ date_marks (date_value d) given)) c.in-Plain.is c.requires in
    begin-rest old (marks_in c.numbers_mark.result) (if same_numbers time tz given then [] else Date time tz ∷ []) (map OneExtra c.in-Plain.extras) mark
    c.put.new.marks c.in_ok-put-in-Plain.ensures begins
