use Rattle.std.proofs.Common.{◌∙◌}
use Rattle.git_object.proofs.OrderSteps.{other_goes_on, name_goes_on, apart}
use Rattle.git_object.proofs.order.OrderName.is_below.Goals as goal

pub returns-in-Some : goal.returns-in-Some
returns-in-Some c =
    let a = c.args.self.now in
    let b = c.args.other.now in
    c.ends_below.ensures ∙ other_goes_on a.is_directory b.is_directory a.name.now b.name.now c.in-Some.rest.now c.in-Some.ensures.cases.0 c.in-Some.ensures.cases.1

pub returns-in-Some-strip_prefix : goal.returns-in-Some-strip_prefix
returns-in-Some-strip_prefix c =
    let a = c.args.self.now in
    let b = c.args.other.now in
    c.goes_on_below.ensures ∙ name_goes_on a.is_directory b.is_directory a.name.now b.name.now c.in-Some-strip_prefix.rest.now c.in-Some-strip_prefix.ensures.cases.0 c.in-Some-strip_prefix.ensures.cases.1

pub returns-in_default-strip_prefix : goal.returns-in_default-strip_prefix
returns-in_default-strip_prefix c =
    let a = c.args.self.now in
    let b = c.args.other.now in
    c.are_below.ensures ∙ apart a.is_directory b.is_directory a.name.now b.name.now c.in_default.ensures.cases c.in_default-strip_prefix.ensures.cases
