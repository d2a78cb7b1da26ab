use Rattle.std.proofs.Common.{arith}
use Rattle.hg_changeset.proofs.HeadLemmas.{files-shorter, no_user, empty_user, no_date, head}
use Rattle.hg_changeset.proofs.lines.read_head.Goals as goal

pub overflow_sub-result : goal.overflow_sub-result
overflow_sub-result c = omega (arith, files-shorter c.args.text.now c.in-Some.digits.now c.in-Some.behind_manifest.now c.in-Some.ensures)

pub returns-in_default-first_line : goal.returns-in_default-first_line
returns-in_default-first_line c = no_user c.args.text.now c.in-Some.digits.now c.in-Some.behind_manifest.now c.in-Some.ensures c.in-Some-from_hex.manifest c.in-Some-from_hex.ensures c.in_default-first_line.ensures

pub overflow_sub-result-then-is_empty : goal.overflow_sub-result-then-is_empty
overflow_sub-result-then-is_empty c = omega (arith, files-shorter c.args.text.now c.in-Some.digits.now c.in-Some.behind_manifest.now c.in-Some.ensures)

pub returns-then-is_empty : goal.returns-then-is_empty
returns-then-is_empty c =
    empty_user c.args.text.now c.in-Some.digits.now c.in-Some.behind_manifest.now c.in-Some.ensures c.in-Some-from_hex.manifest c.in-Some-from_hex.ensures c.in-Some-first_line.user.now c.in-Some-first_line.behind_user.now c.in-Some-first_line.ensures c.if-is_empty.ensures

pub overflow_sub-result-in_default-first_line-2 : goal.overflow_sub-result-in_default-first_line-2
overflow_sub-result-in_default-first_line-2 c =
    omega (arith, files-shorter c.args.text.now c.in-Some.digits.now c.in-Some.behind_manifest.now c.in-Some.ensures, files-shorter c.in-Some.behind_manifest.now c.in-Some-first_line.user.now c.in-Some-first_line.behind_user.now c.in-Some-first_line.ensures)

pub returns-in_default-first_line-2 : goal.returns-in_default-first_line-2
returns-in_default-first_line-2 c =
    no_date c.args.text.now c.in-Some.digits.now c.in-Some.behind_manifest.now c.in-Some.ensures c.in-Some-from_hex.manifest c.in-Some-from_hex.ensures c.in-Some-first_line.user.now c.in-Some-first_line.behind_user.now c.in-Some-first_line.ensures c.if-is_empty.ensures c.in_default-first_line-2.ensures

pub returns : goal.returns
returns c =
    head c.args.text.now c.in-Some.digits.now c.in-Some.behind_manifest.now c.in-Some.ensures c.in-Some-from_hex.manifest c.in-Some-from_hex.ensures c.in-Some-first_line.user.now c.in-Some-first_line.behind_user.now c.in-Some-first_line.ensures c.if-is_empty.ensures c.in-Some-first_line-2.date.now c.in-Some-first_line-2.rest.now c.in-Some-first_line-2.ensures
