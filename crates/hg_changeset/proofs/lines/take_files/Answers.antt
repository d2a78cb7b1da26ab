use Rattle.std.proofs.Common.{◌∷◌, ◌++◌, [], ap, ◌∙◌, arith}
use Rattle.text_model.specs.Text.{Bytes}
use Rattle.text_model.proofs.ByteLemmas.{IsBytes-by_index}
use Rattle.hg_changeset.proofs.HeadLemmas.{files-start, files-shorter, files-more, files-all, files-none}
use Rattle.hg_changeset.proofs.lines.take_files.Goals as goal

pub files-init : goal.files-init
files-init c = files-start c.args.text.now c.args.files.now (IsBytes-by_index c.args.text.now (λ i. omega (arith, c.type_inv.text i)))

pub files-smaller : goal.files-smaller
files-smaller c = files-shorter c.files.rest.now c.in-Some.file.now c.in-Some.after.now c.in-Some.ensures

pub files-preserved : goal.files-preserved
files-preserved c =
    files-more c.args.text.now c.args.files.now c.files.files c.push.new.self c.files.rest.now c.in-Some.file.now c.in-Some.after.now c.files.invariant c.in-Some.ensures c.if-is_empty.ensures
    (c.in_ok-push.ensures.ok ∙ ap (λ (f : Bytes). c.files.files ++ f ∷ []) c.in_ok-of.ensures)

pub returns-then-is_empty : goal.returns-then-is_empty
returns-then-is_empty c =
    files-all c.args.text.now c.args.files.now c.files.files c.files.rest.now c.in-Some.file.now c.in-Some.after.now c.files.invariant c.in-Some.ensures c.if-is_empty.ensures

pub returns : goal.returns
returns c = files-none c.args.text.now c.args.files.now c.files.files c.files.rest.now c.files.invariant c.in_default.ensures
