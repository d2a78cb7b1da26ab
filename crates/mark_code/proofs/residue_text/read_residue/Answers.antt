use Rattle.std.proofs.Common.{Some, ap, ◌∙◌, List}
use Rattle.git_model.specs.Residue.{ResidueItem}
use Rattle.mark_code.proofs.ResidueLemmas.{read-nothing, read-start, read-shorter, read-more, read-bad, read-all, read-last_bad}
use Rattle.mark_code.proofs.residue_text.read_residue.Goals as goal

pub returns-then-is_empty : goal.returns-then-is_empty
returns-then-is_empty c = ap (λ (xs : List ResidueItem). Some xs) c.new-residue.ensures ∙ read-nothing c.args.text.now c.if-is_empty.ensures

pub words-init : goal.words-init
words-init c = rw c.new-residue.ensures (read-start c.args.text.now c.if-is_empty.ensures)

pub returns-then-not-branch : goal.returns-then-not-branch
returns-then-not-branch c =
    read-bad c.args.text.now c.words.residue c.words.rest.now c.words.invariant c.in_ok-take_word.field-0 c.take_word.new.residue c.in-Some.word.now c.in-Some.after.now c.in-Some.ensures
    c.in_ok-take_word.ensures c.if-not-branch.true

pub words-smaller : goal.words-smaller
words-smaller c =
    read-shorter c.args.text.now c.words.residue c.words.rest.now c.words.invariant c.in_ok-take_word.field-0 c.take_word.new.residue c.in-Some.word.now c.in-Some.after.now c.in-Some.ensures
    c.in_ok-take_word.ensures

pub words-preserved : goal.words-preserved
words-preserved c =
    read-more c.args.text.now c.words.residue c.words.rest.now c.words.invariant c.in_ok-take_word.field-0 c.take_word.new.residue c.in-Some.word.now c.in-Some.after.now c.in-Some.ensures
    c.in_ok-take_word.ensures c.if-not-branch.false

pub returns-then-branch : goal.returns-then-branch
returns-then-branch c =
    read-all c.args.text.now c.words.residue c.words.rest.now c.words.invariant c.in_ok-take_word-2.field-0 c.take_word-2.new.residue c.in_default.ensures
    c.in_ok-take_word-2.ensures c.if-branch.true

pub returns-else-branch : goal.returns-else-branch
returns-else-branch c =
    read-last_bad c.args.text.now c.words.residue c.words.rest.now c.words.invariant c.in_ok-take_word-2.field-0 c.take_word-2.new.residue c.in_default.ensures
    c.in_ok-take_word-2.ensures c.if-branch.false
