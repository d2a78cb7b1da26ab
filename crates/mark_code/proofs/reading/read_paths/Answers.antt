use Rattle.std.proofs.Common.{List, Some, ap, sym, ◌∙◌}
use Rattle.text_model.specs.Text.{Bytes}
use Rattle.mark_code.proofs.PathsLemmas.{paths-start, paths-shorter, paths-more, paths-bad, paths-all, paths-last_bad}
use Rattle.mark_code.proofs.reading.read_paths.Goals as goal

pub words-init : goal.words-init
words-init c = rw c.new-paths.ensures (paths-start c.args.words.now)

pub returns-in_default-2 : goal.returns-in_default-2
returns-in_default-2 c =
    paths-bad c.args.words.now c.words.paths c.words.rest.now c.words.invariant c.in-Some.word.now c.in-Some.after.now c.in-Some.ensures (sym c.in_default-2.is ∙ c.in_ok-path.ensures)

pub words-smaller : goal.words-smaller
words-smaller c = paths-shorter c.args.words.now c.words.paths c.words.rest.now c.words.invariant c.in-Some.word.now c.in-Some.after.now c.in-Some.ensures

pub words-preserved : goal.words-preserved
words-preserved c =
    rw c.in_ok-push.ensures.ok
    (paths-more c.args.words.now c.words.paths c.words.rest.now c.words.invariant c.in-Some.word.now c.in-Some.after.now c.in-Some.ensures c.in-Some-2.path (sym c.in-Some-2.is ∙ c.in_ok-path.ensures))

pub returns-in_default-3 : goal.returns-in_default-3
returns-in_default-3 c =
    paths-last_bad c.args.words.now c.words.paths c.words.rest.now c.words.invariant c.in_default.ensures (sym c.in_default-3.is ∙ c.in_ok-path-2.ensures)

pub returns : goal.returns
returns c =
    ap (λ (x : List Bytes). Some x) c.in_ok-push-2.ensures.ok
    ∙ paths-all c.args.words.now c.words.paths c.words.rest.now c.words.invariant c.in_default.ensures c.in-Some-3.path (sym c.in-Some-3.is ∙ c.in_ok-path-2.ensures)
