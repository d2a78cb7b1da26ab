use Rattle.git_batch.proofs.HeaderLemmas.{one_word, two_words, more_words, all_words}
use Rattle.git_batch.proofs.header.words_of.Goals as goal

pub returns-in_err-first : goal.returns-in_err-first
returns-in_err-first c = rw c.from_residual.ensures (one_word c.args.text.now c.in_err-first.ensures)

pub returns-in_err-second : goal.returns-in_err-second
returns-in_err-second c = rw c.from_residual-in_err-second.ensures (two_words c.args.text.now c.in_ok-first.first.now c.in_ok-first.rest.now c.in_ok-first.ensures c.in_err-second.ensures)

pub returns-in-Some : goal.returns-in-Some
returns-in-Some c = more_words c.args.text.now _ _ _ _ c.in-Some.field-0.0.now c.in-Some.field-0.1.now c.in_ok-first.ensures c.in_ok-second.ensures c.in-Some.ensures

pub returns-in-None : goal.returns-in-None
returns-in-None c = all_words c.args.text.now _ _ _ _ c.in_ok-first.ensures c.in_ok-second.ensures c.in-None.ensures
