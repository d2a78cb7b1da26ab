use Rattle.mark_code.specs.Values.{mark_value}
use Rattle.commit_mark.proofs.FileMarks.{no-mark, one-mark}
use Rattle.commit_mark.proofs.entry.entry_mark.Goals as goal

pub returns-then-is_given : goal.returns-then-is_given
returns-then-is_given c = λ ps w parents at. no-mark ps w c.is_given.result (c.is_given.ensures ps w at) c.if-is_given.true

pub returns : goal.returns
returns c = λ ps w parents at.
    one-mark ps w c.is_given.result (c.is_given.ensures ps w at) c.if-is_given.false c.args.row.now (at.of_row).0 (mark_value c.in_ok-mark.mark)
    (c.in_ok-mark.ensures ps w.revision parents (c.parts_of-parts.ensures w at.of_row))
