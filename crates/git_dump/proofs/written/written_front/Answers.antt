use Rattle.git_dump.proofs.Between.{text-behind}
use Rattle.git_dump.proofs.written.written_front.Goals as goal

pub returns-then-written-end : goal.returns-then-written-end
returns-then-written-end c =
    let written = c.in_ok-written.written.now in
    text-behind c.args.store.now c.args.start c.args.end written.count written.text c.if-start-eq0.true c.if-written-end.true c.in_ok-written.ensures.written.text
