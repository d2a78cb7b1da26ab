use Rattle.tree_rebuild.proofs.Beside.{met-next}
use Rattle.tree_rebuild.proofs.entries.Entries.put.Goals as goal

pub returns-then-is_next-clause-text : goal.returns-then-is_next-clause-text
returns-then-is_next-clause-text c = met-next c.args.self.now.differs c.args.self.now.place c.args.self.now.text.items c.args.old.now _ (c.requires.same c.if-is_next.true) (c.requires.next c.if-is_next.true)
