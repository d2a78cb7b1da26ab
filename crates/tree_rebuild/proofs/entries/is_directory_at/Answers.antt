use Rattle.tree_rebuild.proofs.Beside.{directory-at}
use Rattle.tree_rebuild.proofs.entries.is_directory_at.Goals as goal

pub returns-in-Some : goal.returns-in-Some
returns-in-Some c = directory-at c.args.name.now c.args.old.now c.args.place c.in-Some.entry.now c.is_directory_named.result c.in-Some.ensures.lookup.3.0 c.in-Some.ensures.lookup.1 c.is_directory_named.ensures
