use Rattle.std.proofs.Common.{◌∙◌, sym}
use Rattle.std.proofs.lemmas.Slice.Eq.{bytes_eq-Decides}
use Rattle.tree_rebuild.proofs.Beside.{name-uncut}
use Rattle.tree_rebuild.proofs.over.cut_beside.Goals as goal

pub returns-then-eq : goal.returns-then-eq
returns-then-eq c =
    name-uncut c.args.old.now c.args.place c.in-Some.entry.now c.args.path.now c.requires c.in-Some.ensures.lookup.3.0 c.in-Some.ensures.lookup.1
    (sym c.name.ensures ∙ (bytes_eq-Decides c.name.result.now c.args.path.now).0 (sym c.eq.ensures ∙ c.if-eq.true))
