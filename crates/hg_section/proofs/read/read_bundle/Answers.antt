use Rattle.std.proofs.Common.{sym, subst, rules}
use Rattle.hg_store.specs.Known.{AreAdded}
use Rattle.hg_dump.specs.Told.{TellsTexts}
use Rattle.hg_section.proofs.ToldTexts.{told}
use Rattle.hg_section.proofs.read.read_bundle.Goals as goal

pub returns-in-Ok : goal.returns-in-Ok
returns-in-Ok c = record {
  reads = search rules;
  short = search rules;
  added = c.in-Ok.ensures.added (subst AreAdded (sym c.new.ensures) tt);
  told = subst (TellsTexts c.in-Ok.read.0) (search rules) (told _ _ _ _ c.in-Ok.ensures.bundle);
}
