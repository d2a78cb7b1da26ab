use Rattle.std.proofs.Common.{◌∙◌, ap, sym}
use Rattle.git_model.specs.Tree.{is_blob_mode}
use Rattle.git_dump.specs.Visits.{met_by}
use Rattle.git_dump.proofs.WalkLemmas.{no-object}
use Rattle.git_dump.proofs.walk.Walk.visit_file.Goals as goal

pub returns-else-is_blob : goal.returns-else-is_blob
returns-else-is_blob c = record {
  visited = no-object c.args.store.now c.args.entry.now (met_by c.args.store.now c.args.self.now) (ap is_blob_mode (sym c.mode.ensures) ∙ sym c.is_blob.ensures ∙ c.if-is_blob.false);
  walk = c.requires;
}
