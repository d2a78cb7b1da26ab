use Rattle.std.proofs.Common.{◌≡◌, ◌-◌, ◌≤◌, length}
use Rattle.std.specs.Io.KnownBytes.{Consumes}
use Rattle.text_model.specs.Text.{lf}
use Rattle.text_model.specs.Cuts.{Lacks}
use Rattle.git_batch.proofs.line.read_line.Given as goal

abbrev pub invariant-bytes : goal.invariant-bytes
invariant-bytes g l = record {
  bytes : Consumes (g.S.Source.left l.fn.src) (g.S.Source.left l.src) l.line.items;
  lacks : Lacks lf l.line.items;
  within : length l.line.items ≤ 4096;
  kept : g.S.Source.faults l.src ≡ g.S.Source.faults l.fn.src;
}

abbrev pub decreases-bytes : goal.decreases-bytes
decreases-bytes g l = 4096 - length l.line.items
