use Rattle.std.proofs.Common.{◌≡◌, ◌-◌, ◌^◌}
use Rattle.std.specs.Io.{StartsWith}
use Rattle.git_batch.proofs.Progress.{Progress}
use Rattle.git_batch.proofs.listing.append_lines.Given as goal

abbrev pub invariant-objects : goal.invariant-objects
invariant-objects g l = record {
  progress : Progress (g.S.Source.left l.fn.src) (g.S.Source.left l.src) l.fn.out.items l.out.items l.reader;
  front : StartsWith l.out.items l.fn.out.items;
  kept : g.S.Source.faults l.src ≡ g.S.Source.faults l.fn.src;
}

abbrev pub decreases-objects : goal.decreases-objects
decreases-objects g l = 2 ^ 29 - l.reader
