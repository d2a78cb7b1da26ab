use Rattle.std.proofs.Common.{◌≡◌, ◌-◌, ◌^◌, option_map}
use Rattle.std.specs.Io.{StartsWith}
use Rattle.hg_bundle.specs.Place.{place_value}
use Rattle.hg_bundle.proofs.Progress.{Progress}
use Rattle.hg_bundle.proofs.ReadBytes.{ReadBytes}
use Rattle.hg_bundle.proofs.listing.append_lines.Given as goal

abbrev pub invariant-chunks : goal.invariant-chunks
invariant-chunks g l = record {
  progress : Progress (g.S.Source.left l.fn.src) (g.S.Source.left l.src) l.fn.out.items l.out.items l.reader (option_map place_value l.next);
  bytes : ReadBytes (g.S.Source.left l.fn.src) (g.S.Source.left l.src);
  front : StartsWith l.out.items l.fn.out.items;
  kept : g.S.Source.faults l.src ≡ g.S.Source.faults l.fn.src;
}

abbrev pub decreases-chunks : goal.decreases-chunks
decreases-chunks g l = 2 ^ 29 - l.reader
