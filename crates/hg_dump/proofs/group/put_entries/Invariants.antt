use Rattle.std.proofs.Common.{◌≡◌, ◌++◌, List, drop}
use Rattle.std.specs.Io.{StartsWith}
use Rattle.hg_model.specs.Revision.{Revision}
use Rattle.hg_store.specs.Groups.{group_value}
use Rattle.hg_dump.specs.Written.{AreOf, base_size, chunks_over}
use Rattle.hg_dump.proofs.group.put_entries.Given as goal

abbrev pub invariant-loop-reference : goal.invariant-loop-reference
invariant-loop-reference l = record {
  written : (rs : List Revision) → AreOf l.store (group_value l.group) l.references rs
      → l.out ++ chunks_over l.base_len (drop l.reference-index rs) ≡ l.fn.out ++ chunks_over (base_size l.store (group_value l.group) rs) rs;
  front : StartsWith l.out l.fn.out;
}
