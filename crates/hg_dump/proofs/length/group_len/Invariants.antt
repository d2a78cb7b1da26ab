use Rattle.std.proofs.Common.{◌≡◌, ◌<◌, ◌+◌, ◌-◌, ◌^◌, List, length, min, drop}
use Rattle.hg_model.specs.Revision.{Revision}
use Rattle.hg_store.specs.Groups.{group_value}
use Rattle.hg_dump.specs.Written.{AreOf, base_size, chunks_over}
use Rattle.hg_dump.proofs.length.group_len.Given as goal

abbrev pub invariant-loop-reference : goal.invariant-loop-reference
invariant-loop-reference l = record {
  small : l.len < 2 ^ 64;
  counted : (rs : List Revision) → AreOf l.store (group_value l.group) l.references rs
      → min (l.len + length (chunks_over l.base_len (drop l.reference-index rs))) (2 ^ 64 - 1) ≡ min (4 + length (chunks_over (base_size l.store (group_value l.group) rs) rs)) (2 ^ 64 - 1);
}
