use Rattle.std.proofs.Common.{List, drop}
use Rattle.text_model.specs.Text.{Bytes}
use Rattle.hg_model.specs.Revision.{Revision}
use Rattle.hg_store.specs.Groups.{group_value}
use Rattle.hg_dump.specs.Begins.{GoOnAlike}
use Rattle.hg_dump.specs.ToldParts.{TellsGroup}
use Rattle.hg_dump.specs.Written.{AreOf, base_size, chunks_over}
use Rattle.hg_dump.proofs.strip.strip_entries.Given as goal

abbrev pub invariant-loop-reference : goal.invariant-loop-reference
invariant-loop-reference l = record {
  alike : (rs : List Revision) → AreOf l.store (group_value l.group) l.references rs
      → GoOnAlike l.initial.rest (chunks_over (base_size l.store (group_value l.group) rs) rs) l.rest (chunks_over l.base_len (drop l.reference-index rs));
  told : (tail : Bytes) → TellsGroup l.store (group_value l.group) l.initial.rest tail → TellsGroup l.store (group_value l.group) l.rest tail;
}
