use Rattle.std.proofs.Common.{◌+◌, ◌<◌, ◌∙◌, length, sym, arith}
use Rattle.hg_dump.proofs.BundleLemmas.{positive}
use Rattle.hg_dump.proofs.ToldLemmas.{whole-size}
use Rattle.hg_dump.proofs.strip.strip_delta.Goals as goal
use Rattle.hg_dump.proofs.strip.strip_delta.Goals.{else-base_len-eq0-via-then-base_len-eq0+else-is_empty, else-base_len-eq0-via-else-base_len-eq0}

pub strip_hunk-requires-clause-told : goal.strip_hunk-requires-clause-told
strip_hunk-requires-clause-told c =
    let size = c.args.base_len in
    let text = c.args.text.now in
    let told = c.requires.told in
    let some : 0 < size + length text = elim c.else-base_len-eq0.branch [
      | else-base_len-eq0-via-then-base_len-eq0+else-is_empty w ↦ omega (arith, positive (length text) (sym w.is_empty.ensures ∙ w.if-is_empty.false))
      | else-base_len-eq0-via-else-base_len-eq0 w ↦ omega (arith, w.if-base_len-eq0.false)
    ] in
    record { base = told.base; delta = told.delta; tail = told.tail; spells = told.spells; size_is = told.size_is ∙ whole-size size text some; makes = told.makes }
