use Rattle.std.proofs.Common.{true≢false}
use Rattle.commit_mark.proofs.file_parts.split_text.Goals as goal

pub unreachable-requires : goal.unreachable-requires
unreachable-requires c =
    let h = c.requires.spells in
    true≢false (c.in-Err.ensures.taken h.0 h.1 h.2)
