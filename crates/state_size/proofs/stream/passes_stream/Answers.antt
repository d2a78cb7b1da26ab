use Rattle.std.proofs.Common.{ap, ◌∙◌, ◌+◌, length, arith}
use Rattle.std.specs.Prelude.{nat_lt}
use Rattle.git_model.specs.Stream.{stream_text}
use Rattle.state_model.specs.Kept.{git_dump}
use Rattle.state_model.specs.Limits.{dump_limit}
use Rattle.git_dump.specs.Walks.{objects_of}
use Rattle.state_size.proofs.Written.{past}
use Rattle.state_size.proofs.stream.passes_stream.Goals as goal

pub returns : goal.returns
returns c = λ cs are.
    ap (nat_lt dump_limit) (omega (arith, c.in_ok-dump.ensures cs are, c.objects_len.ensures, c.saturating_add-all.ensures))
    ∙ past (length (git_dump cs) + length (stream_text (objects_of c.args.store.now c.args.tags.now)))
