-- What a listing answers.
use Rattle.std.specs.Prelude.{◌≡◌, ◌++◌, None, Result, MatchResult}
use Rattle.text_model.specs.Text.{Bytes}
use Rattle.git_model.specs.Stream.{stream_framing, stream_listing}
use Rattle.git_batch.specs.declared.fault.BatchFault.{BatchFault}
use Rattle.git_batch.specs.Faults.{IsFault}

-- A line for each object of the stream was appended to `old`, or the fault is what the bytes are refused for.
abbrev pub Lists : {T : Type 0} → Bytes → Bytes → Result T BatchFault → Bytes → Type 0
Lists bytes old result new = MatchResult result
    (λ _. ((stream_framing bytes).bad ≡ None) × (new ≡ old ++ stream_listing (stream_framing bytes).objects))
    (IsFault (stream_framing bytes).bad)
