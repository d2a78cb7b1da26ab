use Rattle.tag_section.proofs.Reading.{stream_read}
use Rattle.tag_section.proofs.stream.read_stream.Goals as goal

pub returns-in-Ok : goal.returns-in-Ok
returns-in-Ok c =
    stream_read c.args.store c.new-source.result c.args.bytes.now (c.in-Ok.store, c.in-Ok.came) c.new-source.ensures c.in-Ok.ensures.reads c.in-Ok.ensures.known
