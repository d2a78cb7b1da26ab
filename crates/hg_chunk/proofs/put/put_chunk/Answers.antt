use Rattle.std.proofs.Common.{◌+◌, sym, length, rules, append_assoc}
use Rattle.hg_model.proofs.ChunkLemmas.{chunk_of_field, field_of-length}
use Rattle.hg_chunk.proofs.put.put_chunk.Goals as goal

pub returns-clause-ok : goal.returns-clause-ok
returns-clause-ok c =
    let payload = c.args.payload.now in
    rw (← chunk_of_field (length payload + 4) payload (sym (field_of-length payload c.requires.some))) (search (rules, append_assoc))
