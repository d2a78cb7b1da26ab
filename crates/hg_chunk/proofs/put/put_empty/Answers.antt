use Rattle.std.proofs.Common.{refl, []}
use Rattle.hg_model.proofs.ChunkLemmas.{chunk_of_field}
use Rattle.hg_chunk.proofs.put.put_empty.Goals as goal

pub returns-clause-ok : goal.returns-clause-ok
returns-clause-ok c = rw (← chunk_of_field 0 [] refl) c.in_ok-put.ensures.ok
