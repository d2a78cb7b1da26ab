use Rattle.std.proofs.Common.{[], arith, refl}
use Rattle.std.proofs.KnownBytes.{Consumes-trans}
use Rattle.hg_model.proofs.ChunkLemmas.{chunk_of_field, field_of-length}
use Rattle.hg_chunk.specs.Reader.{payload_of}
use Rattle.hg_chunk.proofs.reader.ChunkReader.next_text.Goals as goal

pub returns-in_default-clause-bytes : goal.returns-in_default-clause-bytes
returns-in_default-clause-bytes g c =
    rw (c.clear.ensures.items, ← chunk_of_field 0 [] refl) (rw c.in_default.is at c.in_ok-size.ensures.bytes)

pub returns-clause-bytes : goal.returns-clause-bytes
returns-clause-bytes g c =
    let payload = payload_of c.in_ok-lent.lent c.text_payload.new.into.items in
    let n = c.in-Some.size in
    let size = rw c.in-Some.is at c.in_ok-size.ensures.size in
    let len = c.in_ok-lent.ensures.len in
    let both = Consumes-trans _ _ _ _ _ (rw c.in-Some.is at c.in_ok-size.ensures.bytes) c.in_ok-lent.ensures.bytes in
    let field = field_of-length payload (omega (arith, size, len)) in
    rw (← chunk_of_field n payload (omega (arith, field, size, len))) both
