use Rattle.std.proofs.Common.{◌+◌, length, sym, subst}
use Rattle.byteorder.specs.Endian.{big_bytes}
use Rattle.text_model.specs.Text.{Bytes}
use Rattle.hg_model.proofs.ChunkLemmas.{chunk_of_field, field_of-length}
use Rattle.hg_dump.specs.Begins.{LacksFront, IsBehind}
use Rattle.hg_dump.proofs.StripLemmas.{lacks-first, behind-both}
use Rattle.hg_dump.proofs.strip.strip_chunk.Goals as goal

pub returns-in_err-behind : goal.returns-in_err-behind
returns-in_err-behind c =
    let bytes = c.args.bytes.now in
    let payload = c.args.payload.now in
    rw c.from_residual.ensures
    (subst (λ (f : Bytes). LacksFront bytes f) (chunk_of_field (length payload + 4) payload (sym (field_of-length payload c.requires.some)))
    (lacks-first bytes (big_bytes 4 (length payload + 4)) payload c.in_err-behind.ensures))

pub returns : goal.returns
returns c =
    let bytes = c.args.bytes.now in
    let payload = c.args.payload.now in
    subst (λ (f : Bytes). IsBehind bytes f c.strip.result) (chunk_of_field (length payload + 4) payload (sym (field_of-length payload c.requires.some)))
    (behind-both bytes (big_bytes 4 (length payload + 4)) payload c.in_ok-behind.behind.now c.strip.result c.in_ok-behind.ensures c.strip.ensures)
