-- What was read so far are bytes, each below 256.
use Rattle.std.proofs.Common.{◌++◌, Option, IfSome, arith}
use Rattle.std.proofs.KnownBytes.{Consumes-trans, Consumes-whole}
use Rattle.std.specs.Io.KnownBytes.{Consumes, IsAtEnd}
use Rattle.text_model.specs.Text.{Bytes, IsBytes}
use Rattle.text_model.proofs.ByteLemmas.{IsBytes-append}
use Rattle.hg_model.specs.Chunk.{chunk_text, magic_text}
use Rattle.hg_model.proofs.ChunkLemmas.{IsBytes-chunk}

pub record ReadBytes (old now : Option Bytes) : Type 0 where
  pub past : Bytes
  pub came : Consumes old now past
  pub are : IsBytes past

pub read_begins : (old mid : Option Bytes) → Consumes old mid magic_text → ReadBytes old mid
read_begins old mid came = record { past = magic_text; came = came; are = (omega arith, (omega arith, (omega arith, (omega arith, (omega arith, (omega arith, tt)))))) }

pub read_goes_on : (old mid new : Option Bytes) (payload : Bytes) → ReadBytes old mid → Consumes mid new (chunk_text payload) → IsBytes payload → ReadBytes old new
read_goes_on old mid new payload read came are = record {
  past = read.past ++ chunk_text payload;
  came = Consumes-trans old mid new read.past (chunk_text payload) read.came came;
  are = IsBytes-append read.past (chunk_text payload) read.are (IsBytes-chunk payload are);
}

-- at the end they are the whole input
pub read_ends : (old now : Option Bytes) → ReadBytes old now → IsAtEnd now → IfSome old IsBytes
read_ends old now read end = Consumes-whole old now read.past IsBytes read.came end read.are
