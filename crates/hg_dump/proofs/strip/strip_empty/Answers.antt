use Rattle.std.proofs.Common.{refl, subst, []}
use Rattle.text_model.specs.Text.{Bytes}
use Rattle.hg_model.proofs.ChunkLemmas.{chunk_of_field}
use Rattle.hg_dump.specs.Begins.{IsBehind}
use Rattle.hg_dump.proofs.strip.strip_empty.Goals as goal

pub returns : goal.returns
returns c = subst (λ (f : Bytes). IsBehind c.args.bytes.now f c.strip.result) (chunk_of_field 0 [] refl) c.strip.ensures
