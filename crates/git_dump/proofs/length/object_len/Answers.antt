use Rattle.std.proofs.Common.{◌≡◌, ◌+◌, ◌++◌, [], ◌∷◌, length, length-append, arith, ap}
use Rattle.std.specs.Prelude.{decimal}
use Rattle.bridge_text.specs.Kinds.{object_kind}
use Rattle.text_model.specs.Id.{hex, kind_word}
use Rattle.text_model.specs.Text.{Bytes, line, spaced}
use Rattle.text_model.proofs.HexLemmas.{length-hex}
use Rattle.git_dump.proofs.length.object_len.Goals as goal

text-length : (id word size content : Bytes) → length (line (spaced (id ∷ word ∷ size ∷ [])) ++ line content) ≡ length id + length word + length size + length content + 4
text-length id word size content = simp length-append (omega arith)

pub returns : goal.returns
returns c = λ id is.
    omega (
      arith,
      text-length (hex id) (kind_word (object_kind c.args.kind)) (decimal (length c.args.content.now)) c.args.content.now,
      length-hex id,
      is.0,
      ap (λ (b : Bytes). length b) c.word.ensures,
      ap (λ (b : Bytes). length b) c.format-size.ensures.text,
    )
