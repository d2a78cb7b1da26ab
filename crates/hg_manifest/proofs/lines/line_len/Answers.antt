use Rattle.std.proofs.Common.{◌≡◌, ◌+◌, ◌∷◌, ◌++◌, [], length, length-append, arith, ap, ◌∙◌}
use Rattle.text_model.specs.Text.{Bytes, nul, lf}
use Rattle.text_model.specs.Id.{IsId, hex}
use Rattle.text_model.proofs.HexLemmas.{length-hex}
use Rattle.hg_manifest.proofs.lines.line_len.Goals as goal

line_length : (path letter node : Bytes) → IsId node → length path + 40 + length letter + 2 ≡ length (path ++ nul ∷ hex node ++ letter ++ lf ∷ [])
line_length path letter node is =
    omega (
      arith,
      length-append (path ++ nul ∷ hex node ++ letter) (lf ∷ []),
      length-append (path ++ nul ∷ hex node) letter,
      length-append path (nul ∷ hex node),
      length-hex node,
      is.0,
    )

pub returns : goal.returns
returns c =
    ap (λ (letter : Bytes). length c.args.path.now + 40 + length letter + 2) c.flag_bytes.ensures ∙ line_length c.args.path.now _ c.args.node.now c.bytes.ensures.id
