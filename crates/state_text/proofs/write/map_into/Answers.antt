use Rattle.std.proofs.Common.{◌++◌, List, map, ap, ◌∙◌}
use Rattle.std.proofs.lemmas.Result.{on_ok_weaker}
use Rattle.text_model.specs.Text.{Bytes}
use Rattle.state_part.specs.declared.pairs.IdPair.{IdPair}
use Rattle.state_part.specs.Pairs.{sorted_lines}
use Rattle.state_text.specs.Sections.{pair_in}
use Rattle.state_text.proofs.Maps.{map-lines}
use Rattle.state_text.proofs.Written.{map-pairs}
use Rattle.state_text.proofs.write.map_into.Goals as goal

pub returns-clause-ok : goal.returns-clause-ok
returns-clause-ok c =
    let s = c.args.state.now in
    on_ok_weaker c.put_sorted_map.result (λ e m h.
    e ∙ ap (λ (l : List IdPair). c.args.out.now.items ++ sorted_lines l) (c.in_ok-pairs.ensures ∙ ap (map pair_in) c.blocks-2.ensures ∙ map-pairs s m.blocks h.blocks)
    ∙ ap (λ (t : Bytes). c.args.out.now.items ++ t) (map-lines m.blocks))
    c.put_sorted_map.ensures.ok
