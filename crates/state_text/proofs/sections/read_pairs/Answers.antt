use Rattle.std.proofs.Common.{◌≡◌, ◌≢◌, ◌++◌, List, ap, subst, ◌∙◌}
use Rattle.std.specs.Prelude.{MatchOption}
use Rattle.std.proofs.lemmas.Bool.Decides.{Decides-eqb}
use Rattle.std.proofs.lemmas.Slice.Eq.{strip_prefix_is}
use Rattle.text_model.specs.Text.{Bytes}
use Rattle.state_part.specs.declared.pairs.IdPair.{IdPair}
use Rattle.state_part.specs.Pairs.{map_section}
use Rattle.state_text.specs.Sections.{pairs_text}
use Rattle.state_text.proofs.sections.read_pairs.Goals as goal

pub returns : goal.returns
returns c =
    let bytes = c.args.bytes.now in
    let text = c.as_slice-2.result.now in
    let same = c.as_slice.ensures ∙ c.in_ok-pairs.ensures in
    let text_is : text ≡ pairs_text c.args.blocks.now =
    c.as_slice-2.ensures.value ∙ c.in_ok-put_map.ensures.ok ∙ ap (λ (l : Bytes). l ++ map_section c.as_slice.result.now) c.new-text.ensures.items ∙ ap (λ (l : List IdPair). map_section l) same in
    subst (λ (p : Bytes). MatchOption c.strip_prefix.result ((rest : Bytes) → bytes ≢ p ++ rest) (λ x. bytes ≡ p ++ x.now)) text_is
    (strip_prefix_is Decides-eqb bytes text c.strip_prefix.result c.strip_prefix.ensures.cases)
