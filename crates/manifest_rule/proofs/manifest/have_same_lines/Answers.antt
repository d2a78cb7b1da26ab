use Rattle.manifest_rule.specs.Listed.{entry_of_value}
use Rattle.manifest_rule.proofs.ManifestLemmas.{get-map, take-more}
use Rattle.manifest_rule.proofs.manifest.have_same_lines.Goals as goal

pub loop-place-preserved : goal.loop-place-preserved
loop-place-preserved c =
    take-more _ _ c.loop-place.place _ _ (get-map entry_of_value c.args.rows.now c.loop-place.place _ c.at.ensures) c.at-in-loop-place.ensures (c.is_line.ensures.0 c.if-not-is_line.false) c.loop-place.invariant
