use Rattle.std.proofs.Common.{map, sym, subst, ◌∙◌}
use Rattle.std.proofs.lemmas.Slice.Eq.{bytes_eq-Decides}
use Rattle.text_model.specs.Text.{Bytes}
use Rattle.hg_manifest.specs.Values.{manifest_entry}
use Rattle.hg_manifest.specs.Near.{IsFront}
use Rattle.hg_manifest.proofs.BesideLemmas.{passed-both}
use Rattle.hg_manifest.proofs.ahead.Ahead.pass_same.Goals as goal

pub loop-text-preserved : goal.loop-text-preserved
loop-text-preserved c =
    let count = c.args.count in
    let mid = c.loop-text.self in
    let text : Bytes = c.in-Some.text.now in
    let same = (bytes_eq-Decides text c.in-Some-front.other_text.now).0 (sym c.eq.ensures ∙ c.if-eq.true) in
    passed-both c.args.self.now mid count text (map manifest_entry c.in-Some.field-0-0.now) (map manifest_entry c.in-Some-front.field-0-0.now) c.in-Some.lines c.in-Some-front.other c.loop-text.invariant c.in-Some.ensures.some
    (subst (λ (t : Bytes). IsFront count mid.other (map manifest_entry c.in-Some-front.field-0-0.now) t c.in-Some-front.other) (sym same) c.in-Some-front.ensures.some)
