use Rattle.std.proofs.Common.{false, List, ◌++◌, map, subst, sym}
use Rattle.std.proofs.lemmas.Result.{on_ok_weaker}
use Rattle.text_model.specs.Lists.{Each}
use Rattle.hg_model.specs.Manifest.{ManifestEntry}
use Rattle.hg_manifest.specs.declared.ahead.Ahead.{Ahead}
use Rattle.hg_dump.specs.Marks.{Mark, Met, IsMet, manifest_marks, file_mark, meets}
use Rattle.hg_dump.specs.declared.refers.Refers.{Refers}
use Rattle.hg_dump.specs.State.{referred_in, IsLineMet, StepsAfter}
use Rattle.hg_dump.proofs.MeetLemmas.{meets-append}
use Rattle.hg_dump.proofs.RefersLemmas.{met-of, as-met, more-marks}
use Rattle.hg_dump.proofs.NamedLemmas.{of-mark, marks-of, names-unknown, names-known}
use Rattle.hg_dump.proofs.refers.Refers.add_named.Goals as goal

pub returns-in_default-lines : goal.returns-in_default-lines
returns-in_default-lines c = λ rs to.
    let ms = manifest_marks c.args.node.now (c.in-Some.changeset.now).manifest in
    let refers : Refers = record { brought = c.refer_manifest.new.self } in (
      map of-mark ms,
      names-unknown _ _ _ _ _ c.in-Some.ensures.value c.in_default-lines.ensures.value,
      more-marks refers rs (map of-mark ms) (subst (λ (l : List Mark). IsMet (meets false (met-of rs) l) (referred_in refers.brought)) (sym (marks-of ms)) (c.in_ok-refer_manifest.ensures (met-of rs) (as-met c.args.self.now rs to))),
    )

pub returns : goal.returns
returns c = on_ok_weaker c.refer_files.result (λ last rs to.
    let node = c.args.node.now in
    let front = manifest_marks node (c.in-Some.changeset.now).manifest in
    let files = map (file_mark node) c.in-Some-lines.lines in
    let refers : Refers = record { brought = c.refer_files.new.self } in
    let met = meets false (met-of rs) front in
    let after = subst (λ (walk : Ahead). StepsAfter walk.other false (map (file_mark node) walk.lines) c.refer_manifest.new.self c.refer_files.new.self) c.of-walk.ensures last in
    let all = after met (c.in_ok-refer_manifest.ensures (met-of rs) (as-met c.args.self.now rs to)) (subst (λ (es : List ManifestEntry). Each (IsLineMet met) es) (sym c.none.ensures) tt) in (
      map of-mark (front ++ files),
      names-known _ _ _ _ _ c.in-Some.ensures.value _ c.in-Some-lines.ensures.value,
      more-marks refers rs (map of-mark (front ++ files)) (subst (λ (l : List Mark). IsMet (meets false (met-of rs) l) (referred_in refers.brought)) (sym (marks-of (front ++ files))) (subst (λ (s : Met). IsMet s (referred_in refers.brought)) (sym (meets-append false (met-of rs) front files)) all)),
    )) c.refer_files.ensures
