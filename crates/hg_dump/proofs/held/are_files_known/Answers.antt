use Rattle.std.proofs.Common.{sym, subst, ◌∙◌}
use Rattle.std.proofs.lemmas.Option.{IfSome_then}
use Rattle.hg_manifest.specs.declared.ahead.Ahead.{Ahead}
use Rattle.hg_dump.specs.Held.{AreLinesKnown}
use Rattle.hg_store.proofs.ViewLemmas.{one-list}
use Rattle.hg_dump.proofs.HeldLines.{none-unknown}
use Rattle.hg_dump.proofs.held.are_files_known.Goals as goal

pub of-walk-requires : goal.of-walk-requires
of-walk-requires c = IfSome_then c.newer.result c.newer.ensures (λ newer told. told c.in-Some.lines c.args.near c.in-Some.ensures.value c.requires.before)

pub are_known_beside-requires : goal.are_known_beside-requires
are_known_beside-requires c = record { near = subst (λ (walk : Ahead). AreLinesKnown c.args.store.now walk.other) (sym c.of-walk.ensures) c.requires.near }

pub returns-in-Some : goal.returns-in-Some
returns-in-Some c = λ yes es of.
    let known = c.args.store.now in
    let same = one-list known c.args.node.now c.in-Some.lines es c.in-Some.ensures.value of in
    none-unknown known es (subst (AreLinesKnown known) same (subst (λ (walk : Ahead). AreLinesKnown known walk.lines) c.of-walk.ensures (c.are_known_beside.ensures yes)))

pub returns-then-contains : goal.returns-then-contains
returns-then-contains c = λ yes es of. none-unknown c.args.store.now es (c.requires.walked c.args.node.now es (sym c.contains.ensures ∙ c.if-contains.true) of)
