use Rattle.std.proofs.Common.{[], ◌∷◌}
use Rattle.hg_manifest.specs.Values.{manifest_entry}
use Rattle.hg_manifest.specs.declared.ahead.Ahead.{Ahead}
use Rattle.hg_manifest.proofs.BesideLemmas.{passed-more, passed-told, passed-all}
use Rattle.hg_manifest.proofs.ahead.Ahead.next.Goals as goal

pub returns-in_err-entry-clause-none : goal.returns-in_err-entry-clause-none
returns-in_err-entry-clause-none c = λ none.
    let old = c.args.self.now in
    let mid = c.pass_same.new.self in
    let new = c.pass_same-2.new.self in
    passed-all old new (passed-more old mid new [] c.pass_same.ensures c.pass_same-2.ensures) (c.split.ensures.none c.in_err-entry.was)

pub returns-clause-some : goal.returns-clause-some
returns-clause-some c =
    let old = c.args.self.now in
    let mid = c.pass_same.new.self in
    let new = c.pass_same-2.new.self in
    let e = manifest_entry c.in_ok-entry.entry.now in
    let last : Ahead = record { lines = c.in_ok-entry.behind; other = c.pass.new.self } in
    passed-more old new last (e ∷ []) (passed-more old mid new [] c.pass_same.ensures c.pass_same-2.ensures)
    (passed-told new e c.in_ok-entry.behind c.pass.new.self c.in_ok-entry.ensures.some.0 c.pass.ensures)
