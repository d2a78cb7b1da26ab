use Rattle.std.proofs.Common.{◌∷◌, [], List, ℕ, sym, subst, map}
use Rattle.hg_manifest.specs.Values.{manifest_entry}
use Rattle.hg_manifest.specs.Beside.{IsNewer, IsPassed}
use Rattle.hg_manifest.specs.declared.ahead.Ahead.{Ahead}
use Rattle.hg_manifest.proofs.BesideLemmas.{newer-told}
use Rattle.hg_manifest.proofs.beside.Beside.next_newer.Goals as goal

told : (c : goal.After-self-2-1) → let old : Ahead = c.self.inside.ahead in let e = manifest_entry c.in_ok-entry.entry.now in
    IsPassed old (record { lines = c.in_ok-entry.behind; other = old.other }) (e ∷ []) × IsNewer old.other c.in_ok-gap.rest.now c.in_ok-entry.behind
told c =
    let old : Ahead = c.self.inside.ahead in
    let gap = c.in_ok-gap.gap.now in
    let gaps = c.in_ok-gap.rest.now in
    let n : IsNewer old.other (gap ∷ gaps) old.lines =
    subst (λ (a : Ahead). IsNewer a.other (gap ∷ gaps) a.lines) (sym c.self.view_is) (subst (λ (l : List ℕ). IsNewer c.args.self.now.other l c.args.self.now.lines) c.in_ok-gap.ensures.cases.0 c.requires) in
    newer-told old gap gaps (map manifest_entry c.in_ok-lines.field-0-0.now) c.in_ok-lines.lines c.in_ok-entry.behind c.in_ok-lines.field-0-1.now (manifest_entry c.in_ok-entry.entry.now) n c.in_ok-lines.ensures.some c.in_ok-entry.ensures.some.0

pub invariant_of-self : goal.invariant_of-self
invariant_of-self c = (told c).1

pub returns-clause-some : goal.returns-clause-some
returns-clause-some c =
    let new : Ahead = record { lines = c.in_ok-entry.behind; other = c.self.inside.ahead.other } in
    subst (λ (a : Ahead). IsPassed a new (manifest_entry c.in_ok-entry.entry.now ∷ [])) c.self.view_is (told c).0
