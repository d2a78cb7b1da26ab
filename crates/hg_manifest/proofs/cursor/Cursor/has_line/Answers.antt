use Rattle.std.proofs.Common.{◌≡◌, Bool, true, false, refl, sym, ◌∙◌}
use Rattle.std.specs.Bool.{OnTrue}
use Rattle.hg_manifest.specs.Values.{manifest_entry}
use Rattle.hg_manifest.proofs.CursorLemmas.{line-found}
use Rattle.hg_manifest.proofs.cursor.Cursor.has_line.Goals as goal

on_true : {X : Type 0} (b : Bool) → (b ≡ true → X) → OnTrue b X
on_true true h = h refl
on_true false h = tt

pub returns-in-Some-clause-found : goal.returns-in-Some-clause-found
returns-in-Some-clause-found c =
    on_true c.eq.result (λ t. line-found c.args.self.now c.args.path.now c.args.node.now (manifest_entry c.in-Some.entry.now) c.in-Some.ensures.entry (sym c.eq.ensures ∙ t))
