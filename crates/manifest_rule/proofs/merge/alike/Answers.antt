use Rattle.std.proofs.Common.{◌≡◌, Option, Some, None, false, refl, sym, ap, ◌∙◌}
use Rattle.std.specs.Prelude.{is_some}
use Rattle.std.proofs.lemmas.Slice.Eq.{bytes_eq-Decides}
use Rattle.text_model.proofs.Options.{not_false}
use Rattle.hg_manifest.specs.Values.{manifest_entry}
use Rattle.pair_known.specs.Rows.{RowValue}
use Rattle.manifest_rule.specs.Listed.{entry_of_value}
use Rattle.manifest_rule.specs.Merged.{lent_entry}
use Rattle.manifest_rule.proofs.NextLemmas.{is-alike}
use Rattle.manifest_rule.proofs.merge.alike.Goals as goal

none-of : {X : Type 0} (o : Option X) → is_some o ≡ false → o ≡ None
none-of None h = refl
none-of (Some x) h = absurd cc

pub returns : goal.returns
returns c =
    let e = entry_of_value c.in_ok-row.row.now in
    let f = manifest_entry c.in_ok-entry.entry.now in
    let e-path : e.path ≡ c.as_slice-path.result.now = sym (c.as_slice-path.ensures ∙ ap (λ (v : RowValue). v.path) c.row.view_is) in
    let f-path : f.path ≡ c.as_slice-path.result.now =
    sym c.as_slice.ensures ∙ (bytes_eq-Decides c.as_slice.result.now c.as_slice-path.result.now).0 (not_false _ (sym c.ne.ensures ∙ c.if-ne.false)) in
    let none = ap lent_entry (none-of c.args.second (sym c.is_some.ensures ∙ c.if-is_some.false)) in
    rw (c.in_ok-row.was, c.in_ok-entry.was) (is-alike e f (lent_entry c.args.second) _ e-path f-path none refl refl refl)
