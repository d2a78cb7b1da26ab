use Rattle.std.proofs.Common.{◌++◌, ◌∷◌, [], not, List, arith, ap, sym, ◌∙◌, append_assoc}
use Rattle.std.specs.Prelude.{slice_get, filter, bytes_eq, map}
use Rattle.text_model.proofs.Elements.{get_unmap, each_at}
use Rattle.hg_manifest.specs.Values.{manifest_entry}
use Rattle.hg_model.specs.Manifest.{ManifestEntry}
use Rattle.view_model.specs.View.{Row, entry_of_row}
use Rattle.view_model.specs.Held.{IsFileHeld}
use Rattle.pair_known.specs.Rows.{RowValue, row_value}
use Rattle.make_history.proofs.RowsLemmas.{others-push}
use Rattle.make_history.proofs.rows.push_others.Goals as goal

pub push_other-requires : goal.push_other-requires
push_other-requires c =
    let h = c.requires.held in
    let i = c.loop-place.place in
    let f = get_unmap entry_of_row h.0 i (manifest_entry c.at.result.now) (ap (λ (l : List ManifestEntry). slice_get l i) h.1 ∙ c.at.ensures) in
    record { held = (f.0, f.2, each_at (IsFileHeld c.args.store.now) h.0 i f.0 f.1 h.2) }

pub loop-place-preserved : goal.loop-place-preserved
loop-place-preserved c = λ old same held.
    let i = c.loop-place.place in
    let f = get_unmap entry_of_row old i (manifest_entry c.at.result.now) (ap (λ (l : List ManifestEntry). slice_get l i) same ∙ c.at.ensures) in
    let test : Row → _ = λ (row : Row). not (bytes_eq row.path c.args.path.now) in
    let last = map row_value (filter test (f.0 ∷ [])) in
    c.in_ok-push_other.ensures f.0 f.2 (each_at (IsFileHeld c.args.store.now) old i f.0 f.1 held)
    ∙ ap (λ (l : List RowValue). l ++ last) (c.loop-place.invariant old same held)
    ∙ append_assoc c.args.rows.now _ last
    ∙ ap (λ (l : List RowValue). c.args.rows.now ++ l) (sym (others-push test old c.args.from i f.0 (omega arith) f.1))
