use Rattle.std.proofs.Common.{◌≡◌, true, length, sym, ap, ◌∙◌}
use Rattle.std.specs.List.{list_all}
use Rattle.std.proofs.lemmas.Bool.Decides.{Decides-eqb}
use Rattle.text_model.specs.Path.{is_fit_path}
use Rattle.git_model.specs.Residue.{ResidueItem, fits}
use Rattle.changeset_unmark.proofs.ItemLemmas.{all-kept, kept-all}
use Rattle.changeset_unmark.proofs.residue.are_fit.Goals as goal

pub returns : goal.returns
returns c =
    let files = c.args.files.now in
    let items = c.args.items.now in
    let paths : list_all (λ (i : ResidueItem). is_fit_path i.path) c.args.items.now ≡ true =
    ap (list_all (λ (i : ResidueItem). is_fit_path i.path)) (sym c.as_slice.ensures.items) ∙ sym c.have_fit_paths.ensures ∙ c.if-not-have_fit_paths.false in (
      (λ t. (all-kept (fits files) items (ap length (sym c.in_ok-fit.ensures) ∙ sym c.len.ensures ∙ (Decides-eqb c.len.result c.len-2.result).0 t ∙ c.len-2.ensures), paths)),
      (λ fit. (Decides-eqb c.len.result c.len-2.result).1 (c.len.ensures ∙ ap length (c.in_ok-fit.ensures ∙ kept-all (fits files) items fit.0) ∙ sym c.len-2.ensures)),
    )
