use Rattle.std.proofs.Common.{sym, ap, ◌∙◌, nat_cmp, bytes_eq}
use Rattle.std.specs.Prelude.{option_map}
use Rattle.std.specs.Cmp.Lexicographic.{slice_cmp}
use Rattle.std.proofs.lemmas.Fn.{always_returns_same}
use Rattle.pair_known.specs.Fresh.{fresh_revision, group_path}
use Rattle.text_model.proofs.Search.{got, not_got, find-map}
use Rattle.pair_known.proofs.FreshLemmas.{path_in, paths_rise}
use Rattle.pair_known.proofs.fresh_files.at_path.Goals as goal

pub returns-in-Ok : goal.returns-in-Ok
returns-in-Ok c =
    let position = c.in-Ok.ensures.position (λ e. slice_cmp nat_cmp e.path c.args.path.now) (always_returns_same _ _ _ (λ a r f called. (called.met.1, λ i. record { 0 = called.met.0 i }))) in
    let items = c.args.items.now in
    ap (option_map fresh_revision) (got path_in items c.args.path.now c.in-Ok.i c.index-items-i.result (paths_rise items c.requires) c.in-Ok.ensures.bound position c.index-items-i.is)
    ∙ sym (find-map fresh_revision (λ r. bytes_eq (group_path r.group) c.args.path.now) items)

pub returns-in-Err : goal.returns-in-Err
returns-in-Err c =
    let position = c.in-Err.ensures.position (λ e. slice_cmp nat_cmp e.path c.args.path.now) (always_returns_same _ _ _ (λ a r f called. (called.met.1, λ i. record { 0 = called.met.0 i }))) in
    let items = c.args.items.now in
    ap (option_map fresh_revision) (not_got path_in items c.args.path.now c.in-Err.field-0 (paths_rise items c.requires) position)
    ∙ sym (find-map fresh_revision (λ r. bytes_eq (group_path r.group) c.args.path.now) items)
