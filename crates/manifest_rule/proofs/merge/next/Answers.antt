use Rattle.std.proofs.Common.{◌≡◌, Some, ◌∙◌}
use Rattle.std.specs.Prelude.{option_map}
use Rattle.manifest_rule.specs.Merged.{lent_row, lent_entry, least_of}
use Rattle.manifest_rule.proofs.NextLemmas.{is_front}
use Rattle.manifest_rule.proofs.merge.next.Goals as goal

pub returns : goal.returns
returns c =
    let two = c.least.ensures ∙ (λ j. least_of (c.path_of_row.ensures j) (c.path_of.ensures j)) in
    let is : Some c.in_ok-path.path.now ≡ least_of (least_of (option_map (λ x. x.path) (lent_row c.args.row)) (option_map (λ x. x.path) (lent_entry c.args.first))) (option_map (λ x. x.path) (lent_entry c.args.second)) =
    c.in_ok-path.ensures ∙ (λ i. least_of (two i) (c.path_of-2.ensures i)) in
    let front = is_front (lent_row c.args.row) (lent_entry c.args.first) (lent_entry c.args.second) c.in_ok-path.path.now is in
    record { some = front.some; before = front.before; row = c.row_with.ensures; first = c.entry_with.ensures; second = c.entry_with-2.ensures }
