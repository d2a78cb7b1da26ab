use Rattle.std.proofs.Common.{◌≡◌, ◌∙◌, ◌-◌, ◌++◌, ℕ, List, [], map, sym, ap, arith}
use Rattle.std.proofs.lemmas.List.{append-nil}
use Rattle.std.proofs.lemmas.Result.{IfOk-weaker}
use Rattle.text_model.specs.Text.{Bytes}
use Rattle.text_model.specs.Id.{Id}
use Rattle.git_model.specs.Tree.{Directory, tree_entry_text, tree_text}
use Rattle.git_model.specs.Object.{Object}
use Rattle.git_model.specs.Unfold.{FileRow}
use Rattle.git_model.specs.Shape.{leaf_of}
use Rattle.tree_shape.specs.Shapes.{shorts, entries_in, trees_in, id_of_rows, trees_of_rows}
use Rattle.text_model.specs.Cuts.{cut_of}
use Rattle.tree_shape.proofs.Turns.{count-within, group-turn, file-turn, text-turn, trees-turn, none-depth, empty-id, none-left, finish}
use Rattle.tree_shape.proofs.Unfolding.{text-none}
use Rattle.tree_shape.proofs.assemble.+put_rows.Goals as goal

pub returns-then-levels-eq0 : goal.returns-then-levels-eq0
returns-then-levels-eq0 t c =
    let is : c.args.levels ≡ 0 = c.if-levels-eq0.true in
    let none = none-depth (shorts c.args.skip c.args.rows.now) in (
      c.object_id.ensures ∙ sym (ap (λ (d : ℕ). id_of_rows d (shorts c.args.skip c.args.rows.now)) is ∙ none.0 ∙ empty-id),
      sym (ap (λ (o : List Object). c.args.made.now ++ o) (ap (λ (d : ℕ). trees_of_rows d (shorts c.args.skip c.args.rows.now)) is ∙ none.1) ∙ append-nil c.args.made.now),
    )

pub split_at-requires : goal.split_at-requires
split_at-requires t c = count-within c.in-Some-cut_at.name.now c.args.skip c.count_in-count.result c.names.rest.now c.count_in-count.ensures

pub put_rows-requires : goal.put_rows-requires
put_rows-requires t c = (
  omega (arith, c.decreases),
  (group-turn (c.args.levels - 1) c.args.skip c.in-Some-cut_at.name.now c.in-Some-cut_at.field-0-1.now c.names.rest.now c.split_at.result.0.now c.split_at.result.1.now c.in-Some.first.now c.count_in-count.result
      c.in-Some.ensures.value (c.in-Some-cut_at.ensures ∙ ap (cut_of 47) c.rest_of.ensures.rest) c.count_in-count.ensures c.split_at.ensures.front c.split_at.ensures.back c.names.invariant.good).good_front,
)

pub names-smaller-in-Some-cut_at : goal.names-smaller-in-Some-cut_at
names-smaller-in-Some-cut_at t c =
    (group-turn (c.args.levels - 1) c.args.skip c.in-Some-cut_at.name.now c.in-Some-cut_at.field-0-1.now c.names.rest.now c.split_at.result.0.now c.split_at.result.1.now c.in-Some.first.now c.count_in-count.result
    c.in-Some.ensures.value (c.in-Some-cut_at.ensures ∙ ap (cut_of 47) c.rest_of.ensures.rest) c.count_in-count.ensures c.split_at.ensures.front c.split_at.ensures.back c.names.invariant.good).less

pub names-preserved-in-Some-cut_at : goal.names-preserved-in-Some-cut_at
names-preserved-in-Some-cut_at t c =
    let turn = group-turn (c.args.levels - 1) c.args.skip c.in-Some-cut_at.name.now c.in-Some-cut_at.field-0-1.now c.names.rest.now c.split_at.result.0.now c.split_at.result.1.now c.in-Some.first.now c.count_in-count.result
    c.in-Some.ensures.value (c.in-Some-cut_at.ensures ∙ ap (cut_of 47) c.rest_of.ensures.rest) c.count_in-count.ensures c.split_at.ensures.front c.split_at.ensures.back c.names.invariant.good in
    record {
      good = turn.good_back;
      text = text-turn c.names.text.items c.put_entry.new.out.items _ _ _ _ c.names.invariant.text turn.entries
          (c.in_ok-put_entry-in-Some-cut_at.ensures
          ∙ ap (λ (id : Id). c.names.text.items ++ tree_entry_text (record { mode = Directory; name = c.in-Some-cut_at.name.now; id = id })) c.in_ok-id-in-Some-cut_at.ensures.0);
      made = trees-turn c.names.made c.put_rows.new.made c.args.made.now _ _ _ _ c.names.invariant.made turn.trees c.in_ok-id-in-Some-cut_at.ensures.1;
    }

pub names-preserved : goal.names-preserved
names-preserved t c =
    let turn = file-turn (c.args.levels - 1) c.args.skip c.names.rest.now c.split_at-in-None.result.1.now c.in-Some.first.now
    c.in-Some.ensures.value (c.in-None.ensures ∙ ap (cut_of 47) c.rest_of.ensures.rest) c.split_at-in-None.ensures.back c.names.invariant.good in
    record {
      good = turn.good_back;
      text = text-turn c.names.text.items c.put_entry-in-None.new.out.items _ _ _ _ c.names.invariant.text turn.entries
          (c.in_ok-put_entry-in-None.ensures ∙ (λ k. c.names.text.items ++ tree_entry_text (record { mode = c.mode.ensures k; name = c.rest_of-in-None.ensures.rest k; id = c.blob.ensures k })));
      made = trees-turn c.names.made c.put_below.new.made c.args.made.now _ _ _ _ c.names.invariant.made turn.trees c.in_ok-put_below-in-None.ensures;
    }

pub returns : goal.returns
returns t c =
    let end : c.names.rest.now ≡ [] = none-left c.names.rest.now c.in_default.ensures.value in
    IfOk-weaker c.put_tree.result _ _
    (λ id h. finish c.args.levels (shorts c.args.skip c.args.rows.now) c.names.text.items c.names.made c.args.made.now c.put_tree.new.made id c.requires.good (omega arith)
    (sym (ap (λ (r : List FileRow). c.names.text.items ++ tree_text (entries_in (c.args.levels - 1) (map leaf_of (shorts c.args.skip r)))) end ∙ ap (λ (b : Bytes). c.names.text.items ++ b) text-none ∙ append-nil c.names.text.items) ∙ c.names.invariant.text)
    (sym (ap (λ (r : List FileRow). c.names.made ++ trees_in (c.args.levels - 1) (map leaf_of (shorts c.args.skip r))) end ∙ append-nil c.names.made) ∙ c.names.invariant.made)
    h)
    c.put_tree.ensures
