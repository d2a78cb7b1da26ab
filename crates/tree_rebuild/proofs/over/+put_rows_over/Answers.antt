use Rattle.std.proofs.Common.{true, not, ◌&&◌, ◌≡◌, ◌<◌, ◌∙◌, ◌+◌, ◌-◌, ◌++◌, ◌==◌, ◌∷◌, ℕ, List, [], length, drop, map, refl, sym, ap, subst, arith}
use Rattle.std.specs.Option.{unwrap_or}
use Rattle.std.proofs.lemmas.List.{append-nil}
use Rattle.std.proofs.lemmas.Result.{IfOk-weaker}
use Rattle.text_model.specs.Lists.{In, Each}
use Rattle.text_model.specs.Text.{Bytes}
use Rattle.text_model.specs.Id.{Id, tree, object_id}
use Rattle.text_model.specs.Cuts.{cut_of}
use Rattle.git_model.specs.Tree.{Directory, TreeEntry, tree_entry_text, tree_text}
use Rattle.git_model.specs.Object.{Object, object_of}
use Rattle.git_model.specs.Unfold.{FileRow}
use Rattle.git_model.specs.Shape.{leaf_of}
use Rattle.text_model.proofs.Options.{some_is}
use Rattle.tree_shape.proofs.Rows.{deep, in-is}
use Rattle.tree_shape.specs.Shapes.{short, is_in, shorts, entries_in, trees_in, id_of_rows, trees_of_rows}
use Rattle.tree_shape.specs.Wholes.{Sound, tree_leaves}
use Rattle.tree_rebuild.specs.Entries.{met_text, IsDirectoryNext, IsIdNext}
use Rattle.tree_rebuild.specs.News.{same_leaves, new_row}
use Rattle.tree_shape.proofs.Turns.{count-within, group-turn, file-turn, text-turn, trees-turn, none-depth, empty-id, none-left}
use Rattle.tree_shape.proofs.Unfolding.{text-none}
use Rattle.tree_rebuild.proofs.NewSteps.{new_entries, group-some, group-new, row-new, none-rows, finish-new}
use Rattle.tree_rebuild.proofs.Kept.{Added, added-none, added-start, added-turn, finish-over}
use Rattle.tree_rebuild.proofs.SameSteps.{Has, is-group}
use Rattle.tree_rebuild.proofs.Beside.{IsBuilt, group-built}
use Rattle.tree_rebuild.proofs.Turning.{Left, left-of, met-none, over-zero, some-shorts, none-is, leaf-step, directory-step, same-end, kept-new, made-new, result-same, result-id, result-made, result-new}
use Rattle.tree_rebuild.proofs.over.+put_rows_over.Goals as goal

pub returns-then-levels-eq0-clause-id : goal.returns-then-levels-eq0-clause-id
returns-then-levels-eq0-clause-id g t c =
    let is : c.args.levels ≡ 0 = c.if-levels-eq0.true in
    let none = none-depth (shorts c.args.skip c.args.rows.now) in
    c.object_id.ensures ∙ sym (ap (λ (d : ℕ). id_of_rows d (shorts c.args.skip c.args.rows.now)) is ∙ none.0 ∙ empty-id)

pub returns-then-levels-eq0-clause-made : goal.returns-then-levels-eq0-clause-made
returns-then-levels-eq0-clause-made g t c =
    let known = g.G.Objects.objects c.args.store.now in
    let is : c.args.levels ≡ 0 = c.if-levels-eq0.true in
    let none = none-depth (shorts c.args.skip c.args.rows.now) in
    added-none known c.args.made.now (trees_of_rows c.args.levels (shorts c.args.skip c.args.rows.now))
    (subst (λ (os : List Object). Each (λ o. In o known) os) (sym (ap (λ (d : ℕ). trees_of_rows d (shorts c.args.skip c.args.rows.now)) is ∙ none.1)) tt)

pub returns-then-levels-eq0-clause-new : goal.returns-then-levels-eq0-clause-new
returns-then-levels-eq0-clause-new g t c =
    sym (ap (λ (os : List Object). c.args.made.now ++ os) (over-zero c.args.levels (tree_leaves (g.G.Objects.objects c.args.store.now) c.args.levels c.args.old.now) (map leaf_of (shorts c.args.skip c.args.rows.now)) c.if-levels-eq0.true) ∙ append-nil c.args.made.now)

pub names-init : goal.names-init
names-init g t c =
    let known = g.G.Objects.objects c.args.store.now in
    let met = met-none c.new-entries.result.differs c.new-entries.result.place c.new-entries.result.text.items c.entries-old_entries.result.now c.new-entries.ensures.differs c.new-entries.ensures.place c.new-entries.ensures.text in
    record {
      good = c.requires.good;
      within = omega (arith, c.new-entries.ensures.place);
      text = ap (λ (b : Bytes). b ++ tree_text (entries_in (c.args.levels - 1) (map leaf_of (shorts c.args.skip c.args.rows.now)))) met;
      same = (λ k. not (c.new-entries.ensures.differs k) && Has known (c.args.levels - 1) c.args.skip (drop (c.new-entries.ensures.place k) (c.entries-old_entries.ensures.entries k)) c.args.rows.now);
      made = added-start known c.args.made.now (trees_in (c.args.levels - 1) (map leaf_of (shorts c.args.skip c.args.rows.now)));
      new = refl;
    }

pub split_at-requires : goal.split_at-requires
split_at-requires g t c = count-within c.in-Some-cut_beside.name.now c.args.skip c.group_len-count.result c.names.rest.now c.group_len-count.ensures

pub put_rows_over-requires : goal.put_rows_over-requires
put_rows_over-requires g t c κs within = (
  omega (arith, c.if-levels-eq0.false, c.decreases),
  (
    within,
    (
      (group-turn (c.args.levels - 1) c.args.skip c.in-Some-cut_beside.name.now c.in-Some-cut_beside.field-0-1.now c.names.rest.now c.split_at.result.0.now c.split_at.result.1.now c.in-Some.first.now c.group_len-count.result
          c.in-Some.ensures.value (c.in-Some-cut_beside.ensures ∙ ap (cut_of 47) c.rest_of.ensures.rest) c.group_len-count.ensures c.split_at.ensures.front c.split_at.ensures.back c.names.invariant.good).good_front,
      (c.find_subtree-below.ensures.whole c.args.levels c.requires.old, c.requires.objects),
    ),
  ),
)

pub names-smaller-in-Some-cut_beside : goal.names-smaller-in-Some-cut_beside
names-smaller-in-Some-cut_beside g t c =
    (group-turn (c.args.levels - 1) c.args.skip c.in-Some-cut_beside.name.now c.in-Some-cut_beside.field-0-1.now c.names.rest.now c.split_at.result.0.now c.split_at.result.1.now c.in-Some.first.now c.group_len-count.result
    c.in-Some.ensures.value (c.in-Some-cut_beside.ensures ∙ ap (cut_of 47) c.rest_of.ensures.rest) c.group_len-count.ensures c.split_at.ensures.front c.split_at.ensures.back c.names.invariant.good).less

pub names-preserved-in-Some-cut_beside : goal.names-preserved-in-Some-cut_beside
names-preserved-in-Some-cut_beside g t c =
    let known = g.G.Objects.objects c.args.store.now in
    let es = c.entries-old_entries.result.now in
    let name = c.in-Some-cut_beside.name.now in
    let front = c.split_at.result.0.now in
    let back = c.split_at.result.1.now in
    let rest = c.names.rest.now in
    let first = c.in-Some.first.now in
    let cut = c.in-Some-cut_beside.ensures ∙ ap (cut_of 47) c.rest_of.ensures.rest in
    let group = shorts (c.args.skip + length name + 1) front in
    let below = c.find_subtree-below.result.tree.now in
    let held = c.find_subtree-below.result.id in
    let outcome = c.in_ok-outcome-in-Some-cut_beside.outcome in
    let depth = c.args.levels - 1 in
    let old = tree_leaves known c.args.levels c.args.old.now in
    let some : 0 < length front = group-some c.args.skip name c.in-Some-cut_beside.field-0-1.now rest front first c.group_len-count.result c.in-Some.ensures.value cut c.group_len-count.ensures c.split_at.ensures.front in
    let turn = group-turn depth c.args.skip name c.in-Some-cut_beside.field-0-1.now rest front back first c.group_len-count.result
    c.in-Some.ensures.value cut c.group_len-count.ensures c.split_at.ensures.front c.split_at.ensures.back c.names.invariant.good in
    let has = c.find_subtree-below.ensures.group c.args.levels (c.args.skip + length name + 1) front c.requires.old some in
    let built : IsBuilt known depth old name group (unwrap_or outcome held) c.names.made c.put_rows_over.new.made =
    group-built known depth old name below held group c.names.made c.put_rows_over.new.made outcome c.requires.objects has (c.find_subtree-below.ensures.leaves c.args.levels c.requires.old)
    (c.find_subtree-below.ensures.held c.args.levels c.requires.old) (some-shorts (c.args.skip + length name + 1) front some)
    c.in_ok-outcome-in-Some-cut_beside.ensures.same c.in_ok-outcome-in-Some-cut_beside.ensures.id c.in_ok-outcome-in-Some-cut_beside.ensures.made c.in_ok-outcome-in-Some-cut_beside.ensures.new in
    let left : Left known depth (drop c.names.entries.place es) = left-of known c.args.levels es c.args.old.now c.names.entries.place c.entries-old_entries.ensures.entries c.entries-old_entries.ensures.tree c.requires.old in
    let next : IsDirectoryNext name (drop c.names.entries.place es) → IsIdNext held (drop c.names.entries.place es) × Sound known depth held below =
    subst (λ (l : List TreeEntry). IsDirectoryNext name (drop c.names.entries.place l) → IsIdNext held (drop c.names.entries.place l) × Sound known depth held below) (sym c.entries-old_entries.ensures.entries) (c.find_subtree-below.ensures.next c.args.levels c.requires.old) in
    let same = same_leaves (tree_leaves known depth below) (map leaf_of group) in
    let kept = c.in_ok-put_directory-in-Some-cut_beside.ensures.same in
    let other = c.in_ok-put_directory-in-Some-cut_beside.ensures.other in
    record {
      good = turn.good_back;
      within = c.in_ok-put_directory-in-Some-cut_beside.ensures.within;
      text = text-turn (met_text c.names.entries.differs c.names.entries.place c.names.entries.text.items es) _ _ _ _ _ c.names.invariant.text turn.entries
          (c.in_ok-put_directory-in-Some-cut_beside.ensures.text
          ∙ ap (λ (i : Id). met_text c.names.entries.differs c.names.entries.place c.names.entries.text.items es ++ tree_entry_text (record { mode = Directory; name = name; id = i })) (c.unwrap_or-id.ensures ∙ built.is));
      same = directory-step known depth c.args.skip es name c.in-Some-cut_beside.field-0-1.now first rest front back below held c.names.entries.differs c.put_directory.new.self.differs c.names.entries.place c.put_directory.new.self.place _ c.is_none.result outcome
          (none-is outcome c.is_none.result c.is_none.ensures) c.in-Some.ensures.value cut (is-group c.args.skip name rest front back c.group_len-count.result c.group_len-count.ensures c.split_at.ensures.front c.split_at.ensures.back) some left next
          c.in_ok-outcome-in-Some-cut_beside.ensures.same kept other c.names.invariant.same;
      made = added-turn known c.args.made.now c.names.made c.put_rows_over.new.made _ _ _ _ c.names.invariant.made turn.trees built.added;
      new = trees-turn c.names.made c.put_rows_over.new.made c.args.made.now _ _ _ _ c.names.invariant.new
          (group-new depth old c.args.skip name c.in-Some-cut_beside.field-0-1.now rest front back first c.group_len-count.result
          c.in-Some.ensures.value cut c.group_len-count.ensures c.split_at.ensures.front c.split_at.ensures.back c.names.invariant.good)
          built.fresh;
    }

pub names-preserved : goal.names-preserved
names-preserved g t c =
    let known = g.G.Objects.objects c.args.store.now in
    let es = c.entries-old_entries.result.now in
    let cut = c.in-None.ensures ∙ ap (cut_of 47) c.rest_of.ensures.rest in
    let turn = file-turn (c.args.levels - 1) c.args.skip c.names.rest.now c.split_at-in-None.result.1.now c.in-Some.first.now
    c.in-Some.ensures.value cut c.split_at-in-None.ensures.back c.names.invariant.good in
    let left : Left known (c.args.levels - 1) (drop c.names.entries.place es) = left-of known c.args.levels es c.args.old.now c.names.entries.place c.entries-old_entries.ensures.entries c.entries-old_entries.ensures.tree c.requires.old in
    record {
      good = turn.good_back;
      within = c.in_ok-put_leaf-in-None.ensures.within;
      text = text-turn (met_text c.names.entries.differs c.names.entries.place c.names.entries.text.items es) _ _ _ _ _ c.names.invariant.text turn.entries
          (c.in_ok-put_leaf-in-None.ensures.text
          ∙ ap (λ (b : Bytes). met_text c.names.entries.differs c.names.entries.place c.names.entries.text.items es ++ tree_entry_text (record { mode = c.in-Some.first.now.mode; name = b; id = c.in-Some.first.now.id })) c.rest_of-name.ensures.rest);
      same = leaf-step known (c.args.levels - 1) c.args.skip es c.rest_of-name.result.now c.in-Some.first.now c.names.rest.now c.split_at-in-None.result.1.now c.names.entries.differs c.put_leaf.new.self.differs c.names.entries.place c.put_leaf.new.self.place _
          c.in-Some.ensures.value cut c.rest_of-name.ensures.rest c.split_at-in-None.ensures.back left c.in_ok-put_leaf-in-None.ensures.same c.in_ok-put_leaf-in-None.ensures.other c.names.invariant.same;
      made = added-turn known c.args.made.now c.names.made c.put_row.new.made _ _ _ _ c.names.invariant.made turn.trees c.in_ok-put_row-in-None.ensures.made;
      new = trees-turn c.names.made c.put_row.new.made c.args.made.now _ _ _ _ c.names.invariant.new
          (row-new (c.args.levels - 1) (tree_leaves known c.args.levels c.args.old.now) c.args.skip c.names.rest.now c.split_at-in-None.result.1.now c.in-Some.first.now
          c.in-Some.ensures.value cut c.split_at-in-None.ensures.back c.names.invariant.good)
          (c.in_ok-put_row-in-None.ensures.new c.args.levels ∙ ap (λ (name : Bytes). c.names.made ++ new_row (c.args.levels - 1) (tree_leaves known c.args.levels c.args.old.now) name c.in-Some.first.now) c.rest_of-name.ensures.rest);
    }

pub returns-clause-same : goal.returns-clause-same
returns-clause-same g t c =
    let known = g.G.Objects.objects c.args.store.now in
    let es = c.entries-old_entries.result.now in
    let entries = c.names.entries in
    let end : c.names.rest.now ≡ [] = none-left c.names.rest.now c.in_default.ensures.value in
    let left : Left known (c.args.levels - 1) (drop entries.place es) = left-of known c.args.levels es c.args.old.now entries.place c.entries-old_entries.ensures.entries c.entries-old_entries.ensures.tree c.requires.old in
    let same = same-end known c.args.levels c.args.skip es c.names.rest.now entries.differs entries.place _ left c.names.invariant.within end c.names.invariant.same in
    IfOk-weaker c.finish.result _ _ (λ id h. result-same id (not entries.differs && (entries.place == length es)) _ c.args.levels _ same h) c.finish.ensures.tree

pub returns-clause-id : goal.returns-clause-id
returns-clause-id g t c =
    let known = g.G.Objects.objects c.args.store.now in
    let es = c.entries-old_entries.result.now in
    let entries = c.names.entries in
    let end : c.names.rest.now ≡ [] = none-left c.names.rest.now c.in_default.ensures.value in
    let text = met_text entries.differs entries.place entries.text.items es in
    let all : text ≡ tree_text (entries_in (c.args.levels - 1) (map leaf_of (shorts c.args.skip c.args.rows.now))) =
    sym (ap (λ (r : List FileRow). text ++ tree_text (entries_in (c.args.levels - 1) (map leaf_of (shorts c.args.skip r)))) end ∙ ap (λ (b : Bytes). text ++ b) text-none ∙ append-nil text) ∙ c.names.invariant.text in
    let made = subst (λ (r : List FileRow). Added known c.args.made.now c.names.made (trees_in (c.args.levels - 1) (map leaf_of (shorts c.args.skip r))) (trees_in (c.args.levels - 1) (map leaf_of (shorts c.args.skip c.args.rows.now)))) end c.names.invariant.made in
    IfOk-weaker c.finish.result _ _
    (λ id h. result-id id (not entries.differs && (entries.place == length es)) _ _ h
    (λ x q. (finish-over known c.args.levels (shorts c.args.skip c.args.rows.now) text c.names.made c.args.made.now (c.names.made ++ object_of tree text ∷ []) x c.requires.good (omega (arith, c.if-levels-eq0.false)) all made (q, refl)).0))
    c.finish.ensures.tree

pub returns-clause-made : goal.returns-clause-made
returns-clause-made g t c =
    let known = g.G.Objects.objects c.args.store.now in
    let es = c.entries-old_entries.result.now in
    let entries = c.names.entries in
    let end : c.names.rest.now ≡ [] = none-left c.names.rest.now c.in_default.ensures.value in
    let text = met_text entries.differs entries.place entries.text.items es in
    let all : text ≡ tree_text (entries_in (c.args.levels - 1) (map leaf_of (shorts c.args.skip c.args.rows.now))) =
    sym (ap (λ (r : List FileRow). text ++ tree_text (entries_in (c.args.levels - 1) (map leaf_of (shorts c.args.skip r)))) end ∙ ap (λ (b : Bytes). text ++ b) text-none ∙ append-nil text) ∙ c.names.invariant.text in
    let made = subst (λ (r : List FileRow). Added known c.args.made.now c.names.made (trees_in (c.args.levels - 1) (map leaf_of (shorts c.args.skip r))) (trees_in (c.args.levels - 1) (map leaf_of (shorts c.args.skip c.args.rows.now)))) end c.names.invariant.made in
    IfOk-weaker c.finish.result _ _
    (λ id h. result-made id _ _ _ h
    (λ q. (finish-over known c.args.levels (shorts c.args.skip c.args.rows.now) text c.names.made c.args.made.now c.finish.new.made (object_id tree text) c.requires.good (omega (arith, c.if-levels-eq0.false)) all made (refl, q)).1))
    c.finish.ensures.made

pub returns-clause-new : goal.returns-clause-new
returns-clause-new g t c =
    let known = g.G.Objects.objects c.args.store.now in
    let es = c.entries-old_entries.result.now in
    let entries = c.names.entries in
    let end : c.names.rest.now ≡ [] = none-left c.names.rest.now c.in_default.ensures.value in
    let left : Left known (c.args.levels - 1) (drop entries.place es) = left-of known c.args.levels es c.args.old.now entries.place c.entries-old_entries.ensures.entries c.entries-old_entries.ensures.tree c.requires.old in
    let same = same-end known c.args.levels c.args.skip es c.names.rest.now entries.differs entries.place _ left c.names.invariant.within end c.names.invariant.same in
    let text = met_text entries.differs entries.place entries.text.items es in
    let all : text ≡ tree_text (entries_in (c.args.levels - 1) (map leaf_of (shorts c.args.skip c.args.rows.now))) =
    sym (ap (λ (r : List FileRow). text ++ tree_text (entries_in (c.args.levels - 1) (map leaf_of (shorts c.args.skip r)))) end ∙ ap (λ (b : Bytes). text ++ b) text-none ∙ append-nil text) ∙ c.names.invariant.text in
    let old = tree_leaves known c.args.levels c.args.old.now in
    let rows = map leaf_of (shorts c.args.skip c.args.rows.now) in
    let none : c.names.made ++ new_entries (c.args.levels - 1) old [] ≡ c.args.made.now ++ new_entries (c.args.levels - 1) old rows =
    ap (λ (r : List FileRow). c.names.made ++ new_entries (c.args.levels - 1) old (map leaf_of (shorts c.args.skip r))) (sym end) ∙ c.names.invariant.new in
    result-new c.finish.result (not entries.differs && (entries.place == length es)) _ _ _ _ c.finish.ensures.tree c.finish.ensures.made
    (λ w q. q ∙ kept-new (c.args.levels - 1) c.args.levels old rows c.names.made c.args.made.now (sym same ∙ w) none)
    (λ w q. made-new c.args.levels old rows c.finish.new.made c.args.made.now (sym same ∙ w)
    (finish-new c.args.levels old (shorts c.args.skip c.args.rows.now) text c.names.made c.args.made.now c.finish.new.made (object_id tree text) c.requires.good (omega (arith, c.if-levels-eq0.false)) all
    (none-rows (c.args.levels - 1) old c.names.made c.args.made.now (new_entries (c.args.levels - 1) old rows) none) (refl, q)))

pub group_len-count-requires-clause-plain : goal.group_len-count-requires-clause-plain
group_len-count-requires-clause-plain g t c = (deep _ c.in-Some-cut_beside.name.now c.in-Some-cut_beside.field-0-1.now (sym (c.in-Some-cut_beside.ensures ∙ ap (cut_of 47) c.rest_of.ensures.rest))).plain

pub group_len-count-requires-clause-first : goal.group_len-count-requires-clause-first
group_len-count-requires-clause-first g t c = λ first at.
    let is : c.in-Some.first.now ≡ first = some_is {x = c.in-Some.first.now} {y = first} (c.in-Some.ensures.value ∙ at) in
    let d = deep _ c.in-Some-cut_beside.name.now c.in-Some-cut_beside.field-0-1.now (sym (c.in-Some-cut_beside.ensures ∙ ap (cut_of 47) c.rest_of.ensures.rest)) in
    subst (λ (r : FileRow). is_in c.in-Some-cut_beside.name.now (short c.args.skip r) ≡ true) is (in-is c.in-Some-cut_beside.name.now c.in-Some-cut_beside.field-0-1.now (short c.args.skip c.in-Some.first.now) d.plain d.is)
