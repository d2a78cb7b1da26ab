use Rattle.std.proofs.Common.{◌∙◌, ◌++◌, ◌∷◌, [], Err, ap}
use Rattle.std.proofs.lemmas.Result.{err_from_is_err_and}
use Rattle.text_model.specs.Id.{node_id}
use Rattle.make_model.specs.History.{made_parents, made_history}
use Rattle.make_history.specs.Made.{numbers_value}
use Rattle.make_history.specs.Drafts.{next_rows}
use Rattle.make_history.proofs.NextLemmas.{next_of, next-collides, next-made, next-refused}
use Rattle.make_history.proofs.PartLemmas.{over, draft-is, drafted-rows, next-asked, next-loose, next-lines}
use Rattle.make_history.proofs.add.add_next.Goals as goal

pub make_draft-requires-clause-over : goal.make_draft-requires-clause-over
make_draft-requires-clause-over c =
    let m = c.requires.made in
    let before = made_history m.0 c.args.number in
    let nodes = c.as_slice.ensures ∙ (m.1).nodes in (
      made_parents c.args.numbers.now.parents before,
      over m.0 c.args.number c.args.history.now m.1 c.requires.few c.args.numbers.now.parents _ _ (c.parents_behind-p1.ensures.first before nodes) (c.parents_behind-p1.ensures.second before nodes),
    )

pub add_changeset-requires-clause-asked : goal.add_changeset-requires-clause-asked
add_changeset-requires-clause-asked c =
    let m = c.requires.made in
    let n = c.args.number in
    let h = c.args.history.now in
    let y = numbers_value c.args.numbers.now in
    let d = c.in_ok-draft.field-0.draft in
    let before = made_history m.0 n in
    let nodes = c.as_slice.ensures ∙ (m.1).nodes in
    let first = c.parents_behind-p1.ensures.first before nodes in
    let second = c.parents_behind-p1.ensures.second before nodes in
    let is = draft-is m.0 n h m.1 c.requires.few d y _ _ first second c.in_ok-draft.ensures.draft c.in_ok-draft.ensures.fresh c.in_ok-draft.ensures.unknown in
    (h.store, next_of m.0 n, next-asked m.0 n h m.1 c.requires.few d y m.2 is _ _ _ _ c.in_ok-text.ensures first second (c.node_id-node.ensures ∙ ap (node_id c.parents_behind-p1.result.0 c.parents_behind-p1.result.1) c.as_slice-2.ensures))

pub add_changeset-requires-clause-lines : goal.add_changeset-requires-clause-lines
add_changeset-requires-clause-lines c =
    let m = c.requires.made in
    let n = c.args.number in
    let h = c.args.history.now in
    let y = numbers_value c.args.numbers.now in
    let d = c.in_ok-draft.field-0.draft in
    let before = made_history m.0 n in
    let ps = made_parents y.parents before in
    let nodes = c.as_slice.ensures ∙ (m.1).nodes in
    let first = c.parents_behind-p1.ensures.first before nodes in
    let second = c.parents_behind-p1.ensures.second before nodes in
    let is = draft-is m.0 n h m.1 c.requires.few d y _ _ first second c.in_ok-draft.ensures.draft c.in_ok-draft.ensures.fresh c.in_ok-draft.ensures.unknown in
    next-lines _ d.rows (next_rows ps y n) (c.in_ok-draft.ensures.lines ps (over m.0 n h m.1 c.requires.few y.parents _ _ first second)) (drafted-rows h.store d before y n is)

pub returns-in_err-add_changeset-clause-fault : goal.returns-in_err-add_changeset-clause-fault
returns-in_err-add_changeset-clause-fault c =
    let e = err_from_is_err_and c.from_residual-in_err-add_changeset.result c.from_residual-in_err-add_changeset.ensures.1 in
    let n = c.args.number in
    let h = c.args.history.now in
    let y = numbers_value c.args.numbers.now in
    let d = c.in_ok-draft.field-0.draft in
    rw (e.1, e.2) (λ seed made value.
    let before = made_history seed n in
    let nodes = c.as_slice.ensures ∙ made.nodes in
    let first = c.parents_behind-p1.ensures.first before nodes in
    let second = c.parents_behind-p1.ensures.second before nodes in
    let is = draft-is seed n h made c.requires.few d y _ _ first second c.in_ok-draft.ensures.draft c.in_ok-draft.ensures.fresh c.in_ok-draft.ensures.unknown in
    let asked = next-asked seed n h made c.requires.few d y value is _ _ _ _ c.in_ok-text.ensures first second (c.node_id-node.ensures ∙ ap (node_id c.parents_behind-p1.result.0 c.parents_behind-p1.result.1) c.as_slice-2.ensures) in
    next-refused seed n c.in_err-add_changeset.field-0.0 (λ bad. next-collides seed n h.store made.came (c.in_err-add_changeset.ensures.collision (λ i. Err (bad i)) h.store (next_of seed n) asked)))

pub returns-clause-ok : goal.returns-clause-ok
returns-clause-ok c = λ seed made value.
    let n = c.args.number in
    let h = c.args.history.now in
    let y = numbers_value c.args.numbers.now in
    let d = c.in_ok-draft.field-0.draft in
    let before = made_history seed n in
    let nodes = c.as_slice.ensures ∙ made.nodes in
    let first = c.parents_behind-p1.ensures.first before nodes in
    let second = c.parents_behind-p1.ensures.second before nodes in
    let is = draft-is seed n h made c.requires.few d y _ _ first second c.in_ok-draft.ensures.draft c.in_ok-draft.ensures.fresh c.in_ok-draft.ensures.unknown in
    let asked = next-asked seed n h made c.requires.few d y value is _ _ _ _ c.in_ok-text.ensures first second (c.node_id-node.ensures ∙ ap (node_id c.parents_behind-p1.result.0 c.parents_behind-p1.result.1) c.as_slice-2.ensures) in
    next-made seed n h (record { store = c.add_changeset.new.hg; nodes = c.push.new.self }) made (next-loose seed n h made c.requires.few d y value is)
    (c.in_ok-add_changeset.ensures.ok h.store (next_of seed n) asked) c.in_ok-add_changeset.ensures.added (c.in_ok-push.ensures.ok ∙ ap (λ x. h.nodes ++ x ∷ []) asked.node_is)
