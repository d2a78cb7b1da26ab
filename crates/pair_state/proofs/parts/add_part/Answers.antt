use Rattle.std.proofs.Common.{Err, sym, ap, ◌∙◌}
use Rattle.std.proofs.lemmas.Result.{err_from_is_err_and}
use Rattle.text_model.specs.Id.{node_id}
use Rattle.pair_state.proofs.GrowthLemmas.{errs}
use Rattle.pair_state.proofs.PartLemmas.{is-node, asked, one-came, one-saved, one-bad}
use Rattle.pair_state.proofs.parts.add_part.Goals as goal

pub returns-then-contains-clause-collision : goal.returns-then-contains-clause-collision
returns-then-contains-clause-collision c = λ _ base k a.
    let d = c.args.d.now in
    let hash = c.node_id-node.ensures ∙ ap (node_id d.p1 d.p2) c.as_slice.ensures in
    one-saved base c.args.hg.now d k a c.in_ok-text.text c.node_id-node.result c.in_ok-text.ensures hash c.args.saved.now (sym c.contains.ensures ∙ c.if-contains.true)

pub add_changeset-requires : goal.add_changeset-requires
add_changeset-requires c =
    let d = c.args.d.now in
    let base = c.requires.part.0 in
    let k = c.requires.part.1 in
    let hash = c.node_id-node.ensures ∙ ap (node_id d.p1 d.p2) c.as_slice.ensures in
    record { asked = (base, k, asked base c.args.hg.now d k c.requires.part.2 c.in_ok-text.text c.node_id-node.result c.in_ok-text.ensures hash); lines = c.requires.texts.manifest }

pub returns-in_err-add_changeset-clause-collision : goal.returns-in_err-add_changeset-clause-collision
returns-in_err-add_changeset-clause-collision c = λ is base k a.
    let d = c.args.d.now in
    let hash = c.node_id-node.ensures ∙ ap (node_id d.p1 d.p2) c.as_slice.ensures in
    let q = err_from_is_err_and c.from_residual-in_err-add_changeset.result c.from_residual-in_err-add_changeset.ensures.1 in
    one-bad base c.args.hg.now d k a c.in_ok-text.text c.node_id-node.result c.in_ok-text.ensures hash c.args.saved.now
    (c.in_err-add_changeset.ensures.collision (errs _ _ (ap Err (sym q.2) ∙ sym q.1 ∙ is)) base k (asked base c.args.hg.now d k a c.in_ok-text.text c.node_id-node.result c.in_ok-text.ensures hash))

pub returns-clause-node : goal.returns-clause-node
returns-clause-node c = λ base k a.
    let d = c.args.d.now in
    let hash = c.node_id-node.ensures ∙ ap (node_id d.p1 d.p2) c.as_slice.ensures in
    is-node base c.args.hg.now d k a c.in_ok-text.text c.node_id-node.result c.in_ok-text.ensures hash

pub returns-clause-came : goal.returns-clause-came
returns-clause-came c = λ base k a.
    let d = c.args.d.now in
    let hash = c.node_id-node.ensures ∙ ap (node_id d.p1 d.p2) c.as_slice.ensures in
    one-came base c.args.hg.now d k a c.in_ok-text.text c.node_id-node.result c.in_ok-text.ensures hash c.args.saved.now c.add_changeset.new.hg
    (c.in_ok-add_changeset.ensures.ok base k (asked base c.args.hg.now d k a c.in_ok-text.text c.node_id-node.result c.in_ok-text.ensures hash)) (sym c.contains.ensures ∙ c.if-contains.false)
