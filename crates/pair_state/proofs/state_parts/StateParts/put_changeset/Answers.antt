use Rattle.std.proofs.Common.{List, Err, sym, ap, subst, ◌∙◌}
use Rattle.std.specs.Prelude.{is_some}
use Rattle.std.proofs.lemmas.Result.{err_from_is_err_and}
use Rattle.text_model.specs.Id.{Id}
use Rattle.text_model.proofs.Options.{none_is}
use Rattle.git_view.proofs.Held.{held-id}
use Rattle.pair_known.specs.Partners.{hg_at}
use Rattle.pair_state.specs.Step.{AreItsTexts, IsPushed}
use Rattle.pair_state.proofs.BlockLemmas.{hg-some}
use Rattle.pair_state.proofs.GrowthLemmas.{errs}
use Rattle.pair_state.proofs.PushChangeset.{bare, parts, its-texts, collides, with_revisions, few-nodes, node-free, pushed}
use Rattle.pair_state.proofs.state_parts.StateParts.put_changeset.Goals as goal

pub add_parts-requires : goal.add_parts-requires
add_parts-requires c =
    let s = c.args.self.now in
    let blocks = c.requires.block.0 in
    let b = c.requires.block.1 in
    let p = (c.requires.block.2).brings in
    record {
      parts = (blocks, b.links, b.changeset, parts s c.args.block blocks b p c.replace-texts.new.dest c.none.result c.replace-texts.ensures.after c.none.ensures.changeset c.none.ensures.manifest);
      texts = subst (AreItsTexts (bare s c.args.block blocks b p c.replace-texts.new.dest).last) (sym c.replace-texts.ensures.value) (its-texts s c.args.block blocks b p c.replace-texts.new.dest);
    }

pub returns-in_err-nodes-clause-collision : goal.returns-in_err-nodes-clause-collision
returns-in_err-nodes-clause-collision c = λ is blocks b p.
    let s = c.args.self.now in
    let q = err_from_is_err_and c.from_residual.result c.from_residual.ensures.1 in
    collides s c.args.block blocks b p.brings (c.in_err-nodes.ensures.collision (errs _ _ (ap Err (sym q.2) ∙ sym q.1 ∙ is)) blocks b.links b.changeset (parts s c.args.block blocks b p.brings c.replace-texts.new.dest c.none.result c.replace-texts.ensures.after c.none.ensures.changeset c.none.ensures.manifest))

pub insert-requires-clause-few : goal.insert-requires-clause-few
insert-requires-clause-few c =
    let s = c.args.self.now in
    let blocks = c.requires.block.0 in
    let b = c.requires.block.1 in
    let p = c.requires.block.2 in
    let of = parts s c.args.block blocks b p.brings c.replace-texts.new.dest c.none.result c.replace-texts.ensures.after c.none.ensures.changeset c.none.ensures.manifest in
    few-nodes s c.args.block blocks b p.brings c.as_slice.result.now (c.as_slice.ensures ∙ c.in_ok-nodes.ensures.links blocks b.links b.changeset of)

pub insert-requires-clause-node_is_free : goal.insert-requires-clause-node_is_free
insert-requires-clause-node_is_free c =
    let s = c.args.self.now in
    let blocks = c.requires.block.0 in
    let b = c.requires.block.1 in
    let p = c.requires.block.2 in
    let of = parts s c.args.block blocks b p.brings c.replace-texts.new.dest c.none.result c.replace-texts.ensures.after c.none.ensures.changeset c.none.ensures.manifest in
    node-free s c.args.block blocks b p.brings c.add_parts.new.hg (c.in_ok-nodes.ensures.came blocks b.links b.changeset of) c.in_ok-nodes.nodes.last (c.in_ok-nodes.ensures.last blocks b.links b.changeset of)

pub insert-requires-clause-id_is_free : goal.insert-requires-clause-id_is_free
insert-requires-clause-id_is_free c =
    let s = c.args.self.now in
    let p = c.requires.block.2 in
    none_is (hg_at s.known.partners c.args.id) (hg-some s.known c.requires.block.0 p.brings.state.held c.args.id ∙ ap is_some p.free)

pub returns-clause-ok : goal.returns-clause-ok
returns-clause-ok c = λ blocks b p.
    let s = c.args.self.now in
    let d = c.args.block in
    let of = parts s d blocks b p.brings c.replace-texts.new.dest c.none.result c.replace-texts.ensures.after c.none.ensures.changeset c.none.ensures.manifest in
    pushed s d blocks b p.brings c.add_parts.new.hg (c.in_ok-nodes.ensures.came blocks b.links b.changeset of) c.args.id p.held p.walks (held-id s.known.git p.brings.state.sound c.args.id b.commit p.held)
    c.in_ok-nodes.nodes.links (c.in_ok-nodes.ensures.links blocks b.links b.changeset of) c.in_ok-nodes.nodes.last (c.in_ok-nodes.ensures.last blocks b.links b.changeset of) c.in_ok-nodes.ensures.added c.insert.new.self
    (subst (λ (ids : List Id). IsPushed (with_revisions s d blocks b p.brings c.add_parts.new.hg) c.insert.new.self ids c.in_ok-nodes.nodes.last c.args.id) c.as_slice.ensures c.in_ok-insert.ensures)
