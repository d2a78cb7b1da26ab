use Rattle.std.proofs.Common.{List, ◌∷◌, [], ◌++◌, Err, sym, ap, subst, ◌∙◌}
use Rattle.std.specs.Prelude.{is_some}
use Rattle.std.proofs.lemmas.Result.{err_from_is_err_and}
use Rattle.text_model.specs.Id.{Id, commit, object_id}
use Rattle.text_model.proofs.Options.{none_is}
use Rattle.git_model.specs.Object.{Object, knows_object}
use Rattle.pair_model.specs.Block.{block_of_id}
use Rattle.pair_known.specs.Partners.{hg_at}
use Rattle.git_store.specs.Growth.{HasGrown, Clash}
use Rattle.pair_state.specs.Step.{IsPushed}
use Rattle.pair_state.proofs.BlockLemmas.{hg-some}
use Rattle.pair_state.proofs.GrowthLemmas.{errs}
use Rattle.pair_state.proofs.MadeCommit.{right-blobs, right-trees, right-commit, id-is, own-is}
use Rattle.pair_state.proofs.PushChangeset.{whole-parts, few-nodes, node-free}
use Rattle.pair_state.proofs.PartLemmas.{no-texts}
use Rattle.pair_state.proofs.PushBlock.{with_all, parts-collide, commit-saved, objects-clash, body-collides, asked, agreed-there, known-of, pushed}
use Rattle.pair_state.proofs.state_parts.StateParts.put.Goals as goal

pub returns-then-is_some-clause-collision : goal.returns-then-is_some-clause-collision
returns-then-is_some-clause-collision c = λ _ blocks b p.
    let s = c.args.self.now in
    let hash = c.object_id-id.ensures ∙ ap (object_id commit) c.as_slice.ensures in
    let id = id-is s.known.git c.args.commit b.commit p.made c.in_ok-text.text c.in_ok-text.ensures c.object_id-id.result hash in
    commit-saved s c.args.block.now c.args.commit blocks b p
    (ap (λ (i : Id). is_some (block_of_id blocks i)) (sym id) ∙ sym (hg-some s.known blocks p.brings.state.held c.object_id-id.result) ∙ sym (ap is_some c.hg_of.ensures.partner) ∙ sym c.is_some.ensures ∙ c.if-is_some.true)

pub add_parts-requires : goal.add_parts-requires
add_parts-requires c =
    let b = c.requires.block.1 in
    record {
      parts = (c.requires.block.0, b.links, b.changeset, whole-parts c.args.self.now c.args.block.now c.requires.block.0 b (c.requires.block.2).brings);
      texts = no-texts c.args.block.now.last c.none.result c.none.ensures.changeset c.none.ensures.manifest;
    }

pub returns-in_err-nodes-clause-collision : goal.returns-in_err-nodes-clause-collision
returns-in_err-nodes-clause-collision c = λ is blocks b p.
    let s = c.args.self.now in
    let q = err_from_is_err_and c.from_residual-in_err-nodes.result c.from_residual-in_err-nodes.ensures.1 in
    parts-collide s c.args.block.now c.args.commit blocks b p
    (c.in_err-nodes.ensures.collision (errs _ _ (ap Err (sym q.2) ∙ sym q.1 ∙ is)) blocks b.links b.changeset (whole-parts s c.args.block.now blocks b p.brings))

pub add_commit-requires-clause-blobs : goal.add_commit-requires-clause-blobs
add_commit-requires-clause-blobs c = right-blobs c.args.self.now.known.git c.args.commit (c.requires.block.1).commit (c.requires.block.2).made

pub add_commit-requires-clause-trees : goal.add_commit-requires-clause-trees
add_commit-requires-clause-trees c = right-trees c.args.self.now.known.git c.args.commit (c.requires.block.1).commit (c.requires.block.2).made

pub add_commit-requires-clause-fits : goal.add_commit-requires-clause-fits
add_commit-requires-clause-fits c = right-commit c.args.self.now.known.git c.args.commit (c.requires.block.1).commit (c.requires.block.2).made c.in_ok-text.text c.in_ok-text.ensures

pub returns-in_err-add_commit-clause-collision : goal.returns-in_err-add_commit-clause-collision
returns-in_err-add_commit-clause-collision c = λ is blocks b p.
    let s = c.args.self.now in
    let hash = c.object_id-id.ensures ∙ ap (object_id commit) c.as_slice.ensures in
    let q = err_from_is_err_and c.from_residual-in_err-add_commit.result c.from_residual-in_err-add_commit.ensures.1 in
    let same = own-is s.known.git c.args.commit b.commit p.made c.in_ok-text.text c.in_ok-text.ensures c.object_id-id.result hash in
    objects-clash s c.args.block.now c.args.commit blocks b p
    (subst (λ (o : Object). Clash s.known.git (c.args.commit.fresh ++ c.args.commit.trees ++ o ∷ [])) same (c.in_err-add_commit.ensures.collision (errs _ _ (ap Err (sym q.2) ∙ sym q.1 ∙ is))))

pub have_bodies-agreed-requires-clause-held : goal.have_bodies-agreed-requires-clause-held
have_bodies-agreed-requires-clause-held c =
    let blocks = c.requires.block.0 in
    let b = c.requires.block.1 in
    let p = c.requires.block.2 in
    let s = c.args.self.now in
    let hash = c.object_id-id.ensures ∙ ap (object_id commit) c.as_slice.ensures in
    let same = own-is s.known.git c.args.commit b.commit p.made c.in_ok-text.text c.in_ok-text.ensures c.object_id-id.result hash in
    let grown = subst (λ (o : Object). HasGrown s.known.git c.add_commit.new.git (c.args.commit.fresh ++ c.args.commit.trees ++ o ∷ [])) same c.in_ok-add_commit.ensures.ok in
    let came = c.in_ok-nodes.ensures.came blocks b.links b.changeset (whole-parts s c.args.block.now blocks b p.brings) in
    (b.changeset, asked s c.args.block.now c.args.commit blocks b p c.add_parts.new.hg came c.add_commit.new.git grown c.in_ok-nodes.nodes.last (c.in_ok-nodes.ensures.last blocks b.links b.changeset (whole-parts s c.args.block.now blocks b p.brings)))

pub have_bodies-agreed-requires-clause-agreed : goal.have_bodies-agreed-requires-clause-agreed
have_bodies-agreed-requires-clause-agreed c =
    let blocks = c.requires.block.0 in
    let b = c.requires.block.1 in
    let p = c.requires.block.2 in
    let s = c.args.self.now in
    let hash = c.object_id-id.ensures ∙ ap (object_id commit) c.as_slice.ensures in
    let same = own-is s.known.git c.args.commit b.commit p.made c.in_ok-text.text c.in_ok-text.ensures c.object_id-id.result hash in
    let grown = subst (λ (o : Object). HasGrown s.known.git c.add_commit.new.git (c.args.commit.fresh ++ c.args.commit.trees ++ o ∷ [])) same c.in_ok-add_commit.ensures.ok in
    let came = c.in_ok-nodes.ensures.came blocks b.links b.changeset (whole-parts s c.args.block.now blocks b p.brings) in
    agreed-there s c.args.block.now c.args.commit blocks b p c.add_parts.new.hg came c.add_commit.new.git grown

pub returns-in_err-check_bodies-clause-collision : goal.returns-in_err-check_bodies-clause-collision
returns-in_err-check_bodies-clause-collision c = λ is blocks b p.
    let s = c.args.self.now in
    let hash = c.object_id-id.ensures ∙ ap (object_id commit) c.as_slice.ensures in
    let same = own-is s.known.git c.args.commit b.commit p.made c.in_ok-text.text c.in_ok-text.ensures c.object_id-id.result hash in
    let id = id-is s.known.git c.args.commit b.commit p.made c.in_ok-text.text c.in_ok-text.ensures c.object_id-id.result hash in
    let grown = subst (λ (o : Object). HasGrown s.known.git c.add_commit.new.git (c.args.commit.fresh ++ c.args.commit.trees ++ o ∷ [])) same c.in_ok-add_commit.ensures.ok in
    let came = c.in_ok-nodes.ensures.came blocks b.links b.changeset (whole-parts s c.args.block.now blocks b p.brings) in
    let q = err_from_is_err_and c.from_residual-in_err-check_bodies.result c.from_residual-in_err-check_bodies.ensures.1 in
    let no = c.in_err-check_bodies.ensures.collision (errs _ _ (ap Err (sym q.2) ∙ sym q.1 ∙ is)) in
    body-collides s c.args.block.now c.args.commit blocks b p c.add_parts.new.hg came c.add_commit.new.git grown
    (ap (knows_object s.known.git) (sym id) ∙ sym c.is_stored-stored.ensures ∙ no.1)
    (c.have_bodies-agreed.ensures.otherwise no.0 b.changeset (asked s c.args.block.now c.args.commit blocks b p c.add_parts.new.hg came c.add_commit.new.git grown c.in_ok-nodes.nodes.last (c.in_ok-nodes.ensures.last blocks b.links b.changeset (whole-parts s c.args.block.now blocks b p.brings))))

pub insert-requires-clause-few : goal.insert-requires-clause-few
insert-requires-clause-few c =
    let s = c.args.self.now in
    let blocks = c.requires.block.0 in
    let b = c.requires.block.1 in
    let p = c.requires.block.2 in
    few-nodes s c.args.block.now blocks b p.brings c.as_slice-2.result.now (c.as_slice-2.ensures ∙ c.in_ok-nodes.ensures.links blocks b.links b.changeset (whole-parts s c.args.block.now blocks b p.brings))

pub insert-requires-clause-node_is_free : goal.insert-requires-clause-node_is_free
insert-requires-clause-node_is_free c =
    let s = c.args.self.now in
    let blocks = c.requires.block.0 in
    let b = c.requires.block.1 in
    let p = c.requires.block.2 in
    let of = whole-parts s c.args.block.now blocks b p.brings in
    node-free s c.args.block.now blocks b p.brings c.add_parts.new.hg (c.in_ok-nodes.ensures.came blocks b.links b.changeset of) c.in_ok-nodes.nodes.last (c.in_ok-nodes.ensures.last blocks b.links b.changeset of)

pub returns-clause-ok : goal.returns-clause-ok
returns-clause-ok c = λ blocks b p.
    let s = c.args.self.now in
    let hash = c.object_id-id.ensures ∙ ap (object_id commit) c.as_slice.ensures in
    let same = own-is s.known.git c.args.commit b.commit p.made c.in_ok-text.text c.in_ok-text.ensures c.object_id-id.result hash in
    let id = id-is s.known.git c.args.commit b.commit p.made c.in_ok-text.text c.in_ok-text.ensures c.object_id-id.result hash in
    let grown = subst (λ (o : Object). HasGrown s.known.git c.add_commit.new.git (c.args.commit.fresh ++ c.args.commit.trees ++ o ∷ [])) same c.in_ok-add_commit.ensures.ok in
    let of = whole-parts s c.args.block.now blocks b p.brings in
    let came = c.in_ok-nodes.ensures.came blocks b.links b.changeset of in
    let free = none_is (block_of_id blocks _) (ap (λ (i : Id). is_some (block_of_id blocks i)) (sym id) ∙ sym (hg-some s.known blocks p.brings.state.held c.object_id-id.result) ∙ sym (ap is_some c.hg_of.ensures.partner) ∙ sym c.is_some.ensures ∙ c.if-is_some.false) in
    pushed s c.args.block.now c.args.commit blocks b p c.add_parts.new.hg came c.add_commit.new.git grown p.brings.state.sound c.in_ok-add_commit.ensures.sound
    c.have_bodies-agreed.result (λ e. c.have_bodies-agreed.ensures.yes e b.changeset (asked s c.args.block.now c.args.commit blocks b p c.add_parts.new.hg came c.add_commit.new.git grown c.in_ok-nodes.nodes.last (c.in_ok-nodes.ensures.last blocks b.links b.changeset (whole-parts s c.args.block.now blocks b p.brings))))
    (known-of c.have_bodies-agreed.result s.known.git c.is_stored-stored.result c.object_id-id.result _ id c.is_stored-stored.ensures c.in_ok-check_bodies.ensures.ok)
    free c.in_ok-nodes.nodes.links (c.in_ok-nodes.ensures.links blocks b.links b.changeset of) c.in_ok-nodes.nodes.last (c.in_ok-nodes.ensures.last blocks b.links b.changeset of)
    c.object_id-id.result id c.put_where.new.set c.in_ok-put_where.ensures c.in_ok-nodes.ensures.added c.insert.new.self
    (subst (λ (ids : List Id). IsPushed (with_all s c.add_parts.new.hg c.add_commit.new.git c.put_where.new.set) c.insert.new.self ids c.in_ok-nodes.nodes.last c.object_id-id.result) c.as_slice-2.ensures c.in_ok-insert.ensures)

pub add_commit-requires-clause-its_id : goal.add_commit-requires-clause-its_id
add_commit-requires-clause-its_id c = sym (c.object_id-id.ensures ∙ ap (object_id commit) c.as_slice.ensures)

pub insert-requires-clause-id_is_free : goal.insert-requires-clause-id_is_free
insert-requires-clause-id_is_free c = none_is (hg_at c.args.self.now.known.partners c.object_id-id.result) (ap is_some (sym c.hg_of.ensures.partner) ∙ sym c.is_some.ensures ∙ c.if-is_some.false)
