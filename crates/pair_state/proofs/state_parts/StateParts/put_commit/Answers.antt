use Rattle.std.proofs.Common.{List, ◌∷◌, [], ◌++◌, Err, sym, ap, subst, ◌∙◌}
use Rattle.std.specs.Prelude.{is_some}
use Rattle.std.specs.List.{list_any}
use Rattle.std.proofs.lemmas.Result.{err_from_is_err_and}
use Rattle.text_model.specs.Id.{Id, commit, object_id, has_id}
use Rattle.text_model.proofs.Options.{none_is}
use Rattle.git_model.specs.Object.{Object}
use Rattle.hg_view.proofs.Right.{held-node}
use Rattle.pair_model.specs.Block.{block_of_id}
use Rattle.pair_known.specs.Partners.{git_at}
use Rattle.git_store.specs.Growth.{HasGrown, Clash}
use Rattle.pair_state.specs.Step.{IsPushed}
use Rattle.pair_state.proofs.BlockLemmas.{git-some, hg-some}
use Rattle.pair_state.proofs.GrowthLemmas.{errs}
use Rattle.pair_state.proofs.KeptLemmas.{agreed-blobs}
use Rattle.pair_state.proofs.MadeCommit.{inserted, with_objects, right-blobs, right-trees, right-commit, id-is, own-is}
use Rattle.pair_state.proofs.PushCommit.{saved-collides, partner-collides, parts-collide, body-collides, asked, pushed}
use Rattle.pair_state.proofs.state_parts.StateParts.put_commit.Goals as goal

pub returns-then-contains_any-clause-collision : goal.returns-then-contains_any-clause-collision
returns-then-contains_any-clause-collision c = λ _ blocks b p.
    let s = c.args.self.now in
    saved-collides s c.args.h.now c.args.links.now c.args.commit c.args.node blocks b p (sym (ap (list_any (has_id s.changesets)) c.as_slice.ensures) ∙ sym c.contains_any.ensures ∙ c.if-contains_any.true)

pub returns-then-is_some-clause-collision : goal.returns-then-is_some-clause-collision
returns-then-is_some-clause-collision c = λ _ blocks b p.
    let s = c.args.self.now in
    let hash = c.object_id-id.ensures ∙ ap (object_id commit) c.as_slice-2.ensures in
    let id = id-is s.known.git c.args.commit b.commit p.ruled.made c.in_ok-text.text c.in_ok-text.ensures c.object_id-id.result hash in
    partner-collides s c.args.h.now c.args.links.now c.args.commit c.args.node blocks b p
    (ap (λ (i : Id). is_some (block_of_id blocks i)) (sym id) ∙ sym (hg-some s.known blocks p.state.held c.object_id-id.result) ∙ sym (ap is_some c.hg_of.ensures.partner) ∙ sym c.is_some.ensures ∙ c.if-is_some.true)

pub add_commit-requires-clause-blobs : goal.add_commit-requires-clause-blobs
add_commit-requires-clause-blobs c = right-blobs c.args.self.now.known.git c.args.commit (c.requires.block.1).commit (c.requires.block.2).ruled.made

pub add_commit-requires-clause-trees : goal.add_commit-requires-clause-trees
add_commit-requires-clause-trees c = right-trees c.args.self.now.known.git c.args.commit (c.requires.block.1).commit (c.requires.block.2).ruled.made

pub add_commit-requires-clause-fits : goal.add_commit-requires-clause-fits
add_commit-requires-clause-fits c =
    right-commit c.args.self.now.known.git c.args.commit (c.requires.block.1).commit (c.requires.block.2).ruled.made c.in_ok-text.text c.in_ok-text.ensures

pub returns-in_err-add_commit-clause-collision : goal.returns-in_err-add_commit-clause-collision
returns-in_err-add_commit-clause-collision c = λ is blocks b p.
    let s = c.args.self.now in
    let hash = c.object_id-id.ensures ∙ ap (object_id commit) c.as_slice-2.ensures in
    let q = err_from_is_err_and c.from_residual-in_err-add_commit.result c.from_residual-in_err-add_commit.ensures.1 in
    let same = own-is s.known.git c.args.commit b.commit p.ruled.made c.in_ok-text.text c.in_ok-text.ensures c.object_id-id.result hash in
    parts-collide s c.args.h.now c.args.links.now c.args.commit c.args.node blocks b p
    (subst (λ (o : Object). Clash s.known.git (c.args.commit.fresh ++ c.args.commit.trees ++ o ∷ [])) same (c.in_err-add_commit.ensures.collision (errs _ _ (ap Err (sym q.2) ∙ sym q.1 ∙ is))))

pub have_bodies-requires-clause-held : goal.have_bodies-requires-clause-held
have_bodies-requires-clause-held c =
    let s = c.args.self.now in
    let hash = c.object_id-id.ensures ∙ ap (object_id commit) c.as_slice-2.ensures in
    let b = c.requires.block.1 in
    let same = own-is s.known.git c.args.commit b.commit (c.requires.block.2).ruled.made c.in_ok-text.text c.in_ok-text.ensures c.object_id-id.result hash in
    let grown = subst (λ (o : Object). HasGrown s.known.git c.add_commit.new.git (c.args.commit.fresh ++ c.args.commit.trees ++ o ∷ [])) same c.in_ok-add_commit.ensures.ok in
    (b.changeset, asked s c.args.h.now c.args.links.now c.args.commit c.args.node c.requires.block.0 b c.requires.block.2 c.add_commit.new.git grown)

pub have_bodies-requires-clause-agreed : goal.have_bodies-requires-clause-agreed
have_bodies-requires-clause-agreed c =
    let s = c.args.self.now in
    agreed-blobs s.known.hg s.known.git c.add_commit.new.git c.in_ok-add_commit.ensures.ok.kept s.agreed (c.requires.block.2).state.agreed

pub returns-then-not-have_bodies-clause-collision : goal.returns-then-not-have_bodies-clause-collision
returns-then-not-have_bodies-clause-collision c = λ _ blocks b p.
    let s = c.args.self.now in
    let hash = c.object_id-id.ensures ∙ ap (object_id commit) c.as_slice-2.ensures in
    let same = own-is s.known.git c.args.commit b.commit p.ruled.made c.in_ok-text.text c.in_ok-text.ensures c.object_id-id.result hash in
    let grown = subst (λ (o : Object). HasGrown s.known.git c.add_commit.new.git (c.args.commit.fresh ++ c.args.commit.trees ++ o ∷ [])) same c.in_ok-add_commit.ensures.ok in
    body-collides s c.args.h.now c.args.links.now c.args.commit c.args.node blocks b p c.add_commit.new.git grown
    (c.have_bodies.ensures.otherwise c.if-not-have_bodies.true b.changeset (asked s c.args.h.now c.args.links.now c.args.commit c.args.node blocks b p c.add_commit.new.git grown))

pub insert-requires-2-clause-node_is_free : goal.insert-requires-2-clause-node_is_free
insert-requires-2-clause-node_is_free c =
    let s = c.args.self.now in
    let p = c.requires.block.2 in
    none_is (git_at s.known.partners c.args.node) (git-some s.known c.requires.block.0 p.state.held c.args.node ∙ ap is_some p.free)

pub returns-clause-ok : goal.returns-clause-ok
returns-clause-ok c = λ blocks b p.
    let s = c.args.self.now in
    let hash = c.object_id-id.ensures ∙ ap (object_id commit) c.as_slice-2.ensures in
    let same = own-is s.known.git c.args.commit b.commit p.ruled.made c.in_ok-text.text c.in_ok-text.ensures c.object_id-id.result hash in
    let grown = subst (λ (o : Object). HasGrown s.known.git c.add_commit.new.git (c.args.commit.fresh ++ c.args.commit.trees ++ o ∷ [])) same c.in_ok-add_commit.ensures.ok in
    let id = id-is s.known.git c.args.commit b.commit p.ruled.made c.in_ok-text.text c.in_ok-text.ensures c.object_id-id.result hash in
    let free = none_is (block_of_id blocks _) (ap (λ (i : Id). is_some (block_of_id blocks i)) (sym id) ∙ sym (hg-some s.known blocks p.state.held c.object_id-id.result) ∙ sym (ap is_some c.hg_of.ensures.partner) ∙ sym c.is_some.ensures ∙ c.if-is_some.false) in
    let apart = sym (ap (list_any (has_id s.changesets)) c.as_slice.ensures) ∙ sym c.contains_any.ensures ∙ c.if-contains_any.false in
    pushed s c.args.h.now c.args.links.now c.args.commit c.args.node blocks b p c.add_commit.new.git grown p.state.sound c.in_ok-add_commit.ensures.sound
    (c.have_bodies.ensures.yes c.if-not-have_bodies.false b.changeset (asked s c.args.h.now c.args.links.now c.args.commit c.args.node blocks b p c.add_commit.new.git grown))
    (held-node s.known.hg p.state.held.added c.args.node b.changeset p.held) free apart c.object_id-id.result id
    c.insert.new.self (inserted c.insert.new.self s.agreed c.args.node c.in_ok-insert.field-0 c.in_ok-insert.ensures.ok)
    c.insert-2.new.self (subst (λ (ids : List Id). IsPushed (with_objects s c.add_commit.new.git c.insert.new.self) c.insert-2.new.self ids c.args.node c.object_id-id.result) c.as_slice-3.ensures c.in_ok-insert-2.ensures)
