use Rattle.std.proofs.Common.{◌≡◌, ◌≤◌, ◌++◌, List, length, Ok, Err, inl, refl, sym, ap, subst, ◌∙◌}
use Rattle.std.proofs.lemmas.Result.{err_from_is_err_and}
use Rattle.text_model.specs.Lists.{Each}
use Rattle.text_model.specs.Text.{Bytes}
use Rattle.text_model.specs.Id.{Id}
use Rattle.git_model.specs.Object.{Object}
use Rattle.git_model.specs.Stream.{Placed, stream_reading}
use Rattle.tree_shape.specs.Laws.{IsKnown}
use Rattle.view_model.specs.Held.{AreChangesetsHeld}
use Rattle.pair_model.specs.Block.{Block, changesets_in}
use Rattle.history_model.specs.Pull.{IsCommitRefusal}
use Rattle.pull_outcome.specs.declared.pulled.GitPulled.{GitPulled}
use Rattle.pull_outcome.specs.declared.refused.PullFault.TheVariants.{Memory}
use Rattle.pull_outcome.specs.Pulls.{PulledGit, RefusesGit}
use Rattle.pull_outcome.specs.Refused.{IsRefusedBy}
use Rattle.pull_outcome.specs.Steps.{StepsGit}
use Rattle.pair_state.specs.AllBlocks.{HasAllBlocks, state_value}
use Rattle.pull_stream.specs.Ready.{LacksParent}
use Rattle.pull_stream.proofs.Counts.{so-many, asked-git, all-taken}
use Rattle.pull_stream.proofs.Pulls.{over-all, some-map, if-any, judged-cause, read-refused, order-refused, commit-refused, held-nodes, count-is, count-within, goes-on, accepted}
use Rattle.pull_stream.proofs.pull.pull_git.Goals as goal

pub returns-clause-history : goal.returns-clause-history
returns-clause-history g c = rw (sym c.into_parts-parts.ensures.parts) c.into_parts-parts.ensures.history

pub order_commits-requires : goal.order_commits-requires
order_commits-requires g c =
    let blocks = c.into_parts-parts.ensures.history.0 in
    let r = c.in_ok-parts.ensures.ready blocks c.into_parts-parts.ensures.history.1 in
    record { ready = (state_value c.into_parts-parts.result blocks, r.0, r.1) }

pub take_commits-requires : goal.take_commits-requires
take_commits-requires g c =
    let blocks = c.into_parts-parts.ensures.history.0 in
    let m = state_value c.into_parts-parts.result blocks in
    let r = c.in_ok-parts.ensures.ready blocks c.into_parts-parts.ensures.history.1 in
    record { order = (m, r.0, c.in_ok-ordered.ensures.order m r.0 r.1) }

pub write-requires : goal.write-requires
write-requires g c =
    let blocks = c.into_parts-parts.ensures.history.0 in
    let all = c.into_parts-parts.ensures.history.1 in
    let r = c.in_ok-parts.ensures.ready blocks all in
    let t = c.in_ok-parts-2.ensures.ok (state_value c.into_parts-parts.result blocks) r.0 (c.in_ok-ordered.ensures.order (state_value c.into_parts-parts.result blocks) r.0 r.1) in
    let next = c.in_ok-parts-2.parts in
    let list = sym c.as_list-list.ensures in
    let saved = c.len-saved.ensures ∙ ap length c.as_list.ensures in
    record {
      from = subst (λ (ids : List Id). c.len-saved.result ≤ length ids) list (count-within c.into_parts-parts.result next blocks t.0 c.len-saved.result all.state t.1.state.state saved);
      held = (changesets_in (blocks ++ t.0), subst (λ (ids : List Id). AreChangesetsHeld next.known.hg ids (changesets_in (blocks ++ t.0))) list (held-nodes next (blocks ++ t.0) t.1.state.state));
    }

pub returns-in_err-parts-clause-refused : goal.returns-in_err-parts-clause-refused
returns-in_err-parts-clause-refused g c =
    let p = err_from_is_err_and c.from_residual.result c.from_residual.ensures.1 in
    let e = c.in_err-parts.field-0.0 in
    let s = c.into_parts-parts.result in
    rw (p.1, p.2, sym c.into_parts-parts.ensures.parts)
    (over-all s (g.S.Source.left c.args.src.now) (λ (blocks : List Block) (bytes : Bytes). RefusesGit s blocks bytes e) (λ blocks all.
    some-map (g.S.Source.left c.args.src.now) (λ (bytes : Bytes). IsRefusedBy (λ why. stream_reading s.known.git bytes ≡ Err why) e) (λ (bytes : Bytes). RefusesGit s blocks bytes e)
    (λ bytes h. read-refused s blocks bytes e h) c.in_err-parts.ensures.refused))

pub returns-in_err-parts-clause-cause : goal.returns-in_err-parts-clause-cause
returns-in_err-parts-clause-cause g c =
    let p = err_from_is_err_and c.from_residual.result c.from_residual.ensures.1 in
    rw (p.1, p.2) c.in_err-parts.ensures.cause

pub returns-in_err-ordered-clause-refused : goal.returns-in_err-ordered-clause-refused
returns-in_err-ordered-clause-refused g c =
    let p = err_from_is_err_and c.from_residual-in_err-ordered.result c.from_residual-in_err-ordered.ensures.1 in
    let e = c.in_err-ordered.field-0.0 in
    let s = c.into_parts-parts.result in
    rw (p.1, p.2, sym c.into_parts-parts.ensures.parts)
    (over-all s (g.S.Source.left c.args.src.now) (λ (blocks : List Block) (bytes : Bytes). RefusesGit s blocks bytes e) (λ blocks all.
    let r = c.in_ok-parts.ensures.ready blocks all in
    some-map (g.S.Source.left c.args.src.now) (λ (bytes : Bytes). stream_reading s.known.git bytes ≡ Ok r.0) (λ (bytes : Bytes). RefusesGit s blocks bytes e)
    (λ bytes reads. order-refused s blocks r.0 bytes e (c.in_err-ordered.ensures.stuck (state_value s blocks) r.0 r.1) reads) r.2))

pub returns-in_err-ordered-clause-cause : goal.returns-in_err-ordered-clause-cause
returns-in_err-ordered-clause-cause g c =
    let p = err_from_is_err_and c.from_residual-in_err-ordered.result c.from_residual-in_err-ordered.ensures.1 in
    let m = state_value c.into_parts-parts.result c.into_parts-parts.ensures.history.0 in
    let r = c.in_ok-parts.ensures.ready c.into_parts-parts.ensures.history.0 c.into_parts-parts.ensures.history.1 in
    rw (p.1, p.2) (judged-cause (LacksParent m r.0) c.in_err-ordered.field-0.0 _ _ c.in_ok-parts.ensures.cause (c.in_err-ordered.ensures.stuck m r.0 r.1))

pub returns-in_err-parts-2-clause-refused : goal.returns-in_err-parts-2-clause-refused
returns-in_err-parts-2-clause-refused g c =
    let p = err_from_is_err_and c.from_residual-in_err-parts-2.result c.from_residual-in_err-parts-2.ensures.1 in
    let e = c.in_err-parts-2.field-0.0 in
    let s = c.into_parts-parts.result in
    rw (p.1, p.2, sym c.into_parts-parts.ensures.parts)
    (over-all s (g.S.Source.left c.args.src.now) (λ (blocks : List Block) (bytes : Bytes). RefusesGit s blocks bytes e) (λ blocks all.
    let r = c.in_ok-parts.ensures.ready blocks all in
    let o = c.in_ok-ordered.ensures.order (state_value s blocks) r.0 r.1 in
    some-map (g.S.Source.left c.args.src.now) (λ (bytes : Bytes). stream_reading s.known.git bytes ≡ Ok r.0) (λ (bytes : Bytes). RefusesGit s blocks bytes e)
    (λ bytes reads. commit-refused s blocks r.0 c.in_ok-parts.parts c.in_ok-parts.came c.in_ok-ordered.ordered o bytes e (c.in_err-parts-2.ensures.refused (state_value s blocks) r.0 o) reads) r.2))

pub returns-in_err-parts-2-clause-cause : goal.returns-in_err-parts-2-clause-cause
returns-in_err-parts-2-clause-cause g c =
    let p = err_from_is_err_and c.from_residual-in_err-parts-2.result c.from_residual-in_err-parts-2.ensures.1 in
    let m = state_value c.into_parts-parts.result c.into_parts-parts.ensures.history.0 in
    let r = c.in_ok-parts.ensures.ready c.into_parts-parts.ensures.history.0 c.into_parts-parts.ensures.history.1 in
    let o = c.in_ok-ordered.ensures.order m r.0 r.1 in
    rw (p.1, p.2) (judged-cause (IsCommitRefusal m r.0 c.in_ok-ordered.ordered) c.in_err-parts-2.field-0.0 _ _ c.in_ok-parts.ensures.cause (c.in_err-parts-2.ensures.refused m r.0 o))

pub returns-clause-pulled : goal.returns-clause-pulled
returns-clause-pulled g c =
    let s = c.into_parts-parts.result in
    let p : GitPulled = record { state = c.in_ok-parts-2.parts; arrivals = c.in_ok-parts.came; first_new = c.len-first_new.result; made = c.in_ok-made.made } in
    rw (c.from_parts.ensures, sym c.into_parts-parts.ensures.parts)
    (over-all s (g.S.Source.left c.args.src.now) (λ (blocks : List Block) (bytes : Bytes). PulledGit s blocks bytes p) (λ blocks all.
    let r = c.in_ok-parts.ensures.ready blocks all in
    let o = c.in_ok-ordered.ensures.order (state_value s blocks) r.0 r.1 in
    let t = c.in_ok-parts-2.ensures.ok (state_value s blocks) r.0 o in
    let count = count-is s blocks c.len-first_new.result all.state c.len-first_new.ensures in
    let saved = c.len-saved.ensures ∙ ap length c.as_list.ensures in
    let held = subst (λ (ids : List Id). AreChangesetsHeld p.state.known.hg ids (changesets_in (blocks ++ t.0))) (sym c.as_list-list.ensures) (held-nodes p.state (blocks ++ t.0) t.1.state.state) in
    let made = c.in_ok-made.ensures (changesets_in (blocks ++ t.0)) held in
    some-map (g.S.Source.left c.args.src.now) (λ (bytes : Bytes). stream_reading s.known.git bytes ≡ Ok r.0) (λ (bytes : Bytes). PulledGit s blocks bytes p)
    (λ bytes reads. accepted s blocks all c.in_ok-parts.parts c.in_ok-parts.came c.in_ok-ordered.ordered r.0 o p refl t.0 t.1 count c.len-saved.result saved made bytes reads) r.2))

pub returns-clause-next : goal.returns-clause-next
returns-clause-next g c =
    let s = c.into_parts-parts.result in
    let p : GitPulled = record { state = c.in_ok-parts-2.parts; arrivals = c.in_ok-parts.came; first_new = c.len-first_new.result; made = c.in_ok-made.made } in
    rw (c.from_parts.ensures, sym c.into_parts-parts.ensures.parts)
    (λ blocks all.
    let r = c.in_ok-parts.ensures.ready blocks all in
    let o = c.in_ok-ordered.ensures.order (state_value s blocks) r.0 r.1 in
    let t = c.in_ok-parts-2.ensures.ok (state_value s blocks) r.0 o in
    let count = count-is s blocks c.len-first_new.result all.state c.len-first_new.ensures in
    let saved = c.len-saved.ensures ∙ ap length c.as_list.ensures in
    let held = subst (λ (ids : List Id). AreChangesetsHeld p.state.known.hg ids (changesets_in (blocks ++ t.0))) (sym c.as_list-list.ensures) (held-nodes p.state (blocks ++ t.0) t.1.state.state) in
    let made = c.in_ok-made.ensures (changesets_in (blocks ++ t.0)) held in
    goes-on s blocks all c.in_ok-parts.parts c.in_ok-parts.came c.in_ok-ordered.ordered r.0 o p refl t.0 t.1 count c.len-saved.result saved made c.in_ok-parts.ensures.tags c.in_ok-parts.ensures.names)

pub returns-clause-held : goal.returns-clause-held
returns-clause-held g c =
    let m = state_value c.into_parts-parts.result c.into_parts-parts.ensures.history.0 in
    let r = c.in_ok-parts.ensures.ready c.into_parts-parts.ensures.history.0 c.into_parts-parts.ensures.history.1 in
    let t = c.in_ok-parts-2.ensures.ok m r.0 (c.in_ok-ordered.ensures.order m r.0 r.1) in
    rw (c.from_parts.ensures)
    (r.0, r.1.listed, subst (λ (os : List Object). Each (λ (o : Placed). IsKnown os o.object) r.0) (sym t.1.objects) r.1.held)

pub from_parts-requires : goal.from_parts-requires
from_parts-requires g c =
    let s = c.into_parts-parts.result in
    let blocks = c.into_parts-parts.ensures.history.0 in
    let r = c.in_ok-parts.ensures.ready blocks c.into_parts-parts.ensures.history.1 in
    let o = c.in_ok-ordered.ensures.order (state_value s blocks) r.0 r.1 in
    let t = c.in_ok-parts-2.ensures.ok (state_value s blocks) r.0 o in
    record { history = (blocks ++ t.0, t.1.state) }

pub returns-in_err-made-clause-refused : goal.returns-in_err-made-clause-refused
returns-in_err-made-clause-refused g c =
    let p = err_from_is_err_and c.from_residual-in_err-made.result c.from_residual-in_err-made.ensures.1 in
    let s = c.into_parts-parts.result in
    rw (p.1, p.2, sym c.into_parts-parts.ensures.parts)
    (over-all s (g.S.Source.left c.args.src.now) (λ (blocks : List Block) (bytes : Bytes). RefusesGit s blocks bytes Memory) (λ blocks all.
    let r = c.in_ok-parts.ensures.ready blocks all in
    some-map (g.S.Source.left c.args.src.now) (λ (bytes : Bytes). stream_reading s.known.git bytes ≡ Ok r.0) (λ (bytes : Bytes). RefusesGit s blocks bytes Memory) (λ bytes reads. tt) r.2))

pub returns-in_err-made-clause-cause : goal.returns-in_err-made-clause-cause
returns-in_err-made-clause-cause g c =
    let p = err_from_is_err_and c.from_residual-in_err-made.result c.from_residual-in_err-made.ensures.1 in
    rw (p.1, p.2) c.in_ok-parts.ensures.cause

pub returns-in_err-parts-clause-names : goal.returns-in_err-parts-clause-names
returns-in_err-parts-clause-names g c =
    let p = err_from_is_err_and c.from_residual.result c.from_residual.ensures.1 in
    rw (p.1, p.2) c.in_err-parts.ensures.fault_names

pub returns-in_err-ordered-clause-names : goal.returns-in_err-ordered-clause-names
returns-in_err-ordered-clause-names g c =
    let p = err_from_is_err_and c.from_residual-in_err-ordered.result c.from_residual-in_err-ordered.ensures.1 in
    rw (p.1, p.2) c.in_err-ordered.ensures.names

pub returns-in_err-parts-2-clause-names : goal.returns-in_err-parts-2-clause-names
returns-in_err-parts-2-clause-names g c =
    let p = err_from_is_err_and c.from_residual-in_err-parts-2.result c.from_residual-in_err-parts-2.ensures.1 in
    rw (p.1, p.2) c.in_err-parts-2.ensures.names

pub returns-in_err-made-clause-names : goal.returns-in_err-made-clause-names
returns-in_err-made-clause-names g c =
    let p = err_from_is_err_and c.from_residual-in_err-made.result c.from_residual-in_err-made.ensures.1 in
    rw (p.1, p.2) tt

-- ---- steps

pub returns-clause-steps : goal.returns-clause-steps
returns-clause-steps g c =
    let s = c.into_parts-parts.result in
    let blocks = c.into_parts-parts.ensures.history.0 in
    let all = c.into_parts-parts.ensures.history.1 in
    let r = c.in_ok-parts.ensures.ready blocks all in
    let o = c.in_ok-ordered.ensures.order (state_value s blocks) r.0 r.1 in
    let t = c.in_ok-parts-2.ensures.ok (state_value s blocks) r.0 o in
    rw c.from_parts.ensures
    (so-many s blocks c.in_ok-parts.parts c.in_ok-parts-2.parts c.in_ok-ordered.ordered t.0 c.len-first_new.result c.args.steps.now _ t.1 (count-is s blocks c.len-first_new.result all.state c.len-first_new.ensures) c.in_ok-parts-2.ensures.steps)

pub returns-in_err-parts-clause-asked : goal.returns-in_err-parts-clause-asked
returns-in_err-parts-clause-asked g c =
    let p = err_from_is_err_and c.from_residual.result c.from_residual.ensures.1 in
    let n = c.args.steps.now in
    rw p.1
    (if-any (g.S.Source.left c.args.src.now) (λ (bytes : Bytes). (blocks : List Block) → HasAllBlocks c.args.state blocks → StepsGit (state_value c.args.state blocks) bytes n n) (λ bytes blocks all. inl refl))

pub returns-in_err-ordered-clause-asked : goal.returns-in_err-ordered-clause-asked
returns-in_err-ordered-clause-asked g c =
    let p = err_from_is_err_and c.from_residual-in_err-ordered.result c.from_residual-in_err-ordered.ensures.1 in
    let n = c.args.steps.now in
    rw p.1
    (if-any (g.S.Source.left c.args.src.now) (λ (bytes : Bytes). (blocks : List Block) → HasAllBlocks c.args.state blocks → StepsGit (state_value c.args.state blocks) bytes n n) (λ bytes blocks all. inl refl))

pub returns-in_err-parts-2-clause-asked : goal.returns-in_err-parts-2-clause-asked
returns-in_err-parts-2-clause-asked g c =
    let p = err_from_is_err_and c.from_residual-in_err-parts-2.result c.from_residual-in_err-parts-2.ensures.1 in
    let s = c.into_parts-parts.result in
    let before = c.args.steps.now in
    let now = c.take_commits.new.steps in
    rw (p.1, sym c.into_parts-parts.ensures.parts)
    (over-all s (g.S.Source.left c.args.src.now) (λ (blocks : List Block) (bytes : Bytes). StepsGit (state_value s blocks) bytes before now) (λ blocks all.
    let r = c.in_ok-parts.ensures.ready blocks all in
    let o = c.in_ok-ordered.ensures.order (state_value s blocks) r.0 r.1 in
    some-map (g.S.Source.left c.args.src.now) (λ (bytes : Bytes). stream_reading s.known.git bytes ≡ Ok r.0) (λ (bytes : Bytes). StepsGit (state_value s blocks) bytes before now)
    (λ bytes reads. asked-git s blocks c.in_ok-parts.parts c.in_ok-parts.came c.in_ok-ordered.ordered r.0 o bytes before now reads (c.in_err-parts-2.ensures.asked (state_value s blocks) r.0 o)) r.2))

pub returns-in_err-made-clause-asked : goal.returns-in_err-made-clause-asked
returns-in_err-made-clause-asked g c =
    let p = err_from_is_err_and c.from_residual-in_err-made.result c.from_residual-in_err-made.ensures.1 in
    let s = c.into_parts-parts.result in
    let before = c.args.steps.now in
    let now = c.take_commits.new.steps in
    rw (p.1, sym c.into_parts-parts.ensures.parts)
    (over-all s (g.S.Source.left c.args.src.now) (λ (blocks : List Block) (bytes : Bytes). StepsGit (state_value s blocks) bytes before now) (λ blocks all.
    let r = c.in_ok-parts.ensures.ready blocks all in
    let o = c.in_ok-ordered.ensures.order (state_value s blocks) r.0 r.1 in
    let t = c.in_ok-parts-2.ensures.ok (state_value s blocks) r.0 o in
    some-map (g.S.Source.left c.args.src.now) (λ (bytes : Bytes). stream_reading s.known.git bytes ≡ Ok r.0) (λ (bytes : Bytes). StepsGit (state_value s blocks) bytes before now)
    (λ bytes reads. asked-git s blocks c.in_ok-parts.parts c.in_ok-parts.came c.in_ok-ordered.ordered r.0 o bytes before now reads
    (all-taken c.in_ok-parts.parts c.in_ok-parts-2.parts (state_value s blocks) c.in_ok-ordered.ordered t.0 before now t.1 c.in_ok-parts-2.ensures.steps)) r.2))
