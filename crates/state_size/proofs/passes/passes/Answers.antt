use Rattle.std.proofs.Common.{◌≡◌, ◌<◌, List, length, take, sym, ap, ◌∙◌, arith}
use Rattle.std.proofs.lemmas.List.{length-take-le}
use Rattle.pair_model.specs.Block.{changesets_in, commits_in}
use Rattle.pair_state.specs.declared.blocks.Block.{Block}
use Rattle.git_dump.specs.Walks.{objects_of}
use Rattle.state_size.specs.Sizes.{count_of, is_stream_large}
use Rattle.state_text.proofs.Written.{objects-are}
use Rattle.state_size.proofs.Objects.{at-take}
use Rattle.state_size.proofs.Prefixes.{count-within, front-held, front-nodes, earlier-front, front-walkable}
use Rattle.state_size.proofs.Limits.{has-many, has-large-bundle, is-stream}
use Rattle.state_size.proofs.Written.{ok-each}
use Rattle.state_size.proofs.passes.passes.Goals as goal

pub changeset_count-changesets-requires : goal.changeset_count-changesets-requires
changeset_count-changesets-requires c =
    let s = c.args.state.now in
    let blocks-is = c.as_slice.ensures ∙ c.blocks-2.ensures in
    let few = count-within s c.requires.history.0 c.requires.history.1.state c.args.count in
    let fits : length c.as_slice-nodes.result.now < 18446744073709551616 = c.as_slice-nodes.type_inv.0 in
    omega (arith, few, fits, ap length (c.as_slice-nodes.ensures ∙ c.changesets.ensures), ap (λ (l : List Block). count_of (take c.args.count l)) blocks-is)

pub returns-then-changesets-gt-CHANGESET_LIMIT : goal.returns-then-changesets-gt-CHANGESET_LIMIT
returns-then-changesets-gt-CHANGESET_LIMIT c = λ m g.
    let count-is = c.changeset_count-changesets.ensures ∙ ap (λ (l : List Block). count_of (take c.args.count l)) (c.as_slice.ensures ∙ c.blocks-2.ensures) in
    has-many c.args.state.now m.blocks (g.stands).blocks.state (take c.args.tags m.tags) c.args.count (omega (arith, c.if-changesets-gt-CHANGESET_LIMIT.true, count-is))

pub slice_bounds-passes_bundle-end : goal.slice_bounds-passes_bundle-end
slice_bounds-passes_bundle-end c =
    let s = c.args.state.now in
    let nodes-is = c.as_slice-nodes.ensures ∙ c.changesets.ensures in
    let count-is = c.changeset_count-changesets.ensures ∙ ap (λ (l : List Block). count_of (take c.args.count l)) (c.as_slice.ensures ∙ c.blocks-2.ensures) in
    let few = count-within s c.requires.history.0 c.requires.history.1.state c.args.count in
    sym (length-take-le c.changeset_count-changesets.result c.as_slice-nodes.result.now (omega (arith, count-is, few, ap length nodes-is)))

pub passes_bundle-requires : goal.passes_bundle-requires
passes_bundle-requires c =
    let n = c.args.count in
    let count-is = c.changeset_count-changesets.ensures ∙ ap (λ (l : List Block). count_of (take n l)) (c.as_slice.ensures ∙ c.blocks-2.ensures) in
    let nodes-is = c.as_slice-nodes.ensures ∙ c.changesets.ensures in
    (changesets_in (take n c.requires.history.0), front-held c.args.state.now c.requires.history.0 c.requires.history.1.state n _ _ _ count-is nodes-is (ap (λ k. k.hg) c.known-known.ensures))

pub passes_stream-requires : goal.passes_stream-requires
passes_stream-requires c =
    let commits-is = c.as_slice-commits.ensures ∙ c.commits.ensures in
    (commits_in (take c.args.count c.requires.history.0), front-walkable c.args.state.now c.requires.history.0 c.requires.history.1.state c.args.count _ _ commits-is (ap (λ k. k.git) c.known-known.ensures))

pub returns-then-branch : goal.returns-then-branch
returns-then-branch c = λ m g.
    let s = c.args.state.now in
    let n = c.args.count in
    let blocks = m.blocks in
    let state = (g.stands).blocks.state in
    let count-is = c.changeset_count-changesets.ensures ∙ ap (λ (l : List Block). count_of (take n l)) (c.as_slice.ensures ∙ c.blocks-2.ensures) in
    let nodes-is = c.as_slice-nodes.ensures ∙ c.changesets.ensures in
    let held = front-held s blocks state n _ _ _ count-is nodes-is (ap (λ k. k.hg) c.known-known.ensures) in
    let asked = c.in_ok-passes_bundle.ensures (changesets_in (take n blocks)) (front-nodes s blocks state n _ _ count-is nodes-is) held (earlier-front s blocks state n g.parents) in
    has-large-bundle s blocks state (take c.args.tags m.tags) n (sym asked ∙ c.if-branch.true)

pub returns : goal.returns
returns c = ok-each c.passes_stream.result _ _ (λ passes is m g.
    let s = c.args.state.now in
    let n = c.args.count in
    let blocks = m.blocks in
    let state = (g.stands).blocks.state in
    let count-is = c.changeset_count-changesets.ensures ∙ ap (λ (l : List Block). count_of (take n l)) (c.as_slice.ensures ∙ c.blocks-2.ensures) in
    let nodes-is = c.as_slice-nodes.ensures ∙ c.changesets.ensures in
    let commits-is = c.as_slice-commits.ensures ∙ c.commits.ensures in
    let git-is = ap (λ k. k.git) c.known-known.ensures in
    let tags-is = c.as_slice-2.ensures ∙ c.tags.ensures in
    let cs = commits_in (take n blocks) in
    let held = front-held s blocks state n _ _ _ count-is nodes-is (ap (λ k. k.hg) c.known-known.ensures) in
    let asked = c.in_ok-passes_bundle.ensures (changesets_in (take n blocks)) (front-nodes s blocks state n _ _ count-is nodes-is) held (earlier-front s blocks state n g.parents) in
    let kept-at = at-take s.known.git s.tags m.tags c.args.tags ((g.stands).tags, (g.stands).tags_held) in
    let of-tags : objects_of c.known-known.result.now.git (take c.args.tags c.as_slice-2.result.now) ≡ take c.args.tags m.tags =
    (λ i. objects_of (git-is i) (take c.args.tags (tags-is i))) ∙ objects-are s.known.git (take c.args.tags s.tags) (take c.args.tags m.tags) kept-at in
    is cs (front-walkable s blocks state n _ _ commits-is git-is) ∙ (λ i. is_stream_large cs (of-tags i))
    ∙ is-stream s blocks state (take c.args.tags m.tags) n (omega (arith, c.if-changesets-gt-CHANGESET_LIMIT.false, count-is)) (sym asked ∙ c.if-branch.false)) c.passes_stream.ensures
