use Rattle.std.proofs.Common.{[], length, map, refl, ap, ◌∙◌, ◌++◌}
use Rattle.std.proofs.Transfers.{starts_with_trans}
use Rattle.text_model.specs.Text.{Bytes}
use Rattle.view_model.specs.Dump.{hg_increment}
use Rattle.pair_model.specs.Block.{changesets_in, commits_in}
use Rattle.state_model.specs.Kept.{git_dump}
use Rattle.state_model.specs.Text.{refs_text}
use Rattle.state_part.specs.Pairs.{map_section}
use Rattle.state_text.specs.Sections.{pair_in}
use Rattle.state_text.proofs.Written.{AreAppended, state-text, held-in, bundle-of, bundle-len, walkable-in}
use Rattle.state_text.proofs.write.write_into.Goals as goal

pub append_bundle-requires : goal.append_bundle-requires
append_bundle-requires c =
    let blocks = c.requires.history.0 in
    record {
      held = (changesets_in blocks, held-in c.args.state.now blocks c.requires.history.1 c.known.result.now c.known.ensures c.changesets.result.now c.changesets.ensures);
    }

pub append_stream-requires : goal.append_stream-requires
append_stream-requires c =
    let blocks = c.requires.history.0 in
    record {
      commits = (commits_in blocks, walkable-in c.args.state.now blocks c.requires.history.1 c.known-2.result.now c.known-2.ensures c.commits.result.now c.commits.ensures);
    }

pub returns-clause-ok : goal.returns-clause-ok
returns-clause-ok c = λ m h are.
    let s = c.args.state.now in
    let pairs = c.as_slice-2.result.now in
    let map_is = c.as_slice-3.ensures.value ∙ c.in_ok-put_map.ensures.ok ∙ ap (λ (l : Bytes). l ++ map_section pairs) c.new-pairs.ensures.items in
    let hs = changesets_in m.blocks in
    let cs = commits_in m.blocks in
    let hg = hg_increment (c.known.result.now).hg [] hs in
    let parts : AreAppended c.args.out.now c.put_section-2.new.out hg (git_dump cs) c.as_slice-4.result.now c.as_slice-5.result.now pairs = record {
      first = c.put_head.new.out;
      second = c.append_bundle.new.out;
      third = c.append_stream.new.out;
      fourth = c.put.new.self;
      fifth = c.put_section.new.out;
      head = c.in_ok-put_head.ensures.ok;
      changesets = c.in_ok-bundle.ensures.ok hs (held-in s m.blocks h.blocks c.known.result.now c.known.ensures c.changesets.result.now c.changesets.ensures);
      commits = c.in_ok-stream.ensures.ok cs (walkable-in s m.blocks h.blocks c.known-2.result.now c.known-2.ensures c.commits.result.now c.commits.ensures);
      map_is = c.in_ok-put.ensures.ok ∙ ap (λ (l : Bytes). c.append_stream.new.out ++ l) map_is;
      tags_are = c.in_ok-put_section.ensures.ok;
      names_are = c.in_ok-put_section-2.ensures.ok;
    } in
    state-text s m h are c.args.out.now c.put_section-2.new.out hg (git_dump cs) c.as_slice-4.result.now c.as_slice-5.result.now pairs parts
    (c.as_slice-5.ensures.value ∙ c.in_ok-names.ensures ∙ ap refs_text c.names.ensures)
    (bundle-of s m.blocks h.blocks c.known.result.now c.known.ensures)
    refl
    (c.as_slice-4.ensures.value ∙ c.in_ok-tags.ensures m h)
    (c.as_slice-2.ensures ∙ c.in_ok-pairs_of.ensures ∙ ap (map pair_in) c.blocks-2.ensures)

pub returns-clause-sizes : goal.returns-clause-sizes
returns-clause-sizes c = λ m h.
    let s = c.args.state.now in
    record {
      bundle = bundle-len s m.blocks h.blocks c.known.result.now c.known.ensures c.changesets.result.now c.in_ok-bundle.bundle c.changesets.ensures c.in_ok-bundle.ensures.size;
      stream = c.in_ok-stream.ensures.size (commits_in m.blocks) (walkable-in s m.blocks h.blocks c.known-2.result.now c.known-2.ensures c.commits.result.now c.commits.ensures);
      tags = c.len.ensures ∙ (c.in_ok-tags.tags).ok.0 ∙ ap (λ (l : Bytes). length l) (c.in_ok-tags.ensures m h);
    }

pub returns-in_err-stream-clause-front : goal.returns-in_err-stream-clause-front
returns-in_err-stream-clause-front c =
    starts_with_trans _ _ _ c.append_stream.ensures.front (starts_with_trans _ _ _ c.append_bundle.ensures.front c.put_head.ensures.front)

pub returns-in_err-put-clause-front : goal.returns-in_err-put-clause-front
returns-in_err-put-clause-front c =
    let streamed = starts_with_trans _ _ _ c.append_stream.ensures.front (starts_with_trans _ _ _ c.append_bundle.ensures.front c.put_head.ensures.front) in
    starts_with_trans _ _ _ c.put.ensures.front streamed

pub returns-in_err-put_section-clause-front : goal.returns-in_err-put_section-clause-front
returns-in_err-put_section-clause-front c =
    let streamed = starts_with_trans _ _ _ c.append_stream.ensures.front (starts_with_trans _ _ _ c.append_bundle.ensures.front c.put_head.ensures.front) in
    starts_with_trans _ _ _ c.put_section.ensures.front (starts_with_trans _ _ _ c.put.ensures.front streamed)

pub returns-clause-front : goal.returns-clause-front
returns-clause-front c =
    let streamed = starts_with_trans _ _ _ c.append_stream.ensures.front (starts_with_trans _ _ _ c.append_bundle.ensures.front c.put_head.ensures.front) in
    let mapped = starts_with_trans _ _ _ c.put.ensures.front streamed in
    starts_with_trans _ _ _ c.put_section-2.ensures.front (starts_with_trans _ _ _ c.put_section.ensures.front mapped)
