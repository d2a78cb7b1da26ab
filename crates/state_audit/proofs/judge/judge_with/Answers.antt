use Rattle.std.proofs.Common.{◌∙◌, List, ap, sym, subst, length, take, drop, arith, true≢false}
use Rattle.std.specs.Prelude.{slice_get}
use Rattle.text_model.proofs.Options.{or_parts, or_neither}
use Rattle.partner_model.specs.Given.{has_late_file, has_late_manifest}
use Rattle.pair_state.specs.Blocks.{BlockValue}
use Rattle.pair_state.specs.declared.blocks.Block.{Block}
use Rattle.pair_known.specs.declared.known.Known.{Known}
use Rattle.state_audit.specs.Audited.{IsWalked}
use Rattle.state_audit.proofs.Turns.{is-before, history, links-held, block-at, own-below}
use Rattle.state_audit.proofs.Found.{kept-held, late-is, kept-is, id-is, links-is, asked-is, files-are, manifest-is}
use Rattle.state_audit.proofs.Judgements.{late-judged, unless-late, other-judged, links-judged, bodies-judged, right-judged}
use Rattle.state_audit.proofs.judge.judge_with.Goals as goal

pub seen_before-seen-requires-clause-walked : goal.seen_before-seen-requires-clause-walked
seen_before-seen-requires-clause-walked c =
    let p = c.requires.partner in
    (p.1, subst (λ (known : Known). IsWalked known.hg c.args.checked.now p.1) (sym c.known-known.ensures) (p.5).walked)

pub is_kept-requires-clause-held : goal.is_kept-requires-clause-held
is_kept-requires-clause-held c =
    let s = c.args.state.now in
    let p = c.requires.partner in
    let at = ap (λ (l : List Block). slice_get l c.args.place) (sym c.blocks-2.ensures) ∙ c.at-block.ensures in
    let held = kept-held s c.args.place c.args.checked.now p.0 p.1 p.2 p.3 p.5 c.known-known.result.now c.known-known.ensures c.at-block.result.now at in
    ((p.2).commit, held.0, held.1)

pub returns-then-comes_late : goal.returns-then-comes_late
returns-then-comes_late c = λ m front b rest v t draft here.
    let s = c.args.state.now in
    let place = c.args.place in
    let ck = c.args.checked.now in
    let k = c.known-known.result.now in
    let same = c.known-known.ensures in
    late-judged s.known front b
    (late-is s place ck m front b rest t k same c.args.h.now draft c.args.partner.now v here c.seen_before-seen.result c.seen_before-seen.ensures c.comes_late.result c.comes_late.ensures ∙ c.if-comes_late.true)

pub returns-then-not-branch : goal.returns-then-not-branch
returns-then-not-branch c = λ m front b rest v t draft here.
    let s = c.args.state.now in
    let place = c.args.place in
    let ck = c.args.checked.now in
    let k = c.known-known.result.now in
    let same = c.known-known.ensures in
    let at = ap (λ (l : List Block). slice_get l place) (sym c.blocks-2.ensures) ∙ c.at-block.ensures in
    let timely = late-is s place ck m front b rest t k same c.args.h.now draft c.args.partner.now v here c.seen_before-seen.result c.seen_before-seen.ensures c.comes_late.result c.comes_late.ensures ∙ c.if-comes_late.false in
    let kept = kept-is s place ck m front b rest t k same c.args.h.now draft c.args.partner.now v here c.at-block.result.now at c.in_ok-is_kept.field-0 c.in_ok-is_kept.ensures in
    let id = id-is s place ck m front b rest t k same c.args.h.now draft c.args.partner.now v here c.object_id.result c.deref-then-not-branch.result.now c.object_id.ensures (c.deref-then-not-branch.ensures.value ∙ c.in_ok-text.ensures) in
    other-judged s.known m.blocks front ck.nodes b (is-before s place ck m front b rest t) c.args.partner.now v here timely (λ e. true≢false (sym (kept.1 e) ∙ c.if-not-branch.true)) c.object_id.result id

pub part_of-links-requires : goal.part_of-links-requires
part_of-links-requires c =
    let s = c.args.state.now in
    let place = c.args.place in
    let p = c.requires.partner in
    let at = ap (λ (l : List Block). slice_get l place) (sym c.blocks-2.ensures) ∙ c.at-block.ensures in
    let links = ap (λ (v : BlockValue). v.links) (block-at s place c.args.checked.now p.0 p.1 p.2 p.3 p.5 c.at-block.result.now at) in
    omega (arith, own-below s place c.args.checked.now p.0 p.1 p.2 p.3 p.5, links, c.from.ensures, ap length (c.as_slice-nodes.ensures ∙ c.changesets.ensures))

pub returns-then-not-branch-2 : goal.returns-then-not-branch-2
returns-then-not-branch-2 c = λ m front b rest v t draft here.
    let s = c.args.state.now in
    let place = c.args.place in
    let ck = c.args.checked.now in
    let k = c.known-known.result.now in
    let same = c.known-known.ensures in
    let at = ap (λ (l : List Block). slice_get l place) (sym c.blocks-2.ensures) ∙ c.at-block.ensures in
    let kept = kept-is s place ck m front b rest t k same c.args.h.now draft c.args.partner.now v here c.at-block.result.now at c.in_ok-is_kept.field-0 c.in_ok-is_kept.ensures in
    let alike = kept.0 c.if-not-branch.false in
    let count = c.from.ensures ∙ ap (λ (y : BlockValue). y.links) (block-at s place ck m front b rest t c.at-block.result.now at) in
    let part = c.part_of-links.ensures ∙ (λ i. take c.from.result (drop ck.changesets ((c.as_slice-nodes.ensures ∙ c.changesets.ensures) i))) in
    let links = links-is s place ck m front b rest t k same c.args.h.now draft c.args.partner.now v here c.part_of-links.result.now c.from.result count part c.in_ok-has_links.field-0 c.in_ok-has_links.ensures in
    unless-late s.known front b (λ timely. links-judged s.known m.blocks front ck.nodes b (is-before s place ck m front b rest t) c.args.partner.now v here timely alike (history s place ck m front b rest t) (links-held s place ck m front b rest t)
    (λ e. true≢false (sym (links.1 e) ∙ c.if-not-branch-2.true)))

pub are_files_right-requires : goal.are_files_right-requires
are_files_right-requires c =
    let p = c.requires.partner in
    let s = c.args.state.now in
    let place = c.args.place in
    let ck = c.args.checked.now in
    let k = c.known-known.result.now in
    let same = c.known-known.ensures in
    let at = ap (λ (l : List Block). slice_get l place) (sym c.blocks-2.ensures) ∙ c.at-block.ensures in
    let kept = kept-is s place ck p.0 p.1 p.2 p.3 p.5 k same c.args.h.now p.6 c.args.partner.now p.4 p.7 c.at-block.result.now at c.in_ok-is_kept.field-0 c.in_ok-is_kept.ensures in
    record { asked = (((p.2).changeset).rows, asked-is s place ck p.0 p.1 p.2 p.3 p.5 k same c.args.h.now p.6 c.args.partner.now p.4 p.7 (kept.0 c.if-not-branch.false) c.requires.nothing_fresh c.as_slice.result.now c.as_slice.ensures) }

pub returns-then-is_manifest_late : goal.returns-then-is_manifest_late
returns-then-is_manifest_late c = λ m front b rest v t draft here.
    let s = c.args.state.now in
    let place = c.args.place in
    let ck = c.args.checked.now in
    let k = c.known-known.result.now in
    let same = c.known-known.ensures in
    let late = manifest-is s place ck m front b rest t k same c.args.h.now draft c.args.partner.now v here c.seen_before-seen.result c.seen_before-seen.ensures c.is_manifest_late.result c.is_manifest_late.ensures ∙ c.if-is_manifest_late.true in
    unless-late s.known front b (λ timely. absurd (true≢false (sym late ∙ (or_parts (has_late_file front (b.changeset).rows) (has_late_manifest front (b.changeset).manifest) timely).1)))

pub returns-then-not-are_files_right : goal.returns-then-not-are_files_right
returns-then-not-are_files_right c = λ m front b rest v t draft here.
    let s = c.args.state.now in
    let place = c.args.place in
    let ck = c.args.checked.now in
    let k = c.known-known.result.now in
    let same = c.known-known.ensures in
    let at = ap (λ (l : List Block). slice_get l place) (sym c.blocks-2.ensures) ∙ c.at-block.ensures in
    let kept = kept-is s place ck m front b rest t k same c.args.h.now draft c.args.partner.now v here c.at-block.result.now at c.in_ok-is_kept.field-0 c.in_ok-is_kept.ensures in
    let alike = kept.0 c.if-not-branch.false in
    let files = files-are s place ck m front b rest t k same c.args.h.now draft c.args.partner.now v here alike c.requires.nothing_fresh c.seen_before-seen.result c.seen_before-seen.ensures c.as_slice.result.now c.as_slice.ensures c.are_files_right.result c.are_files_right.ensures in
    unless-late s.known front b (λ timely. bodies-judged s.known m.blocks front ck.nodes b (is-before s place ck m front b rest t) c.args.partner.now v here timely alike
    (λ e. true≢false (sym (files.1 ((or_parts (has_late_file front (b.changeset).rows) (has_late_manifest front (b.changeset).manifest) timely).0, e)) ∙ c.if-not-are_files_right.true)))

pub returns : goal.returns
returns c = λ m front b rest v t draft here.
    let s = c.args.state.now in
    let place = c.args.place in
    let ck = c.args.checked.now in
    let k = c.known-known.result.now in
    let same = c.known-known.ensures in
    let at = ap (λ (l : List Block). slice_get l place) (sym c.blocks-2.ensures) ∙ c.at-block.ensures in
    let kept = kept-is s place ck m front b rest t k same c.args.h.now draft c.args.partner.now v here c.at-block.result.now at c.in_ok-is_kept.field-0 c.in_ok-is_kept.ensures in
    let alike = kept.0 c.if-not-branch.false in
    let count = c.from.ensures ∙ ap (λ (y : BlockValue). y.links) (block-at s place ck m front b rest t c.at-block.result.now at) in
    let part = c.part_of-links.ensures ∙ (λ i. take c.from.result (drop ck.changesets ((c.as_slice-nodes.ensures ∙ c.changesets.ensures) i))) in
    let links = links-is s place ck m front b rest t k same c.args.h.now draft c.args.partner.now v here c.part_of-links.result.now c.from.result count part c.in_ok-has_links.field-0 c.in_ok-has_links.ensures in
    let files = files-are s place ck m front b rest t k same c.args.h.now draft c.args.partner.now v here alike c.requires.nothing_fresh c.seen_before-seen.result c.seen_before-seen.ensures c.as_slice.result.now c.as_slice.ensures c.are_files_right.result c.are_files_right.ensures in
    let right = files.0 c.if-not-are_files_right.false in
    let manifest = manifest-is s place ck m front b rest t k same c.args.h.now draft c.args.partner.now v here c.seen_before-seen.result c.seen_before-seen.ensures c.is_manifest_late.result (c.is_manifest_late.ensures) ∙ c.if-is_manifest_late.false in
    let timely = or_neither (has_late_file front (b.changeset).rows) (has_late_manifest front (b.changeset).manifest) right.0 manifest in
    right-judged s.known m.blocks front ck.nodes b (is-before s place ck m front b rest t) c.args.partner.now v here timely alike (history s place ck m front b rest t) (links-held s place ck m front b rest t)
    (links.0 c.if-not-branch-2.false) right.1
