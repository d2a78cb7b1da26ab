use Rattle.std.proofs.Common.{◌≡◌, ℕ, ◌++◌, None, length, vec_capacity, arith, sym, ap, ◌∙◌, subst}
use Rattle.std.specs.Prelude.{slice_range}
use Rattle.std.proofs.lemmas.List.{length-drop}
use Rattle.std.proofs.lemmas.Slice.{between_to_end}
use Rattle.text_model.specs.Text.{Bytes}
use Rattle.hg_model.specs.Delta.{Patches, first_hunk}
use Rattle.hg_model.proofs.DeltaLemmas.{Patches-delta_reading}
use Rattle.hg_hunk.specs.Faults.{HasPatchedText}
use Rattle.hg_hunk.proofs.Fills.{Fills, fills_start, fill_turn, fill_end, more_room}
use Rattle.hg_hunk.proofs.patch.fill.Goals as goal

-- the text that was written at the end
written : (base delta rest : Bytes) (from : ℕ) (out text : Bytes) (room : ℕ) → Fills base delta rest from out room → None ≡ first_hunk rest → text ≡ out ++ slice_range base from (length base) → HasPatchedText base delta text
written base delta rest from out text room f e t =
    let end = fill_end base delta rest from out room f e in
    let same = t ∙ ap (λ (x : Bytes). out ++ x) (between_to_end base from (length base) (omega arith)) in
    subst (λ (x : Bytes). HasPatchedText base delta x) (sym same) end.text

pub loop-hunk-init : goal.loop-hunk-init
loop-hunk-init c =
    let base = c.args.base.now in
    let delta = c.args.delta.now in
    let room = vec_capacity c.args.out.now in
    let r = c.requires.reserved in
    subst (λ (o : Bytes). Fills base delta delta 0 o room) (sym c.requires.empty) (fills_start base delta r.0 room r.1 r.2)

pub slice_bounds-put-count : goal.slice_bounds-put-count
slice_bounds-put-count c =
    let w = c.loop-hunk in
    let t = fill_turn c.args.base.now c.args.delta.now w.rest.now w.from w.out.items (vec_capacity w.out) _ _ w.invariant c.in-Some.ensures in
    t.starts

pub slice_bounds-put-start : goal.slice_bounds-put-start
slice_bounds-put-start c =
    let w = c.loop-hunk in
    let t = fill_turn c.args.base.now c.args.delta.now w.rest.now w.from w.out.items (vec_capacity w.out) _ _ w.invariant c.in-Some.ensures in
    t.starts

pub slice_bounds-put-end : goal.slice_bounds-put-end
slice_bounds-put-end c =
    let w = c.loop-hunk in
    let t = fill_turn c.args.base.now c.args.delta.now w.rest.now w.from w.out.items (vec_capacity w.out) _ _ w.invariant c.in-Some.ensures in
    omega (arith, t.ends, t.ordered)

pub put-requires : goal.put-requires
put-requires c =
    let w = c.loop-hunk in
    let t = fill_turn c.args.base.now c.args.delta.now w.rest.now w.from w.out.items (vec_capacity w.out) _ _ w.invariant c.in-Some.ensures in
    omega (arith, t.first, t.piece)

pub put-requires-in-Some : goal.put-requires-in-Some
put-requires-in-Some c =
    let w = c.loop-hunk in
    let t = fill_turn c.args.base.now c.args.delta.now w.rest.now w.from w.out.items (vec_capacity w.out) _ _ w.invariant c.in-Some.ensures in
    omega (arith, t.second, c.put.ensures.room, ap length c.put.ensures.items)

pub loop-hunk-smaller : goal.loop-hunk-smaller
loop-hunk-smaller c =
    let w = c.loop-hunk in
    let t = fill_turn c.args.base.now c.args.delta.now w.rest.now w.from w.out.items (vec_capacity w.out) _ _ w.invariant c.in-Some.ensures in
    t.shorter

pub loop-hunk-preserved : goal.loop-hunk-preserved
loop-hunk-preserved c =
    let base = c.args.base.now in
    let delta = c.args.delta.now in
    let w = c.loop-hunk in
    let t = fill_turn base delta w.rest.now w.from w.out.items (vec_capacity w.out) _ _ w.invariant c.in-Some.ensures in
    let text = c.put-in-Some.ensures.items ∙ ap (λ (x : Bytes). x ++ c.in-Some.hunk.bytes.now) c.put.ensures.items in
    let written = subst (λ (o : Bytes). Fills base delta c.in-Some.after.now c.in-Some.hunk.end o (vec_capacity w.out)) (sym text) t.fills in
    more_room base delta c.in-Some.after.now c.in-Some.hunk.end c.put-in-Some.new.out.items (vec_capacity w.out) (vec_capacity c.put-in-Some.new.out) (omega (arith, c.put.ensures.room, c.put-in-Some.ensures.room)) written

pub put-requires-2 : goal.put-requires-2
put-requires-2 c =
    let w = c.loop-hunk in
    let e = fill_end c.args.base.now c.args.delta.now w.rest.now w.from w.out.items (vec_capacity w.out) w.invariant c.in_default.ensures in
    omega (arith, e.room_left, length-drop w.from c.args.base.now)

pub returns-clause-reading : goal.returns-clause-reading
returns-clause-reading c =
    let base = c.args.base.now in
    let delta = c.args.delta.now in
    let w = c.loop-hunk in
    written base delta w.rest.now w.from w.out.items c.put-2.new.out.items (vec_capacity w.out) w.invariant c.in_default.ensures c.put-2.ensures.items

pub returns-clause-patches : goal.returns-clause-patches
returns-clause-patches c =
    let base = c.args.base.now in
    let delta = c.args.delta.now in
    let w = c.loop-hunk in
    let text = written base delta w.rest.now w.from w.out.items c.put-2.new.out.items (vec_capacity w.out) w.invariant c.in_default.ensures c.put-2.ensures.items in
    let p = Patches-delta_reading base delta text.0 (λ i. omega (arith, c.type_inv.delta i)) text.1 in
    subst (λ (t : Bytes). Patches base delta t) (sym text.2) p.0
