use Rattle.std.proofs.Common.{◌∙◌, ◌+◌, ◌≡◌, ◌++◌, [], ◌∷◌, ◌<◌, length, get_or, Some, true, refl, sym, ap, subst, take, List}
use Rattle.std.specs.List.{filter_map}
use Rattle.git_model.specs.Residue.{ResidueItem, fits}
use Rattle.git_model.proofs.SortLemmas.{rises-ascends}
use Rattle.git_model.proofs.RowOrder.{kept, filter_is}
use Rattle.git_object.specs.Values.{AreItems}
use Rattle.tree_residue.proofs.Takes.{turn-some, turn-none, kept-yes, kept-no}
use Rattle.tree_residue.proofs.RowsOf.{carried-rises, items-take}
use Rattle.tree_residue.proofs.carried.carry.Goals as goal
use Rattle.tree_residue.proofs.carried.carry.Goals.{then-fits+in_ok-copy+in_ok-push, else-fits}

pub push-requires : goal.push-requires
push-requires c =
    let old = c.args.old.now in
    let files = c.args.files.now in
    let i = c.loop-item.item-index in
    let items : c.as_slice-item-items.result.now ≡ old = c.as_slice-item-items.ensures.items in
    let fit : fits files c.item-item.result ≡ true = ap (λ f. fits f c.item-item.result) (sym c.as_slice-rows.ensures.rows) ∙ sym c.fits.ensures ∙ c.if-fits.true in
    let all : c.loop-item.residue ++ c.in_ok-copy.copy ∷ [] ≡ filter_map (kept (fits files)) (take (i + 1) old) =
    turn-some (kept (fits files)) [] c.loop-item.residue (c.loop-item.residue ++ c.in_ok-copy.copy ∷ []) old i c.item-item.result c.in_ok-copy.copy (subst (λ (xs : List ResidueItem). i < length xs) items c.loop-item-test.true) (c.item-item.is ∙ ap (λ (xs : List ResidueItem). get_or xs i c.item-item.result) items)
    (kept-yes (fits files) c.item-item.result fit ∙ ap Some (sym c.in_ok-copy.ensures)) (c.loop-item.invariant ∙ filter_is (fits files) (take i old)) refl in
    subst AreItems (sym (all ∙ sym (filter_is (fits files) (take (i + 1) old)))) (carried-rises (take (i + 1) old) files (items-take (i + 1) old (rises-ascends (λ (i : ResidueItem). i.path) old c.as_slice-item-items.ensures.rise)))

pub loop-item-preserved : goal.loop-item-preserved
loop-item-preserved c =
    let old = c.args.old.now in
    let files = c.args.files.now in
    let i = c.loop-item.item-index in
    let items : c.as_slice-item-items.result.now ≡ old = c.as_slice-item-items.ensures.items in
    let within : i < length old = subst (λ (xs : List ResidueItem). i < length xs) items c.loop-item-test.true in
    let is : c.item-item.result ≡ get_or old i c.item-item.result = c.item-item.is ∙ ap (λ (xs : List ResidueItem). get_or xs i c.item-item.result) items in
    let fit : c.fits.result ≡ fits files c.item-item.result = c.fits.ensures ∙ ap (λ f. fits f c.item-item.result) c.as_slice-rows.ensures.rows in
    elim c.if-fits.branch [
      | then-fits+in_ok-copy+in_ok-push w ↦
          turn-some (kept (fits files)) [] c.loop-item.residue c.if-fits.residue old i c.item-item.result w.in_ok-copy.copy within is
          (kept-yes (fits files) c.item-item.result (sym fit ∙ w.if-fits.true) ∙ ap Some (sym w.in_ok-copy.ensures)) (c.loop-item.invariant ∙ filter_is (fits files) (take i old)) (cc (w.residue-is, w.in_ok-push.ensures.ok))
          ∙ sym (filter_is (fits files) (take (i + 1) old))
      | else-fits w ↦
          w.residue-is ∙ turn-none (kept (fits files)) [] c.loop-item.residue old i c.item-item.result within is (kept-no (fits files) c.item-item.result (sym fit ∙ w.if-fits.false)) (c.loop-item.invariant ∙ filter_is (fits files) (take i old))
          ∙ sym (filter_is (fits files) (take (i + 1) old))
    ]
