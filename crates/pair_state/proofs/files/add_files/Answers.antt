use Rattle.std.proofs.Common.{◌∷◌, [], Err, map, take_all, length, arith, sym, ap, subst, ◌∙◌}
use Rattle.std.proofs.lemmas.List.{length-map}
use Rattle.std.proofs.lemmas.Result.{err_from_is_err_and}
use Rattle.text_model.proofs.Elements.{map_take_push}
use Rattle.view_model.specs.Dump.{file_revision}
use Rattle.pair_known.specs.Rows.{row_value}
use Rattle.pair_state.specs.Came.{HaveCome, HasBad}
use Rattle.pair_state.proofs.BodyLemmas.{value-at}
use Rattle.pair_state.proofs.CameLemmas.{come-none, come-more, bad-one, bad-front, bad-rest}
use Rattle.pair_state.proofs.FileLemmas.{map-at, asked-row, asked-file, asked-on}
use Rattle.pair_state.proofs.GrowthLemmas.{errs}
use Rattle.pair_state.proofs.files.add_files.Goals as goal

pub loop-row-init : goal.loop-row-init
loop-row-init c = record { came = λ base k a. come-none c.args.hg.now; added = (c.requires.asked.2).added }

pub add_file-requires : goal.add_file-requires
add_file-requires c =
    let d = c.args.d.now in
    let v = c.row-item.result in
    let i = c.loop-row.row-index in
    let at = value-at d.rows c.as_slice-list.result.now i v c.as_slice-list.ensures c.loop-row-test.true c.row-item.is in
    let base = c.requires.asked.0 in
    let k = c.requires.asked.1 in
    let a = c.requires.asked.2 in
    let now = asked-on base c.args.hg.now d c.args.link k a c.loop-row.hg _ (c.loop-row.invariant.came base k a) c.loop-row.invariant.added in
    let x = asked-row base c.args.hg.now d c.args.link k a i v at in
    record { asked = (x.row, asked-file base c.loop-row.hg d c.args.link k now i v x) }

pub loop-row-preserved : goal.loop-row-preserved
loop-row-preserved c = record {
  came = λ base k a.
      let d = c.args.d.now in
      let v = c.row-item.result in
      let i = c.loop-row.row-index in
      let at = value-at d.rows c.as_slice-list.result.now i v c.as_slice-list.ensures c.loop-row-test.true c.row-item.is in
      let now = asked-on base c.args.hg.now d c.args.link k a c.loop-row.hg _ (c.loop-row.invariant.came base k a) c.loop-row.invariant.added in
      let x = asked-row base c.args.hg.now d c.args.link k a i v at in
      subst (HaveCome c.args.hg.now c.add_file.new.hg) (sym (map_take_push (file_revision c.args.link) k.rows i x.row x.at))
      (come-more c.args.hg.now c.loop-row.hg c.add_file.new.hg _ _ (c.loop-row.invariant.came base k a) (c.in_ok-add_file.ensures.ok x.row (asked-file base c.loop-row.hg d c.args.link k now i v x)));
  added = c.in_ok-add_file.ensures.added;
}

pub returns-in_err-add_file-clause-collision : goal.returns-in_err-add_file-clause-collision
returns-in_err-add_file-clause-collision c = λ is base k a.
    let d = c.args.d.now in
    let v = c.row-item.result in
    let i = c.loop-row.row-index in
    let at = value-at d.rows c.as_slice-list.result.now i v c.as_slice-list.ensures c.loop-row-test.true c.row-item.is in
    let now = asked-on base c.args.hg.now d c.args.link k a c.loop-row.hg _ (c.loop-row.invariant.came base k a) c.loop-row.invariant.added in
    let x = asked-row base c.args.hg.now d c.args.link k a i v at in
    let p = err_from_is_err_and c.from_residual.result c.from_residual.ensures.1 in
    let bad = c.in_err-add_file.ensures.collision (errs _ _ (ap Err (sym p.2) ∙ sym p.1 ∙ is)) x.row (asked-file base c.loop-row.hg d c.args.link k now i v x) in
    subst (HasBad c.args.hg.now) (sym (map-at (file_revision c.args.link) k.rows i x.row x.at))
    (bad-rest c.args.hg.now c.loop-row.hg _ _ (c.loop-row.invariant.came base k a) (bad-front c.loop-row.hg (file_revision c.args.link x.row ∷ []) _ (bad-one c.loop-row.hg (file_revision c.args.link x.row) bad)))

pub returns-clause-ok : goal.returns-clause-ok
returns-clause-ok c = λ base k a.
    subst (λ rows. HaveCome c.args.hg.now c.loop-row.hg (map (file_revision c.args.link) rows))
    (take_all c.loop-row.row-index k.rows (omega (arith, length-map k.rows row_value, ap length a.part.made.draft.rows, ap length c.as_slice-list.ensures, c.loop-row-test.false))) (c.loop-row.invariant.came base k a)
