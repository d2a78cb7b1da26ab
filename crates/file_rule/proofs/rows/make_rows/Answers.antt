use Rattle.std.proofs.Common.{◌≡◌, ◌<◌, ◌+◌, ◌++◌, ℕ, List, Some, Bool, true, false, length, get_or, sym, ap, subst, ◌∙◌, arith, take_all}
use Rattle.std.specs.Prelude.{slice_get}
use Rattle.std.proofs.lemmas.Option.{slice_get-get_or}
use Rattle.std.proofs.lemmas.List.{length-map}
use Rattle.text_model.specs.Lists.{Each}
use Rattle.git_model.specs.Tree.{Mode, is_blob_mode}
use Rattle.git_model.specs.Unfold.{FileRow}
use Rattle.hg_store.specs.Known.{knows_same}
use Rattle.view_model.specs.Held.{file_row_of}
use Rattle.pair_known.specs.Drafts.{IsRowKnown}
use Rattle.file_rule.specs.Rows.{AreMadeRows}
use Rattle.file_rule.proofs.RowsLoop.{seen, IsAhead, ahead-more, ahead-past, ahead-here, fresh-rises}
use Rattle.file_rule.proofs.RowsStep.{fresh-path, all-new, content-at, past, row-of, one_more}
use Rattle.file_rule.proofs.rows.make_rows.Goals as goal

-- the file at a place of a list
file-at : (files list : List FileRow) (i : ℕ) (file : FileRow) → list ≡ files → i < length list → file ≡ get_or list i file → slice_get files i ≡ Some file
file-at files list i file same below is = ap (λ (l : List FileRow). slice_get l i) (sym same) ∙ slice_get-get_or list i file below ∙ ap Some (sym is)

blob-file : (m : Mode) (test : Bool) → is_blob_mode m ≡ test → test ≡ true → is_blob_mode m ≡ true
blob-file m test is t = is ∙ t

pub make_near_row-requires : goal.make_near_row-requires
make_near_row-requires c =
    let at = file-at c.args.c.now.files c.as_slice-files.result.now c.loop-file.file-index c.file-item.result c.as_slice-files.ensures.rows c.loop-file-test.true c.file-item.is in
    record {
      content = content-at (c.args.c.now.fresh ++ c.args.known.now.git) c.args.c.now.files c.requires.contents.0 c.loop-file.file-index c.file-item.result c.requires.contents.1 at (blob-file c.file-item.result.mode c.is_blob.result (ap is_blob_mode (sym c.mode.ensures) ∙ sym c.is_blob.ensures) (cc c.if-not-is_blob.false)) c.requires.contents.2;
      near = subst (Each (IsRowKnown c.args.known.now.hg)) (sym c.loop-file.invariant.near_seen) c.requires.near;
    }

pub push-requires : goal.push-requires
push-requires c =
    let at = file-at c.args.c.now.files c.as_slice-files.result.now c.loop-file.file-index c.file-item.result c.as_slice-files.ensures.rows c.loop-file-test.true c.file-item.is in
    fresh-rises c.loop-file.ruled.fresh c.in_ok-made.made.fresh c.file-item.result.path c.loop-file.invariant.rises (ahead-here c.args.c.now.files c.as_slice-files.ensures.files.in_order c.loop-file.file-index c.file-item.result at c.loop-file.ruled.fresh c.loop-file.invariant.ahead)
    (fresh-path c.args.known.now.hg c.file-item.result.path c.in_ok-made.made.fresh c.in_ok-made.ensures.fresh)

pub loop-file-preserved : goal.loop-file-preserved
loop-file-preserved c =
    let files = c.args.c.now.files in
    let known = c.args.known.now.hg in
    let objects = c.args.c.now.fresh ++ c.args.known.now.git in
    let i = c.loop-file.file-index in
    let file = c.file-item.result in
    let at = file-at files c.as_slice-files.result.now i file c.as_slice-files.ensures.rows c.loop-file-test.true c.file-item.is in
    let up = c.as_slice-files.ensures.files.in_order in
    let made = c.in_ok-made.made in
    record {
      first_seen = c.get-in_first.ensures.same ∙ c.loop-file.invariant.first_seen;
      second_seen = c.get-in_second.ensures.same ∙ c.loop-file.invariant.second_seen;
      near_seen = c.in_ok-made.ensures.same ∙ c.loop-file.invariant.near_seen;
      ahead = subst (IsAhead files (i + 1)) (sym c.in_ok-push.ensures.fresh) (ahead-more files up i file at c.loop-file.ruled.fresh made.fresh c.loop-file.invariant.ahead (fresh-path known file.path made.fresh c.in_ok-made.ensures.fresh));
      rises = c.in_ok-push.ensures.rises;
      new = subst (Each (λ r. knows_same known r ≡ false)) (sym c.in_ok-push.ensures.fresh) (all-new known file.path c.loop-file.ruled.fresh made.fresh c.loop-file.invariant.new c.in_ok-made.ensures.fresh);
      ruled = λ ps ts are.
          one_more known objects files c.args.first.now c.args.second.now ps ts are i file at (blob-file c.file-item.result.mode c.is_blob.result (ap is_blob_mode (sym c.mode.ensures) ∙ sym c.is_blob.ensures) (cc c.if-not-is_blob.false)) up c.get-in_first.result c.get-in_second.result (seen (c.args.first.now.manifest).now c.loop-file.first_walk _ _ _ c.loop-file.invariant.first_seen c.path.ensures c.get-in_first.ensures.entry) (seen (c.args.second.now.manifest).now c.loop-file.second_walk _ _ _ c.loop-file.invariant.second_seen c.path-in-loop-file.ensures c.get-in_second.ensures.entry) c.loop-file.ruled c.push.new.self made c.in_ok-push.ensures.rows c.in_ok-push.ensures.fresh
          c.loop-file.invariant.ahead c.in_ok-made.ensures.fresh (c.loop-file.invariant.ruled ps ts are)
          (c.in_ok-made.ensures.ok _ _ _ (row-of known objects files c.args.first.now c.args.second.now ps ts are i file at (blob-file c.file-item.result.mode c.is_blob.result (ap is_blob_mode (sym c.mode.ensures) ∙ sym c.is_blob.ensures) (cc c.if-not-is_blob.false)) up c.get-in_first.result c.get-in_second.result (seen (c.args.first.now.manifest).now c.loop-file.first_walk _ _ _ c.loop-file.invariant.first_seen c.path.ensures c.get-in_first.ensures.entry) (seen (c.args.second.now.manifest).now c.loop-file.second_walk _ _ _ c.loop-file.invariant.second_seen c.path-in-loop-file.ensures c.get-in_second.ensures.entry)));
    }

pub returns-clause-ok : goal.returns-clause-ok
returns-clause-ok c = λ ps ts are. subst (AreMadeRows c.args.known.now.hg c.loop-file.ruled ps) (take_all c.loop-file.file-index ts (omega (arith, length-map ts file_row_of, ap length are.of_files, ap length c.as_slice-files.ensures.rows, c.loop-file-test.false))) (c.loop-file.invariant.ruled ps ts are)

pub loop-file-preserved-then-not-is_blob : goal.loop-file-preserved-then-not-is_blob
loop-file-preserved-then-not-is_blob c =
    let files = c.args.c.now.files in
    let i = c.loop-file.file-index in
    let file = c.file-item.result in
    let at = file-at files c.as_slice-files.result.now i file c.as_slice-files.ensures.rows c.loop-file-test.true c.file-item.is in
    let other : is_blob_mode file.mode ≡ false = ap is_blob_mode (sym c.mode.ensures) ∙ sym c.is_blob.ensures ∙ (cc c.if-not-is_blob.true) in
    record {
      first_seen = c.loop-file.invariant.first_seen;
      second_seen = c.loop-file.invariant.second_seen;
      near_seen = c.loop-file.invariant.near_seen;
      ahead = ahead-past files c.as_slice-files.ensures.files.in_order i file at c.loop-file.ruled.fresh c.loop-file.invariant.ahead;
      rises = c.loop-file.invariant.rises;
      new = c.loop-file.invariant.new;
      ruled = λ ps ts are. past c.args.known.now.hg (c.args.c.now.fresh ++ c.args.known.now.git) files c.args.first.now c.args.second.now ps ts c.loop-file.ruled are i file at other (c.loop-file.invariant.ruled ps ts are);
    }
