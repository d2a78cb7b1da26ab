use Rattle.std.proofs.Common.{◌≡◌, ◌≤◌, ◌+◌, ◌++◌, Option, true, false, length, drop, refl, sym, ap, subst, ◌∙◌, arith}
use Rattle.std.specs.Prelude.{option_map, IfSome, MatchOption}
use Rattle.text_model.specs.Lists.{Each}
use Rattle.text_model.specs.Text.{Bytes}
use Rattle.git_model.specs.Tree.{is_blob_mode}
use Rattle.hg_store.specs.Known.{knows_same}
use Rattle.pair_model.specs.MarkList as model
use Rattle.mark_code.specs.Values.{mark_value}
use Rattle.file_rule.specs.Made.{IsFresh}
use Rattle.pair_known.specs.Fresh.{AreFreshFiles}
use Rattle.file_rule.proofs.RowsLoop.{IsAhead, ahead-more, ahead-past, ahead-here, fresh-rises}
use Rattle.file_rule.proofs.RowsStep.{fresh-path, all-new, content-at}
use Rattle.filled_law.specs.Walks.{mark_at, behind}
use Rattle.commit_unmark.specs.Named.{IsFileOver, NamesNone, NamesRow}
use Rattle.commit_unmark.proofs.RowsLoop.{file-at, none-yet, here, past, file-over, none-named, one-more, left-over, all-named}
use Rattle.commit_unmark.proofs.rows.named_rows.Goals as goal

pub loop-file-init : goal.loop-file-init
loop-file-init c = record {
  first_seen = c.new-first_walk.ensures;
  second_seen = c.new-second_walk.ensures;
  ahead = subst (IsAhead c.args.c.now.files 0) (sym c.in_ok-named.ensures.fresh) tt;
  rises = subst AreFreshFiles (sym c.in_ok-named.ensures.fresh) refl;
  new = subst (Each (λ r. knows_same c.args.known.now.hg r ≡ false)) (sym c.in_ok-named.ensures.fresh) tt;
  within = omega arith;
  named = λ ps ts over. none-yet c.args.known.now.hg c.args.c.now.files ps c.args.marks.now ts c.in_ok-named.named c.in_ok-named.ensures.rows c.in_ok-named.ensures.fresh;
}

pub loop-file-preserved-then-not-is_blob : goal.loop-file-preserved-then-not-is_blob
loop-file-preserved-then-not-is_blob c =
    let at = file-at c.args.c.now.files c.as_slice-files.result.now c.loop-file.file-index c.file-item.result c.as_slice-files.ensures.rows c.loop-file-test.true c.file-item.is in
    let files = c.args.c.now.files in
    let i = c.loop-file.file-index in
    let up = c.as_slice-files.ensures.files.in_order in
    let off : c.is_blob.result ≡ false = cc c.if-not-is_blob.true in
    record {
      first_seen = c.loop-file.invariant.first_seen;
      second_seen = c.loop-file.invariant.second_seen;
      ahead = ahead-past files up i c.file-item.result at c.loop-file.named.fresh c.loop-file.invariant.ahead;
      rises = c.loop-file.invariant.rises;
      new = c.loop-file.invariant.new;
      within = c.loop-file.invariant.within;
      named = λ ps ts over. past c.args.known.now.hg (c.args.c.now.fresh ++ c.args.known.now.git) files c.args.first.now c.args.second.now ps ts over up c.args.marks.now i c.loop-file.place c.loop-file.named
          (c.loop-file.invariant.named ps ts over) c.file-item.result at (ap is_blob_mode (sym c.mode.ensures) ∙ sym c.is_blob.ensures ∙ off);
    }

pub named_row-requires : goal.named_row-requires
named_row-requires c =
    let at = file-at c.args.c.now.files c.as_slice-files.result.now c.loop-file.file-index c.file-item.result c.as_slice-files.ensures.rows c.loop-file-test.true c.file-item.is in
    let on : c.is_blob.result ≡ true = cc c.if-not-is_blob.false in
    record {
      content = content-at (c.args.c.now.fresh ++ c.args.known.now.git) c.args.c.now.files c.requires.contents.0 c.loop-file.file-index c.file-item.result c.requires.contents.1 at (ap is_blob_mode (sym c.mode.ensures) ∙ sym c.is_blob.ensures ∙ on) c.requires.contents.2;
    }

pub returns-in_default-clause-found : goal.returns-in_default-clause-found
returns-in_default-clause-found c = λ ps ts over.
    let at = file-at c.args.c.now.files c.as_slice-files.result.now c.loop-file.file-index c.file-item.result c.as_slice-files.ensures.rows c.loop-file-test.true c.file-item.is in
    let known = c.args.known.now.hg in
    let objects = c.args.c.now.fresh ++ c.args.known.now.git in
    let files = c.args.c.now.files in
    let i = c.loop-file.file-index in
    let file = c.file-item.result in
    let place = c.loop-file.place in
    let up = c.as_slice-files.ensures.files.in_order in
    let marks = c.args.marks.now in
    let before = c.loop-file.invariant.named ps ts over in
    let on : c.is_blob.result ≡ true = cc c.if-not-is_blob.false in
    let file_is = ap is_blob_mode (sym c.mode.ensures) ∙ sym c.is_blob.ensures ∙ on in
    let mark : Option model.Mark = option_map (λ m. mark_value m.now) c.take_mark-mark.result in
    let t = (here known objects files c.args.first.now c.args.second.now ps ts over up marks i place c.loop-file.named before file at).0 in
    let is : IsFileOver known objects c.loop-file.first_walk c.loop-file.second_walk file ps t =
    subst (λ x. IsFileOver known objects x c.loop-file.second_walk file ps t) (sym c.loop-file.invariant.first_seen)
    (subst (λ x. IsFileOver known objects (c.args.first.now.manifest).now x file ps t) (sym c.loop-file.invariant.second_seen)
    (file-over known objects files c.args.first.now c.args.second.now ps ts over up marks i place c.loop-file.named before file at file_is)) in
    let none : NamesNone ps mark t = subst (λ o. MatchOption o (NamesNone ps mark t) (NamesRow known ps mark t)) c.in_default.is (c.in_ok-made.ensures.found ps t is) in
    none-named known objects files c.args.first.now c.args.second.now ps ts over up marks i place c.loop-file.named before file at file_is mark
    (c.take_mark-mark.ensures.mark ∙ ap (λ (p : Bytes). mark_at p (drop place marks)) c.path.ensures) c.take_mark-mark.ensures.list.1
    c.take_mark-mark.new.place (c.take_mark-mark.ensures.rest ∙ ap (λ (p : Bytes). behind p (drop place marks)) c.path.ensures) none

pub push-requires : goal.push-requires
push-requires c =
    let at = file-at c.args.c.now.files c.as_slice-files.result.now c.loop-file.file-index c.file-item.result c.as_slice-files.ensures.rows c.loop-file-test.true c.file-item.is in
    let path = fresh-path c.args.known.now.hg c.file-item.result.path c.in-Some.made.fresh (subst (λ o. IfSome o (λ made. IsFresh c.args.known.now.hg c.file-item.result.path made.fresh)) c.in-Some.is c.in_ok-made.ensures.fresh) in
    fresh-rises c.loop-file.named.fresh c.in-Some.made.fresh c.file-item.result.path c.loop-file.invariant.rises (ahead-here c.args.c.now.files c.as_slice-files.ensures.files.in_order c.loop-file.file-index c.file-item.result at c.loop-file.named.fresh c.loop-file.invariant.ahead) path

pub loop-file-preserved : goal.loop-file-preserved
loop-file-preserved c =
    let at = file-at c.args.c.now.files c.as_slice-files.result.now c.loop-file.file-index c.file-item.result c.as_slice-files.ensures.rows c.loop-file-test.true c.file-item.is in
    let known = c.args.known.now.hg in
    let objects = c.args.c.now.fresh ++ c.args.known.now.git in
    let files = c.args.c.now.files in
    let i = c.loop-file.file-index in
    let file = c.file-item.result in
    let place = c.loop-file.place in
    let up = c.as_slice-files.ensures.files.in_order in
    let marks = c.args.marks.now in
    let made = c.in-Some.made in
    let on : c.is_blob.result ≡ true = cc c.if-not-is_blob.false in
    let file_is = ap is_blob_mode (sym c.mode.ensures) ∙ sym c.is_blob.ensures ∙ on in
    let new : IsFresh known file.path made.fresh = subst (λ o. IfSome o (λ x. IsFresh known file.path x.fresh)) c.in-Some.is c.in_ok-made.ensures.fresh in
    let mark : Option model.Mark = option_map (λ m. mark_value m.now) c.take_mark-mark.result in
    record {
      first_seen = c.named_row.ensures.first_same ∙ c.loop-file.invariant.first_seen;
      second_seen = c.named_row.ensures.second_same ∙ c.loop-file.invariant.second_seen;
      ahead = subst (IsAhead files (i + 1)) (sym c.in_ok-push.ensures.fresh) (ahead-more files up i file at c.loop-file.named.fresh made.fresh c.loop-file.invariant.ahead (fresh-path known file.path made.fresh new));
      rises = c.in_ok-push.ensures.rises;
      new = subst (Each (λ r. knows_same known r ≡ false)) (sym c.in_ok-push.ensures.fresh) (all-new known file.path c.loop-file.named.fresh made.fresh c.loop-file.invariant.new new);
      within = c.take_mark-mark.ensures.within;
      named = λ ps ts over.
          let before = c.loop-file.invariant.named ps ts over in
          let t = (here known objects files c.args.first.now c.args.second.now ps ts over up marks i place c.loop-file.named before file at).0 in
          let is : IsFileOver known objects c.loop-file.first_walk c.loop-file.second_walk file ps t =
          subst (λ x. IsFileOver known objects x c.loop-file.second_walk file ps t) (sym c.loop-file.invariant.first_seen)
          (subst (λ x. IsFileOver known objects (c.args.first.now.manifest).now x file ps t) (sym c.loop-file.invariant.second_seen)
          (file-over known objects files c.args.first.now c.args.second.now ps ts over up marks i place c.loop-file.named before file at file_is)) in
          let some : NamesRow known ps mark t made = subst (λ o. MatchOption o (NamesNone ps mark t) (NamesRow known ps mark t)) c.in-Some.is (c.in_ok-made.ensures.found ps t is) in
          one-more known objects files c.args.first.now c.args.second.now ps ts over up marks i place c.loop-file.named before file at file_is mark
          (c.take_mark-mark.ensures.mark ∙ ap (λ (p : Bytes). mark_at p (drop place marks)) c.path.ensures)
          c.push.new.self made c.in_ok-push.ensures.rows c.in_ok-push.ensures.fresh c.loop-file.invariant.ahead new
          c.take_mark-mark.new.place (c.take_mark-mark.ensures.rest ∙ ap (λ (p : Bytes). behind p (drop place marks)) c.path.ensures) some;
    }

pub returns-then-has_entry-clause-found : goal.returns-then-has_entry-clause-found
returns-then-has_entry-clause-found c = λ ps ts over.
    left-over c.args.known.now.hg (c.args.c.now.fresh ++ c.args.known.now.git) c.args.c.now.files c.args.first.now c.args.second.now ps ts over c.as_slice-files.ensures.files.in_order c.args.marks.now
    c.loop-file.file-index c.loop-file.place c.loop-file.named (c.loop-file.invariant.named ps ts over) (subst (λ l. length l ≤ c.loop-file.file-index) c.as_slice-files.ensures.rows (omega (arith, c.loop-file-test.false))) c.has_entry.ensures.list.1 (sym c.has_entry.ensures.entry ∙ c.if-has_entry.true)

pub returns-clause-found : goal.returns-clause-found
returns-clause-found c = λ ps ts over.
    all-named c.args.known.now.hg (c.args.c.now.fresh ++ c.args.known.now.git) c.args.c.now.files c.args.first.now c.args.second.now ps ts over c.as_slice-files.ensures.files.in_order c.args.marks.now
    c.loop-file.file-index c.loop-file.place c.loop-file.named (c.loop-file.invariant.named ps ts over) (subst (λ l. length l ≤ c.loop-file.file-index) c.as_slice-files.ensures.rows (omega (arith, c.loop-file-test.false))) c.has_entry.ensures.list.1 (sym c.has_entry.ensures.entry ∙ c.if-has_entry.false)
