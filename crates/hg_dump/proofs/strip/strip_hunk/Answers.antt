use Rattle.std.proofs.Common.{◌++◌, ◌-◌, length, take, drop, subst, sym, arith, length-drop}
use Rattle.std.proofs.lemmas.List.{take_all}
use Rattle.byteorder.specs.Endian.{big_bytes}
use Rattle.text_model.specs.Text.{Bytes}
use Rattle.hg_dump.specs.Begins.{LacksFront, HasFront}
use Rattle.hg_dump.proofs.StripLemmas.{has-both, lacks-first, lacks-second, hunk-spelled}
use Rattle.hg_dump.proofs.ToldLemmas.{hunk-behind}
use Rattle.hg_dump.proofs.strip.strip_hunk.Goals as goal

pub returns-in_err-finish : goal.returns-in_err-finish
returns-in_err-finish c =
    let bytes = c.args.bytes.now in
    let text = c.args.text.now in
    let start = big_bytes 4 0 in
    let finish = big_bytes 4 c.args.base_len in
    let len = big_bytes 4 (length text) in
    rw c.from_residual.ensures
    (subst (λ (f : Bytes). LacksFront bytes f) (hunk-spelled c.args.base_len text)
    (lacks-first bytes (start ++ finish ++ len) text (lacks-first bytes (start ++ finish) len (lacks-first bytes start finish c.in_err-finish.ensures))))

pub returns-in_err-len : goal.returns-in_err-len
returns-in_err-len c =
    let bytes = c.args.bytes.now in
    let text = c.args.text.now in
    let start = big_bytes 4 0 in
    let finish = big_bytes 4 c.args.base_len in
    let len = big_bytes 4 (length text) in
    rw c.from_residual-in_err-len.ensures
    (subst (λ (f : Bytes). LacksFront bytes f) (hunk-spelled c.args.base_len text)
    (lacks-first bytes (start ++ finish ++ len) text (lacks-first bytes (start ++ finish) len (lacks-second bytes start finish c.in_ok-finish.finish.now c.in_ok-finish.ensures c.in_err-len.ensures))))

pub returns-in_err-new : goal.returns-in_err-new
returns-in_err-new c =
    let bytes = c.args.bytes.now in
    let text = c.args.text.now in
    let start = big_bytes 4 0 in
    let finish = big_bytes 4 c.args.base_len in
    let len = big_bytes 4 (length text) in
    let two = has-both bytes start finish c.in_ok-finish.finish.now c.in_ok-len.len.now c.in_ok-finish.ensures c.in_ok-len.ensures in
    rw c.from_residual-in_err-new.ensures
    (subst (λ (f : Bytes). LacksFront bytes f) (hunk-spelled c.args.base_len text)
    (lacks-first bytes (start ++ finish ++ len) text (lacks-second bytes (start ++ finish) len c.in_ok-len.len.now two c.in_err-new.ensures)))

pub returns : goal.returns
returns c =
    let bytes = c.args.bytes.now in
    let text = c.args.text.now in
    let new = c.in_ok-new.new.now in
    let start = big_bytes 4 0 in
    let finish = big_bytes 4 c.args.base_len in
    let len = big_bytes 4 (length text) in
    let two = has-both bytes start finish c.in_ok-finish.finish.now c.in_ok-len.len.now c.in_ok-finish.ensures c.in_ok-len.ensures in
    let three = has-both bytes (start ++ finish) len c.in_ok-len.len.now new two c.in_ok-new.ensures in
    let behind = hunk-behind bytes new text c.args.base_len c.requires.told c.ranges.base_len.fits c.requires.short three in
    let all = take_all (length new - length text) (drop (length text) new) (omega (arith, length-drop (length text) new)) in
    subst (λ (f : Bytes). HasFront bytes f (take (length new - length text) (drop (length text) new))) (hunk-spelled c.args.base_len text)
    (has-both bytes (start ++ finish ++ len) text new (take (length new - length text) (drop (length text) new)) three (subst (λ (x : Bytes). HasFront new text x) (sym all) behind.1))
