use Rattle.std.proofs.Common.{◌+◌, ◌++◌, subst}
use Rattle.byteorder.specs.Endian.{big_bytes}
use Rattle.text_model.specs.Text.{Bytes}
use Rattle.hg_dump.specs.Begins.{LacksFront, IsBehind}
use Rattle.hg_dump.proofs.StripLemmas.{has-both, lacks-first, lacks-second, behind-both}
use Rattle.hg_dump.proofs.strip.strip_header.Goals as goal

pub returns-in_err-other-clause-behind : goal.returns-in_err-other-clause-behind
returns-in_err-other-clause-behind c =
    let bytes = c.args.bytes.now in
    let number = big_bytes 4 (c.args.delta_len + 84) in
    let node = c.bytes-node.result in
    let first = c.bytes-first.result in
    let second = c.bytes-second.result in
    let link = c.bytes-link.result in
    rw c.from_residual-in_err-other.ensures
    (subst (λ (f : Bytes). LacksFront bytes f) (λ i. number ++ c.bytes-node.ensures.bytes i ++ c.bytes-first.ensures.bytes i ++ c.bytes-second.ensures.bytes i ++ c.bytes-link.ensures.bytes i)
    (lacks-first bytes (number ++ node ++ first ++ second) link (lacks-first bytes (number ++ node ++ first) second (lacks-second bytes (number ++ node) first c.in_ok-parents.parents.now (has-both bytes number node c.in_ok-ids.ids.now c.in_ok-parents.parents.now c.in_ok-ids.ensures c.in_ok-parents.ensures) c.in_err-other.ensures))))

pub returns-in_err-last-clause-behind : goal.returns-in_err-last-clause-behind
returns-in_err-last-clause-behind c =
    let bytes = c.args.bytes.now in
    let number = big_bytes 4 (c.args.delta_len + 84) in
    let node = c.bytes-node.result in
    let first = c.bytes-first.result in
    let second = c.bytes-second.result in
    let link = c.bytes-link.result in
    rw c.from_residual-in_err-last.ensures
    (subst (λ (f : Bytes). LacksFront bytes f) (λ i. number ++ c.bytes-node.ensures.bytes i ++ c.bytes-first.ensures.bytes i ++ c.bytes-second.ensures.bytes i ++ c.bytes-link.ensures.bytes i)
    (lacks-first bytes (number ++ node ++ first ++ second) link (lacks-second bytes (number ++ node ++ first) second c.in_ok-other.other.now (has-both bytes (number ++ node) first c.in_ok-parents.parents.now c.in_ok-other.other.now (has-both bytes number node c.in_ok-ids.ids.now c.in_ok-parents.parents.now c.in_ok-ids.ensures c.in_ok-parents.ensures) c.in_ok-other.ensures) c.in_err-last.ensures)))

pub returns-clause-behind : goal.returns-clause-behind
returns-clause-behind c =
    let bytes = c.args.bytes.now in
    let number = big_bytes 4 (c.args.delta_len + 84) in
    let node = c.bytes-node.result in
    let first = c.bytes-first.result in
    let second = c.bytes-second.result in
    let link = c.bytes-link.result in
    subst (λ (f : Bytes). IsBehind bytes f c.strip-4.result) (λ i. number ++ c.bytes-node.ensures.bytes i ++ c.bytes-first.ensures.bytes i ++ c.bytes-second.ensures.bytes i ++ c.bytes-link.ensures.bytes i)
    (behind-both bytes (number ++ node ++ first ++ second) link c.in_ok-last.last.now c.strip-4.result
    (has-both bytes (number ++ node ++ first) second c.in_ok-other.other.now c.in_ok-last.last.now (has-both bytes (number ++ node) first c.in_ok-parents.parents.now c.in_ok-other.other.now (has-both bytes number node c.in_ok-ids.ids.now c.in_ok-parents.parents.now c.in_ok-ids.ensures c.in_ok-parents.ensures) c.in_ok-other.ensures) c.in_ok-last.ensures)
    c.strip-4.ensures)
