use Rattle.std.proofs.Common.{sym}
use Rattle.hg_changeset.proofs.EscapeLemmas.{first_byte-takes, spelled-start, spelled-more, spelled-bad, spelled-all}
use Rattle.hg_changeset.proofs.escape.unescaped.Goals as goal

pub bytes-init : goal.bytes-init
bytes-init c = rw c.new-bytes.ensures (spelled-start c.args.text.now)

pub bytes-smaller : goal.bytes-smaller
bytes-smaller c = (first_byte-takes c.bytes.rest.now c.in-Some.byte c.in-Some.after.now (sym c.in-Some.ensures)).shorter

pub bytes-preserved : goal.bytes-preserved
bytes-preserved c =
    rw c.in_ok-push.ensures.ok (spelled-more c.args.text.now c.bytes.bytes c.bytes.rest.now c.in-Some.byte c.in-Some.after.now c.bytes.invariant (first_byte-takes c.bytes.rest.now c.in-Some.byte c.in-Some.after.now (sym c.in-Some.ensures)))

pub returns-in_default : goal.returns-in_default
returns-in_default c = sym (spelled-bad c.args.text.now c.bytes.bytes c.bytes.rest.now c.bytes.invariant (sym c.bytes-test.ensures) (sym c.in_default.ensures))

pub returns : goal.returns
returns c = sym (spelled-all c.args.text.now c.bytes.bytes c.bytes.rest.now c.bytes.invariant (sym c.bytes-test.ensures))
