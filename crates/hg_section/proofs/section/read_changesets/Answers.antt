use Rattle.std.proofs.Common.{◌≤◌, true≢false, length, sym, ◌∙◌, arith}
use Rattle.state_model.specs.Limits.{changeset_limit}
use Rattle.hg_section.proofs.Dumped.{no-again, no-many, no-written, is-section}
use Rattle.hg_section.proofs.section.read_changesets.Goals as goal

pub returns-in_default-2 : goal.returns-in_default-2
returns-in_default-2 c =
    no-again c.args.bytes.now c.in-Some.store c.in-Some.arrivals (rw c.in-Some.is at c.in_ok-store.ensures) (rw c.in_default-2.is at c.in_ok-nodes.ensures)

pub returns-then-len-gt-CHANGESET_LIMIT : goal.returns-then-len-gt-CHANGESET_LIMIT
returns-then-len-gt-CHANGESET_LIMIT c =
    let nodes = rw c.in-Some-2.is at c.in_ok-nodes.ensures in
    no-many c.args.bytes.now c.in-Some.store c.in-Some.arrivals (rw c.in-Some.is at c.in_ok-store.ensures) c.in-Some-2.nodes nodes.1
    (omega (arith, c.if-len-gt-CHANGESET_LIMIT.true, c.len.ensures))

pub returns-then-not-branch : goal.returns-then-not-branch
returns-then-not-branch c =
    let nodes = rw c.in-Some-2.is at c.in_ok-nodes.ensures in
    no-written c.args.bytes.now c.in-Some.store c.in-Some.arrivals (rw c.in-Some.is at c.in_ok-store.ensures) c.in-Some-2.nodes nodes.1
    (λ hs written. true≢false (sym (c.in_ok-is_written.ensures.no hs (rw c.as_slice.ensures written)) ∙ c.if-not-branch.true))

pub returns : goal.returns
returns c =
    let nodes = rw c.in-Some-2.is at c.in_ok-nodes.ensures in
    let few : length c.in-Some-2.nodes ≤ changeset_limit = omega (arith, c.if-len-gt-CHANGESET_LIMIT.false, c.len.ensures) in
    let written = rw (c.if-not-branch.false, c.as_slice.ensures) at c.in_ok-is_written.ensures.yes in
    is-section c.args.bytes.now c.in-Some.store c.in-Some.arrivals (rw c.in-Some.is at c.in_ok-store.ensures) nodes.0 c.in-Some-2.nodes nodes.1 few written.0 written.1
