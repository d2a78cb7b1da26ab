use Rattle.state_part.proofs.PairLemmas.{no_line, no_space, no_commit, no_node, found}
use Rattle.state_part.proofs.map.read_pair.Goals as goal

pub returns-in_err-line : goal.returns-in_err-line
returns-in_err-line c = rw c.from_residual.ensures (no_line c.args.bytes.now c.in_err-line.ensures)

pub returns-in_err-commit : goal.returns-in_err-commit
returns-in_err-commit c = rw c.from_residual-in_err-commit.ensures (no_space c.args.bytes.now c.in_ok-line.line.now c.in_ok-line.rest.now c.in_ok-line.ensures c.in_err-commit.ensures)

pub returns-in_err-from_hex : goal.returns-in_err-from_hex
returns-in_err-from_hex c =
    rw c.from_residual-in_err-from_hex.ensures
    (no_commit c.args.bytes.now c.in_ok-line.line.now c.in_ok-line.rest.now c.in_ok-commit.commit.now c.in_ok-commit.node.now c.in_ok-line.ensures c.in_ok-commit.ensures c.in_err-from_hex.ensures)

pub returns-in_err-from_hex-2 : goal.returns-in_err-from_hex-2
returns-in_err-from_hex-2 c =
    rw c.from_residual-in_err-from_hex-2.ensures
    (no_node c.args.bytes.now c.in_ok-line.line.now c.in_ok-line.rest.now c.in_ok-commit.commit.now c.in_ok-commit.node.now c.in_ok-line.ensures c.in_ok-commit.ensures c.in_err-from_hex-2.ensures)

pub returns : goal.returns
returns c =
    found c.args.bytes.now c.in_ok-line.line.now c.in_ok-line.rest.now c.in_ok-commit.commit.now c.in_ok-commit.node.now
    (record { commit = c.in_ok-from_hex.field-0; node = c.in_ok-from_hex-2.field-0 }) c.in_ok-line.ensures c.in_ok-commit.ensures c.in_ok-from_hex.ensures c.in_ok-from_hex-2.ensures
