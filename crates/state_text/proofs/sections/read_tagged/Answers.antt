use Rattle.std.proofs.Common.{◌<◌, ◌^◌, length, codes, arith}
use Rattle.state_text.proofs.ReadLemmas.{text-short, no-tags}
use Rattle.state_text.proofs.sections.read_tagged.Goals as goal

pub returns-in_default-2 : goal.returns-in_default-2
returns-in_default-2 c = λ cs holds size.
    let bytes = c.args.bytes.now in
    let part = c.in-Some.part in
    let long : length bytes < 2 ^ 64 = omega arith in
    let none = rw c.in_default-2.is at (c.in_ok-section.ensures cs holds size) in
    no-tags bytes part.text.now part.rest.now (text-short (codes "tags") bytes part.text.now part.rest.now long c.in-Some.ensures) cs c.in-Some.ensures none
