use Rattle.state_text.proofs.ReadLemmas.{no-commits}
use Rattle.state_text.proofs.sections.read_git.Goals as goal

pub returns-in_default-2 : goal.returns-in_default-2
returns-in_default-2 c =
    let bytes = c.args.bytes.now in
    let part = c.in-Some.part in
    let section = rw c.in-Some.is at c.in_ok-part.ensures.section in
    let short = rw c.in-Some.is at c.in_ok-part.ensures.short in
    let none = rw c.in_default-2.is at c.in_ok-section.ensures in
    no-commits bytes part.text part.rest.now short section none
