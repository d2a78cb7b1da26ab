use Rattle.std.proofs.Common.{◌≡◌, List, [], false, true≢false, Option, sym, subst, ◌∙◌}
use Rattle.std.specs.Prelude.{MatchOption}
use Rattle.text_model.specs.Id.{Id}
use Rattle.git_model.specs.Stream.{stream_reading}
use Rattle.git_dump.specs.Commits.{AreWalkableCommits}
use Rattle.git_section.specs.declared.section.GitSection.{GitSection}
use Rattle.git_section.specs.Sections.{IsRead, brings_once}
use Rattle.git_section.proofs.Reading.{no_dump}
use Rattle.git_section.proofs.Sound.{saved, holds}
use Rattle.git_section.proofs.Written.{has_written, is_dump}
use Rattle.git_section.proofs.Whole.{walkable}
use Rattle.git_section.proofs.commits.read_commits.Goals as goal

pub returns-in_default : goal.returns-in_default
returns-in_default g c =
    let bytes = c.args.bytes.now in
    no_dump bytes (subst (λ (o : Option GitSection). MatchOption o (brings_once (stream_reading [] bytes) ≡ false) (IsRead bytes)) c.in_default.is c.in_ok-section.ensures)

pub returns-then-not-branch : goal.returns-then-not-branch
returns-then-not-branch g c = λ cs s e.
    let bytes = c.args.bytes.now in
    let section = c.in-Some.section in
    let read = subst (λ (o : Option GitSection). MatchOption o (brings_once (stream_reading [] bytes) ≡ false) (IsRead bytes)) c.in-Some.is c.in_ok-section.ensures in
    let are = subst (λ (l : List Id). AreWalkableCommits section.store l cs) (sym c.as_slice.ensures) (walkable bytes section read cs s e) in
    let no : c.in_ok-have_walks.field-0 ≡ false = cc c.if-not-branch.true in
    true≢false (sym (c.in_ok-have_walks.ensures.1 (cs, are)) ∙ no)

pub returns-then-is_whole : goal.returns-then-is_whole
returns-then-is_whole g c =
    let bytes = c.args.bytes.now in
    let section = c.in-Some.section in
    let read = subst (λ (o : Option GitSection). MatchOption o (brings_once (stream_reading [] bytes) ≡ false) (IsRead bytes)) c.in-Some.is c.in_ok-section.ensures in
    let all = c.in_ok-have_walks.ensures.0 (cc c.if-not-branch.false) in
    let are = subst (λ (l : List Id). AreWalkableCommits section.store l all.0) c.as_slice.ensures all.1 in
    let dump = is_dump bytes section read all.0 ((c.in_ok-is_whole.ensures all.0 (subst (λ (l : List Id). AreWalkableCommits section.store l all.0) (sym c.as_slice-2.ensures) are)).0 c.if-is_whole.true) in
    (all.0, saved bytes section read all.0 are dump, dump, holds bytes section read all.0 are dump)

pub returns-else-is_whole : goal.returns-else-is_whole
returns-else-is_whole g c = λ cs s e.
    let bytes = c.args.bytes.now in
    let section = c.in-Some.section in
    let read = subst (λ (o : Option GitSection). MatchOption o (brings_once (stream_reading [] bytes) ≡ false) (IsRead bytes)) c.in-Some.is c.in_ok-section.ensures in
    let are = subst (λ (l : List Id). AreWalkableCommits section.store l cs) (sym c.as_slice-2.ensures) (walkable bytes section read cs s e) in
    true≢false (sym ((c.in_ok-is_whole.ensures cs are).1 (has_written bytes section read cs e)) ∙ c.if-is_whole.false)
