-- Commits that can be saved are found in what their dump brings.
use Rattle.std.proofs.Common.{◌≡◌, List, [], map, Result, Ok, sym, ap, subst, ◌∙◌}
use Rattle.text_model.specs.Text.{Bytes}
use Rattle.text_model.specs.Id.{Id}
use Rattle.text_model.specs.Fault.{Refusal}
use Rattle.git_model.specs.Object.{Object, objects_after_all}
use Rattle.git_model.specs.Stream.{Placed, stream_reading}
use Rattle.view_model.specs.View.{CommitView, commit_id}
use Rattle.state_model.specs.Kept.{git_dump}
use Rattle.state_model.specs.Saved.{AreCommitsSaved}
use Rattle.git_dump.specs.Commits.{AreWalkableCommits}
use Rattle.dump_law.proofs.Commits.{git-ids}
use Rattle.dump_law.proofs.CommitsHeld.{git-held, git-walks}
use Rattle.dump_law.proofs.StreamRead.{git-brings}
use Rattle.git_section.specs.declared.section.GitSection.{GitSection}
use Rattle.git_section.specs.Sections.{IsRead, objects_of, commit_ids}
use Rattle.git_section.proofs.Written.{written, once_written}

ok_is : (r : Result (List Placed) Refusal) (x y : List Placed) → r ≡ Ok x → r ≡ Ok y → x ≡ y
ok_is r x y a b = cc

pub walkable : (bytes : Bytes) (s : GitSection) → IsRead bytes s → (cs : List CommitView) → AreCommitsSaved cs → git_dump cs ≡ bytes → AreWalkableCommits s.store s.ids cs
walkable bytes s read cs saved dump =
    let brings = git-brings cs saved in
    let placed : read.placed ≡ brings.0 = ok_is (stream_reading [] bytes) read.placed brings.0 read.reads (ap (stream_reading []) (sym dump) ∙ brings.1) in
    let are : objects_of read.placed ≡ written cs = ap objects_of placed ∙ brings.2 in
    let ids : s.ids ≡ map commit_id cs = read.ids ∙ ap commit_ids are ∙ git-ids cs saved in
    let store : s.store ≡ objects_after_all [] (written cs) = read.holds ∙ are ∙ sym (once_written cs) in
    subst (λ (known : List Object). AreWalkableCommits known s.ids cs) (sym store)
    (subst (λ (l : List Id). AreWalkableCommits (objects_after_all [] (written cs)) l cs) (sym ids) (git-held cs saved, git-walks cs saved))
