-- Commits whose dump was read can be saved, and the section holds them.
use Rattle.std.proofs.Common.{◌≡◌, ◌≤◌, true, List, [], ◌∷◌, length, map, refl, sym, ap, ◌∙◌, arith}
use Rattle.std.specs.Prelude.{is_ok}
use Rattle.text_model.specs.Lists.{Each}
use Rattle.text_model.specs.Text.{Bytes}
use Rattle.text_model.specs.Limits.{rows_limit}
use Rattle.text_model.specs.Id.{Id, commit, same_kind}
use Rattle.git_model.specs.Tree.{has_distinct}
use Rattle.git_model.specs.Object.{Object}
use Rattle.git_model.specs.Stream.{stream_reading}
use Rattle.git_store.specs.Known.{AreKnown}
use Rattle.view_model.specs.View.{CommitView, IsCommitView, commit_id, rows_size}
use Rattle.view_model.specs.Held.{AreCommitsHeld}
use Rattle.view_model.specs.Dump.{objects_in}
use Rattle.state_model.specs.Kept.{git_dump}
use Rattle.state_model.specs.Saved.{AreCommitsSaved}
use Rattle.git_view.proofs.Held.{held-id}
use Rattle.git_view.proofs.Right.{held-is_view}
use Rattle.git_dump.specs.Commits.{AreWalkableCommits}
use Rattle.git_dump.proofs.There.{all_there}
use Rattle.git_section.specs.declared.section.GitSection.{GitSection}
use Rattle.git_section.specs.Sections.{HoldsCommits, IsRead, objects_of, commit_ids}
use Rattle.git_section.proofs.Sizes.{rows_within}
use Rattle.git_section.proofs.Distinct.{distinct_filter, distinct_new}
use Rattle.git_section.proofs.Known.{one_content}
use Rattle.git_section.proofs.Written.{written, stream, same, has_written, once_written}

module _ (known : List Object) (are : AreKnown known) where
  ids_are : (ids : List Id) (cs : List CommitView) → AreCommitsHeld known ids cs → ids ≡ map commit_id cs
  ids_are [] [] held = refl
  ids_are [] (c ∷ cs) held = absurd held
  ids_are (id ∷ ids) [] held = absurd held
  ids_are (id ∷ ids) (c ∷ cs) held = (λ i. sym (held-id known are id c held.0) i ∷ ids_are ids cs held.1 i)

  views : (ids : List Id) (cs : List CommitView) → AreWalkableCommits known ids cs → Each IsCommitView cs
  views [] [] w = tt
  views [] (c ∷ cs) w = absurd w.0
  views (id ∷ ids) [] w = absurd w.0
  views (id ∷ ids) (c ∷ cs) w = (held-is_view known are id c w.0.0 w.1.0, views ids cs (w.0.1, w.1.1))

  rows : (ids : List Id) (cs : List CommitView) → AreWalkableCommits known ids cs → Each (λ c. rows_size c ≤ rows_limit) cs
  rows [] [] w = tt
  rows [] (c ∷ cs) w = absurd w.0
  rows (id ∷ ids) [] w = absurd w.0
  rows (id ∷ ids) (c ∷ cs) w = (rows_within known id c are.are w.0.0 w.1.0, rows ids cs (w.0.1, w.1.1))

module _ (bytes : Bytes) (s : GitSection) (read : IsRead bytes s) (cs : List CommitView) (are : AreWalkableCommits s.store s.ids cs) (dump : git_dump cs ≡ bytes) where
  ids : s.ids ≡ map commit_id cs
  ids = ids_are s.store read.known s.ids cs are.0

  are_written : written cs ≡ objects_of read.placed
  are_written = same bytes s read cs dump

  distinct : has_distinct (map commit_id cs) ≡ true
  distinct =
      ap has_distinct (sym ids ∙ read.ids ∙ ap commit_ids (sym are_written))
      ∙ distinct_filter (λ (o : Object). same_kind commit o.kind) (written cs) (distinct_new (objects_in cs))

  pub saved : AreCommitsSaved cs
  saved = record {
    views = views s.store read.known s.ids cs are;
    distinct = distinct;
    short = omega (arith, (stream bytes s read).fits, ap (λ (l : Bytes). length l) dump);
    read = ap (λ (l : Bytes). is_ok (stream_reading [] l)) dump ∙ ap is_ok read.reads;
    rows = rows s.store read.known s.ids cs are;
    one = one_content s.store (objects_in cs) (λ o i. all_there s.store read.known s.ids cs o are i);
  }

  pub holds : HoldsCommits s cs
  holds = record {
    ids = ids;
    held = are.0;
    walks = are.1;
    known = has_written bytes s read cs dump ∙ sym (once_written cs);
    sound = read.known;
  }
