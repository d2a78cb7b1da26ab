use Rattle.std.proofs.Common.{◌≡◌, true, true≢false, Option, Some, None, sym, ap, ◌∙◌}
use Rattle.std.specs.Prelude.{not, MatchOption, is_some}
use Rattle.git_model.specs.Commit.{Commit}
use Rattle.git_model.specs.Unfold.{walk_fault}
use Rattle.pair_tests.proofs.drafts.reads_commit.Goals as goal

some-of : {T : Type 0} (o : Option T) (P : Type 0) (Q : T → Type 0) → is_some o ≡ true → MatchOption o P Q → (x : T) × Q x
some-of (Some x) P Q h m = (x, m)
some-of None P Q h m = absurd (true≢false (sym h))

pub read_commit_draft-requires : goal.read_commit_draft-requires
read_commit_draft-requires c =
    let at = some-of c.commit.result _ _ (c.is_none.ensures ∙ ap not c.if-is_none.false) c.commit.ensures.commit in
    record { held = (at.1.content, at.1.held) }

pub draft_of_commit-requires : goal.draft_of_commit-requires
draft_of_commit-requires c =
    let h = c.commits_are_held.ensures.held (c.in_ok-read.read.commit) c.in_ok-read.ensures.fields c.in_ok-read.ensures.walks in
    record { held = (h.0, h.1, ap (λ (v : Commit). walk_fault c.args.known.now.git v.tree_id) h.2 ∙ c.in_ok-read.ensures.walks) }
