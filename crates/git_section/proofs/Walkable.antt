-- Commits whose trees can be walked through, one by one.
use Rattle.std.proofs.Common.{◌≡◌, ◌<◌, ◌+◌, ◌++◌, ℕ, List, [], ◌∷◌, length, take, get_or, None, sym, ap, subst, ◌∙◌}
use Rattle.std.proofs.lemmas.List.{take_more}
use Rattle.text_model.specs.Id.{Id}
use Rattle.git_model.specs.Commit.{Commit}
use Rattle.git_model.specs.Object.{Object}
use Rattle.git_model.specs.Unfold.{walk_fault}
use Rattle.git_store.specs.Known.{AreKnown, IsCommitAt}
use Rattle.view_model.specs.View.{CommitView}
use Rattle.view_model.specs.Held.{IsCommitHeld}
use Rattle.git_dump.specs.Commits.{IsWalkableCommit, AreWalkableCommits}
use Rattle.git_dump.proofs.CommitLemmas.{tree-is}

-- ---- one commit

module _ (known : List Object) (id : Id) where
  pub walks : (v : Commit) (root : Id) → root ≡ v.tree_id → walk_fault known root ≡ None → ((c : CommitView) × IsCommitHeld known id c × (c.value ≡ v)) → (c : CommitView) × IsWalkableCommit known id c
  walks v root same none held = (held.0, (held.1, ap (λ (x : Commit). walk_fault known x.tree_id) held.2 ∙ ap (walk_fault known) (sym same) ∙ none))

  module _ (are : AreKnown known) (is : (c : CommitView) × IsWalkableCommit known id c) where
    pub has_walk : (v : Commit) (root : Id) → IsCommitAt known id v → root ≡ v.tree_id → walk_fault known root ≡ None
    has_walk v root at same = ap (walk_fault known) (same ∙ tree-is known are id is.0 is.1 v at) ∙ is.1.1

-- ---- one after the other

append_one : (known : List Object) (ids : List Id) (cs : List CommitView) (id : Id) (c : CommitView) → AreWalkableCommits known ids cs → IsWalkableCommit known id c → AreWalkableCommits known (ids ++ id ∷ []) (cs ++ c ∷ [])
append_one known [] [] id c are is = ((is.0, tt), (is.1, tt))
append_one known [] (d ∷ cs) id c are is = absurd are.0
append_one known (i ∷ ids) [] id c are is = absurd are.0
append_one known (i ∷ ids) (d ∷ cs) id c are is = let rest = append_one known ids cs id c (are.0.1, are.1.1) is in ((are.0.0, rest.0), (are.1.0, rest.1))

pub one_more : (known : List Object) (ids : List Id) (i : ℕ) (id : Id) → i < length ids → id ≡ get_or ids i id → ((cs : List CommitView) × AreWalkableCommits known (take i ids) cs) → ((c : CommitView) × IsWalkableCommit known id c)
    → (cs : List CommitView) × AreWalkableCommits known (take (i + 1) ids) cs
one_more known ids i id below is are one =
    let next : take (i + 1) ids ≡ take i ids ++ id ∷ [] = take_more ids i id below ∙ ap (λ (x : Id). take i ids ++ x ∷ []) (sym is) in
    (are.0 ++ one.0 ∷ [], subst (λ (l : List Id). AreWalkableCommits known l (are.0 ++ one.0 ∷ [])) (sym next) (append_one known (take i ids) are.0 id one.0 are.1 one.1))
