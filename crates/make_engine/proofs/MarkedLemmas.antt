-- Commits that are held, and how many of them are marked.
use Rattle.std.proofs.Common.{◌≡◌, ◌+◌, ◌≤◌, ◌==◌, ℕ, zero, suc, Bool, not, cond, List, [], ◌∷◌, length, take, slice_get, Some, None, refl, sym, ap, subst, ◌∙◌, arith}
use Rattle.std.specs.Prelude.{count_by}
use Rattle.std.proofs.lemmas.List.{take_all}
use Rattle.std.proofs.lemmas.List.Sums.{sum_by-cons}
use Rattle.text_model.specs.Text.{Bytes}
use Rattle.text_model.specs.Id.{Id, commit}
use Rattle.text_model.proofs.Options.{some_is, none_some}
use Rattle.git_model.specs.Commit.{Commit, IsCommitText}
use Rattle.git_model.specs.Object.{Object}
use Rattle.git_model.proofs.OneTextLemmas.{one_commit}
use Rattle.git_store.specs.Known.{content_at, IsCommitAt}
use Rattle.view_model.specs.View.{CommitView}
use Rattle.view_model.specs.Held.{IsCommitHeld, AreCommitsHeld}
use Rattle.command_model.specs.Made.{is_marked}
use Rattle.pair_known.proofs.HeldCommits.{held-at}

abbrev one_for : Bool → ℕ
one_for b = cond {A = ℕ} b 1 0

module _ (known : List Object) where
  -- a commit that is held has one value
  one-value : (id : Id) (c : CommitView) (v : Commit) → IsCommitHeld known id c → IsCommitAt known id v → v ≡ c.value
  one-value id c v held at =
      let is = held-at known id c held in
      one_commit is.content v c.value (subst (λ (t : Bytes). IsCommitText t v) (some_is (sym at.held ∙ is.held)) at.is) is.is

  pub marked-at : (id : Id) (v : Commit) (empty : Bool) → IsCommitAt known id v → empty ≡ (length v.headers == 0) → (c : CommitView) → IsCommitHeld known id c → not empty ≡ is_marked c
  marked-at id v empty at is c held = ap not (is ∙ ap (λ (x : Commit). length x.headers == 0) (one-value id c v held at))

  pub no-commit : (id : Id) (b : Bool) → content_at commit known id ≡ None → (c : CommitView) → IsCommitHeld known id c → b ≡ is_marked c
  no-commit id b none c held = absurd (none_some (sym none ∙ (held-at known id c held).held))

  -- one commit more
  counted-suc : (ids : List Id) (cs : List CommitView) → AreCommitsHeld known ids cs → (i : ℕ) (id : Id) → slice_get ids i ≡ Some id → (marked : Bool) → ((c : CommitView) → IsCommitHeld known id c → marked ≡ is_marked c)
      → count_by is_marked (take (suc i) cs) ≡ count_by is_marked (take i cs) + one_for marked
  counted-suc [] cs are i id at marked is = absurd (none_some at)
  counted-suc (n ∷ ids) [] are i id at marked is = absurd are
  counted-suc (n ∷ ids) (c ∷ cs) are zero id at marked is = ap (λ (b : Bool). 0 + one_for b) (sym (is c (subst (λ (x : Id). IsCommitHeld known x c) (some_is at) are.0)))
  counted-suc (n ∷ ids) (c ∷ cs) are (suc i) id at marked is =
      let rest = counted-suc ids cs are.1 i id at marked is in
      let more = sum_by-cons (λ (v : CommitView). one_for (is_marked v)) c (take (suc i) cs) in
      let less = sum_by-cons (λ (v : CommitView). one_for (is_marked v)) c (take i cs) in
      omega (arith, rest, more, less)

  pub counted-next : (ids : List Id) (cs : List CommitView) → AreCommitsHeld known ids cs → (i : ℕ) (id : Id) → slice_get ids i ≡ Some id → (marked : Bool) → ((c : CommitView) → IsCommitHeld known id c → marked ≡ is_marked c)
      → count_by is_marked (take (i + 1) cs) ≡ count_by is_marked (take i cs) + one_for marked
  counted-next ids cs are i id at marked is =
      let next : i + 1 ≡ suc i = omega arith in
      ap (λ (n : ℕ). count_by is_marked (take n cs)) next ∙ counted-suc ids cs are i id at marked is

  same-number : (ids : List Id) (cs : List CommitView) → AreCommitsHeld known ids cs → length cs ≡ length ids
  same-number [] [] are = refl
  same-number [] (c ∷ cs) are = absurd are
  same-number (id ∷ ids) [] are = absurd are
  same-number (id ∷ ids) (c ∷ cs) are = ap suc (same-number ids cs are.1)

  -- all of them
  pub whole : (ids : List Id) (cs : List CommitView) → AreCommitsHeld known ids cs → (i : ℕ) → length ids ≤ i → take i cs ≡ cs
  whole ids cs are i past = take_all i cs (omega (arith, past, same-number ids cs are))
