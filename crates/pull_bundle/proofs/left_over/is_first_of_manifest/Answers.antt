use Rattle.std.proofs.Common.{◌≡◌, ◌⊎◌, Bool, true, false, true≢false, not, Result, Ok, Err, inl, inr, refl, sym, ap, ◌∙◌}
use Rattle.std.specs.Prelude.{IfOk, OnOk}
use Rattle.std.proofs.lemmas.Result.{IfOk-weaker}
use Rattle.text_model.specs.Id.{Id, has_id}
use Rattle.pair_state.proofs.MadeCommit.{inserted}
use Rattle.pull_bundle.specs.LeftOver.{NamesManifest}
use Rattle.pull_bundle.proofs.LinkNames.{same-manifest}
use Rattle.pull_bundle.proofs.left_over.is_first_of_manifest.Goals as goal

ok-then : {A E : Type 0} (r : Result A E) (P : A → Type 0) (Q : Type 0) → ((x : A) → P x → Q) → IfOk r P → OnOk r Q
ok-then (Ok x) P Q f h = f x h
ok-then (Err e) P Q f h = tt

was-there : (b : Bool) → not b ≡ false → b ≡ true
was-there true h = refl
was-there false h = absurd (true≢false h)

pub returns-in-Some-clause-again : goal.returns-in-Some-clause-again
returns-in-Some-clause-again c =
    IfOk-weaker c.insert.result _ _
    (λ first is no m names. ap (has_id c.args.manifests.now) (same-manifest c.args.hg.now c.args.node.now _ _ m _ c.in-Some.ensures.value names) ∙ was-there _ (sym is ∙ no)) c.insert.ensures.new

pub returns-in-Some-clause-named : goal.returns-in-Some-clause-named
returns-in-Some-clause-named c = ok-then c.insert.result _ _ (λ new is m h. by m (inserted c.insert.new.self c.args.manifests.now c.in-Some.changeset.now.manifest new is m h)) c.insert.ensures.ok
  where
    by : (m : Id) → (has_id c.args.manifests.now m ≡ true) ⊎ (m ≡ c.in-Some.changeset.now.manifest) → (has_id c.args.manifests.now m ≡ true) ⊎ NamesManifest c.args.hg.now c.args.node.now m
    by m (inl e) = inl e
    by m (inr q) = inr (record { p = _; q = _; fields = _; changeset = c.in-Some.ensures.value; names = q })
