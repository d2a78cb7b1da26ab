use Rattle.std.proofs.Common.{◌≡◌, false, true≢false, sym, ◌∙◌, Result, Ok, Err}
use Rattle.std.specs.Prelude.{is_err, MatchResult}
use Rattle.pair_tests.proofs.drafts.reads_changeset.Goals as goal

ok-of : {T E : Type 0} (r : Result T E) (P : T → Type 0) (Q : E → Type 0) → is_err r ≡ false → MatchResult r P Q → (x : T) × P x
ok-of (Ok x) P Q h m = (x, m)
ok-of (Err e) P Q h m = absurd (true≢false h)

pub draft_of_changeset-requires : goal.draft_of_changeset-requires
draft_of_changeset-requires c = record { view = ok-of c.view_of.result _ _ (sym c.is_err.ensures.value ∙ c.if-is_err.false) c.view_of.ensures.value }
