-- What a search for a mark in metadata tells.
use Rattle.std.proofs.Common.{◌≡◌, ℕ, Bool, true, false, true≢false, List, Option, Some, None, refl, sym, ◌∙◌, arith}
use Rattle.std.specs.Prelude.{◌↔◌, IsTrue, is_some, not}
use Rattle.memchr.specs.Find.{FindsNeedle}
use Rattle.text_model.specs.Text.{has_piece}
use Rattle.hg_model.specs.FileText.{mark}
use Rattle.hg_filelog.proofs.MarkLemmas.{has_piece-nowhere, found}

pub is-clear : (meta : List ℕ) (o : Option ℕ) (none : Bool) → is_some o ≡ not none → FindsNeedle meta mark 0 o → IsTrue none ↔ has_piece mark meta ≡ false
is-clear meta None true e h = ((λ t. has_piece-nowhere meta (λ k occurs. h k (omega arith) (omega (arith, occurs.fits)) occurs)), (λ e. refl))
is-clear meta None false e h = absurd (true≢false (sym e))
is-clear meta (Some end) true e h = absurd (true≢false e)
is-clear meta (Some end) false e h = (
  (λ t. absurd (true≢false (sym t))),
  (λ none. absurd (true≢false (sym (found meta end h.1 (λ k lt occurs. h.0.before k (omega arith) lt occurs)).there ∙ none))),
)
