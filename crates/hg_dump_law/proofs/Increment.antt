-- The laws of an increment.
use Rattle.std.proofs.Common.{◌≡◌, ℕ, zero, suc, List, [], ◌∷◌, ◌++◌, take, drop, refl, ap, subst}
use Rattle.text_model.specs.Lists.{Each}
use Rattle.text_model.specs.Id.{Id}
use Rattle.hg_model.specs.Revision.{Revision, known_after_all}
use Rattle.view_model.specs.View.{ChangesetView}
use Rattle.view_model.specs.Held.{AreChangesetsHeld}
use Rattle.view_model.specs.Dump.{revisions_in, hg_increment}
use Rattle.hg_dump.specs.Written.{IsHeldIn}
use Rattle.hg_dump.proofs.HeldLemmas.{held-revisions, held-drop}
use Rattle.hg_dump_law.specs.Taken.{IsIncrement, KnowsOld, Brings, written_revisions}
use Rattle.hg_dump_law.proofs.After.{views-same}
use Rattle.hg_dump_law.proofs.Whole.{increment-read, increment-known}

parts : (hs : List ChangesetView) (from : ℕ) → take from hs ++ drop from hs ≡ hs
parts hs zero = refl
parts [] (suc n) = refl
parts (h ∷ hs) (suc n) = ap (λ (l : List ChangesetView). h ∷ l) (parts hs n)

module _ (known base : List Revision) (nodes : List Id) (hs : List ChangesetView) (from : ℕ) (is : IsIncrement known base nodes hs from) where
  new-held : Each (λ r. IsHeldIn known r.group r) (revisions_in (drop from hs))
  new-held = held-revisions known is.added (drop from nodes) (drop from hs) (held-drop known nodes hs from is.held)

  pub is-read : Brings base (hg_increment known (take from hs) (drop from hs)) (written_revisions hs from)
  is-read = increment-read known base is.added (take from hs) (drop from hs) new-held is.knows_old is.parents is.short

  pub is-known : KnowsOld known (known_after_all base (written_revisions hs from)) hs
  is-known =
      subst (KnowsOld known (known_after_all base (written_revisions hs from))) (parts hs from)
      (increment-known known base is.added (take from hs) (drop from hs) new-held is.knows_old is.parents is.short)

  pub is-held : AreChangesetsHeld (known_after_all base (written_revisions hs from)) nodes hs
  is-held = views-same known (known_after_all base (written_revisions hs from)) is.added is-known.of_store nodes hs is-known.has_old is.held
