-- A changeset comes too early for a store exactly where its block does for the history.
use Rattle.std.proofs.Common.{◌≡◌, Bool, true, false, true≢false, List, inl, inr, refl, sym, ◌∙◌}
use Rattle.std.specs.Prelude.{IsTrue}
use Rattle.text_model.specs.Fault.{FaultName}
use Rattle.text_model.specs.Fault as fault
use Rattle.pair_model.specs.Block.{Block}
use Rattle.partner_model.specs.Given.{has_late_file, has_late_manifest}
use Rattle.pair_known.specs.Ruled.{HasManifestParents}
use Rattle.history_model.specs.Pull.{BlockRefused}
use Rattle.pair_state.specs.declared.state_parts.StateParts.{StateParts}
use Rattle.pair_state.specs.AllBlocks.{HasAllBlocks}
use Rattle.pair_state.proofs.Referred.{files-late-is, manifest-late-is}
use Rattle.pull_stream.specs.Late.{AreFilesInTime, IsLate}

unless-false : (t : Bool) → (t ≡ false → ⊥) → IsTrue t
unless-false true denied = refl
unless-false false denied = absurd (denied refl)

not-both : (t : Bool) → t ≡ true → t ≡ false → ⊥
not-both t late early = true≢false (sym late ∙ early)

-- why the changeset comes too early is why its block is refused
pub late-refused : (s : StateParts) (blocks : List Block) → HasAllBlocks s blocks → (b : Block) (IsLarge Collides : Type 0) → ¬ IsLarge → (name : FaultName) → IsLate s.known.hg b.changeset name
    → BlockRefused IsLarge Collides blocks b name
late-refused s blocks all b IsLarge Collides small name (inl late) =
    let files = files-late-is s blocks all (b.changeset).rows in
    inr (small, inl (unless-false (has_late_file blocks (b.changeset).rows) (λ e. late.0 (files.0 e)), late.1))
late-refused s blocks all b IsLarge Collides small name (inr (in_time, inl late)) =
    let files = files-late-is s blocks all (b.changeset).rows in
    let manifest = manifest-late-is s blocks all (b.changeset).manifest in
    inr (
      small,
      inr (
        (λ is. in_time (λ have. not-both (has_late_file blocks (b.changeset).rows) is (files.1 have))),
        inl (unless-false (has_late_manifest blocks (b.changeset).manifest) (λ e. late.0 (manifest.0 e)), late.1),
      ),
    )
late-refused s blocks all b IsLarge Collides small name (inr (in_time, inr (more, nothing))) = absurd nothing

-- a collision is told of a block that is neither too large nor too early
pub clash-refused : (s : StateParts) (blocks : List Block) → HasAllBlocks s blocks → (b : Block) (IsLarge Collides : Type 0) → ¬ IsLarge → AreFilesInTime s.known.hg b.changeset
    → HasManifestParents s.known.hg (b.changeset).manifest → Collides → BlockRefused IsLarge Collides blocks b fault.Collision
clash-refused s blocks all b IsLarge Collides small files manifest clash =
    let later = inr ((λ late. not-both (has_late_manifest blocks (b.changeset).manifest) late ((manifest-late-is s blocks all (b.changeset).manifest).1 manifest)), inl (clash, refl)) in
    inr (small, inr ((λ late. not-both (has_late_file blocks (b.changeset).rows) late ((files-late-is s blocks all (b.changeset).rows).1 files)), later))
