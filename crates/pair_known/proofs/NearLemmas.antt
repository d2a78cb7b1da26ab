-- Rows that stand among near ones.
use Rattle.std.proofs.Common.{◌≡◌, ◌<◌, ℕ, zero, suc, List, [], ◌∷◌, length, get_or, subst, inl, inr, arith}
use Rattle.text_model.specs.Lists.{Each, In}
use Rattle.text_model.specs.Text.{Bytes}
use Rattle.text_model.specs.Id.{Id}
use Rattle.text_model.proofs.Elements.{each_in}
use Rattle.hg_model.specs.Revision.{Revision}
use Rattle.hg_store.specs.Known.{IsFileBlob}
use Rattle.pair_known.specs.Rows.{RowValue}
use Rattle.pair_known.specs.Drafts.{IsRowKnown}

-- what stands at a place of a list is one of its elements
pub in_at : {X : Type 0} (xs : List X) (i : ℕ) (x : X) → i < length xs → x ≡ get_or xs i x → In x xs
in_at [] i x below is = absurd (omega (arith, below))
in_at (y ∷ xs) zero x below is = inl is
in_at (y ∷ xs) (suc i) x below is = inr (in_at xs i x (omega (arith, below)) is)

-- the blob of a file revision that a row has, where each row is known
pub near-blob : (known : List Revision) (rows : List RowValue) (row : RowValue) (path : Bytes) (node blob : Id) → Each (IsRowKnown known) rows → In row rows → (row.path ≡ path) × (row.node ≡ node) → row.blob ≡ blob
    → IsFileBlob known path node blob
near-blob known rows row path node blob each among file is =
    subst (IsFileBlob known path node) is (subst (λ (p : Bytes). IsFileBlob known p node row.blob) file.0 (subst (λ (n : Id). IsFileBlob known row.path n row.blob) file.1 (each_in (IsRowKnown known) rows row each among)))
