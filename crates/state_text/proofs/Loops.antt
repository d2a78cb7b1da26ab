-- One element more of the lists that are made in loops.
use Rattle.std.proofs.Common.{◌≡◌, ◌+◌, ◌<◌, ℕ, zero, suc, List, [], ◌∷◌, ◌++◌, length, get_or, take, slice_get, Some, refl, sym, ap, ◌∙◌, arith}
use Rattle.std.proofs.lemmas.Option.{slice_get_read}
use Rattle.text_model.specs.Id.{Id}
use Rattle.text_model.proofs.Options.{some_is, none_some}
use Rattle.pair_state.specs.declared.blocks.Block as pair
use Rattle.state_text.specs.declared.heads.Head.{Head}
use Rattle.state_text.specs.Sections.{paired}

-- the element of a turn stands at its place
pub at-turn : {X : Type 0} (xs list : List X) (i : ℕ) (x : X) → list ≡ xs → i < length list → x ≡ get_or list i x → slice_get xs i ≡ Some x
at-turn {X} xs list i x same below is = ap (λ (l : List X). slice_get l i) (sym same) ∙ slice_get_read list (length list) i x refl below is

abbrev pub block_with : Head → Id → pair.Block
block_with h c = record { node = h.node; commit = c; links = h.links }

paired-suc : (hs : List Head) (cs : List Id) (i : ℕ) (h : Head) (c : Id) → slice_get hs i ≡ Some h → slice_get cs i ≡ Some c
    → paired (take (suc i) hs) (take (suc i) cs) ≡ paired (take i hs) (take i cs) ++ block_with h c ∷ []
unfolding paired
paired-suc [] cs i h c a b = absurd (none_some a)
paired-suc (x ∷ hs) [] i h c a b = absurd (none_some b)
paired-suc (x ∷ hs) (y ∷ cs) zero h c a b = (λ i. block_with (some_is a i) (some_is b i) ∷ [])
paired-suc (x ∷ hs) (y ∷ cs) (suc i) h c a b = ap (λ (l : List pair.Block). block_with x y ∷ l) (paired-suc hs cs i h c a b)

pub paired-next : (hs : List Head) (cs : List Id) (i : ℕ) (h : Head) (c : Id) → slice_get hs i ≡ Some h → slice_get cs i ≡ Some c
    → paired (take (i + 1) hs) (take (i + 1) cs) ≡ paired (take i hs) (take i cs) ++ block_with h c ∷ []
paired-next hs cs i h c a b =
    let next : i + 1 ≡ suc i = omega arith in
    ap (λ (n : ℕ). paired (take n hs) (take n cs)) next ∙ paired-suc hs cs i h c a b
