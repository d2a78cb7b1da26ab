-- What all blocks of a saved state come to, turn by turn.
use Rattle.std.proofs.Common.{◌≡◌, ◌<◌, ◌+◌, ℕ, zero, suc, List, [], ◌∷◌, ◌++◌, length, refl, sym, ap, subst, ◌∙◌, arith, append_assoc, append-nil}
use Rattle.std.specs.Prelude.{◌↔◌}
use Rattle.std.proofs.lemmas.List.{length-map, length-append}
use Rattle.text_model.specs.Id.{Id}
use Rattle.hg_model.specs.Revision.{Revision}
use Rattle.git_model.specs.Object.{Object}
use Rattle.pair_model.specs.Block.{Block, id_of}
use Rattle.state_model.specs.Kept.{State, kept_of}
use Rattle.state_model.specs.Saved.{IsState}
use Rattle.saved_model.specs.Step.{known_of}
use Rattle.verify_model.specs.Holds.{Holds, DiffersIn, StateHolds, StateDiffers}
use Rattle.pair_state.specs.declared.state_parts.StateParts.{StateParts}
use Rattle.pair_state.specs.Blocks.{value_of, block_value}
use Rattle.state_text.specs.Stands.{Stands, HoldsExactly}
use Rattle.state_audit.specs.declared.checked.Checked.{Checked}
use Rattle.state_audit.specs.declared.judge.Judgement.TheVariants.{Right, Wrong}
use Rattle.state_audit.specs.declared.verdict.Verdict.{Verdict}
use Rattle.state_audit.specs.declared.verdict.Verdict.TheVariants as verdict
use Rattle.state_audit.specs.Audited.{IsWalked, AreRight, IsTurn, IsJudged}
use Rattle.state_audit.proofs.Compared.{right-more}
use Rattle.state_audit.proofs.Grounds.{ground}
use Rattle.state_audit.proofs.Turns.{commit-held, commit-view}
use Rattle.state_audit.proofs.Verdicts.{holds-differs, differs-one}

-- ---- places of lists

record IsSplit {X : Type 0} (xs : List X) (n : ℕ) : Type 0 where
  pub front : List X
  pub it : X
  pub rest : List X
  pub is : xs ≡ front ++ it ∷ rest
  pub count : n ≡ length front

split-at : {X : Type 0} (xs : List X) (n : ℕ) → n < length xs → IsSplit xs n
split-at [] n below = absurd (omega (arith, below))
split-at (x ∷ xs) zero below = record { front = []; it = x; rest = xs; is = refl; count = refl }
split-at (x ∷ xs) (suc n) below =
    let s = split-at xs n (omega (arith, below)) in
    record { front = x ∷ s.front; it = s.it; rest = s.rest; is = ap (λ (l : List _). x ∷ l) s.is; count = ap suc s.count }

none-first : {X : Type 0} (xs : List X) → 0 ≡ length xs → xs ≡ []
none-first [] e = refl
none-first (x ∷ xs) e = absurd (omega (arith, e))

-- the last one
last-of : {X : Type 0} (xs : List X) (n : ℕ) → n + 1 ≡ length xs → IsSplit xs n
last-of xs n e = split-at xs n (omega (arith, e))

no-rest : {X : Type 0} (xs : List X) (n : ℕ) (s : IsSplit xs n) → n + 1 ≡ length xs → s.rest ≡ []
no-rest xs n s e = none-first s.rest (omega (arith, e, s.count, ap length s.is, length-append s.front (s.it ∷ s.rest)))

-- ---- one turn

-- what is known behind so many blocks
abbrev pub IsFound : StateParts → ℕ → Checked → Type 0
IsFound s place c = (m : State) → IsState m → Stands s m → (front rest : List Block) → m.blocks ≡ front ++ rest → place ≡ length front → IsWalked s.known.hg c front × AreRight s.known.hg s.known.git front

module _ (s : StateParts) where
  many : (m : State) → Stands s m → length s.blocks ≡ length m.blocks
  many m stands = sym (length-map s.blocks value_of) ∙ ap length ((stands.blocks).state).blocks_are ∙ length-map m.blocks block_value

  pub none-found : (known : List Revision) → known ≡ s.known.hg → (c : Checked) → IsWalked known c [] → IsFound s 0 c
  unfolding Holds
  none-found known same c walked m saved stands front rest split none =
      let empty : [] ≡ front = sym (none-first front none) in (
        subst (IsWalked s.known.hg c) empty (subst (λ (rs : List Revision). IsWalked rs c []) same walked),
        subst (AreRight s.known.hg s.known.git) empty (record { hold = tt; compared = record { in_time = tt; blobs = tt } }),
      )

  turn-of : (place : ℕ) (c : Checked) → IsFound s place c → (m : State) → IsState m → Stands s m → (front : List Block) (b : Block) (rest : List Block) → m.blocks ≡ front ++ b ∷ rest → place ≡ length front → IsTurn s place c m front b rest
  turn-of place c found m saved stands front b rest split count =
      let f = found m saved stands front (b ∷ rest) split count in
      record { place_is = count; saved = saved; stands = stands; split = split; walked = f.0; right = f.1 }

  -- the block of the place comes next
  pub next-turn : (place : ℕ) (c : Checked) → IsFound s place c → place < length s.blocks → (m : State) → IsState m → Stands s m → (front : List Block) × (b : Block) × (rest : List Block) × IsTurn s place c m front b rest
  next-turn place c found below m saved stands =
      let p = split-at m.blocks place (omega (arith, below, many m stands)) in
      (p.front, p.it, p.rest, turn-of place c found m saved stands p.front p.it p.rest p.is p.count)

  -- it is right, and what is remembered is of it too
  pub more-found : (place : ℕ) (c d : Checked) → IsFound s place c
      → ((m : State) (front : List Block) (b : Block) (rest : List Block) → IsTurn s place c m front b rest → IsJudged s.known.hg s.known.git front b Right)
      → ((m : State) (front : List Block) (b : Block) (rest : List Block) → IsTurn s place c m front b rest → IsWalked s.known.hg d (front ++ b ∷ [])) → IsFound s (place + 1) d
  more-found place c d found judged walked m saved stands longer rest split count =
      let p = last-of longer place count in
      let whole : longer ≡ p.front ++ p.it ∷ [] = p.is ∙ ap (λ (l : List Block). p.front ++ p.it ∷ l) (no-rest longer place p count) in
      let at : m.blocks ≡ p.front ++ p.it ∷ rest = split ∙ ap (λ (l : List Block). l ++ rest) whole ∙ append_assoc p.front (p.it ∷ []) rest in
      let t = turn-of place c found m saved stands p.front p.it rest at p.count in
      let right = right-more s.known.hg s.known.git p.front p.it t.right (judged m p.front p.it rest t) (commit-held s place c m p.front p.it rest t) (commit-view s place c m p.front p.it rest t) in
      (subst (IsWalked s.known.hg d) (sym whole) (walked m p.front p.it rest t), subst (AreRight s.known.hg s.known.git) (sym whole) right)

  -- ---- the verdict

  module _ (m : State) (saved : IsState m) (stands : Stands s m) (exact : HoldsExactly s m) where
    abbrev HoldsIs : Verdict → List Revision → List Object → Type 0
    HoldsIs found hg git = (n : ℕ) → (found ≡ verdict.Holds n) ↔ (Holds hg git [] m.blocks × (n ≡ length m.blocks))

    abbrev DiffersIs : Verdict → List Revision → List Object → Type 0
    DiffersIs found hg git = (kept right : Id) → (found ≡ verdict.Differs kept right) ↔ DiffersIn hg git m.blocks kept right

    -- in the words of the saved state
    exactly : (P : List Revision → List Object → Type 0) → P s.known.hg s.known.git → P (known_of (kept_of m)).revisions (known_of (kept_of m)).objects
    exactly P h = subst (P (known_of (kept_of m)).revisions) exact.objects (subst (λ (hg : List Revision). P hg s.known.git) exact.revisions h)

    -- all blocks are right
    module _ (place count : ℕ) (c : Checked) (found : IsFound s place c) (end : place ≡ length s.blocks) (is : count ≡ length s.blocks) where
      all-hold : Holds s.known.hg s.known.git [] m.blocks
      all-hold = ((found m saved stands m.blocks [] (sym (append-nil m.blocks)) (end ∙ many m stands)).1).hold

      pub holds-right : (n : ℕ) → (verdict.Holds count ≡ verdict.Holds n) ↔ (StateHolds m × (n ≡ length m.blocks))
      holds-right = exactly (HoldsIs (verdict.Holds count)) (λ n. ((λ e. (all-hold, same-count n e ∙ is ∙ many m stands)), (λ h. ap verdict.Holds (is ∙ many m stands ∙ sym h.1))))
        where
          same-count : (n : ℕ) → verdict.Holds count ≡ verdict.Holds n → n ≡ count
          same-count n e = cc

      pub differs-right : (kept right : Id) → (verdict.Holds count ≡ verdict.Differs kept right) ↔ StateDiffers m kept right
      differs-right = exactly (DiffersIs (verdict.Holds count)) (λ kept right. ((λ e. absurd cc), (λ d. absurd (holds-differs s.known.hg s.known.git m.blocks kept right all-hold d))))

    -- the block of the place isn't
    module _ (place : ℕ) (c : Checked) (found : IsFound s place c) (below : place < length s.blocks) (kept right : Id)
        (judged : (front : List Block) (b : Block) (rest : List Block) → IsTurn s place c m front b rest → (kept ≡ id_of b) × IsJudged s.known.hg s.known.git front b (Wrong right)) where
      differs : DiffersIn s.known.hg s.known.git m.blocks kept right
      differs =
          let n = next-turn place c found below m saved stands in
          let j = judged n.0 n.1 n.2 n.3 in
          record { before = n.0; block = n.1; after = n.2; split = (n.3).split; hold = ((n.3).right).hold; wrong = (j.1).0; kept_is = j.0; right_is = (j.1).1 }

      pub holds-wrong : (n : ℕ) → (verdict.Differs kept right ≡ verdict.Holds n) ↔ (StateHolds m × (n ≡ length m.blocks))
      holds-wrong = exactly (HoldsIs (verdict.Differs kept right)) (λ n. ((λ e. absurd cc), (λ h. absurd (holds-differs s.known.hg s.known.git m.blocks kept right h.0 differs))))

      pub differs-wrong : (other id : Id) → (verdict.Differs kept right ≡ verdict.Differs other id) ↔ StateDiffers m other id
      differs-wrong = exactly (DiffersIs (verdict.Differs kept right)) (λ other id. (
        (λ e. both-same other id e),
        (λ d.
            let g = ground s.known m saved (((stands.blocks).state).held) in
            let one = differs-one s.known.hg s.known.git m.blocks g kept right other id differs d in
            λ i. verdict.Differs (one.0 i) (one.1 i)),
      ))
        where
          both-same : (other id : Id) → verdict.Differs kept right ≡ verdict.Differs other id → DiffersIn s.known.hg s.known.git m.blocks other id
          both-same other id e =
              let first : kept ≡ other = cc in
              let second : right ≡ id = cc in
              subst (λ (x : Id). DiffersIn s.known.hg s.known.git m.blocks x id) first (subst (λ (x : Id). DiffersIn s.known.hg s.known.git m.blocks kept x) second differs)
