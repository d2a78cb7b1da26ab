-- How far tags lead, by what each of them names.
use Rattle.std.proofs.Common.{◌≡◌, ◌≤◌, ◌<◌, ◌+◌, ◌⊎◌, ℕ, zero, suc, Bool, true, false, true≢false, ◌||◌, List, [], ◌∷◌, ◌++◌, length, refl, sym, ap, subst, ◌∙◌, inl, inr, arith, bytes_eq}
use Rattle.std.specs.Prelude.{filter, if◌then◌else◌}
use Rattle.text_model.specs.Id.{Id}
use Rattle.text_model.specs.Lists.{In}
use Rattle.text_model.proofs.TestLemmas.{bytes_eq-is, bytes_eq-self, or_true}
use Rattle.git_model.specs.Order.{has}
use Rattle.git_store.proofs.PlacingLemmas.{has-more}
use Rattle.tag_rule.specs.declared.named.Named.{Named}
use Rattle.tag_rule.specs.declared.named.Named.TheVariants.{Commit, Tag, Other}
use Rattle.tag_rule.specs.Fates.{leads_within, HasFate}

-- the first of a chain that ends before this one
abbrev pub first_of : List Id → Id → Id
first_of [] at = at
first_of (x ∷ xs) at = x

pub first-push : (xs : List Id) (at next : Id) → first_of xs at ≡ first_of (xs ++ at ∷ []) next
first-push [] at next = refl
first-push (x ∷ xs) at next = refl

module _ (named : Id → Named) where
  -- ---- one step

  within-commit : (n : ℕ) (id : Id) → named id ≡ Commit → leads_within named (suc n) id ≡ true
  unfolding leads_within
  within-commit n id is = ap (λ (x : Named). elim x as (λ _. Bool) [ Commit ↦ true | Tag next ↦ leads_within named n next | Other ↦ false ]) is

  within-tag : (n : ℕ) (id next : Id) → named id ≡ Tag next → leads_within named (suc n) id ≡ leads_within named n next
  unfolding leads_within
  within-tag n id next is = ap (λ (x : Named). elim x as (λ _. Bool) [ Commit ↦ true | Tag next ↦ leads_within named n next | Other ↦ false ]) is

  within-other : (n : ℕ) (id : Id) → named id ≡ Other → leads_within named (suc n) id ≡ false
  unfolding leads_within
  within-other n id is = ap (λ (x : Named). elim x as (λ _. Bool) [ Commit ↦ true | Tag next ↦ leads_within named n next | Other ↦ false ]) is

  pub within-none : (id : Id) → leads_within named 0 id ≡ false
  unfolding leads_within
  within-none id = refl

  -- where a tag of what it names leads
  abbrev pub led : (Id → Bool) → Named → Bool
  led later Commit = true
  led later (Tag next) = later next
  led later Other = false

  pub within-step : (n : ℕ) (id : Id) (x : Named) → named id ≡ x → leads_within named (suc n) id ≡ led (leads_within named n) x
  within-step n id Commit is = within-commit n id is
  within-step n id (Tag next) is = within-tag n id next is
  within-step n id Other is = within-other n id is

  -- more steps lead where fewer do
  within-more : (n : ℕ) (id : Id) → leads_within named n id ≡ true → leads_within named (suc n) id ≡ true
  within-more zero id h = absurd (true≢false (sym h ∙ within-none id))
  within-more (suc n) id h = by (named id) refl (within-more n)
    where
      by : (x : Named) → named id ≡ x → ((next : Id) → leads_within named n next ≡ true → leads_within named (suc n) next ≡ true) → leads_within named (suc (suc n)) id ≡ true
      by Commit is later = within-commit (suc n) id is
      by (Tag next) is later = within-tag (suc n) id next is ∙ later next (sym (within-tag n id next is) ∙ h)
      by Other is later = absurd (true≢false (sym h ∙ within-other n id is))

  -- ---- fates

  pub fate-commit : (id : Id) → named id ≡ Commit → HasFate named true id
  fate-commit id is = (1, within-commit 0 id is)

  pub fate-other : (id : Id) → named id ≡ Other → HasFate named false id
  fate-other id is zero = within-none id
  fate-other id is (suc n) = within-other n id is

  fate-tag : (b : Bool) (id next : Id) → named id ≡ Tag next → HasFate named b next → HasFate named b id
  fate-tag true id next is fate = (suc fate.0, within-tag fate.0 id next is ∙ fate.1)
  fate-tag false id next is fate = never
    where
      never : (n : ℕ) → leads_within named n id ≡ false
      never zero = within-none id
      never (suc n) = within-tag n id next is ∙ fate n

  -- ---- chains

  -- each of the tags names the next, and the last names this one
  abbrev pub IsChain : List Id → Id → Type 0
  IsChain [] at = Unit {0}
  IsChain (x ∷ xs) at = (named x ≡ Tag (first_of xs at)) × IsChain xs at

  pub chain-push : (xs : List Id) (at next : Id) → IsChain xs at → named at ≡ Tag next → IsChain (xs ++ at ∷ []) next
  chain-push [] at next h is = (is, tt)
  chain-push (x ∷ xs) at next h is = (h.0 ∙ ap Tag (first-push xs at next), chain-push xs at next h.1 is)

  pub record Share (b : Bool) (xs : List Id) (first : Id) : Type 0 where
    pub fate : HasFate named b first
    pub fates : (id : Id) → has xs id ≡ true → HasFate named b id

  -- all of a chain has the fate of its end
  pub chain-fate : (b : Bool) (xs : List Id) (at : Id) → IsChain xs at → HasFate named b at → Share b xs (first_of xs at)
  chain-fate b [] at h fate = record { fate = fate; fates = λ id is. absurd (true≢false (sym is)) }
  chain-fate b (x ∷ xs) at h fate = with_rest (chain-fate b xs at h.1 fate)
    where
      with_rest : Share b xs (first_of xs at) → Share b (x ∷ xs) x
      with_rest rest =
          let here : HasFate named b x = fate-tag b x (first_of xs at) h.0 rest.fate in
          record { fate = here; fates = λ id is. by here id (bytes_eq id x) refl is }
        where
          by : HasFate named b x → (id : Id) (t : Bool) → bytes_eq id x ≡ t → has (x ∷ xs) id ≡ true → HasFate named b id
          by here id true t is = subst (HasFate named b) (sym (bytes_eq-is id x t)) here
          by here id false t is = rest.fates id (sym (rw t refl) ∙ is)

  -- the same with the end
  pub chain-end : (b : Bool) (xs : List Id) (at : Id) → IsChain xs at → HasFate named b at → Share b (xs ++ at ∷ []) (first_of xs at)
  chain-end b xs at h fate =
      let share = chain-fate b xs at h fate in
      record { fate = share.fate; fates = λ id is. by share id (has xs id) refl (sym (has-more xs at id) ∙ is) }
    where
      by : Share b xs (first_of xs at) → (id : Id) (t : Bool) → has xs id ≡ t → (has xs id || bytes_eq id at) ≡ true → HasFate named b id
      by share id true t is = share.fates id t
      by share id false t is = subst (HasFate named b) (sym (bytes_eq-is id at (sym (rw t refl) ∙ is))) fate

  record Next (xs : List Id) (at id : Id) : Type 0 where
    next : Id
    is : named id ≡ Tag next
    among : (has xs next ≡ true) ⊎ (next ≡ at)

  chain-next : (xs : List Id) (at id : Id) → IsChain xs at → has xs id ≡ true → Next xs at id
  chain-next [] at id h is = absurd (true≢false (sym is))
  chain-next (x ∷ xs) at id h is = by (bytes_eq id x) refl (chain-next xs at id h.1)
    where
      among_first : (ys : List Id) → (has (x ∷ ys) (first_of ys at) ≡ true) ⊎ (first_of ys at ≡ at)
      among_first [] = inr refl
      among_first (y ∷ ys) = inl (rw (bytes_eq-self y) (or_true (bytes_eq y x)))

      later : (next : Id) → has xs next ≡ true → has (x ∷ xs) next ≡ true
      later next there = rw there (or_true (bytes_eq next x))

      by : (t : Bool) → bytes_eq id x ≡ t → (has xs id ≡ true → Next xs at id) → Next (x ∷ xs) at id
      by true t rest = record { next = first_of xs at; is = ap named (bytes_eq-is id x t) ∙ h.0; among = among_first xs }
      by false t rest =
          let found = rest (sym (rw t refl) ∙ is) in
          record { next = found.next; is = found.is; among = elim found.among [ inl there ↦ inl (later found.next there) | inr end ↦ inr end ] }

  -- a chain that comes back to itself leads nowhere
  pub chain-round : (xs : List Id) (at : Id) → IsChain xs at → has xs at ≡ true → HasFate named false at
  chain-round xs at h back n = never n at back
    where
      never : (n : ℕ) (id : Id) → has xs id ≡ true → leads_within named n id ≡ false
      never zero id there = within-none id
      never (suc n) id there =
          let found = chain-next xs at id h there in
          within-tag n id found.next found.is ∙ never n found.next (elim found.among [ inl there ↦ there | inr end ↦ ap (has xs) end ∙ back ])

-- ---- how many steps are enough

filter-short : (p : Id → Bool) (xs : List Id) → length (filter p xs) ≤ length xs
filter-short p [] = omega arith
filter-short p (x ∷ xs) = by (p x) (filter-short p xs)
  where
    by : (t : Bool) → length (filter p xs) ≤ length xs → length (if t then x ∷ filter p xs else filter p xs) ≤ length (x ∷ xs)
    by true r = omega (arith, r)
    by false r = omega (arith, r)

pub filter-le : (p q : Id → Bool) (xs : List Id) → ((x : Id) → q x ≡ true → p x ≡ true) → length (filter q xs) ≤ length (filter p xs)
filter-le p q [] h = omega arith
filter-le p q (x ∷ xs) h = by (p x) (q x) refl refl (filter-le p q xs h)
  where
    by : (s t : Bool) → p x ≡ s → q x ≡ t → length (filter q xs) ≤ length (filter p xs) → length (if t then x ∷ filter q xs else filter q xs) ≤ length (if s then x ∷ filter p xs else filter p xs)
    by true true e f r = omega (arith, r)
    by true false e f r = omega (arith, r)
    by false true e f r = absurd (true≢false (sym (h x f) ∙ e))
    by false false e f r = r

-- a wider test passes more elements, or just the same
pub more_or_same : (p q : Id → Bool) (xs : List Id) → ((x : Id) → p x ≡ true → q x ≡ true)
    → (length (filter p xs) < length (filter q xs)) ⊎ ((x : Id) → In x xs → p x ≡ q x)
more_or_same p q [] wider = inr (λ x i. absurd i)
more_or_same p q (x ∷ xs) wider = by (p x) (q x) refl refl (more_or_same p q xs wider)
  where
    same_here : p x ≡ q x → ((y : Id) → In y xs → p y ≡ q y) → (y : Id) → In y (x ∷ xs) → p y ≡ q y
    same_here e same y (inl is) = ap p is ∙ e ∙ sym (ap q is)
    same_here e same y (inr i) = same y i

    by : (s t : Bool) → p x ≡ s → q x ≡ t → (length (filter p xs) < length (filter q xs)) ⊎ ((y : Id) → In y xs → p y ≡ q y)
        → (length (if s then x ∷ filter p xs else filter p xs) < length (if t then x ∷ filter q xs else filter q xs)) ⊎ ((y : Id) → In y (x ∷ xs) → p y ≡ q y)
    by true true e f (inl lt) = inl (omega (arith, lt))
    by true true e f (inr same) = inr (same_here (e ∙ sym f) same)
    by true false e f rest = absurd (true≢false (sym (wider x e) ∙ f))
    by false true e f rest = inl (omega (arith, filter-le q p xs wider))
    by false false e f (inl lt) = inl lt
    by false false e f (inr same) = inr (same_here (e ∙ sym f) same)

pub has-in : (xs : List Id) (id : Id) → has xs id ≡ true → In id xs
has-in [] id h = absurd (true≢false (sym h))
has-in (x ∷ xs) id h = by (bytes_eq id x) refl (has-in xs id)
  where
    by : (t : Bool) → bytes_eq id x ≡ t → (has xs id ≡ true → In id xs) → In id (x ∷ xs)
    by true t rest = inl (bytes_eq-is id x t)
    by false t rest = inr (rest (sym (rw t refl) ∙ h))

-- each tag that is named is one that came
abbrev pub IsClosed : (Id → Named) → List Id → Type 0
IsClosed named came = (id next : Id) → named id ≡ Tag next → has came next ≡ true

module _ (named : Id → Named) (came : List Id) (closed : IsClosed named came) where
  abbrev count : ℕ → ℕ
  count n = length (filter (leads_within named n) came)

  -- one step more changes nothing
  abbrev IsStill : ℕ → Type 0
  IsStill n = (x : Id) → In x came → leads_within named n x ≡ leads_within named (suc n) x

  still-next : (n : ℕ) → IsStill n → IsStill (suc n)
  still-next n still x i = by (named x) refl
    where
      by : (t : Named) → named x ≡ t → leads_within named (suc n) x ≡ leads_within named (suc (suc n)) x
      by Commit is = within-commit named n x is ∙ sym (within-commit named (suc n) x is)
      by (Tag next) is = within-tag named n x next is ∙ still next (has-in came next (closed x next is)) ∙ sym (within-tag named (suc n) x next is)
      by Other is = within-other named n x is ∙ sym (within-other named (suc n) x is)

  grows : (n : ℕ) → (n ≤ count n) ⊎ IsStill n
  grows zero = inl (omega arith)
  grows (suc n) = by (grows n)
    where
      more : n ≤ count n → (count n < count (suc n)) ⊎ IsStill n → (suc n ≤ count (suc n)) ⊎ IsStill (suc n)
      more le (inl lt) = inl (omega (arith, le, lt))
      more le (inr same) = inr (still-next n same)

      by : (n ≤ count n) ⊎ IsStill n → (suc n ≤ count (suc n)) ⊎ IsStill (suc n)
      by (inl le) = more le (more_or_same (leads_within named n) (leads_within named (suc n)) came (within-more named n))
      by (inr still) = inr (still-next n still)

  still-end : IsStill (length came + 1)
  still-end = by (grows (length came + 1))
    where
      by : (length came + 1 ≤ count (length came + 1)) ⊎ IsStill (length came + 1) → IsStill (length came + 1)
      by (inl le) = absurd (omega (arith, le, filter-short (leads_within named (length came + 1)) came))
      by (inr still) = still

  enough : (n : ℕ) (x : Id) → In x came → leads_within named n x ≡ true → leads_within named (length came + 1) x ≡ true
  enough zero x i h = absurd (true≢false (sym h ∙ within-none named x))
  enough (suc n) x i h = by (named x) refl (enough n)
    where
      by : (t : Named) → named x ≡ t → ((y : Id) → In y came → leads_within named n y ≡ true → leads_within named (length came + 1) y ≡ true)
          → leads_within named (length came + 1) x ≡ true
      by Commit is later = still-end x i ∙ within-commit named (length came + 1) x is
      by (Tag next) is later =
          still-end x i ∙ within-tag named (length came + 1) x next is
          ∙ later next (has-in came next (closed x next is)) (sym (within-tag named n x next is) ∙ h)
      by Other is later = absurd (true≢false (sym h ∙ within-other named n x is))

  -- one step more than there are tags tells the fate
  pub fate-within : (b : Bool) (x : Id) → has came x ≡ true → HasFate named b x → leads_within named (length came + 1) x ≡ b
  fate-within true x there fate = enough fate.0 x (has-in came x there) fate.1
  fate-within false x there fate = fate (length came + 1)
