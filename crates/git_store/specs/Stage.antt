-- How far the commits of a stream are placed, each of which stands once.
use Rattle.std.specs.Prelude.{◌≡◌, ◌||◌, ◌==◌, ◌⊎◌, ◌++◌, ◌∷◌, [], ℕ, ◌<◌, Bool, true, false, List, Option, Some, None, length, take, slice_get}
use Rattle.std.specs.List.{list_all, list_any}
use Rattle.std.specs.Ordering.{nat_cmp}
use Rattle.std.specs.BTreeSet.{BTreeSet, contains}
use Rattle.text_model.specs.Id.{Id}
use Rattle.text_model.specs.Lists.{Each}
use Rattle.git_model.specs.Order.{Ancestry, has, is_waiting, is_ready, next_ready, IsPlacement}
use Rattle.git_store.specs.declared.order.came.Came.{Came}
use Rattle.git_store.specs.declared.order.waiting.Wait.{Wait}
use Rattle.git_store.specs.declared.order.stage.Stage.{Stage}
use Rattle.git_store.specs.Ancestry.{ancestries}
use Rattle.git_store.specs.Waiting.{waits_for}

abbrev pub rows : Came → List Ancestry
rows c = ancestries (c.store).now (c.ids).now

abbrev pub row_parents : Option Ancestry → List Id
row_parents None = []
row_parents (Some commit) = commit.parents

-- no id stands twice
abbrev pub AreDistinct : List Ancestry → Type 0
AreDistinct came = (i j : ℕ) (a b : Ancestry) → slice_get came i ≡ Some a → slice_get came j ≡ Some b → a.id ≡ b.id → i ≡ j

abbrev pub is_known : List Id → List Id → Id → Bool
is_known saved placed p = has saved p || has placed p

-- the parents before this one are known
abbrev pub IsKnownUpTo : List Id → List Id → List Id → ℕ → Type 0
IsKnownUpTo saved placed parents n = list_all (is_known saved placed) (take n parents) ≡ true

-- the first parent that isn't known stands there
pub record StopsAt (saved placed parents : List Id) (n : ℕ) : Type 0 where
  pub within : n < length parents
  pub before : IsKnownUpTo saved placed parents n
  pub unknown : (p : Id) → slice_get parents n ≡ Some p → is_known saved placed p ≡ false

-- the place is in the set
abbrev pub Holds : BTreeSet ℕ → ℕ → Type 0
Holds queue i = contains nat_cmp queue i ≡ true

-- at this place stands a commit that is ready
pub record ReadyAt (came : List Ancestry) (saved placed : List Id) (i : ℕ) : Type 0 where
  pub commit : Ancestry
  pub at_place : slice_get came i ≡ Some commit
  pub ready : is_ready saved placed commit ≡ true

-- a commit waits, and its parents before this one are known
pub record MayWait (came : List Ancestry) (saved placed : List Id) (w : Wait) : Type 0 where
  pub commit : Ancestry
  pub at_place : slice_get came w.place ≡ Some commit
  pub waits : is_waiting saved placed commit ≡ true
  pub before : IsKnownUpTo saved placed commit.parents w.parent

-- it waits for this parent, the first that isn't known
pub record WaitsFor (came : List Ancestry) (saved placed : List Id) (parent : Id) (w : Wait) : Type 0 where
  pub may : MayWait came saved placed w
  pub names : slice_get (may.commit).parents w.parent ≡ Some parent
  pub unknown : is_known saved placed parent ≡ false

abbrev pub stands_at : ℕ → Wait → Bool
stands_at i w = w.place == i

abbrev pub nowhere : ℕ → Bool
nowhere i = false

-- the commit at this place waits for a parent
abbrev pub IsListed : Stage → ℕ → Type 0
IsListed s i = (p : Id) × (list_any (stands_at i) (waits_for s.waiting p) ≡ true)

-- Each place that is held is that of a commit that is ready, each that is listed that of one that waits for its parent, and each commit that waits is in one of both, or still to be seated.
pub record IsStage (came : List Ancestry) (saved : List Id) (unseated : ℕ → Bool) (s : Stage) : Type 0 where
  pub ready : (i : ℕ) → Holds s.ready i → ReadyAt came saved s.placed i
  pub lists : (p : Id) → Each (WaitsFor came saved s.placed p) (waits_for s.waiting p)
  pub all : (i : ℕ) (c : Ancestry) → slice_get came i ≡ Some c → is_waiting saved s.placed c ≡ true → (unseated i ≡ true) ⊎ (Holds s.ready i ⊎ IsListed s i)

-- The commit at the place is seated, whatever else is still to be.
abbrev pub SeatsAt : List Ancestry → List Id → ℕ → Stage → Stage → Type 0
SeatsAt came saved place old new = (unseated later : ℕ → Bool) → IsStage came saved unseated old
    → ((i : ℕ) → unseated i ≡ true → (i ≡ place) ⊎ (later i ≡ true)) → IsStage came saved later new

-- the first commit that is ready was placed
pub record PlacesOne (came : List Ancestry) (saved : List Id) (old new : Stage) : Type 0 where
  pub commit : Ancestry
  pub next : next_ready came saved old.placed ≡ Some commit
  pub placed : new.placed ≡ old.placed ++ commit.id ∷ []
  pub order : new.order ≡ old.order ++ commit.id ∷ []
  pub stage : IsStage came saved nowhere new

-- none is ready, and nothing was placed
pub record PlacesNone (came : List Ancestry) (saved : List Id) (old new : Stage) : Type 0 where
  pub none : next_ready came saved old.placed ≡ None
  pub placed : new.placed ≡ old.placed
  pub order : new.order ≡ old.order

-- commits were placed as long as one was ready
pub record IsPlaced (came : List Ancestry) (saved : List Id) (s : Stage) : Type 0 where
  pub places : IsPlacement came saved s.placed
  pub none : next_ready came saved s.placed ≡ None
  pub order : s.order ≡ s.placed

-- nothing was placed or seated
pub record IsEmpty (s : Stage) : Type 0 where
  pub placed : s.placed ≡ []
  pub order : s.order ≡ []
  pub ready : (i : ℕ) → contains nat_cmp s.ready i ≡ false
  pub waiting : (p : Id) → waits_for s.waiting p ≡ []
