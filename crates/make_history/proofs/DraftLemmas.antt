-- The files of the next changeset: they rise, and are held.
use Rattle.std.proofs.Common.{◌≡◌, ◌++◌, ◌&&◌, Bool, true, false, true≢false, not, List, [], ◌∷◌, Option, Some, None, refl, sym, ap, ◌∙◌, inl, inr}
use Rattle.std.specs.Prelude.{filter, bytes_eq, if◌then◌else◌, IfSome}
use Rattle.std.proofs.lemmas.Slice.Eq.{bytes_eq-Decides}
use Rattle.text_model.specs.Lists.{Each, SomeOf, rises, with_inserted}
use Rattle.text_model.specs.Text.{Bytes, is_below}
use Rattle.text_model.proofs.OrderLemmas.{is_below-chain, is_below-same}
use Rattle.git_model.proofs.SortLemmas.{Ascends, ascends-rises, rises-ascends}
use Rattle.git_model.proofs.RowOrder.{behind_filter, each_inserted}
use Rattle.hg_model.specs.Revision.{Revision, FilesAt, is_of, revision_of}
use Rattle.view_model.specs.View.{Row, paths_of, file_node}
use Rattle.view_model.specs.Held.{IsFileHeld}
use Rattle.view_model.specs.Dump.{file_revision}
use Rattle.text_model.specs.Id.{null}
use Rattle.hg_store.specs.Known.{knows_same}
use Rattle.pair_known.specs.Drafts.{AreFreshOf}
use Rattle.pair_known.specs.Fresh.{fresh_revision}
use Rattle.pair_known.specs.declared.fresh_files.FreshFile.{FreshFile}
use Rattle.file_rule.specs.Made.{fresh_list, IsFresh}
use Rattle.make_model.specs.History.{with_row}
use Rattle.make_history.proofs.RowsLemmas.{is_other}

abbrev key : Row → Bytes
key row = row.path

abbrev below : Row → Row → Bool
below a b = is_below a.path b.path

-- ---- what is left of rows

filter-ascends : (p : Row → Bool) (xs : List Row) → Ascends key xs → Ascends key (filter p xs)
filter-ascends p [] a = tt
filter-ascends p (x ∷ xs) a = by (p x) refl (filter-ascends p xs a.1)
  where
    by : (t : Bool) → p x ≡ t → Ascends key (filter p xs) → Ascends key (filter p (x ∷ xs))
    by true e go = rw e (behind_filter (λ (y : Row). is_below x.path y.path ≡ true) p xs a.0, go)
    by false e go = rw e go

abbrev IsApart : Row → Row → Type 0
IsApart new row = bytes_eq row.path new.path ≡ false

filter-apart : (P : Row → Type 0) (new : Row) (xs : List Row) → Each P xs → Each (λ row. P row × IsApart new row) (filter (is_other new) xs)
filter-apart P new [] h = tt
filter-apart P new (x ∷ xs) h = by (bytes_eq x.path new.path) refl (filter-apart P new xs h.1)
  where
    by : (t : Bool) → bytes_eq x.path new.path ≡ t → Each (λ row. P row × IsApart new row) (filter (is_other new) xs) → Each (λ row. P row × IsApart new row) (filter (is_other new) (x ∷ xs))
    by true e go = rw e go
    by false e go = rw e ((h.0, e), go)

-- ---- they rise

inserted-ascends : (new : Row) (ys : List Row) → Ascends key ys → Each (IsApart new) ys → Ascends key (with_inserted below new ys)
inserted-ascends new [] a o = (tt, tt)
inserted-ascends new (y ∷ ys) a o = by (is_below y.path new.path) refl (inserted-ascends new ys a.1 o.1)
  where
    above : is_below y.path new.path ≡ false → (t : Bool) → is_below new.path y.path ≡ t → is_below new.path y.path ≡ true
    above e true f = f
    above e false f = absurd (true≢false (sym ((bytes_eq-Decides y.path new.path).1 (is_below-same y.path new.path e f)) ∙ o.0))

    all : is_below new.path y.path ≡ true → (zs : List Row) → Each (λ (z : Row). is_below y.path z.path ≡ true) zs → Each (λ (z : Row). is_below new.path z.path ≡ true) zs
    all up [] h = tt
    all up (z ∷ zs) h = (is_below-chain new.path y.path z.path up h.0, all up zs h.1)

    by : (t : Bool) → is_below y.path new.path ≡ t → Ascends key (with_inserted below new ys) → Ascends key (with_inserted below new (y ∷ ys))
    by true e go = rw e (each_inserted (λ (z : Row). is_below y.path z.path ≡ true) below new ys e a.0, go)
    by false e go = let up = above e (is_below new.path y.path) refl in rw e ((up, all up ys a.0), a)

seconds : (P Q : Row → Type 0) (xs : List Row) → Each (λ x. P x × Q x) xs → Each Q xs
seconds P Q [] h = tt
seconds P Q (x ∷ xs) h = (h.0.1, seconds P Q xs h.1)

pub rises-with : (new : Row) (old : List Row) → rises is_below (paths_of old) ≡ true → rises is_below (paths_of (with_row new old)) ≡ true
unfolding with_row
rises-with new old h =
    let up = rises-ascends key old h in
    ascends-rises key (with_inserted below new (filter (is_other new) old)) (inserted-ascends new (filter (is_other new) old) (filter-ascends (is_other new) old up)
    (seconds (λ _. Unit {0}) (IsApart new) (filter (is_other new) old) (filter-apart (λ _. Unit {0}) new old (units old))))
  where
    units : (xs : List Row) → Each (λ _. Unit {0}) xs
    units [] = tt
    units (x ∷ xs) = (tt, units xs)

-- ---- they are held

past-fresh : (known : List Revision) (new row : Row) (made : Option FreshFile) → ((f : FreshFile) → made ≡ Some f → f.path ≡ new.path) → IsFileHeld known row → IsApart new row → IsFileHeld (fresh_list made ++ known) row
past-fresh known new row None is h o = h
past-fresh known new row (Some f) is h o =
    let other : bytes_eq row.path f.path ≡ false = ap (bytes_eq row.path) (is f refl) ∙ o in
    let same : is_of (FilesAt row.path) (file_node row.revision) (fresh_revision f) ≡ false = ap (λ (t : Bool). t && bytes_eq (file_node row.revision) f.node) other in
    record {
      revision = h.revision;
      is_held = ap (λ (t : Bool). if t then Some (fresh_revision f) else revision_of known (FilesAt row.path) (file_node row.revision)) same ∙ h.is_held;
      parents = h.parents;
      text = h.text;
    }

pub held-with : (known : List Revision) (new : Row) (old : List Row) (made : Option FreshFile) → ((f : FreshFile) → made ≡ Some f → f.path ≡ new.path) → IsFileHeld (fresh_list made ++ known) new → Each (IsFileHeld known) old
    → Each (IsFileHeld (fresh_list made ++ known)) (with_row new old)
unfolding with_row
held-with known new old made is here h =
    each_inserted (IsFileHeld (fresh_list made ++ known)) below new (filter (is_other new) old) here (each (filter (is_other new) old) (filter-apart (IsFileHeld known) new old h))
  where
    each : (xs : List Row) → Each (λ row. IsFileHeld known row × IsApart new row) xs → Each (IsFileHeld (fresh_list made ++ known)) xs
    each [] k = tt
    each (x ∷ xs) k = (past-fresh known new x made is k.0.0 k.0.1, each xs k.1)

pub not-twice : (a b : Bool) → b ≡ not a → a ≡ not b
not-twice true b e = sym (ap not e)
not-twice false b e = sym (ap not e)

pub no-text : {X : Type 0} (o : Option X) (P : X → Type 0) → o ≡ None → IfSome o P
no-text None P e = tt
no-text (Some x) P e = absurd cc

-- ---- what the draft brings

some-inserted : (P : Row → Type 0) (x : Row) (ys : List Row) → P x → SomeOf (with_inserted below x ys) P
some-inserted P x [] h = inl h
some-inserted P x (y ∷ ys) h = by (below y x) refl (some-inserted P x ys h)
  where
    by : (t : Bool) → below y x ≡ t → SomeOf (with_inserted below x ys) P → SomeOf (with_inserted below x (y ∷ ys)) P
    by true e go = rw e (inr go)
    by false e go = rw e (inl h)

pub fresh-among : (made : Option FreshFile) (new : Row) (old : List Row) → Each (λ r. r ≡ file_revision null new) (fresh_list made) → AreFreshOf (fresh_list made) (with_row new old)
unfolding with_row
fresh-among None new old h = tt
fresh-among (Some f) new old h = (some-inserted (λ row. fresh_revision f ≡ file_revision null row) new (filter (is_other new) old) h.0, tt)

pub fresh-unknown : (known : List Revision) (path : Bytes) (made : Option FreshFile) → IsFresh known path made → Each (λ r. knows_same known r ≡ false) (fresh_list made)
fresh-unknown known path None h = tt
fresh-unknown known path (Some f) h = (h.1, tt)
