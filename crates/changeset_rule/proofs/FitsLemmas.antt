-- Texts within their limits.
use Rattle.std.proofs.Common.{◌≡◌, ◌≤◌, ◌+◌, ◌++◌, ℕ, zero, suc, Bool, true, false, List, [], ◌∷◌, length, take, Some, refl, sym, subst, inl, inr, arith}
use Rattle.std.proofs.lemmas.Option.{same_Some, none-some}
use Rattle.std.specs.Prelude.{slice_get, if◌then◌else◌}
use Rattle.text_model.specs.Lists.{Each, SomeOf}
use Rattle.text_model.specs.Text.{Bytes}
use Rattle.text_model.specs.Id.{Id, null}
use Rattle.hg_model.specs.FileText.{file_text}
use Rattle.hg_model.specs.Revision.{Revision, Group, FilesAt, is_of, revision_of}
use Rattle.hg_store.specs.Known.{AreAdded}
use Rattle.view_model.specs.View.{Row, file_node, text_limit}
use Rattle.view_model.specs.Dump.{file_revision}
use Rattle.view_model.specs.Held.{IsFileHeld}
use Rattle.pair_known.specs.Drafts.{AreFreshOf}
use Rattle.pair_known.proofs.HeldViews.{held-as}

abbrev pub IsShort : Revision → Type 0
IsShort r = length r.text ≤ text_limit

abbrev pub HasShortText : Row → Type 0
HasShortText row = length (file_text (row.revision).meta (row.revision).body) ≤ text_limit

-- one revision more
pub each-more : (rs : List Revision) (i : ℕ) (r : Revision) → slice_get rs i ≡ Some r → IsShort r → Each IsShort (take i rs) → Each IsShort (take (i + 1) rs)
each-more [] i r at short before = absurd (none-some _ at)
each-more (x ∷ rs) zero r at short before = (subst IsShort (sym (same_Some _ _ at)) short, tt)
each-more (x ∷ rs) (suc i) r at short before =
    let plus : suc i + 1 ≡ suc (i + 1) = omega arith in
    subst (λ (n : ℕ). Each IsShort (take n (x ∷ rs))) (sym plus) (before.0, each-more rs i r at short before.1)

-- what is brought is short where the texts of the rows are
pub fresh-short : (fresh : List Revision) (rows : List Row) → AreFreshOf fresh rows → Each HasShortText rows → Each IsShort fresh
fresh-short [] rows of short = tt
fresh-short (r ∷ fresh) rows of short = (one rows of.0 short, fresh-short fresh rows of.1 short)
  where
    one : (rows : List Row) → SomeOf rows (λ row. r ≡ file_revision null row) → Each HasShortText rows → IsShort r
    one [] some short = absurd some
    one (row ∷ rows) some short = elim some [ inl is ↦ subst IsShort (sym is) short.0 | inr rest ↦ one rows rest short.1 ]

-- a revision that is brought or stored is short
found-short : (fresh known : List Revision) (group : Group) (node : Id) (r : Revision) → Each IsShort fresh → ((x : Revision) → revision_of known group node ≡ Some x → IsShort x)
    → revision_of (fresh ++ known) group node ≡ Some r → IsShort r
found-short [] known group node r short stored at = stored r at
found-short (x ∷ fresh) known group node r short stored at = by (is_of group node x) refl at (λ k. found-short fresh known group node r short.1 stored k)
  where
    by : (t : Bool) → is_of group node x ≡ t → (if t then Some x else revision_of (fresh ++ known) group node) ≡ Some r → (revision_of (fresh ++ known) group node ≡ Some r → IsShort r) → IsShort r
    by true e at rest = subst IsShort (same_Some _ _ at) short.0
    by false e at rest = rest at

-- the texts of the rows are short where what is brought is
pub rows-short : (known : List Revision) → AreAdded known → (fresh : List Revision) (rows : List Row) → Each IsShort fresh → Each (IsFileHeld (fresh ++ known)) rows → Each HasShortText rows
rows-short known added fresh [] short held = tt
rows-short known added fresh (row ∷ rows) short held =
    let h = held.0 in
    let is = found-short fresh known (FilesAt row.path) (file_node row.revision) h.revision short
    (λ x at. (held-as known added (FilesAt row.path) (file_node row.revision) x at).short) h.is_held in
    (subst (λ (t : Bytes). length t ≤ text_limit) (h.text).1 is, rows-short known added fresh rows short held.1)
