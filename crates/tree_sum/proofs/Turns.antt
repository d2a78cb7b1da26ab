-- The turns of the loop over the entries of a tree.
use Rattle.std.proofs.Common.{◌≡◌, ◌≢◌, ◌≤◌, ◌<◌, ◌+◌, ◌-◌, ℕ, zero, suc, true, false, List, [], ◌∷◌, ◌++◌, length, take, drop, get_or, Some, sym, ap, subst, ◌∙◌, append_assoc, arith}
use Rattle.std.specs.List.{list_all}
use Rattle.std.proofs.lemmas.Bool.{leb-true}
use Rattle.std.proofs.lemmas.List.{take_all}
use Rattle.text_model.specs.Lists.{Each}
use Rattle.text_model.specs.Text.{Bytes}
use Rattle.text_model.specs.Id.{Id}
use Rattle.git_model.specs.Tree.{TreeEntry, is_directory}
use Rattle.git_model.specs.Object.{Object, tree_at, AreObjects}
use Rattle.git_model.specs.Unfold.{FileRow, is_object_there, visits}
use Rattle.tree_shape.specs.Walks.{entry_visits, entries_visits}
use Rattle.tree_shape.proofs.WalkLemmas.{entries-more, entries-split}
use Rattle.tree_shape.proofs.Unfolding.{visits-suc}
use Rattle.tree_sum.specs.declared.sum.Sum.{Sum}
use Rattle.tree_sum.specs.Numbers.{none_below, under, both, IsWithin}
use Rattle.tree_sum.specs.Sums.{sum_of, is_file_there, IsSum, Fits, Passes}
use Rattle.tree_sum.proofs.Adding.{sum-append, sum-none}
use Rattle.tree_sum.proofs.Shifts.{IsEntry, entries-are}
use Rattle.tree_sum.proofs.Depths.{entry-deep}
use Rattle.tree_sum.proofs.Paths.{name-parts}
use Rattle.tree_sum.proofs.Entries.{fits-none, fits-first, fits-second, fits-both, file-sum, file-all, directory-sum, directory-all, below-passes}
use Rattle.tree_sum.proofs.Keeping.{sum-is, sum-passes}

entry-at : (entries : List TreeEntry) (i : ℕ) (e : TreeEntry) → Each IsEntry entries → i < length entries → e ≡ get_or entries i e → IsEntry e
entry-at [] i e all below is = absurd (omega (arith, below))
entry-at (x ∷ entries) zero e all below is = subst IsEntry (sym is) all.0
entry-at (x ∷ entries) (suc i) e all below is = entry-at entries i e all.1 (omega (arith, below)) is

-- what a turn knows at its beginning
pub record Turn (known : List Object) (levels : ℕ) (id : Id) (entries : List TreeEntry) (i : ℕ) (e : TreeEntry) (s : Sum) : Type 0 where
  pub at : tree_at known id ≡ Some entries
  pub below : i < length entries
  pub is : e ≡ get_or entries i e
  pub fits : Fits known levels (entries_visits known levels [] (take i entries))
  pub sum : s ≡ sum_of known (entries_visits known levels [] (take i entries))

-- what it knows at its end
pub record Done (known : List Object) (levels : ℕ) (entries : List TreeEntry) (i : ℕ) (s : Sum) : Type 0 where
  pub fits : Fits known levels (entries_visits known levels [] (take i entries))
  pub sum : s ≡ sum_of known (entries_visits known levels [] (take i entries))

module _ (known : List Object) (are : AreObjects known) (levels : ℕ) (id : Id) (entries : List TreeEntry) (i : ℕ) (e : TreeEntry) (s : Sum) (t : Turn known levels id entries i e s) where
  abbrev front : List FileRow
  front = entries_visits known levels [] (take i entries)

  pub turn-entry : IsEntry e
  turn-entry = entry-at entries i e (entries-are known id entries are t.at) t.below t.is

  pub turn-name : length e.name ≤ 4096
  turn-name = leb-true (length e.name) 4096 (name-parts e.name turn-entry.0).short

  -- where the tree passes, so do the entries up to this one
  pub turn-passes : Passes known levels id → Fits known levels (front ++ entry_visits known levels [] e)
  turn-passes p =
      let whole : visits known (suc levels) [] id ≡ (front ++ entry_visits known levels [] e) ++ entries_visits known levels [] (drop (i + 1) entries) =
      visits-suc known levels [] id entries t.at ∙ entries-split known levels [] entries i e t.below t.is ∙ sym (append_assoc front (entry_visits known levels [] e) (entries_visits known levels [] (drop (i + 1) entries))) in
      fits-first known levels (front ++ entry_visits known levels [] e) (entries_visits known levels [] (drop (i + 1) entries)) (subst (Fits known levels) whole p.2)

  -- at no level there is no entry
  pub turn-level : levels ≡ 0 → Passes known levels id → ⊥
  unfolding sum_of
  turn-level none p =
      let f = fits-second known levels front (entry_visits known levels [] e) (turn-passes p) in
      omega (arith, none, f.within.deepest, entry-deep known levels e turn-entry)

  module _ (added : Sum) (is : sum_of known (entry_visits known levels [] e) ≡ added) where
    both-is : sum_of known (front ++ entry_visits known levels [] e) ≡ both s added
    both-is = sum-append known front (entry_visits known levels [] e) ∙ (λ k. both (sym t.sum k) (is k))

    pub turn-over : (IsWithin levels (both s added) → ⊥) → Passes known levels id → ⊥
    turn-over h p = h (subst (IsWithin levels) both-is (turn-passes p).within)

    pub turn-on : (more : Sum) → list_all (is_object_there known) (entry_visits known levels [] e) ≡ true → more ≡ both s added → IsWithin levels more → Done known levels entries (i + 1) more
    turn-on more there m w =
        let next : entries_visits known levels [] (take (i + 1) entries) ≡ front ++ entry_visits known levels [] e = entries-more known levels [] entries i e t.below t.is in
        record {
          fits = subst (Fits known levels) (sym next) (fits-both known levels front (entry_visits known levels [] e) t.fits.there there (subst (IsWithin levels) (m ∙ (λ k. both (t.sum k) (sym is k))) w));
          sum = m ∙ sym both-is ∙ ap (sum_of known) (sym next);
        }

  module _ (file : is_directory e.mode ≡ false) where
    added-file : sum_of known (entry_visits known levels [] e) ≡ under (length e.name) none_below
    added-file = file-sum known are levels e turn-entry file

    pub file-refused : ((is_file_there known e ≡ true) × IsWithin levels (both s (under (length e.name) none_below)) → ⊥) → Passes known levels id → ⊥
    file-refused h p =
        let f = turn-passes p in
        h (sym (file-all known are levels e turn-entry file) ∙ (fits-second known levels front (entry_visits known levels [] e) f).there, subst (IsWithin levels) (both-is (under (length e.name) none_below) added-file) f.within)

    pub file-on : (more : Sum) → (is_file_there known e ≡ true) × (more ≡ both s (under (length e.name) none_below)) × IsWithin levels more → Done known levels entries (i + 1) more
    file-on more h = turn-on (under (length e.name) none_below) added-file more (file-all known are levels e turn-entry file ∙ h.0) h.1 h.2

-- a directory, where there is a level for it
module _ (known : List Object) (are : AreObjects known) (less : ℕ) (low : less ≤ 256) (id : Id) (entries : List TreeEntry) (i : ℕ) (e : TreeEntry) (s : Sum) (t : Turn known (suc less) id entries i e s)
    (dir : is_directory e.mode ≡ true) where
  entry : IsEntry e
  entry = turn-entry known are (suc less) id entries i e s t

  below-refused : (Passes known less e.id → ⊥) → Passes known (suc less) id → ⊥
  below-refused h p =
      h (below-passes known are less e entry dir
      (fits-second known (suc less) (entries_visits known (suc less) [] (take i entries)) (entry_visits known (suc less) [] e) (turn-passes known are (suc less) id entries i e s t p)))

  module _ (below : Sum) (p : Passes known less e.id) (sum : IsSum known e.id below) where
    added-directory : sum_of known (entry_visits known (suc less) [] e) ≡ under (length e.name) below
    added-directory = directory-sum known are less e entry dir p.0 p.1 ∙ ap (under (length e.name)) (sym (sum-is known are less e.id low below sum p))

    below-over : (IsWithin (suc less) (both s (under (length e.name) below)) → ⊥) → Passes known (suc less) id → ⊥
    below-over = turn-over known are (suc less) id entries i e s t (under (length e.name) below) added-directory

    below-on : (more : Sum) → (more ≡ both s (under (length e.name) below)) × IsWithin (suc less) more → Done known (suc less) entries (i + 1) more
    below-on more h =
        turn-on known are (suc less) id entries i e s t (under (length e.name) below) added-directory more (directory-all known are (suc less) e entry p.0 dir p.1 ∙ p.2.there) h.0 h.1

-- a directory, by the level that is left for what stands below it, and by its id and the length of its name as they were read
module _ (known : List Object) (are : AreObjects known) (levels : ℕ) (low : levels ≤ 256) (some : levels ≢ 0) (id : Id) (entries : List TreeEntry) (i : ℕ) (e : TreeEntry) (s : Sum) (t : Turn known levels id entries i e s)
    (dir : is_directory e.mode ≡ true) (at : Id) (is : at ≡ e.id) where
  left : levels ≡ suc (levels - 1)
  left = omega (arith, some)

  turn-left : Turn known (suc (levels - 1)) id entries i e s
  turn-left = subst (λ (n : ℕ). Turn known n id entries i e s) left t

  pub directory-refused : (Passes known (levels - 1) at → ⊥) → Passes known levels id → ⊥
  directory-refused h p = below-refused known are (levels - 1) (omega (arith, low)) id entries i e s turn-left dir (λ q. h (subst (Passes known (levels - 1)) (sym is) q)) (subst (λ (n : ℕ). Passes known n id) left p)

  module _ (name : Bytes) (named : name ≡ e.name) (below : Sum) (h : Passes known (levels - 1) at × IsSum known at below) where
    p : Passes known (levels - 1) e.id
    p = subst (Passes known (levels - 1)) is h.0

    sum : IsSum known e.id below
    sum = subst (λ (x : Id). IsSum known x below) is h.1

    pub directory-over : (IsWithin levels (both s (under (length name) below)) → ⊥) → Passes known levels id → ⊥
    directory-over over q =
        below-over known are (levels - 1) (omega (arith, low)) id entries i e s turn-left dir below p sum
        (λ w. over (subst (λ (n : ℕ). IsWithin n (both s (under (length name) below))) (sym left) (subst (λ (x : Bytes). IsWithin (suc (levels - 1)) (both s (under (length x) below))) (sym named) w)))
        (subst (λ (n : ℕ). Passes known n id) left q)

    pub directory-on : (more : Sum) → (more ≡ both s (under (length name) below)) × IsWithin levels more → Done known levels entries (i + 1) more
    directory-on more m =
        subst (λ (n : ℕ). Done known n entries (i + 1) more) (sym left)
        (below-on known are (levels - 1) (omega (arith, low)) id entries i e s turn-left dir below p sum more
        (m.0 ∙ ap (λ (x : Bytes). both s (under (length x) below)) named, subst (λ (n : ℕ). IsWithin n more) left m.1))

-- ---- before and behind the loop

pub turn-of : (known : List Object) (levels : ℕ) (id : Id) (tree entries : List TreeEntry) (i : ℕ) (e : TreeEntry) (s : Sum) → Some tree ≡ tree_at known id → entries ≡ tree → Done known levels entries i s → i < length entries → e ≡ get_or entries i e
    → Turn known levels id entries i e s
turn-of known levels id tree entries i e s at same d below is = record { at = sym at ∙ ap Some (sym same); below = below; is = is; fits = d.fits; sum = d.sum }

pub done-none : (known : List Object) (levels : ℕ) (entries : List TreeEntry) (s : Sum) → s ≡ none_below → Done known levels entries 0 s
done-none known levels entries s is = record { fits = fits-none known levels; sum = is ∙ sym (sum-none known) }

pub done-all : (known : List Object) (levels : ℕ) (id : Id) (tree entries : List TreeEntry) (i : ℕ) (s : Sum) → AreObjects known → levels ≤ 256 → Some tree ≡ tree_at known id → entries ≡ tree → length entries ≤ i → Done known levels entries i s
    → Passes known levels id × IsSum known id s
done-all known levels id tree entries i s are low at same all d =
    let is : tree_at known id ≡ Some entries = sym at ∙ ap Some (sym same) in
    let whole : entries_visits known levels [] (take i entries) ≡ visits known (suc levels) [] id = ap (entries_visits known levels []) (take_all i entries all) ∙ sym (visits-suc known levels [] id entries is) in
    let p : Passes known levels id = (entries, is, subst (Fits known levels) whole d.fits) in
    (p, sum-passes known are levels id low s p (d.sum ∙ ap (sum_of known) whole))
