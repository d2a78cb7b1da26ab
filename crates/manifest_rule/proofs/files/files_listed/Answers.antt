use Rattle.std.proofs.Common.{◌≡◌, ◌+◌, ◌-◌, ◌<◌, ◌++◌, ◌∙◌, ℕ, Bool, true, true≢false, List, [], ◌∷◌, Option, Some, None, map, drop, length, sym, ap, subst, refl, arith, append-nil, append_assoc}
use Rattle.std.proofs.lemmas.List.{length-map}
use Rattle.std.proofs.lemmas.Option.{slice_get_within, none-some}
use Rattle.std.specs.Prelude.{option_map, is_some, slice_get, ◌||◌, if◌then◌else◌}
use Rattle.text_model.specs.Text.{Bytes}
use Rattle.hg_model.specs.Manifest.{ManifestEntry}
use Rattle.manifest_rule.specs.Listed.{entry_of_value, entries_or_none}
use Rattle.manifest_rule.specs.Merged.{lent_row, lent_entry, is_listed, with_path, IsAtFront}
use Rattle.manifest_rule.proofs.MergeLemmas.{entry_paths, listed_among, listed-from, listed-end, place_after}
use Rattle.manifest_rule.proofs.FilesLemmas.{listed-is, up-rows, up-of_rises, some-map}
use Rattle.manifest_rule.proofs.files.files_listed.Goals as goal

-- what was found at a path, by the lists
after-is : (place result : ℕ) (met : Bool) (o : Option ManifestEntry) → result ≡ (if met then place + 1 else place) → met ≡ is_some o → result ≡ place_after place o
after-is place result met o is same = is ∙ ap (λ (b : Bool). if b then place + 1 else place) same

smaller-one : (es : List ManifestEntry) (n place : ℕ) (p : Bytes) → n ≡ length es → (o : Option ManifestEntry) → o ≡ with_path p (slice_get es place) → (is_some o ≡ true → place < n)
smaller-one es n place p same None is h = absurd (true≢false (sym h))
smaller-one es n place p same (Some x) is h = by (slice_get es place) refl
  where
    by : (g : Option ManifestEntry) → slice_get es place ≡ g → place < n
    by None e = absurd (none-some _ (sym (is ∙ ap (with_path p) e)))
    by (Some y) e = omega (arith, slice_get_within es place y e, same)

smaller : (a b c i j k i' j' k' : ℕ) (e f g : Option ManifestEntry) → i' ≡ place_after i e → j' ≡ place_after j f → k' ≡ place_after k g
    → (is_some e || is_some f || is_some g) ≡ true → (is_some e ≡ true → i < a) → (is_some f ≡ true → j < b) → (is_some g ≡ true → k < c)
    → (a - i') + (b - j') + (c - k') < (a - i) + (b - j) + (c - k)
smaller a b c i j k i' j' k' None None None e1 e2 e3 some h1 h2 h3 = absurd (true≢false (sym some))
smaller a b c i j k i' j' k' (Some e) None None e1 e2 e3 some h1 h2 h3 = omega (arith, e1, e2, e3, h1 refl)
smaller a b c i j k i' j' k' None (Some f) None e1 e2 e3 some h1 h2 h3 = omega (arith, e1, e2, e3, h2 refl)
smaller a b c i j k i' j' k' None None (Some g) e1 e2 e3 some h1 h2 h3 = omega (arith, e1, e2, e3, h3 refl)
smaller a b c i j k i' j' k' (Some e) (Some f) None e1 e2 e3 some h1 h2 h3 = omega (arith, e1, e2, e3, h1 refl, h2 refl)
smaller a b c i j k i' j' k' (Some e) None (Some g) e1 e2 e3 some h1 h2 h3 = omega (arith, e1, e2, e3, h1 refl, h3 refl)
smaller a b c i j k i' j' k' None (Some f) (Some g) e1 e2 e3 some h1 h2 h3 = omega (arith, e1, e2, e3, h2 refl, h3 refl)
smaller a b c i j k i' j' k' (Some e) (Some f) (Some g) e1 e2 e3 some h1 h2 h3 = omega (arith, e1, e2, e3, h1 refl, h2 refl, h3 refl)

pub paths-smaller : goal.paths-smaller
paths-smaller c =
    let es = map entry_of_value c.args.rows.now in
    let fs = entries_or_none (option_map (λ m. m.now) c.args.first) in
    let gs = entries_or_none (option_map (λ m. m.now) c.args.second) in
    let found = c.in-Some.found in
    let p = found.path.now in
    let n = c.in-Some.ensures in
    let row : lent_row found.row ≡ with_path p (slice_get es c.paths.place) = n.row ∙ ap (with_path p) c.row_at.ensures in
    let first : lent_entry found.first ≡ with_path p (slice_get fs c.paths.in_first) = n.first ∙ ap (with_path p) c.entry_at.ensures.entry in
    let second : lent_entry found.second ≡ with_path p (slice_get gs c.paths.in_second) = n.second ∙ ap (with_path p) c.entry_at-in-paths.ensures.entry in
    let some : (is_some (lent_row found.row) || is_some (lent_entry found.first) || is_some (lent_entry found.second)) ≡ true =
    (λ i. is_some (n.row i) || is_some (n.first i) || is_some (n.second i)) ∙ n.some in
    smaller (length c.args.rows.now) (length fs) (length gs) c.paths.place c.paths.in_first c.paths.in_second c.after-place.result c.after-in_first.result c.after-in_second.result
    (lent_row found.row) (lent_entry found.first) (lent_entry found.second)
    (after-is c.paths.place c.after-place.result c.is_some.result (lent_row found.row) c.after-place.ensures (c.is_some.ensures ∙ some-map _ found.row))
    (after-is c.paths.in_first c.after-in_first.result c.is_some-in-Some.result (lent_entry found.first) c.after-in_first.ensures (c.is_some-in-Some.ensures ∙ some-map _ found.first))
    (after-is c.paths.in_second c.after-in_second.result c.is_some-in-Some-2.result (lent_entry found.second) c.after-in_second.ensures (c.is_some-in-Some-2.ensures ∙ some-map _ found.second))
    some
    (smaller-one es (length c.args.rows.now) c.paths.place p (sym (length-map c.args.rows.now entry_of_value)) (lent_row found.row) row)
    (smaller-one fs (length fs) c.paths.in_first p refl (lent_entry found.first) first)
    (smaller-one gs (length gs) c.paths.in_second p refl (lent_entry found.second) second)

pub paths-preserved : goal.paths-preserved
paths-preserved c = λ up.
    let es = map entry_of_value c.args.rows.now in
    let fs = entries_or_none (option_map (λ m. m.now) c.args.first) in
    let gs = entries_or_none (option_map (λ m. m.now) c.args.second) in
    let found = c.in-Some.found in
    let p = found.path.now in
    let n = c.in-Some.ensures in
    let row : lent_row found.row ≡ with_path p (slice_get es c.paths.place) = n.row ∙ ap (with_path p) c.row_at.ensures in
    let first : lent_entry found.first ≡ with_path p (slice_get fs c.paths.in_first) = n.first ∙ ap (with_path p) c.entry_at.ensures.entry in
    let second : lent_entry found.second ≡ with_path p (slice_get gs c.paths.in_second) = n.second ∙ ap (with_path p) c.entry_at-in-paths.ensures.entry in
    let i = after-is c.paths.place c.after-place.result c.is_some.result (lent_row found.row) c.after-place.ensures (c.is_some.ensures ∙ some-map _ found.row) ∙ ap (place_after c.paths.place) row in
    let j = after-is c.paths.in_first c.after-in_first.result c.is_some-in-Some.result (lent_entry found.first) c.after-in_first.ensures (c.is_some-in-Some.ensures ∙ some-map _ found.first) ∙ ap (place_after c.paths.in_first) first in
    let k = after-is c.paths.in_second c.after-in_second.result c.is_some-in-Some-2.result (lent_entry found.second) c.after-in_second.ensures (c.is_some-in-Some-2.ensures ∙ some-map _ found.second) ∙ ap (place_after c.paths.in_second) second in
    let listed : c.is_listed-listed.result ≡ is_listed c.args.there.first c.args.there.second (with_path p (slice_get es c.paths.place)) (with_path p (slice_get fs c.paths.in_first)) (with_path p (slice_get gs c.paths.in_second)) =
    c.is_listed-listed.ensures ∙ (λ x. is_listed c.args.there.first c.args.there.second (row x) (first x) (second x)) in
    let some : (is_some (with_path p (slice_get es c.paths.place)) || is_some (with_path p (slice_get fs c.paths.in_first)) || is_some (with_path p (slice_get gs c.paths.in_second))) ≡ true =
    (λ x. is_some ((sym row ∙ n.row) x) || is_some ((sym first ∙ n.first) x) || is_some ((sym second ∙ n.second) x)) ∙ n.some in
    let before : IsAtFront p (slice_get es c.paths.place) × IsAtFront p (slice_get fs c.paths.in_first) × IsAtFront p (slice_get gs c.paths.in_second) =
    (subst (IsAtFront p) c.row_at.ensures n.before.0, subst (IsAtFront p) c.entry_at.ensures.entry n.before.1, subst (IsAtFront p) c.entry_at-in-paths.ensures.entry n.before.2) in
    let step = listed-from es fs gs c.paths.place c.paths.in_first c.paths.in_second up (up-of_rises (entry_paths fs) c.entry_at.ensures.rises) (up-of_rises (entry_paths gs) c.entry_at-in-paths.ensures.rises) p some before c.args.there.first c.args.there.second in
    (λ x. (c.in_ok-push_if.ensures ∙ ap (λ (b : Bool). c.paths.paths ++ (if b then p ∷ [] else [])) listed) x ++ listed_among c.args.there.first c.args.there.second (drop (i x) es) (drop (j x) fs) (drop (k x) gs))
    ∙ append_assoc c.paths.paths _ _ ∙ ap (λ (l : List Bytes). c.paths.paths ++ l) (sym step) ∙ c.paths.invariant up

pub returns : goal.returns
returns c = λ ps hs are.
    let rows = c.args.rows.now in
    let first = option_map (λ m. m.now) c.args.first in
    let second = option_map (λ m. m.now) c.args.second in
    let end = listed-end (map entry_of_value rows) (entries_or_none first) (entries_or_none second) c.paths.place c.paths.in_first c.paths.in_second
    (sym c.row_at.ensures ∙ c.in_default.ensures.0) (sym c.entry_at.ensures.entry ∙ c.in_default.ensures.1) (sym c.entry_at-in-paths.ensures.entry ∙ c.in_default.ensures.2) c.args.there.first c.args.there.second in
    sym (append-nil c.paths.paths) ∙ ap (λ (l : List Bytes). c.paths.paths ++ l) (sym end) ∙ c.paths.invariant (up-rows rows hs are.of_rows are.rising)
    ∙ listed-is rows c.args.there.first c.args.there.second first second ps hs are
