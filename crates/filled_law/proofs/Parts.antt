-- The parts of a changeset beside its files, each by the first mark of its kind.
use Rattle.std.proofs.Common.{◌≡◌, ◌≢◌, ◌≤◌, ℕ, Bool, true, false, List, [], ◌∷◌, ◌++◌, map, Option, Some, None, refl, sym, ap, ◌∙◌, bytes_eq, arith}
use Rattle.std.specs.Prelude.{if◌then◌else◌, unwrap_or}
use Rattle.std.specs.List.{filter_map, flat_map}
use Rattle.std.specs.Option.{option_or}
use Rattle.std.proofs.lemmas.List.Elements.{filter_map-append}
use Rattle.text_model.specs.Text.{Bytes}
use Rattle.hg_model.specs.Changeset.{DateLine, Plain, Raw, Extra}
use Rattle.pair_model.specs.Block.{Parents}
use Rattle.pair_model.specs.User.{UserDate}
use Rattle.view_model.specs.View.{ManifestParents, ChangesetView}
use Rattle.pair_model.specs.Rule.{ruled_manifest, ruled_files}
use Rattle.pair_model.specs.MarkList.{Mark, Rename, File, Manifest, Files, User, Date, RawDate, OneExtra, mark_rank}
use Rattle.partner_model.specs.Mark.{entry_marks, manifest_marks, same_manifest, files_marks, same_paths, user_marks, same_numbers, date_marks, commit_marks}
use Rattle.partner_model.specs.Filled.{entry_path, manifest_mark, files_mark, user_mark, extra_mark, date_mark, first_mark}
use Rattle.mark_law.proofs.Sections.{Within, wider, given_of, turned, from_user, from_files, from_manifest, entries_within, manifest_within, files_within, user_within, date_within, from_user_within, from_files_within}
use Rattle.unmark_law.proofs.Tables.{eq_true}
use Rattle.unmark_law.proofs.CommitOne.{same_manifest_is, same_paths_is, numbers_same}
use Rattle.filled_law.specs.Walks.{starts_entry}

-- ---- the first mark of a kind

or-none : {X : Type 0} (o : Option X) → option_or o None ≡ o
or-none None = refl
or-none (Some x) = refl

or-some : {X : Type 0} (a b c : Option X) → option_or a (option_or b c) ≡ option_or (option_or a b) c
or-some None b c = refl
or-some (Some x) b c = refl

module _ {X : Type 0} (f : Mark → Option X) where
  first-append : (ms ns : List Mark) → first_mark f (ms ++ ns) ≡ option_or (first_mark f ms) (first_mark f ns)
  first-append [] ns = refl
  first-append (m ∷ ms) ns = ap (option_or (f m)) (first-append ms ns) ∙ or-some (f m) (first_mark f ms) (first_mark f ns)

  first-none : (ms : List Mark) (low high : ℕ) → Within low high ms → ((m : Mark) → low ≤ mark_rank m → mark_rank m ≤ high → f m ≡ None) → first_mark f ms ≡ None
  first-none [] low high w none = refl
  first-none (m ∷ ms) low high w none =
      let head = none m w.0.0 w.0.1 in
      let rest = first-none ms low high w.1 none in
      λ i. option_or (head i) (rest i)

  past : (ms ns : List Mark) → first_mark f ms ≡ None → first_mark f (ms ++ ns) ≡ first_mark f ns
  past ms ns e = first-append ms ns ∙ ap (λ o. option_or o (first_mark f ns)) e

  stop : (ms ns : List Mark) → first_mark f ns ≡ None → first_mark f (ms ++ ns) ≡ first_mark f ms
  stop ms ns e = first-append ms ns ∙ ap (option_or (first_mark f ms)) e ∙ or-none (first_mark f ms)

  -- a part that is marked where it isn't the given one
  marked-back : (same : Bool) (m : Mark) (a g : X) → f m ≡ Some a → (same ≡ true → a ≡ g) → unwrap_or (first_mark f (if same then [] else m ∷ [])) g ≡ a
  marked-back true m a g e is = sym (is refl)
  marked-back false m a g e is = ap (λ o. unwrap_or (option_or o None) g) e

-- ---- kinds

manifest-none : (m : Mark) → mark_rank m ≢ 1 → manifest_mark m ≡ None
manifest-none (Rename a b) h = refl
manifest-none (File a b c d) h = refl
manifest-none (Manifest a) h = absurd (h refl)
manifest-none (Files a) h = refl
manifest-none (User a) h = refl
manifest-none (Date a b) h = refl
manifest-none (RawDate a) h = refl
manifest-none (OneExtra a) h = refl

files-none : (m : Mark) → mark_rank m ≢ 2 → files_mark m ≡ None
files-none (Rename a b) h = refl
files-none (File a b c d) h = refl
files-none (Manifest a) h = refl
files-none (Files a) h = absurd (h refl)
files-none (User a) h = refl
files-none (Date a b) h = refl
files-none (RawDate a) h = refl
files-none (OneExtra a) h = refl

user-none : (m : Mark) → mark_rank m ≢ 3 → user_mark m ≡ None
user-none (Rename a b) h = refl
user-none (File a b c d) h = refl
user-none (Manifest a) h = refl
user-none (Files a) h = refl
user-none (User a) h = absurd (h refl)
user-none (Date a b) h = refl
user-none (RawDate a) h = refl
user-none (OneExtra a) h = refl

date-none : (extras : List Extra) (m : Mark) → mark_rank m ≤ 3 → date_mark extras m ≡ None
date-none extras (Rename a b) h = refl
date-none extras (File a b c d) h = refl
date-none extras (Manifest a) h = refl
date-none extras (Files a) h = refl
date-none extras (User a) h = refl
date-none extras (Date a b) h = absurd (omega (arith, h))
date-none extras (RawDate a) h = absurd (omega (arith, h))
date-none extras (OneExtra a) h = absurd (omega (arith, h))

extra-none : (m : Mark) → mark_rank m ≤ 3 → extra_mark m ≡ None
extra-none (Rename a b) h = refl
extra-none (File a b c d) h = refl
extra-none (Manifest a) h = refl
extra-none (Files a) h = refl
extra-none (User a) h = refl
extra-none (Date a b) h = absurd (omega (arith, h))
extra-none (RawDate a) h = absurd (omega (arith, h))
extra-none (OneExtra a) h = absurd (omega (arith, h))

entry-none : (m : Mark) → 1 ≤ mark_rank m → entry_path m ≡ None
entry-none (Rename a b) h = absurd (omega (arith, h))
entry-none (File a b c d) h = absurd (omega (arith, h))
entry-none (Manifest a) h = refl
entry-none (Files a) h = refl
entry-none (User a) h = refl
entry-none (Date a b) h = refl
entry-none (RawDate a) h = refl
entry-none (OneExtra a) h = refl

pub starts-none : (ms : List Mark) (high : ℕ) → Within 1 high ms → starts_entry ms ≡ false
starts-none [] high w = refl
starts-none (m ∷ ms) high w = rw (entry-none m w.0.0, starts_entry) refl

no-extras : (ms : List Mark) → Within 0 3 ms → filter_map extra_mark ms ≡ []
no-extras [] w = refl
no-extras (m ∷ ms) w = rw (extra-none m w.0.1) (no-extras ms w.1)

extras-own : (es : List Extra) → filter_map extra_mark (map OneExtra es) ≡ es
extras-own [] = refl
extras-own (e ∷ es) = ap (λ more. e ∷ more) (extras-own es)

-- ---- the date

no-date : (extras es : List Extra) → first_mark (date_mark extras) (map OneExtra es) ≡ None
no-date extras [] = refl
no-date extras (e ∷ es) = no-date extras es

date-back : (d : DateLine) (given : UserDate)
    → unwrap_or (first_mark (date_mark (filter_map extra_mark (date_marks d given))) (date_marks d given)) (Plain given.time given.tz (filter_map extra_mark (date_marks d given))) ≡ d
date-back (Plain t z es) given = by (same_numbers t z given) refl
  where
    by : (b : Bool) → same_numbers t z given ≡ b
        → unwrap_or (first_mark (date_mark (filter_map extra_mark ((if b then [] else Date t z ∷ []) ++ map OneExtra es))) ((if b then [] else Date t z ∷ []) ++ map OneExtra es)) (Plain given.time given.tz (filter_map extra_mark ((if b then [] else Date t z ∷ []) ++ map OneExtra es))) ≡ Plain t z es
    by true e =
        let s = numbers_same t z given e in
        let x = extras-own es in
        (λ i. unwrap_or (no-date (x i) es i) (Plain given.time given.tz (x i))) ∙ (λ i. Plain (sym s.0 i) (sym s.1 i) es)
    by false e = ap (λ x. Plain t z x) (extras-own es)
date-back (Raw text) given = refl

-- ---- the marks of a changeset

module _ (ps : Parents) (h : ChangesetView) where
  abbrev given : UserDate
  given = given_of h

  abbrev entries : List Mark
  entries = flat_map (entry_marks ps) h.rows

  abbrev user : List Mark
  user = user_marks (h.fields).user given

  abbrev date : List Mark
  date = date_marks (h.fields).date given

  pub marks-are : commit_marks ps h ≡ entries ++ from_manifest ps given h
  marks-are = turned ps given h refl

  pub manifest-filled : unwrap_or (first_mark manifest_mark (commit_marks ps h)) (ruled_manifest ps h.rows) ≡ h.manifest
  manifest-filled =
      ap (λ o. unwrap_or o (ruled_manifest ps h.rows))
      (ap (first_mark manifest_mark) marks-are
      ∙ past manifest_mark entries (from_manifest ps given h) (first-none manifest_mark entries 0 0 (entries_within ps h.rows) (λ m l u. manifest-none m (λ e. absurd (omega (arith, e, u)))))
      ∙ stop manifest_mark (manifest_marks ps h) (from_files ps given h) (first-none manifest_mark (from_files ps given h) 2 6 (from_files_within ps given h) (λ m l u. manifest-none m (λ e. absurd (omega (arith, e, l))))))
      ∙ marked-back manifest_mark (same_manifest h.manifest (ruled_manifest ps h.rows)) (Manifest h.manifest) h.manifest (ruled_manifest ps h.rows) refl (same_manifest_is h.manifest (ruled_manifest ps h.rows))

  pub files-filled : unwrap_or (first_mark files_mark (commit_marks ps h)) (ruled_files ps h.rows) ≡ (h.fields).files
  files-filled =
      ap (λ o. unwrap_or o (ruled_files ps h.rows))
      (ap (first_mark files_mark) marks-are
      ∙ past files_mark entries (from_manifest ps given h) (first-none files_mark entries 0 0 (entries_within ps h.rows) (λ m l u. files-none m (λ e. absurd (omega (arith, e, u)))))
      ∙ past files_mark (manifest_marks ps h) (from_files ps given h) (first-none files_mark (manifest_marks ps h) 1 1 (manifest_within ps h) (λ m l u. files-none m (λ e. absurd (omega (arith, e, u)))))
      ∙ stop files_mark (files_marks ps h) (from_user given h) (first-none files_mark (from_user given h) 3 6 (from_user_within given h) (λ m l u. files-none m (λ e. absurd (omega (arith, e, l))))))
      ∙ marked-back files_mark (same_paths (h.fields).files (ruled_files ps h.rows)) (Files (h.fields).files) (h.fields).files (ruled_files ps h.rows) refl (same_paths_is (h.fields).files (ruled_files ps h.rows))

  -- what follows the list of files
  behind-files : {X : Type 0} (f : Mark → Option X) → ((m : Mark) → mark_rank m ≤ 2 → f m ≡ None) → first_mark f (commit_marks ps h) ≡ first_mark f (from_user given h)
  behind-files f none =
      ap (first_mark f) marks-are
      ∙ past f entries (from_manifest ps given h) (first-none f entries 0 0 (entries_within ps h.rows) (λ m l u. none m (omega (arith, u))))
      ∙ past f (manifest_marks ps h) (from_files ps given h) (first-none f (manifest_marks ps h) 1 1 (manifest_within ps h) (λ m l u. none m (omega (arith, u))))
      ∙ past f (files_marks ps h) (from_user given h) (first-none f (files_marks ps h) 2 2 (files_within ps h) (λ m l u. none m (omega (arith, u))))

  pub user-filled : unwrap_or (first_mark user_mark (commit_marks ps h)) given.user ≡ (h.fields).user
  user-filled =
      ap (λ o. unwrap_or o given.user)
      (behind-files user_mark (λ m u. user-none m (λ e. absurd (omega (arith, e, u))))
      ∙ stop user_mark user date (first-none user_mark date 4 6 (date_within (h.fields).date given) (λ m l u. user-none m (λ e. absurd (omega (arith, e, l))))))
      ∙ marked-back user_mark (bytes_eq (h.fields).user given.user) (User (h.fields).user) (h.fields).user given.user refl (eq_true (h.fields).user given.user)

  extras-are : filter_map extra_mark (commit_marks ps h) ≡ filter_map extra_mark date
  extras-are =
      ap (filter_map extra_mark) marks-are
      ∙ past-extras entries (from_manifest ps given h) (wider 0 0 0 3 entries (omega arith) (omega arith) (entries_within ps h.rows))
      ∙ past-extras (manifest_marks ps h) (from_files ps given h) (wider 1 1 0 3 (manifest_marks ps h) (omega arith) (omega arith) (manifest_within ps h))
      ∙ past-extras (files_marks ps h) (from_user given h) (wider 2 2 0 3 (files_marks ps h) (omega arith) (omega arith) (files_within ps h))
      ∙ past-extras user date (wider 3 3 0 3 user (omega arith) (omega arith) (user_within given h))
    where
      past-extras : (ms ns : List Mark) → Within 0 3 ms → filter_map extra_mark (ms ++ ns) ≡ filter_map extra_mark ns
      past-extras ms ns w = filter_map-append extra_mark ms ns ∙ ap (λ (es : List Extra). es ++ filter_map extra_mark ns) (no-extras ms w)

  pub date-filled : unwrap_or (first_mark (date_mark (filter_map extra_mark (commit_marks ps h))) (commit_marks ps h)) (Plain given.time given.tz (filter_map extra_mark (commit_marks ps h))) ≡ (h.fields).date
  date-filled =
      let only : (es : List Extra) → first_mark (date_mark es) (commit_marks ps h) ≡ first_mark (date_mark es) date =
      λ es. behind-files (date_mark es) (λ m u. date-none es m (omega (arith, u)))
      ∙ past (date_mark es) user date (first-none (date_mark es) user 3 3 (user_within given h) (λ m l u. date-none es m u)) in
      (λ i. unwrap_or (only (extras-are i) i) (Plain given.time given.tz (extras-are i))) ∙ date-back (h.fields).date given
