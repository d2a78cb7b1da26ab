-- The marks of a changeset are a mark list: the kinds stand in their order, paths and keys rise, and a raw line stands beside no date.
use Rattle.std.proofs.Common.{◌≡◌, ◌<◌, ◌≤◌, ◌+◌, ℕ, Bool, true, false, List, [], ◌∷◌, ◌++◌, map, Option, Some, None, refl, ap, ◌∙◌, arith}
use Rattle.std.specs.Prelude.{if◌then◌else◌, ℤ, bytes_eq}
use Rattle.std.specs.List.{flat_map}
use Rattle.std.proofs.lemmas.Bool.{and_parts, lt-ltb}
use Rattle.text_model.specs.Lists.{Each, rises}
use Rattle.text_model.specs.Text.{Bytes, is_below}
use Rattle.text_model.proofs.EachLemmas.{Each-append}
use Rattle.hg_model.specs.Changeset.{DateLine, Plain, Raw, Extra, IsDateLine}
use Rattle.git_model.proofs.SortLemmas.{Ascends, rises-ascends}
use Rattle.view_model.specs.View.{Row, ChangesetView, IsChangesetView}
use Rattle.pair_model.specs.Block.{Parents}
use Rattle.pair_model.specs.User.{UserDate}
use Rattle.pair_model.specs.Rule.{ruled_manifest, ruled_files}
use Rattle.pair_model.specs.MarkList.{Mark, Rename, File, Manifest, Files, User, Date, RawDate, OneExtra, mark_rank, may_follow, IsMarkList}
use Rattle.partner_model.specs.Mark.{rename_source, revision_mark, is_ruled, entry_marks, same_manifest, same_paths, same_numbers, date_marks, commit_marks}
use Rattle.mark_law.proofs.MarkTypes.{marks_are}
use Rattle.mark_law.proofs.Sections.{Within, given_of, turned, date_within, from_user, from_files, from_manifest, from_user_within, from_files_within, from_manifest_within}

-- each of the later marks may follow the mark
abbrev pub Follow : Mark → List Mark → Type 0
Follow m ms = Each (λ n. may_follow m n ≡ true) ms

rises-cons : (m : Mark) (ms : List Mark) → Follow m ms → rises may_follow ms ≡ true → rises may_follow (m ∷ ms) ≡ true
rises-cons m [] f r = refl
rises-cons m (n ∷ ms) f r = rw f.0 r

pub rises-append : (ms ns : List Mark) → rises may_follow ms ≡ true → rises may_follow ns ≡ true → Each (λ m. Follow m ns) ms → rises may_follow (ms ++ ns) ≡ true
rises-append [] ns r s f = s
rises-append (m ∷ []) ns r s f = rises-cons m ns f.0 s
rises-append (m ∷ n ∷ ms) ns r s f =
    let a = and_parts (may_follow m n) (rises may_follow (n ∷ ms)) r in
    rw a.0 (rises-append (n ∷ ms) ns a.1 s f.1)

-- ---- kinds before other kinds

-- no raw line may not stand behind it
abbrev is_free : Mark → Type 0
is_free m = mark_rank m ≤ 3

lower : (m n : Mark) → is_free m → mark_rank m < mark_rank n → may_follow m n ≡ true
lower (Rename p s) n h lt = rw (lt-ltb 0 (mark_rank n) lt) refl
lower (File p a b o) n h lt = rw (lt-ltb 0 (mark_rank n) lt) refl
lower (Manifest x) n h lt = rw (lt-ltb 1 (mark_rank n) lt) refl
lower (Files ps) n h lt = rw (lt-ltb 2 (mark_rank n) lt) refl
lower (User u) n h lt = rw (lt-ltb 3 (mark_rank n) lt) refl
lower (Date t z) n h lt = absurd (omega (arith, h))
lower (RawDate x) n h lt = absurd (omega (arith, h))
lower (OneExtra e) n h lt = absurd (omega (arith, h))

above : (m : Mark) (low high : ℕ) (ns : List Mark) → is_free m → mark_rank m < low → Within low high ns → Follow m ns
above m low high [] h lt w = tt
above m low high (n ∷ ns) h lt w = (lower m n h (omega (arith, lt, w.0.0)), above m low high ns h lt w.1)

-- where it isn't the given one there is a mark, below all that follow
one-before : (k : ℕ) (t : Bool) (m : Mark) (high : ℕ) (ns : List Mark) → mark_rank m ≡ k → k ≤ 3 → Within (k + 1) high ns → rises may_follow ns ≡ true → rises may_follow ((if t then [] else m ∷ []) ++ ns) ≡ true
one-before k true m high ns e top w r = r
one-before k false m high ns e top w r = rises-cons m ns (above m (k + 1) high ns (omega (arith, e, top)) (omega (arith, e)) w) r

-- ---- extras and dates

extras-rise : (es : List Extra) → rises is_below (map (λ e. e.key) es) ≡ true → rises may_follow (map OneExtra es) ≡ true
extras-rise [] r = refl
extras-rise (e ∷ []) r = refl
extras-rise (e ∷ f ∷ es) r =
    let a = and_parts (is_below e.key f.key) (rises is_below (map (λ e. e.key) (f ∷ es))) r in
    rw a.0 (extras-rise (f ∷ es) a.1)

extras-follow : (time tz : ℤ) (es : List Extra) → Follow (Date time tz) (map OneExtra es)
extras-follow time tz [] = tt
extras-follow time tz (e ∷ es) = (refl, extras-follow time tz es)

dates-rise : (d : DateLine) (given : UserDate) → IsDateLine d → rises may_follow (date_marks d given) ≡ true
dates-rise (Plain time tz es) given h = by (same_numbers time tz given)
  where
    by : (t : Bool) → rises may_follow ((if t then [] else Date time tz ∷ []) ++ map OneExtra es) ≡ true
    by true = extras-rise es h.items.1
    by false = rises-cons (Date time tz) (map OneExtra es) (extras-follow time tz es) (extras-rise es h.items.1)
dates-rise (Raw text) given h = refl

-- ---- entries

entries-follow : (p q : Bytes) (r s : Option Bytes) (h k : Row) → is_below p q ≡ true → may_follow (revision_mark p h.revision r) (revision_mark q k.revision s) ≡ true
entries-follow p q None None h k lt = lt
entries-follow p q None (Some t) h k lt = lt
entries-follow p q (Some t) None h k lt = lt
entries-follow p q (Some t) (Some u) h k lt = lt

module _ (ps : Parents) where
  later-entries : (h : Row) (o : Option Bytes) (rows : List Row) → Each (λ k. is_below h.path k.path ≡ true) rows → Follow (revision_mark h.path h.revision o) (flat_map (entry_marks ps) rows)
  unfolding entry_marks
  later-entries h o [] up = tt
  later-entries h o (k ∷ rows) up =
      Each-append (λ n. may_follow (revision_mark h.path h.revision o) n ≡ true) (entry_marks ps k) (flat_map (entry_marks ps) rows) one (later-entries h o rows up.1)
    where
      one : Follow (revision_mark h.path h.revision o) (entry_marks ps k)
      one = by (is_ruled ps k)
        where
          by : (t : Bool) → Follow (revision_mark h.path h.revision o) (if t then [] else revision_mark k.path k.revision (rename_source ps k.revision) ∷ [])
          by true = tt
          by false = (entries-follow h.path k.path o (rename_source ps k.revision) h k up.0, tt)

  entries-rise : (rows : List Row) → Ascends (λ (row : Row). row.path) rows → rises may_follow (flat_map (entry_marks ps) rows) ≡ true
  unfolding entry_marks
  entries-rise [] up = refl
  entries-rise (h ∷ rows) up = one (is_ruled ps h) refl (entries-rise rows up.1)
    where
      one : (t : Bool) → is_ruled ps h ≡ t → rises may_follow (flat_map (entry_marks ps) rows) ≡ true → rises may_follow (entry_marks ps h ++ flat_map (entry_marks ps) rows) ≡ true
      one true e later = rw e later
      one false e later = rw e (rises-cons (revision_mark h.path h.revision (rename_source ps h.revision)) (flat_map (entry_marks ps) rows) (later-entries h (rename_source ps h.revision) rows up.0) later)

  entries-below : (rows : List Row) (high : ℕ) (ns : List Mark) → Within 1 high ns → Each (λ m. Follow m ns) (flat_map (entry_marks ps) rows)
  unfolding entry_marks
  entries-below [] high ns w = tt
  entries-below (h ∷ rows) high ns w = Each-append (λ m. Follow m ns) (entry_marks ps h) (flat_map (entry_marks ps) rows) one (entries-below rows high ns w)
    where
      free : (o : Option Bytes) → Follow (revision_mark h.path h.revision o) ns
      free None = above (File h.path (h.revision).p (h.revision).q (h.revision).meta) 1 high ns (omega arith) (omega arith) w
      free (Some s) = above (Rename h.path s) 1 high ns (omega arith) (omega arith) w

      one : Each (λ m. Follow m ns) (entry_marks ps h)
      one = by (is_ruled ps h)
        where
          by : (t : Bool) → Each (λ m. Follow m ns) (if t then [] else revision_mark h.path h.revision (rename_source ps h.revision) ∷ [])
          by true = tt
          by false = (free (rename_source ps h.revision), tt)

  pub marks-rise : (h : ChangesetView) → IsChangesetView h → rises may_follow (commit_marks ps h) ≡ true
  marks-rise h v =
      let given = given_of h in
      let user = one-before 3 (bytes_eq (h.fields).user given.user) (User (h.fields).user) 6 (date_marks (h.fields).date given) refl (omega arith) (dates given) (dates-rise (h.fields).date given (v.fields).date) in
      let files = one-before 2 (same_paths (h.fields).files (ruled_files ps h.rows)) (Files (h.fields).files) 6 (from_user given h) refl (omega arith) (from_user_within given h) user in
      let manifest = one-before 1 (same_manifest h.manifest (ruled_manifest ps h.rows)) (Manifest h.manifest) 6 (from_files ps given h) refl (omega arith) (from_files_within ps given h) files in
      let whole = rises-append (flat_map (entry_marks ps) h.rows) (from_manifest ps given h) (entries-rise h.rows (rises-ascends (λ (row : Row). row.path) h.rows v.in_order)) manifest (entries-below h.rows 6 (from_manifest ps given h) (from_manifest_within ps given h)) in
      ap (rises may_follow) (turned ps given h refl) ∙ whole
    where
      dates : (given : UserDate) → Within 4 6 (date_marks (h.fields).date given)
      dates given = date_within (h.fields).date given

-- the marks of a changeset are a mark list
pub marks_are_list : (ps : Parents) (h : ChangesetView) → IsChangesetView h → IsMarkList (commit_marks ps h)
marks_are_list ps h v = (marks_are ps h v, marks-rise ps h v)
