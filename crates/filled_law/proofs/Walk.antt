-- The rows that marks name, found in one walk beside the marks: the next mark is that of the next row, or the row has none.
use Rattle.std.proofs.Common.{◌≡◌, ◌≢◌, Bool, true, false, true≢false, List, [], ◌∷◌, ◌++◌, map, Option, Some, None, refl, sym, ap, subst, ◌∙◌, bytes_eq}
use Rattle.std.specs.Prelude.{◌&&◌, if◌then◌else◌, is_some, option_map}
use Rattle.std.specs.List.{find, filter_map, list_all, list_any}
use Rattle.std.proofs.lemmas.Bool.{and_parts}
use Rattle.std.proofs.lemmas.Slice.Eq.{bytes_eq-Decides}
use Rattle.text_model.specs.Lists.{Each, rises}
use Rattle.text_model.specs.Text.{Bytes, is_below}
use Rattle.text_model.proofs.Options.{none_some, some_is}
use Rattle.text_model.proofs.OrderLemmas.{is_below-same}
use Rattle.view_model.specs.View.{Row, TreeRow, tree_paths}
use Rattle.pair_model.specs.Block.{Parents}
use Rattle.pair_model.specs.Rule.{ruled_row}
use Rattle.pair_model.specs.MarkList.{Mark, Rename, File, Manifest, Files, User, Date, RawDate, OneExtra, may_follow}
use Rattle.partner_model.specs.Filled.{entry_path, is_at, filled_row, all_some, are_paths_there, filled_rows}
use Rattle.filled_law.specs.Walks.{named_row, mark_at, behind, starts_entry}
use Rattle.unmark_law.proofs.Rows.{below_trans, not_below, rises_rest}

abbrev pub put : Option Row → Option (List Row) → Option (List Row)
put None rows = None
put (Some row) rows = option_map (λ more. row ∷ more) rows

abbrev pub walk : Parents → List Mark → List TreeRow → Option (List Row)
walk ps ms [] = if starts_entry ms then None else Some []
walk ps ms (t ∷ ts) = put (named_row ps (mark_at t.path ms) t) (walk ps (behind t.path ms) ts)

-- ---- paths of the marks that follow

abbrev paths_in : List Mark → List Bytes
paths_in ms = filter_map entry_path ms

follows : (m n : Mark) (p q : Bytes) → may_follow m n ≡ true → entry_path m ≡ Some p → entry_path n ≡ Some q → is_below p q ≡ true
follows (Rename a s) (Rename b t) p q h e f = (λ i. is_below (sym (some_is e) i) (sym (some_is f) i)) ∙ h
follows (Rename a s) (File b x y o) p q h e f = (λ i. is_below (sym (some_is e) i) (sym (some_is f) i)) ∙ h
follows (File a u v o) (Rename b t) p q h e f = (λ i. is_below (sym (some_is e) i) (sym (some_is f) i)) ∙ h
follows (File a u v o) (File b x y k) p q h e f = (λ i. is_below (sym (some_is e) i) (sym (some_is f) i)) ∙ h
follows m (Manifest x) p q h e f = absurd (none_some f)
follows m (Files x) p q h e f = absurd (none_some f)
follows m (User x) p q h e f = absurd (none_some f)
follows m (Date x y) p q h e f = absurd (none_some f)
follows m (RawDate x) p q h e f = absurd (none_some f)
follows m (OneExtra x) p q h e f = absurd (none_some f)
follows (Manifest x) n p q h e f = absurd (none_some e)
follows (Files x) n p q h e f = absurd (none_some e)
follows (User x) n p q h e f = absurd (none_some e)
follows (Date x y) n p q h e f = absurd (none_some e)
follows (RawDate x) n p q h e f = absurd (none_some e)
follows (OneExtra x) n p q h e f = absurd (none_some e)

-- no entry follows a mark of another kind
none-follows : (m n : Mark) → may_follow m n ≡ true → entry_path m ≡ None → entry_path n ≡ None
none-follows (Rename a s) n h e = absurd (none_some (sym e))
none-follows (File a u v o) n h e = absurd (none_some (sym e))
none-follows m (Manifest x) h e = refl
none-follows m (Files x) h e = refl
none-follows m (User x) h e = refl
none-follows m (Date x y) h e = refl
none-follows m (RawDate x) h e = refl
none-follows m (OneExtra x) h e = refl
none-follows (Manifest x) (Rename b t) h e = absurd (true≢false (sym h))
none-follows (Manifest x) (File b t u o) h e = absurd (true≢false (sym h))
none-follows (Files x) (Rename b t) h e = absurd (true≢false (sym h))
none-follows (Files x) (File b t u o) h e = absurd (true≢false (sym h))
none-follows (User x) (Rename b t) h e = absurd (true≢false (sym h))
none-follows (User x) (File b t u o) h e = absurd (true≢false (sym h))
none-follows (Date x y) (Rename b t) h e = absurd (true≢false (sym h))
none-follows (Date x y) (File b t u o) h e = absurd (true≢false (sym h))
none-follows (RawDate x) (Rename b t) h e = absurd (true≢false (sym h))
none-follows (RawDate x) (File b t u o) h e = absurd (true≢false (sym h))
none-follows (OneExtra x) (Rename b t) h e = absurd (true≢false (sym h))
none-follows (OneExtra x) (File b t u o) h e = absurd (true≢false (sym h))

marks-rest : (m : Mark) (ms : List Mark) → rises may_follow (m ∷ ms) ≡ true → rises may_follow ms ≡ true
marks-rest m [] h = refl
marks-rest m (n ∷ ms) h = (and_parts (may_follow m n) (rises may_follow (n ∷ ms)) h).1

pub no-entries : (m : Mark) (ms : List Mark) → rises may_follow (m ∷ ms) ≡ true → entry_path m ≡ None → filter_map entry_path (m ∷ ms) ≡ []
no-entries m [] h e = rw e refl
no-entries m (n ∷ ms) h e =
    let a = and_parts (may_follow m n) (rises may_follow (n ∷ ms)) h in
    let rest = no-entries n ms a.1 (none-follows m n a.0 e) in
    rw e rest

entries-above : (m : Mark) (ms : List Mark) (p : Bytes) → rises may_follow (m ∷ ms) ≡ true → entry_path m ≡ Some p → Each (λ q. is_below p q ≡ true) (paths_in ms)
entries-above m [] p h e = tt
entries-above m (n ∷ ms) p h e =
    let step = and_parts (may_follow m n) (rises may_follow (n ∷ ms)) h in
    by (entry_path n) refl step.0 step.1 (λ q f. entries-above n ms q step.1 f)
  where
    higher : (q : Bytes) → is_below p q ≡ true → (rs : List Bytes) → Each (λ r. is_below q r ≡ true) rs → Each (λ r. is_below p r ≡ true) rs
    higher q b [] k = tt
    higher q b (r ∷ rs) k = (below_trans p q r b k.0, higher q b rs k.1)

    by : (o : Option Bytes) → entry_path n ≡ o → may_follow m n ≡ true → rises may_follow (n ∷ ms) ≡ true → ((q : Bytes) → entry_path n ≡ Some q → Each (λ r. is_below q r ≡ true) (paths_in ms)) → Each (λ q. is_below p q ≡ true) (paths_in (n ∷ ms))
    by None f a r go = rw (no-entries n ms r f) tt
    by (Some q) f a r go =
        let b = follows m n p q a e f in
        rw f (b, higher q b (paths_in ms) (go q f))

-- ---- a path at which no mark is

abbrev Absent : Bytes → List Mark → Type 0
Absent path ms = Each (λ q. q ≢ path) (paths_in ms)

not-same : (x y : Bytes) → x ≢ y → bytes_eq x y ≡ false
not-same x y h = by (bytes_eq x y) refl
  where
    by : (t : Bool) → bytes_eq x y ≡ t → bytes_eq x y ≡ false
    by true e = absurd (h ((bytes_eq-Decides x y).0 e))
    by false e = e

own : (x : Bytes) → bytes_eq x x ≡ true
own x = (bytes_eq-Decides x x).1 refl

pub at-none : (path : Bytes) (m : Mark) → entry_path m ≡ None → is_at path m ≡ false
at-none path m e = rw (e, is_at) refl

pub at-other : (path q : Bytes) (m : Mark) → entry_path m ≡ Some q → q ≢ path → is_at path m ≡ false
at-other path q m e h = rw (e, is_at) (not-same path q (λ s. h (sym s)))

pub at-own : (path q : Bytes) (m : Mark) → entry_path m ≡ Some q → q ≡ path → is_at path m ≡ true
at-own path q m e s = rw (e, is_at) ((bytes_eq-Decides path q).1 (sym s))

absent-find : (path : Bytes) (ms : List Mark) → Absent path ms → find (is_at path) ms ≡ None
absent-find path [] a = refl
absent-find path (m ∷ ms) a = by (entry_path m) refl (absent-find path ms)
  where
    by : (o : Option Bytes) → entry_path m ≡ o → (Absent path ms → find (is_at path) ms ≡ None) → find (is_at path) (m ∷ ms) ≡ None
    by None e go =
        let rest : Absent path ms = rw e at a in
        rw (at-none path m e) (go rest)
    by (Some q) e go =
        let both : Each (λ x. x ≢ path) (q ∷ paths_in ms) = rw e at a in
        rw (at-other path q m e both.0) (go both.1)

absent-there : (t : TreeRow) (ts : List TreeRow) (ms : List Mark) → Absent t.path ms → are_paths_there ms (t ∷ ts) ≡ are_paths_there ms ts
absent-there t ts ms a = by (paths_in ms) a
  where
    by : (qs : List Bytes) → Each (λ q. q ≢ t.path) qs → list_all (λ path. list_any (bytes_eq path) (tree_paths (t ∷ ts))) qs ≡ list_all (λ path. list_any (bytes_eq path) (tree_paths ts)) qs
    by [] k = refl
    by (q ∷ qs) k = rw (not-same q t.path k.0) (ap (λ (b : Bool). list_any (bytes_eq q) (tree_paths ts) && b) (by qs k.1))

-- ---- the walk is what the marks name

above-apart : (p : Bytes) (qs : List Bytes) → Each (λ q. is_below p q ≡ true) qs → Each (λ q. q ≢ p) qs
above-apart p [] h = tt
above-apart p (q ∷ qs) h = ((λ (e : q ≡ p). not_below p (ap (is_below p) (sym e) ∙ h.0)), above-apart p qs h.1)

rows-above : (t : TreeRow) (ts : List TreeRow) → rises is_below (tree_paths (t ∷ ts)) ≡ true → Each (λ (u : TreeRow). is_below t.path u.path ≡ true) ts
rows-above t [] h = tt
rows-above t (u ∷ us) h =
    let a = and_parts (is_below t.path u.path) (rises is_below (tree_paths (u ∷ us))) h in
    (a.0, higher us a.0 (rows-above u us a.1))
  where
    higher : (vs : List TreeRow) → is_below t.path u.path ≡ true → Each (λ (v : TreeRow). is_below u.path v.path ≡ true) vs → Each (λ (v : TreeRow). is_below t.path v.path ≡ true) vs
    higher [] b k = tt
    higher (v ∷ vs) b k = (below_trans t.path u.path v.path b k.0, higher vs b k.1)

put-if : (o : Option Row) (b : Bool) (rows : Option (List Row)) → put o (if b then rows else None) ≡ (if b then put o rows else None)
put-if None true rows = refl
put-if None false rows = refl
put-if (Some r) true rows = refl
put-if (Some r) false rows = refl

-- of two paths that differ one lies below
other-below : (x y : Bytes) → bytes_eq x y ≡ false → is_below x y ≡ false → is_below y x ≡ true
other-below x y e h = by (is_below y x) refl
  where
    by : (t : Bool) → is_below y x ≡ t → is_below y x ≡ true
    by true f = f
    by false f = absurd (true≢false (sym ((bytes_eq-Decides x y).1 (is_below-same x y h f)) ∙ e))

put-all : (o : Option Row) (os : List (Option Row)) → put o (all_some os) ≡ all_some (o ∷ os)
put-all None os = refl
put-all (Some r) os = refl

module _ (ps : Parents) where
  filled-at : (ms : List Mark) (t : TreeRow) (o : Option Mark) → find (is_at t.path) ms ≡ o → filled_row ps ms t ≡ named_row ps o t
  filled-at ms t None e = rw (e, filled_row) refl
  filled-at ms t (Some m) e = rw (e, filled_row) refl

  -- a mark at a path that none of the rows has changes nothing of them
  rows-past : (m : Mark) (p : Bytes) (ms : List Mark) (ts : List TreeRow) → entry_path m ≡ Some p → Each (λ (u : TreeRow). is_below p u.path ≡ true) ts → map (filled_row ps (m ∷ ms)) ts ≡ map (filled_row ps ms) ts
  rows-past m p ms [] e h = refl
  rows-past m p ms (u ∷ us) e h =
      let off : is_at u.path m ≡ false = at-other u.path p m e (λ (s : p ≡ u.path). not_below p (ap (is_below p) s ∙ h.0)) in
      let same : find (is_at u.path) (m ∷ ms) ≡ find (is_at u.path) ms = rw off refl in
      let one : filled_row ps (m ∷ ms) u ≡ filled_row ps ms u = filled-at (m ∷ ms) u (find (is_at u.path) ms) same ∙ sym (filled-at ms u (find (is_at u.path) ms) refl) in
      let more = rows-past m p ms us e h.1 in
      λ i. one i ∷ more i

  -- a mark whose path lies below all rows is at none of them
  below-all : (p : Bytes) (ts : List TreeRow) → Each (λ (u : TreeRow). is_below p u.path ≡ true) ts → list_any (bytes_eq p) (tree_paths ts) ≡ false
  below-all p [] h = refl
  below-all p (u ∷ us) h = rw (not-same p u.path (λ (s : p ≡ u.path). not_below p (ap (is_below p) s ∙ h.0))) (below-all p us h.1)

  nowhere : (m : Mark) (p : Bytes) (ms : List Mark) (ts : List TreeRow) → entry_path m ≡ Some p → Each (λ (u : TreeRow). is_below p u.path ≡ true) ts → filled_rows ps (m ∷ ms) ts ≡ None
  nowhere m p ms ts e h = rw (e, below-all p ts h) refl

  stuck : (m : Mark) (p : Bytes) (ms : List Mark) (ts : List TreeRow) → entry_path m ≡ Some p → Each (λ (u : TreeRow). is_below p u.path ≡ true) ts → walk ps (m ∷ ms) ts ≡ None
  stuck m p ms [] e h = rw e refl
  stuck m p ms (u ∷ us) e h =
      let off : is_at u.path m ≡ false = at-other u.path p m e (λ (s : p ≡ u.path). not_below p (ap (is_below p) s ∙ h.0)) in
      rw (off, stuck m p ms us e h.1) refl

  -- where none of the marks is at the row's path, it has none
  absent-at : (path : Bytes) (ms : List Mark) → Absent path ms → (mark_at path ms ≡ None) × (behind path ms ≡ ms)
  absent-at path [] a = (refl, refl)
  absent-at path (m ∷ ms) a = by (entry_path m) refl
    where
      by : (o : Option Bytes) → entry_path m ≡ o → (mark_at path (m ∷ ms) ≡ None) × (behind path (m ∷ ms) ≡ m ∷ ms)
      by None e = (rw (at-none path m e) refl, rw (at-none path m e) refl)
      by (Some q) e =
          let both : Each (λ x. x ≢ path) (q ∷ paths_in ms) = rw e at a in
          (rw (at-other path q m e both.0) refl, rw (at-other path q m e both.0) refl)

  abbrev Agrees : List Mark → List TreeRow → Type 0
  Agrees ms ts = walk ps ms ts ≡ filled_rows ps ms ts

  free : (t : TreeRow) (ts : List TreeRow) (ms : List Mark) → Agrees ms ts → Absent t.path ms → Agrees ms (t ∷ ts)
  free t ts ms go a =
      let at = absent-at t.path ms a in
      let one = filled-at ms t None (absent-find t.path ms a) in
      rw (at.0, at.1, absent-there t ts ms a)
      (ap (put (Some (ruled_row ps t))) go ∙ put-if (Some (ruled_row ps t)) (are_paths_there ms ts) (all_some (map (filled_row ps ms) ts))
      ∙ (λ i. if are_paths_there ms ts then all_some (sym one i ∷ map (filled_row ps ms) ts) else None))

  -- the next mark is the row's
  taken : (t : TreeRow) (ts : List TreeRow) (m : Mark) (p : Bytes) (ms : List Mark) → Agrees ms ts → entry_path m ≡ Some p → p ≡ t.path → Absent t.path ms → Each (λ (u : TreeRow). is_below p u.path ≡ true) ts → Agrees (m ∷ ms) (t ∷ ts)
  taken t ts m p ms go e same a up =
      let own = at-own t.path p m e same in
      let found : find (is_at t.path) (m ∷ ms) ≡ Some m = rw own refl in
      let one = filled-at (m ∷ ms) t (Some m) found in
      let past = rows-past m p ms ts e up in
      rw (own, e, (bytes_eq-Decides p t.path).1 same, absent-there t ts ms a)
      (ap (put (named_row ps (Some m) t)) go ∙ put-if (named_row ps (Some m) t) (are_paths_there ms ts) (all_some (map (filled_row ps ms) ts))
      ∙ ap (λ o. if are_paths_there ms ts then o else None) (put-all (named_row ps (Some m) t) (map (filled_row ps ms) ts))
      ∙ (λ i. if are_paths_there ms ts then all_some (sym one i ∷ sym past i) else None))

  step : (t : TreeRow) (ts : List TreeRow) → ((ns : List Mark) → rises may_follow ns ≡ true → Agrees ns ts) → rises is_below (tree_paths (t ∷ ts)) ≡ true → (ms : List Mark) → rises may_follow ms ≡ true → Agrees ms (t ∷ ts)
  step t ts go k [] r = free t ts [] (go [] r) tt
  step t ts go k (m ∷ ms) r = by (entry_path m) refl
    where
      by : (o : Option Bytes) → entry_path m ≡ o → Agrees (m ∷ ms) (t ∷ ts)
      by None e = free t ts (m ∷ ms) (go (m ∷ ms) r) (rw (no-entries m ms r e) tt)
      by (Some p) e = by-path (bytes_eq p t.path) (is_below p t.path) refl refl
        where
          later : Each (λ q. is_below p q ≡ true) (paths_in ms)
          later = entries-above m ms p r e

          up : Each (λ (u : TreeRow). is_below t.path u.path ≡ true) ts
          up = rows-above t ts k

          higher : (us : List TreeRow) → is_below p t.path ≡ true → Each (λ (u : TreeRow). is_below t.path u.path ≡ true) us → Each (λ (u : TreeRow). is_below p u.path ≡ true) us
          higher [] b h = tt
          higher (u ∷ us) b h = (below_trans p t.path u.path b h.0, higher us b h.1)

          above : (qs : List Bytes) → is_below t.path p ≡ true → Each (λ q. is_below p q ≡ true) qs → Each (λ q. q ≢ t.path) qs
          above [] b h = tt
          above (q ∷ qs) b h = ((λ (s : q ≡ t.path). not_below t.path (ap (is_below t.path) (sym s) ∙ below_trans t.path p q b h.0)), above qs b h.1)

          by-path : (x y : Bool) → bytes_eq p t.path ≡ x → is_below p t.path ≡ y → Agrees (m ∷ ms) (t ∷ ts)
          by-path true y f g =
              let same : p ≡ t.path = (bytes_eq-Decides p t.path).0 f in
              taken t ts m p ms (go ms (marks-rest m ms r)) e same (ap-apart same) (up-from same)
            where
              ap-apart : p ≡ t.path → Absent t.path ms
              ap-apart same = subst (λ (x : Bytes). Absent x ms) same (above-apart p (paths_in ms) later)

              up-from : p ≡ t.path → Each (λ (u : TreeRow). is_below p u.path ≡ true) ts
              up-from same = subst (λ (x : Bytes). Each (λ (u : TreeRow). is_below x u.path ≡ true) ts) (sym same) up
          by-path false true f g =
              let all : Each (λ (u : TreeRow). is_below p u.path ≡ true) (t ∷ ts) = (g, higher ts g up) in
              stuck m p ms (t ∷ ts) e all ∙ sym (nowhere m p ms (t ∷ ts) e all)
          by-path false false f g =
              let b = other-below p t.path f g in
              free t ts (m ∷ ms) (go (m ∷ ms) r) (rw e ((λ (s : p ≡ t.path). true≢false (sym ((bytes_eq-Decides p t.path).1 s) ∙ f)), above (paths_in ms) b later))

  -- the walk gives what the marks name
  pub walked : (ts : List TreeRow) (ms : List Mark) → rises may_follow ms ≡ true → rises is_below (tree_paths ts) ≡ true → Agrees ms ts
  walked [] [] h k = refl
  walked [] (m ∷ ms) h k = by (entry_path m) refl
    where
      by : (o : Option Bytes) → entry_path m ≡ o → Agrees (m ∷ ms) []
      by None e = rw (e, no-entries-behind e) refl
        where
          no-entries-behind : entry_path m ≡ None → filter_map entry_path ms ≡ []
          no-entries-behind e = rw e at (no-entries m ms h e)
      by (Some p) e = rw e refl
  walked (t ∷ ts) ms h k = step t ts (λ ns r. walked ts ns r (rises_rest t.path (tree_paths ts) k)) k ms h
