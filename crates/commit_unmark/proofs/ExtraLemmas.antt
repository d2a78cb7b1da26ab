-- The extras that marks name, mark by mark.
use Rattle.std.proofs.Common.{◌≡◌, ◌≢◌, ◌+◌, ◌++◌, ℕ, zero, suc, true, false, true≢false, List, [], ◌∷◌, take, drop, Some, refl, sym, ap, subst, ◌∙◌, append-nil, take-append-drop}
use Rattle.std.specs.Prelude.{slice_get, IfSome, IsTrue}
use Rattle.std.specs.List.{cons_option}
use Rattle.std.proofs.lemmas.Bool.{and_parts}
use Rattle.std.proofs.lemmas.List.Elements.{filter_map-append}
use Rattle.text_model.specs.Lists.{Each, rises}
use Rattle.text_model.specs.Text.{IsBytes, has_byte}
use Rattle.text_model.proofs.Options.{none_some, some_is}
use Rattle.text_model.proofs.Elements.{each_at, take_push}
use Rattle.hg_model.specs.Changeset.{Extra, AreExtras, key_rises, last_key}
use Rattle.hg_model.proofs.ExtrasLemmas.{AreExtras-push}
use Rattle.pair_model.specs.MarkList.{Mark, Rename, File, Manifest, Files, User, Date, RawDate, OneExtra, may_follow, IsMark, IsMarkList}
use Rattle.partner_model.specs.Filled.{extra_mark}
use Rattle.mark_law.proofs.Decided.{list-front}
use Rattle.commit_unmark.specs.Parts.{extras_by, IsKey}

pub extras-more : (marks : List Mark) (i : ℕ) (m : Mark) → slice_get marks i ≡ Some m → extras_by (take (i + 1) marks) ≡ extras_by (take i marks) ++ cons_option (extra_mark m) []
extras-more marks i m at = ap extras_by (take_push marks i m at) ∙ filter_map-append extra_mark (take i marks) (m ∷ [])

-- behind an extra come only extras
extra-next : (f : Extra) (n : Mark) → may_follow (OneExtra f) n ≡ true → (g : Extra) × (n ≡ OneExtra g)
extra-next f (Rename a b) h = absurd (true≢false (sym h))
extra-next f (File a b c d) h = absurd (true≢false (sym h))
extra-next f (Manifest a) h = absurd (true≢false (sym h))
extra-next f (Files a) h = absurd (true≢false (sym h))
extra-next f (User a) h = absurd (true≢false (sym h))
extra-next f (Date a b) h = absurd (true≢false (sym h))
extra-next f (RawDate a) h = absurd (true≢false (sym h))
extra-next f (OneExtra g) h = (g, refl)

one-rises : (m : Mark) (e : Extra) → may_follow m (OneExtra e) ≡ true → key_rises (last_key (extras_by (m ∷ []))) e.key ≡ true
one-rises (Rename a b) e h = refl
one-rises (File a b c d) e h = refl
one-rises (Manifest a) e h = refl
one-rises (Files a) e h = refl
one-rises (User a) e h = refl
one-rises (Date a b) e h = refl
one-rises (RawDate a) e h = refl
one-rises (OneExtra g) e h = h

skip : (m n : Mark) (ms : List Mark) (e : Extra) → may_follow m n ≡ true → key_rises (last_key (extras_by (n ∷ ms))) e.key ≡ true → key_rises (last_key (extras_by (m ∷ n ∷ ms))) e.key ≡ true
skip (Rename a b) n ms e h k = k
skip (File a b c d) n ms e h k = k
skip (Manifest a) n ms e h k = k
skip (Files a) n ms e h k = k
skip (User a) n ms e h k = k
skip (Date a b) n ms e h k = k
skip (RawDate a) n ms e h k = k
skip (OneExtra f) n ms e h k =
    let g = extra-next f n h in
    subst (λ (x : Mark). key_rises (last_key (extras_by (OneExtra f ∷ x ∷ ms))) e.key ≡ true) (sym g.1) (subst (λ (x : Mark). key_rises (last_key (extras_by (x ∷ ms))) e.key ≡ true) g.1 k)

all-rise : (ms : List Mark) (e : Extra) → rises may_follow (ms ++ OneExtra e ∷ []) ≡ true → key_rises (last_key (extras_by ms)) e.key ≡ true
all-rise [] e h = refl
all-rise (m ∷ []) e h = one-rises m e (and_parts (may_follow m (OneExtra e)) (rises may_follow (OneExtra e ∷ [])) h).0
all-rise (m ∷ n ∷ ms) e h =
    let a = and_parts (may_follow m n) (rises may_follow (n ∷ (ms ++ OneExtra e ∷ []))) h in
    skip m n ms e a.0 (all-rise (n ∷ ms) e a.1)

-- the key of an extra of a mark list rises above those before it
pub key-rises : (marks : List Mark) (i : ℕ) (m : Mark) → IsMarkList marks → slice_get marks i ≡ Some m → (extras : List Extra) → extras ≡ extras_by (take i marks) → IfSome (extra_mark m) (λ e. IsTrue (key_rises (last_key extras) e.key))
key-rises marks i (OneExtra e) list at extras is =
    let front = list-front (take (i + 1) marks) (drop (i + 1) marks) (subst IsMarkList (sym (take-append-drop (i + 1) marks)) list) in
    subst (λ (x : List Extra). key_rises (last_key x) e.key ≡ true) (sym is) (all-rise (take i marks) e (subst (λ (x : List Mark). rises may_follow x ≡ true) (take_push marks i (OneExtra e) at) front.1))
key-rises marks i (Rename a b) list at extras is = tt
key-rises marks i (File a b c d) list at extras is = tt
key-rises marks i (Manifest a) list at extras is = tt
key-rises marks i (Files a) list at extras is = tt
key-rises marks i (User a) list at extras is = tt
key-rises marks i (Date a b) list at extras is = tt
key-rises marks i (RawDate a) list at extras is = tt

-- where the extras before a place have their form, and the mark there has a key if it is an extra, those with it have their form
pub extras-are : (marks : List Mark) (i : ℕ) (m : Mark) → IsMarkList marks → slice_get marks i ≡ Some m → IfSome (extra_mark m) (λ e. IsKey e.key) → AreExtras (extras_by (take i marks)) → AreExtras (extras_by (take (i + 1) marks))
extras-are marks i m list at key are = subst AreExtras (sym (extras-more marks i m at)) (by m at key)
  where
    by : (n : Mark) → slice_get marks i ≡ Some n → IfSome (extra_mark n) (λ e. IsKey e.key) → AreExtras (extras_by (take i marks) ++ cons_option (extra_mark n) [])
    by (OneExtra e) here k =
        let bytes = each_at IsMark marks i (OneExtra e) here list.0 in
        AreExtras-push (extras_by (take i marks)) e are (k.0, k.1, bytes.0, bytes.1) (key-rises marks i (OneExtra e) list here (extras_by (take i marks)) refl)
    by (Rename a b) here k = rw (append-nil (extras_by (take i marks))) are
    by (File a b c d) here k = rw (append-nil (extras_by (take i marks))) are
    by (Manifest a) here k = rw (append-nil (extras_by (take i marks))) are
    by (Files a) here k = rw (append-nil (extras_by (take i marks))) are
    by (User a) here k = rw (append-nil (extras_by (take i marks))) are
    by (Date a b) here k = rw (append-nil (extras_by (take i marks))) are
    by (RawDate a) here k = rw (append-nil (extras_by (take i marks))) are

-- each of the extras has a key
keyed : (m : Mark) (es : List Extra) → Each (λ e. (e.key ≢ []) × (has_byte 58 e.key ≡ false)) (cons_option (extra_mark m) es) → IfSome (extra_mark m) (λ e. IsKey e.key) × Each (λ e. (e.key ≢ []) × (has_byte 58 e.key ≡ false)) es
keyed (OneExtra e) es h = (h.0, h.1)
keyed (Rename a b) es h = (tt, h)
keyed (File a b c d) es h = (tt, h)
keyed (Manifest a) es h = (tt, h)
keyed (Files a) es h = (tt, h)
keyed (User a) es h = (tt, h)
keyed (Date a b) es h = (tt, h)
keyed (RawDate a) es h = (tt, h)

keyed-at : (marks : List Mark) (i : ℕ) (m : Mark) → slice_get marks i ≡ Some m → Each (λ e. (e.key ≢ []) × (has_byte 58 e.key ≡ false)) (extras_by marks) → IfSome (extra_mark m) (λ e. IsKey e.key)
keyed-at [] i m at h = absurd (none_some at)
keyed-at (n ∷ marks) zero m at h = subst (λ (x : Mark). IfSome (extra_mark x) (λ e. IsKey e.key)) (some_is at) (keyed n (extras_by marks) h).0
keyed-at (n ∷ marks) (suc i) m at h = keyed-at marks i m at (keyed n (extras_by marks) h).1

keys-of : (es : List Extra) → Each (λ e. (e.key ≢ []) × (has_byte 58 e.key ≡ false) × IsBytes e.key × IsBytes e.value) es → Each (λ e. (e.key ≢ []) × (has_byte 58 e.key ≡ false)) es
keys-of [] h = tt
keys-of (e ∷ es) h = ((h.0.0, h.0.1), keys-of es h.1)

pub key-there : (marks : List Mark) (i : ℕ) (m : Mark) → slice_get marks i ≡ Some m → AreExtras (extras_by marks) → IfSome (extra_mark m) (λ e. IsKey e.key)
key-there marks i m at h = keyed-at marks i m at (keys-of (extras_by marks) h.0)
