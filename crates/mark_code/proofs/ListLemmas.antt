-- Lists of marks, read line by line.
use Rattle.std.proofs.Common.{◌≡◌, ◌≢◌, ◌<◌, ◌+◌, ◌^◌, ◌==◌, ℕ, Bool, true, false, List, [], ◌∷◌, ◌++◌, length, map, Option, Some, None, refl, sym, ap, subst, ◌∙◌, append_assoc, length-append, arith, zero, suc, get_or, eqb-true, true≢false}
use Rattle.std.specs.Prelude.{codes}
use Rattle.std.specs.List.{flat_map}
use Rattle.text_model.proofs.Options.{none_some, some_is}
use Rattle.text_model.specs.Lists.{Each, rises}
use Rattle.text_model.specs.Text.{Bytes, IsBytes, lf, has_byte, line, spaced}
use Rattle.text_model.specs.Escape.{escape}
use Rattle.text_model.specs.Cuts.{Lacks, cut_of}
use Rattle.text_model.specs.Items.{Follow, state_after, Begins, ReadsItems}
use Rattle.text_model.proofs.TestLemmas.{both}
use Rattle.text_model.proofs.ByteLemmas.{IsBytes-front, IsBytes-rest}
use Rattle.text_model.proofs.CutLemmas.{cut_of-at, cut_of-takes}
use Rattle.text_model.proofs.LackLemmas.{Lacks-by_test, Lacks-append}
use Rattle.text_model.proofs.EscapeLemmas.{escape-lacks}
use Rattle.text_model.proofs.HexLemmas.{hex-lacks}
use Rattle.text_model.proofs.ItemLemmas.{Begins-none, Begins-more, Begins-all, one_list, continues}
use Rattle.hg_model.proofs.DateLemmas.{IsWithin-by_bounds, signed-lacks}
use Rattle.view_model.specs.View.{NoManifest, Over}
use Rattle.pair_model.specs.MarkList.{Mark, Rename, File, Manifest, Files, User, Date, RawDate, OneExtra, mark_words, marks_text, may_follow, IsMark, IsMarkList, AreHeadersOf}
use Rattle.mark_code.specs.declared.mark.Mark as declared
use Rattle.mark_code.specs.Values.{mark_value}
use Rattle.mark_code.specs.Reading.{◌>>=◌, mark_of, may_end}
use Rattle.mark_code.proofs.MarkLemmas.{mark_of-again, mark_of-takes}
use Rattle.mark_code.proofs.WordLemmas.{Lacks-spaced, decimal-lacks}

-- ---- a mark is one line

word : (text : Bytes) → has_byte 10 text ≡ false → Lacks lf text
word text h = Lacks-by_test 10 text h

paths-lack : (paths : List Bytes) → Each IsBytes paths → Each (Lacks lf) (map escape paths)
paths-lack [] h = tt
paths-lack (path ∷ paths) h = (escape-lacks 10 path (omega arith) h.0, paths-lack paths h.1)

words-lack : (m : Mark) → IsMark m → Each (Lacks lf) (mark_words m)
words-lack (Rename path source) h = (word (codes "HG:rename") refl, (escape-lacks 10 path (omega arith) h.0, (escape-lacks 10 source (omega arith) h.1, tt)))
words-lack (File path p q None) h =
    (word (codes "HG:file") refl, (escape-lacks 10 path (omega arith) h.0, (hex-lacks 10 p (omega arith) h.1.1, (hex-lacks 10 q (omega arith) h.2.1, (word (codes "-") refl, tt)))))
words-lack (File path p q (Some meta)) h = (
  word (codes "HG:file") refl,
  (
    escape-lacks 10 path (omega arith) h.0,
    (
      hex-lacks 10 p (omega arith) h.1.1,
      (
        hex-lacks 10 q (omega arith) h.2.1,
        (Lacks-append 10 (codes "=") (escape meta) (word (codes "=") refl) (escape-lacks 10 meta (omega arith) h.3), tt),
      ),
    ),
  ),
)
words-lack (Manifest NoManifest) h = (word (codes "HG:manifest") refl, (word (codes "null") refl, tt))
words-lack (Manifest (Over p q)) h = (word (codes "HG:manifest") refl, (hex-lacks 10 p (omega arith) h.0.1, (hex-lacks 10 q (omega arith) h.1.1, tt)))
words-lack (Files paths) h = (word (codes "HG:files") refl, (decimal-lacks 10 (length paths) (omega arith), paths-lack paths h))
words-lack (User user) h = (word (codes "HG:user") refl, (escape-lacks 10 user (omega arith) h, tt))
words-lack (Date time tz) h = (
  word (codes "HG:date") refl,
  (
    signed-lacks 10 (2 ^ 62) time (omega arith) (omega arith) (IsWithin-by_bounds (2 ^ 62) time h.time_low h.time_high),
    (signed-lacks 10 (2 ^ 31) tz (omega arith) (omega arith) (IsWithin-by_bounds (2 ^ 31) tz h.tz_low h.tz_high), tt),
  ),
)
words-lack (RawDate text) h = (word (codes "HG:raw") refl, (escape-lacks 10 text (omega arith) h, tt))
words-lack (OneExtra e) h = (word (codes "HG:extra") refl, (escape-lacks 10 e.key (omega arith) h.0, (escape-lacks 10 e.value (omega arith) h.1, tt)))

-- ---- marks as items, each of which asks something of the one before it

abbrev pub mark_line : Mark → Bytes
mark_line m = line (spaced (mark_words m))

abbrev pub after_mark : Option Mark → Mark → Option Mark
after_mark before m = Some m

abbrev pub may_come : Option Mark → Mark → Bool
may_come None m = true
may_come (Some before) m = may_follow before m

abbrev pub MayCome : Option Mark → Mark → Type 0
MayCome before m = may_come before m ≡ true

-- the mark that the first line is, and what follows the line
first_mark : Bytes → Option (Mark × Bytes)
first_mark text = do
  first ← cut_of lf text
  mark ← mark_of first.0
  Some (mark, first.1)

first-takes : (bytes : Bytes) (m : Mark) (rest : Bytes) → IsBytes bytes → first_mark bytes ≡ Some (m, rest) → (bytes ≡ mark_line m ++ rest) × IsMark m
unfolding first_mark
first-takes bytes m rest is h = by (cut_of lf bytes) refl
  where
    by : (r : Option (Bytes × Bytes)) → cut_of lf bytes ≡ r → (bytes ≡ mark_line m ++ rest) × IsMark m
    by None r = absurd (none_some {X = Mark × Bytes} {x = (m, rest)} (sym (rw r refl) ∙ h))
    by (Some first) r = read (mark_of first.0) refl
      where
        read : (s : Option Mark) → mark_of first.0 ≡ s → (bytes ≡ mark_line m ++ rest) × IsMark m
        read None s = absurd (none_some {X = Mark × Bytes} {x = (m, rest)} (sym (rw (r, s) refl) ∙ h))
        read (Some x) s =
            let same : (x, first.1) ≡ (m, rest) = some_is {X = Mark × Bytes} {x = (x, first.1)} {y = (m, rest)} (sym (rw (r, s) refl) ∙ h) in
            let cut = cut_of-takes lf bytes first.0 first.1 r in
            let t = mark_of-takes first.0 x (IsBytes-front first.0 (lf ∷ first.1) (subst IsBytes cut.0 is)) s in
            let whole : bytes ≡ mark_line x ++ first.1 = cut.0 ∙ ap (λ (w : Bytes). w ++ lf ∷ first.1) t.1 ∙ sym (append_assoc (spaced (mark_words x)) (lf ∷ []) first.1) in
            subst (λ (p : Mark × Bytes). (bytes ≡ mark_line p.0 ++ p.1) × IsMark p.0) same (whole, t.0)

first-again : (m : Mark) (rest : Bytes) → IsMark m → first_mark (mark_line m ++ rest) ≡ Some (m, rest)
unfolding first_mark
first-again m rest is =
    let plain = Lacks-spaced lf (λ e. omega (arith, e)) (mark_words m) (words-lack m is) in
    rw (append_assoc (spaced (mark_words m)) (lf ∷ []) rest, cut_of-at lf (spaced (mark_words m)) rest plain, mark_of-again m is) refl

first-ends : first_mark [] ≡ None
unfolding first_mark cut_of
first-ends = refl

reads : ReadsItems mark_line IsMark after_mark MayCome first_mark
reads = record { takes = first-takes; again = first-again; ends = first-ends }

-- ---- whole lists

text-is : (marks : List Mark) → marks_text marks ≡ flat_map mark_line marks
unfolding marks_text
text-is marks = refl

-- headers are those of one list of marks at most
pub one_headers : (headers : Bytes) (marks others : List Mark) → AreHeadersOf headers marks → AreHeadersOf headers others → marks ≡ others
one_headers headers marks others h k =
    one_list mark_line IsMark after_mark MayCome first_mark reads marks others h.0.0 k.0.0 (sym (text-is marks) ∙ sym h.1 ∙ k.1 ∙ text-is others)

pub again_headers : (marks others : List Mark) → IsMarkList marks → AreHeadersOf (marks_text marks) others → others ≡ marks
again_headers marks others is h = one_headers (marks_text marks) others marks h (is, refl)

-- ---- a list that rises is one whose marks may come where they come

Following : Option Mark → List Mark → Type 0
Following before marks = Follow mark_line IsMark after_mark MayCome before marks

from-rises : (marks : List Mark) → rises may_follow marks ≡ true → Following None marks
unfolding Following
from-rises [] h = tt
from-rises (m ∷ marks) h = (refl, behind m marks h)
  where
    behind : (m : Mark) (marks : List Mark) → rises may_follow (m ∷ marks) ≡ true → Follow mark_line IsMark after_mark MayCome (Some m) marks
    behind m [] h = tt
    behind m (n ∷ marks) h = let p = both (may_follow m n) (rises may_follow (n ∷ marks)) h in (p.0, behind n marks p.1)

to-rises : (marks : List Mark) → Following None marks → rises may_follow marks ≡ true
unfolding Following
to-rises [] h = refl
to-rises (m ∷ marks) h = behind m marks h.1
  where
    behind : (m : Mark) (marks : List Mark) → Follow mark_line IsMark after_mark MayCome (Some m) marks → rises may_follow (m ∷ marks) ≡ true
    behind m [] h = refl
    behind m (n ∷ marks) h = rw h.0 (behind n marks h.1)

-- the mark that comes behind the last one
last-is : (marks : List Mark) (m : Mark) → may_come (state_after mark_line IsMark after_mark MayCome None marks) m ≡ may_end marks m
last-is [] m = refl
last-is (a ∷ []) m = refl
last-is (a ∷ b ∷ marks) m = last-is (b ∷ marks) m

pub may_end-at : (marks : List declared.Mark) (i : ℕ) (d : declared.Mark) (m : Mark) → i + 1 ≡ length marks → may_end (map mark_value marks) m ≡ may_follow (mark_value (get_or marks i d)) m
may_end-at [] i d m h = absurd (omega (arith, h))
may_end-at (a ∷ []) zero d m h = refl
may_end-at (a ∷ []) (suc i) d m h = absurd (omega (arith, h))
may_end-at (a ∷ b ∷ marks) zero d m h = absurd (omega (arith, h))
may_end-at (a ∷ b ∷ marks) (suc i) d m h = may_end-at (b ∷ marks) i d m (omega (arith, h))

-- ---- how far the headers are read

-- the headers are the lines of the marks, and then the rest
pub record ReadTo (headers : Bytes) (marks : List Mark) (rest : Bytes) : Type 0 where
  pub begins : Begins mark_line IsMark after_mark MayCome None headers marks rest
  pub bytes : IsBytes rest

pub at-start : (headers : Bytes) → IsBytes headers → ReadTo headers [] headers
at-start headers h = record { begins = Begins-none mark_line IsMark after_mark MayCome None headers; bytes = h }

pub mark-list : (headers : Bytes) (marks : List Mark) (rest : Bytes) → ReadTo headers marks rest → IsMarkList marks
unfolding Following
mark-list headers marks rest r = (r.begins.each, to-rises marks r.begins.follow)

pub at-end : (headers : Bytes) (marks : List Mark) (rest : Bytes) → ReadTo headers marks rest → true ≡ (length rest == 0) → AreHeadersOf headers marks
at-end headers marks [] r h = (mark-list headers marks [] r, Begins-all mark_line IsMark after_mark MayCome None headers marks r.begins ∙ sym (text-is marks))
at-end headers marks (b ∷ rest) r h = absurd (omega (arith, eqb-true (length (b ∷ rest)) 0 (sym h)))

module _ (headers : Bytes) (marks : List Mark) (rest : Bytes) (r : ReadTo headers marks rest) where
  -- any marks of these headers go on with those of the rest
  go-on : (ms : List Mark) → AreHeadersOf headers ms → (ys : List Mark) × (rest ≡ flat_map mark_line ys) × Each IsMark ys × Follow mark_line IsMark after_mark MayCome (state_after mark_line IsMark after_mark MayCome None marks) ys
  unfolding Following
  go-on ms is =
      let c = continues mark_line IsMark after_mark MayCome first_mark reads None marks ms rest r.begins.each is.0.0 (from-rises ms is.0.1) (sym (text-is ms) ∙ sym is.1 ∙ r.begins.whole) in
      (c.ys, c.rest_is, c.each, c.follow)

  -- the rest begins with no mark
  stuck : first_mark rest ≡ None → rest ≢ [] → (ms : List Mark) → AreHeadersOf headers ms → ⊥
  stuck none some ms is = let g = go-on ms is in by g.0 g.1 g.2 g.3
    where
      by : (ys : List Mark) → rest ≡ flat_map mark_line ys → Each IsMark ys → Follow mark_line IsMark after_mark MayCome (state_after mark_line IsMark after_mark MayCome None marks) ys → ⊥
      by [] e h k = some e
      by (y ∷ ys) e h k = none_some {X = Mark × Bytes} {x = (y, flat_map mark_line ys)} (sym none ∙ ap first_mark e ∙ first-again y (flat_map mark_line ys) h.0)

  pub no-line : None ≡ cut_of lf rest → false ≡ (length rest == 0) → (ms : List Mark) → AreHeadersOf headers ms → ⊥
  unfolding first_mark
  no-line none some = stuck (rw (sym none) refl) (λ e. true≢false (sym (ap (λ (x : Bytes). length x == 0) e) ∙ sym some))

  module _ (text after : Bytes) (cut : Some (text, after) ≡ cut_of lf rest) where
    pub shorter : length after < length rest
    shorter = omega (arith, ap (λ (x : Bytes). length x) (cut_of-takes lf rest text after (sym cut)).0, length-append text (lf ∷ after))

    pub no-mark : None ≡ mark_of text → (ms : List Mark) → AreHeadersOf headers ms → ⊥
    unfolding first_mark
    no-mark none = stuck (rw (sym cut, sym none) refl) (λ e. absurd (omega (arith, shorter, ap (λ (x : Bytes). length x) e)))

    module _ (m : Mark) (read : Some m ≡ mark_of text) where
      first : first_mark rest ≡ Some (m, after)
      unfolding first_mark
      first = rw (sym cut, sym read) refl

      pub goes-on : true ≡ may_end marks m → ReadTo headers (marks ++ m ∷ []) after
      goes-on fits =
          let t = first-takes rest m after r.bytes first in
          record {
            begins = Begins-more mark_line IsMark after_mark MayCome None headers marks rest m after r.begins t.0 t.1 (last-is marks m ∙ sym fits);
            bytes = IsBytes-rest (mark_line m) after (subst IsBytes t.0 r.bytes);
          }

      pub no-place : false ≡ may_end marks m → (ms : List Mark) → AreHeadersOf headers ms → ⊥
      no-place falls ms is = let g = go-on ms is in by g.0 g.1 g.2 g.3
        where
          by : (ys : List Mark) → rest ≡ flat_map mark_line ys → Each IsMark ys → Follow mark_line IsMark after_mark MayCome (state_after mark_line IsMark after_mark MayCome None marks) ys → ⊥
          by [] e h k = absurd (omega (arith, shorter, ap (λ (x : Bytes). length x) e))
          by (y ∷ ys) e h k =
              let same : (m, after) ≡ (y, flat_map mark_line ys) = some_is {X = Mark × Bytes} {x = (m, after)} {y = (y, flat_map mark_line ys)} (sym first ∙ ap first_mark e ∙ first-again y (flat_map mark_line ys) h.0) in
              let one : m ≡ y = ap (λ (p : Mark × Bytes). p.0) same in
              true≢false (sym k.0 ∙ sym (ap (may_come (state_after mark_line IsMark after_mark MayCome None marks)) one) ∙ last-is marks m ∙ sym falls)
