-- A mark list has one text, and so have the extras of a changeset's marks.
use Rattle.std.proofs.Common.{◌≡◌, ◌≢◌, ℕ, ◌<◌, ◌+◌, true, false, List, [], ◌∷◌, length, map, Option, Some, None, refl, sym, ap, ◌∙◌, arith}
use Rattle.std.specs.Prelude.{codes, ℤ, ◌^◌, fold}
use Rattle.std.specs.List.{list_all}
use Rattle.std.proofs.lemmas.Bool.{true≢false, and_parts}
use Rattle.std.proofs.lemmas.Int.{ints}
use Rattle.text_model.specs.Lists.{Each}
use Rattle.text_model.specs.Text.{Bytes, IsBytes, spaced}
use Rattle.text_model.specs.Id.{hex}
use Rattle.text_model.specs.Escape.{escape, is_plain}
use Rattle.text_model.specs.Cuts.{Lacks}
use Rattle.text_model.proofs.LackLemmas.{Lacks-append}
use Rattle.text_model.proofs.EscapeLemmas.{escape-injective, escape-lacks}
use Rattle.text_model.proofs.HexLemmas.{hex-injective, hex-lacks}
use Rattle.hg_model.specs.Changeset.{IsPlainDate}
use Rattle.hg_model.proofs.DateLemmas.{IsWithin, IsWithin-by_bounds, signed-lacks}
use Rattle.view_model.specs.View.{ManifestParents, NoManifest, Over}
use Rattle.pair_model.specs.MarkList.{Mark, Rename, File, Manifest, Files, User, Date, RawDate, OneExtra, meta_word, mark_words, marks_text, IsMark}
use Rattle.mark_law.proofs.TextFacts.{Lacks-spaced, spaced_one, ended_one, Lacks-decimal, signed_one}

-- a byte that no plain_lacks_gap of a mark has
pub record IsGap (b : ℕ) : Type 0 where
  pub low : b < 33
  pub outside : is_plain b ≡ false

pub sp_gap : IsGap 32
sp_gap = record { low = omega arith; outside = refl }

pub lf_gap : IsGap 10
lf_gap = record { low = omega arith; outside = refl }

-- a plain_lacks_gap of plain bytes lacks it
plain_lacks : (b : ℕ) → is_plain b ≡ false → (xs : List ℕ) → list_all is_plain xs ≡ true → Lacks b xs
plain_lacks b out [] h = tt
plain_lacks b out (x ∷ xs) h =
    let p = and_parts (is_plain x) (list_all is_plain xs) h in
    ((λ (e : x ≡ b). absurd (true≢false (sym p.0 ∙ ap is_plain e ∙ out))), plain_lacks b out xs p.1)

pub plain_lacks_gap : (b : ℕ) → IsGap b → (xs : List ℕ) → list_all is_plain xs ≡ true → Lacks b xs
plain_lacks_gap b g xs h = plain_lacks b g.outside xs h

pub escape_lacks : (b : ℕ) → IsGap b → (xs : List ℕ) → IsBytes xs → Lacks b (escape xs)
escape_lacks b g xs h = escape-lacks b xs g.low h

pub hex_lacks : (b : ℕ) → IsGap b → (xs : List ℕ) → IsBytes xs → Lacks b (hex xs)
hex_lacks b g xs h = hex-lacks b xs (omega (arith, g.low)) h

time_range : (t z : ℤ) → IsPlainDate t z [] → IsWithin (2 ^ 62) t
time_range t z h = IsWithin-by_bounds (2 ^ 62) t h.time_low h.time_high

zone_range : (t z : ℤ) → IsPlainDate t z [] → IsWithin (2 ^ 62) z
zone_range t z h = IsWithin-by_bounds (2 ^ 62) z (omega (arith, ints, h.tz_low)) (omega (arith, ints, h.tz_high))

lacks_all : (b : ℕ) → IsGap b → (paths : List (List ℕ)) → Each IsBytes paths → Each (Lacks b) (map escape paths)
lacks_all b g [] h = tt
lacks_all b g (p ∷ ps) h = (escape_lacks b g p h.0, lacks_all b g ps h.1)

pub lacks_words : (b : ℕ) → IsGap b → (m : Mark) → IsMark m → Each (Lacks b) (mark_words m)
lacks_words b g (Rename path source) h = (plain_lacks_gap b g (codes "HG:rename") refl, (escape_lacks b g path h.0, (escape_lacks b g source h.1, tt)))
lacks_words b g (File path p q None) h = (plain_lacks_gap b g (codes "HG:file") refl, (escape_lacks b g path h.0, (hex_lacks b g p h.1.1, (hex_lacks b g q h.2.1, (plain_lacks_gap b g (codes "-") refl, tt)))))
lacks_words b g (File path p q (Some meta)) h = (plain_lacks_gap b g (codes "HG:file") refl, (escape_lacks b g path h.0, (hex_lacks b g p h.1.1, (hex_lacks b g q h.2.1, (Lacks-append b (codes "=") (escape meta) (plain_lacks_gap b g (codes "=") refl) (escape_lacks b g meta h.3), tt)))))
lacks_words b g (Manifest NoManifest) h = (plain_lacks_gap b g (codes "HG:manifest") refl, (plain_lacks_gap b g (codes "null") refl, tt))
lacks_words b g (Manifest (Over p q)) h = (plain_lacks_gap b g (codes "HG:manifest") refl, (hex_lacks b g p h.0.1, (hex_lacks b g q h.1.1, tt)))
lacks_words b g (Files paths) h = (plain_lacks_gap b g (codes "HG:files") refl, (Lacks-decimal b (length paths) (omega (arith, g.low)), lacks_all b g paths h))
lacks_words b g (User user) h = (plain_lacks_gap b g (codes "HG:user") refl, (escape_lacks b g user h, tt))
lacks_words b g (Date time tz) h = (plain_lacks_gap b g (codes "HG:date") refl, (signed-lacks b (2 ^ 62) time (omega (arith, g.low)) (omega arith) (time_range time tz h), (signed-lacks b (2 ^ 62) tz (omega (arith, g.low)) (omega arith) (zone_range time tz h), tt)))
lacks_words b g (RawDate text) h = (plain_lacks_gap b g (codes "HG:raw") refl, (escape_lacks b g text h, tt))
lacks_words b g (OneExtra e) h = (plain_lacks_gap b g (codes "HG:extra") refl, (escape_lacks b g e.key h.0, (escape_lacks b g e.value h.1, tt)))

-- ---- a mark has its words alone

all_one : (ps qs : List (List ℕ)) → Each IsBytes ps → Each IsBytes qs → map escape ps ≡ map escape qs → ps ≡ qs
all_one [] [] h k e = refl
all_one [] (q ∷ qs) h k e = absurd cc
all_one (p ∷ ps) [] h k e = absurd cc
all_one (p ∷ ps) (q ∷ qs) h k e =
    let a : escape p ≡ escape q = cc in
    let b : map escape ps ≡ map escape qs = cc in
    let c = escape-injective p q h.0 k.0 a in
    let d = all_one ps qs h.1 k.1 b in
    cc

fifth_is : (a b c d e s t u v w : List ℕ) → a ∷ b ∷ c ∷ d ∷ e ∷ [] ≡ s ∷ t ∷ u ∷ v ∷ w ∷ [] → e ≡ w
fifth_is a b c d e s t u v w h = cc

meta_apart : (n : Bytes) → codes "-" ≡ meta_word (Some n) → ⊥
meta_apart n e = cc

file_one : (p q r s a b : List ℕ) (m n : Option Bytes) → IsMark (File p q r m) → IsMark (File s a b n) → mark_words (File p q r m) ≡ mark_words (File s a b n) → File p q r m ≡ File s a b n
file_one p q r s a b None None h k e =
    let x : escape p ≡ escape s = cc in
    let y : hex q ≡ hex a = cc in
    let z : hex r ≡ hex b = cc in
    let u = escape-injective p s h.0 k.0 x in
    let v = hex-injective q a h.1 k.1 y in
    let w = hex-injective r b h.2 k.2 z in
    cc
file_one p q r s a b None (Some n) h k e = absurd (meta_apart n (fifth_is (codes "HG:file") (escape p) (hex q) (hex r) (codes "-") (codes "HG:file") (escape s) (hex a) (hex b) (meta_word (Some n)) e))
file_one p q r s a b (Some m) None h k e = absurd (meta_apart m (sym (fifth_is (codes "HG:file") (escape p) (hex q) (hex r) (meta_word (Some m)) (codes "HG:file") (escape s) (hex a) (hex b) (codes "-") e)))
file_one p q r s a b (Some m) (Some n) h k e =
    let x : escape p ≡ escape s = cc in
    let y : hex q ≡ hex a = cc in
    let z : hex r ≡ hex b = cc in
    let t : escape m ≡ escape n = cc in
    let u = escape-injective p s h.0 k.0 x in
    let v = hex-injective q a h.1 k.1 y in
    let w = hex-injective r b h.2 k.2 z in
    let l = escape-injective m n h.3 k.3 t in
    cc

manifest_one : (m n : ManifestParents) → IsMark (Manifest m) → IsMark (Manifest n) → mark_words (Manifest m) ≡ mark_words (Manifest n) → m ≡ n
manifest_one NoManifest NoManifest h k e = refl
manifest_one NoManifest (Over p q) h k e = absurd cc
manifest_one (Over p q) NoManifest h k e = absurd cc
manifest_one (Over p q) (Over a b) h k e =
    let y : hex p ≡ hex a = cc in
    let z : hex q ≡ hex b = cc in
    let v = hex-injective p a h.0 k.0 y in
    let w = hex-injective q b h.1 k.1 z in
    cc

two_one : (p q a b : List ℕ) → IsBytes p → IsBytes q → IsBytes a → IsBytes b → escape p ∷ escape q ∷ [] ≡ escape a ∷ escape b ∷ [] → (p ≡ a) × (q ≡ b)
two_one p q a b hp hq ha hb e = (escape-injective p a hp ha (cc), escape-injective q b hq hb (cc))

-- the sum of the first word's bytes tells the kinds apart
abbrev head_sum : List (List ℕ) → ℕ
head_sum [] = 0
head_sum (w ∷ ws) = fold (λ n b. n + b) 0 w

words_one : (m n : Mark) → IsMark m → IsMark n → mark_words m ≡ mark_words n → m ≡ n
words_one (Rename p q) (Rename a b) h k e = let t = two_one p q a b h.0 h.1 k.0 k.1 (cc) in cc
words_one (File p q r m) (File s a b n) h k e = file_one p q r s a b m n h k e
words_one (Manifest m) (Manifest n) h k e = ap Manifest (manifest_one m n h k e)
words_one (Files ps) (Files qs) h k e = ap Files (all_one ps qs h k (cc))
words_one (User u) (User v) h k e = ap User (escape-injective u v h k (cc))
words_one (Date t z) (Date s y) h k e =
    let a = signed_one t s (time_range t z h) (time_range s y k) (cc) in
    let b = signed_one z y (zone_range t z h) (zone_range s y k) (cc) in
    cc
words_one (RawDate u) (RawDate v) h k e = ap RawDate (escape-injective u v h k (cc))
words_one (OneExtra x) (OneExtra y) h k e = let t = two_one x.key x.value y.key y.value h.0 h.1 k.0 k.1 (cc) in (λ i. OneExtra (record { key = t.0 i; value = t.1 i }))
words_one _ _ h k e = absurd (omega (arith, ap head_sum e))

some_words : (m : Mark) → mark_words m ≢ []
some_words (Rename p q) = λ e. cc
some_words (File p q r m) = λ e. cc
some_words (Manifest m) = λ e. cc
some_words (Files ps) = λ e. cc
some_words (User u) = λ e. cc
some_words (Date t z) = λ e. cc
some_words (RawDate u) = λ e. cc
some_words (OneExtra x) = λ e. cc

spaced_same : (ws vs : List (List ℕ)) → ws ≢ [] → vs ≢ [] → Each (Lacks 32) ws → Each (Lacks 32) vs → spaced ws ≡ spaced vs → ws ≡ vs
spaced_same [] vs n m h k e = absurd (n refl)
spaced_same (w ∷ ws) [] n m h k e = absurd (m refl)
spaced_same (w ∷ ws) (v ∷ vs) n m h k e = spaced_one w v ws vs h k e

line_one : (m n : Mark) → IsMark m → IsMark n → spaced (mark_words m) ≡ spaced (mark_words n) → m ≡ n
line_one m n h k e = words_one m n h k (spaced_same (mark_words m) (mark_words n) (some_words m) (some_words n) (lacks_words 32 sp_gap m h) (lacks_words 32 sp_gap n k) e)

pub marks_one : (ms ns : List Mark) → Each IsMark ms → Each IsMark ns → marks_text ms ≡ marks_text ns → ms ≡ ns
unfolding marks_text
marks_one ms ns h k e = ended_one 10 (λ m. spaced (mark_words m)) IsMark (λ m i. Lacks-spaced 10 (omega arith) (mark_words m) (lacks_words 10 lf_gap m i)) line_one ms ns h k e
