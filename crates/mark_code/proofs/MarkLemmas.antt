-- A mark reads from its line, and from no other.
use Rattle.std.proofs.Common.{◌≡◌, ◌<◌, ◌==◌, ◌⊎◌, inl, inr, ℕ, Bool, true, false, List, [], ◌∷◌, ◌++◌, length, map, Option, Some, None, option_map, refl, sym, ap, subst, ◌∙◌, append-nil, length-append, arith, eqb-true}
use Rattle.std.specs.Prelude.{codes, decimal, bytes_eq, if◌then◌else◌, ℤ, ◌&&◌}
use Rattle.std.specs.Option.{option_and_then, unwrap_or}
use Rattle.std.specs.List.{slice_split}
use Rattle.std.proofs.lemmas.Slice.Eq.{bytes_eq-Decides}
use Rattle.text_model.proofs.Options.{none_some, some_is}
use Rattle.text_model.specs.Lists.{Each}
use Rattle.text_model.specs.Text.{Bytes, IsBytes, sp, has_byte, spaced, signed_decimal}
use Rattle.text_model.specs.Id.{Id, IsId, hex, id_of_hex}
use Rattle.text_model.specs.Escape.{escape}
use Rattle.text_model.specs.Cuts.{Lacks, cut_of}
use Rattle.text_model.proofs.TestLemmas.{both}
use Rattle.text_model.proofs.ByteLemmas.{IsBytes-rest}
use Rattle.text_model.proofs.CutLemmas.{cut_of-at, cut_of-takes}
use Rattle.text_model.proofs.LackLemmas.{Lacks-by_test}
use Rattle.text_model.proofs.EscapeLemmas.{escape-lacks}
use Rattle.text_model.proofs.HexLemmas.{id_of_hex-hex, id_of_hex-takes, hex-lacks, length-hex}
use Rattle.hg_model.specs.Changeset.{Extra, DateLine, Plain, Raw, IsPlainDate, plain_date_text, plain_date_of, date_of}
use Rattle.hg_model.proofs.DateLemmas.{date_of-text, plain_date_of-takes}
use Rattle.view_model.specs.View.{NoManifest, Over}
use Rattle.pair_model.specs.MarkList.{Mark, Rename, File, Manifest, Files, User, Date, RawDate, OneExtra, meta_word, mark_words, IsMark}
use Rattle.mark_code.specs.Reading.{◌>>=◌, raw_of, rename_of, meta_of, file_of, parents_of, manifest_of, raws_of, counted, files_at, files_of, user_of, date_mark, raw_date_of, extra_mark_of, mark_of_kind, mark_of}
use Rattle.mark_code.proofs.RawLemmas.{raw_of-escape, raw_of-takes}
use Rattle.mark_code.proofs.WordLemmas.{cut-none, cut-word, one-word, joined, pieces-spaced, Pieces, pieces, decimal-lacks}

same_bytes : (a : Bytes) → bytes_eq a a ≡ true
same_bytes a = (bytes_eq-Decides a a).1 refl

-- ---- what is written reads as it was

rename-again : (path source : Bytes) → IsBytes path → IsBytes source → rename_of (spaced (escape path ∷ escape source ∷ [])) ≡ Some (Rename path source)
unfolding rename_of
rename-again path source h k =
    rw (cut-word (escape path) (escape source) [] (escape-lacks 32 path (omega arith) h), raw_of-escape path h, one-word (escape source), raw_of-escape source k) refl

meta-again : (path : Bytes) (p q : Id) (meta : Option Bytes) → IsMark (File path p q meta) → meta_of (meta_word meta) ≡ Some meta
meta-again path p q None h = refl
meta-again path p q (Some meta) h = ap (option_map (λ (m : Bytes). Some m)) (raw_of-escape meta h.3)

-- the path and the parents of a file
file-parts : (path : Bytes) (p q : Id) (meta : Option Bytes) → IsMark (File path p q meta) → IsBytes path × IsId p × IsId q
file-parts path p q None h = h
file-parts path p q (Some meta) h = (h.0, h.1, h.2)

file-again : (path : Bytes) (p q : Id) (meta : Option Bytes) → IsMark (File path p q meta) → file_of (spaced (escape path ∷ hex p ∷ hex q ∷ meta_word meta ∷ [])) ≡ Some (File path p q meta)
unfolding file_of
file-again path p q meta h =
    let k = file-parts path p q meta h in
    rw (
      cut-word (escape path) (hex p) (hex q ∷ meta_word meta ∷ []) (escape-lacks 32 path (omega arith) k.0),
      raw_of-escape path k.0,
      cut-word (hex p) (hex q) (meta_word meta ∷ []) (hex-lacks 32 p (omega arith) k.1.1),
      id_of_hex-hex p k.1,
      cut-word (hex q) (meta_word meta) [] (hex-lacks 32 q (omega arith) k.2.1),
      id_of_hex-hex q k.2,
      one-word (meta_word meta),
      meta-again path p q meta h,
    ) refl

parents-again : (p q : Id) → IsId p → IsId q → parents_of (spaced (hex p ∷ hex q ∷ [])) ≡ Some (Manifest (Over p q))
unfolding parents_of
parents-again p q h k = rw (cut-word (hex p) (hex q) [] (hex-lacks 32 p (omega arith) h.1), id_of_hex-hex p h, one-word (hex q), id_of_hex-hex q k) refl

over-again : (p q : Id) → IsId p → IsId q → manifest_of (spaced (hex p ∷ hex q ∷ [])) ≡ Some (Manifest (Over p q))
over-again p q h k = by (bytes_eq (spaced (hex p ∷ hex q ∷ [])) (codes "null")) refl
  where
    by : (t : Bool) → bytes_eq (spaced (hex p ∷ hex q ∷ [])) (codes "null") ≡ t → manifest_of (spaced (hex p ∷ hex q ∷ [])) ≡ Some (Manifest (Over p q))
    by false t = rw t (parents-again p q h k)
    by true t =
        let e : hex p ++ sp ∷ spaced (hex q ∷ []) ≡ codes "null" = (bytes_eq-Decides (spaced (hex p ∷ hex q ∷ [])) (codes "null")).0 t in
        absurd (omega (arith, ap (λ (x : Bytes). length x) e, length-append (hex p) (sp ∷ spaced (hex q ∷ [])), length-hex p, h.0))

escapes-lack : (b : ℕ) → b < 33 → (paths : List Bytes) → Each IsBytes paths → Each (Lacks b) (map escape paths)
escapes-lack b lt [] h = tt
escapes-lack b lt (path ∷ paths) h = (escape-lacks b path lt h.0, escapes-lack b lt paths h.1)

raws-again : (paths : List Bytes) → Each IsBytes paths → raws_of (map escape paths) ≡ Some paths
raws-again [] h = refl
raws-again (path ∷ paths) h = rw (raw_of-escape path h.0, raws-again paths h.1) refl

counted-again : (paths : List Bytes) → counted (decimal (length paths)) paths ≡ Some (Files paths)
counted-again paths = rw (same_bytes (decimal (length paths))) refl

files-again : (paths : List Bytes) → Each IsBytes paths → files_of (spaced (decimal (length paths) ∷ map escape paths)) ≡ Some (Files paths)
unfolding files_of
files-again [] h =
    ap (λ (w : Bytes). files_at w (cut_of sp w)) (one-word (decimal 0)) ∙ ap (files_at (decimal 0)) (cut-none sp (decimal 0) (decimal-lacks 32 0 (omega arith))) ∙ counted-again []
files-again (path ∷ paths) h =
    let n : ℕ = length (path ∷ paths) in
    let words : Bytes = spaced (map escape (path ∷ paths)) in
    let cut = cut-word (decimal (length (path ∷ paths))) (escape path) (map escape paths) (decimal-lacks 32 (length (path ∷ paths)) (omega arith)) in
    let split = pieces-spaced (escape path) (map escape paths) (escapes-lack 32 (omega arith) (path ∷ paths) h) in
    ap (files_at (spaced (decimal (length (path ∷ paths)) ∷ map escape (path ∷ paths)))) cut
    ∙ ap (λ (texts : List Bytes). option_and_then (counted (decimal (length (path ∷ paths)))) (raws_of texts)) split
    ∙ ap (option_and_then (counted (decimal (length (path ∷ paths))))) (raws-again (path ∷ paths) h)
    ∙ counted-again (path ∷ paths)

date-again : (time tz : ℤ) → IsPlainDate time tz [] → date_mark (date_of (spaced (signed_decimal time ∷ signed_decimal tz ∷ []))) ≡ Some (Date time tz)
date-again time tz h =
    let whole : spaced (signed_decimal time ∷ signed_decimal tz ∷ []) ≡ plain_date_text time tz [] = ap (λ (x : Bytes). signed_decimal time ++ sp ∷ x) (append-nil (signed_decimal tz)) in
    ap (λ (x : Bytes). date_mark (date_of x)) whole ∙ ap date_mark (date_of-text (Plain time tz []) h)

extra-again : (key value : Bytes) → IsBytes key → IsBytes value → extra_mark_of (spaced (escape key ∷ escape value ∷ [])) ≡ Some (OneExtra (record { key = key; value = value }))
unfolding extra_mark_of
extra-again key value h k =
    rw (cut-word (escape key) (escape value) [] (escape-lacks 32 key (omega arith) h), raw_of-escape key h, one-word (escape value), raw_of-escape value k) refl

-- a line with this kind
behind : (kind words : Bytes) (m : Mark) → has_byte 32 kind ≡ false → mark_of_kind kind words ≡ Some m → mark_of (kind ++ sp ∷ words) ≡ Some m
unfolding mark_of
behind kind words m h e = rw (cut_of-at sp kind words (Lacks-by_test 32 kind h)) e

pub mark_of-again : (m : Mark) → IsMark m → mark_of (spaced (mark_words m)) ≡ Some m
mark_of-again (Rename path source) h = behind (codes "HG:rename") _ (Rename path source) refl (rename-again path source h.0 h.1)
mark_of-again (File path p q meta) h = behind (codes "HG:file") _ (File path p q meta) refl (file-again path p q meta h)
mark_of-again (Manifest NoManifest) h = behind (codes "HG:manifest") _ (Manifest NoManifest) refl refl
mark_of-again (Manifest (Over p q)) h = behind (codes "HG:manifest") _ (Manifest (Over p q)) refl (over-again p q h.0 h.1)
mark_of-again (Files paths) h = behind (codes "HG:files") _ (Files paths) refl (files-again paths h)
mark_of-again (User user) h = behind (codes "HG:user") _ (User user) refl (ap (λ (w : Bytes). user_of w) (one-word (escape user)) ∙ ap (option_map User) (raw_of-escape user h))
mark_of-again (Date time tz) h = behind (codes "HG:date") _ (Date time tz) refl (date-again time tz h)
mark_of-again (RawDate text) h = behind (codes "HG:raw") _ (RawDate text) refl (ap (λ (w : Bytes). raw_date_of w) (one-word (escape text)) ∙ ap (option_map RawDate) (raw_of-escape text h))
mark_of-again (OneExtra e) h = behind (codes "HG:extra") _ (OneExtra e) refl (extra-again e.key e.value h.0 h.1)

-- ---- what reads as a mark is its line

-- the value that a step gave
bind-some : {A B : Type 0} (r : Option A) (f : A → Option B) (y : B) → (r >>= f) ≡ Some y → (x : A) × (r ≡ Some x) × (f x ≡ Some y)
bind-some None f y h = absurd (none_some {x = y} h)
bind-some (Some x) f y h = (x, refl, h)

map-some : {A B : Type 0} (r : Option A) (f : A → B) (y : B) → option_map f r ≡ Some y → (x : A) × (r ≡ Some x) × (f x ≡ y)
map-some None f y h = absurd (none_some {x = y} h)
map-some (Some x) f y h = (x, refl, some_is {x = f x} {y = y} h)

then-some : {A B : Type 0} (r : Option A) (f : A → Option B) (y : B) → option_and_then f r ≡ Some y → (x : A) × (r ≡ Some x) × (f x ≡ Some y)
then-some None f y h = absurd (none_some {x = y} h)
then-some (Some x) f y h = (x, refl, h)

if-some : {A : Type 0} (t : Bool) (a b : Option A) (y : A) → (if t then a else b) ≡ Some y → ((t ≡ true) × (a ≡ Some y)) ⊎ (b ≡ Some y)
if-some true a b y h = inl (refl, h)
if-some false a b y h = inr h

-- the words behind this kind are those of the mark
abbrev Spells : Bytes → Bytes → Mark → Type 0
Spells kind words m = IsMark m × (kind ++ sp ∷ words ≡ spaced (mark_words m))

spells : (kind words : Bytes) (m : Mark) (w : Bytes) (ws : List Bytes) → IsMark m → mark_words m ≡ kind ∷ w ∷ ws → words ≡ spaced (w ∷ ws) → Spells kind words m
spells kind words m w ws is parts e = (is, ap (λ (x : Bytes). kind ++ sp ∷ x) e ∙ ap spaced (sym parts))

rename-takes : (words : Bytes) (m : Mark) → rename_of words ≡ Some m → Spells (codes "HG:rename") words m
unfolding rename_of
rename-takes words m h =
    let first = bind-some (cut_of sp words) _ m h in
    let path = bind-some (raw_of first.0.0) _ m first.2 in
    let source = bind-some (raw_of first.0.1) _ m path.2 in
    let cut = cut_of-takes sp words first.0.0 first.0.1 first.1 in
    let a = raw_of-takes first.0.0 path.0 path.1 in
    let b = raw_of-takes first.0.1 source.0 source.1 in
    subst (Spells (codes "HG:rename") words) (some_is {x = Rename path.0 source.0} {y = m} source.2)
    (spells (codes "HG:rename") words (Rename path.0 source.0) (escape path.0) (escape source.0 ∷ []) (a.0, b.0) refl
    (joined words first.0.0 (escape path.0) first.0.1 (escape source.0) [] cut.0 a.1 (b.1 ∙ sym (one-word (escape source.0)))))

extra-takes : (words : Bytes) (m : Mark) → extra_mark_of words ≡ Some m → Spells (codes "HG:extra") words m
unfolding extra_mark_of
extra-takes words m h =
    let first = bind-some (cut_of sp words) _ m h in
    let key = bind-some (raw_of first.0.0) _ m first.2 in
    let value = bind-some (raw_of first.0.1) _ m key.2 in
    let cut = cut_of-takes sp words first.0.0 first.0.1 first.1 in
    let a = raw_of-takes first.0.0 key.0 key.1 in
    let b = raw_of-takes first.0.1 value.0 value.1 in
    let x : Mark = OneExtra (record { key = key.0; value = value.0 }) in
    subst (Spells (codes "HG:extra") words) (some_is {x = OneExtra (record { key = key.0; value = value.0 })} {y = m} value.2)
    (spells (codes "HG:extra") words (OneExtra (record { key = key.0; value = value.0 })) (escape key.0) (escape value.0 ∷ []) (a.0, b.0) refl
    (joined words first.0.0 (escape key.0) first.0.1 (escape value.0) [] cut.0 a.1 (b.1 ∙ sym (one-word (escape value.0)))))

AreMeta : Option Bytes → Type 0
AreMeta None = Unit {0}
AreMeta (Some meta) = IsBytes meta

meta-takes : (text : Bytes) (meta : Option Bytes) → meta_of text ≡ Some meta → AreMeta meta × (text ≡ meta_word meta)
unfolding AreMeta
meta-takes [] meta h = absurd (none_some {x = meta} h)
meta-takes (b ∷ text) meta h = by (b == 61) refl (b == 45 && length text == 0) refl
  where
    by : (s : Bool) → (b == 61) ≡ s → (t : Bool) → (b == 45 && length text == 0) ≡ t → AreMeta meta × (b ∷ text ≡ meta_word meta)
    by true s t u =
        let read = map-some (raw_of text) (λ (m : Bytes). Some m) meta (sym (rw s refl) ∙ h) in
        let raw = raw_of-takes text read.0 read.1 in
        subst (λ (m : Option Bytes). AreMeta m × (b ∷ text ≡ meta_word m)) read.2 (raw.0, (λ i. eqb-true b 61 s i ∷ raw.1 i))
    by false s true u =
        let p = both (b == 45) (length text == 0) u in
        let none : text ≡ [] = empty text p.1 in
        subst (λ (m : Option Bytes). AreMeta m × (b ∷ text ≡ meta_word m)) (some_is {x = None} {y = meta} (sym (rw (s, u) refl) ∙ h)) (tt, (λ i. eqb-true b 45 p.0 i ∷ none i))
      where
        empty : (text : Bytes) → (length text == 0) ≡ true → text ≡ []
        empty [] e = refl
        empty (c ∷ text) e = absurd (omega (arith, eqb-true (length (c ∷ text)) 0 e))
    by false s false u = absurd (none_some {x = meta} (sym (rw (s, u) refl) ∙ h))

file-is : (path : Bytes) (p q : Id) (meta : Option Bytes) → IsBytes path → IsId p → IsId q → AreMeta meta → IsMark (File path p q meta)
unfolding AreMeta
file-is path p q None h i j k = (h, i, j)
file-is path p q (Some meta) h i j k = (h, i, j, k)

file-spelled : (words path : Bytes) (p q : Id) (meta : Option Bytes) → IsMark (File path p q meta) → words ≡ spaced (escape path ∷ hex p ∷ hex q ∷ meta_word meta ∷ []) → Spells (codes "HG:file") words (File path p q meta)
file-spelled words path p q meta is e = spells (codes "HG:file") words (File path p q meta) (escape path) (hex p ∷ hex q ∷ meta_word meta ∷ []) is refl e

file-takes : (words : Bytes) (m : Mark) → file_of words ≡ Some m → Spells (codes "HG:file") words m
unfolding file_of
file-takes words m h =
    let first = bind-some (cut_of sp words) _ m h in
    let path = bind-some (raw_of first.0.0) _ m first.2 in
    let second = bind-some (cut_of sp first.0.1) _ m path.2 in
    let p = bind-some (id_of_hex second.0.0) _ m second.2 in
    let third = bind-some (cut_of sp second.0.1) _ m p.2 in
    let q = bind-some (id_of_hex third.0.0) _ m third.2 in
    let meta = bind-some (meta_of third.0.1) _ m q.2 in
    let one = cut_of-takes sp words first.0.0 first.0.1 first.1 in
    let two = cut_of-takes sp first.0.1 second.0.0 second.0.1 second.1 in
    let three = cut_of-takes sp second.0.1 third.0.0 third.0.1 third.1 in
    let a = raw_of-takes first.0.0 path.0 path.1 in
    let b = id_of_hex-takes second.0.0 p.0 p.1 in
    let c = id_of_hex-takes third.0.0 q.0 q.1 in
    let d = meta-takes third.0.1 meta.0 meta.1 in
    subst (Spells (codes "HG:file") words) (some_is {x = File path.0 p.0 q.0 meta.0} {y = m} meta.2)
    (file-spelled words path.0 p.0 q.0 meta.0 (file-is path.0 p.0 q.0 meta.0 a.0 b.0 c.0 d.0)
    (joined words first.0.0 (escape path.0) first.0.1 (hex p.0) (hex q.0 ∷ meta_word meta.0 ∷ []) one.0 a.1
    (joined first.0.1 second.0.0 (hex p.0) second.0.1 (hex q.0) (meta_word meta.0 ∷ []) two.0 b.1
    (joined second.0.1 third.0.0 (hex q.0) third.0.1 (meta_word meta.0) [] three.0 c.1 (d.1 ∙ sym (one-word (meta_word meta.0)))))))

manifest-takes : (words : Bytes) (m : Mark) → manifest_of words ≡ Some m → Spells (codes "HG:manifest") words m
unfolding parents_of
manifest-takes words m h = elim (if-some (bytes_eq words (codes "null")) (Some (Manifest NoManifest)) (parents_of words) m h) [
  | inl e ↦
      subst (Spells (codes "HG:manifest") words) (some_is {x = Manifest NoManifest} {y = m} e.1)
      (spells (codes "HG:manifest") words (Manifest NoManifest) (codes "null") [] tt refl ((bytes_eq-Decides words (codes "null")).0 e.0))
  | inr e ↦
      let first = bind-some (cut_of sp words) _ m e in
      let p = bind-some (id_of_hex first.0.0) _ m first.2 in
      let q = bind-some (id_of_hex first.0.1) _ m p.2 in
      let cut = cut_of-takes sp words first.0.0 first.0.1 first.1 in
      let a = id_of_hex-takes first.0.0 p.0 p.1 in
      let b = id_of_hex-takes first.0.1 q.0 q.1 in
      subst (Spells (codes "HG:manifest") words) (some_is {x = Manifest (Over p.0 q.0)} {y = m} q.2)
      (spells (codes "HG:manifest") words (Manifest (Over p.0 q.0)) (hex p.0) (hex q.0 ∷ []) (a.0, b.0) refl
      (joined words first.0.0 (hex p.0) first.0.1 (hex q.0) [] cut.0 a.1 (b.1 ∙ sym (one-word (hex q.0)))))
]

raws-takes : (texts paths : List Bytes) → raws_of texts ≡ Some paths → Each IsBytes paths × (texts ≡ map escape paths)
raws-takes [] paths h = subst (λ (x : List Bytes). Each IsBytes x × ([] ≡ map escape x)) (some_is {x = []} {y = paths} h) (tt, refl)
raws-takes (text ∷ texts) paths h =
    let raw = then-some (raw_of text) _ paths h in
    let raws = map-some (raws_of texts) _ paths raw.2 in
    let a = raw_of-takes text raw.0 raw.1 in
    let b = raws-takes texts raws.0 raws.1 in
    subst (λ (x : List Bytes). Each IsBytes x × (text ∷ texts ≡ map escape x)) raws.2 ((a.0, b.0), (λ i. a.1 i ∷ b.1 i))

counted-takes : (count : Bytes) (paths : List Bytes) (m : Mark) → counted count paths ≡ Some m → (count ≡ decimal (length paths)) × (Files paths ≡ m)
counted-takes count paths m h = elim (if-some (bytes_eq count (decimal (length paths))) (Some (Files paths)) None m h) [
  | inl e ↦ ((bytes_eq-Decides count (decimal (length paths))).0 e.0, some_is {x = Files paths} {y = m} e.1)
  | inr e ↦ absurd (none_some {x = m} e)
]

files-takes : (words : Bytes) (m : Mark) → files_of words ≡ Some m → Spells (codes "HG:files") words m
unfolding files_of
files-takes words m h = by (cut_of sp words) refl
  where
    some-paths : (count text : Bytes) (paths : List Bytes) → Each IsBytes paths → Pieces text → slice_split (λ b. b == sp) text ≡ map escape paths → words ≡ count ++ sp ∷ text → count ≡ decimal (length paths) → Spells (codes "HG:files") words (Files paths)
    some-paths count text [] is p split cut count_is = absurd cc
    some-paths count text (path ∷ paths) is p split cut count_is =
        let texts : p.first ∷ p.others ≡ map escape (path ∷ paths) = sym p.split ∙ split in
        spells (codes "HG:files") words (Files (path ∷ paths)) (decimal (length (path ∷ paths))) (map escape (path ∷ paths)) is refl
        (joined words count (decimal (length (path ∷ paths))) text (escape path) (map escape paths) cut count_is (p.whole ∙ ap spaced texts))

    by : (r : Option (Bytes × Bytes)) → cut_of sp words ≡ r → Spells (codes "HG:files") words m
    by None r =
        let c = counted-takes words [] m (sym (ap (files_at words) r) ∙ h) in
        subst (Spells (codes "HG:files") words) c.1 (spells (codes "HG:files") words (Files []) (decimal 0) [] tt refl (c.0 ∙ sym (one-word (decimal 0))))
    by (Some first) r =
        let paths = then-some (raws_of (slice_split (λ b. b == sp) first.1)) (counted first.0) m (sym (ap (files_at words) r) ∙ h) in
        let c = counted-takes first.0 paths.0 m paths.2 in
        let cut = cut_of-takes sp words first.0 first.1 r in
        let raws = raws-takes (slice_split (λ b. b == sp) first.1) paths.0 paths.1 in
        subst (Spells (codes "HG:files") words) c.1 (some-paths first.0 first.1 paths.0 raws.0 (pieces first.1) raws.1 cut.0 c.0)

user-takes : (words : Bytes) (m : Mark) → user_of words ≡ Some m → Spells (codes "HG:user") words m
user-takes words m h =
    let user = map-some (raw_of words) User m h in
    let a = raw_of-takes words user.0 user.1 in
    subst (Spells (codes "HG:user") words) user.2 (spells (codes "HG:user") words (User user.0) (escape user.0) [] a.0 refl (a.1 ∙ sym (one-word (escape user.0))))

raw-takes : (words : Bytes) (m : Mark) → raw_date_of words ≡ Some m → Spells (codes "HG:raw") words m
raw-takes words m h =
    let text = map-some (raw_of words) RawDate m h in
    let a = raw_of-takes words text.0 text.1 in
    subst (Spells (codes "HG:raw") words) text.2 (spells (codes "HG:raw") words (RawDate text.0) (escape text.0) [] a.0 refl (a.1 ∙ sym (one-word (escape text.0))))

date-takes : (words : Bytes) (m : Mark) → IsBytes words → date_mark (date_of words) ≡ Some m → Spells (codes "HG:date") words m
unfolding date_of
date-takes words m bytes h = by (plain_date_of words) refl
  where
    plain : (time tz : ℤ) (extras : List Extra) → IsPlainDate time tz extras → words ≡ plain_date_text time tz extras → date_mark (Plain time tz extras) ≡ Some m → Spells (codes "HG:date") words m
    plain time tz (e ∷ es) is spelled k = absurd (none_some {x = m} k)
    plain time tz [] is spelled k =
        subst (Spells (codes "HG:date") words) (some_is {x = Date time tz} {y = m} k)
        (spells (codes "HG:date") words (Date time tz) (signed_decimal time) (signed_decimal tz ∷ []) is refl
        (joined words (signed_decimal time) (signed_decimal time) (signed_decimal tz) (signed_decimal tz) [] spelled refl (sym (one-word (signed_decimal tz)))))

    by : (r : Option DateLine) → plain_date_of words ≡ r → Spells (codes "HG:date") words m
    by None r = absurd (none_some {x = m} (sym (ap (λ (x : Option DateLine). date_mark (unwrap_or x (Raw words))) r) ∙ h))
    by (Some date) r =
        let read = plain_date_of-takes words date bytes r in
        plain read.time read.tz read.extras read.is read.spelled (sym (ap (λ (x : Option DateLine). date_mark (unwrap_or x (Raw words))) r ∙ ap date_mark read.whole) ∙ h)

kind-takes : (kind words : Bytes) (m : Mark) → IsBytes words → mark_of_kind kind words ≡ Some m → Spells kind words m
kind-takes kind words m bytes h = elim (if-some (bytes_eq kind (codes "HG:rename")) _ _ m h) [
  | inl e ↦ at (codes "HG:rename") e.0 (rename-takes words m e.1)
  | inr h1 ↦ elim (if-some (bytes_eq kind (codes "HG:file")) _ _ m h1) [
    | inl e ↦ at (codes "HG:file") e.0 (file-takes words m e.1)
    | inr h2 ↦ elim (if-some (bytes_eq kind (codes "HG:manifest")) _ _ m h2) [
      | inl e ↦ at (codes "HG:manifest") e.0 (manifest-takes words m e.1)
      | inr h3 ↦ elim (if-some (bytes_eq kind (codes "HG:files")) _ _ m h3) [
        | inl e ↦ at (codes "HG:files") e.0 (files-takes words m e.1)
        | inr h4 ↦ elim (if-some (bytes_eq kind (codes "HG:user")) _ _ m h4) [
          | inl e ↦ at (codes "HG:user") e.0 (user-takes words m e.1)
          | inr h5 ↦ elim (if-some (bytes_eq kind (codes "HG:date")) _ _ m h5) [
            | inl e ↦ at (codes "HG:date") e.0 (date-takes words m bytes e.1)
            | inr h6 ↦ elim (if-some (bytes_eq kind (codes "HG:raw")) _ _ m h6) [
              | inl e ↦ at (codes "HG:raw") e.0 (raw-takes words m e.1)
              | inr h7 ↦ elim (if-some (bytes_eq kind (codes "HG:extra")) _ _ m h7) [
                | inl e ↦ at (codes "HG:extra") e.0 (extra-takes words m e.1)
                | inr h8 ↦ absurd (none_some {x = m} h8)
              ]
            ]
          ]
        ]
      ]
    ]
  ]
]
  where
    at : (name : Bytes) → bytes_eq kind name ≡ true → Spells name words m → Spells kind words m
    at name e s = subst (λ (k : Bytes). Spells k words m) (sym ((bytes_eq-Decides kind name).0 e)) s

pub mark_of-takes : (text : Bytes) (m : Mark) → IsBytes text → mark_of text ≡ Some m → IsMark m × (text ≡ spaced (mark_words m))
unfolding mark_of
mark_of-takes text m bytes h =
    let first = bind-some (cut_of sp text) _ m h in
    let cut = cut_of-takes sp text first.0.0 first.0.1 first.1 in
    let words : IsBytes first.0.1 = (IsBytes-rest first.0.0 (sp ∷ first.0.1) (subst IsBytes cut.0 bytes)).1 in
    let s = kind-takes first.0.0 first.0.1 m words first.2 in
    (s.0, cut.0 ∙ s.1)
