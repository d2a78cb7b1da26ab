-- Extras: what is written of items reads as these items, and what reads as items is what is written of them.
use Rattle.std.proofs.Common.{◌≡◌, ◌≢◌, ◌<◌, ◌==◌, ℕ, Bool, true, false, true≢false, List, [], ◌∷◌, ◌++◌, length, map, Option, Some, None, option_map, refl, sym, ap, subst, ◌∙◌, append_assoc, append-nil, length-append, arith, eqb-true}
use Rattle.std.specs.Option.{option_and_then}
use Rattle.std.specs.List.{flat_map, slice_split}
use Rattle.std.proofs.lemmas.List.Concat.{flat_map-append}
use Rattle.text_model.specs.Lists.{Each, rises}
use Rattle.text_model.specs.Text.{Bytes, IsBytes, has_byte, is_below, nul}
use Rattle.text_model.specs.Cuts.{Lacks, cut_of}
use Rattle.text_model.proofs.TestLemmas.{both, differs}
use Rattle.text_model.proofs.ByteLemmas.{IsBytes-front, IsBytes-rest}
use Rattle.text_model.proofs.EachLemmas.{Each-append, Each-push, Each-rest}
use Rattle.text_model.proofs.CutLemmas.{cut_of-at, cut_of-takes}
use Rattle.text_model.proofs.LackLemmas.{Lacks-by_test, has_byte-lacks}
use Rattle.text_model.proofs.Options.{none_some, some_is}
use Rattle.hg_model.specs.Changeset.{Extra, extra_byte, extra_text, extras_text, AreExtras, is_literal, spelled_byte, unescaped, extra_of_sides, extra_of, last_key, key_rises, with_extra, extras_from, extras_of}

-- ---- the escapes

-- what a byte is to the escapes
data Kind : ℕ → Type 0 where
  backslash : Kind 92
  line_feed : Kind 10
  return : Kind 13
  zero_byte : Kind 0
  literal : (b : ℕ) → is_literal b ≡ true → extra_byte b ≡ b ∷ [] → Kind b

kind_of : (b : ℕ) → Kind b
kind_of b = by (b == 92) refl (b == 10) refl (b == 13) refl (b == 0) refl
  where
    by : (p : Bool) → (b == 92) ≡ p → (q : Bool) → (b == 10) ≡ q → (r : Bool) → (b == 13) ≡ r → (s : Bool) → (b == 0) ≡ s → Kind b
    by true p q q' r r' s s' = subst Kind (sym (eqb-true b 92 p)) backslash
    by false p true q' r r' s s' = subst Kind (sym (eqb-true b 10 q')) line_feed
    by false p false q' true r' s s' = subst Kind (sym (eqb-true b 13 r')) return
    by false p false q' false r' true s' = subst Kind (sym (eqb-true b 0 s')) zero_byte
    by false p false q' false r' false s' = literal b (rw (p, q', r', s') refl) (rw (p, q', r', s') refl)

not_backslash : (b : ℕ) → is_literal b ≡ true → (b == 92) ≡ false
not_backslash b h = by (b == 92) refl
  where
    by : (p : Bool) → (b == 92) ≡ p → (b == 92) ≡ false
    by true p = absurd (true≢false (sym h ∙ rw p refl))
    by false p = p

extra_byte-literal : (b : ℕ) → is_literal b ≡ true → extra_byte b ≡ b ∷ []
extra_byte-literal b h = by (b == 92) refl (b == 10) refl (b == 13) refl (b == 0) refl
  where
    by : (p : Bool) → (b == 92) ≡ p → (q : Bool) → (b == 10) ≡ q → (r : Bool) → (b == 13) ≡ r → (s : Bool) → (b == 0) ≡ s → extra_byte b ≡ b ∷ []
    by true p q q' r r' s s' = absurd (true≢false (sym h ∙ rw p refl))
    by false p true q' r r' s s' = absurd (true≢false (sym h ∙ rw (p, q') refl))
    by false p false q' true r' s s' = absurd (true≢false (sym h ∙ rw (p, q', r') refl))
    by false p false q' false r' true s' = absurd (true≢false (sym h ∙ rw (p, q', r', s') refl))
    by false p false q' false r' false s' = rw (p, q', r', s') refl

pub unescaped-literal : (b : ℕ) (text : Bytes) → is_literal b ≡ true → unescaped (b ∷ text) ≡ option_map (λ (bytes : Bytes). b ∷ bytes) (unescaped text)
unfolding unescaped
unescaped-literal b [] h = rw h refl
unescaped-literal b (c ∷ rest) h = rw (h, not_backslash b h) refl

pub unescaped-pair : (c : ℕ) (text : Bytes) → unescaped (92 ∷ c ∷ text) ≡ option_and_then (λ byte. option_map (λ (bytes : Bytes). byte ∷ bytes) (unescaped text)) (spelled_byte c)
unfolding unescaped
unescaped-pair c text = refl

pub unescaped-none : unescaped [] ≡ Some []
unfolding unescaped
unescaped-none = refl

-- no escape begins with a byte that is neither literal nor `\`, and `\` doesn't stand alone
pub unescaped-bad : (b : ℕ) (text : Bytes) → (b == 92) ≡ false → is_literal b ≡ false → unescaped (b ∷ text) ≡ None
unfolding unescaped
unescaped-bad b [] n h = rw h refl
unescaped-bad b (c ∷ rest) n h = rw (h, n) refl

pub unescaped-alone : unescaped (92 ∷ []) ≡ None
unfolding unescaped
unescaped-alone = refl

-- what is written of bytes spells them
pub unescaped-spelled : (raw : Bytes) → unescaped (flat_map extra_byte raw) ≡ Some raw
unescaped-spelled [] = unescaped-none
unescaped-spelled (b ∷ raw) = by b (kind_of b) (λ c. ap (option_map (λ (bytes : Bytes). c ∷ bytes)) (unescaped-spelled raw))
  where
    by : (c : ℕ) → Kind c → ((d : ℕ) → option_map (λ (bytes : Bytes). d ∷ bytes) (unescaped (flat_map extra_byte raw)) ≡ Some (d ∷ raw)) → unescaped (flat_map extra_byte (c ∷ raw)) ≡ Some (c ∷ raw)
    by c backslash later = unescaped-pair 92 (flat_map extra_byte raw) ∙ later 92
    by c line_feed later = unescaped-pair 110 (flat_map extra_byte raw) ∙ later 10
    by c return later = unescaped-pair 114 (flat_map extra_byte raw) ∙ later 13
    by c zero_byte later = unescaped-pair 48 (flat_map extra_byte raw) ∙ later 0
    by c (literal d is one) later = ap (λ (front : Bytes). unescaped (front ++ flat_map extra_byte raw)) one ∙ unescaped-literal d (flat_map extra_byte raw) is ∙ later d

spelled_byte-takes : (c byte : ℕ) → spelled_byte c ≡ Some byte → extra_byte byte ≡ 92 ∷ c ∷ []
spelled_byte-takes c byte e = by (c == 92) refl (c == 110) refl (c == 114) refl (c == 48) refl
  where
    of_letter : (letter spelled : ℕ) → c ≡ letter → extra_byte spelled ≡ 92 ∷ letter ∷ [] → spelled ≡ byte → extra_byte byte ≡ 92 ∷ c ∷ []
    of_letter letter spelled is text same = ap extra_byte (sym same) ∙ text ∙ ap (λ (x : ℕ). 92 ∷ x ∷ []) (sym is)

    by : (p : Bool) → (c == 92) ≡ p → (q : Bool) → (c == 110) ≡ q → (r : Bool) → (c == 114) ≡ r → (s : Bool) → (c == 48) ≡ s → extra_byte byte ≡ 92 ∷ c ∷ []
    by true p q q' r r' s s' = of_letter 92 92 (eqb-true c 92 p) refl (some_is {x = 92} {y = byte} (sym (rw p refl) ∙ e))
    by false p true q' r r' s s' = of_letter 110 10 (eqb-true c 110 q') refl (some_is {x = 10} {y = byte} (sym (rw (p, q') refl) ∙ e))
    by false p false q' true r' s s' = of_letter 114 13 (eqb-true c 114 r') refl (some_is {x = 13} {y = byte} (sym (rw (p, q', r') refl) ∙ e))
    by false p false q' false r' true s' = of_letter 48 0 (eqb-true c 48 s') refl (some_is {x = 0} {y = byte} (sym (rw (p, q', r', s') refl) ∙ e))
    by false p false q' false r' false s' = absurd (none_some {x = byte} (sym (rw (p, q', r', s') refl) ∙ e))

-- one byte more in front
onto : (byte : ℕ) (front text raw : Bytes) → extra_byte byte ≡ front → option_map (λ (bytes : Bytes). byte ∷ bytes) (unescaped text) ≡ Some raw
    → ((more : Bytes) → unescaped text ≡ Some more → text ≡ flat_map extra_byte more) → front ++ text ≡ flat_map extra_byte raw
onto byte front text raw spelled e takes = by (unescaped text) refl
  where
    by : (r : Option Bytes) → unescaped text ≡ r → front ++ text ≡ flat_map extra_byte raw
    by None u = absurd (none_some (sym (ap (option_map (λ (bytes : Bytes). byte ∷ bytes)) u) ∙ e))
    by (Some more) u =
        let same : byte ∷ more ≡ raw = some_is (sym (ap (option_map (λ (bytes : Bytes). byte ∷ bytes)) u) ∙ e) in
        (λ i. sym spelled i ++ takes more u i) ∙ ap (flat_map extra_byte) same

-- what spells bytes is what is written of them
pub unescaped-takes : (text raw : Bytes) → unescaped text ≡ Some raw → text ≡ flat_map extra_byte raw
unescaped-takes [] raw e = ap (flat_map extra_byte) (some_is (sym unescaped-none ∙ e))
unescaped-takes (b ∷ []) raw e = by (b == 92) refl (is_literal b) refl
  where
    by : (p : Bool) → (b == 92) ≡ p → (q : Bool) → is_literal b ≡ q → b ∷ [] ≡ flat_map extra_byte raw
    by true p q q' = absurd (none_some (sym unescaped-alone ∙ ap (λ (c : ℕ). unescaped (c ∷ [])) (sym (eqb-true b 92 p)) ∙ e))
    by false p true q = onto b (b ∷ []) [] raw (extra_byte-literal b q) (sym (unescaped-literal b [] q) ∙ e) (λ more u. ap (flat_map extra_byte) (some_is (sym unescaped-none ∙ u)))
    by false p false q = absurd (none_some (sym (unescaped-bad b [] p q) ∙ e))
unescaped-takes (b ∷ c ∷ rest) raw e = by (b == 92) refl (is_literal b) refl (spelled_byte c) refl (unescaped-takes rest) (unescaped-takes (c ∷ rest))
  where
    by : (p : Bool) → (b == 92) ≡ p → (q : Bool) → is_literal b ≡ q → (r : Option ℕ) → spelled_byte c ≡ r → ((more : Bytes) → unescaped rest ≡ Some more → rest ≡ flat_map extra_byte more) → ((more : Bytes) → unescaped (c ∷ rest) ≡ Some more → c ∷ rest ≡ flat_map extra_byte more)
        → b ∷ c ∷ rest ≡ flat_map extra_byte raw
    by true p q q' None r two one = absurd (none_some (sym (ap (option_and_then (λ byte. option_map (λ (bytes : Bytes). byte ∷ bytes) (unescaped rest))) r) ∙ sym (unescaped-pair c rest) ∙ ap (λ (x : ℕ). unescaped (x ∷ c ∷ rest)) (sym (eqb-true b 92 p)) ∙ e))
    by true p q q' (Some byte) r two one =
        ap (λ (x : ℕ). x ∷ c ∷ rest) (eqb-true b 92 p)
        ∙ onto byte (92 ∷ c ∷ []) rest raw (spelled_byte-takes c byte r)
        (sym (ap (option_and_then (λ byte. option_map (λ (bytes : Bytes). byte ∷ bytes) (unescaped rest))) r) ∙ sym (unescaped-pair c rest) ∙ ap (λ (x : ℕ). unescaped (x ∷ c ∷ rest)) (sym (eqb-true b 92 p)) ∙ e)
        two
    by false p true q r r' two one = onto b (b ∷ []) (c ∷ rest) raw (extra_byte-literal b q) (sym (unescaped-literal b (c ∷ rest) q) ∙ e) one
    by false p false q r r' two one = absurd (none_some (sym (unescaped-bad b (c ∷ rest) p q) ∙ e))

-- ---- what an escaped text lacks

-- a byte stands in an escape only where it is one of these or stands for itself
lacks_byte : (x b : ℕ) → x ≢ 92 → x ≢ 110 → x ≢ 114 → x ≢ 48 → (is_literal b ≡ true → b ≢ x) → Lacks x (extra_byte b)
lacks_byte x b n92 n110 n114 n48 h = by b (kind_of b) h
  where
    by : (c : ℕ) → Kind c → (is_literal c ≡ true → c ≢ x) → Lacks x (extra_byte c)
    by c backslash h = ((λ e. n92 (sym e)), ((λ e. n92 (sym e)), tt))
    by c line_feed h = ((λ e. n92 (sym e)), ((λ e. n110 (sym e)), tt))
    by c return h = ((λ e. n92 (sym e)), ((λ e. n114 (sym e)), tt))
    by c zero_byte h = ((λ e. n92 (sym e)), ((λ e. n48 (sym e)), tt))
    by c (literal d is one) h = subst (Lacks x) (sym one) (h is, tt)

lacks_all : (x : ℕ) (raw : Bytes) → x ≢ 92 → x ≢ 110 → x ≢ 114 → x ≢ 48 → Each (λ b. is_literal b ≡ true → b ≢ x) raw → Lacks x (flat_map extra_byte raw)
lacks_all x [] n92 n110 n114 n48 h = tt
lacks_all x (b ∷ raw) n92 n110 n114 n48 h = Each-append (λ c. c ≢ x) (extra_byte b) (flat_map extra_byte raw) (lacks_byte x b n92 n110 n114 n48 h.0) (lacks_all x raw n92 n110 n114 n48 h.1)

everywhere : (x : ℕ) → is_literal x ≡ false → (raw : Bytes) → Each (λ b. is_literal b ≡ true → b ≢ x) raw
everywhere x h [] = tt
everywhere x h (b ∷ raw) = ((λ is same. true≢false (sym is ∙ ap is_literal same ∙ h)), everywhere x h raw)

pub escaped-lacks_nul : (raw : Bytes) → Lacks 0 (flat_map extra_byte raw)
escaped-lacks_nul raw = lacks_all 0 raw (λ e. omega (arith, e)) (λ e. omega (arith, e)) (λ e. omega (arith, e)) (λ e. omega (arith, e)) (everywhere 0 refl raw)

pub escaped-lacks_lf : (raw : Bytes) → Lacks 10 (flat_map extra_byte raw)
escaped-lacks_lf raw = lacks_all 10 raw (λ e. omega (arith, e)) (λ e. omega (arith, e)) (λ e. omega (arith, e)) (λ e. omega (arith, e)) (everywhere 10 refl raw)

escaped-lacks_colon : (raw : Bytes) → Lacks 58 raw → Lacks 58 (flat_map extra_byte raw)
escaped-lacks_colon raw h = lacks_all 58 raw (λ e. omega (arith, e)) (λ e. omega (arith, e)) (λ e. omega (arith, e)) (λ e. omega (arith, e)) (each raw h)
  where
    each : (raw : Bytes) → Lacks 58 raw → Each (λ b. is_literal b ≡ true → b ≢ 58) raw
    each [] h = tt
    each (b ∷ raw) h = ((λ is. h.0), each raw h.1)

colon-back : (raw : Bytes) → Lacks 58 (flat_map extra_byte raw) → Lacks 58 raw
colon-back [] h = tt
colon-back (b ∷ raw) h = by b (kind_of b) h (colon-back raw)
  where
    by : (c : ℕ) → Kind c → Lacks 58 (extra_byte c ++ flat_map extra_byte raw) → (Lacks 58 (flat_map extra_byte raw) → Lacks 58 raw) → Lacks 58 (c ∷ raw)
    by c backslash h later = ((λ e. omega (arith, e)), later h.1.1)
    by c line_feed h later = ((λ e. omega (arith, e)), later h.1.1)
    by c return h later = ((λ e. omega (arith, e)), later h.1.1)
    by c zero_byte h later = ((λ e. omega (arith, e)), later h.1.1)
    by c (literal d is one) h later = let k = subst (λ (front : Bytes). Lacks 58 (front ++ flat_map extra_byte raw)) one h in (k.0, later k.1)

bytes-back : (raw : Bytes) → IsBytes (flat_map extra_byte raw) → IsBytes raw
bytes-back [] h = tt
bytes-back (b ∷ raw) h = by b (kind_of b) h (bytes-back raw)
  where
    by : (c : ℕ) → Kind c → IsBytes (extra_byte c ++ flat_map extra_byte raw) → (IsBytes (flat_map extra_byte raw) → IsBytes raw) → IsBytes (c ∷ raw)
    by c backslash h later = (omega arith, later h.1.1)
    by c line_feed h later = (omega arith, later h.1.1)
    by c return h later = (omega arith, later h.1.1)
    by c zero_byte h later = (omega arith, later h.1.1)
    by c (literal d is one) h later = let k = subst (λ (front : Bytes). IsBytes (front ++ flat_map extra_byte raw)) one h in (k.0, later k.1)

-- ---- one item

-- a key that isn't empty and has no `:`, and bytes
abbrev pub IsExtra : Extra → Type 0
IsExtra e = (e.key ≢ []) × (has_byte 58 e.key ≡ false) × IsBytes e.key × IsBytes e.value

extra_text-sides : (e : Extra) → extra_text e ≡ flat_map extra_byte e.key ++ 58 ∷ flat_map extra_byte e.value
extra_text-sides e = flat_map-append extra_byte e.key (58 ∷ e.value)

extra_byte-some : (b : ℕ) → 0 < length (extra_byte b)
extra_byte-some b = by b (kind_of b)
  where
    by : (c : ℕ) → Kind c → 0 < length (extra_byte c)
    by c backslash = omega arith
    by c line_feed = omega arith
    by c return = omega arith
    by c zero_byte = omega arith
    by c (literal d is one) = subst (λ (x : Bytes). 0 < length x) (sym one) (omega arith)

escaped-some : (key : Bytes) → key ≢ [] → (length (flat_map extra_byte key) == 0) ≡ false
escaped-some [] h = absurd (h refl)
escaped-some (b ∷ key) h = differs (length (extra_byte b ++ flat_map extra_byte key)) 0 (λ e. omega (arith, e, extra_byte-some b, length-append (extra_byte b) (flat_map extra_byte key)))

-- what is written of an item reads as the item
pub extra_of-text : (e : Extra) → IsExtra e → extra_of (extra_text e) ≡ Some e
unfolding extra_of
extra_of-text e h =
    let cut : cut_of 58 (extra_text e) ≡ Some (flat_map extra_byte e.key, flat_map extra_byte e.value) =
    ap (cut_of 58) (extra_text-sides e) ∙ cut_of-at 58 (flat_map extra_byte e.key) (flat_map extra_byte e.value) (escaped-lacks_colon e.key (Lacks-by_test 58 e.key h.1)) in
    ap (option_and_then extra_of_sides) cut ∙ rw (escaped-some e.key h.0, unescaped-spelled e.key, unescaped-spelled e.value) refl

-- what reads as an item is what is written of it
pub record ReadExtra (text : Bytes) (e : Extra) : Type 0 where
  pub spelled : text ≡ extra_text e
  pub some : e.key ≢ []
  pub plain : has_byte 58 e.key ≡ false

sides-takes : (left right : Bytes) (e : Extra) → Lacks 58 left → extra_of_sides (left, right) ≡ Some e → ReadExtra (left ++ 58 ∷ right) e
sides-takes left right e lacks h = by (length left == 0) refl (unescaped left) refl (unescaped right) refl
  where
    by : (p : Bool) → (length left == 0) ≡ p → (k : Option Bytes) → unescaped left ≡ k → (v : Option Bytes) → unescaped right ≡ v → ReadExtra (left ++ 58 ∷ right) e
    by true p k k' v v' = absurd (none_some {x = e} (sym (rw p refl) ∙ h))
    by false p None k' v v' = absurd (none_some {x = e} (sym (rw (p, k') refl) ∙ h))
    by false p (Some key) k' None v' = absurd (none_some {x = e} (sym (rw (p, k', v') refl) ∙ h))
    by false p (Some key) k' (Some value) v' =
        let same : record { key = key; value = value } ≡ e = some_is {X = Extra} {x = record { key = key; value = value }} {y = e} (sym (rw (p, k', v') refl) ∙ h) in
        let key_is : left ≡ flat_map extra_byte key = unescaped-takes left key k' in
        let value_is : right ≡ flat_map extra_byte value = unescaped-takes right value v' in
        subst (ReadExtra (left ++ 58 ∷ right)) same (record {
          spelled = (λ i. key_is i ++ 58 ∷ value_is i) ∙ sym (flat_map-append extra_byte key (58 ∷ value));
          some = λ empty. true≢false (sym (ap (λ (x : Bytes). length x == 0) (key_is ∙ ap (flat_map extra_byte) empty)) ∙ p);
          plain = has_byte-lacks 58 key (colon-back key (subst (Lacks 58) key_is lacks));
        })

pub extra_of-takes : (text : Bytes) (e : Extra) → extra_of text ≡ Some e → ReadExtra text e
unfolding extra_of
extra_of-takes text e h = by (cut_of 58 text) refl
  where
    by : (r : Option (Bytes × Bytes)) → cut_of 58 text ≡ r → ReadExtra text e
    by None c = absurd (none_some (sym (ap (option_and_then extra_of_sides) c) ∙ h))
    by (Some p) c =
        let t = cut_of-takes 58 text p.0 p.1 c in
        subst (λ (x : Bytes). ReadExtra x e) (sym t.0) (sides-takes p.0 p.1 e t.1 (sym (ap (option_and_then extra_of_sides) c) ∙ h))

pub ReadExtra-is : (text : Bytes) (e : Extra) → ReadExtra text e → IsBytes text → IsExtra e
ReadExtra-is text e r bytes =
    let raw : IsBytes (e.key ++ 58 ∷ e.value) = bytes-back (e.key ++ 58 ∷ e.value) (subst IsBytes r.spelled bytes) in
    (r.some, r.plain, IsBytes-front e.key (58 ∷ e.value) raw, (IsBytes-rest e.key (58 ∷ e.value) raw).1)

-- ---- rising keys

keys : List Extra → List Bytes
keys es = map (λ (e : Extra). e.key) es

rises-push : (es : List Extra) (e : Extra) → rises is_below (map (λ (e : Extra). e.key) es) ≡ true → key_rises (last_key es) e.key ≡ true → rises is_below (map (λ (e : Extra). e.key) (es ++ e ∷ [])) ≡ true
rises-push [] e h k = refl
rises-push (f ∷ []) e h k = rw k refl
rises-push (f ∷ g ∷ es) e h k =
    let p = both (is_below f.key g.key) (rises is_below (map (λ (e : Extra). e.key) (g ∷ es))) h in
    rw (p.0, rises-push (g ∷ es) e p.1 k) refl

rises-at : (es : List Extra) (e : Extra) (more : List Extra) → rises is_below (map (λ (e : Extra). e.key) (es ++ e ∷ more)) ≡ true → key_rises (last_key es) e.key ≡ true
rises-at [] e more h = refl
rises-at (f ∷ []) e more h = (both (is_below f.key e.key) (rises is_below (map (λ (e : Extra). e.key) (e ∷ more))) h).0
rises-at (f ∷ g ∷ es) e more h = rises-at (g ∷ es) e more (both (is_below f.key g.key) (rises is_below (map (λ (e : Extra). e.key) (g ∷ es ++ e ∷ more))) h).1

pub AreExtras-push : (es : List Extra) (e : Extra) → AreExtras es → IsExtra e → key_rises (last_key es) e.key ≡ true → AreExtras (es ++ e ∷ [])
AreExtras-push es e h is k =
    (Each-push (λ (e : Extra). (e.key ≢ []) × (has_byte 58 e.key ≡ false) × IsBytes e.key × IsBytes e.value) es e h.0 is, rises-push es e h.1 k)

-- ---- the texts between the NULs

pub pieces-cut : (front rest : Bytes) → Lacks 0 front → slice_split (λ b. b == 0) (front ++ 0 ∷ rest) ≡ front ∷ slice_split (λ b. b == 0) rest
pieces-cut [] rest h = refl
pieces-cut (x ∷ xs) rest h = rw (differs x 0 h.0, pieces-cut xs rest h.1) refl

pub pieces-one : (piece : Bytes) → Lacks 0 piece → slice_split (λ b. b == 0) piece ≡ piece ∷ []
pieces-one [] h = refl
pieces-one (x ∷ xs) h = rw (differs x 0 h.0, pieces-one xs h.1) refl

pieces-extras : (e : Extra) (es : List Extra) → slice_split (λ b. b == 0) (extras_text (e ∷ es)) ≡ map extra_text (e ∷ es)
pieces-extras e [] = ap (slice_split (λ b. b == 0)) (append-nil (extra_text e)) ∙ pieces-one (extra_text e) (escaped-lacks_nul (e.key ++ 58 ∷ e.value))
pieces-extras e (f ∷ es) = pieces-cut (extra_text e) (extras_text (f ∷ es)) (escaped-lacks_nul (e.key ++ 58 ∷ e.value)) ∙ ap (λ (ps : List Bytes). extra_text e ∷ ps) (pieces-extras f es)

-- the texts with one NUL between each two
joined : List Bytes → Bytes
joined [] = []
joined (p ∷ ps) = p ++ flat_map (λ (q : Bytes). 0 ∷ q) ps

pieces-joined : (text : Bytes) → (p : Bytes) × (ps : List Bytes) × (slice_split (λ b. b == 0) text ≡ p ∷ ps) × (text ≡ joined (p ∷ ps))
unfolding joined
pieces-joined [] = ([], [], refl, refl)
pieces-joined (b ∷ text) = by (b == 0) refl (pieces-joined text)
  where
    by : (t : Bool) → (b == 0) ≡ t → ((p : Bytes) × (ps : List Bytes) × (slice_split (λ b. b == 0) text ≡ p ∷ ps) × (text ≡ joined (p ∷ ps)))
        → (p : Bytes) × (ps : List Bytes) × (slice_split (λ b. b == 0) (b ∷ text) ≡ p ∷ ps) × (b ∷ text ≡ joined (p ∷ ps))
    by true t r = ([], r.0 ∷ r.1, rw (t, r.2) refl, λ i. eqb-true b 0 t i ∷ r.3 i)
    by false t r = (b ∷ r.0, r.1, rw (t, r.2) refl, λ i. b ∷ r.3 i)

-- ---- lists of items

again_from : (es more : List Extra) → AreExtras (es ++ more) → extras_from es (map extra_text more) ≡ Some (es ++ more)
again_from es [] h = ap (λ (x : List Extra). Some x) (sym (append-nil es))
again_from es (e ∷ more) h =
    let is : IsExtra e = (Each-rest (λ (e : Extra). (e.key ≢ []) × (has_byte 58 e.key ≡ false) × IsBytes e.key × IsBytes e.value) es (e ∷ more) h.0).0 in
    let one : (es ++ e ∷ []) ++ more ≡ es ++ e ∷ more = append_assoc es (e ∷ []) more in
    rw (extra_of-text e is, rises-at es e more h.1) (again_from (es ++ e ∷ []) more (subst AreExtras (sym one) h) ∙ ap (λ (x : List Extra). Some x) one)

-- what is written of items reads as these items
pub extras_of-text : (e : Extra) (es : List Extra) → AreExtras (e ∷ es) → extras_of (extras_text (e ∷ es)) ≡ Some (e ∷ es)
unfolding extras_of
extras_of-text e es h = ap (extras_from []) (pieces-extras e es) ∙ again_from [] (e ∷ es) h

-- the items that were read behind the others
record TakenFrom (es : List Extra) (texts : List Bytes) (all : List Extra) : Type 0 where
  more : List Extra
  whole : all ≡ es ++ more
  texts_are : texts ≡ map extra_text more
  are : AreExtras all

with_extra-takes : (es : List Extra) (e : Extra) (all : List Extra) → with_extra es e ≡ Some all → (key_rises (last_key es) e.key ≡ true) × (all ≡ es ++ e ∷ [])
with_extra-takes es e all h = by (key_rises (last_key es) e.key) refl
  where
    by : (t : Bool) → key_rises (last_key es) e.key ≡ t → (key_rises (last_key es) e.key ≡ true) × (all ≡ es ++ e ∷ [])
    by true t = (t, sym (some_is {x = es ++ e ∷ []} {y = all} (sym (rw t refl) ∙ h)))
    by false t = absurd (none_some {x = all} (sym (rw t refl) ∙ h))

takes_from : (es : List Extra) (texts : List Bytes) (all : List Extra) → AreExtras es → Each IsBytes texts → extras_from es texts ≡ Some all → TakenFrom es texts all
takes_from es [] all h bytes e =
    let same : es ≡ all = some_is e in
    record { more = []; whole = sym same ∙ sym (append-nil es); texts_are = refl; are = subst AreExtras same h }
takes_from es (text ∷ texts) all h bytes e = by (extra_of text) refl (λ now are. takes_from now texts all are bytes.1)
  where
    at : (r : Option Extra) → extra_of text ≡ r → option_and_then (λ more. extras_from more texts) (option_and_then (with_extra es) r) ≡ Some all
    at r x = sym (ap (λ (r : Option Extra). option_and_then (λ more. extras_from more texts) (option_and_then (with_extra es) r)) x) ∙ e

    after : (x : Extra) → extra_of text ≡ Some x → (w : Option (List Extra)) → with_extra es x ≡ w → ((now : List Extra) → AreExtras now → extras_from now texts ≡ Some all → TakenFrom now texts all) → TakenFrom es (text ∷ texts) all
    after x r None w go = absurd (none_some (sym (ap (option_and_then (λ more. extras_from more texts)) w) ∙ at (Some x) r))
    after x r (Some now) w go =
        let read = extra_of-takes text x r in
        let grown = with_extra-takes es x now w in
        let are : AreExtras now = subst AreExtras (sym grown.1) (AreExtras-push es x h (ReadExtra-is text x read bytes.0) grown.0) in
        let later = go now are (sym (ap (option_and_then (λ more. extras_from more texts)) w) ∙ at (Some x) r) in
        record {
          more = x ∷ later.more;
          whole = later.whole ∙ ap (λ (front : List Extra). front ++ later.more) grown.1 ∙ append_assoc es (x ∷ []) later.more;
          texts_are = λ i. read.spelled i ∷ later.texts_are i;
          are = later.are;
        }

    by : (r : Option Extra) → extra_of text ≡ r → ((now : List Extra) → AreExtras now → extras_from now texts ≡ Some all → TakenFrom now texts all) → TakenFrom es (text ∷ texts) all
    by None r go = absurd (none_some (at None r))
    by (Some x) r go = after x r (with_extra es x) refl go

joined-extras : (e : Extra) (es : List Extra) → joined (map extra_text (e ∷ es)) ≡ extras_text (e ∷ es)
unfolding joined
joined-extras e es = ap (λ (x : Bytes). extra_text e ++ x) (behind es)
  where
    behind : (es : List Extra) → flat_map (λ (q : Bytes). 0 ∷ q) (map extra_text es) ≡ flat_map (λ (x : Extra). nul ∷ extra_text x) es
    behind [] = refl
    behind (f ∷ fs) = ap (λ (x : Bytes). 0 ∷ extra_text f ++ x) (behind fs)

pieces-bytes : (text : Bytes) → IsBytes text → Each IsBytes (slice_split (λ b. b == 0) text)
pieces-bytes [] h = (tt, tt)
pieces-bytes (b ∷ text) h = by (b == 0) refl (pieces-joined text) (pieces-bytes text h.1)
  where
    by : (t : Bool) → (b == 0) ≡ t → ((p : Bytes) × (ps : List Bytes) × (slice_split (λ b. b == 0) text ≡ p ∷ ps) × (text ≡ joined (p ∷ ps)))
        → Each IsBytes (slice_split (λ b. b == 0) text) → Each IsBytes (slice_split (λ b. b == 0) (b ∷ text))
    by true t r bytes = rw t (tt, bytes)
    by false t r bytes =
        let k : IsBytes r.0 × Each IsBytes r.1 = subst (Each IsBytes) r.2 bytes in
        rw (t, r.2) ((h.0, k.0), k.1)

-- what reads as items is what is written of them, at least one
pub record ReadExtras (text : Bytes) (all : List Extra) : Type 0 where
  pub first : Extra
  pub others : List Extra
  pub whole : all ≡ first ∷ others
  pub spelled : text ≡ extras_text (first ∷ others)
  pub are : AreExtras all

pub extras_of-takes : (text : Bytes) (all : List Extra) → IsBytes text → extras_of text ≡ Some all → ReadExtras text all
unfolding extras_of
extras_of-takes text all bytes e =
    let parts = pieces-joined text in
    let taken = takes_from [] (slice_split (λ b. b == 0) text) all (tt, refl) (pieces-bytes text bytes) e in
    by parts.0 parts.1 parts.2 parts.3 taken.more taken.whole taken.texts_are taken.are
  where
    by : (p : Bytes) (ps : List Bytes) → slice_split (λ b. b == 0) text ≡ p ∷ ps → text ≡ joined (p ∷ ps) → (more : List Extra) → all ≡ more → slice_split (λ b. b == 0) text ≡ map extra_text more → AreExtras all → ReadExtras text all
    by p ps split whole [] all_is texts are = absurd (cons_nil p ps (sym split ∙ texts))
      where
        cons_nil : (p : Bytes) (ps : List Bytes) → p ∷ ps ≡ [] → ⊥
        cons_nil p ps h = cc
    by p ps split whole (e ∷ es) all_is texts are =
        record { first = e; others = es; whole = all_is; spelled = whole ∙ ap joined (sym split ∙ texts) ∙ joined-extras e es; are = are }
