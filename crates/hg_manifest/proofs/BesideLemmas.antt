-- Lines that are passed over beside those of another manifest.
use Rattle.std.proofs.Common.{◌≡◌, ◌<◌, inl, inr, ℕ, List, [], ◌∷◌, ◌++◌, length, refl, sym, ap, subst, ◌∙◌, append_assoc, arith, map, take, drop, ◌+◌, ◌-◌}
use Rattle.std.proofs.lemmas.List.{length-append, append-nil, take_at, drop_at}
use Rattle.text_model.specs.Text.{Bytes}
use Rattle.text_model.specs.Lists.{Each}
use Rattle.text_model.proofs.EachLemmas.{Each-append, Each-weaker}
use Rattle.hg_model.specs.Manifest.{ManifestEntry}
use Rattle.hg_model.proofs.ManifestLemmas.{one_manifest}
use Rattle.hg_manifest.specs.Near.{IsFront, IsLater}
use Rattle.hg_manifest.specs.Beside.{IsLineOf, IsNewer, IsPassed}
use Rattle.hg_manifest.specs.declared.ahead.Ahead.{Ahead}

-- ---- which lines are left

pub later-none : (es : List ManifestEntry) → IsLater es es
later-none es = record { passed = []; whole = refl }

pub later-more : (old mid new : List ManifestEntry) → IsLater old mid → IsLater mid new → IsLater old new
later-more old mid new a b = record {
  passed = a.passed ++ b.passed;
  whole = a.whole ∙ ap (λ (es : List ManifestEntry). a.passed ++ es) b.whole ∙ sym (append_assoc a.passed b.passed new);
}

-- a line of those that are left is a line of all
pub line-later : (e : ManifestEntry) (passed new : List ManifestEntry) → IsLineOf new e → IsLineOf (passed ++ new) e
line-later e [] new is = is
line-later e (p ∷ passed) new is = inr (line-later e passed new is)

line-of-later : (old new : List ManifestEntry) → IsLater old new → (e : ManifestEntry) → IsLineOf new e → IsLineOf old e
line-of-later old new later e is = subst (λ (es : List ManifestEntry). IsLineOf es e) (sym later.whole) (line-later e later.passed new is)

-- lines of those that are left are lines of all
pub lines-later : (old new es : List ManifestEntry) → IsLater old new → Each (IsLineOf new) es → Each (IsLineOf old) es
lines-later old new es later each = Each-weaker (IsLineOf new) (IsLineOf old) (line-of-later old new later) es each

line-front : (e : ManifestEntry) (es fs : List ManifestEntry) → IsLineOf es e → IsLineOf (es ++ fs) e
line-front e [] fs is = absurd is
line-front e (x ∷ es) fs (inl is) = inl is
line-front e (x ∷ es) fs (inr is) = inr (line-front e es fs is)

-- each of some lines is one of them
own_lines : (es : List ManifestEntry) → Each (IsLineOf es) es
own_lines [] = tt
own_lines (e ∷ es) = (inl (refl, refl), Each-weaker (IsLineOf es) (IsLineOf (e ∷ es)) (λ x is. inr is) es (own_lines es))

-- the first lines of some are lines of them
pub front-lines : (es front behind : List ManifestEntry) → es ≡ front ++ behind → Each (IsLineOf es) front
front-lines es front behind whole = Each-weaker (IsLineOf front) (IsLineOf es) (λ e is. subst (λ (l : List ManifestEntry). IsLineOf l e) (sym whole) (line-front e front behind is)) front (own_lines front)

-- ---- what was passed

pub passed-none : (b : Ahead) → IsPassed b b []
passed-none b = record {
  same = [];
  whole = refl;
  both = tt;
  later = later-none b.other;
}

-- then lines were passed that both have
pub passed-both : (old mid : Ahead) (count : ℕ) (text : Bytes) (front theirs lines other : List ManifestEntry) → IsPassed old mid [] → IsFront count mid.lines front text lines → IsFront count mid.other theirs text other
    → IsPassed old (record { lines = lines; other = other }) []
passed-both old mid count text front theirs lines other p f g =
    let same : front ≡ theirs = one_manifest text front theirs f.text_is g.text_is in
    let both : Each (IsLineOf mid.other) front = subst (λ (es : List ManifestEntry). Each (IsLineOf mid.other) es) (sym same)
    (Each-weaker (IsLineOf theirs) (IsLineOf mid.other) (λ x is. subst (λ (es : List ManifestEntry). IsLineOf es x) (sym g.whole) (line-front x theirs other is)) theirs (own_lines theirs)) in
    record {
      same = p.same ++ front;
      whole = p.whole ∙ ap (λ (es : List ManifestEntry). p.same ++ es) f.whole ∙ sym (append_assoc p.same front lines);
      both = Each-append (IsLineOf old.other) p.same front p.both (Each-weaker (IsLineOf mid.other) (IsLineOf old.other) (line-of-later old.other mid.other p.later) front both);
      later = later-more old.other mid.other other p.later (record { passed = theirs; whole = g.whole });
    }

-- fewer lines are left behind some
pub fewer : (count : ℕ) (es front behind : List ManifestEntry) (text : Bytes) → 0 < count → IsFront count es front text behind → length behind < length es
fewer count es front behind text some f = omega (arith, some, f.many, ap length f.whole, length-append front behind)

-- both kinds of passing, one after the other
pub passed-more : (old mid new : Ahead) (told : List ManifestEntry) → IsPassed old mid [] → IsPassed mid new told → IsPassed old new told
passed-more old mid new told p q = record {
  same = p.same ++ q.same;
  whole = p.whole ∙ ap (λ (es : List ManifestEntry). p.same ++ es) q.whole ∙ sym (append_assoc p.same q.same (told ++ new.lines));
  both = Each-append (IsLineOf old.other) p.same q.same p.both (Each-weaker (IsLineOf mid.other) (IsLineOf old.other) (line-of-later old.other mid.other p.later) q.same q.both);
  later = later-more old.other mid.other new.other p.later q.later;
}

-- the next line was told, whatever it is
pub passed-told : (old : Ahead) (e : ManifestEntry) (lines other : List ManifestEntry) → old.lines ≡ e ∷ lines → IsLater old.other other → IsPassed old (record { lines = lines; other = other }) (e ∷ [])
passed-told old e lines other first later = record {
  same = [];
  whole = first;
  both = tt;
  later = later;
}

-- then fewer lines are left
pub passed-fewer : (old new : Ahead) (e : ManifestEntry) → IsPassed old new (e ∷ []) → length new.lines < length old.lines
passed-fewer old new e p = omega (arith, ap (λ (es : List ManifestEntry). length es) p.whole, length-append p.same (e ∷ [] ++ new.lines))

-- where no line is left, each was one of both
pub passed-all : (old new : Ahead) → IsPassed old new [] → new.lines ≡ [] → Each (IsLineOf old.other) old.lines
passed-all old new p none = subst (λ (es : List ManifestEntry). Each (IsLineOf old.other) es) (sym (p.whole ∙ ap (λ (es : List ManifestEntry). p.same ++ es) none ∙ append-nil p.same)) p.both

-- ---- lines of which it is known that the other manifest may lack them

rest-of : List ManifestEntry → List ManifestEntry
rest-of [] = []
rest-of (e ∷ es) = es

-- then the next of them was told
pub newer-told : (old : Ahead) (gap : ℕ) (gaps : List ℕ) (front mid behind : List ManifestEntry) (text : Bytes) (e : ManifestEntry) → IsNewer old.other (gap ∷ gaps) old.lines → IsFront gap old.lines front text mid → mid ≡ e ∷ behind
    → IsPassed old (record { lines = behind; other = old.other }) (e ∷ []) × IsNewer old.other gaps behind
unfolding rest-of
newer-told old gap gaps front mid behind text e (same, one, rest, whole, many, both, newer) f split =
    let eq : front ++ mid ≡ same ++ (one ∷ rest) = sym f.whole ∙ whole in
    let same-is : front ≡ same = sym (take_at front mid gap f.many) ∙ ap (take gap) eq ∙ take_at same (one ∷ rest) gap many in
    let rest-is : mid ≡ one ∷ rest = sym (drop_at front mid gap f.many) ∙ ap (drop gap) eq ∙ drop_at same (one ∷ rest) gap many in (
      record {
        same = front;
        whole = f.whole ∙ ap (λ (es : List ManifestEntry). front ++ es) split;
        both = subst (λ (es : List ManifestEntry). Each (IsLineOf old.other) es) (sym same-is) both;
        later = later-none old.other;
      },
      subst (λ (es : List ManifestEntry). IsNewer old.other gaps es) (ap rest-of (sym rest-is ∙ split)) newer,
    )

-- where so many lines are told before the next one, there are more
pub newer-some : (other : List ManifestEntry) (gap : ℕ) (gaps : List ℕ) (es : List ManifestEntry) → IsNewer other (gap ∷ gaps) es → gap < length es
newer-some other gap gaps es (same, one, rest, whole, many, both, newer) = omega (arith, many, ap (λ (xs : List ManifestEntry). length xs) whole, length-append same (one ∷ rest))

-- ---- entries that are read near those of another manifest

-- the same of entries that go on behind the last one that was told
abbrev pub NewerTo : List ManifestEntry → List ℕ → ℕ → List ManifestEntry → Type 0
NewerTo other [] n es = (length es ≡ n) × Each (IsLineOf other) es
NewerTo other (gap ∷ gaps) n es = (same : List ManifestEntry) × (e : ManifestEntry) × (rest : List ManifestEntry) × (es ≡ same ++ (e ∷ rest)) × (length same ≡ gap) × Each (IsLineOf other) same × NewerTo other gaps n rest

newer-same : (other : List ManifestEntry) (gaps : List ℕ) (n : ℕ) (es xs : List ManifestEntry) → NewerTo other gaps n es → Each (IsLineOf other) xs → NewerTo other gaps (n + length xs) (es ++ xs)
newer-same other [] n es xs (many, both) are = (length-append es xs ∙ ap (λ (k : ℕ). k + length xs) many, Each-append (IsLineOf other) es xs both are)
newer-same other (gap ∷ gaps) n es xs (same, e, rest, whole, many, both, more) are =
    (same, e, rest ++ xs, ap (λ (l : List ManifestEntry). l ++ xs) whole ∙ append_assoc same (e ∷ rest) xs, many, both, newer-same other gaps n rest xs more are)

newer-one : (other : List ManifestEntry) (gaps : List ℕ) (n : ℕ) (es : List ManifestEntry) (e : ManifestEntry) → NewerTo other gaps n es → NewerTo other (gaps ++ (n ∷ [])) 0 (es ++ (e ∷ []))
newer-one other [] n es e (many, both) = (es, e, [], refl, many, both, (refl, tt))
newer-one other (gap ∷ gaps) n es x (same, e, rest, whole, many, both, more) =
    (same, e, rest ++ (x ∷ []), ap (λ (l : List ManifestEntry). l ++ (x ∷ [])) whole ∙ append_assoc same (e ∷ rest) (x ∷ []), many, both, newer-one other gaps n rest x more)

newer-end : (other : List ManifestEntry) (gaps : List ℕ) (n : ℕ) (es : List ManifestEntry) → NewerTo other gaps n es → IsNewer other gaps es
newer-end other [] n es (many, both) = both
newer-end other (gap ∷ gaps) n es (same, e, rest, whole, many, both, more) = (same, e, rest, whole, many, both, newer-end other gaps n rest more)

-- The entries that were read near another manifest, of which these lines are ahead. So many of them stand up to the last one that was told.
pub record IsToldTo (near ahead : List ManifestEntry) (gaps : List ℕ) (told : ℕ) (es : List ManifestEntry) : Type 0 where
  pub later : IsLater near ahead
  pub behind : ℕ
  pub newer : NewerTo near gaps behind es
  pub count : told + behind ≡ length es

pub told-start : (near : List ManifestEntry) → IsToldTo near near [] 0 []
told-start near = record {
  later = later-none near;
  behind = 0;
  newer = (refl, tt);
  count = refl;
}

-- lines of the other manifest were read
pub told-same : (near ahead new : List ManifestEntry) (gaps : List ℕ) (told : ℕ) (es xs : List ManifestEntry) → IsToldTo near ahead gaps told es → IsLater ahead new → Each (IsLineOf ahead) xs → IsToldTo near new gaps told (es ++ xs)
told-same near ahead new gaps told es xs t later are = record {
  later = later-more near ahead new t.later later;
  behind = t.behind + length xs;
  newer = newer-same near gaps t.behind es xs t.newer (lines-later near ahead xs t.later are);
  count = omega (arith, t.count, length-append es xs);
}

-- a line was read that it may lack
pub told-one : (near ahead new : List ManifestEntry) (gaps : List ℕ) (told : ℕ) (es : List ManifestEntry) (e : ManifestEntry) → IsToldTo near ahead gaps told es → IsLater ahead new
    → IsToldTo near new (gaps ++ ((length es - told) ∷ [])) (length (es ++ (e ∷ []))) (es ++ (e ∷ []))
told-one near ahead new gaps told es e t later =
    let left : t.behind ≡ length es - told = omega (arith, t.count) in
    record {
      later = later-more near ahead new t.later later;
      behind = 0;
      newer = subst (λ (n : ℕ). NewerTo near (gaps ++ (n ∷ [])) 0 (es ++ (e ∷ []))) left (newer-one near gaps t.behind es e t.newer);
      count = omega arith;
    }

pub told-end : (near ahead : List ManifestEntry) (gaps : List ℕ) (told : ℕ) (es : List ManifestEntry) → IsToldTo near ahead gaps told es → IsNewer near gaps es
told-end near ahead gaps told es t = newer-end near gaps t.behind es t.newer

-- ---- what the lines stand for

-- of these things, whose lines are ahead, those of the lines that were passed, that of the one that was told, and those of the lines that are left
pub record AreParts {X : Type 0} (f : X → ManifestEntry) (xs : List X) (other : List ManifestEntry) (e : ManifestEntry) (lines : List ManifestEntry) : Type 0 where
  pub same : List X
  pub one : X
  pub rest : List X
  pub whole : xs ≡ same ++ (one ∷ rest)
  pub both : Each (λ x. IsLineOf other (f x)) same
  pub told : f one ≡ e
  pub ahead : map f rest ≡ lines

first : {X : Type 0} → X → List X → X
first x [] = x
first x (y ∷ ys) = y

behind : {X : Type 0} → List X → List X
behind [] = []
behind (y ∷ ys) = ys

parts-of : {X : Type 0} (f : X → ManifestEntry) (xs : List X) (other same : List ManifestEntry) (e : ManifestEntry) (lines : List ManifestEntry) → map f xs ≡ same ++ (e ∷ lines) → Each (IsLineOf other) same → AreParts f xs other e lines
unfolding first behind
parts-of f [] other [] e lines is both = absurd cc
parts-of f [] other (s ∷ same) e lines is both = absurd cc
parts-of f (x ∷ xs) other [] e lines is both = record {
  same = [];
  one = x;
  rest = xs;
  whole = refl;
  both = tt;
  told = ap (first e) is;
  ahead = ap behind is;
}
parts-of {X} f (x ∷ xs) other (s ∷ same) e lines is both =
    let p = parts-of f xs other same e lines (ap behind is) both.1 in
    record {
      same = x ∷ p.same;
      one = p.one;
      rest = p.rest;
      whole = ap (λ (ys : List X). x ∷ ys) p.whole;
      both = (subst (IsLineOf other) (sym (ap (first s) is)) both.0, p.both);
      told = p.told;
      ahead = p.ahead;
    }

pub passed-parts : {X : Type 0} (f : X → ManifestEntry) (xs : List X) (walk next : Ahead) (e : ManifestEntry) → map f xs ≡ walk.lines → IsPassed walk next (e ∷ []) → AreParts f xs walk.other e next.lines
passed-parts f xs walk next e is p = parts-of f xs walk.other p.same e next.lines (is ∙ p.whole) p.both

-- each line that is left is one of both
pub all-parts : {X : Type 0} (f : X → ManifestEntry) (xs : List X) (other : List ManifestEntry) → Each (IsLineOf other) (map f xs) → Each (λ x. IsLineOf other (f x)) xs
all-parts f [] other each = tt
all-parts f (x ∷ xs) other each = (each.0, all-parts f xs other each.1)
