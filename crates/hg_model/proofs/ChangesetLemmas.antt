-- Changeset texts: each is that of one changeset, and a text is one exactly where it has no fault.
use Rattle.std.proofs.Common.{◌≡◌, ◌≢◌, ◌+◌, ◌==◌, ℕ, Bool, true, false, true≢false, List, [], ◌∷◌, ◌++◌, length, Option, Some, None, refl, sym, ap, subst, ◌∙◌, append_assoc, length-append, arith, eqb-true, eq-eqb}
use Rattle.std.specs.List.{flat_map}
use Rattle.text_model.specs.Lists.{Each}
use Rattle.text_model.specs.Text.{Bytes, IsBytes, lf, has_byte, has_piece, line, first_line}
use Rattle.text_model.specs.Id.{Id, IsId, hex, is_hex_id}
use Rattle.text_model.specs.Cuts.{Lacks}
use Rattle.text_model.proofs.TestLemmas.{differs}
use Rattle.text_model.proofs.ByteLemmas.{IsBytes-front, IsBytes-rest}
use Rattle.text_model.proofs.CutLemmas.{cut_of-takes}
use Rattle.text_model.proofs.LineLemmas.{first_line-at, first_line-is_cut}
use Rattle.text_model.proofs.HexLemmas.{id_of_hex-takes, id_of_hex-some, is_hex_id-hex, hex-injective, hex-lacks}
use Rattle.text_model.proofs.LackLemmas.{Lacks-by_test, has_byte-lacks}
use Rattle.text_model.proofs.Options.{some_is, some_none}
use Rattle.hg_model.specs.Changeset.{DateLine, IsDateLine, date_text, date_of, Changeset, changeset_text, IsChangeset, IsChangesetText, has_blank_line, files_fault, date_fault, user_fault, manifest_fault, changeset_fault}
use Rattle.hg_model.proofs.DateLemmas.{date_text-lacks_lf, date_of-text, date_of-is}

-- a file's line without its LF
abbrev pub IsFile : Bytes → Type 0
IsFile f = (f ≢ []) × (has_byte 10 f ≡ false) × IsBytes f

-- ---- one line after the other

line-onto : (text rest : Bytes) → line text ++ rest ≡ text ++ lf ∷ rest
line-onto text rest = append_assoc text (lf ∷ []) rest

pub first_line-line : (text rest : Bytes) → Lacks lf text → first_line (line text ++ rest) ≡ Some (text, rest)
first_line-line text rest h = ap first_line (line-onto text rest) ∙ first_line-at text rest h

-- the first line, and what follows it
pub record FirstLine (text front rest : Bytes) : Type 0 where
  pub whole : text ≡ line front ++ rest
  pub plain : Lacks lf front
  pub long : length text ≡ length front + 1 + length rest

pub first_line-takes : (text front rest : Bytes) → first_line text ≡ Some (front, rest) → FirstLine text front rest
first_line-takes text front rest e =
    let t = cut_of-takes lf text front rest (sym (first_line-is_cut text) ∙ e) in
    record {
      whole = t.0 ∙ sym (line-onto front rest);
      plain = t.1;
      long = omega (arith, ap (λ (x : Bytes). length x) t.0, length-append front (lf ∷ rest));
    }

-- two texts that begin with lines have these in common where they are one
one_line : (text other rest more : Bytes) → Lacks lf text → Lacks lf other → line text ++ rest ≡ line other ++ more → (text ≡ other) × (rest ≡ more)
one_line text other rest more h k e =
    let same : (text, rest) ≡ (other, more) = some_is (sym (first_line-line text rest h) ∙ ap first_line e ∙ first_line-line other more k) in
    (ap (λ (p : Bytes × Bytes). p.0) same, ap (λ (p : Bytes × Bytes). p.1) same)

-- ---- the lines of files, and the blank line behind them

turned : (b : ℕ) → (b == 10) ≡ false → (10 == b) ≡ false
turned b h = differs 10 b (λ e. true≢false (sym (eq-eqb b 10 (sym e)) ∙ h))

turned_true : (b : ℕ) → (b == 10) ≡ true → (10 == b) ≡ true
turned_true b h = eq-eqb 10 b (sym (eqb-true b 10 h))

-- behind a line that isn't blank
pub has_blank_line-behind : (front rest : Bytes) → front ≢ [] → Lacks lf front → has_blank_line (line front ++ rest) ≡ has_blank_line rest
has_blank_line-behind [] rest some h = absurd (some refl)
has_blank_line-behind (b ∷ front) rest some h = rw (differs b 10 h.0, differs 10 b (λ e. h.0 (sym e))) (within front h.1)
  where
    at_lf : (rest : Bytes) → has_piece (lf ∷ lf ∷ []) (lf ∷ rest) ≡ has_blank_line rest
    at_lf [] = refl
    at_lf (c ∷ rest) = by (c == 10) refl
      where
        by : (t : Bool) → (c == 10) ≡ t → has_piece (lf ∷ lf ∷ []) (lf ∷ c ∷ rest) ≡ has_blank_line (c ∷ rest)
        by true t = rw (t, turned_true c t) refl
        by false t = rw (t, turned c t) refl

    within : (front : Bytes) → Lacks lf front → has_piece (lf ∷ lf ∷ []) (line front ++ rest) ≡ has_blank_line rest
    within [] h = at_lf rest
    within (c ∷ front) h = rw (differs 10 c (λ e. h.0 (sym e))) (within front h.1)

lacks_piece : (text : Bytes) → Lacks lf text → has_piece (lf ∷ lf ∷ []) text ≡ false
lacks_piece [] h = refl
lacks_piece (b ∷ text) h = rw (differs 10 b (λ e. h.0 (sym e))) (lacks_piece text h.1)

-- no line, no blank line
pub has_blank_line-none : (text : Bytes) → Lacks lf text → has_blank_line text ≡ false
has_blank_line-none [] h = refl
has_blank_line-none (b ∷ text) h = rw (differs b 10 h.0, differs 10 b (λ e. h.0 (sym e))) (lacks_piece text h.1)

pub has_blank_line-files : (files : List Bytes) (description : Bytes) → Each IsFile files → has_blank_line (flat_map line files ++ lf ∷ description) ≡ true
has_blank_line-files [] description h = refl
has_blank_line-files (f ∷ files) description h =
    ap has_blank_line (append_assoc (line f) (flat_map line files) (lf ∷ description))
    ∙ has_blank_line-behind f (flat_map line files ++ lf ∷ description) h.0.0 (Lacks-by_test 10 f h.0.1) ∙ has_blank_line-files files description h.1

cons_nil : (b : ℕ) (bytes : Bytes) → b ∷ bytes ≡ [] → ⊥
cons_nil b bytes h = cc

-- a text is in one way lines of files, a blank line and a description
one_files : (files others : List Bytes) (description other : Bytes) → Each IsFile files → Each IsFile others
    → flat_map line files ++ lf ∷ description ≡ flat_map line others ++ lf ∷ other → (files ≡ others) × (description ≡ other)
one_files [] [] description other h k e = (refl, (one_line [] [] description other tt tt e).1)
one_files [] (g ∷ gs) description other h k e =
    let same = one_line [] g description (flat_map line gs ++ lf ∷ other) tt (Lacks-by_test 10 g k.0.1) (e ∙ append_assoc (line g) (flat_map line gs) (lf ∷ other)) in
    absurd (k.0.0 (sym same.0))
one_files (f ∷ fs) [] description other h k e =
    let same = one_line f [] (flat_map line fs ++ lf ∷ description) other (Lacks-by_test 10 f h.0.1) tt (sym (append_assoc (line f) (flat_map line fs) (lf ∷ description)) ∙ e) in
    absurd (h.0.0 same.0)
one_files (f ∷ fs) (g ∷ gs) description other h k e =
    let same = one_line f g (flat_map line fs ++ lf ∷ description) (flat_map line gs ++ lf ∷ other) (Lacks-by_test 10 f h.0.1) (Lacks-by_test 10 g k.0.1)
    (sym (append_assoc (line f) (flat_map line fs) (lf ∷ description)) ∙ e ∙ append_assoc (line g) (flat_map line gs) (lf ∷ other)) in
    let rest = one_files fs gs description other h.1 k.1 same.1 in
    ((λ i. same.0 i ∷ rest.0 i), rest.1)

-- the files and the description where a blank line stands
pub record Parted (text : Bytes) : Type 0 where
  pub files : List Bytes
  pub description : Bytes
  pub each : Each IsFile files
  pub whole : text ≡ flat_map line files ++ lf ∷ description
  pub bytes : IsBytes description

-- the same in the middle of a line
record Within (text : Bytes) : Type 0 where
  front : Bytes
  files : List Bytes
  description : Bytes
  plain : Lacks lf front
  each : Each IsFile files
  whole : text ≡ line front ++ flat_map line files ++ lf ∷ description
  bytes : IsBytes description

parted-within : (text : Bytes) → IsBytes text → has_piece (lf ∷ lf ∷ []) text ≡ true → Within text
parted-within [] bytes h = absurd (true≢false (sym h))
parted-within (b ∷ []) bytes h = by (b == 10) refl
  where
    by : (t : Bool) → (b == 10) ≡ t → Within (b ∷ [])
    by true t = absurd (true≢false (sym h ∙ rw (turned_true b t) refl))
    by false t = absurd (true≢false (sym h ∙ rw (turned b t) refl))
parted-within (b ∷ c ∷ rest) bytes h = by (b == 10) refl (c == 10) refl (parted-within (c ∷ rest) bytes.1)
  where
    by : (s : Bool) → (b == 10) ≡ s → (t : Bool) → (c == 10) ≡ t → (has_piece (lf ∷ lf ∷ []) (c ∷ rest) ≡ true → Within (c ∷ rest)) → Within (b ∷ c ∷ rest)
    by true s true t go = record {
      front = [];
      files = [];
      description = rest;
      plain = tt;
      each = tt;
      whole = λ i. eqb-true b 10 s i ∷ eqb-true c 10 t i ∷ rest;
      bytes = bytes.1.1;
    }
    by true s false t go =
        let w = go (sym (rw (turned_true b s, turned c t) refl) ∙ h) in
        let some : w.front ≢ [] = λ e. true≢false (sym (eq-eqb c 10 (begins (w.whole ∙ ap (λ (f : Bytes). line f ++ flat_map line w.files ++ lf ∷ w.description) e))) ∙ t) in
        let front_bytes : IsBytes w.front = IsBytes-front w.front (lf ∷ flat_map line w.files ++ lf ∷ w.description) (subst IsBytes (w.whole ∙ append_assoc (line w.front) (flat_map line w.files) (lf ∷ w.description) ∙ line-onto w.front (flat_map line w.files ++ lf ∷ w.description)) bytes.1) in
        record {
          front = [];
          files = w.front ∷ w.files;
          description = w.description;
          plain = tt;
          each = ((some, has_byte-lacks 10 w.front w.plain, front_bytes), w.each);
          whole = λ i. eqb-true b 10 s i ∷ w.whole i;
          bytes = w.bytes;
        }
      where
        begins : {more : Bytes} → c ∷ rest ≡ 10 ∷ more → c ≡ 10
        begins e = cc
    by false s t t' go =
        let w = go (sym (rw (turned b s) refl) ∙ h) in
        record {
          front = b ∷ w.front;
          files = w.files;
          description = w.description;
          plain = ((λ e. true≢false (sym (eq-eqb b 10 e) ∙ s)), w.plain);
          each = w.each;
          whole = λ i. b ∷ w.whole i;
          bytes = w.bytes;
        }

pub parted : (text : Bytes) → IsBytes text → has_blank_line text ≡ true → Parted text
parted [] bytes h = absurd (true≢false (sym h))
parted (b ∷ text) bytes h = by (b == 10) refl
  where
    by : (t : Bool) → (b == 10) ≡ t → Parted (b ∷ text)
    by true t = record { files = []; description = text; each = tt; whole = λ i. eqb-true b 10 t i ∷ text; bytes = bytes.1 }
    by false t =
        let w = parted-within (b ∷ text) bytes (sym (rw t refl) ∙ h) in
        let some : w.front ≢ [] = λ e. true≢false (sym (eq-eqb b 10 (begins (w.whole ∙ ap (λ (f : Bytes). line f ++ flat_map line w.files ++ lf ∷ w.description) e))) ∙ t) in
        let front_bytes : IsBytes w.front = IsBytes-front w.front (lf ∷ flat_map line w.files ++ lf ∷ w.description) (subst IsBytes (w.whole ∙ append_assoc (line w.front) (flat_map line w.files) (lf ∷ w.description) ∙ line-onto w.front (flat_map line w.files ++ lf ∷ w.description)) bytes) in
        record {
          files = w.front ∷ w.files;
          description = w.description;
          each = ((some, has_byte-lacks 10 w.front w.plain, front_bytes), w.each);
          whole = w.whole;
          bytes = w.bytes;
        }
      where
        begins : {more : Bytes} → b ∷ text ≡ 10 ∷ more → b ≡ 10
        begins e = cc

-- ---- the first three lines

pub fault-no_manifest_line : (text : Bytes) → first_line text ≡ None → changeset_fault text ≡ Some 0
fault-no_manifest_line text e = ap (manifest_fault (length text)) e

pub fault-no_id : (text digits rest : Bytes) → first_line text ≡ Some (digits, rest) → is_hex_id digits ≡ false → changeset_fault text ≡ Some 0
fault-no_id text digits rest e h = ap (manifest_fault (length text)) e ∙ rw h refl

-- behind the manifest's line
pub fault-user : (text digits rest : Bytes) → first_line text ≡ Some (digits, rest) → is_hex_id digits ≡ true → changeset_fault text ≡ user_fault 41 (length text) (first_line rest)
fault-user text digits rest e h = ap (manifest_fault (length text)) e ∙ rw h refl

-- behind the user's line
pub fault-date : (at end : ℕ) (text user rest : Bytes) → first_line text ≡ Some (user, rest) → (length user == 0) ≡ false → user_fault at end (first_line text) ≡ date_fault (at + length user + 1) end (first_line rest)
fault-date at end text user rest e h = ap (user_fault at end) e ∙ rw h refl

pub fault-empty_user : (at end : ℕ) (text user rest : Bytes) → first_line text ≡ Some (user, rest) → (length user == 0) ≡ true → user_fault at end (first_line text) ≡ Some at
fault-empty_user at end text user rest e h = ap (user_fault at end) e ∙ rw h refl

is_some : (text : Bytes) → text ≢ [] → (length text == 0) ≡ false
is_some [] h = absurd (h refl)
is_some (b ∷ text) h = differs (length (b ∷ text)) 0 (λ e. omega (arith, e))

-- ---- the text of a changeset

text-lines : (x : Changeset) → changeset_text x ≡ line (hex x.manifest) ++ (line x.user ++ (line (date_text x.date) ++ (flat_map line x.files ++ lf ∷ x.description)))
unfolding changeset_text
text-lines x =
    append_assoc (line (hex x.manifest) ++ line x.user ++ line (date_text x.date)) (flat_map line x.files) (lf ∷ x.description)
    ∙ append_assoc (line (hex x.manifest) ++ line x.user) (line (date_text x.date)) (flat_map line x.files ++ lf ∷ x.description)
    ∙ append_assoc (line (hex x.manifest)) (line x.user) (line (date_text x.date) ++ (flat_map line x.files ++ lf ∷ x.description))

-- what these lines and a rest make of a text
pub text-parts : (x : Changeset) (text rest : Bytes) → text ≡ line (hex x.manifest) ++ line x.user ++ line (date_text x.date) ++ rest → rest ≡ flat_map line x.files ++ lf ∷ x.description → text ≡ changeset_text x
unfolding changeset_text
text-parts x text rest e f = e ∙ ap (λ (r : Bytes). line (hex x.manifest) ++ line x.user ++ line (date_text x.date) ++ r) f ∙ sym (append_assoc (line (hex x.manifest) ++ line x.user ++ line (date_text x.date)) (flat_map line x.files) (lf ∷ x.description))

module _ (x : Changeset) (is : IsChangeset x) where
  id_plain : Lacks lf (hex x.manifest)
  id_plain = hex-lacks 10 x.manifest (omega arith) is.manifest.1

  user_plain : Lacks lf x.user
  user_plain = Lacks-by_test 10 x.user is.user.1

  date_plain : Lacks lf (date_text x.date)
  date_plain = date_text-lacks_lf x.date is.date

-- the text of a changeset has no fault
pub changeset_fault-text : (text : Bytes) (x : Changeset) → IsChangesetText text x → changeset_fault text ≡ None
changeset_fault-text text x h =
    let is = h.0 in
    let whole = h.1 ∙ text-lines x in
    let first : first_line text ≡ Some (hex x.manifest, line x.user ++ (line (date_text x.date) ++ (flat_map line x.files ++ lf ∷ x.description))) =
    ap first_line whole ∙ first_line-line (hex x.manifest) (line x.user ++ (line (date_text x.date) ++ (flat_map line x.files ++ lf ∷ x.description))) (id_plain x is) in
    fault-user text (hex x.manifest) (line x.user ++ (line (date_text x.date) ++ (flat_map line x.files ++ lf ∷ x.description))) first (is_hex_id-hex x.manifest is.manifest)
    ∙ fault-date 41 (length text) (line x.user ++ (line (date_text x.date) ++ (flat_map line x.files ++ lf ∷ x.description))) x.user (line (date_text x.date) ++ (flat_map line x.files ++ lf ∷ x.description))
    (first_line-line x.user (line (date_text x.date) ++ (flat_map line x.files ++ lf ∷ x.description)) (user_plain x is)) (is_some x.user is.user.0)
    ∙ ap (date_fault (41 + length x.user + 1) (length text)) (first_line-line (date_text x.date) (flat_map line x.files ++ lf ∷ x.description) (date_plain x is))
    ∙ rw (has_blank_line-files x.files x.description is.files) refl

one_date : (x y : DateLine) → IsDateLine x → IsDateLine y → date_text x ≡ date_text y → x ≡ y
one_date x y h k e = sym (date_of-text x h) ∙ ap date_of e ∙ date_of-text y k

-- a text is that of one changeset at most
pub one_changeset : (text : Bytes) (x y : Changeset) → IsChangesetText text x → IsChangesetText text y → x ≡ y
one_changeset text x y h k =
    let whole = sym (text-lines x) ∙ sym h.1 ∙ k.1 ∙ text-lines y in
    let first = one_line (hex x.manifest) (hex y.manifest) (line x.user ++ (line (date_text x.date) ++ (flat_map line x.files ++ lf ∷ x.description))) (line y.user ++ (line (date_text y.date) ++ (flat_map line y.files ++ lf ∷ y.description))) (id_plain x h.0) (id_plain y k.0) whole in
    let second = one_line x.user y.user (line (date_text x.date) ++ (flat_map line x.files ++ lf ∷ x.description)) (line (date_text y.date) ++ (flat_map line y.files ++ lf ∷ y.description)) (user_plain x h.0) (user_plain y k.0) first.1 in
    let third = one_line (date_text x.date) (date_text y.date) (flat_map line x.files ++ lf ∷ x.description) (flat_map line y.files ++ lf ∷ y.description) (date_plain x h.0) (date_plain y k.0) second.1 in
    let rest = one_files x.files y.files x.description y.description h.0.files k.0.files third.1 in
    let id : x.manifest ≡ y.manifest = hex-injective x.manifest y.manifest h.0.manifest k.0.manifest first.0 in
    let date : x.date ≡ y.date = one_date x.date y.date h.0.date k.0.date third.0 in
    let user : x.user ≡ y.user = second.0 in
    let files : x.files ≡ y.files = rest.0 in
    let description : x.description ≡ y.description = rest.1 in
    λ i. record { manifest = id i; user = user i; date = date i; files = files i; description = description i }

-- ---- a text without a fault

no_fault-files : (end : ℕ) (rest : Bytes) → files_fault end rest ≡ None → has_blank_line rest ≡ true
no_fault-files end rest e = by (has_blank_line rest) refl
  where
    by : (t : Bool) → has_blank_line rest ≡ t → has_blank_line rest ≡ true
    by true t = t
    by false t = absurd (some_none {x = end} (sym (rw t refl) ∙ e))

-- a text behind whose date line nothing is wrong
record DateRead (text : Bytes) : Type 0 where
  date : Bytes
  rest : Bytes
  whole : text ≡ line date ++ rest
  plain : Lacks lf date
  blank : has_blank_line rest ≡ true

no_fault-date : (at end : ℕ) (text : Bytes) → date_fault at end (first_line text) ≡ None → DateRead text
no_fault-date at end text e = by (first_line text) refl
  where
    by : (r : Option (Bytes × Bytes)) → first_line text ≡ r → DateRead text
    by None r = absurd (some_none (sym (ap (date_fault at end) r) ∙ e))
    by (Some p) r =
        let l = first_line-takes text p.0 p.1 r in
        record { date = p.0; rest = p.1; whole = l.whole; plain = l.plain; blank = no_fault-files end p.1 (sym (ap (date_fault at end) r) ∙ e) }

record UserRead (text : Bytes) : Type 0 where
  user : Bytes
  rest : Bytes
  whole : text ≡ line user ++ rest
  some : user ≢ []
  plain : Lacks lf user
  read : DateRead rest

no_fault-user : (at end : ℕ) (text : Bytes) → user_fault at end (first_line text) ≡ None → UserRead text
no_fault-user at end text e = by (first_line text) refl
  where
    at_line : (p : Bytes × Bytes) → first_line text ≡ Some p → (t : Bool) → (length p.0 == 0) ≡ t → UserRead text
    at_line p r true t = absurd (some_none (sym (fault-empty_user at end text p.0 p.1 r t) ∙ e))
    at_line p r false t =
        let l = first_line-takes text p.0 p.1 r in
        record {
          user = p.0;
          rest = p.1;
          whole = l.whole;
          some = λ empty. true≢false (sym (ap (λ (x : Bytes). length x == 0) empty) ∙ t);
          plain = l.plain;
          read = no_fault-date (at + length p.0 + 1) end p.1 (sym (fault-date at end text p.0 p.1 r t) ∙ e);
        }

    by : (r : Option (Bytes × Bytes)) → first_line text ≡ r → UserRead text
    by None r = absurd (some_none (sym (ap (user_fault at end) r) ∙ e))
    by (Some p) r = at_line p r (length p.0 == 0) refl

record ManifestRead (text : Bytes) : Type 0 where
  manifest : Id
  rest : Bytes
  whole : text ≡ line (hex manifest) ++ rest
  id : IsId manifest
  read : UserRead rest

no_fault-manifest : (text : Bytes) → changeset_fault text ≡ None → ManifestRead text
no_fault-manifest text e = by (first_line text) refl
  where
    at_line : (p : Bytes × Bytes) → first_line text ≡ Some p → (t : Bool) → is_hex_id p.0 ≡ t → ManifestRead text
    at_line p r true t =
        let l = first_line-takes text p.0 p.1 r in
        let some = id_of_hex-some p.0 t in
        let id = id_of_hex-takes p.0 _ some in
        record {
          manifest = _;
          rest = p.1;
          whole = l.whole ∙ ap (λ (x : Bytes). line x ++ p.1) id.1;
          id = id.0;
          read = no_fault-user 41 (length text) p.1 (sym (fault-user text p.0 p.1 r t) ∙ e);
        }
    at_line p r false t = absurd (some_none (sym (fault-no_id text p.0 p.1 r t) ∙ e))

    by : (r : Option (Bytes × Bytes)) → first_line text ≡ r → ManifestRead text
    by None r = absurd (some_none (sym (fault-no_manifest_line text r) ∙ e))
    by (Some p) r = at_line p r (is_hex_id p.0) refl

-- a text of these lines is a changeset's
pub whole_changeset : (text : Bytes) (id : Id) (user date : Bytes) (files : List Bytes) (description : Bytes) → IsBytes text
    → text ≡ line (hex id) ++ (line user ++ (line date ++ (flat_map line files ++ lf ∷ description))) → IsId id → user ≢ [] → Lacks lf user → Lacks lf date → Each IsFile files
    → IsChangesetText text (record { manifest = id; user = user; date = date_of date; files = files; description = description })
whole_changeset text id user date files description bytes whole is some user_plain date_plain each =
    let all : IsBytes (line (hex id) ++ (line user ++ (line date ++ (flat_map line files ++ lf ∷ description)))) = subst IsBytes whole bytes in
    let behind_id = IsBytes-rest (line (hex id)) (line user ++ (line date ++ (flat_map line files ++ lf ∷ description))) all in
    let user_bytes = IsBytes-front user (lf ∷ []) (IsBytes-front (line user) (line date ++ (flat_map line files ++ lf ∷ description)) behind_id) in
    let behind_user = IsBytes-rest (line user) (line date ++ (flat_map line files ++ lf ∷ description)) behind_id in
    let date_bytes = IsBytes-front date (lf ∷ []) (IsBytes-front (line date) (flat_map line files ++ lf ∷ description) behind_user) in
    let behind_date = IsBytes-rest (line date) (flat_map line files ++ lf ∷ description) behind_user in
    let description_bytes = (IsBytes-rest (flat_map line files) (lf ∷ description) behind_date).1 in
    let dated = date_of-is date date_bytes (has_byte-lacks 10 date date_plain) in (
      record {
        manifest = is;
        user = (some, has_byte-lacks 10 user user_plain, user_bytes);
        date = dated.0;
        files = each;
        description = description_bytes;
      },
      whole ∙ ap (λ (d : Bytes). line (hex id) ++ (line user ++ (line d ++ (flat_map line files ++ lf ∷ description)))) (sym dated.1)
          ∙ sym (text-lines (record { manifest = id; user = user; date = date_of date; files = files; description = description })),
    )

-- where nothing is wrong with a text it is a changeset's
pub some_changeset : (text : Bytes) → IsBytes text → changeset_fault text ≡ None → (x : Changeset) × IsChangesetText text x
some_changeset text bytes e =
    let m = no_fault-manifest text e in
    let u = m.read in
    let d = u.read in
    let whole : text ≡ line (hex m.manifest) ++ (line u.user ++ (line d.date ++ d.rest)) =
    m.whole ∙ ap (λ (r : Bytes). line (hex m.manifest) ++ r) (u.whole ∙ ap (λ (r : Bytes). line u.user ++ r) d.whole) in
    let rest_bytes : IsBytes d.rest =
    IsBytes-rest (line d.date) d.rest (IsBytes-rest (line u.user) (line d.date ++ d.rest) (IsBytes-rest (line (hex m.manifest)) (line u.user ++ (line d.date ++ d.rest)) (subst IsBytes whole bytes))) in
    let p = parted d.rest rest_bytes d.blank in
    (_, whole_changeset text m.manifest u.user d.date p.files p.description bytes (whole ∙ ap (λ (r : Bytes). line (hex m.manifest) ++ (line u.user ++ (line d.date ++ r))) p.whole) m.id u.some u.plain d.plain p.each)
