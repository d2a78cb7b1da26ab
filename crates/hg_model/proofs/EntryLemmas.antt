-- A line of a manifest reads as its entry, and what reads as an entry is its line.
use Rattle.std.proofs.Common.{◌≡◌, ◌+◌, ◌==◌, ◌||◌, suc, Bool, true, false, not, [], ◌∷◌, ◌++◌, length, take, drop, Option, Some, None, refl, sym, ap, subst, ◌∙◌, append_assoc, arith, codes, bytes_eq, option_map, option_and_then, take-append-drop}
use Rattle.std.specs.Prelude.{if◌then◌else◌}
use Rattle.std.specs.List.{before_first, after_first}
use Rattle.std.proofs.lemmas.Bool.{and_parts}
use Rattle.std.proofs.lemmas.List.{take_at, drop_at}
use Rattle.std.proofs.lemmas.Slice.Eq.{bytes_eq-Decides}
use Rattle.text_model.specs.Text.{Bytes, has_byte, whole_lines}
use Rattle.text_model.specs.Id.{Id, IsId, hex, id_of_hex}
use Rattle.text_model.specs.Path.{is_fit_path}
use Rattle.text_model.specs.Cuts.{Lacks, cut_of}
use Rattle.text_model.proofs.CutLemmas.{cut_of-takes, cut_of-none, cut_of-at, place_is}
use Rattle.text_model.proofs.HexLemmas.{id_of_hex-hex, id_of_hex-takes, hex-lacks, length-hex}
use Rattle.text_model.proofs.LackLemmas.{Lacks-by_test, has_byte-lacks, Lacks-append}
use Rattle.text_model.proofs.LineLemmas.{whole_lines-line}
use Rattle.text_model.proofs.Options.{none_some, not_true, some_is}
use Rattle.hg_model.specs.Manifest.{Flag, Regular, Executable, Symlink, ManifestEntry, flag_text, entry_text, flag_of, entry_of_line, path_of_line}

-- ---- the part of a path that is fit

pub record Plain (path : Bytes) : Type 0 where
  pub no_nul : Lacks 0 path
  pub no_lf : Lacks 10 path

-- a fit path has no NUL and no LF
pub is_fit_path-plain : (path : Bytes) → is_fit_path path ≡ true → Plain path
unfolding is_fit_path
is_fit_path-plain path e =
    let a = and_parts _ _ e in
    let b = and_parts _ (not (has_byte 13 path)) a.0 in
    let d = and_parts _ (not (has_byte 10 path)) b.0 in
    let f = and_parts _ (not (has_byte 0 path)) d.0 in
    record { no_nul = Lacks-by_test 0 path (not_true (has_byte 0 path) f.1); no_lf = Lacks-by_test 10 path (not_true (has_byte 10 path) d.1) }

-- ---- the NUL of a line

before_first-at : (front tail : Bytes) → Lacks 0 front → before_first (λ b. b == 0) (front ++ 0 ∷ tail) ≡ front
before_first-at front tail lacks = rw (place_is 0 front tail lacks) (take_at front (0 ∷ tail) (length front) refl)

after_first-at : (front tail : Bytes) → Lacks 0 front → after_first (λ b. b == 0) (front ++ 0 ∷ tail) ≡ tail
after_first-at front tail lacks = rw (place_is 0 front tail lacks) (dropped front)
  where
    dropped : (xs : Bytes) → drop (length xs + 1) (xs ++ 0 ∷ tail) ≡ tail
    dropped [] = refl
    dropped (x ∷ xs) =
        let next : length (x ∷ xs) + 1 ≡ suc (length xs + 1) = omega arith in
        rw next (dropped xs)

has_byte-at : (front tail : Bytes) → has_byte 0 (front ++ 0 ∷ tail) ≡ true
has_byte-at [] tail = refl
has_byte-at (x ∷ xs) tail = rw (has_byte-at xs tail) (or_true (x == 0))
  where
    or_true : (b : Bool) → (b || true) ≡ true
    or_true true = refl
    or_true false = refl

-- the entry of a path and of what stands after the NUL
abbrev pub tail_entry : Bytes → Bytes → Option ManifestEntry
tail_entry path tail = option_and_then (λ node. option_map (λ flag. record { path = path; node = node; flag = flag }) (flag_of (drop 40 tail))) (id_of_hex (take 40 tail))

pub entry_of_line-cut : (text front tail : Bytes) → cut_of 0 text ≡ Some (front, tail) → entry_of_line text ≡ tail_entry front tail
entry_of_line-cut text front tail e =
    let cut = cut_of-takes 0 text front tail e in
    ap entry_of_line cut.0 ∙ rw (has_byte-at front tail, before_first-at front tail cut.1, after_first-at front tail cut.1) refl

pub entry_of_line-none : (text : Bytes) → cut_of 0 text ≡ None → entry_of_line text ≡ None
entry_of_line-none text e = rw (has_byte-lacks 0 text (cut_of-none 0 text e)) refl

-- ---- flags

flag_again : (f : Flag) → flag_of (flag_text f ++ 10 ∷ []) ≡ Some f
flag_again Regular = refl
flag_again Executable = refl
flag_again Symlink = refl

flag_takes : (text : Bytes) (f : Flag) → flag_of text ≡ Some f → text ≡ flag_text f ++ 10 ∷ []
flag_takes text f e = by (bytes_eq text (codes "\n")) (bytes_eq text (codes "x\n")) (bytes_eq text (codes "l\n")) refl refl refl e
  where
    by : (a b d : Bool) → bytes_eq text (codes "\n") ≡ a → bytes_eq text (codes "x\n") ≡ b → bytes_eq text (codes "l\n") ≡ d
        → (if a then Some Regular else if b then Some Executable else if d then Some Symlink else None) ≡ Some f → text ≡ flag_text f ++ 10 ∷ []
    by true b d p q r h = (bytes_eq-Decides text (codes "\n")).0 p ∙ ap (λ (x : Flag). flag_text x ++ 10 ∷ []) (some_is h)
    by false true d p q r h = (bytes_eq-Decides text (codes "x\n")).0 q ∙ ap (λ (x : Flag). flag_text x ++ 10 ∷ []) (some_is h)
    by false false true p q r h = (bytes_eq-Decides text (codes "l\n")).0 r ∙ ap (λ (x : Flag). flag_text x ++ 10 ∷ []) (some_is h)
    by false false false p q r h = absurd (none_some h)

flag_lacks : (f : Flag) → Lacks 10 (flag_text f)
flag_lacks Regular = tt
flag_lacks Executable = Lacks-by_test 10 (codes "x") refl
flag_lacks Symlink = Lacks-by_test 10 (codes "l") refl

-- ---- lines

at_lf : (e : ManifestEntry) → entry_text e ≡ (e.path ++ 0 ∷ (hex e.node ++ flag_text e.flag)) ++ 10 ∷ []
at_lf e = ap (λ (x : Bytes). x ++ 10 ∷ []) (append_assoc e.path (0 ∷ hex e.node) (flag_text e.flag))

pub at_nul : (e : ManifestEntry) → entry_text e ≡ e.path ++ 0 ∷ (hex e.node ++ (flag_text e.flag ++ 10 ∷ []))
at_nul e =
    at_lf e ∙ append_assoc e.path (0 ∷ (hex e.node ++ flag_text e.flag)) (10 ∷ [])
    ∙ ap (λ (x : Bytes). e.path ++ 0 ∷ x) (append_assoc (hex e.node) (flag_text e.flag) (10 ∷ []))

-- what reads as an entry is its line
pub record Spelled (text : Bytes) (e : ManifestEntry) : Type 0 where
  pub whole : text ≡ entry_text e
  pub node : IsId e.node

record IsTail (front tail : Bytes) (e : ManifestEntry) : Type 0 where
  pub path_is : front ≡ e.path
  pub node : IsId e.node
  pub tail_is : tail ≡ hex e.node ++ (flag_text e.flag ++ 10 ∷ [])

tail_takes : (front tail : Bytes) (e : ManifestEntry) → tail_entry front tail ≡ Some e → IsTail front tail e
tail_takes front tail e h = by (id_of_hex (take 40 tail)) (flag_of (drop 40 tail)) refl refl h
  where
    by : (n : Option Id) (f : Option Flag) → id_of_hex (take 40 tail) ≡ n → flag_of (drop 40 tail) ≡ f
        → option_and_then (λ node. option_map (λ flag. record { path = front; node = node; flag = flag }) f) n ≡ Some e → IsTail front tail e
    by None f p q k = absurd (none_some k)
    by (Some node) None p q k = absurd (none_some k)
    by (Some node) (Some flag) p q k =
        let digits = id_of_hex-takes (take 40 tail) node p in
        let end = flag_takes (drop 40 tail) flag q in
        let made : ManifestEntry = record { path = front; node = node; flag = flag } in
        let is : IsTail front tail made = record {
          path_is = refl;
          node = digits.0;
          tail_is = sym (take-append-drop 40 tail) ∙ (λ i. digits.1 i ++ end i);
        } in
        subst (λ (x : ManifestEntry). IsTail front tail x) {x = made} (some_is k) is

pub entry_of_line-takes : (text : Bytes) (e : ManifestEntry) → entry_of_line text ≡ Some e → Spelled text e
entry_of_line-takes text e h = by (cut_of 0 text) refl
  where
    by : (cut : Option (Bytes × Bytes)) → cut_of 0 text ≡ cut → Spelled text e
    by None c = absurd (none_some (sym (entry_of_line-none text c) ∙ h))
    by (Some cut) c =
        let t = tail_takes cut.0 cut.1 e (sym (entry_of_line-cut text cut.0 cut.1 c) ∙ h) in
        record {
          whole = (cut_of-takes 0 text cut.0 cut.1 c).0 ∙ (λ i. t.path_is i ++ 0 ∷ t.tail_is i) ∙ sym (at_nul e);
          node = t.node;
        }

tail_again : (e : ManifestEntry) → IsId e.node → tail_entry e.path (hex e.node ++ (flag_text e.flag ++ 10 ∷ [])) ≡ Some e
tail_again e is =
    let long : length (hex e.node) ≡ 40 = omega (arith, length-hex e.node, is.0) in
    rw (take_at (hex e.node) (flag_text e.flag ++ 10 ∷ []) 40 long, drop_at (hex e.node) (flag_text e.flag ++ 10 ∷ []) 40 long, id_of_hex-hex e.node is, flag_again e.flag) refl

-- the line of an entry reads as the entry
pub entry_of_line-text : (e : ManifestEntry) → Lacks 0 e.path → IsId e.node → entry_of_line (entry_text e) ≡ Some e
entry_of_line-text e lacks is =
    ap entry_of_line (at_nul e) ∙ entry_of_line-cut (e.path ++ 0 ∷ (hex e.node ++ (flag_text e.flag ++ 10 ∷ []))) e.path (hex e.node ++ (flag_text e.flag ++ 10 ∷ [])) (cut_of-at 0 e.path (hex e.node ++ (flag_text e.flag ++ 10 ∷ [])) lacks) ∙ tail_again e is

pub path_of_line-text : (e : ManifestEntry) → Lacks 0 e.path → path_of_line (entry_text e) ≡ e.path
path_of_line-text e lacks = ap path_of_line (at_nul e) ∙ before_first-at e.path (hex e.node ++ (flag_text e.flag ++ 10 ∷ [])) lacks

-- the line of an entry stands first among the lines
pub whole_lines-text : (e : ManifestEntry) (rest : Bytes) → Lacks 10 e.path → IsId e.node → whole_lines (entry_text e ++ rest) ≡ entry_text e ∷ whole_lines rest
whole_lines-text e rest lacks is =
    let front : Bytes = e.path ++ 0 ∷ (hex e.node ++ flag_text e.flag) in
    let clear : Lacks 10 (e.path ++ 0 ∷ (hex e.node ++ flag_text e.flag)) =
    Lacks-append 10 e.path (0 ∷ (hex e.node ++ flag_text e.flag)) lacks ((λ z. absurd (omega arith)), Lacks-append 10 (hex e.node) (flag_text e.flag) (hex-lacks 10 e.node (omega arith) is.1) (flag_lacks e.flag)) in
    ap (λ (x : Bytes). whole_lines (x ++ rest)) (at_lf e) ∙ ap whole_lines (append_assoc front (10 ∷ []) rest)
    ∙ whole_lines-line (e.path ++ 0 ∷ (hex e.node ++ flag_text e.flag)) rest clear ∙ ap (λ (x : Bytes). x ∷ whole_lines rest) (sym (at_lf e))
