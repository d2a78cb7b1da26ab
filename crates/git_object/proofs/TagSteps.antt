-- What is known at each step of reading a tag.
use Rattle.std.proofs.Common.{◌≡◌, ◌≤◌, ◌-◌, ◌==◌, ◌⊎◌, ℕ, Bool, true, false, List, [], ◌∷◌, ◌++◌, length, drop, Option, Some, None, codes, refl, sym, ap, subst, ◌∙◌, arith, inl, inr, bytes_eq, true≢false}
use Rattle.std.specs.Prelude.{◌||◌}
use Rattle.std.specs.Option.{option_and_then}
use Rattle.std.specs.List.{find, list_any}
use Rattle.std.proofs.lemmas.Slice.Eq.{bytes_eq-Decides}
use Rattle.std.proofs.lemmas.Bool.{or_cases}
use Rattle.text_model.specs.Text.{Bytes, IsBytes, lf}
use Rattle.text_model.specs.Id.{Id, IsId, hex, ObjectKind, blob, tree, commit, tag, kind_word}
use Rattle.text_model.specs.Cuts.{cut_of}
use Rattle.text_model.proofs.ByteLemmas.{IsBytes-rest}
use Rattle.git_model.specs.Commit.{Tag, begins, is_type_line, next_tag_place, tag_fault, IsTagText}
use Rattle.text_model.proofs.Options.{none_some, some_is}
use Rattle.git_model.proofs.OptionLemmas.{and_then-some}
use Rattle.git_model.proofs.PlaceLemmas.{reached_start, reached_refused, next_at}
use Rattle.git_model.proofs.WordLemmas.{begins-word, behind-word}
use Rattle.git_model.proofs.TagLemmas.{TagAt, at_type, at_name, tag_lines, tag_text-lines}
use Rattle.git_object.specs.Lines.{worded_line, id_line, kind_of, type_line}
use Rattle.git_object.proofs.LineLemmas.{HasLine, id_line-takes, id_line-none, worded_line-takes, worded_line-none, map-some}
use Rattle.git_object.proofs.CommitSteps.{value_line}

-- ---- the line of the kind

find-takes : {X : Type 0} (p : X → Bool) (xs : List X) (x : X) → find p xs ≡ Some x → p x ≡ true
find-takes p [] x h = absurd (none_some h)
find-takes p (y ∷ ys) x h = by (p y) refl (find-takes p ys x)
  where
    by : (t : Bool) → p y ≡ t → (find p ys ≡ Some x → p x ≡ true) → p x ≡ true
    by true t later = ap p (sym (some_is (sym (rw t refl) ∙ h))) ∙ t
    by false t later = later (sym (rw t refl) ∙ h)

kind_of-word : (kind : ObjectKind) → kind_of (kind_word kind) ≡ Some kind
kind_of-word blob = refl
kind_of-word tree = refl
kind_of-word commit = refl
kind_of-word tag = refl

pub type_line-takes : (text : Bytes) (kind : ObjectKind) (rest : Bytes) → type_line text ≡ Some (kind, rest) → HasLine text (codes "type ") (kind_word kind) rest
unfolding type_line
type_line-takes text kind rest e =
    let line = and_then-some _ (worded_line (codes "type ") text) (kind, rest) e in
    let read = map-some (λ (k : ObjectKind). (k, line.0.1)) (kind_of line.0.0) (kind, rest) line.2 in
    let word : line.0.0 ≡ kind_word read.0 = (bytes_eq-Decides line.0.0 (kind_word read.0)).0 (find-takes (λ k. bytes_eq line.0.0 (kind_word k)) (blob ∷ tree ∷ commit ∷ tag ∷ []) read.0 read.1) in
    let is_word : line.0.0 ≡ kind_word kind = word ∙ ap (λ (p : ObjectKind × Bytes). kind_word p.0) read.2 in
    worded_line-takes (codes "type ") text (kind_word kind) rest (line.1 ∙ (λ i. Some (is_word i, ap (λ (p : ObjectKind × Bytes). p.1) read.2 i)))

any-takes : {X : Type 0} (p : X → Bool) (xs : List X) → list_any p xs ≡ true → (x : X) × (p x ≡ true)
any-takes p [] h = absurd (true≢false (sym h))
any-takes p (x ∷ xs) h = elim (or_cases (p x) (list_any p xs) h) [
  | inl e ↦ (x, e)
  | inr e ↦ any-takes p xs e
]

-- the first line, where there is one, isn't `type ` and a kind
pub type_line-none : (text front rest : Bytes) → type_line text ≡ None → cut_of lf text ≡ Some (front, rest) → is_type_line front ≡ false
unfolding type_line worded_line
type_line-none text front rest e cut = by (is_type_line front) refl
  where
    by : (t : Bool) → is_type_line front ≡ t → is_type_line front ≡ false
    by true t =
        let found = any-takes (λ kind. bytes_eq front (codes "type " ++ kind_word kind)) (blob ∷ tree ∷ commit ∷ tag ∷ []) t in
        let is : front ≡ codes "type " ++ kind_word found.0 = (bytes_eq-Decides front (codes "type " ++ kind_word found.0)).0 found.1 in
        let worded : begins (codes "type ") front ≡ true = ap (begins (codes "type ")) is ∙ begins-word (codes "type ") (kind_word found.0) in
        let value : drop 5 front ≡ kind_word found.0 = ap (drop 5) is ∙ behind-word (codes "type ") (kind_word found.0) in
        let line : worded_line (codes "type ") text ≡ Some (kind_word found.0, rest) = rw (cut, worded, value) refl in
        let reads : type_line text ≡ Some (found.0, rest) = rw (line, kind_of-word found.0) refl in
        absurd (none_some (sym e ∙ reads))
    by false t = t

-- ---- the lines, one after the other

refuse : (content : Bytes) (place : ℕ) (rest : Bytes) → TagAt content place rest → (place == 3) ≡ false
    → ((front after : Bytes) → cut_of lf rest ≡ Some (front, after) → next_tag_place place front ≡ None) → tag_fault content ≡ Some (length content - length rest)
refuse content place rest so_far is_open bad = reached_refused next_tag_place 3 content place rest so_far is_open (by (cut_of lf rest) refl)
  where
    by : (r : Option (Bytes × Bytes)) → cut_of lf rest ≡ r → next_at next_tag_place 3 place rest ≡ None
    by None e = ap (option_and_then (λ (p : Bytes × Bytes). next_tag_place place p.0)) e
    by (Some p) e = ap (option_and_then (λ (q : Bytes × Bytes). next_tag_place place q.0)) e ∙ bad p.0 p.1 e

-- no line of a target
pub no_target : (content : Bytes) → None ≡ id_line (codes "object ") content → tag_fault content ≡ Some 0
no_target content none =
    let zeroth : length content - length content ≡ 0 = omega arith in
    refuse content 0 content (reached_start next_tag_place 3 content) refl (λ front after cut. rw (id_line-none (codes "object ") content front after (sym none) cut) refl)
    ∙ ap (λ (n : ℕ). Some n) zeroth

-- the line of the target was read
pub record Aimed (content : Bytes) (target : Id) (rest : Bytes) : Type 0 where
  pub target_is : IsId target
  pub whole : content ≡ (codes "object " ++ hex target) ++ lf ∷ rest
  pub place : TagAt content 1 rest
  pub bytes : IsBytes rest
  pub within : length rest ≤ length content

pub aimed : (content : Bytes) (target : Id) (rest : Bytes) → IsBytes content → Some (target, rest) ≡ id_line (codes "object ") content → Aimed content target rest
aimed content target rest bytes read =
    let t = id_line-takes (codes "object ") content target rest (sym read) in
    let place = at_type content target rest (subst (TagAt content 0) t.line.whole (reached_start next_tag_place 3 content)) t.is in
    record {
      target_is = t.is;
      whole = t.line.whole;
      place = place;
      bytes = (IsBytes-rest (codes "object " ++ hex target) (lf ∷ rest) (subst IsBytes t.line.whole bytes)).1;
      within = place.within;
    }

pub no_type : (content : Bytes) (target : Id) (rest : Bytes) → Aimed content target rest → None ≡ type_line rest → tag_fault content ≡ Some (length content - length rest)
no_type content target rest a none = refuse content 1 rest a.place refl (λ front after cut. rw (type_line-none rest front after (sym none) cut) refl)

-- the line of its kind was read
pub record Typed (content text : Bytes) (kind : ObjectKind) (rest : Bytes) : Type 0 where
  pub whole : text ≡ (codes "type " ++ kind_word kind) ++ lf ∷ rest
  pub place : TagAt content 2 rest
  pub bytes : IsBytes rest
  pub within : length rest ≤ length content

pub typed : (content : Bytes) (target : Id) (text : Bytes) (kind : ObjectKind) (rest : Bytes) → Aimed content target text → Some (kind, rest) ≡ type_line text → Typed content text kind rest
typed content target text kind rest a read =
    let h = type_line-takes text kind rest (sym read) in
    let place = at_name content kind rest (subst (TagAt content 1) h.whole a.place) in
    record {
      whole = h.whole;
      place = place;
      bytes = (IsBytes-rest (codes "type " ++ kind_word kind) (lf ∷ rest) (subst IsBytes h.whole a.bytes)).1;
      within = place.within;
    }

pub no_name : (content text : Bytes) (kind : ObjectKind) (rest : Bytes) → Typed content text kind rest → None ≡ worded_line (codes "tag ") rest → tag_fault content ≡ Some (length content - length rest)
no_name content text kind rest t none = refuse content 2 rest t.place refl (λ front after cut. rw (worded_line-none (codes "tag ") rest front after (sym none) cut) refl)

-- all of it was read
pub is_tag : (content : Bytes) (t : Tag) (text rest : Bytes) → Aimed content t.target text → Typed content text t.target_kind rest → Some (t.name, t.rest) ≡ worded_line (codes "tag ") rest → IsTagText content t
is_tag content t text rest a k read =
    let h = worded_line-takes (codes "tag ") rest t.name t.rest (sym read) in
    let v = value_line rest (codes "tag ") t.name t.rest h k.bytes in
    let lines : content ≡ tag_lines t =
    a.whole ∙ ap (λ (x : Bytes). (codes "object " ++ hex t.target) ++ lf ∷ x) (k.whole ∙ ap (λ (x : Bytes). (codes "type " ++ kind_word t.target_kind) ++ lf ∷ x) h.whole) in
    (record { target = a.target_is; name = v.0; rest = v.1 }, lines ∙ sym (tag_text-lines t))
