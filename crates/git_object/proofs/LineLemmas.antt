-- What a line that was read says of the text, and what it means that there is none.
use Rattle.std.proofs.Common.{◌≡◌, ◌+◌, Bool, true, false, ◌∷◌, ◌++◌, length, drop, Option, Some, None, option_map, refl, sym, ap, subst, ◌∙◌, arith, length-append}
use Rattle.std.specs.Prelude.{◌&&◌}
use Rattle.std.specs.Option.{option_and_then}
use Rattle.std.proofs.lemmas.Bool.{and_right}
use Rattle.text_model.specs.Text.{Bytes, lf}
use Rattle.text_model.specs.Id.{Id, IsId, hex, is_hex_id, id_of_hex}
use Rattle.text_model.specs.Cuts.{Lacks, cut_of}
use Rattle.text_model.proofs.CutLemmas.{cut_of-takes}
use Rattle.text_model.proofs.HexLemmas.{id_of_hex-takes, id_of_hex-some}
use Rattle.git_model.specs.Commit.{begins, is_id_line}
use Rattle.text_model.proofs.Options.{none_some, some_is}
use Rattle.git_model.proofs.OptionLemmas.{and_then-some, if-some}
use Rattle.git_model.proofs.WordLemmas.{begins-takes}
use Rattle.git_object.specs.Lines.{behind, worded_line, id_line}

-- the text begins with the line of this word and this value
pub record HasLine (text word value rest : Bytes) : Type 0 where
  pub whole : text ≡ (word ++ value) ++ lf ∷ rest
  pub lacks : Lacks lf (word ++ value)
  pub len : length text ≡ length word + length value + 1 + length rest

pub map-some : {A B : Type 0} (f : A → B) (o : Option A) (y : B) → option_map f o ≡ Some y → (x : A) × (o ≡ Some x) × (f x ≡ y)
map-some f None y h = absurd (none_some h)
map-some f (Some x) y h = (x, refl, some_is h)

pub worded_line-takes : (word text value rest : Bytes) → worded_line word text ≡ Some (value, rest) → HasLine text word value rest
unfolding worded_line
worded_line-takes word text value rest e =
    let cut = and_then-some _ (cut_of lf text) (value, rest) e in
    let parts = cut_of-takes lf text cut.0.0 cut.0.1 cut.1 in
    let read = map-some (λ v. (v, cut.0.1)) (behind word cut.0.0) (value, rest) cut.2 in
    let worded = if-some (begins word cut.0.0) (Some (drop (length word) cut.0.0)) read.0 read.1 in
    let is_value : drop (length word) cut.0.0 ≡ value = some_is worded.1 ∙ ap (λ (p : Bytes × Bytes). p.0) read.2 in
    let is_rest : cut.0.1 ≡ rest = ap (λ (p : Bytes × Bytes). p.1) read.2 in
    let line : cut.0.0 ≡ word ++ value = begins-takes word cut.0.0 worded.0 ∙ ap (λ (v : Bytes). word ++ v) is_value in
    let whole : text ≡ (word ++ value) ++ lf ∷ rest = parts.0 ∙ (λ i. line i ++ lf ∷ is_rest i) in
    record {
      whole = whole;
      lacks = subst (Lacks lf) line parts.1;
      len = omega (arith, ap (λ (l : Bytes). length l) whole, length-append (word ++ value) (lf ∷ rest), length-append word value);
    }

-- the text begins with the line of this word and this id
pub record HasIdLine (text word : Bytes) (id : Id) (rest : Bytes) : Type 0 where
  pub is : IsId id
  pub line : HasLine text word (hex id) rest

pub id_line-takes : (word text : Bytes) (id : Id) (rest : Bytes) → id_line word text ≡ Some (id, rest) → HasIdLine text word id rest
unfolding id_line
id_line-takes word text id rest e =
    let line = and_then-some _ (worded_line word text) (id, rest) e in
    let read = map-some (λ (i : Id). (i, line.0.1)) (id_of_hex line.0.0) (id, rest) line.2 in
    let is_id : read.0 ≡ id = ap (λ (p : Id × Bytes). p.0) read.2 in
    let is_rest : line.0.1 ≡ rest = ap (λ (p : Id × Bytes). p.1) read.2 in
    let digits = id_of_hex-takes line.0.0 id (read.1 ∙ ap (λ (i : Id). Some i) is_id) in
    record {
      is = digits.0;
      line = worded_line-takes word text (hex id) rest (line.1 ∙ (λ i. Some (digits.1 i, is_rest i)));
    }

-- ---- where there is no such line

no_word : (word text : Bytes) → behind word text ≡ None → begins word text ≡ false
no_word word text e = by (begins word text) refl
  where
    by : (t : Bool) → begins word text ≡ t → begins word text ≡ false
    by true t = absurd (none_some {x = drop (length word) text} (sym e ∙ rw t refl))
    by false t = t

map-none : {A B : Type 0} (f : A → B) (o : Option A) → option_map f o ≡ None → o ≡ None
map-none f None h = refl
map-none f (Some x) h = absurd (none_some (sym h))

-- the first line, where there is one, doesn't begin with the word
pub worded_line-none : (word text front rest : Bytes) → worded_line word text ≡ None → cut_of lf text ≡ Some (front, rest) → begins word front ≡ false
unfolding worded_line
worded_line-none word text front rest e cut =
    no_word word front (map-none (λ (v : Bytes). (v, rest)) (behind word front) (sym (ap (option_and_then (λ (p : Bytes × Bytes). option_map (λ (v : Bytes). (v, p.1)) (behind word p.0))) cut) ∙ e))

no_id : (text : Bytes) → id_of_hex text ≡ None → is_hex_id text ≡ false
no_id text e = by (is_hex_id text) refl
  where
    by : (t : Bool) → is_hex_id text ≡ t → is_hex_id text ≡ false
    by true t = absurd (none_some (sym e ∙ id_of_hex-some text t))
    by false t = t

-- the first line, where there is one, isn't the word and an id
pub id_line-none : (word text front rest : Bytes) → id_line word text ≡ None → cut_of lf text ≡ Some (front, rest) → is_id_line word front ≡ false
unfolding id_line worded_line
id_line-none word text front rest e cut = by (begins word front) refl
  where
    by : (t : Bool) → begins word front ≡ t → is_id_line word front ≡ false
    by true t =
        let line : worded_line word text ≡ Some (drop (length word) front, rest) = rw (cut, t) refl in
        let none : id_of_hex (drop (length word) front) ≡ None = map-none (λ (i : Id). (i, rest)) (id_of_hex (drop (length word) front)) (sym (ap (option_and_then (λ (p : Bytes × Bytes). option_map (λ (i : Id). (i, p.1)) (id_of_hex p.0))) line) ∙ e) in
        and_right (begins word front) (is_hex_id (drop (length word) front)) (no_id (drop (length word) front) none)
    by false t = rw t refl
