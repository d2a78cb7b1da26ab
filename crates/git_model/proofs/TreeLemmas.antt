-- The content of a tree, entry by entry.
use Rattle.std.proofs.Common.{◌≡◌, ◌≤◌, ◌+◌, ◌&&◌, Bool, true, false, not, List, ◌∷◌, ◌++◌, length, take, drop, Option, Some, Ok, Err, refl, sym, ap, ◌∙◌, arith, length-append, length-take, nat_lt, take-append-drop, ltb-false}
use Rattle.std.specs.Prelude.{if◌then◌else◌}
use Rattle.text_model.specs.Text.{Bytes, sp, nul}
use Rattle.text_model.specs.Cuts.{cut_of}
use Rattle.text_model.specs.Path.{is_fit_name}
use Rattle.text_model.specs.Fault.{FaultName}
use Rattle.text_model.specs.Fault as fault
use Rattle.text_model.proofs.TestLemmas.{both}
use Rattle.text_model.proofs.CutLemmas.{cut_of-takes}
use Rattle.text_model.proofs.Options.{some_is, none_some, not_true}
use Rattle.git_model.specs.Tree.{Mode, mode_of, TreeEntry, RawEntry, raw_size, entry_and_rest, first_entry, is_octal, rises_behind, has_name, judged_name, judged}
use Rattle.git_model.proofs.OptionLemmas.{and_then-some}

-- ---- the entry at the beginning

pub record HasEntry (content : Bytes) (e : RawEntry) (rest : Bytes) : Type 0 where
  pub whole : content ≡ e.mode ++ sp ∷ (e.name ++ nul ∷ (e.id ++ rest))
  pub id_len : length e.id ≡ 20
  pub len : length content ≡ raw_size e + length rest

-- what is cut off where the tail is long enough
abbrev cut_off : Bytes → Bytes → Bytes → RawEntry × Bytes
cut_off mode name tail = (record { mode = mode; name = name; id = take 20 tail }, drop 20 tail)

within : (mode name tail : Bytes) (p : RawEntry × Bytes) → entry_and_rest mode name tail ≡ Some p → cut_off mode name tail ≡ p
within mode name tail p h = by (nat_lt (length tail) 20) refl
  where
    by : (t : Bool) → nat_lt (length tail) 20 ≡ t → cut_off mode name tail ≡ p
    by true t = absurd (none_some (sym (rw t refl) ∙ h))
    by false t = some_is (sym (rw t refl) ∙ h)

long_enough : (mode name tail : Bytes) (p : RawEntry × Bytes) → entry_and_rest mode name tail ≡ Some p → 20 ≤ length tail
long_enough mode name tail p h = by (nat_lt (length tail) 20) refl
  where
    by : (t : Bool) → nat_lt (length tail) 20 ≡ t → 20 ≤ length tail
    by true t = absurd (none_some (sym (rw t refl) ∙ h))
    by false t = ltb-false (length tail) 20 t

pub first_entry-takes : (content : Bytes) (e : RawEntry) (rest : Bytes) → first_entry content ≡ Some (e, rest) → HasEntry content e rest
unfolding first_entry
first_entry-takes content e rest h =
    let first = and_then-some _ (cut_of sp content) (e, rest) h in
    let second = and_then-some _ (cut_of nul first.0.1) (e, rest) first.2 in
    let a = cut_of-takes sp content first.0.0 first.0.1 first.1 in
    let b = cut_of-takes nul first.0.1 second.0.0 second.0.1 second.1 in
    let long = long_enough first.0.0 second.0.0 second.0.1 (e, rest) second.2 in
    let is = within first.0.0 second.0.0 second.0.1 (e, rest) second.2 in
    let mode_is : first.0.0 ≡ e.mode = ap (λ (p : RawEntry × Bytes). p.0.mode) is in
    let name_is : second.0.0 ≡ e.name = ap (λ (p : RawEntry × Bytes). p.0.name) is in
    let id_is : take 20 second.0.1 ≡ e.id = ap (λ (p : RawEntry × Bytes). p.0.id) is in
    let rest_is : drop 20 second.0.1 ≡ rest = ap (λ (p : RawEntry × Bytes). p.1) is in
    let tail : second.0.1 ≡ e.id ++ rest = sym (take-append-drop 20 second.0.1) ∙ (λ i. id_is i ++ rest_is i) in
    let whole : content ≡ e.mode ++ sp ∷ (e.name ++ nul ∷ (e.id ++ rest)) = a.0 ∙ (λ i. mode_is i ++ sp ∷ (b.0 ∙ (λ j. name_is j ++ nul ∷ tail j)) i) in
    let id_len : length e.id ≡ 20 = omega (arith, ap (λ (l : Bytes). length l) (sym id_is), length-take 20 second.0.1, long) in
    record {
      whole = whole;
      id_len = id_len;
      len = omega (arith, id_len, ap (λ (l : Bytes). length l) whole, length-append e.mode (sp ∷ (e.name ++ nul ∷ (e.id ++ rest))), length-append e.name (nul ∷ (e.id ++ rest)), length-append e.id rest);
    }

-- ---- one entry judged

pub judged-shape : (before : List TreeEntry) (e : RawEntry) → (is_octal e.mode && rises_behind before e && not (has_name before e.name)) ≡ true → judged before e ≡ judged_name (mode_of e.mode) e
judged-shape before e h =
    let one = both (is_octal e.mode && rises_behind before e) (not (has_name before e.name)) h in
    let two = both (is_octal e.mode) (rises_behind before e) one.0 in
    rw (two.0, two.1, not_true (has_name before e.name) one.1) refl

pub judged-mode : (before : List TreeEntry) (e : RawEntry) (mode : Mode) → (is_octal e.mode && rises_behind before e && not (has_name before e.name)) ≡ true → Some mode ≡ mode_of e.mode
    → judged before e ≡ (if is_fit_name e.name then Ok (record { mode = mode; name = e.name; id = e.id }) else Err fault.NameUnfit)
judged-mode before e mode h m = judged-shape before e h ∙ ap (λ (o : Option Mode). judged_name o e) (sym m)

pub judged-unfit : (before : List TreeEntry) (e : RawEntry) (mode : Mode) → (is_octal e.mode && rises_behind before e && not (has_name before e.name)) ≡ true → Some mode ≡ mode_of e.mode → is_fit_name e.name ≡ false → judged before e ≡ Err fault.NameUnfit
judged-unfit before e mode h m unfit = judged-mode before e mode h m ∙ ap (λ (b : Bool). if b then Ok (record { mode = mode; name = e.name; id = e.id }) else Err fault.NameUnfit) unfit

pub judged-ok : (before : List TreeEntry) (e : RawEntry) (mode : Mode) → (is_octal e.mode && rises_behind before e && not (has_name before e.name)) ≡ true → Some mode ≡ mode_of e.mode → is_fit_name e.name ≡ true
    → judged before e ≡ Ok (record { mode = mode; name = e.name; id = e.id })
judged-ok before e mode h m fit = judged-mode before e mode h m ∙ ap (λ (b : Bool). if b then Ok (record { mode = mode; name = e.name; id = e.id }) else Err fault.NameUnfit) fit
