-- The line of a ref that can be kept gives that ref.
use Rattle.std.proofs.Common.{◌≡◌, ◌≤◌, ◌==◌, Bool, true, false, not, ◌&&◌, ◌||◌, [], ◌∷◌, ◌++◌, length, take, drop, take-append-drop, Option, Some, None, Ok, Err, refl, sym, ap, subst, ◌∙◌, true≢false, arith}
use Rattle.std.specs.Prelude.{nat_le, if◌then◌else◌, is_some, bytes_eq, codes}
use Rattle.std.specs.List.{list_all, starts_with, ends_with}
use Rattle.std.proofs.lemmas.Bool.Decides.{nat_tests}
use Rattle.std.proofs.lemmas.Slice.Eq.{bytes_eq-Decides}
use Rattle.text_model.specs.Text.{Bytes, has_piece}
use Rattle.text_model.specs.Id.{Id, IsId, hex, has_id}
use Rattle.text_model.specs.Path.{components}
use Rattle.text_model.specs.Cuts.{Lacks}
use Rattle.text_model.specs.Fault.{RefUnfit, TargetUnknown, TagUnknown}
use Rattle.text_model.proofs.TestLemmas.{both, bytes_eq-is}
use Rattle.text_model.proofs.LackLemmas.{Lacks-rest}
use Rattle.text_model.proofs.Options.{some_is, none_some}
use Rattle.state_model.specs.Kept.{NameRow}
use Rattle.state_model.specs.Text.{ref_line}
use Rattle.state_model.specs.Limits.{ref_limit}
use Rattle.state_model.specs.Ref.{is_ref_byte, is_ref_part, is_fit_ref}
use Rattle.state_model.specs.Names.{Targets, changeset_of, is_target}
use Rattle.name_model.specs.Line.{Phase, Public, Draft, Secret, NameLine, OtherRef, heads, tags, phase_ref, ref_name, line_words, line_text}
use Rattle.name_model.specs.Targets.{AreTargets, found_or, known_or, target, row_of, given, behind, phase_in, phase_line, tag_or_phase, commit_line_by, commit_line, tag_line_by, tag_line, line_with, line_of_ref}
use Rattle.name_model.specs.Reading.{is_other, is_first_form, in_first_form, given_by, of_ref_line, of_name_line}
use Rattle.name_law.proofs.Pairs.{found_passes, among_ids, ArePartners, partners}
use Rattle.name_law.proofs.Words.{IsLine, one_line, line-back, ref_line-back, ref_line-lacks}

-- ---- a fit ref has no LF

bytes-lack : (name : Bytes) → list_all is_ref_byte name ≡ true → Lacks 10 name
bytes-lack [] h = tt
bytes-lack (b ∷ name) h =
    let parts = both (is_ref_byte b) (list_all is_ref_byte name) h in
    ((λ e. true≢false (sym parts.0 ∙ ap is_ref_byte e)), bytes-lack name parts.1)

three : (a b c d e f g : Bool) → (a && b && c && d && e && f && g) ≡ true → (a && b && c) ≡ true
three a b c d e f g h =
    let six = (both (a && b && c && d && e && f) g h).0 in
    let five = (both (a && b && c && d && e) f six).0 in
    let four = (both (a && b && c && d) e five).0 in
    (both (a && b && c) d four).0

second : (a b c d e f g : Bool) → (a && b && c && d && e && f && g) ≡ true → b ≡ true
second a b c d e f g h = (both a b (both (a && b) c (three a b c d e f g h)).0).1

third : (a b c d e f g : Bool) → (a && b && c && d && e && f && g) ≡ true → c ≡ true
third a b c d e f g h = (both (a && b) c (three a b c d e f g h)).1

pub fit-short : (name : Bytes) → is_fit_ref name ≡ true → length name ≤ ref_limit
unfolding is_fit_ref
fit-short name h =
    let test = second (starts_with ◌==◌ name (codes "refs/")) (nat_le (length name) ref_limit) (list_all is_ref_byte name) (list_all is_ref_part (components name))
    (not (ends_with ◌==◌ name (codes "."))) (not (has_piece (codes "..") name)) (not (has_piece (codes "@{") name)) h in
    grind (arith, test, nat_tests)

fit-lacks : (name : Bytes) → is_fit_ref name ≡ true → Lacks 10 name
unfolding is_fit_ref
fit-lacks name h =
    bytes-lack name (third (starts_with ◌==◌ name (codes "refs/")) (nat_le (length name) ref_limit) (list_all is_ref_byte name) (list_all is_ref_part (components name))
    (not (ends_with ◌==◌ name (codes "."))) (not (has_piece (codes "..") name)) (not (has_piece (codes "@{") name)) h)

-- ---- what stands behind a beginning, and the phase

behind-is : (front name rest : Bytes) → behind front name ≡ Some rest → name ≡ front ++ rest
behind-is front name rest h = by (starts_with ◌==◌ name front) refl
  where
    by : (b : Bool) → starts_with ◌==◌ name front ≡ b → name ≡ front ++ rest
    by true t =
        let begins : front ≡ take (length front) name = (bytes_eq-Decides front (take (length front) name)).0 t in
        let left : drop (length front) name ≡ rest = some_is (sym (ap (λ (b : Bool). if b then Some (drop (length front) name) else None) t) ∙ h) in
        sym (take-append-drop (length front) name) ∙ ap (λ (x : Bytes). x ++ drop (length front) name) (sym begins) ∙ ap (λ (x : Bytes). front ++ x) left
    by false t = absurd (none_some (sym (ap (λ (b : Bool). if b then Some (drop (length front) name) else None) t) ∙ h))

phase-is : (name : Bytes) (node : Id) (phase : Phase) → phase_in name node ≡ Some phase → name ≡ phase_ref phase node
phase-is name node phase h =
    bytes_eq-is name (phase_ref phase node) (found_passes (λ (p : Phase). bytes_eq name (phase_ref p node)) (Public ∷ Draft ∷ Secret ∷ []) phase h)

-- ---- the line of a ref

-- the line gives the ref, its text can be read, and no other form comes first
pub record Stands (t : Targets) (row : NameRow) (l : NameLine) : Type 0 where
  pub named : ref_name l ≡ row.name
  pub leads : target t l ≡ Ok row.id
  pub reads : IsLine l
  pub first : line_of_ref t row ≡ l → is_first_form t l ≡ true

module _ (t : Targets) (a : AreTargets t) (row : NameRow) (fit : is_fit_ref row.name ≡ true) (known : is_target t row.id ≡ true) where
  other : IsId row.id → Stands t row (OtherRef row.id row.name)
  other h = record {
    named = refl;
    leads = ap (λ (b : Bool). known_or TargetUnknown b row.id) known;
    reads = (h, fit-lacks row.name fit);
    first = λ e. ap is_other e;
  }

  rest-lacks : (front name : Bytes) → behind front row.name ≡ Some name → Lacks 10 name
  rest-lacks front name e = Lacks-rest 10 front name (subst (Lacks 10) (behind-is front row.name name e) (fit-lacks row.name fit))

  of_commit : (node : Id) → ArePartners t.pairs node row.id → Stands t row (commit_line row node)
  of_commit node p = by (behind heads row.name) refl
    where
      by_phase : (o : Option Phase) → phase_in row.name node ≡ o → Stands t row (phase_line row node o)
      by_phase None e = other p.id_is
      by_phase (Some phase) e = record { named = sym (phase-is row.name node phase e); leads = ap (found_or TargetUnknown) p.second; reads = p.node_is; first = λ k. refl }

      by_tag : (o : Option Bytes) → behind tags row.name ≡ o → Stands t row (tag_or_phase row node o)
      by_tag None e = by_phase (phase_in row.name node) refl
      by_tag (Some name) e = record { named = sym (behind-is tags row.name name e); leads = ap (found_or TargetUnknown) p.second; reads = (p.node_is, rest-lacks tags name e); first = λ k. refl }

      by : (o : Option Bytes) → behind heads row.name ≡ o → Stands t row (commit_line_by row node o)
      by None e = by_tag (behind tags row.name) refl
      by (Some name) e = record { named = sym (behind-is heads row.name name e); leads = ap (found_or TargetUnknown) p.second; reads = (p.node_is, rest-lacks heads name e); first = λ k. refl }

  -- what is no commit is a kept tag
  kept : changeset_of t row.id ≡ None → has_id t.tags row.id ≡ true
  kept e = sym (ap (λ (o : Option Id). is_some o || has_id t.tags row.id) e) ∙ known

  of_tag : has_id t.tags row.id ≡ true → Stands t row (tag_line t row)
  of_tag k = subst (λ (b : Bool). Stands t row (if b then tag_line_by row (behind tags row.name) else OtherRef row.id row.name)) (sym k) (by (behind tags row.name) refl)
    where
      by : (o : Option Bytes) → behind tags row.name ≡ o → Stands t row (tag_line_by row o)
      by None e = other (among_ids t.tags row.id a.tag_ids k)
      by (Some name) e = record {
        named = sym (behind-is tags row.name name e);
        leads = ap (λ (b : Bool). known_or TagUnknown b row.id) k;
        reads = (among_ids t.tags row.id a.tag_ids k, rest-lacks tags name e);
        first = λ k. refl;
      }

  partner : (node : Id) → changeset_of t row.id ≡ Some node → ArePartners t.pairs node row.id
  partner node e = partners t.pairs node row.id a.pair_ids a.nodes e

  stands : Stands t row (line_of_ref t row)
  stands = by (changeset_of t row.id) refl
    where
      by : (o : Option Id) → changeset_of t row.id ≡ o → Stands t row (line_with t row o)
      by (Some node) e = of_commit node (partner node e)
      by None e = of_tag (kept e)

  -- what a ref names is an id
  pub id_is : IsId row.id
  id_is = by (changeset_of t row.id) refl
    where
      by : (o : Option Id) → changeset_of t row.id ≡ o → IsId row.id
      by (Some node) e = (partner node e).id_is
      by None e = among_ids t.tags row.id a.tag_ids (kept e)

  gives : (l : NameLine) → Stands t row l → given t l ≡ Ok row
  gives l s =
      ap (λ (n : Bytes). if is_fit_ref n then row_of n (target t l) else Err RefUnfit) s.named
      ∙ ap (λ (b : Bool). if b then row_of row.name (target t l) else Err RefUnfit) fit
      ∙ ap (row_of row.name) s.leads

  -- ---- both sides read the line of the ref as the ref

  pub name_line-lacks : Lacks 10 (line_words (line_of_ref t row))
  name_line-lacks = one_line (line_of_ref t row) stands.reads

  pub name_line-gives : of_name_line t (line_text (line_of_ref t row)) ≡ Ok row
  name_line-gives =
      let l = line_of_ref t row in
      ap (λ (o : Option NameLine). given_by t (in_first_form t o)) (line-back l stands.reads)
      ∙ ap (λ (b : Bool). given_by t (if b then Some l else None)) (stands.first refl)
      ∙ gives l stands

  pub row-lacks : Lacks 10 (hex row.id ++ 32 ∷ row.name)
  row-lacks = ref_line-lacks row.id row.name id_is (fit-lacks row.name fit)

  pub row-gives : of_ref_line t (ref_line row) ≡ Ok row
  row-gives = ap (given_by t) (ref_line-back row.id row.name id_is (fit-lacks row.name fit)) ∙ gives (OtherRef row.id row.name) (other id_is)
