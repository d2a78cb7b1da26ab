-- The revisions that are written are what the bundle brings.
use Rattle.std.proofs.Common.{◌≡◌, ◌<◌, ◌^◌, Bool, true, false, true≢false, List, [], ◌∷◌, length, map, Option, Some, None, refl, sym, ap, subst, ◌∙◌, arith}
use Rattle.std.specs.Prelude.{option_map, unwrap_or, is_some}
use Rattle.text_model.specs.Lists.{Each}
use Rattle.text_model.specs.Text.{Bytes}
use Rattle.text_model.specs.Id.{Id, is_null}
use Rattle.text_model.proofs.Options.{none_some, some_is}
use Rattle.hg_model.specs.Revision.{Group, Revision, is_of, revision_of, is_known_parent}
use Rattle.hg_model.specs.Reading.{AreTextsFrom, AreTextsOf, first_base}
use Rattle.hg_model.proofs.DeltaLemmas.{Patches-whole_delta}
use Rattle.hg_bundle.specs.Brought.{revisions_with, AreOfGroup}
use Rattle.hg_store.specs.Known.{AreAdded}
use Rattle.hg_store.proofs.Found.{found}
use Rattle.view_model.specs.Dump.{written_from, written_group}
use Rattle.hg_dump_law.specs.Taken.{IsOneOf}
use Rattle.hg_dump_law.proofs.Known.{is_of-is}
use Rattle.hg_dump_law.proofs.Earlier.{AreReady}

abbrev pub texts_of : List Revision → List Bytes
texts_of rs = map (λ r. r.text) rs

abbrev pub IsSmall : Revision → Type 0
IsSmall r = length r.text < 2 ^ 32

-- ---- one group

texts-made : (base : Bytes) (rs : List Revision) → length base < 2 ^ 32 → Each IsSmall rs → AreTextsFrom base (written_from base rs) (texts_of rs)
unfolding written_from
texts-made base [] small are = tt
texts-made base (r ∷ rs) small are = (Patches-whole_delta base r.text small are.0, texts-made r.text rs are.0 are.1)

with-texts : (group : Group) (base : Bytes) (rs : List Revision) → Each (λ r. r.group ≡ group) rs → rs ≡ revisions_with group (written_from base rs) (texts_of rs)
unfolding written_from
with-texts group base [] are = refl
with-texts group base (r ∷ rs) are =
    (λ i. record { group = are.0 i; node = r.node; p = r.p; q = r.q; link = r.link; text = r.text } ∷ with-texts group r.text rs are.1 i)

-- where a reader and the store both know a parent, they know one text
module _ (known base : List Revision) (added : AreAdded known) (are : Each (IsOneOf known) base) where
  -- one of the list, by its group and its node
  record IsText (group : Group) (node : Id) (r : Revision) : Type 0 where
    pub revision : Revision
    pub is_held : revision_of known group node ≡ Some revision
    pub text : r.text ≡ revision.text

  find-text : (group : Group) (node : Id) (r : Revision) (xs : List Revision) → Each (IsOneOf known) xs → revision_of xs group node ≡ Some r → IsText group node r
  find-text group node r [] each at = absurd (none_some at)
  find-text group node r (x ∷ xs) each at = by (is_of group node x) refl (λ e. find-text group node r xs each.1 e)
    where
      by : (b : Bool) → is_of group node x ≡ b → (revision_of xs group node ≡ Some r → IsText group node r) → IsText group node r
      by false t later = later (sym (rw t refl) ∙ at)
      by true t later =
          let same : x ≡ r = some_is (sym (rw t refl) ∙ at) in
          let is = is_of-is group node x t in
          record {
            revision = (each.0).revision;
            is_held = (λ i. revision_of known (is.group_is i) (is.node_is i)) ∙ (each.0).is_held;
            text = ap (λ (s : Revision). s.text) (sym same) ∙ (each.0).text;
          }

  record IsBase (group : Group) (p : Id) : Type 0 where
    pub is : first_base base group p ≡ Some (unwrap_or (first_base known group p) [])
    pub small : length (unwrap_or (first_base known group p) []) < 2 ^ 32

  base-is : (group : Group) (p : Id) → is_known_parent base group p ≡ true → IsBase group p
  base-is group p parent = by (is_null p) refl
    where
      some : is_null p ≡ false → (o : Option Revision) → revision_of base group p ≡ o → is_some o ≡ true → IsBase group p
      some n None at k = absurd (true≢false (sym k))
      some n (Some r) at k =
          let t = find-text group p r base are at in
          let of = found known group p t.revision added t.is_held in
          let there : first_base known group p ≡ Some (t.revision).text = rw n (ap (option_map (λ (s : Revision). s.text)) t.is_held) in
          let here : first_base base group p ≡ Some r.text = rw n (ap (option_map (λ (s : Revision). s.text)) at) in
          record {
            is = here ∙ ap Some t.text ∙ ap (λ (o : Option Bytes). Some (unwrap_or o [])) (sym there);
            small = subst (λ (o : Option Bytes). length (unwrap_or o []) < 2 ^ 32) (sym there) (omega (arith, (of.added).short));
          }

      by : (b : Bool) → is_null p ≡ b → IsBase group p
      by true n = record { is = rw n refl; small = rw n (omega arith) }
      by false n = some n (revision_of base group p) refl (sym (rw n refl) ∙ parent)

  pub group-is : (group : Group) (rs : List Revision) → Each (λ r. r.group ≡ group) rs → Each IsSmall rs → AreReady base rs → AreOfGroup base group (written_group known group rs) rs
  unfolding written_group written_from
  group-is group [] in_group small ready = record { texts = []; made = refl; are = refl }
  group-is group (r ∷ rs) in_group small ready =
      let b = base-is group r.p (subst (λ (g : Group). is_known_parent base g r.p ≡ true) in_group.0 ready.0.0) in
      let first = unwrap_or (first_base known group r.p) [] in
      record { texts = texts_of (r ∷ rs); made = made b.is (texts-made first (r ∷ rs) b.small small); are = with-texts group first (r ∷ rs) in_group }
    where
      made : first_base base group r.p ≡ Some (unwrap_or (first_base known group r.p) []) → AreTextsFrom (unwrap_or (first_base known group r.p) []) (written_from (unwrap_or (first_base known group r.p) []) (r ∷ rs)) (texts_of (r ∷ rs))
          → AreTextsOf base group (written_from (unwrap_or (first_base known group r.p) []) (r ∷ rs)) (texts_of (r ∷ rs))
      made is m = (unwrap_or (first_base known group r.p) [], is, m)
