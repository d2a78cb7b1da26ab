-- Each tag that is kept leads to a commit over all that are.
use Rattle.std.proofs.Common.{◌≡◌, ◌+◌, ◌-◌, ◌≤◌, ℕ, zero, suc, Bool, true, false, not, ◌&&◌, List, [], ◌++◌, length, refl, sym, ap, subst, ◌∙◌, inl, inr, arith}
use Rattle.std.specs.Prelude.{IsTrue, bytes_eq}
use Rattle.text_model.specs.Lists.{Each, In}
use Rattle.text_model.specs.Id.{Id, tag}
use Rattle.text_model.proofs.Elements.{each_in, each_from, in_left, in_right}
use Rattle.text_model.proofs.TestLemmas.{both, bytes_eq-is}
use Rattle.git_model.specs.Commit.{tag_target, is_tag_of}
use Rattle.git_model.specs.Object.{Object, has_id}
use Rattle.git_model.specs.Order.{has}
use Rattle.git_model.specs.Stream.{Placed}
use Rattle.git_store.proofs.Growth.{any-in}
use Rattle.state_model.specs.Kept.{kept_of, ids_of}
use Rattle.state_model.specs.Tags.{leads, leads_to_commit}
use Rattle.saved_model.specs.Step.{tags_came, new_tags}
use Rattle.dump_law.proofs.Elements.{of-map, in-filter, passes}
use Rattle.dump_law.proofs.Streams.{of_append}
use Rattle.next_law.specs.Next.{IsLeft}
use Rattle.next_law.proofs.Known.{saved-of}
use Rattle.tag_law.specs.Tags.{HasLead}
use Rattle.tag_law.proofs.Comes.{comes}
use Rattle.tag_law.proofs.Steady.{more-steps}
use Rattle.tag_law.proofs.Ways.{Way, IsOver, way, goes, none-in-zero, one-more, among-more, enough-steps}

-- the tag whose id stands among those of the list
pub tag-with : (id : Id) (tags : List Object) → has (ids_of tags) id ≡ true → (t : Object) × In t tags × (has_id id t ≡ true)
tag-with id tags h =
    let r = any-in (bytes_eq id) (ids_of tags) h in
    let t = of-map (λ (o : Object). o.id) r.0 tags r.1 in
    (t.0, t.1, ap (bytes_eq id) (sym t.2) ∙ r.2)

module _ (kept : List Object) (placed : List Placed) (old : Each (λ o. IsTrue (leads [] kept o)) kept) where
  abbrev came : List Object
  came = tags_came placed

  abbrev new : List Object
  new = new_tags kept placed

  abbrev all : List Object
  all = kept ++ new

  old-leads : (o : Object) → In o kept → leads_to_commit (length kept + 1) [] all o ≡ true
  old-leads o i = among-more [] kept all (λ x j. in_left x kept new j) (length kept + 1) o (each_in (λ o. IsTrue (leads [] kept o)) kept o old i)

  -- a tag that names a kept one
  over-kept : (o : Object) → is_tag_of tag o.content ≡ true → has (ids_of kept) (tag_target o.content) ≡ true → leads_to_commit (suc (length kept + 1)) [] all o ≡ true
  over-kept o is h =
      let t = tag-with (tag_target o.content) kept h in
      goes (length kept + 1) [] all o (inr (inr (record { of_tag = is; next = t.0; among = in_left t.0 kept new t.1; its_id = t.2; leads = old-leads t.0 t.1 })))

  enough : (n : ℕ) → n ≤ length came + 1 → (o : Object) → leads_to_commit n (ids_of kept) came o ≡ true → leads (ids_of kept) came o ≡ true
  enough n le o h =
      let whole : length came + 1 - n + n ≡ length came + 1 = omega (arith, le) in
      subst (λ (m : ℕ). leads_to_commit m (ids_of kept) came o ≡ true) whole
      (more-steps (λ n o. leads_to_commit n (ids_of kept) came o) (one-more (ids_of kept) came) (length came + 1 - n) n o h)

  -- the tags that lead in so many steps lead over all
  abbrev Goes : ℕ → Type 0
  Goes n = (o : Object) → leads_to_commit n (ids_of kept) came o ≡ true → (m : ℕ) × (leads_to_commit m [] all o ≡ true)

  new-leads : (n : ℕ) → n ≤ length came + 1 → Goes n
  new-leads zero le o h = absurd (none-in-zero (ids_of kept) came o h)
  new-leads (suc n) le o h = by (new-leads n (omega (arith, le))) (way n (ids_of kept) came o h)
    where
      small : n ≤ length came + 1
      small = omega (arith, le)

      over : Goes n → (w : IsOver n (ids_of kept) came o) (t : Bool) → has (ids_of kept) (w.next).id ≡ t → (m : ℕ) × (leads_to_commit m [] all o ≡ true)
      over go w true e =
          (suc (length kept + 1), over-kept o w.of_tag (ap (has (ids_of kept)) (bytes_eq-is (tag_target o.content) (w.next).id w.its_id) ∙ e))
      over go w false e =
          let r = go w.next w.leads in
          let there : In w.next new = in-filter (λ o. not (has (ids_of kept) o.id) && leads (ids_of kept) came o) w.next came w.among (rw (e, enough n small w.next w.leads) refl) in
          (suc r.0, goes r.0 [] all o (inr (inr (record { of_tag = w.of_tag; next = w.next; among = in_right w.next kept new there; its_id = w.its_id; leads = r.1 }))))

      by : Goes n → Way n (ids_of kept) came o → (m : ℕ) × (leads_to_commit m [] all o ≡ true)
      by go (inl e) = (1, goes 0 [] all o (inl e))
      by go (inr (inl (f, g))) = (suc (length kept + 1), over-kept o f g)
      by go (inr (inr w)) = over go w (has (ids_of kept) (w.next).id) refl

  -- each leads over the list of all
  pub all-lead : Each (λ o. IsTrue (leads [] all o)) all
  all-lead = each_from (λ o. IsTrue (leads [] all o)) all (λ o i. elim (of_append o kept new i) [
    | inl j ↦ enough-steps [] all (length kept + 1) o i (old-leads o j)
    | inr j ↦ (let leading = (both (not (has (ids_of kept) o.id)) (leads (ids_of kept) came o)
        (passes (λ o. not (has (ids_of kept) o.id) && leads (ids_of kept) came o) o came j)).1 in
        let r = new-leads (length came + 1) (omega arith) o leading in enough-steps [] all r.0 o i r.1)
  ])

pub lead-left : IsLeft HasLead
lead-left s pull k made is (new, added, accepts, next, wrote) =
    let c = comes (kept_of s) pull new added accepts in
    let each = all-lead s.tags c.came ((saved-of s is).tags).lead in
    subst HasLead (sym next) (subst (λ (l : List Object). Each (λ o. IsTrue (leads [] (s.tags ++ l) o)) (s.tags ++ l)) (sym c.added_are) each)
