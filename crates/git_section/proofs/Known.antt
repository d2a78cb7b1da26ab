-- Objects that are known under their ids have one content each.
use Rattle.std.proofs.Common.{◌≡◌, Bool, true, false, not, ◌&&◌, List, refl, sym, ap, ◌∙◌}
use Rattle.std.specs.Prelude.{bytes_eq}
use Rattle.std.specs.List.{list_any}
use Rattle.std.proofs.lemmas.Slice.Eq.{bytes_eq-Decides}
use Rattle.text_model.specs.Lists.{In}
use Rattle.text_model.specs.Id.{ObjectKind, kind_word, same_kind}
use Rattle.text_model.proofs.Elements.{none_all}
use Rattle.text_model.proofs.Options.{some_is}
use Rattle.text_model.proofs.TestLemmas.{bytes_eq-self}
use Rattle.git_model.specs.Object.{Object, object_at, same_object, is_other_content}
use Rattle.git_store.specs.Growth.{IsThere}
use Rattle.state_model.specs.Saved.{has_other_content}

module _ (known : List Object) where
  alike : (o s : Object) → IsThere known o → IsThere known s → is_other_content o s ≡ false
  alike o s x y = by (same_object o s) refl
    where
      kind_self : (k : ObjectKind) → same_kind k k ≡ true
      kind_self k = bytes_eq-self (kind_word k)

      by : (t : Bool) → same_object o s ≡ t → (t && not (same_kind o.kind s.kind && bytes_eq o.content s.content)) ≡ false
      by false e = refl
      by true e =
          let is : o ≡ s = some_is {x = o} {y = s} (sym x ∙ ap (object_at known) ((bytes_eq-Decides o.id s.id).0 e) ∙ y) in
          ap (λ (p : Object). not (same_kind o.kind p.kind && bytes_eq o.content p.content)) (sym is)
          ∙ (λ i. not (kind_self o.kind i && bytes_eq-self o.content i))

  pub one_content : (os : List Object) → ((o : Object) → In o os → IsThere known o) → has_other_content os ≡ false
  one_content os all = none_all (λ o. list_any (is_other_content o) os) os (λ o i. none_all (is_other_content o) os (λ s j. alike o s (all o i) (all s j)))
