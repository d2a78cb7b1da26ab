use Rattle.std.proofs.Common.{◌≡◌, Bool, true, false, None, Some, Option, List, ℕ, refl, sym, ap, subst, ◌∙◌}
use Rattle.std.specs.Prelude.{option_map, if◌then◌else◌}
use Rattle.bridge_text.specs.Kinds.{object_kind}
use Rattle.text_model.specs.Lists.{Each}
use Rattle.text_model.specs.Text.{Bytes}
use Rattle.text_model.specs.Id.{Id, ObjectKind, commit, same_kind}
use Rattle.text_model.specs.Fault as fault
use Rattle.text_model.proofs.Options.{some_is, none_some}
use Rattle.git_model.specs.Object.{Object, object_at, content_fault}
use Rattle.git_model.proofs.OneTextLemmas.{one_commit}
use Rattle.git_model.specs.Commit.{commit_fault}
use Rattle.git_object.specs.declared.fault.CommitFault.{CommitFault}
use Rattle.git_object.specs.Faults.{IsCommitFault}
use Rattle.git_store.specs.Known.{content_of, IsSound}
use Rattle.git_store.proofs.KnownLemmas.{found-sound, same_kind-is}
use Rattle.pair_known.proofs.git_draft.read_commit.Goals as goal

-- the content that was found is that of the commit
one_content : (found : Option Object) (kind : ObjectKind) (content held : Bytes) → Some (kind, content) ≡ option_map {U = ObjectKind × Bytes} (λ (o : Object). (o.kind, o.content)) found
    → content_of commit found ≡ Some held → content ≡ held
one_content None kind content held e h = absurd (none_some (sym e))
one_content (Some o) kind content held e h = by (same_kind o.kind commit) h
  where
    by : (t : Bool) → (if t then Some o.content else None) ≡ Some held → content ≡ held
    by true i = ap (λ (x : ObjectKind × Bytes). x.1) (some_is e) ∙ some_is i
    by false i = absurd (none_some i)

-- what is found is a commit
is_commit : (known : List Object) (id : Id) (kind : ObjectKind) (content held : Bytes) → Some (kind, content) ≡ option_map {U = ObjectKind × Bytes} (λ (o : Object). (o.kind, o.content)) (object_at known id)
    → content_of commit (object_at known id) ≡ Some held → Each IsSound known → commit_fault content ≡ None
is_commit known id kind content held e h sound = by (object_at known id) refl e h
  where
    fits : (o : Object) → object_at known id ≡ Some o → (t : Bool) → same_kind o.kind commit ≡ t → (if t then Some o.content else None) ≡ Some held → content_fault commit o.content ≡ None
    fits o at true t i = subst (λ (k : ObjectKind). content_fault k o.content ≡ None) (same_kind-is o.kind commit t) (found-sound IsSound known id o sound at).fits
    fits o at false t i = absurd (none_some i)

    by : (found : Option Object) → object_at known id ≡ found → Some (kind, content) ≡ option_map {U = ObjectKind × Bytes} (λ (o : Object). (o.kind, o.content)) found → content_of commit found ≡ Some held → commit_fault content ≡ None
    by None at x y = absurd (none_some (sym x))
    by (Some o) at x y = no_fault (commit_fault content) refl (ap (content_fault commit) (ap (λ (p : ObjectKind × Bytes). p.1) (some_is x)) ∙ fits o at (same_kind o.kind commit) refl y)
      where
        no_fault : (f : Option ℕ) → commit_fault content ≡ f → content_fault commit content ≡ None → commit_fault content ≡ None
        no_fault None is none = is
        no_fault (Some place) is none = absurd (none_some {x = fault.ObjectShape} (sym none ∙ rw is refl))

pub unreachable-requires : goal.unreachable-requires
unreachable-requires c =
    let none = is_commit c.args.store.now c.args.id.now _ _ _ (sym (ap (option_map {U = ObjectKind × List ℕ} (λ x. (object_kind x.0, x.1.now))) c.unwrap.ensures) ∙ c.content.ensures.content) c.requires.held.1 c.content.ensures.known.sound in
    let fault = subst (λ (e : CommitFault). IsCommitFault c.unwrap.result.1.now e) c.in-Err-Shape.field-0-is c.in-Err-Shape.ensures.fault in
    none_some (sym none ∙ fault)

pub returns-in-Ok-clause-one : goal.returns-in-Ok-clause-one
returns-in-Ok-clause-one c = λ v at.
    let same = one_content _ _ _ _ (sym (ap (option_map {U = ObjectKind × List ℕ} (λ x. (object_kind x.0, x.1.now))) c.unwrap.ensures) ∙ c.content.ensures.content) at.held in
    one_commit c.unwrap.result.1.now v c.in-Ok.commit (at.is.0, same ∙ at.is.1) c.in-Ok.ensures.ok
