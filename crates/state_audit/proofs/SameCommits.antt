-- When two commits are the same, by their texts and their files.
use Rattle.std.proofs.Common.{◌≡◌, Bool, true, false, true≢false, List, [], ◌∷◌, map, Some, None, refl, sym, ap, ◌∙◌}
use Rattle.std.specs.Prelude.{◌↔◌, option_map, bytes_eq, IsTrue}
use Rattle.std.proofs.lemmas.Slice.Eq.{bytes_eq-Decides}
use Rattle.text_model.specs.Text.{Bytes}
use Rattle.text_model.specs.Id.{Id, ObjectKind}
use Rattle.text_model.proofs.Options.{some_is, none_some}
use Rattle.git_model.specs.Commit.{commit_text}
use Rattle.git_model.specs.Object.{Object, object_at}
use Rattle.git_model.specs.Unfold.{FileRow}
use Rattle.git_model.proofs.OneTextLemmas.{one_commit}
use Rattle.view_model.specs.View.{TreeRow, CommitView, SameTreeRows, SameCommit}
use Rattle.view_model.specs.Held.{file_row_of, IsCommitHeld}
use Rattle.pair_known.specs.declared.git_draft.GitDraft.{GitDraft}
use Rattle.pair_known.specs.GitDrafts.{IsGitDraft}
use Rattle.pair_known.specs.Ruled.{IsMadeCommit}

-- ---- files

rows-same : (as' bs : List TreeRow) → map file_row_of as' ≡ map file_row_of bs → SameTreeRows as' bs
rows-same [] [] e = tt
rows-same [] (b ∷ bs) e = absurd cc
rows-same (a ∷ as') [] e = absurd cc
rows-same (a ∷ as') (b ∷ bs) e =
    let first : file_row_of a ≡ file_row_of b = cc in
    let rest : map file_row_of as' ≡ map file_row_of bs = cc in
    (ap (λ (r : FileRow). r.path) first, ap (λ (r : FileRow). r.mode) first, ap (λ (r : FileRow). r.id) first, rows-same as' bs rest)

same-rows : (as' bs : List TreeRow) → SameTreeRows as' bs → map file_row_of as' ≡ map file_row_of bs
same-rows [] [] s = refl
same-rows [] (b ∷ bs) s = absurd s
same-rows (a ∷ as') [] s = absurd s
same-rows (a ∷ as') (b ∷ bs) s =
    let rest = same-rows as' bs s.3 in
    λ i. record { path = s.0 i; mode = s.1 i; id = s.2 i } ∷ rest i

-- ---- the text of a commit that is held

-- what is stored under its id is its text
pub text-is : (known : List Object) (id : Id) (e : CommitView) (kind : ObjectKind) (content text : Bytes) → IsCommitHeld known id e
    → Some (kind, content) ≡ option_map {U = ObjectKind × Bytes} (λ (o : Object). (o.kind, o.content)) (object_at known id) → bytes_eq content text ≡ bytes_eq (commit_text e.value) text
text-is known id e kind content text held at =
    let same : (kind, content) ≡ ((held.object).kind, (held.object).content) = some_is (at ∙ ap (option_map {U = ObjectKind × Bytes} (λ (o : Object). (o.kind, o.content))) held.is_held) in
    ap (λ (c : Bytes). bytes_eq c text) (ap (λ (p : ObjectKind × Bytes). p.1) same ∙ (held.text).1)

-- something is stored there
pub text-there : (known : List Object) (id : Id) (e : CommitView) → IsCommitHeld known id e → None ≡ option_map {U = ObjectKind × Bytes} (λ (o : Object). (o.kind, o.content)) (object_at known id) → ⊥
text-there known id e held at = none_some (at ∙ ap (option_map {U = ObjectKind × Bytes} (λ (o : Object). (o.kind, o.content))) held.is_held)

module _ (known : List Object) (id : Id) (e c : CommitView) (held : IsCommitHeld known id e) (d : GitDraft) (made : IsMadeCommit known d c) (text : Bytes) (is : text ≡ commit_text d.commit) where
  text-of : text ≡ commit_text c.value
  text-of = is ∙ ap commit_text (sym made.value)

  pub other-text : bytes_eq (commit_text e.value) text ≡ false → SameCommit e c → ⊥
  other-text h s = true≢false (sym ((bytes_eq-Decides (commit_text e.value) text).1 (ap commit_text s.value ∙ sym text-of)) ∙ h)

  value-same : bytes_eq (commit_text e.value) text ≡ true → e.value ≡ c.value
  value-same h =
      let same : commit_text e.value ≡ commit_text c.value = (bytes_eq-Decides (commit_text e.value) text).0 h ∙ text-of in
      one_commit (commit_text e.value) e.value c.value ((held.text).0, refl) (((made.view).value), same)

  -- commits of one text whose files are the same
  pub same-held : bytes_eq (commit_text e.value) text ≡ true → (e.value ≡ c.value → map file_row_of e.rows ≡ map file_row_of c.rows) → SameCommit e c
  same-held h files = record { value = value-same h; rows = rows-same e.rows c.rows (files (value-same h)) }

  module _ (kept : GitDraft) (draft : IsGitDraft known kept e) (b : Bool) (files : IsTrue b ↔ (kept.files ≡ d.files)) where
    pub same-commit : bytes_eq (commit_text e.value) text ≡ true → IsTrue b ↔ SameCommit e c
    same-commit h = (
      (λ t. same-held h (λ _. sym draft.files ∙ files.0 t ∙ made.files)),
      (λ s. files.1 (draft.files ∙ same-rows e.rows c.rows s.rows ∙ sym made.files)),
    )
