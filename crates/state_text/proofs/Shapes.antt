-- The first section that doesn't fit.
use Rattle.std.proofs.Common.{◌≡◌, ◌≢◌, ◌<◌, ◌≤◌, ℕ, zero, suc, List, [], ◌++◌, length, refl, sym, ap, subst, ◌∙◌, arith, append-nil}
use Rattle.text_model.specs.Text.{Bytes}
use Rattle.view_model.specs.View.{ChangesetView, CommitView}
use Rattle.state_model.specs.Kept.{NameRow}
use Rattle.state_model.specs.Limits.{slot_limit}
use Rattle.state_model.specs.Text.{Sections, section_text, text_up_to, no_links}
use Rattle.state_model.specs.Names.{Targets, targets_of, AreNames}
use Rattle.state_model.specs.Saved.{AreTagsSaved, SectionsFit, IsShapeFault}
use Rattle.state_part.specs.Form.{head_line}
use Rattle.state_text.specs.Sections.{NoHg, NoGit, NoTags, names_text}
use Rattle.state_text.proofs.BlockLemmas.{map_text_of}
use Rattle.state_text.proofs.SectionLemmas.{IsRead, one-more, first-is, fits, one-0, one-1, one-2, one-3, one-4}

pub shape-0 : (text : Bytes) → ((rest : Bytes) → text ≢ head_line ++ rest) → IsShapeFault text 0
shape-0 text none = (
  omega arith,
  λ f. none f.rest (f.begins ∙ ap (λ (l : Bytes). l ++ f.rest) (first-is f.sections)),
  λ j below. absurd (omega (arith, below)),
)

module _ (text : Bytes) (s : Sections) where
  pub shape-1 : (rest : Bytes) → IsRead 0 text s rest → NoHg rest → IsShapeFault text 1
  shape-1 rest r none = (omega arith, not_there, before)
    where
      not_there : SectionsFit 1 text → ⊥
      not_there f = none (f.sections).changesets f.rest f.hold.1 (one-0 s f.sections rest (section_text 1 f.sections ++ f.rest) (sym r.begins ∙ f.begins ∙ one-more 0 f.sections f.rest))

      before : (j : ℕ) → j < 1 → SectionsFit j text
      before zero below = fits 0 text rest s r (omega arith)
      before (suc j) below = absurd (omega (arith, below))

  module _ (r0 r1 : Bytes) (a0 : IsRead 0 text s r0) (a1 : IsRead 1 text s r1) where
    pub shape-2 : NoGit r1 → IsShapeFault text 2
    shape-2 none = (omega arith, not_there, before)
      where
        not_there : SectionsFit 2 text → ⊥
        not_there f =
            let one = one-1 s f.sections r1 (section_text 2 f.sections ++ f.rest) a1.hold f.hold.0 (sym a1.begins ∙ f.begins ∙ one-more 1 f.sections f.rest) in
            none (f.sections).commits f.rest f.hold.1 one.1

        before : (j : ℕ) → j < 2 → SectionsFit j text
        before zero below = fits 0 text r0 s a0 (omega arith)
        before (suc zero) below = fits 1 text r1 s a1 (omega arith)
        before (suc (suc j)) below = absurd (omega (arith, below))

    module _ (r2 : Bytes) (a2 : IsRead 2 text s r2) where
      pub shape-3 : (length s.commits ≡ length (no_links s.changesets) → (rest : Bytes) → r2 ≢ map_text_of s.commits s.changesets ++ rest) → IsShapeFault text 3
      shape-3 none = (omega arith, not_there, before)
        where
          not_there : SectionsFit 3 text → ⊥
          not_there f =
              let one = one-2 s f.sections r2 (section_text 3 f.sections ++ f.rest) a2.hold f.hold.0 (sym a2.begins ∙ f.begins ∙ one-more 2 f.sections f.rest) in
              let many : length s.commits ≡ length (no_links s.changesets) =
              ap (λ (l : List CommitView). length l) one.commits ∙ f.hold.1 ∙ ap (λ (l : List ChangesetView). length (no_links l)) (sym one.changesets) in
              none many f.rest (one.rest ∙ (λ i. map_text_of (sym one.commits i) (sym one.changesets i) ++ f.rest))

          before : (j : ℕ) → j < 3 → SectionsFit j text
          before zero below = fits 0 text r0 s a0 (omega arith)
          before (suc zero) below = fits 1 text r1 s a1 (omega arith)
          before (suc (suc zero)) below = fits 2 text r2 s a2 (omega arith)
          before (suc (suc (suc j))) below = absurd (omega (arith, below))

      module _ (r3 : Bytes) (a3 : IsRead 3 text s r3) where
        pub shape-4 : NoTags s.commits r3 → IsShapeFault text 4
        shape-4 none = (omega arith, not_there, before)
          where
            not_there : SectionsFit 4 text → ⊥
            not_there f =
                let one = one-3 s f.sections r3 (section_text 4 f.sections ++ f.rest) a3.hold f.hold.0 (sym a3.begins ∙ f.begins ∙ one-more 3 f.sections f.rest) in
                none (f.sections).tags f.rest (subst (λ (l : List CommitView). AreTagsSaved l (f.sections).tags) (sym one.commits) f.hold.1) one.rest

            before : (j : ℕ) → j < 4 → SectionsFit j text
            before zero below = fits 0 text r0 s a0 (omega arith)
            before (suc zero) below = fits 1 text r1 s a1 (omega arith)
            before (suc (suc zero)) below = fits 2 text r2 s a2 (omega arith)
            before (suc (suc (suc zero))) below = fits 3 text r3 s a3 (omega arith)
            before (suc (suc (suc (suc j)))) below = absurd (omega (arith, below))

        module _ (r4 : Bytes) (a4 : IsRead 4 text s r4) where
          pub shape-5 : ((names : List NameRow) → AreNames (targets_of s) names → r4 ≡ names_text names → length text ≤ slot_limit → ⊥) → IsShapeFault text 5
          shape-5 none = (omega arith, not_there, before)
            where
              not_there : SectionsFit 5 text → ⊥
              not_there f =
                  let names = (f.sections).names in
                  let one = one-4 s f.sections r4 (section_text 5 f.sections ++ f.rest) a4.hold f.hold.0 (sym a4.begins ∙ f.begins ∙ one-more 4 f.sections f.rest) in
                  let ended : f.rest ≡ [] = f.last refl in
                  let same : targets_of s ≡ targets_of f.sections = (λ i. targets_of (record { changesets = one.changesets i; commits = one.commits i; tags = one.tags i; names = [] })) in
                  let kept : AreNames (targets_of s) names = subst (λ (t : Targets). AreNames t names) (sym same) f.hold.1.0 in
                  let last : r4 ≡ names_text names = one.rest ∙ ap (λ (l : Bytes). section_text 5 f.sections ++ l) ended ∙ append-nil (section_text 5 f.sections) in
                  let whole : text ≡ text_up_to 5 f.sections = f.begins ∙ ap (λ (l : Bytes). text_up_to 5 f.sections ++ l) ended ∙ append-nil (text_up_to 5 f.sections) in
                  none names kept last (omega (arith, f.hold.1.1, ap (λ (l : Bytes). length l) whole))

              before : (j : ℕ) → j < 5 → SectionsFit j text
              before zero below = fits 0 text r0 s a0 (omega arith)
              before (suc zero) below = fits 1 text r1 s a1 (omega arith)
              before (suc (suc zero)) below = fits 2 text r2 s a2 (omega arith)
              before (suc (suc (suc zero))) below = fits 3 text r3 s a3 (omega arith)
              before (suc (suc (suc (suc zero)))) below = fits 4 text r4 s a4 (omega arith)
              before (suc (suc (suc (suc (suc j))))) below = absurd (omega (arith, below))
