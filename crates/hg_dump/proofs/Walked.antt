-- Manifests that were walked before.
use Rattle.std.proofs.Common.{◌≡◌, ◌++◌, ◌||◌, Bool, true, false, List, [], ◌∷◌, map, refl, sym, ap, subst, ◌∙◌, true≢false}
use Rattle.std.specs.Prelude.{if◌then◌else◌, bytes_eq}
use Rattle.std.proofs.lemmas.List.Folds.{list_any-append}
use Rattle.text_model.specs.Id.{Id, has_id}
use Rattle.text_model.specs.Lists.{Each}
use Rattle.text_model.proofs.Options.{or_false}
use Rattle.text_model.proofs.TestLemmas.{bytes_eq-is}
use Rattle.hg_model.specs.Manifest.{ManifestEntry}
use Rattle.hg_model.specs.Revision.{Revision}
use Rattle.hg_store.specs.Views.{IsManifestOf}
use Rattle.hg_store.proofs.ViewLemmas.{one-list}
use Rattle.hg_dump.specs.declared.brought.Brought.{Brought}
use Rattle.hg_dump.specs.Held.{AreWalked}
use Rattle.hg_dump.specs.Marks.{Mark, Met, IsMet, meet, meets, own_mark, manifest_marks, file_mark, view_marks}
use Rattle.hg_dump.specs.State.{Steps, StepsAfter, IsLineMet, referred_in}
use Rattle.hg_dump.proofs.MeetLemmas.{meets-append, meet-known, lines-more}

-- no manifest was walked yet
pub walked-none : (known : List Revision) (walked : List Id) (IsSo : List ManifestEntry → Type 0) → walked ≡ [] → AreWalked known walked IsSo
walked-none known walked IsSo none node entries has of = absurd (true≢false (sym has ∙ ap (λ (ids : List Id). has_id ids node) none))

module _ (known : List Revision) (walked : List Id) (IsSo : List ManifestEntry → Type 0) (node : Id) (entries : List ManifestEntry) where
  -- one manifest more
  walked-push : AreWalked known walked IsSo → IsManifestOf known node entries → IsSo entries → AreWalked known (walked ++ node ∷ []) IsSo
  walked-push are is so other es has of = by (has_id walked other) refl
    where
      both : has_id (walked ++ node ∷ []) other ≡ (has_id walked other || (bytes_eq other node || false))
      both = list_any-append (bytes_eq other) walked (node ∷ [])

      by : (t : Bool) → has_id walked other ≡ t → IsSo es
      by true t = are other es t of
      by false t =
          let same : bytes_eq other node ≡ true = sym (or_false (bytes_eq other node)) ∙ ap (λ (b : Bool). b || (bytes_eq other node || false)) (sym t) ∙ sym both ∙ has in
          subst IsSo (one-list known node entries es is (subst (λ (n : Id). IsManifestOf known n es) (bytes_eq-is other node same) of)) so

  -- a manifest that was put in, which may have been there
  pub walked-put : (next : List Id) (is_new : Bool) → next ≡ (if is_new then walked ++ node ∷ [] else walked) → AreWalked known walked IsSo → IsManifestOf known node entries → IsSo entries → AreWalked known next IsSo
  walked-put next true after are is so = subst (λ (ids : List Id). AreWalked known ids IsSo) (sym after) (walked-push are is so)
  walked-put next false after are is so = subst (λ (ids : List Id). AreWalked known ids IsSo) (sym after) are

-- lines that were met stay so
pub walked-more : (known : List Revision) (walked : List Id) (is_new : Bool) (s : Met) (ms : List Mark) → AreWalked known walked (λ es. Each (IsLineMet s) es) → AreWalked known walked (λ es. Each (IsLineMet (meets is_new s ms)) es)
walked-more known walked is_new s ms are node es has of = lines-more is_new s ms es (are node es has of)

-- lines that were met change nothing
met-again : (is_new : Bool) (link : Id) (es : List ManifestEntry) (s : Met) (b : Brought) → Each (IsLineMet s) es → IsMet s (referred_in b) → IsMet (meets is_new s (map (file_mark link) es)) (referred_in b)
met-again is_new link [] s b met is = is
met-again is_new link (e ∷ es) s b met is =
    met-again is_new link es (meet is_new s (file_mark link e)) b (lines-more is_new s (file_mark link e ∷ []) es met.1) (meet-known is_new (file_mark link e) (referred_in b) s is met.0)

module _ (is_new : Bool) (s : Met) (link manifest : Id) (es : List ManifestEntry) (a b : Brought) (is : IsMet s (referred_in a)) (own : Steps is_new (own_mark link ∷ manifest_marks link manifest) a b) where
  abbrev front : List Mark
  front = own_mark link ∷ manifest_marks link manifest

  -- the lines of a manifest that was walked before need no step
  pub view-again : Each (IsLineMet s) es → IsMet (meets is_new s (view_marks link manifest es)) (referred_in b)
  view-again met =
      subst (λ (t : Met). IsMet t (referred_in b)) (sym (meets-append is_new s front (map (file_mark link) es))) (met-again is_new link es (meets is_new s front) b (lines-more is_new s front es met) (own s is))

  -- those of another one are met beside the lines of the one before
  pub view-after : (before : List ManifestEntry) (c : Brought) → Each (IsLineMet s) before → StepsAfter before is_new (map (file_mark link) es) b c → IsMet (meets is_new s (view_marks link manifest es)) (referred_in c)
  view-after before c met files =
      subst (λ (t : Met). IsMet t (referred_in c)) (sym (meets-append is_new s front (map (file_mark link) es))) (files (meets is_new s front) (own s is) (lines-more is_new s front before met))
