-- Lines of manifests whose file revisions are known.
use Rattle.std.proofs.Common.{◌≡◌, not, get_or, List, [], ◌∷◌, ◌++◌, map, None, refl, sym, ap, subst, ◌∙◌, append_assoc, inl, inr}
use Rattle.std.specs.Prelude.{is_some}
use Rattle.std.proofs.lemmas.Option.{slice_get-get_or}
use Rattle.text_model.specs.Lists.{Each}
use Rattle.text_model.proofs.EachLemmas.{Each-append, Each-push, Each-weaker}
use Rattle.text_model.proofs.Elements.{each_at}
use Rattle.hg_model.specs.Manifest.{ManifestEntry}
use Rattle.hg_model.specs.Revision.{Revision, FilesAt, knows}
use Rattle.view_model.specs.View.{Row, entry_of_row}
use Rattle.view_model.specs.Held.{IsFileHeld}
use Rattle.hg_manifest.specs.Lines.{HasLine}
use Rattle.hg_manifest.specs.Beside.{IsLineOf, IsPassed}
use Rattle.hg_manifest.specs.Near.{IsLater}
use Rattle.hg_manifest.specs.declared.ahead.Ahead.{Ahead}
use Rattle.hg_manifest.proofs.BesideLemmas.{lines-later, later-more}
use Rattle.hg_store.specs.Views.{is_unknown, first_unknown}
use Rattle.hg_store.proofs.ViewLemmas.{position-none}
use Rattle.hg_dump.specs.Held.{IsLineKnown, AreLinesKnown}

-- a line that stands among lines that are known
pub line-known : (known : List Revision) (entries : List ManifestEntry) (e : ManifestEntry) → AreLinesKnown known entries → HasLine e.path e.node entries → IsLineKnown known e
line-known known [] e are h = absurd h
line-known known (o ∷ os) e are (inl is) = (λ i. knows known (FilesAt (sym is.0 i)) (sym is.1 i)) ∙ are.0
line-known known (o ∷ os) e are (inr h) = line-known known os e are.1 h

-- the lines of rows that are held
pub rows-known : (known : List Revision) (rows : List Row) → Each (IsFileHeld known) rows → AreLinesKnown known (map entry_of_row rows)
rows-known known [] are = tt
rows-known known (row ∷ rows) are = (ap is_some are.0.is_held, rows-known known rows are.1)

-- lines that are known have no first one that isn't
pub none-unknown : (known : List Revision) (es : List ManifestEntry) → AreLinesKnown known es → first_unknown known es ≡ None
none-unknown known es are = position-none (is_unknown known) es (λ k d within. ap not (each_at (IsLineKnown known) es k (get_or es k d) (slice_get-get_or es k d within) are))

-- lines of both manifests are known where those of the other one are
pub both-known : (known : List Revision) (other es : List ManifestEntry) → AreLinesKnown known other → Each (IsLineOf other) es → AreLinesKnown known es
both-known known other es are both = Each-weaker (IsLineOf other) (IsLineKnown known) (λ e is. line-known known other e are is) es both

-- the lines up to those that are ahead are known
pub record AreKnownTo (known : List Revision) (lines near : List ManifestEntry) (walk : Ahead) : Type 0 where
  pub passed : List ManifestEntry
  pub whole : lines ≡ passed ++ walk.lines
  pub later : IsLater near walk.other
  pub are : AreLinesKnown known passed

pub starts : (known : List Revision) (walk : Ahead) → AreKnownTo known walk.lines walk.other walk
starts known walk = record {
  passed = [];
  whole = refl;
  later = record { passed = []; whole = refl };
  are = tt;
}

pub goes-on : (known : List Revision) (lines near : List ManifestEntry) (walk next : Ahead) (e : ManifestEntry) → AreLinesKnown known near → AreKnownTo known lines near walk → IsPassed walk next (e ∷ []) → IsLineKnown known e
    → AreKnownTo known lines near next
goes-on known lines near walk next e are k p one =
    let told : List ManifestEntry = p.same ++ e ∷ [] in
    let same = both-known known near p.same are (lines-later near walk.other p.same k.later p.both) in
    record {
      passed = k.passed ++ told;
      whole = k.whole ∙ ap (λ (es : List ManifestEntry). k.passed ++ es) (p.whole ∙ sym (append_assoc p.same (e ∷ []) next.lines)) ∙ sym (append_assoc k.passed told next.lines);
      later = later-more near walk.other next.other k.later p.later;
      are = Each-append (IsLineKnown known) k.passed told k.are (Each-push (IsLineKnown known) p.same e same one);
    }

pub ends : (known : List Revision) (lines near : List ManifestEntry) (walk : Ahead) → AreLinesKnown known near → AreKnownTo known lines near walk → Each (IsLineOf walk.other) walk.lines → AreLinesKnown known lines
ends known lines near walk are k both =
    subst (AreLinesKnown known) (sym k.whole) (Each-append (IsLineKnown known) k.passed walk.lines k.are (both-known known near walk.lines are (lines-later near walk.other walk.lines k.later both)))
