-- Lines that are referred to beside those of the manifest before.
use Rattle.std.proofs.Common.{◌≡◌, Bool, true, List, [], ◌∷◌, ◌++◌, map, refl, sym, ap, subst, ◌∙◌, append_assoc}
use Rattle.text_model.specs.Id.{Id}
use Rattle.text_model.specs.Lists.{Each}
use Rattle.text_model.proofs.Elements.{map_append}
use Rattle.hg_model.specs.Manifest.{ManifestEntry}
use Rattle.hg_manifest.specs.Beside.{IsLineOf, IsPassed}
use Rattle.hg_manifest.specs.Near.{IsLater}
use Rattle.hg_manifest.specs.declared.ahead.Ahead.{Ahead}
use Rattle.hg_manifest.proofs.BesideLemmas.{lines-later, later-more}
use Rattle.hg_dump.specs.declared.brought.Brought.{Brought}
use Rattle.hg_dump.specs.Marks.{Mark, file_mark}
use Rattle.hg_dump.specs.State.{Steps, StepsAfter, referred_in}
use Rattle.hg_dump.proofs.MeetLemmas.{after-append, met-line, meet-known}

-- the lines up to those that are ahead were referred to
pub record IsReferred (lines previous : List ManifestEntry) (is_new : Bool) (link : Id) (walk : Ahead) (old new : Brought) : Type 0 where
  pub passed : List ManifestEntry
  pub whole : lines ≡ passed ++ walk.lines
  pub later : IsLater previous walk.other
  pub steps : StepsAfter previous is_new (map (file_mark link) passed) old new

pub starts : (walk : Ahead) (is_new : Bool) (link : Id) (b : Brought) → IsReferred walk.lines walk.other is_new link walk b b
starts walk is_new link b = record {
  passed = [];
  whole = refl;
  later = record { passed = []; whole = refl };
  steps = λ s is before. is;
}

module _ (before : List ManifestEntry) (is_new : Bool) (link : Id) where
  -- lines that were met change nothing
  met-lines : (es : List ManifestEntry) (b : Brought) → Each (IsLineOf before) es → StepsAfter before is_new (map (file_mark link) es) b b
  met-lines [] b each = λ s is met. is
  met-lines (e ∷ es) b each =
      after-append before is_new (file_mark link e ∷ []) (map (file_mark link) es) b b b (λ s is met. meet-known is_new (file_mark link e) (referred_in b) s is (met-line s before e true each.0 met)) (met-lines es b each.1)

  steps-lines : (xs ys : List ManifestEntry) (a b c : Brought) → StepsAfter before is_new (map (file_mark link) xs) a b → StepsAfter before is_new (map (file_mark link) ys) b c → StepsAfter before is_new (map (file_mark link) (xs ++ ys)) a c
  steps-lines xs ys a b c f g =
      subst (λ (ms : List Mark). StepsAfter before is_new ms a c) (sym (map_append (file_mark link) xs ys)) (after-append before is_new (map (file_mark link) xs) (map (file_mark link) ys) a b c f g)

  -- the next line
  pub goes-on : (lines : List ManifestEntry) (walk next : Ahead) (e : ManifestEntry) (a b c : Brought) → IsReferred lines before is_new link walk a b → IsPassed walk next (e ∷ []) → Steps is_new (file_mark link e ∷ []) b c
      → IsReferred lines before is_new link next a c
  goes-on lines walk next e a b c r p step =
      let told : List ManifestEntry = p.same ++ e ∷ [] in
      record {
        passed = r.passed ++ told;
        whole = r.whole ∙ ap (λ (es : List ManifestEntry). r.passed ++ es) (p.whole ∙ sym (append_assoc p.same (e ∷ []) next.lines)) ∙ sym (append_assoc r.passed told next.lines);
        later = later-more before walk.other next.other r.later p.later;
        steps = steps-lines r.passed told a b c r.steps (steps-lines p.same (e ∷ []) b b c (met-lines p.same b (lines-later before walk.other p.same r.later p.both)) (λ s is met. step s is));
      }

  -- nothing is left
  pub ends : (lines : List ManifestEntry) (walk : Ahead) (a b : Brought) → IsReferred lines before is_new link walk a b → Each (IsLineOf walk.other) walk.lines → StepsAfter before is_new (map (file_mark link) lines) a b
  ends lines walk a b r each =
      subst (λ (es : List ManifestEntry). StepsAfter before is_new (map (file_mark link) es) a b) (sym r.whole) (steps-lines r.passed walk.lines a b b r.steps (met-lines walk.lines b (lines-later before walk.other walk.lines r.later each)))
