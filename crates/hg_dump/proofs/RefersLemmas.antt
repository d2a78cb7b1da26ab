-- The revisions to which changesets refer, as marks that were met.
use Rattle.std.proofs.Common.{◌≡◌, Bool, true, false, Option, None, Some, List, [], ◌∷◌, ◌++◌, map, refl, sym, ap, subst, ◌∙◌}
use Rattle.std.specs.Prelude.{IsTrue, IfSome, MatchOption}
use Rattle.std.specs.Borrow.{Bor}
use Rattle.std.specs.List.{list_any}
use Rattle.text_model.specs.Lists.{Each}
use Rattle.text_model.specs.Id.{Id, null, has_id}
use Rattle.text_model.proofs.Elements.{map_append}
use Rattle.hg_model.specs.Manifest.{ManifestEntry}
use Rattle.hg_model.specs.Revision.{Group, FilesAt, Revision, is_of, knows}
use Rattle.view_model.specs.View.{ChangesetView, Row, entry_of_row, file_node}
use Rattle.view_model.specs.Held.{IsChangesetHeld}
use Rattle.view_model.specs.Dump.{revisions_of, revisions_in}
use Rattle.hg_dump.specs.declared.refers.Refers.{Refers}
use Rattle.hg_dump.specs.Referred.{Referred, nothing}
use Rattle.hg_dump.specs.Marks.{Mark, mark_of, same_mark, references_at, marks_in, Met, IsMet, meets, meet}
use Rattle.hg_dump.specs.Refers.{RefersTo, HasFilesOf}
use Rattle.hg_dump.specs.State.{referred_in, IsLineMet}
use Rattle.hg_dump.proofs.MeetLemmas.{all-meets}

pub any-knows : (group : Group) (node link : Id) (rs : List Revision) → list_any (same_mark (record { group = group; node = node; link = link })) (map mark_of rs) ≡ knows rs group node
any-knows group node link [] = refl
any-knows group node link (r ∷ rs) = by (is_of group node r) refl (any-knows group node link rs)
  where
    by : (t : Bool) → is_of group node r ≡ t → list_any (same_mark (record { group = group; node = node; link = link })) (map mark_of rs) ≡ knows rs group node
        → list_any (same_mark (record { group = group; node = node; link = link })) (map mark_of (r ∷ rs)) ≡ knows (r ∷ rs) group node
    by true t later = rw t refl
    by false t later = rw t later

marks-are : (hs : List ChangesetView) → marks_in hs ≡ map mark_of (revisions_in hs)
marks-are [] = refl
marks-are (h ∷ hs) = ap (λ (l : List Mark). map mark_of (revisions_of h) ++ l) (marks-are hs) ∙ sym (map_append mark_of (revisions_of h) (revisions_in hs))

unwritten-meets : (s : Met) (ms : List Mark) → (meets false s ms).brought ≡ s.brought
unwritten-meets s [] = refl
unwritten-meets s (m ∷ ms) = unwritten-meets (meet false s m) ms

-- what was met of these revisions
abbrev pub met-of : List Revision → Met
met-of rs = record { all = map mark_of rs; brought = [] }

pub as-met : (refers : Refers) (rs : List Revision) → RefersTo refers rs → IsMet (met-of rs) (referred_in refers.brought)
as-met refers rs to = record { met = λ group node link. to.met group node ∙ sym (any-knows group node link rs); brought = λ group. to.unwritten group }

pub no-revisions : (refers : Refers) → ((group : Group) → referred_in refers.brought group ≡ nothing) → RefersTo refers []
no-revisions refers none = record {
  met = λ group node. ap (λ (r : Referred). has_id r.met node) (none group);
  unwritten = λ group. ap (λ (r : Referred). r.brought) (none group);
}

pub more-marks : (refers : Refers) (rs more : List Revision) → IsMet (meets false (met-of rs) (map mark_of more)) (referred_in refers.brought) → RefersTo refers (rs ++ more)
more-marks refers rs more is = record {
  met = λ group node. is.met group node null ∙ ap (list_any (same_mark (record { group = group; node = node; link = null }))) all-of ∙ any-knows group node null (rs ++ more);
  unwritten = λ group. is.brought group ∙ ap (references_at group) (unwritten-meets (met-of rs) (map mark_of more));
}
  where
    all-of : (meets false (met-of rs) (map mark_of more)).all ≡ map mark_of (rs ++ more)
    all-of = all-meets false (met-of rs) (map mark_of more) ∙ sym (map_append mark_of rs more)

pub more-revisions : (refers : Refers) (rs : List Revision) (hs : List ChangesetView) → IsMet (meets false (met-of rs) (marks_in hs)) (referred_in refers.brought) → RefersTo refers (rs ++ revisions_in hs)
more-revisions refers rs hs is = more-marks refers rs (revisions_in hs) (subst (λ (ms : List Mark). IsMet (meets false (met-of rs) ms) (referred_in refers.brought)) (marks-are hs) is)

-- the lines of a manifest whose file revisions are among these
pub lines-met : (rs : List Revision) (rows : List Row) → Each (λ row. IsTrue (knows rs (FilesAt row.path) (file_node row.revision))) rows → Each (IsLineMet (met-of rs)) (map entry_of_row rows)
lines-met rs [] h = tt
lines-met rs (row ∷ rows) h = (any-knows (FilesAt row.path) (file_node row.revision) null rs ∙ h.0, lines-met rs rows h.1)

-- the lines of the changeset that is near, or none, were met
pub near-met : (refers : Refers) (known rs : List Revision) (near : Option (Bor Id)) (lines : List ManifestEntry) → MatchOption near (lines ≡ []) (λ node. (h : ChangesetView) → IsChangesetHeld known node.now h → map entry_of_row h.rows ≡ lines)
    → IfSome near (λ node. (v : ChangesetView) × IsChangesetHeld known node.now v × ((ss : List Revision) → RefersTo refers ss → HasFilesOf ss v)) → RefersTo refers rs → Each (IsLineMet (met-of rs)) lines
near-met refers known rs None lines is near to = subst (λ (es : List ManifestEntry). Each (IsLineMet (met-of rs)) es) (sym is) tt
near-met refers known rs (Some node) lines is (v, held, has) to = subst (λ (es : List ManifestEntry). Each (IsLineMet (met-of rs)) es) (is v held) (lines-met rs v.rows (has rs to))
