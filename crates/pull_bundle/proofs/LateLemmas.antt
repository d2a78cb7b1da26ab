-- File revisions whose parents stand in changesets of the blocks.
use Rattle.std.proofs.Common.{◌≡◌, ◌||◌, Bool, true, false, List, [], ◌∷◌, ◌++◌, map, refl, sym, ap, subst, ◌∙◌, append_assoc, inl, inr}
use Rattle.std.specs.Prelude.{is_some}
use Rattle.std.proofs.lemmas.List.Folds.{list_any-append}
use Rattle.text_model.specs.Lists.{Each, In}
use Rattle.text_model.specs.Text.{Bytes}
use Rattle.text_model.specs.Id.{Id}
use Rattle.text_model.proofs.EachLemmas.{Each-front, Each-rest}
use Rattle.text_model.proofs.Elements.{each_in}
use Rattle.text_model.proofs.Options.{some_is, or_parts, or_neither}
use Rattle.text_model.proofs.TestLemmas.{or_true}
use Rattle.hg_model.specs.FileText.{file_text, file_order}
use Rattle.hg_model.specs.Manifest.{ManifestEntry}
use Rattle.hg_model.specs.Revision.{Revision}
use Rattle.hg_filelog.proofs.MarkLemmas.{one_pair}
use Rattle.hg_manifest.specs.Lines.{HasLine}
use Rattle.hg_manifest.specs.Beside.{IsLineOf, IsPassed}
use Rattle.hg_manifest.specs.Near.{IsLater}
use Rattle.hg_manifest.specs.declared.ahead.Ahead.{Ahead}
use Rattle.hg_manifest.proofs.BesideLemmas.{lines-later, passed-parts, all-parts}
use Rattle.hg_store.specs.Known.{AreFileParents}
use Rattle.view_model.specs.View.{ChangesetView, Row, entry_of_row, file_node, changeset_node}
use Rattle.view_model.specs.Held.{IsFileHeld, IsChangesetHeld, AreChangesetsHeld}
use Rattle.pair_model.specs.Block.{Block, changesets_in}
use Rattle.partner_model.specs.Given.{has_late_file}
use Rattle.pair_known.specs.Partners.{git_at}
use Rattle.pair_known.proofs.PartnerLemmas.{block-there}
use Rattle.link_rule.proofs.PartnerViews.{changeset-in}
use Rattle.pair_state.proofs.BlockLemmas.{git-some}
use Rattle.pull_bundle.specs.declared.taking.Taking.{Taking}
use Rattle.pull_bundle.specs.Late.{RefersIn, are_late, is_late_row, IsLineInTime}
use Rattle.pull_bundle.specs.Takes.{IsTaking}

-- ---- the parents of a file revision that is held

module _ (known : List Revision) where
  own-parents : (row : Row) → IsFileHeld known row → AreFileParents known row.path (file_node row.revision) ((row.revision).p, (row.revision).q)
  own-parents row held = record { revision = held.revision; is_held = held.is_held; meta = (row.revision).meta; body = (row.revision).body; spells = held.text; in_order = held.parents }

  one-parents : (path : Bytes) (node : Id) (a b : Id × Id) → AreFileParents known path node a → AreFileParents known path node b → a ≡ b
  one-parents path node a b h k =
      let same : h.revision ≡ k.revision = some_is (sym h.is_held ∙ k.is_held) in
      let text : file_text h.meta h.body ≡ file_text k.meta k.body = sym (h.spells).1 ∙ ap (λ (r : Revision). r.text) same ∙ (k.spells).1 in
      let parts = one_pair h.meta k.meta h.body k.body (h.spells).0 (k.spells).0 text in
      h.in_order ∙ (λ i. file_order (parts.0 i) (same i).p (same i).q) ∙ sym k.in_order

  -- the parents that are found are those of the row
  pub found-late : (blocks : List Block) (row : Row) → IsFileHeld known row → (e : ManifestEntry) → entry_of_row row ≡ e → (parents : Id × Id) → AreFileParents known e.path e.node parents
      → are_late blocks e.path parents.0 parents.1 ≡ is_late_row blocks row
  found-late blocks row held e is parents are =
      let here : AreFileParents known row.path (file_node row.revision) parents = subst (λ (x : ManifestEntry). AreFileParents known x.path x.node parents) (sym is) are in
      let same = one-parents row.path (file_node row.revision) parents ((row.revision).p, (row.revision).q) here (own-parents row held) in
      λ i. are_late blocks (sym is i).path (same i).0 (same i).1

  -- ---- lines in time

  line-in_time : (blocks : List Block) (lines : List ManifestEntry) (path : Bytes) (node : Id) → HasLine path node lines → Each (IsLineInTime known blocks) lines → (parents : Id × Id) → AreFileParents known path node parents
      → are_late blocks path parents.0 parents.1 ≡ false
  line-in_time blocks [] path node has all parents are = absurd has
  line-in_time blocks (e ∷ lines) path node (inl h) all parents are =
      subst (λ (x : Bytes). are_late blocks x parents.0 parents.1 ≡ false) h.0
      (all.0 parents (subst (λ (n : Id). AreFileParents known e.path n parents) (sym h.1) (subst (λ (x : Bytes). AreFileParents known x node parents) (sym h.0) are)))
  line-in_time blocks (e ∷ lines) path node (inr h) all parents are = line-in_time blocks lines path node h all.1 parents are

  pub row-in_time : (blocks : List Block) (row : Row) → IsFileHeld known row → (lines : List ManifestEntry) → IsLineOf lines (entry_of_row row) → Each (IsLineInTime known blocks) lines → is_late_row blocks row ≡ false
  row-in_time blocks row held lines has all =
      line-in_time blocks lines row.path (file_node row.revision) has all ((row.revision).p, (row.revision).q) (own-parents row held)

  -- the lines of a changeset whose files are in time
  pub lines-in_time : (blocks : List Block) (rows : List Row) → Each (IsFileHeld known) rows → has_late_file blocks rows ≡ false → Each (IsLineInTime known blocks) (map entry_of_row rows)
  lines-in_time blocks [] held none = tt
  lines-in_time blocks (row ∷ rows) held none =
      let parts = or_parts (is_late_row blocks row) (has_late_file blocks rows) none in (
        (λ parents are.
            let same = one-parents row.path (file_node row.revision) parents ((row.revision).p, (row.revision).q) are (own-parents row held.0) in
            ap (λ (pq : Id × Id). are_late blocks row.path pq.0 pq.1) same ∙ parts.0),
        lines-in_time blocks rows held.1 parts.1,
      )

-- what is remembered is of the blocks
pub refers-in : (t : Taking) (blocks : List Block) → IsTaking t blocks → RefersIn (t.state).known.hg t.referred blocks
refers-in t blocks taking = record { held = (((taking.state).held).held).changesets; refers = taking.referred }

-- ---- the files, line by line

-- those of the lines so far are in time, and these lines are ahead
pub record AreInTimeTo (blocks : List Block) (files : List Row) (ahead : List ManifestEntry) : Type 0 where
  pub front : List Row
  pub rest : List Row
  pub whole : files ≡ front ++ rest
  pub are : map entry_of_row rest ≡ ahead
  pub none : has_late_file blocks front ≡ false

pub none-late : (blocks : List Block) (files : List Row) (lines : List ManifestEntry) → map entry_of_row files ≡ lines → AreInTimeTo blocks files lines
none-late blocks files lines are = record {
  front = [];
  rest = files;
  whole = refl;
  are = are;
  none = refl;
}

late-append : (blocks : List Block) (xs ys : List Row) → has_late_file blocks (xs ++ ys) ≡ (has_late_file blocks xs || has_late_file blocks ys)
late-append blocks xs ys = list_any-append (is_late_row blocks) xs ys

module _ (known : List Revision) (blocks : List Block) where
  -- files whose lines are near
  near-files : (xs : List Row) (near other : List ManifestEntry) → Each (IsFileHeld known) xs → Each (IsLineInTime known blocks) near → IsLater near other → Each (λ x. IsLineOf other (entry_of_row x)) xs → has_late_file blocks xs ≡ false
  near-files [] near other held all later each = refl
  near-files (x ∷ xs) near other held all later each =
      or_neither (is_late_row blocks x) (has_late_file blocks xs) (row-in_time known blocks x held.0 near (lines-later near other (entry_of_row x ∷ []) later (each.0, tt)).0 all) (near-files xs near other held.1 all later each.1)

  -- the file of the line that is told, behind those of the lines that are near
  pub record NextFile (files : List Row) (e : ManifestEntry) (ahead : List ManifestEntry) : Type 0 where
    pub front : List Row
    pub file : Row
    pub rest : List Row
    pub whole : files ≡ front ++ (file ∷ rest)
    pub none : has_late_file blocks front ≡ false
    pub told : entry_of_row file ≡ e
    pub is_held : IsFileHeld known file
    pub are : map entry_of_row rest ≡ ahead

  pub next-file : (files : List Row) (walk next : Ahead) (e : ManifestEntry) (near : List ManifestEntry) → Each (IsFileHeld known) files → Each (IsLineInTime known blocks) near → IsLater near walk.other
      → AreInTimeTo blocks files walk.lines → IsPassed walk next (e ∷ []) → NextFile files e next.lines
  next-file files walk next e near held all later t passed =
      let p = passed-parts entry_of_row t.rest walk next e t.are passed in
      let rest-held = Each-rest (IsFileHeld known) t.front t.rest (subst (Each (IsFileHeld known)) t.whole held) in
      let parts-held = subst (Each (IsFileHeld known)) p.whole rest-held in
      let same-held = Each-front (IsFileHeld known) p.same (p.one ∷ p.rest) parts-held in
      record {
        front = t.front ++ p.same;
        file = p.one;
        rest = p.rest;
        whole = t.whole ∙ ap (λ (xs : List Row). t.front ++ xs) p.whole ∙ sym (append_assoc t.front p.same (p.one ∷ p.rest));
        none = late-append blocks t.front p.same ∙ or_neither (has_late_file blocks t.front) (has_late_file blocks p.same) t.none (near-files p.same near walk.other same-held all later p.both);
        told = p.told;
        is_held = (Each-rest (IsFileHeld known) p.same (p.one ∷ p.rest) parts-held).0;
        are = p.ahead;
      }

  pub late-here : (files : List Row) (e : ManifestEntry) (ahead : List ManifestEntry) (n : NextFile files e ahead) → is_late_row blocks n.file ≡ true → has_late_file blocks files ≡ true
  late-here files e ahead n late =
      ap (has_late_file blocks) n.whole ∙ late-append blocks n.front (n.file ∷ n.rest) ∙ ap (λ (b : Bool). has_late_file blocks n.front || (b || has_late_file blocks n.rest)) late ∙ or_true (has_late_file blocks n.front)

  pub late-more : (files : List Row) (e : ManifestEntry) (ahead : List ManifestEntry) (n : NextFile files e ahead) → is_late_row blocks n.file ≡ false → AreInTimeTo blocks files ahead
  late-more files e ahead n none = record {
    front = n.front ++ n.file ∷ [];
    rest = n.rest;
    whole = n.whole ∙ sym (append_assoc n.front (n.file ∷ []) n.rest);
    are = n.are;
    none = late-append blocks n.front (n.file ∷ []) ∙ or_neither (has_late_file blocks n.front) (is_late_row blocks n.file || false) n.none (or_neither (is_late_row blocks n.file) false none refl);
  }

  pub all-in_time : (files : List Row) (walk : Ahead) (near : List ManifestEntry) → Each (IsFileHeld known) files → Each (IsLineInTime known blocks) near → IsLater near walk.other → AreInTimeTo blocks files walk.lines
      → Each (IsLineOf walk.other) walk.lines → has_late_file blocks files ≡ false
  all-in_time files walk near held all later t both =
      let rest-held = Each-rest (IsFileHeld known) t.front t.rest (subst (Each (IsFileHeld known)) t.whole held) in
      let each = all-parts entry_of_row t.rest walk.other (subst (Each (IsLineOf walk.other)) (sym t.are) both) in
      ap (has_late_file blocks) t.whole ∙ late-append blocks t.front t.rest ∙ or_neither (has_late_file blocks t.front) (has_late_file blocks t.rest) t.none (near-files t.rest near walk.other rest-held all later each)

-- ---- the changeset of a block

held-in : (known : List Revision) (vs : List ChangesetView) → AreChangesetsHeld known (map changeset_node vs) vs → (v : ChangesetView) → In v vs → IsChangesetHeld known (changeset_node v) v
held-in known [] held v i = absurd i
held-in known (x ∷ vs) held v i = elim i [
  | inl e ↦ subst (λ (w : ChangesetView). IsChangesetHeld known (changeset_node w) w) (sym e) held.0
  | inr j ↦ held-in known vs held.1 v j
]

-- the changeset of a block, which is held, and whose files are in time
pub record IsNear (known : List Revision) (blocks : List Block) (node : Id) (v : ChangesetView) : Type 0 where
  pub is_held : IsChangesetHeld known node v
  pub among : In v (changesets_in blocks)
  pub in_time : has_late_file blocks v.rows ≡ false

pub near-view : (t : Taking) (blocks : List Block) (node : Id) → IsTaking t blocks → is_some (git_at (t.state).known.partners node) ≡ true → (v : ChangesetView) × IsNear (t.state).known.hg blocks node v
near-view t blocks node taking some =
    let b = block-there blocks node (sym (git-some (t.state).known blocks (taking.state).held node) ∙ some) in
    let among = changeset-in blocks b.0 b.2 in (
      (b.0).changeset,
      record {
        is_held = subst (λ (n : Id). IsChangesetHeld (t.state).known.hg n (b.0).changeset) b.3 (held-in (t.state).known.hg (changesets_in blocks) (((taking.state).held).held).changesets (b.0).changeset among);
        among = among;
        in_time = each_in (λ x. has_late_file blocks (x.changeset).rows ≡ false) blocks b.0 taking.in_time b.2;
      },
    )
