-- Lines that an agreed parent has too: the bodies of their files are blobs of the store.
use Rattle.std.proofs.Common.{◌≡◌, List, [], ◌∷◌, ◌++◌, map, Option, Some, None, refl, sym, ap, subst, ◌∙◌, append_assoc, inl, inr}
use Rattle.std.specs.Prelude.{IfSome, IsTrue}
use Rattle.text_model.specs.Lists.{Each, In, SomeOf}
use Rattle.text_model.specs.Id.{Id, has_id}
use Rattle.text_model.proofs.EachLemmas.{Each-append, Each-push, Each-weaker}
use Rattle.text_model.proofs.Elements.{in_right}
use Rattle.hg_model.specs.Manifest.{ManifestEntry}
use Rattle.hg_model.specs.Revision.{Revision}
use Rattle.git_model.specs.Object.{Object, object_at}
use Rattle.tree_shape.specs.Laws.{IsKnown}
use Rattle.view_model.specs.View.{Row, entry_of_row}
use Rattle.view_model.specs.Held.{IsFileHeld}
use Rattle.hg_manifest.specs.Beside.{IsLineOf, IsPassed}
use Rattle.hg_manifest.specs.Near.{IsLater}
use Rattle.hg_manifest.specs.declared.ahead.Ahead.{Ahead}
use Rattle.hg_manifest.proofs.BesideLemmas.{lines-later, later-none, later-more}
use Rattle.pair_known.proofs.HeldViews.{one_row}
use Rattle.pair_state.specs.Blocks.{body_blob, IsAgreed}
use Rattle.pair_state.specs.Step.{IsLineWith, IsBlobLine, AreBlobs, HaveBlobs}

pub if-some : {X : Type 0} {P Q : X → Type 0} (o : Option X) → ((x : X) → P x → Q x) → IfSome o P → IfSome o Q
if-some None f h = h
if-some (Some x) f h = f x h

-- ---- the lines of files

module _ (hg : List Revision) (P : Row → Type 0) where
  lines-of : (rows : List Row) → Each (IsFileHeld hg) rows → Each P rows → Each (IsLineWith hg P) (map entry_of_row rows)
  lines-of [] f b = tt
  lines-of (row ∷ rows) f b = ((row, refl, f.0, b.0), lines-of rows f.1 b.1)

  file-of : (row : Row) → IsFileHeld hg row → IsLineWith hg P (entry_of_row row) → P row
  file-of row f l = subst P (sym (one_row hg row l.0 f l.2 l.1)) l.3

  files-of : (rows : List Row) → Each (IsFileHeld hg) rows → Each (IsLineWith hg P) (map entry_of_row rows) → Each P rows
  files-of [] f l = tt
  files-of (row ∷ rows) f l = (file-of row f.0 l.0, files-of rows f.1 l.1)

  some-of : (rows : List Row) → Each (IsFileHeld hg) rows → SomeOf (map entry_of_row rows) (IsLineWith hg P) → SomeOf rows P
  some-of [] f l = absurd l
  some-of (row ∷ rows) f (inl l) = inl (file-of row f.0 l)
  some-of (row ∷ rows) f (inr l) = inr (some-of rows f.1 l)

  -- the lines of a changeset's manifest, whatever list they are
  module _ (rows : List Row) (lines : List ManifestEntry) (are : map entry_of_row rows ≡ lines) (held : Each (IsFileHeld hg) rows) where
    pub lines-with : Each P rows → Each (IsLineWith hg P) lines
    lines-with each = subst (Each (IsLineWith hg P)) are (lines-of rows held each)

    pub files-with : Each (IsLineWith hg P) lines → Each P rows
    files-with each = files-of rows held (subst (Each (IsLineWith hg P)) (sym are) each)

    pub some-with : SomeOf lines (IsLineWith hg P) → SomeOf rows P
    some-with some = some-of rows held (subst (λ (es : List ManifestEntry). SomeOf es (IsLineWith hg P)) (sym are) some)

pub some-in : {X : Type 0} (P : X → Type 0) (xs : List X) (x : X) → In x xs → P x → SomeOf xs P
some-in P [] x i p = absurd i
some-in P (y ∷ xs) x (inl is) p = inl (subst P is p)
some-in P (y ∷ xs) x (inr i) p = inr (some-in P xs x i p)

-- ---- lines that stand among others

module _ (hg : List Revision) (git : List Object) where
  -- a file with the revision of another one has its body
  same-file : (e o : ManifestEntry) → IsBlobLine hg git o → (o.path ≡ e.path) × (o.node ≡ e.node) → IsBlobLine hg git e
  same-file e o l same =
      let y = l.0 in
      let turned : Row = record { path = y.path; flag = e.flag; revision = y.revision } in (
        turned,
        (λ i. record {
          path = (sym same.0 ∙ ap (λ (z : ManifestEntry). z.path) l.1) i;
          node = (sym same.1 ∙ ap (λ (z : ManifestEntry). z.node) l.1) i;
          flag = e.flag;
        }),
        record { revision = l.2.revision; is_held = l.2.is_held; parents = l.2.parents; text = l.2.text },
        l.3,
      )

  pub kept-line : (lines : List ManifestEntry) (e : ManifestEntry) → AreBlobs hg git lines → IsLineOf lines e → IsBlobLine hg git e
  kept-line [] e are has = absurd has
  kept-line (o ∷ lines) e are (inl is) = same-file e o are.0 is
  kept-line (o ∷ lines) e are (inr has) = kept-line lines e are.1 has

  kept-lines : (lines es : List ManifestEntry) → AreBlobs hg git lines → Each (IsLineOf lines) es → AreBlobs hg git es
  kept-lines lines es are both = Each-weaker (IsLineOf lines) (IsBlobLine hg git) (λ e has. kept-line lines e are has) es both

  -- the bodies of the lines up to those that are ahead are blobs of the store
  pub record AreBlobsTo (lines near : List ManifestEntry) (walk : Ahead) : Type 0 where
    pub passed : List ManifestEntry
    pub whole : lines ≡ passed ++ walk.lines
    pub later : IsLater near walk.other
    pub are : AreBlobs hg git passed

  pub starts : (lines near : List ManifestEntry) → AreBlobsTo lines near (record { lines = lines; other = near })
  starts lines near = record {
    passed = [];
    whole = refl;
    later = later-none near;
    are = tt;
  }

  module _ (lines near : List ManifestEntry) (walk next : Ahead) (e : ManifestEntry) (k : AreBlobsTo lines near walk)
      (p : IsPassed walk next (e ∷ [])) where
    -- what is told and what is left, behind what was passed
    split : lines ≡ k.passed ++ (p.same ++ (e ∷ next.lines))
    split = k.whole ∙ ap (λ (es : List ManifestEntry). k.passed ++ es) p.whole

    -- the line that is told is one of all
    pub told-in : In e lines
    told-in = subst (λ (es : List ManifestEntry). In e es) (sym split)
        (in_right e k.passed (p.same ++ (e ∷ next.lines)) (in_right e p.same (e ∷ next.lines) (inl refl)))

    pub goes-on : AreBlobs hg git near → IsBlobLine hg git e → AreBlobsTo lines near next
    goes-on are one =
        let told : List ManifestEntry = p.same ++ e ∷ [] in
        let same = kept-lines near p.same are (lines-later near walk.other p.same k.later p.both) in
        record {
          passed = k.passed ++ told;
          whole = split ∙ ap (λ (es : List ManifestEntry). k.passed ++ es) (sym (append_assoc p.same (e ∷ []) next.lines))
              ∙ sym (append_assoc k.passed told next.lines);
          later = later-more near walk.other next.other k.later p.later;
          are = Each-append (IsBlobLine hg git) k.passed told k.are (Each-push (IsBlobLine hg git) p.same e same one);
        }

  pub ends : (lines near : List ManifestEntry) (walk : Ahead) → AreBlobs hg git near → AreBlobsTo lines near walk
      → Each (IsLineOf walk.other) walk.lines → AreBlobs hg git lines
  ends lines near walk are k both =
      let rest = kept-lines near walk.lines are (lines-later near walk.other walk.lines k.later both) in
      subst (AreBlobs hg git) (sym k.whole) (Each-append (IsBlobLine hg git) k.passed walk.lines k.are rest)

-- ---- the manifest of an agreed changeset

pub blobs-on : (old new : List Object) → ((id : Id) (o : Object) → object_at old id ≡ Some o → object_at new id ≡ Some o) → (rows : List Row)
    → Each (λ y. IsKnown old (body_blob y)) rows → Each (λ y. IsKnown new (body_blob y)) rows
blobs-on old new kept [] h = tt
blobs-on old new kept (row ∷ rows) h = (kept (body_blob row).id (body_blob row) h.0, blobs-on old new kept rows h.1)

pub agreed-blobs : (hg : List Revision) (git new : List Object) → ((id : Id) (o : Object) → object_at git id ≡ Some o → object_at new id ≡ Some o) → (agreed : List Id)
    → ((node : Id) → IsTrue (has_id agreed node) → IsAgreed hg git node) → HaveBlobs hg new agreed
agreed-blobs hg git new kept agreed of node some entries agrees =
    let a = of node some in
    lines-with hg (λ y. IsKnown new (body_blob y)) (a.view).rows entries (agrees a.view a.held) a.held.files (blobs-on git new kept (a.view).rows a.blobs)
