-- Parts of a changeset: lines, a manifest, and the first mark of a kind.
use Rattle.std.proofs.Common.{◌≡◌, ◌≢◌, ◌≤◌, ◌+◌, ◌++◌, ℕ, zero, suc, Bool, true, false, true≢false, List, [], ◌∷◌, map, length, take, Option, Some, None, refl, sym, ap, subst, ◌∙◌}
use Rattle.std.specs.Prelude.{◌↔◌, IsTrue, is_some, not, option_map, unwrap_or, slice_get}
use Rattle.std.specs.List.{find}
use Rattle.std.specs.Option.{option_and_then}
use Rattle.text_model.specs.Lists.{Each}
use Rattle.text_model.specs.Text.{Bytes, has_byte}
use Rattle.text_model.specs.Cuts.{Lacks, cut_of}
use Rattle.text_model.specs.Id.{Id, null, node_id}
use Rattle.text_model.proofs.Options.{none_some, some_is}
use Rattle.text_model.proofs.Elements.{take_push, take_whole}
use Rattle.text_model.proofs.EachLemmas.{Each-rest, Each-push}
use Rattle.text_model.proofs.LackLemmas.{Lacks-by_test, has_byte-lacks}
use Rattle.text_model.proofs.CutLemmas.{cut_of-none, cut_of-takes}
use Rattle.view_model.specs.View.{Row, rows_text, manifest_node}
use Rattle.pair_model.specs.MarkList.{Mark}
use Rattle.partner_model.specs.Filled.{manifest_mark, first_mark}
use Rattle.hg_manifest.specs.Values.{manifest_value}
use Rattle.hg_manifest.specs.declared.rev.ManifestRev.{ManifestRev}
use Rattle.hg_manifest.specs.declared.rev.ManifestRev.TheVariants as rev
use Rattle.manifest_rule.specs.declared.manifest.RuledManifest.{RuledManifest}
use Rattle.hg_model.specs.Manifest.{manifest_text}
use Rattle.pair_model.specs.Block.{Parents}
use Rattle.pair_model.specs.Rule.{ruled_manifest}
use Rattle.pair_known.specs.Rows.{RowValue, row_value}
use Rattle.manifest_rule.specs.Listed.{entry_of_value}
use Rattle.manifest_rule.specs.Over.{IsMadeManifest}
use Rattle.manifest_rule.proofs.FilesLemmas.{values-are}
use Rattle.commit_unmark.specs.Parts.{manifest_by, IsManifestWith}

-- ---- lines

-- a byte isn't found exactly where it stands nowhere
pub without-by : {X : Type 0} (b : ℕ) (text : Bytes) (o : Option X) (f : X → Bytes × Bytes) (none : Bool) → option_map f o ≡ cut_of b text → is_some o ≡ not none → IsTrue none ↔ has_byte b text ≡ false
without-by b text None f true cut e = ((λ t. has_byte-lacks b text (cut_of-none b text (sym cut))), (λ h. refl))
without-by b text None f false cut e = absurd (true≢false (sym e))
without-by b text (Some x) f true cut e = absurd (true≢false e)
without-by b text (Some x) f false cut e = (
  (λ t. absurd (true≢false (sym t))),
  (λ h.
      let takes = cut_of-takes b text (f x).0 (f x).1 (sym cut) in
      absurd ((Each-rest (λ y. y ≢ b) (f x).0 (b ∷ (f x).1) (subst (Lacks b) takes.0 (Lacks-by_test b text h))).0 refl)),
)

-- ---- one element more

pub each-more : {X : Type 0} (P : X → Type 0) (xs : List X) (i : ℕ) (x : X) → slice_get xs i ≡ Some x → P x → Each P (take i xs) → Each P (take (i + 1) xs)
each-more P xs i x at p h = subst (Each P) (sym (take_push xs i x at)) (Each-push P (take i xs) x h p)

pub all-taken : {X : Type 0} (P : X → Type 0) (xs : List X) (i : ℕ) → length xs ≤ i → Each P (take i xs) → Each P xs
all-taken P xs i le h = subst (Each P) (take_whole xs i le) h

-- ---- the first mark of a kind

find-append : {X : Type 0} (f : X → Bool) (xs ys : List X) → find f xs ≡ None → find f (xs ++ ys) ≡ find f ys
find-append f [] ys e = refl
find-append f (x ∷ xs) ys e = by (f x) refl (find-append f xs ys) e
  where
    by : (t : Bool) → f x ≡ t → (find f xs ≡ None → find f (xs ++ ys) ≡ find f ys) → find f (x ∷ xs) ≡ None → find f (x ∷ (xs ++ ys)) ≡ find f ys
    by true g go e = absurd (none_some (sym (rw g at e)))
    by false g go e = rw g (go (rw g at e))

pub none-more : {X : Type 0} (f : X → Bool) (xs : List X) (i : ℕ) (x : X) → slice_get xs i ≡ Some x → f x ≡ false → find f (take i xs) ≡ None → find f (take (i + 1) xs) ≡ None
none-more f xs i x at off e = ap (find f) (take_push xs i x at) ∙ find-append f (take i xs) (x ∷ []) e ∙ (rw off refl)

pub found-here : {X : Type 0} (f : X → Bool) (xs : List X) (i : ℕ) (x : X) → slice_get xs i ≡ Some x → f x ≡ true → find f (take i xs) ≡ None → find f xs ≡ Some x
found-here f [] i x at on e = absurd (none_some at)
found-here f (y ∷ xs) zero x at on e = rw (ap f (some_is at) ∙ on) at
found-here f (y ∷ xs) (suc i) x at on e = by (f y) refl e (found-here f xs i x at on)
  where
    by : (t : Bool) → f y ≡ t → find f (y ∷ take i xs) ≡ None → (find f (take i xs) ≡ None → find f xs ≡ Some x) → find f (y ∷ xs) ≡ Some x
    by true g e go = absurd (none_some (sym (rw g at e)))
    by false g e go = rw g (go (rw g at e))

pub none-found : {X : Type 0} (f : X → Bool) (xs : List X) (i : ℕ) → length xs ≤ i → find f (take i xs) ≡ None → find f xs ≡ None
none-found f xs i le e = ap (find f) (sym (take_whole xs i le)) ∙ e

-- the first mark that names a part is the first of its kind
pub first-is : {X : Type 0} (f : Mark → Option X) (ms : List Mark) → first_mark f ms ≡ option_and_then f (find (λ m. is_some (f m)) ms)
first-is f [] = refl
first-is f (m ∷ ms) = by (f m) refl (first-is f ms)
  where
    by : (o : Option _) → f m ≡ o → first_mark f ms ≡ option_and_then f (find (λ n. is_some (f n)) ms) → first_mark f (m ∷ ms) ≡ option_and_then f (find (λ n. is_some (f n)) (m ∷ ms))
    by None e go = rw e go
    by (Some x) e go = rw e (sym e)

-- by the first mark of the kind that was found
pub first-by : {X : Type 0} (f : Mark → Option X) (ms : List Mark) (o : Option Mark) → o ≡ find (λ m. is_some (f m)) ms → first_mark f ms ≡ option_and_then f o
first-by f ms o e = first-is f ms ∙ ap (option_and_then f) (sym e)

-- ---- the manifest

pub none-with : (made : RuledManifest) (m : ManifestRev) (rows : List Row) → m ≡ rev.Null → made ≡ record { node = null; manifest = m; text = None } → IsManifestWith made (manifest_value m) rows
unfolding manifest_node
none-with made m rows is e = subst (λ (x : RuledManifest). IsManifestWith x (manifest_value m) rows) (sym e) (record { is = refl; node = ap (λ (x : ManifestRev). manifest_node (manifest_value x) rows) (sym is); text = tt })

pub over-with : (made : RuledManifest) (m : ManifestRev) (values : List RowValue) (rows : List Row) (p q : Id) (text : Bytes) → values ≡ map row_value rows → m ≡ rev.Over p q → text ≡ manifest_text (map entry_of_value values)
    → made ≡ record { node = node_id p q text; manifest = m; text = Some text } → IsManifestWith made (manifest_value m) rows
unfolding manifest_node
over-with made m values rows p q text of is text_is e =
    let lines : text ≡ rows_text rows = text_is ∙ ap manifest_text (ap (map entry_of_value) of ∙ values-are rows) in
    subst (λ (x : RuledManifest). IsManifestWith x (manifest_value m) rows) (sym e)
    (record { is = refl; node = ap (node_id p q) lines ∙ ap (λ (x : ManifestRev). manifest_node (manifest_value x) rows) (sym is); text = lines })

pub made-with : (made : RuledManifest) (ps : Parents) (marks : List Mark) (rows : List Row) → first_mark manifest_mark marks ≡ None → IsMadeManifest made ps rows → IsManifestWith made (manifest_by ps marks rows) rows
made-with made ps marks rows none is = subst (λ o. IsManifestWith made (unwrap_or o (ruled_manifest ps rows)) rows) (sym none) (record { is = is.manifest; node = is.node; text = is.text })
