-- A commit has at most one unmarking.
use Rattle.std.proofs.Common.{◌≡◌, ◌≤◌, Bool, true, false, List, [], ◌∷◌, map, refl, sym, ap, subst, ◌∙◌, arith}
use Rattle.std.specs.Prelude.{if◌then◌else◌, bytes_eq, ℤ}
use Rattle.std.specs.List.{AllZip}
use Rattle.std.proofs.lemmas.Bool.{and_parts}
use Rattle.std.proofs.lemmas.List.{append_cancel_right}
use Rattle.text_model.specs.Text.{Bytes, lf}
use Rattle.hg_model.specs.Changeset.{DateLine, Plain, Raw, Extra}
use Rattle.pair_model.specs.Block.{Block, git_partner, not_null, Parents}
use Rattle.pair_model.specs.User.{UserDate, user_of_line, message_of}
use Rattle.view_model.specs.View.{Row, TreeRow, files_among, ManifestParents, NoManifest, Over, manifest_node, ChangesetView, CommitView}
use Rattle.pair_model.specs.Rule.{author_by, rule_commit, ruled_manifest, ruled_files}
use Rattle.pair_model.specs.MarkList.{Mark, Manifest, Files, User, Date, RawDate, OneExtra, mark_rank, marks_text}
use Rattle.partner_model.specs.Mark.{same_manifest, same_paths, same_numbers, date_marks, commit_marks, parents_of_changeset, mark_commit}
use Rattle.partner_model.specs.Partner.{UnmarksCommit, IsUnmarkedRow}
use Rattle.partner_model.specs.Table.{IsTable}
use Rattle.unmark_law.proofs.Tables.{eq_true, git_one, HasNode, map_one, parents_one}
use Rattle.std.specs.Ordering.{int_eq}
use Rattle.std.proofs.lemmas.Bool.Decides.{Decides-int_eq}
use Rattle.text_model.proofs.EachLemmas.{Each-append}
use Rattle.mark_law.proofs.Marks.{marks_one}
use Rattle.mark_law.proofs.MarkTypes.{marks_are}
use Rattle.mark_law.proofs.Sections.{parts_same, cut_at_kind, Within, one_within, extras_within, wider}
use Rattle.unmark_law.proofs.Rows.{AreAlike, rows_one}
use Rattle.unmark_law.proofs.TreeRows.{IsFileOf, files_marked}

-- ---- parts that are marked where they aren't the given ones

marked_one : {X : Type 0} (same : X → X → Bool) → ((x y : X) → same x y ≡ true → x ≡ y) → (M : X → Mark) → ((x y : X) → M x ≡ M y → x ≡ y)
    → (a b g : X) → (if same a g then [] else M a ∷ []) ≡ (if same b g then [] else M b ∷ []) → a ≡ b
marked_one same decides M one a b g e = by (same a g) (same b g) refl refl e
  where
    by : (s t : Bool) → same a g ≡ s → same b g ≡ t → (if s then [] else M a ∷ []) ≡ (if t then [] else M b ∷ []) → a ≡ b
    by true true f h k = decides a g f ∙ sym (decides b g h)
    by true false f h k = absurd cc
    by false true f h k = absurd cc
    by false false f h k = one a b (cc)

pub same_manifest_is : (a b : ManifestParents) → same_manifest a b ≡ true → a ≡ b
same_manifest_is NoManifest NoManifest h = refl
same_manifest_is NoManifest (Over p q) h = absurd cc
same_manifest_is (Over p q) NoManifest h = absurd cc
same_manifest_is (Over p q) (Over r s) h =
    let a = and_parts (bytes_eq p r) (bytes_eq q s) h in
    let b = eq_true p r a.0 in
    let c = eq_true q s a.1 in
    cc

pub same_paths_is : (a b : List Bytes) → same_paths a b ≡ true → a ≡ b
same_paths_is [] [] h = refl
same_paths_is [] (y ∷ ys) h = absurd cc
same_paths_is (x ∷ xs) [] h = absurd cc
same_paths_is (x ∷ xs) (y ∷ ys) h =
    let a = and_parts (bytes_eq x y) (same_paths xs ys) h in
    let b = eq_true x y a.0 in
    let c = same_paths_is xs ys a.1 in
    cc

manifest_from : (x y : ManifestParents) → Manifest x ≡ Manifest y → x ≡ y
manifest_from x y e = cc

files_from : (x y : List Bytes) → Files x ≡ Files y → x ≡ y
files_from x y e = cc

user_from : (x y : Bytes) → User x ≡ User y → x ≡ y
user_from x y e = cc

extra_from : (x y : Extra) → OneExtra x ≡ OneExtra y → x ≡ y
extra_from x y e = cc

extras_from : (xs ys : List Extra) → map OneExtra xs ≡ map OneExtra ys → xs ≡ ys
extras_from [] [] e = refl
extras_from [] (y ∷ ys) e = absurd cc
extras_from (x ∷ xs) [] e = absurd cc
extras_from (x ∷ xs) (y ∷ ys) e =
    let a : OneExtra x ≡ OneExtra y = cc in
    let b = extra_from x y a in
    let t : map OneExtra xs ≡ map OneExtra ys = cc in
    let c = extras_from xs ys t in
    λ i. b i ∷ c i

-- ---- the date

date_pair : (t z s y : ℤ) → Date t z ≡ Date s y → (t ≡ s) × (z ≡ y)
date_pair t z s y e = (cc, cc)

pub numbers_same : (t z : ℤ) (given : UserDate) → same_numbers t z given ≡ true → (t ≡ given.time) × (z ≡ given.tz)
numbers_same t z given h =
    let p = and_parts (int_eq t given.time) (int_eq z given.tz) h in
    ((Decides-int_eq t given.time).0 p.0, (Decides-int_eq z given.tz).0 p.1)

numbers_one : (t z s y : ℤ) (given : UserDate)
    → (if same_numbers t z given then [] else Date t z ∷ []) ≡ (if same_numbers s y given then [] else Date s y ∷ []) → (t ≡ s) × (z ≡ y)
numbers_one t z s y given e = by (same_numbers t z given) (same_numbers s y given) refl refl e
  where
    by : (u v : Bool) → same_numbers t z given ≡ u → same_numbers s y given ≡ v → (if u then [] else Date t z ∷ []) ≡ (if v then [] else Date s y ∷ []) → (t ≡ s) × (z ≡ y)
    by true true f g k =
        let p = numbers_same t z given f in
        let q = numbers_same s y given g in
        (p.0 ∙ sym q.0, p.1 ∙ sym q.1)
    by true false f g k = absurd cc
    by false true f g k = absurd cc
    by false false f g k = date_pair t z s y (cc)

no_raw : (time tz : ℤ) (es : List Extra) (given : UserDate) (text : Bytes) → date_marks (Plain time tz es) given ≡ RawDate text ∷ [] → ⊥
no_raw time tz es given text e =
    let w : Within 4 5 (date_marks (Plain time tz es) given) = Each-append (λ m. (4 ≤ mark_rank m) × (mark_rank m ≤ 5)) (if same_numbers time tz given then [] else Date time tz ∷ []) (map OneExtra es)
    (wider 4 4 4 5 (if same_numbers time tz given then [] else Date time tz ∷ []) (omega arith) (omega arith) (one_within 4 (same_numbers time tz given) (Date time tz) refl))
    (wider 5 5 4 5 (map OneExtra es) (omega arith) (omega arith) (extras_within es)) in
    let t = subst (λ (x : List Mark). Within 4 5 x) e w in
    absurd (omega (arith, t.0.1))

date_one : (d f : DateLine) (given : UserDate) → date_marks d given ≡ date_marks f given → d ≡ f
date_one (Plain t z es) (Plain s y fs) given e =
    let c = cut_at_kind 4 4 5 (if same_numbers t z given then [] else Date t z ∷ []) (if same_numbers s y given then [] else Date s y ∷ []) (map OneExtra es) (map OneExtra fs)
    (one_within 4 (same_numbers t z given) (Date t z) refl) (one_within 4 (same_numbers s y given) (Date s y) refl) (extras_within es) (extras_within fs) e in
    let n = numbers_one t z s y given c.0 in
    let x = extras_from es fs c.1 in
    λ i. Plain (n.0 i) (n.1 i) (x i)
date_one (Plain t z es) (Raw x) given e = absurd (no_raw t z es given x e)
date_one (Raw x) (Plain s y fs) given e = absurd (no_raw s y fs given x (sym e))
date_one (Raw x) (Raw y) given e = ap Raw (raw_from x y (cc))
  where
    raw_from : (x y : Bytes) → RawDate x ≡ RawDate y → x ≡ y
    raw_from x y e = cc

-- ---- what a marked commit has

pub parents_are : (blocks : List Block) (h : ChangesetView) → ((mark_commit blocks h).value).parents ≡ map (git_partner blocks) (not_null (h.p ∷ h.q ∷ []))
unfolding mark_commit rule_commit
parents_are blocks h = refl

pub author_is : (blocks : List Block) (h : ChangesetView) → ((mark_commit blocks h).value).author ≡ author_by (h.fields).user (h.fields).date
unfolding mark_commit rule_commit
author_is blocks h = refl

pub headers_are : (blocks : List Block) (h : ChangesetView) → ((mark_commit blocks h).value).headers ≡ marks_text (commit_marks (parents_of_changeset blocks h) h)
unfolding mark_commit rule_commit
headers_are blocks h = refl

pub message_is : (blocks : List Block) (h : ChangesetView) → ((mark_commit blocks h).value).message ≡ message_of (h.fields).description
unfolding mark_commit rule_commit
message_is blocks h = refl

alike : (hs ks : List Row) (cs : List TreeRow) → AllZip IsFileOf hs cs → AllZip IsFileOf ks cs → AllZip AreAlike hs ks
alike [] [] cs a b = tt
alike [] (k ∷ ks) [] a b = absurd b
alike [] (k ∷ ks) (c ∷ cs) a b = absurd a
alike (h ∷ hs) [] [] a b = absurd a
alike (h ∷ hs) [] (c ∷ cs) a b = absurd b
alike (h ∷ hs) (k ∷ ks) [] a b = absurd a
alike (h ∷ hs) (k ∷ ks) (c ∷ cs) a b = (((a.0).path ∙ sym (b.0).path, sym (a.0).flag ∙ (b.0).flag), alike hs ks cs a.1 b.1)

-- ---- the law

pub commit_one : (blocks : List Block) → IsTable blocks → (c : CommitView) (h k : ChangesetView) → UnmarksCommit blocks c h → UnmarksCommit blocks c k → h ≡ k
commit_one blocks t c h k u v =
    let value : (mark_commit blocks h).value ≡ (mark_commit blocks k).value = (u.marked).value ∙ sym (v.marked).value in
    let ids = sym (parents_are blocks h) ∙ ap (λ x. x.parents) value ∙ parents_are blocks k in
    let those = map_one (git_partner blocks) (HasNode blocks) (git_one blocks t) (not_null (h.p ∷ h.q ∷ [])) (not_null (k.p ∷ k.q ∷ [])) u.paired v.paired ids in
    let pq = parents_one h.p h.q k.p k.q (u.view).first (v.view).first those in
    let ps : Parents = parents_of_changeset blocks h in
    let same_ps : parents_of_changeset blocks h ≡ parents_of_changeset blocks k = λ i. parents_of_changeset blocks (record h { p = pq.0 i; q = pq.1 i }) in
    let line = sym (author_is blocks h) ∙ ap (λ x. x.author) value ∙ author_is blocks k in
    let given : UserDate = user_of_line (author_by (k.fields).user (k.fields).date) in
    let texts = sym (headers_are blocks h) ∙ ap (λ x. x.headers) value ∙ headers_are blocks k ∙ ap (λ x. marks_text (commit_marks x k)) (sym same_ps) in
    let marks = marks_one (commit_marks ps h) (commit_marks ps k) (marks_are ps h u.view) (marks_are ps k v.view) texts in
    let parts = parts_same ps given h k (ap user_of_line line) refl marks in
    let like = alike h.rows k.rows (files_among c.rows) (files_marked blocks h c (u.view).in_order u.marked) (files_marked blocks k c (v.view).in_order v.marked) in
    let bodies = subst (λ x. AllZip (IsUnmarkedRow x) k.rows (files_among c.rows)) (sym same_ps) v.bodies in
    let rows = rows_one ps h.rows k.rows (files_among c.rows) (u.view).in_order (v.view).in_order like u.bodies bodies parts.entries in
    let manifest = marked_one same_manifest same_manifest_is Manifest manifest_from h.manifest k.manifest (ruled_manifest ps k.rows) (ap (λ x. if same_manifest h.manifest (ruled_manifest ps x) then [] else Manifest h.manifest ∷ []) (sym rows) ∙ parts.manifest) in
    let files = marked_one same_paths same_paths_is Files files_from (h.fields).files (k.fields).files (ruled_files ps k.rows) (ap (λ x. if same_paths (h.fields).files (ruled_files ps x) then [] else Files (h.fields).files ∷ []) (sym rows) ∙ parts.files) in
    let user = marked_one bytes_eq eq_true User user_from (h.fields).user (k.fields).user given.user parts.user in
    let date = date_one (h.fields).date (k.fields).date given parts.date in
    let description = append_cancel_right (h.fields).description (k.fields).description (lf ∷ []) (sym (message_is blocks h) ∙ ap (λ x. x.message) value ∙ message_is blocks k) in
    let id : (h.fields).manifest ≡ (k.fields).manifest = (u.view).agrees ∙ (λ i. manifest_node (manifest i) (rows i)) ∙ sym (v.view).agrees in
    λ i. record {
      p = pq.0 i;
      q = pq.1 i;
      fields = record { manifest = id i; user = user i; date = date i; files = files i; description = description i };
      manifest = manifest i;
      rows = rows i;
    }
