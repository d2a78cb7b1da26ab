-- The parents of what a dump brings belong to earlier changesets: they are read before it, and a changeset brings at most one revision of a group.
use Rattle.std.proofs.Common.{◌≡◌, ◌+◌, ◌⊎◌, inl, inr, ℕ, Bool, true, false, true≢false, not, List, [], ◌∷◌, ◌++◌, length, map, None, refl, sym, ap, subst, ◌∙◌, append_assoc, append-nil}
use Rattle.std.specs.Prelude.{bytes_eq, filter, ◌&&◌, ⊤}
use Rattle.std.specs.List.{list_any}
use Rattle.std.proofs.lemmas.Slice.Eq.{bytes_eq-Decides}
use Rattle.text_model.specs.Lists.{Each, In, first_of_each, only_new}
use Rattle.text_model.specs.Text.{Bytes, is_below}
use Rattle.text_model.specs.Id.{Id}
use Rattle.text_model.specs.Fault as fault
use Rattle.text_model.proofs.Elements.{each_in, each_from}
use Rattle.text_model.proofs.Options.{not_false}
use Rattle.text_model.proofs.OrderLemmas.{below-other}
use Rattle.text_model.proofs.TestLemmas.{both}
use Rattle.hg_model.specs.Revision.{Group, Changesets, Manifests, FilesAt, Revision, is_of, knows, known_after, same_group, same_revision, is_known_parent, is_bad_link, order_fault, named_if, ancestry_fault, text_fault, addition_fault}
use Rattle.hg_model.proofs.RevisionLemmas.{same_group-is, same_group-self, same_group-sym, first_name-two, first_name-three, named_if-None}
use Rattle.git_model.proofs.SortLemmas.{Ascends, rises-ascends}
use Rattle.view_model.specs.View.{ChangesetView, IsChangesetView, Row, ManifestParents, NoManifest, Over, changeset_node}
use Rattle.view_model.specs.Dump.{manifest_revision, file_revision, revisions_of, revisions_in, brought_by, of_group}
use Rattle.state_model.specs.Saved.{AreDumped}
use Rattle.hg_bundle.specs.Brought.{AreAdditions}
use Rattle.hg_dump.proofs.OnceLemmas.{Each-filter, Each-new}
use Rattle.hg_dump_law.specs.Taken.{HasParents, AreParentsEarlier, in_bundle_order}
use Rattle.hg_dump_law.proofs.Known.{IsKnown, HoldsIn, knows-last, holds-left, holds-right, holds-both, holds-each, each-known}
use Rattle.hg_dump_law.proofs.Earlier.{HaveParents, has-parents}
use Rattle.dump_law.proofs.News.{only_new-append}
use Rattle.dump_law.proofs.Grows.{same_revision_turned, of_group-append}
use Rattle.dump_law.proofs.Elements.{in-filter}
use Rattle.dump_law.proofs.Dumped.{dump_is_read}
use Rattle.dump_law.proofs.Order.{order-group}

-- ---- what was added had its parents

added_parents : (known : List Revision) (r : Revision) → addition_fault known r ≡ None → HasParents known r
unfolding ancestry_fault
added_parents known r none =
    let all = is_known_parent known r.group r.p && is_known_parent known r.group r.q in
    let names = first_name-three (order_fault r.group r) (named_if (not all) fault.ParentUnknown) (named_if (is_bad_link known r.group r) fault.LinkUnknown) (first_name-two (ancestry_fault known r) (text_fault known r) none).0 in
    both (is_known_parent known r.group r.p) (is_known_parent known r.group r.q) (not_false all (named_if-None (not all) fault.ParentUnknown names.1))

-- what is known of a group after one more is among those that came, where it is among them
known-came : (group : Group) (known came : List Revision) (r : Revision) → HoldsIn group known came → (same_group group r.group ≡ true → IsKnown came group r.node) → HoldsIn group (known_after known r) came
known-came group known came r holds mine node k = at (knows known r.group r.node) refl k
  where
    alone : (n : Id) (t : Bool) → is_of group n r ≡ t → IsKnown (r ∷ []) group n → IsKnown came group n
    alone n true t e = let p = both (same_group group r.group) (bytes_eq n r.node) t in subst (λ (x : Id). IsKnown came group x) (sym ((bytes_eq-Decides n r.node).0 p.1)) (mine p.0)
    alone n false t e = absurd (true≢false (sym (rw t at e)))

    at : (t : Bool) → knows known r.group r.node ≡ t → IsKnown (known_after known r) group node → IsKnown came group node
    at true t j = holds node (rw t at j)
    at false t j = holds-both group known (r ∷ []) came holds (λ n e. alone n (is_of group n r) refl e) node (rw t at j)

group-parents : (group : Group) (sum : ℕ) (known came rs : List Revision) → HoldsIn group known came → AreAdditions known sum rs → HaveParents came (of_group group rs)
group-parents group sum known came [] holds are = tt
group-parents group sum known came (r ∷ rs) holds are =
    by (same_group group r.group) refl (λ more h. group-parents group (sum + length r.text) (known_after known r) more rs h are.2)
  where
    by : (t : Bool) → same_group group r.group ≡ t → ((more : List Revision) → HoldsIn group (known_after known r) more → HaveParents more (of_group group rs)) → HaveParents came (of_group group (r ∷ rs))
    by true e later =
        let is : group ≡ r.group = same_group-is group r.group e in
        let mine : IsKnown (came ++ r ∷ []) group r.node = subst (λ (g : Group). IsKnown (came ++ r ∷ []) g r.node) (sym is) (knows-last came r) in
        rw e (
          has-parents known came r (subst (λ (g : Group). HoldsIn g known came) is holds) (added_parents known r are.0),
          later (came ++ r ∷ []) (known-came group known (came ++ r ∷ []) r (λ n k. holds-left came (r ∷ []) group n (holds n k)) (λ _. mine)),
        )
    by false e later = rw e (later came (known-came group known came r holds (λ t. absurd (true≢false (sym t ∙ e)))))

-- ---- a changeset has at most one revision of a group

abbrev AreOneEach : List Revision → Type 0
AreOneEach [] = ⊤
AreOneEach (r ∷ rs) = Each (λ s. same_group r.group s.group ≡ false) rs × AreOneEach rs

one_each-filter : (p : Revision → Bool) (rs : List Revision) → AreOneEach rs → AreOneEach (filter p rs)
one_each-filter p [] h = tt
one_each-filter p (r ∷ rs) h = by (p r) refl (one_each-filter p rs h.1)
  where
    by : (t : Bool) → p r ≡ t → AreOneEach (filter p rs) → AreOneEach (filter p (r ∷ rs))
    by true e later = rw e (Each-filter (λ s. same_group r.group s.group ≡ false) p rs h.0, later)
    by false e later = rw e later

-- such revisions are all different
one_each-first : (rs : List Revision) → AreOneEach rs → first_of_each same_revision rs ≡ rs
one_each-first [] h = refl
one_each-first (r ∷ rs) h = ap (λ (l : List Revision). r ∷ l) (ap (filter (λ y. not (same_revision r y))) (one_each-first rs h.1) ∙ none rs h.0)
  where
    none : (ys : List Revision) → Each (λ s. same_group r.group s.group ≡ false) ys → filter (λ y. not (same_revision r y)) ys ≡ ys
    none [] k = refl
    none (y ∷ ys) k = rw k.0 (ap (λ (l : List Revision). y ∷ l) (none ys k.1))

one_each-alone : (rs : List Revision) (r : Revision) → AreOneEach rs → In r rs → of_group r.group rs ≡ r ∷ []
one_each-alone [] r h i = absurd i
one_each-alone (x ∷ rs) r h (inl e) =
    let self : same_group r.group x.group ≡ true = ap (same_group r.group) (ap (λ (y : Revision). y.group) (sym e)) ∙ same_group-self r.group in
    rw self (ap (λ (l : List Revision). x ∷ l) (none rs (subst (λ (y : Revision). Each (λ s. same_group y.group s.group ≡ false) rs) (sym e) h.0)) ∙ ap (λ (y : Revision). y ∷ []) (sym e))
  where
    none : (ys : List Revision) → Each (λ s. same_group r.group s.group ≡ false) ys → of_group r.group ys ≡ []
    none [] k = refl
    none (y ∷ ys) k = rw k.0 (none ys k.1)
one_each-alone (x ∷ rs) r h (inr i) =
    let other : same_group r.group x.group ≡ false = same_group-sym r.group x.group ∙ each_in (λ s. same_group x.group s.group ≡ false) rs r h.0 i in
    rw other (one_each-alone rs r h.1 i)

-- the revisions of a changeset
files-one : (link : Id) (rows : List Row) → Ascends (λ (row : Row). row.path) rows → AreOneEach (map (file_revision link) rows)
files-one link [] up = tt
files-one link (row ∷ rows) up = (others rows up.0, files-one link rows up.1)
  where
    others : (l : List Row) → Each (λ (x : Row). is_below row.path x.path ≡ true) l → Each (λ s. same_group (FilesAt row.path) s.group ≡ false) (map (file_revision link) l)
    others [] k = tt
    others (x ∷ l) k = (below-other row.path x.path k.0, others l k.1)

no-file : (group : Group) (link : Id) → ((path : Bytes) → same_group group (FilesAt path) ≡ false) → (rows : List Row) → Each (λ s. same_group group s.group ≡ false) (map (file_revision link) rows)
no-file group link e [] = tt
no-file group link e (row ∷ rows) = (e row.path, no-file group link e rows)

view-one : (h : ChangesetView) → IsChangesetView h → AreOneEach (revisions_of h)
unfolding revisions_of
view-one h v = by h.manifest
  where
    link : Id
    link = changeset_node h

    files : AreOneEach (map (file_revision link) h.rows)
    files = files-one link h.rows (rises-ascends (λ (row : Row). row.path) h.rows v.in_order)

    by : (m : ManifestParents) → Each (λ s. same_group Changesets s.group ≡ false) (manifest_revision h m ++ map (file_revision link) h.rows) × AreOneEach (manifest_revision h m ++ map (file_revision link) h.rows)
    by NoManifest = (no-file Changesets link (λ path. refl) h.rows, files)
    by (Over p q) = ((refl, no-file Changesets link (λ path. refl) h.rows), (no-file Manifests link (λ path. refl) h.rows, files))

any-known : (r : Revision) (xs : List Revision) → list_any (same_revision r) xs ≡ knows xs r.group r.node
any-known r [] = refl
any-known r (x ∷ xs) = by (is_of r.group r.node x) refl (any-known r xs)
  where
    by : (t : Bool) → is_of r.group r.node x ≡ t → list_any (same_revision r) xs ≡ knows xs r.group r.node → list_any (same_revision r) (x ∷ xs) ≡ knows (x ∷ xs) r.group r.node
    by true e rest = rw e refl
    by false e rest = rw e rest

-- ---- the whole

front-parents : (seen front rest : List Revision) → HaveParents seen (front ++ rest) → HaveParents (seen ++ front) rest
front-parents seen [] rest h = subst (λ (l : List Revision). HaveParents l rest) (sym (append-nil seen)) h
front-parents seen (r ∷ front) rest h = subst (λ (l : List Revision). HaveParents l rest) (append_assoc seen (r ∷ []) front) (front-parents (seen ++ r ∷ []) front rest h.1)

-- what is seen of each group is among those before
abbrev AreSeen : (Group → List Revision) → List Revision → Type 0
AreSeen seen before = (group : Group) → HoldsIn group (seen group) before

earlier : (seen : Group → List Revision) (before : List Revision) (hs : List ChangesetView) → Each IsChangesetView hs → AreSeen seen before
    → ((group : Group) → HaveParents (seen group) (of_group group (only_new same_revision before (revisions_in hs)))) → AreParentsEarlier before hs
earlier seen before [] views are parents = tt
earlier seen before (h ∷ hs) views are parents = (
  each_from (λ r. (knows before r.group r.node ≡ true) ⊎ HasParents before r) (revisions_of h) (λ r i. one r i (knows before r.group r.node) refl),
  earlier (λ group. seen group ++ of_group group new) (before ++ revisions_of h) hs views.1 seen_then
      (λ group. front-parents (seen group) (of_group group new) (of_group group later) (cut group)),
)
  where
    new : List Revision
    new = only_new same_revision before (revisions_of h)

    later : List Revision
    later = only_new same_revision (before ++ revisions_of h) (revisions_in hs)

    cut : (group : Group) → HaveParents (seen group) (of_group group new ++ of_group group later)
    cut group =
        subst (HaveParents (seen group))
        (ap (of_group group) (only_new-append same_revision same_revision_turned before (revisions_of h) (revisions_in hs)) ∙ of_group-append group new later) (parents group)

    one_each : AreOneEach new
    one_each = one_each-filter (λ x. not (list_any (same_revision x) before)) (first_of_each same_revision (revisions_of h)) (subst AreOneEach (sym (one_each-first (revisions_of h) (view-one h views.0))) (view-one h views.0))

    new-holds : (group : Group) → HoldsIn group (of_group group new) (before ++ revisions_of h)
    new-holds group node k = holds-right before (revisions_of h) group node (holds-each (of_group group new) (revisions_of h)
        (Each-filter (λ r. IsKnown (revisions_of h) r.group r.node) (λ r. same_group group r.group) new (Each-new (λ r. IsKnown (revisions_of h) r.group r.node) same_revision before (revisions_of h) (each-known (revisions_of h) (revisions_of h) (λ g n j. j)))) group node k)

    seen_then : AreSeen (λ group. seen group ++ of_group group new) (before ++ revisions_of h)
    seen_then group = holds-both group (seen group) (of_group group new) (before ++ revisions_of h) (λ node k. holds-left before (revisions_of h) group node (are group node k)) (new-holds group)

    one : (r : Revision) → In r (revisions_of h) → (t : Bool) → knows before r.group r.node ≡ t → (knows before r.group r.node ≡ true) ⊎ HasParents before r
    one r i true e = inl e
    one r i false e =
        let there : In r new = in-filter (λ x. not (list_any (same_revision x) before)) r (first_of_each same_revision (revisions_of h))
        (subst (λ (l : List Revision). In r l) (sym (one_each-first (revisions_of h) (view-one h views.0))) i) (ap not (any-known r before ∙ e)) in
        let mine : HaveParents (seen r.group) (r ∷ of_group r.group later) = subst (λ (l : List Revision). HaveParents (seen r.group) (l ++ of_group r.group later)) (one_each-alone new r one_each there) (cut r.group) in
        inr (has-parents (seen r.group) before r (are r.group) mine.0)

pub dump-earlier : (hs : List ChangesetView) → AreDumped hs → AreParentsEarlier [] hs
unfolding brought_by
dump-earlier hs s =
    let rs = brought_by [] hs in
    earlier (λ group. []) [] hs s.views (λ group node k. k)
    (λ group. subst (HaveParents []) (order-group rs group) (group-parents group 0 [] [] (in_bundle_order rs) (λ node k. k) (dump_is_read hs s).additions))
