-- One mark more.
use Rattle.std.proofs.Common.{◌≡◌, ◌&&◌, ◌||◌, Bool, true, false, not, List, [], ◌∷◌, ◌++◌, map, refl, sym, ap, subst, ◌∙◌, inl, inr, append-nil, append_assoc}
use Rattle.std.specs.Prelude.{bytes_eq, filter, if◌then◌else◌}
use Rattle.std.specs.List.{list_any}
use Rattle.std.specs.Bool.{OnTrue}
use Rattle.std.proofs.lemmas.List.Folds.{list_any-append}
use Rattle.std.proofs.lemmas.List.Elements.{filter-append}
use Rattle.std.proofs.lemmas.Slice.Eq.{bytes_eq-Decides}
use Rattle.std.proofs.lemmas.Bool.{or_left, or_right}
use Rattle.text_model.specs.Id.{Id, null, has_id}
use Rattle.text_model.specs.Lists.{Each}
use Rattle.text_model.proofs.TestLemmas.{both, bytes_eq-self}
use Rattle.hg_model.specs.Manifest.{ManifestEntry}
use Rattle.text_model.specs.Text.{Bytes}
use Rattle.text_model.proofs.Options.{or_false}
use Rattle.text_model.proofs.Elements.{map_append}
use Rattle.hg_model.proofs.RevisionLemmas.{same_group-is, same_group-sym}
use Rattle.hg_model.specs.Revision.{Group, Changesets, Manifests, FilesAt, same_group}
use Rattle.hg_manifest.specs.Lines.{HasLine}
use Rattle.hg_dump.specs.declared.references.Reference.{Reference}
use Rattle.hg_dump.specs.declared.brought.Brought.{Brought}
use Rattle.hg_dump.specs.Referred.{Referred, referred, nothing}
use Rattle.hg_dump.specs.Marks.{Mark, same_mark, reference_of, references_at, Met, IsMet, meet, meets, none, own_mark, manifest_marks, file_mark, view_marks}
use Rattle.hg_dump.specs.State.{files_at, referred_in, Steps, StepsAfter, IsLineMet}

absorbed : (a b : Bool) → (b ≡ true → a ≡ true) → (a || b) ≡ a
absorbed true b f = refl
absorbed false true f = sym (f refl)
absorbed false false f = refl

-- a group's references, and those behind one mark more
pub references_at-push : (g : Group) (ms : List Mark) (m : Mark) → same_group g m.group ≡ true → references_at g (ms ++ m ∷ []) ≡ references_at g ms ++ reference_of m ∷ []
references_at-push g ms m is =
    ap (map reference_of) (filter-append (λ (x : Mark). same_group g x.group) ms (m ∷ []))
    ∙ map_append reference_of (filter (λ (x : Mark). same_group g x.group) ms) (filter (λ (x : Mark). same_group g x.group) (m ∷ []))
    ∙ ap (λ (l : List Reference). references_at g ms ++ l) (rw is refl)

pub references_at-other : (g : Group) (ms : List Mark) (m : Mark) → same_group g m.group ≡ false → references_at g (ms ++ m ∷ []) ≡ references_at g ms
references_at-other g ms m is =
    ap (map reference_of) (filter-append (λ (x : Mark). same_group g x.group) ms (m ∷ []) ∙ ap (λ (l : List Mark). filter (λ (x : Mark). same_group g x.group) ms ++ l) (rw is refl) ∙ append-nil (filter (λ (x : Mark). same_group g x.group) ms))

module _ (is_new : Bool) (r : Reference) (at : Referred) where
  -- the nodes that were met then
  pub met-referred : (node : Id) → has_id (referred is_new r at).met node ≡ (has_id at.met node || bytes_eq node r.node)
  met-referred node = by (has_id at.met r.node) refl
    where
      by : (b : Bool) → has_id at.met r.node ≡ b → has_id (referred is_new r at).met node ≡ (has_id at.met node || bytes_eq node r.node)
      by true e = rw e (sym (absorbed (has_id at.met node) (bytes_eq node r.node) (λ h. ap (has_id at.met) ((bytes_eq-Decides node r.node).0 h) ∙ e)))
      by false e = rw e (list_any-append (bytes_eq node) at.met (r.node ∷ []) ∙ ap (λ (b : Bool). has_id at.met node || b) (or_false (bytes_eq node r.node)))

  pub brought-referred : (referred is_new r at).brought ≡ (if is_new && not (has_id at.met r.node) then at.brought ++ r ∷ [] else at.brought)
  brought-referred = by (has_id at.met r.node) is_new refl refl
    where
      by : (b n : Bool) → has_id at.met r.node ≡ b → is_new ≡ n → (referred is_new r at).brought ≡ (if is_new && not (has_id at.met r.node) then at.brought ++ r ∷ [] else at.brought)
      by true true e n = rw (e, n) refl
      by true false e n = rw (e, n) refl
      by false true e n = rw (e, n) refl
      by false false e n = rw (e, n) refl

-- what a group has after one mark more
abbrev pub Refers : Bool → Mark → (Group → Referred) → (Group → Referred) → Type 0
Refers is_new m old new = (g : Group) → new g ≡ (if same_group m.group g then referred is_new (reference_of m) (old m.group) else old g)

module _ (is_new : Bool) (m : Mark) (old new : Group → Referred) (refers : Refers is_new m old new) (s : Met) (is : IsMet s old) where
  abbrev at_node : Group → Id → Id → Mark
  at_node g node link = record { group = g; node = node; link = link }

  own : (g : Group) → same_group m.group g ≡ true → new g ≡ referred is_new (reference_of m) (old g)
  own g e = refers g ∙ rw e (ap (λ (x : Group). referred is_new (reference_of m) (old x)) (same_group-is m.group g e))

  other : (g : Group) → same_group m.group g ≡ false → new g ≡ old g
  other g e = refers g ∙ rw e refl

  met-there : (g : Group) (node link : Id) → has_id (new g).met node ≡ list_any (same_mark (at_node g node link)) (meet is_new s m).all
  met-there g node link = by (same_group m.group g) refl ∙ sym (list_any-append (same_mark (at_node g node link)) s.all (m ∷ []))
    where
      by : (b : Bool) → same_group m.group g ≡ b → has_id (new g).met node ≡ (list_any (same_mark (at_node g node link)) s.all || list_any (same_mark (at_node g node link)) (m ∷ []))
      by true e =
          let e' : same_group g m.group ≡ true = same_group-sym g m.group ∙ e in
          ap (λ (x : Referred). has_id x.met node) (own g e) ∙ met-referred is_new (reference_of m) (old g) node
          ∙ (λ i. is.met g node link i || sym (or_false (bytes_eq node m.node)) i)
          ∙ ap (λ (b : Bool). list_any (same_mark (at_node g node link)) s.all || ((b && bytes_eq node m.node) || false)) (sym e')
      by false e =
          let e' : same_group g m.group ≡ false = same_group-sym g m.group ∙ e in
          ap (λ (x : Referred). has_id x.met node) (other g e) ∙ is.met g node link
          ∙ sym (or_false (list_any (same_mark (at_node g node link)) s.all))
          ∙ ap (λ (b : Bool). list_any (same_mark (at_node g node link)) s.all || ((b && bytes_eq node m.node) || false)) (sym e')

  brought-there : (g : Group) → (new g).brought ≡ references_at g (meet is_new s m).brought
  brought-there g = by (same_group m.group g) (is_new && not (list_any (same_mark m) s.all)) refl refl
    where
      by : (b n : Bool) → same_group m.group g ≡ b → (is_new && not (list_any (same_mark m) s.all)) ≡ n → (new g).brought ≡ references_at g (meet is_new s m).brought
      by true n e t =
          let same = same_group-is m.group g e in
          let met : has_id (old g).met m.node ≡ list_any (same_mark m) s.all = is.met g m.node m.link ∙ ap (λ (x : Group). list_any (same_mark (at_node x m.node m.link)) s.all) (sym same) in
          ap (λ (x : Referred). x.brought) (own g e) ∙ brought-referred is_new (reference_of m) (old g)
          ∙ ap (λ (b : Bool). if is_new && not b then (old g).brought ++ reference_of m ∷ [] else (old g).brought) met
          ∙ pick n t
        where
          pick : (n : Bool) → (is_new && not (list_any (same_mark m) s.all)) ≡ n
              → (if is_new && not (list_any (same_mark m) s.all) then (old g).brought ++ reference_of m ∷ [] else (old g).brought) ≡ references_at g (meet is_new s m).brought
          pick true t = rw t (ap (λ (l : List Reference). l ++ reference_of m ∷ []) (is.brought g) ∙ sym (references_at-push g s.brought m (same_group-sym g m.group ∙ e)))
          pick false t = rw t (is.brought g)
      by false true e t = ap (λ (x : Referred). x.brought) (other g e) ∙ is.brought g ∙ rw t (sym (references_at-other g s.brought m (same_group-sym g m.group ∙ e)))
      by false false e t = ap (λ (x : Referred). x.brought) (other g e) ∙ is.brought g ∙ rw t refl

  pub meet-step : IsMet (meet is_new s m) new
  meet-step = record { met = met-there; brought = brought-there }

-- ---- marks one after the other

pub meets-append : (is_new : Bool) (s : Met) (xs ys : List Mark) → meets is_new s (xs ++ ys) ≡ meets is_new (meets is_new s xs) ys
meets-append is_new s [] ys = refl
meets-append is_new s (x ∷ xs) ys = meets-append is_new (meet is_new s x) xs ys

pub steps-none : (is_new : Bool) (b : Brought) → Steps is_new [] b b
steps-none is_new b s is = is

pub steps-append : (is_new : Bool) (xs ys : List Mark) (a b c : Brought) → Steps is_new xs a b → Steps is_new ys b c → Steps is_new (xs ++ ys) a c
steps-append is_new xs ys a b c f g s is =
    subst (λ (t : Met). IsMet t (referred_in c)) (sym (meets-append is_new s xs ys)) (g (meets is_new s xs) (f s is))

pub steps-one : (is_new : Bool) (m : Mark) (a b : Brought) → Refers is_new m (referred_in a) (referred_in b) → Steps is_new (m ∷ []) a b
steps-one is_new m a b refers s is = meet-step is_new m (referred_in a) (referred_in b) refers s is

-- ---- one reference of a group

module _ (is_new : Bool) (node link : Id) (a b : Brought) where
  abbrev mark_in : Group → Mark
  mark_in group = record { group = group; node = node; link = link }

  pub steps-changesets : b.changesets ≡ referred is_new (reference_of (mark_in Changesets)) a.changesets → b.manifests ≡ a.manifests → ((path : Bytes) → files_at b.files path ≡ files_at a.files path)
      → Steps is_new (mark_in Changesets ∷ []) a b
  steps-changesets own manifests files = steps-one is_new (mark_in Changesets) a b by
    where
      by : Refers is_new (mark_in Changesets) (referred_in a) (referred_in b)
      by Changesets = own
      by Manifests = manifests
      by (FilesAt path) = files path

  pub steps-manifests : b.manifests ≡ referred is_new (reference_of (mark_in Manifests)) a.manifests → b.changesets ≡ a.changesets → ((path : Bytes) → files_at b.files path ≡ files_at a.files path)
      → Steps is_new (mark_in Manifests ∷ []) a b
  steps-manifests own changesets files = steps-one is_new (mark_in Manifests) a b by
    where
      by : Refers is_new (mark_in Manifests) (referred_in a) (referred_in b)
      by Changesets = changesets
      by Manifests = own
      by (FilesAt path) = files path

  pub steps-files : (path : Bytes) → b.changesets ≡ a.changesets → b.manifests ≡ a.manifests
      → ((other : Bytes) → files_at b.files other ≡ (if bytes_eq path other then referred is_new (reference_of (mark_in (FilesAt path))) (files_at a.files path) else files_at a.files other))
      → Steps is_new (mark_in (FilesAt path) ∷ []) a b
  steps-files path changesets manifests own = steps-one is_new (mark_in (FilesAt path)) a b by
    where
      by : Refers is_new (mark_in (FilesAt path)) (referred_in a) (referred_in b)
      by Changesets = changesets
      by Manifests = manifests
      by (FilesAt other) = own other

-- nothing was met
pub none-is_met : {at : Group → Referred} → ((g : Group) → at g ≡ nothing) → IsMet none at
none-is_met is = record { met = λ g node link. ap (λ (x : Referred). has_id x.met node) (is g); brought = λ g. ap (λ (x : Referred). x.brought) (is g) }

-- ---- what was met before

same-any : (q m : Mark) (xs : List Mark) → same_mark q m ≡ true → list_any (same_mark q) xs ≡ list_any (same_mark m) xs
same-any q m xs e =
    let is = both (same_group q.group m.group) (bytes_eq q.node m.node) e in
    (λ i. list_any (λ (x : Mark). same_group (same_group-is q.group m.group is.0 i) x.group && bytes_eq ((bytes_eq-Decides q.node m.node).0 is.1 i) x.node) xs)

-- a mark that was met changes nothing
pub meet-known : (is_new : Bool) (m : Mark) (at : Group → Referred) (s : Met) → IsMet s at → list_any (same_mark m) s.all ≡ true → IsMet (meet is_new s m) at
meet-known is_new m at s is known = record { met = there; brought = λ g. is.brought g ∙ ap (references_at g) (sym unchanged) }
  where
    fail : (n : Bool) → (n && not true) ≡ false
    fail true = refl
    fail false = refl

    unchanged : (meet is_new s m).brought ≡ s.brought
    unchanged = rw (known, fail is_new) refl

    there : (g : Group) (node link : Id) → has_id (at g).met node ≡ list_any (same_mark (record { group = g; node = node; link = link })) (s.all ++ m ∷ [])
    there g node link = is.met g node link ∙ by (same_mark q m) refl ∙ sym (list_any-append (same_mark q) s.all (m ∷ []))
      where
        q : Mark
        q = record { group = g; node = node; link = link }

        by : (b : Bool) → same_mark q m ≡ b → list_any (same_mark q) s.all ≡ (list_any (same_mark q) s.all || list_any (same_mark q) (m ∷ []))
        by true e = let one : list_any (same_mark q) s.all ≡ true = same-any q m s.all e ∙ known in rw one refl
        by false e = let none : list_any (same_mark q) (m ∷ []) ≡ false = rw e refl in sym (ap (λ (b : Bool). list_any (same_mark q) s.all || b) none ∙ or_false (list_any (same_mark q) s.all))

pub all-meets : (is_new : Bool) (s : Met) (ms : List Mark) → (meets is_new s ms).all ≡ s.all ++ ms
all-meets is_new s [] = sym (append-nil s.all)
all-meets is_new s (m ∷ ms) = all-meets is_new (meet is_new s m) ms ∙ append_assoc s.all (m ∷ []) ms

pub lines-more : (is_new : Bool) (s : Met) (ms : List Mark) (es : List ManifestEntry) → Each (IsLineMet s) es → Each (IsLineMet (meets is_new s ms)) es
lines-more is_new s ms [] h = tt
lines-more is_new s ms (e ∷ es) h =
    (ap (list_any (same_mark (file_mark null e))) (all-meets is_new s ms) ∙ list_any-append (same_mark (file_mark null e)) s.all ms ∙ or_left _ _ h.0, lines-more is_new s ms es h.1)

-- the line was met where one with the same path and node was
pub line-met : (s : Met) (entries : List ManifestEntry) (e : ManifestEntry) → HasLine e.path e.node entries → Each (IsLineMet s) entries → IsLineMet s e
line-met s [] e h met = absurd h
line-met s (o ∷ os) e (inl is) met = (λ i. list_any (λ (x : Mark). same_group (FilesAt (sym is.0 i)) x.group && bytes_eq (sym is.1 i) x.node) s.all) ∙ met.0
line-met s (o ∷ os) e (inr h) met = line-met s os e h met.1

each-any-more : (m : Mark) (ms : List Mark) (es : List ManifestEntry) → Each (λ e. list_any (same_mark (file_mark null e)) ms ≡ true) es → Each (λ e. list_any (same_mark (file_mark null e)) (m ∷ ms) ≡ true) es
each-any-more m ms [] h = tt
each-any-more m ms (e ∷ es) h = (or_right (same_mark (file_mark null e) m) _ h.0, each-any-more m ms es h.1)

own-lines : (link : Id) (es : List ManifestEntry) → Each (λ e. list_any (same_mark (file_mark null e)) (map (file_mark link) es) ≡ true) es
own-lines link [] = tt
own-lines link (e ∷ es) =
    (or_left (same_mark (file_mark null e) (file_mark link e)) _ (rw (bytes_eq-self e.path, bytes_eq-self e.node) refl), each-any-more (file_mark link e) (map (file_mark link) es) es (own-lines link es))

-- the lines of a manifest were met behind its changeset
pub view-lines : (is_new : Bool) (s : Met) (link manifest : Id) (es : List ManifestEntry) → Each (IsLineMet (meets is_new s (view_marks link manifest es))) es
view-lines is_new s link manifest es = by es (own-lines link es)
  where
    front : List Mark
    front = s.all ++ (own_mark link ∷ manifest_marks link manifest)

    all : (meets is_new s (view_marks link manifest es)).all ≡ front ++ map (file_mark link) es
    all = all-meets is_new s (view_marks link manifest es) ∙ sym (append_assoc s.all (own_mark link ∷ manifest_marks link manifest) (map (file_mark link) es))

    by : (fs : List ManifestEntry) → Each (λ e. list_any (same_mark (file_mark null e)) (map (file_mark link) es) ≡ true) fs → Each (IsLineMet (meets is_new s (view_marks link manifest es))) fs
    by [] h = tt
    by (f ∷ fs) h = (ap (list_any (same_mark (file_mark null f))) all ∙ list_any-append (same_mark (file_mark null f)) front (map (file_mark link) es) ∙ or_right _ _ h.0, by fs h.1)

pub after-append : (before : List ManifestEntry) (is_new : Bool) (xs ys : List Mark) (a b c : Brought) → StepsAfter before is_new xs a b → StepsAfter before is_new ys b c → StepsAfter before is_new (xs ++ ys) a c
after-append before is_new xs ys a b c f g s is met =
    subst (λ (t : Met). IsMet t (referred_in c)) (sym (meets-append is_new s xs ys)) (g (meets is_new s xs) (f s is met) (lines-more is_new s xs before met))

pub met-line : (s : Met) (entries : List ManifestEntry) (e : ManifestEntry) (b : Bool) → OnTrue b (HasLine e.path e.node entries) → Each (IsLineMet s) entries → OnTrue b (IsLineMet s e)
met-line s entries e true h met = line-met s entries e h met
met-line s entries e false h met = tt
