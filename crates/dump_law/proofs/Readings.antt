-- What bytes bring is the same over the same known revisions and objects.
use Rattle.std.proofs.Common.{◌≡◌, ◌⊎◌, inl, inr, ◌&&◌, ◌||◌, ◌+◌, ℕ, Bool, true, false, true≢false, not, List, [], ◌∷◌, ◌++◌, length, Option, Some, None, Result, Err, refl, sym, ap, subst, ◌∙◌}
use Rattle.std.specs.Prelude.{bytes_eq, is_some, option_map, if◌then◌else◌}
use Rattle.std.specs.List.{list_any}
use Rattle.std.specs.Option.{option_or}
use Rattle.std.proofs.lemmas.List.Folds.{find-append}
use Rattle.text_model.specs.Lists.{In}
use Rattle.text_model.specs.Text.{Bytes}
use Rattle.text_model.specs.Id.{Id, is_null, node_id, object_id}
use Rattle.text_model.specs.Path.{is_fit_path}
use Rattle.text_model.specs.Fault.{FaultName, Refusal, refusal, refusal_at}
use Rattle.text_model.specs.Fault as fault
use Rattle.text_model.proofs.TestLemmas.{both, same_bool, bytes_eq-self}
use Rattle.text_model.proofs.Elements.{in_left, in_right, in_any}
use Rattle.text_model.proofs.Options.{some_is}
use Rattle.hg_model.specs.Bundle.{Place, InGroup, AtPath, Item, BundleEntry, bundle_framing, entry_of, is_short}
use Rattle.hg_model.specs.Revision.{Group, Changesets, Manifests, FilesAt, Revision, is_of, revision_of, knows, known_after, same_parents, same_revision, is_otherwise, is_bad_link, first_name, named_if, order_fault, shape_fault, ancestry_fault, text_fault}
use Rattle.hg_model.specs.Reading.{Arrival, base_of, EntryText, Is, HunkRefused, NoBase, entry_text, entry_fault, text_or_empty, revision_by, put_arrival, arrivals_from, bundle_reading}
use Rattle.hg_model.proofs.RevisionLemmas.{same_group-self}
use Rattle.git_model.specs.Object.{Object, object_at, knows_object, has_id, is_other_content, content_fault, object_fault, objects_after}
use Rattle.git_model.specs.Stream.{Placed, stream_framing, placed_fault, objects_fault, reading_by, stream_reading}
use Rattle.hg_dump_law.proofs.Known.{is_of-is}
use Rattle.dump_law.specs.Same.{AreSameKnown, AreSingle, AreSameObjects, BundlesAreSame, StreamsAreSame}
use Rattle.dump_law.proofs.Saved.{finds}
use Rattle.dump_law.proofs.Trees.{found_is}
use Rattle.dump_law.proofs.Streams.{of_append}
use Rattle.dump_law.proofs.Same.{parents-turn, parents-then, knows-same, text-same}

any_in : {X : Type 0} (p : X → Bool) (xs : List X) → list_any p xs ≡ true → (x : X) × In x xs × (p x ≡ true)
any_in p [] h = absurd (true≢false (sym h))
any_in {X = X} p (x ∷ xs) h = by (p x) refl (any_in p xs)
  where
    by : (t : Bool) → p x ≡ t → (list_any p xs ≡ true → (y : X) × In y xs × (p y ≡ true)) → (y : X) × In y (x ∷ xs) × (p y ≡ true)
    by true e go = (x, inl refl, e)
    by false e go = let r = go (sym (ap (λ (b : Bool). b || list_any p xs) e) ∙ h) in (r.0, inr r.1, r.2)

-- ---- collisions

abbrev other_in : Revision → Option Revision → Bool
other_in r None = false
other_in r (Some s) = not (bytes_eq r.text s.text && same_parents r.group r.p r.q s.p s.q)

collides_is : (xs : List Revision) → AreSingle xs → (r : Revision) → list_any (is_otherwise r) xs ≡ other_in r (revision_of xs r.group r.node)
collides_is xs single r = same_bool (list_any (is_otherwise r) xs) (other_in r (revision_of xs r.group r.node)) to (λ h. from (revision_of xs r.group r.node) refl h)
  where
    to : list_any (is_otherwise r) xs ≡ true → other_in r (revision_of xs r.group r.node) ≡ true
    to h =
        let y = any_in (is_otherwise r) xs h in
        let t = both (same_revision r y.0) (not (bytes_eq r.text y.0.text && same_parents r.group r.p r.q y.0.p y.0.q)) y.2 in
        let f = finds (is_of r.group r.node) y.0 xs y.1 t.0 in
        let a = is_of-is r.group r.node y.0 t.0 in
        let alike : same_revision y.0 f.it ≡ true = sym (λ i. is_of (a.group_is i) (a.node_is i) f.it) ∙ f.passes in
        let is : y.0 ≡ f.it = single y.0 f.it y.1 f.there alike in
        ap (other_in r) (f.is ∙ ap Some (sym is)) ∙ t.1

    from : (o : Option Revision) → revision_of xs r.group r.node ≡ o → other_in r (revision_of xs r.group r.node) ≡ true → list_any (is_otherwise r) xs ≡ true
    from None e h = absurd (true≢false (sym h ∙ ap (other_in r) e))
    from (Some s) e h =
        let f = found_is (is_of r.group r.node) s xs e in
        let n : other_in r (Some s) ≡ true = sym (ap (other_in r) e) ∙ h in
        in_any (is_otherwise r) xs s f.0 (ap (λ (b : Bool). b && not (bytes_eq r.text s.text && same_parents r.group r.p r.q s.p s.q)) f.1 ∙ n)

module _ (xs ys : List Revision) (same : AreSameKnown xs ys) where
  other_same : (r : Revision) → other_in r (revision_of xs r.group r.node) ≡ other_in r (revision_of ys r.group r.node)
  other_same r = by (revision_of xs r.group r.node) refl (revision_of ys r.group r.node) refl
    where
      by : (o : Option Revision) → revision_of xs r.group r.node ≡ o → (u : Option Revision) → revision_of ys r.group r.node ≡ u → other_in r (revision_of xs r.group r.node) ≡ other_in r (revision_of ys r.group r.node)
      by None e None f = rw (e, f) refl
      by None e (Some s) f = absurd (true≢false (sym (same.from r.group r.node (ap is_some f)) ∙ ap is_some e))
      by (Some a) e u f =
          let t = same.to r.group r.node a e in
          let parents = same_bool (same_parents r.group r.p r.q a.p a.q) (same_parents r.group r.p r.q t.0.p t.0.q)
          (λ h. parents-then r.group r.p r.q a.p a.q t.0.p t.0.q h t.3)
          (λ h. parents-then r.group r.p r.q t.0.p t.0.q a.p a.q h (parents-turn r.group a.p a.q t.0.p t.0.q t.3)) in
          ap (other_in r) e ∙ (λ i. not (bytes_eq r.text (sym t.2 i) && parents i)) ∙ sym (ap (other_in r) t.1)

  ancestry_same : (r : Revision) → ancestry_fault xs r ≡ ancestry_fault ys r
  unfolding ancestry_fault
  ancestry_same r =
      (λ i. first_name (
      order_fault r.group r
      ∷ named_if (not ((is_null r.p || knows-same xs ys same r.group r.p i) && (is_null r.q || knows-same xs ys same r.group r.q i))) fault.ParentUnknown
      ∷ named_if (bad_link r.group i) fault.LinkUnknown
      ∷ []))
    where
      bad_link : (g : Group) → is_bad_link xs g r ≡ is_bad_link ys g r
      bad_link Changesets = refl
      bad_link Manifests = ap not (knows-same xs ys same Changesets r.link)
      bad_link (FilesAt path) = ap not (knows-same xs ys same Changesets r.link)

  base_same : (group : Group) (first : Bool) (previous : Bytes) (p : Id) → base_of xs group first previous p ≡ base_of ys group first previous p
  base_same group true previous p = ap (λ (o : Option Bytes). if is_null p then Some [] else o) (text-same xs ys same group p)
  base_same group false previous p = refl

  module _ (one : AreSingle xs) (also : AreSingle ys) where
    collides_same : (r : Revision) → list_any (is_otherwise r) xs ≡ list_any (is_otherwise r) ys
    collides_same r = collides_is xs one r ∙ other_same r ∙ sym (collides_is ys also r)

    text_fault_same : (r : Revision) → text_fault xs r ≡ text_fault ys r
    unfolding text_fault
    text_fault_same r =
        (λ i. first_name (
        named_if (not (bytes_eq r.node (node_id r.p r.q r.text))) fault.NodeWrong
        ∷ shape_fault r.group r.text
        ∷ named_if (is_null r.node || collides_same r i) fault.Collision
        ∷ []))

    entry_same : (sum : ℕ) (group : Group) (at : ℕ) (e : BundleEntry) (text : EntryText) → entry_fault xs sum group at e text ≡ entry_fault ys sum group at e text
    unfolding entry_fault
    entry_same sum group at e (Is text) = rw (ancestry_same (revision_by group e text), text_fault_same (revision_by group e text)) refl
    entry_same sum group at e (HunkRefused name place) = rw (ancestry_same (revision_by group e [])) refl
    entry_same sum group at e NoBase = rw (ancestry_same (revision_by group e [])) refl

-- ---- one revision more

parents_self : (g : Group) (p q : Id) → same_parents g p q p q ≡ true
parents_self Changesets p q = rw (bytes_eq-self p, bytes_eq-self q) refl
parents_self Manifests p q = rw (bytes_eq-self p, bytes_eq-self q) refl
parents_self (FilesAt path) p q = rw (bytes_eq-self p, bytes_eq-self q) refl

pushed_same : (xs ys : List Revision) → AreSameKnown xs ys → (r : Revision) → AreSameKnown (xs ++ r ∷ []) (ys ++ r ∷ [])
pushed_same xs ys same r = record { to = λ g n q h. to g n q h (revision_of xs g n) refl (revision_of ys g n) refl; from = λ g n k. from g n (revision_of ys g n) refl k }
  where
    push : (zs : List Revision) (g : Group) (n : Id) → revision_of (zs ++ r ∷ []) g n ≡ option_or (revision_of zs g n) (revision_of (r ∷ []) g n)
    push zs g n = find-append (is_of g n) zs (r ∷ [])

    to : (g : Group) (n : Id) (q : Revision) → revision_of (xs ++ r ∷ []) g n ≡ Some q → (o : Option Revision) → revision_of xs g n ≡ o → (u : Option Revision) → revision_of ys g n ≡ u
        → (s : Revision) × (revision_of (ys ++ r ∷ []) g n ≡ Some s) × (s.text ≡ q.text) × (same_parents g q.p q.q s.p s.q ≡ true)
    to g n q h (Some a) e u f =
        let t = same.to g n a e in
        let is : a ≡ q = some_is (sym (push xs g n ∙ ap (λ (o : Option Revision). option_or o (revision_of (r ∷ []) g n)) e) ∙ h) in (
          t.0,
          push ys g n ∙ ap (λ (o : Option Revision). option_or o (revision_of (r ∷ []) g n)) t.1,
          t.2 ∙ ap (λ (x : Revision). x.text) is,
          subst (λ (x : Revision). same_parents g x.p x.q t.0.p t.0.q ≡ true) is t.3,
        )
    to g n q h None e (Some s) f = absurd (true≢false (sym (same.from g n (ap is_some f)) ∙ ap is_some e))
    to g n q h None e None f =
        (q, push ys g n ∙ ap (λ (o : Option Revision). option_or o (revision_of (r ∷ []) g n)) f ∙ sym (push xs g n ∙ ap (λ (o : Option Revision). option_or o (revision_of (r ∷ []) g n)) e) ∙ h, refl, parents_self g q.p q.q)

    from : (g : Group) (n : Id) (o : Option Revision) → revision_of ys g n ≡ o → is_some (revision_of (ys ++ r ∷ []) g n) ≡ true → is_some (revision_of (xs ++ r ∷ []) g n) ≡ true
    from g n o e k = by (revision_of xs g n) refl
      where
        other : revision_of xs g n ≡ None → revision_of ys g n ≡ None
        other f = at (revision_of ys g n) refl
          where
            at : (u : Option Revision) → revision_of ys g n ≡ u → revision_of ys g n ≡ None
            at None d = d
            at (Some s) d = absurd (true≢false (sym (same.from g n (ap is_some d)) ∙ ap is_some f))

        by : (u : Option Revision) → revision_of xs g n ≡ u → is_some (revision_of (xs ++ r ∷ []) g n) ≡ true
        by (Some a) f = ap is_some (push xs g n ∙ ap (λ (o : Option Revision). option_or o (revision_of (r ∷ []) g n)) f)
        by None f =
            ap is_some (push xs g n ∙ ap (λ (o : Option Revision). option_or o (revision_of (r ∷ []) g n)) f)
            ∙ sym (ap is_some (push ys g n ∙ ap (λ (o : Option Revision). option_or o (revision_of (r ∷ []) g n)) (other f))) ∙ k

pub after_same : (xs ys : List Revision) → AreSameKnown xs ys → (r : Revision) → AreSameKnown (known_after xs r) (known_after ys r)
after_same xs ys same r = by (knows xs r.group r.node) refl
  where
    by : (t : Bool) → knows xs r.group r.node ≡ t → AreSameKnown (known_after xs r) (known_after ys r)
    by true e = rw (e, sym (knows-same xs ys same r.group r.node) ∙ e) same
    by false e = rw (e, sym (knows-same xs ys same r.group r.node) ∙ e) (pushed_same xs ys same r)

pub after_single : (xs : List Revision) → AreSingle xs → (r : Revision) → AreSingle (known_after xs r)
after_single xs one r = by (knows xs r.group r.node) refl
  where
    new : knows xs r.group r.node ≡ false → (a : Revision) → In a xs → is_of r.group r.node a ≡ true → ⊥
    new e a i h = true≢false (sym (ap is_some (finds (is_of r.group r.node) a xs i h).is) ∙ e)

    turned : (a b : Revision) → same_revision a b ≡ true → is_of b.group b.node a ≡ true
    turned a b h = let t = is_of-is a.group a.node b h in rw (sym t.group_is, sym t.node_is) (rw (same_group-self a.group, bytes_eq-self a.node) refl)

    pushed : knows xs r.group r.node ≡ false → AreSingle (xs ++ r ∷ [])
    pushed e a b i j h = at (of_append a xs (r ∷ []) i) (of_append b xs (r ∷ []) j)
      where
        at : In a xs ⊎ In a (r ∷ []) → In b xs ⊎ In b (r ∷ []) → a ≡ b
        at (inl x) (inl y) = one a b x y h
        at (inl x) (inr (inl y)) = absurd (new e a x (subst (λ (z : Revision). is_of z.group z.node a ≡ true) y (turned a b h)))
        at (inl x) (inr (inr y)) = absurd y
        at (inr (inl x)) (inl y) = absurd (new e b y (subst (λ (z : Revision). is_of z.group z.node b ≡ true) x h))
        at (inr (inl x)) (inr (inl y)) = x ∙ sym y
        at (inr (inl x)) (inr (inr y)) = absurd y
        at (inr (inr x)) k = absurd x

    by : (t : Bool) → knows xs r.group r.node ≡ t → AreSingle (known_after xs r)
    by true e = rw e one
    by false e = rw e (pushed e)

-- ---- the items of a bundle

abbrev entry_then : Item → Group → EntryText → Option Refusal → Bool → Result (List Arrival) Refusal → Result (List Arrival) Refusal
entry_then item group text why fresh rest =
    elim (if is_short item then Some (refusal_at fault.HeaderShort item.at) else why) as (λ _. Result (List Arrival) Refusal) [
      | Some refused ↦ Err refused
      | None ↦ put_arrival (record { revision = revision_by group (entry_of item.payload) (text_or_empty text); at = item.at; fresh = fresh }) rest
    ]

readings_same : (items : List Item) (bad : Option Refusal) (xs ys : List Revision) → AreSameKnown xs ys → AreSingle xs → AreSingle ys → (previous : Bytes) (sum : ℕ)
    → arrivals_from xs previous sum items bad ≡ arrivals_from ys previous sum items bad
unfolding arrivals_from
readings_same [] None xs ys same one also previous sum = refl
readings_same [] (Some why) xs ys same one also previous sum = refl
readings_same (item ∷ items) bad xs ys same one also previous sum = step item.place item.first item.at item.payload (readings_same items bad)
  where
    step : (place : Place) (first : Bool) (at : ℕ) (payload : Bytes)
        → ((xs ys : List Revision) → AreSameKnown xs ys → AreSingle xs → AreSingle ys → (previous : Bytes) (sum : ℕ) → arrivals_from xs previous sum items bad ≡ arrivals_from ys previous sum items bad)
        → arrivals_from xs previous sum (record { place = place; first = first; at = at; payload = payload } ∷ items) bad
        ≡ arrivals_from ys previous sum (record { place = place; first = first; at = at; payload = payload } ∷ items) bad
    step AtPath first at payload later = ap (λ (r : Result (List Arrival) Refusal). if is_fit_path payload then r else Err (refusal_at fault.PathUnfit at)) (later xs ys same one also [] sum)
    step (InGroup group) first at payload later =
        let item : Item = record { place = InGroup group; first = first; at = at; payload = payload } in
        let e = entry_of payload in
        let whole : List Revision → EntryText → Result (List Arrival) Refusal = λ known text.
        entry_then (record { place = InGroup group; first = first; at = at; payload = payload }) group text (entry_fault known sum group at (entry_of payload) text) (not (knows known group (entry_of payload).node))
        (arrivals_from (known_after known (revision_by group (entry_of payload) (text_or_empty text))) (text_or_empty text) (sum + length (text_or_empty text)) items bad) in
        let x : EntryText = entry_text (base_of xs group first previous e.p) e.delta in
        let y : EntryText = entry_text (base_of ys group first previous e.p) e.delta in
        let texts : x ≡ y = ap (λ (o : Option Bytes). entry_text o e.delta) (base_same xs ys same group first previous e.p) in
        let revision = revision_by group e (text_or_empty y) in
        let rest = later (known_after xs revision) (known_after ys revision) (after_same xs ys same revision) (after_single xs one revision) (after_single ys also revision) (text_or_empty y) (sum + length (text_or_empty y)) in
        ap (whole xs) texts
        ∙ (λ i. entry_then (record { place = InGroup group; first = first; at = at; payload = payload }) group y (entry_same xs ys same one also sum group at e y i) (not (knows-same xs ys same group e.node i)) (rest i))

pub bundles_same : BundlesAreSame
unfolding bundle_reading
bundles_same xs ys same one also bytes = readings_same (bundle_framing bytes).items (bundle_framing bytes).bad xs ys same one also [] 0

-- ---- objects

module _ (xs ys : List Object) (same : AreSameObjects xs ys) where
  object_same : (o : Object) → object_fault xs o ≡ object_fault ys o
  unfolding object_fault
  object_same o =
      let others : list_any (is_other_content o) xs ≡ list_any (is_other_content o) ys =
      same_bool (list_any (is_other_content o) xs) (list_any (is_other_content o) ys)
      (λ h. let x = any_in (is_other_content o) xs h in in_any (is_other_content o) ys x.0 (same.to x.0 x.1) x.2)
      (λ h. let y = any_in (is_other_content o) ys h in in_any (is_other_content o) xs y.0 (same.from y.0 y.1) y.2) in
      (λ i. elim (content_fault o.kind o.content) as (λ _. Option FaultName) [
        | Some name ↦ Some name
        | None ↦ if others i then Some fault.Collision else None
      ])

  placed_same : (o : Placed) → placed_fault xs o ≡ placed_fault ys o
  placed_same o = (λ i.
      if bytes_eq (o.object).id (object_id (o.object).kind (o.object).content)
      then option_map (λ name. refusal name (o.object).id o.at) (object_same o.object i)
      else Some (refusal fault.IdWrong (o.object).id o.at))

  pub objects_after_same : (o : Object) → AreSameObjects (objects_after xs o) (objects_after ys o)
  objects_after_same o = by (knows_object xs o.id) refl
    where
      knows : knows_object xs o.id ≡ knows_object ys o.id
      knows = ap is_some (same.at o.id)

      push : (as' bs : List Object) → ((x : Object) → In x as' → In x bs) → (x : Object) → In x (as' ++ o ∷ []) → In x (bs ++ o ∷ [])
      push as' bs f x i = elim (of_append x as' (o ∷ []) i) [ inl j ↦ in_left x bs (o ∷ []) (f x j) | inr j ↦ in_right x bs (o ∷ []) j ]

      by : (t : Bool) → knows_object xs o.id ≡ t → AreSameObjects (objects_after xs o) (objects_after ys o)
      by true e = rw (e, sym knows ∙ e) same
      by false e = rw (e, sym knows ∙ e) (record {
        to = push xs ys same.to;
        from = push ys xs same.from;
        at = λ id. find-append (has_id id) xs (o ∷ []) ∙ ap (λ (u : Option Object). option_or u (object_at (o ∷ []) id)) (same.at id) ∙ sym (find-append (has_id id) ys (o ∷ []));
      })

faults_same : (objects : List Placed) (bad : Option Refusal) (xs ys : List Object) → AreSameObjects xs ys → objects_fault xs objects bad ≡ objects_fault ys objects bad
unfolding objects_fault
faults_same [] bad xs ys same = refl
faults_same (o ∷ objects) bad xs ys same =
    let rest = faults_same objects bad (objects_after xs o.object) (objects_after ys o.object) (objects_after_same xs ys same o.object) in
    (λ i. elim (placed_same xs ys same o i) as (λ _. Option Refusal) [
      | Some why ↦ Some why
      | None ↦ rest i
    ])

pub streams_same : StreamsAreSame
unfolding stream_reading
streams_same xs ys same bytes = ap (reading_by (stream_framing bytes).objects) (faults_same (stream_framing bytes).objects (stream_framing bytes).bad xs ys same)
