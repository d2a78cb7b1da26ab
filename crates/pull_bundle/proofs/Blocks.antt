-- Blocks that changesets bring, one behind another.
use Rattle.std.proofs.Common.{◌≡◌, ◌⊎◌, inl, inr, ◌||◌, Bool, true, false, true≢false, List, [], ◌∷◌, ◌++◌, refl, sym, ap, subst, ◌∙◌, append_assoc, append-nil}
use Rattle.std.specs.Prelude.{is_some, map, IsTrue}
use Rattle.std.specs.List.{list_any}
use Rattle.text_model.specs.Lists.{In}
use Rattle.text_model.specs.Id.{Id}
use Rattle.text_model.specs.Fault.{FaultName}
use Rattle.text_model.proofs.TestLemmas.{or_true, same_bool}
use Rattle.text_model.proofs.Elements.{flat_map_append, map_append}
use Rattle.hg_model.specs.Revision.{Revision}
use Rattle.git_model.specs.Object.{Object, is_other_content}
use Rattle.view_model.specs.View.{ChangesetView, CommitView, CommitFits, Row, commit_objects, commit_id}
use Rattle.view_model.specs.Dump.{objects_in}
use Rattle.pair_model.specs.Block.{Block, block_of_id, commits_in}
use Rattle.pair_model.specs.Collision.{commit_collides}
use Rattle.partner_model.specs.Clash.{commit_side_collides, is_any_saved, do_bodies_collide, body_object, IsColliding, MeetsCollision}
use Rattle.partner_model.specs.Partner.{IsHeldView, Member, OfHg, OfGit}
use Rattle.history_model.specs.Pull.{BringBlocks, GivesBlock, BlockRefused, ViewRefused, ChangesetRefused, IsKnownLink, is_saved}
use Rattle.pair_state.specs.Push.{HaveSame}

-- ---- lists with the same elements

module _ {X : Type 0} where
  in-left : (x : X) (xs ys : List X) → In x xs → In x (xs ++ ys)
  in-left x [] ys i = absurd i
  in-left x (y ∷ xs) ys i = elim i [ inl q ↦ inl q | inr j ↦ inr (in-left x xs ys j) ]

  in-right : (x : X) (xs ys : List X) → In x ys → In x (xs ++ ys)
  in-right x [] ys i = i
  in-right x (y ∷ xs) ys i = inr (in-right x xs ys i)

  in-one : (x : X) (xs ys : List X) → In x (xs ++ ys) → In x xs ⊎ In x ys
  in-one x [] ys i = inr i
  in-one x (y ∷ xs) ys i = elim i [ inl q ↦ inl (inl q) | inr j ↦ later (in-one x xs ys j) ]
    where
      later : (In x xs ⊎ In x ys) → (In x (y ∷ xs) ⊎ In x ys)
      later (inl k) = inl (inr k)
      later (inr k) = inr k

  more-in : (xs ys zs : List X) → ((x : X) → In x xs → In x ys) → (x : X) → In x (xs ++ zs) → In x (ys ++ zs)
  more-in xs ys zs f x i = elim (in-one x xs zs i) [ inl j ↦ in-left x ys zs (f x j) | inr j ↦ in-right x ys zs j ]

  pub same-more : (xs ys zs : List X) → HaveSame xs ys → HaveSame (xs ++ zs) (ys ++ zs)
  same-more xs ys zs h = (more-in xs ys zs h.0, more-in ys xs zs h.1)

  pub same-then : (xs ys zs : List X) → HaveSame xs ys → HaveSame ys zs → HaveSame xs zs
  same-then xs ys zs h k = ((λ x i. k.0 x (h.0 x i)), (λ x i. h.1 x (k.1 x i)))

  pub same-turned : (xs ys : List X) → HaveSame xs ys → HaveSame ys xs
  same-turned xs ys h = (h.1, h.0)

  any-in : (p : X → Bool) (xs : List X) → list_any p xs ≡ true → (x : X) × In x xs × (p x ≡ true)
  any-in p [] h = absurd (true≢false (sym h))
  any-in p (a ∷ xs) h = by (p a) refl h (any-in p xs)
    where
      by : (t : Bool) → p a ≡ t → (t || list_any p xs) ≡ true → (list_any p xs ≡ true → (x : X) × In x xs × (p x ≡ true)) → (x : X) × In x (a ∷ xs) × (p x ≡ true)
      by true e i rec = (a, inl refl, e)
      by false e i rec = let r = rec i in (r.0, inr r.1, r.2)

  in-any : (p : X → Bool) (xs : List X) (x : X) → In x xs → p x ≡ true → list_any p xs ≡ true
  in-any p [] x i h = absurd i
  in-any p (a ∷ xs) x i h = elim i [
    | inl q ↦ ap (λ (t : Bool). t || list_any p xs) (sym (ap p q) ∙ h)
    | inr j ↦ ap (λ (t : Bool). p a || t) (in-any p xs x j h) ∙ or_true (p a)
  ]

  any-same : (p : X → Bool) (xs ys : List X) → HaveSame xs ys → list_any p xs ≡ list_any p ys
  any-same p xs ys h = same_bool (list_any p xs) (list_any p ys)
      (λ e. let a = any-in p xs e in in-any p ys a.0 (h.0 a.0 a.1) a.2)
      (λ e. let a = any-in p ys e in in-any p xs a.0 (h.1 a.0 a.1) a.2)

any-alike : {X : Type 0} (p q : X → Bool) → ((x : X) → p x ≡ q x) → (xs : List X) → list_any p xs ≡ list_any q xs
any-alike p q e [] = refl
any-alike p q e (x ∷ xs) = (λ i. e x i || any-alike p q e xs i)

collides-same : (xs ys : List Object) (blocks : List Block) (c : CommitView) → HaveSame xs ys → commit_collides xs blocks c ≡ commit_collides ys blocks c
collides-same xs ys blocks c h =
    ap (λ (b : Bool). b || is_some (block_of_id blocks (commit_id c)))
    (any-alike (λ o. list_any (is_other_content o) (xs ++ commit_objects c)) (λ o. list_any (is_other_content o) (ys ++ commit_objects c))
    (λ o. any-same (is_other_content o) (xs ++ commit_objects c) (ys ++ commit_objects c) (same-more xs ys (commit_objects c) h)) (commit_objects c))

pub side-same : (xs ys : List Object) (blocks : List Block) (b : Block) → HaveSame xs ys → commit_side_collides xs blocks b ≡ commit_side_collides ys blocks b
side-same xs ys blocks b h = ap (λ (t : Bool). t || is_any_saved blocks b.links) (collides-same xs ys blocks b.commit h)

-- ---- refusals and blocks over objects that are the same

bodies-same : (xs ys : List Object) (rows : List Row) → HaveSame xs ys → do_bodies_collide xs rows ≡ do_bodies_collide ys rows
bodies-same xs ys rows h =
    any-alike (λ row. list_any (is_other_content (body_object row)) (xs ++ map body_object rows)) (λ row. list_any (is_other_content (body_object row)) (ys ++ map body_object rows))
    (λ row. any-same (is_other_content (body_object row)) (xs ++ map body_object rows) (ys ++ map body_object rows) (same-more xs ys (map body_object rows) h)) rows

colliding-same : (xs ys : List Object) (blocks : List Block) (K : ChangesetView → Type 0) (m : Member) → HaveSame xs ys → IsColliding blocks K xs m → IsColliding blocks K ys m
colliding-same xs ys blocks K (OfHg h) same c = (c.0, c.1, sym (bodies-same xs ys h.rows same) ∙ c.2)
colliding-same xs ys blocks K (OfGit v) same c = absurd c

meets-same : (xs ys : List Object) (blocks : List Block) (K : ChangesetView → Type 0) (m : Member) → HaveSame xs ys → MeetsCollision blocks K xs m → MeetsCollision blocks K ys m
meets-same xs ys blocks K m same c =
    record { count = c.count; below = c.below; member = c.member; peels = c.peels; marked = c.marked; collides = colliding-same xs ys blocks K c.member same c.collides }

module _ (xs ys : List Object) (same : HaveSame xs ys) where
  back : (known : List Revision) (blocks : List Block) (h : ChangesetView) → MeetsCollision blocks (IsHeldView known) ys (OfHg h) → MeetsCollision blocks (IsHeldView known) xs (OfHg h)
  back known blocks h c = meets-same ys xs blocks (IsHeldView known) (OfHg h) (same-turned xs ys same) c

  block-same : (Large : Type 0) (blocks : List Block) (b : Block) (name : FaultName) → BlockRefused Large (IsTrue (commit_side_collides xs blocks b)) blocks b name → BlockRefused Large (IsTrue (commit_side_collides ys blocks b)) blocks b name
  block-same Large blocks b name (inl large) = inl large
  block-same Large blocks b name (inr (nl, inl f)) = inr (nl, inl f)
  block-same Large blocks b name (inr (nl, inr (nf, inl m))) = inr (nl, inr (nf, inl m))
  block-same Large blocks b name (inr (nl, inr (nf, inr (nm, inl c)))) = inr (nl, inr (nf, inr (nm, inl (sym (side-same xs ys blocks b same) ∙ c.0, c.1))))
  block-same Large blocks b name (inr (nl, inr (nf, inr (nm, inr c)))) = absurd c.1

  view-same : (known : List Revision) (blocks : List Block) (h : ChangesetView) (name : FaultName) → ViewRefused known xs blocks h name → ViewRefused known ys blocks h name
  view-same known blocks h name (inl a) = inl a
  view-same known blocks h name (inr (na, inl b)) = inr (na, inl b)
  view-same known blocks h name (inr (na, inr (nb, inl c))) = inr (na, inr (nb, inl (meets-same xs ys blocks (IsHeldView known) (OfHg h) same c.0, c.1)))
  view-same known blocks h name (inr (na, inr (nb, inr (nc, inl d)))) = inr (na, inr (nb, inr ((λ m. nc (back known blocks h m)), inl d)))
  view-same known blocks h name (inr (na, inr (nb, inr (nc, inr (nd, (b, is, why)))))) =
      inr (na, inr (nb, inr ((λ m. nc (back known blocks h m)), inr (nd, (b, is, block-same (¬ (CommitFits b.commit)) blocks b name why)))))

  pub refused-same : (known : List Revision) (blocks : List Block) (node : Id) (name : FaultName) → ChangesetRefused known xs blocks node name → ChangesetRefused known ys blocks node name
  refused-same known blocks node name (r, at, inl a) = (r, at, inl a)
  refused-same known blocks node name (r, at, inr (na, inl b)) = (r, at, inr (na, inl b))
  refused-same known blocks node name (r, at, inr (na, inr (nb, (h, held, why)))) = (r, at, inr (na, inr (nb, (h, held, view-same known blocks h name why))))

  gives-same : (known : List Revision) (blocks : List Block) (node : Id) (b : Block) → GivesBlock known xs blocks node b → GivesBlock known ys blocks node b
  gives-same known blocks node b g = record {
    view = g.view;
    is_held = g.is_held;
    passes = record {
      no_clash = g.passes.no_clash;
      on_no_link = g.passes.on_no_link;
      no_collision = λ m. g.passes.no_collision (back known blocks g.view m);
      not_deep = g.passes.not_deep;
      block = g.passes.block;
      fits = g.passes.fits;
      files_in_time = g.passes.files_in_time;
      manifest_in_time = g.passes.manifest_in_time;
      apart = sym (side-same xs ys blocks b same) ∙ g.passes.apart;
    };
  }

pub brings-same : (known : List Revision) (xs ys : List Object) (blocks : List Block) (rs : List Revision) (new : List Block) → HaveSame xs ys → BringBlocks known xs blocks rs new → BringBlocks known ys blocks rs new
unfolding BringBlocks
brings-same known xs ys blocks [] new same h = h
brings-same known xs ys blocks (r ∷ rs) new same (inl h) = inl (h.0, brings-same known xs ys blocks rs new same h.1)
brings-same known xs ys blocks (r ∷ rs) new same (inr (inl h)) = inr (inl (h.0, h.1, brings-same known xs ys blocks rs new same h.2))
brings-same known xs ys blocks (r ∷ rs) new same (inr (inr (no_link, free, b, rest, is, gives, later))) =
    inr (inr (no_link, free, b, rest, is, gives-same xs ys same known blocks r.node b gives, brings-same known (xs ++ commit_objects b.commit) (ys ++ commit_objects b.commit) (blocks ++ b ∷ []) rs rest (same-more xs ys (commit_objects b.commit) same) later))

-- ---- one behind another

pub brings-none : (known : List Revision) (objects : List Object) (blocks : List Block) → BringBlocks known objects blocks [] []
unfolding BringBlocks
brings-none known objects blocks = refl

pub brings-link : (known : List Revision) (objects : List Object) (blocks : List Block) (r : Revision) → IsKnownLink known r.node → BringBlocks known objects blocks (r ∷ []) []
unfolding BringBlocks
brings-link known objects blocks r h = inl (h, refl)

pub brings-saved : (known : List Revision) (objects : List Object) (blocks : List Block) (r : Revision) → ¬ (IsKnownLink known r.node) → is_saved blocks r.node ≡ true → BringBlocks known objects blocks (r ∷ []) []
unfolding BringBlocks
brings-saved known objects blocks r no_link h = inr (inl (no_link, h, refl))

pub brings-one : (known : List Revision) (objects : List Object) (blocks : List Block) (r : Revision) (b : Block) → ¬ (IsKnownLink known r.node) → is_saved blocks r.node ≡ false → GivesBlock known objects blocks r.node b
    → BringBlocks known objects blocks (r ∷ []) (b ∷ [])
unfolding BringBlocks
brings-one known objects blocks r b no_link free gives = inr (inr (no_link, free, b, [], refl, gives, refl))

pub objects_in-more : (new more : List Block) → objects_in (commits_in (new ++ more)) ≡ objects_in (commits_in new) ++ objects_in (commits_in more)
objects_in-more new more = ap objects_in (map_append (λ b. b.commit) new more) ∙ flat_map_append commit_objects (commits_in new) (commits_in more)

pub brings-append : (known : List Revision) (objects : List Object) (blocks : List Block) (rs rs' : List Revision) (new new' : List Block) → BringBlocks known objects blocks rs new
    → BringBlocks known (objects ++ objects_in (commits_in new)) (blocks ++ new) rs' new' → BringBlocks known objects blocks (rs ++ rs') (new ++ new')
unfolding BringBlocks
brings-append known objects blocks [] rs' new new' h k =
    let k' : BringBlocks known (objects ++ []) (blocks ++ []) rs' new' = subst (λ (l : List Block). BringBlocks known (objects ++ objects_in (commits_in l)) (blocks ++ l) rs' new') h k in
    subst (λ (l : List Block). BringBlocks known objects blocks rs' (l ++ new')) (sym h)
    (subst (λ (l : List Object). BringBlocks known l blocks rs' new') (append-nil objects) (subst (λ (l : List Block). BringBlocks known (objects ++ []) l rs' new') (append-nil blocks) k'))
brings-append known objects blocks (r ∷ rs) rs' new new' (inl h) k = inl (h.0, brings-append known objects blocks rs rs' new new' h.1 k)
brings-append known objects blocks (r ∷ rs) rs' new new' (inr (inl h)) k = inr (inl (h.0, h.1, brings-append known objects blocks rs rs' new new' h.2 k))
brings-append known objects blocks (r ∷ rs) rs' new new' (inr (inr (no_link, free, b, rest, is, gives, later))) k =
    let k' : BringBlocks known (objects ++ objects_in (commits_in (b ∷ rest))) (blocks ++ b ∷ rest) rs' new' = subst (λ (l : List Block). BringBlocks known (objects ++ objects_in (commits_in l)) (blocks ++ l) rs' new') is k in
    inr (inr (
      no_link,
      free,
      b,
      rest ++ new',
      ap (λ (l : List Block). l ++ new') is,
      gives,
      brings-append known (objects ++ commit_objects b.commit) (blocks ++ b ∷ []) rs rs' rest new' later
          (subst (λ (l : List Object). BringBlocks known l ((blocks ++ b ∷ []) ++ rest) rs' new') (sym (append_assoc objects (commit_objects b.commit) (objects_in (commits_in rest))))
          (subst (λ (l : List Block). BringBlocks known (objects ++ objects_in (commits_in (b ∷ rest))) l rs' new') (sym (append_assoc blocks (b ∷ []) rest)) k')),
    ))
