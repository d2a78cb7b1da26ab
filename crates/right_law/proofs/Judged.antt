-- A block that is right over some known changesets and objects is right over others.
use Rattle.std.proofs.Common.{◌≡◌, Bool, true, false, List, [], ◌++◌, map, refl, sym, subst, ◌∙◌, inl, inr, ◌⊎◌, append-nil}
use Rattle.std.specs.Prelude.{IsTrue}
use Rattle.std.specs.List.{list_any}
use Rattle.std.proofs.lemmas.Bool.{true≢false}
use Rattle.text_model.specs.Lists.{Each, In}
use Rattle.text_model.proofs.Elements.{in_left, in_right, none_in, none_all}
use Rattle.hg_model.specs.Revision.{Revision}
use Rattle.git_model.specs.Object.{Object, is_other_content}
use Rattle.view_model.specs.View.{ChangesetView, Row}
use Rattle.pair_model.specs.Block.{Block}
use Rattle.partner_model.specs.Partner.{Member, OfHg, OfGit, IsHeldView, IsKnownAs}
use Rattle.partner_model.specs.Clash.{MeetsCollision, IsColliding, do_bodies_collide, body_object}
use Rattle.verify_model.specs.Holds.{HasPartner}
use Rattle.dump_law.proofs.Streams.{of_append}
use Rattle.frame_law.specs.Ground.{IsGround}
use Rattle.frame_law.proofs.Frame.{AreTwo}
use Rattle.frame_law.proofs.Kept.{block_for_down}
use Rattle.frame_law.proofs.First.{not_on_link, deep_too, collision_too}
use Rattle.frame_law.proofs.Fronts.{front_among}

-- each object of the first list is in the second
abbrev pub AreHere : List Object → List Object → Type 0
AreHere objects others = (o : Object) → In o objects → In o others

-- ---- bodies that collide with some objects collide with more

collide_less : (objects others : List Object) (rows : List Row) → AreHere objects others → do_bodies_collide others rows ≡ false → do_bodies_collide objects rows ≡ false
collide_less objects others rows here none =
    none_all (λ row. list_any (is_other_content (body_object row)) (objects ++ map body_object rows)) rows (λ row i.
    none_all (is_other_content (body_object row)) (objects ++ map body_object rows) (λ o j.
    none_in (is_other_content (body_object row)) (others ++ map body_object rows) o (none_in (λ row. list_any (is_other_content (body_object row)) (others ++ map body_object rows)) rows row none i) (there o (of_append o objects (map body_object rows) j))))
  where
    there : (o : Object) → In o objects ⊎ In o (map body_object rows) → In o (others ++ map body_object rows)
    there o (inl i) = in_left o others (map body_object rows) (here o i)
    there o (inr i) = in_right o others (map body_object rows) i

collide_more : (objects others : List Object) (rows : List Row) → AreHere objects others → IsTrue (do_bodies_collide objects rows) → IsTrue (do_bodies_collide others rows)
collide_more objects others rows here h = by (do_bodies_collide others rows) refl
  where
    by : (t : Bool) → do_bodies_collide others rows ≡ t → do_bodies_collide others rows ≡ true
    by true e = e
    by false e = absurd (true≢false (sym h ∙ collide_less objects others rows here e))

colliding_more : (blocks : List Block) (K : ChangesetView → Type 0) (objects others : List Object) (m : Member) → AreHere objects others → IsColliding blocks K objects m → IsColliding blocks K others m
colliding_more blocks K objects others (OfHg h) here x = (x.0, x.1, collide_more objects others h.rows here x.2)
colliding_more blocks K objects others (OfGit c) here x = absurd x

pub meets_more : (blocks : List Block) (K : ChangesetView → Type 0) (objects others : List Object) (m : Member) → AreHere objects others → MeetsCollision blocks K objects m → MeetsCollision blocks K others m
meets_more blocks K objects others m here x = record {
  count = x.count;
  below = x.below;
  member = x.member;
  peels = x.peels;
  marked = x.marked;
  collides = colliding_more blocks K objects others x.member here x.collides;
}

-- ---- a partner over other known changesets

module _ (known came : List Revision) (objects others : List Object) (before : List Block) (h : ChangesetView) (b : Block) (g : IsGround before (IsHeldView known)) (k : IsGround before (IsHeldView came))
    (links : Each (IsKnownAs (IsHeldView came)) b.links) (p : HasPartner known objects before h b) where
  two : AreTwo before (IsHeldView known) before (IsHeldView came)
  two = record { first = g; second = k; among = subst (λ (bs : List Block). Each (λ b. In b bs) before) (append-nil before) (front_among before []) }

  pub partner_too : ((MeetsCollision before (IsHeldView known) others (OfHg h)) → ⊥) → HasPartner came others before h b
  partner_too apart =
      let x = p.block in
      let block = block_for_down before (IsHeldView known) before (IsHeldView came) two (OfHg h) b links x in
      let walked = subst (λ (d : Block). Each (IsKnownAs (IsHeldView came)) d.links) x.2 links in
      record {
        no_clash = p.no_clash;
        on_no_link = not_on_link before (IsHeldView came) h block.0 block.1;
        no_collision = λ m. apart (collision_too before (IsHeldView known) before (IsHeldView came) two h x.0 walked others x.1 m);
        not_deep = λ d. p.not_deep (deep_too before (IsHeldView known) before (IsHeldView came) two h x.0 walked x.1 d);
        block = block;
        fits = p.fits;
        files_in_time = p.files_in_time;
        manifest_in_time = p.manifest_in_time;
      }

  -- with fewer objects
  pub partner_less : AreHere others objects → HasPartner came others before h b
  partner_less here = partner_too (λ m. p.no_collision (meets_more before (IsHeldView known) others objects (OfHg h) here m))
