-- After each row of links, which is not too long, stands a changeset that is none: of more blocks too.
use Rattle.std.proofs.Common.{◌≡◌, ◌≤◌, ◌<◌, ◌+◌, ℕ, Bool, true, false, true≢false, List, [], ◌∷◌, ◌++◌, length, refl, sym, ap, subst, ◌∙◌, arith, lt-ltb, eqb-true}
use Rattle.std.specs.Prelude.{if◌then◌else◌, nat_lt}
use Rattle.text_model.specs.Lists.{Each}
use Rattle.text_model.proofs.Elements.{flat_map_append}
use Rattle.view_model.specs.View.{ChangesetView}
use Rattle.pair_model.specs.Block.{Block, changesets_in}
use Rattle.pair_model.specs.Octopus.{is_link_view}
use Rattle.state_model.specs.Limits.{link_limit}
use Rattle.state_model.specs.Saved.{links_lead, AreBlocks}

-- a block whose links have their form and are few, and whose changeset is none
pub record IsLinked (b : Block) : Type 0 where
  pub links : Each (λ l. is_link_view l ≡ true) b.links
  pub few : length b.links ≤ link_limit
  pub no_link : is_link_view b.changeset ≡ false

lead-link : (n : ℕ) (h : ChangesetView) (hs : List ChangesetView) → is_link_view h ≡ true → n < link_limit → links_lead (n + 1) hs ≡ true → links_lead n (h ∷ hs) ≡ true
unfolding links_lead
lead-link n h hs is less rest = rw (is, lt-ltb n link_limit less) rest

lead-other : (n : ℕ) (h : ChangesetView) (hs : List ChangesetView) → is_link_view h ≡ false → links_lead 0 hs ≡ true → links_lead n (h ∷ hs) ≡ true
unfolding links_lead
lead-other n h hs is rest = rw is rest

-- the changesets of a block, and what comes behind it
lead-block : (n : ℕ) (links : List ChangesetView) (h : ChangesetView) (more : List ChangesetView) → Each (λ l. is_link_view l ≡ true) links → n + length links ≤ link_limit
    → is_link_view h ≡ false → links_lead 0 more ≡ true → links_lead n ((links ++ h ∷ []) ++ more) ≡ true
lead-block n [] h more each few none rest = lead-other n h more none rest
lead-block n (l ∷ links) h more each few none rest =
    lead-link n l ((links ++ h ∷ []) ++ more) each.0 (omega arith) (lead-block (n + 1) links h more each.1 (omega arith) none rest)

lead-new : (new : List Block) → Each IsLinked new → links_lead 0 (changesets_in new) ≡ true
unfolding links_lead
lead-new [] each = refl
lead-new (b ∷ new) each = lead-block 0 b.links b.changeset (changesets_in new) (each.0).links (omega (arith, (each.0).few)) (each.0).no_link (lead-new new each.1)

-- what leads in front of what leads
lead-both : (n : ℕ) (xs ys : List ChangesetView) → links_lead n xs ≡ true → links_lead 0 ys ≡ true → links_lead n (xs ++ ys) ≡ true
unfolding links_lead
lead-both n [] ys h k = subst (λ (m : ℕ). links_lead m ys ≡ true) (sym (eqb-true n 0 h)) k
lead-both n (x ∷ xs) ys h k = by (is_link_view x) refl (nat_lt n link_limit) refl h (λ m e. lead-both m xs ys e k)
  where
    by : (link : Bool) → is_link_view x ≡ link → (less : Bool) → nat_lt n link_limit ≡ less
        → (if link then (if less then links_lead (n + 1) xs else false) else links_lead 0 xs) ≡ true
        → ((m : ℕ) → links_lead m xs ≡ true → links_lead m (xs ++ ys) ≡ true)
        → (if is_link_view x then (if nat_lt n link_limit then links_lead (n + 1) (xs ++ ys) else false) else links_lead 0 (xs ++ ys)) ≡ true
    by true is true less e go = rw (is, less) (go (n + 1) e)
    by true is false less e go = absurd (true≢false (sym e))
    by false is less less-is e go = rw is (go 0 e)

pub leads-on : (old new : List Block) → links_lead 0 (changesets_in old) ≡ true → Each IsLinked new → links_lead 0 (changesets_in (old ++ new)) ≡ true
leads-on old new h each =
    ap (links_lead 0) (flat_map_append (λ (b : Block). b.links ++ b.changeset ∷ []) old new)
    ∙ lead-both 0 (changesets_in old) (changesets_in new) h (lead-new new each)

pub are-blocks : (old new : List Block) → AreBlocks old → Each IsLinked new → AreBlocks (old ++ new)
are-blocks [] [] h each = tt
are-blocks [] (b ∷ new) h each = (((each.0).links, (each.0).no_link), are-blocks [] new tt each.1)
are-blocks (b ∷ old) new h each = (h.0, are-blocks old new h.1 each)
