-- Following tags, from one on to those that it leads over.
use Rattle.std.proofs.Common.{◌≡◌, ◌<◌, ◌+◌, ◌⊎◌, ℕ, zero, suc, Bool, true, false, true≢false, not, ◌&&◌, ◌||◌, List, [], ◌∷◌, ◌++◌, length, take, get_or, Option, Some, None, refl, sym, ap, subst, ◌∙◌, inl, inr, arith, bytes_eq}
use Rattle.std.specs.Prelude.{filter, if◌then◌else◌}
use Rattle.std.proofs.lemmas.List.{take_more}
use Rattle.std.proofs.lemmas.List.Elements.{filter-append}
use Rattle.text_model.specs.Text.{Bytes}
use Rattle.text_model.specs.Id.{Id, commit, tag}
use Rattle.text_model.specs.Lists.{In}
use Rattle.text_model.proofs.TestLemmas.{both, bytes_eq-is, bytes_eq-self, or_true}
use Rattle.text_model.proofs.Options.{not_false, or_parts}
use Rattle.git_model.specs.Commit.{tag_target, is_tag_of}
use Rattle.git_model.specs.Object.{Object}
use Rattle.git_model.specs.Order.{has}
use Rattle.git_store.specs.Known.{content_at}
use Rattle.git_store.proofs.PlacingLemmas.{has-more}
use Rattle.tag_rule.specs.declared.named.Named.{Named}
use Rattle.tag_rule.specs.declared.named.Named.TheVariants as named
use Rattle.tag_rule.specs.declared.fates.Fates.{Fates}
use Rattle.tag_rule.specs.Named.{behind, named_by, named_at}
use Rattle.tag_rule.specs.declared.fates.Chain.{Chain}
use Rattle.tag_rule.specs.declared.named.Targets.{Targets}
use Rattle.tag_rule.specs.Named.{names}
use Rattle.tag_rule.specs.Fates.{HasFate, AreRight, IsFollowed, is_new}
use Rattle.tag_rule.proofs.FateLemmas.{IsChain, IsClosed, Share, first_of, chain-fate, chain-end, chain-round, more_or_same, has-in, fate-within}

-- ---- sets of ids

or_both : (a b c : Bool) → ((a || b) || c) ≡ (a || (b || c))
or_both true b c = refl
or_both false b c = refl

-- what a set has with one more, which it may have already
pub put-has : (old new : List Id) (x : Id) (fresh : Bool) → fresh ≡ not (has old x) → new ≡ (if fresh then old ++ x ∷ [] else old) → (id : Id) → has new id ≡ (has old id || bytes_eq id x)
put-has old new x true fresh is id = ap (λ (l : List Id). has l id) is ∙ has-more old x id
put-has old new x false fresh is id = ap (λ (l : List Id). has l id) is ∙ by (bytes_eq id x) refl
  where
    there : has old x ≡ true
    there = not_false (has old x) (sym fresh)

    or_no : (b : Bool) → b ≡ (b || false)
    or_no true = refl
    or_no false = refl

    by : (t : Bool) → bytes_eq id x ≡ t → has old id ≡ (has old id || t)
    by true t = let here : has old id ≡ true = ap (has old) (bytes_eq-is id x t) ∙ there in rw here refl
    by false t = or_no (has old id)

-- one more in one of two lists
pub more-has : (now old chain : List Id) (x : Id) (now_more chain_more : List Id) → ((id : Id) → has now_more id ≡ (has now id || bytes_eq id x)) → chain_more ≡ chain ++ x ∷ []
    → ((id : Id) → has now id ≡ (has old id || has chain id)) → (id : Id) → has now_more id ≡ (has old id || has chain_more id)
more-has now old chain x now_more chain_more put is before id =
    put id ∙ ap (λ (b : Bool). b || bytes_eq id x) (before id) ∙ or_both (has old id) (has chain id) (bytes_eq id x)
    ∙ sym (ap (λ (b : Bool). has old id || b) (ap (λ (l : List Id). has l id) is ∙ has-more chain x id))

pub front : (xs : List Id) (i : ℕ) (x : Id) → i < length xs → x ≡ get_or xs i x → take (i + 1) xs ≡ take i xs ++ x ∷ []
front xs i x below is = take_more xs i x below ∙ ap (λ (y : Id). take i xs ++ y ∷ []) (sym is)

pub has-at : (xs : List Id) (i : ℕ) (x : Id) → i < length xs → x ≡ get_or xs i x → has xs x ≡ true
has-at [] i x below is = absurd (omega (arith, below))
has-at (y ∷ xs) zero x below is = let same : bytes_eq x y ≡ true = ap (λ (z : Id). bytes_eq z y) is ∙ bytes_eq-self y in rw same refl
has-at (y ∷ xs) (suc i) x below is = rw (has-at xs i x (omega (arith, below)) is) (or_true (bytes_eq x y))

-- fewer ids are left where one more is put
pub fewer : (came old new : List Id) (x : Id) → has came x ≡ true → has old x ≡ false → ((id : Id) → has new id ≡ (has old id || bytes_eq id x))
    → length (filter (λ id. not (has new id)) came) < length (filter (λ id. not (has old id)) came)
fewer came old new x there fresh put = by (more_or_same (λ id. not (has new id)) (λ id. not (has old id)) came wider)
  where
    left : (a b : Bool) → not (a || b) ≡ true → not a ≡ true
    left true b h = h
    left false b h = refl

    wider : (id : Id) → not (has new id) ≡ true → not (has old id) ≡ true
    wider id h = left (has old id) (bytes_eq id x) (ap not (sym (put id)) ∙ h)

    now : has new x ≡ true
    now = put x ∙ rw (bytes_eq-self x) (or_true (has old x))

    by : (length (filter (λ id. not (has new id)) came) < length (filter (λ id. not (has old id)) came)) ⊎ ((y : Id) → In y came → not (has new y) ≡ not (has old y))
        → length (filter (λ id. not (has new id)) came) < length (filter (λ id. not (has old id)) came)
    by (inl lt) = lt
    by (inr same) = absurd (true≢false (sym (ap not fresh) ∙ sym (same x (has-in came x there)) ∙ ap not now))

-- ---- tags that are named

closed-behind : (kept came : List Id) (target next : Id) → behind kept came target ≡ named.Tag next → has came next ≡ true
closed-behind kept came target next is = by (has kept target) (has came target) refl refl
  where
    by : (a b : Bool) → has kept target ≡ a → has came target ≡ b → has came next ≡ true
    by true b e f = absurd (let h : named.Commit ≡ named.Tag next = sym (rw e refl) ∙ is in cc)
    by false true e f = let h : named.Tag target ≡ named.Tag next = sym (rw (e, f) refl) ∙ is in let same : target ≡ next = cc in ap (has came) (sym same) ∙ f
    by false false e f = absurd (let h : named.Other ≡ named.Tag next = sym (rw (e, f) refl) ∙ is in cc)

pub names-closed : (store : List Object) (kept came : List Id) → IsClosed (named_at store kept came) came
names-closed store kept came id next is = by (content_at tag store id) is
  where
    content : (bytes : Bytes) (a b : Bool) → (if a then named.Commit else if b then behind kept came (tag_target bytes) else named.Other) ≡ named.Tag next → has came next ≡ true
    content bytes true b h = absurd cc
    content bytes false true h = closed-behind kept came (tag_target bytes) next h
    content bytes false false h = absurd cc

    by : (o : Option Bytes) → named_by kept came o ≡ named.Tag next → has came next ≡ true
    by None h = absurd cc
    by (Some bytes) h = content bytes (is_tag_of commit bytes) (is_tag_of tag bytes) h

-- ---- a chain that ends at a tag that was followed

module _ (named : Id → Named) (old : Fates) (right : AreRight named old) where
  pub share-known : (chain : List Id) (at : Id) → IsChain named chain at → (leads : Bool) → leads ≡ has old.leading at → (has old.followed at || has chain at) ≡ true
      → Share named leads chain (first_of chain at)
  share-known chain at h true is there = chain-fate named true chain at h (right.leading at (sym is))
  share-known chain at h false is there = by (has old.followed at) refl
    where
      by : (t : Bool) → has old.followed at ≡ t → Share named false chain (first_of chain at)
      by true t = chain-fate named false chain at h (right.others at t (sym is))
      by false t = chain-fate named false chain at h (chain-round named chain at h (sym (rw t refl) ∙ there))

-- a chain that ends with a tag that leads to a commit, or nowhere
pub ended : (named : Id → Named) (old : Fates) (from : Id) (now chain : List Id) (at : Id) (leads : Bool) (now_more leading chain_more : List Id)
    → IsChain named chain at → first_of chain at ≡ from → HasFate named leads at → ((id : Id) → has now id ≡ (has old.followed id || has chain id))
    → ((id : Id) → has now_more id ≡ (has now id || bytes_eq id at)) → chain_more ≡ chain ++ at ∷ [] → leading ≡ old.leading
    → IsFollowed named from old (record { followed = now_more; leading = leading }) (record { ids = chain_more; leads = leads })
ended named old from now chain at leads now_more leading chain_more h first fate before put pushed same =
    let share = chain-end named leads chain at h fate in
    record {
      followed = more-has now old.followed chain at now_more chain_more put pushed before;
      leading = same;
      fate = subst (HasFate named leads) first share.fate;
      fates = λ id is. share.fates id (ap (λ (l : List Id). has l id) (sym pushed) ∙ is);
    }

-- ---- what is known once a chain was followed

no-parts : (a b : Bool) → (a && b) ≡ false → b ≡ true → a ≡ false
no-parts true b h is = absurd (true≢false (sym is ∙ h))
no-parts false b h is = refl

module _ (named : Id → Named) (from : Id) (old mid new : Fates) (chain : Chain) (right : AreRight named old) (is : IsFollowed named from old mid chain)
    (leading : (id : Id) → has new.leading id ≡ (has mid.leading id || (chain.leads && has chain.ids id))) (followed : new.followed ≡ mid.followed) where
  leading-is : (id : Id) → has new.leading id ≡ (has old.leading id || (chain.leads && has chain.ids id))
  leading-is id = leading id ∙ ap (λ (l : List Id). has l id || (chain.leads && has chain.ids id)) is.leading

  leads-right : (id : Id) → has new.leading id ≡ true → HasFate named true id
  leads-right id h = by (has old.leading id) refl
    where
      by : (t : Bool) → has old.leading id ≡ t → HasFate named true id
      by true t = right.leading id t
      by false t =
          let parts = both chain.leads (has chain.ids id) (sym (rw t refl) ∙ sym (leading-is id) ∙ h) in
          subst (λ (b : Bool). HasFate named b id) parts.0 (is.fates id parts.1)

  others-right : (id : Id) → has new.followed id ≡ true → has new.leading id ≡ false → HasFate named false id
  others-right id there not_leading = by (has chain.ids id) refl
    where
      parts : (has old.leading id ≡ false) × ((chain.leads && has chain.ids id) ≡ false)
      parts = or_parts (has old.leading id) (chain.leads && has chain.ids id) (sym (leading-is id) ∙ not_leading)

      was : (has old.followed id || has chain.ids id) ≡ true
      was = sym (is.followed id) ∙ ap (λ (l : List Id). has l id) (sym followed) ∙ there

      or_left : (a : Bool) → (a || false) ≡ true → a ≡ true
      or_left true h = refl
      or_left false h = h

      by : (t : Bool) → has chain.ids id ≡ t → HasFate named false id
      by true t = subst (λ (b : Bool). HasFate named b id) (no-parts chain.leads (has chain.ids id) parts.1 t) (is.fates id t)
      by false t = right.others id (or_left (has old.followed id) (ap (λ (b : Bool). has old.followed id || b) (sym t) ∙ was)) parts.0

  pub still-right : AreRight named new
  still-right = record { leading = leads-right; others = others-right }

-- ---- one id more of those that are new

module _ (t : Targets) where
  pub is_new-kept : (x : Id) → has (t.kept).now x ≡ true → is_new t x ≡ false
  is_new-kept x kept = rw kept refl

  pub is_new-by : (x : Id) (leads : Bool) → has (t.kept).now x ≡ false → has (t.came).now x ≡ true → HasFate (names t) leads x → is_new t x ≡ leads
  is_new-by x leads free there fate =
      rw free (fate-within (names t) (t.came).now (names-closed (t.store).now (t.kept).now (t.came).now) leads x there fate)

  pub new-step : (ids : List Id) (i : ℕ) (x : Id) (b : Bool) → i < length ids → x ≡ get_or ids i x → is_new t x ≡ b
      → filter (is_new t) (take (i + 1) ids) ≡ filter (is_new t) (take i ids) ++ (if b then x ∷ [] else [])
  new-step ids i x b below is new = ap (filter (is_new t)) (front ids i x below is) ∙ filter-append (is_new t) (take i ids) (x ∷ []) ∙ ap (λ (l : List Id). filter (is_new t) (take i ids) ++ l) (one b new)
    where
      one : (b : Bool) → is_new t x ≡ b → filter (is_new t) (x ∷ []) ≡ (if b then x ∷ [] else [])
      one true new = ap (λ (b : Bool). if b then x ∷ [] else []) new
      one false new = ap (λ (b : Bool). if b then x ∷ [] else []) new
