-- Why a tag leads to a commit.
use Rattle.std.proofs.Common.{◌≡◌, ◌⊎◌, ◌+◌, ℕ, zero, suc, Bool, true, false, true≢false, ◌&&◌, ◌||◌, List, length, refl, sym, ◌∙◌, inl, inr}
use Rattle.std.specs.List.{list_any}
use Rattle.text_model.specs.Lists.{In}
use Rattle.text_model.specs.Id.{Id, commit, tag}
use Rattle.text_model.proofs.Elements.{in_any}
use Rattle.text_model.proofs.TestLemmas.{both, or_true, same_bool}
use Rattle.git_model.specs.Commit.{tag_target, is_tag_of}
use Rattle.git_model.specs.Object.{Object, has_id}
use Rattle.git_model.specs.Order.{has}
use Rattle.git_store.proofs.Growth.{any-in}
use Rattle.state_model.specs.Tags.{leads_to_commit}
use Rattle.tag_law.proofs.Steady.{IsStill, settled}

-- the tag is one of another tag, which leads to a commit in so many steps
pub record IsOver (n : ℕ) (kept : List Id) (came : List Object) (o : Object) : Type 0 where
  pub of_tag : is_tag_of tag o.content ≡ true
  pub next : Object
  pub among : In next came
  pub its_id : has_id (tag_target o.content) next ≡ true
  pub leads : leads_to_commit n kept came next ≡ true

-- the tag is one of a commit, or of a kept tag, or of one that came
abbrev pub Way : ℕ → List Id → List Object → Object → Type 0
Way n kept came o =
    (is_tag_of commit o.content ≡ true) ⊎ ((is_tag_of tag o.content ≡ true) × (has kept (tag_target o.content) ≡ true)) ⊎ IsOver n kept came o

pub way : (n : ℕ) (kept : List Id) (came : List Object) (o : Object) → leads_to_commit (suc n) kept came o ≡ true → Way n kept came o
unfolding leads_to_commit
way n kept came o h = by (is_tag_of commit o.content) (is_tag_of tag o.content) (has kept (tag_target o.content)) refl refl refl h
  where
    by : (a b c : Bool) → is_tag_of commit o.content ≡ a → is_tag_of tag o.content ≡ b → has kept (tag_target o.content) ≡ c → (a || (b && (c || list_any (λ t. has_id (tag_target o.content) t && leads_to_commit n kept came t) came))) ≡ true → Way n kept came o
    by true b c e f g k = inl e
    by false false c e f g k = absurd (true≢false (sym k))
    by false true true e f g k = inr (inl (f, g))
    by false true false e f g k =
        let r = any-in (λ t. has_id (tag_target o.content) t && leads_to_commit n kept came t) came k in
        let parts = both (has_id (tag_target o.content) r.0) (leads_to_commit n kept came r.0) r.2 in
        inr (inr (record { of_tag = f; next = r.0; among = r.1; its_id = parts.0; leads = parts.1 }))

pub goes : (n : ℕ) (kept : List Id) (came : List Object) (o : Object) → Way n kept came o → leads_to_commit (suc n) kept came o ≡ true
unfolding leads_to_commit
goes n kept came o (inl e) = rw e refl
goes n kept came o (inr (inl (f, g))) = rw (f, g) (or_true (is_tag_of commit o.content))
goes n kept came o (inr (inr w)) =
    let any = in_any (λ t. has_id (tag_target o.content) t && leads_to_commit n kept came t) came w.next w.among (rw (w.its_id, w.leads) refl) in
    rw (w.of_tag, any, or_true (has kept (tag_target o.content))) (or_true (is_tag_of commit o.content))

pub none-in-zero : (kept : List Id) (came : List Object) (o : Object) → leads_to_commit zero kept came o ≡ true → ⊥
unfolding leads_to_commit
none-in-zero kept came o h = true≢false (sym h)

-- ---- more steps and more tags

-- a way is one over other tags, where those that came are among them and still lead to a commit
over : (m n : ℕ) (kept : List Id) (xs ys : List Object) (o : Object) → ((x : Object) → In x xs → In x ys)
    → ((x : Object) → leads_to_commit m kept xs x ≡ true → leads_to_commit n kept ys x ≡ true) → Way m kept xs o → Way n kept ys o
over m n kept xs ys o more go (inl e) = inl e
over m n kept xs ys o more go (inr (inl e)) = inr (inl e)
over m n kept xs ys o more go (inr (inr w)) =
    inr (inr (record { of_tag = w.of_tag; next = w.next; among = more w.next w.among; its_id = w.its_id; leads = go w.next w.leads }))

pub one-more : (kept : List Id) (came : List Object) (n : ℕ) (o : Object) → leads_to_commit n kept came o ≡ true → leads_to_commit (suc n) kept came o ≡ true
one-more kept came zero o h = absurd (none-in-zero kept came o h)
one-more kept came (suc n) o h = goes (suc n) kept came o (over n (suc n) kept came came o (λ x i. i) (one-more kept came n) (way n kept came o h))

pub among-more : (kept : List Id) (xs ys : List Object) → ((x : Object) → In x xs → In x ys) → (n : ℕ) (o : Object) → leads_to_commit n kept xs o ≡ true → leads_to_commit n kept ys o ≡ true
among-more kept xs ys more zero o h = absurd (none-in-zero kept xs o h)
among-more kept xs ys more (suc n) o h = goes n kept ys o (over n n kept xs ys o more (among-more kept xs ys more n) (way n kept xs o h))

-- ---- enough steps

still-next : (kept : List Id) (came : List Object) (n : ℕ) → IsStill (λ n o. leads_to_commit n kept came o) came n → IsStill (λ n o. leads_to_commit n kept came o) came (suc n)
still-next kept came n still o i =
    same_bool (leads_to_commit (suc n) kept came o) (leads_to_commit (suc (suc n)) kept came o) (one-more kept came (suc n) o)
    (λ h. goes n kept came o (by (way (suc n) kept came o h)))
  where
    by : Way (suc n) kept came o → Way n kept came o
    by (inl e) = inl e
    by (inr (inl e)) = inr (inl e)
    by (inr (inr w)) = inr (inr (record { of_tag = w.of_tag; next = w.next; among = w.among; its_id = w.its_id; leads = still w.next w.among ∙ w.leads }))

-- a tag among them that leads to a commit does so in one step more than there are tags
pub enough-steps : (kept : List Id) (came : List Object) (n : ℕ) (o : Object) → In o came → leads_to_commit n kept came o ≡ true → leads_to_commit (length came + 1) kept came o ≡ true
enough-steps kept came n o i h = settled (λ n o. leads_to_commit n kept came o) (one-more kept came) came (still-next kept came) n o i h
