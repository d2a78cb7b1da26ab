-- Tags that lead to a commit, by what each of them names.
use Rattle.std.specs.Prelude.{◌≡◌, ℕ, zero, suc, ◌+◌, Bool, true, false, not, ◌&&◌, ◌||◌, List, length}
use Rattle.text_model.specs.Id.{Id}
use Rattle.git_model.specs.Object.{Object}
use Rattle.git_model.specs.Order.{has}
use Rattle.tag_rule.specs.declared.named.Targets.{Targets}
use Rattle.tag_rule.specs.declared.named.Named.{Named}
use Rattle.tag_rule.specs.declared.named.Named.TheVariants.{Commit, Tag, Other}
use Rattle.tag_rule.specs.declared.fates.Chain.{Chain}
use Rattle.tag_rule.specs.declared.fates.Fates.{Fates}
use Rattle.tag_rule.specs.Named.{named_at}

-- the tag leads to a commit in fewer steps than the number
unfoldable pub leads_within : (Id → Named) → ℕ → Id → Bool
leads_within named zero id = false
leads_within named (suc more) id = elim (named id) as (λ _. Bool) [
  | Commit ↦ true
  | Tag next ↦ leads_within named more next
  | Other ↦ false
]

-- the tag leads to a commit, or never does
abbrev pub HasFate : (Id → Named) → Bool → Id → Type 0
HasFate named true id = (n : ℕ) × (leads_within named n id ≡ true)
HasFate named false id = (n : ℕ) → leads_within named n id ≡ false

-- of the tags that were followed just those lead to a commit that are said to
pub record AreRight (named : Id → Named) (fates : Fates) : Type 0 where
  pub leading : (id : Id) → has fates.leading id ≡ true → HasFate named true id
  pub others : (id : Id) → has fates.followed id ≡ true → has fates.leading id ≡ false → HasFate named false id

-- a chain was followed from a tag on, and all of it has the tag's fate
pub record IsFollowed (named : Id → Named) (from : Id) (old new : Fates) (chain : Chain) : Type 0 where
  pub followed : (id : Id) → has new.followed id ≡ (has old.followed id || has chain.ids id)
  pub leading : new.leading ≡ old.leading
  pub fate : HasFate named chain.leads from
  pub fates : (id : Id) → has chain.ids id ≡ true → HasFate named chain.leads id

-- the tag isn't kept, and leads to a commit over the kept tags and those that came
abbrev pub is_new_over : List Object → List Id → List Id → Id → Bool
is_new_over store kept came id = not (has kept id) && leads_within (named_at store kept came) (length came + 1) id

-- the same over the sets in which the code looks up
abbrev pub is_new : Targets → Id → Bool
is_new t id = is_new_over (t.store).now (t.kept).now (t.came).now id
