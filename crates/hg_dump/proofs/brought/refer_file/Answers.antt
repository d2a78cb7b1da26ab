use Rattle.std.proofs.Common.{◌≡◌, ℕ, Bool, true, false, cond, Option, Some, rules, refl, ap, ◌∙◌}
use Rattle.std.specs.Prelude.{bytes_eq, if◌then◌else◌}
use Rattle.std.specs.Global.{Vec}
use Rattle.std.specs.BTreeMap.{BTreeMap}
use Rattle.std.proofs.lemmas.Result.{on_ok_weaker}
use Rattle.text_model.specs.Text.{Bytes}
use Rattle.hg_dump.specs.declared.references.Reference.{Reference}
use Rattle.hg_dump.specs.Referred.{Referred, referred, or_nothing}
use Rattle.hg_dump.specs.State.{files_at}
use Rattle.hg_dump.proofs.FileLemmas.{by_path, by_path-after}
use Rattle.hg_dump.proofs.brought.refer_file.Goals as goal

split : (b : Bool) (own : Referred) (other : Option Referred) → or_nothing (cond b (Some own) other) ≡ (if b then own else or_nothing other)
split true own other = refl
split false own other = refl

there : (path key : Bytes) (m n : BTreeMap (Vec ℕ) Referred) (own : Referred) (is_new : Bool) (r : Reference) (before : Referred) (other : Bytes) → key ≡ path → by_path n other ≡ cond (bytes_eq key other) (Some own) (by_path m other)
    → own ≡ referred is_new r before → before ≡ files_at m path
    → files_at n other ≡ (if bytes_eq path other then referred is_new r (files_at m path) else files_at m other)
there path key m n own is_new r before other same after is start =
    ap or_nothing after ∙ split (bytes_eq key other) own (by_path m other)
    ∙ (λ i. if bytes_eq (same i) other then (is ∙ ap (referred is_new r) start) i else files_at m other)

pub returns-in_ok-insert-in-None : goal.returns-in_ok-insert-in-None
returns-in_ok-insert-in-None c = λ other.
    let path = c.args.path.now in
    let key = c.in_ok-from_slice-in-None.field-0 in
    let own = c.refer-in-None.new.self in
    let is = by_path-after key.items c.get_mut.follows.lender-at-none c.insert.new.self (Some own) c.in_ok-insert-in-None.ensures.updates other in
    let items = c.in_ok-from_slice-in-None.ensures.items in
    there path key.items c.args.files.now c.insert.new.self own c.args.is_new c.args.reference c.new-references.result other items
    (is ∙ (λ i. cond (bytes_eq key.items other) (Some own) (by_path (c.get_mut.follows.holds-at-none i) other)))
    c.in_ok-refer-in-None.ensures (c.new-references.ensures ∙ ap or_nothing c.in-None.ensures.value)

pub returns-in-Some : goal.returns-in-Some
returns-in-Some c =
    let path = c.args.path.now in
    let own = c.refer.new.self in
    let here = (c.get_mut.follows.holds own).3 (search rules) in
    let value = ap or_nothing c.in-Some.ensures.value in
    on_ok_weaker c.refer.result
    (λ is other. there path path c.args.files.now (c.get_mut.follows.lender own) own c.args.is_new c.args.reference c.in-Some.references.now other refl
    (by_path-after path c.args.files.now (c.get_mut.follows.lender own) (Some own) here other) is value)
    c.refer.ensures
