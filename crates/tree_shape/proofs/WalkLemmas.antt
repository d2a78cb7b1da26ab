-- The walk, one entry after the other.
use Rattle.std.proofs.Common.{◌≡◌, ◌≤◌, ◌<◌, ◌+◌, ◌-◌, ℕ, zero, suc, Bool, true, false, List, [], ◌∷◌, ◌++◌, length, take, drop, get_or, Option, Some, None, refl, sym, ap, subst, ◌∙◌, append_assoc, arith}
use Rattle.std.specs.Prelude.{filter, if◌then◌else◌, option_map}
use Rattle.std.proofs.lemmas.List.{append-nil, take-append-drop, take_all}
use Rattle.std.proofs.lemmas.List.Concat.{flat_map-append}
use Rattle.std.proofs.lemmas.List.Elements.{filter-append}
use Rattle.std.proofs.Math.Seq.{take-suc, drop-cons}
use Rattle.text_model.specs.Id.{Id}
use Rattle.text_model.specs.Text.{Bytes}
use Rattle.text_model.specs.Fault.{FaultName}
use Rattle.text_model.specs.Fault as fault
use Rattle.git_model.specs.Tree.{TreeEntry, is_directory}
use Rattle.git_model.specs.Object.{Object, tree_at}
use Rattle.git_model.specs.Unfold.{FileRow, WalkFault, joined_path, visits, row_size, rows_limit, is_row, visit_fault, first_visit_fault, walk, walk_fault}
use Rattle.tree_shape.specs.declared.fault.TreeFault.{TreeFault}
use Rattle.tree_shape.specs.declared.fault.TreeFault.TheVariants as faults
use Rattle.tree_shape.specs.Faults.{IsTreeFault}
use Rattle.tree_shape.specs.Walks.{row_at, entry_visits, entries_visits, size_after, Walked, refused}

-- ---- one step of the first fault

abbrev pub step : Option FaultName → Id → Option WalkFault → Option WalkFault
step o id rest = elim o as (λ _. Option WalkFault) [ Some name ↦ Some (record { name = name; id = id }) | None ↦ rest ]

abbrev pub next : List Object → ℕ → FileRow → ℕ
next known size v = if is_row known v then size + row_size v else size

pub fault-cons : (known : List Object) (size : ℕ) (v : FileRow) (vs : List FileRow) → first_visit_fault known size (v ∷ vs) ≡ step (visit_fault known size v) v.id (first_visit_fault known (next known size v) vs)
unfolding first_visit_fault
fault-cons known size v vs = refl

fault-nil : (known : List Object) (size : ℕ) → first_visit_fault known size [] ≡ None
unfolding first_visit_fault
fault-nil known size = refl

pub step-none : (o : Option FaultName) (id : Id) (rest : Option WalkFault) → step o id rest ≡ None → (o ≡ None) × (rest ≡ None)
step-none None id rest h = (refl, h)
step-none (Some n) id rest h = absurd cc

step-pass : (o : Option FaultName) (id : Id) (rest : Option WalkFault) → o ≡ None → step o id rest ≡ rest
step-pass None id rest h = refl
step-pass (Some n) id rest h = absurd cc

step-one : (o : Option FaultName) (id : Id) → step o id None ≡ option_map (λ n. record { name = n; id = id }) o
step-one None id = refl
step-one (Some n) id = refl

step-some : (o : Option FaultName) (id : Id) (rest more : Option WalkFault) (w : WalkFault) → step o id rest ≡ Some w → (rest ≡ Some w → more ≡ Some w) → step o id more ≡ Some w
step-some None id rest more w h f = f h
step-some (Some n) id rest more w h f = h

-- ---- the fault of visits in a row

size-append : (known : List Object) (size : ℕ) (vs ws : List FileRow) → size_after known size (vs ++ ws) ≡ size_after known (size_after known size vs) ws
size-append known size [] ws = refl
size-append known size (v ∷ vs) ws = size-append known (next known size v) vs ws

fault-behind : (known : List Object) (size : ℕ) (vs ws : List FileRow) → first_visit_fault known size vs ≡ None
    → first_visit_fault known size (vs ++ ws) ≡ first_visit_fault known (size_after known size vs) ws
fault-behind known size [] ws h = refl
fault-behind known size (v ∷ vs) ws h =
    let parts = step-none (visit_fault known size v) v.id (first_visit_fault known (next known size v) vs) (sym (fault-cons known size v vs) ∙ h) in
    fault-cons known size v (vs ++ ws) ∙ step-pass (visit_fault known size v) v.id (first_visit_fault known (next known size v) (vs ++ ws)) parts.0
    ∙ fault-behind known (next known size v) vs ws parts.1

fault-front : (known : List Object) (size : ℕ) (vs ws : List FileRow) (w : WalkFault) → first_visit_fault known size vs ≡ Some w → first_visit_fault known size (vs ++ ws) ≡ Some w
fault-front known size [] ws w h = absurd (clash (sym (fault-nil known size) ∙ h))
  where
    clash : {o : WalkFault} → None ≡ Some o → ⊥
    clash e = cc
fault-front known size (v ∷ vs) ws w h =
    fault-cons known size v (vs ++ ws)
    ∙ step-some (visit_fault known size v) v.id (first_visit_fault known (next known size v) vs) (first_visit_fault known (next known size v) (vs ++ ws)) w (sym (fault-cons known size v vs) ∙ h) (fault-front known (next known size v) vs ws w)

pub fault-one : (known : List Object) (size : ℕ) (v : FileRow) → refused known size v ≡ first_visit_fault known size (v ∷ [])
fault-one known size v =
    sym (fault-cons known size v [] ∙ ap (step (visit_fault known size v) v.id) (fault-nil known (next known size v)) ∙ step-one (visit_fault known size v) v.id)

-- ---- what a fault of the program says of them

carry : (f g : Option WalkFault) → ((w : WalkFault) → f ≡ Some w → g ≡ Some w) → (e : TreeFault) → IsTreeFault f e → IsTreeFault g e
carry f g h (faults.ObjectUnknown id) i = h _ i
carry f g h faults.PathUnfit i = named f g _ h i
  where
    named : (f g : Option WalkFault) (n : FaultName) → ((w : WalkFault) → f ≡ Some w → g ≡ Some w) → option_map (λ w. w.name) f ≡ Some n → option_map (λ w. w.name) g ≡ Some n
    named None g n h i = absurd cc
    named (Some w) g n h i = ap (λ (o : Option WalkFault). option_map (λ w. w.name) o) (h w refl) ∙ i
carry f g h faults.Limit i = named f g _ h i
  where
    named : (f g : Option WalkFault) (n : FaultName) → ((w : WalkFault) → f ≡ Some w → g ≡ Some w) → option_map (λ w. w.name) f ≡ Some n → option_map (λ w. w.name) g ≡ Some n
    named None g n h i = absurd cc
    named (Some w) g n h i = ap (λ (o : Option WalkFault). option_map (λ w. w.name) o) (h w refl) ∙ i
carry f g h faults.Memory i = tt

-- behind visits of which none was refused, a fault of the next ones is the fault of all
pub fault_on : (known : List Object) (from to : ℕ) (old new vs mid rest : List FileRow) (e : TreeFault) → Walked known from to old new vs
    → IsTreeFault (first_visit_fault known to mid) e → IsTreeFault (first_visit_fault known from (vs ++ (mid ++ rest))) e
fault_on known from to old new vs mid rest e w f =
    carry (first_visit_fault known to mid) (first_visit_fault known from (vs ++ (mid ++ rest)))
    (λ o h. fault-behind known from vs (mid ++ rest) w.none ∙ ap (λ (n : ℕ). first_visit_fault known n (mid ++ rest)) (sym w.size) ∙ fault-front known to mid rest o h) e f

-- ---- visits one after the other

pub Walked-none : (known : List Object) (size : ℕ) (rows : List FileRow) → size ≤ rows_limit → Walked known size size rows rows []
Walked-none known size rows h = record { none = fault-nil known size; rows = sym (append-nil rows); size = refl; within = h }

pub Walked-append : (known : List Object) (a b c : ℕ) (first second third vs ws : List FileRow) → Walked known a b first second vs → Walked known b c second third ws
    → Walked known a c first third (vs ++ ws)
Walked-append known a b c first second third vs ws v w = record {
  none = fault-behind known a vs ws v.none ∙ ap (λ (n : ℕ). first_visit_fault known n ws) (sym v.size) ∙ w.none;
  rows = w.rows ∙ ap (λ (r : List FileRow). r ++ filter (is_row known) ws) v.rows ∙ append_assoc first (filter (is_row known) vs) (filter (is_row known) ws) ∙ ap (λ (r : List FileRow). first ++ r) (sym (filter-append (is_row known) vs ws));
  size = w.size ∙ ap (λ (n : ℕ). size_after known n ws) v.size ∙ sym (size-append known a vs ws);
  within = w.within;
}

none-one : (known : List Object) (size : ℕ) (v : FileRow) → visit_fault known size v ≡ None → first_visit_fault known size (v ∷ []) ≡ None
none-one known size v h = fault-cons known size v [] ∙ step-pass (visit_fault known size v) v.id (first_visit_fault known (next known size v) []) h ∙ fault-nil known (next known size v)

-- a visit of a directory with entries appends no row
pub Walked-dir : (known : List Object) (size to : ℕ) (rows : List FileRow) (v : FileRow) → is_row known v ≡ false
    → visit_fault known size v ≡ None → to ≡ size_after known size (v ∷ []) → to ≤ rows_limit → Walked known size to rows rows (v ∷ [])
Walked-dir known size to rows v dir h s within = record {
  none = none-one known size v h;
  rows = sym (append-nil rows) ∙ ap (λ (b : Bool). rows ++ (if b then v ∷ [] else [])) (sym dir);
  size = s;
  within = within;
}

pub Walked-row : (known : List Object) (size to : ℕ) (rows new : List FileRow) (v : FileRow) → is_row known v ≡ true
    → visit_fault known size v ≡ None → to ≡ size_after known size (v ∷ []) → to ≤ rows_limit → new ≡ rows ++ v ∷ [] → Walked known size to rows new (v ∷ [])
Walked-row known size to rows new v row h s within n = record {
  none = none-one known size v h;
  rows = n ∙ ap (λ (b : Bool). rows ++ (if b then v ∷ [] else [])) (sym row);
  size = s;
  within = within;
}

-- ---- the visits of entries

pub visits-zero : (known : List Object) (depth : ℕ) (path : Bytes) (id : Id) → depth ≡ 0 → visits known depth path id ≡ []
unfolding visits
visits-zero known zero path id h = refl
visits-zero known (suc depth) path id h = absurd (omega arith)

pub visits-none : (known : List Object) (depth : ℕ) (path : Bytes) (id : Id) → tree_at known id ≡ None → visits known depth path id ≡ []
unfolding visits
visits-none known zero path id h = refl
visits-none known (suc depth) path id h = rw (h, visits) refl

pub visits-some : (known : List Object) (depth : ℕ) (path : Bytes) (id : Id) (entries : List TreeEntry) → 0 < depth → tree_at known id ≡ Some entries
    → visits known depth path id ≡ entries_visits known (depth - 1) path entries
unfolding visits
visits-some known zero path id entries pos h = absurd (omega arith)
visits-some known (suc depth) path id entries pos h =
    let less : depth ≡ suc depth - 1 = omega arith in
    subst (λ (n : ℕ). visits known (suc depth) path id ≡ entries_visits known n path entries) less (rw (h, visits) refl)

pub entries-more : (known : List Object) (depth : ℕ) (path : Bytes) (entries : List TreeEntry) (i : ℕ) (e : TreeEntry) → i < length entries → e ≡ get_or entries i e
    → entries_visits known depth path (take (i + 1) entries) ≡ entries_visits known depth path (take i entries) ++ entry_visits known depth path e
entries-more known depth path entries i e h is =
    let one : i + 1 ≡ suc i = omega arith in
    ap (λ (n : ℕ). entries_visits known depth path (take n entries)) one
    ∙ ap (entries_visits known depth path) (take-suc entries i e h ∙ ap (λ (x : TreeEntry). take i entries ++ x ∷ []) (sym is))
    ∙ flat_map-append (entry_visits known depth path) (take i entries) (e ∷ [])
    ∙ ap (λ (t : List FileRow). entries_visits known depth path (take i entries) ++ t) (append-nil (entry_visits known depth path e))

pub entries-split : (known : List Object) (depth : ℕ) (path : Bytes) (entries : List TreeEntry) (i : ℕ) (e : TreeEntry) → i < length entries → e ≡ get_or entries i e
    → entries_visits known depth path entries ≡ entries_visits known depth path (take i entries) ++ (entry_visits known depth path e ++ entries_visits known depth path (drop (i + 1) entries))
entries-split known depth path entries i e h is =
    let one : suc i ≡ i + 1 = omega arith in
    ap (entries_visits known depth path) (sym (take-append-drop i entries))
    ∙ flat_map-append (entry_visits known depth path) (take i entries) (drop i entries)
    ∙ ap (λ (t : List TreeEntry). entries_visits known depth path (take i entries) ++ entries_visits known depth path t)
    (drop-cons entries i e h ∙ ap (λ (x : TreeEntry). x ∷ drop (suc i) entries) (sym is) ∙ ap (λ (n : ℕ). e ∷ drop n entries) one)

-- ---- a turn of the loop over the entries

-- what a turn knows
pub record Turn (path : Bytes) (entries : List TreeEntry) (i : ℕ) (e : TreeEntry) (whole : Bytes) : Type 0 where
  pub within : i < length entries
  pub is : e ≡ get_or entries i e
  pub joins : whole ≡ joined_path path e.name

abbrev below : List Object → ℕ → Bytes → TreeEntry → List FileRow
below known depth whole e = if is_directory e.mode then visits known depth whole e.id else []

module _ (known : List Object) (from size : ℕ) (old rows : List FileRow) (depth : ℕ) (path : Bytes) (entries : List TreeEntry) (i : ℕ) (e : TreeEntry) (whole : Bytes) (t : Turn path entries i e whole)
    (w : Walked known from size old rows (entries_visits known depth path (take i entries))) where
  abbrev front : List FileRow
  front = entries_visits known depth path (take i entries)

  abbrev rest : List FileRow
  rest = entries_visits known depth path (drop (i + 1) entries)

  turn-more : entries_visits known depth path (take (i + 1) entries) ≡ front ++ (row_at whole e ∷ below known depth whole e)
  turn-more = entries-more known depth path entries i e t.within t.is ∙ ap (λ (w : Bytes). front ++ (row_at w e ∷ below known depth w e)) (sym t.joins)

  turn-all : entries_visits known depth path entries ≡ front ++ ((row_at whole e ∷ below known depth whole e) ++ rest)
  turn-all = entries-split known depth path entries i e t.within t.is ∙ ap (λ (w : Bytes). front ++ ((row_at w e ∷ below known depth w e) ++ rest)) (sym t.joins)

  -- the entry is refused
  pub refused-in : (err : TreeFault) → IsTreeFault (refused known size (row_at whole e)) err → IsTreeFault (first_visit_fault known from (entries_visits known depth path entries)) err
  refused-in err f =
      subst (λ (vs : List FileRow). IsTreeFault (first_visit_fault known from vs) err) (sym turn-all)
      (fault_on known from size old rows front (row_at whole e ∷ []) (below known depth whole e ++ rest) err w
      (subst (λ (o : Option WalkFault). IsTreeFault o err) (fault-one known size (row_at whole e)) f))

  -- what lies below the entry is refused
  pub deeper-in : (err : TreeFault) (mid : ℕ) (more : List FileRow) → is_directory e.mode ≡ true → Walked known size mid rows more (row_at whole e ∷ [])
      → IsTreeFault (first_visit_fault known mid (visits known depth whole e.id)) err → IsTreeFault (first_visit_fault known from (entries_visits known depth path entries)) err
  deeper-in err mid more dir one f =
      let all : entries_visits known depth path entries ≡ (front ++ row_at whole e ∷ []) ++ (visits known depth whole e.id ++ rest) =
      turn-all ∙ ap (λ (b : Bool). front ++ ((row_at whole e ∷ (if b then visits known depth whole e.id else [])) ++ rest)) dir
      ∙ sym (append_assoc front (row_at whole e ∷ []) (visits known depth whole e.id ++ rest)) in
      subst (λ (vs : List FileRow). IsTreeFault (first_visit_fault known from vs) err) (sym all)
      (fault_on known from mid old more (front ++ row_at whole e ∷ []) (visits known depth whole e.id) rest err
      (Walked-append known from size mid old rows more front (row_at whole e ∷ []) w one) f)

  -- the entry and what lies below it were walked through
  pub turn-dir : (mid last : ℕ) (met new : List FileRow) → is_directory e.mode ≡ true → Walked known size mid rows met (row_at whole e ∷ []) → Walked known mid last met new (visits known depth whole e.id)
      → Walked known from last old new (entries_visits known depth path (take (i + 1) entries))
  turn-dir mid last met new dir one more =
      let deep : List FileRow = visits known depth whole e.id in
      let all : entries_visits known depth path (take (i + 1) entries) ≡ front ++ (row_at whole e ∷ deep) = turn-more ∙ ap (λ (b : Bool). front ++ (row_at whole e ∷ (if b then deep else []))) dir in
      subst (λ (vs : List FileRow). Walked known from last old new vs) (sym all)
      (Walked-append known from size last old rows new front (row_at whole e ∷ deep) w (Walked-append known size mid last rows met new (row_at whole e ∷ []) deep one more))

  -- the row of the entry was appended
  pub turn-row : (to : ℕ) (new : List FileRow) → is_directory e.mode ≡ false → Walked known size to rows new (row_at whole e ∷ []) → Walked known from to old new (entries_visits known depth path (take (i + 1) entries))
  turn-row to new file one =
      let all : entries_visits known depth path (take (i + 1) entries) ≡ front ++ (row_at whole e ∷ []) = turn-more ∙ ap (λ (b : Bool). front ++ (row_at whole e ∷ (if b then visits known depth whole e.id else []))) file in
      subst (λ (vs : List FileRow). Walked known from to old new vs) (sym all) (Walked-append known from size to old rows new front (row_at whole e ∷ []) w one)

-- all entries were walked through
pub turn-last : (known : List Object) (from size : ℕ) (old rows : List FileRow) (depth : ℕ) (path : Bytes) (entries : List TreeEntry) (i : ℕ) → length entries ≤ i
    → Walked known from size old rows (entries_visits known depth path (take i entries)) → Walked known from size old rows (entries_visits known depth path entries)
turn-last known from size old rows depth path entries i all w = subst (λ (vs : List FileRow). Walked known from size old rows vs) (ap (entries_visits known depth path) (take_all i entries all)) w

-- ---- the whole walk

pub no-root : (known : List Object) (root : Id) → tree_at known root ≡ None → walk_fault known root ≡ Some (record { name = fault.ObjectUnknown; id = root })
unfolding walk_fault
no-root known root h = rw (h, walk_fault) refl

pub walk-fault : (known : List Object) (root : Id) (entries : List TreeEntry) → tree_at known root ≡ Some entries → walk_fault known root ≡ first_visit_fault known 0 (walk known root)
unfolding walk_fault
walk-fault known root entries h = rw (h, walk_fault) refl

pub walk-of : (known : List Object) (root : Id) (entries : List TreeEntry) → tree_at known root ≡ Some entries → walk known root ≡ entries_visits known 256 [] entries
walk-of known root entries h = visits-some known 257 [] root entries (omega arith) h

-- a walk from the root, where no row was there before
pub root-fault : (known : List Object) (root : Id) (entries : List TreeEntry) (size : ℕ) (path : Bytes) → tree_at known root ≡ Some entries → size ≡ 0 → path ≡ []
    → first_visit_fault known size (entries_visits known 256 path entries) ≡ walk_fault known root
root-fault known root entries size path h s p =
    (λ k. first_visit_fault known (s k) (entries_visits known 256 (p k) entries)) ∙ ap (first_visit_fault known 0) (sym (walk-of known root entries h)) ∙ sym (walk-fault known root entries h)

pub record WholeWalk (known : List Object) (root : Id) (rows : List FileRow) : Type 0 where
  pub none : walk_fault known root ≡ None
  pub are : rows ≡ filter (is_row known) (walk known root)

pub whole-walk : (known : List Object) (root : Id) (entries : List TreeEntry) (size to : ℕ) (path : Bytes) (old new : List FileRow) → tree_at known root ≡ Some entries → size ≡ 0 → path ≡ [] → old ≡ []
    → Walked known size to old new (entries_visits known 256 path entries) → WholeWalk known root new
whole-walk known root entries size to path old new h s p o w = record {
  none = sym (root-fault known root entries size path h s p) ∙ w.none;
  are = w.rows ∙ (λ k. o k ++ filter (is_row known) (entries_visits known 256 (p k) entries)) ∙ ap (filter (is_row known)) (sym (walk-of known root entries h));
}
