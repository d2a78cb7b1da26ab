-- The lines of pairs are read in one way.
use Rattle.std.proofs.Common.{◌≡◌, ◌≢◌, ◌<◌, ◌≤◌, ◌^◌, ℕ, List, [], ◌∷◌, ◌++◌, length, Some, None, codes, refl, sym, ap, ◌∙◌, arith, append_assoc, append-nil, length-append}
use Rattle.std.specs.List.{flat_map}
use Rattle.text_model.specs.Lists.{Each}
use Rattle.text_model.specs.Text.{Bytes, lf, sp}
use Rattle.text_model.specs.Id.{hex, id_of_hex}
use Rattle.text_model.specs.Cuts.{Lacks, cut_of}
use Rattle.text_model.proofs.CutLemmas.{cut_of-at, cut_of-takes}
use Rattle.text_model.proofs.LackLemmas.{Lacks-append}
use Rattle.text_model.proofs.HexLemmas.{id_of_hex-hex, id_of_hex-takes, hex-injective, hex-lacks}
use Rattle.text_model.proofs.Elements.{flat_map_append}
use Rattle.text_model.proofs.Options.{some_is, none_some}
use Rattle.state_part.specs.declared.pairs.IdPair.{IdPair}
use Rattle.state_part.specs.Form.{count_line, HasCount, NoCount}
use Rattle.state_part.specs.Pairs.{IsPair, pair_line, NoPair, map_section, HasMap, NoMap}
use Rattle.state_part.proofs.CountLemmas.{one_count}

-- the words of a pair
abbrev pub words_of : IdPair → Bytes
words_of p = hex p.commit ++ sp ∷ hex p.node

pub pair_line-parts : (p : IdPair) (rest : Bytes) → pair_line p ++ rest ≡ words_of p ++ lf ∷ rest
pair_line-parts p rest =
    append_assoc (hex p.commit ++ sp ∷ (hex p.node ++ [])) (lf ∷ []) rest ∙ ap (λ (t : Bytes). (hex p.commit ++ sp ∷ t) ++ lf ∷ rest) (append-nil (hex p.node))

words_lack : (p : IdPair) → IsPair p → Lacks lf (words_of p)
words_lack p is =
    let other : sp ≢ lf = λ e. omega (arith, e) in
    Lacks-append lf (hex p.commit) (sp ∷ hex p.node) (hex-lacks lf p.commit (omega arith) is.0.1) (other, hex-lacks lf p.node (omega arith) is.1.1)

cut_of-line : (p : IdPair) (rest : Bytes) → IsPair p → cut_of lf (pair_line p ++ rest) ≡ Some (words_of p, rest)
cut_of-line p rest is = ap (cut_of lf) (pair_line-parts p rest) ∙ cut_of-at lf (words_of p) rest (words_lack p is)

cut_of-words : (p : IdPair) → IsPair p → cut_of sp (words_of p) ≡ Some (hex p.commit, hex p.node)
cut_of-words p is = cut_of-at sp (hex p.commit) (hex p.node) (hex-lacks sp p.commit (omega arith) is.0.1)

-- ---- one line

pub no_line : (bytes : Bytes) → None ≡ cut_of lf bytes → NoPair bytes
no_line bytes none p rest is e = none_some (none ∙ ap (cut_of lf) e ∙ cut_of-line p rest is)

the_line : (bytes line after : Bytes) (p : IdPair) (rest : Bytes) → Some (line, after) ≡ cut_of lf bytes → IsPair p → bytes ≡ pair_line p ++ rest → line ≡ words_of p
the_line bytes line after p rest cut is e = ap (λ (w : Bytes × Bytes). w.0) (some_is (cut ∙ ap (cut_of lf) e ∙ cut_of-line p rest is))

pub no_space : (bytes line after : Bytes) → Some (line, after) ≡ cut_of lf bytes → None ≡ cut_of sp line → NoPair bytes
no_space bytes line after cut none p rest is e = none_some (none ∙ ap (cut_of sp) (the_line bytes line after p rest cut is e) ∙ cut_of-words p is)

the_words : (bytes line after first second : Bytes) (p : IdPair) (rest : Bytes) → Some (line, after) ≡ cut_of lf bytes → Some (first, second) ≡ cut_of sp line → IsPair p → bytes ≡ pair_line p ++ rest
    → (first ≡ hex p.commit) × (second ≡ hex p.node)
the_words bytes line after first second p rest cut words is e =
    let same : (first, second) ≡ (hex p.commit, hex p.node) = some_is (words ∙ ap (cut_of sp) (the_line bytes line after p rest cut is e) ∙ cut_of-words p is) in
    (ap (λ (w : Bytes × Bytes). w.0) same, ap (λ (w : Bytes × Bytes). w.1) same)

pub no_commit : (bytes line after first second : Bytes) → Some (line, after) ≡ cut_of lf bytes → Some (first, second) ≡ cut_of sp line → None ≡ id_of_hex first → NoPair bytes
no_commit bytes line after first second cut words none p rest is e =
    none_some (none ∙ ap id_of_hex (the_words bytes line after first second p rest cut words is e).0 ∙ id_of_hex-hex p.commit is.0)

pub no_node : (bytes line after first second : Bytes) → Some (line, after) ≡ cut_of lf bytes → Some (first, second) ≡ cut_of sp line → None ≡ id_of_hex second → NoPair bytes
no_node bytes line after first second cut words none p rest is e =
    none_some (none ∙ ap id_of_hex (the_words bytes line after first second p rest cut words is e).1 ∙ id_of_hex-hex p.node is.1)

pub found : (bytes line after first second : Bytes) (p : IdPair) → Some (line, after) ≡ cut_of lf bytes → Some (first, second) ≡ cut_of sp line
    → Some p.commit ≡ id_of_hex first → Some p.node ≡ id_of_hex second → IsPair p × (bytes ≡ pair_line p ++ after)
found bytes line after first second p cut words commit node =
    let c = id_of_hex-takes first p.commit (sym commit) in
    let n = id_of_hex-takes second p.node (sym node) in
    let line_is : line ≡ words_of p = (cut_of-takes sp line first second (sym words)).0 ∙ ap (λ (t : Bytes). t ++ sp ∷ second) c.1 ∙ ap (λ (t : Bytes). hex p.commit ++ sp ∷ t) n.1 in
    ((c.0, n.0), (cut_of-takes lf bytes line after (sym cut)).0 ∙ ap (λ (t : Bytes). t ++ lf ∷ after) line_is ∙ sym (pair_line-parts p after))

-- ---- all lines

-- no more pairs than bytes
pub lines_long : (ps : List IdPair) → length ps ≤ length (flat_map pair_line ps)
lines_long [] = omega arith
lines_long (p ∷ ps) =
    omega (arith, lines_long ps, length-append (pair_line p) (flat_map pair_line ps), length-append (hex p.commit ++ sp ∷ (hex p.node ++ [])) (lf ∷ []))

-- behind pairs that are fewer than there are stands a pair
pub next_pair : (pairs ps : List IdPair) (rest more : Bytes) → Each IsPair pairs → Each IsPair ps → flat_map pair_line pairs ++ rest ≡ flat_map pair_line ps ++ more → length pairs < length ps
    → NoPair rest → ⊥
next_pair [] [] rest more i j e few none = omega (arith, few)
next_pair [] (q ∷ ps) rest more i j e few none = none q (flat_map pair_line ps ++ more) j.0 (e ∙ append_assoc (pair_line q) (flat_map pair_line ps) more)
next_pair (p ∷ pairs) [] rest more i j e few none = omega (arith, few)
next_pair (p ∷ pairs) (q ∷ ps) rest more i j e few none =
    let whole = sym (append_assoc (pair_line p) (flat_map pair_line pairs) rest) ∙ e ∙ append_assoc (pair_line q) (flat_map pair_line ps) more in
    let behind = ap (λ (w : Bytes × Bytes). w.1) (some_is (sym (cut_of-line p (flat_map pair_line pairs ++ rest) i.0) ∙ ap (cut_of lf) whole ∙ cut_of-line q (flat_map pair_line ps ++ more) j.0)) in
    next_pair pairs ps rest more i.1 j.1 behind (omega (arith, few)) none

-- how a section of pairs begins the bytes
pub record Lines (bytes : Bytes) (pairs : List IdPair) (rest : Bytes) : Type 0 where
  pub is : bytes ≡ count_line (codes "map") (length pairs) ++ (flat_map pair_line pairs ++ rest)
  pub few : length pairs < 2 ^ 64

pub lines_of : (bytes : Bytes) (pairs : List IdPair) (rest : Bytes) → length bytes < 2 ^ 64 → bytes ≡ map_section pairs ++ rest → Lines bytes pairs rest
lines_of bytes pairs rest long e =
    let parts = e ∙ append_assoc (count_line (codes "map") (length pairs)) (flat_map pair_line pairs) rest in record {
      is = parts;
      few = omega
          (arith, long, lines_long pairs, ap (λ (t : Bytes). length t) parts, length-append (count_line (codes "map") (length pairs)) (flat_map pair_line pairs ++ rest), length-append (flat_map pair_line pairs) rest);
    }

pub no_count : (bytes : Bytes) → length bytes < 2 ^ 64 → NoCount (codes "map") bytes → NoMap bytes
no_count bytes long none pairs rest ids e = let l = lines_of bytes pairs rest long e in none (length pairs) (flat_map pair_line pairs ++ rest) l.few l.is

pub no_map : (bytes lines rest : Bytes) (count : ℕ) (pairs : List IdPair) → length bytes < 2 ^ 64 → HasCount (codes "map") bytes count lines
    → lines ≡ flat_map pair_line pairs ++ rest → Each IsPair pairs → length pairs < count → NoPair rest → NoMap bytes
no_map bytes lines rest count pairs long line so_far ids few none ps more is e =
    let l = lines_of bytes ps more long e in
    let one = one_count (codes "map") count (length ps) lines (flat_map pair_line ps ++ more) line.fits l.few (sym line.is ∙ l.is) in
    next_pair pairs ps rest more ids is (sym so_far ∙ one.rest) (omega (arith, few, one.number)) none

pub has_map : (bytes lines rest : Bytes) (count : ℕ) (pairs : List IdPair) → HasCount (codes "map") bytes count lines → lines ≡ flat_map pair_line pairs ++ rest → Each IsPair pairs
    → length pairs ≡ count → HasMap bytes pairs rest
has_map bytes lines rest count pairs line so_far ids all = record {
  is =
      line.is
      ∙ ap (λ (t : Bytes). count_line (codes "map") count ++ t) so_far
      ∙ ap (λ (n : ℕ). count_line (codes "map") n ++ (flat_map pair_line pairs ++ rest)) (sym all)
      ∙ sym (append_assoc (count_line (codes "map") (length pairs)) (flat_map pair_line pairs) rest);
  ids = ids;
}

-- one line more
pub more_lines : (lines rest behind : Bytes) (pairs : List IdPair) (p : IdPair) → lines ≡ flat_map pair_line pairs ++ rest → rest ≡ pair_line p ++ behind → lines ≡ flat_map pair_line (pairs ++ p ∷ []) ++ behind
more_lines lines rest behind pairs p so_far next =
    so_far
    ∙ ap (λ (t : Bytes). flat_map pair_line pairs ++ t) next
    ∙ sym (append_assoc (flat_map pair_line pairs) (pair_line p) behind)
    ∙ ap (λ (t : Bytes). t ++ behind) (sym (flat_map_append pair_line pairs (p ∷ []) ∙ ap (λ (t : Bytes). flat_map pair_line pairs ++ t) (append-nil (pair_line p))))

-- ---- bytes begin with one section of pairs

one_pair : (p q : IdPair) (x y : Bytes) → IsPair p → IsPair q → pair_line p ++ x ≡ pair_line q ++ y → (p ≡ q) × (x ≡ y)
one_pair p q x y i j e =
    let lines : (words_of p, x) ≡ (words_of q, y) = some_is (sym (cut_of-line p x i) ∙ ap (cut_of lf) e ∙ cut_of-line q y j) in
    let words : (hex p.commit, hex p.node) ≡ (hex q.commit, hex q.node) =
    some_is (sym (cut_of-words p i) ∙ ap (λ (w : Bytes × Bytes). cut_of sp w.0) lines ∙ cut_of-words q j) in
    let commit : p.commit ≡ q.commit = hex-injective p.commit q.commit i.0 j.0 (ap (λ (w : Bytes × Bytes). w.0) words) in
    let node : p.node ≡ q.node = hex-injective p.node q.node i.1 j.1 (ap (λ (w : Bytes × Bytes). w.1) words) in
    (pair commit node, ap (λ (w : Bytes × Bytes). w.1) lines)
  where
    pair : p.commit ≡ q.commit → p.node ≡ q.node → p ≡ q
    pair commit node = (λ k. record { commit = commit k; node = node k })

one_lines : (a b : List IdPair) (x y : Bytes) → Each IsPair a → Each IsPair b → length a ≡ length b → flat_map pair_line a ++ x ≡ flat_map pair_line b ++ y → (a ≡ b) × (x ≡ y)
one_lines [] [] x y i j long e = (refl, e)
one_lines [] (q ∷ b) x y i j long e = absurd (omega (arith, long))
one_lines (p ∷ a) [] x y i j long e = absurd (omega (arith, long))
one_lines (p ∷ a) (q ∷ b) x y i j long e =
    let whole = sym (append_assoc (pair_line p) (flat_map pair_line a) x) ∙ e ∙ append_assoc (pair_line q) (flat_map pair_line b) y in
    let first = one_pair p q (flat_map pair_line a ++ x) (flat_map pair_line b ++ y) i.0 j.0 whole in
    let others = one_lines a b x y i.1 j.1 (omega (arith, long)) first.1 in
    ((λ k. first.0 k ∷ others.0 k), others.1)

pub one_map : (a b : List IdPair) (x y : Bytes) → Each IsPair a → Each IsPair b → length a < 2 ^ 64 → length b < 2 ^ 64 → map_section a ++ x ≡ map_section b ++ y → (a ≡ b) × (x ≡ y)
one_map a b x y i j few_a few_b e =
    let parts =
    sym (append_assoc (count_line (codes "map") (length a)) (flat_map pair_line a) x) ∙ e ∙ append_assoc (count_line (codes "map") (length b)) (flat_map pair_line b) y in
    let one = one_count (codes "map") (length a) (length b) (flat_map pair_line a ++ x) (flat_map pair_line b ++ y) few_a few_b parts in
    one_lines a b x y i j one.number one.rest
