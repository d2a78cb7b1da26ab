-- The front of a mark list is one, and may be put before the rest.
use Rattle.std.proofs.Common.{◌≡◌, ◌+◌, ℕ, List, [], ◌∷◌, ◌++◌, map, take, drop, Some, sym, ap, subst, ◌∙◌, append_assoc, append-nil, take-append-drop}
use Rattle.std.specs.Prelude.{slice_get}
use Rattle.text_model.proofs.Elements.{map_append, map_take_push}
use Rattle.hg_model.specs.Changeset.{Extra}
use Rattle.pair_model.specs.MarkList.{Mark, OneExtra, IsMarkList}
use Rattle.mark_law.proofs.Decided.{list-front}
use Rattle.commit_mark.specs.Parts.{BeginList}

pub begun : (ms : List Mark) → BeginList ms → IsMarkList ms
begun ms h = list-front ms h.0 h.1

-- what begins a list with more behind it begins one without
pub begin-front : (ms ns : List Mark) → BeginList (ms ++ ns) → BeginList ms
begin-front ms ns h = (ns ++ h.0, subst IsMarkList (append_assoc ms ns h.0) h.1)

pub begin-same : (ms ns : List Mark) → ms ≡ ns → BeginList ms → BeginList ns
begin-same ms ns e h = subst BeginList e h

-- a list that is one begins one
pub begin-whole : (ms : List Mark) → IsMarkList ms → BeginList ms
begin-whole ms h = ([], subst IsMarkList (sym (append-nil ms)) h)

-- ---- extras

module _ (old : List Mark) (es : List Extra) (begins : BeginList (old ++ map OneExtra es)) (i : ℕ) (e : Extra) (at : slice_get es i ≡ Some e) where
  -- one extra more
  pub extras-more : old ++ map OneExtra (take (i + 1) es) ≡ (old ++ map OneExtra (take i es)) ++ OneExtra e ∷ []
  extras-more = ap (λ (ms : List Mark). old ++ ms) (map_take_push OneExtra es i e at) ∙ sym (append_assoc old (map OneExtra (take i es)) (OneExtra e ∷ []))

  pub extras-begin : BeginList ((old ++ map OneExtra (take i es)) ++ OneExtra e ∷ [])
  extras-begin =
      let front = map OneExtra (take (i + 1) es) in
      let rest = map OneExtra (drop (i + 1) es) in
      let whole : map OneExtra es ≡ front ++ rest = ap (map OneExtra) (sym (take-append-drop (i + 1) es)) ∙ map_append OneExtra (take (i + 1) es) (drop (i + 1) es) in
      begin-same (old ++ front) _ extras-more (begin-front (old ++ front) rest (begin-same _ _ (ap (λ (ms : List Mark). old ++ ms) whole ∙ sym (append_assoc old front rest)) begins))

-- marks behind marks, each list by its own name
pub begin-behind : (ms next front more : List Mark) → ms ≡ front → next ≡ more → BeginList (front ++ more) → BeginList (ms ++ next)
begin-behind ms next front more a b h = begin-same (front ++ more) (ms ++ next) (λ i. sym a i ++ sym b i) h

-- marks of two parts begin with the first, and go on with the second
module _ (old next part rest : List Mark) (is : next ≡ part) where
  pub parts-are : (old ++ next) ++ rest ≡ old ++ (part ++ rest)
  parts-are = append_assoc old next rest ∙ (λ i. old ++ (is i ++ rest))

  pub begin-part : BeginList (old ++ (part ++ rest)) → BeginList (old ++ next)
  begin-part begins = begin-front (old ++ next) rest (begin-same (old ++ (part ++ rest)) ((old ++ next) ++ rest) (sym parts-are) begins)

  pub begin-rest : (marks : List Mark) → marks ≡ old ++ next → BeginList (old ++ (part ++ rest)) → BeginList (marks ++ rest)
  begin-rest marks m begins = begin-same (old ++ (part ++ rest)) (marks ++ rest) (sym parts-are ∙ (λ i. sym m i ++ rest)) begins
