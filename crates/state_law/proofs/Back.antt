-- The names of a saved state come back from either side.
use Rattle.std.proofs.Common.{◌≡◌, ◌+◌, ◌*◌, ◌≤◌, Bool, true, false, List, [], ◌∷◌, ◌++◌, length, codes, Option, Some, None, Ok, refl, ap, subst, ◌∙◌, arith, length-append}
use Rattle.std.specs.Prelude.{if◌then◌else◌, option_map, bytes_eq, cond, drop, IsTrue, ◌==◌}
use Rattle.std.specs.List.{find, starts_with}
use Rattle.std.proofs.lemmas.List.{length-drop}
use Rattle.text_model.specs.Lists.{Each}
use Rattle.text_model.specs.Text.{Bytes, line, spaced, lf, sp}
use Rattle.text_model.specs.Id.{Id, IsId, hex, has_id}
use Rattle.text_model.specs.Fault.{input_limit}
use Rattle.text_model.proofs.HexLemmas.{length-hex}
use Rattle.text_model.proofs.Options.{some_is, none_some}
use Rattle.state_model.specs.Kept.{State, NameRow}
use Rattle.state_model.specs.Ref.{is_fit_ref}
use Rattle.state_model.specs.Names.{Targets, changeset_of, is_target, AreNames}
use Rattle.state_model.specs.Text.{ref_line}
use Rattle.state_model.specs.Saved.{IsState}
use Rattle.name_model.specs.Line.{Phase, Public, Draft, Secret, NameLine, OtherRef, heads, tags, phase_word, line_text}
use Rattle.name_model.specs.Targets.{AreTargets, behind, phase_in, phase_line, tag_or_phase, commit_line_by, commit_line, tag_line_by, tag_line, line_with, line_of_ref}
use Rattle.name_model.specs.Reading.{refs_reading, names_reading, names_text}
use Rattle.name_law.proofs.Across.{names-back, refs-back}
use Rattle.name_law.proofs.Sizes.{refs-short}
use Rattle.dump_law.proofs.Names.{targets-saved, names-saved}
use Rattle.command_model.specs.Names.{hg_names, git_names, hg_names_text, git_names_text}
use Rattle.command_model.specs.Names as command
use Rattle.command_model.proofs.Limits.{within}
use Rattle.command_model.specs.Command.{Written, named_by}
use Rattle.state_law.specs.Named.{NamesComeBack}

-- ---- how long a line of Mercurial's side is

three-words : (a b c : Bytes) → length (line (spaced (a ∷ b ∷ c ∷ []))) ≡ length a + length b + length c + 3
three-words a b c =
    omega (
      arith,
      length-append (spaced (a ∷ b ∷ c ∷ [])) (lf ∷ []),
      length-append a (sp ∷ (b ++ (sp ∷ (c ++ [])))),
      length-append b (sp ∷ (c ++ [])),
      length-append c [],
    )

hex-long : (id : Id) → IsId id → length (hex id) ≡ 40
hex-long id is = omega (arith, length-hex id, is.0)

word-short : (phase : Phase) → length (phase_word phase) ≡ 1
word-short Public = refl
word-short Draft = refl
word-short Secret = refl

-- the changeset of a commit has a node that is an id
node-is : (pairs : List (Id × Id)) (id node : Id) → Each (λ e. IsId e.0 × IsId e.1) pairs → option_map (λ (e : Id × Id). e.0) (find (λ (e : Id × Id). bytes_eq e.1 id) pairs) ≡ Some node
    → IsId node
node-is [] id node ids h = absurd (none_some h)
node-is (p ∷ pairs) id node ids h = by (bytes_eq p.1 id) h (node-is pairs id node ids.1)
  where
    by : (t : Bool) → option_map (λ (e : Id × Id). e.0) (cond t (Some p) (find (λ (e : Id × Id). bytes_eq e.1 id) pairs)) ≡ Some node
        → (option_map (λ (e : Id × Id). e.0) (find (λ (e : Id × Id). bytes_eq e.1 id) pairs) ≡ Some node → IsId node) → IsId node
    by true k later = subst IsId (some_is k) ids.0.0
    by false k later = later k

-- what stands behind a beginning isn't longer than all
behind-short : (front name rest : Bytes) → behind front name ≡ Some rest → length rest ≤ length name
behind-short front name rest h = by (starts_with ◌==◌ name front) h
  where
    by : (b : Bool) → (if b then Some (drop (length front) name) else None) ≡ Some rest → length rest ≤ length name
    by true e = omega (arith, ap (λ (x : Bytes). length x) (some_is e), length-drop (length front) name)
    by false e = absurd (none_some e)

abbrev IsShort : NameLine → Type 0
IsShort l = length (line_text l) ≤ 4188

module _ (row : NameRow) (size : length (hex row.id) + length row.name ≤ 4136) where
  other-short : IsShort (OtherRef row.id row.name)
  other-short = omega (arith, three-words (codes "ref") (hex row.id) row.name, size)

  commit-short : (node : Id) → IsId node → IsShort (commit_line row node)
  commit-short node is = by (behind heads row.name) refl
    where
      by_phase : (o : Option Phase) → IsShort (phase_line row node o)
      by_phase None = other-short
      by_phase (Some phase) = omega (arith, three-words (codes "phase") (phase_word phase) (hex node), word-short phase, hex-long node is, size)

      by_tag : (o : Option Bytes) → behind tags row.name ≡ o → IsShort (tag_or_phase row node o)
      by_tag None e = by_phase (phase_in row.name node)
      by_tag (Some name) e = omega (arith, three-words (codes "tag") (hex node) name, hex-long node is, size, behind-short tags row.name name e)

      by : (o : Option Bytes) → behind heads row.name ≡ o → IsShort (commit_line_by row node o)
      by None e = by_tag (behind tags row.name) refl
      by (Some name) e = omega (arith, three-words (codes "bookmark") (hex node) name, hex-long node is, size, behind-short heads row.name name e)

  tag-short : (t : Targets) → IsShort (tag_line t row)
  tag-short t = kept (has_id t.tags row.id)
    where
      by : (o : Option Bytes) → behind tags row.name ≡ o → IsShort (tag_line_by row o)
      by None e = other-short
      by (Some name) e = omega (arith, three-words (codes "annotated") (hex row.id) name, size, behind-short tags row.name name e)

      kept : (b : Bool) → IsShort (if b then tag_line_by row (behind tags row.name) else OtherRef row.id row.name)
      kept true = by (behind tags row.name) refl
      kept false = other-short

module _ (t : Targets) (a : AreTargets t) where
  -- 40 digits, a space, the name and LF are 4,138 bytes at most
  ref-short : (row : NameRow) → IsTrue (is_fit_ref row.name) → IsTrue (is_target t row.id) → length (hex row.id) + length row.name ≤ 4136
  ref-short row fit known =
      let one = refs-short t a (row ∷ []) (record { few = omega arith; fit = (fit, tt); targets = (known, tt); rising = refl }) in
      omega (arith, one, length-append (ref_line row) [], length-append (hex row.id ++ sp ∷ row.name) (lf ∷ []), length-append (hex row.id) (sp ∷ row.name))

  line-short : (row : NameRow) → IsTrue (is_fit_ref row.name) → IsTrue (is_target t row.id) → length (line_text (line_of_ref t row)) ≤ 4188
  line-short row fit known = by (changeset_of t row.id) refl
    where
      by : (o : Option Id) → changeset_of t row.id ≡ o → IsShort (line_with t row o)
      by (Some node) e = commit-short row (ref-short row fit known) node (node-is t.pairs row.id node a.pair_ids e)
      by None e = tag-short row (ref-short row fit known) t

  lines-short : (names : List NameRow) → Each (λ row. IsTrue (is_fit_ref row.name)) names → Each (λ row. IsTrue (is_target t row.id)) names → length (names_text t names) ≤ 4188 * length names
  lines-short [] f k = omega arith
  lines-short (row ∷ names) f k =
      omega (arith, length-append (line_text (line_of_ref t row)) (names_text t names), line-short row f.0 k.0, lines-short names f.1 k.1)

-- ---- both texts are read back

written-is : (x y : Bytes) → Written x None ≡ Written y None → x ≡ y
written-is x y e = cc

module _ (s : State) (is : IsState s) where
  t : Targets
  t = command.targets_saved s

  a : AreTargets (command.targets_saved s)
  a = targets-saved s is

  n : AreNames (command.targets_saved s) s.names
  n = names-saved s is

  hg-back : hg_names s (hg_names_text s) ≡ Ok s.names
  hg-back =
      let text = hg_names_text s in
      let short : length text ≤ input_limit = omega (arith, lines-short (command.targets_saved s) a s.names n.fit n.targets, n.few) in
      within text (names_reading (command.targets_saved s) text) short ∙ names-back (command.targets_saved s) a s.names n

  git-back : git_names s (git_names_text s) ≡ Ok s.names
  git-back =
      let text = git_names_text s in
      let short : length text ≤ input_limit = omega (arith, refs-short (command.targets_saved s) a s.names n, n.few) in
      within text (refs_reading (command.targets_saved s) text) short ∙ refs-back (command.targets_saved s) a s.names n

pub come-back : NamesComeBack
come-back s is = record {
  hg = λ text e. subst (λ (x : Bytes). named_by s (hg_names s x) ≡ Written [] (Some s)) (written-is (hg_names_text s) text e) (ap (named_by s) (hg-back s is));
  git = λ text e. subst (λ (x : Bytes). named_by s (git_names s x) ≡ Written [] (Some s)) (written-is (git_names_text s) text e) (ap (named_by s) (git-back s is));
}
