-- The dumps that a state's text begins with.
use Rattle.std.proofs.Common.{◌≡◌, ◌++◌, ◌∙◌, append_assoc, subst}
use Rattle.std.specs.Prelude.{Option, None, Some, IfSome, MatchOption}
use Rattle.text_model.specs.Text.{Bytes}
use Rattle.pair_model.specs.Block.{changesets_in, commits_in}
use Rattle.state_model.specs.Kept.{State, hg_dump, git_dump}
use Rattle.state_model.specs.Text.{sections_of, section_text, state_text, text_up_to}
use Rattle.state_model.specs.Saved.{IsStateText}
use Rattle.state_part.specs.Form.{dumps_text, HasDumps, NoDumps}
use Rattle.state_part.specs.declared.dumps.Dumps.{Dumps}
use Rattle.state_part.proofs.DumpLemmas.{one_dumps}
use Rattle.bridge_cli.specs.Fetched.{IsSavedWith}
use Rattle.bridge_cli.specs.declared.fetch.Fetched.{Fetched}

-- six parts, one behind another
six : (a b c d e f : Bytes) → ((((a ++ b) ++ c) ++ d) ++ e) ++ f ≡ a ++ (b ++ (c ++ (d ++ (e ++ f))))
six a b c d e f =
    append_assoc (((a ++ b) ++ c) ++ d) e f ∙ append_assoc ((a ++ b) ++ c) d (e ++ f) ∙ append_assoc (a ++ b) c (d ++ (e ++ f)) ∙ append_assoc a b (c ++ (d ++ (e ++ f)))

behind_dumps : State → Bytes
behind_dumps m = section_text 3 (sections_of m) ++ (section_text 4 (sections_of m) ++ section_text 5 (sections_of m))

begins : (m : State) → state_text m ≡ dumps_text (hg_dump (changesets_in m.blocks)) (git_dump (commits_in m.blocks)) (behind_dumps m)
unfolding state_text text_up_to behind_dumps
begins m = let s = sections_of m in six (section_text 0 s) (section_text 1 s) (section_text 2 s) (section_text 3 s) (section_text 4 s) (section_text 5 s)

-- the dumps in the text of a state are those of its changesets and its commits
pub dumps-are : (text bundle stream : Bytes) (m : State) → HasDumps text bundle stream → IsStateText text m → (bundle ≡ hg_dump (changesets_in m.blocks)) × (stream ≡ git_dump (commits_in m.blocks))
dumps-are text bundle stream m has is = one_dumps text bundle stream _ _ (behind_dumps m) has (is.1 ∙ begins m)

-- those that were found in the text of what was fetched
pub dumps-found : (text : Bytes) (found : Option Dumps) (f : Fetched) → f.text ≡ Some text → MatchOption found (NoDumps text) (λ d. HasDumps text d.bundle d.stream)
    → IfSome found (λ d. (m : State) → IsSavedWith f m → (d.bundle ≡ hg_dump (changesets_in m.blocks)) × (d.stream ≡ git_dump (commits_in m.blocks)))
dumps-found text None f is h = tt
dumps-found text (Some d) f is h = λ m saved. dumps-are text d.bundle d.stream m h (subst (λ (t : Option Bytes). IfSome t (λ own. IsStateText own m)) is saved.text)
