-- What is known at each step of reading a tree.
use Rattle.std.proofs.Common.{◌≡◌, ◌-◌, List, length, Option, Some, None, Result, Ok, Err, refl, sym, subst}
use Rattle.std.specs.Result.{IsErrAnd}
use Rattle.std.specs.Prelude.{IfErr}
use Rattle.text_model.specs.Text.{Bytes}
use Rattle.text_model.specs.Fault.{FaultName}
use Rattle.text_model.proofs.Options.{none_some}
use Rattle.git_model.specs.Tree.{TreeEntry, RawEntry, TreeFault, first_entry, judged, tree_fault}
use Rattle.git_model.proofs.TreeReadLemmas.{TreeTo, read_bad}
use Rattle.git_object.specs.declared.fault.TreeReadFault.{TreeReadFault}
use Rattle.git_object.specs.declared.fault.TreeReadFault.TheVariants.{Shape, ModeOut, NameUnfit, Memory}
use Rattle.git_object.specs.Faults.{IsTreeFault, fault_at}

no_fault : (e : TreeReadFault) → IsTreeFault None e → (why : Option TreeFault) → IsTreeFault why e
no_fault (Shape at) is why = absurd (none_some is)
no_fault (ModeOut at) is why = absurd (none_some is)
no_fault (NameUnfit at) is why = absurd (none_some is)
no_fault Memory is why = tt

-- what is wrong with the next entry is what is wrong with the content
pub bad_entry : (content : Bytes) (before : List TreeEntry) (rest : Bytes) (raw : RawEntry) (after : Bytes) (e : TreeReadFault) → TreeTo content before rest → first_entry rest ≡ Some (raw, after)
    → IsTreeFault (fault_at (length content - length rest) (judged before raw)) e → IsTreeFault (tree_fault content) e
bad_entry content before rest raw after e so_far read is = by (judged before raw) refl
  where
    by : (j : Result TreeEntry FaultName) → judged before raw ≡ j → IsTreeFault (tree_fault content) e
    by (Ok x) j = no_fault e (subst (λ (r : Result TreeEntry FaultName). IsTreeFault (fault_at (length content - length rest) r) e) j is) (tree_fault content)
    by (Err name) j =
        subst (λ (why : Option TreeFault). IsTreeFault why e) (sym (read_bad content before rest raw after name so_far.to read j))
        (subst (λ (r : Result TreeEntry FaultName). IsTreeFault (fault_at (length content - length rest) r) e) j is)

-- the fault that is handed on is the one that came
pub refused : {T : Type 0} (why : Option TreeFault) (e : TreeReadFault) → IsTreeFault why e → (r : Result T TreeReadFault) → IsErrAnd r (λ f. f ≡ e) → IfErr r (IsTreeFault why)
refused why e is (Ok x) h = tt
refused why e is (Err f) h = subst (IsTreeFault why) (sym h) is
