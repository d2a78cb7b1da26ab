-- How far the reading of a tree has come.
use Rattle.std.proofs.Common.{◌≡◌, ◌≤◌, ◌+◌, ◌-◌, ◌==◌, ℕ, zero, suc, Bool, true, false, not, List, [], ◌∷◌, ◌++◌, length, map, Option, Some, None, Result, Ok, Err, refl, sym, ap, subst, ◌∙◌, arith, append_assoc, append-nil, bytes_eq, true≢false, eqb-true}
use Rattle.std.specs.Prelude.{◌||◌, IsTrue}
use Rattle.std.specs.List.{list_any, flat_map}
use Rattle.std.proofs.lemmas.List.Concat.{flat_map-append}
use Rattle.std.proofs.lemmas.Slice.Eq.{bytes_eq-Decides}
use Rattle.text_model.specs.Lists.{rises}
use Rattle.text_model.specs.Text.{Bytes, IsBytes, sp, nul, is_below}
use Rattle.text_model.specs.Id.{IsId}
use Rattle.text_model.specs.Cuts.{cut_of}
use Rattle.text_model.specs.Path.{is_fit_name}
use Rattle.text_model.specs.Fault.{FaultName}
use Rattle.text_model.specs.Fault as fault
use Rattle.text_model.proofs.ByteLemmas.{IsBytes-front, IsBytes-rest}
use Rattle.text_model.proofs.EachLemmas.{Each-push}
use Rattle.text_model.proofs.TestLemmas.{both}
use Rattle.text_model.proofs.Options.{some_is, none_some, not_true, not_false, or_parts, or_false}
use Rattle.git_model.specs.Tree.{Mode, File, GroupFile, Exec, Link, Directory, Gitlink, is_directory, mode_text, modes, find_mode, mode_of, TreeEntry, tree_entry_text, tree_text, is_entry_below, has_distinct, IsTree, IsTreeText, RawEntry, raw_size, first_entry, is_octal, is_directory_text, raw_sort_name, order_name, sort_name, rises_behind, has_name, judged_name, judged, entries_fault, tree_fault, tree_entries_from, tree_entries}
use Rattle.git_model.proofs.TreeOrderLemmas.{last_of_more}
use Rattle.git_model.proofs.TreeLemmas.{HasEntry, first_entry-takes}

-- What the definitions say of the content is what they say of the rest behind these entries.
pub record ReadTo (content : Bytes) (entries : List TreeEntry) (rest : Bytes) : Type 0 where
  pub more : ℕ
  pub enough : length rest ≤ more
  pub within : length rest ≤ length content
  pub fault : tree_fault content ≡ entries_fault more entries (length content - length rest) rest
  pub list : tree_entries content ≡ entries ++ tree_entries_from more rest

pub read_none : (content : Bytes) → ReadTo content [] content
read_none content =
    let none : 0 ≡ length content - length content = omega arith in
    record { more = length content; enough = omega arith; within = omega arith; fault = ap (λ (at : ℕ). entries_fault (length content) [] at content) none; list = refl }

-- ---- an entry that fits

err_ok : (name : FaultName) (e : TreeEntry) → Err name ≡ Ok e → ⊥
err_ok name e h = cc

ok_is : (e f : TreeEntry) → (let a : Result TreeEntry FaultName = Ok e in a ≡ Ok f) → e ≡ f
ok_is e f h = cc

-- what an entry that fits has
pub record Fits (before : List TreeEntry) (raw : RawEntry) (e : TreeEntry) : Type 0 where
  pub above : rises_behind before raw ≡ true
  pub new : has_name before raw.name ≡ false
  pub mode : mode_of raw.mode ≡ Some e.mode
  pub fit : is_fit_name raw.name ≡ true
  pub name_is : raw.name ≡ e.name
  pub id_is : raw.id ≡ e.id

fits_by : (before : List TreeEntry) (raw : RawEntry) (e : TreeEntry) → rises_behind before raw ≡ true → has_name before raw.name ≡ false → (m : Option Mode) → mode_of raw.mode ≡ m → judged_name m raw ≡ Ok e → Fits before raw e
fits_by before raw e above new None is h = absurd (err_ok fault.ModeOut e h)
fits_by before raw e above new (Some mode) is h = by (is_fit_name raw.name) refl
  where
    by : (t : Bool) → is_fit_name raw.name ≡ t → Fits before raw e
    by false t = absurd (err_ok fault.NameUnfit e (sym (rw t refl) ∙ h))
    by true t =
        let same : record { mode = mode; name = raw.name; id = raw.id } ≡ e = ok_is (record { mode = mode; name = raw.name; id = raw.id }) e (sym (rw t refl) ∙ h) in
        record { above = above; new = new; mode = is ∙ ap (λ (x : TreeEntry). Some x.mode) same; fit = t; name_is = ap (λ (x : TreeEntry). x.name) same; id_is = ap (λ (x : TreeEntry). x.id) same }

pub judged-takes : (before : List TreeEntry) (raw : RawEntry) (e : TreeEntry) → judged before raw ≡ Ok e → Fits before raw e
judged-takes before raw e h = by (not (is_octal raw.mode) || not (rises_behind before raw) || has_name before raw.name) refl
  where
    by : (t : Bool) → (not (is_octal raw.mode) || not (rises_behind before raw) || has_name before raw.name) ≡ t → Fits before raw e
    by true t = absurd (err_ok fault.ObjectShape e (sym (rw t refl) ∙ h))
    by false t =
        let one = or_parts (not (is_octal raw.mode) || not (rises_behind before raw)) (has_name before raw.name) t in
        let two = or_parts (not (is_octal raw.mode)) (not (rises_behind before raw)) one.0 in
        fits_by before raw e (not_false (rises_behind before raw) two.1) one.1 (mode_of raw.mode) refl (sym (rw t refl) ∙ h)

-- the text of the mode that was found
find_mode-takes : (text : Bytes) (ms : List Mode) (mode : Mode) → find_mode text ms ≡ Some mode → mode_text mode ≡ text
find_mode-takes text [] mode h = absurd (none_some h)
find_mode-takes text (m ∷ ms) mode h = by (bytes_eq (mode_text m) text) refl (find_mode-takes text ms mode)
  where
    by : (t : Bool) → bytes_eq (mode_text m) text ≡ t → (find_mode text ms ≡ Some mode → mode_text mode ≡ text) → mode_text mode ≡ text
    by true t later = ap mode_text (sym (some_is (sym (rw t refl) ∙ h))) ∙ (bytes_eq-Decides (mode_text m) text).0 t
    by false t later = later (sym (rw t refl) ∙ h)

pub directory_is : (mode : Mode) → is_directory_text (mode_text mode) ≡ is_directory mode
directory_is File = refl
directory_is GroupFile = refl
directory_is Exec = refl
directory_is Link = refl
directory_is Directory = refl
directory_is Gitlink = refl

-- the name in the order is that of the entry
same_key : (before : List TreeEntry) (raw : RawEntry) (e : TreeEntry) → Fits before raw e → raw_sort_name raw ≡ sort_name e.mode e.name
same_key before raw e f =
    let directory : is_directory_text raw.mode ≡ is_directory e.mode = ap is_directory_text (sym (find_mode-takes raw.mode modes e.mode f.mode)) ∙ directory_is e.mode in
    λ i. order_name (directory i) (f.name_is i)

-- ---- one entry more

step_fault : (more : ℕ) (before : List TreeEntry) (at : ℕ) (b : ℕ) (bytes : Bytes) (raw : RawEntry) (after : Bytes) (e : TreeEntry) → first_entry (b ∷ bytes) ≡ Some (raw, after) → judged before raw ≡ Ok e
    → entries_fault (suc more) before at (b ∷ bytes) ≡ entries_fault more (before ++ e ∷ []) (at + raw_size raw) after
unfolding entries_fault
step_fault more before at b bytes raw after e read ok = rw (read, ok, entries_fault) refl

step_list : (more : ℕ) (bytes : Bytes) (raw : RawEntry) (after : Bytes) (mode : Mode) → first_entry bytes ≡ Some (raw, after) → mode_of raw.mode ≡ Some mode
    → tree_entries_from (suc more) bytes ≡ record { mode = mode; name = raw.name; id = raw.id } ∷ tree_entries_from more after
unfolding tree_entries_from
step_list more bytes raw after mode read is = rw (read, is, tree_entries_from) refl

pub read_more : (content : Bytes) (before : List TreeEntry) (rest : Bytes) (raw : RawEntry) (after : Bytes) (e : TreeEntry) → ReadTo content before rest → first_entry rest ≡ Some (raw, after) → judged before raw ≡ Ok e → ReadTo content (before ++ e ∷ []) after
read_more content before rest raw after e so_far read ok = by rest so_far.more read so_far.enough so_far.within so_far.fault so_far.list (first_entry-takes rest raw after read).len
  where
    f : Fits before raw e
    f = judged-takes before raw e ok

    by : (rest : Bytes) (more : ℕ) → first_entry rest ≡ Some (raw, after) → length rest ≤ more → length rest ≤ length content → tree_fault content ≡ entries_fault more before (length content - length rest) rest
        → tree_entries content ≡ before ++ tree_entries_from more rest → length rest ≡ raw_size raw + length after → ReadTo content (before ++ e ∷ []) after
    by [] more read enough within fault list len = absurd (omega (arith, len))
    by (b ∷ bytes) zero read enough within fault list len = absurd (omega (arith, enough))
    by (b ∷ bytes) (suc more) read enough within fault list len =
        let at : length content - length (b ∷ bytes) + raw_size raw ≡ length content - length after = omega (arith, len, within) in
        let same : record { mode = e.mode; name = raw.name; id = raw.id } ≡ e = λ i. record { mode = e.mode; name = f.name_is i; id = f.id_is i } in
        record {
          more = more;
          enough = omega (arith, enough, len);
          within = omega (arith, within, len);
          fault = fault ∙ step_fault more before (length content - length (b ∷ bytes)) b bytes raw after e read ok ∙ ap (λ (n : ℕ). entries_fault more (before ++ e ∷ []) n after) at;
          list = list ∙ ap (λ (l : List TreeEntry). before ++ l) (step_list more (b ∷ bytes) raw after e.mode read f.mode ∙ ap (λ (x : TreeEntry). x ∷ tree_entries_from more after) same) ∙ sym (append_assoc before (e ∷ []) (tree_entries_from more after));
        }

-- ---- an entry that doesn't fit

fault_cut : (more : ℕ) (before : List TreeEntry) (at : ℕ) (b : ℕ) (bytes : Bytes) → first_entry (b ∷ bytes) ≡ None → entries_fault (suc more) before at (b ∷ bytes) ≡ Some (record { name = fault.ObjectShape; place = at })
unfolding entries_fault
fault_cut more before at b bytes read = rw (read, entries_fault) refl

fault_judged : (more : ℕ) (before : List TreeEntry) (at : ℕ) (b : ℕ) (bytes : Bytes) (raw : RawEntry) (after : Bytes) (name : FaultName) → first_entry (b ∷ bytes) ≡ Some (raw, after) → judged before raw ≡ Err name
    → entries_fault (suc more) before at (b ∷ bytes) ≡ Some (record { name = name; place = at })
unfolding entries_fault
fault_judged more before at b bytes raw after name read bad = rw (read, bad, entries_fault) refl

pub read_cut : (content : Bytes) (before : List TreeEntry) (rest : Bytes) → ReadTo content before rest → first_entry rest ≡ None → (length rest == 0) ≡ false → tree_fault content ≡ Some (record { name = fault.ObjectShape; place = length content - length rest })
read_cut content before rest so_far none some = by rest so_far.more none some so_far.enough so_far.fault
  where
    by : (rest : Bytes) (more : ℕ) → first_entry rest ≡ None → (length rest == 0) ≡ false → length rest ≤ more → tree_fault content ≡ entries_fault more before (length content - length rest) rest
        → tree_fault content ≡ Some (record { name = fault.ObjectShape; place = length content - length rest })
    by [] more none some enough fault = absurd (true≢false some)
    by (b ∷ bytes) zero none some enough fault = absurd (omega (arith, enough))
    by (b ∷ bytes) (suc more) none some enough fault = fault ∙ fault_cut more before (length content - length (b ∷ bytes)) b bytes none

pub read_bad : (content : Bytes) (before : List TreeEntry) (rest : Bytes) (raw : RawEntry) (after : Bytes) (name : FaultName) → ReadTo content before rest → first_entry rest ≡ Some (raw, after) → judged before raw ≡ Err name
    → tree_fault content ≡ Some (record { name = name; place = length content - length rest })
read_bad content before rest raw after name so_far read bad = by rest so_far.more read so_far.enough so_far.fault (first_entry-takes rest raw after read).len
  where
    by : (rest : Bytes) (more : ℕ) → first_entry rest ≡ Some (raw, after) → length rest ≤ more → tree_fault content ≡ entries_fault more before (length content - length rest) rest → length rest ≡ raw_size raw + length after
        → tree_fault content ≡ Some (record { name = name; place = length content - length rest })
    by [] more read enough fault len = absurd (omega (arith, len))
    by (b ∷ bytes) zero read enough fault len = absurd (omega (arith, enough))
    by (b ∷ bytes) (suc more) read enough fault len = fault ∙ fault_judged more before (length content - length (b ∷ bytes)) b bytes raw after name read bad

-- ---- nothing is left

no_fault : (more : ℕ) (before : List TreeEntry) (at : ℕ) → entries_fault more before at [] ≡ None
unfolding entries_fault
no_fault zero before at = refl
no_fault (suc more) before at = refl

no_entry : first_entry [] ≡ None
unfolding first_entry cut_of
no_entry = refl

no_list : (more : ℕ) → tree_entries_from more [] ≡ []
unfolding tree_entries_from
no_list zero = refl
no_list (suc more) = rw (no_entry, tree_entries_from) refl

pub read_all_fits : (content : Bytes) (entries : List TreeEntry) → ReadTo content entries [] → tree_fault content ≡ None
read_all_fits content entries so_far = so_far.fault ∙ no_fault so_far.more entries (length content - 0)

pub read_all_entries : (content : Bytes) (entries : List TreeEntry) → ReadTo content entries [] → tree_entries content ≡ entries
read_all_entries content entries so_far = so_far.list ∙ ap (λ (l : List TreeEntry). entries ++ l) (no_list so_far.more) ∙ append-nil entries

-- ---- the entries that were read are those of a tree

abbrev pub names_of : List TreeEntry → List Bytes
names_of entries = map (λ e. e.name) entries

rises-push : (xs : List TreeEntry) (raw : RawEntry) (e : TreeEntry) → rises is_entry_below xs ≡ true → rises_behind xs raw ≡ true → raw_sort_name raw ≡ sort_name e.mode e.name → rises is_entry_below (xs ++ e ∷ []) ≡ true
rises-push [] raw e up above same = refl
rises-push (x ∷ []) raw e up above same = rw (sym (ap (is_below (sort_name x.mode x.name)) same) ∙ above) refl
rises-push (x ∷ y ∷ ys) raw e up above same =
    let parts = both (is_entry_below x y) (rises is_entry_below (y ∷ ys)) up in
    rw parts.0 (rises-push (y ∷ ys) raw e parts.1 (sym (last_of_more x y ys raw) ∙ above) same)

any-push : (name : Bytes) (xs : List TreeEntry) (e : TreeEntry) → list_any (bytes_eq name) (names_of (xs ++ e ∷ [])) ≡ (list_any (bytes_eq name) (names_of xs) || bytes_eq name e.name)
any-push name [] e = or_false (bytes_eq name e.name)
any-push name (x ∷ xs) e = ap (λ (b : Bool). bytes_eq name x.name || b) (any-push name xs e) ∙ or_assoc (bytes_eq name x.name) (list_any (bytes_eq name) (names_of xs)) (bytes_eq name e.name)
  where
    or_assoc : (a b c : Bool) → (a || (b || c)) ≡ ((a || b) || c)
    or_assoc true b c = refl
    or_assoc false b c = refl

distinct-push : (xs : List TreeEntry) (e : TreeEntry) → has_distinct (names_of xs) ≡ true → has_name xs e.name ≡ false → has_distinct (names_of (xs ++ e ∷ [])) ≡ true
distinct-push [] e h new = refl
distinct-push (x ∷ xs) e h new =
    let parts = both (not (list_any (bytes_eq x.name) (names_of xs))) (has_distinct (names_of xs)) h in
    let news = or_parts (bytes_eq x.name e.name) (has_name xs e.name) new in
    rw (any-push x.name xs e, not_true (list_any (bytes_eq x.name) (names_of xs)) parts.0, news.0) (distinct-push xs e parts.1 news.1)

-- the text of an entry as it stands
entry_whole : (rest : Bytes) (before : List TreeEntry) (raw : RawEntry) (after : Bytes) (e : TreeEntry) → HasEntry rest raw after → Fits before raw e → rest ≡ tree_entry_text e ++ after
entry_whole rest before raw after e h f =
    h.whole
    ∙ (λ i. sym (find_mode-takes raw.mode modes e.mode f.mode) i ++ sp ∷ (f.name_is i ++ nul ∷ (f.id_is i ++ after)))
    ∙ sym (append_assoc (mode_text e.mode ++ sp ∷ e.name) (nul ∷ e.id) after ∙ append_assoc (mode_text e.mode) (sp ∷ e.name) (nul ∷ (e.id ++ after)))

-- the entries so far are a tree's, and their text stands before the rest
pub record TreeTo (content : Bytes) (entries : List TreeEntry) (rest : Bytes) : Type 0 where
  pub to : ReadTo content entries rest
  pub are : IsTree entries
  pub whole : content ≡ tree_text entries ++ rest
  pub bytes : IsBytes rest

pub tree_none : (content : Bytes) → IsBytes content → TreeTo content [] content
unfolding tree_text
tree_none content bytes = record { to = read_none content; are = (tt, refl, refl); whole = refl; bytes = bytes }

text-push : (entries : List TreeEntry) (e : TreeEntry) → tree_text (entries ++ e ∷ []) ≡ tree_text entries ++ tree_entry_text e
unfolding tree_text
text-push entries e = flat_map-append tree_entry_text entries (e ∷ []) ∙ ap (λ (l : Bytes). flat_map tree_entry_text entries ++ l) (append-nil (tree_entry_text e))

pub tree_may_follow : (content : Bytes) (before : List TreeEntry) (rest : Bytes) (raw : RawEntry) (after : Bytes) (e : TreeEntry) → TreeTo content before rest → first_entry rest ≡ Some (raw, after) → judged before raw ≡ Ok e → IsTree (before ++ e ∷ [])
tree_may_follow content before rest raw after e so_far read ok =
    let f = judged-takes before raw e ok in
    let h = first_entry-takes rest raw after read in
    let bytes : IsBytes (raw.mode ++ sp ∷ (raw.name ++ nul ∷ (raw.id ++ after))) = subst IsBytes h.whole so_far.bytes in
    let behind_mode = (IsBytes-rest raw.mode (sp ∷ (raw.name ++ nul ∷ (raw.id ++ after))) bytes).1 in
    let behind_name = (IsBytes-rest raw.name (nul ∷ (raw.id ++ after)) behind_mode).1 in
    let name_bytes : IsBytes e.name = subst IsBytes f.name_is (IsBytes-front raw.name (nul ∷ (raw.id ++ after)) behind_mode) in
    let id_is : IsId e.id = subst IsId f.id_is (h.id_len, IsBytes-front raw.id after behind_name) in
    let fit : is_fit_name e.name ≡ true = sym (ap is_fit_name f.name_is) ∙ f.fit in
    let new : has_name before e.name ≡ false = sym (ap (has_name before) f.name_is) ∙ f.new in (
      Each-push (λ (x : TreeEntry). IsTrue (is_fit_name x.name) × IsBytes x.name × IsId x.id) before e so_far.are.0 (fit, name_bytes, id_is),
      rises-push before raw e so_far.are.1 f.above (same_key before raw e f),
      distinct-push before e so_far.are.2 new,
    )

pub tree_more : (content : Bytes) (before : List TreeEntry) (rest : Bytes) (raw : RawEntry) (after : Bytes) (e : TreeEntry) → TreeTo content before rest → first_entry rest ≡ Some (raw, after) → judged before raw ≡ Ok e → TreeTo content (before ++ e ∷ []) after
tree_more content before rest raw after e so_far read ok =
    let f = judged-takes before raw e ok in
    let h = first_entry-takes rest raw after read in
    let whole : rest ≡ tree_entry_text e ++ after = entry_whole rest before raw after e h f in
    record {
      to = read_more content before rest raw after e so_far.to read ok;
      are = tree_may_follow content before rest raw after e so_far read ok;
      whole = so_far.whole ∙ ap (λ (l : Bytes). tree_text before ++ l) whole ∙ sym (append_assoc (tree_text before) (tree_entry_text e) after) ∙ ap (λ (l : Bytes). l ++ after) (sym (text-push before e));
      bytes = IsBytes-rest (tree_entry_text e) after (subst IsBytes whole so_far.bytes);
    }

pub tree_all : (content : Bytes) (entries : List TreeEntry) → TreeTo content entries [] → IsTreeText content entries
tree_all content entries so_far = (so_far.are, so_far.whole ∙ append-nil (tree_text entries))

pub nothing_left : (content : Bytes) (entries : List TreeEntry) (rest : Bytes) → TreeTo content entries rest → (length rest == 0) ≡ true → TreeTo content entries []
nothing_left content entries [] so_far h = so_far
nothing_left content entries (b ∷ bytes) so_far h = absurd (omega (arith, eqb-true (length (b ∷ bytes)) 0 h))
