-- The first three lines of a changeset's text, and the lines of its files.
use Rattle.std.proofs.Common.{◌≡◌, ◌≢◌, ◌<◌, ◌+◌, ◌-◌, ◌==◌, ℕ, Bool, true, false, true≢false, List, [], ◌∷◌, ◌++◌, length, Some, None, refl, sym, ap, subst, ◌∙◌, append_assoc, append-nil, arith}
use Rattle.std.specs.List.{flat_map}
use Rattle.std.proofs.lemmas.List.Concat.{flat_map-append}
use Rattle.text_model.specs.Lists.{Each}
use Rattle.text_model.specs.Text.{Bytes, IsBytes, lf, line, first_line}
use Rattle.text_model.specs.Id.{Id, hex, is_hex_id, id_of_hex}
use Rattle.text_model.proofs.ByteLemmas.{IsBytes-front, IsBytes-rest}
use Rattle.text_model.proofs.TestLemmas.{differs}
use Rattle.text_model.proofs.CutLemmas.{cut_of-none}
use Rattle.text_model.proofs.LineLemmas.{first_line-is_cut}
use Rattle.text_model.proofs.EachLemmas.{Each-push}
use Rattle.text_model.proofs.HexLemmas.{id_of_hex-takes, is_hex_id-hex, id_of_hex-some, length-hex}
use Rattle.text_model.proofs.LackLemmas.{Lacks-by_test, has_byte-lacks}
use Rattle.text_model.proofs.Options.{none_some}
use Rattle.hg_model.specs.Changeset.{has_blank_line, date_fault, user_fault, changeset_fault, Changeset, IsChangesetText, date_of}
use Rattle.hg_model.proofs.ChangesetLemmas.{IsFile, first_line-takes, has_blank_line-behind, has_blank_line-none, fault-no_id, fault-user, fault-date, fault-empty_user, whole_changeset}
use Rattle.hg_changeset.specs.Reading.{IsHead, AreFiles}

no_hex : (digits : Bytes) → None ≡ id_of_hex digits → is_hex_id digits ≡ false
no_hex digits e = by (is_hex_id digits) refl
  where
    by : (t : Bool) → is_hex_id digits ≡ t → is_hex_id digits ≡ false
    by true t = absurd (none_some (e ∙ id_of_hex-some digits t))
    by false t = t

empty : (text : Bytes) → true ≡ (length text == 0) → text ≡ []
empty [] h = refl
empty (b ∷ text) h = absurd (true≢false (h ∙ differs (length (b ∷ text)) 0 (λ e. omega (arith, e))))

-- the line of the manifest
module _ (text digits behind : Bytes) (first : Some (digits, behind) ≡ first_line text) where
  pub no_id : None ≡ id_of_hex digits → changeset_fault text ≡ Some 0
  no_id e = fault-no_id text digits behind (sym first) (no_hex digits e)

  module _ (id : Id) (reads : Some id ≡ id_of_hex digits) where
    is_hex : is_hex_id digits ≡ true
    is_hex = let t = id_of_hex-takes digits id (sym reads) in ap is_hex_id t.1 ∙ is_hex_id-hex id t.0

    place : length text - length behind ≡ 41
    place = let t = id_of_hex-takes digits id (sym reads) in omega (arith, (first_line-takes text digits behind (sym first)).long, ap (λ (x : Bytes). length x) t.1, length-hex id, t.0.0)

    long : length text ≡ 41 + length behind
    long = let t = id_of_hex-takes digits id (sym reads) in omega (arith, (first_line-takes text digits behind (sym first)).long, ap (λ (x : Bytes). length x) t.1, length-hex id, t.0.0)

    at_user : changeset_fault text ≡ user_fault 41 (length text) (first_line behind)
    at_user = fault-user text digits behind (sym first) is_hex

    pub no_user : None ≡ first_line behind → changeset_fault text ≡ Some (length text - length behind)
    no_user e = at_user ∙ ap (user_fault 41 (length text)) (sym e) ∙ ap (λ (n : ℕ). Some n) (sym place)

    -- the line of the user
    module _ (user rest : Bytes) (second : Some (user, rest) ≡ first_line behind) where
      pub empty_user : true ≡ (length user == 0) → changeset_fault text ≡ Some (length text - length behind)
      empty_user e = at_user ∙ fault-empty_user 41 (length text) behind user rest (sym second) (sym e) ∙ ap (λ (n : ℕ). Some n) (sym place)

      module _ (some : false ≡ (length user == 0)) where
        at_date : changeset_fault text ≡ date_fault (41 + length user + 1) (length text) (first_line rest)
        at_date = at_user ∙ fault-date 41 (length text) behind user rest (sym second) (sym some)

        pub no_date : None ≡ first_line rest → changeset_fault text ≡ Some (length text - length rest)
        no_date e =
            let at : length text - length rest ≡ 41 + length user + 1 = omega (arith, long, (first_line-takes behind user rest (sym second)).long) in
            at_date ∙ ap (date_fault (41 + length user + 1) (length text)) (sym e) ∙ ap (λ (n : ℕ). Some n) (sym at)

        -- the date line
        pub head : (date after : Bytes) → Some (date, after) ≡ first_line rest → IsHead text id user date after
        head date after third =
            let t = id_of_hex-takes digits id (sym reads) in
            let one = first_line-takes text digits behind (sym first) in
            let two = first_line-takes behind user rest (sym second) in
            let three = first_line-takes rest date after (sym third) in
            let nested : text ≡ line (hex id) ++ (line user ++ (line date ++ after)) =
            one.whole ∙ ap (λ (x : Bytes). line x ++ behind) t.1 ∙ ap (λ (x : Bytes). line (hex id) ++ x) (two.whole ∙ ap (λ (x : Bytes). line user ++ x) three.whole) in
            record {
              whole = nested ∙ sym (append_assoc (line (hex id)) (line user) (line date ++ after)) ∙ sym (append_assoc (line (hex id) ++ line user) (line date) after);
              id = t.0;
              user_is = ((λ e. true≢false (sym (ap (λ (x : Bytes). length x == 0) e) ∙ sym some)), has_byte-lacks 10 user two.plain);
              date_is = has_byte-lacks 10 date three.plain;
              fault = at_date ∙ ap (date_fault (41 + length user + 1) (length text)) (sym third);
            }

-- ---- the lines of the files

-- what was added is the lines before the rest, and a blank line stands in the rest where one stands in the text
pub record FilesTo (text : Bytes) (old new : List Bytes) (rest : Bytes) : Type 0 where
  pub files : List Bytes
  pub each : Each IsFile files
  pub added : new ≡ old ++ files
  pub whole : text ≡ flat_map line files ++ rest
  pub blank : has_blank_line text ≡ has_blank_line rest
  pub bytes : IsBytes rest

pub files-start : (text : Bytes) (old : List Bytes) → IsBytes text → FilesTo text old old text
files-start text old bytes = record { files = []; each = tt; added = sym (append-nil old); whole = refl; blank = refl; bytes = bytes }

pub files-shorter : (rest file after : Bytes) → Some (file, after) ≡ first_line rest → length after < length rest
files-shorter rest file after e = omega (arith, (first_line-takes rest file after (sym e)).long)

pub files-more : (text : Bytes) (old mid new : List Bytes) (rest file after : Bytes) → FilesTo text old mid rest → Some (file, after) ≡ first_line rest → false ≡ (length file == 0) → new ≡ mid ++ file ∷ [] → FilesTo text old new after
files-more text old mid new rest file after f e some pushed =
    let l = first_line-takes rest file after (sym e) in
    let bytes : IsBytes (line file ++ after) = subst IsBytes l.whole f.bytes in
    let is_some : file ≢ [] = λ h. true≢false (sym (ap (λ (x : Bytes). length x == 0) h) ∙ sym some) in
    record {
      files = f.files ++ file ∷ [];
      each = Each-push IsFile f.files file f.each (is_some, has_byte-lacks 10 file l.plain, IsBytes-front file (lf ∷ []) (IsBytes-front (line file) after bytes));
      added = pushed ∙ ap (λ (x : List Bytes). x ++ file ∷ []) f.added ∙ append_assoc old f.files (file ∷ []);
      whole =
          f.whole ∙ ap (λ (x : Bytes). flat_map line f.files ++ x) l.whole ∙ sym (append_assoc (flat_map line f.files) (line file) after)
          ∙ ap (λ (x : Bytes). x ++ after) (ap (λ (x : Bytes). flat_map line f.files ++ x) (sym (append-nil (line file))) ∙ sym (flat_map-append line f.files (file ∷ [])));
      blank = f.blank ∙ ap has_blank_line l.whole ∙ has_blank_line-behind file after is_some l.plain;
      bytes = IsBytes-rest (line file) after bytes;
    }

pub files-all : (text : Bytes) (old new : List Bytes) (rest file after : Bytes) → FilesTo text old new rest → Some (file, after) ≡ first_line rest → true ≡ (length file == 0) → AreFiles text old new after
files-all text old new rest file after f e none =
    let l = first_line-takes rest file after (sym e) in
    let blank : rest ≡ lf ∷ after = l.whole ∙ ap (λ (x : Bytes). line x ++ after) (empty file none) in
    record {
      files = f.files;
      each = f.each;
      added = f.added;
      whole = f.whole ∙ ap (λ (x : Bytes). flat_map line f.files ++ x) blank;
      blank = f.blank ∙ ap has_blank_line blank;
    }

pub files-none : (text : Bytes) (old new : List Bytes) (rest : Bytes) → FilesTo text old new rest → None ≡ first_line rest → has_blank_line text ≡ false
files-none text old new rest f e = f.blank ∙ has_blank_line-none rest (cut_of-none lf rest (sym (first_line-is_cut rest) ∙ sym e))

-- ---- the whole

pub whole_read : (text : Bytes) (id : Id) (user date rest description : Bytes) (old files : List Bytes) → IsBytes text → IsHead text id user date rest → AreFiles rest old files description → old ≡ []
    → (x : Changeset) → x.manifest ≡ id → x.user ≡ user → x.date ≡ date_of date → x.files ≡ files → x.description ≡ description → IsChangesetText text x
whole_read text id user date rest description old files bytes head parts none x manifest_is user_is date_is files_are description_is =
    let added : files ≡ parts.files = parts.added ∙ ap (λ (front : List Bytes). front ++ parts.files) none in
    let nested : text ≡ line (hex id) ++ (line user ++ (line date ++ rest)) =
    head.whole ∙ append_assoc (line (hex id) ++ line user) (line date) rest ∙ append_assoc (line (hex id)) (line user) (line date ++ rest) in
    let whole = nested ∙ ap (λ (r : Bytes). line (hex id) ++ (line user ++ (line date ++ r))) parts.whole in
    let read = whole_changeset text id user date parts.files description bytes whole head.id head.user_is.0 (Lacks-by_test 10 user head.user_is.1) (Lacks-by_test 10 date head.date_is) parts.each in
    subst (IsChangesetText text) (λ i. record {
      manifest = sym manifest_is i;
      user = sym user_is i;
      date = sym date_is i;
      files = sym (files_are ∙ added) i;
      description = sym description_is i;
    }) read
