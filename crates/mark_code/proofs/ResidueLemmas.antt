-- The text of a residue, as it is read and as it is written.
use Rattle.std.proofs.Common.{◌≡◌, ◌≢◌, ◌-◌, ◌&&◌, ◌==◌, ℕ, suc, Bool, true, false, List, [], ◌∷◌, ◌++◌, length, map, Option, Some, None, option_map, refl, sym, ap, subst, ◌∙◌, append_assoc, append-nil, arith, eqb-true, length-append, ◌<◌, true≢false}
use Rattle.std.specs.Prelude.{codes, bytes_eq, slice_get, if◌then◌else◌}
use Rattle.std.specs.List.{flat_map, slice_split, list_all}
use Rattle.std.proofs.lemmas.Slice.Eq.{bytes_eq-Decides}
use Rattle.text_model.specs.Lists.{Each, rises}
use Rattle.text_model.specs.Text.{Bytes, IsBytes, sp, spaced, is_below}
use Rattle.text_model.specs.Id.{Id, IsId, hex, id_of_hex, is_lower_digit}
use Rattle.text_model.specs.Cuts.{Lacks, cut_of}
use Rattle.text_model.specs.Escape.{escape}
use Rattle.text_model.proofs.CutLemmas.{cut_of-at, cut_of-takes, cut_of-none}
use Rattle.text_model.proofs.EscapeLemmas.{escape-lacks}
use Rattle.text_model.proofs.HexLemmas.{hex-lacks, is_hex_id-hex, id_of_hex-hex, id_of_hex-takes}
use Rattle.text_model.proofs.LackLemmas.{Lacks-by_test, Lacks-append}
use Rattle.text_model.proofs.Options.{some_is, none_some}
use Rattle.text_model.proofs.TestLemmas.{both}
use Rattle.git_model.specs.Residue.{ResidueKind, Group, Link, Empty, ResidueItem}
use Rattle.git_object.specs.Values.{AreItems, stands_above}
use Rattle.pair_model.specs.MarkList.{item_word, residue_words, residue_text, IsItemKind, IsResidue}
use Rattle.mark_code.specs.Reading.{raw_of}
use Rattle.mark_code.specs.ResidueText.{item_of_path, link_of, item_of_kind, item_of_word, items_behind, residue_of_text, IsItem}
use Rattle.mark_code.proofs.PathsLemmas.{pieces-cut, pieces-one}
use Rattle.mark_code.proofs.RawLemmas.{raw_of-escape, raw_of-takes}
use Rattle.mark_code.proofs.WordLemmas.{pieces, pieces-spaced}

-- ---- one word

lower-lacks : (text : Bytes) → list_all is_lower_digit text ≡ true → Lacks 58 text
lower-lacks [] h = tt
lower-lacks (b ∷ text) h =
    let parts = both (is_lower_digit b) (list_all is_lower_digit text) h in
    (λ e. true≢false (sym parts.0 ∙ ap is_lower_digit e), lower-lacks text parts.1)

hex-no_colon : (id : Id) → IsId id → Lacks 58 (hex id)
hex-no_colon id is = lower-lacks (hex id) (both (length (hex id) == 40) (list_all is_lower_digit (hex id)) (is_hex_id-hex id is)).1

path-again : (path : Bytes) (kind : ResidueKind) → IsBytes path → item_of_path kind (escape path) ≡ Some (record { path = path; kind = kind })
path-again path kind is = ap (option_map (λ (p : Bytes). record { path = p; kind = kind })) (raw_of-escape path is)

path-takes : (kind : ResidueKind) (text : Bytes) (item : ResidueItem) → item_of_path kind text ≡ Some item → (text ≡ escape item.path) × (item.kind ≡ kind) × IsBytes item.path
path-takes kind text item h = by (raw_of text) refl
  where
    by : (r : Option Bytes) → raw_of text ≡ r → (text ≡ escape item.path) × (item.kind ≡ kind) × IsBytes item.path
    by None r = absurd (none_some (sym (rw r refl) ∙ h))
    by (Some raw) r =
        let same : record { path = raw; kind = kind } ≡ item = some_is (sym (rw r refl) ∙ h) in
        let read = raw_of-takes text raw r in
        subst (λ (i : ResidueItem). (text ≡ escape i.path) × (i.kind ≡ kind) × IsBytes i.path) same (read.1, refl, read.0)

word-again : (path : Bytes) (kind : ResidueKind) → IsBytes path → IsItemKind kind → item_of_word (item_word path kind) ≡ Some (record { path = path; kind = kind })
unfolding item_of_word link_of
word-again path Group is k = rw (cut_of-at 58 (codes "group") (escape path) (Lacks-by_test 58 (codes "group") refl)) (path-again path Group is)
word-again path Empty is k = rw (cut_of-at 58 (codes "empty") (escape path) (Lacks-by_test 58 (codes "empty") refl)) (path-again path Empty is)
word-again path (Link id) is k =
    let whole : item_word path (Link id) ≡ codes "link" ++ 58 ∷ (hex id ++ 58 ∷ escape path) = ap (λ (t : Bytes). codes "link" ++ 58 ∷ t) (append_assoc [] (hex id) (58 ∷ escape path)) in
    rw (whole, cut_of-at 58 (codes "link") (hex id ++ 58 ∷ escape path) (Lacks-by_test 58 (codes "link") refl), cut_of-at 58 (hex id) (escape path) (hex-no_colon id k), id_of_hex-hex id k) (path-again path (Link id) is)

-- the item has this word
abbrev IsWordOf : Bytes → ResidueItem → Type 0
IsWordOf word item = (word ≡ item_word item.path item.kind) × IsItem item

link-takes : (text : Bytes) (item : ResidueItem) → link_of text ≡ Some item → IsWordOf (codes "link:" ++ text) item
unfolding link_of
link-takes text item h = by (cut_of 58 text) refl
  where
    by : (r : Option (Bytes × Bytes)) → cut_of 58 text ≡ r → IsWordOf (codes "link:" ++ text) item
    by None r = absurd (none_some (sym (rw r refl) ∙ h))
    by (Some first) r = read (id_of_hex first.0) refl
      where
        read : (s : Option Id) → id_of_hex first.0 ≡ s → IsWordOf (codes "link:" ++ text) item
        read None s = absurd (none_some (sym (rw (r, s) refl) ∙ h))
        read (Some id) s =
            let cut = cut_of-takes 58 text first.0 first.1 r in
            let hexed = id_of_hex-takes first.0 id s in
            let path = path-takes (Link id) first.1 item (sym (rw (r, s) refl) ∙ h) in
            let whole : codes "link:" ++ text ≡ item_word item.path (Link id) =
            ap (λ (t : Bytes). codes "link:" ++ t) (cut.0 ∙ (λ i. hexed.1 i ++ 58 ∷ path.0 i)) in
            (whole ∙ ap (item_word item.path) (sym path.1), (path.2, subst IsItemKind (sym path.1) hexed.0))

word-takes : (word : Bytes) (item : ResidueItem) → item_of_word word ≡ Some item → IsWordOf word item
unfolding item_of_word
word-takes word item h = by (cut_of 58 word) refl
  where
    by : (r : Option (Bytes × Bytes)) → cut_of 58 word ≡ r → IsWordOf word item
    by None r = absurd (none_some (sym (rw r refl) ∙ h))
    by (Some (kind, text)) r = group (bytes_eq kind (codes "group")) refl (bytes_eq kind (codes "link")) refl (bytes_eq kind (codes "empty")) refl
      where
        cut : word ≡ kind ++ 58 ∷ text
        cut = (cut_of-takes 58 word kind text r).0

        read : item_of_kind kind text ≡ Some item
        read = sym (rw r refl) ∙ h

        plain : (k : ResidueKind) (name : Bytes) → bytes_eq kind name ≡ true → item_of_path k text ≡ Some item → IsItemKind k → (path : Bytes) → item_word item.path k ≡ name ++ 58 ∷ escape item.path → IsWordOf word item
        plain k name t e is path joined =
            let p = path-takes k text item e in
            let named : kind ≡ name = (bytes_eq-Decides kind name).0 t in
            (cut ∙ (λ i. named i ++ 58 ∷ p.0 i) ∙ sym joined ∙ ap (item_word item.path) (sym p.1), (p.2, subst IsItemKind (sym p.1) is))

        group : (t : Bool) → bytes_eq kind (codes "group") ≡ t → (u : Bool) → bytes_eq kind (codes "link") ≡ u → (v : Bool) → bytes_eq kind (codes "empty") ≡ v → IsWordOf word item
        group true t u e v f = plain Group (codes "group") t (sym (rw t refl) ∙ read) tt [] refl
        group false t true u v f =
            let named : kind ≡ codes "link" = (bytes_eq-Decides kind (codes "link")).0 u in
            subst (λ (w : Bytes). IsWordOf w item) (sym (cut ∙ ap (λ (k : Bytes). k ++ 58 ∷ text) named)) (link-takes text item (sym (rw (t, u) refl) ∙ read))
        group false t false u true v = plain Empty (codes "empty") v (sym (rw (t, u, v) refl) ∙ read) tt [] refl
        group false t false u false v = absurd (none_some (sym (rw (t, u, v) refl) ∙ read))

-- ---- items that rise

above-more : (a b : ResidueItem) (before : List ResidueItem) (item : ResidueItem) → stands_above (a ∷ b ∷ before) item ≡ stands_above (b ∷ before) item
above-more a b before item =
    let less : length (a ∷ b ∷ before) - 1 ≡ suc (length (b ∷ before) - 1) = omega arith in
    ap (λ (n : ℕ). elim (slice_get (a ∷ b ∷ before) n) as (λ _. Bool) [ None ↦ true | Some last ↦ is_below last.path item.path ]) less

-- items with one more rise where it stands above the last
pub rises-push : (before : List ResidueItem) (item : ResidueItem) → AreItems before → stands_above before item ≡ true → AreItems (before ++ item ∷ [])
rises-push [] item h s = refl
rises-push (a ∷ []) item h s = ap (λ (t : Bool). t && true) s
rises-push (a ∷ b ∷ before) item h s =
    let parts = both (is_below a.path b.path) (rises is_below (map (λ (i : ResidueItem). i.path) (b ∷ before))) h in
    ap (λ (t : Bool). t && rises is_below (map (λ (i : ResidueItem). i.path) (b ∷ (before ++ item ∷ [])))) parts.0 ∙ rises-push (b ∷ before) item parts.1 (sym (above-more a b before item) ∙ s)

-- one among items that rise stands above those before it
above-among : (before : List ResidueItem) (item : ResidueItem) (items : List ResidueItem) → AreItems (before ++ item ∷ items) → stands_above before item ≡ true
above-among [] item items h = refl
above-among (a ∷ []) item items h = (both (is_below a.path item.path) (rises is_below (map (λ (i : ResidueItem). i.path) (item ∷ items))) h).0
above-among (a ∷ b ∷ before) item items h =
    above-more a b before item ∙ above-among (b ∷ before) item items (both (is_below a.path b.path) (rises is_below (map (λ (i : ResidueItem). i.path) (b ∷ (before ++ item ∷ items)))) h).1

-- ---- the words

items-again : (before items : List ResidueItem) → Each IsItem items → AreItems (before ++ items) → items_behind before (residue_words items) ≡ Some (before ++ items)
items-again before [] each rise = ap (λ (xs : List ResidueItem). Some xs) (sym (append-nil before))
items-again before (x ∷ items) each rise =
    let moved : (before ++ x ∷ []) ++ items ≡ before ++ x ∷ items = append_assoc before (x ∷ []) items in
    rw (word-again x.path x.kind each.0.0 each.0.1, above-among before x items rise)
    (items-again (before ++ x ∷ []) items each.1 (subst AreItems (sym moved) rise) ∙ ap (λ (xs : List ResidueItem). Some xs) moved)

-- what is read of words behind items
pub record Behind (before : List ResidueItem) (words : List Bytes) (whole : List ResidueItem) : Type 0 where
  pub items : List ResidueItem
  pub whole_is : whole ≡ before ++ items
  pub words_are : words ≡ residue_words items
  pub each : Each IsItem items
  pub rise : AreItems whole

items-take : (before : List ResidueItem) (words : List Bytes) (whole : List ResidueItem) → AreItems before → items_behind before words ≡ Some whole → Behind before words whole
items-take before [] whole rise h =
    let same : before ≡ whole = some_is h in
    record { items = []; whole_is = sym same ∙ sym (append-nil before); words_are = refl; each = tt; rise = subst AreItems same rise }
items-take before (word ∷ words) whole rise h = by (λ more. items-take more words whole) (item_of_word word) refl
  where
    by : ((more : List ResidueItem) → AreItems more → items_behind more words ≡ Some whole → Behind more words whole) → (r : Option ResidueItem) → item_of_word word ≡ r → Behind before (word ∷ words) whole
    by rec None r = absurd (none_some (sym (rw r refl) ∙ h))
    by rec (Some item) r = fit (stands_above before item) refl
      where
        fit : (t : Bool) → stands_above before item ≡ t → Behind before (word ∷ words) whole
        fit false t = absurd (none_some (sym (rw (r, t) refl) ∙ h))
        fit true t =
            let more = rec (before ++ item ∷ []) (rises-push before item rise t) (sym (rw (r, t) refl) ∙ h) in
            let taken = word-takes word item r in
            record {
              items = item ∷ more.items;
              whole_is = more.whole_is ∙ append_assoc before (item ∷ []) more.items;
              words_are = λ i. taken.0 i ∷ more.words_are i;
              each = (taken.1, more.each);
              rise = more.rise;
            }

-- ---- the text

word-lacks : (path : Bytes) (kind : ResidueKind) → IsBytes path → IsItemKind kind → Lacks sp (item_word path kind)
word-lacks path Group is k = Lacks-append sp (codes "group:") (escape path) (Lacks-by_test sp (codes "group:") refl) (escape-lacks sp path (omega arith) is)
word-lacks path (Link id) is k =
    Lacks-append sp (codes "link:" ++ hex id) (58 ∷ escape path) (Lacks-append sp (codes "link:") (hex id) (Lacks-by_test sp (codes "link:") refl) (hex-lacks sp id (omega arith) k.1)) ((λ e. omega (arith, e)), escape-lacks sp path (omega arith) is)
word-lacks path Empty is k = Lacks-append sp (codes "empty:") (escape path) (Lacks-by_test sp (codes "empty:") refl) (escape-lacks sp path (omega arith) is)

words-lack : (items : List ResidueItem) → Each IsItem items → Each (Lacks sp) (residue_words items)
words-lack [] h = tt
words-lack (x ∷ items) h = (word-lacks x.path x.kind h.0.0 h.0.1, words-lack items h.1)

-- a text of some words
some-text : (text : Bytes) → text ≢ [] → residue_of_text text ≡ items_behind [] (slice_split (λ b. b == sp) text)
unfolding residue_of_text
some-text [] some = absurd (some refl)
some-text (b ∷ text) some = refl

no-text : residue_of_text [] ≡ Some []
unfolding residue_of_text
no-text = refl

word-some : (path : Bytes) (kind : ResidueKind) (rest : Bytes) → item_word path kind ++ rest ≢ []
word-some path Group rest e = cc
word-some path (Link id) rest e = cc
word-some path Empty rest e = cc

-- the text of a residue is read
pub residue-again : (items : List ResidueItem) → IsResidue items → residue_of_text (residue_text items) ≡ Some items
unfolding residue_text
residue-again [] is = no-text
residue-again (x ∷ items) is =
    some-text (residue_text (x ∷ items)) (word-some x.path x.kind (flat_map (λ w. sp ∷ w) (residue_words items)))
    ∙ ap (items_behind []) (pieces-spaced (item_word x.path x.kind) (residue_words items) (words-lack (x ∷ items) is.0))
    ∙ items-again [] (x ∷ items) is.0 is.1

-- what is read of a text has this text
pub residue-takes : (text : Bytes) (items : List ResidueItem) → residue_of_text text ≡ Some items → IsResidue items × (text ≡ residue_text items)
unfolding residue_text
residue-takes [] items h = subst (λ (xs : List ResidueItem). IsResidue xs × ([] ≡ spaced (residue_words xs))) (some_is (sym no-text ∙ h)) ((tt, refl), refl)
residue-takes (b ∷ text) items h =
    let p = pieces (b ∷ text) in
    let read = items-take [] (p.first ∷ p.others) items refl (sym (ap (items_behind []) p.split) ∙ sym (some-text (b ∷ text) (λ e. cc)) ∙ h) in
    let all : items ≡ read.items = read.whole_is in
    ((subst (Each IsItem) (sym all) read.each, read.rise), p.whole ∙ ap spaced (read.words_are ∙ ap residue_words (sym all)))

-- ---- how far a text is read

-- what is read of the words behind items, the first of which is taken or not
abbrev pub Taken : List ResidueItem → Bytes → Bool → List ResidueItem → Type 0
Taken before word t items = (words : List Bytes) → items_behind before (word ∷ words) ≡ (if t then items_behind items words else None)

-- the items of the text are those before the rest, and those of the rest behind them
abbrev pub ReadTo : Bytes → List ResidueItem → Bytes → Type 0
ReadTo text before rest = residue_of_text text ≡ items_behind before (slice_split (λ b. b == sp) rest)

pub read-start : (text : Bytes) → false ≡ (length text == 0) → ReadTo text [] text
read-start [] some = absurd (true≢false (sym some))
read-start (b ∷ text) some = some-text (b ∷ text) (λ e. cc)

pub read-nothing : (text : Bytes) → true ≡ (length text == 0) → Some [] ≡ residue_of_text text
read-nothing [] none = sym no-text
read-nothing (b ∷ text) none = absurd (omega (arith, eqb-true (length (b ∷ text)) 0 (sym none)))

module _ (text : Bytes) (before : List ResidueItem) (rest : Bytes) (so_far : ReadTo text before rest) (t : Bool) (items : List ResidueItem) where
  module _ (word after : Bytes) (cut : Some (word, after) ≡ cut_of sp rest) (taken : Taken before word t items) where
    pub read-shorter : length after < length rest
    read-shorter = omega (arith, ap (λ (x : Bytes). length x) (cut_of-takes sp rest word after (sym cut)).0, length-append word (sp ∷ after))

    one-more : residue_of_text text ≡ (if t then items_behind items (slice_split (λ b. b == sp) after) else None)
    one-more =
        let c = cut_of-takes sp rest word after (sym cut) in
        so_far ∙ ap (items_behind before) (ap (slice_split (λ b. b == sp)) c.0 ∙ pieces-cut word after c.1) ∙ taken (slice_split (λ b. b == sp) after)

    pub read-more : t ≡ true → ReadTo text items after
    read-more is = one-more ∙ ap (λ (u : Bool). if u then items_behind items (slice_split (λ b. b == sp) after) else None) is

    pub read-bad : t ≡ false → None ≡ residue_of_text text
    read-bad is = sym (one-more ∙ ap (λ (u : Bool). if u then items_behind items (slice_split (λ b. b == sp) after) else None) is)

  module _ (none : None ≡ cut_of sp rest) (taken : Taken before rest t items) where
    last-one : residue_of_text text ≡ (if t then Some items else None)
    last-one = so_far ∙ ap (items_behind before) (pieces-one rest (cut_of-none sp rest (sym none))) ∙ taken []

    pub read-all : t ≡ true → Some items ≡ residue_of_text text
    read-all is = sym (last-one ∙ ap (λ (u : Bool). if u then Some items else None) is)

    pub read-last_bad : t ≡ false → None ≡ residue_of_text text
    read-last_bad is = sym (last-one ∙ ap (λ (u : Bool). if u then Some items else None) is)
