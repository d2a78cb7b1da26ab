-- The line of a word and a number is read in one way.
use Rattle.std.proofs.Common.{◌≡◌, ◌≢◌, ◌<◌, ◌^◌, ℕ, true, false, [], ◌∷◌, ◌++◌, Some, None, decimal, sym, ap, ◌∙◌, arith, true≢false, append_assoc}
use Rattle.std.specs.List.{list_all}
use Rattle.std.proofs.lemmas.List.{append_cancel_left}
use Rattle.std.proofs.lemmas.Bool.Decides.{nat_tests}
use Rattle.text_model.specs.Text.{Bytes, lf, sp, is_digit, decimal_below}
use Rattle.text_model.specs.Cuts.{Lacks, cut_of}
use Rattle.text_model.proofs.CutLemmas.{cut_of-at, cut_of-takes}
use Rattle.text_model.proofs.DecimalLemmas.{digits-is_decimal, is_decimal-decimal, decimal_below-decimal, decimal_below-takes}
use Rattle.text_model.proofs.Options.{some_is, none_some}
use Rattle.text_model.proofs.TestLemmas.{both}
use Rattle.state_part.specs.Form.{count_line, HasCount, NoCount}

-- the parts of the line, in the order in which they are read
pub count_line-parts : (word : Bytes) (n : ℕ) (rest : Bytes) → count_line word n ++ rest ≡ word ++ sp ∷ (decimal n ++ lf ∷ rest)
count_line-parts word n rest = simp append_assoc

digits_lack : (b : ℕ) (text : Bytes) → b < 48 → list_all is_digit text ≡ true → Lacks b text
digits_lack b [] low h = tt
digits_lack b (x ∷ xs) low h =
    let p = both (is_digit x) (list_all is_digit xs) h in
    let none : is_digit b ≡ false = grind (arith, low, nat_tests) in
    (λ same. true≢false (sym p.0 ∙ ap is_digit same ∙ none), digits_lack b xs low p.1)

pub decimal-lacks : (b n : ℕ) → b < 48 → n < 2 ^ 64 → Lacks b (decimal n)
decimal-lacks b n low small = digits_lack b (decimal n) low (digits-is_decimal (decimal n) (is_decimal-decimal n small)).digits

-- what stands behind the word and the space
pub numbered_is : (word bytes numbered : Bytes) (n : ℕ) (rest : Bytes) → bytes ≡ word ++ sp ∷ numbered → bytes ≡ count_line word n ++ rest → numbered ≡ decimal n ++ lf ∷ rest
numbered_is word bytes numbered n rest is line = behind (append_cancel_left word _ _ (sym is ∙ line ∙ count_line-parts word n rest))
  where
    behind : sp ∷ numbered ≡ sp ∷ (decimal n ++ lf ∷ rest) → numbered ≡ decimal n ++ lf ∷ rest
    behind h = cc

pub no_word : (word bytes : Bytes) → ((rest : Bytes) → bytes ≢ word ++ rest) → NoCount word bytes
no_word word bytes none n rest small line = none _ (line ∙ count_line-parts word n rest)

pub no_space : (word bytes behind : Bytes) → bytes ≡ word ++ behind → ((rest : Bytes) → behind ≢ sp ∷ rest) → NoCount word bytes
no_space word bytes behind is none n rest small line = none _ (append_cancel_left word _ _ (sym is ∙ line ∙ count_line-parts word n rest))

pub no_end : (word bytes numbered : Bytes) → bytes ≡ word ++ sp ∷ numbered → None ≡ cut_of lf numbered → NoCount word bytes
no_end word bytes numbered is none n rest small line =
    none_some (none ∙ ap (cut_of lf) (numbered_is word bytes numbered n rest is line) ∙ cut_of-at lf (decimal n) rest (decimal-lacks lf n (omega arith) small))

pub no_number : (word bytes numbered digits after : Bytes) → bytes ≡ word ++ sp ∷ numbered → Some (digits, after) ≡ cut_of lf numbered → None ≡ decimal_below (2 ^ 64) digits
    → NoCount word bytes
no_number word bytes numbered digits after is cut none n rest small line =
    let same : (digits, after) ≡ (decimal n, rest) =
    some_is (cut ∙ ap (cut_of lf) (numbered_is word bytes numbered n rest is line) ∙ cut_of-at lf (decimal n) rest (decimal-lacks lf n (omega arith) small)) in
    none_some (none ∙ ap (λ (p : Bytes × Bytes). decimal_below (2 ^ 64) p.0) same ∙ decimal_below-decimal (2 ^ 64) n small small)

pub found : (word bytes numbered digits rest : Bytes) (n : ℕ) → bytes ≡ word ++ sp ∷ numbered → Some (digits, rest) ≡ cut_of lf numbered → Some n ≡ decimal_below (2 ^ 64) digits
    → HasCount word bytes n rest
found word bytes numbered digits rest n is cut number =
    let digits_are = decimal_below-takes (2 ^ 64) digits n (omega arith) (sym number) in
    let numbered_are = (cut_of-takes lf numbered digits rest (sym cut)).0 in record {
      is = is ∙ ap (λ (t : Bytes). word ++ sp ∷ t) (numbered_are ∙ ap (λ (d : Bytes). d ++ lf ∷ rest) digits_are.0) ∙ sym (count_line-parts word n rest);
      fits = digits_are.1;
    }

-- the line is that of one number
pub record OneCount (m n : ℕ) (a b : Bytes) : Type 0 where
  pub number : m ≡ n
  pub rest : a ≡ b

pub one_count : (word : Bytes) (m n : ℕ) (a b : Bytes) → m < 2 ^ 64 → n < 2 ^ 64 → count_line word m ++ a ≡ count_line word n ++ b → OneCount m n a b
one_count word m n a b small_m small_n e =
    let numbered = numbered_is word _ (decimal m ++ lf ∷ a) n b (count_line-parts word m a) e in
    let same : (decimal m, a) ≡ (decimal n, b) =
    some_is (sym (cut_of-at lf (decimal m) a (decimal-lacks lf m (omega arith) small_m)) ∙ ap (cut_of lf) numbered ∙ cut_of-at lf (decimal n) b (decimal-lacks lf n (omega arith) small_n)) in record {
      number = some_is (sym (decimal_below-decimal (2 ^ 64) m small_m small_m) ∙ ap (λ (p : Bytes × Bytes). decimal_below (2 ^ 64) p.0) same ∙ decimal_below-decimal (2 ^ 64) n small_n small_n);
      rest = ap (λ (p : Bytes × Bytes). p.1) same;
    }
