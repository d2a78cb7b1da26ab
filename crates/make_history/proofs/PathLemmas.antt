-- The paths of a made history: each is fit, has five bytes, and holds no first byte of a mark of metadata.
use Rattle.std.proofs.Common.{◌≡◌, ◌<◌, ◌+◌, ◌++◌, ◌∷◌, [], ◌&&◌, ◌==◌, ℕ, Bool, true, false, not, length, refl, ap, ◌∙◌, arith, eqb-true}
use Rattle.std.specs.List.{list_all}
use Rattle.std.specs.Prelude.{nat_lt, codes}
use Rattle.std.proofs.lemmas.Bool.Decides.{nat_tests}
use Rattle.std.proofs.lemmas.Fmt.{decimal_digit}
use Rattle.text_model.specs.Text.{Bytes, IsBytes, has_byte}
use Rattle.text_model.specs.Path.{is_fit_path}
use Rattle.text_model.proofs.Options.{not_true}
use Rattle.text_model.proofs.TestLemmas.{both, below, below-at}
use Rattle.make_model.specs.History.{made_path}

abbrev pub is_good : Bytes → Bool
is_good path = is_fit_path path && not (has_byte 1 path) && length path == 5 && list_all (λ b. nat_lt b 256) path

-- the path, digit by digit
abbrev spelled : ℕ → ℕ → Bytes
spelled directory file = codes "d" ++ (48 + directory) ∷ [] ++ codes "/f" ++ (48 + file) ∷ []

path-spelled : (directory file : ℕ) → directory < 10 → file < 10 → made_path directory file ≡ spelled directory file
path-spelled directory file h k = (λ i. codes "d" ++ decimal_digit directory h i ++ codes "/f" ++ decimal_digit file k i)

all-good : below 4 (λ k. below 8 (λ j. is_good (spelled k j))) ≡ true
unfolding is_fit_path below
all-good = refl

pub made-good : (directory file : ℕ) → directory < 4 → file < 8 → is_good (made_path directory file) ≡ true
made-good directory file h k =
    ap is_good (path-spelled directory file (omega (arith, h)) (omega (arith, k)))
    ∙ below-at 8 (λ j. is_good (spelled directory j)) (below-at 4 (λ d. below 8 (λ j. is_good (spelled d j))) all-good directory h) file k

-- ---- what the test shows

pub bytes-by : (bytes : Bytes) → list_all (λ b. nat_lt b 256) bytes ≡ true → IsBytes bytes
bytes-by [] h = tt
bytes-by (b ∷ bytes) h = let p = both (nat_lt b 256) (list_all (λ b. nat_lt b 256) bytes) h in (small p.0, bytes-by bytes p.1)
  where
    small : nat_lt b 256 ≡ true → b < 256
    small t = grind (arith, t, nat_tests)

pub record IsGoodPath (path : Bytes) : Type 0 where
  pub fit : is_fit_path path ≡ true
  pub clean : has_byte 1 path ≡ false
  pub five : length path ≡ 5
  pub bytes : IsBytes path

pub good-path : (directory file : ℕ) → directory < 4 → file < 8 → IsGoodPath (made_path directory file)
good-path directory file h k =
    let path = made_path directory file in
    let last = both _ (list_all (λ b. nat_lt b 256) path) (made-good directory file h k) in
    let five = both _ (length path == 5) last.0 in
    let clean = both (is_fit_path path) (not (has_byte 1 path)) five.0 in
    record { fit = clean.0; clean = not_true (has_byte 1 path) clean.1; five = eqb-true (length path) 5 five.1; bytes = bytes-by path last.1 }
