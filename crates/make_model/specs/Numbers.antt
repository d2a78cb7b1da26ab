-- The numbers from which a history is made. The generator is linear and congruential; the numbers that one changeset takes are this project's own.
use Rattle.std.specs.Prelude.{ℕ, zero, suc, ◌+◌, ◌*◌, ◌/◌, ◌%◌, ◌^◌}

-- the state behind this one
abbrev pub next_state : ℕ → ℕ
next_state x = (x * 6364136223846793005 + 1442695040888963407) % 2 ^ 64

-- the number below the bound that a state gives
abbrev pub number_of_state : ℕ → ℕ → ℕ
number_of_state bound x = x / 2 ^ 33 % bound

-- the numbers that one changeset takes, in the order in which they are drawn, and the state behind them
pub record Numbers : Type 0 where
  pub parents : ℕ
  pub directory : ℕ
  pub file : ℕ
  pub executable : ℕ
  pub copied : ℕ
  pub user : ℕ
  pub zone : ℕ
  pub branch : ℕ
  pub state : ℕ

unfoldable pub numbers_from : ℕ → Numbers
numbers_from x =
    let x1 = next_state x in
    let x2 = next_state x1 in
    let x3 = next_state x2 in
    let x4 = next_state x3 in
    let x5 = next_state x4 in
    let x6 = next_state x5 in
    let x7 = next_state x6 in
    let x8 = next_state x7 in
    record {
      parents = number_of_state 8 x1;
      directory = number_of_state 4 x2;
      file = number_of_state 8 x3;
      executable = number_of_state 8 x4;
      copied = number_of_state 4 x5;
      user = number_of_state 4 x6;
      zone = number_of_state 4 x7;
      branch = number_of_state 8 x8;
      state = x8;
    }

-- the state before the numbers of the changeset with this number, from 0 on
unfoldable pub state_before : ℕ → ℕ → ℕ
state_before seed zero = seed
state_before seed (suc n) = (numbers_from (state_before seed n)).state

abbrev pub numbers_of : ℕ → ℕ → Numbers
numbers_of seed n = numbers_from (state_before seed n)
