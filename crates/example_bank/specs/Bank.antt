-- A bank, and what a transfer does to it.
use Rattle.std.specs.Prelude.{◌≡◌, ◌+◌, ◌-◌, ◌^◌, ◌==◌, nat_lt, if◌then◌else◌, ℕ, Option, Some, None, Result, Ok, Err, List, [], ◌∷◌, ◌++◌, length, sum}
use Rattle.std.specs.FinMap as fin
use Rattle.md_history.specs.declared.acts.Op.TheVariants.{Get, Put, Enqueue}
use Rattle.md_history.specs.Counts.{Bounds, bounds_of_calls}
use Rattle.md_history.specs.Script.{Script, done, call}
use Rattle.md_history.specs.Branches.{value_in}
use Rattle.md_history.specs.State.{State, Table, map_at, queue_at}
use Rattle.example_bank.specs.declared.bank.Transfer.{Transfer}
use Rattle.example_bank.specs.declared.bank.Refusal.{Refusal}
use Rattle.example_bank.specs.declared.bank.Refusal.TheVariants.{NoAccount, SameAccount, Short, Full}
use Rattle.example_bank.specs.declared.bank.Outcome.{Outcome}
use Rattle.example_bank.specs.declared.bank.Outcome.TheVariants.{Moved, Refused}
use Rattle.example_bank.specs.declared.bank.TheConstants.{ACCOUNTS, JOURNAL}

-- the balances of the accounts, by number, and the numbers of the transfers that moved money, in their order
pub record Bank : Type 0 where
  pub accounts : Table
  pub journal : List ℕ

-- maps and queues that are a bank: one of each
pub record IsBank (s : State) : Type 0 where
  pub accounts : length s.maps ≡ 1
  pub journal : length s.queues ≡ 1

-- the bank in maps and queues
abbrev pub bank_in : State → Bank
bank_in s = record { accounts = map_at s ACCOUNTS; journal = queue_at s JOURNAL }

-- and the maps and queues that are a bank
abbrev pub state_of : Bank → State
state_of b = record { maps = b.accounts ∷ []; queues = b.journal ∷ [] }

-- the sum of all accounts
abbrev pub total : Bank → ℕ
total b = sum (fin.values b.accounts)

-- the balances that both accounts of a transfer get, by those that they have, or why they keep them
abbrev pub new_balances : Transfer → Option ℕ → Option ℕ → Result (ℕ × ℕ) Refusal
new_balances t None to = Err NoAccount
new_balances t (Some from) None = Err NoAccount
new_balances t (Some from) (Some to) =
    if t.from == t.to then Err SameAccount
    else if nat_lt from t.amount then Err Short
    else if nat_lt (to + t.amount) (2 ^ 64) then Ok (from - t.amount, to + t.amount)
    else Err Full

abbrev pub balances_of : Bank → Transfer → Result (ℕ × ℕ) Refusal
balances_of b t = new_balances t (fin.get b.accounts t.from) (fin.get b.accounts t.to)

-- what new balances leave, and what they come to
abbrev pub after_balances : Bank → Transfer → Result (ℕ × ℕ) Refusal → Bank
after_balances b t (Err why) = b
after_balances b t (Ok new) = record {
  accounts = fin.insert (fin.insert b.accounts t.from new.0) t.to new.1;
  journal = b.journal ++ t.number ∷ [];
}

abbrev pub outcome_of_balances : Result (ℕ × ℕ) Refusal → Outcome
outcome_of_balances (Err why) = Refused why
outcome_of_balances (Ok new) = Moved

-- the bank after a transfer, and what the transfer comes to
abbrev pub bank_after : Bank → Transfer → Bank
bank_after b t = after_balances b t (balances_of b t)

abbrev pub outcome_in : Bank → Transfer → Outcome
outcome_in b t = outcome_of_balances (balances_of b t)

-- what a transfer that isn't refused writes: both balances, and the journal
abbrev pub write_all : Transfer → ℕ → ℕ → Script Outcome
write_all t from to =
    call (Put ACCOUNTS t.from from) (λ _. call (Put ACCOUNTS t.to to) (λ _.
    call (Enqueue JOURNAL t.number) (λ _. done Moved)))

-- what a transfer does as a transaction: it looks both accounts up, and writes both balances and the journal, unless it
-- is refused
abbrev pub decided : Transfer → Result (ℕ × ℕ) Refusal → Script Outcome
decided t (Err why) = done (Refused why)
decided t (Ok new) = write_all t new.0 new.1

abbrev pub script_of : Transfer → Script Outcome
script_of t =
    call (Get ACCOUNTS t.from) (λ from. call (Get ACCOUNTS t.to) (λ to.
    decided t (new_balances t (value_in from) (value_in to))))

-- what a transfer reads, writes and takes at most: five calls, so 10 words, 20 words and 5 nodes
abbrev pub transfer_bounds : Bounds
transfer_bounds = bounds_of_calls 5
