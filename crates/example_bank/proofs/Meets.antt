-- A transfer's right acts do to a bank what one thread does that makes the transfer; and what that keeps.
use Rattle.std.proofs.Common.{◌≡◌, ◌≢◌, ◌≤◌, ◌+◌, ℕ, List, [], ◌∷◌, length, refl, sym, ap, ◌∙◌, arith}
use Rattle.std.specs.Prelude.{Option, Some, None, Result, Ok, Err, sum}
use Rattle.std.specs.FinMap as fin
use Rattle.std.proofs.lemmas.Bool.Decides.{nat_tests}
use Rattle.std.proofs.lemmas.List.{length-append}
use Rattle.md_history.specs.declared.acts.Act.{Act}
use Rattle.md_history.specs.State.{State, run, IsRight}
use Rattle.md_history.specs.Script.{Did}
use Rattle.md_history.proofs.Plays.{played, outcome, did-played}
use Rattle.md_history.proofs.Keys.{get-insert_other, len-replaced}
use Rattle.md_history.proofs.Weights.{weigh-replaced}
use Rattle.example_bank.specs.declared.bank.Transfer.{Transfer}
use Rattle.example_bank.specs.declared.bank.Refusal.{Refusal}
use Rattle.example_bank.specs.declared.bank.Outcome.{Outcome}
use Rattle.example_bank.specs.Bank.{Bank, state_of, total, new_balances, balances_of, after_balances, outcome_of_balances, bank_after, outcome_in, decided, script_of}

-- what the decided part of a transfer leaves
decided-leaves : (t : Transfer) (b : Bank) (o : Result (ℕ × ℕ) Refusal)
    → played (decided t o) (state_of b) ≡ state_of (after_balances b t o)
decided-leaves t b (Err why) = refl
decided-leaves t b (Ok new) = refl

decided-replies : (t : Transfer) (s : State) (o : Result (ℕ × ℕ) Refusal) → outcome (decided t o) s ≡ outcome_of_balances o
decided-replies t s (Err why) = refl
decided-replies t s (Ok new) = refl

-- what a transfer leaves
pub leaves : (t : Transfer) (b : Bank) → played (script_of t) (state_of b) ≡ state_of (bank_after b t)
leaves t b = decided-leaves t b (balances_of b t)

-- right acts of a transfer
pub does : (b : Bank) (t : Transfer) (acts : List Act) (r : Outcome) → Did (script_of t) acts r
    → IsRight (state_of b) acts → (run (state_of b) acts ≡ state_of (bank_after b t)) × (r ≡ outcome_in b t)
does b t acts r did right =
    let p = did-played (script_of t) (state_of b) acts r did right in
    (p.state ∙ leaves t b, p.reply ∙ decided-replies t (state_of b) (balances_of b t))

-- new balances are of two accounts that are there, and their sum stays
record AreNew (t : Transfer) (from to : Option ℕ) (new : ℕ × ℕ) : Type 0 where
  pub left : ℕ
  pub there : ℕ
  pub from_is : from ≡ Some left
  pub to_is : to ≡ Some there
  pub other : t.from ≢ t.to
  pub sum : new.0 + new.1 ≡ left + there

are-new : (t : Transfer) (from to : Option ℕ) (new : ℕ × ℕ) → new_balances t from to ≡ Ok new → AreNew t from to new
are-new t None to new is = cc
are-new t (Some x) None new is = cc
are-new t (Some x) (Some y) new is =
    let found : (t.from ≢ t.to) × (new.0 + new.1 ≡ x + y) = grind (arith, nat_tests) in
    record { left = x; there = y; from_is = refl; to_is = refl; other = found.0; sum = found.1 }

-- what a transfer keeps, and what it adds to the journal
pub record Keeps (b b' : Bank) : Type 0 where
  pub sum : total b' ≡ total b
  pub accounts : fin.len b'.accounts ≡ fin.len b.accounts
  pub journal : length b'.journal ≤ length b.journal + 1

after-keeps : (t : Transfer) (b : Bank) (o : Result (ℕ × ℕ) Refusal) → balances_of b t ≡ o → Keeps b (after_balances b t o)
after-keeps t b (Err why) is = record { sum = refl; accounts = refl; journal = omega arith }
after-keeps t b (Ok new) is =
    let n = are-new t (fin.get b.accounts t.from) (fin.get b.accounts t.to) new is in
    let one = fin.insert b.accounts t.from new.0 in
    let there : fin.get one t.to ≡ Some n.there =
    get-insert_other b.accounts t.from new.0 t.to (λ e. n.other (sym e)) ∙ n.to_is in
    let first : sum (fin.values one) + n.left ≡ sum (fin.values b.accounts) + new.0 =
    weigh-replaced (λ x. x) (λ e. e.1) b.accounts t.from new.0 n.left n.from_is in
    let second : sum (fin.values (fin.insert one t.to new.1)) + n.there ≡ sum (fin.values one) + new.1 =
    weigh-replaced (λ x. x) (λ e. e.1) one t.to new.1 n.there there in
    record {
      sum = omega (arith, first, second, n.sum);
      accounts = len-replaced one t.to new.1 n.there there ∙ len-replaced b.accounts t.from new.0 n.left n.from_is;
      journal = omega (arith, length-append b.journal (t.number ∷ []));
    }

pub transfer-keeps : (t : Transfer) (b : Bank) → Keeps b (bank_after b t)
transfer-keeps t b = after-keeps t b (balances_of b t) refl
