-- Transfers are lawful bodies.
use Rattle.std.proofs.Common.{◌≡◌, ◌<◌, List, [], ◌∷◌, length, refl, ap, ◌∙◌, arith}
use Rattle.std.specs.Prelude.{Ok, Err, slice_index_or}
use Rattle.std.specs.FinMap as fin
use Rattle.md_history.specs.State.{State, HaveSameNumbers}
use Rattle.md_history.specs.Engine.{needed}
use Rattle.md_history.specs.Script.{Did, Follows}
use Rattle.md_history.specs.Branches.{value_in}
use Rattle.md_history.proofs.Plays.{played}
use Rattle.md_history.proofs.FewCalls.{MakesAtMost}
use Rattle.md_many.specs.Laws.{AreLawfulBodies}
use Rattle.md_many.proofs.Bodies.{StaysGood, scripts-lawful}
use Rattle.example_bank.specs.declared.bank.Transfer.{Transfer}
use Rattle.example_bank.specs.declared.bank.TheConstants.{ACCOUNTS, JOURNAL}
use Rattle.example_bank.specs.Bank.{IsBank, bank_in, state_of, script_of, new_balances, decided, transfer_bounds}
use Rattle.example_bank.proofs.Meets.{leaves, transfer-keeps}

-- maps and queues that are a bank are those of their bank
pub bank-whole : (s : State) → IsBank s → s ≡ state_of (bank_in s)
bank-whole s is =
    ap (λ ms. record { maps = ms; queues = s.queues }) (single s.maps fin.empty is.accounts)
    ∙ ap (λ qs. record { maps = slice_index_or s.maps 0 fin.empty ∷ []; queues = qs }) (single s.queues [] is.journal)
  where
    single : {A : Type 0} (xs : List A) (d : A) → length xs ≡ 1 → xs ≡ slice_index_or xs 0 d ∷ []
    single [] d one = absurd (omega (arith, one))
    single (x ∷ []) d one = refl
    single (x ∷ y ∷ xs) d one = absurd (omega (arith, one))

-- a transfer makes five calls at most
calls-few : (t : Transfer) → MakesAtMost 5 (script_of t)
calls-few t = λ from to. each (new_balances t (value_in from) (value_in to))
  where
    each : (o : _) → MakesAtMost 3 (decided t o)
    each (Err why) = tt
    each (Ok new) = λ _ _ _. tt

abbrev is_good : State → State → Type 0
is_good opening s = IsBank opening

-- it leaves a bank that needs a node more at most
stays : (t : Transfer) (opening s : State) → HaveSameNumbers s opening → IsBank opening
    → StaysGood is_good 1 opening s (played (script_of t) s)
stays t opening s same bank =
    let b = bank_in s in
    let whole : s ≡ state_of b =
    bank-whole s (record { accounts = same.maps ∙ bank.accounts; journal = same.queues ∙ bank.journal }) in
    let k = transfer-keeps t b in
    let after = ap needed (ap (played (script_of t)) whole ∙ leaves t b) in
    record { good = bank; need = omega (arith, after, ap needed whole, k.accounts, k.journal) }

pub transfers-lawful : AreLawfulBodies (λ t acts r. Did (script_of t) acts r) (λ t acts. Follows (script_of t) acts)
    (λ t maps queues. (ACCOUNTS < maps) × (JOURNAL < queues)) is_good transfer_bounds 1
transfers-lawful = scripts-lawful script_of (λ t maps queues. (ACCOUNTS < maps) × (JOURNAL < queues)) is_good 5 1
    calls-few (λ t opening s same bank. stays t opening s same bank)
    (λ t opening bank. (omega (arith, bank.accounts), omega (arith, bank.journal)))
