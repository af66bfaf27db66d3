-- What the transfers of all tellers come to.
use Rattle.std.specs.Prelude.{◌≡◌, ◌++◌, ℕ, List, [], ◌∷◌, length}
use Rattle.md_history.specs.State.{State}
use Rattle.md_history.specs.Front.{Front}
use Rattle.md_many.specs.Tags.{IsInterleaving}
use Rattle.md_many_attempts.specs.ByCaller.{at_caller, line_at}
use Rattle.md_many.specs.Played.{committed_of, tags_of, AreDecidedAndLegal}
use Rattle.md_many.specs.Serial.{at_tags, after_each, reply_of_each, added_by}
use Rattle.example_bank.specs.declared.bank.Transfer.{Transfer}
use Rattle.example_bank.specs.declared.bank.Outcome.{Outcome}
use Rattle.example_bank.specs.declared.bank.Outcome.TheVariants.{Moved, Refused}
use Rattle.example_bank.specs.Bank.{IsBank, bank_in, bank_after, outcome_in, total}

-- what the journal gets of a transfer, by its outcome
abbrev pub records_of : Transfer → Outcome → List ℕ
records_of t Moved = t.number ∷ []
records_of t (Refused why) = []

-- All transfers were made, in the order of these tags: each line was committed once, those of each teller in their
-- order. The outcomes are those that one thread gets which makes the transfers one after another, and the bank is the one
-- that it leaves. The sum of all accounts is what it was. The journal has grown by the number of each transfer that
-- moved money, in this order.
pub record AreMadeInOrder (transfers : List (List Transfer)) (start : State) (tags : List ℕ)
    (outcomes : List (List Outcome)) (contents : State) : Type 0 where
  pub each_once : IsInterleaving (λ teller. length (at_caller [] transfers teller)) tags
  pub is_bank : IsBank contents
  pub replied : at_tags (line_at outcomes) tags
      ≡ reply_of_each bank_after outcome_in (bank_in start) (at_tags (line_at transfers) tags)
  pub left : bank_in contents ≡ after_each bank_after (bank_in start) (at_tags (line_at transfers) tags)
  pub sum : total (bank_in contents) ≡ total (bank_in start)
  pub journal : (bank_in contents).journal ≡ (bank_in start).journal
      ++ added_by records_of (at_tags (line_at transfers) tags) (at_tags (line_at outcomes) tags)

-- so in the order in which they were committed, by the fronts, which are legal from the start, one after another
pub record AreMade (transfers : List (List Transfer)) (start : State) (fronts : List Front)
    (outcomes : List (List Outcome)) (contents : State) : Type 0 where
  pub legal : AreDecidedAndLegal start fronts
  pub made : AreMadeInOrder transfers start (tags_of (committed_of fronts)) outcomes contents
