-- What all transfers come to, one after another.
use Rattle.std.proofs.Common.{◌≡◌, ◌<◌, ◌++◌, [], List, length, refl, sym, ap, subst, ◌∙◌}
use Rattle.std.specs.Prelude.{Ok, Err}
use Rattle.std.proofs.lemmas.List.{append-nil}
use Rattle.md_history.specs.declared.entries.Entry.{Entry}
use Rattle.md_history.specs.State.{State}
use Rattle.md_history.specs.Script.{Did, Follows}
use Rattle.md_many.specs.Tags.{IsInterleaving}
use Rattle.md_many_attempts.specs.ByCaller.{at_caller, line_at}
use Rattle.md_many_attempts.specs.Meaning.{Meaning}
use Rattle.md_many.specs.Played.{tags_of}
use Rattle.md_many.specs.Serial.{IsSerialRun, at_tags, added_by}
use Rattle.md_many.proofs.Serial.{serial-does, each-same, each-adds}
use Rattle.example_bank.specs.declared.bank.TheConstants.{ACCOUNTS, JOURNAL}
use Rattle.example_bank.specs.declared.bank.Transfer.{Transfer}
use Rattle.example_bank.specs.declared.bank.Outcome.{Outcome}
use Rattle.example_bank.specs.Bank.{Bank, IsBank, bank_in, state_of, total, bank_after, outcome_in, script_of, after_balances, outcome_of_balances, balances_of}
use Rattle.example_bank.specs.Made.{records_of, AreMadeInOrder}
use Rattle.example_bank.proofs.Lawful.{bank-whole}
use Rattle.example_bank.proofs.Meets.{does, transfer-keeps}

-- the journal gets a transfer's number if money is moved
journal-after : (b : Bank) (t : Transfer) → (bank_after b t).journal ≡ b.journal ++ records_of t (outcome_in b t)
journal-after b t = each (balances_of b t)
  where
    each : (o : _) → (after_balances b t o).journal ≡ b.journal ++ records_of t (outcome_of_balances o)
    each (Err why) = sym (append-nil b.journal)
    each (Ok new) = refl

-- what the lines of tellers mean: their transfers
abbrev pub meaning : List (List Transfer) → Meaning Transfer Outcome
meaning transfers = record {
  did = λ t acts r. Did (script_of t) acts r;
  makes = λ t acts. Follows (script_of t) acts;
  fits = λ t maps queues. (ACCOUNTS < maps) × (JOURNAL < queues);
  callers = length transfers;
  line_count = λ teller. length (at_caller [] transfers teller);
  body_at = line_at transfers;
}

pub all-made : (transfers : List (List Transfer)) (outcomes : List (List Outcome)) (start contents : State)
    (es : List Entry) → IsBank start → IsInterleaving (λ teller. length (at_caller [] transfers teller)) (tags_of es)
    → IsSerialRun (meaning transfers) (line_at outcomes) start es contents
    → AreMadeInOrder transfers start (tags_of es) outcomes contents
all-made transfers outcomes start contents es is each_once serial =
    let b = bank_in start in
    let ts = at_tags (line_at transfers) (tags_of es) in
    let run = serial-does (meaning transfers) (line_at outcomes) state_of bank_after outcome_in does b es contents
    (subst (λ s. IsSerialRun (meaning transfers) (line_at outcomes) s es contents) (bank-whole start is) serial) in
    let left = ap bank_in run.0 in
    record {
      each_once = each_once;
      is_bank = record { accounts = ap (λ s. length s.maps) run.0; journal = ap (λ s. length s.queues) run.0 };
      replied = run.1;
      left = left;
      sum = ap total left ∙ each-same bank_after total (λ x t. (transfer-keeps t x).sum) b ts;
      journal = ap (λ x. x.journal) left
          ∙ each-adds bank_after outcome_in (λ x. x.journal) records_of journal-after b ts
          ∙ ap (λ rs. b.journal ++ added_by records_of ts rs) (sym run.1);
    }
