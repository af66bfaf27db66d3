-- What the cases of an exchange tell.
use Rattle.std.proofs.Common.{◌≡◌, ◌≢◌, ◌==◌, ◌||◌, ◌+◌, ◌<◌, ℕ, List, [], ◌∷◌, map, length, Err, is_some, subst, Bool, true, false, Option, Some, None, refl, sym, ap, ◌∙◌, ⊎_elim, eqb-true, eq-eqb, if◌then◌else◌, nat_le, le-leb, leb-true}
use Rattle.std.proofs.lemmas.Bool.{cases_lt, cond-false, cond-true, cond_both, true≢false}
use Rattle.md_words.specs.declared.limits.TheConstants.{SET}
use Rattle.md_words.specs.Content.{count_of}
use Rattle.md_machine.proofs.lists.Options.{some_same}
use Rattle.md_history.specs.declared.stops.Stop.{Stop}
use Rattle.md_machine.specs.Certified.{content_read, is_written}
use Rattle.md_machine.specs.Meaning.{Meaning}
use Rattle.md_nbtc_law.specs.declared.seen.Kind.{Kind}
use Rattle.md_nbtc_law.specs.declared.seen.Seen.{Seen}
use Rattle.md_nbtc_law.specs.declared.slots.Slot.{Slot}
use Rattle.md_nbtc_law.specs.Calls.{ExchangeCase, Exchanges, Refuses, case_by_count, case_of_other, case_unless_moved, exchange_case, is_critical, makes_step, refusal_by}
use Rattle.md_nbtc_law.specs.declared.seen.TheConstants.{WORN}
use Rattle.md_nbtc_law.specs.Going.{HasCause}
use Rattle.md_nbtc_law.specs.Seeing.{Gave}
use Rattle.md_nbtc_law.specs.Sets.{place_of}
use Rattle.md_nbtc_law.specs.State.{TxnState, seen_content, writes_in}
use Rattle.md_nbtc_law.proofs.exchanging.Refused.{seen_cause}
use Rattle.md_nbtc_law.proofs.keeping.Causes.{seen_worn, writes_cause}

-- where a step is made, the recorded content is that which was seen, the count isn't worn, and a critical one has a slot left
pub record MakesStep (recorded : Option ℕ) (seen count slots : ℕ) (critical : Bool) : Type 0 where
  pub agree : (held : ℕ) → recorded ≡ Some held → held ≡ seen
  pub fits : count < WORN
  pub room : critical ≡ true → slots ≢ SET

by_worn : (case : ExchangeCase) (b : Bool) → makes_step (if b then ExchangeCase.worn else case) ≡ true → b ≡ false
by_worn case true is = absurd (true≢false (sym is))
by_worn case false is = refl

not_worn : (count : ℕ) → nat_le WORN count ≡ false → count < WORN
not_worn count not = ⊎_elim (λ less. less) (λ far. absurd (true≢false (sym (le-leb WORN count far) ∙ not))) (cases_lt count WORN)

by_count : (critical : Bool) (slots count : ℕ) → makes_step (case_by_count critical slots count) ≡ true → (count < WORN) × (critical ≡ true → slots ≢ SET)
by_count false slots count is = (not_worn count (by_worn ExchangeCase.changes (nat_le WORN count) is), λ e. absurd (true≢false (sym e)))
by_count true slots count is = by_room (slots == SET) refl is
  where
    by_room : (b : Bool) → (slots == SET) ≡ b → makes_step (if b then ExchangeCase.no_slot else (if nat_le WORN count then ExchangeCase.worn else ExchangeCase.installs)) ≡ true
        → (count < WORN) × (true ≡ true → slots ≢ SET)
    by_room true at e = absurd (true≢false (sym e))
    by_room false at e = (not_worn count (by_worn ExchangeCase.installs (nat_le WORN count) e), λ _ same. true≢false (sym (eq-eqb slots SET same) ∙ at))

pub step_made : (recorded : Option ℕ) (seen count slots : ℕ) (critical : Bool) → makes_step (case_unless_moved recorded seen (case_by_count critical slots count)) ≡ true
    → MakesStep recorded seen count slots critical
step_made None seen count slots critical is = let by = by_count critical slots count is in record { agree = λ held e. absurd (none_some e); fits = by.0; room = by.1 }
  where
    none_some : {n : ℕ} → None ≡ Some n → ⊥
    none_some e = cc
step_made (Some x) seen count slots critical is = by_same (x == seen) refl is
  where
    by_same : (b : Bool) → (x == seen) ≡ b → makes_step (if b then case_by_count critical slots count else ExchangeCase.moved x) ≡ true → MakesStep (Some x) seen count slots critical
    by_same false at e = absurd (true≢false (sym e))
    by_same true at e = let by = by_count critical slots count e in
        record { agree = λ held s. sym (some_same x held s) ∙ eqb-true x seen at; fits = by.0; room = by.1 }

-- an own word's case, and another one's
pub own_case : (t : TxnState) (word : ℕ) (from : Seen) (kind : Kind) → is_written (writes_in t) word ≡ true → exchange_case t word from kind ≡ ExchangeCase.own
own_case t word from kind is = cond-true (is_written (writes_in t) word) ExchangeCase.own (case_of_other t word from (is_critical t word kind)) is

pub other_case : (t : TxnState) (word : ℕ) (from : Seen) (kind : Kind) → is_written (writes_in t) word ≡ false → exchange_case t word from kind ≡ case_of_other t word from (is_critical t word kind)
other_case t word from kind not = cond-false (is_written (writes_in t) word) ExchangeCase.own (case_of_other t word from (is_critical t word kind)) not

-- a word is written exactly if a slot of it has a place
pub written_place : (word from : ℕ) (ss : List Slot) → is_written (map (λ (s : Slot). s.write) ss) word ≡ is_some (place_of ss word from)
written_place word from [] = refl
written_place word from (s ∷ ss) = cond_both (s.write.word == word) (Some from) (place_of ss word (from + 1))
    (λ o. ((s.write.word == word) || is_written (map (λ (x : Slot). x.write) ss) word) ≡ is_some o)
    (λ this. ap (λ b. b || is_written (map (λ (x : Slot). x.write) ss) word) this)
    (λ not. ap (λ b. b || is_written (map (λ (x : Slot). x.write) ss) word) not ∙ written_place word (from + 1) ss)

-- the case in which a step is made
abbrev pub step_case : Bool → ExchangeCase
step_case critical = if critical then ExchangeCase.installs else ExchangeCase.changes

count_step : (word : ℕ) (from : Seen) (critical : Bool) (slots count : ℕ) → refusal_by (case_by_count critical slots count) word from ≡ None → case_by_count critical slots count ≡ step_case critical
count_step word from false slots count is = cond_both (nat_le WORN count) ExchangeCase.worn ExchangeCase.changes
    (λ c. refusal_by c word from ≡ None → c ≡ ExchangeCase.changes) (λ _ e. absurd (some_none (sym e))) (λ _ _. refl) is
  where
    some_none : {s : Stop} → None ≡ Some s → ⊥
    some_none e = cc
count_step word from true slots count is = cond_both (slots == SET) ExchangeCase.no_slot (if nat_le WORN count then ExchangeCase.worn else ExchangeCase.installs)
    (λ c. refusal_by c word from ≡ None → c ≡ ExchangeCase.installs) (λ _ e. absurd (some_none (sym e)))
    (λ _ e. cond_both (nat_le WORN count) ExchangeCase.worn ExchangeCase.installs
    (λ c. refusal_by c word from ≡ None → c ≡ ExchangeCase.installs) (λ _ z. absurd (some_none (sym z))) (λ _ _. refl) e) is
  where
    some_none : {s : Stop} → None ≡ Some s → ⊥
    some_none e = cc

-- where nothing refuses it
pub step_if : (word : ℕ) (from : Seen) (critical : Bool) (recorded : Option ℕ) (seen slots count : ℕ) → refusal_by (case_unless_moved recorded seen (case_by_count critical slots count)) word from ≡ None
    → case_unless_moved recorded seen (case_by_count critical slots count) ≡ step_case critical
step_if word from critical None seen slots count is = count_step word from critical slots count is
step_if word from critical (Some held) seen slots count is = cond_both (held == seen) (case_by_count critical slots count) (ExchangeCase.moved held)
    (λ c. refusal_by c word from ≡ None → c ≡ step_case critical) (λ _ e. count_step word from critical slots count e) (λ _ e. absurd (some_none (sym e))) is
  where
    some_none : {s : Stop} → None ≡ Some s → ⊥
    some_none e = cc

-- a stop that is kept
keeps : (M : Meaning) (t u : TxnState) (s x : Stop) → x ≡ s → u ≡ record t { stop = Some s } → Refuses {A = Seen} t u x (Err s)
keeps M t u s x same so = (ap Err (sym same), so ∙ ap (λ y. record t { stop = Some y }) (sym same) ∙ ap (λ p. record t { pass = p; stop = Some x }) (sym (ap (λ (v : TxnState). v.pass) so)))

-- a refusal is what its case says
pub refused : (M : Meaning) (t u : TxnState) (word : ℕ) (from : Seen) (to : ℕ) (case : ExchangeCase) (s : Stop) → refusal_by case word from ≡ Some s → u ≡ record t { stop = Some s }
    → Exchanges case M t u word from to (Err s)
refused M t u word from to ExchangeCase.own s is so = absurd (none_some is)
  where
    none_some : {x : Stop} → None ≡ Some x → ⊥
    none_some e = cc
refused M t u word from to (ExchangeCase.moved held) s is so = keeps M t u s _ (some_same _ s is) so
refused M t u word from to ExchangeCase.no_slot s is so = keeps M t u s _ (some_same _ s is) so
refused M t u word from to ExchangeCase.worn s is so = keeps M t u s _ (some_same _ s is) so
refused M t u word from to ExchangeCase.installs s is so = absurd (none_some is)
  where
    none_some : {x : Stop} → None ≡ Some x → ⊥
    none_some e = cc
refused M t u word from to ExchangeCase.changes s is so = absurd (none_some is)
  where
    none_some : {x : Stop} → None ≡ Some x → ⊥
    none_some e = cc

-- and it has a cause
module _ (t : TxnState) (word : ℕ) (from : Seen) (gave : Gave t word from) (none : is_written (writes_in t) word ≡ false) (fits : count_of (seen_content from) ≡ from.count) (s : Stop) where
  none_some : {x : Stop} → None ≡ Some x → ⊥
  none_some e = cc

  -- by its count
  worn_or : (c : ExchangeCase) → refusal_by c word from ≡ None → refusal_by (if nat_le WORN from.count then ExchangeCase.worn else c) word from ≡ Some s → HasCause t s
  worn_or c free = cond_both (nat_le WORN from.count) ExchangeCase.worn c (λ x. refusal_by x word from ≡ Some s → HasCause t s)
      (λ big e. subst (HasCause t) (some_same _ s e) (seen_worn t word from gave none fits (leb-true WORN from.count big)))
      (λ _ e. absurd (none_some (sym free ∙ e)))

  count_cause : (critical : Bool) → refusal_by (case_by_count critical (length t.slots) from.count) word from ≡ Some s → HasCause t s
  count_cause false = worn_or ExchangeCase.changes refl
  count_cause true = cond_both (length t.slots == SET) ExchangeCase.no_slot (if nat_le WORN from.count then ExchangeCase.worn else ExchangeCase.installs)
      (λ x. refusal_by x word from ≡ Some s → HasCause t s)
      (λ full e. subst (HasCause t) (some_same _ s e) (writes_cause t (eqb-true (length t.slots) SET full)))
      (λ _. worn_or ExchangeCase.installs refl)

  pub refusal_cause : (critical : Bool) → refusal_by (case_of_other t word from critical) word from ≡ Some s → HasCause t s
  refusal_cause critical = by_read (content_read t.reads word) refl
    where
      by_read : (o : Option ℕ) → content_read t.reads word ≡ o → refusal_by (case_unless_moved o (seen_content from) (case_by_count critical (length t.slots) from.count)) word from ≡ Some s → HasCause t s
      by_read None at e = count_cause critical e
      by_read (Some held) at e = cond_both (held == seen_content from) (case_by_count critical (length t.slots) from.count) (ExchangeCase.moved held)
          (λ c. refusal_by c word from ≡ Some s → HasCause t s)
          (λ _ z. count_cause critical z)
          (λ differ z. subst (HasCause t) (some_same _ s z) (seen_cause t word held from gave none at (λ same. true≢false (sym (eq-eqb held (seen_content from) same) ∙ differ))))
          e
