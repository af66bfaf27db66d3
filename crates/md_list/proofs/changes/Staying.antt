-- Slots stay: where none is touched, over a change of a word, and where a cleanup is kept with a word that had none.
use Rattle.std.proofs.Common.{◌≡◌, ◌==◌, ◌∷◌, [], ℕ, Some, None, map, refl, sym, ap, ◌∙◌, subst, ⊎_elim, eqb-true}
use Rattle.std.proofs.lemmas.Bool.{cond_both}
use Rattle.std.proofs.lemmas.List.Elements.{Contains-append_cases, Contains-append_left}
use Rattle.std.proofs.lemmas.Option.{none-some}
use Rattle.std.specs.List.{Contains}
use Rattle.md_machine.specs.Meaning.{Meaning}
use Rattle.md_machine.proofs.lists.Rising.{in_cons, in_map, in_none, map_in}
use Rattle.md_nbtc_law.specs.declared.seen.Cleanup.{Cleanup}
use Rattle.md_nbtc_law.specs.declared.seen.Kind.{Kind}
use Rattle.md_nbtc_law.specs.declared.seen.Seen.{Seen}
use Rattle.md_nbtc_law.specs.declared.slots.Slot.{Slot}
use Rattle.md_nbtc_law.specs.Calls.{new_slot}
use Rattle.md_nbtc_law.specs.Cleaning.{with_cleanup}
use Rattle.md_nbtc_law.specs.Sets.{with_new}
use Rattle.md_nbtc_law.specs.State.{TxnState}
use Rattle.md_nbtc_law.proofs.structures.Exchanging.{HasExchanged, changed_own, changed_plainly, installed}
use Rattle.md_list.specs.Operations.{SlotsStay, StaysAs}

pub slots_same : (t u : TxnState) → u.slots ≡ t.slots → SlotsStay t u
slots_same t u same s among = (s, subst (λ l. Contains l s) (sym same) among, record { number = refl; word = refl; old = refl; cleanup = λ c kept. kept })

pub slots_over : (s t u : TxnState) → SlotsStay s t → SlotsStay t u → SlotsStay s u
slots_over s t u one two x among =
    let y = one x among in
    let z = two y.0 y.1 in (
      z.0,
      z.1,
      record {
        number = z.2.number ∙ y.2.number;
        word = z.2.word ∙ y.2.word;
        old = z.2.old ∙ y.2.old;
        cleanup = λ c kept. z.2.cleanup c (y.2.cleanup c kept);
      },
    )

-- no cleanup is kept with the slot of a word
abbrev pub KeepsNone : TxnState → (word : ℕ) → Type 0
KeepsNone t word = (s : Slot) → Contains t.slots s → s.write.word ≡ word → s.cleanup ≡ None

module _ (M : Meaning) (t : TxnState) (word : ℕ) (from : Seen) (to : ℕ) (kind : Kind) (u : TxnState) (seen : Seen) where
  renewed : (s : Slot) → StaysAs s (with_new word to s)
  renewed s = cond_both (s.write.word == word) (record s { write = record s.write { new = to } }) s (StaysAs s)
      (λ _. record { number = refl; word = refl; old = refl; cleanup = λ c kept. kept })
      (λ _. record { number = refl; word = refl; old = refl; cleanup = λ c kept. kept })

  -- after a change
  pub slots_changed : HasExchanged M t word from to kind u seen → SlotsStay t u
  slots_changed (changed_own e) s among = (
    with_new word to s,
    subst (λ l. Contains l (with_new word to s)) (sym (ap (λ (x : TxnState). x.slots) e.state_is)) (map_in (with_new word to) t.slots s among),
    renewed s,
  )
  slots_changed (installed e) s among = (
    s,
    subst (λ l. Contains l s) (sym (ap (λ (x : TxnState). x.slots) e.state_is)) (Contains-append_left t.slots (new_slot t word from to ∷ []) s among),
    record { number = refl; word = refl; old = refl; cleanup = λ c kept. kept },
  )
  slots_changed (changed_plainly e) s among = slots_same t u (ap (λ (x : TxnState). x.slots) e.state_is) s among

  -- a change keeps no cleanup
  same_cleanup : (s : Slot) → (with_new word to s).cleanup ≡ s.cleanup
  same_cleanup s = cond_both (s.write.word == word) (record s { write = record s.write { new = to } }) s (λ (x : Slot). x.cleanup ≡ s.cleanup) (λ _. refl) (λ _. refl)

  pub none_changed : KeepsNone t word → HasExchanged M t word from to kind u seen → KeepsNone u word
  none_changed none (changed_own e) s among is =
      let x = in_map (with_new word to) t.slots s (subst (λ l. Contains l s) (ap (λ (y : TxnState). y.slots) e.state_is) among) in
      ap (λ (y : Slot). y.cleanup) (sym x.2) ∙ same_cleanup x.0 ∙ none x.0 x.1 (sym (renewed x.0).word ∙ ap (λ (y : Slot). y.write.word) x.2 ∙ is)
  none_changed none (installed e) s among is = ⊎_elim
      (λ old. none s old is)
      (λ last. ⊎_elim
      (λ same. ap (λ (y : Slot). y.cleanup) (sym same))
      (λ no. absurd (in_none s no))
      (in_cons (new_slot t word from to) [] s last))
      (Contains-append_cases t.slots (new_slot t word from to ∷ []) s (subst (λ l. Contains l s) (ap (λ (y : TxnState). y.slots) e.state_is) among))
  none_changed none (changed_plainly e) s among is = none s (subst (λ l. Contains l s) (ap (λ (y : TxnState). y.slots) e.state_is) among) is

-- a cleanup that is kept with a word that had none
pub slots_kept : (t u : TxnState) (word : ℕ) (c : Cleanup) → KeepsNone t word → u.slots ≡ map (with_cleanup word c) t.slots → SlotsStay t u
slots_kept t u word c none kept s among = (
  with_cleanup word c s,
  subst (λ l. Contains l (with_cleanup word c s)) (sym kept) (map_in (with_cleanup word c) t.slots s among),
  cond_both (s.write.word == word) (record s { cleanup = Some c }) s (StaysAs s)
      (λ this. record {
        number = refl;
        word = refl;
        old = refl;
        cleanup = λ d had. absurd (none-some d (sym (none s among (eqb-true s.write.word word this)) ∙ had));
      })
      (λ _. record { number = refl; word = refl; old = refl; cleanup = λ d had. had }),
)
