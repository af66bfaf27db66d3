-- A read that didn't stand when its attempt became ready never stands again, and no step finds it so.
use Rattle.std.proofs.Common.{◌≡◌, ◌≢◌, ℕ, ◌+◌, ◌<◌, ◌⊎◌, Bool, eqb, refl, sym, ap, ◌∙◌, subst, inl, inr, ⊎_elim, set, get_or, true, false, eq-eqb, arith, ◌≤◌}
use Rattle.std.specs.List.{Contains, range_with_len}
use Rattle.std.proofs.lemmas.Bool.{cases_Bool, or_cases, or_left, and_parts, eqb-true, true≢false, cases_eq}
use Rattle.md_words.specs.Content.{count_of}
use Rattle.md_words.specs.LayoutLaws.{IsField}
use Rattle.md_words.specs.PlaceAt.{IsCounted}
use Rattle.md_machine.specs.declared.step.Step.{Step}
use Rattle.md_machine.specs.declared.attempt.HistoryEntry.{HistoryEntry}
use Rattle.md_machine.specs.declared.attempt.Read.{Read}
use Rattle.md_machine.proofs.clauses.words.Loads.{EntriesPast, not_ready_before, other_word}
use Rattle.md_machine.proofs.clauses.words.Stamps.{Stamp, StampsKept, met_stamped, same_stamp}
use Rattle.md_machine.proofs.clauses.words.Statuses.{StatusesNoted}
use Rattle.md_machine.proofs.events.Leaves.{status_uncounted}
use Rattle.md_machine.proofs.events.MoveFacts.{Enters, MoveFacts, WasMet, enters_met, new_entry}
use Rattle.md_machine.proofs.events.Moves.{own_exists}
use Rattle.md_machine.proofs.events.Steps.{HasStep}
use Rattle.md_machine.proofs.events.WordChanges.{at_counted, at_left}
use Rattle.md_machine.proofs.lists.Pairs.{EachPair, pairs-kept}
use Rattle.md_machine.proofs.lists.Rising.{in_map, there}
use Rattle.md_machine.specs.Machine.{Machine, content, shape_of}
use Rattle.md_machine.specs.Trail.{read_stands}
use Rattle.md_machine.specs.clauses.passes.Hands.{HandsFit}
use Rattle.md_machine.specs.clauses.words.Loads.{MeetsReady}
use Rattle.md_machine.specs.clauses.words.Reads.{MovedReads, ReadFound, ReadMoved}
use Rattle.md_machine.specs.events.Ready.{history_entry, read_now, reads_now}

false_unless : (b : Bool) → (b ≡ true → ⊥) → b ≡ false
false_unless b not = ⊎_elim (λ t. absurd (not t)) (λ f. f) (cases_Bool b)

-- at a count beyond the next one no read stands
stands_not : (desc recorded found : ℕ) → count_of recorded + 1 < count_of found → read_stands desc recorded found ≡ false
stands_not desc recorded found beyond = false_unless _ (λ stands. ⊎_elim
    (λ same. let e = ap count_of (eqb-true found recorded same) in omega (arith, beyond, e))
    (λ both. let e = eqb-true (count_of found) (count_of recorded + 1) (and_parts _ _ both).1 in omega (arith, beyond, e))
    (or_cases (eqb found recorded) _ stands))

-- a read that finds its own content stands
stands_itself : (desc recorded found : ℕ) → found ≡ recorded → read_stands desc recorded found ≡ true
stands_itself desc recorded found e = or_left (eqb found recorded) _ (eq-eqb found recorded e)

-- a read of an entry that becomes ready has the flag of that moment
flag_now : (m : Machine) (desc count : ℕ) (r : Read) → Contains (reads_now m desc count) r → r.stood ≡ read_stands desc r.content (content m r.word)
flag_now m desc count r c =
    let x = in_map (read_now m desc) (range_with_len 0 count) r c in
    subst (λ (y : Read). y.stood ≡ read_stands desc y.content (content m y.word)) x.2 refl

module _ (m n : Machine) (v : MoveFacts m n) (field : IsField (shape_of m) m.words) (hands : HandsFit (shape_of m) m.words m.passes) (statuses : StatusesNoted (shape_of m) m.words m.passes) (past : EntriesPast m)
    (stamp : Stamp) (stamps : StampsKept m stamp) (moved : MovedReads m.words m.history) where
  old_moved : (e : HistoryEntry) → Contains m.history e → (r : Read) → Contains e.reads r → r.stood ≡ false → ReadMoved n.words e r
  old_moved e c r of fell =
      let counted = (stamps.reads e r c of).0 in
      let was = moved e c r of fell in
      let less = was.count in
      let Gone : ℕ → Type 0 = λ x. (count_of r.content < count_of x) × (read_stands e.attempt.desc r.content x ≡ false) in
      let now : Gone (get_or (set m.words v.word v.new) r.word 0) = at_left (Unit {0}) m field v.word v.new r.word Gone v.left
      (λ ch here.
      let rises = (at_counted (Unit {0}) m field v.word v.new r.word counted ch here).more in
      let same = ap (λ w. count_of (content m w)) here in
      (omega (arith, rises, same, less), stands_not e.attempt.desc r.content v.new (omega (arith, rises, same, less))))
      (was.count, was.gone) in
      let there = subst (λ ws. Gone (get_or ws r.word 0)) (sym v.words) now in
      record { count = there.0; gone = there.1 }

  -- a read of a new entry
  new_moved : (x : Enters m n v.p v.word v.new) (r : Read) → Contains (reads_now m x.hand.attempt.desc x.count) r → WasMet m r → r.stood ≡ false → ReadMoved n.words (history_entry m x.hand x.certificates x.count) r
  new_moved x r of met fell =
      let desc = x.hand.attempt.desc in
      let apart : r.word ≢ v.word = λ e. status_uncounted m desc (own_exists m v.p desc x.own) (subst (IsCounted (shape_of m)) (e ∙ x.there) met.counted) in
      let same : get_or n.words r.word 0 ≡ content m r.word = other_word m n v field hands statuses past r.word apart in
      let gone : read_stands desc r.content (content m r.word) ≡ false = sym (flag_now m desc x.count r of) ∙ fell in
      let stamped = met_stamped m stamp stamps r met in
      let bound = stamped.bound in
      let differ : count_of r.content ≢ count_of (content m r.word) = λ e. true≢false (sym (stands_itself desc r.content (content m r.word) (sym (same_stamp m.words stamp r.word r.content (content m r.word) stamped (stamps.now r.word met.counted) e))) ∙ gone) in
      record {
        count = subst (λ y. count_of r.content < count_of y) (sym same) (less_of (count_of r.content) (count_of (content m r.word)) bound differ);
        gone = subst (λ y. read_stands desc r.content y ≡ false) (sym same) gone;
      }
    where
      less_of : (a b : ℕ) → a ≤ b → a ≢ b → a < b
      less_of a b le ne = ⊎_elim (λ e. absurd (ne e)) (λ o. o) (split a b le)
        where
          split : (a b : ℕ) → a ≤ b → (a ≡ b) ⊎ (a < b)
          split a b le = ⊎_elim inl (λ d. inr (omega (arith, d, le))) (cases_eq a b)

  reads_moved : MovedReads n.words n.history
  reads_moved e c r of fell = ⊎_elim
      (λ old. old_moved e old r of fell)
      (λ y. let mine = subst (λ (z : HistoryEntry). Contains z.reads r) (sym y.1) of in subst (λ z. ReadMoved n.words z r) y.1 (new_moved y.0 r mine (enters_met m n v y.0 r mine) fell))
      (new_entry m n v e c)

  found_old : (s t : Step) → HasStep m.passes s → ReadFound (shape_of m) m.history s t → ReadFound (shape_of m) n.history s t
  found_old s t has was e c meets r of there plain stands = ⊎_elim
      (λ old. was e old meets r of there plain stands)
      (λ new. absurd (not_ready_before m n v field hands statuses past new.0 s has (subst (λ (x : HistoryEntry). MeetsReady (shape_of m) x.attempt s) (sym new.1) meets)))
      (new_entry m n v e c)

  found_new : (s : Step) → HasStep m.passes s → ReadFound (shape_of m) n.history s v.step
  found_new s has e c meets r of there plain stands = ⊎_elim
      (λ old. ⊎_elim (λ yes. yes)
      (λ fell. let gone = (moved e old r of fell).gone in
      absurd (true≢false (sym stands ∙ ap (read_stands e.attempt.desc r.content) (v.before ∙ ap (content m) (sym v.there ∙ there)) ∙ gone)))
      (cases_Bool r.stood))
      (λ new. absurd (not_ready_before m n v field hands statuses past new.0 s has (subst (λ (x : HistoryEntry). MeetsReady (shape_of m) x.attempt s) (sym new.1) meets)))
      (new_entry m n v e c)

  reads_found : EachPair (ReadFound (shape_of m) m.history) m.passes → EachPair (ReadFound (shape_of m) n.history) n.passes
  reads_found = pairs-kept m.passes n.passes v.step (ReadFound (shape_of m) m.history) (ReadFound (shape_of m) n.history) v.from found_old found_new

  -- both
  pub reads-kept : EachPair (ReadFound (shape_of m) m.history) m.passes → MovedReads n.words n.history × EachPair (ReadFound (shape_of m) n.history) n.passes
  reads-kept found = (reads_moved, reads_found found)
