-- The entries are numbered by lane, and no attempt has two, after every event.
use Rattle.std.proofs.Common.{◌≡◌, ◌∷◌, ◌++◌, List, [], false, refl, sym, ap, ◌∙◌, subst, ⊎_elim}
use Rattle.std.proofs.lemmas.List.{map-append}
use Rattle.std.proofs.lemmas.List.Elements.{Contains-push_cases}
use Rattle.md_words.specs.declared.shape.Shape.{Shape}
use Rattle.md_history.specs.Engine.{AreNumberedByLane}
use Rattle.md_history.specs.LaneLaws.{numbered-none, numbered-push, push-cases}
use Rattle.md_machine.specs.declared.attempt.HistoryEntry.{HistoryEntry}
use Rattle.md_machine.proofs.clauses.entries.EntriesFit.{EntriesFit}
use Rattle.md_machine.proofs.events.MoveFacts.{Enters, MoveFacts}
use Rattle.md_machine.proofs.events.Moves.{own_exists}
use Rattle.md_machine.proofs.lists.Rising.{in_none}
use Rattle.md_machine.proofs.replay.Enter.{prep_idle}
use Rattle.md_machine.specs.Machine.{Machine, content, is_ready, shape_of}
use Rattle.md_machine.specs.Resolution.{entries_of}
use Rattle.md_machine.specs.clauses.entries.Numbered.{EntriesNumbered, IsOfItsLane}
use Rattle.md_machine.specs.events.Ready.{history_after_ready, history_entry}

-- an empty history is numbered
pub none_numbered : (shape : Shape) → EntriesNumbered shape []
none_numbered shape = record {
  lanes = λ e c. absurd (in_none e c);
  numbered = numbered-none;
  distinct = λ earlier later e is. elim (push-none earlier later e is) [ ];
}
  where
    push-none : (earlier later : List HistoryEntry) (e : HistoryEntry) → [] ≡ earlier ++ e ∷ later → ⊥
    push-none [] later e is = cc
    push-none (x ∷ earlier) later e is = cc

module _ (m n : Machine) (v : MoveFacts m n) (fit : EntriesFit (shape_of m) m.words m.history m.fates) (was : EntriesNumbered (shape_of m) m.history) where
  -- an attempt that becomes ready had no entry, and its entry has the next number of its lane
  entered : (x : Enters m n v.p v.word v.new) → EntriesNumbered (shape_of m) (history_after_ready m x.hand x.certificates x.count)
  entered x =
      let e = history_entry m x.hand x.certificates x.count in
      let idle : is_ready m.history x.hand.attempt ≡ false = prep_idle m x.hand.attempt (ap (content m) (sym x.there) ∙ x.was) m.history m.fates fit in record {
        lanes = λ y c. ⊎_elim (was.lanes y)
            (λ same. subst (IsOfItsLane (shape_of m)) same (record { exists = own_exists m v.p x.hand.attempt.desc x.own; lane = refl }))
            (Contains-push_cases m.history e y c);
        numbered = subst AreNumberedByLane (sym (map-append (λ (y : HistoryEntry). y.entry) m.history (e ∷ [])))
            (numbered-push (entries_of m.history) e.entry was.numbered refl);
        distinct = λ earlier later y is. ⊎_elim
            (λ last. subst (λ (z : HistoryEntry). is_ready earlier z.attempt ≡ false) last.1 (subst (λ es. is_ready es x.hand.attempt ≡ false) last.0 idle))
            (λ before. was.distinct earlier before.0 y before.1)
            (push-cases m.history e earlier y later is);
      }

  pub numbered-kept : EntriesNumbered (shape_of m) n.history
  numbered-kept = ⊎_elim
      (λ stay. subst (EntriesNumbered (shape_of m)) (sym stay.history) was)
      (λ o. ⊎_elim
      (λ x. subst (EntriesNumbered (shape_of m)) (sym x.history) (entered x))
      (λ d. subst (EntriesNumbered (shape_of m)) (sym d.history) was)
      o)
      v.fates
