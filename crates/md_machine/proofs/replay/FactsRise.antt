-- What is a fact in a resolution is one in each that keeps more, and stays one: after every event.
use Rattle.std.proofs.Common.{◌≡◌, refl, sym, subst}
use Rattle.md_machine.specs.GoesOn.{MachineGoesOn}
use Rattle.md_machine.specs.Machine.{Machine}
use Rattle.md_machine.specs.Meaning.{Lawful, Meaning}
use Rattle.md_machine.proofs.Invariant.{Invariant}
use Rattle.md_machine.proofs.events.Moves.{Effect, Moves, by_exchange, by_fate, by_install, by_ready, by_start, by_stay, by_store, by_uninstall}
use Rattle.md_machine.proofs.replay.Kept.{Means}
use Rattle.md_machine.proofs.replay.Rise.{AllPlain, FactsRise, FactsStay, exchange_rise, exchange_stay, plain_rise, plain_stay}
use Rattle.md_machine.proofs.replay.RiseReady.{ready_rise, ready_stay}

module _ (M : Meaning) (lawful : Lawful M) (m n : Machine) (k : Invariant m) (kn : Invariant n) (on : MachineGoesOn m n)
    (w : Moves M m n) (was : Means M m) where
  -- facts stay, and where they rose they still do
  abbrev Both : Type 0
  Both = FactsStay m n × (FactsRise m → FactsRise n)

  abbrev Plain : Effect M m n w.p w.kind w.word w.new → Type 0
  Plain = AllPlain M lawful m n k kn on w was

  plainly : n.history ≡ m.history → Plain w.effect → Both
  plainly history plain = (plain_stay M lawful m n k kn on w was history plain, plain_rise M lawful m n k kn on w was history plain)

  both : (e : Effect M m n w.p w.kind w.word w.new) → w.effect ≡ e → Both
  both (by_stay s) is = plainly s.quiet.history (subst Plain (sym is) (λ choice r. tt))
  both (by_store s) is = plainly s.quiet.history (subst Plain (sym is) (λ choice r. tt))
  both (by_install s) is = plainly s.history (subst Plain (sym is) (λ choice r. tt))
  both (by_exchange s) is =
      (exchange_stay M lawful m n k kn on w was s.quiet.history s, exchange_rise M lawful m n k kn on w was s.quiet.history s)
  both (by_ready s) is = (ready_stay M lawful m n k kn on w was s, ready_rise M lawful m n k kn on w was s)
  both (by_fate s) is = plainly s.history (subst Plain (sym is) (λ choice r. tt))
  both (by_uninstall s) is = plainly s.quiet.history (subst Plain (sym is) (λ choice r. tt))
  both (by_start s) is = plainly s.quiet.history (subst Plain (sym is) (λ choice r. tt))

  pub facts_stay : FactsStay m n
  facts_stay = (both w.effect refl).0

  pub facts_rise-kept : FactsRise m → FactsRise n
  facts_rise-kept = (both w.effect refl).1
