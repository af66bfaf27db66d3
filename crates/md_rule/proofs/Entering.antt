-- A ready step that wins makes an entry with the certificates by which it was shown.
use Rattle.std.proofs.Common.{◌≡◌, ◌≢◌, ◌++◌, ℕ, true, List, [], ◌∷◌, Result, Ok, Err, MatchResult, IfOk, refl, sym, ap, ◌∙◌, subst, slice_set}
use Rattle.std.proofs.lemmas.Bool.{cond-true, eq-eqb}
use mathlib.Core.Option.{some}
use lib.ListN.{get_elem?}
use Rattle.md_words.specs.declared.shape.Shape.{Shape}
use Rattle.md_words.specs.declared.status.Status.TheVariants.{InProg}
use Rattle.md_words.specs.Layout.{address}
use Rattle.md_words.specs.Place.{desc_status}
use Rattle.md_words.specs.Status.{serial_of, status_word}
use Rattle.md_machine.specs.declared.attempt.Hand.{Hand}
use Rattle.md_machine.specs.declared.certificate.Certificate.{Certificate}
use Rattle.md_machine.specs.declared.pass.PassView.{PassView}
use Rattle.md_machine.specs.Event.{Does, ready}
use Rattle.md_machine.specs.Machine.{IsAt, Machine, content, shape_of}
use Rattle.md_machine.specs.Meaning.{Meaning}
use Rattle.md_machine.specs.Stepping.{wins}
use Rattle.md_machine.specs.events.Ready.{after_ready, history_entry, unready_word, view_after_ready}
use Rattle.md_machine.proofs.lists.At.{set_there}
use Rattle.md_machine.proofs.lists.Options.{some_same}
use Rattle.md_rule.specs.Entering.{EnteredBy, MayBecomeReady}
use Rattle.md_rule.specs.InHand.{HoldsUnready}
use Rattle.md_rule.specs.Steps.{Exchanged, MayTell, SteppedFrom}
use Rattle.md_rule.specs.Views.{Origin}
use Rattle.md_rule.proofs.Events.{is_ready, traded}
use Rattle.md_rule.proofs.Told.{that}

-- what a ready step that wins leaves the pass to have seen
won_seen : (m : Machine) (view : PassView) (h : Hand) (cs : List Certificate) (reads : ℕ)
    → wins m (address (shape_of m) (desc_status h.attempt.desc)) (unready_word h.attempt) ≡ true
    → (view_after_ready m view h cs reads).seen ≡ m.history ++ history_entry m h cs reads ∷ []
won_seen m view h cs reads won =
    ap (λ (x : PassView). x.seen) (cond-true (wins m (address (shape_of m) (desc_status h.attempt.desc)) (unready_word h.attempt)) _ _ won)

module _ (M : Meaning) (o : Origin) (By : List Certificate → Type 0) where
  -- what a ready step tells: its event, and its entry's certificates if it won
  abbrev pub Readies : (desc from reads found : ℕ) → (before after : PassView) → Type 0
  Readies desc from reads found before after =
      SteppedFrom M o (λ pass. ready pass reads) (address o.shape (desc_status desc)) found before after × (found ≡ from → EnteredBy By after)

  pub ready_tells : (view : PassView) (desc from to reads : ℕ) → HoldsUnready view desc from → to ≡ status_word InProg reads (serial_of from)
      → MayBecomeReady M o By reads view
      → MayTell M o view (address o.shape (desc_status desc)) (traded from to) (Readies desc from reads)
  ready_tells view desc from to reads k to_is may m a pass acts =
      let shown = may m a pass acts in
      let h = shown.0 in
      let cs = shown.1 in
      let n = after_ready m pass view h cs reads in
      let does : Does M m (ready pass reads) n = (view, h, cs, acts, shown.3, refl) in
      let r = is_ready M o view desc from reads k m n pass a acts does in
      let knows : IsAt n pass r.after = subst (λ (l : List PassView). get_elem? l pass ≡ some r.after) (sym r.passes)
      (set_there m.passes pass r.after view acts.at) in
      let is = (that m n pass view view r.after (view_after_ready m view h cs reads) acts acts refl knows).is in
      let hand : k.hand ≡ h = some_same k.hand h (sym k.held ∙ shown.3.held) in
      let at : address (shape_of m) (desc_status h.attempt.desc) ≡ address o.shape (desc_status desc) =
      ap (λ (x : Hand). address (shape_of m) (desc_status x.attempt.desc)) (sym hand)
      ∙ ap (λ d. address (shape_of m) (desc_status d)) k.of ∙ ap (λ (s : Shape). address s (desc_status desc)) a.shape in
      let expects : unready_word h.attempt ≡ from = ap (λ (x : Hand). unready_word x.attempt) (sym hand) ∙ k.status in
      let entered : content m (address o.shape (desc_status desc)) ≡ from → EnteredBy By r.after = λ stood. (
        m.history,
        history_entry m h cs reads,
        ap (λ (x : PassView). x.seen) is
            ∙ won_seen m view h cs reads (eq-eqb _ _ (ap (content m) at ∙ stood ∙ sym expects)),
        shown.2,
      ) in (
        ready pass reads,
        n,
        r.after,
        does,
        r.words ∙ ap (λ w. slice_set m.words (address o.shape (desc_status desc)) (traded from w (content m (address o.shape (desc_status desc))))) (sym to_is),
        r.passes,
        r.lanes,
        ((record { machine = m; admitted = a; pass = pass; acts = acts; next = n; does = does; knows = knows }, refl), entered),
      )

  -- what it answers
  abbrev pub Tells : (desc from reads : ℕ) → (before after : PassView) → Result (Unit {0}) ℕ → Type 0
  Tells desc from reads before after result =
      MatchResult result (λ _. Readies desc from reads from before after) (λ found. (found ≢ from) × Readies desc from reads found before after)

  module _ (desc from reads : ℕ) (before after : PassView) where
    abbrev Word : ℕ
    Word = address o.shape (desc_status desc)

    -- won or lost, it is an exchange
    pub readies_step : (result : Result (Unit {0}) ℕ) → Tells desc from reads before after result
        → Exchanged M o (λ pass. ready pass reads) Word from result before after
    readies_step (Ok u) told = told.0
    readies_step (Err found) told = (told.0, told.1.0)

    pub readies_by : (result : Result (Unit {0}) ℕ) → Tells desc from reads before after result
        → IfOk result (λ _. EnteredBy By after)
    readies_by (Ok u) told = told.1 refl
    readies_by (Err found) told = tt
