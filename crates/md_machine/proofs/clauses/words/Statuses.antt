-- The statuses that steps met came to those that stand now.
use Rattle.std.proofs.Common.{◌≡◌, ℕ, ◌<◌, ◌≤◌, ◌⊎◌, List, set, get_or, refl, sym, ap, ◌∙◌, subst, inl, inr, ⊎_elim, length, get_or-set_same, arith, true}
use Rattle.std.proofs.lemmas.Bool.{false≢true}
use Rattle.md_words.proofs.Places.{address_below}
use Rattle.md_words.specs.declared.shape.Shape.{Shape}
use Rattle.md_words.specs.declared.status.Status.{Status}
use Rattle.md_words.specs.declared.status.Status.TheVariants.{InPrep, InProg, Committed, Aborted}
use Rattle.md_words.specs.Status.{status_of, reads_of, serial_of}
use Rattle.md_words.specs.Place.{desc_status}
use Rattle.md_words.specs.Layout.{address, desc_count}
use Rattle.md_words.specs.LayoutLaws.{IsField}
use Rattle.md_machine.specs.declared.step.Step.{Step}
use Rattle.md_machine.specs.declared.pass.PassView.{PassView}
use Rattle.md_machine.proofs.events.MoveFacts.{MoveFacts}
use Rattle.md_machine.proofs.events.Steps.{HasStep, adds_step}
use Rattle.md_machine.proofs.events.WordChanges.{MayLeave, at_left, at_place, statuses_go_on}
use Rattle.md_machine.proofs.lists.Rising.{there}
use Rattle.md_machine.specs.GoesOn.{AttemptGoesOn, StatusGoesOn, moves_to}
use Rattle.md_machine.specs.Installs.{IsUndecided}
use Rattle.md_machine.specs.Machine.{Machine, content, shape_of, status_at, word_at}
use Rattle.md_machine.specs.clauses.words.Statuses.{AttemptCame, StatusCame, StatusesCame, leads_to}
use Rattle.md_machine.specs.events.Uninstall.{IsDecided}

-- a status that was noted while this one stands: of no later attempt; a decided one of the present attempt stands, and
-- where the present one is InPrep none went further
pub record NotedStatus (now held : ℕ) : Type 0 where
  pub past : serial_of held ≤ serial_of now
  pub stands : IsDecided (status_of held) → serial_of held ≡ serial_of now → held ≡ now
  pub unready : status_of now ≡ InPrep → serial_of held ≡ serial_of now → status_of held ≡ InPrep

-- each step on a status noted such ones
abbrev pub StatusesNoted : Shape → List ℕ → List PassView → Type 0
StatusesNoted shape words passes = (t : Step) → HasStep passes t → (desc : ℕ) → desc < desc_count shape → t.word ≡ address shape (desc_status desc)
    → NotedStatus (word_at shape words (desc_status desc)) t.before × NotedStatus (word_at shape words (desc_status desc)) t.after

pub not_both : (s : Status) → (s ≡ InPrep) ⊎ (s ≡ InProg) → IsDecided s → ⊥
not_both s u d = ⊎_elim (λ p. ⊎_elim (λ c. prep_committed (sym p ∙ c)) (λ a. prep_aborted (sym p ∙ a)) d) (λ p. ⊎_elim (λ c. prog_committed (sym p ∙ c)) (λ a. prog_aborted (sym p ∙ a)) d) u
  where
    prep_committed : InPrep ≡ Committed → ⊥
    prep_committed e = cc

    prep_aborted : InPrep ≡ Aborted → ⊥
    prep_aborted e = cc

    prog_committed : InProg ≡ Committed → ⊥
    prog_committed e = cc

    prog_aborted : InProg ≡ Aborted → ⊥
    prog_aborted e = cc

-- what stands came from itself
came_now : (held : ℕ) → StatusCame held held
came_now held = inr (record { serial = refl; leads = leads_to_itself (status_of held); same = λ _. refl; reads = λ _. refl })
  where
    leads_to_itself : (s : Status) → leads_to s s ≡ true
    leads_to_itself InPrep = refl
    leads_to_itself InProg = refl
    leads_to_itself Committed = refl
    leads_to_itself Aborted = refl

-- one more move leads on
leads_on : (a b c : Status) → leads_to a b ≡ true → moves_to b c ≡ true → leads_to a c ≡ true
leads_on InPrep b c h k = refl
leads_on InProg InPrep c h k = absurd (false≢true h)
leads_on InProg InProg InPrep h k = absurd (false≢true k)
leads_on InProg InProg InProg h k = refl
leads_on InProg InProg Committed h k = refl
leads_on InProg InProg Aborted h k = refl
leads_on InProg Committed InPrep h k = absurd (false≢true k)
leads_on InProg Committed InProg h k = refl
leads_on InProg Committed Committed h k = refl
leads_on InProg Committed Aborted h k = refl
leads_on InProg Aborted InPrep h k = absurd (false≢true k)
leads_on InProg Aborted InProg h k = refl
leads_on InProg Aborted Committed h k = refl
leads_on InProg Aborted Aborted h k = refl
leads_on Committed InPrep c h k = absurd (false≢true h)
leads_on Committed InProg c h k = absurd (false≢true h)
leads_on Committed Committed InPrep h k = absurd (false≢true k)
leads_on Committed Committed InProg h k = absurd (false≢true k)
leads_on Committed Committed Committed h k = refl
leads_on Committed Committed Aborted h k = absurd (false≢true k)
leads_on Committed Aborted c h k = absurd (false≢true h)
leads_on Aborted InPrep c h k = absurd (false≢true h)
leads_on Aborted InProg c h k = absurd (false≢true h)
leads_on Aborted Committed c h k = absurd (false≢true h)
leads_on Aborted Aborted InPrep h k = absurd (false≢true k)
leads_on Aborted Aborted InProg h k = absurd (false≢true k)
leads_on Aborted Aborted Committed h k = absurd (false≢true k)
leads_on Aborted Aborted Aborted h k = refl

-- no move leads back
none_back : (a b : Status) → leads_to a b ≡ true → moves_to b a ≡ true → a ≡ b
none_back InPrep InPrep h k = refl
none_back InPrep InProg h k = absurd (false≢true k)
none_back InPrep Committed h k = absurd (false≢true k)
none_back InPrep Aborted h k = absurd (false≢true k)
none_back InProg InPrep h k = absurd (false≢true h)
none_back InProg InProg h k = refl
none_back InProg Committed h k = absurd (false≢true k)
none_back InProg Aborted h k = absurd (false≢true k)
none_back Committed InPrep h k = absurd (false≢true h)
none_back Committed InProg h k = absurd (false≢true h)
none_back Committed Committed h k = refl
none_back Committed Aborted h k = absurd (false≢true h)
none_back Aborted InPrep h k = absurd (false≢true h)
none_back Aborted InProg h k = absurd (false≢true h)
none_back Aborted Committed h k = absurd (false≢true h)
none_back Aborted Aborted h k = refl

-- what InProg leads to is InProg, or moves no more
in_progress_or_stays : (b c : Status) → leads_to InProg b ≡ true → moves_to b c ≡ true → (b ≡ InProg) ⊎ (b ≡ c)
in_progress_or_stays InPrep c h k = absurd (false≢true h)
in_progress_or_stays InProg c h k = inl refl
in_progress_or_stays Committed InPrep h k = absurd (false≢true k)
in_progress_or_stays Committed InProg h k = absurd (false≢true k)
in_progress_or_stays Committed Committed h k = inr refl
in_progress_or_stays Committed Aborted h k = absurd (false≢true k)
in_progress_or_stays Aborted InPrep h k = absurd (false≢true k)
in_progress_or_stays Aborted InProg h k = absurd (false≢true k)
in_progress_or_stays Aborted Committed h k = absurd (false≢true k)
in_progress_or_stays Aborted Aborted h k = inr refl

attempt_on : (held old new : ℕ) → AttemptCame held old → AttemptGoesOn old new → AttemptCame held new
attempt_on held old new came goes = record {
  serial = came.serial ∙ goes.serial;
  leads = leads_on (status_of held) (status_of old) (status_of new) came.leads goes.moves;
  same = λ e.
      let stays = none_back (status_of held) (status_of old) came.leads (subst (λ s. moves_to (status_of old) s ≡ true) (sym e) goes.moves) in
      came.same stays ∙ goes.same (sym stays ∙ e);
  reads = λ e. came.reads e ∙ ⊎_elim (λ prog. goes.reads prog) (λ stays. ap reads_of (goes.same stays))
      (in_progress_or_stays (status_of old) (status_of new) (subst (λ s. leads_to s (status_of old) ≡ true) e came.leads) goes.moves);
}

came_on : (held old new : ℕ) → StatusCame held old → StatusGoesOn old new → StatusCame held new
came_on held old new came goes = ⊎_elim
    (λ less. ⊎_elim (λ more. inl (omega (arith, less, more))) (λ on. let equal = on.serial in inl (omega (arith, less, equal))) goes)
    (λ one. ⊎_elim (λ more. let equal = one.serial in inl (omega (arith, equal, more))) (λ on. inr (attempt_on held old new one on)) goes)
    came

-- a decided status leads to itself alone, and none but InPrep leads to it
decided_leads : (a b : Status) → IsDecided a → leads_to a b ≡ true → a ≡ b
decided_leads InPrep b d h = absurd (not_both InPrep (inl refl) d)
decided_leads InProg b d h = absurd (not_both InProg (inr refl) d)
decided_leads Committed InPrep d h = absurd (false≢true h)
decided_leads Committed InProg d h = absurd (false≢true h)
decided_leads Committed Committed d h = refl
decided_leads Committed Aborted d h = absurd (false≢true h)
decided_leads Aborted InPrep d h = absurd (false≢true h)
decided_leads Aborted InProg d h = absurd (false≢true h)
decided_leads Aborted Committed d h = absurd (false≢true h)
decided_leads Aborted Aborted d h = refl

into_prep : (s : Status) → leads_to s InPrep ≡ true → s ≡ InPrep
into_prep InPrep h = refl
into_prep InProg h = absurd (false≢true h)
into_prep Committed h = absurd (false≢true h)
into_prep Aborted h = absurd (false≢true h)

-- so it is noted
noted_came : (now held : ℕ) → StatusCame held now → NotedStatus now held
noted_came now held came = ⊎_elim
    (λ less. record { past = omega (arith, less); stands = λ decided serial. absurd (omega (arith, less, serial)); unready = λ prep serial. absurd (omega (arith, less, serial)) })
    (λ one. let equal = one.serial in record {
      past = omega (arith, equal);
      stands = λ decided serial. one.same (decided_leads (status_of held) (status_of now) decided one.leads);
      unready = λ prep serial. into_prep (status_of held) (subst (λ s. leads_to (status_of held) s ≡ true) prep one.leads);
    })
    came

pub statuses_noted : (shape : Shape) (words : List ℕ) (passes : List PassView) → StatusesCame shape words passes
    → StatusesNoted shape words passes
statuses_noted shape words passes came t (pass, p, at, (segment, c, i)) desc exists there =
    let now = word_at shape words (desc_status desc) in
    let met = came pass p at segment c t i desc exists there in
    (noted_came now t.before met.before, noted_came now t.after met.after)

-- how a status goes on: it stays, its undecided attempt goes on, or a later one begins
abbrev pub StatusStep : (old new : ℕ) → Type 0
StatusStep old new = (new ≡ old) ⊎ ((AttemptGoesOn old new × IsUndecided old) ⊎ (serial_of old < serial_of new))

pub status_step : (m : Machine) (field : IsField (shape_of m) m.words) (word new : ℕ) → MayLeave (Unit {0}) m word new → (desc : ℕ)
    → desc < desc_count (shape_of m)
    → StatusStep (status_at m desc) (word_at (shape_of m) (set m.words word new) (desc_status desc))
status_step m field word new left desc exists = at_left (Unit {0}) m field word new (address (shape_of m) (desc_status desc)) (StatusStep (status_at m desc)) left
    (λ c e. subst (λ w. StatusStep (content m w) new) (sym e) (⊎_elim (λ r. inr (inr r.1)) (λ s. inr (inl (s.1, s.2))) (at_place (Unit {0}) m field word new (desc_status desc) exists c e).on))
    (inl refl)

-- every event keeps it
pub statuses-kept : (m n : Machine) (v : MoveFacts m n) → IsField (shape_of m) m.words → StatusesCame (shape_of m) m.words m.passes
    → StatusesCame (shape_of m) (set m.words v.word v.new) n.passes
statuses-kept m n v field was pass p p_at segment c t i desc exists at =
    let how = statuses_go_on (Unit {0}) m field v.word v.new v.left desc exists in
    let now = word_at (shape_of m) (set m.words v.word v.new) (desc_status desc) in
    ⊎_elim
    (λ old.
    let met = was old.0 old.1 old.2 old.3.0 old.3.1 t old.3.2 desc exists at in
    record { before = came_on t.before (status_at m desc) now met.before how; after = came_on t.after (status_at m desc) now met.after how })
    (λ same.
    let here : v.word ≡ address (shape_of m) (desc_status desc) = sym v.there ∙ ap (λ (s : Step). s.word) same ∙ at in
    let found : t.before ≡ status_at m desc = ap (λ (s : Step). s.before) (sym same) ∙ v.before ∙ ap (content m) here in
    let left : now ≡ v.new = ap (λ w. get_or (set m.words v.word v.new) w 0) (sym here) ∙ get_or-set_same m.words v.word v.new 0 (inside here) in record {
      before = subst (λ x. StatusCame x now) (sym found) (came_on (status_at m desc) (status_at m desc) now (came_now (status_at m desc)) how);
      after = subst (λ x. StatusCame x now) (left ∙ sym v.after ∙ ap (λ (s : Step). s.after) same) (came_now now);
    })
    (adds_step m.passes n.passes v.step v.from t (pass, p, p_at, (segment, c, i)))
  where
    inside : v.word ≡ address (shape_of m) (desc_status desc) → v.word < length m.words
    inside e = let below = address_below (shape_of m) (desc_status desc) exists in omega (arith, e, below, field)
