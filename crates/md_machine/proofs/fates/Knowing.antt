-- What a pass learns from a status agrees with the fates.
use Rattle.std.proofs.Common.{◌≡◌, ℕ, suc, ◌≤◌, ◌⊎◌, false, cond, List, [], ◌∷◌, ◌++◌, length, refl, sym, ap, ◌∙◌, subst, ⊎_elim, nat_le, arith}
use Rattle.std.proofs.lemmas.Bool.{cond_both, leb-true, leb-false}
use Rattle.md_words.specs.declared.shape.Shape.{Shape}
use Rattle.md_words.specs.declared.status.Status.{Status}
use Rattle.md_words.specs.declared.status.Status.TheVariants.{InPrep, InProg, Committed as IsCommitted, Aborted as IsAborted}
use Rattle.md_words.specs.Status.{status_of, serial_of}
use Rattle.md_words.specs.Place.{Place, base_word, bucket_head, queue_head, queue_tail, node_key, node_value, node_next, desc_status, read_word, read_content, slot_word, slot_old, slot_new}
use Rattle.md_words.specs.PlaceAt.{place_at}
use Rattle.md_history.specs.declared.entries.Fate.{Fate}
use Rattle.md_history.specs.Front.{Stays, AllStay, known_of_both}
use Rattle.md_machine.specs.declared.attempt.AttemptId.{AttemptId}
use Rattle.md_machine.specs.declared.attempt.HistoryEntry.{HistoryEntry}
use Rattle.md_machine.specs.declared.step.Step.{Step}
use Rattle.md_machine.proofs.clauses.entries.EntriesFit.{EntriesFit, EntryFits}
use Rattle.md_machine.proofs.events.Attempts.{same_parts}
use Rattle.md_machine.specs.Machine.{attempt_of, same_attempt, word_at}
use Rattle.md_machine.specs.Stepping.{fate_told, known_after, known_at, told_by, with_fate}
use Rattle.md_machine.specs.Trail.{is_store}
use Rattle.md_machine.specs.clauses.entries.Fates.{Tells}

-- a fate that is told agrees with the one that the status tells, or stays as it was known
told_stays : (s : Status) (f g : Fate) → Stays f g → Tells s g → Stays (fate_told s f) g
told_stays InPrep f g k t = k
told_stays InProg f g k t = k
told_stays IsCommitted f g k t = t
told_stays IsAborted f g k t = t

-- an undecided status tells nothing
abbrev pub TellsNothing : ℕ → Type 0
TellsNothing held = (status_of held ≡ InPrep) ⊎ (status_of held ≡ InProg)

nothing_told : (held : ℕ) (f : Fate) → TellsNothing held → fate_told (status_of held) f ≡ f
nothing_told held f = ⊎_elim (λ e. ap (λ s. fate_told s f) e) (λ e. ap (λ s. fate_told s f) e)

-- a status that is the present one of its descriptor, or undecided
abbrev pub IsTrue_of : Shape → List ℕ → (desc held : ℕ) → Type 0
IsTrue_of shape words desc held = (held ≡ word_at shape words (desc_status desc)) ⊎ TellsNothing held

pub length_told : (es : List HistoryEntry) (a : AttemptId) (s : Status) (fs : List Fate) → length (with_fate es a s fs) ≡ length fs
length_told [] a s [] = refl
length_told [] a s (f ∷ fs) = refl
length_told (e ∷ es) a s [] = refl
length_told (e ∷ es) a s (f ∷ fs) = ap suc (length_told es a s fs)

module _ (shape : Shape) (words : List ℕ) where
  told_one : (e : HistoryEntry) (desc held : ℕ) (f g : Fate) → IsTrue_of shape words desc held → EntryFits shape words e g → Stays f g
      → Stays (cond (same_attempt e.attempt (attempt_of desc (serial_of held))) (fate_told (status_of held) f) f) g
  told_one e desc held f g is fits k = cond_both (same_attempt e.attempt (attempt_of desc (serial_of held))) (fate_told (status_of held) f) f (λ x. Stays x g)
      (λ yes. ⊎_elim
      (λ now. let parts = same_parts e.attempt (attempt_of desc (serial_of held)) yes in
      let here = ap (λ d. word_at shape words (desc_status d)) parts.0 in
      told_stays (status_of held) f g k (subst (λ x. Tells (status_of x) g) (here ∙ sym now) (fits.present (parts.1 ∙ ap serial_of (now ∙ sym here))).fate))
      (λ nothing. subst (λ x. Stays x g) (sym (nothing_told held f nothing)) k)
      is)
      (λ no. k)

  -- what a status tells agrees with the fates
  pub told_fits : (seen rest : List HistoryEntry) (desc held : ℕ) (known fates : List Fate) → IsTrue_of shape words desc held → EntriesFit shape words (seen ++ rest) fates → AllStay known fates
      → AllStay (told_by seen desc held known) fates
  told_fits [] rest desc held [] fates is fits k = tt
  told_fits [] rest desc held (f ∷ fs) fates is fits k = k
  told_fits (e ∷ es) rest desc held [] fates is fits k = tt
  told_fits (e ∷ es) rest desc held (f ∷ fs) [] is fits k = absurd fits
  told_fits (e ∷ es) rest desc held (f ∷ fs) (g ∷ gs) is fits k = (told_one e desc held f g is fits.0 k.0, told_fits es rest desc held fs gs is fits.1 k.1)

  -- a step tells the truth: what it found and left of a status is the present one, or undecided
  pub record TellsTruth (s : Step) : Type 0 where
    pub before : (desc : ℕ) → place_at shape s.word ≡ desc_status desc → is_store s.kind ≡ false → IsTrue_of shape words desc s.before
    pub after : (desc : ℕ) → place_at shape s.word ≡ desc_status desc → is_store s.kind ≡ false → IsTrue_of shape words desc s.after

  -- the known fates after a step agree with the fates, and are as many
  known_at_fits : (seen rest : List HistoryEntry) (s : Step) (q : Place) (known fates : List Fate) → (place_at shape s.word ≡ q) → is_store s.kind ≡ false → TellsTruth s → EntriesFit shape words (seen ++ rest) fates → AllStay known fates
      → AllStay (known_at seen s q known) fates × (length (known_at seen s q known) ≡ length known)
  known_at_fits seen rest s (desc_status desc) known fates at plain truth fits k = (
    told_fits seen rest desc s.after (told_by seen desc s.before known) fates (truth.after desc at plain) fits (told_fits seen rest desc s.before known fates (truth.before desc at plain) fits k),
    length_told seen (attempt_of desc (serial_of s.after)) (status_of s.after) (told_by seen desc s.before known) ∙ length_told seen (attempt_of desc (serial_of s.before)) (status_of s.before) known,
  )
  known_at_fits seen rest s base_word known fates at plain truth fits k = (k, refl)
  known_at_fits seen rest s (bucket_head _ _) known fates at plain truth fits k = (k, refl)
  known_at_fits seen rest s (queue_head _) known fates at plain truth fits k = (k, refl)
  known_at_fits seen rest s (queue_tail _) known fates at plain truth fits k = (k, refl)
  known_at_fits seen rest s (node_key _) known fates at plain truth fits k = (k, refl)
  known_at_fits seen rest s (node_value _) known fates at plain truth fits k = (k, refl)
  known_at_fits seen rest s (node_next _) known fates at plain truth fits k = (k, refl)
  known_at_fits seen rest s (read_word _ _) known fates at plain truth fits k = (k, refl)
  known_at_fits seen rest s (read_content _ _) known fates at plain truth fits k = (k, refl)
  known_at_fits seen rest s (slot_word _ _) known fates at plain truth fits k = (k, refl)
  known_at_fits seen rest s (slot_old _ _) known fates at plain truth fits k = (k, refl)
  known_at_fits seen rest s (slot_new _ _) known fates at plain truth fits k = (k, refl)

  pub known_fits : (seen rest : List HistoryEntry) (s : Step) (known fates : List Fate) → TellsTruth s → EntriesFit shape words (seen ++ rest) fates → AllStay known fates
      → AllStay (known_after shape seen s known) fates × (length (known_after shape seen s known) ≡ length known)
  known_fits seen rest s known fates truth fits k = cond_both (is_store s.kind) known (known_at seen s (place_at shape s.word) known) (λ x. AllStay x fates × (length x ≡ length known))
      (λ store. (k, refl))
      (λ plain. known_at_fits seen rest s (place_at shape s.word) known fates refl plain truth fits k)

-- what two passes know of fates is as long as the longer of the two
pub joined_length : (fs gs : List Fate) (n k : ℕ) → length fs ≡ n → length gs ≡ k → length (known_of_both fs gs) ≡ cond (nat_le n k) k n
joined_length fs gs n k a b = cond_both (nat_le n k) k n (λ x. length (known_of_both fs gs) ≡ x)
    (λ le. let l = leb-true n k le in long fs gs (omega (arith, a, b, l)) ∙ b)
    (λ gt. let l = leb-false n k gt in short fs gs (omega (arith, a, b, l)) ∙ a)
  where
    long : (fs gs : List Fate) → length fs ≤ length gs → length (known_of_both fs gs) ≡ length gs
    long [] gs h = refl
    long (f ∷ fs) [] h = absurd (omega (arith, h))
    long (f ∷ fs) (g ∷ gs) h = ap suc (long fs gs (omega (arith, h)))

    short : (fs gs : List Fate) → length gs ≤ length fs → length (known_of_both fs gs) ≡ length fs
    short [] [] h = refl
    short [] (g ∷ gs) h = absurd (omega (arith, h))
    short (f ∷ fs) [] h = refl
    short (f ∷ fs) (g ∷ gs) h = ap suc (short fs gs (omega (arith, h)))
