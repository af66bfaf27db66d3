-- What a step finds and leaves of a status is the status that stands then, or tells no fate.
use Rattle.std.proofs.Common.{◌≡◌, ℕ, ◌<◌, true, set, sym, ap, ◌∙◌, subst, inl, inr, IsTrue}
use Rattle.std.proofs.lemmas.List.{set-get_or}
use Rattle.std.proofs.lemmas.Bool.{true≢false, false≢true}
use Rattle.md_words.specs.Place.{desc_status, is_counted}
use Rattle.md_words.specs.Layout.{words_of, desc_count, address}
use Rattle.md_words.specs.LayoutLaws.{IsField}
use Rattle.md_words.specs.PlaceAt.{place_at, IsCounted}
use Rattle.md_words.proofs.Places.{place_at-address, address-place_at}
use Rattle.md_machine.specs.declared.step.Kind.{Kind}
use Rattle.md_machine.specs.declared.pass.PassView.{PassView}
use Rattle.md_machine.proofs.clauses.entries.EntriesDecided.{status_new}
use Rattle.md_machine.proofs.fates.Knowing.{IsTrue_of, TellsNothing, TellsTruth}
use Rattle.md_machine.specs.Machine.{Machine, content, shape_of, status_at, word_at}
use Rattle.md_machine.specs.Stepping.{step_of}
use Rattle.md_machine.specs.Trail.{is_store}

-- after a step that leaves this in the word
abbrev pub Truth : Machine → PassView → Kind → (word new : ℕ) → Type 0
Truth m p kind word new = TellsTruth (shape_of m) (set m.words word new) (step_of m p kind word new)

pub same_desc : (a b : ℕ) → desc_status a ≡ desc_status b → a ≡ b
same_desc a b e = cc

-- a load
pub load_truth : (m : Machine) (p : PassView) (kind : Kind) (word : ℕ) → word < words_of (shape_of m) → Truth m p kind word (content m word)
load_truth m p kind word inside =
    let now : (desc : ℕ) → place_at (shape_of m) word ≡ desc_status desc → IsTrue_of (shape_of m) (set m.words word (content m word)) desc (content m word) = λ desc e.
    let here = ap (address (shape_of m)) (sym e) ∙ (address-place_at (shape_of m) word inside).1 in
    inl (sym (ap (λ words. word_at (shape_of m) words (desc_status desc)) (set-get_or m.words word 0) ∙ ap (content m) here)) in
    record { before = λ desc e _. now desc e; after = λ desc e _. now desc e }

-- a step on a counted word
pub counted_truth : (m : Machine) (p : PassView) (kind : Kind) (word new : ℕ) → IsCounted (shape_of m) word → Truth m p kind word new
counted_truth m p kind word new counted =
    let never : (desc : ℕ) → place_at (shape_of m) word ≡ desc_status desc → ⊥ = λ desc e. false≢true (subst (λ q. IsTrue (is_counted q)) e counted.1) in
    record { before = λ desc e _. absurd (never desc e); after = λ desc e _. absurd (never desc e) }

-- a store, which finds nothing
pub store_truth : (m : Machine) (p : PassView) (kind : Kind) (word new : ℕ) → is_store kind ≡ true → Truth m p kind word new
store_truth m p kind word new store = record { before = λ desc e plain. absurd (true≢false (sym store ∙ plain)); after = λ desc e plain. absurd (true≢false (sym store ∙ plain)) }

-- a change of an undecided status
pub status_truth : (m : Machine) (p : PassView) (kind : Kind) (desc from to : ℕ) → IsField (shape_of m) m.words → desc < desc_count (shape_of m) → status_at m desc ≡ from → TellsNothing from
    → Truth m p kind (address (shape_of m) (desc_status desc)) to
status_truth m p kind desc from to field exists was nothing =
    let word = address (shape_of m) (desc_status desc) in
    let is : (d : ℕ) → place_at (shape_of m) word ≡ desc_status d → desc ≡ d = λ d e. same_desc desc d (sym (place_at-address (shape_of m) (desc_status desc) exists) ∙ e) in record {
      before = λ d e _. subst (λ x. IsTrue_of (shape_of m) (set m.words word to) x (content m word)) (is d e) (inr (subst TellsNothing (sym was) nothing));
      after = λ d e _. subst (λ x. IsTrue_of (shape_of m) (set m.words word to) x to) (is d e) (inl (sym (status_new (shape_of m) m.words field desc to exists)));
    }
