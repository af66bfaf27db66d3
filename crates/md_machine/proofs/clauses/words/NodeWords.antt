-- The key and the value of a placed node stand as flagged steps found them, after every event.
use Rattle.std.proofs.Common.{get_or-set_other, ◌≡◌, ℕ, List, length, sym, ap, ◌∙◌, subst, ⊎_elim, true, get_or}
use Rattle.std.specs.List.{Contains}
use Rattle.std.proofs.lemmas.Bool.{cases_eq}
use Rattle.md_words.specs.Place.{Place, node_key, node_value, node_next}
use Rattle.md_words.specs.PlaceAt.{place_at}
use Rattle.md_machine.specs.declared.step.Step.{Step}
use Rattle.md_machine.specs.declared.pass.PassView.{PassView}
use Rattle.md_machine.proofs.clauses.nodes.Placed.{NotedAlways, always_in}
use Rattle.md_machine.proofs.events.MoveFacts.{MoveFacts, words_same}
use Rattle.md_machine.proofs.events.Steps.{adds_step}
use Rattle.md_machine.proofs.resolutions.Placing.{always_not_never}
use Rattle.md_machine.specs.Machine.{IsAt, Machine, content, shape_of}
use Rattle.md_machine.specs.Own.{IsDataOf, IsWordOf}
use Rattle.md_machine.specs.Resolution.{always_placed}
use Rattle.md_machine.specs.Stepping.{is_of_placed}
use Rattle.md_machine.specs.Trail.{segments}
use Rattle.md_machine.specs.clauses.nodes.Flags.{FlaggedAreNoted}
use Rattle.md_machine.specs.clauses.words.NodeWords.{DataStands, NodeWordsStand, StandsAsFound}

-- a word of a node that is a key or a value is that node's key or value
data_of : (x k : ℕ) (place : Place) → IsWordOf x place → IsDataOf k place → IsDataOf x place
data_of x k place is d = ⊎_elim (λ y. y) (λ next. absurd (⊎_elim (λ e. next_key (sym next ∙ e)) (λ e. next_value (sym next ∙ e)) d)) is
  where
    next_key : node_next x ≡ node_key k → ⊥
    next_key e = cc

    next_value : node_next x ≡ node_value k → ⊥
    next_value e = cc

module _ (m n : Machine) (v : MoveFacts m n) (fated : length m.fates ≡ length m.history) (placed : NotedAlways m) (flags : FlaggedAreNoted m) (was : NodeWordsStand m) where
  -- nobody changes the key or the value of a node that every resolution places
  data_stays : (k : ℕ) → always_placed m k ≡ true → IsDataOf k (place_at (shape_of m) v.word) → v.new ≡ content m v.word
  data_stays k always d = ⊎_elim (λ same. same) (λ never. absurd (always_not_never m k fated always never)) (v.data_word k d)

  old_stands : (pass : ℕ) (p : PassView) → IsAt m pass p → (segment : List Step) → Contains (segments p) segment → (s : Step) → Contains segment s → s.placed ≡ true → (k : ℕ) → IsDataOf k (place_at (shape_of m) s.word) → StandsAsFound n.words s
  old_stands pass p at segment c s i flag k d =
      let f = was pass p at segment c s i flag k d in
      let note = flags pass p at segment c s i flag in
      let always = always_in m note.node (placed pass p at note.node note.among) in
      let stays : get_or n.words s.word 0 ≡ content m s.word = ⊎_elim
      (λ e. ap (λ ws. get_or ws s.word 0) (words_same m n v (data_stays note.node.node always (subst (λ w. IsDataOf note.node.node (place_at (shape_of m) w)) e (data_of note.node.node k _ note.is d)))))
      (λ ne. ap (λ ws. get_or ws s.word 0) v.words ∙ get_or-set_other m.words v.word s.word v.new 0 ne)
      (cases_eq s.word v.word) in
      record { before = f.before ∙ sym stays; after = f.after ∙ sym stays }

  -- the flag of the new step tells that its node is placed in every resolution
  flag_placed : v.step.placed ≡ true → (k : ℕ) → IsDataOf k (place_at (shape_of m) v.word) → always_placed m k ≡ true
  flag_placed flag k d =
      let told : is_of_placed m (place_at (shape_of m) v.word) ≡ true = ap (λ (s : Step). s.placed) (sym v.is_step) ∙ flag in
      ⊎_elim (λ e. ap (is_of_placed m) (sym e) ∙ told) (λ e. ap (is_of_placed m) (sym e) ∙ told) d

  new_stands : v.step.placed ≡ true → (k : ℕ) → IsDataOf k (place_at (shape_of m) v.step.word) → StandsAsFound n.words v.step
  new_stands flag k d =
      let here = subst (λ w. IsDataOf k (place_at (shape_of m) w)) v.there d in
      let same = data_stays k (flag_placed flag k here) here in
      let stands : content m v.word ≡ get_or n.words v.step.word 0 = ap (content m) (sym v.there) ∙ ap (λ ws. get_or ws v.step.word 0) (sym (words_same m n v same)) in
      record { before = v.before ∙ stands; after = v.after ∙ same ∙ stands }

  pub node_words-kept : (pass : ℕ) (p : PassView) → IsAt n pass p → DataStands (shape_of m) n.words p
  node_words-kept j u at segment c s i flag k d = ⊎_elim
      (λ old. old_stands old.0 old.1 old.2 old.3.0 old.3.1 s old.3.2 flag k d)
      (λ new. subst (λ t. t.placed ≡ true → IsDataOf k (place_at (shape_of m) t.word) → StandsAsFound n.words t) new (λ f. new_stands f k) flag d)
      (adds_step m.passes n.passes v.step v.from s (j, u, at, (segment, c, i)))
