-- A pass that holds all lanes finds in a word what its last segment left there last: at each of its steps, after every event.
use Rattle.std.proofs.Common.{◌≡◌, ◌≢◌, ◌⊎◌, ℕ, ◌++◌, ◌∷◌, true, false, List, [], refl, sym, ap, ◌∙◌, subst, ⊎_elim, append-nil, append_assoc}
use Rattle.std.specs.List.{All, Contains}
use Rattle.std.proofs.lemmas.Bool.{cases_eq, true≢false}
use Rattle.std.proofs.lemmas.List.Elements.{All-cons, All-head, All-nil, All-tail, Contains-append_cases}
use Rattle.md_words.specs.declared.shape.Shape.{Shape}
use Rattle.md_words.specs.Content.{count_of, is_even}
use Rattle.md_machine.specs.declared.opening.Opening.{Opening}
use Rattle.md_machine.specs.declared.step.Step.{Step}
use Rattle.md_machine.specs.declared.pass.PassView.{PassView}
use Rattle.md_machine.specs.Event.{Acts, Does, Event, Runs, first_pass, opened}
use Rattle.md_machine.specs.Machine.{Machine, content, shape_of}
use Rattle.md_machine.specs.Meaning.{Meaning}
use Rattle.md_machine.specs.Moved.{TakesOther, holds_other}
use Rattle.md_machine.specs.clauses.passes.Alone.{HoldersAreAlone, HoldsAll, LastStand}
use Rattle.md_machine.specs.events.SplitJoin.{given_part, kept_part}
use Rattle.md_rule.proofs.Moves.{is_kept, one_more}
use Rattle.md_machine.proofs.events.MoveFacts.{MoveFacts}
use Rattle.md_machine.proofs.events.Moves.{PassesGo, does_move, goes_on, is_joined, is_split}
use Rattle.md_machine.proofs.events.Tell.{tell}
use Rattle.md_machine.proofs.clauses.passes.LanesApart.{At}
use Rattle.md_machine.proofs.lists.At.{at_append, at_one, at_set}
use Rattle.md_machine.proofs.lists.Rising.{in_cons, in_drop, in_none, in_take}
use Rattle.std.specs.Prelude.{set}
use Rattle.md_rule.specs.Admitted.{Admitted}
use Rattle.md_rule.specs.Views.{Origin}

-- the last of some steps on a word left this there
abbrev pub LastHeld : List Step → (word held : ℕ) → Type 0
LastHeld [] word held = Unit {0}
LastHeld (s ∷ steps) word held = (s.word ≡ word → ((t : Step) → Contains steps t → t.word ≢ word) → held ≡ s.after) × LastHeld steps word held

-- each of some steps found in its word what the last one before it left there
abbrev pub ChainsFrom : (earlier steps : List Step) → Type 0
ChainsFrom earlier [] = Unit {0}
ChainsFrom earlier (s ∷ steps) = LastHeld earlier s.word s.before × ChainsFrom (earlier ++ s ∷ []) steps

abbrev pub HoldersChain : Machine → Type 0
HoldersChain m = (pass : ℕ) (p : PassView) → At m.passes pass p → HoldsAll (shape_of m) p → ChainsFrom [] p.trail

pub held_of : (m : Machine) (steps : List Step) (word held : ℕ) → content m word ≡ held → LastStand m steps → LastHeld steps word held
held_of m [] word held is last = tt
held_of m (s ∷ steps) word held is last = (
  (λ there none. sym is ∙ ap (content m) (sym there) ∙ last.0 (λ t c e. none t c (e ∙ there))),
  held_of m steps word held is last.1,
)

pub chain_push : (earlier steps : List Step) (s : Step) → ChainsFrom earlier steps → LastHeld (earlier ++ steps) s.word s.before → ChainsFrom earlier (steps ++ s ∷ [])
chain_push earlier [] s chain last = (subst (λ l. LastHeld l s.word s.before) (append-nil earlier) last, tt)
chain_push earlier (x ∷ xs) s chain last = (
  chain.0,
  chain_push (earlier ++ x ∷ []) xs s chain.1 (subst (λ l. LastHeld l s.word s.before) (sym (append_assoc earlier (x ∷ []) xs)) last),
)

module _ (m n : Machine) (v : MoveFacts m n) (alone : HoldersAreAlone m) (was : HoldersChain m) where
  next_chains : (q : PassView) → ((lane : ℕ) → Contains q.lanes lane → Contains v.p.lanes lane) → q.trail ≡ v.p.trail ++ v.step ∷ []
      → HoldsAll (shape_of m) q → ChainsFrom [] q.trail
  next_chains q fewer trail all =
      let before : HoldsAll (shape_of m) v.p = λ lane exists. fewer lane (all lane exists) in
      subst (ChainsFrom []) (sym trail) (chain_push [] v.p.trail v.step (was v.pass v.p v.at before)
      (held_of m v.p.trail v.step.word v.step.before (ap (content m) v.there ∙ sym v.before) (alone v.pass v.p v.at before).words))

  set_chains : (q : PassView) → (HoldsAll (shape_of m) q → ChainsFrom [] q.trail) → (j : ℕ) (u : PassView) → At (set m.passes v.pass q) j u
      → HoldsAll (shape_of m) u → ChainsFrom [] u.trail
  set_chains q chains j u at = ⊎_elim
      (λ e. subst (λ (w : PassView). HoldsAll (shape_of m) w → ChainsFrom [] w.trail) e.1 chains)
      (λ o all. was j u o.1 all)
      (at_set m.passes v.pass j q u at)

  chains_on : PassesGo m n v.pass v.p v.step → (j : ℕ) (u : PassView) → At n.passes j u → HoldsAll (shape_of m) u → ChainsFrom [] u.trail
  chains_on (goes_on q is view) j u at =
      set_chains q (next_chains q (λ lane c. subst (λ lanes. Contains lanes lane) view.lanes c) view.trail) j u (subst (λ passes. At passes j u) is at)
  chains_on (is_split _ step _ _ is) j u at = ⊎_elim
      (λ old. set_chains (kept_part (shape_of m) v.p)
      (next_chains (kept_part (shape_of m) v.p) (λ lane. in_take _ v.p.lanes lane) (ap (λ s. v.p.trail ++ s ∷ []) (sym step))) j u old)
      (λ end. subst (λ (w : PassView). HoldsAll (shape_of m) w → ChainsFrom [] w.trail) (at_one (given_part (shape_of m) v.p) u end.0 end.2).1
      (next_chains (given_part (shape_of m) v.p) (λ lane. in_drop _ v.p.lanes lane) (ap (λ s. v.p.trail ++ s ∷ []) (sym step))))
      (at_append _ _ j u (subst (λ passes. At passes j u) is at))
  chains_on (is_joined other q _ _ _ _ _ is) j u at = ⊎_elim
      (λ e. subst (λ (w : PassView). HoldsAll (shape_of m) w → ChainsFrom [] w.trail) e.1 (λ _. tt))
      (λ o. set_chains _ (λ _. tt) j u o.1)
      (at_set _ other j _ u (subst (λ passes. At passes j u) is at))

  chains_kept : HoldersChain n
  chains_kept j u at all = chains_on v.passes j u at (subst (λ (o : Opening). HoldsAll o.shape u) v.opening all)

module _ (M : Meaning) (o : Origin) where
  record SoFar (m : Machine) : Type 0 where
    admitted : Admitted M o m
    chains : HoldersChain m

  does_chain : (m n : Machine) (e : Event) → SoFar m → Does M m e n → SoFar n
  does_chain m n e was does =
      let k = is_kept M o m was.admitted in record {
        admitted = one_more M o m n e was.admitted does;
        chains = chains_kept m n (tell M m n k.formats k.lanes k.hands (does_move M m n e k.formats.base does)) k.alone was.chains;
      }

  runs_chain : (events : List Event) (m n : Machine) → SoFar m → Runs M m events n → SoFar n
  runs_chain [] m n was runs = subst SoFar (sym runs) was
  runs_chain (e ∷ es) m n was runs = runs_chain es runs.0 n (⊎_elim (does_chain m runs.0 e was) (λ still. subst SoFar (sym still.1) was) runs.1) runs.2

  -- so it is of a pass that acts in a machine of a field
  pub chained : (m : Machine) → Admitted M o m → (pass : ℕ) (p : PassView) → Acts m pass p → HoldsAll o.shape p → ChainsFrom [] p.trail
  chained m admitted pass p acts all =
      let first : SoFar (opened m.opening) = record {
        admitted = record { shape = admitted.shape; words = admitted.words; opens = admitted.opens; events = []; runs = refl };
        chains = λ j q at _. subst (λ (w : PassView). ChainsFrom [] w.trail) (at_one (first_pass m.opening.shape) q j at).1 tt;
      } in
      (runs_chain admitted.events (opened m.opening) m first admitted.runs).chains pass p acts.at
      (subst (λ (s : Shape). HoldsAll s p) (sym admitted.shape) all)

-- the later steps of a chain
pub chain_later : (before earlier steps : List Step) → ChainsFrom before (earlier ++ steps) → ChainsFrom (before ++ earlier) steps
chain_later before [] steps chain = subst (λ l. ChainsFrom l steps) (sym (append-nil before)) chain
chain_later before (s ∷ earlier) steps chain = subst (λ l. ChainsFrom l steps) (append_assoc before (s ∷ []) earlier) (chain_later (before ++ s ∷ []) earlier steps chain.1)

-- the last step on a word tells what was held
pub last_at : (earlier : List Step) (s : Step) (word held : ℕ) → s.word ≡ word → LastHeld (earlier ++ s ∷ []) word held → held ≡ s.after
last_at [] s word held there last = last.0 there (λ t c. absurd (in_none t c))
last_at (x ∷ earlier) s word held there last = last_at earlier s word held there last.1

-- a step on another word tells nothing of it
before_last : (earlier : List Step) (s : Step) (word held : ℕ) → s.word ≢ word → LastHeld (earlier ++ s ∷ []) word held → LastHeld earlier word held
before_last [] s word held apart last = tt
before_last (x ∷ earlier) s word held apart last = (
  (λ there none. last.0 there (λ t c. ⊎_elim (none t) (λ one. apart_of t one) (Contains-append_cases earlier (s ∷ []) t c))),
  before_last earlier s word held apart last.1,
)
  where
    apart_of : (t : Step) → Contains (s ∷ []) t → t.word ≢ word
    apart_of t one e = ⊎_elim (λ same. apart (ap (λ (y : Step). y.word) same ∙ e)) (λ none. absurd (in_none t none)) (in_cons s [] t one)

even_none : (desc held : ℕ) → is_even (count_of held) ≡ true → holds_other desc held ≡ false
even_none desc held even = rw even refl

-- what was left in a word, and was changed since at most by taking another's descriptor out of an even one, is what each later
-- step on the word found and left
pub stays_held : (desc word held : ℕ) → (earlier later : List Step) → ((x : ℕ) → LastHeld earlier word x → x ≡ held) → ChainsFrom earlier later
    → All (λ s. s.word ≡ word → (s.before ≡ s.after) ⊎ TakesOther desc held s) later → All (λ s. s.word ≡ word → (s.before ≡ held) × (s.after ≡ held)) later
stays_held desc word held earlier [] last chain unchanged = All-nil _
stays_held desc word held earlier (s ∷ later) last chain unchanged = ⊎_elim
    (λ there. on_it there (stays_held desc word held (earlier ++ s ∷ []) later (λ x l. last_at earlier s word x there l ∙ left_of there) chain.1 rest))
    (λ other. All-cons Held s later (λ there. absurd (other there))
    (stays_held desc word held (earlier ++ s ∷ []) later (λ x l. last x (before_last earlier s word x other l)) chain.1 rest))
    (cases_eq s.word word)
  where
    Same : Step → Type 0
    Same t = t.word ≡ word → (t.before ≡ t.after) ⊎ TakesOther desc held t

    Held : Step → Type 0
    Held t = t.word ≡ word → (t.before ≡ held) × (t.after ≡ held)

    rest : All Same later
    rest = All-tail Same s later unchanged

    found_of : s.word ≡ word → s.before ≡ held
    found_of there = last s.before (subst (λ w. LastHeld earlier w s.before) there chain.0)

    left_of : s.word ≡ word → s.after ≡ held
    left_of there = ⊎_elim (λ same. sym same ∙ found_of there)
        (λ t. absurd (true≢false (sym t.other ∙ ap (holds_other desc) (found_of there) ∙ even_none desc held t.even)))
        (All-head Same s later unchanged there)

    on_it : s.word ≡ word → All Held later → All Held (s ∷ later)
    on_it there more = All-cons Held s later (λ _. (found_of there, left_of there)) more
