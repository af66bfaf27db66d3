-- The words of a new node of a pass stand as its steps left them, after every event.
use Rattle.std.proofs.Common.{◌≡◌, ◌≢◌, ℕ, ◌⊎◌, false, List, [], ◌∷◌, ◌++◌, set, sym, ap, ◌∙◌, subst, inl, inr, ⊎_elim, IsTrue}
use Rattle.std.specs.List.{Contains}
use Rattle.std.proofs.lemmas.Bool.{cases_eq, false≢true, true≢false}
use Rattle.std.proofs.lemmas.List.Elements.{Contains-append_left, Contains-push}
use Rattle.md_words.specs.Content.{count_of, is_even}
use Rattle.md_words.specs.Layout.{Exists, address}
use Rattle.md_words.specs.LayoutLaws.{IsField}
use Rattle.md_words.specs.Place.{Place, is_counted}
use Rattle.md_words.specs.PlaceAt.{place_at}
use Rattle.md_words.proofs.Owners.{own_node_exists}
use Rattle.md_words.proofs.Places.{place_at-address}
use Rattle.md_history.specs.Front.{AllStay}
use Rattle.md_machine.specs.declared.pass.PassView.{PassView}
use Rattle.md_machine.specs.declared.step.Step.{Step}
use Rattle.md_machine.proofs.clauses.passes.Alone.{left_else, left_now}
use Rattle.md_machine.proofs.clauses.passes.LanesApart.{At}
use Rattle.md_machine.proofs.clauses.nodes.OwnNodes.{one_node_owner}
use Rattle.md_machine.proofs.clauses.nodes.Placed.{wasnt_always}
use Rattle.md_machine.proofs.events.MoveFacts.{MoveFacts}
use Rattle.md_machine.proofs.events.Moves.{PassesGo, goes_on, is_joined, is_split}
use Rattle.md_machine.proofs.lists.At.{at_append, at_one, at_set}
use Rattle.md_machine.proofs.lists.Rising.{in_drop, in_take}
use Rattle.md_machine.specs.Machine.{Machine, content, shape_of}
use Rattle.md_machine.specs.Own.{HasNode, IsWordOf}
use Rattle.md_machine.specs.Resolution.{always_placed}
use Rattle.md_machine.specs.clauses.passes.Lanes.{LanesApart}
use Rattle.md_machine.specs.clauses.nodes.OwnWords.{IsPlain, LastLeft, NodesKeep, OwnWordsStand}
use Rattle.md_machine.specs.events.SplitJoin.{given_part, kept_part}

-- steps with one more, which left what stands now, or is on another word, which stays
last_push : (place : Place) (word was now : ℕ) (steps : List Step) (x : Step) → (x.word ≡ word → (now ≡ x.after) × (x.before ≡ was))
    → (x.word ≢ word → now ≡ was)
    → LastLeft place word was steps → LastLeft place word now (steps ++ x ∷ [])
last_push place word was now [] x here else h = ((λ e plain none. (here e).0), tt)
last_push place word was now (s ∷ steps) x here else h = (
  (λ e plain none.
      let old : was ≡ s.after = h.0 e plain (λ t c. none t (Contains-append_left steps (x ∷ []) t c)) in
      ⊎_elim
      (λ same. let at = here same in at.0 ∙ sym (none x (Contains-push steps x) same) ∙ at.1 ∙ old)
      (λ ne. else ne ∙ old)
      (cases_eq x.word word)),
  last_push place word was now steps x here else h.1,
)

-- the same steps, where the word stays, or held a descriptor
last_other : (place : Place) (word was now : ℕ) (steps : List Step) → (now ≡ was) ⊎ (IsPlain place was → ⊥)
    → LastLeft place word was steps → LastLeft place word now steps
last_other place word was now [] how h = tt
last_other place word was now (s ∷ steps) how h = (
  (λ e plain none. let old = h.0 e plain none in ⊎_elim (λ same. same ∙ old) (λ spot. absurd (spot (subst (IsPlain place) (sym old) plain))) how),
  last_other place word was now steps how h.1,
)

-- a word of a node that exists exists
word_exists : (m : Machine) (p : PassView) (node : ℕ) (place : Place) → HasNode (shape_of m) p node → IsWordOf node place
    → Exists (shape_of m) place
word_exists m p node place own is =
    let exists = own_node_exists (shape_of m) own.0 node own.2 in
    ⊎_elim (λ d. ⊎_elim (λ e. subst (Exists (shape_of m)) (sym e) exists) (λ e. subst (Exists (shape_of m)) (sym e) exists) d) (λ e. subst (Exists (shape_of m)) (sym e) exists) is

-- a counted word of a node with an odd count isn't plain
odd_not_plain : (node held : ℕ) (place : Place) → IsWordOf node place → IsTrue (is_counted place) → is_even (count_of held) ≡ false
    → IsPlain place held → ⊥
odd_not_plain node held place is counted odd plain = ⊎_elim
    (λ d. ⊎_elim (λ e. false≢true (subst (λ q. IsTrue (is_counted q)) e counted)) (λ e. false≢true (subst (λ q. IsTrue (is_counted q)) e counted)) d)
    (λ e. true≢false (sym (subst (λ q. IsPlain q held) e plain) ∙ odd))
    is

module _ (m n : Machine) (v : MoveFacts m n) (field : IsField (shape_of m) m.words) (apart : LanesApart (shape_of m) m.passes)
    (stay : AllStay m.fates n.fates) (was : OwnWordsStand m) where
  -- the pass after the step, with some of its lanes
  next_keeps : (q : PassView) → ((lane : ℕ) → Contains q.lanes lane → Contains v.p.lanes lane) → q.trail ≡ v.p.trail ++ v.step ∷ []
      → NodesKeep (shape_of m) n q
  next_keeps q fewer trail node own not place is =
      let word = address (shape_of m) place in
      subst (LastLeft place word (content n word)) (sym trail) (last_push place word (content m word) (content n word) v.p.trail v.step
      (λ e. (subst (λ w. content n w ≡ v.step.after) e (left_now m n v field), v.before ∙ ap (content m) (sym v.there ∙ e)))
      (left_else m n v field word)
      (was v.pass v.p v.at node (own.0, fewer own.0 own.1, own.2) (wasnt_always m n v stay node not) place is))

  -- a word of another pass's new node stays, or held a descriptor
  other_word : (j : ℕ) (u : PassView) → j ≢ v.pass → At m.passes j u → (node : ℕ) → HasNode (shape_of m) u node
      → always_placed m node ≡ false → (place : Place) → IsWordOf node place
      → (content n (address (shape_of m) place) ≡ content m (address (shape_of m) place)) ⊎ (IsPlain place (content m (address (shape_of m) place)) → ⊥)
  other_word j u ne at node own not place is =
      let word = address (shape_of m) place in
      ⊎_elim
      (λ e.
      let here : v.word ≡ word = sym v.there ∙ e in
      let placed : place_at (shape_of m) v.word ≡ place = ap (place_at (shape_of m)) here ∙ place_at-address (shape_of m) place (word_exists m u node place own is) in
      ⊎_elim
      (λ same. inl (subst (λ w. content n w ≡ v.step.after) e (left_now m n v field) ∙ v.after ∙ same ∙ ap (content m) here))
      (λ o. ⊎_elim
      (λ always. absurd (true≢false (sym always ∙ not)))
      (λ o'. ⊎_elim
      (λ mine. absurd (ne (one_node_owner (shape_of m) m.passes j v.pass u v.p node apart at v.at own mine)))
      (λ odd. inr (odd_not_plain node (content m word) place is (subst (λ q. IsTrue (is_counted q)) placed odd.0.1) (ap (λ w. is_even (count_of (content m w))) (sym here) ∙ odd.1)))
      o')
      o)
      (v.node_word node (subst (IsWordOf node) (sym placed) is)))
      (λ other. inl (left_else m n v field word other))
      (cases_eq v.step.word word)

  set_keeps : (q : PassView) → NodesKeep (shape_of m) n q → (j : ℕ) (u : PassView) → At (set m.passes v.pass q) j u
      → NodesKeep (shape_of m) n u
  set_keeps q keeps j u at = ⊎_elim
      (λ e. subst (NodesKeep (shape_of m) n) e.1 keeps)
      (λ o node own not place is. let before = wasnt_always m n v stay node not in
      last_other place (address (shape_of m) place) (content m (address (shape_of m) place)) (content n (address (shape_of m) place)) u.trail (other_word j u o.0 o.1 node own before place is) (was j u o.1 node own before place is))
      (at_set m.passes v.pass j q u at)

  keeps_on : PassesGo m n v.pass v.p v.step → (j : ℕ) (u : PassView) → At n.passes j u → NodesKeep (shape_of m) n u
  keeps_on (goes_on q is view) j u at =
      set_keeps q (next_keeps q (λ lane c. subst (λ lanes. Contains lanes lane) view.lanes c) view.trail) j u (subst (λ passes. At passes j u) is at)
  keeps_on (is_split _ step _ _ is) j u at = ⊎_elim
      (λ old. set_keeps (kept_part (shape_of m) v.p)
      (next_keeps (kept_part (shape_of m) v.p) (λ lane. in_take _ v.p.lanes lane) (ap (λ s. v.p.trail ++ s ∷ []) (sym step))) j u old)
      (λ end. subst (NodesKeep (shape_of m) n) (at_one (given_part (shape_of m) v.p) u end.0 end.2).1
      (next_keeps (given_part (shape_of m) v.p) (λ lane. in_drop _ v.p.lanes lane) (ap (λ s. v.p.trail ++ s ∷ []) (sym step))))
      (at_append _ _ j u (subst (λ passes. At passes j u) is at))
  keeps_on (is_joined other q _ _ _ _ _ is) j u at = ⊎_elim
      (λ e. subst (NodesKeep (shape_of m) n) e.1 (λ node own not place is. tt))
      (λ o. set_keeps _ (λ node own not place is. tt) j u o.1)
      (at_set _ other j _ u (subst (λ passes. At passes j u) is at))

  pub own_words-kept : (j : ℕ) (u : PassView) → At n.passes j u → NodesKeep (shape_of m) n u
  own_words-kept = keeps_on v.passes
