-- What a transaction sees of a queue stays so over calls that keep what was given.
use Rattle.std.proofs.Common.{◌≡◌, ◌<◌, ◌∷◌, [], ℕ, List, sym, ap, ◌∙◌, subst, inl, inr, ⊎_elim}
use Rattle.std.proofs.lemmas.List.Elements.{Contains-append_cases, Contains-append_left, Contains-append_right}
use Rattle.std.specs.List.{Contains}
use Rattle.md_words.specs.Layout.{IsNode, address}
use Rattle.md_words.specs.Link.{linked_node}
use Rattle.md_words.specs.Place.{node_next, queue_head}
use Rattle.md_machine.specs.declared.certificate.Certificate.{Certificate}
use Rattle.md_machine.specs.declared.certificate.TidyChange.{TidyChange}
use Rattle.md_machine.specs.declared.step.Step.{Step}
use Rattle.md_machine.specs.Certified.{after_wholes, all_changes}
use Rattle.md_machine.specs.Meaning.{Meaning}
use Rattle.md_machine.specs.Trail.{SomeStepOf}
use Rattle.md_machine.specs.events.Exchange.{FoundNext}
use Rattle.md_machine.proofs.lists.Rising.{here, in_cons, in_none}
use Rattle.md_nbtc_law.specs.declared.seen.Seen.{Seen}
use Rattle.md_nbtc_law.specs.Calls.{GoesOn}
use Rattle.md_nbtc_law.specs.Going.{IsFoundThere}
use Rattle.md_nbtc_law.specs.Known.{IsLater}
use Rattle.md_nbtc_law.specs.Seeing.{Gave}
use Rattle.md_nbtc_law.specs.State.{OwnNode, TxnState, shape_in}
use Rattle.md_nbtc_law.proofs.preparing.Later.{known_later}
use Rattle.md_nbtc_law.proofs.structures.Growing.{tidied_later}
use Rattle.md_nbtc_law.proofs.structures.NodesKnown.{shape_later}
use Rattle.md_queue_law.specs.QueueShape.{IsOf}
use Rattle.md_queue.specs.Words.{head_at, next_at}
use Rattle.md_queue.specs.Working.{IsWorking, KnowsOf, NamesNode, SeesAt, SeesNext}
use Rattle.md_queue.proofs.Charging.{charged_on}

module _ (M : Meaning) (t u : TxnState) (later : IsLater t u) where
  -- a step of the pass stays one
  some_step_on : (P : Step → Type 0) → SomeStepOf t.pass.view P → SomeStepOf u.pass.view P
  some_step_on P some = ⊎_elim
      (λ past. (
        some.0,
        Contains-append_left u.pass.view.past (u.pass.view.trail ∷ []) some.0 (subst (λ l. Contains l some.0) (sym later.past) past),
        some.2,
      ))
      (λ last. ⊎_elim
      (λ same. (
        u.pass.view.trail,
        Contains-append_right u.pass.view.past (u.pass.view.trail ∷ []) u.pass.view.trail (here u.pass.view.trail []),
        (
          some.2.0,
          subst (λ l. Contains l some.2.0) (sym later.steps.is)
              (Contains-append_left t.pass.view.trail later.steps.rest some.2.0 (subst (λ l. Contains l some.2.0) (sym same) some.2.1)),
          some.2.2,
        ),
      ))
      (λ none. absurd (in_none some.0 none))
      (in_cons t.pass.view.trail [] some.0 last))
      (Contains-append_cases t.pass.view.past (t.pass.view.trail ∷ []) some.0 some.1)

  shape : shape_in u ≡ shape_in t
  shape = shape_later t u later

  -- the head's word
  pub shape_head : (queue : ℕ) → head_at u queue ≡ head_at t queue
  shape_head queue = ap (λ s. address s (queue_head queue)) shape

  found_next_on : (node value : ℕ) → FoundNext (shape_in t) t.pass.view node value → FoundNext (shape_in u) u.pass.view node value
  found_next_on node value found = subst (λ s. FoundNext s u.pass.view node value) (sym shape) (found.0, found.1, found.2, some_step_on _ found.3)

  own_on : (n : OwnNode) → Contains t.nodes n → Contains u.nodes n
  own_on n among = subst (λ l. Contains l n) (sym later.nodes.is) (Contains-append_left t.nodes later.nodes.rest n among)

  -- what was found first in a word, and what was seen there
  pub there_on : (word : ℕ) (seen : Seen) → IsFoundThere M t word seen → IsFoundThere M u word seen
  there_on word seen there other = ⊎_elim
      (λ own. inl (
        own.0,
        own_on own.0 own.1,
        (
          subst (λ s. IsNode s own.0.node) (sym shape) own.2.0,
          own.2.1 ∙ ap (λ s. address s (node_next own.0.node)) (sym shape),
        ),
        own.3,
      ))
      (λ met. inr (known_later M _ t u later met))
      (there other)

  pub sees_on : (word : ℕ) (seen : Seen) → SeesAt M t word seen → Gave u word seen → SeesAt M u word seen
  sees_on word seen sees gave = record { gave = gave; there = there_on word seen sees.there }

  module _ (cs : List Certificate) (queue : ℕ) where
    -- nodes of the queue
    pub of_on : (node : ℕ) → KnowsOf M t cs queue node → KnowsOf M u cs queue node
    of_on node known = known_later M (λ v h. IsOf (after_wholes h cs) queue node) t u later known

    pub names_on : (value : ℕ) → NamesNode M t cs queue value → NamesNode M u cs queue value
    names_on value names = record {
      exists = subst (λ s. IsNode s (linked_node value)) (sym shape) names.exists;
      placed = of_on (linked_node value) names.placed;
      is = names.is;
    }

    pub next_on : (node : ℕ) (next : Seen) → SeesNext M t cs queue node next → Gave u (next_at t node) next → SeesNext M u cs queue node next
    next_on node next sees gave = record {
      exists = subst (λ s. IsNode s node) (sym shape) sees.exists;
      placed = of_on node sees.placed;
      at = subst (λ s. SeesAt M u (address s (node_next node)) next) (sym shape) (sees_on (next_at t node) next sees.at gave);
      found = λ other. ⊎_elim
          (λ own. inl (own.0, own_on own.0 own.1, own.2))
          (λ found. inr (found_next_on node next.value found))
          (sees.found other);
    }

  -- the operation that is under way
  pub working_on : (queue : ℕ) (cs : List Certificate) (ts : List TidyChange) → GoesOn M t u → u.hand ≡ t.hand → IsWorking M t queue cs ts → IsWorking M u queue cs ts
  working_on queue cs ts on same w = record {
    operates = ap (λ h. h.operating) same ∙ w.operates;
    within = subst (λ s. queue < s.queues) (sym shape) w.within;
    going = on.going cs w.going;
    tidied = tidied_later M t cs ts w.tidied u later same;
    charged = charged_on t u later (all_changes cs) ts w.charged;
  }
