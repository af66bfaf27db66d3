-- A logical heap of a store while a transaction is under way whose pass holds all lanes. It is what the entries leave that
-- the pass has seen, and what the transaction found first in words stands there.
use Rattle.std.proofs.Common.{◌≡◌, ◌++◌, ◌∷◌, ℕ, Bool, false, List, [], length, refl, sym, ap, ◌∙◌, subst}
use Rattle.std.specs.List.{All}
use Rattle.std.proofs.lemmas.List.{length-map}
use Rattle.md_words.specs.declared.shape.Shape.{Shape}
use Rattle.md_words.specs.Content.{value_of}
use Rattle.md_history.specs.declared.acts.Act.{Act}
use Rattle.md_history.specs.Front.{AllStay}
use Rattle.md_history.specs.FrontLaws.{all_stay-trans}
use Rattle.md_history.specs.History.{AllCommittedSound, IsResolution, kept_acts}
use Rattle.md_history.specs.ResolutionLaws.{narrows}
use Rattle.md_history.specs.State.{IsRight, State, run}
use Rattle.md_machine.specs.declared.attempt.HistoryEntry.{HistoryEntry}
use Rattle.md_machine.specs.declared.certificate.Certificate.{Certificate}
use Rattle.md_machine.specs.declared.certificate.TidyChange.{TidyChange}
use Rattle.md_machine.specs.Certified.{AllStandBy, TidiesStandBy, after_wholes}
use Rattle.md_machine.specs.LogicalHeap.{LogicalHeap}
use Rattle.md_machine.specs.Machine.{Machine}
use Rattle.md_machine.specs.Resolution.{Resolves, entries_of, least, logical_heap}
use Rattle.md_machine.specs.clauses.passes.Alone.{HoldsAll}
use Rattle.md_machine.proofs.chain.Agree.{SameValues, same_wholes}
use Rattle.md_machine.proofs.chain.Follow.{FollowsActs, wholes_follow}
use Rattle.md_machine.proofs.resolutions.Placing.{least_resolves}
use Rattle.md_rule.specs.Closing.{plain_words}
use Rattle.md_rule.specs.Views.{FieldView, PassState}
use Rattle.md_rule.proofs.Moves.{is_kept, is_meant, is_serial}
use Rattle.md_nbtc_law.specs.Course.{StandsNext}
use Rattle.md_nbtc_law.specs.Ending.{BeginsTransaction}
use Rattle.md_nbtc_law.specs.Going.{IsGoing}
use Rattle.md_nbtc_law.specs.Known.{IsHeapOf, IsLater, Known, found_by}
use Rattle.md_nbtc_law.specs.declared.seen.Seen.{Seen}
use Rattle.md_nbtc_law.specs.Seeing.{Gave}
use Rattle.md_nbtc_law.specs.State.{TxnState, seen_content, shape_in}
use Rattle.md_nbtc_law.proofs.attempts.Alone.{alone, found_same, gave_stands}
use Rattle.md_nbtc_law.proofs.operations.Courses.{all_push, stand_push}
use Rattle.md_nbtc_law.proofs.preparing.Heaps.{later_self}
use Rattle.md_store_law.specs.Store.{state_of_store, store}
use Rattle.md_store_law.specs.Laws.StoreLaws.{store_lawful}
use Rattle.md_store_counts.specs.Few.{StandFrom, certificate_acts}
use Rattle.md_store_counts.proofs.Appending.{all_by_itself, tidies_by_itself}
use Rattle.md_store_counts.proofs.Chaining.{itself}
use Rattle.md_store_bodies.specs.Counted.{MayFollow}
use Rattle.md_store_bodies.specs.Store.{HasAllLanes, IsPassOf, all_lanes, front_in, start_of}
use Rattle.md_store_bodies.proofs.AllLanes.{holds_all}

module _ (f : FieldView) (p : PassState) (of : IsPassOf f p) (all : HasAllLanes f p) (tag : ℕ) (start t : TxnState) (begins : BeginsTransaction p tag start)
    (later : IsLater start t) (field : t.field ≡ f) (cs : List Certificate) (going : IsGoing store t cs) where
  -- the pass holds all lanes still, and has seen what it had
  lanes_are : t.pass.view.lanes ≡ all_lanes f.origin.shape
  lanes_are = later.lanes ∙ begins.same.lanes ∙ all

  pub holds : HoldsAll (shape_in t) t.pass.view
  holds = subst (λ (x : FieldView). HoldsAll x.origin.shape t.pass.view) (sym field) (holds_all f.origin.shape t.pass.view lanes_are)

  seen_same : t.pass.view.seen ≡ p.view.seen
  seen_same = later.front.seen ∙ begins.seen

  abbrev m : Machine
  m = going.stands.machine

  abbrev choice : List Bool
  choice = least m.fates

  abbrev pub lone_heap : LogicalHeap
  lone_heap = logical_heap m choice

  resolves : Resolves m choice
  resolves = least_resolves m.history m.fates (is_meant store t.field.origin store_lawful m going.stands.admitted).fated

  pub is_heap : IsHeapOf store t lone_heap
  is_heap = record {
    machine = m;
    admitted = going.stands.admitted;
    pass = going.stands.pass;
    acts = going.stands.acts;
    choice = choice;
    resolves = resolves;
    is = refl;
  }

  -- what is known is so of it
  pub known_of : (P : TxnState → LogicalHeap → Type 0) → Known store t P → P t lone_heap
  known_of P known = known t (later_self t) going.prepared lone_heap is_heap

  pub heap_shape : lone_heap.words.shape ≡ shape_in t
  heap_shape = going.stands.admitted.shape

  pub heap_valid : store.valid lone_heap
  heap_valid = (is_meant store t.field.origin store_lawful m going.stands.admitted).valid choice resolves

  -- the machine's history is what the pass has seen
  history_is : m.history ≡ p.view.seen
  history_is = sym (alone store t going.prepared m going.stands.admitted going.stands.pass going.stands.acts holds).seen ∙ seen_same

  abbrev pub heap_state : State
  heap_state = state_of_store lone_heap.words

  state_is : heap_state ≡ run (start_of f) (kept_acts (front_in p).seen choice)
  state_is =
      let serial = is_serial store t.field.origin store_lawful m going.stands.admitted choice resolves in
      let opening = state_of_store (plain_words m.opening.shape m.opening.words) in
      serial.state
      ∙ ap (λ (es : List HistoryEntry). run opening (kept_acts (entries_of es) choice)) history_is
      ∙ ap (λ (s : Shape). run (state_of_store (plain_words s m.opening.words)) (kept_acts (front_in p).seen choice)) going.stands.admitted.shape
      ∙ ap (λ (ws : List ℕ). run (state_of_store (plain_words t.field.origin.shape ws)) (kept_acts (front_in p).seen choice)) going.stands.admitted.words
      ∙ ap (λ (x : FieldView). run (start_of x) (kept_acts (front_in p).seen choice)) field

  -- what the pass knew of the fates is so of the machine's
  known_stay : AllStay p.view.known m.fates
  known_stay =
      let fits = (is_kept store t.field.origin m going.stands.admitted).fronts going.stands.pass t.pass.view going.stands.acts.at in
      all_stay-trans p.view.known t.pass.view.known m.fates
      (all_stay-trans p.view.known start.pass.view.known t.pass.view.known begins.same.known later.front.known) fits.known

  known_each : length p.view.known ≡ length (entries_of p.view.seen)
  known_each = ((is_kept store f.origin of.stands.machine of.stands.admitted).fronts of.stands.pass p.view of.stands.acts.at).fated
      ∙ sym (length-map p.view.seen (λ (e : HistoryEntry). e.entry))

  -- so acts that are right in the heap may follow what the pass has seen
  pub may_follow : (made : List Act) → IsRight heap_state made → MayFollow f p made
  may_follow made right = record {
    choice = choice;
    resolves = narrows (entries_of p.view.seen) p.view.known m.fates choice known_each known_stay
        (subst (λ (es : List HistoryEntry). AllCommittedSound (entries_of es) m.fates) history_is (is_kept store t.field.origin m going.stands.admitted).sound.sound)
        (subst (λ (es : List HistoryEntry). IsResolution (entries_of es) m.fates choice) history_is resolves);
    right = subst (λ s. IsRight s made) state_is right;
  }

  pub heap_found : SameValues (found_by t lone_heap) lone_heap
  heap_found = found_same store t going.prepared m going.stands.admitted going.stands.pass going.stands.acts holds choice

  -- a word that isn't an own one has in it what was seen there
  pub heap_seen : (word : ℕ) (seen : Seen) → Gave t word seen → seen.own ≡ false → (found_by t lone_heap).words.value word ≡ value_of (seen_content seen)
  heap_seen word seen gave other = heap_found.value word
      ∙ gave_stands store t going.prepared m going.stands.admitted going.stands.pass going.stands.acts holds word seen gave other choice

  -- so the certificates of the ended operations stand in it, one after another
  all_stand : AllStandBy lone_heap lone_heap cs
  all_stand = all_by_itself (found_by t lone_heap) lone_heap heap_found cs (known_of (λ u h. AllStandBy (found_by u h) h cs) going.course.stand)

  pub stand_from : StandFrom lone_heap cs
  stand_from = record {
    valid = heap_valid;
    certifies = subst (λ s. All (store.certifies s) cs) (sym heap_shape) going.course.certifies;
    tidies = subst (λ s. All (λ c. All (store.tidies s) c.tidy) cs) (sym heap_shape) going.course.tidies;
    stand = all_stand;
  }

  -- and their acts are right in it
  follows : FollowsActs store lone_heap (certificate_acts cs) (after_wholes lone_heap cs)
  follows = wholes_follow store store_lawful lone_heap.words.shape lone_heap lone_heap (itself lone_heap) refl heap_valid cs
      stand_from.certifies stand_from.tidies all_stand

  pub acts_right : IsRight heap_state (certificate_acts cs)
  acts_right = follows.right

  -- a certificate that stands next in it stands after the others
  pub next_stands : (c : Certificate) → store.certifies (shape_in t) c → All (store.tidies (shape_in t)) c.tidy → StandsNext store cs c t lone_heap
      → StandFrom lone_heap (cs ++ c ∷ [])
  next_stands c certifies tidies next = record {
    valid = heap_valid;
    certifies = subst (λ s. All (store.certifies s) (cs ++ c ∷ [])) (sym heap_shape) (all_push (store.certifies (shape_in t)) cs c going.course.certifies certifies);
    tidies = subst (λ s. All (λ x. All (store.tidies s) x.tidy) (cs ++ c ∷ [])) (sym heap_shape)
        (all_push (λ x. All (store.tidies (shape_in t)) x.tidy) cs c going.course.tidies tidies);
    stand = all_by_itself (found_by t lone_heap) lone_heap heap_found (cs ++ c ∷ []) (stand_push (found_by t lone_heap) lone_heap cs c
        (known_of (λ u h. AllStandBy (found_by u h) h cs) going.course.stand) next.tidies next.stands);
  }

  -- and its act is right after theirs
  pub next_right : (c : Certificate) → StandFrom lone_heap (cs ++ c ∷ []) → IsRight heap_state (certificate_acts (cs ++ c ∷ []))
  next_right c stand = (wholes_follow store store_lawful lone_heap.words.shape lone_heap lone_heap (itself lone_heap) refl heap_valid (cs ++ c ∷ [])
      stand.certifies stand.tidies stand.stand).right

  -- tidy changes that stand next in it, as the transaction sees it, stand after the others
  pub tidies_stand : (ts : List TidyChange) → TidiesStandBy (after_wholes (found_by t lone_heap) cs) (after_wholes lone_heap cs) ts
      → TidiesStandBy (after_wholes lone_heap cs) (after_wholes lone_heap cs) ts
  tidies_stand ts stand = tidies_by_itself (after_wholes (found_by t lone_heap) cs) (after_wholes lone_heap cs)
      (same_wholes (found_by t lone_heap) lone_heap heap_found cs) ts stand
