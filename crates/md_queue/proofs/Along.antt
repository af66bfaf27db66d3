-- A look along a queue: what each step leaves of it, and its certificate.
use Rattle.std.proofs.Common.{◌≡◌, ◌≢◌, ◌<◌, ◌^◌, ◌++◌, ◌⊎◌, ℕ, List, [], ◌∷◌, map, length, refl, sym, ap, subst, inl, inr}
use Rattle.std.proofs.lemmas.List.Elements.{All-append, All-cons, All-nil}
use Rattle.std.specs.List.{All}
use Rattle.md_words.specs.declared.shape.Shape.{Shape}
use Rattle.md_words.specs.Layout.{IsNode}
use Rattle.md_words.specs.Link.{linked_node}
use Rattle.md_history.specs.declared.acts.Op.TheVariants.{Line}
use Rattle.md_history.specs.declared.acts.Reply.TheVariants.{Line as TheLine}
use Rattle.md_history.specs.State.{line_of}
use Rattle.md_machine.specs.declared.certificate.Certificate.{Certificate}
use Rattle.md_machine.specs.declared.certificate.Fact.{Fact}
use Rattle.md_machine.specs.declared.certificate.TidyChange.{TidyChange}
use Rattle.md_machine.specs.declared.certificate.WordValue.{WordValue}
use Rattle.md_machine.specs.LogicalHeap.{Holds}
use Rattle.md_machine.specs.Meaning.{Lawful, Meaning}
use Rattle.md_nbtc_law.specs.declared.seen.Seen.{Seen}
use Rattle.md_nbtc_law.specs.Calls.{GoesOn}
use Rattle.md_nbtc_law.specs.Known.{IsLater, Known}
use Rattle.md_nbtc_law.specs.Seeing.{Looks}
use Rattle.md_nbtc_law.specs.State.{TxnState, shape_in}
use Rattle.md_nbtc_law.specs.Tidied.{tidied}
use Rattle.md_nbtc_law.proofs.preparing.Later.{known_later, later_over}
use Rattle.md_nbtc_law.proofs.structures.NodesKnown.{shape_later}
use Rattle.md_nbtc_law.proofs.structures.Noting.{HasNoted}
use Rattle.md_queue_law.specs.QueueCertificates.{Seen as Passed, LooksEnough, LooksToEnd, facts_along, has_next, has_value, head_is, last_seen, next_is}
use Rattle.md_queue_law.specs.QueueMeaning.{HasQueuesOf}
use Rattle.md_queue_law.specs.QueueShape.{link}
use Rattle.md_queue_law.proofs.Facts.{look_goes_on}
use Rattle.md_queue.specs.Along.{HasLooked, HasLookedToEnd}
use Rattle.md_queue.specs.Words.{head_at, next_at}
use Rattle.md_queue.specs.Working.{IsKnownAs, IsWorking, NamesNode, SeesNext}
use Rattle.md_queue.proofs.Among.{AnswersBy}
use Rattle.md_queue.proofs.Firsts.{SeesHead, next_holds}
use Rattle.md_queue.proofs.Looking.{head_named, next_looked, next_named}
use Rattle.md_queue.proofs.Passing.{names_on, of_on, working_on}
use Rattle.md_queue.proofs.Recording.{may_answer_reading, noted_recorded, recorded_on}

module _ (M : Meaning) (lawful : Lawful M) (queues : HasQueuesOf M) (t : TxnState) (queue : ℕ) (cs : List Certificate) where
  -- the look begins with a note of the head
  pub head_passed : (head : Seen) → SeesHead M t queue cs head → (u : TxnState) → GoesOn M t u → head.count < 2 ^ 32 → HasNoted t u (head_at t queue) head
      → HasLooked M u queue cs (linked_node head.value) (linked_node head.value) []
  head_passed head s u on fits noted =
      let ts = s.changes in
      let shape = shape_later t u on.later in
      let named = head_named M lawful queues t queue cs ts s.working head s.head_sees in
      record {
        changes = ts;
        working = working_on M t u on.later queue cs ts on noted.hand s.working;
        last = refl;
        exists = subst (λ (x : Shape). IsNode x (linked_node head.value)) (sym shape) named.exists;
        placed = of_on M t u on.later cs queue (linked_node head.value) named.placed;
        head_noted = subst (λ v. IsKnownAs M u cs ts (head_is (shape_in u) queue v)) named.is
            (subst (λ (x : Shape). IsKnownAs M u cs ts (head_is x queue head.value)) (sym shape)
            (noted_recorded M lawful t queue cs ts s.working u on.later (head_at t queue) head s.head_sees fits noted));
        along = λ v later prepared h of. All-nil (Holds (tidied h cs ts));
      }

  module _ (dummy node : ℕ) (seen : List Passed) (s : HasLooked M t queue cs dummy node seen) where
    abbrev ts : List TidyChange
    ts = s.changes

    -- the look stays where it came to
    pub looked_on : (v : TxnState) → IsLater t v → IsWorking M v queue cs s.changes → HasLooked M v queue cs dummy node seen
    looked_on v later working = record {
      changes = ts;
      working = working;
      last = s.last;
      exists = subst (λ (x : Shape). IsNode x node) (sym (shape_later t v later)) s.exists;
      placed = of_on M t v later cs queue node s.placed;
      head_noted = recorded_on M t v later working.going.prepared cs ts (head_is (shape_in v) queue (link dummy))
          (subst (λ (x : Shape). IsKnownAs M t cs ts (head_is x queue (link dummy))) (sym (shape_later t v later)) s.head_noted);
      along = known_later M (λ u h. All (Holds (tidied h cs ts)) (facts_along queue dummy seen)) t v later s.along;
    }

    -- a look at the next word
    module _ (u : TxnState) (on : GoesOn M t u) (same : u ≡ record t { pass = u.pass }) (next : Seen) (looks : Looks M t u (next_at t node) next) where
      pub next_looked_at : SeesNext M u cs queue node next
      next_looked_at = next_looked M lawful queues t queue cs ts s.working u on next node s.placed looks same

      pub working_there : IsWorking M u queue cs s.changes
      working_there = working_on M t u on.later queue cs ts on (ap (λ x. x.hand) same) s.working

      pub next_names : next.value ≢ 0 → NamesNode M u cs queue next.value
      next_names = next_named M lawful queues u queue cs ts working_there node next next_looked_at

      -- there the look ends, after a note of it
      pub ended : (v : TxnState) → GoesOn M u v → next.count < 2 ^ 32 → HasNoted u v (next_at u node) next → next.value ≡ 0 → HasLookedToEnd M v queue cs dummy node seen
      unfolding looked_on working_there
      ended v over fits noted zero = record {
        looked = looked_on v (later_over t u v on.later over.later) (working_on M u v over.later queue cs ts over noted.hand working_there);
        end_noted = subst (λ x. IsKnownAs M v cs ts (next_is (shape_in v) node x)) zero
            (subst (λ (x : Shape). IsKnownAs M v cs ts (next_is x node next.value)) (sym (shape_later u v over.later))
            (noted_recorded M lawful u queue cs ts working_there v over.later (next_at u node) next next_looked_at.at fits noted));
      }

      -- or it comes to one more node
      pub further : next.value ≢ 0 → (v : TxnState) → GoesOn M u v → v ≡ record u { pass = v.pass } → (value : ℕ) → Known M v (λ x h. h.words.value_of_node (linked_node next.value) ≡ value)
          → HasLooked M v queue cs dummy (linked_node next.value) (seen ++ record { node = linked_node next.value; value = value } ∷ [])
      unfolding looked_on working_there
      further some v over same_again value is =
          let first = linked_node next.value in
          let p : Passed = record { node = first; value = value } in
          let later = later_over t u v on.later over.later in
          let working = working_on M u v over.later queue cs ts over (ap (λ x. x.hand) same_again) working_there in
          let named = names_on M u v over.later cs queue next.value (next_names some) in
          let l = looked_on v later working in
          let more = look_goes_on queue dummy seen p in
          let two : List Fact = has_next queue (last_seen dummy seen) (link first) ∷ has_value queue first value ∷ [] in
          record {
            changes = ts;
            working = working;
            last = sym more.1;
            exists = named.exists;
            placed = named.placed;
            head_noted = l.head_noted;
            along = λ x over_v prepared h of. subst (All (Holds (tidied h cs ts))) (sym more.0)
                (All-append (Holds (tidied h cs ts)) (facts_along queue dummy seen) two
                (known_later M (λ y k. All (Holds (tidied k cs ts)) (facts_along queue dummy seen)) t v later s.along x over_v prepared h of)
                (subst (λ n. All (Holds (tidied h cs ts)) (has_next queue n (link first) ∷ has_value queue first value ∷ [])) s.last
                (next_holds M lawful queues u v over.later queue cs ts working_there working node next next_looked_at some value is x over_v prepared h of)));
          }

    -- the certificate, with what is recorded at the end
    module _ (ending : List WordValue) (n : ℕ) (ends : LooksEnough n seen ending ⊎ LooksToEnd (shape_in t) dummy n seen ending) (noted : All (IsKnownAs M t cs ts) ending) where
      answers : AnswersBy M t cs (Line queue n) (TheLine (line_of (map (λ (p : Passed). p.value) seen))) (head_at t queue ∷ map (λ (r : WordValue). r.word) ending)
      answers =
          let head = head_is (shape_in t) queue (link dummy) in
          may_answer_reading M queues t queue cs ts s.working (Line queue n) (TheLine (line_of (map (λ (p : Passed). p.value) seen))) (head ∷ ending) (facts_along queue dummy seen) (
            s.working.within,
            record { dummy = dummy; seen = seen; ending = ending; ends = ends; reply = refl; recorded = refl; changes = refl; nodes = refl; facts = refl },
          )
          (All-cons (IsKnownAs M t cs ts) head ending s.head_noted noted)
          s.along

    -- as many values as were asked for
    pub looked_enough : AnswersBy M t cs (Line queue (length seen)) (TheLine (line_of (map (λ (p : Passed). p.value) seen))) (head_at t queue ∷ [])
    looked_enough = answers [] (length seen) (inl (record { all = refl; is = refl })) (All-nil (IsKnownAs M t cs ts))

  -- or all that there are
  pub looked_to_end : (dummy node : ℕ) (seen : List Passed) (s : HasLookedToEnd M t queue cs dummy node seen) (n : ℕ) → length seen < n
      → AnswersBy M t cs (Line queue n) (TheLine (line_of (map (λ (p : Passed). p.value) seen))) (head_at t queue ∷ next_at t node ∷ [])
  looked_to_end dummy node seen s n fewer =
      let l = s.looked in
      let end = next_is (shape_in t) (last_seen dummy seen) 0 in
      subst (λ x. AnswersBy M t cs (Line queue n) (TheLine (line_of (map (λ (p : Passed). p.value) seen))) (head_at t queue ∷ next_at t x ∷ [])) (sym l.last)
      (answers dummy node seen l (end ∷ []) n (inr (record { fewer = fewer; is = refl }))
      (All-cons (IsKnownAs M t cs l.changes) end []
      (subst (λ x. IsKnownAs M t cs l.changes (next_is (shape_in t) x 0)) l.last s.end_noted) (All-nil (IsKnownAs M t cs l.changes))))
