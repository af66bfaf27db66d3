-- An operation that was refused by a limit, while its pass holds all lanes, counts with the acts before it more than the
-- limits allow.
use Rattle.std.proofs.Common.{◌≡◌, ◌≢◌, ◌≤◌, ◌<◌, ◌+◌, ◌++◌, ◌∙◌, ℕ, List, [], ◌∷◌, map, length, take, refl, sym, ap, subst, ⊎_elim, arith}
use Rattle.std.specs.List.{All, AllPairs, Contains}
use Rattle.std.proofs.lemmas.List.{length-append, length-map, length-take, map-append}
use Rattle.md_words.specs.declared.limits.TheConstants.{SET}
use Rattle.md_history.specs.declared.acts.Act.{Act}
use Rattle.md_history.specs.declared.acts.Op.{Op}
use Rattle.md_history.specs.declared.acts.Op.TheVariants.{Dequeue, Enqueue, Front, Get, Insert, Line, Put, Remove}
use Rattle.md_history.specs.Act.{act_of}
use Rattle.md_history.specs.Calls.{MayReply}
use Rattle.md_history.specs.Counts.{reads, writes}
use Rattle.md_history.specs.CountLaws.{writes-prefix}
use Rattle.md_history.specs.State.{IsRight, State, after, answer, queue_at, run}
use Rattle.md_machine.specs.declared.certificate.Certificate.{Certificate}
use Rattle.md_machine.specs.LogicalHeap.{LogicalHeap}
use Rattle.md_machine.proofs.lists.Differ.{pairs_append}
use Rattle.md_machine.proofs.lists.Rising.{in_cons, in_map, in_none}
use Rattle.md_rule.specs.Views.{FieldView, PassState}
use Rattle.md_store_counts.specs.Few.{AllCharged, RecordsOne, StandFrom, certificate_acts, changed_words, recorded_words}
use Rattle.md_store_counts.proofs.Recording.{recorded_are_few}
use Rattle.md_store_counts.proofs.Writing.{written_are_few}
use Rattle.md_store_bodies.specs.Counted.{MayFollow, MayFollowOn, NeedMore, ReadMore, WriteMore}

-- what an operation answers is a reply of its kind
pub answer_may : (s : State) (op : Op) → MayReply op (answer s op)
answer_may s (Get m k) = tt
answer_may s (Insert m k v) = tt
answer_may s (Remove m k) = tt
answer_may s (Put m k v) = tt
answer_may s (Enqueue q v) = tt
answer_may s (Dequeue q) = tt
answer_may s (Front q) = tt
answer_may s (Line q n) = record {
  shown = take n (queue_at s q);
  few = (let is = length-take n (queue_at s q) in omega (arith, is));
  is = refl;
}

-- right acts are right with one more operation and what it answers
right_push : (s : State) (acts : List Act) (op : Op) → IsRight s acts → IsRight s (acts ++ act_of op (answer (run s acts) op) ∷ [])
right_push s [] op right = (refl, tt)
right_push s (a ∷ acts) op right = (right.0, right_push (after s a.op) acts op right.1)

right_last : (s : State) (acts : List Act) (a : Act) → IsRight s (acts ++ a ∷ []) → a.reply ≡ answer (run s acts) a.op
right_last s [] a right = right.0
right_last s (b ∷ acts) a right = right_last (after s b.op) acts a right.1

acts_push : (cs : List Certificate) (c : Certificate) → certificate_acts (cs ++ c ∷ []) ≡ certificate_acts cs ++ act_of c.op c.reply ∷ []
acts_push cs c = map-append (λ (x : Certificate). act_of x.op x.reply) cs (c ∷ [])

-- different words and another one are different, and one more
pub one_more_word : {A : Type 0} (f : A → ℕ) (xs : List A) (word : ℕ) → AllPairs ◌≢◌ (map f xs) → ((x : A) → Contains xs x → f x ≢ word)
    → AllPairs ◌≢◌ (map f xs ++ word ∷ []) × (length (map f xs ++ word ∷ []) ≡ length xs + 1)
one_more_word {A} f xs word differ other = (
  pairs_append ◌≢◌ (map f xs) (word ∷ []) differ (λ i j d before within. absurd (omega (arith, before, within)))
      (λ a b among last. ⊎_elim
      (λ is. other_in xs a among (sym is) other)
      (λ none. absurd (in_none b none))
      (in_cons word [] b last)),
  length-append (map f xs) (word ∷ []) ∙ ap (λ n. n + 1) (length-map xs f),
)
  where
    other_in : (ys : List A) (a : ℕ) → Contains (map f ys) a → {b : ℕ} → b ≡ word → ((x : A) → Contains ys x → f x ≢ word) → a ≢ b
    other_in ys a among {b} is apart = let x = in_map f ys a among in λ same. apart x.0 x.1 (x.2 ∙ same ∙ is)

-- of a state in which right acts may follow what a pass has seen
module _ (f : FieldView) (p : PassState) (s : State) (follow : (made : List Act) → IsRight s made → MayFollow f p made) where
  module _ (acts : List Act) (right : IsRight s acts) (op : Op) where
    abbrev pub asked : Act
    asked = act_of op (answer (run s acts) op)

    goes_on : (Such : List Act → Type 0) → Such (acts ++ asked ∷ []) → MayFollowOn f p acts op Such
    goes_on Such is = record {
      reply = answer (run s acts) op;
      may = answer_may (run s acts) op;
      such = (follow (acts ++ asked ∷ []) (right_push s acts op right), is);
    }

    pub more_reads : SET < reads (acts ++ asked ∷ []) → MayFollowOn f p acts op ReadMore
    more_reads most = goes_on ReadMore most

    pub more_writes : SET < writes (acts ++ asked ∷ []) → MayFollowOn f p acts op WriteMore
    more_writes most = goes_on WriteMore most

    -- so many words by the earlier acts alone are enough
    pub more_writes_before : SET + 1 ≤ writes acts → MayFollowOn f p acts op WriteMore
    more_writes_before most = more_writes (let more = writes-prefix acts (asked ∷ []) in omega (arith, most, more))

    pub more_nodes : NeedMore p (acts ++ asked ∷ []) → MayFollowOn f p acts op (NeedMore p)
    more_nodes most = goes_on (NeedMore p) most

  -- a certificate that stands after others tells what its operation answers
  module _ (cs : List Certificate) (c : Certificate) (right : IsRight s (certificate_acts (cs ++ c ∷ []))) where
    pub replies : c.reply ≡ answer (run s (certificate_acts cs)) c.op
    replies = right_last s (certificate_acts cs) (act_of c.op c.reply) (subst (IsRight s) (acts_push cs c) right)

    pub asked_is : certificate_acts (cs ++ c ∷ []) ≡ certificate_acts cs ++ act_of c.op (answer (run s (certificate_acts cs)) c.op) ∷ []
    asked_is = acts_push cs c ∙ ap (λ reply. certificate_acts cs ++ act_of c.op reply ∷ []) replies

    module _ (before : IsRight s (certificate_acts cs)) (h : LogicalHeap) (stand : StandFrom h (cs ++ c ∷ [])) (few : All RecordsOne (cs ++ c ∷ []))
        (words : List ℕ) (differ : AllPairs ◌≢◌ words) (many : length words ≡ SET + 1) where
      -- that it and the others record so many words
      pub recorded_exceed : All (Contains (recorded_words (cs ++ c ∷ []))) words
          → MayFollowOn f p (certificate_acts cs) c.op ReadMore
      recorded_exceed all =
          let least = recorded_are_few h (cs ++ c ∷ []) stand few words differ all in
          more_reads (certificate_acts cs) before c.op (subst (λ acts. SET < reads acts) asked_is (omega (arith, many, least)))

      -- or change so many
      pub changed_exceed : AllCharged h.words.shape [] (cs ++ c ∷ []) → All (Contains (changed_words (cs ++ c ∷ []))) words
          → MayFollowOn f p (certificate_acts cs) c.op WriteMore
      changed_exceed charged all =
          let least = written_are_few h (cs ++ c ∷ []) stand few charged words differ all in
          more_writes (certificate_acts cs) before c.op (subst (λ acts. SET < writes acts) asked_is (omega (arith, many, least)))
