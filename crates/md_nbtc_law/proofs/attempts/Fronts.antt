-- An attempt as its pass's front tells it, from before it began: it was committed, with its entry alone and last, or stopped.
use Rattle.std.proofs.Common.{◌≡◌, ◌==◌, ◌||◌, ◌++◌, ◌∷◌, ℕ, Bool, true, false, not, List, [], length, map, drop, refl, sym, ap, ◌∙◌, subst, ⊎_elim, append_assoc, arith}
use Rattle.std.proofs.lemmas.Bool.{cases_Bool, cond-false, cond-true, true≢false}
use Rattle.std.proofs.lemmas.List.{append-nil, length-append, length-map, map-append, same_from_push}
use Rattle.std.proofs.lemmas.List.Elements.{filter-append}
use Rattle.std.specs.List.{All, Contains, zip}
use Rattle.md_words.specs.declared.shape.Shape.{Shape}
use Rattle.md_history.specs.Attempt.{Commits, NoneOrAborted, Stops}
use Rattle.md_history.specs.Front.{AllStay, IsPrefix, of_lane, own_after}
use Rattle.md_history.specs.FrontLaws.{all_stay-trans}
use Rattle.md_history.specs.declared.acts.Act.{Act}
use Rattle.md_history.specs.declared.entries.Entry.{Entry}
use Rattle.md_history.specs.declared.entries.Fate.{Fate}
use Rattle.md_history.specs.declared.entries.Fate.TheVariants.{Aborted, Committed}
use Rattle.md_machine.specs.declared.attempt.AttemptId.{AttemptId}
use Rattle.md_machine.specs.declared.attempt.Hand.{Hand}
use Rattle.md_machine.specs.declared.attempt.HistoryEntry.{HistoryEntry}
use Rattle.md_machine.specs.Legal.{begun_of, front_of}
use Rattle.md_machine.specs.Machine.{same_attempt, was_begun}
use Rattle.md_machine.specs.Meaning.{Meaning}
use Rattle.md_machine.specs.Resolution.{entries_of}
use Rattle.md_machine.specs.events.Mark.{without}
use Rattle.md_machine.proofs.events.Attempts.{same_from}
use Rattle.md_rule.specs.Views.{Origin, PassState}
use Rattle.md_rule.proofs.Moves.{is_kept}
use Rattle.md_help.specs.After.{StandsInField}
use Rattle.md_nbtc_law.specs.Ending.{Aborts, BeginsTransaction, BeginsNot, CommitsTransaction, HasEntry, LastFate, PutDown, Readies, Stopped}
use Rattle.md_nbtc_law.specs.Known.{IsLater}
use Rattle.md_nbtc_law.specs.State.{TxnState, attempt_in}
use Rattle.md_nbtc_law.proofs.attempts.OwnAfter.{last_after, none_after, of_lane_push, own_of}

-- a list that is another is a longer one too
same_prefix : {A : Type 0} (xs ys : List A) → ys ≡ xs → IsPrefix xs ys
same_prefix xs ys is = record { rest = []; is = is ∙ sym (append-nil xs) }

-- a new attempt that was put beside others, and is taken away again
pub without_new : (bs : List AttemptId) (a : AttemptId) → was_begun bs a ≡ false → without (bs ++ a ∷ []) a ≡ bs
without_new [] a new = cond-false (not (same_attempt a a)) (a ∷ []) [] (ap not (same_from a a refl refl))
without_new (b ∷ bs) a new = ⊎_elim
    (λ is. absurd (true≢false (sym (or_true (was_begun bs a) is) ∙ new)))
    (λ other. cond-true (not (same_attempt b a)) (b ∷ without (bs ++ a ∷ []) a) (without (bs ++ a ∷ []) a) (ap not other)
    ∙ ap (λ l. b ∷ l) (without_new bs a (or_false other new)))
    (cases_Bool (same_attempt b a))
  where
    or_true : (d : Bool) → same_attempt b a ≡ true → (same_attempt b a || d) ≡ true
    or_true d is = ap (λ x. x || d) is

    or_false : same_attempt b a ≡ false → was_begun (b ∷ bs) a ≡ false → was_begun bs a ≡ false
    or_false other none = sym (ap (λ x. x || was_begun bs a) other) ∙ none

-- a ready transaction has one entry
pub one_entry : (t : TxnState) (d e : HasEntry t) → d.entry ≡ e.entry
one_entry t d e = (same_from_push d.before e.before d.entry e.entry (sym d.last ∙ e.last)).1

-- where a pass stands somewhere, it has a fate for each entry that it has seen
fated : (M : Meaning) (o : Origin) (q : PassState) → StandsInField M o q.view → length q.view.known ≡ length (entries_of q.view.seen)
fated M o q x = ((is_kept M o x.machine x.admitted).fronts x.pass q.view x.acts.at).fated ∙ sym (length-map q.view.seen (λ (y : HistoryEntry). y.entry))

-- a pass that has seen and answered what it had, and knows more fates: an attempt that left no entry
left_none : (s : Shape) (tag : ℕ) (p q : PassState) → q.view.seen ≡ p.view.seen → q.view.mine ≡ p.view.mine → q.view.pending ≡ p.view.pending → q.view.lanes ≡ p.view.lanes
    → AllStay p.view.known q.view.known → length q.view.known ≡ length (entries_of q.view.seen) → Stops tag (front_of s p.view) (front_of s q.view)
left_none s tag p q seen mine pending lanes known fated = record {
  begins = record {
    seen = same_prefix (entries_of p.view.seen) (entries_of q.view.seen) (ap entries_of seen);
    known = known;
    mine = λ lane _. same_prefix (of_lane lane p.view.mine) (of_lane lane q.view.mine) (ap (of_lane lane) mine);
  };
  fated = fated;
  lanes = lanes;
  pending = ap (map (begun_of s)) pending;
  own = subst (NoneOrAborted tag) (sym (ap (λ l. own_of q.view.lanes (drop (length (entries_of p.view.seen)) (zip (entries_of l) q.view.known))) seen
      ∙ none_after q.view.lanes p.view.seen q.view.known)) tt;
  mine = λ lane. ap (of_lane lane) mine;
}

-- none began
pub refused_front : (M : Meaning) (o : Origin) (s : Shape) (tag : ℕ) (p q : PassState) → BeginsNot M p o q → Stops tag (front_of s p.view) (front_of s q.view)
refused_front M o s tag p q b = left_none s tag p q b.seen b.mine b.pending b.same.lanes b.same.known (fated M o q b.stands)

module _ (M : Meaning) (s : Shape) (p : PassState) (tag : ℕ) (t u : TxnState) (begins : BeginsTransaction p tag t) (later : IsLater t u) where
  -- what its pass had while it was under way
  seen_is : u.pass.view.seen ≡ p.view.seen
  seen_is = later.front.seen ∙ begins.seen

  mine_is : u.pass.view.mine ≡ p.view.mine
  mine_is = later.front.mine ∙ begins.mine

  lanes_are : u.pass.view.lanes ≡ p.view.lanes
  lanes_are = later.lanes ∙ begins.same.lanes

  knew : AllStay p.view.known u.pass.view.known
  knew = all_stay-trans p.view.known t.pass.view.known u.pass.view.known begins.same.known later.front.known

  tag_is : u.hand.tag ≡ tag
  tag_is = later.tag ∙ ap (λ (h : Hand). h.tag) begins.hand

  -- once it is put down, what is pending is what was
  back : (now : List AttemptId) → now ≡ u.pass.view.pending → without now (attempt_in u) ≡ p.view.pending
  back now is = ap (λ l. without l (attempt_in u)) (is ∙ later.front.pending ∙ begins.pending)
      ∙ ap (without (p.view.pending ++ attempt_in t ∷ [])) later.attempt ∙ without_new p.view.pending (attempt_in t) begins.new

  -- one that was stopped before it was ready
  pub stopped_front : (q : PassState) → Stopped M u q → Stops tag (front_of s p.view) (front_of s q.view)
  stopped_front q x = let d = x.down in
      left_none s tag p q (d.seen ∙ seen_is) (x.mine ∙ mine_is) (d.pending ∙ back u.pass.view.pending refl) (d.same.lanes ∙ lanes_are)
      (all_stay-trans p.view.known u.pass.view.known q.view.known knew d.same.known) (fated M u.field.origin q d.stands)

  -- one that was ready
  module _ (w : TxnState) (e : HasEntry w) (ready : Readies u w e) (q : PassState) (down : PutDown M w q) where
    abbrev new : HistoryEntry
    new = e.entry

    attempt_is : attempt_in w ≡ attempt_in u
    attempt_is = ap attempt_in ready.rest

    seen_then : q.view.seen ≡ p.view.seen ++ (ready.others ++ new ∷ [])
    seen_then = down.seen ∙ ready.seen ∙ ap (λ l. l ++ (ready.others ++ new ∷ [])) seen_is

    mine_then : w.pass.view.mine ≡ p.view.mine
    mine_then = ready.mine ∙ mine_is

    lanes_then : q.view.lanes ≡ p.view.lanes
    lanes_then = down.same.lanes ∙ ready.same.lanes ∙ lanes_are

    knows_then : AllStay p.view.known q.view.known
    knows_then = all_stay-trans p.view.known w.pass.view.known q.view.known
        (all_stay-trans p.view.known u.pass.view.known w.pass.view.known knew ready.same.known) down.same.known

    pending_then : q.view.pending ≡ p.view.pending
    pending_then = down.pending ∙ ap (without w.pass.view.pending) attempt_is ∙ back w.pass.view.pending ready.pending

    tagged : new.entry.tag ≡ tag
    tagged = e.tag ∙ ap (λ (x : TxnState). x.hand.tag) ready.rest ∙ tag_is

    others : All (λ (x : HistoryEntry). ¬ Contains p.view.lanes x.entry.lane) ready.others
    others = subst (λ l. All (λ (x : HistoryEntry). ¬ Contains l x.entry.lane) ready.others) lanes_are ready.of_others

    -- its entry alone is of the pass's lanes
    own_then : (f : Fate) → LastFate q.view.known f → own_after (length (entries_of p.view.seen)) (front_of s q.view) ≡ (new.entry, f) ∷ []
    own_then f (fates, is) =
        let n = length (entries_of p.view.seen) in
        let all : List HistoryEntry = p.view.seen ++ (ready.others ++ new ∷ []) in
        let many = fated M w.field.origin q down.stands in
        let of_all = length-map q.view.seen (λ (y : HistoryEntry). y.entry) in
        let of_seen = ap length seen_then in
        let of_known = ap length is ∙ length-append fates (f ∷ []) in
        let first = length-append p.view.seen (ready.others ++ new ∷ []) in
        let second = length-append ready.others (new ∷ []) in
        let third = length-append p.view.seen ready.others in
        ap (λ l. own_of l (drop n (zip (entries_of q.view.seen) q.view.known))) lanes_then
        ∙ ap (λ l. own_of p.view.lanes (drop n (zip (entries_of l) q.view.known))) seen_then
        ∙ ap (λ l. own_of p.view.lanes (drop n (zip (entries_of all) l))) is
        ∙ last_after p.view.lanes new f (subst (λ l. Contains l new.entry.lane) lanes_are ready.own) p.view.seen ready.others fates
        (omega (arith, many, of_all, of_seen, of_known, first, second, third)) others

    prefix_then : IsPrefix (entries_of p.view.seen) (entries_of q.view.seen)
    prefix_then = record {
      rest = entries_of (ready.others ++ new ∷ []);
      is = ap entries_of seen_then ∙ map-append (λ (x : HistoryEntry). x.entry) p.view.seen (ready.others ++ new ∷ []);
    }

    -- and was aborted
    pub aborted_front : q.view.mine ≡ w.pass.view.mine → LastFate q.view.known Aborted → Stops tag (front_of s p.view) (front_of s q.view)
    aborted_front same last =
        let mine = same ∙ mine_then in record {
          begins = record {
            seen = prefix_then;
            known = knows_then;
            mine = λ lane _. same_prefix (of_lane lane p.view.mine) (of_lane lane q.view.mine) (ap (of_lane lane) mine);
          };
          fated = fated M w.field.origin q down.stands;
          lanes = lanes_then;
          pending = ap (map (begun_of s)) pending_then;
          own = subst (NoneOrAborted tag) (sym (own_then Aborted last)) (tagged, refl);
          mine = λ lane. ap (of_lane lane) mine;
        }

    -- or committed
    module _ {R : Type 0} (did : List Act → R → Type 0) (reply : R) (did_it : did new.entry.acts reply) where
      pub committed_front : q.view.mine ≡ w.pass.view.mine ++ new.entry ∷ [] → LastFate q.view.known Committed
          → Commits did tag reply (front_of s p.view) (front_of s q.view)
      committed_front more last =
          let mine = more ∙ ap (λ l. l ++ new.entry ∷ []) mine_then in record {
            begins = record {
              seen = prefix_then;
              known = knows_then;
              mine = λ lane _. record {
                rest = of_lane lane (new.entry ∷ []);
                is = ap (of_lane lane) mine ∙ filter-append (λ (x : Entry). lane == x.lane) p.view.mine (new.entry ∷ []);
              };
            };
            fated = fated M w.field.origin q down.stands;
            lanes = lanes_then;
            pending = ap (map (begun_of s)) pending_then;
            entry = new.entry;
            own = own_then Committed last;
            before = entries_of (p.view.seen ++ ready.others);
            last = ap entries_of (seen_then ∙ sym (append_assoc p.view.seen ready.others (new ∷ [])))
                ∙ map-append (λ (x : HistoryEntry). x.entry) (p.view.seen ++ ready.others) (new ∷ []);
            tagged = tagged;
            did_it = did_it;
            mine = λ lane. ap (of_lane lane) mine ∙ of_lane_push lane p.view.mine new.entry;
          }

  -- so a ready transaction that is decided is committed or stopped
  pub decided_commits : (w : TxnState) (e : HasEntry w) → Readies u w e → (q : PassState) (d : HasEntry w) → CommitsTransaction M w d q
      → {R : Type 0} (did : List Act → R → Type 0) (reply : R) → did w.hand.acts reply → Commits did tag reply (front_of s p.view) (front_of s q.view)
  decided_commits w e ready q d c did reply did_it =
      committed_front w e ready q c.down did reply (subst (λ (l : List Act). did l reply) (sym e.acts) did_it)
      (c.mine ∙ ap (λ (x : HistoryEntry). w.pass.view.mine ++ x.entry ∷ []) (one_entry w d e)) c.committed

  pub decided_stops : (w : TxnState) (e : HasEntry w) → Readies u w e → (q : PassState) → Aborts M w q → Stops tag (front_of s p.view) (front_of s q.view)
  decided_stops w e ready q a = aborted_front w e ready q a.stopped.down a.stopped.mine a.aborted
