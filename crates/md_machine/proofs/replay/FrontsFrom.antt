-- The front of each live pass is one of an engine that starts in the opening's state.
use Rattle.std.proofs.Common.{◌≡◌, ℕ, ◌<◌, ◌&&◌, ◌∷◌, Bool, true, false, cond, eqb, List, [], map, ◌+◌, refl, sym, ap, ◌∙◌, subst, ⊎_elim, arith}
use Rattle.std.specs.List.{Contains, range_with_len}
use Rattle.std.specs.Prelude.{All, not}
use Rattle.std.proofs.lemmas.Bool.{cases_Bool, false≢true, true≢false}
use Rattle.std.proofs.lemmas.List.{map-append}
use Rattle.std.proofs.lemmas.List.Elements.{All-contains_itself, All-map, All-nil, All-weaker, Contains-append_left}
use Rattle.md_history.specs.declared.entries.Entry.{Entry}
use Rattle.md_history.specs.declared.entries.Fate.{Fate}
use Rattle.md_history.specs.declared.entries.Fate.TheVariants.{Committed, Aborted, Undecided}
use Rattle.md_history.specs.Engine.{AreNumberedByLane, IsRising}
use Rattle.md_history.specs.Front.{AllDecidedOn, Begun, is_lane_of, of_lane}
use Rattle.md_history.specs.History.{committed}
use Rattle.md_history.specs.LaneLaws.{numbered-prefix}
use Rattle.md_history.specs.FrontLaws.{lane_is_of, lane_passes}
use Rattle.md_machine.specs.declared.attempt.AttemptId.{AttemptId}
use Rattle.md_machine.specs.declared.attempt.HistoryEntry.{HistoryEntry}
use Rattle.md_machine.specs.declared.pass.PassView.{PassView}
use Rattle.md_machine.proofs.clauses.passes.Alone.{lane_exists}
use Rattle.md_machine.proofs.clauses.passes.Ended.{cond_cons}
use Rattle.md_machine.proofs.lists.Rising.{here, in_cons, range_in, there}
use Rattle.md_machine.specs.Legal.{FrontsAreFrom, begun_of}
use Rattle.md_machine.proofs.replay.Replays.{FrontsLegal}
use Rattle.md_machine.specs.Machine.{IsAt, Machine, shape_of, was_begun}
use Rattle.md_machine.specs.Meaning.{Meaning}
use Rattle.md_machine.specs.Resolution.{entries_of}
use Rattle.md_machine.specs.Theorem.{IsKept}
use Rattle.md_machine.specs.clauses.passes.Lanes.{RiseFrom}
use Rattle.md_machine.specs.clauses.passes.Mine.{AllEndedDecided, MineIsEnded, ended_of, is_ended}
use Rattle.md_machine.specs.events.Start.{is_decided}

all_of : {A : Type 0} (P : A → Type 0) (xs : List A) → ((x : A) → Contains xs x → P x) → All P xs
all_of P xs every = All-weaker (Contains xs) P every xs (All-contains_itself xs)

rise_is : (low : ℕ) (xs : List ℕ) → RiseFrom low xs → IsRising xs
rise_is low [] rise = tt
rise_is low (x ∷ []) rise = tt
rise_is low (x ∷ y ∷ xs) rise = let next = rise.1.0 in (omega (arith, next), rise_is (x + 1) (y ∷ xs) rise.1)

-- a test that ends in false fails
fails : (a b : Bool) → (a && (b && false)) ≡ false
fails true true = refl
fails true false = refl
fails false b = refl

-- where nothing is pending all committed entries of a lane are ended
ended_all : (lane : ℕ) (es : List HistoryEntry) (fs : List Fate) → ended_of lane [] es fs ≡ of_lane lane (committed (entries_of es) fs)
ended_all lane [] fs = refl
ended_all lane (e ∷ es) [] = refl
ended_all lane (e ∷ es) (Committed ∷ fs) =
    cond_cons (is_ended lane [] e Committed) (eqb lane e.entry.lane) e.entry (ended_of lane [] es fs) (of_lane lane (committed (entries_of es) fs))
    (holds (eqb lane e.entry.lane)) (ended_all lane es fs)
  where
    holds : (b : Bool) → (b && true) ≡ b
    holds true = refl
    holds false = refl
ended_all lane (e ∷ es) (Aborted ∷ fs) =
    ap (λ b. cond b (e.entry ∷ ended_of lane [] es fs) (ended_of lane [] es fs)) (fails (eqb lane e.entry.lane) true) ∙ ended_all lane es fs
ended_all lane (e ∷ es) (Undecided ∷ fs) =
    ap (λ b. cond b (e.entry ∷ ended_of lane [] es fs) (ended_of lane [] es fs)) (fails (eqb lane e.entry.lane) true) ∙ ended_all lane es fs

-- an element of a list that may have one more in front
cond_in : (s t : Bool) (x : Entry) (xs ys : List Entry) (y : Entry) → (s ≡ true → t ≡ true) → (Contains xs y → Contains ys y)
    → Contains (cond s (x ∷ xs) xs) y → Contains (cond t (x ∷ ys) ys) y
cond_in true true x xs ys y implies rest c = ⊎_elim (λ same. subst (Contains (x ∷ ys)) same (here x ys)) (λ later. there x ys y (rest later)) (in_cons x xs y c)
cond_in true false x xs ys y implies rest c = absurd (false≢true (implies refl))
cond_in false true x xs ys y implies rest c = there x ys y (rest c)
cond_in false false x xs ys y implies rest c = rest c

-- an ended entry is a committed one of the lane
ended_in : (lane : ℕ) (P : List AttemptId) (es : List HistoryEntry) (fs : List Fate) (y : Entry) → Contains (ended_of lane P es fs) y
    → Contains (of_lane lane (committed (entries_of es) fs)) y
ended_in lane P [] fs y c = c
ended_in lane P (e ∷ es) [] y c = c
ended_in lane P (e ∷ es) (Committed ∷ fs) y c =
    cond_in (is_ended lane P e Committed) (eqb lane e.entry.lane) e.entry (ended_of lane P es fs) (of_lane lane (committed (entries_of es) fs)) y
    (first (eqb lane e.entry.lane)) (ended_in lane P es fs y) c
  where
    first : (b : Bool) → (b && (not (was_begun P e.attempt) && true)) ≡ true → b ≡ true
    first true h = refl
    first false h = h
ended_in lane P (e ∷ es) (Aborted ∷ fs) y c =
    ended_in lane P es fs y (subst (λ b. Contains (cond b (e.entry ∷ ended_of lane P es fs) (ended_of lane P es fs)) y)
    (fails (eqb lane e.entry.lane) (not (was_begun P e.attempt))) c)
ended_in lane P (e ∷ es) (Undecided ∷ fs) y c =
    ended_in lane P es fs y (subst (λ b. Contains (cond b (e.entry ∷ ended_of lane P es fs) (ended_of lane P es fs)) y)
    (fails (eqb lane e.entry.lane) (not (was_begun P e.attempt))) c)

-- and where nothing is pending each entry of the lanes is known to be decided
decided_on : (lanes : List ℕ) (es : List HistoryEntry) (fs : List Fate) → AllEndedDecided lanes [] es fs → AllDecidedOn lanes (entries_of es) fs
decided_on lanes [] fs was = tt
decided_on lanes (e ∷ es) [] was = tt
decided_on lanes (e ∷ es) (f ∷ fs) was = (
  (λ own open_fate. true≢false (sym (was.0 (lane_is_of lanes e.entry.lane own) refl) ∙ ap is_decided open_fate)),
  decided_on lanes es fs was.1,
)

none_pending : (f : AttemptId → Begun) (pending : List AttemptId) → map f pending ≡ [] → pending ≡ []
none_pending f [] none = refl
none_pending f (a ∷ rest) none = cc

module _ (M : Meaning) (m : Machine) (k : IsKept m) (legal : FrontsLegal M m) where
  abbrev lanes : List ℕ
  lanes = range_with_len 0 (shape_of m).lanes

  of_history : (pass : ℕ) (p : PassView) → IsAt m pass p → (e : HistoryEntry) → Contains p.seen e → Contains m.history e
  of_history pass p at e c = let prefix = (k.fronts pass p at).seen in subst (λ h. Contains h e) (sym prefix.is) (Contains-append_left p.seen prefix.rest e c)

  entry_lane : (e : HistoryEntry) → Contains m.history e → Contains lanes e.entry.lane
  entry_lane e c =
      let of = k.numbered.lanes e c in
      let below = lane_exists (shape_of m) e.attempt.desc of.exists in
      range_in 0 (shape_of m).lanes e.entry.lane (omega arith) (subst (λ l. l < 0 + (shape_of m).lanes) (sym of.lane) (omega (arith, below)))

  all_entries : (es : List HistoryEntry) → ((e : HistoryEntry) → Contains es e → Contains m.history e)
      → All (λ (e : Entry). Contains lanes e.lane) (entries_of es)
  all_entries es inside = All-map (λ (e : Entry). Contains lanes e.lane) (λ (e : HistoryEntry). e.entry) es
      (all_of (λ (e : HistoryEntry). Contains lanes e.entry.lane) es (λ e c. entry_lane e (inside e c)))

  ended_answers : (lane : ℕ) (p : PassView) → MineIsEnded p.lanes p.seen p.known p.mine p.pending
      → All (Contains (of_lane lane (committed (entries_of p.seen) p.known))) (of_lane lane p.mine)
  ended_answers lane p ended = ⊎_elim
      (λ own. subst (All (Contains (of_lane lane (committed (entries_of p.seen) p.known)))) (sym (ended.mine lane (lane_is_of p.lanes lane own)))
      (all_of _ (ended_of lane p.pending p.seen p.known) (λ y c. ended_in lane p.pending p.seen p.known y c)))
      (λ other. subst (All (Contains (of_lane lane (committed (entries_of p.seen) p.known))))
      (sym (ended.outside lane (λ c. true≢false (sym (lane_passes p.lanes lane c) ∙ other))))
      (All-nil (Contains (of_lane lane (committed (entries_of p.seen) p.known)))))
      (cases_Bool (is_lane_of p.lanes lane))

  pub fronts_from : FrontsAreFrom M m
  fronts_from pass p at live =
      let ended = k.mine pass p at in
      let prefix = (k.fronts pass p at).seen in record {
        legal = legal pass p at;
        some = live;
        rising = rise_is 0 p.lanes (k.lanes.rising pass p at);
        within = all_of (Contains lanes) p.lanes
            (λ lane c. let below = k.lanes.exists pass lane (p, at, c) in range_in 0 (shape_of m).lanes lane (omega arith) (omega (arith, below)));
        entries = all_entries p.seen (of_history pass p at);
        numbered = numbered-prefix (entries_of p.seen) (entries_of prefix.rest)
            (subst AreNumberedByLane (ap entries_of prefix.is ∙ map-append (λ (e : HistoryEntry). e.entry) p.seen prefix.rest) k.numbered.numbered);
        outside = ended.outside;
        answered = λ lane. ended_answers lane p ended;
        decided = λ none. decided_on p.lanes p.seen p.known
            (subst (λ pending. AllEndedDecided p.lanes pending p.seen p.known) (none_pending (begun_of (shape_of m)) p.pending none) ended.decided);
        own = λ none lane c. sym (ended.mine lane c
            ∙ ap (λ pending. ended_of lane pending p.seen p.known) (none_pending (begun_of (shape_of m)) p.pending none)
            ∙ ended_all lane p.seen p.known);
      }
