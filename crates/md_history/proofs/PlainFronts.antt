-- The fronts of the store for one thread.
use Rattle.std.proofs.Common.{◌≡◌, ◌≢◌, ℕ, Bool, true, false, cond, List, [], ◌∷◌, ◌++◌, ◌+◌, length, drop, map, refl, sym, ap, subst, ◌∙◌, Option, Some, None, arith, suc, zero, inl, inr, append_assoc}
use Rattle.std.specs.Prelude.{◌==◌, ◌||◌, filter, All, Contains}
use Rattle.std.specs.List.{zip, AllByRecursion}
use Rattle.std.proofs.lemmas.List.{append-nil, length-map}
use Rattle.std.proofs.lemmas.List.Elements.{All-map, All-contains_itself, All-from_recursion}
use Rattle.std.proofs.lemmas.Bool.{cases_Bool, eqb-true}
use Rattle.std.proofs.Math.Seq.{drop-append_seam}
use Rattle.md_history.specs.declared.acts.Op.{Op}
use Rattle.md_history.specs.declared.acts.Act.{Act}
use Rattle.md_history.specs.declared.entries.Entry.{Entry}
use Rattle.md_history.specs.declared.entries.Fate.{Fate}
use Rattle.md_history.specs.declared.entries.Fate.TheVariants.{Committed, Undecided}
use Rattle.md_history.specs.State.{State, run, IsRight}
use Rattle.md_history.specs.History.{IsResolution, AllCommittedSound, AllDecided, kept_acts, committed, acts_of}
use Rattle.md_history.specs.Front.{IsPrefix, AllStay, Begins, LegalFrom, AllDecidedOn, of_lane, is_of, replay_of}
use Rattle.md_history.specs.FrontLaws.{prefix-self}
use Rattle.md_history.specs.Attempt.{Commits, Stops, NoneOrAborted, Settles, AreAllOwn}
use Rattle.md_history.specs.Engine.{IsFrontFrom, AreNumberedByLane, SettlesFrom}
use Rattle.md_history.specs.Plain.{all_committed, front_from, AreNumbered, IsKept, IsRunning, refusal_of}
use Rattle.md_history.specs.HistoryLaws.{run-append, right-append}

committed-stays : (es fs : List Entry) → AllStay (all_committed es) (all_committed (es ++ fs))
committed-stays [] fs = tt
committed-stays (e ∷ es) fs = (refl, committed-stays es fs)

pub committed-all : (es : List Entry) → committed es (all_committed es) ≡ es
committed-all [] = refl
committed-all (e ∷ es) = ap (λ xs. e ∷ xs) (committed-all es)

is-decided : (f : Fate) → f ≡ Committed → f ≢ Undecided
is-decided f e h = cc

decided-all : (es : List Entry) → AllDecided (all_committed es)
decided-all es = All-map (λ f. f ≢ Undecided) (λ _. Committed) es (λ k d below. is-decided Committed refl)

decided-on : (es : List Entry) → AllDecidedOn (0 ∷ []) es (all_committed es)
decided-on [] = tt
decided-on (e ∷ es) = ((λ own. is-decided Committed refl), decided-on es)

pub begins-more : (ps qs es : List Entry) → qs ≡ ps ++ es → Begins (front_from ps) (front_from qs)
begins-more ps qs es e = record {
  seen = record { rest = es; is = e };
  known = subst (λ xs. AllStay (all_committed ps) (all_committed xs)) (sym e) (committed-stays ps es);
  mine = λ lane in_lanes. elim (lane == 0) as (λ t. IsPrefix (cond t ps []) (cond t qs [])) [ true ↦ record { rest = es; is = e } | false ↦ prefix-self [] ];
}

-- the entries from a place on, each with its fate
zip-committed : (es : List Entry) → zip es (all_committed es) ≡ map (λ e. (e, Committed)) es
zip-committed [] = refl
zip-committed (e ∷ es) = ap (λ ps. (e, Committed) ∷ ps) (zip-committed es)

drop-map : {A B : Type 0} (f : A → B) (n : ℕ) (xs : List A) → drop n (map f xs) ≡ map f (drop n xs)
drop-map f zero xs = refl
drop-map f (suc n) [] = refl
drop-map f (suc n) (x ∷ xs) = drop-map f n xs

drop-zip : (ps es : List Entry) → drop (length ps) (zip (ps ++ es) (all_committed (ps ++ es))) ≡ map (λ e. (e, Committed)) es
drop-zip ps es =
    ap (drop (length ps)) (zip-committed (ps ++ es)) ∙ drop-map (λ e. (e, Committed)) (length ps) (ps ++ es)
    ∙ ap (map (λ e. (e, Committed))) (drop-append_seam ps es)

is_of-zero : (e : Entry) → e.lane ≡ 0 → is_of (0 ∷ []) e ≡ true
is_of-zero e at = ap (λ n. (0 == n) || false) at

own-one : (e : Entry) → e.lane ≡ 0
    → filter (λ (p : Entry × Fate). is_of (0 ∷ []) p.0) ((e, Committed) ∷ []) ≡ (e, Committed) ∷ []
own-one e at = ap (λ b. cond b ((e, Committed) ∷ []) []) (is_of-zero e at)

own-none : (ps : List Entry)
    → filter (λ (p : Entry × Fate). is_of (0 ∷ []) p.0) (drop (length ps) (zip ps (all_committed ps))) ≡ []
own-none ps =
    ap (filter (λ (p : Entry × Fate). is_of (0 ∷ []) p.0)) (ap (λ es. drop (length ps) (zip es (all_committed es))) (sym (append-nil ps)) ∙ drop-zip ps [])

-- entries of lane 0 are all of the lane
of_lane-all : (n : ℕ) (es : List Entry) → AreNumbered n es → of_lane 0 es ≡ es
of_lane-all n [] h = refl
of_lane-all n (e ∷ es) h =
    ap (λ b. cond b (e ∷ of_lane 0 es) (of_lane 0 es)) (ap (λ n. 0 == n) h.0) ∙ ap (λ xs. e ∷ xs) (of_lane-all (n + 1) es h.3)

pub numbered-more : (n m : ℕ) (es : List Entry) (e : Entry) → AreNumbered n es → m ≡ n + length es → e.lane ≡ 0 → e.number ≡ m
    → e.sound ≡ true → AreNumbered n (es ++ e ∷ [])
numbered-more n m [] e h at lane number sound = (lane, number ∙ at ∙ omega arith, sound, tt)
numbered-more n m (x ∷ es) e h at lane number sound =
    (h.0, h.1, h.2, numbered-more (n + 1) m es e h.3 (at ∙ omega arith) lane number sound)

-- a pass whose entries are the same has stopped
pub stops : (tag : ℕ) (ps qs : List Entry) → qs ≡ ps → Stops tag (front_from ps) (front_from qs)
stops tag ps qs e = record {
  begins = begins-more ps qs [] (e ∙ sym (append-nil ps));
  fated = length-map qs (λ _. Committed);
  lanes = refl;
  pending = refl;
  own = subst (NoneOrAborted tag) (sym (ap (λ es. filter (λ (p : Entry × Fate). is_of (0 ∷ []) p.0) (drop (length ps) (zip es (all_committed es)))) e ∙ own-none ps)) tt;
  mine = λ lane. ap (λ es. cond (lane == 0) es []) e;
}

-- a pass with one entry more has committed it
commits : {R : Type 0} (did : List Act → R → Type 0) (tag : ℕ) (r : R) (ps qs : List Entry) (e : Entry) → qs ≡ ps ++ e ∷ []
    → AreNumbered 0 qs → AreNumbered 0 ps → e.lane ≡ 0 → e.tag ≡ tag → did e.acts r
    → Commits did tag r (front_from ps) (front_from qs)
commits did tag r ps qs e more numbered before lane tagged did_it = record {
  begins = begins-more ps qs (e ∷ []) more;
  fated = length-map qs (λ _. Committed);
  lanes = refl;
  pending = refl;
  entry = e;
  own = ap (λ es. filter (λ (p : Entry × Fate). is_of (0 ∷ []) p.0) (drop (length ps) (zip es (all_committed es)))) more
      ∙ ap (filter (λ (p : Entry × Fate). is_of (0 ∷ []) p.0)) (drop-zip ps (e ∷ [])) ∙ own-one e lane;
  before = ps;
  last = more;
  tagged = tagged;
  did_it = did_it;
  mine = λ l. ap (λ n. cond (l == 0) qs []) lane
      ∙ elim (l == 0) as (λ t. cond t qs [] ≡ cond t (cond t ps [] ++ e ∷ []) (cond t ps [])) [ true ↦ more | false ↦ refl ]
      ∙ ap (λ n. cond (l == n) (cond (l == 0) ps [] ++ e ∷ []) (cond (l == 0) ps [])) (sym lane);
}

-- the same of a pass whose entries are written in another way
pub commits-same : {R : Type 0} (did : List Act → R → Type 0) (tag : ℕ) (r : R) (ps ps' qs : List Entry) (e : Entry) → ps' ≡ ps
    → qs ≡ ps' ++ e ∷ [] → AreNumbered 0 qs → AreNumbered 0 ps' → e.lane ≡ 0 → e.tag ≡ tag → did e.acts r
    → Commits did tag r (front_from ps) (front_from qs)
commits-same did tag r ps ps' qs e same more numbered before lane tagged did_it =
    subst (λ xs. Commits did tag r (front_from xs) (front_from qs)) same (commits did tag r ps' qs e more numbered before lane tagged did_it)

pub acts_of-append : (es fs : List Entry) → acts_of (es ++ fs) ≡ acts_of es ++ acts_of fs
acts_of-append [] fs = refl
acts_of-append (e ∷ es) fs =
    ap (λ xs. e.acts ++ xs) (acts_of-append es fs) ∙ sym (append_assoc e.acts (acts_of es) (acts_of fs))

sound-all : (n : ℕ) (es : List Entry) → AreNumbered n es → AllCommittedSound es (all_committed es)
sound-all n [] h = tt
sound-all n (e ∷ es) h = ((λ _. h.2), sound-all (n + 1) es h.3)

kept-all : (es : List Entry) (choice : List Bool) → IsResolution es (all_committed es) choice → kept_acts es choice ≡ acts_of es
kept-all [] [] h = refl
kept-all [] (b ∷ bs) h = absurd h
kept-all (e ∷ es) [] h = absurd h
kept-all (e ∷ es) (true ∷ bs) h = ap (λ xs. e.acts ++ xs) (kept-all es bs h.1)
kept-all (e ∷ es) (false ∷ bs) h = let f : false ≡ true = h.0 in cc

legal : (start : State) (es : List Entry) → AreNumbered 0 es → IsRight start (acts_of es) → LegalFrom start (front_from es)
legal start es numbered right = record {
  fated = length-map es (λ _. Committed);
  sound = sound-all 0 es numbered;
  right = λ choice h. subst (IsRight start) (sym (kept-all es choice h)) right;
}

not_refused : (o : Option Op) → refusal_of o ≡ None → o ≡ None
not_refused None e = refl
not_refused (Some op) e = cc

-- what the pass contains after one entry more
pub kept-more : (start now mid then : State) (es es' : List Entry) (e : Entry) (b : Bool) (o : Option Op)
    → IsKept start now es b → IsRunning mid then e.acts o → mid ≡ run start (acts_of es) → refusal_of o ≡ None
    → es' ≡ es ++ e ∷ [] → e.lane ≡ 0 → e.number ≡ length es → e.sound ≡ true → IsKept start then es' false
kept-more start now mid then es es' e b o k r at none pushed lane number sound =
    let all : acts_of es' ≡ acts_of es ++ e.acts = ap acts_of pushed ∙ acts_of-append es _
    ∙ ap (λ xs. acts_of es ++ xs) (append-nil e.acts) in
    record {
      numbered = subst (AreNumbered 0) (sym pushed) (numbered-more 0 (length es) es e k.numbered (omega arith) lane number sound);
      right = subst (IsRight start) (sym all) (right-append start _ _ k.right (subst (λ s. IsRight s e.acts) at r.right));
      state = λ _. r.state (not_refused o none) ∙ ap (λ s. run s e.acts) at ∙ sym (run-append start (acts_of es) e.acts)
          ∙ ap (run start) (sym all);
    }

-- the replay of a pass, by its entries
pub replay_of-all : (start : State) (es : List Entry) → replay_of start (front_from es) ≡ run start (acts_of es)
replay_of-all start es = ap (λ xs. run start (acts_of xs)) (committed-all es)

-- what the pass contains is the replay of its front
pub replayed : (start now : State) (es : List Entry) (b : Bool) → IsKept start now es b → b ≡ false
    → now ≡ replay_of start (front_from es)
replayed start now es b k whole = k.state whole ∙ sym (replay_of-all start es)

settles : (es : List Entry) → Settles (front_from es) (front_from es)
settles es = record {
  fated = length-map es (λ _. Committed);
  lanes = refl;
  pending = refl;
  seen = refl;
  known = subst (λ xs. AllStay (all_committed es) (all_committed xs)) (append-nil es) (committed-stays es []);
  mine = λ lane. refl;
  decided = decided-all es;
}

-- entries of lane 0 are of no other
of_lane-none : (lane n : ℕ) (es : List Entry) → (lane == 0) ≡ false → AreNumbered n es → of_lane lane es ≡ []
of_lane-none lane n [] other h = refl
of_lane-none lane n (e ∷ es) other h =
    ap (λ l. cond (lane == l) (e ∷ of_lane lane es) (of_lane lane es)) h.0
    ∙ ap (λ b. cond b (e ∷ of_lane lane es) (of_lane lane es)) other ∙ of_lane-none lane (n + 1) es other h.3

own-lane : (es : List Entry) (lane : ℕ) → AreNumbered 0 es → of_lane lane es ≡ cond (lane == 0) es []
own-lane es lane numbered = elim (cases_Bool (lane == 0)) [
  | inl zero_lane ↦ ap (λ l. of_lane l es) (eqb-true lane 0 zero_lane) ∙ of_lane-all 0 es numbered ∙ ap (λ b. cond b es []) (sym zero_lane)
  | inr other ↦ of_lane-none lane 0 es other numbered ∙ ap (λ b. cond b es []) (sym other)
]

own : (es : List Entry) → AreNumbered 0 es → AreAllOwn (front_from es)
own es numbered lane = ap (of_lane lane) (committed-all es) ∙ own-lane es lane numbered

is_lane_zero : (lane : ℕ) → lane ≡ 0 → Contains (0 ∷ []) lane
is_lane_zero lane at = (0, omega arith, sym at)

within-all : (n : ℕ) (es : List Entry) → AreNumbered n es → AllByRecursion (λ (e : Entry). Contains (0 ∷ []) e.lane) es
within-all n [] h = tt
within-all n (e ∷ es) h = (is_lane_zero e.lane h.0, within-all (n + 1) es h.3)

numbered-at : (n : ℕ) (before after : List Entry) (e : Entry) → AreNumbered n (before ++ e ∷ after)
    → (e.lane ≡ 0) × (e.number ≡ n + length before) × AreNumbered n before
numbered-at n [] after e h = (h.0, h.1 ∙ omega arith, tt)
numbered-at n (x ∷ before) after e h =
    let more = numbered-at (n + 1) before after e h.3 in (more.0, more.1 ∙ omega arith, (h.0, h.1, h.2, more.2))

numbered_by_lane : (es : List Entry) → AreNumbered 0 es → AreNumberedByLane es
numbered_by_lane es h before after e at =
    let here = numbered-at 0 before after e (subst (AreNumbered 0) at h) in
    here.1 ∙ omega arith ∙ ap length (sym (of_lane-all 0 before here.2)) ∙ ap (λ n. length (of_lane n before)) (sym here.0)

-- the front of a pass is one of its store
pub front_is : (start : State) (es : List Entry) → AreNumbered 0 es → IsRight start (acts_of es)
    → IsFrontFrom start (0 ∷ []) (front_from es)
front_is start es numbered right = record {
  legal = legal start es numbered right;
  some = omega arith;
  rising = tt;
  within = All-contains_itself (0 ∷ []);
  entries = All-from_recursion (λ (e : Entry). Contains (0 ∷ []) e.lane) es (within-all 0 es numbered);
  numbered = numbered_by_lane es numbered;
  outside = λ lane none. elim (cases_Bool (lane == 0)) [
    | inl zero_lane ↦ absurd (none (is_lane_zero lane (eqb-true lane 0 zero_lane)))
    | inr other ↦ ap (λ b. cond b es []) other
  ];
  answered = λ lane. subst (λ (xs : List Entry). All (Contains xs) ((front_from es).mine lane)) (sym (own es numbered lane)) (All-contains_itself ((front_from es).mine lane));
  decided = λ none. decided-on es;
  own = λ none lane in_lanes. own es numbered lane;
}

-- a pass that is closed has seen all, and all that is committed is its own
pub settled : (start : State) (es : List Entry) → AreNumbered 0 es → LegalFrom start (front_from es)
    → SettlesFrom start (front_from es) (front_from es)
settled start es numbered is_legal = record { settles = settles es; legal = is_legal; own = λ none. own es numbered }
