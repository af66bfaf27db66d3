-- Attempts at one body, one after another.
use Rattle.std.proofs.Common.{◌≡◌, ◌<◌, ◌≤◌, ◌+◌, ℕ, cond, List, [], ◌∷◌, ◌++◌, length, refl, sym, ap, subst, ◌∙◌, arith}
use Rattle.std.specs.Prelude.{◌==◌}
use Rattle.std.proofs.lemmas.List.{length-append}
use Rattle.md_history.specs.declared.acts.Act.{Act}
use Rattle.md_history.specs.declared.entries.Entry.{Entry}
use Rattle.md_history.specs.declared.entries.Fate.{Fate}
use Rattle.md_history.specs.Front.{Front, BeginsOn, own_after}
use Rattle.md_history.specs.FrontLaws.{begins-self, begins-trans}
use Rattle.md_history.specs.declared.engines.Engine.{Ghosts as EngineWords}
use Rattle.md_history.specs.declared.stops.Shown.{Shown}
use Rattle.md_history.specs.declared.stops.Limit.{Limit as Which}
use Rattle.md_history.specs.declared.stops.Stop.{Stop}
use Rattle.md_history.specs.declared.stops.Stop.TheVariants.{Conflict, Limit, NoMemory}
use Rattle.md_history.specs.declared.stops.Attempt.{Attempt}
use Rattle.md_history.specs.declared.stops.Attempt.TheVariants.{Committed as Done, Stopped}
use Rattle.md_history.specs.Attempt.{Commits, Stops, NoneOrAborted, CountsAttempt, CountsStop, IfCommitted, IfStopped}
use Rattle.md_history.specs.Counts.{IsSmall}
use Rattle.md_history.specs.Engine.{IsNoConflict, bounds_in}
use Rattle.md_many_attempts.specs.Joined.{entries_after}
use Rattle.md_many_attempts.specs.Until.{AreAborted, AllStop, CommitsAtLast, IsEndOfAttempts, MayStop, MeetsConflict}
use Rattle.md_many_attempts.proofs.Joining.{AreDecided, entries-more, entries-none}

-- a conflict isn't a want of memory
pub no_conflict : {shown : Shown} → Conflict shown ≡ NoMemory → ⊥
no_conflict same = cc

-- nor is a limit
pub no_limit : {limit : Which} → Limit limit ≡ NoMemory → ⊥
no_limit same = cc

-- whatever stopped an attempt, it began one at most
pub stop_counted : (s : Stop) (begun begun' : ℕ) → CountsStop s begun begun' → (begun ≤ begun') × (begun' ≤ begun + 1)
stop_counted (Conflict shown) begun begun' is = (omega (arith, is), omega (arith, is))
stop_counted (Limit limit) begun begun' is = is
stop_counted NoMemory begun begun' is = is

-- an attempt that met a conflict was begun
pub conflict_counted : {shown : Shown} (s : Stop) (begun begun' : ℕ) → s ≡ Conflict shown → CountsStop s begun begun'
    → begun' ≡ begun + 1
conflict_counted s begun begun' is counted = subst (λ t. CountsStop t begun begun') is counted

-- what ended an attempt that met a conflict, and what is said of its stop
pub met-conflict : {R : Type 0} (a : Attempt R) → MeetsConflict a → (shown : Shown) × (a ≡ Stopped (Conflict shown))
met-conflict (Done r) met = absurd met
met-conflict (Stopped (Conflict shown)) met = (shown, refl)
met-conflict (Stopped (Limit limit)) met = absurd met
met-conflict (Stopped NoMemory) met = absurd met

pub of-stop : {R : Type 0} (P : Stop → Type 0) (a : Attempt R) (s : Stop) → a ≡ Stopped s → IfStopped a P → P s
of-stop P a s is said = subst (λ b. IfStopped b P) is said

pub conflict-began : {R : Type 0} (a : Attempt R) (begun begun' : ℕ) → MeetsConflict a → CountsAttempt a begun begun'
    → begun' ≡ begun + 1
conflict-began (Done r) begun begun' met counted = absurd met
conflict-began (Stopped (Conflict shown)) begun begun' met counted = counted
conflict-began (Stopped (Limit limit)) begun begun' met counted = absurd met
conflict-began (Stopped NoMemory) begun begun' met counted = absurd met

-- an attempt after so many others that ends them, and that it began one at most
pub ends-attempts : {R : Type 0} (a : Attempt R) (first tried most begun begun' : ℕ) → (MeetsConflict a → ⊥)
    → begun ≡ first + tried → tried < most → CountsAttempt a begun begun' → IsEndOfAttempts a most first begun'
ends-attempts (Done r) first tried most begun begun' not was few counted = (omega arith, omega arith)
ends-attempts (Stopped (Conflict shown)) first tried most begun begun' not was few counted = absurd (not tt)
ends-attempts (Stopped (Limit limit)) first tried most begun begun' not was few counted =
    (omega (arith, counted.0), omega (arith, counted.1))
ends-attempts (Stopped NoMemory) first tried most begun begun' not was few counted =
    (omega (arith, counted.0), omega (arith, counted.1))

pub began-one : {R : Type 0} (a : Attempt R) (begun begun' : ℕ) → CountsAttempt a begun begun' → begun' ≤ begun + 1
began-one (Done r) begun begun' counted = omega (arith, counted)
began-one (Stopped s) begun begun' counted = (stop_counted s begun begun' counted).1

-- what is aborted is decided
aborted-fates : (tag : ℕ) (ps : List (Entry × Fate)) → AreAborted tag ps → AreDecided ps
aborted-fates tag [] all = tt
aborted-fates tag (p ∷ ps) all = ((λ e. cc (sym all.0.1 ∙ e)), aborted-fates tag ps all.1)

aborted-append : (tag : ℕ) (ps qs : List (Entry × Fate)) → AreAborted tag ps → AreAborted tag qs → AreAborted tag (ps ++ qs)
aborted-append tag [] qs a b = b
aborted-append tag (p ∷ ps) qs a b = (a.0, aborted-append tag ps qs a.1 b)

-- what one attempt that stopped added
aborted-one : (tag : ℕ) (ps : List (Entry × Fate)) → NoneOrAborted tag ps → AreAborted tag ps
aborted-one tag [] h = tt
aborted-one tag (p ∷ []) h = (h, tt)
aborted-one tag (p ∷ q ∷ ps) h = absurd h

-- and how much that is
one-few : (tag : ℕ) (ps : List (Entry × Fate)) → NoneOrAborted tag ps → length ps < 2
one-few tag [] h = omega arith
one-few tag (p ∷ []) h = omega arith
one-few tag (p ∷ q ∷ ps) h = absurd h

-- no attempt was made yet
pub stop-none : (tag : ℕ) (f : Front) → length f.known ≡ length f.seen → AllStop tag 0 f f
stop-none tag f fated = record {
  begins = begins-self f;
  fated = fated;
  lanes = refl;
  pending = refl;
  own = subst (AreAborted tag) (sym (entries-none f.lanes f.seen f.known)) tt;
  few = omega (arith, ap length (entries-none f.lanes f.seen f.known));
  mine = λ lane. refl;
}

module _ (tag n : ℕ) (f g h : Front) (all : AllStop tag n f g) where
  -- what joins after attempts that stopped follows what they added
  own-more : BeginsOn g.lanes g h → h.lanes ≡ g.lanes
      → own_after (length f.seen) h ≡ own_after (length f.seen) g ++ own_after (length g.seen) h
  own-more begins lanes =
      let before : length g.seen ≡ length f.seen + length all.begins.seen.rest =
      ap length all.begins.seen.is ∙ length-append f.seen all.begins.seen.rest in
      ap (λ ls. entries_after (length f.seen) ls h) lanes
      ∙ entries-more (length f.seen) g.lanes g h all.fated begins.seen begins.known (omega arith)
      (aborted-fates tag (own_after (length f.seen) g) all.own)
      ∙ ap (λ ls. own_after (length f.seen) g ++ entries_after (length g.seen) ls h) (sym lanes)

  -- one attempt more stopped
  pub stop-more : (m : ℕ) → n < m → Stops tag g h → AllStop tag m f h
  stop-more m low s =
      let ps = own_after (length f.seen) g in
      let qs = own_after (length g.seen) h in
      let is = own-more s.begins s.lanes in
      record {
        begins = begins-trans f g h all.begins (subst (λ ls. BeginsOn ls g h) all.lanes s.begins);
        fated = s.fated;
        lanes = s.lanes ∙ all.lanes;
        pending = s.pending ∙ all.pending;
        own = subst (AreAborted tag) (sym is) (aborted-append tag ps qs all.own (aborted-one tag qs s.own));
        few = omega (arith, low, ap length is, length-append ps qs, all.few, one-few tag qs s.own);
        mine = λ lane. s.mine lane ∙ all.mine lane;
      }

  -- the last attempt was committed
  commit-last : {R : Type 0} (did : List Act → R → Type 0) (r : R) (m : ℕ) → n < m → Commits did tag r g h
      → CommitsAtLast did tag m r f h
  commit-last did r m low s = record {
    begins = begins-trans f g h all.begins (subst (λ ls. BeginsOn ls g h) all.lanes s.begins);
    fated = s.fated;
    lanes = s.lanes ∙ all.lanes;
    pending = s.pending ∙ all.pending;
    entry = s.entry;
    aborted = own_after (length f.seen) g;
    own = own-more s.begins s.lanes ∙ ap (λ qs. own_after (length f.seen) g ++ qs) s.own;
    before_it = all.own;
    few = omega (arith, low, all.few);
    before = s.before;
    last = s.last;
    tagged = s.tagged;
    did_it = s.did_it;
    mine = λ lane. s.mine lane ∙ ap (λ es. cond (lane == s.entry.lane) (es ++ s.entry ∷ []) es) (all.mine lane);
  }

  -- whichever way it ended
  pub commit-end : {R : Type 0} (did : List Act → R → Type 0) (a : Attempt R) (m : ℕ) → n < m
      → IfCommitted a (λ r. Commits did tag r g h) → IfCommitted a (λ r. CommitsAtLast did tag m r f h)
  commit-end did (Done r) m low s = commit-last did r m low s
  commit-end did (Stopped s) m low _ = tt

  pub stop-end : {R : Type 0} (a : Attempt R) (m : ℕ) → n < m → IfStopped a (λ _. Stops tag g h)
      → IfStopped a (λ _. AllStop tag m f h)
  stop-end (Done r) m low _ = tt
  stop-end (Stopped s) m low h = stop-more m low h

-- what may stop an attempt, by its three parts
pub may-stop : {E P R : Type 0} (e : EngineWords E P) (engine : E) (makes : List Act → Type 0) (old : P) (a : Attempt R)
    → IfStopped a (e.may_stop engine) → ((e.front old).lanes ≡ e.lanes engine → IfStopped a IsNoConflict)
    → (e.fresh engine old → 1 ≤ (e.limits engine).tries
    → IsSmall (bounds_in (e.limits engine)) makes (e.start engine) → IfStopped a (λ s. s ≡ NoMemory))
    → IfStopped a (MayStop e engine makes old)
may-stop e engine makes old (Done r) may alone small = tt
may-stop e engine makes old (Stopped s) may alone small = record { may_stop = may; alone = alone; small = small }
