-- The first attempt of a fresh store commits, if the acts that its body makes are few.
use Rattle.std.proofs.Common.{◌≡◌, ◌≢◌, ◌≤◌, ◌<◌, ◌⊎◌, ◌++◌, ◌∷◌, ◌∙◌, ℕ, Bool, List, [], length, Option, Some, refl, ap, subst, inl, inr, ⊎_elim, arith}
use Rattle.std.specs.List.{Contains, sum_by}
use Rattle.std.proofs.lemmas.List.Sums.{sum_by-cons}
use Rattle.md_history.specs.declared.acts.Act.{Act}
use Rattle.md_history.specs.declared.acts.Reply.{Reply}
use Rattle.md_history.specs.declared.stops.Limit.TheVariants.{Nodes, Reads, Tries, Worn, Writes}
use Rattle.md_history.specs.declared.stops.Stop.{Stop}
use Rattle.md_history.specs.declared.stops.Stop.TheVariants.{Conflict, Limit, NoMemory}
use Rattle.md_history.specs.Act.{act_of}
use Rattle.md_history.specs.Calls.{MayReply, Refusal}
use Rattle.md_history.specs.Counts.{AreFew, IsSmall, nodes}
use Rattle.md_history.specs.Engine.{IsNoConflict, bounds_in}
use Rattle.md_history.specs.Front.{Front}
use Rattle.md_history.specs.History.{kept_acts}
use Rattle.md_history.specs.State.{IsRight, run}
use Rattle.md_machine.proofs.lists.Rising.{here}
use Rattle.md_arena.specs.Left.{HasTryLeft, NoLane}
use Rattle.md_nbtc_law.specs.State.{TxnState}
use Rattle.md_rule.specs.Views.{FieldView, PassState}
use Rattle.md_store_bodies.specs.Counted.{MayFollow, NeedMore}
use Rattle.md_store_bodies.specs.Laws.{fresh_is, fresh_takes, of_is}
use Rattle.md_store_bodies.specs.Running.{IsRunning}
use Rattle.md_store_bodies.specs.Store.{IsFresh, IsPassOf, IsUnworn, all_lanes, front_in, limits_of, start_of}
use Rattle.md_store.proofs.Attempts.{cause, exceeded, refused_to}

-- a limit of what acts count
abbrev IsCountLimit : Stop → Type 0
IsCountLimit s = (s ≡ Limit Reads) ⊎ ((s ≡ Limit Writes) ⊎ (s ≡ Limit Nodes))

-- a stop is one, or has another cause
count_or : (s : Stop) → IsNoConflict s → IsUnworn s → s ≢ Limit Tries → s ≢ NoMemory → IsCountLimit s
count_or (Conflict shown) conflict worn tries memory = absurd (conflict shown refl)
count_or (Limit Reads) conflict worn tries memory = inl refl
count_or (Limit Writes) conflict worn tries memory = inr (inl refl)
count_or (Limit Nodes) conflict worn tries memory = inr (inr refl)
count_or (Limit Tries) conflict worn tries memory = absurd (tries refl)
count_or (Limit (Worn word count)) conflict worn tries memory = absurd (worn word count refl)
count_or NoMemory conflict worn tries memory = absurd (memory refl)

first_of : (xs : List ℕ) → 0 < length xs → (x : ℕ) × Contains xs x
first_of [] some = absurd (omega (arith, some))
first_of (x ∷ xs) some = (x, here x xs)

-- nothing is kept of an empty history
none_kept : (choice : List Bool) → kept_acts [] choice ≡ []
none_kept [] = refl
none_kept (k ∷ ks) = refl

-- some lanes have as many nodes as one at least
one_lane : (n : ℕ) (lanes : List ℕ) → 0 < length lanes → n ≤ sum_by (λ (lane : ℕ). n) lanes
one_lane n [] some = absurd (omega (arith, some))
one_lane n (lane ∷ lanes) some = let sum = sum_by-cons (λ (x : ℕ). n) lane lanes in omega (arith, sum)

module _ (f : FieldView) (p : PassState) (of : IsPassOf f p) (fresh : IsFresh p) where
  -- a fresh pass holds all lanes, and each has its attempts
  pub holds_lanes : (front_in p).lanes ≡ all_lanes f.origin.shape
  holds_lanes = ap (λ (x : Front). x.lanes) (fresh_is f p of fresh).0

  pub has_try : 1 ≤ f.origin.shape.tries → ¬ NoLane p (HasTryLeft p)
  has_try tries none =
      let lane = first_of p.view.lanes (of_is f p of).some in
      let taken = (fresh.unused lane.0).tries in
      let shape = ap (λ s. s.tries) of.of.shape in
      none lane.0 lane.1 (omega (arith, tries, taken, shape))

  -- what may follow what it has seen is right from the start
  from_start : (acts : List Act) → MayFollow f p acts → IsRight (start_of f) acts
  from_start acts m =
      subst (λ (kept : List Act). IsRight (run (start_of f) kept) acts)
      (ap (λ (x : Front). kept_acts x.seen m.choice) (fresh_is f p of fresh).0 ∙ none_kept m.choice) m.right

  -- it has all nodes of a lane at least
  has_nodes : (acts : List Act) → NeedMore p acts → f.origin.shape.nodes < nodes acts
  has_nodes acts more =
      let none = fresh_takes p fresh in
      let all = one_lane p.shape.nodes p.view.lanes (of_is f p of).some in
      let size = ap (λ s. s.nodes) of.of.shape in
      omega (arith, more, none, all, size)

  -- no operation was refused whose body makes few acts
  pub none_refused : (u : TxnState) (r : Option Refusal) (run : IsRunning p u r) → u.field ≡ f → (refusal : Refusal) → r ≡ Some refusal → IsUnworn refusal.stop
      → (makes : List Act → Type 0) → IsSmall (bounds_in (limits_of f.origin.shape)) makes (start_of f)
      → ((q : Reply) → MayReply refusal.op q → makes (u.hand.acts ++ act_of refusal.op q ∷ [])) → ⊥
  none_refused u r run field refusal is unworn makes small made =
      let why = cause f p of u r run field refusal is in
      let e = exceeded f p of u r run field refusal is holds_lanes in
      let few : (q : Reply) → MayReply refusal.op q → MayFollow f p (u.hand.acts ++ act_of refusal.op q ∷ [])
      → AreFew (bounds_in (limits_of f.origin.shape)) (u.hand.acts ++ act_of refusal.op q ∷ []) =
      λ q may follows. small (u.hand.acts ++ act_of refusal.op q ∷ []) (made q may) (from_start (u.hand.acts ++ act_of refusal.op q ∷ []) follows) in
      ⊎_elim
      (λ (reads : refusal.stop ≡ Limit Reads). let x = e.reads reads in let most = (few x.reply x.may x.such.0).reads in let more = x.such.1 in omega (arith, most, more))
      (⊎_elim
      (λ (writes : refusal.stop ≡ Limit Writes). let x = e.writes writes in let most = (few x.reply x.may x.such.0).writes in let more = x.such.1 in omega (arith, most, more))
      (λ (nodes : refusal.stop ≡ Limit Nodes). let x = e.nodes nodes in let most = (few x.reply x.may x.such.0).nodes in
      let more = has_nodes (u.hand.acts ++ act_of refusal.op x.reply ∷ []) x.such.1 in omega (arith, most, more)))
      (count_or refusal.stop (refused_to f p of u r run field refusal is holds_lanes) unworn why.no_tries why.no_memory)
