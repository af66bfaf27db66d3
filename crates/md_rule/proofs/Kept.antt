-- What a pass keeps of a lane is kept over each event that does no more to the lane than `LaneGoes` says.
use Rattle.std.proofs.Common.{◌≡◌, ◌≢◌, ◌⊎◌, ℕ, ◌<◌, ◌≤◌, true, false, Some, None, refl, sym, ap, ◌∙◌, subst, inl, inr, ⊎_elim, arith}
use Rattle.std.specs.List.{Contains}
use Rattle.std.proofs.lemmas.Bool.{cases_Bool, cases_lt, false≢true}
use Rattle.md_words.specs.declared.limits.TheConstants.{SET}
use Rattle.md_words.specs.declared.shape.Shape.{Shape}
use Rattle.md_words.specs.Content.{spot_of, value_of}
use Rattle.md_words.specs.Lanes.{OwnsNode, node_of}
use Rattle.md_words.specs.Layout.{address, desc_count}
use Rattle.md_words.specs.Place.{node_next}
use Rattle.md_words.specs.Status.{serial_of, status_of}
use Rattle.md_words.specs.declared.status.Status.{Status}
use Rattle.md_words.specs.declared.status.Status.TheVariants.{InPrep, InProg, Committed, Aborted}
use Rattle.md_words.proofs.Owners.{one_desc, owner_of_desc, owner_of_node}
use Rattle.md_machine.specs.declared.attempt.AttemptId.{AttemptId}
use Rattle.md_machine.specs.declared.attempt.HistoryEntry.{HistoryEntry}
use Rattle.md_machine.specs.declared.pass.PassView.{PassView}
use Rattle.md_machine.specs.Event.{Does, Event, abort}
use Rattle.md_machine.specs.FreeToReturn.{KnowsFree}
use Rattle.md_machine.specs.GoesOn.{MachineGoesOn}
use Rattle.md_machine.specs.Installs.{spot_of_install}
use Rattle.md_machine.specs.Machine.{Install, IsAt, IsPresentIn, Machine, attempt_of, present, shape_of, status_at, was_begun}
use Rattle.md_machine.specs.Meaning.{Meaning}
use Rattle.md_machine.specs.Own.{HasDesc}
use Rattle.md_machine.specs.Resolution.{structure_in}
use Rattle.md_machine.specs.Theorem.{IsKept}
use Rattle.md_machine.specs.Trail.{EveryStepOf}
use Rattle.md_machine.specs.clauses.words.Statuses.{StatusCame, leads_to}
use Rattle.md_machine.specs.events.Decide.{HasMet}
use Rattle.md_machine.specs.events.Install.{installed_word}
use Rattle.md_machine.specs.events.Start.{IsClean, WonInstall}
use Rattle.md_machine.proofs.clauses.nodes.KnowsFree.{free_after}
use Rattle.md_machine.proofs.clauses.passes.BegunNoLater.{later_is_new, new_is_first}
use Rattle.md_machine.proofs.clauses.passes.LanesApart.{at_once}
use Rattle.md_machine.proofs.clauses.slots.CleanAfter.{clean_after}
use Rattle.md_machine.proofs.events.Moves.{own_exists}
use Rattle.md_rule.specs.InHand.{HoldsDesc}
use Rattle.md_rule.specs.Kept.{KeepsLane, MetNoLater}
use Rattle.md_rule_lanes.specs.declared.shares.Share.{Share}
use Rattle.md_rule.proofs.FirstAttempts.{AbortsOwn, FirstsFit, IsFirstUnready, never_met, still_unready}

-- an abort is of no lane that has begun no attempt, unless its descriptor was met
abbrev pub Spares : Shape → Event → PassView → (lane : ℕ) → Share → Type 0
Spares shape (abort pass desc from) p lane share = desc ≡ lane → (0 < share.tries_taken) ⊎ HasMet shape p desc
Spares shape _ p lane share = Unit {0}

into_prep : (s : Status) → leads_to s InPrep ≡ true → s ≡ InPrep
into_prep InPrep h = refl
into_prep InProg h = absurd (false≢true h)
into_prep Committed h = absurd (false≢true h)
into_prep Aborted h = absurd (false≢true h)

-- only itself came to the status of a first attempt in preparation
unready_same : (now held : ℕ) → serial_of now ≡ 0 → status_of now ≡ InPrep → StatusCame held now → held ≡ now
unready_same now held zero prep came = ⊎_elim
    (λ less. absurd (omega (arith, less, zero)))
    (λ one. one.same (into_prep (status_of held) (subst (λ s. leads_to (status_of held) s ≡ true) prep one.leads) ∙ sym prep))
    came

-- what is kept of a lane, in a machine in which its holder stands: of the serial that is there and the present attempt
pub record FitsLane (m : Machine) (p : PassView) (share : Share) (lane : ℕ) : Type 0 where
  pub serial : (serial_of (status_at m lane) ≡ 0) ⊎ (serial_of (status_at m lane) < share.tries_taken)
  pub first : share.tries_taken ≡ 0 → was_begun m.begun (attempt_of lane 0) ≡ false
  pub unready : share.tries_taken ≡ 0 → status_of (status_at m lane) ≡ InPrep
  pub clean : share.left_open ≡ false → IsClean p (present m lane)
  pub slots : EveryStepOf p (λ s. WonInstall (present m lane) s → (spot_of (value_of s.after)).slot < share.slots_written)

module _ (m : Machine) (k : IsKept m) (pass : ℕ) (p : PassView) (at : IsAt m pass p) (lane : ℕ) (held : Contains p.lanes lane) where
  abbrev now : ℕ
  now = serial_of (status_at m lane)

  exists : lane < (shape_of m).lanes
  exists = k.lanes.exists pass lane (p, at, held)

  pub own_desc : HasDesc (shape_of m) p lane
  own_desc = (lane, held, (one_desc (shape_of m) lane lane exists).1 refl)

  pub inside : lane < desc_count (shape_of m)
  inside = own_exists m p lane own_desc

  came_no_later : (old : ℕ) → StatusCame old (status_at m lane) → serial_of old ≤ now
  came_no_later old came = ⊎_elim (λ less. omega (arith, less)) (λ same. let e = same.serial in omega (arith, e)) came

  -- no step met a status that is later than the one that is there, and that one was met, if it isn't the first
  pub met_no_later : MetNoLater (shape_of m) p lane now
  met_no_later segment c s i found meets = ⊎_elim
      (λ f. subst (λ h. serial_of h ≤ now) f.before (came_no_later s.before (k.statuses pass p at segment c s i lane inside f.there).before))
      (λ l. subst (λ h. serial_of h ≤ now) l.after (came_no_later s.after (k.statuses pass p at segment c s i lane inside l.there).after))
      meets

  pub no_less : (serial : ℕ) → MetNoLater (shape_of m) p lane serial → now ≤ serial
  no_less serial met = ⊎_elim
      (λ zero. omega (arith, zero))
      (λ some. let it = some.2.2 in let less = met some.0 some.1 some.2.0 some.2.1 it.0 it.1 in let is = it.2 in omega (arith, less, is))
      (k.own_serials pass p at lane own_desc)

  -- no step was made for a later attempt
  pub none_later : (serial : ℕ) → now < serial → EveryStepOf p (λ s. ¬ WonInstall (attempt_of lane serial) s)
  none_later serial less segment c s i won =
      let no = (k.begun_no_later (attempt_of lane serial) (k.steps_begun pass p at segment c s i (attempt_of lane serial) won.attempt)).1 in omega (arith, less, no)

  -- so what holds of the present attempt holds of each that may be
  pub each_later : (P : ℕ → Type 0) → P now → ((serial : ℕ) → now < serial → P serial) → (serial : ℕ) → MetNoLater (shape_of m) p lane serial → P serial
  each_later P present later serial met = ⊎_elim
      (λ less. later serial less)
      (λ not. let most = no_less serial met in subst P (omega (arith, most, not)) present)
      (cases_lt now serial)

  module _ (share : Share) where
    pub serial_there : KeepsLane (shape_of m) p share lane → (now ≡ 0) ⊎ (now < share.tries_taken)
    serial_there keeps = ⊎_elim inl
        (λ some. let it = some.2.2 in subst (λ n. (n ≡ 0) ⊎ (n < share.tries_taken)) it.2 (keeps.serials some.0 some.1 some.2.0 some.2.1 it.0 it.1))
        (k.own_serials pass p at lane own_desc)

    -- the serial is 0 where no attempt was taken
    pub none_there : (now ≡ 0) ⊎ (now < share.tries_taken) → share.tries_taken ≡ 0 → now ≡ 0
    none_there serial none = ⊎_elim (λ zero. zero) (λ less. absurd (omega (arith, less, none))) serial

    pub unbegun : KeepsLane (shape_of m) p share lane → share.tries_taken ≡ 0 → was_begun m.begun (attempt_of lane 0) ≡ false
    unbegun keeps none = let new = keeps.first none in new_is_first m k pass p at (attempt_of lane 0) own_desc (record { pending = new.pending; steps = new.steps })

    pub fits : FirstsFit m → KeepsLane (shape_of m) p share lane → FitsLane m p share lane
    fits firsts keeps = record {
      serial = serial_there keeps;
      first = unbegun keeps;
      unready = λ none. firsts.unready pass p at lane own_desc (unbegun keeps none) (none_there (serial_there keeps) none) (keeps.untouched none);
      clean = λ closed. keeps.clean closed now met_no_later;
      slots = keeps.slots now met_no_later;
    }

    pub keeps : share.tries_taken ≤ (shape_of m).tries
        → ((node : ℕ) → OwnsNode (shape_of m) lane node → node_of (shape_of m) lane share.nodes_taken ≤ node → KnowsFree (shape_of m) p node)
        → share.slots_written ≤ SET → (HoldsDesc p lane → share.left_open ≡ true) → FitsLane m p share lane → KeepsLane (shape_of m) p share lane
    keeps tries free few hand f = record {
      tries = tries;
      free = free;
      serials = λ segment c s i found meets. let met = met_no_later segment c s i found meets in ⊎_elim
          (λ zero. inl (omega (arith, zero, met)))
          (λ less. inr (omega (arith, less, met)))
          f.serial;
      first = λ none. let new = later_is_new m k pass p at (attempt_of lane 0) (λ was. false≢true (sym (f.first none) ∙ was)) in
          record { pending = new.pending; steps = new.steps };
      untouched = λ none segment c s i there.
          let met = k.statuses pass p at segment c s i lane inside there in
          let same = unready_same (status_at m lane) in
          let zero = none_there f.serial none in
          same s.before zero (f.unready none) met.before ∙ sym (same s.after zero (f.unready none) met.after);
      clean = λ closed. each_later (λ serial. IsClean p (attempt_of lane serial)) (f.clean closed)
          (λ serial less segment c s i won. absurd (none_later serial less segment c s i won));
      slots = each_later (λ serial. EveryStepOf p (λ s. WonInstall (attempt_of lane serial) s → (spot_of (value_of s.after)).slot < share.slots_written)) f.slots
          (λ serial less segment c s i won. absurd (none_later serial less segment c s i won));
      few = few;
      hand = hand;
    }

-- a node of the lane that wasn't taken
abbrev pub IsLeftOf : Shape → Share → (lane node : ℕ) → Type 0
IsLeftOf shape share lane node = OwnsNode shape lane node × (node_of shape lane share.nodes_taken ≤ node)

-- an install that an event makes: in no next word of a node that is left, and one of the lane's descriptor is left open and
-- counted
pub record IsCountedInstall (shape : Shape) (before after : Share) (lane : ℕ) (i : Install) : Type 0 where
  pub avoids : (node : ℕ) → IsLeftOf shape before lane node → i.word ≢ address shape (node_next node)
  pub left_open : i.attempt.desc ≡ lane → after.left_open ≡ true
  pub counted : i.attempt.desc ≡ lane → (spot_of (value_of (installed_word i.old (spot_of_install i)))).slot < after.slots_written

-- the descriptor keeps its attempt, whose slots stay counted, and which is closed only if it was or is clean
pub record Continues (m n : Machine) (p : PassView) (before after : Share) (lane : ℕ) : Type 0 where
  pub serial : serial_of (status_at n lane) ≡ serial_of (status_at m lane)
  pub slots : before.slots_written ≤ after.slots_written
  pub closed : after.left_open ≡ false → (before.left_open ≡ false) ⊎ IsClean p (present m lane)

-- or it begins another one that was taken, and for which no step was made
pub record Begins (n : Machine) (u : PassView) (after : Share) (lane : ℕ) : Type 0 where
  pub serial : serial_of (status_at n lane) < after.tries_taken
  pub steps : EveryStepOf u (λ s. s.attempt ≢ Some (present n lane))

-- what an event may do to a lane
pub record LaneGoes (m n : Machine) (p u : PassView) (before after : Share) (lane : ℕ) : Type 0 where
  pub nodes : after.nodes_taken ≡ before.nodes_taken
  pub tries : after.tries_taken ≡ before.tries_taken
  pub installs : (i : Install) → Contains n.installs i → Contains m.installs i ⊎ IsCountedInstall (shape_of m) before after lane i
  pub entries : (node : ℕ) → IsLeftOf (shape_of m) before lane node → (x : HistoryEntry) → Contains n.history x
      → Contains m.history x ⊎ (structure_in x.placed node ≡ None)
  pub begun : was_begun n.begun (attempt_of lane 0) ≡ true → (was_begun m.begun (attempt_of lane 0) ≡ true) ⊎ (0 < after.tries_taken)
  pub status : Continues m n p before after lane ⊎ Begins n u after lane
  pub few : before.slots_written ≤ SET → after.slots_written ≤ SET
  pub hand : HoldsDesc u lane → after.left_open ≡ true

-- by such an event, whoever holds the lane keeps it
module _ (M : Meaning) (m n : Machine) (e : Event) (km : IsKept m) (kn : IsKept n) (on : MachineGoesOn m n) (does : Does M m e n)
    (pass j : ℕ) (p u : PassView) (at : IsAt m pass p) (u_at : IsAt n j u) (lane : ℕ) (held : Contains p.lanes lane) (u_held : Contains u.lanes lane)
    (before after : Share) (goes : LaneGoes m n p u before after lane) (firsts : FirstsFit m) (spares : Spares (shape_of m) e p lane before)
    (kept : KeepsLane (shape_of m) p before lane) where
  f : FitsLane m p before lane
  f = fits m km pass p at lane held before firsts kept

  same_shape : shape_of n ≡ shape_of m
  same_shape = ap (λ o. o.shape) on.opening

  u_own : HasDesc (shape_of m) u lane
  u_own = subst (λ s. HasDesc s u lane) same_shape (own_desc n kn j u u_at lane u_held)

  -- who holds the lane in the machine before is this pass
  holder : (Q : PassView → Type 0) → Q p → (i : ℕ) (q : PassView) → IsAt m i q → Contains q.lanes lane → Q q
  holder Q own i q q_at c =
      let one = km.lanes.once i pass lane (q, q_at, c) (p, at, held) in
      subst Q (sym (at_once m.passes pass q p (subst (λ x. IsAt m x q) one q_at) at)) own

  lane_of : (node other : ℕ) → OwnsNode (shape_of m) lane node → OwnsNode (shape_of m) other node → other ≡ lane
  lane_of node other owns own = sym ((owner_of_node (shape_of m) other node).0 own).2 ∙ ((owner_of_node (shape_of m) lane node).0 owns).2

  still_free : (node : ℕ) → IsLeftOf (shape_of m) before lane node → KnowsFree (shape_of m) u node
  still_free node left = free_after M m n e km kn on does node
      (λ i c is. ⊎_elim (λ old. old) (λ new. absurd (new.avoids node left is)) (goes.installs i c))
      (goes.entries node left)
      (λ i q q_at own. holder (λ q. KnowsFree (shape_of m) q node) (kept.free node left.0 left.1) i q q_at (subst (Contains q.lanes) (lane_of node own.0 left.0 own.2) own.1))
      j u u_at (lane, u_held, left.0)

  module _ (c : Continues m n p before after lane) where
    same_attempt : present m lane ≡ present n lane
    same_attempt = ap (attempt_of lane) (sym c.serial)

    still_clean : after.left_open ≡ false → IsClean u (present n lane)
    still_clean closed =
        let was : IsClean p (present m lane) = ⊎_elim f.clean (λ clean. clean) (c.closed closed) in
        subst (IsClean u) same_attempt (clean_after M m n e km kn does lane
        (λ i made is. ⊎_elim (λ old. old) (λ new. absurd (false≢true (sym closed ∙ new.left_open (ap (λ (a : AttemptId). a.desc) is)))) (goes.installs i made))
        (λ i q q_at own. holder (λ q. IsClean q (present m lane)) was i q q_at (subst (Contains q.lanes) (lane_of_own q own) own.1))
        j u u_at u_own)
      where
        lane_of_own : (q : PassView) → (own : HasDesc (shape_of m) q lane) → own.0 ≡ lane
        lane_of_own q own = sym ((owner_of_desc (shape_of m) own.0 lane).0 own.2).1 ∙ ((owner_of_desc (shape_of m) lane lane).0 ((one_desc (shape_of m) lane lane (km.lanes.exists pass lane (p, at, held))).1 refl)).1

    still_counted : EveryStepOf u (λ s. WonInstall (present n lane) s → (spot_of (value_of s.after)).slot < after.slots_written)
    still_counted segment has s inside won =
        let made = kn.won_installs j u u_at segment has s inside (present n lane) won in
        let i = made.0 in let is = made.2 in
        let desc : i.attempt.desc ≡ lane = ap (λ (a : AttemptId). a.desc) is.attempt in ⊎_elim
        (λ old. let shown = km.own_installs i old (now_present i is.attempt) pass p at (subst (HasDesc (shape_of m) p) (sym desc) (own_desc m km pass p at lane held)) in
        let t = shown.2.0 in let it = shown.2.2 in let more = c.slots in
        let less = f.slots shown.0 shown.1 t shown.2.1 (subst (λ a. WonInstall a t) (is.attempt ∙ sym same_attempt) it.0) in
        subst (λ w. (spot_of (value_of w)).slot < after.slots_written) (it.1.left ∙ sym is.left) (omega (arith, less, more)))
        (λ new. subst (λ w. (spot_of (value_of w)).slot < after.slots_written) (sym is.left) (new.counted desc))
        (goes.installs i made.1)
      where
        now_present : (i : Install) → i.attempt ≡ present n lane → IsPresentIn (shape_of m) m.words i.attempt
        now_present i is = ap (λ (a : AttemptId). a.serial) is ∙ c.serial ∙ ap (λ d. serial_of (status_at m d)) (sym (ap (λ (a : AttemptId). a.desc) is))

  serial_then : (serial_of (status_at n lane) ≡ 0) ⊎ (serial_of (status_at n lane) < after.tries_taken)
  serial_then = ⊎_elim
      (λ (c : Continues m n p before after lane). subst (λ t. (serial_of (status_at n lane) ≡ 0) ⊎ (serial_of (status_at n lane) < t)) (sym goes.tries)
      (subst (λ x. (x ≡ 0) ⊎ (x < before.tries_taken)) (sym c.serial) f.serial))
      (λ b. inr b.serial)
      goes.status

  module _ (none : before.tries_taken ≡ 0) where
    unready : IsFirstUnready m lane
    unready = record { unbegun = f.first none; serial = none_there m km pass p at lane held before f.serial none; unready = f.unready none }

    -- no attempt of the lane was taken, and nobody met its descriptor: so it isn't aborted
    spared : (d : Event) → Spares (shape_of m) d p lane before → AbortsOwn m d lane → ⊥
    spared (abort i desc from) may (same, _) = ⊎_elim
        (λ some. omega (arith, some, none))
        (λ met. never_met m km lane (inside m km pass p at lane held) unready firsts.found pass p at (subst (HasMet (shape_of m) p) same met))
        (may same)
    spared _ may own = own

    unready_then : serial_of (status_at n lane) ≡ 0 → status_of (status_at n lane) ≡ InPrep
    unready_then zero = ⊎_elim (λ r. r) (λ own. absurd (spared e spares own))
        (still_unready m km lane (inside m km pass p at lane held) unready n firsts.found M e does zero)

  still_fits : FitsLane n u after lane
  still_fits = record {
    serial = serial_then;
    unready = λ none. unready_then (sym goes.tries ∙ none) (none_there n kn j u u_at lane u_held after serial_then none);
    first = λ none. ⊎_elim
        (λ was. ⊎_elim
        (λ old. absurd (false≢true (sym (f.first (sym goes.tries ∙ none)) ∙ old)))
        (λ some. absurd (omega (arith, some, none)))
        (goes.begun was))
        (λ no. no)
        (cases_Bool (was_begun n.begun (attempt_of lane 0)));
    clean = λ closed. ⊎_elim
        (λ c. still_clean c closed)
        (λ b segment c s i won. absurd (b.steps segment c s i won.attempt))
        goes.status;
    slots = ⊎_elim
        still_counted
        (λ b segment c s i won. absurd (b.steps segment c s i won.attempt))
        goes.status;
  }

  pub still_kept : KeepsLane (shape_of m) u after lane
  still_kept = subst (λ s. KeepsLane s u after lane) same_shape
      (keeps n kn j u u_at lane u_held after
      (let t = goes.tries in let most = kept.tries in subst (λ s. after.tries_taken ≤ s.tries) (sym same_shape) (omega (arith, t, most)))
      (λ node owns more. subst (λ s. KnowsFree s u node) (sym same_shape)
      (still_free node (subst (λ s. OwnsNode s lane node) same_shape owns, subst (λ s. node_of s lane before.nodes_taken ≤ node) same_shape (subst (λ t. node_of (shape_of n) lane t ≤ node) goes.nodes more))))
      (goes.few kept.few) goes.hand still_fits)
