-- Counts stay low in a field that has nothing to tidy, while no transaction is ready.
use Rattle.md_words.specs.Layout.{address}
use Rattle.std.proofs.Common.{◌≡◌, ◌≢◌, ◌≤◌, ◌<◌, ◌+◌, ◌-◌, ◌/◌, ◌*◌, ◌==◌, ◌&&◌, ℕ, Bool, true, false, not, cond, IsTrue, List, [], ◌∷◌, ◌++◌, length, set, get_or, refl, sym, ap, ◌∙◌, subst, inl, inr, ⊎_elim, eq-eqb, ne_eqb, get_or-set_same, get_or-set_other, length-set, length-take, length-drop, arith}
use Rattle.std.specs.Prelude.{slice_index}
use Rattle.std.specs.List.{Contains}
use Rattle.std.proofs.lemmas.Bool.{cases_eq, false≢true, true≢false}
use Rattle.std.proofs.lemmas.List.Elements.{Contains-append_left, Contains-push, Contains-push_cases}
use Rattle.md_words.specs.declared.shape.Shape.{Shape}
use Rattle.md_words.specs.Content.{count_of, is_even, spot_value}
use Rattle.md_words.specs.Place.{Place, base_word, bucket_head, queue_head, queue_tail, node_key, node_value, node_next, desc_status, read_word, read_content, slot_word, slot_old, slot_new, is_counted}
use Rattle.md_words.specs.PlaceAt.{place_at, IsCounted}
use Rattle.md_words.proofs.Words.{count_of-counted_word}
use Rattle.md_machine.specs.declared.attempt.AttemptId.{AttemptId}
use Rattle.md_machine.specs.declared.opening.Opening.{Opening}
use Rattle.md_machine.specs.declared.pass.PassView.{PassView}
use Rattle.md_machine.specs.declared.step.Step.{Step}
use Rattle.md_machine.proofs.Reached.{always_goes_on, always_kept}
use Rattle.md_machine.proofs.clauses.passes.LanesApart.{At}
use Rattle.md_machine.proofs.events.Leaves.{even_after_two, uninstall_even}
use Rattle.md_machine.proofs.events.MoveFacts.{MoveFacts}
use Rattle.md_machine.proofs.events.Moves.{Effect, Moves, PassesGo, by_exchange, by_fate, by_install, by_ready, by_start, by_stay, by_store, by_uninstall, does_move, goes_on, is_joined, is_split, own_exists}
use Rattle.md_machine.proofs.events.Steps.{HasStep}
use Rattle.md_machine.proofs.events.Tell.{tell}
use Rattle.md_machine.proofs.lists.At.{append_end, append_there, at_append, at_below, at_one, at_set, set_there}
use Rattle.md_machine.proofs.lists.Pairs.{EachPair, InPairs, pairs-kept, pairs_of}
use Rattle.md_machine.proofs.lists.Rising.{here, in_cons, in_none}
use Rattle.md_machine.specs.Event.{Acts, CanOpen, Does, Event, Plays, Runs, first_pass, opened}
use Rattle.md_machine.specs.Machine.{IsLive, Machine, content, shape_of}
use Rattle.md_machine.specs.Meaning.{Meaning}
use Rattle.md_machine.specs.Resolution.{logical_heap}
use Rattle.md_machine.specs.Theorem.{IsKept}
use Rattle.md_machine.specs.Trail.{segments}
use Rattle.md_machine.specs.declared.attempt.HistoryEntry.{HistoryEntry}
use Rattle.md_history.specs.Front.{IsPrefix}
use Rattle.md_machine.specs.Stepping.{step_of}
use Rattle.md_machine.specs.clauses.passes.Alone.{HoldsAll}
use Rattle.md_machine.specs.clauses.passes.Lanes.{HoldsLane}
use Rattle.md_machine.specs.events.SplitJoin.{MaySplit, given_lanes, given_part, joined_part, kept_lanes, kept_part}
use Rattle.md_machine.specs.events.Store.{MayStoreAt, MayStoreNext}
use Rattle.md_nbtc_first.specs.Calm.{AlwaysLow, HasNothingToTidy, IsLow, is_install, is_put, raises, IsMade}
use Rattle.md_machine.specs.Trail.{is_store}
use Rattle.md_words.specs.Lanes.{OwnsNode}
use Rattle.md_words.proofs.Places.{address-place_at}
use Rattle.md_machine.specs.Stepping.{attempt_in_hand}
use Rattle.md_nbtc_first.proofs.Agreeing.{store_owns, IsCalm, calm_after, no_status, none_enters, none_wins, opened_calm}
use Rattle.md_nbtc_first.proofs.Counting.{raises_install, raises_more, raises_store}

-- 1 where a descriptor stands, else 0
abbrev odd_of : ℕ → ℕ
odd_of held = cond (is_even (count_of held)) 0 1

odd_small : (held : ℕ) → odd_of held ≤ 1
odd_small held = small (is_even (count_of held))
  where
    small : (b : Bool) → cond b 0 1 ≤ 1
    small true = omega arith
    small false = omega arith

odd_even : (held : ℕ) → is_even (count_of held) ≡ true → odd_of held ≡ 0
odd_even held even = ap (λ b. cond b 0 1) even

odd_odd : (held : ℕ) → is_even (count_of held) ≡ false → odd_of held ≡ 1
odd_odd held odd = ap (λ b. cond b 0 1) odd

-- each count has risen by twice the steps that raise it at most, and by one less where a descriptor stands
abbrev Low : Opening → Machine → List Step → Type 0
Low o m steps = (word : ℕ) → IsCounted o.shape word
    → count_of (content m word) + odd_of (content m word) ≤ count_of (slice_index o.words word) + 2 * raises word steps

-- and each step was made as it may
abbrev LowCourse : Opening → Machine → List Step → Type 0
LowCourse o m steps = Low o m steps × ((s : Step) → Contains steps s → IsMade o.shape s)

-- of two steps on a counted word
abbrev Rise : Shape → Step → Step → Type 0
Rise shape s t = IsCounted shape s.word → t.word ≡ s.word → count_of s.after ≤ count_of t.before

-- a counted word that is stored is a next word
stored_next : (m : Machine) (p : PassView) (q : Place) (a : AttemptId) (old value : ℕ) → IsTrue (is_counted q) → MayStoreAt m p a old value q → MayStoreNext old value
stored_next m p (node_next node) a old value c may = may.1
stored_next m p base_word a old value c may = absurd may
stored_next m p (bucket_head _ _) a old value c may = absurd may
stored_next m p (queue_head _) a old value c may = absurd may
stored_next m p (queue_tail _) a old value c may = absurd may
stored_next m p (node_key _) a old value c may = absurd (false≢true c)
stored_next m p (node_value _) a old value c may = absurd (false≢true c)
stored_next m p (desc_status _) a old value c may = absurd may
stored_next m p (read_word _ _) a old value c may = absurd (false≢true c)
stored_next m p (read_content _ _) a old value c may = absurd (false≢true c)
stored_next m p (slot_word _ _) a old value c may = absurd (false≢true c)
stored_next m p (slot_old _ _) a old value c may = absurd (false≢true c)
stored_next m p (slot_new _ _) a old value c may = absurd (false≢true c)

-- a pass with a lane
some_lane : (lanes : List ℕ) → 0 < length lanes → (lane : ℕ) × Contains lanes lane
some_lane [] h = absurd (omega (arith, h))
some_lane (x ∷ xs) h = (x, here x xs)

module _ (M : Meaning) (o : Opening) (can : CanOpen M o) (tidied : HasNothingToTidy M (logical_heap (opened o) []))
    (m n : Machine) (k : IsKept m) (w : Moves M m n) (opening : m.opening ≡ o) (none : m.history ≡ []) (calm : IsCalm M o can m)
    (later : n.history ≡ []) where
  abbrev made : Step
  made = step_of m w.p w.kind w.word w.new

  counted_in : (word : ℕ) → IsCounted o.shape word → IsCounted (shape_of m) word
  counted_in word = subst (λ (x : Opening). IsCounted x.shape word) (sym opening)

  elsewhere : (word : ℕ) → word ≢ w.word → content n word ≡ content m word
  elsewhere word apart = ap (λ ws. get_or ws word 0) w.words ∙ get_or-set_other m.words w.word word w.new 0 apart

  there_now : (word : ℕ) → IsCounted o.shape word → word ≡ w.word → content n word ≡ w.new
  there_now word counted at =
      let inside = (counted_in word counted).0 in
      let field = k.formats.field in
      ap (λ ws. get_or ws word 0) w.words ∙ ap (λ x. get_or (set m.words w.word w.new) x 0) at
      ∙ get_or-set_same m.words w.word w.new 0 (omega (arith, at, inside, field))

  module _ (steps : List Step) (was : Low o m steps) (word : ℕ) (counted : IsCounted o.shape word) where
    abbrev Bound : ℕ → Type 0
    Bound held = count_of held + odd_of held ≤ count_of (slice_index o.words word) + 2 * raises word (steps ++ made ∷ [])

    -- what stood there before
    stays : Bound (content m word)
    stays = let before = was word counted in let more = raises_more word steps made in omega (arith, before, more)

    module _ (at : word ≡ w.word) where
      now_counted : IsCounted (shape_of m) w.word
      now_counted = subst (IsCounted (shape_of m)) at (counted_in word counted)

      same_word : (w.word == word) ≡ true
      same_word = eq-eqb w.word word (sym at)

      -- twice more is room for a rise by two
      one_more : raises word steps + 1 ≤ raises word (steps ++ made ∷ []) → (held : ℕ)
          → count_of held + odd_of held ≤ count_of (content m word) + 2 → odd_of (content m word) ≡ 0 → Bound held
      one_more more held small even = let before = was word counted in omega (arith, before, more, small, even)

      by_effect : Effect M m n w.p w.kind w.word w.new → Bound w.new
      by_effect (by_stay s) = subst Bound (ap (content m) at ∙ sym s.same) stays
      by_effect (by_store s) =
          let next = stored_next m w.p (place_at (shape_of m) w.word) s.hand.attempt (content m w.word) w.new now_counted.1 s.may.place in
          let was_even : is_even (count_of (content m word)) ≡ true = ap (λ x. is_even (count_of (content m x))) at ∙ next.even in
          let more = next.more in
          let old = ap (λ x. count_of (content m x)) at in
          let now_even = odd_even w.new (ap is_even more ∙ even_after_two _ next.even) in
          one_more (raises_store word steps made (ap (λ b. b && is_put w.kind) same_word ∙ ap is_put s.by)) w.new
          (omega (arith, more, old, now_even)) (odd_even (content m word) was_even)
      by_effect (by_install s) =
          let room = s.may.from_even.room in
          let old : content m word ≡ s.from = ap (content m) at ∙ s.was in
          let old_count = ap count_of old in
          let more : count_of w.new ≡ count_of s.from + 1 = ap count_of s.is ∙ count_of-counted_word (spot_value s.to) (count_of s.from + 1) (omega (arith, room)) in
          let differ : content m w.word ≢ w.new = λ e. let c = ap count_of (sym s.was ∙ e) in omega (arith, c, more) in
          let small = odd_small w.new in
          one_more (raises_install word steps made (ap (λ b. b && (is_install w.kind && not (content m w.word == w.new))) same_word
          ∙ ap (λ x. is_install x && not (content m w.word == w.new)) s.by ∙ ap not (ne_eqb (content m w.word) w.new differ))) w.new
          (omega (arith, more, old_count, small)) (odd_even (content m word) (ap (λ x. is_even (count_of x)) old ∙ s.may.from_even.even))
      by_effect (by_uninstall s) =
          let old : content m word ≡ s.from = ap (content m) at ∙ s.was in
          let old_count = ap count_of old in
          let old_odd = odd_odd (content m word) (ap (λ x. is_even (count_of x)) old ∙ s.may.odd) in
          let room = k.formats.room w.word now_counted (ap (λ x. is_even (count_of x)) s.was ∙ s.may.odd) in
          let was_count = ap count_of s.was in
          let more : count_of w.new ≡ count_of s.from + 1 = ap count_of s.is ∙ count_of-counted_word s.value (count_of s.from + 1) (omega (arith, room, was_count)) in
          let now_even = odd_even w.new (ap (λ x. is_even (count_of x)) s.is ∙ uninstall_even m w.p w.word s.from s.value k.formats s.may s.was) in
          let before = stays in omega (arith, before, old_count, old_odd, more, now_even)
      by_effect (by_exchange s) = absurd (none_wins M o can m k opening none calm n w tidied s)
      by_effect (by_ready s) = absurd (none_enters M o can m k opening none calm n w tidied later s)
      by_effect (by_fate s) = absurd (no_status (shape_of m) w.word s.desc now_counted (⊎_elim (λ c. c.1.exists) (λ a. a.1.exists) s.may) s.there)
      by_effect (by_start s) = absurd (no_status (shape_of m) w.word s.desc now_counted (own_exists m w.p s.desc s.may.own) s.there)

    pushed : Bound (content n word)
    pushed = ⊎_elim
        (λ at. subst Bound (sym (there_now word counted at)) (by_effect at w.effect))
        (λ apart. subst Bound (sym (elsewhere word apart)) stays)
        (cases_eq word w.word)

  made_now : Effect M m n w.p w.kind w.word w.new → IsMade o.shape made
  made_now (by_stay s) = record {
    stores = λ kind counted. absurd (true≢false (sym (ap is_store kind) ∙ s.plain));
    installs = λ kind won. absurd (won (sym s.same));
  }
  made_now (by_store s) = record {
    stores = λ kind counted.
        let in_m = counted_in w.word counted in
        let own = store_owns m w.p (place_at (shape_of m) w.word) s.hand.attempt (content m w.word) w.new in_m.1 s.may.place in
        record {
          lane = own.2.0.0;
          node = own.0;
          owns = subst (λ (x : Opening). OwnsNode x.shape own.2.0.0 own.0) opening own.2.0.2;
          there = sym (address-place_at (shape_of m) w.word in_m.0).1 ∙ ap (address (shape_of m)) own.1 ∙ ap (λ (x : Opening). address x.shape (node_next own.0)) opening;
          attempt = s.hand.attempt;
          for = ap attempt_in_hand s.may.held;
        };
    installs = λ kind won. let e = sym s.by ∙ kind in cc;
  }
  made_now (by_install s) = record { stores = λ kind counted. let e = sym s.by ∙ kind in cc; installs = λ kind won. (s.hand.attempt, ap attempt_in_hand s.may.held) }
  made_now (by_exchange s) = record { stores = λ kind counted. let e = sym s.by ∙ kind in cc; installs = λ kind won. let e = sym s.by ∙ kind in cc }
  made_now (by_ready s) = record { stores = λ kind counted. let e = sym s.by ∙ kind in cc; installs = λ kind won. let e = sym s.by ∙ kind in cc }
  made_now (by_fate s) = record {
    stores = λ kind counted. ⊎_elim (λ by. let e = sym by ∙ kind in cc) (λ by. let e = sym by ∙ kind in cc) s.by;
    installs = λ kind won. ⊎_elim (λ by. let e = sym by ∙ kind in cc) (λ by. let e = sym by ∙ kind in cc) s.by;
  }
  made_now (by_uninstall s) = record { stores = λ kind counted. let e = sym s.by ∙ kind in cc; installs = λ kind won. let e = sym s.by ∙ kind in cc }
  made_now (by_start s) = record { stores = λ kind counted. let e = sym s.by ∙ kind in cc; installs = λ kind won. let e = sym s.by ∙ kind in cc }

  low_push : (steps : List Step) → LowCourse o m steps → LowCourse o n (steps ++ w.step ∷ [])
  low_push steps was = subst (λ s. LowCourse o n (steps ++ s ∷ [])) (sym w.is_step) (
    λ word counted. pushed steps was.0 word counted,
    λ s c. ⊎_elim (was.1 s) (λ new. subst (IsMade o.shape) new (made_now w.effect)) (Contains-push_cases steps made s c),
  )

  -- of each pass that is live, holds all lanes and never joined another
  abbrev pub HoldersLow : Machine → Type 0
  HoldersLow x = (pass : ℕ) (p : PassView) → At x.passes pass p → IsLive p → HoldsAll o.shape p → p.past ≡ [] → LowCourse o x p.trail

  module _ (kn : IsKept n) (was : HoldersLow m) where
    holds_in : (p : PassView) → HoldsAll o.shape p → HoldsAll (shape_of m) p
    holds_in p = subst (λ (x : Opening). HoldsAll x.shape p) (sym opening)

    -- no other pass holds all lanes
    not_other : (j : ℕ) (u : PassView) → j ≢ w.pass → At m.passes j u → HoldsAll o.shape u → ⊥
    not_other j u ne at all = ne (sym ((k.alone j u at (holds_in u all)).no_other w.pass w.p w.acts.at w.acts.live))

    set_low : (q : PassView) → (IsLive q → HoldsAll o.shape q → q.past ≡ [] → LowCourse o n q.trail) → (j : ℕ) (u : PassView) → At (set m.passes w.pass q) j u
        → IsLive u → HoldsAll o.shape u → u.past ≡ [] → LowCourse o n u.trail
    set_low q low j u at = ⊎_elim
        (λ e. subst (λ (x : PassView). IsLive x → HoldsAll o.shape x → x.past ≡ [] → LowCourse o n x.trail) e.1 low)
        (λ other live all past. absurd (not_other j u other.0 other.1 all))
        (at_set m.passes w.pass j q u at)

    -- after a split none holds all
    module _ (may : MaySplit w.p) (is : n.passes ≡ set m.passes w.pass (kept_part (shape_of m) w.p) ++ given_part (shape_of m) w.p ∷ []) where
      keeps : At n.passes w.pass (kept_part (shape_of m) w.p)
      keeps = subst (λ passes. At passes w.pass (kept_part (shape_of m) w.p)) (sym is)
          (append_there (set m.passes w.pass (kept_part (shape_of m) w.p)) (given_part (shape_of m) w.p ∷ []) w.pass (kept_part (shape_of m) w.p)
          (set_there m.passes w.pass (kept_part (shape_of m) w.p) w.p w.acts.at))

      gives : At n.passes (length (set m.passes w.pass (kept_part (shape_of m) w.p))) (given_part (shape_of m) w.p)
      gives = subst (λ passes. At passes (length (set m.passes w.pass (kept_part (shape_of m) w.p))) (given_part (shape_of m) w.p)) (sym is)
          (append_end (set m.passes w.pass (kept_part (shape_of m) w.p)) (given_part (shape_of m) w.p))

      apart : w.pass ≢ length (set m.passes w.pass (kept_part (shape_of m) w.p))
      apart e = let below = at_below _ w.pass w.p w.acts.at in let same = length-set m.passes w.pass (kept_part (shape_of m) w.p) in omega (arith, below, same, e)

      in_n : (p : PassView) → HoldsAll o.shape p → HoldsAll (shape_of n) p
      in_n p = subst (λ (x : Opening). HoldsAll x.shape p) (sym (w.opening ∙ opening))

      some_kept : (lane : ℕ) × Contains (kept_lanes w.p.lanes) lane
      some_kept = some_lane (kept_lanes w.p.lanes) (let l = length-take (length w.p.lanes - length w.p.lanes / 2) w.p.lanes in omega (arith, may, l))

      some_given : (lane : ℕ) × Contains (given_lanes w.p.lanes) lane
      some_given = some_lane (given_lanes w.p.lanes) (let l = length-drop (length w.p.lanes - length w.p.lanes / 2) w.p.lanes in omega (arith, may, l))

      kept_none : HoldsAll o.shape (kept_part (shape_of m) w.p) → ⊥
      kept_none all =
          let lane = some_given.0 in
          let theirs : HoldsLane n.passes _ lane = (given_part (shape_of m) w.p, gives, some_given.1) in
          apart (kn.lanes.once w.pass _ lane (kept_part (shape_of m) w.p, keeps, in_n (kept_part (shape_of m) w.p) all lane (kn.lanes.exists _ lane theirs)) theirs)

      given_none : HoldsAll o.shape (given_part (shape_of m) w.p) → ⊥
      given_none all =
          let lane = some_kept.0 in
          let mine : HoldsLane n.passes _ lane = (kept_part (shape_of m) w.p, keeps, some_kept.1) in
          apart (kn.lanes.once w.pass _ lane mine (given_part (shape_of m) w.p, gives, in_n (given_part (shape_of m) w.p) all lane (kn.lanes.exists _ lane mine)))

    low_on : PassesGo m n w.pass w.p w.step → HoldersLow n
    low_on (goes_on q is view) j u at = set_low q
        (λ live all past. subst (LowCourse o n) (sym view.trail) (low_push w.p.trail (was w.pass w.p w.acts.at w.acts.live
        (λ lane exists. subst (λ lanes. Contains lanes lane) view.lanes (all lane exists)) (sym view.past ∙ past))))
        j u (subst (λ passes. At passes j u) is at)
    low_on (is_split may _ _ _ is) j u at = ⊎_elim
        (λ old. set_low (kept_part (shape_of m) w.p) (λ live all past. absurd (kept_none may is all)) j u old)
        (λ end. subst (λ (x : PassView). IsLive x → HoldsAll o.shape x → x.past ≡ [] → LowCourse o n x.trail) (at_one (given_part (shape_of m) w.p) u end.0 end.2).1
        (λ live all past. absurd (given_none may is all)))
        (at_append _ _ j u (subst (λ passes. At passes j u) is at))
    low_on (is_joined other q _ _ _ _ _ is) j u at = ⊎_elim
        (λ e. subst (λ (x : PassView). IsLive x → HoldsAll o.shape x → x.past ≡ [] → LowCourse o n x.trail) e.1 (λ live all past. absurd (omega (arith, live))))
        (λ old. set_low (joined_part (shape_of m) w.p q) (λ live all past. absurd (joined_past _ _ _ past)) j u old.1)
        (at_set _ other j _ u (subst (λ passes. At passes j u) is at))
      where
        joined_past : (a : List (List Step)) (b : List Step) (c : List (List Step)) → (a ++ b ∷ []) ++ c ≡ [] → ⊥
        joined_past a b c e = in_none b (subst (λ l. Contains l b) e (Contains-append_left (a ++ b ∷ []) c b (Contains-push a b)))

module _ (M : Meaning) (o : Opening) (can : CanOpen M o) (tidied : HasNothingToTidy M (logical_heap (opened o) [])) where
  -- what every event keeps
  record LowSoFar (m : Machine) : Type 0 where
    events : List Event
    runs : Runs M (opened o) events m
    opening : m.opening ≡ o
    calm : m.history ≡ [] → IsCalm M o can m
    low : m.history ≡ [] → (pass : ℕ) (p : PassView) → At m.passes pass p → IsLive p → HoldsAll o.shape p → p.past ≡ [] → LowCourse o m p.trail
    rise : EachPair (Rise o.shape) m.passes

  kept_in : (m : Machine) → LowSoFar m → IsKept m
  kept_in m was = always_kept M o was.events m can was.runs

  low_opened : LowSoFar (opened o)
  low_opened = record {
    events = [];
    runs = refl;
    opening = refl;
    calm = λ _. opened_calm M o can;
    low = λ _ pass p at live all past. subst (λ (q : PassView). LowCourse o (opened o) q.trail) (at_one (first_pass o.shape) p pass at).1
        ((λ word counted. let none = odd_even (slice_index o.words word) (can.even word counted) in omega (arith, none)), λ s c. absurd (in_none s c));
    rise = λ pass p at segment c. subst (InPairs (Rise o.shape)) (first_segment p segment (at_one (first_pass o.shape) p pass at).1 c) tt;
  }
    where
      first_segment : (p : PassView) (segment : List Step) → first_pass o.shape ≡ p → Contains (segments p) segment → [] ≡ segment
      first_segment p segment e c = ⊎_elim (λ x. x) (λ i. absurd (in_none segment i)) (in_cons [] [] segment (subst (λ (q : PassView). Contains (segments q) segment) (sym e) c))

  nothing_before : (es hs : List HistoryEntry) → IsPrefix es hs → hs ≡ [] → es ≡ []
  nothing_before [] hs p none = refl
  nothing_before (x ∷ es) hs p none = absurd (in_none x (subst (λ l. Contains l x) (sym p.is ∙ none) (here x (es ++ p.rest))))

  rises : (m n : Machine) (k : IsKept m) (v : MoveFacts m n) → m.opening ≡ o → (s : Step) → HasStep m.passes s → Rise o.shape s v.step
  rises m n k v opening s has counted there =
      let bound = k.stamps.bound s.word s.after (subst (λ (x : Opening). IsCounted x.shape s.word) (sym opening) counted)
      (inl (has.0, has.1, has.2, (has.3.0, has.3.1, (s, has.3.2, inr (record { there = refl; after = refl }))))) in
      subst (λ x. count_of s.after ≤ count_of x) (ap (content m) (sym there ∙ v.there) ∙ sym v.before) bound

  -- a list of events, and one more
  runs_more : (m : Machine) (events : List Event) (n : Machine) (e : Event) (k : Machine) → Runs M m events n → Plays M n e k → Runs M m (events ++ e ∷ []) k
  runs_more m [] n e k runs plays = (k, subst (λ x. Plays M x e k) runs plays, refl)
  runs_more m (d ∷ events) n e k runs plays = (runs.0, runs.1, runs_more runs.0 events n e k runs.2 plays)

  does_stay : (m n : Machine) (e : Event) → LowSoFar m → Does M m e n → LowSoFar n
  does_stay m n e was does =
      let k = kept_in m was in
      let more = runs_more (opened o) was.events m e n was.runs (inl does) in
      let kn = always_kept M o (was.events ++ e ∷ []) n can more in
      let on = always_goes_on M o was.events m n e can was.runs (inl does) in
      let w = does_move M m n e k.formats.base does in
      let v = tell M m n k.formats k.lanes k.hands w in
      let before : n.history ≡ [] → m.history ≡ [] = λ none. nothing_before m.history n.history on.history none in
      record {
        events = was.events ++ e ∷ [];
        runs = more;
        opening = on.opening ∙ was.opening;
        calm = λ none. calm_after M o can m k was.opening (before none) (was.calm (before none)) n w tidied none v;
        low = λ none. low_on M o can tidied m n k w was.opening (before none) (was.calm (before none)) none kn (was.low (before none)) w.passes;
        rise = pairs-kept m.passes n.passes v.step (Rise o.shape) (Rise o.shape) v.from (λ s t has old. old) (rises m n k v was.opening) was.rise;
      }

  stays_low : (events : List Event) (m n : Machine) → LowSoFar m → Runs M m events n → LowSoFar n
  stays_low [] m n was runs = subst LowSoFar (sym runs) was
  stays_low (e ∷ es) m n was runs = stays_low es runs.0 n (⊎_elim (does_stay m runs.0 e was) (λ still. subst LowSoFar (sym still.1) was) runs.1) runs.2

  low_of : (m : Machine) (x : LowSoFar m) → m.history ≡ [] → (pass : ℕ) (p : PassView) → Acts m pass p → HoldsAll (shape_of m) p → p.past ≡ [] → LowCourse o m p.trail
  low_of m x none pass p acts all = x.low none pass p acts.at acts.live (subst (λ (y : Opening). HoldsAll y.shape p) x.opening all)

  low_in : (m : Machine) (x : LowSoFar m) → m.history ≡ [] → (pass : ℕ) (p : PassView) → Acts m pass p → HoldsAll (shape_of m) p → p.past ≡ [] → IsLow m p
  low_in m x none pass p acts all past = record {
    counts = λ word counted.
        let bound = (low_of m x none pass p acts all past).0 word (subst (λ (y : Opening). IsCounted y.shape word) x.opening counted) in
        subst (λ (y : Opening). count_of (content m word) ≤ count_of (slice_index y.words word) + 2 * raises word p.trail) (sym x.opening) (omega (arith, bound));
    rise = λ earlier s later is t c counted. pairs_of (Rise o.shape) earlier s later t
        (subst (InPairs (Rise o.shape)) is (x.rise pass p acts.at p.trail (Contains-push p.past p.trail))) c
        (subst (λ (y : Opening). IsCounted y.shape s.word) x.opening counted);
    made = λ s c. subst (λ (y : Opening). IsMade y.shape s) (sym x.opening) ((low_of m x none pass p acts all past).1 s c);
  }

pub always_low : (M : Meaning) → AlwaysLow M
always_low M o events m can runs tidied none =
    low_in M o can tidied m (stays_low M o can tidied events (opened o) m (low_opened M o can tidied) runs) none
