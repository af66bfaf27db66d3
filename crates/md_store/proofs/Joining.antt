-- Two passes are joined: what both have seen and have, and how many attempts they have begun.
use Rattle.std.proofs.Common.{◌≡◌, ◌≢◌, ◌==◌, ◌||◌, ◌⊎◌, ◌<◌, ℕ, List, [], ◌∷◌, ◌++◌, length, nat_le, refl, sym, ap, ◌∙◌, subst, inl, inr, ⊎_elim, append-nil, append_assoc, arith}
use Rattle.std.specs.List.{Contains, range_with_len}
use Rattle.std.proofs.lemmas.Bool.{cond_both, eqb-true, or_left, or_right}
use Rattle.std.proofs.lemmas.List.{map-append}
use Rattle.std.proofs.lemmas.List.Elements.{Contains-append_left, Contains-append_right, filter-append}
use Rattle.md_history.specs.declared.entries.Entry.{Entry}
use Rattle.md_history.specs.Engine.{Joins}
use Rattle.md_history.specs.Front.{IsPrefix, is_lane_of, of_lane}
use Rattle.md_history.specs.FrontLaws.{lane_passes}
use Rattle.md_machine.specs.declared.attempt.HistoryEntry.{HistoryEntry}
use Rattle.md_machine.specs.declared.pass.PassView.{PassView}
use Rattle.md_machine.specs.GoesOn.{MachineGoesOn}
use Rattle.md_machine.specs.Legal.{begun_of, front_of}
use Rattle.md_machine.specs.Machine.{IsAt, IsLive, Machine, shape_of}
use Rattle.md_machine.specs.Resolution.{entries_of}
use Rattle.md_machine.specs.Theorem.{IsKept}
use Rattle.md_machine.specs.events.SplitJoin.{joined_part, longer}
use Rattle.md_machine.proofs.clauses.passes.FrontsGoOn.{front_begins}
use Rattle.md_machine.proofs.clauses.passes.Longer.{longer_begins, longer_from_first, longer_from_second}
use Rattle.md_machine.proofs.clauses.passes.MineParts.{not_again}
use Rattle.md_machine.proofs.events.Tell.{joined_of}
use Rattle.md_machine.proofs.lists.Rising.{filter_in, here, range_in, there}

-- entries of other lanes
none_of_lane : (lane : ℕ) (es : List HistoryEntry) → ((e : HistoryEntry) → Contains es e → e.entry.lane ≢ lane) → of_lane lane (entries_of es) ≡ []
none_of_lane lane [] others = refl
none_of_lane lane (e ∷ es) others =
    let rest = none_of_lane lane es (λ x c. others x (there e es x c)) in
    cond_both (lane == e.entry.lane) (e.entry ∷ of_lane lane (entries_of es)) (of_lane lane (entries_of es)) (λ l. l ≡ [])
    (λ same. absurd (others e (here e es) (sym (eqb-true lane e.entry.lane same)))) (λ _. rest)

module _ (m : Machine) (k : IsKept m) where
  -- whoever holds a lane has seen each entry of the lane: what was seen besides has none
  seen_on : (pass : ℕ) (p : PassView) → IsAt m pass p → (seen : List HistoryEntry) → IsPrefix p.seen seen → IsPrefix seen m.history
      → (lane : ℕ) → Contains p.lanes lane → of_lane lane (entries_of seen) ≡ of_lane lane (entries_of p.seen)
  seen_on pass p at seen longer prefix lane c =
      let is : m.history ≡ p.seen ++ (longer.rest ++ prefix.rest) = prefix.is ∙ ap (λ l. l ++ prefix.rest) longer.is ∙ append_assoc p.seen longer.rest prefix.rest in
      let inside : (e : HistoryEntry) → Contains longer.rest e → Contains m.history e = λ e d.
      subst (λ h. Contains h e) (sym prefix.is) (Contains-append_left seen prefix.rest e
      (subst (λ h. Contains h e) (sym longer.is) (Contains-append_right p.seen longer.rest e d))) in
      let others : (e : HistoryEntry) → Contains longer.rest e → e.entry.lane ≢ lane = λ e d same.
      let mine = subst (Contains p.lanes) (sym same ∙ (k.numbered.lanes e (inside e d)).lane) c in
      not_again m.history p.seen (longer.rest ++ prefix.rest) e k.numbered.distinct is ((k.fronts pass p at).own e (inside e d) mine)
      (Contains-append_left longer.rest prefix.rest e d) in
      ap (λ l. of_lane lane (entries_of l)) longer.is
      ∙ ap (of_lane lane) (map-append (λ (e : HistoryEntry). e.entry) p.seen longer.rest)
      ∙ filter-append (λ (e : Entry). lane == e.lane) (entries_of p.seen) (entries_of longer.rest)
      ∙ ap (λ l. of_lane lane (entries_of p.seen) ++ l) (none_of_lane lane longer.rest others)
      ∙ append-nil (of_lane lane (entries_of p.seen))

  module _ (i j : ℕ) (p q : PassView) (at : IsAt m i p) (too : IsAt m j q) (differ : j ≢ i) where
    abbrev both : PassView
    both = joined_part (shape_of m) p q

    -- no lane is in both
    pub lanes_apart : (lane : ℕ) → Contains p.lanes lane → Contains q.lanes lane → ⊥
    lanes_apart lane c d = differ (k.lanes.once j i lane (q, too, d) (p, at, c))

    -- each lane of the two is one of both
    joined_has : (lane : ℕ) → Contains p.lanes lane ⊎ Contains q.lanes lane → Contains both.lanes lane
    joined_has lane c =
        let below : lane < (shape_of m).lanes = ⊎_elim (λ x. k.lanes.exists i lane (p, at, x)) (λ x. k.lanes.exists j lane (q, too, x)) c in
        filter_in (λ l. is_lane_of p.lanes l || is_lane_of q.lanes l) (range_with_len 0 (shape_of m).lanes) lane (range_in 0 (shape_of m).lanes lane (omega arith) (omega (arith, below)))
        (⊎_elim (λ x. or_left (is_lane_of p.lanes lane) (is_lane_of q.lanes lane) (lane_passes p.lanes lane x))
        (λ x. or_right (is_lane_of p.lanes lane) (is_lane_of q.lanes lane) (lane_passes q.lanes lane x)) c)

    one_seen : (entries_of both.seen ≡ entries_of p.seen) ⊎ (entries_of both.seen ≡ entries_of q.seen)
    one_seen = cond_both (nat_le (length p.seen) (length q.seen)) q.seen p.seen (λ l. (entries_of l ≡ entries_of p.seen) ⊎ (entries_of l ≡ entries_of q.seen)) (λ _. inr refl) (λ _. inl refl)

    -- what was answered of the lanes of one
    mine_first : (lane : ℕ) → Contains p.lanes lane → of_lane lane (p.mine ++ q.mine) ≡ of_lane lane p.mine
    mine_first lane c = filter-append (λ (e : Entry). lane == e.lane) p.mine q.mine
        ∙ ap (λ l. of_lane lane p.mine ++ l) ((k.mine j q too).outside lane (lanes_apart lane c))
        ∙ append-nil (of_lane lane p.mine)

    mine_second : (lane : ℕ) → Contains q.lanes lane → of_lane lane (p.mine ++ q.mine) ≡ of_lane lane q.mine
    mine_second lane c = filter-append (λ (e : Entry). lane == e.lane) p.mine q.mine
        ∙ ap (λ l. l ++ of_lane lane q.mine) ((k.mine i p at).outside lane (λ d. lanes_apart lane d c))

    -- the fronts of two passes that were joined
    pub joins_fronts : (n : Machine) → MachineGoesOn m n → IsAt n i both → IsLive p → IsLive q → Joins (front_of (shape_of m) p) (front_of (shape_of m) q) (front_of (shape_of m) both)
    joins_fronts n on joined live live_q =
        let first = (k.fronts i p at).seen in
        let second = (k.fronts j q too).seen in record {
          lanes = λ lane. (joined_of (shape_of m) p q lane, joined_has lane);
          begins = front_begins m n on i i p both at joined live (λ lane c. joined_has lane (inl c));
          begins_other = front_begins m n on j i q both too joined live_q (λ lane c. joined_has lane (inr c));
          seen = one_seen;
          known = refl;
          keeps = record {
            entries = λ lane c. seen_on i p at both.seen (longer_from_first p.seen q.seen m.history first second) (longer_begins p.seen q.seen m.history first second) lane c;
            mine = mine_first;
          };
          keeps_other = record {
            entries = λ lane c. seen_on j q too both.seen (longer_from_second p.seen q.seen m.history first second) (longer_begins p.seen q.seen m.history first second) lane c;
            mine = mine_second;
          };
          pending = map-append (begun_of (shape_of m)) p.pending q.pending;
        }
