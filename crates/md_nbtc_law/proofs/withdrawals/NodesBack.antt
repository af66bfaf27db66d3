-- The lots are given back, from the last to the first.
use Rattle.std.proofs.Common.{◌≡◌, ◌≢◌, ◌+◌, ◌<◌, ◌≤◌, ◌⊎◌, ℕ, List, [], ◌∷◌, drop, get_or, length, length-set, refl, sym, ap, ◌∙◌, subst, inl, inr, ⊎_elim, nat_lt, arith}
use Rattle.std.specs.List.{Contains, flat_map}
use Rattle.std.proofs.lemmas.Bool.{cases_Bool, cases_lt, cases_order, cond-false, cond-true, true≢false}
use Rattle.std.proofs.lemmas.List.{drop_more}
use Rattle.std.proofs.lemmas.List.Elements.{Contains-append_cases, Contains-append_left, Contains-append_right, Contains-get_or}
use Rattle.md_history.specs.Front.{is_lane_of}
use Rattle.md_history.specs.FrontLaws.{lane_is_of, lane_passes}
use Rattle.md_machine.proofs.lists.Rising.{here, in_cons, in_none}
use Rattle.md_arena.specs.Taking.{with_nodes}
use Rattle.md_arena.proofs.TakenNodes.{share_other, share_same}
use Rattle.md_rule.specs.Lanes.{AreLanes}
use Rattle.md_rule_lanes.specs.Shares.{MayReturn, share_at}
use Rattle.md_rule.specs.Views.{PassState}
use Rattle.md_rule_lanes.specs.declared.shares.Share.{Share}
use Rattle.md_rule.proofs.LaneLists.{lane_fits}
use Rattle.md_nbtc_law.specs.declared.slots.Lot.{Lot}
use Rattle.md_nbtc_law.specs.declared.slots.TheConstants.{NO_LOT}
use Rattle.md_nbtc_law.specs.Prepared.{TakenInTurn}
use Rattle.md_nbtc_law.specs.State.{lot_of_lane, lots_since}
use Rattle.md_nbtc_law.specs.Withdrawing.{HasBack, MayGiveBack, MayGiveLotBack}

-- what the lists of some elements contain is in one of them, and the other way round
in_flat : {X Y : Type 0} (f : X → List Y) (xs : List X) (y : Y) → Contains (flat_map f xs) y → (x : X) × Contains xs x × Contains (f x) y
in_flat f [] y c = absurd (in_none y c)
in_flat f (x ∷ xs) y c = ⊎_elim
    (λ first. (x, here x xs, first))
    (λ later. let it = in_flat f xs y later in (it.0, Contains-append_right (x ∷ []) xs it.0 it.1, it.2))
    (Contains-append_cases (f x) (flat_map f xs) y c)

pub flat_in : {X Y : Type 0} (f : X → List Y) (xs : List X) (x : X) (y : Y) → Contains xs x → Contains (f x) y → Contains (flat_map f xs) y
flat_in f [] x y c i = absurd (in_none x c)
flat_in f (z ∷ xs) x y c i = ⊎_elim
    (λ is. Contains-append_left (f z) (flat_map f xs) y (subst (λ w. Contains (f w) y) (sym is) i))
    (λ later. Contains-append_right (f z) (flat_map f xs) y (flat_in f xs x y later i))
    (in_cons z xs x c)

module _ (began p : PassState) where
  abbrev first_of : ℕ → ℕ
  first_of lane = (share_at began.shares lane).nodes_taken

  abbrev taken_of : ℕ → ℕ
  taken_of lane = (share_at p.shares lane).nodes_taken

  -- the share of a lane once its nodes are given back
  abbrev pub back : ℕ → Share
  back lane = record (share_at p.shares lane) { nodes_taken = first_of lane }

  -- a lot is of a lane of the pass that gave nodes, and each such lane has one
  pub record IsLot (lot : Lot) : Type 0 where
    pub held : Contains p.view.lanes lot.lane
    pub first : lot.first ≡ first_of lot.lane
    pub more : first_of lot.lane < taken_of lot.lane

  one_lot : (lane : ℕ) → first_of lane < taken_of lane → lot_of_lane began p lane ≡ (record { lane = lane; first = first_of lane }) ∷ []
  one_lot lane more = cond-true (nat_lt (first_of lane) (taken_of lane)) _ [] (grind arith)

  no_lot : (lane : ℕ) → taken_of lane ≤ first_of lane → lot_of_lane began p lane ≡ []
  no_lot lane most = cond-false (nat_lt (first_of lane) (taken_of lane)) _ [] (grind arith)

  pub lot_is : (lot : Lot) → Contains (lots_since began p) lot → IsLot lot
  lot_is lot c =
      let it = in_flat (lot_of_lane began p) p.view.lanes lot c in ⊎_elim
      (λ more. ⊎_elim
      (λ is. subst IsLot is (record { held = it.1; first = refl; more = more }))
      (λ none. absurd (in_none lot none))
      (in_cons (record { lane = it.0; first = first_of it.0 }) [] lot (subst (λ l. Contains l lot) (one_lot it.0 more) it.2)))
      (λ most. absurd (in_none lot (subst (λ l. Contains l lot) (no_lot it.0 most) it.2)))
      (cases_lt (first_of it.0) (taken_of it.0))

  lot_there : (lane : ℕ) → Contains p.view.lanes lane → first_of lane < taken_of lane → Contains (lots_since began p) (record { lane = lane; first = first_of lane })
  lot_there lane c more = flat_in (lot_of_lane began p) p.view.lanes lane (record { lane = lane; first = first_of lane }) c
      (subst (λ l. Contains l (record { lane = lane; first = first_of lane })) (sym (one_lot lane more)) (here _ []))

  -- some lots were given back, maybe more
  pub record GivesSome (lots : List Lot) (q : PassState) : Type 0 where
    pub same : q ≡ record p { shares = q.shares }
    pub size : length q.shares ≡ length p.shares
    pub each : (lane : ℕ) → (share_at q.shares lane ≡ share_at p.shares lane) ⊎ (share_at q.shares lane ≡ back lane)
    pub done : (lot : Lot) → Contains lots lot → share_at q.shares lot.lane ≡ back lot.lane

  pub gives_none : GivesSome [] p
  gives_none = record { same = refl; size = refl; each = λ lane. inl refl; done = λ lot c. absurd (in_none lot c) }

  module _ (are : AreLanes p.shape p.view.lanes) (count : length p.shares ≡ 64) (lots : List Lot) (q : PassState) (so_far : GivesSome lots q) (lot : Lot) (is : IsLot lot) where
    pub may_lot : TakenInTurn began p → MayGiveBack began p → MayGiveLotBack q lot
    may_lot taken free =
        let first = is.first in
        let more = is.more in
        let most = taken.3 lot.lane more in
        let all : MayReturn p.shape p.view lot.lane lot.first (taken_of lot.lane) = subst (λ n. MayReturn p.shape p.view lot.lane n (taken_of lot.lane)) (sym first) (free lot.lane is.held) in
        let now : PassState = record p { shares = q.shares } in
        subst (λ (x : PassState). MayGiveLotBack x lot) (sym so_far.same) (⊎_elim
        (λ e. let n : (share_at now.shares lot.lane).nodes_taken ≡ taken_of lot.lane = ap (λ (s : Share). s.nodes_taken) e in record {
          held = is.held;
          first = omega (arith, n, first, more);
          most = omega (arith, n, most);
          free = subst (λ x. MayReturn p.shape p.view lot.lane lot.first x) (sym n) all;
        })
        (λ e. let n : (share_at now.shares lot.lane).nodes_taken ≡ first_of lot.lane = ap (λ (s : Share). s.nodes_taken) e in record {
          held = is.held;
          first = omega (arith, n, first);
          most = omega (arith, n, most, more);
          free = λ i low high. absurd (omega (arith, low, high, n, first));
        })
        (so_far.each lot.lane))

    pub gives_more : (r : PassState) → r ≡ with_nodes q lot.lane lot.first → GivesSome (lot ∷ lots) r
    gives_more r e =
        let set_share : Share = record (share_at q.shares lot.lane) { nodes_taken = lot.first } in
        let size = so_far.size in
        let fits = lane_fits p.shape p.view.lanes lot.lane are is.held in
        let its : share_at r.shares lot.lane ≡ back lot.lane =
        ap (λ (x : PassState). share_at x.shares lot.lane) e ∙ share_same q.shares lot.lane set_share (omega (arith, size, fits, count))
        ∙ ap (λ n. record (share_at q.shares lot.lane) { nodes_taken = n }) is.first
        ∙ ⊎_elim
        (λ x. ap (λ (s : Share). record s { nodes_taken = first_of lot.lane }) x)
        (λ x. ap (λ (s : Share). record s { nodes_taken = first_of lot.lane }) x)
        (so_far.each lot.lane) in
        let others : (lane : ℕ) → lot.lane ≢ lane → share_at r.shares lane ≡ share_at q.shares lane =
        λ lane ne. ap (λ (x : PassState). share_at x.shares lane) e ∙ share_other q.shares lot.lane lane set_share ne in
        let differ : (lane : ℕ) → (lot.lane ≡ lane) ⊎ (lot.lane ≢ lane) = λ lane. ⊎_elim inl (λ o. inr (λ s. ⊎_elim (λ (b : lot.lane < lane). omega (arith, s, b)) (λ (b : lane < lot.lane). omega (arith, s, b)) o)) (cases_order lot.lane lane) in record {
          same = e ∙ ap (λ (x : PassState). record x { shares = (with_nodes q lot.lane lot.first).shares }) so_far.same ∙ ap (λ (x : PassState). record p { shares = x.shares }) (sym e);
          size = ap (λ (x : PassState). length x.shares) e ∙ length-set q.shares lot.lane set_share ∙ size;
          each = λ lane. ⊎_elim
              (λ s. inr (subst (λ l. share_at r.shares l ≡ back l) s its))
              (λ ne. ⊎_elim (λ x. inl (others lane ne ∙ x)) (λ x. inr (others lane ne ∙ x)) (so_far.each lane))
              (differ lane);
          done = λ other c. ⊎_elim
              (λ s. subst (λ (x : Lot). share_at r.shares x.lane ≡ back x.lane) s its)
              (λ later. ⊎_elim
              (λ s. subst (λ l. share_at r.shares l ≡ back l) s its)
              (λ ne. others other.lane ne ∙ so_far.done other later)
              (differ other.lane))
              (in_cons lot lots other c);
        }

  -- once all lots were, each lane has its nodes back
  pub gives_all : TakenInTurn began p → p.view.lanes ≡ began.view.lanes → (q : PassState) → GivesSome (lots_since began p) q → HasBack began p q
  gives_all taken lanes q g = record {
    same = g.same;
    size = g.size;
    shares = λ lane. ⊎_elim
        (λ more. ⊎_elim
        (λ own. g.done (record { lane = lane; first = first_of lane }) (lot_there lane (lane_is_of p.view.lanes lane own) more))
        (λ other. let same = taken.2 lane (λ c. true≢false (sym (lane_passes p.view.lanes lane (subst (λ l. Contains l lane) (sym lanes) c)) ∙ other)) in
        absurd (omega (arith, more, same)))
        (cases_Bool (is_lane_of p.view.lanes lane)))
        (λ most. let least = taken.0 lane in
        let n : taken_of lane ≡ first_of lane = omega (arith, most, least) in
        let unchanged : share_at p.shares lane ≡ back lane = ap (λ n. record (share_at p.shares lane) { nodes_taken = n }) n in
        ⊎_elim (λ x. x ∙ unchanged) (λ x. x) (g.each lane))
        (cases_lt (first_of lane) (taken_of lane));
  }

  -- the loop over the lots
  module _ (lots : List Lot) where
    pub lot_at : lots ≡ lots_since began p → (i : ℕ) → i < length lots → IsLot (get_or lots i NO_LOT)
    lot_at are i below = lot_is (get_or lots i NO_LOT) (subst (λ l. Contains l (get_or lots i NO_LOT)) are (Contains-get_or lots i NO_LOT below))

    pub more_from : (i : ℕ) → i < length lots → (q : PassState) → GivesSome (get_or lots i NO_LOT ∷ drop (i + 1) lots) q → GivesSome (drop i lots) q
    more_from i below q = subst (λ l. GivesSome l q) (sym (drop_more lots i NO_LOT below))
