-- Lists of passes whose lanes are apart: with one view set, one split in two, and two joined in one.
use Rattle.std.proofs.Common.{◌≡◌, ◌≢◌, ℕ, ◌-◌, ◌/◌, ◌<◌, ◌⊎◌, ◌||◌, Bool, List, [], ◌∷◌, ◌++◌, length, take, drop, set, refl, sym, ap, ◌∙◌, subst, inl, inr, ⊎_elim, arith}
use Rattle.std.specs.List.{Contains, range_with_len}
use Rattle.std.proofs.lemmas.Bool.{or_cases, or_left, or_right, cases_eq}
use lib.ListN.{get_elem?}
use mathlib.Core.Option.{some, some-injective}
use Rattle.md_words.specs.declared.shape.Shape.{Shape}
use Rattle.md_words.proofs.Owners.{owner_of_desc}
use Rattle.md_history.specs.Front.{is_lane_of}
use Rattle.md_history.specs.FrontLaws.{lane_is_of, lane_passes}
use Rattle.md_machine.specs.declared.pass.PassView.{PassView}
use Rattle.md_machine.proofs.lists.At.{append_end, append_there, at_append, at_one, at_set, set_else, set_there}
use Rattle.md_machine.proofs.lists.Rising.{filter_in, in_drop, in_filter, in_none, in_range, in_take, range_in, rise_drop, rise_filter, rise_range, rise_take, take_below_drop, take_or_drop, there}
use Rattle.md_machine.specs.Event.{first_pass}
use Rattle.md_machine.specs.Own.{HasDesc}
use Rattle.md_machine.specs.clauses.passes.Lanes.{HoldsLane, LanesApart, RiseFrom}
use Rattle.md_machine.specs.events.SplitJoin.{given_lanes, joined_lanes, kept_lanes, spent}

abbrev pub At : List PassView → ℕ → PassView → Type 0
At passes pass p = get_elem? passes pass ≡ some p

-- two passes at one place are one
pub at_once : (passes : List PassView) (pass : ℕ) (p q : PassView) → At passes pass p → At passes pass q → p ≡ q
at_once passes pass p q a b = some-injective p q (sym a ∙ b)

-- a pass replaced by one with the same lanes
pub lanes_same : (shape : Shape) (passes : List PassView) (pass : ℕ) (p q : PassView) → At passes pass p → q.lanes ≡ p.lanes → LanesApart shape passes → LanesApart shape (set passes pass q)
lanes_same shape passes pass p q at same a =
    let back : (j lane : ℕ) → HoldsLane (set passes pass q) j lane → HoldsLane passes j lane = λ j lane h. ⊎_elim
    (λ e. (p, subst (λ i. At passes i p) (sym e.0) at, subst (λ lanes. Contains lanes lane) (ap (λ (v : PassView). v.lanes) (sym e.1) ∙ same) h.2))
    (λ o. (h.0, o.1, h.2))
    (at_set passes pass j q h.0 h.1) in
    let forth : (j lane : ℕ) → HoldsLane passes j lane → HoldsLane (set passes pass q) j lane = λ j lane h. ⊎_elim
    (λ e. (
      q,
      subst (λ i. At (set passes pass q) i q) (sym e) (set_there passes pass q p at),
      subst (λ lanes. Contains lanes lane) (ap (λ (v : PassView). v.lanes) (at_once passes pass h.0 p (subst (λ i. At passes i h.0) e h.1) at) ∙ sym same) h.2,
    ))
    (λ ne. (h.0, set_else passes pass j q ne ∙ h.1, h.2))
    (cases_eq j pass) in record {
      held = λ lane exists. let h = a.held lane exists in (h.0, forth h.0 lane h.1);
      exists = λ j lane h. a.exists j lane (back j lane h);
      once = λ i j lane h k. a.once i j lane (back i lane h) (back j lane k);
      rising = λ j u u_at. ⊎_elim
          (λ e. subst (RiseFrom 0) (sym same ∙ ap (λ (v : PassView). v.lanes) e.1) (a.rising pass p at))
          (λ o. a.rising j u o.1)
          (at_set passes pass j q u u_at);
    }

-- a pass split in two
pub lanes_split : (shape : Shape) (passes : List PassView) (pass : ℕ) (p left right : PassView) → At passes pass p → left.lanes ≡ kept_lanes p.lanes → right.lanes ≡ given_lanes p.lanes
    → LanesApart shape passes → LanesApart shape (set passes pass left ++ right ∷ [])
lanes_split shape passes pass p left right at kept given a =
    let k = length p.lanes - length p.lanes / 2 in
    let later = set passes pass left ++ right ∷ [] in
    -- who holds a lane afterwards: the left part, the right part, or another pass
    let cases : (j lane : ℕ) → HoldsLane later j lane
    → ((j ≡ pass) × Contains (take k p.lanes) lane) ⊎ (((j ≡ length (set passes pass left)) × Contains (drop k p.lanes) lane) ⊎ ((j ≢ pass) × HoldsLane passes j lane)) = λ j lane h. ⊎_elim
    (λ was. ⊎_elim
    (λ e. inl (e.0, subst (λ lanes. Contains lanes lane) (ap (λ (v : PassView). v.lanes) (sym e.1) ∙ kept) h.2))
    (λ o. inr (inr (o.0, (h.0, o.1, h.2))))
    (at_set passes pass j left h.0 was))
    (λ end. let one = at_one right h.0 end.0 end.2 in
    let place = end.1 in let zero_there = one.0 in
    inr (inl (omega (arith, place, zero_there), subst (λ lanes. Contains lanes lane) (ap (λ (v : PassView). v.lanes) (sym one.1) ∙ given) h.2)))
    (at_append (set passes pass left) (right ∷ []) j h.0 h.1) in
    let of_p : (lane : ℕ) → Contains p.lanes lane → HoldsLane passes pass lane = λ lane c. (p, at, c) in
    record {
      held = λ lane exists. let h = a.held lane exists in ⊎_elim
          (λ e. let mine = subst (λ lanes. Contains lanes lane) (ap (λ (v : PassView). v.lanes) (at_once passes pass h.1.0 p (subst (λ i. At passes i h.1.0) e h.1.1) at)) h.1.2 in ⊎_elim
          (λ c. (pass, (left, append_there (set passes pass left) (right ∷ []) pass left (set_there passes pass left p at), subst (λ lanes. Contains lanes lane) (sym kept) c)))
          (λ c. (length (set passes pass left), (right, append_end (set passes pass left) right, subst (λ lanes. Contains lanes lane) (sym given) c)))
          (take_or_drop k p.lanes lane mine))
          (λ ne. (h.0, (h.1.0, append_there (set passes pass left) (right ∷ []) h.0 h.1.0 (set_else passes pass h.0 left ne ∙ h.1.1), h.1.2)))
          (cases_eq h.0 pass);
      exists = λ j lane h. ⊎_elim
          (λ l. a.exists pass lane (of_p lane (in_take k p.lanes lane l.1)))
          (λ o. ⊎_elim (λ r. a.exists pass lane (of_p lane (in_drop k p.lanes lane r.1))) (λ e. a.exists j lane e.1) o)
          (cases j lane h);
      once = λ i j lane h g.
          let apart : Contains (take k p.lanes) lane → Contains (drop k p.lanes) lane → ⊥ = λ l r. let less = take_below_drop 0 k p.lanes lane lane (a.rising pass p at) l r in omega (arith, less) in
          let not_other : (x : ℕ) → x ≢ pass → HoldsLane passes x lane → Contains p.lanes lane → ⊥ = λ x ne held mine. ne (a.once x pass lane held (of_p lane mine)) in
          ⊎_elim
          (λ l. ⊎_elim (λ l'. l.0 ∙ sym l'.0) (λ o. ⊎_elim (λ r. absurd (apart l.1 r.1)) (λ e. absurd (not_other j e.0 e.1 (in_take k p.lanes lane l.1))) o) (cases j lane g))
          (λ o. ⊎_elim
          (λ r. ⊎_elim (λ l. absurd (apart l.1 r.1)) (λ o'. ⊎_elim (λ r'. r.0 ∙ sym r'.0) (λ e. absurd (not_other j e.0 e.1 (in_drop k p.lanes lane r.1))) o') (cases j lane g))
          (λ e. ⊎_elim (λ l. absurd (not_other i e.0 e.1 (in_take k p.lanes lane l.1)))
          (λ o'. ⊎_elim (λ r. absurd (not_other i e.0 e.1 (in_drop k p.lanes lane r.1))) (λ e'. a.once i j lane e.1 e'.1) o') (cases j lane g))
          o)
          (cases i lane h);
      rising = λ j u u_at. ⊎_elim
          (λ was. ⊎_elim
          (λ e. subst (RiseFrom 0) (sym kept ∙ ap (λ (v : PassView). v.lanes) e.1) (rise_take 0 k p.lanes (a.rising pass p at)))
          (λ o. a.rising j u o.1)
          (at_set passes pass j left u was))
          (λ end. subst (RiseFrom 0) (sym given ∙ ap (λ (v : PassView). v.lanes) (at_one right u end.0 end.2).1) (rise_drop 0 k p.lanes (a.rising pass p at)))
          (at_append (set passes pass left) (right ∷ []) j u u_at);
    }

-- a pass joined into another
pub lanes_join : (shape : Shape) (passes : List PassView) (pass other : ℕ) (p q both : PassView) → At passes pass p → At passes other q → other ≢ pass
    → both.lanes ≡ joined_lanes shape p.lanes q.lanes → LanesApart shape passes → LanesApart shape (set (set passes pass both) other spent)
lanes_join shape passes pass other p q both at there apart same a =
    let later = set (set passes pass both) other spent in
    let test : ℕ → Bool = λ l. is_lane_of p.lanes l || is_lane_of q.lanes l in
    -- who holds a lane afterwards: the pass, with a lane of one of the two, or another
    let cases : (j lane : ℕ) → HoldsLane later j lane → ((j ≡ pass) × (Contains p.lanes lane ⊎ Contains q.lanes lane)) ⊎ ((j ≢ pass) × (j ≢ other) × HoldsLane passes j lane) = λ j lane h. ⊎_elim
    (λ e. absurd (in_none lane (subst (λ lanes. Contains lanes lane) (ap (λ (v : PassView). v.lanes) (sym e.1)) h.2)))
    (λ o. ⊎_elim
    (λ e. let f = in_filter test (range_with_len 0 shape.lanes) lane (subst (λ lanes. Contains lanes lane) (ap (λ (v : PassView). v.lanes) (sym e.1) ∙ same) h.2) in
    inl (e.0, ⊎_elim (λ l. inl (lane_is_of p.lanes lane l)) (λ l. inr (lane_is_of q.lanes lane l)) (or_cases (is_lane_of p.lanes lane) (is_lane_of q.lanes lane) f.1)))
    (λ x. inr (x.0, o.0, (h.0, x.1, h.2)))
    (at_set passes pass j both h.0 o.1))
    (at_set (set passes pass both) other j spent h.0 h.1) in
    let of_either : (lane : ℕ) → Contains p.lanes lane ⊎ Contains q.lanes lane → HoldsLane passes pass lane ⊎ HoldsLane passes other lane = λ lane. ⊎_elim (λ c. inl (p, at, c)) (λ c. inr (q, there, c)) in
    let exists : (lane : ℕ) → Contains p.lanes lane ⊎ Contains q.lanes lane → lane < shape.lanes = λ lane c. ⊎_elim (a.exists pass lane) (a.exists other lane) (of_either lane c) in
    let forth : (lane : ℕ) → Contains p.lanes lane ⊎ Contains q.lanes lane → HoldsLane later pass lane = λ lane c. (
      both,
      set_else (set passes pass both) other pass spent (λ e. apart (sym e)) ∙ set_there passes pass both p at,
      subst (λ lanes. Contains lanes lane) (sym same) (filter_in test (range_with_len 0 shape.lanes) lane (let small = exists lane c in range_in 0 shape.lanes lane (omega arith) (omega (arith, small)))
          (⊎_elim (λ l. or_left (is_lane_of p.lanes lane) (is_lane_of q.lanes lane) (lane_passes p.lanes lane l)) (λ l. or_right (is_lane_of p.lanes lane) (is_lane_of q.lanes lane) (lane_passes q.lanes lane l)) c)),
    ) in
    let held_by : (i lane : ℕ) (u v : PassView) → At passes i u → At passes i v → Contains u.lanes lane → Contains v.lanes lane =
    λ i lane u v x y c. subst (λ lanes. Contains lanes lane) (ap (λ (w : PassView). w.lanes) (at_once passes i u v x y)) c in
    record {
      held = λ lane small. let h = a.held lane small in ⊎_elim
          (λ e. (pass, forth lane (inl (held_by pass lane h.1.0 p (subst (λ i. At passes i h.1.0) e h.1.1) at h.1.2))))
          (λ ne. ⊎_elim
          (λ e. (pass, forth lane (inr (held_by other lane h.1.0 q (subst (λ i. At passes i h.1.0) e h.1.1) there h.1.2))))
          (λ ne'. (h.0, (h.1.0, set_else (set passes pass both) other h.0 spent ne' ∙ set_else passes pass h.0 both ne ∙ h.1.1, h.1.2)))
          (cases_eq h.0 other))
          (cases_eq h.0 pass);
      exists = λ j lane h. ⊎_elim (λ c. exists lane c.1) (λ o. a.exists j lane o.2) (cases j lane h);
      once = λ i j lane h g.
          let not_other : (x : ℕ) → (x ≢ pass) → (x ≢ other) → HoldsLane passes x lane → Contains p.lanes lane ⊎ Contains q.lanes lane → ⊥ = λ x ne ne' held c.
          ⊎_elim (λ k. ne (a.once x pass lane held k)) (λ k. ne' (a.once x other lane held k)) (of_either lane c) in
          ⊎_elim
          (λ c. ⊎_elim (λ d. c.0 ∙ sym d.0) (λ o. absurd (not_other j o.0 o.1 o.2 c.1)) (cases j lane g))
          (λ o. ⊎_elim (λ c. absurd (not_other i o.0 o.1 o.2 c.1)) (λ o'. a.once i j lane o.2 o'.2) (cases j lane g))
          (cases i lane h);
      rising = λ j u u_at. ⊎_elim
          (λ e. subst (RiseFrom 0) (ap (λ (v : PassView). v.lanes) e.1) tt)
          (λ o. ⊎_elim
          (λ e. subst (RiseFrom 0) (sym same ∙ ap (λ (v : PassView). v.lanes) e.1) (rise_filter 0 test (range_with_len 0 shape.lanes) (rise_range 0 shape.lanes)))
          (λ x. a.rising j u x.1)
          (at_set passes pass j both u o.1))
          (at_set (set passes pass both) other j spent u u_at);
    }

-- at first one pass holds all lanes
pub lanes_first : (shape : Shape) → LanesApart shape (first_pass shape ∷ [])
lanes_first shape = record {
  held = λ lane small. (0, (first_pass shape, refl, range_in 0 shape.lanes lane (omega arith) (omega (arith, small))));
  exists = λ j lane h. let lanes = ap (λ (v : PassView). v.lanes) (at_one (first_pass shape) h.0 j h.1).1 in
      let small = in_range 0 shape.lanes lane (subst (λ l. Contains l lane) (sym lanes) h.2) in omega (arith, small);
  once = λ i j lane h g. (at_one (first_pass shape) h.0 i h.1).0 ∙ sym (at_one (first_pass shape) g.0 j g.1).0;
  rising = λ j u u_at. subst (RiseFrom 0) (ap (λ (v : PassView). v.lanes) (at_one (first_pass shape) u j u_at).1) (rise_range 0 shape.lanes);
}

-- one descriptor is of the lanes of one pass alone
pub one_owner : (shape : Shape) (passes : List PassView) (pass other : ℕ) (p q : PassView) (desc : ℕ) → LanesApart shape passes → At passes pass p → At passes other q → HasDesc shape p desc → HasDesc shape q desc → pass ≡ other
one_owner shape passes pass other p q desc a at there mine theirs =
    let same : theirs.0 ≡ mine.0 = sym ((owner_of_desc shape theirs.0 desc).0 theirs.2).1 ∙ ((owner_of_desc shape mine.0 desc).0 mine.2).1 in
    a.once pass other mine.0 (p, at, mine.1) (q, there, subst (Contains q.lanes) same theirs.1)
