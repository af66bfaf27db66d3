-- What passes have seen and know agrees with the history, after every event.
use Rattle.std.proofs.Common.{◌≡◌, ◌≢◌, ℕ, suc, ◌≤◌, ◌⊎◌, ◌||◌, cond, List, [], ◌∷◌, ◌++◌, length, set, get_or, refl, sym, ap, ◌∙◌, subst, inl, inr, ⊎_elim, nat_le, append-nil, arith}
use Rattle.std.proofs.lemmas.List.{get_or_append_left}
use Rattle.std.specs.List.{Contains, range_with_len}
use Rattle.std.proofs.lemmas.Bool.{cond_both, cond-true, cond-false, leb-true, leb-false, or_cases}
use Rattle.md_words.specs.declared.shape.Shape.{Shape}
use Rattle.md_words.specs.Lanes.{lane_of_desc}
use Rattle.md_history.specs.declared.entries.Fate.{Fate}
use Rattle.md_history.specs.Front.{IsPrefix, AllStay, known_of_both, is_lane_of}
use Rattle.md_history.specs.FrontLaws.{all_stay-self, all_stay-trans, prefix-trans, lane_is_of, both-stay}
use Rattle.md_machine.specs.declared.attempt.HistoryEntry.{HistoryEntry}
use Rattle.md_machine.specs.declared.step.Step.{Step}
use Rattle.md_machine.specs.declared.pass.PassView.{PassView}
use Rattle.md_machine.proofs.clauses.entries.EntriesFit.{EntriesFit}
use Rattle.md_machine.proofs.clauses.passes.LanesApart.{At}
use Rattle.md_machine.proofs.fates.Knowing.{TellsTruth, joined_length, known_fits}
use Rattle.md_machine.proofs.lists.At.{at_append, at_one, at_set}
use Rattle.md_machine.proofs.lists.Rising.{in_filter, in_none}
use Rattle.md_machine.specs.Machine.{Machine, shape_of}
use Rattle.md_machine.specs.Stepping.{known_after}
use Rattle.md_machine.specs.clauses.passes.Fronts.{FrontFits, FrontsFit}
use Rattle.md_machine.specs.events.SplitJoin.{joined_lanes, longer, spent}

-- two first parts of one list: the longer one has what the shorter one has
pub within_longer : {A : Type 0} (xs ys h : List A) (x : A) → IsPrefix xs h → IsPrefix ys h → length xs ≤ length ys → Contains xs x → Contains ys x
within_longer xs ys h x a b le (k, inside, is) = (
  k,
  omega (arith, inside, le),
  sym (get_or_append_left ys b.rest x k (omega (arith, inside, le))) ∙ ap (λ l. get_or l k x) (sym b.is ∙ a.is) ∙ get_or_append_left xs a.rest x k inside ∙ is,
)

pub fated : (shape : Shape) (words : List ℕ) (es : List HistoryEntry) (fs : List Fate) → EntriesFit shape words es fs → length fs ≡ length es
fated shape words [] [] f = refl
fated shape words [] (x ∷ fs) f = absurd f
fated shape words (e ∷ es) [] f = absurd f
fated shape words (e ∷ es) (x ∷ fs) f = ap suc (fated shape words es fs f.1)

-- what an event leaves: words, a history that goes on, and fates that stay
module _ (m : Machine) (words : List ℕ) (history : List HistoryEntry) (fates : List Fate) (fit : EntriesFit (shape_of m) words history fates) (grows : IsPrefix m.history history) (stay : AllStay m.fates fates) where
  abbrev Was : PassView → Type 0
  Was = FrontFits (shape_of m) m.history m.fates

  abbrev Is : PassView → Type 0
  Is = FrontFits (shape_of m) history fates

  -- new entries are of other lanes than the pass's
  abbrev Foreign : PassView → Type 0
  Foreign p = (e : HistoryEntry) → Contains history e → Contains p.lanes (lane_of_desc (shape_of m) e.attempt.desc) → Contains m.history e

  pub front_kept : (p : PassView) → Foreign p → Was p → Is p
  front_kept p foreign was = record {
    seen = prefix-trans was.seen grows;
    fated = was.fated;
    known = all_stay-trans p.known m.fates fates was.known stay;
    own = λ e c l. was.own e (foreign e c l) l;
  }

  -- the pass after a step that tells the truth, with some of its lanes
  pub front_stepped : (p q : PassView) (s : Step) → Was p → Foreign p → TellsTruth (shape_of m) words s → q.seen ≡ p.seen → q.known ≡ known_after (shape_of m) p.seen s p.known
      → ((lane : ℕ) → Contains q.lanes lane → Contains p.lanes lane) → Is q
  front_stepped p q s was foreign truth seen known lanes =
      let prefix = prefix-trans was.seen grows in
      let k = known_fits (shape_of m) words p.seen prefix.rest s p.known fates truth (subst (λ h. EntriesFit (shape_of m) words h fates) prefix.is fit) (all_stay-trans p.known m.fates fates was.known stay) in record {
        seen = subst (λ x. IsPrefix x history) (sym seen) prefix;
        fated = ap length known ∙ k.1 ∙ was.fated ∙ ap length (sym seen);
        known = subst (λ x. AllStay x fates) (sym known) k.0;
        own = λ e c l. let mine = lanes (lane_of_desc (shape_of m) e.attempt.desc) l in subst (λ x. Contains x e) (sym seen) (was.own e (foreign e c mine) mine);
      }

  -- a pass that has seen all
  pub front_all : (q : PassView) → q.seen ≡ history → q.known ≡ fates → Is q
  front_all q seen known = record {
    seen = subst (λ x. IsPrefix x history) (sym seen) (record { rest = []; is = sym (append-nil history) });
    fated = ap length known ∙ fated (shape_of m) words history fates fit ∙ ap length (sym seen);
    known = subst (λ x. AllStay x fates) (sym known) (all_stay-self fates);
    own = λ e c l. subst (λ x. Contains x e) (sym seen) c;
  }

  -- two passes joined
  pub front_joined : (p q both : PassView) → Is p → Is q → both.seen ≡ longer p.seen q.seen → both.known ≡ known_of_both p.known q.known → both.lanes ≡ joined_lanes (shape_of m) p.lanes q.lanes → Is both
  front_joined p q both a b seen known lanes = record {
    seen = subst (λ x. IsPrefix x history) (sym seen) (cond_both (nat_le (length p.seen) (length q.seen)) q.seen p.seen (λ x. IsPrefix x history) (λ _. b.seen) (λ _. a.seen));
    fated = ap length known ∙ joined_length p.known q.known (length p.seen) (length q.seen) a.fated b.fated
        ∙ cond_both (nat_le (length p.seen) (length q.seen)) q.seen p.seen (λ x. cond (nat_le (length p.seen) (length q.seen)) (length q.seen) (length p.seen) ≡ length x) (λ yes. cond-true _ _ _ yes) (λ no. cond-false _ _ _ no)
        ∙ ap length (sym seen);
    known = subst (λ x. AllStay x fates) (sym known) (both-stay p.known q.known fates a.known b.known);
    own = λ e c l.
        let lane = lane_of_desc (shape_of m) e.attempt.desc in
        let either_lane = (in_filter (λ x. is_lane_of p.lanes x || is_lane_of q.lanes x) (range_with_len 0 (shape_of m).lanes) lane (subst (λ x. Contains x lane) lanes l)).1 in
        let one : Contains p.seen e ⊎ Contains q.seen e = ⊎_elim (λ y. inl (a.own e c (lane_is_of p.lanes lane y))) (λ y. inr (b.own e c (lane_is_of q.lanes lane y))) (or_cases (is_lane_of p.lanes lane) (is_lane_of q.lanes lane) either_lane) in
        subst (λ x. Contains x e) (sym seen) (cond_both (nat_le (length p.seen) (length q.seen)) q.seen p.seen (λ x. Contains x e)
        (λ yes. ⊎_elim (λ y. within_longer p.seen q.seen history e a.seen b.seen (leb-true _ _ yes) y) (λ y. y) one)
        (λ no. let more = leb-false (length p.seen) (length q.seen) no in ⊎_elim (λ y. y) (λ y. within_longer q.seen p.seen history e b.seen a.seen (omega (arith, more)) y) one));
  }

  pub front_spent : Is spent
  front_spent = record { seen = record { rest = history; is = refl }; fated = refl; known = tt; own = λ e c l. absurd (in_none _ l) }

  -- the passes after one was replaced
  pub fronts_set : (pass : ℕ) (q : PassView) → ((j : ℕ) (u : PassView) → j ≢ pass → At m.passes j u → Foreign u) → FrontsFit (shape_of m) m.history m.fates m.passes → Is q → FrontsFit (shape_of m) history fates (set m.passes pass q)
  fronts_set pass q foreign was is j u u_at = ⊎_elim (λ e. subst Is e.1 is) (λ o. front_kept u (foreign j u o.0 o.1) (was j u o.1)) (at_set m.passes pass j q u u_at)

  pub fronts_more : (later : List PassView) (r : PassView) → FrontsFit (shape_of m) history fates later → Is r → FrontsFit (shape_of m) history fates (later ++ r ∷ [])
  fronts_more later r was is j u u_at = ⊎_elim (λ old. was j u old) (λ end. subst Is (at_one r u end.0 end.2).1 is) (at_append later (r ∷ []) j u u_at)

  pub fronts_other : (later : List PassView) (pass : ℕ) (r : PassView) → FrontsFit (shape_of m) history fates later → Is r → FrontsFit (shape_of m) history fates (set later pass r)
  fronts_other later pass r was is j u u_at = ⊎_elim (λ e. subst Is e.1 is) (λ o. was j u o.1) (at_set later pass j r u u_at)
