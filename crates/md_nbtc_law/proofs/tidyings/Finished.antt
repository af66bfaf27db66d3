-- The end of a transaction that was committed: the last mark, and what all steps leave.
use Rattle.std.proofs.Common.{◌≡◌, ◌<◌, ◌++◌, ℕ, false, List, [], ◌∷◌, Option, Some, length, ⊎_elim, refl, sym, ap, ◌∙◌, subst, append_assoc, arith, None}
use Rattle.std.proofs.lemmas.List.Elements.{All-append, All-cons, All-nil, All-weaker}
use Rattle.std.specs.List.{All}
use Rattle.md_words.specs.declared.shape.Shape.{Shape}
use Rattle.md_words.specs.Content.{count_of}
use Rattle.md_words.specs.declared.status.Status.TheVariants.{Committed}
use Rattle.md_history.specs.FrontLaws.{all_stay-trans}
use Rattle.md_machine.specs.declared.attempt.AttemptId.{AttemptId}
use Rattle.md_machine.specs.declared.pass.PassView.{PassView}
use Rattle.md_machine.specs.declared.step.Kind.TheVariants.{Exchange, Install, Load}
use Rattle.md_machine.specs.declared.step.Step.{Step}
use Rattle.md_machine.specs.Event.{mark_end}
use Rattle.md_machine.specs.Machine.{content}
use Rattle.md_machine.specs.Meaning.{Meaning}
use Rattle.md_machine.specs.Stepping.{step_of}
use Rattle.md_machine.specs.events.Mark.{answered, marked, without}
use Rattle.md_machine.specs.Trail.{MetHigher, is_store}
use Rattle.md_machine.specs.events.Start.{IsClean, WonInstall}
use Rattle.md_rule_lanes.specs.Shares.{after_end, share_at}
use Rattle.md_rule.specs.Steps.{Stepped}
use Rattle.md_rule.specs.Views.{Origin, PassState}
use Rattle.md_rule_lanes.specs.declared.shares.Share.{Share}
use Rattle.md_rule.proofs.LaneLists.{desc_fits}
use Rattle.md_rule.proofs.LaneSteps.{one_changed}
use Rattle.md_rule.proofs.Moves.{is_kept}
use Rattle.md_rule.proofs.Told.{told_end}
use Rattle.md_help.specs.After.{IsAfter, StandsInField}
use Rattle.md_help.proofs.Steps.{both_after, known_stays, stands_after, trail_after}
use Rattle.md_arena.proofs.TakenNodes.{share_same}
use Rattle.md_nbtc_law.specs.declared.slots.Slot.{Slot}
use Rattle.md_nbtc_law.specs.declared.seen.Cleanup.{Cleanup}
use Rattle.md_nbtc_law.specs.declared.seen.Cleanup.TheVariants.{MoveTail, Unlink}
use Rattle.md_nbtc_law.specs.Deciding.{CleansSlots, FinishesAttempt, TakesSlots}
use Rattle.md_nbtc_law.specs.Ending.{CleansAll, CleansKept, CleanupGoesBy, Tries}
use Rattle.md_nbtc_law.specs.Withdrawing.{HasFate}
use Rattle.md_nbtc_law.proofs.beginning.TakingOut.{higher_still}
use Rattle.md_nbtc_law.proofs.preparing.Quiet.{IsQuiet, every_still}
use Rattle.md_nbtc_law.proofs.withdrawals.AllOut.{fate_still}
use Rattle.md_nbtc_law.proofs.withdrawals.Ended.{desc_there, hand_is}

-- the pass after its slots were taken out, after the cleanups, and after the mark
module _ (M : Meaning) (o : Origin) (p q r s : PassState) (a : AttemptId) (slots : List Slot) (lefts : List ℕ) (fate : HasFate o.shape p.view a Committed)
    (same : q ≡ record p { view = q.view }) (again : r ≡ record q { view = r.view }) (t : TakesSlots o.shape a slots lefts p.view q.view) (c : CleansSlots o.shape slots t.steps q.view r.view) where
  goes : IsAfter o.shape (t.steps ++ c.steps) p.view r.view
  goes = both_after o.shape t.steps c.steps p.view q.view r.view t.goes c.goes

  pub fate_now : HasFate o.shape r.view a Committed
  fate_now = fate_still o.shape a (t.steps ++ c.steps) p.view r.view goes Committed fate

  module _ (count : length p.shares ≡ 64) (stands : StandsInField M o r.view) (marks : s ≡ record r { view = s.view; shares = after_end r.shares a.desc }) (step : Stepped M o (λ pass. mark_end pass) r.view s.view) where
    told : s.view ≡ record (marked step.machine r.view) { hand = None; pending = without r.view.pending a; mine = r.view.mine ++ answered r.view.seen r.view.known a }
    told =
        let e = told_end M o r.view s.view step in
        let h = hand_is r.view a fate_now.held e.0 e.1.held in
        e.2 ∙ ap (λ x. record (marked step.machine r.view) { hand = None; pending = without r.view.pending x; mine = r.view.mine ++ answered r.view.seen r.view.known x }) h

    abbrev mark : Step
    mark = step_of step.machine r.view Load 0 (content step.machine 0)

    lanes_marked : s.view.lanes ≡ r.view.lanes
    lanes_marked = ap (λ (x : PassView). x.lanes) told

    seen_is : r.view.seen ≡ p.view.seen
    seen_is = ap (λ (x : PassView). x.seen) goes.1

    trail_is : s.view.trail ≡ p.view.trail ++ (t.steps ++ (c.steps ++ mark ∷ []))
    trail_is = ap (λ (x : PassView). x.trail) told ∙ ap (λ l. l ++ mark ∷ []) (trail_after o.shape (t.steps ++ c.steps) p.view r.view goes)
        ∙ append_assoc p.view.trail (t.steps ++ c.steps) (mark ∷ []) ∙ ap (λ l. p.view.trail ++ l) (append_assoc t.steps c.steps (mark ∷ []))

    shares_are : r.shares ≡ p.shares
    shares_are = ap (λ (x : PassState). x.shares) again ∙ ap (λ (x : PassState). x.shares) same

    inside : a.desc < length r.shares
    inside =
        let fits = desc_fits o.shape a.desc (desc_there M o r.view a fate_now) in
        let long = ap (λ l. length l) shares_are in
        omega (arith, fits, count, long)

    ends_share : (lane : ℕ) → ((share_at (after_end r.shares a.desc) lane).nodes_taken ≡ (share_at r.shares lane).nodes_taken)
        × ((share_at (after_end r.shares a.desc) lane).tries_taken ≡ (share_at r.shares lane).tries_taken)
    ends_share = one_changed (λ lane x y. (y.nodes_taken ≡ x.nodes_taken) × (y.tries_taken ≡ x.tries_taken)) r.shares a.desc
        (record (share_at r.shares a.desc) { left_open = false }) inside
        (λ lane e. (ap (λ l. (share_at r.shares l).nodes_taken) e, ap (λ l. (share_at r.shares l).tries_taken) e))
        (λ lane ne. (refl, refl))

    pub finished : FinishesAttempt M o p a slots s
    finished = record {
      stands = stands_after M o (λ pass. mark_end pass) r.view s.view step lanes_marked;
      same = record {
        table = ap (λ (x : PassState). x.table) marks ∙ ap (λ (x : PassState). x.table) again ∙ ap (λ (x : PassState). x.table) same;
        shape = ap (λ (x : PassState). x.shape) marks ∙ ap (λ (x : PassState). x.shape) again ∙ ap (λ (x : PassState). x.shape) same;
        lanes = lanes_marked ∙ ap (λ (x : PassView). x.lanes) goes.1;
        past = ap (λ (x : PassView). x.past) told ∙ ap (λ (x : PassView). x.past) goes.1;
        steps = record { rest = t.steps ++ (c.steps ++ mark ∷ []); is = trail_is };
        known = all_stay-trans p.view.known r.view.known s.view.known goes.2 (known_stays M o (λ pass. mark_end pass) r.view s.view step lanes_marked);
      };
      seen = ap (λ (x : PassView). x.seen) told ∙ seen_is;
      idle = ap (λ (x : PassView). x.hand) told;
      pending = ap (λ (x : PassView). x.pending) told ∙ ap (λ (x : PassView). without x.pending a) goes.1;
      known = r.view.known;
      knows = (goes.2, ((is_kept M o stands.machine stands.admitted).fronts stands.pass r.view stands.acts.at).fated ∙ ap length seen_is);
      mine = ap (λ (x : PassView). x.mine) told ∙ ap (λ l. l ++ answered r.view.seen r.view.known a) (ap (λ (x : PassView). x.mine) goes.1) ∙ ap (λ l. p.view.mine ++ answered l r.view.known a) seen_is;
      ended = ap (λ (x : PassState). (share_at x.shares a.desc).left_open) marks
          ∙ ap (λ (x : Share). x.left_open) (share_same r.shares a.desc (record (share_at r.shares a.desc) { left_open = false }) inside);
      tries = λ lane. ap (λ (x : PassState). (share_at x.shares lane).tries_taken) marks ∙ (ends_share lane).1 ∙ ap (λ l. (share_at l lane).tries_taken) shares_are;
      nodes = λ lane. ap (λ (x : PassState). (share_at x.shares lane).nodes_taken) marks ∙ (ends_share lane).0 ∙ ap (λ l. (share_at l lane).nodes_taken) shares_are;
      outs = t.steps;
      cleaning = c.steps;
      mark = mark;
      trail = trail_is;
      taken = t.each;
      cleans = c.cleans;
    }

-- the steps of cleanups neither store nor install
look_quiet : (s : Step) → s.kind ≡ Load → IsQuiet s
look_quiet s is = record { store = ap is_store is; install = λ e. no_install (sym is ∙ e) }
  where
    no_install : Load ≡ Install → ⊥
    no_install e = cc

exchange_quiet : (s : Step) → s.kind ≡ Exchange → IsQuiet s
exchange_quiet s is = record { store = ap is_store is; install = λ e. no_install (sym is ∙ e) }
  where
    no_install : Exchange ≡ Install → ⊥
    no_install e = cc

looks_quiet : (shape : Shape) (c : Cleanup) (out : Step) (looks : List Step) (by : Step) → CleanupGoesBy shape c out looks by → All IsQuiet looks
looks_quiet shape (Unlink prev node) out looks by is = subst (All IsQuiet) (sym is.0) (All-cons IsQuiet by [] (look_quiet by is.1.kind) (All-nil IsQuiet))
looks_quiet shape (MoveTail tail from to) out looks by is = subst (All IsQuiet) (sym is.0) (All-nil IsQuiet)

tries_quiet : (shape : Shape) (c : Cleanup) (out : Step) (held : ℕ) (steps : List Step) → Tries shape c out held steps → All IsQuiet steps
tries_quiet shape c out held steps t =
    let looks = looks_quiet shape c out t.looks t.by t.goes in ⊎_elim
    (λ none. subst (All IsQuiet) (sym none.0) looks)
    (λ one. subst (All IsQuiet) (sym one.1) (All-append IsQuiet t.looks (one.0 ∷ []) looks (All-cons IsQuiet one.0 [] (exchange_quiet one.0 one.2) (All-nil IsQuiet))))
    t.ends

kept_quiet : (shape : Shape) (o : Option Cleanup) (out : Step) (steps : List Step) → CleansKept shape o out steps → All IsQuiet steps
kept_quiet shape None out steps none = subst (All IsQuiet) (sym none) (All-nil IsQuiet)
kept_quiet shape (Some c) out steps k = subst (All IsQuiet) (sym k.order) (All-cons IsQuiet k.first k.rest (look_quiet k.first k.loads.kind)
    (⊎_elim (λ not. subst (All IsQuiet) (sym not.1) (All-nil IsQuiet)) (λ tried. tries_quiet shape c out k.held k.rest tried.1) k.ends))

cleans_quiet : (shape : Shape) (slots : List Slot) (outs steps : List Step) → CleansAll shape slots outs steps → All IsQuiet steps
cleans_quiet shape [] outs steps none = subst (All IsQuiet) (sym none) (All-nil IsQuiet)
cleans_quiet shape (s ∷ slots) [] steps none = absurd none
cleans_quiet shape (s ∷ slots) (out ∷ outs) steps (first, rest, order, one, more) =
    subst (All IsQuiet) (sym order) (All-append IsQuiet first rest (kept_quiet shape s.cleanup out first one) (cleans_quiet shape slots outs rest more))

-- so an attempt that stands in no word stands in none after them
pub clean_still : (shape : Shape) (slots : List Slot) (outs : List Step) (p q : PassView) (c : CleansSlots shape slots outs p q) → (a : AttemptId) → IsClean p a → IsClean q a
clean_still shape slots outs p q c a clean =
    every_still shape c.steps p q c.goes Out (All-weaker IsQuiet Out (λ s k won. absurd (k.install won.kind)) c.steps (cleans_quiet shape slots outs c.steps c.cleans))
    (λ segment i s j won. higher_still shape c.steps p q c.goes s.word (count_of s.after) (clean segment i s j won))
  where
    Out : Step → Type 0
    Out s = WonInstall a s → MetHigher q s.word (count_of s.after)
