-- What the end of a transaction of a store tells, whose calls were made one by one.
use Rattle.std.proofs.Common.{◌≡◌, ℕ, List, [], None, refl, sym, ap, subst, ◌∙◌}
use Rattle.std.specs.Prelude.{option_map}
use Rattle.md_help.specs.After.{StandsInField}
use Rattle.md_history.specs.declared.acts.Act.{Act}
use Rattle.md_history.specs.declared.stops.Attempt.TheVariants.{Committed}
use Rattle.md_history.specs.declared.stops.Shown.{Shown}
use Rattle.md_history.specs.Attempt.{Commits, Stops}
use Rattle.md_history.specs.Calls.{Refusal}
use Rattle.md_history.specs.Front.{Front}
use Rattle.md_nbtc_law.specs.Ended.{WasCommitted, WasLost}
use Rattle.md_machine.specs.declared.attempt.Hand.{Hand}
use Rattle.md_nbtc_law.specs.Ending.{BeginsNot, BeginsTransaction, Stopped}
use Rattle.md_nbtc_law.specs.Going.{IsGoing}
use Rattle.md_nbtc_law.specs.State.{TxnState}
use Rattle.md_rule.specs.Views.{FieldView, PassState}
use Rattle.md_store_law.specs.Store.{store}
use Rattle.md_store_bodies.specs.Running.{IsRunning, Running}
use Rattle.md_store_bodies.specs.Store.{IsPassOf, front_in}
use Rattle.md_store.specs.Transactions.{BeginsNone, EndLaws, EndsAs, HasRun, IsAbandoned, IsBegun, Loses, Ran, acts_of}
use Rattle.md_store.proofs.Attempts.{RunOf, begun_stopped, cause, front_stopped, legal_of, of_stopped, refused_may, refused_to, unbegun_front, unbegun_of, unbegun_same}
use Rattle.md_store.proofs.Ends.{ends_committed, ends_lost}

-- none began
pub begins_none : (f : FieldView) (p q : PassState) → IsPassOf f p → BeginsNot store p f.origin q → BeginsNone f p q
begins_none f p q of none = record {
  of = unbegun_of f p q of none;
  front = unbegun_front f p q of none;
  begun = unbegun_same f p q of none;
  none = none;
}

-- one began
pub is_begun : (p : PassState) (tag : ℕ) (t : TxnState) → BeginsTransaction p tag t → IsGoing store t [] → IsBegun p t
is_begun p tag t begins going = record {
  begins = subst (λ (n : ℕ). BeginsTransaction p n t) (sym (ap (λ (h : Hand). h.tag) begins.hand)) begins;
  going = going;
}

-- one as it is seen
pub has_run : (inside r : Running) → inside ≡ r → inside.now.field ≡ inside.kept.field → inside.now.hand.tag ≡ inside.kept.tag
    → IsRunning inside.kept.before inside.now inside.refused → IsPassOf r.kept.field r.kept.before → HasRun r
has_run inside r is field tagged running of = record {
  of = of;
  running = subst (λ (x : Running). IsRunning x.kept.before x.now x.refused) is running;
  field = subst (λ (x : Running). x.now.field ≡ x.kept.field) is field;
  tagged = subst (λ (x : Running). x.now.hand.tag ≡ x.kept.tag) is tagged;
}

-- one that ran runs, by its state
pub runs_as : (r : Running) → HasRun r → (before : PassState) (t : TxnState) → r.kept.before ≡ before → t ≡ r.now → IsRunning before t r.refused
runs_as r run before t is same =
    subst (λ (p : PassState). IsRunning p t r.refused) is (subst (λ (x : TxnState). IsRunning r.kept.before x r.refused) (sym same) run.running)

module _ (r : Running) (run : HasRun r) where
  -- one without a refusal
  whole : r.refused ≡ None → IsRunning r.kept.before r.now None
  whole none = subst (IsRunning r.kept.before r.now) none run.running

  pub has_no_stop : r.refused ≡ None → r.now.stop ≡ None
  has_no_stop none = run.running.stop ∙ ap (option_map (λ (x : Refusal). x.stop)) none

  module _ (q : PassState) where
    -- it was committed
    pub commits_as : {R : Type 0} → r.refused ≡ None → (x : R) → WasCommitted store r.now q → EndsAs r q (Committed x)
    commits_as {R} none x was =
        let did : List Act → R → Type 0 = λ acts _. acts ≡ acts_of r in
        ends_committed r.kept.field r.kept.before run.of r.kept.tag did (λ acts. acts ≡ acts_of r) q r.now
        (record { field = run.field; tagged = run.tagged }) (whole none) x refl was

    -- it wasn't
    pub loses_as : r.refused ≡ None → (shown : Shown) → WasLost store r.now q shown → Loses r q shown
    loses_as none shown lost =
        let did : List Act → Unit {0} → Type 0 = λ acts _. acts ≡ acts_of r in
        ends_lost r.kept.field r.kept.before run.of r.kept.tag did (λ acts. acts ≡ acts_of r) q r.now
        (record { field = run.field; tagged = run.tagged }) (whole none) shown lost

    -- it was stopped
    pub abandons : Stopped store r.now q → IsAbandoned r q
    abandons gone =
        let x : RunOf r.kept.field r.kept.before r.kept.tag r.now r.refused = record { running = run.running; field = run.field; tagged = run.tagged } in
        let of = of_stopped r.kept.field r.kept.before run.of r.kept.tag r.now r.refused x q gone in
        record {
          of = of;
          stops = front_stopped r.kept.field r.kept.before run.of r.kept.tag r.now r.refused x q gone;
          legal = legal_of r.kept.field q of;
          begun = begun_stopped r.kept.field r.kept.before run.of r.kept.tag r.now r.refused x q gone;
          stopped = gone;
          cause = cause r.kept.field r.kept.before run.of r.now r.refused run.running run.field;
          may_stop = refused_may r.kept.field r.kept.before run.of r.now r.refused run.running run.field;
          alone = refused_to r.kept.field r.kept.before run.of r.now r.refused run.running run.field;
        }

    -- it was left
    pub left_of : q ≡ r.now.pass → IsPassOf r.kept.field q
    left_of same = subst (IsPassOf r.kept.field) (sym same) (record {
      of = record {
        table = run.running.going.1.prepared.has.of.table ∙ ap (λ (x : FieldView). x.table) run.field;
        shape = run.running.going.1.prepared.has.of.shape ∙ ap (λ (x : FieldView). x.origin.shape) run.field;
      };
      stands = subst (λ (x : FieldView). StandsInField store x.origin r.now.pass.view) run.field run.running.going.1.stands;
    })

-- one that was committed did what it did with whichever reply
commits_with : {R S : Type 0} (did : List Act → R → Type 0) (acts : List Act) (reply : R) (x : S) (tag : ℕ) (old new : Front) → did acts reply
    → Commits (λ (done : List Act) (any : S). done ≡ acts) tag x old new → Commits did tag reply old new
commits_with did acts reply x tag old new told c = record {
  begins = c.begins;
  fated = c.fated;
  lanes = c.lanes;
  pending = c.pending;
  entry = c.entry;
  own = c.own;
  before = c.before;
  last = c.last;
  tagged = c.tagged;
  did_it = subst (λ (done : List Act). did done reply) (sym c.did_it) told;
  mine = c.mine;
}

-- what a caller concludes of a transaction that it began on the field with this pass and this tag, by the front and the
-- field of its pass
module _ (f : FieldView) (p : PassState) (tag : ℕ) (t u : TxnState) (r : Running) (ran : Ran p t u r) (is_field : t.field ≡ f) (is_tag : t.hand.tag ≡ tag)
    (q : PassState) where
  moved : (A : FieldView → PassState → ℕ → Type 0) → A r.kept.field r.kept.before r.kept.tag → A f p tag
  moved A here =
      subst (λ (g : FieldView). A g p tag) (ran.field ∙ is_field)
      (subst (λ (b : PassState). A r.kept.field b tag) ran.same (subst (A r.kept.field r.kept.before) (ran.tag ∙ is_tag) here))

  pub committed_by : {R : Type 0} → r.refused ≡ None → WasCommitted store u q → (did : List Act → R → Type 0) (reply : R) → did (acts_of r) reply
      → Commits did tag reply (front_in p) (front_in q) × IsPassOf f q
  committed_by none was did reply told =
      let unit : Unit {0} = tt in
      let ends = commits_as r ran.run q none unit (subst (λ (x : TxnState). WasCommitted store x q) ran.now was) in
      moved (λ g b n. Commits did n reply (front_in b) (front_in q) × IsPassOf g q)
      (commits_with did (acts_of r) reply unit r.kept.tag _ _ told ends.atomic.committed, ends.of)

  pub lost_by : r.refused ≡ None → (shown : Shown) → WasLost store u q shown → Stops tag (front_in p) (front_in q) × IsPassOf f q
  lost_by none shown lost =
      let ends = loses_as r ran.run q none shown (subst (λ (x : TxnState). WasLost store x q shown) ran.now lost) in
      moved (λ g b n. Stops n (front_in b) (front_in q) × IsPassOf g q) (ends.atomic.stopped, ends.of)

  pub stopped_by : Stopped store u q → Stops tag (front_in p) (front_in q) × IsPassOf f q
  stopped_by gone =
      let ends = abandons r ran.run q (subst (λ (x : TxnState). Stopped store x q) ran.now gone) in
      moved (λ g b n. Stops n (front_in b) (front_in q) × IsPassOf g q) (ends.stops, ends.of)

pub ends_so : EndLaws
ends_so = record {
  begun = is_begun;
  none = begins_none;
  going = λ r run none. (has_no_stop r run none, run.running.between none);
  committed = λ r run none q was. commits_as r run q none tt was;
  lost = λ r run none q shown lost. loses_as r run q none shown lost;
  abandoned = λ r run q gone. abandons r run q gone;
  left = λ r run q same. left_of r run q same;
}
