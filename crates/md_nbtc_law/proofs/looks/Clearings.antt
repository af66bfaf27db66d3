-- The steps of a clearing: calm ones that leave the word as it is, and a last one that finds what is left there, or leaves it by taking the descriptor out.
use Rattle.std.proofs.Common.{◌≡◌, ◌≢◌, ◌⊎◌, ◌<◌, ◌++◌, ◌∷◌, ℕ, true, false, List, [], refl, sym, ap, ◌∙◌, subst, inl, inr, ⊎_elim, append_assoc, arith}
use Rattle.std.proofs.lemmas.List.Elements.{All-append, All-cons, All-contains, All-head, All-nil, All-tail, All-weaker, Contains-append_right, Contains-push}
use Rattle.std.specs.List.{All, Contains}
use Rattle.md_words.specs.declared.content.Spot.{Spot}
use Rattle.md_words.specs.declared.shape.Shape.{Shape}
use Rattle.md_words.specs.declared.status.Status.{Status}
use Rattle.md_words.specs.declared.status.Status.TheVariants.{InPrep, InProg, Committed as IsCommitted, Aborted as IsAborted}
use Rattle.md_words.specs.Content.{spot_of, value_of}
use Rattle.md_words.specs.Layout.{IsInSet, address, desc_count}
use Rattle.md_words.specs.Place.{desc_status, slot_new, slot_old}
use Rattle.md_words.specs.PlaceAt.{IsCounted}
use Rattle.md_words.proofs.Owners.{own_desc_exists}
use Rattle.md_words.proofs.Places.{address_differs}
use Rattle.md_machine.specs.declared.pass.PassView.{PassView}
use Rattle.md_machine.specs.declared.step.Kind.TheVariants.{Load, Uninstall}
use Rattle.md_machine.specs.declared.step.Step.{Step}
use Rattle.md_machine.specs.Moved.{holds_other}
use Rattle.md_machine.specs.Trail.{Finds, Loads, is_store}
use Rattle.md_machine.specs.events.Uninstall.{desc_in, slot_by_fate, status_of_desc, uninstalled_word, value_by_fate}
use Rattle.md_help.specs.declared.settling.End.{End}
use Rattle.md_help.specs.declared.settling.End.TheVariants.{Committed, Aborted, Gone}
use Rattle.md_help.specs.declared.clearing.Cleared.{Cleared}
use Rattle.md_help.specs.Clears.{Clears, EndsLater, GoneLater, LoadsChangeNothing, TakenLater, TakesOut, fate_of}
use Rattle.md_help.specs.Settles.{Decides}
use Rattle.md_help.proofs.Steps.{StaysSame}
use Rattle.md_nbtc_law.specs.Prepared.{IsPrepared}
use Rattle.md_nbtc_law.specs.Seeing.{IsNextOf}
use Rattle.md_nbtc_law.specs.State.{OwnNode, TxnState, attempt_in, shape_in}
use Rattle.md_nbtc_law.proofs.looks.CalmSteps.{calm_load, calm_settling, calm_take, other_desc, settling_same}
use Rattle.md_nbtc_law.proofs.preparing.Calm.{IsCalm}
use Rattle.md_nbtc_law.proofs.preparing.StatusApart.{counted_apart}

-- a step finds this in the word and leaves it, or takes the content out of it by an uninstall, which leaves this
pub record EndsAt (word from left : ℕ) (s : Step) : Type 0 where
  pub there : s.word ≡ word
  pub leaves : s.after ≡ left
  pub ends : (Finds word left s × (s.before ≡ s.after)) ⊎ ((s.kind ≡ Uninstall) × (s.before ≡ from) × ((value : ℕ) × (left ≡ uninstalled_word from value)))

-- it is calm, and leaves the word as it is
abbrev pub Passes : TxnState → (word : ℕ) → Step → Type 0
Passes t word s = IsCalm t word s × (s.word ≡ word → s.before ≡ s.after)

pub record ClearsBy (t : TxnState) (word from left : ℕ) (steps : List Step) : Type 0 where
  pub earlier : List Step
  pub last : Step
  pub order : steps ≡ earlier ++ last ∷ []
  pub passes : All (Passes t word) earlier
  pub calm : IsCalm t word last
  pub at : EndsAt word from left last

-- a slot's word is no status
slot_place : (shape : Shape) (fate : Status) (spot : Spot) (own : ℕ) → IsInSet shape spot.desc spot.slot → own < desc_count shape → address shape (slot_by_fate fate spot) ≢ address shape (desc_status own)
slot_place shape IsCommitted spot own inside exists = address_differs shape (slot_new spot.desc spot.slot) (desc_status own) inside exists (λ e. grind arith)
slot_place shape IsAborted spot own inside exists = address_differs shape (slot_old spot.desc spot.slot) (desc_status own) inside exists (λ e. grind arith)
slot_place shape InPrep spot own inside exists = address_differs shape (slot_old spot.desc spot.slot) (desc_status own) inside exists (λ e. grind arith)
slot_place shape InProg spot own inside exists = address_differs shape (slot_old spot.desc spot.slot) (desc_status own) inside exists (λ e. grind arith)

module _ (t : TxnState) (prepared : IsPrepared t) (word : ℕ) (counted : IsCounted (shape_in t) word) (from : ℕ) (inside : IsInSet (shape_in t) (desc_in from) (spot_of (value_of from)).slot)
    (apart : desc_in from ≢ (attempt_in t).desc) (other : holds_other (attempt_in t).desc from ≡ true)
    (no_node : (n : OwnNode) → Contains t.nodes n → ¬ IsNextOf t word n.node) where
  own_exists : (attempt_in t).desc < desc_count (shape_in t)
  own_exists = own_desc_exists (shape_in t) prepared.has.own.0 (attempt_in t).desc prepared.has.own.2

  -- a load of a word that isn't the own status
  passes_load : (on held : ℕ) (s : Step) → Loads on held s → (s.kind ≡ Load → s.before ≡ s.after) → on ≢ address (shape_in t) (desc_status (attempt_in t).desc) → Passes t word s
  passes_load on held s l same differ = (calm_load t prepared word counted s l.kind (same l.kind) (λ e. differ (sym l.finds.there ∙ e)), λ _. same l.kind)

  passes_settling : (steps : List Step) → All (Decides (shape_in t) (desc_in from)) steps → All (Passes t word) steps
  passes_settling steps = All-weaker (Decides (shape_in t) (desc_in from)) (Passes t word)
      (λ s d. (calm_settling t prepared word counted (desc_in from) inside.0 apart s d, settling_same t prepared word counted (desc_in from) inside.0 s d)) steps

  ends_load : (left : ℕ) (s : Step) → Loads word left s → (s.kind ≡ Load → s.before ≡ s.after) → IsCalm t word s × EndsAt word from left s
  ends_load left s l same = (
    (passes_load word left s l same (counted_apart t prepared word counted)).0,
    record { there = l.finds.there; leaves = sym (same l.kind) ∙ l.finds.before; ends = inl (l.finds, same l.kind) },
  )

  ends_take : (value left : ℕ) (s : Step) → TakesOut word from value left s → IsCalm t word s × EndsAt word from left s
  ends_take value left s k = ⊎_elim
      (λ won. (
        calm_take t prepared word counted no_node s k.kind k.there (inl (subst (λ h. holds_other (attempt_in t).desc h ≡ true) (sym won.0) other)),
        record { there = k.there; leaves = k.leaves; ends = inr (k.kind, won.0, (value, won.1)) },
      ))
      (λ lost. let same : s.before ≡ s.after = sym lost.1 ∙ sym k.leaves in (
        calm_take t prepared word counted no_node s k.kind k.there (inr same),
        record { there = k.there; leaves = k.leaves; ends = inl (record { there = k.there; before = sym lost.1; found = found_take k.kind }, same) },
      ))
      k.won
    where
      found_take : s.kind ≡ Uninstall → is_store s.kind ≡ false
      found_take e = ap is_store e

  -- a clearing that found a later attempt, and one that took the descriptor out
  by_gone : (status left : ℕ) (steps : List Step) → LoadsChangeNothing steps → GoneLater (shape_in t) word from status left steps → ClearsBy t word from left steps
  by_gone status left steps still g =
      let e = ends_load left g.last g.looks (All-contains StaysSame steps g.last still (subst (λ l. Contains l g.last) (sym g.order) (Contains-push g.settling g.last))) in record {
        earlier = g.settling;
        last = g.last;
        order = g.order;
        passes = passes_settling g.settling g.changes;
        calm = e.0;
        at = e.1;
      }

  by_taken : (status left : ℕ) (end : End) (steps : List Step) → LoadsChangeNothing steps → TakenLater (shape_in t) word from status end left steps → ClearsBy t word from left steps
  by_taken status left end steps still k =
      let e = ends_take (value_by_fate (fate_of end) k.held) left k.take k.takes in
      let fate = fate_of end in
      let spot = spot_of (value_of from) in
      let within : Contains steps k.slot = subst (λ l. Contains l k.slot) (sym k.order) (Contains-append_right k.settling (k.slot ∷ k.take ∷ []) k.slot (0, omega arith, refl)) in
      let slot = passes_load (address (shape_in t) (slot_by_fate fate spot)) k.held k.slot k.loads (All-contains StaysSame steps k.slot still within)
      (slot_place (shape_in t) fate spot (attempt_in t).desc inside own_exists) in record {
        earlier = k.settling ++ k.slot ∷ [];
        last = k.take;
        order = k.order ∙ sym (append_assoc k.settling (k.slot ∷ []) (k.take ∷ []));
        passes = All-append (Passes t word) k.settling (k.slot ∷ []) (passes_settling k.settling k.changes) (All-cons (Passes t word) k.slot [] slot (All-nil (Passes t word)));
        calm = e.0;
        at = e.1;
      }

  by_later : (status left : ℕ) (end : End) (steps : List Step) → LoadsChangeNothing steps → EndsLater (shape_in t) word from status end left steps → ClearsBy t word from left steps
  by_later status left Committed steps still k = by_taken status left Committed steps still k
  by_later status left Aborted steps still k = by_taken status left Aborted steps still k
  by_later status left Gone steps still g = by_gone status left steps still g

  -- so it is of each clearing
  pub clears_by : (c : Cleared) (p q : PassView) (clears : Clears (shape_in t) word from c p q) → ClearsBy t word from c.left (clears.ask ∷ clears.look ∷ clears.steps)
  clears_by c p q k =
      let rest = All-tail StaysSame k.ask (k.look ∷ k.steps) k.still in
      let same = All-head StaysSame k.look k.steps rest in
      let ask = passes_load (status_of_desc (shape_in t) from) k.status k.ask k.asks (All-head StaysSame k.ask (k.look ∷ k.steps) k.still)
      (address_differs (shape_in t) (desc_status (desc_in from)) (desc_status (attempt_in t).desc) inside.0 own_exists (other_desc (desc_in from) (attempt_in t).desc apart)) in
      ⊎_elim
      (λ gone. let e = ends_load c.left k.look gone.0 same in record {
        earlier = k.ask ∷ [];
        last = k.look;
        order = ap (λ l. k.ask ∷ k.look ∷ l) gone.2;
        passes = All-cons (Passes t word) k.ask [] ask (All-nil (Passes t word));
        calm = e.0;
        at = e.1;
      })
      (λ later.
      let l = by_later k.status c.left c.end k.steps (All-tail StaysSame k.look k.steps rest) later.1 in
      let look = passes_load word from k.look later.0 same (counted_apart t prepared word counted) in record {
        earlier = k.ask ∷ k.look ∷ l.earlier;
        last = l.last;
        order = ap (λ x. k.ask ∷ k.look ∷ x) l.order;
        passes = All-cons (Passes t word) k.ask (k.look ∷ l.earlier) ask (All-cons (Passes t word) k.look l.earlier look l.passes);
        calm = l.calm;
        at = l.at;
      })
      k.ends
