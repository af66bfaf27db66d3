-- What a step leaves of a pass, and how the steps of two calls join.
use Rattle.std.proofs.Common.{◌≡◌, ℕ, List, [], ◌∷◌, ◌++◌, refl, sym, ap, ◌∙◌, subst, append_assoc}
use Rattle.std.proofs.lemmas.List.{append-nil}
use Rattle.std.proofs.lemmas.List.Elements.{All-append, All-cons, All-nil, All-weaker}
use Rattle.md_words.specs.declared.shape.Shape.{Shape}
use Rattle.std.specs.List.{Contains}
use Rattle.md_history.specs.declared.entries.Fate.{Fate}
use Rattle.md_history.specs.Front.{AllStay}
use Rattle.md_history.specs.FrontLaws.{all_stay-self, all_stay-trans}
use Rattle.md_machine.specs.declared.attempt.HistoryEntry.{HistoryEntry}
use Rattle.md_machine.specs.declared.node.PlacedNode.{PlacedNode}
use Rattle.md_machine.specs.declared.pass.PassView.{PassView}
use Rattle.md_machine.specs.declared.step.Kind.{Kind}
use Rattle.md_machine.specs.declared.step.Kind.TheVariants.{Load}
use Rattle.md_machine.specs.declared.step.Step.{Step}
use Rattle.md_machine.specs.Event.{load}
use Rattle.md_machine.specs.Machine.{Machine, content, shape_of}
use Rattle.md_machine.specs.Meaning.{Meaning}
use Rattle.md_machine.specs.Resolution.{always_nodes}
use Rattle.md_machine.specs.Stepping.{attempt_in_hand, known_after, step_of, stepped}
use Rattle.md_machine.specs.Trail.{Loads}
use Rattle.md_rule.specs.Steps.{EventOf, Stepped, SteppedFrom}
use Rattle.md_rule.specs.Views.{Origin}
use Rattle.md_rule.proofs.Moves.{next_admitted}
use Rattle.md_rule.proofs.Fronts.{told_front}
use Rattle.md_rule.proofs.Told.{told_load}
use Rattle.md_help.specs.After.{IsAfter, StandsInField, known_over}

-- a step was made for what a pass has in hand
abbrev pub IsFor : PassView → Step → Type 0
IsFor p s = s.attempt ≡ attempt_in_hand p.hand

-- a pass made one step of this kind on the word, which held one content before it and another after it
pub record Made (shape : Shape) (kind : Kind) (word held left : ℕ) (before after : PassView) : Type 0 where
  pub step : Step
  pub goes : IsAfter shape (step ∷ []) before after
  pub is_kind : step.kind ≡ kind
  pub there : step.word ≡ word
  pub found : step.before ≡ held
  pub left_it : step.after ≡ left

pub made : (shape : Shape) (m : Machine) (kind : Kind) (word held left : ℕ) (before after : PassView) → shape_of m ≡ shape → content m word ≡ held → after ≡ stepped m before kind word left
    → (after.lanes ≡ before.lanes → AllStay before.known after.known) → Made shape kind word held left before after
made shape m kind word held left before after same is e stays =
    let s : Step = step_of m before kind word left in record {
      step = s;
      goes = (
        always_nodes m,
        e ∙ ap (λ (sh : Shape). record before {
          trail = before.trail ++ s ∷ [];
          known = known_after sh before.seen s before.known;
          placed = before.placed ++ always_nodes m;
        }) same,
        stays (ap (λ (x : PassView). x.lanes) e),
        All-cons (IsFor before) s [] refl (All-nil (IsFor before)),
      );
      is_kind = refl;
      there = refl;
      found = is;
      left_it = refl;
    }

known_over-append : (shape : Shape) (seen : List HistoryEntry) (a b : List Step) (known : List Fate) → known_over shape seen b (known_over shape seen a known) ≡ known_over shape seen (a ++ b) known
known_over-append shape seen [] b known = refl
known_over-append shape seen (s ∷ a) b known = known_over-append shape seen a b (known_after shape seen s known)

-- the steps of two calls, one after another
pub both_after : (shape : Shape) (a b : List Step) (p q r : PassView) → IsAfter shape a p q → IsAfter shape b q r → IsAfter shape (a ++ b) p r
both_after shape a b p q r (n, e, x, g) (k, f, y, h) =
    let v : List Step → List Fate → List PlacedNode → PassView = λ trail known placed. record p { trail = trail; known = known; placed = placed } in (
      n ++ k,
      f ∙ ap (λ (x : PassView). record x { trail = x.trail ++ b; known = known_over shape x.seen b x.known; placed = x.placed ++ k }) e
          ∙ ap (λ t. v t (known_over shape p.seen b (known_over shape p.seen a p.known)) ((p.placed ++ n) ++ k)) (append_assoc p.trail a b)
          ∙ ap (λ t. v (p.trail ++ (a ++ b)) t ((p.placed ++ n) ++ k)) (known_over-append shape p.seen a b p.known)
          ∙ ap (λ t. v (p.trail ++ (a ++ b)) (known_over shape p.seen (a ++ b) p.known) t) (append_assoc p.placed n k),
      all_stay-trans p.known q.known r.known x y,
      All-append (IsFor p) a b g (All-weaker (IsFor q) (IsFor p) (λ s is. is ∙ ap attempt_in_hand (ap (λ (x : PassView). x.hand) e)) b h),
    )

pub none_after : (shape : Shape) (p : PassView) → IsAfter shape [] p p
none_after shape p = ([], ap (λ t. record p { placed = t }) (sym (append-nil p.placed)) ∙ ap (λ t. record p { trail = t; placed = p.placed ++ [] }) (sym (append-nil p.trail)), all_stay-self p.known, All-nil (IsFor p))

pub trail_after : (shape : Shape) (steps : List Step) (p q : PassView) → IsAfter shape steps p q → q.trail ≡ p.trail ++ steps
trail_after shape steps p q a = ap (λ (x : PassView). x.trail) a.1

pub load_finds : (shape : Shape) (word held left : ℕ) (p q : PassView) (m : Made shape Load word held left p q) → Loads word held m.step
load_finds shape word held left p q m = record { kind = m.is_kind; finds = record { there = m.there; before = m.found; found = rw m.is_kind refl } }

-- a load changes nothing
abbrev pub StaysSame : Step → Type 0
StaysSame s = s.kind ≡ Load → s.before ≡ s.after

pub load_same : (shape : Shape) (word held : ℕ) (p q : PassView) (m : Made shape Load word held held p q) → m.step.before ≡ m.step.after
load_same shape word held p q m = m.found ∙ sym m.left_it

module _ (M : Meaning) (o : Origin) where
  -- the fates that a pass knew stay over a step that leaves it its lanes
  pub known_stays : (event : EventOf) (before after : PassView) → Stepped M o event before after → after.lanes ≡ before.lanes → AllStay before.known after.known
  known_stays event before after s lanes = (told_front M o event before after s (λ lane c. subst (λ (l : List ℕ). Contains l lane) (sym lanes) c)).known

  -- a pass stands somewhere after a step
  pub stands_after : (event : EventOf) (before after : PassView) (s : Stepped M o event before after) → after.lanes ≡ before.lanes → StandsInField M o after
  stands_after event before after s lanes = record {
    machine = s.next;
    admitted = next_admitted M o event before after s;
    pass = s.pass;
    acts = record { at = s.knows; live = rw lanes s.acts.live };
  }

  pub lanes_after : (shape : Shape) (steps : List Step) (p q : PassView) → IsAfter shape steps p q → q.lanes ≡ p.lanes
  lanes_after shape steps p q a = ap (λ (x : PassView). x.lanes) a.1

  pub stands_made : (event : EventOf) (kind : Kind) (word held left : ℕ) (before after : PassView) → Stepped M o event before after → Made o.shape kind word held left before after → StandsInField M o after
  stands_made event kind word held left before after s made = stands_after event before after s (lanes_after o.shape (made.step ∷ []) before after made.goes)

  pub made_load : (word held : ℕ) (before after : PassView) → SteppedFrom M o (λ pass. load pass word) word held before after → Made o.shape Load word held held before after
  made_load word held before after (s, is) = made o.shape s.machine Load word held held before after s.admitted.shape is (subst (λ n. after ≡ stepped s.machine before Load word n) is (told_load M o before after word s))
      (known_stays (λ pass. load pass word) before after s)
