-- What the attempt of an own descriptor won is taken out, and stays out.
use Rattle.std.proofs.Common.{◌≡◌, ◌+◌, ◌<◌, ℕ, List, [], ◌++◌, Option, Some, None, refl, sym, ap, ◌∙◌, subst, ⊎_elim, arith}
use Rattle.std.specs.List.{All}
use Rattle.std.proofs.lemmas.Bool.{cases_lt}
use Rattle.std.proofs.lemmas.List.Elements.{All-weaker, Contains-push}
use Rattle.std.proofs.lemmas.Option.{none-some}
use Rattle.md_words.specs.declared.limits.TheConstants.{SET}
use Rattle.md_words.specs.declared.shape.Shape.{Shape}
use Rattle.md_words.specs.Content.{count_of, spot_of, value_of}
use Rattle.md_words.specs.Layout.{address}
use Rattle.md_words.specs.Place.{desc_status}
use Rattle.md_machine.specs.declared.attempt.AttemptId.{AttemptId}
use Rattle.md_machine.specs.declared.attempt.Hand.{Hand}
use Rattle.md_machine.specs.declared.pass.PassView.{PassView}
use Rattle.md_machine.specs.declared.step.Step.{Step}
use Rattle.md_machine.specs.Machine.{attempt_of}
use Rattle.md_machine.specs.Stepping.{attempt_in_hand}
use Rattle.md_machine.specs.Trail.{EveryStepOf, Meets, MetHigher}
use Rattle.md_machine.specs.events.Start.{IsClean, WonInstall}
use Rattle.md_help.specs.After.{IsAfter}
use Rattle.md_rule.specs.Kept.{MetNoLater}
use Rattle.md_help.specs.declared.settling.End.{End}
use Rattle.md_help.specs.Owns.{EndsOwn}
use Rattle.md_help.proofs.Deciding.{some_after}
use Rattle.md_help.proofs.Steps.{both_after, none_after}
use Rattle.md_nbtc_law.specs.Beginning.{Empties, TakesOwnOut, TakesSlot}
use Rattle.md_nbtc_law.proofs.preparing.Quiet.{every_still}

-- nothing in hand is no attempt
is_none : (h : Option Hand) (a : AttemptId) → h ≡ None → attempt_in_hand h ≡ Some a → ⊥
is_none None a idle e = none-some a e
is_none (Some h) a idle e = absurd (none-some h (sym idle))

module _ (shape : Shape) (steps : List Step) (p q : PassView) (goes : IsAfter shape steps p q) where
  -- what was met stays met
  pub higher_still : (word count : ℕ) → MetHigher p word count → MetHigher q word count
  higher_still word count (held, more, met) = (held, more, some_after _ shape steps p q goes met)

  -- steps with nothing in hand install nothing
  pub none_won : p.hand ≡ None → (a : AttemptId) → All (λ s. ¬ WonInstall a s) steps
  none_won idle a = All-weaker (λ s. s.attempt ≡ attempt_in_hand p.hand) (λ s. ¬ WonInstall a s)
      (λ s is won. is_none p.hand a idle (sym is ∙ won.attempt)) steps goes.3

  pub out_still : p.hand ≡ None → (a : AttemptId) (P : Step → Type 0) → EveryStepOf p (λ s. WonInstall a s → P s → MetHigher p s.word (count_of s.after))
      → EveryStepOf q (λ s. WonInstall a s → P s → MetHigher q s.word (count_of s.after))
  out_still idle a P out = every_still shape steps p q goes (λ s. WonInstall a s → P s → MetHigher q s.word (count_of s.after))
      (All-weaker (λ s. ¬ WonInstall a s) (λ s. WonInstall a s → P s → MetHigher q s.word (count_of s.after)) (λ s none won. absurd (none won)) steps (none_won idle a))
      (λ segment c s i won is. higher_still s.word (count_of s.after) (out segment c s i won is))

  pub clean_still : p.hand ≡ None → (a : AttemptId) → IsClean p a → IsClean q a
  clean_still idle a clean = every_still shape steps p q goes (λ s. WonInstall a s → MetHigher q s.word (count_of s.after))
      (All-weaker (λ s. ¬ WonInstall a s) (λ s. WonInstall a s → MetHigher q s.word (count_of s.after)) (λ s none won. absurd (none won)) steps (none_won idle a))
      (λ segment c s i won. higher_still s.word (count_of s.after) (clean segment c s i won))

-- no status met before is later than one that isn't later than those met since
pub no_later_before : (shape : Shape) (desc serial : ℕ) (steps : List Step) (p q : PassView) → IsAfter shape steps p q → MetNoLater shape q desc serial → MetNoLater shape p desc serial
no_later_before shape desc serial steps p q goes last segment c s i held meets =
    let t = some_after (λ x. x ≡ s) shape steps p q goes (segment, c, (s, i, refl)) in
    last t.0 t.1 t.2.0 t.2.1 held (subst (λ x. Meets (address shape (desc_status desc)) held x) (sym t.2.2) meets)

-- what was won is known from before, if nothing is in hand
pub out_from : (shape : Shape) (steps : List Step) (p q : PassView) → IsAfter shape steps p q → p.hand ≡ None → (a : AttemptId) (P : Step → Type 0)
    → EveryStepOf p (λ s. WonInstall a s → P s → MetHigher q s.word (count_of s.after)) → EveryStepOf q (λ s. WonInstall a s → P s → MetHigher q s.word (count_of s.after))
out_from shape steps p q goes idle a P out = every_still shape steps p q goes (λ s. WonInstall a s → P s → MetHigher q s.word (count_of s.after))
    (All-weaker (λ s. ¬ WonInstall a s) (λ s. WonInstall a s → P s → MetHigher q s.word (count_of s.after)) (λ s none won. absurd (none won)) steps (none_won shape steps p q goes idle a))
    out

module _ (shape : Shape) (desc : ℕ) (end : End) where
  -- what is so of each won install is so of each then
  won_still : (steps : List Step) (p q : PassView) → IsAfter shape steps p q → p.hand ≡ None → (a : AttemptId) (P : Step → Type 0)
      → EveryStepOf p (λ s. WonInstall a s → P s) → EveryStepOf q (λ s. WonInstall a s → P s)
  won_still steps p q goes idle a P = every_still shape steps p q goes (λ s. WonInstall a s → P s)
      (All-weaker (λ s. ¬ WonInstall a s) (λ s. WonInstall a s → P s) (λ s none won. absurd (none won)) steps (none_won shape steps p q goes idle a))

  -- after the settling, and after one more slot
  pub takes_none : (steps : List Step) (p q : PassView) → IsAfter shape steps p q → (e : EndsOwn shape desc end p q)
      → EveryStepOf q (λ s. WonInstall (attempt_of desc e.serial) s → (spot_of (value_of s.after)).slot < SET) → TakesOwnOut shape desc end 0 p q
  takes_none steps p q goes ends small = record {
    steps = steps;
    goes = goes;
    ends = ends;
    small = small;
    out = λ segment c s i won less. absurd (omega (arith, less));
  }

  pub takes_one : (slot : ℕ) (p q r : PassView) → p.hand ≡ None → (t : TakesOwnOut shape desc end slot p q) → TakesSlot shape desc t.ends.serial slot end q r → TakesOwnOut shape desc end (slot + 1) p r
  takes_one slot p q r idle t n =
      let quiet : q.hand ≡ None = ap (λ (x : PassView). x.hand) t.goes.1 ∙ idle in
      let a = attempt_of desc t.ends.serial in record {
        steps = t.steps ++ n.steps;
        goes = both_after shape t.steps n.steps p q r t.goes n.goes;
        ends = record { serial = t.ends.serial; knows = n.knows; no_later = t.ends.no_later };
        small = won_still n.steps q r n.goes quiet a (λ s. (spot_of (value_of s.after)).slot < SET) t.small;
        out = λ segment c s i won less. ⊎_elim
            (λ below. out_still shape n.steps q r n.goes quiet a (λ x. (spot_of (value_of x.after)).slot < slot) t.out segment c s i won below)
            (λ not. n.out segment c s i won (omega (arith, less, not)))
            (cases_lt (spot_of (value_of s.after)).slot slot);
      }

  -- once each slot that was written was looked at, the descriptor stands nowhere
  pub takes_all : (written slots : ℕ) (p q : PassView) → p.hand ≡ None
      → ((serial : ℕ) → MetNoLater shape p desc serial → EveryStepOf p (λ s. WonInstall (attempt_of desc serial) s → (spot_of (value_of s.after)).slot < written))
      → ((slot : ℕ) → slot < written → slot < SET → slot < slots) → TakesOwnOut shape desc end slots p q → Empties shape desc p q
  takes_all written slots p q idle few all t =
      let k = t.ends.knows in
      let serial = t.ends.serial in
      let last : MetNoLater shape q desc serial = subst (MetNoLater shape q desc) k.is k.last.1 in
      let a = attempt_of desc serial in
      let below = won_still t.steps p q t.goes idle a (λ s. (spot_of (value_of s.after)).slot < written) (few serial (no_later_before shape desc serial t.steps p q t.goes last)) in
      let clean : IsClean q a = λ segment c s i won. t.out segment c s i won (all (spot_of (value_of s.after)).slot (below segment c s i won) (t.small segment c s i won)) in record {
        steps = t.steps;
        goes = t.goes;
        empty = λ taken b. record {
          behind = record { serial = serial; last = last; less = let most = t.ends.no_later b.serial b.last in let less = b.less in omega (arith, most, less) };
          clean = λ other most met.
              let least = met q.trail (Contains-push q.past q.trail) k.met.0 k.met.1 k.held k.met.2 in
              let is = k.is in
              subst (λ n. IsClean q (attempt_of desc n)) (omega (arith, most, least, is)) clean;
        };
      }

-- nothing was left to be taken out
pub empties_closed : (shape : Shape) (desc : ℕ) (p : PassView) → ((serial : ℕ) → MetNoLater shape p desc serial → IsClean p (attempt_of desc serial)) → Empties shape desc p p
empties_closed shape desc p clean = record {
  steps = [];
  goes = none_after shape p;
  empty = λ taken b. record { behind = b; clean = λ serial most met. clean serial met };
}
