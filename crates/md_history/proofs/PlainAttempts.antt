-- What an attempt leaves of its pass and its counts in the store for one thread.
use Rattle.std.proofs.Common.{◌≡◌, ℕ, Bool, true, false, cond, List, [], ◌∷◌, ◌++◌, ◌+◌, length, refl, sym, ap, subst, ◌∙◌, Option, Some, None, arith}
use Rattle.std.proofs.lemmas.List.{length_push}
use Rattle.md_history.specs.declared.acts.Op.{Op}
use Rattle.md_history.specs.declared.entries.Entry.{Entry}
use Rattle.md_history.specs.declared.stops.Stop.{Stop}
use Rattle.md_history.specs.declared.stops.Stop.TheVariants.{NoMemory}
use Rattle.md_history.specs.State.{State, run, IsRight}
use Rattle.md_history.specs.History.{acts_of}
use Rattle.md_history.specs.Attempt.{CountsStop}
use Rattle.md_history.specs.Calls.{Refusal}
use Rattle.md_history.specs.Engine.{IsFrontFrom}
use Rattle.md_history.specs.Plain.{Plain, front_from, AreNumbered, IsKept, IsPassOf, refusal_of, begun_by}
use Rattle.md_history.proofs.PlainFronts.{front_is}

-- a pass that is broken keeps its entries, whatever it contains
pub kept-broken : (start now then : State) (es es' : List Entry) (b b' : Bool) → IsKept start now es b → b' ≡ true → es' ≡ es
    → IsKept start then es' b'
kept-broken start now then es es' b b' k broken same = record {
  numbered = subst (AreNumbered 0) (sym same) k.numbered;
  right = subst (λ xs. IsRight start (acts_of xs)) (sym same) k.right;
  state = λ whole. let both : true ≡ false = sym broken ∙ whole in cc;
}

-- a pass whose entries are the same is of the same store
pub of-same : (start start' : State) (old : Plain) (es : List Entry) (b : Bool) → IsPassOf start old → start' ≡ old.start
    → es ≡ old.entries → IsPassOf start (let new : Plain = record { start = start'; entries = es; broken = b } in new)
of-same start start' old es b of began same = record {
  starts = began ∙ of.starts;
  front = subst (λ xs. IsFrontFrom start (0 ∷ []) (front_from xs)) (sym same) of.front;
}

-- an attempt that leaves its pass broken was begun
pub begun-broken : (old : Plain) (es : List Entry) (b : Bool) → old.broken ≡ false → es ≡ old.entries → b ≡ true
    → length es + cond b 1 0 ≡ begun_by old + cond old.broken 0 1
begun-broken old es b whole same broken =
    let n = length old.entries in
    let one : n + 1 ≡ n + 0 + 1 = omega arith in
    ap (λ xs. length xs + cond b 1 0) same ∙ ap (λ now. n + cond now 1 0) broken ∙ one
    ∙ sym (ap (λ before. n + cond before 1 0 + cond before 0 1) whole)

pub counted-broken : (s : Stop) (old : Plain) (es : List Entry) (b : Bool) → s ≡ NoMemory → old.broken ≡ false
    → es ≡ old.entries → b ≡ true → CountsStop s (begun_by old) (length es + cond b 1 0)
counted-broken s old es b is whole same broken =
    let exact = begun-broken old es b whole same broken in
    let once : cond old.broken 0 1 ≡ 1 = ap {B = ℕ} (λ before. cond before 0 1) whole in
    let counted : CountsStop NoMemory (begun_by old) (length es + cond b 1 0) = (omega (arith, exact, once), omega (arith, exact, once)) in
    subst (λ stop. CountsStop stop (begun_by old) (length es + cond b 1 0)) (sym is) counted

-- so was one that appends an entry
pub begun-more : (old : Plain) (es es' : List Entry) (e : Entry) → old.broken ≡ false → es ≡ old.entries → es' ≡ es ++ e ∷ []
    → length es' + 0 ≡ begun_by old + cond old.broken 0 1
begun-more old es es' e whole same more =
    let n = length old.entries in
    let one : n + 1 + 0 ≡ n + 0 + 1 = omega arith in
    ap (λ xs. length xs + 0) more ∙ ap (λ m. m + 0) (length_push es e) ∙ ap (λ xs. length xs + 1 + 0) same ∙ one
    ∙ sym (ap (λ before. n + cond before 1 0 + cond before 0 1) whole)

-- a refusal of the store is for want of memory
pub refused-for_memory : (o : Option Op) (r : Refusal) → refusal_of o ≡ Some r → r.stop ≡ NoMemory
refused-for_memory None r e = cc
refused-for_memory (Some op) r e = ap (λ (p : Option Refusal). elim p [ Some q ↦ q.stop | None ↦ NoMemory ]) (sym e)

-- a pass without entries contains what its store began with
pub kept-none : (start now : State) (es : List Entry) → start ≡ now → es ≡ [] → IsKept start now es false
kept-none start now es is none = record {
  numbered = subst (AreNumbered 0) (sym none) tt;
  right = subst (λ xs. IsRight start (acts_of xs)) (sym none) tt;
  state = λ _. sym is ∙ ap (λ xs. run start (acts_of xs)) (sym none);
}

-- and is of that store
pub of-none : (start start' : State) (es : List Entry) → start' ≡ start → es ≡ []
    → IsPassOf start (let new : Plain = record { start = start'; entries = es; broken = false } in new)
of-none start start' es is none =
    let kept = kept-none start start es refl none in
    record { starts = is; front = front_is start es kept.numbered kept.right }

-- a pass by its parts
pub pass-same : (start start' : State) (es : List Entry) → start' ≡ start → es ≡ []
    → (let new : Plain = record { start = start'; entries = es; broken = false } in new) ≡ record { start = start; entries = []; broken = false }
pass-same start start' es is none =
    ap (λ s. let p : Plain = record { start = s; entries = es; broken = false } in p) is
    ∙ ap (λ xs. let p : Plain = record { start = start; entries = xs; broken = false } in p) none
