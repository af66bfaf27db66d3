-- What a whole script does to a state where each reply is right.
use Rattle.std.proofs.Common.{◌≡◌, List, [], ◌∷◌, ◌++◌, refl, sym, ap, subst, ◌∙◌}
use Rattle.std.proofs.lemmas.List.{append-nil}
use Rattle.md_history.specs.declared.acts.Act.{Act}
use Rattle.md_history.specs.Act.{act_of}
use Rattle.md_history.specs.State.{State, answer, after, run, IsRight}
use Rattle.md_history.specs.Script.{Script, done, call, bind, left, Follows, Did}
use Rattle.md_history.specs.Counts.{Bounds, AreFew}
use Rattle.md_history.specs.CountLaws.{few-prefix}

-- the state that it leaves
abbrev pub played : {R : Type 0} → Script R → State → State
played (done r) s = s
played (call op next) s = played (next (answer s op)) (after s op)

-- its reply
abbrev pub outcome : {R : Type 0} → Script R → State → R
outcome (done r) s = r
outcome (call op next) s = outcome (next (answer s op)) (after s op)

-- the acts that it makes
abbrev pub made : {R : Type 0} → Script R → State → List Act
made (done r) s = []
made (call op next) s = act_of op (answer s op) ∷ made (next (answer s op)) (after s op)

-- right acts of a whole script leave that state, with that reply
pub record IsPlayed {R : Type 0} (p : Script R) (s : State) (acts : List Act) (r : R) : Type 0 where
  pub state : run s acts ≡ played p s
  pub reply : r ≡ outcome p s

-- scripts that are equal play alike from states that are equal
played-same : {R : Type 0} {p q : Script R} {s t : State} → p ≡ q → s ≡ t → played p s ≡ played q t
played-same {q = q} {s} e f = ap (λ x. played x s) e ∙ ap (played q) f

outcome-same : {R : Type 0} {p q : Script R} {s t : State} → p ≡ q → s ≡ t
    → outcome p s ≡ outcome q t
outcome-same {q = q} {s} e f = ap (λ x. outcome x s) e ∙ ap (outcome q) f

follows-played : {R : Type 0} (p : Script R) (s : State) (acts : List Act) (r : R) → Follows p acts
    → left p acts ≡ done r → IsRight s acts → IsPlayed p s acts r
follows-played (done x) s [] r f e right = record { state = refl; reply = cc }
follows-played (done x) s (a ∷ acts) r f e right = absurd f
follows-played (call op next) s [] r f e right = cc
follows-played (call op next) s (a ∷ acts) r f e right =
    let more = follows-played (next a.reply) (after s a.op) acts r f.1 e right.1 in
    let same = ap next (right.0 ∙ ap (answer s) f.0) in
    let moved = ap (after s) f.0 in
    record {
      state = more.state ∙ played-same same moved;
      reply = more.reply ∙ outcome-same same moved;
    }

pub did-played : {R : Type 0} (p : Script R) (s : State) (acts : List Act) (r : R)
    → Did p acts r → IsRight s acts → IsPlayed p s acts r
did-played p s acts r did right = follows-played p s acts r did.follows did.ends right

-- one script after another
pub played-bind : {A B : Type 0} (p : Script A) (next : A → Script B) (s : State)
    → played (bind p next) s ≡ played (next (outcome p s)) (played p s)
played-bind (done r) next s = refl
played-bind (call op more) next s = played-bind (more (answer s op)) next (after s op)

pub outcome-bind : {A B : Type 0} (p : Script A) (next : A → Script B) (s : State)
    → outcome (bind p next) s ≡ outcome (next (outcome p s)) (played p s)
outcome-bind (done r) next s = refl
outcome-bind (call op more) next s = outcome-bind (more (answer s op)) next (after s op)

-- whatever is to be shown of one script after another, by what the first one leaves
pub ends-bind : {A B : Type 0} (p : Script A) (next : A → Script B) (s : State)
    (Q : State → B → List Act → Type 0)
    → Q (played (next (outcome p s)) (played p s)) (outcome (next (outcome p s)) (played p s))
    (made p s ++ made (next (outcome p s)) (played p s))
    → Q (played (bind p next) s) (outcome (bind p next) s) (made (bind p next) s)
ends-bind (done r) next s Q h = h
ends-bind (call op more) next s Q h =
    ends-bind (more (answer s op)) next (after s op)
    (λ t r acts. Q t r (act_of op (answer s op) ∷ acts)) h

-- right acts that follow a script are the first ones that it makes, and its rest makes the others
pub follows-made : {R : Type 0} (p : Script R) (s : State) (acts : List Act) → Follows p acts
    → IsRight s acts → made p s ≡ acts ++ made (left p acts) (run s acts)
follows-made p s [] f right = refl
follows-made (done x) s (a ∷ acts) f right = absurd f
follows-made (call op next) s (a ∷ acts) f right =
    let replied : a.reply ≡ answer s op = right.0 ∙ ap (answer s) f.0 in
    let same : act_of op (answer s op) ≡ a =
    sym (ap (λ o. act_of o a.reply) f.0 ∙ ap (act_of op) replied) in
    ap (λ x. x ∷ made (next (answer s op)) (after s op)) same
    ∙ ap (λ xs. a ∷ xs) (sym (made-same (ap next replied) (ap (after s) f.0))
    ∙ follows-made (next a.reply) (after s a.op) acts f.1 right.1)
  where
    made-same : {R : Type 0} {p q : Script R} {s t : State} → p ≡ q → s ≡ t → made p s ≡ made q t
    made-same {q = q} {s} e f = ap (λ x. made x s) e ∙ ap (made q) f

-- they are few where those are
pub few-made : {R : Type 0} (most : Bounds) (p : Script R) (s : State) (acts : List Act)
    → AreFew most (made p s) → Follows p acts → IsRight s acts → AreFew most acts
few-made most p s acts few f right =
    few-prefix acts (made (left p acts) (run s acts)) most
    (subst (AreFew most) (follows-made p s acts f right) few)

-- right acts of a whole script are those that it makes
pub did-made : {R : Type 0} (p : Script R) (s : State) (acts : List Act) (r : R) → Did p acts r
    → IsRight s acts → made p s ≡ acts
did-made p s acts r did right =
    follows-made p s acts did.follows right ∙ ap (λ q. acts ++ made q (run s acts)) did.ends
    ∙ append-nil acts

-- this holds of the state that a script leaves and of its reply
abbrev pub PlayLeaves : {R : Type 0} → (State → R → Type 0) → Script R → State → Type 0
PlayLeaves P p s = P (played p s) (outcome p s)

-- so it holds after all right acts of the whole script
pub did-leaves : {R : Type 0} (P : State → R → Type 0) (p : Script R) (s : State) (acts : List Act)
    (r : R) → PlayLeaves P p s → Did p acts r → IsRight s acts → P (run s acts) r
did-leaves P p s acts r leaves did right =
    let is = did-played p s acts r did right in
    subst (λ t. P t r) (sym is.state) (subst (P (played p s)) (sym is.reply) leaves)

-- one script after another
pub leaves-bind : {A B : Type 0} (P : State → B → Type 0) (p : Script A) (next : A → Script B)
    (s : State) → PlayLeaves (λ t a. PlayLeaves P (next a) t) p s → PlayLeaves P (bind p next) s
leaves-bind P p next s leaves = ends-bind p next s (λ t r acts. P t r) leaves
