-- What the calls of a transaction of the store for one thread ensure, answered or refused.
use Rattle.std.proofs.Common.{◌≡◌, true, false, List, [], ◌∷◌, ◌++◌, length, refl, sym, ap, subst, ◌∙◌, Option, Some, None, is_some}
use Rattle.md_history.specs.declared.acts.Op.{Op}
use Rattle.md_history.specs.declared.acts.Reply.{Reply}
use Rattle.md_history.specs.declared.acts.Act.{Act}
use Rattle.md_history.specs.declared.stops.Stop.{Stop}
use Rattle.md_history.specs.declared.stops.Stop.TheVariants.{NoMemory}
use Rattle.md_history.specs.Act.{act_of}
use Rattle.md_history.specs.Calls.{Answered, Refused}
use Rattle.md_history.specs.State.{State, IsRight, after}
use Rattle.md_history.specs.Plain.{Running, IsRunning, refusal_of}
use Rattle.md_history.proofs.Runs.{length-maps, length-queues}

-- a transaction by its parts
abbrev pub tx_of : State → List Act → Option Op → Running
tx_of start acts refused = record { start = start; acts = acts; refused = refused }

again : (op : Op) (acts : List Act) (o : Option Op) → is_some o ≡ true
    → Refused op NoMemory acts acts (refusal_of o) (refusal_of o)
again op acts None some = cc
again op acts (Some first) some = record { same = refl; stands = refl; again = refl }

-- a call of a transaction that has stopped is refused again
pub refused-again : (op : Op) (start : State) (acts : List Act) (o : Option Op) (old : Running) → tx_of start acts o ≡ old
    → is_some o ≡ true → Refused op NoMemory old.acts old.acts (refusal_of old.refused) (refusal_of old.refused)
refused-again op start acts o old is some =
    subst (λ (t : Running). Refused op NoMemory t.acts t.acts (refusal_of t.refused) (refusal_of t.refused)) is (again op acts o some)

first : (op : Op) (acts acts' : List Act) (o o' : Option Op) → is_some o ≡ false → acts' ≡ acts → o' ≡ Some op
    → Refused op NoMemory acts acts' (refusal_of o) (refusal_of o')
first op acts acts' None o' going same now = record { same = same; stands = ap refusal_of now; again = refl }
first op acts acts' (Some p) o' going same now = cc

-- a call for which memory ran out is refused
pub refused-now : (op : Op) (why : Stop) (start : State) (acts acts' : List Act) (o o' : Option Op) (old : Running)
    → tx_of start acts o ≡ old → is_some o ≡ false → why ≡ NoMemory → acts' ≡ acts → o' ≡ Some op
    → Refused op why old.acts acts' (refusal_of old.refused) (refusal_of o')
refused-now op why start acts acts' o o' old is going want same now =
    subst (λ w. Refused op w old.acts acts' (refusal_of old.refused) (refusal_of o')) (sym want)
    (subst (λ (t : Running). Refused op NoMemory t.acts acts' (refusal_of t.refused) (refusal_of o')) is
    (first op acts acts' o o' going same now))

goes_on : (o : Option Op) → is_some o ≡ false → refusal_of o ≡ None
goes_on None going = refl
goes_on (Some p) going = cc

-- a call whose act is kept is answered
pub answered : (op : Op) (reply : Reply) (start : State) (acts acts' : List Act) (o o' : Option Op) (old : Running)
    → tx_of start acts o ≡ old → is_some o ≡ false → acts' ≡ acts ++ act_of op reply ∷ [] → o' ≡ o
    → Answered op reply old.acts acts' (refusal_of old.refused) (refusal_of o')
answered op reply start acts acts' o o' old is going added stays =
    subst (λ (t : Running). Answered op reply t.acts acts' (refusal_of t.refused) (refusal_of o')) is
    (record { going = goes_on o going; goes_on = ap refusal_of stays ∙ goes_on o going; added = added })

-- a transaction that ran out of memory has its acts, whatever it contains
pub running-unchanged : (start now now' : State) (acts acts' : List Act) (o o' : Option Op) (op : Op) → IsRunning start now acts o
    → now' ≡ now → acts' ≡ acts → o' ≡ Some op → IsRunning start now' acts' o'
running-unchanged start now now' acts acts' o o' op r kept same stopped = record {
  right = subst (IsRight start) (sym same) r.right;
  state = λ none. let both : Some op ≡ None = sym stopped ∙ none in cc;
  maps = ap (λ s. length s.maps) kept ∙ r.maps;
  queues = ap (λ s. length s.queues) kept ∙ r.queues;
}

pub running-refused : (start now now' : State) (acts acts' : List Act) (o o' : Option Op) (op : Op) → IsRunning start now acts o
    → now' ≡ after now op → acts' ≡ acts → o' ≡ Some op → IsRunning start now' acts' o'
running-refused start now now' acts acts' o o' op r changed same stopped = record {
  right = subst (IsRight start) (sym same) r.right;
  state = λ none. let both : Some op ≡ None = sym stopped ∙ none in cc;
  maps = ap (λ s. length s.maps) changed ∙ length-maps now op ∙ r.maps;
  queues = ap (λ s. length s.queues) changed ∙ length-queues now op ∙ r.queues;
}
