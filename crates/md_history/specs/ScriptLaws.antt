-- How a body goes on along its script: what its proof is made of.
use Rattle.std.specs.Prelude.{◌≡◌, List, [], ◌∷◌, ◌++◌, Option, Some, None, refl}
use Rattle.std.proofs.Common.{sym, ap, subst, ◌∙◌}
use Rattle.std.proofs.lemmas.List.{append-nil, append_assoc}
use Rattle.md_history.specs.declared.acts.Op.{Op}
use Rattle.md_history.specs.declared.acts.Reply.{Reply}
use Rattle.md_history.specs.declared.acts.Act.{Act}
use Rattle.md_history.specs.declared.stops.Stop.{Stop}
use Rattle.md_history.specs.Act.{act_of}
use Rattle.md_history.specs.Calls.{Refusal, Answered, Refused, BrokeOff, first_refusal}
use Rattle.md_history.specs.Script.{Script, done, call, bind, left, Follows, Did, Adds}

-- the acts since `from` are the first ones of a script, and a rest of it is left
pub record At {R : Type 0} (s : Script R) (from acts : List Act) (rest : Script R) : Type 0 where
  pub added : List Act
  pub adds : acts ≡ from ++ added
  pub follows : Follows s added
  pub rests : left s added ≡ rest

-- acts that follow a script, and then acts that follow its rest
pub follows-append : {R : Type 0} (s : Script R) (xs ys : List Act) → Follows s xs → Follows (left s xs) ys
    → Follows s (xs ++ ys)
follows-append s [] ys f g = g
follows-append (done r) (x ∷ xs) ys f g = absurd f
follows-append (call op next) (x ∷ xs) ys f g = (f.0, follows-append (next x.reply) xs ys f.1 g)

pub left-append : {R : Type 0} (s : Script R) (xs ys : List Act) → Follows s xs → left s (xs ++ ys) ≡ left (left s xs) ys
left-append s [] ys f = refl
left-append (done r) (x ∷ xs) ys f = absurd f
left-append (call op next) (x ∷ xs) ys f = left-append (next x.reply) xs ys f.1

-- acts that follow a script also follow it with another after it
pub follows-bind : {A B : Type 0} (s : Script A) (next : A → Script B) (xs : List Act) → Follows s xs → Follows (bind s next) xs
follows-bind s next [] f = tt
follows-bind (done r) next (x ∷ xs) f = absurd f
follows-bind (call op more) next (x ∷ xs) f = (f.0, follows-bind (more x.reply) next xs f.1)

pub left-bind : {A B : Type 0} (s : Script A) (next : A → Script B) (xs : List Act) → Follows s xs
    → left (bind s next) xs ≡ bind (left s xs) next
left-bind s next [] f = refl
left-bind (done r) next (x ∷ xs) f = absurd f
left-bind (call op more) next (x ∷ xs) f = left-bind (more x.reply) next xs f.1

-- at the start the whole script is left
pub at-begin : {R : Type 0} (s : Script R) (acts : List Act) → At s acts acts s
at-begin s acts = record { added = []; adds = sym (append-nil acts); follows = tt; rests = refl }

-- the rest, written in another way
pub at-rest : {R : Type 0} {s : Script R} {from acts : List Act} {t u : Script R} → At s from acts t → t ≡ u → At s from acts u
at-rest {s = s} {from} {acts} at e = subst (At s from acts) e at

-- more acts, which follow the rest
pub at-append : {R : Type 0} {s : Script R} {from acts acts' : List Act} {rest : Script R} (ys : List Act) → At s from acts rest
    → acts' ≡ acts ++ ys → Follows rest ys → At s from acts' (left rest ys)
at-append {s = s} {from} ys at e f = record {
  added = at.added ++ ys;
  adds = e ∙ ap (λ xs. xs ++ ys) at.adds ∙ append_assoc from at.added ys;
  follows = follows-append s at.added ys at.follows (subst (λ t. Follows t ys) (sym at.rests) f);
  rests = left-append s at.added ys at.follows ∙ ap (λ t. left t ys) at.rests;
}

-- a call was answered
pub at-more : {R : Type 0} {s : Script R} {from acts acts' : List Act} {stop stop' : Option Refusal} {op : Op} {next : Reply → Script R} {reply : Reply}
    → At s from acts (call op next) → Answered op reply acts acts' stop stop' → At s from acts' (next reply)
at-more {op = op} {reply = reply} at answered = at-append (act_of op reply ∷ []) at answered.added (refl, tt)

-- a call was refused
pub at-broke : {R : Type 0} {s : Script R} {from acts acts' : List Act} {stop stop' : Option Refusal} {op : Op} {why : Stop} {next : Reply → Script R}
    → At s from acts (call op next) → Refused op why acts acts' stop stop' → stop ≡ None
    → BrokeOff (Follows s) why from acts' stop'
at-broke {s = s} {op = op} {why} at refused none = record {
  refusal = record { stop = why; op = op };
  stopped = refused.stands ∙ ap (λ stood. Some (first_refusal stood op why)) none;
  same = refl;
  added = at.added;
  adds = refused.same ∙ at.adds;
  made = λ r may. follows-append s at.added (act_of op r ∷ []) at.follows (subst (λ t. Follows t (act_of op r ∷ [])) (sym at.rests) (refl, tt));
}

-- the script has come to its end
pub at-done : {R : Type 0} {s : Script R} {from acts : List Act} {r : R} → At s from acts (done r) → Adds s r from acts
at-done at = record { added = at.added; adds = at.adds; did = record { follows = at.follows; ends = at.rests } }

-- the rest was done whole
pub at-tail : {R : Type 0} {s : Script R} {from acts acts' : List Act} {rest : Script R} {r : R} → At s from acts rest
    → Adds rest r acts acts' → Adds s r from acts'
at-tail at adds = at-done (at-rest (at-append adds.added at adds.adds adds.did.follows) adds.did.ends)

-- the rest broke off, and with it the whole
pub at-broke_tail : {R : Type 0} {s : Script R} {from acts acts' : List Act} {stop' : Option Refusal} {rest : Script R} {why : Stop}
    → At s from acts rest → BrokeOff (Follows rest) why acts acts' stop' → BrokeOff (Follows s) why from acts' stop'
at-broke_tail {s = s} {from} at broke = record {
  refusal = broke.refusal;
  stopped = broke.stopped;
  same = broke.same;
  added = at.added ++ broke.added;
  adds = broke.adds ∙ ap (λ xs. xs ++ broke.added) at.adds ∙ append_assoc from at.added broke.added;
  made = λ r may. subst (Follows s) (sym (append_assoc at.added broke.added (act_of broke.refusal.op r ∷ [])))
      (follows-append s at.added _ at.follows (subst (λ t. Follows t (broke.added ++ act_of broke.refusal.op r ∷ [])) (sym at.rests) (broke.made r may)));
}

-- a part was done, and what follows it is left
pub at-part : {A R : Type 0} {s : Script R} {from acts acts' : List Act} {part : Script A} {r : A} (next : A → Script R)
    → At s from acts (bind part next) → Adds part r acts acts' → At s from acts' (next r)
at-part {part = part} next at adds =
    at-rest (at-append adds.added at adds.adds (follows-bind part next adds.added adds.did.follows))
    (left-bind part next adds.added adds.did.follows ∙ ap (λ t. bind t next) adds.did.ends)

-- a part broke off, and with it the whole
pub at-broke_part : {A R : Type 0} {s : Script R} {from acts acts' : List Act} {stop' : Option Refusal} {part : Script A} {why : Stop} (next : A → Script R)
    → At s from acts (bind part next) → BrokeOff (Follows part) why acts acts' stop' → BrokeOff (Follows s) why from acts' stop'
at-broke_part {part = part} next at broke = at-broke_tail at (record {
  refusal = broke.refusal;
  stopped = broke.stopped;
  same = broke.same;
  added = broke.added;
  adds = broke.adds;
  made = λ r may. follows-bind part next (broke.added ++ act_of broke.refusal.op r ∷ []) (broke.made r may);
})

-- the acts of a body that began with none are those of its whole script
pub did-all : {R : Type 0} {s : Script R} {r : R} {from acts : List Act} → Adds s r from acts → from ≡ [] → Did s acts r
did-all {s = s} {r} adds none = subst (λ xs. Did s xs r) (sym (adds.adds ∙ ap (λ xs. xs ++ adds.added) none)) adds.did

-- and a body that began with none broke off from none
pub broke-all : {makes : List Act → Type 0} {why : Stop} {from acts : List Act} {stop : Option Refusal}
    → BrokeOff makes why from acts stop → from ≡ [] → BrokeOff makes why [] acts stop
broke-all {makes = makes} {why} {acts = acts} {stop} broke none = subst (λ xs. BrokeOff makes why xs acts stop) none broke
