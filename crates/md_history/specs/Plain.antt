-- The store for one thread: what contracts see of its passes and its transactions.
use Rattle.std.specs.Prelude.{◌≡◌, ◌==◌, ◌+◌, ◌-◌, ◌^◌, ℕ, Bool, true, false, List, [], ◌∷◌, length, map, Option, Some, None, if◌then◌else◌, cond, refl}
use Rattle.std.proofs.Common.{ap, ◌∙◌}
use Rattle.std.proofs.Math.Path.{fun_ext}
use Rattle.md_history.specs.declared.acts.Op.{Op}
use Rattle.md_history.specs.declared.acts.Act.{Act}
use Rattle.md_history.specs.declared.entries.Entry.{Entry}
use Rattle.md_history.specs.declared.entries.Fate.{Fate}
use Rattle.md_history.specs.declared.entries.Fate.TheVariants.{Committed}
use Rattle.md_history.specs.declared.stops.Stop.TheVariants.{NoMemory}
use Rattle.md_history.specs.State.{State, run, IsRight}
use Rattle.md_history.specs.History.{acts_of}
use Rattle.md_history.specs.Front.{Front}
use Rattle.md_history.specs.Engine.{IsFrontFrom, Limits, empty_front}
use Rattle.md_history.specs.Calls.{Refusal}

-- a pass: where its store began, its entries, and whether an attempt ran out of memory
pub record Plain : Type 0 where
  pub start : State
  pub entries : List Entry
  pub broken : Bool

-- every entry is committed
abbrev pub all_committed : List Entry → List Fate
all_committed es = map {0, 0} (λ _. Committed) es

-- the one lane is 0, and each of its entries is the pass's own
abbrev pub front_from : List Entry → Front
front_from es = record {
  lanes = 0 ∷ [];
  seen = es;
  known = all_committed es;
  mine = λ lane. if lane == 0 then es else [];
  pending = [];
}

-- without entries it is the empty front
pub front_from-none : front_from [] ≡ empty_front (0 ∷ [])
front_from-none =
    let none : List Entry = [] in
    ap (λ (mine : ℕ → List Entry).
    let f : Front = record { lanes = 0 ∷ []; seen = []; known = []; mine = mine; pending = [] } in f)
    (fun_ext (λ lane. elim (lane == 0) as (λ b. cond b none none ≡ none) [ true ↦ refl | false ↦ refl ]))

abbrev pub front_of : Plain → Front
front_of p = front_from p.entries

-- each attempt that it began was committed, but for one that ran out of memory; after that one it begins none
abbrev pub begun_by : Plain → ℕ
begun_by p = length p.entries + (if p.broken then 1 else 0)

pub begun_by-fresh : (p : Plain) → p.entries ≡ [] → p.broken ≡ false → begun_by p ≡ 0
begun_by-fresh p none whole =
    ap (λ (es : List Entry). length es + (if p.broken then 1 else 0)) none ∙ ap (λ (b : Bool). 0 + (if b then 1 else 0)) whole

-- the pass is of a store that began with this state
pub record IsPassOf (start : State) (p : Plain) : Type 0 where
  pub starts : p.start ≡ start
  pub front : IsFrontFrom start (0 ∷ []) (front_of p)

-- the store for one thread has no limits; these numbers are larger than any caller needs
abbrev pub plain_limits : Limits
plain_limits = record {
  reads = 2 ^ 64 - 1;
  writes = 2 ^ 64 - 1;
  nodes = 2 ^ 64 - 1;
  tries = 2 ^ 64 - 1;
  room = 2 ^ 64 - 1;
}

-- entries of lane 0, sound, with the numbers from n on
abbrev pub AreNumbered : ℕ → List Entry → Type 0
AreNumbered n [] = Unit {0}
AreNumbered n (e ∷ es) = (e.lane ≡ 0) × (e.number ≡ n) × (e.sound ≡ true) × AreNumbered (n + 1) es

-- what a pass contains is what its entries make of the start, until an attempt runs out of memory
pub record IsKept (start now : State) (es : List Entry) (broken : Bool) : Type 0 where
  pub numbered : AreNumbered 0 es
  pub right : IsRight start (acts_of es)
  pub state : broken ≡ false → now ≡ run start (acts_of es)

-- a transaction under way: the state that it began with, its acts, and the operation for which memory ran out, if it
-- did
pub record Running : Type 0 where
  pub start : State
  pub acts : List Act
  pub refused : Option Op

abbrev pub refusal_of : Option Op → Option Refusal
refusal_of None = None
refusal_of (Some op) = Some (record { stop = NoMemory; op = op })

-- what a transaction contains is what its acts make of the state that it began with
pub record IsRunning (start now : State) (acts : List Act) (refused : Option Op) : Type 0 where
  pub right : IsRight start acts
  pub state : refused ≡ None → now ≡ run start acts
  pub maps : length now.maps ≡ length start.maps
  pub queues : length now.queues ≡ length start.queues
