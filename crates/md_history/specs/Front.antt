-- What a pass holds and has seen, and how it grows.
use Rattle.std.specs.Prelude.{◌≡◌, ◌≢◌, ◌==◌, ℕ, Bool, true, List, [], ◌∷◌, ◌++◌, drop, filter, Contains}
use Rattle.std.specs.List.{zip, list_any}
use Rattle.md_history.specs.declared.entries.Entry.{Entry}
use Rattle.md_history.specs.declared.entries.Fate.{Fate}
use Rattle.md_history.specs.declared.entries.Fate.TheVariants.{Committed, Aborted, Undecided}
use Rattle.md_history.specs.State.{State}
use Rattle.md_history.specs.History.{IsLegal, committed, replay}

-- an attempt that was begun: its lane, the descriptor that serves it, and which of that descriptor's attempts it is
pub record Begun : Type 0 where
  pub lane : ℕ
  pub descriptor : ℕ
  pub serial : ℕ

-- the lanes of a pass, in rising order; the history as far as it has seen it, with the fates that it knows;
-- of each of its lanes the entries that were answered as committed; and the attempts of its lanes that were
-- begun and neither stopped nor answered
pub record Front : Type 0 where
  pub lanes : List ℕ
  pub seen : List Entry
  pub known : List Fate
  pub mine : ℕ → List Entry
  pub pending : List Begun

pub record IsPrefix {A : Type 0} (xs ys : List A) : Type 0 where
  pub rest : List A
  pub is : ys ≡ xs ++ rest

-- a decided fate stays
abbrev pub Stays : Fate → Fate → Type 0
Stays Undecided now = Unit {0}
Stays Committed now = now ≡ Committed
Stays Aborted now = now ≡ Aborted

-- each fate stays if it was decided; there may be more of them
abbrev pub AllStay : List Fate → List Fate → Type 0
AllStay [] now = Unit {0}
AllStay (f ∷ fs) [] = ⊥
AllStay (f ∷ fs) (g ∷ gs) = Stays f g × AllStay fs gs

-- what two know of a fate, and of each of their fates, where one may know more of them
abbrev pub known_of_two : Fate → Fate → Fate
known_of_two Undecided other = other
known_of_two Committed other = Committed
known_of_two Aborted other = Aborted

abbrev pub known_of_both : List Fate → List Fate → List Fate
known_of_both [] others = others
known_of_both (f ∷ fs) [] = f ∷ fs
known_of_both (f ∷ fs) (g ∷ gs) = known_of_two f g ∷ known_of_both fs gs

-- g has seen and knows all that f has, and of these lanes its own entries begin with those of f
pub record BeginsOn (lanes : List ℕ) (f g : Front) : Type 0 where
  pub seen : IsPrefix f.seen g.seen
  pub known : AllStay f.known g.known
  pub mine : (lane : ℕ) → Contains lanes lane → IsPrefix (f.mine lane) (g.mine lane)

-- f begins g
abbrev pub Begins : Front → Front → Type 0
Begins f g = BeginsOn f.lanes f g

-- the front is legal from a state
abbrev pub LegalFrom : State → Front → Type 0
LegalFrom start f = IsLegal start f.seen f.known

-- the committed entries that a front knows of
abbrev pub committed_in : Front → List Entry
committed_in f = committed f.seen f.known

-- the state that its committed entries leave
abbrev pub replay_of : State → Front → State
replay_of start f = replay start f.seen f.known

-- whether a lane is one of these
abbrev pub is_lane_of : List ℕ → ℕ → Bool
is_lane_of lanes lane = list_any (λ l. l == lane) lanes

-- whether an entry is of one of the lanes
abbrev pub is_of : List ℕ → Entry → Bool
is_of lanes e = is_lane_of lanes e.lane

-- of these lanes, the committed entries that a front knows of, in the history's order
abbrev pub committed_on : List ℕ → Front → List Entry
committed_on lanes f = filter (is_of lanes) (committed_in f)

-- each entry of these lanes has a decided fate
abbrev pub AllDecidedOn : List ℕ → List Entry → List Fate → Type 0
AllDecidedOn lanes (e ∷ es) (f ∷ fs) = (is_of lanes e ≡ true → f ≢ Undecided) × AllDecidedOn lanes es fs
AllDecidedOn lanes _ _ = Unit {0}

-- what the pass's own lanes added to the history after its first n entries
abbrev pub own_after : ℕ → Front → List (Entry × Fate)
own_after n f = filter (λ p. is_of f.lanes p.0) (drop n (zip f.seen f.known))

-- the entries of one lane
abbrev pub of_lane : ℕ → List Entry → List Entry
of_lane lane es = filter (λ e. lane == e.lane) es
