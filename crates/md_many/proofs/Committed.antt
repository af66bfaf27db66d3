-- What is committed, where a pass holds all lanes and nothing is pending.
use Rattle.std.proofs.Common.{◌≡◌, ℕ, false, List, [], ◌∷◌, ◌++◌, length, refl, sym, ap, subst, ◌∙◌}
use Rattle.std.specs.Prelude.{◌==◌, All, Contains, filter}
use Rattle.std.specs.List.{AllByRecursion}
use Rattle.std.proofs.lemmas.Bool.{ne_eqb}
use Rattle.std.proofs.lemmas.List.Elements.{recursion_from_All, filter-append}
use Rattle.md_history.specs.declared.entries.Entry.{Entry}
use Rattle.md_history.specs.declared.entries.Fate.{Fate}
use Rattle.md_history.specs.declared.entries.Fate.TheVariants.{Committed, Aborted, Undecided}
use Rattle.md_history.specs.State.{State}
use Rattle.md_history.specs.History.{committed}
use Rattle.md_history.specs.Front.{Front, IsPrefix, AllStay, AllDecidedOn, committed_in, committed_on, is_of, of_lane}
use Rattle.md_history.specs.FrontLaws.{lane_passes}
use Rattle.md_history.specs.OwnLaws.{committed_pairs, own-grows, settles-own}
use Rattle.md_history.specs.Engine.{IsFrontFrom, SettlesFrom}
use Rattle.md_many_attempts.specs.Meaning.{Meaning}
use Rattle.md_many_attempts.specs.Lines.{PlaysLines}
use Rattle.md_many_attempts.specs.Joined.{HasCommitted, entries_after}
use Rattle.md_many.proofs.Merging.{filter-none, all-weaker}

-- Where the fates of lanes' entries were decided, what the lanes have committed is what they had committed, and then
-- these entries.
pub committed_on-more : (lanes : List ℕ) (es : List Entry) (f g : Front) → HasCommitted lanes es f g
    → length f.known ≡ length f.seen → AllDecidedOn lanes f.seen f.known
    → committed_on lanes g ≡ committed_on lanes f ++ es
committed_on-more lanes es f g h fated decided =
    own-grows lanes f g fated h.begins.seen h.begins.known decided ∙ ap (λ xs. committed_on lanes f ++ xs) h.joined

-- where every entry is of the lanes, what they committed is all that is committed
committed-all : (lanes : List ℕ) (es : List Entry) (fs : List Fate)
    → AllByRecursion (λ (e : Entry). Contains lanes e.lane) es → filter (is_of lanes) (committed es fs) ≡ committed es fs
committed-all lanes [] fs within = refl
committed-all lanes (e ∷ es) [] within = refl
committed-all lanes (e ∷ es) (Committed ∷ fs) within =
    rw (lane_passes lanes e.lane within.0) (ap (λ xs. e ∷ xs) (committed-all lanes es fs within.1))
committed-all lanes (e ∷ es) (Aborted ∷ fs) within = committed-all lanes es fs within.1
committed-all lanes (e ∷ es) (Undecided ∷ fs) within = committed-all lanes es fs within.1

pub committed_on-all : (lanes : List ℕ) (f : Front) → All (λ (e : Entry). Contains lanes e.lane) f.seen
    → committed_on lanes f ≡ committed_in f
committed_on-all lanes f within =
    committed-all lanes f.seen f.known (recursion_from_All (λ (e : Entry). Contains lanes e.lane) f.seen within)

committed-each : (P : Entry → Type 0) (es : List Entry) (fs : List Fate) → AllByRecursion P es
    → AllByRecursion P (committed es fs)
committed-each P [] fs all = tt
committed-each P (e ∷ es) [] all = tt
committed-each P (e ∷ es) (Committed ∷ fs) all = (all.0, committed-each P es fs all.1)
committed-each P (e ∷ es) (Aborted ∷ fs) all = committed-each P es fs all.1
committed-each P (e ∷ es) (Undecided ∷ fs) all = committed-each P es fs all.1

-- a closed pass has what it had committed
pub settled-same : (start : State) (lanes : List ℕ) (f g : Front) → IsFrontFrom start lanes f → f.lanes ≡ lanes
    → f.pending ≡ [] → SettlesFrom start f g → committed_in g ≡ committed_in f
settled-same start lanes f g is all idle settled =
    sym (committed_on-all lanes g (subst (All (λ (e : Entry). Contains lanes e.lane)) (sym settled.settles.seen) is.entries))
    ∙ settles-own lanes settled.settles is.legal.fated
    (subst (λ ls. AllDecidedOn ls f.seen f.known) all (is.decided idle))
    ∙ committed_on-all lanes f is.entries

-- what was played by all lanes joins what was committed
pub played-joins : {B R : Type 0} {m : Meaning B R} (caller n : ℕ) (start : State) (lanes : List ℕ) (f g : Front) (rs : List R)
    (plays : PlaysLines m caller n f.lanes f g rs)
    → IsFrontFrom start lanes f → IsFrontFrom start lanes g → f.lanes ≡ lanes → f.pending ≡ []
    → committed_in g ≡ committed_in f ++ plays.entries
played-joins caller n start lanes f g rs plays is is' all idle =
    let same : committed_on f.lanes g ≡ committed_on f.lanes f ++ plays.entries =
    committed_on-more f.lanes plays.entries f g plays.commits is.legal.fated (is.decided idle) in
    let here : committed_on lanes g ≡ committed_on lanes f ++ plays.entries =
    subst (λ ls. committed_on ls g ≡ committed_on ls f ++ plays.entries) all same in
    sym (committed_on-all lanes g is'.entries) ∙ here
    ∙ ap (λ es. es ++ plays.entries) (committed_on-all lanes f is.entries)

nothing-later : {A : Type 0} (xs ys : List A) → xs ++ ys ≡ [] → ys ≡ []
nothing-later [] ys e = e
nothing-later (x ∷ xs) ys e = cc

-- what joined what was committed, as a pass goes on
pub record Joined (lanes : List ℕ) (f g : Front) : Type 0 where
  pub entries : List Entry
  pub is : committed_in g ≡ committed_in f ++ entries
  pub added : (lane : ℕ) → Contains lanes lane → g.mine lane ≡ f.mine lane ++ of_lane lane entries
  pub nowhere : (lane : ℕ) → (Contains lanes lane → ⊥) → of_lane lane entries ≡ []

pub goes-on : (start : State) (lanes : List ℕ) (f g : Front) → IsFrontFrom start lanes f → IsFrontFrom start lanes g
    → f.lanes ≡ lanes → g.lanes ≡ lanes → f.pending ≡ [] → g.pending ≡ [] → IsPrefix f.seen g.seen
    → AllStay f.known g.known → Joined lanes f g
goes-on start lanes f g is is' all all' idle idle' seen known =
    let entries : List Entry = committed_pairs (entries_after (length f.seen) lanes g) in
    let decided = subst (λ ls. AllDecidedOn ls f.seen f.known) all (is.decided idle) in
    let joined : committed_in g ≡ committed_in f ++ entries =
    sym (committed_on-all lanes g is'.entries) ∙ own-grows lanes f g is.legal.fated seen known decided
    ∙ ap (λ es. es ++ entries) (committed_on-all lanes f is.entries) in
    let parts : (lane : ℕ) → of_lane lane (committed_in g) ≡ of_lane lane (committed_in f) ++ of_lane lane entries =
    λ lane. ap (of_lane lane) joined ∙ filter-append (λ (e : Entry). lane == e.lane) (committed_in f) entries in
    record {
      entries = entries;
      is = joined;
      added = λ lane at.
          sym (is'.own idle' lane (subst (λ ls. Contains ls lane) (sym all') at)) ∙ parts lane
          ∙ ap (λ es. es ++ of_lane lane entries) (is.own idle lane (subst (λ ls. Contains ls lane) (sym all) at));
      nowhere = λ lane other. nothing-later (of_lane lane (committed_in f)) (of_lane lane entries)
          (sym (parts lane) ∙ filter-none (λ (e : Entry). lane == e.lane) (committed_in g)
          (committed-each (λ e. (lane == e.lane) ≡ false) g.seen g.known
          (all-weaker (λ e. Contains lanes e.lane) (λ e. (lane == e.lane) ≡ false)
          (λ e at. ne_eqb lane e.lane (λ same. other (subst (Contains lanes) (sym same) at))) g.seen
          (recursion_from_All (λ (e : Entry). Contains lanes e.lane) g.seen is'.entries))));
    }
