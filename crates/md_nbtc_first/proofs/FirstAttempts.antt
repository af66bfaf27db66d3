-- The first attempt of a field raises the count of a word by one store and one install at most.
use Rattle.md_words.proofs.Owners.{own_desc_exists}
use Rattle.std.proofs.Common.{◌≡◌, ◌≢◌, ◌≤◌, ◌<◌, ◌+◌, ◌==◌, ◌&&◌, ℕ, true, not, List, [], ◌∷◌, ◌++◌, length, Some, refl, sym, ap, ◌∙◌, subst, inl, ⊎_elim, eqb-true, arith}
use Rattle.std.specs.Prelude.{slice_index}
use Rattle.std.specs.List.{All, Contains, count_by}
use Rattle.std.proofs.lemmas.Bool.{and_parts, cases_eq, false≢true, eq-eqb}
use Rattle.std.proofs.lemmas.List.Elements.{All-contains, Contains-append_left, Contains-append_right, Contains-push}
use Rattle.md_history.specs.CountLaws.{count-append}
use Rattle.md_words.specs.declared.shape.Shape.{Shape}
use Rattle.md_words.specs.Content.{count_of, spot_value}
use Rattle.md_words.specs.Lanes.{OwnsDesc, OwnsNode}
use Rattle.md_words.specs.Layout.{address, desc_count}
use Rattle.md_words.specs.Place.{desc_status, node_next}
use Rattle.md_words.specs.PlaceAt.{IsCounted}
use Rattle.md_words.specs.Status.{serial_of}
use Rattle.md_words.proofs.Words.{count_of-counted_word}
use Rattle.md_machine.specs.declared.attempt.AttemptId.{AttemptId}
use Rattle.md_machine.specs.declared.attempt.Write.{Write}
use Rattle.md_machine.specs.declared.pass.PassView.{PassView}
use Rattle.md_machine.specs.declared.step.Kind.{Kind}
use Rattle.md_machine.specs.declared.step.Kind.TheVariants.{Abort, Commit, Exchange, Install as Installs, Load, Ready, Start, Store, Uninstall}
use Rattle.md_machine.specs.declared.step.Step.{Step}
use Rattle.md_machine.specs.Certified.{first_content}
use Rattle.md_machine.specs.Machine.{Machine, attempt_of, shape_of, status_at, IsAt}
use Rattle.md_machine.specs.Meaning.{Meaning}
use Rattle.md_machine.specs.Own.{HasDesc}
use Rattle.md_machine.specs.Theorem.{IsKept}
use Rattle.md_machine.specs.Trail.{SomeStep, StoresFor, segments, Meets}
use Rattle.md_machine.specs.clauses.passes.Alone.{HoldsAll}
use Rattle.md_machine.proofs.events.Attempts.{attempt_same}
use Rattle.md_machine.proofs.lists.Options.{some_same}
use Rattle.md_machine.proofs.lists.Rising.{here, in_drop, there}
use Rattle.md_rule_lanes.specs.Shares.{share_at}
use Rattle.md_rule.proofs.Moves.{is_kept}
use Rattle.md_nbtc_law.specs.Going.{IsUnderWay, MeetsCount}
use Rattle.md_nbtc_law.specs.Prepared.{InstallsFrom, IsPreparedNode, IsWritten, StoredOnce}
use Rattle.md_nbtc_law.specs.State.{OwnNode, TxnState, attempt_in, own_steps, shape_in, writes_in}
use Rattle.md_nbtc_law.proofs.ready.Lookups.{each_in}
use Rattle.md_nbtc_first.specs.Calm.{IsLow, installs_in, is_install, is_put, stores_to, StoresNext}
use Rattle.md_nbtc_first.specs.First.{FirstAttemptsStayLow, IsFirst, OpensWithNothingToTidy}
use Rattle.md_nbtc_first.proofs.Counting.{none_counted, one_counted, some_counted, counted_first}
use Rattle.md_nbtc_first.proofs.Low.{always_low}

put_is : (k : Kind) → is_put k ≡ true → k ≡ Store
put_is Store is = refl
put_is Load is = absurd (false≢true is)
put_is Installs is = absurd (false≢true is)
put_is Exchange is = absurd (false≢true is)
put_is Ready is = absurd (false≢true is)
put_is Commit is = absurd (false≢true is)
put_is Abort is = absurd (false≢true is)
put_is Uninstall is = absurd (false≢true is)
put_is Start is = absurd (false≢true is)

install_is : (k : Kind) → is_install k ≡ true → k ≡ Installs
install_is Installs is = refl
install_is Load is = absurd (false≢true is)
install_is Store is = absurd (false≢true is)
install_is Exchange is = absurd (false≢true is)
install_is Ready is = absurd (false≢true is)
install_is Commit is = absurd (false≢true is)
install_is Abort is = absurd (false≢true is)
install_is Uninstall is = absurd (false≢true is)
install_is Start is = absurd (false≢true is)

differ_is : (x y : ℕ) → not (x == y) ≡ true → x ≢ y
differ_is x y is same = false≢true (sym (ap not (eq-eqb x y same)) ∙ is)

-- an own descriptor is of the lane with its number
desc_held : (shape : Shape) (view : PassView) → HoldsAll shape view → (desc : ℕ) → desc < desc_count shape → HasDesc shape view desc × Contains view.lanes desc
unfolding OwnsDesc desc_count
desc_held shape view all desc exists = ((desc, all desc exists, (exists, refl)), all desc exists)

node_lane : (shape : Shape) (lane node : ℕ) → OwnsNode shape lane node → lane < shape.lanes
unfolding OwnsNode
node_lane shape lane node owns = owns.0

module _ (M : Meaning) (t : TxnState) (tidied : OpensWithNothingToTidy M t.field.origin) (under : IsUnderWay M t) (f : IsFirst t) where
  abbrev view : PassView
  view = t.pass.view

  abbrev a : AttemptId
  a = attempt_in t

  abbrev m : Machine
  m = under.1.stands.machine

  abbrev pass : ℕ
  pass = under.1.stands.pass

  k : IsKept m
  k = is_kept M t.field.origin m under.1.stands.admitted

  at : IsAt m pass view
  at = under.1.stands.acts.at

  same_shape : shape_of m ≡ shape_in t
  same_shape = under.1.stands.admitted.shape

  counted_in : (word : ℕ) → IsCounted (shape_in t) word → IsCounted (shape_of m) word
  counted_in word = subst (λ (s : Shape). IsCounted s word) (sym same_shape)

  holds : HoldsAll (shape_of m) view
  holds = subst (λ (s : Shape). HoldsAll s view) (sym same_shape) f.all

  no_entry : m.history ≡ []
  no_entry = sym (k.alone pass view at holds).seen ∙ f.seen

  low : IsLow m view
  low =
      let x = under.1.stands.admitted in
      always_low M m.opening x.events m x.opens x.runs (tidied m.opening x.shape x.words x.opens) no_entry pass view under.1.stands.acts holds f.past

  in_trail : Contains (segments view) view.trail
  in_trail = Contains-push view.past view.trail

  few_tries : (lane : ℕ) → (share_at t.pass.shares lane).tries_taken ≤ 1
  few_tries lane = ⊎_elim
      (λ (is : lane ≡ a.desc). let one = ap (λ l. (share_at t.pass.shares l).tries_taken) is ∙ f.one in omega (arith, one))
      (λ apart. let none = f.others lane apart in omega (arith, none))
      (cases_eq lane a.desc)

  -- the present attempts are the first ones
  first_serial : (desc : ℕ) → desc < desc_count (shape_of m) → serial_of (status_at m desc) ≡ 0
  first_serial desc exists =
      let held = desc_held (shape_of m) view holds desc exists in ⊎_elim
      (λ zero. zero)
      (λ met.
      let s = met.2.2 in
      let keeps = (f.keeps desc held.1).serials met.0 met.1 met.2.0 met.2.1 s.0 (subst (λ (x : Shape). Meets (address x (desc_status desc)) s.0 met.2.0) same_shape s.1) in
      let few = few_tries desc in
      let is = s.2 in ⊎_elim
      (λ zero. sym is ∙ zero)
      (λ less. omega (arith, less, few, is))
      keeps)
      (k.own_serials pass view at desc held.0)

  own_present : (a.desc < desc_count (shape_of m)) × (a.serial ≡ serial_of (status_at m a.desc))
  own_present =
      let fits = k.hands.fits pass view t.hand at under.1.prepared.has.held in
      (own_desc_exists (shape_of m) fits.own.0 a.desc fits.own.2, fits.present)

  -- each step was made for this attempt, if it was made for any
  maker : (s : Step) → Contains view.trail s → (b : AttemptId) → s.attempt ≡ Some b → b ≡ a
  maker s c b for =
      let begun = k.steps_begun pass view at view.trail in_trail s c b for in
      let later = k.begun_no_later b begun in
      let zero = first_serial b.desc later.0 in
      let less = later.1 in
      let serial : b.serial ≡ 0 = omega (arith, zero, less) in ⊎_elim
      (λ (is : b.desc ≡ a.desc). attempt_same b a is (serial ∙ sym (own_present.1 ∙ first_serial a.desc own_present.0)))
      (λ apart.
      let held = desc_held (shape_of m) view holds b.desc later.0 in
      let new = (f.keeps b.desc held.1).first (f.others b.desc apart) in
      absurd (new.steps view.trail in_trail s c (for ∙ ap Some (attempt_same b (attempt_of b.desc 0) refl serial))))
      (cases_eq b.desc a.desc)

  -- a store to a counted word is one for this attempt
  store_is : (word : ℕ) (s : Step) → Contains view.trail s → stores_to word s ≡ true → IsCounted (shape_in t) word → StoresFor a word s × StoresNext (shape_in t) s
  store_is word s c is counted =
      let parts = and_parts (s.word == word) (is_put s.kind) is in
      let on_word = eqb-true s.word word parts.0 in
      let kind = put_is s.kind parts.1 in
      let made = (low.made s c).stores kind (counted_in s.word (subst (IsCounted (shape_in t)) (sym on_word) counted)) in
      (record { kind = kind; attempt = made.for ∙ ap Some (maker s c made.attempt made.for); there = on_word }, subst (λ (x : Shape). StoresNext x s) same_shape made)

  module _ (word : ℕ) (counted : IsCounted (shape_in t) word) where
    -- one store at most
    abbrev stores_few : Type 0
    stores_few = count_by (stores_to word) view.trail ≤ 1

    own_once : (n : OwnNode) → Contains t.nodes n → word ≡ address (shape_in t) (node_next n.node) → stores_few
    own_once n c is =
        let once = (All-contains (IsPreparedNode t) t.nodes n under.1.prepared.nodes c).once in
        let none_earlier = none_counted (stores_to word) once.earlier (λ u i test. not_there once.earlier once.before u i (in_whole once u (Contains-append_left once.earlier (once.step ∷ once.later) u i)) test) in
        let none_later = none_counted (stores_to word) once.later (λ u i test. not_there once.later once.since u i (in_whole once u (Contains-append_right once.earlier (once.step ∷ once.later) u (there once.step once.later u i))) test) in
        let parts = ap (count_by (stores_to word)) once.order ∙ count-append (stores_to word) once.earlier (once.step ∷ once.later) in
        let last = counted_first (stores_to word) once.step once.later in
        omega (arith, none_earlier, none_later, parts, last)
      where
        in_whole : (once : StoredOnce a (address (shape_in t) (node_next n.node)) view.trail) (u : Step) → Contains (once.earlier ++ once.step ∷ once.later) u → Contains view.trail u
        in_whole once u i = subst (λ l. Contains l u) (sym once.order) i

        not_there : (steps : List Step) → All (λ s. ¬ StoresFor a (address (shape_in t) (node_next n.node)) s) steps → (u : Step) → Contains steps u → Contains view.trail u → stores_to word u ≡ true → ⊥
        not_there steps none u i inside test =
            All-contains (λ s. ¬ StoresFor a (address (shape_in t) (node_next n.node)) s) steps u none i (subst (λ w. StoresFor a w u) is (store_is word u inside test counted).0)

    stores_one : stores_few
    stores_one = ⊎_elim
        (λ none. omega (arith, none))
        (λ some.
        let both = store_is word some.0 some.1 some.2 counted in
        let of_node = both.1 in
        let at_word : word ≡ address (shape_in t) (node_next of_node.node) = sym both.0.there ∙ of_node.there in ⊎_elim
        (λ left. absurd (under.1.prepared.has.stored of_node.node left (view.trail, in_trail, (some.0, some.1, subst (λ w. StoresFor a w some.0) at_word both.0))))
        (λ own. own_once own.0 own.1 (at_word ∙ ap (λ x. address (shape_in t) (node_next x)) (sym own.2)))
        (f.nodes of_node.node (of_node.lane, f.all of_node.lane (node_lane (shape_in t) of_node.lane of_node.node of_node.owns), of_node.owns)))
        (some_counted (stores_to word) view.trail)

    -- an install that won there is that of a slot
    installed : (s : Step) → Contains view.trail s → installs_in word s ≡ true
        → (s.word ≡ word) × ((w : Write) × Contains (writes_in t) w × InstallsFrom a w s)
    installed s c is =
        let parts = and_parts (s.word == word) (is_install s.kind && not (s.before == s.after)) is in
        let more = and_parts (is_install s.kind) (not (s.before == s.after)) parts.1 in
        let kind = install_is s.kind more.0 in
        let won = differ_is s.before s.after more.1 in
        let made = (low.made s c).installs kind won in (
          eqb-true s.word word parts.0,
          under.1.prepared.has.all view.trail in_trail s c
              (record { kind = kind; attempt = made.1 ∙ ap Some (maker s c made.0 made.1); won = won }),
        )

    -- and two can't be
    installs_one : count_by (installs_in word) view.trail ≤ 1
    installs_one = one_counted (installs_in word) view.trail two
      where
        two : (earlier : List Step) (s : Step) (later : List Step) → view.trail ≡ earlier ++ s ∷ later → (u : Step) → Contains later u
            → installs_in word s ≡ true → installs_in word u ≡ true → ⊥
        two earlier s later order u c is also =
            let h = under.1.prepared.has in
            let first = installed s (subst (λ l. Contains l s) (sym order) (Contains-append_right earlier (s ∷ later) s (here s later))) is in
            let second = installed u (subst (λ l. Contains l u) (sym order) (Contains-append_right earlier (s ∷ later) u (there s later u c))) also in
            let w = first.1.0 in
            let v = second.1.0 in
            let same_word : w.word ≡ v.word = sym first.1.2.0.left.there ∙ first.0 ∙ sym second.0 ∙ second.1.2.0.left.there in
            let old_of = All-contains (λ (x : Write). first_content t.reads (writes_in t) x.word ≡ Some x.old) (writes_in t) in
            let same_old : w.old ≡ v.old = some_same w.old v.old (sym (old_of w h.replaced first.1.1) ∙ ap (first_content t.reads (writes_in t)) same_word ∙ old_of v h.replaced second.1.1) in
            let room = (each_in (IsWritten t) 0 (writes_in t) h.writes w first.1.1).3.from.room in
            let left = ap count_of first.1.2.0.left.after ∙ count_of-counted_word (spot_value (record { desc = a.desc; slot = w.slot })) (count_of w.old + 1) (omega (arith, room)) in
            let found = ap count_of (second.1.2.1 ∙ sym same_old) in
            let rise = low.rise earlier s later order u c (counted_in s.word (subst (IsCounted (shape_in t)) (sym first.0) counted)) (second.0 ∙ sym first.0) in
            omega (arith, left, found, rise)

    pub stays_low : (count : ℕ) → SomeStep (MeetsCount word count) (own_steps t) → count ≤ count_of (slice_index t.field.origin.words word) + 4
    stays_low count met =
        let held = met.2.0 in
        let inside = in_drop (length t.began.view.trail) view.trail met.0 met.1 in
        let bound = k.stamps.bound word held (counted_in word counted) (inl (pass, view, at, (view.trail, in_trail, (met.0, inside, met.2.1)))) in
        let counts = low.counts word (counted_in word counted) in
        let words = ap (λ ws. count_of (slice_index ws word)) under.1.stands.admitted.words in
        let is = met.2.2 in
        let stores = stores_one in
        let installs = installs_one in
        omega (arith, bound, counts, words, is, stores, installs)

pub first_stays_low : (M : Meaning) → FirstAttemptsStayLow M
first_stays_low M t tidied under f word count counted = stays_low M t tidied under f word counted count
