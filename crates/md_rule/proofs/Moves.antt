-- A step of the table is one more event of the machine, and so keeps the rule.
use Rattle.std.proofs.Common.{◌≡◌, ◌≢◌, ◌==◌, ℕ, Bool, Vec, length, zero, suc, List, [], ◌∷◌, ◌++◌, Some, None, map, slice_set, slice_index, refl, sym, ap, ◌∙◌, subst, inl, ⊎_elim, arith}
use Rattle.atomic_table.proofs.Lists.{at_map}
use Rattle.md_machine.proofs.lists.Options.{none_some, some_same}
use Rattle.md_rule.specs.declared.known.Known.{Known}
use Rattle.md_rule.specs.declared.known.Parts.{Parts}
use mathlib.Core.Option.{some, some-injective}
use lib.ListN.{get_elem?}
use Rattle.atomic_table.specs.Table.{State, Me, Allows, Seen, Splits, Joins, keeps, opening as first_table}
use Rattle.md_machine.specs.declared.node.PlacedNode.{PlacedNode}
use Rattle.md_machine.specs.declared.opening.Opening.{Opening}
use Rattle.md_machine.specs.declared.pass.PassView.{PassView}
use Rattle.md_machine.specs.Event.{Acts, CanOpen, Does, Event, Plays, Runs, join, opened, split}
use Rattle.md_machine.specs.Machine.{IsAt, IsLive, Machine, content, shape_of}
use Rattle.md_machine.specs.GoesOn.{MachineGoesOn}
use Rattle.md_machine.specs.Legal.{IsMeant}
use Rattle.md_machine.specs.Meaning.{Lawful, Meaning}
use Rattle.md_machine.specs.Resolution.{Resolves}
use Rattle.md_machine.specs.Serial.{IsSerial}
use Rattle.md_machine.specs.Theorem.{IsKept}
use Rattle.md_machine.proofs.Reached.{always_goes_on, always_kept}
use Rattle.md_machine.proofs.replay.Always.{always_meant, always_serial}
use Rattle.md_machine.specs.events.SplitJoin.{MaySplit, after_join, after_split, given_part, joined_part, kept_part, spent}
use Rattle.md_machine.proofs.lists.At.{append_end, append_there, at_append, at_one, at_set, set_else, set_there}
use Rattle.std.proofs.lemmas.Bool.{cond-true, eq-eqb}
use Rattle.std.specs.declared.alloc.Global.{Global}
use Rattle.std.proofs.lemmas.List.{length-set, map-append, map-set, set-get_or}
use Rattle.md_words.specs.declared.shape.Shape.{Shape}
use Rattle.md_rule.specs.Admitted.{Admitted}
use Rattle.md_rule.specs.Private.{AreWords, OneHas, first_known, with_view}
use Rattle.md_rule.specs.Rule.{JoinedInto, Shows, SplitInto}
use Rattle.md_rule.specs.Steps.{EventOf, MayTell, Stepped}
use Rattle.md_rule.specs.Views.{Origin}

-- an element put where it stands
set_same : {A : Type 0} (l : List A) (i : ℕ) (a : A) → get_elem? l i ≡ some a → slice_set l i a ≡ l
set_same [] i a at = refl
set_same (x ∷ l) zero a at = ap (λ y. y ∷ l) (sym (some-injective x a at))
set_same (x ∷ l) (suc i) a at = ap (λ m. x ∷ m) (set_same l i a at)

abbrev Table : Type 0
Table = State (Unit {0}) Known

abbrev Mine : Type 0
Mine = Me (Unit {0}) Known

module _ (M : Meaning) where
  -- a list of events, and one more
  runs_more : (m : Machine) (events : List Event) (n : Machine) (e : Event) (k : Machine) → Runs M m events n → Plays M n e k → Runs M m (events ++ e ∷ []) k
  runs_more m [] n e k runs plays = (k, subst (λ x. Plays M x e k) runs plays, refl)
  runs_more m (d ∷ events) n e k runs plays = (runs.0, runs.1, runs_more runs.0 events n e k runs.2 plays)

  module _ (o : Origin) where
    -- what is known of a seat that was joined, and of all seats
    abbrev pub Together : Known → Type 0
    Together k = (parts : Parts) → k.joined ≡ Some parts → JoinedInto M o parts.one parts.other (joined_part o.shape parts.one parts.other)

    abbrev pub AllTogether : List Known → Type 0
    AllTogether l = (seat : ℕ) (k : Known) (parts : Parts) → get_elem? l seat ≡ some k → k.joined ≡ Some parts → JoinedInto M o parts.one parts.other (joined_part o.shape parts.one parts.other)

    -- one more event leads to a machine of the field again
    pub one_more : (m n : Machine) (e : Event) → Admitted M o m → Does M m e n → Admitted M o n
    one_more m n e a does =
        let plays : Plays M m e n = inl does in
        let same : n.opening ≡ m.opening = (always_goes_on M m.opening a.events m n e a.opens a.runs plays).opening in record {
          shape = ap (λ (x : Opening). x.shape) same ∙ a.shape;
          words = ap (λ (x : Opening). x.words) same ∙ a.words;
          opens = subst (CanOpen M) (sym same) a.opens;
          events = a.events ++ e ∷ [];
          runs = subst (λ (x : Opening). Runs M (opened x) (a.events ++ e ∷ []) n) (sym same) (runs_more (opened m.opening) a.events m e n a.runs plays);
        }

    -- what the theorem says of a machine of the field, and of a step of it
    pub is_kept : (m : Machine) → Admitted M o m → IsKept m
    is_kept m a = always_kept M m.opening a.events m a.opens a.runs

    pub is_meant : Lawful M → (m : Machine) → Admitted M o m → IsMeant M m
    is_meant L m a = always_meant M L m.opening a.events m a.opens a.runs

    pub is_serial : Lawful M → (m : Machine) → Admitted M o m → (choice : List Bool) → Resolves m choice → IsSerial M m.opening m choice
    is_serial L m a choice resolves = always_serial M L m.opening a.events m choice a.opens a.runs resolves

    pub goes_on : (m n : Machine) (e : Event) → Admitted M o m → Does M m e n → MachineGoesOn m n
    goes_on m n e a does = always_goes_on M m.opening a.events m n e a.opens a.runs (inl does)

    -- the machine after a step is one of the field
    pub next_admitted : (event : EventOf) (before after : PassView) (s : Stepped M o event before after) → Admitted M o s.next
    next_admitted event before after s = one_more s.machine s.next (event s.pass) s.admitted s.does

    -- what is kept of seats that were joined, when one seat changes and when one comes
    joined_set : (l : List Known) (id : ℕ) (w : Known) → AllTogether l → Together w → AllTogether (slice_set l id w)
    joined_set l id w all one seat k parts at is = ⊎_elim
        (λ c. one parts (ap (λ (x : Known). x.joined) c.1 ∙ is))
        (λ c. all seat k parts c.1 is)
        (at_set l id seat w k at)

    joined_append : (l : List Known) (w : Known) → AllTogether l → Together w → AllTogether (l ++ w ∷ [])
    joined_append l w all one seat k parts at is = ⊎_elim
        (λ c. all seat k parts c is)
        (λ c. one parts (ap (λ (x : Known). x.joined) (at_one w k c.0 c.2).1 ∙ is))
        (at_append l (w ∷ []) seat k at)

    none_together : (w : Known) → w.joined ≡ None → Together w
    none_together w none parts is = absurd (none_some w.joined parts none is)

    -- the machine's passes are the views of the seats
    stands_at : (l : List Known) (passes : List PassView) (id : ℕ) (k : Known) → passes ≡ map (λ (x : Known). x.view) l → get_elem? l id ≡ some k → get_elem? passes id ≡ some k.view
    stands_at l passes id k is at = ap (λ (x : List PassView). get_elem? x id) is ∙ at_map (λ (x : Known). x.view) l id k at

    sets_view : (l : List Known) (passes : List PassView) (id : ℕ) (w : Known) → passes ≡ map (λ (x : Known). x.view) l → slice_set passes id w.view ≡ map (λ (x : Known). x.view) (slice_set l id w)
    sets_view l passes id w is = ap (λ (x : List PassView). slice_set x id w.view) is ∙ sym (map-set (λ (x : Known). x.view) l id w)

    -- so a step of the table that is an event keeps the rule, and tells what the event tells
    pub may_step : (slots id : ℕ) (me : Mine) (word : ℕ) (left : ℕ → ℕ) (tells : ℕ → PassView → PassView → Type 0) → o.shape.lanes ≢ 1 → IsLive me.0.view → MayTell M o me.0.view word left tells
        → Allows (Shows M o) slots id me word left (λ found now. tells found me.0.view now.0.view × (now.0.view.lanes ≡ me.0.view.lanes) × (now.0.private ≡ me.0.private) × (now.1 ≡ me.1))
    may_step slots id me word left tells more live may s h _ at _ =
        let m = h.machine in
        let stands : IsAt m id me.0.view = stands_at s.views m.passes id me.0 h.views at in
        let told = may m h.admitted id (record { at = stands; live = live }) in
        let w : Known = record me.0 { view = told.2 } in
        let words = h.words.shared more in
        let found : content m word ≡ slice_index s.words word = ap (λ (l : List ℕ). slice_index l word) words in (
          w,
          keeps,
          tt,
          record {
            machine = told.1;
            admitted = one_more m told.1 told.0 h.admitted told.3;
            words = record {
              shared = λ _. told.4 ∙ ap (λ (l : List ℕ). slice_set l word (left (slice_index l word))) words;
              private = λ one. absurd (more one);
            };
            views = told.5 ∙ sets_view s.views m.passes id w h.views;
            joined = joined_set s.views id w h.joined (λ parts is. h.joined id me.0 parts at is);
          },
          (subst (λ n. tells n me.0.view told.2) found told.7, told.6, refl, refl),
        )

    -- so is a step on private words, after which they are these
    pub may_put : (id : ℕ) (me : Known) (word : ℕ) (left : ℕ → ℕ) (tells : ℕ → PassView → PassView → Type 0) (mine next : Vec ℕ Global) → o.shape.lanes ≡ 1 → me.private ≡ Some mine
        → next.items ≡ slice_set mine.items word (left (slice_index mine.items word)) → IsLive me.view → MayTell M o me.view word left tells
        → (s : Table) → Seen (Shows M o) id me s
        → (now : Known) × Shows M o (with_view s id now) × tells (slice_index mine.items word) me.view now.view × (now.view.lanes ≡ me.view.lanes) × (now.private ≡ Some next)
    may_put id me word left tells mine next one has left_so live may s (h, at) =
        let m = h.machine in
        let held = h.words.private one in
        let alone = at_one held.known me id (subst (λ (l : List Known). get_elem? l id ≡ some me) held.alone at) in
        let same : held.private ≡ mine = some_same held.private mine (sym held.has ∙ ap (λ (k : Known). k.private) alone.1 ∙ has) in
        let words : m.words ≡ mine.items = held.all ∙ ap (λ (v : Vec ℕ Global). v.items) same in
        let stands : IsAt m id me.view = stands_at s.views m.passes id me h.views at in
        let told = may m h.admitted id (record { at = stands; live = live }) in
        let w : Known = record me { view = told.2; private = Some next } in
        let found : content m word ≡ slice_index mine.items word = ap (λ (l : List ℕ). slice_index l word) words in (
          w,
          record {
            machine = told.1;
            admitted = one_more m told.1 told.0 h.admitted told.3;
            words = record {
              shared = λ more. absurd (more one);
              private = λ _. record {
                known = w;
                private = next;
                alone = ap (λ (l : List Known). slice_set l id w) held.alone ∙ ap (λ n. slice_set (held.known ∷ []) n w) alone.0;
                has = refl;
                all = told.4 ∙ ap (λ (l : List ℕ). slice_set l word (left (slice_index l word))) words ∙ sym left_so;
              };
            };
            views = told.5 ∙ sets_view s.views m.passes id w h.views;
            joined = joined_set s.views id w h.joined (λ parts is. h.joined id me parts at is);
          },
          subst (λ n. tells n me.view told.2) found told.7,
          told.6,
          refl,
        )

    -- a state with other words of the table and other views, which are the same
    same_words : (s : Table) (words : List ℕ) (views : List Known) (ws : List ℕ) → words ≡ s.words → views ≡ s.views → AreWords o.shape ws s → AreWords o.shape ws (record s { words = words; views = views })
    same_words s words views ws e f a = record {
      shared = λ more. a.shared more ∙ sym e;
      private = λ one. subst (OneHas ws) (sym f) (a.private one);
    }

    -- a load of the table that ends in such a state
    pub may_follow : (slots id : ℕ) (me : Mine) (follows : Known → Known → Type 0)
        → ((s : Table) → Seen (Shows M o) id me.0 s → (now : Known) × Shows M o (with_view s id now) × follows me.0 now)
        → Allows (Shows M o) slots id me 0 (λ found. found) (λ found now. follows me.0 now.0 × (now.1 ≡ me.1))
    may_follow slots id me follows may s h _ at _ =
        let told = may s (h, at) in (
          told.0,
          keeps,
          tt,
          subst (λ (l : List ℕ). Shows M o (record s { words = l; views = slice_set s.views id told.0 })) (sym (set-get_or s.words 0 0)) told.1,
          (told.2, refl),
        )

    -- a load of word 0 that changes nothing tells what follows from the rule
    pub may_look : (slots id : ℕ) (me : Mine) (tells : Known → Type 0) → ((s : Table) → Seen (Shows M o) id me.0 s → tells me.0)
        → Allows (Shows M o) slots id me 0 (λ found. found) (λ found now. (now ≡ me) × tells me.0)
    may_look slots id me tells tell s h _ at _ =
        let same : slice_set s.views id me.0 ≡ s.views = set_same s.views id me.0 at in (
          me.0,
          keeps,
          tt,
          record {
            machine = h.machine;
            admitted = h.admitted;
            words = same_words s _ _ h.machine.words (set-get_or s.words 0 0) same h.words;
            views = h.views ∙ ap (map (λ (x : Known). x.view)) (sym same);
            joined = subst AllTogether (sym same) h.joined;
          },
          (refl, tell s (h, at)),
        )

    -- the field as it is opened: its words stand in the table, or they are private
    pub opens_so : (words : Vec ℕ Global) (table : List ℕ) (placed : List PlacedNode) → o.words ≡ words.items → (o.shape.lanes ≢ 1 → table ≡ words.items) → let opening : Opening = record { shape = o.shape; words = o.words; placed = placed } in CanOpen M opening
        → Shows {S = Unit {0}} M o (first_table table [] (first_known o.shape words))
    opens_so words table placed is stands can = let first = first_known o.shape words in record {
      machine = opened (record { shape = o.shape; words = o.words; placed = placed });
      admitted = record { shape = refl; words = refl; opens = can; events = []; runs = refl };
      words = record {
        shared = λ more. is ∙ sym (stands more);
        private = λ one. record {
          known = first;
          private = words;
          alone = refl;
          has = cond-true (o.shape.lanes == 1) (Some words) None (eq-eqb o.shape.lanes 1 one);
          all = is;
        };
      };
      views = refl;
      joined = λ seat k parts at is. none_together first refl parts (ap (λ (x : Known). x.joined) (at_one _ k seat at).1 ∙ is);
    }

    -- a load writes back what it found
    still : (m : Machine) → slice_set m.words 0 (content m 0) ≡ m.words
    still m = set-get_or m.words 0 0

    -- in a machine that the rule shows, a pass of two lanes may be split
    pub splits_into : (id : ℕ) (p : Known) → MaySplit p.view → (s : Table) → Seen (Shows M o) id p s
        → SplitInto M o p.view (kept_part o.shape p.view) (given_part o.shape p.view)
    splits_into id p two s (h, at) =
        let m = h.machine in
        let shape = shape_of m in
        let kept = kept_part shape p.view in
        let given = given_part shape p.view in
        let acts : Acts m id p.view = record { at = stands_at s.views m.passes id p h.views at; live = omega (arith, two) } in
        let long : length (slice_set m.passes id kept) ≡ length m.passes = length-set m.passes id kept in
        subst (λ (x : Shape). SplitInto M o p.view (kept_part x p.view) (given_part x p.view)) h.admitted.shape (record {
          step = record {
            machine = m;
            admitted = h.admitted;
            pass = id;
            acts = acts;
            next = after_split m id p.view;
            does = (p.view, acts, two, refl);
            knows = append_there (slice_set m.passes id kept) (given ∷ []) id kept (set_there m.passes id kept p.view acts.at);
          };
          beside = subst (λ n. get_elem? (slice_set m.passes id kept ++ given ∷ []) n ≡ some given) long (append_end (slice_set m.passes id kept) given);
        })

    -- two passes of a machine may be joined
    joins_into : (m : Machine) → Admitted M o m → (pass seat : ℕ) (p q : PassView) → Acts m pass p → seat ≢ pass → Acts m seat q
        → JoinedInto M o p q (joined_part o.shape p q)
    joins_into m a pass seat p q acts apart beside =
        let both = joined_part (shape_of m) p q in
        subst (λ (x : Shape). JoinedInto M o p q (joined_part x p q)) a.shape (record {
          seat = seat;
          step = record {
            machine = m;
            admitted = a;
            pass = pass;
            acts = acts;
            next = after_join m pass seat p q;
            does = (p, q, acts, apart, beside, refl);
            knows = set_else (slice_set m.passes pass both) seat pass spent (λ e. apart (sym e)) ∙ set_there m.passes pass both p acts.at;
          };
          beside = beside;
        })

    -- a split and a join keep the rule
    pub may_split : (id : ℕ) (p : Known) → o.shape.lanes ≢ 1 → MaySplit p.view
        → Splits {S = Unit {0}} (Shows M o) id p (record p { view = kept_part o.shape p.view }) (record { view = given_part o.shape p.view; joined = None; private = None })
    may_split id p more two s h at =
        let m = h.machine in
        let stands : IsAt m id p.view = stands_at s.views m.passes id p h.views at in
        let n = after_split m id p.view in
        let does : Does M m (split id) n = (p.view, record { at = stands; live = omega (arith, two) }, two, refl) in
        let kept : Known = record p { view = kept_part o.shape p.view } in
        let given : Known = record { view = given_part o.shape p.view; joined = None; private = None } in
        record {
          machine = n;
          admitted = one_more m n (split id) h.admitted does;
          words = record {
            shared = λ _. still m ∙ h.words.shared more;
            private = λ one. absurd (more one);
          };
          views = ap (λ (shape : Shape). slice_set m.passes id (kept_part shape p.view) ++ given_part shape p.view ∷ []) h.admitted.shape
              ∙ ap (λ (l : List PassView). l ++ given.view ∷ []) (sets_view s.views m.passes id kept h.views)
              ∙ sym (map-append (λ (x : Known). x.view) (slice_set s.views id kept) (given ∷ []));
          joined = joined_append (slice_set s.views id kept) given (joined_set s.views id kept h.joined (λ parts is. h.joined id p parts at is)) (none_together given refl);
        }

    two_seats : (l : List Known) (id other : ℕ) (p q both : Known) {words : List ℕ} → OneHas words l → get_elem? l id ≡ some p → ¬ (other ≡ id) → get_elem? (slice_set l id both) other ≡ some q → ⊥
    two_seats l id other p q both held at apart there =
        let mine = at_one held.known p id (subst (λ (x : List Known). get_elem? x id ≡ some p) held.alone at) in
        let one : slice_set l id both ≡ both ∷ [] = ap (λ (x : List Known). slice_set x id both) held.alone ∙ ap (λ n. slice_set (held.known ∷ []) n both) mine.0 in
        apart ((at_one both q other (subst (λ (x : List Known). get_elem? x other ≡ some q) one there)).0 ∙ sym mine.0)

    pub may_join : (id other : ℕ) (p q : Known) → IsLive p.view → IsLive q.view
        → Joins {S = Unit {0}} (Shows M o) id p other q (record { view = joined_part o.shape p.view q.view; joined = Some (record { one = p.view; other = q.view }); private = p.private }) (record { view = spent; joined = None; private = None })
    may_join id other p q live_p live_q s h at apart there =
        let m = h.machine in
        let both : Known = record { view = joined_part o.shape p.view q.view; joined = Some (record { one = p.view; other = q.view }); private = p.private } in
        let gone : Known = record { view = spent; joined = None; private = None } in
        let stands : IsAt m id p.view = stands_at s.views m.passes id p h.views at in
        let beside : IsAt m other q.view = stands_at s.views m.passes other q h.views (sym (set_else s.views id other both apart) ∙ there) in
        let n = after_join m id other p.view q.view in
        let acts : Acts m id p.view = record { at = stands; live = live_p } in
        let others : Acts m other q.view = record { at = beside; live = live_q } in
        let does : Does M m (join id other) n = (p.view, q.view, acts, apart, others, refl) in
        let together : Together both = λ parts is. subst (λ (x : Parts). JoinedInto M o x.one x.other (joined_part o.shape x.one x.other)) (some_same _ parts is)
        (joins_into m h.admitted id other p.view q.view acts apart others) in
        record {
          machine = n;
          admitted = one_more m n (join id other) h.admitted does;
          words = record {
            shared = λ more. still m ∙ h.words.shared more;
            private = λ one. absurd (two_seats s.views id other p q both (h.words.private one) at apart there);
          };
          views = ap (λ (shape : Shape). slice_set (slice_set m.passes id (joined_part shape p.view q.view)) other spent) h.admitted.shape
              ∙ sets_view (slice_set s.views id both) _ other gone (sets_view s.views m.passes id both h.views);
          joined = joined_set (slice_set s.views id both) other gone (joined_set s.views id both h.joined together) (none_together gone refl);
        }
