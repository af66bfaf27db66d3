-- A transaction that stored one read more is prepared with it.
use Rattle.std.proofs.Common.{◌≡◌, ◌≢◌, ◌++◌, ◌∷◌, ◌+◌, ◌<◌, ℕ, true, false, List, [], length, Option, Some, None, is_some, refl, sym, ap, ◌∙◌, subst, inl, inr, ⊎_elim, append_assoc, arith}
use Rattle.std.proofs.lemmas.Bool.{false≢true, true≢false}
use Rattle.std.proofs.lemmas.List.{length-append, length-map}
use Rattle.std.proofs.lemmas.List.Elements.{All-append, All-cons, All-contains, All-nil, All-weaker, Contains-append_left, Contains-append_right, Contains-push, Contains-push_cases}
use Rattle.std.proofs.lemmas.List.Kept.{AllPairs-cons}
use Rattle.std.specs.List.{All, Contains, flat_map}
use Rattle.md_words.specs.declared.limits.TheConstants.{SET}
use Rattle.md_words.specs.declared.shape.Shape.{Shape}
use Rattle.md_words.specs.Content.{count_of, is_even}
use Rattle.md_words.specs.Lanes.{OwnsNode}
use Rattle.md_words.specs.Layout.{Exists, IsInSet, address, desc_count}
use Rattle.md_words.specs.Place.{Place, desc_status, is_counted, node_key, node_next, node_value, read_content, read_word, slot_new, slot_old}
use Rattle.md_words.specs.PlaceAt.{IsCounted, place_at}
use Rattle.md_words.proofs.Owners.{own_desc_exists, own_node_exists}
use Rattle.md_words.proofs.Places.{place_at-address}
use Rattle.md_machine.specs.declared.attempt.AttemptId.{AttemptId}
use Rattle.md_machine.specs.declared.attempt.Read.{Read}
use Rattle.md_machine.specs.declared.attempt.Write.{Write}
use Rattle.md_machine.specs.declared.pass.PassView.{PassView}
use Rattle.md_machine.specs.declared.step.Step.{Step}
use Rattle.md_machine.specs.declared.step.Kind.TheVariants.{Install, Store}
use Rattle.md_machine.specs.Certified.{content_read, content_replaced, first_content, is_written}
use Rattle.md_machine.specs.Machine.{is_ready}
use Rattle.md_machine.specs.Own.{HasNode, IsWordOf}
use Rattle.md_machine.specs.Trail.{LastStored, SomeStep, StoresFor, segments}
use Rattle.md_machine.specs.clauses.nodes.FreeNodes.{IsFreeBy}
use Rattle.md_machine.specs.events.Start.{WonInstall}
use Rattle.md_machine.proofs.lists.Differ.{no_pairs, pairs_append}
use Rattle.md_machine.proofs.lists.Rising.{here, in_cons, in_none}
use Rattle.md_rule.specs.Kept.{IsLeft}
use Rattle.md_rule.specs.Views.{PassState}
use Rattle.md_help.specs.After.{IsAfter}
use Rattle.md_help.proofs.Deciding.{some_after}
use Rattle.md_nbtc_law.specs.declared.slots.Slot.{Slot}
use Rattle.md_nbtc_law.specs.Prepared.{EachFrom, InstallsFrom, IsHeld, IsPrepared, IsPreparedNode, IsRecorded, IsWritten, LastOn, LeftLast, LeftThere, StoredOnce}
use Rattle.md_nbtc_law.specs.State.{OwnNode, TxnState, attempt_in, lot_of_lane, own_steps, shape_in, writes_in}
use Rattle.md_nbtc_law.proofs.preparing.GoingOn.{own_grows}
use Rattle.md_nbtc_law.proofs.preparing.Quiet.{earlier_still, every_still, last_longer, last_on, last_still, left_same, once_still, some_was}
use Rattle.md_nbtc_law.proofs.nodes.GrownPrepared.{each_on}
use Rattle.md_nbtc_law.proofs.ready.Lookups.{all_of, replaced_there, written_replaced}
use Rattle.md_nbtc_law.proofs.recording.ReadSets.{first_other, first_this, read_apart}
use Rattle.md_machine.specs.Stepping.{attempt_in_hand}
use Rattle.md_nbtc_law.proofs.preparing.Out.{out_on}

-- which read of a descriptor a place is of
abbrev number_of : Place → ℕ
number_of (read_word desc i) = i
number_of (read_content desc i) = i
number_of _ = 0

-- one more comes last of a list that has something of each with its place
pub each_push : {A : Type 0} (P : ℕ → A → Type 0) (from : ℕ) (xs : List A) (x : A) → EachFrom P from xs → P (from + length xs) x → EachFrom P from (xs ++ x ∷ [])
each_push P from [] x each new = (subst (λ n. P n x) (omega arith) new, tt)
each_push P from (y ∷ ys) x each new = (each.0, each_push P (from + 1) ys x each.1 (subst (λ n. P n x) (omega arith) new))

-- two places with the same word are one
pub one_place : (shape : Shape) (p q : Place) → Exists shape p → Exists shape q → address shape p ≡ address shape q → p ≡ q
one_place shape p q a b same = sym (place_at-address shape p a) ∙ ap (place_at shape) same ∙ place_at-address shape q b

module _ (t : TxnState) (prepared : IsPrepared t) (word held : ℕ) (first second : Step) (q : PassView)
    (after : IsAfter (shape_in t) (first ∷ second ∷ []) t.pass.view q) (room : length t.reads < SET)
    (stores_word : StoresFor (attempt_in t) (address (shape_in t) (read_word (attempt_in t).desc (length t.reads))) first) (word_left : first.after ≡ word)
    (stores_content : StoresFor (attempt_in t) (address (shape_in t) (read_content (attempt_in t).desc (length t.reads))) second) (content_left : second.after ≡ held) where
  abbrev i : ℕ
  i = length t.reads

  abbrev a : AttemptId
  a = attempt_in t

  abbrev pub steps : List Step
  steps = first ∷ second ∷ []

  abbrev pub new_read : Read
  new_read = record { word = word; content = held; stood = true }

  abbrev pub read_pass : PassState
  read_pass = record t.pass { view = q }

  abbrev pub now : TxnState
  now = record t { pass = read_pass; reads = t.reads ++ new_read ∷ [] }

  trail_is : q.trail ≡ t.pass.view.trail ++ steps
  trail_is = ap (λ (x : PassView). x.trail) after.1

  lanes_same : q.lanes ≡ t.pass.view.lanes
  lanes_same = ap (λ (x : PassView). x.lanes) after.1

  pub own_then : own_steps now ≡ own_steps t ++ steps
  own_then = own_grows t.began.view.trail t.pass.view.trail q.trail steps prepared.has.since trail_is

  desc_exists : a.desc < desc_count (shape_in t)
  desc_exists = own_desc_exists (shape_in t) prepared.has.own.0 a.desc prepared.has.own.2

  -- no step is on the word of another place
  pub apart : (place : Place) → Exists (shape_in t) place → place ≢ read_word a.desc i → place ≢ read_content a.desc i → All (λ s. s.word ≢ address (shape_in t) place) steps
  apart place there no_word no_content =
      All-cons (λ s. s.word ≢ address (shape_in t) place) first (second ∷ [])
      (λ e. no_word (one_place (shape_in t) place (read_word a.desc i) there (desc_exists, room) (sym e ∙ stores_word.there)))
      (All-cons (λ s. s.word ≢ address (shape_in t) place) second []
      (λ e. no_content (one_place (shape_in t) place (read_content a.desc i) there (desc_exists, room) (sym e ∙ stores_content.there)))
      (All-nil (λ s. s.word ≢ address (shape_in t) place)))

  -- nor on a counted word
  pub counted_apart : (w : ℕ) → IsCounted (shape_in t) w → All (λ s. s.word ≢ w) steps
  counted_apart w counted =
      All-cons (λ s. s.word ≢ w) first (second ∷ []) (λ e. none (read_word a.desc i) (desc_exists, room) refl (sym stores_word.there ∙ e))
      (All-cons (λ s. s.word ≢ w) second [] (λ e. none (read_content a.desc i) (desc_exists, room) refl (sym stores_content.there ∙ e)) (All-nil (λ s. s.word ≢ w)))
    where
      none : (p : Place) → Exists (shape_in t) p → is_counted p ≡ false → address (shape_in t) p ≡ w → ⊥
      none p there not is = false≢true (sym not ∙ ap is_counted (sym (place_at-address (shape_in t) p there) ∙ ap (place_at (shape_in t)) is) ∙ counted.1)

  same_on : (w : ℕ) → All (λ s. s.word ≢ w) steps → All (λ s. s.word ≡ w → s.before ≡ s.after) steps
  same_on w off = All-weaker (λ s. s.word ≢ w) (λ s. s.word ≡ w → s.before ≡ s.after) (λ s no is. absurd (no is)) steps off

  not_stored : (w : ℕ) → All (λ s. s.word ≢ w) steps → All (λ s. ¬ StoresFor a w s) steps
  not_stored w off = All-weaker (λ s. s.word ≢ w) (λ s. ¬ StoresFor a w s) (λ s no x. no x.there) steps off

  pub node_off : (node : ℕ) → HasNode (shape_in t) t.pass.view node → (place : Place) → IsWordOf node place → All (λ s. s.word ≢ address (shape_in t) place) steps
  node_off node has place is =
      let there = own_node_exists (shape_in t) has.0 node has.2 in
      ⊎_elim
      (λ d. ⊎_elim
      (λ e. subst Off (sym e) (apart (node_key node) there (λ x. cc) (λ x. cc)))
      (λ e. subst Off (sym e) (apart (node_value node) there (λ x. cc) (λ x. cc))) d)
      (λ e. subst Off (sym e) (apart (node_next node) there (λ x. cc) (λ x. cc))) is
    where
      Off : Place → Type 0
      Off p = All (λ s. s.word ≢ address (shape_in t) p) steps

  stored_then : (w value : ℕ) → All (λ s. s.word ≢ w) steps → LastStored t.pass.view a w value → LastStored q a w value
  stored_then w value off l = ⊎_elim
      (λ old. record {
        store = record { earlier = l.store.earlier; step = l.store.step; later = l.store.later; segment = earlier_still (shape_in t) steps t.pass.view q after _ old; such = l.store.such };
        left = l.left;
        last = l.last;
      })
      (λ last. record {
        store = record {
          earlier = l.store.earlier;
          step = l.store.step;
          later = l.store.later ++ steps;
          segment = subst (λ s. Contains (segments q) s) (append_assoc l.store.earlier (l.store.step ∷ l.store.later) steps) (last_longer (shape_in t) steps t.pass.view q after _ last);
          such = l.store.such;
        };
        left = l.left;
        last = All-append (λ s. ¬ StoresFor a w s) l.store.later steps l.last (not_stored w off);
      })
      (Contains-push_cases t.pass.view.past t.pass.view.trail (l.store.earlier ++ l.store.step ∷ l.store.later) l.store.segment)

  -- what the two steps stored last
  differ : second.word ≢ address (shape_in t) (read_word a.desc i)
  differ e = no (one_place (shape_in t) (read_content a.desc i) (read_word a.desc i) (desc_exists, room) (desc_exists, room) (sym stores_content.there ∙ e))
    where
      no : read_content a.desc i ≡ read_word a.desc i → ⊥
      no x = cc

  word_stored : LastStored q a (address (shape_in t) (read_word a.desc i)) word
  word_stored = record {
    store = record {
      earlier = t.pass.view.trail;
      step = first;
      later = second ∷ [];
      segment = subst (λ s. Contains (segments q) s) trail_is (Contains-push q.past q.trail);
      such = stores_word;
    };
    left = word_left;
    last = All-cons (λ s. ¬ StoresFor a (address (shape_in t) (read_word a.desc i)) s) second [] (λ x. differ x.there) (All-nil _);
  }

  content_stored : LastStored q a (address (shape_in t) (read_content a.desc i)) held
  content_stored = record {
    store = record {
      earlier = t.pass.view.trail ++ first ∷ [];
      step = second;
      later = [];
      segment = subst (λ s. Contains (segments q) s) (trail_is ∙ sym (append_assoc t.pass.view.trail (first ∷ []) (second ∷ []))) (Contains-push q.past q.trail);
      such = stores_content;
    };
    left = content_left;
    last = All-nil _;
  }

  -- the word is neither recorded nor written, and an own step left the content there
  module _ (counted : IsCounted (shape_in t) word) (even : is_even (count_of held) ≡ true) (left : LeftThere a.desc word held (own_steps t))
      (unread : content_read t.reads word ≡ None) (unwritten : is_written (writes_in t) word ≡ false)
      (free : (lane : ℕ) → Contains t.pass.view.lanes lane → (node : ℕ) → IsFreeBy t.pass.view.seen t.pass.view.known node → IsFreeBy q.seen q.known node) where
    some_own : (P : Step → Type 0) → SomeStep P (own_steps t) → SomeStep P (own_steps now)
    some_own P (s, c, is) = (s, subst (λ l. Contains l s) (sym own_then) (Contains-append_left (own_steps t) steps s c), is)

    left_then : (w content : ℕ) → IsCounted (shape_in t) w → LeftThere a.desc w content (own_steps t) → LeftThere a.desc w content (own_steps now)
    left_then w content c l = subst (LeftThere a.desc w content) (sym own_then) (left_same a.desc w content (own_steps t) steps (same_on w (counted_apart w c)) l)

    recorded_then : (j : ℕ) (r : Read) → j < i → IsRecorded t j r → IsRecorded now j r
    recorded_then j r below x = record {
      counted = x.counted;
      even = x.even;
      word = stored_then _ r.word (off (read_word a.desc j) within (λ e. omega (arith, below, ap number_of e)) (λ e. cc)) x.word;
      content = stored_then _ r.content (off (read_content a.desc j) within (λ e. cc) (λ e. omega (arith, below, ap number_of e))) x.content;
      shown = some_own _ x.shown;
      left = λ none. left_then r.word r.content x.counted (x.left none);
    }
      where
        within : IsInSet (shape_in t) a.desc j
        within = (desc_exists, omega (arith, below, room))

        off : (place : Place) → Exists (shape_in t) place → place ≢ read_word a.desc i → place ≢ read_content a.desc i → All (λ s. s.word ≢ address (shape_in t) place) steps
        off = apart

    recorded_new : IsRecorded now i new_read
    recorded_new = record {
      counted = counted;
      even = even;
      word = word_stored;
      content = content_stored;
      shown = (first, subst (λ l. Contains l first) (sym own_then) (Contains-append_right (own_steps t) steps first (here first (second ∷ []))), (stores_word, word_left));
      left = λ _. left_then word held counted left;
    }

    written_then : (j : ℕ) (w : Write) → j < SET → IsWritten t j w → IsWritten now j w
    written_then j w below x = record {
      slot = x.slot;
      counted = x.counted;
      from = x.from;
      installed = some_own _ x.installed;
      left = subst (LeftLast w.word _) (sym own_then) (last_still w.word _ (own_steps t) steps (same_on w.word (counted_apart w.word x.counted)) x.left);
      old = stored_then _ w.old (apart (slot_old a.desc j) (desc_exists, below) (λ e. cc) (λ e. cc)) x.old;
      new = stored_then _ w.new (apart (slot_new a.desc j) (desc_exists, below) (λ e. cc) (λ e. cc)) x.new;
    }

    left_before : (node : ℕ) → IsLeft read_pass node → IsLeft t.pass node
    left_before node l = (l.0, subst (λ x. Contains x l.0) lanes_same l.1, l.2, l.3)

    no_stored_left : (node : ℕ) → IsLeft read_pass node → All (λ s. ¬ StoresFor a (address (shape_in t) (node_next node)) s) steps
    no_stored_left node l =
        let was = left_before node l in
        not_stored _ (node_off node (was.0, was.1, subst (λ s. OwnsNode s was.0 node) prepared.has.of.shape was.2) (node_next node) (inr refl))

    abbrev Listed : Step → Type 0
    Listed s = WonInstall a s → (w : Write) × Contains (writes_in t) w × InstallsFrom a w s

    no_install : (s : Step) → s.kind ≡ Store → Listed s
    no_install s is won = absurd (store_install (sym is ∙ won.kind))
      where
        store_install : Store ≡ Install → ⊥
        store_install e = cc

    -- no read of the set is of the word, nor a slot
    read_off : (r : Read) → Contains t.reads r → word ≢ r.word
    read_off r c e = read_apart t.reads word unread r c (sym e)

    slot_off : (w : Write) → Contains (writes_in t) w → word ≢ w.word
    slot_off w c e = replaced_there (writes_in t) w c word (sym e) (none_of (content_replaced (writes_in t) word) (sym (written_replaced (writes_in t) word) ∙ unwritten))
      where
        none_of : (o : Option ℕ) → is_some o ≡ false → o ≡ None
        none_of None is = refl
        none_of (Some x) is = absurd (true≢false is)

    pub read_held : IsHeld now
    read_held = let h = prepared.has in let few_writes = h.few_writes in let many = length-map t.slots (λ (s : Slot). s.write) in
        let one = length-append t.reads (new_read ∷ []) in record {
          of = record { table = h.of.table; shape = h.of.shape };
          held = ap (λ (x : PassView). x.hand) after.1 ∙ h.held;
          own = (h.own.0, subst (λ l. Contains l h.own.0) (sym lanes_same) h.own.1, h.own.2);
          between = h.between;
          since = record { rest = h.since.rest ++ steps; is = trail_is ∙ ap (λ l. l ++ steps) h.since.is ∙ append_assoc t.began.view.trail h.since.rest steps };
          lanes = lanes_same ∙ h.lanes;
          numbers = h.numbers;
          taken = h.taken;
          lots = h.lots ∙ ap (λ l. flat_map (lot_of_lane t.began t.pass) l) (sym lanes_same);
          out = out_on t.began (shape_in t) (attempt_in t) steps t.pass.view q after (ap attempt_in_hand h.held) h.out;
          stored = λ node l is. h.stored node (left_before node l) (some_was (shape_in t) steps t.pass.view q after _ (no_stored_left node l) is);
          few_reads = omega (arith, one, room);
          few_writes = h.few_writes;
          reads = each_push (IsRecorded now) 0 t.reads new_read
              (each_on (IsRecorded t) (IsRecorded now) 0 t.reads (λ j r below c x. recorded_then j r (omega (arith, below)) x) h.reads) (subst (λ n. IsRecorded now n new_read) (omega arith) recorded_new);
          writes = each_on (IsWritten t) (IsWritten now) 0 (writes_in t) (λ j w below c x. written_then j w (omega (arith, below, few_writes, many)) x) h.writes;
          recorded_once = pairs_append Differ t.reads (new_read ∷ []) h.recorded_once (AllPairs-cons Differ new_read [] (All-nil (Differ new_read)) (no_pairs Differ))
              (λ x y c d. ⊎_elim (λ e. subst (λ (z : Read). x.word ≢ z.word) e (read_apart t.reads word unread x c)) (λ none. absurd (in_none y none)) (in_cons new_read [] y d));
          written_once = h.written_once;
          read = All-append Found t.reads (new_read ∷ [])
              (all_of Found t.reads (λ r c. first_other t.reads new_read (writes_in t) unread r.word (read_off r c)
              ∙ All-contains (λ (x : Read). first_content t.reads (writes_in t) x.word ≡ Some x.content) t.reads r h.read c))
              (All-cons Found new_read [] (first_this t.reads new_read (writes_in t) unread) (All-nil Found));
          replaced = all_of (λ (w : Write). first_content now.reads (writes_in t) w.word ≡ Some w.old) (writes_in t)
              (λ w c. first_other t.reads new_read (writes_in t) unread w.word (slot_off w c)
              ∙ All-contains (λ (x : Write). first_content t.reads (writes_in t) x.word ≡ Some x.old) (writes_in t) w h.replaced c);
          all = every_still (shape_in t) steps t.pass.view q after Listed
              (All-cons Listed first (second ∷ []) (no_install first stores_word.kind) (All-cons Listed second [] (no_install second stores_content.kind) (All-nil Listed))) h.all;
          nodes_differ = h.nodes_differ;
        }
      where
        Differ : Read → Read → Type 0
        Differ x y = x.word ≢ y.word

        Found : Read → Type 0
        Found r = first_content now.reads (writes_in t) r.word ≡ Some r.content

    last_then : (w content : ℕ) → All (λ s. s.word ≢ w) steps → LeftLast w content t.pass.view.trail → LeftLast w content q.trail
    last_then w content off l = subst (LeftLast w content) (sym trail_is) (last_still w content t.pass.view.trail steps (same_on w off) l)

    node_then : (n : OwnNode) → IsPreparedNode t n → IsPreparedNode now n
    node_then n x = record {
      own = (x.own.0, subst (λ l. Contains l x.own.0) (sym lanes_same) x.own.1, x.own.2);
      unplaced = free x.own.0 x.own.1 n.node x.unplaced;
      stored = some_after _ (shape_in t) steps t.pass.view q after x.stored;
      once = subst (StoredOnce _ _) (sym trail_is) (once_still _ _ t.pass.view.trail steps (not_stored _ (node_off n.node x.own (node_next n.node) (inr refl))) x.once);
      key = last_then _ _ (node_off n.node x.own (node_key n.node) (inl (inl refl))) x.key;
      value = last_then _ _ (node_off n.node x.own (node_value n.node) (inl (inr refl))) x.value;
      next = λ none. let y = x.next none in (y.0, y.1, y.2, last_then _ _ (node_off n.node x.own (node_next n.node) (inr refl)) y.3);
    }

    pub read_prepared : IsPrepared now
    read_prepared = record {
      has = read_held;
      unready = ap (λ (x : PassView). is_ready x.seen a) after.1 ∙ prepared.unready;
      status = subst (LastOn _ _) (sym own_then) (last_on _ _ (own_steps t) steps (apart (desc_status a.desc) desc_exists (λ e. cc) (λ e. cc)) prepared.status);
      nodes = All-weaker (IsPreparedNode t) (IsPreparedNode now) node_then t.nodes prepared.nodes;
    }
