-- How few words a walk writes: each is charged to a word that was recorded or written before, or to an own node.
use Rattle.std.proofs.Common.{◌≡◌, ◌≢◌, ◌==◌, ◌||◌, ◌≤◌, ◌+◌, ◌++◌, ◌⊎◌, ℕ, Bool, not, true, false, List, [], ◌∷◌, length, map, refl, sym, ap, ◌∙◌, subst, inl, inr, ⊎_elim, eq-eqb, eqb-true, arith}
use Rattle.std.proofs.lemmas.Bool.{cases_Bool}
use Rattle.std.proofs.lemmas.List.{length-append, length-map, map-append}
use Rattle.std.proofs.lemmas.List.Elements.{All-cons, All-nil, All-weaker, Contains-append_left, Contains-append_right}
use Rattle.std.proofs.lemmas.List.Kept.{AllPairs-cons}
use Rattle.std.specs.List.{All, AllPairs, Contains}
use Rattle.md_machine.specs.declared.attempt.Read.{Read}
use Rattle.md_machine.specs.declared.attempt.Write.{Write}
use Rattle.md_machine.specs.Certified.{is_written}
use Rattle.md_machine.specs.Meaning.{Meaning}
use Rattle.md_machine.proofs.lists.Differ.{no_pairs}
use Rattle.md_machine.proofs.lists.Rising.{filter_in, map_in, there as further}
use Rattle.md_nbtc_law.specs.declared.slots.Slot.{Slot}
use Rattle.md_nbtc_law.specs.State.{OwnNode, TxnState, shape_in, unwritten_reads, writes_in}
use Rattle.md_nbtc_law.proofs.exchanging.MoreSlots.{written_push}
use Rattle.md_nbtc_law.proofs.ready.Lookups.{written_found}
use Rattle.md_list_law.specs.ListShape.{next_word}
use Rattle.md_list.specs.Written.{WritesFew}
use Rattle.md_list.proofs.walking.At.{IsBehind}
use Rattle.md_list.proofs.walking.Counting.{few_among}

module _ (M : Meaning) (t : TxnState) (head : ℕ) where
  -- the word was recorded, or is the next word of an own node
  abbrev pub IsKnown : ℕ → Type 0
  IsKnown word = ((r : Read) × Contains t.reads r × (r.word ≡ word)) ⊎ ((n : OwnNode) × Contains t.nodes n × (word ≡ next_word (shape_in t) n.node))

  -- a word to which one is charged: it was written before, and is the next word of a visited node; or it is written since, and was recorded or is an own node's
  abbrev pub IsPayer : TxnState → List ℕ → (word : ℕ) → Type 0
  IsPayer u visited word = ((is_written (writes_in t) word ≡ true) × ((node : ℕ) × Contains visited node × (word ≡ next_word (shape_in t) node)))
      ⊎ ((is_written (writes_in t) word ≡ false) × (is_written (writes_in u) word ≡ true) × IsKnown word)

  pub record Charges (u : TxnState) (visited : List ℕ) : Type 0 where
    pub charged : List ℕ
    pub differ : AllPairs (λ (a b : ℕ). a ≢ b) charged
    pub each : All (IsPayer u visited) charged
    pub few : length u.slots ≤ length t.slots + length charged
    pub kept : (word : ℕ) → is_written (writes_in t) word ≡ true → is_written (writes_in u) word ≡ true
    pub since : (word : ℕ) → is_written (writes_in u) word ≡ true → (is_written (writes_in t) word ≡ true) ⊎ IsBehind M t visited head word

  -- all words to which one may be charged
  abbrev chargeable : List ℕ
  chargeable = map (λ (w : Write). w.word) (writes_in t)
      ++ (map (λ (r : Read). r.word) (unwritten_reads t) ++ map (λ (n : OwnNode). next_word (shape_in t) n.node) t.nodes)

  among : (u : TxnState) (visited : List ℕ) (word : ℕ) → IsPayer u visited word → Contains chargeable word
  among u visited word = ⊎_elim
      (λ before.
      let w = written_found (writes_in t) word before.0 in
      Contains-append_left (map (λ (w : Write). w.word) (writes_in t)) _ word (subst (Contains (map (λ (w : Write). w.word) (writes_in t))) w.2 (map_in (λ (w : Write). w.word) (writes_in t) w.0 w.1)))
      (λ since. Contains-append_right (map (λ (w : Write). w.word) (writes_in t)) _ word (⊎_elim
      (λ read. Contains-append_left (map (λ (r : Read). r.word) (unwritten_reads t)) _ word
      (subst (Contains (map (λ (r : Read). r.word) (unwritten_reads t))) read.2 (map_in (λ (r : Read). r.word) (unwritten_reads t) read.0
      (filter_in (λ (r : Read). not (is_written (writes_in t) r.word)) t.reads read.0 read.1 (ap (λ x. not (is_written (writes_in t) x)) read.2 ∙ ap not since.0)))))
      (λ own. Contains-append_right (map (λ (r : Read). r.word) (unwritten_reads t)) _ word
      (subst (Contains (map (λ (n : OwnNode). next_word (shape_in t) n.node) t.nodes)) (sym own.2) (map_in (λ (n : OwnNode). next_word (shape_in t) n.node) t.nodes own.0 own.1)))
      since.2))

  -- so few words were written
  pub few_written : (u : TxnState) (visited : List ℕ) → Charges u visited → WritesFew t u 0
  few_written u visited c =
      let most = few_among c.charged chargeable c.differ (All-weaker (IsPayer u visited) (Contains chargeable) (among u visited) c.charged c.each) in
      let few = c.few in
      omega (
        arith,
        most,
        few,
        length-append (map (λ (w : Write). w.word) (writes_in t)) (map (λ (r : Read). r.word) (unwritten_reads t) ++ map (λ (n : OwnNode). next_word (shape_in t) n.node) t.nodes),
        length-append (map (λ (r : Read). r.word) (unwritten_reads t)) (map (λ (n : OwnNode). next_word (shape_in t) n.node) t.nodes),
        length-map (writes_in t) (λ (w : Write). w.word),
        length-map t.slots (λ (s : Slot). s.write),
        length-map (unwritten_reads t) (λ (r : Read). r.word),
        length-map t.nodes (λ (n : OwnNode). next_word (shape_in t) n.node),
      )

  -- none is at first
  pub charges_none : (u : TxnState) → u.slots ≡ t.slots → Charges u []
  charges_none u same = record {
    charged = [];
    differ = no_pairs (λ (a b : ℕ). a ≢ b);
    each = All-nil (IsPayer u []);
    few = let l = ap (λ ss. length ss) same in omega (arith, l);
    kept = λ word is. ap (λ ss. is_written (map (λ (s : Slot). s.write) ss) word) same ∙ is;
    since = λ word is. inl (ap (λ ss. is_written (map (λ (s : Slot). s.write) ss) word) (sym same) ∙ is);
  }

  -- one more node is visited
  abbrev pub charges_more : (u : TxnState) (visited : List ℕ) (node : ℕ) → Charges u visited → Charges u (node ∷ visited)
  charges_more u visited node c = record {
    charged = c.charged;
    differ = c.differ;
    each = All-weaker (IsPayer u visited) (IsPayer u (node ∷ visited)) (λ word. ⊎_elim (λ before. inl (before.0, (before.1.0, further node visited before.1.0 before.1.1, before.1.2))) inr) c.charged c.each;
    few = c.few;
    kept = c.kept;
    since = λ word is. ⊎_elim inl (λ behind. inr (⊎_elim inl (λ b. inr (b.0, further node visited b.0 b.1, b.2)) behind)) (c.since word is);
  }

  -- the same words are written
  pub charges_same : (u v : TxnState) (visited : List ℕ) → length v.slots ≡ length u.slots → ((word : ℕ) → is_written (writes_in v) word ≡ is_written (writes_in u) word) → Charges u visited → Charges v visited
  charges_same u v visited long same c = record {
    charged = c.charged;
    differ = c.differ;
    each = All-weaker (IsPayer u visited) (IsPayer v visited) (λ word. ⊎_elim inl (λ since. inr (since.0, same word ∙ since.1, since.2))) c.charged c.each;
    few = let l = c.few in omega (arith, l, long);
    kept = λ word is. same word ∙ c.kept word is;
    since = λ word is. c.since word (sym (same word) ∙ is);
  }

  -- one more word is written, behind which the walk stands, and charged
  module _ (u v : TxnState) (visited : List ℕ) (slot : Slot) (pushed : v.slots ≡ u.slots ++ slot ∷ []) where
    push_is : (word : ℕ) → is_written (writes_in v) word ≡ (is_written (writes_in u) word || (slot.write.word == word))
    push_is word = ap (λ ss. is_written (map (λ (s : Slot). s.write) ss) word) pushed ∙ ap (λ ws. is_written ws word) (map-append (λ (s : Slot). s.write) u.slots (slot ∷ []))
        ∙ written_push (writes_in u) slot.write word

    pub still_written : (word : ℕ) → is_written (writes_in u) word ≡ true → is_written (writes_in v) word ≡ true
    still_written word is = push_is word ∙ ap (λ b. b || (slot.write.word == word)) is

    pub now_written : is_written (writes_in v) slot.write.word ≡ true
    now_written = push_is slot.write.word ∙ ap (λ b. is_written (writes_in u) slot.write.word || b) (eq-eqb slot.write.word slot.write.word refl) ∙ or_true (is_written (writes_in u) slot.write.word)
      where
        or_true : (b : Bool) → (b || true) ≡ true
        or_true true = refl
        or_true false = refl

    written_or_new : (word : ℕ) → is_written (writes_in v) word ≡ true → (is_written (writes_in u) word ≡ true) ⊎ (slot.write.word ≡ word)
    written_or_new word is = ⊎_elim inl (λ not. inr (eqb-true slot.write.word word (sym (ap (λ b. b || (slot.write.word == word)) not) ∙ sym (push_is word) ∙ is))) (cases_Bool (is_written (writes_in u) word))

    pub charges_one : (c : Charges u visited) → IsBehind M t visited head slot.write.word → (word : ℕ) → IsPayer v visited word → All (λ other. word ≢ other) c.charged → Charges v visited
    charges_one c behind word is apart = record {
      charged = word ∷ c.charged;
      differ = AllPairs-cons (λ (a b : ℕ). a ≢ b) word c.charged apart c.differ;
      each = All-cons (IsPayer v visited) word c.charged is
          (All-weaker (IsPayer u visited) (IsPayer v visited) (λ other. ⊎_elim inl (λ since. inr (since.0, still_written other since.1, since.2))) c.charged c.each);
      few = let l = ap (λ ss. length ss) pushed in let few = c.few in omega (arith, l, few, length-append u.slots (slot ∷ []));
      kept = λ other was. still_written other (c.kept other was);
      since = λ other now. ⊎_elim (c.since other) (λ same. inr (subst (IsBehind M t visited head) same behind)) (written_or_new other now);
    }

-- few words are written still, if no more are
pub few_after : (t u v : TxnState) (some : ℕ) → v.slots ≡ u.slots → WritesFew t u some → WritesFew t v some
few_after t u v some same few = let l = ap (λ ss. length ss) same in omega (arith, l, few)
