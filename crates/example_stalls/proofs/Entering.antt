-- A transaction that inserted a value into the cell may become ready.
use Rattle.std.proofs.Common.{◌≡◌, ◌==◌, ◌||◌, ◌∷◌, ◌+◌, ◌<◌, ◌≤◌, ℕ, Bool, true, false, List, [], Some, refl, sym, ap, ◌∙◌, subst, eq-eqb, arith, if◌then◌else◌}
use Rattle.std.specs.Prelude.{is_some, option_map, unwrap_or, get_or}
use Rattle.std.specs.List.{All, Contains}
use Rattle.std.proofs.lemmas.Bool.{cond-true}
use Rattle.std.proofs.lemmas.List.Elements.{All-cons, All-nil, Contains-get_or}
use Rattle.md_words.specs.declared.content.Spot.{Spot}
use Rattle.md_words.specs.declared.shape.Shape.{Shape}
use Rattle.md_words.specs.Content.{count_of, spot_of, value_of}
use Rattle.md_words.specs.Layout.{Exists, IsNode, address}
use Rattle.md_words.specs.Place.{bucket_head, node_next, slot_new}
use Rattle.md_words.specs.PlaceAt.{place_at}
use Rattle.md_words.proofs.Owners.{own_node_exists}
use Rattle.md_words.proofs.Places.{place_at-address}
use Rattle.md_machine.specs.declared.attempt.AttemptId.{AttemptId}
use Rattle.md_machine.specs.declared.attempt.Hand.{Hand}
use Rattle.md_machine.specs.declared.attempt.Write.{Write}
use Rattle.md_machine.specs.declared.certificate.Certificate.{Certificate}
use Rattle.md_machine.specs.declared.certificate.Change.{Change}
use Rattle.md_machine.specs.declared.certificate.WordValue.{WordValue}
use Rattle.md_machine.specs.declared.pass.PassView.{PassView}
use Rattle.md_machine.specs.declared.step.Step.{Step}
use Rattle.md_machine.specs.declared.step.TheConstants.{LAST_COUNT}
use Rattle.md_machine.specs.Certified.{CertifiedIn, IsCertified, RecordsFound, after_wholes, as_found, content_replaced, first_content, is_written}
use Rattle.md_machine.specs.Event.{Acts}
use Rattle.md_machine.specs.Installs.{spot_of_install}
use Rattle.md_machine.specs.LogicalHeap.{IsPlaced, LogicalHeap}
use Rattle.md_machine.specs.Machine.{Install, IsPresentIn, Machine, attempt_of, content, present, same_attempt, shape_of, word_at}
use Rattle.md_machine.specs.Own.{HasDesc}
use Rattle.md_machine.specs.clauses.slots.WonInstalls.{IsInstallOf}
use Rattle.md_machine.specs.clauses.words.Stores.{IsEntryWord}
use Rattle.md_machine.specs.clauses.passes.Hands.{HandFits}
use Rattle.md_machine.specs.Theorem.{IsKept}
use Rattle.md_machine.specs.Trail.{SomeStepOf, StoresFor}
use Rattle.md_machine.specs.events.Ready.{InstallsFor, MayReady, installs_by, write_now, writes_now}
use Rattle.md_machine.specs.events.Start.{WonInstall}
use Rattle.md_machine.proofs.chain.Values.{installed_spot}
use Rattle.md_machine.proofs.events.Attempts.{attempt_same, same_from, same_parts}
use Rattle.md_machine.proofs.lists.Options.{some_same}
use Rattle.md_machine.proofs.lists.Rising.{filter_in, here, in_filter, in_map, in_none, map_in, there}
use Rattle.example_cell.specs.CellMeaning.{CellCertifies, cell_meaning, cell_word}
use Rattle.example_cell.proofs.Tidy.{at_head}
use Rattle.md_rule.specs.Admitted.{Admitted}
use Rattle.md_rule.specs.Entering.{MayBecomeReady}
use Rattle.md_rule.specs.Kept.{StoredNoneLeft}
use Rattle.md_rule.specs.Views.{Origin, PassState}
use Rattle.md_rule.proofs.Moves.{is_kept}
use Rattle.example_stalls.specs.Inserting.{Inserts, inserted}
use Rattle.example_stalls.specs.Stalled.{IsPut}
use Rattle.example_stalls.proofs.Inserted.{certificate, certifies}

or_false : (b : Bool) → (b || false) ≡ b
or_false true = refl
or_false false = refl

-- lists of writes that are all one write
module _ (x : Write) where
  abbrev AreIt : List Write → Type 0
  AreIt ws = (w : Write) → Contains ws w → w ≡ x

  all_are : (P : Write → Type 0) (ws : List Write) → AreIt ws → P x → All P ws
  all_are P ws are such k d within = subst P (sym (are (get_or ws k d) (Contains-get_or ws k d within))) such

  replaced_is : (ws : List Write) → AreIt ws → Contains ws x → content_replaced ws x.word ≡ Some x.old
  replaced_is [] are c = absurd (in_none x c)
  replaced_is (w ∷ ws) are c =
      let is = are w (here w ws) in
      ap (λ (y : Write). if y.word == x.word then Some y.old else content_replaced ws x.word) is
      ∙ cond-true (x.word == x.word) (Some x.old) (content_replaced ws x.word) (eq-eqb x.word x.word refl)

  written_is : (ws : List Write) → AreIt ws → Contains ws x → (word : ℕ) → is_written ws word ≡ (x.word == word)
  written_is [] are c word = absurd (in_none x c)
  written_is (w ∷ []) are c word = ap (λ (y : Write). (y.word == word) || false) (are w (here w [])) ∙ or_false (x.word == word)
  written_is (w ∷ (v ∷ vs)) are c word =
      let rest : AreIt (v ∷ vs) = λ y d. are y (there w (v ∷ vs) y d) in
      let first = rest v (here v vs) in
      ap (λ (y : Write). (y.word == word) || is_written (v ∷ vs) word) (are w (here w (v ∷ vs)))
      ∙ ap (λ b. (x.word == word) || b) (written_is (v ∷ vs) rest (subst (Contains (v ∷ vs)) first (here v vs)) word)
      ∙ twice (x.word == word)
    where
      twice : (b : Bool) → (b || b) ≡ b
      twice true = refl
      twice false = refl

-- the cell's word is the next word of no node
no_next_of : (shape : Shape) (node : ℕ) → IsNode shape node → cell_word shape ≡ address shape (node_next node) → ⊥
no_next_of shape node is e =
    let same : bucket_head 0 0 ≡ node_next node = sym (at_head shape) ∙ ap (place_at shape) e ∙ place_at-address shape (node_next node) is in cc

module _ (o : Origin) (desc from value : ℕ) (p : PassView) (x : Inserts o.shape desc from value p) where
  abbrev a : AttemptId
  a = attempt_of desc 0

  abbrev hand : Hand
  hand = inserted desc value

  abbrev cert : Certificate
  cert = certificate o desc p p from value x.none x.room

  abbrev write : Write
  write = record { slot = 0; word = cell_word o.shape; old = from; new = value + 1 }

  module _ (m : Machine) (ad : Admitted cell_meaning o m) (pass : ℕ) (acts : Acts m pass p) where
    kept : IsKept m
    kept = is_kept cell_meaning o m ad

    fits : HandFits (shape_of m) m.words p hand
    fits = kept.hands.fits pass p hand acts.at x.hand

    is_present : a ≡ present m desc
    is_present = ap (attempt_of desc) fits.present

    present_install : (i : Install) → i.attempt ≡ a → IsPresentIn (shape_of m) m.words i.attempt
    present_install i of = subst (IsPresentIn (shape_of m) m.words) (sym of) (ap (λ (y : AttemptId). y.serial) is_present)

    new_stands : word_at (shape_of m) m.words (slot_new desc 0) ≡ value + 1
    new_stands =
        let word = address o.shape (slot_new desc 0) in
        let exists : Exists o.shape (slot_new desc 0) = (x.put.exists, omega arith) in
        let there : place_at (shape_of m) word ≡ slot_new desc 0 = ap (λ (h : Shape). place_at h word) ad.shape ∙ place_at-address o.shape (slot_new desc 0) exists in
        ap (λ (h : Shape). content m (address h (slot_new desc 0))) ad.shape
        ∙ kept.stores pass p acts.at a (ap (λ (y : AttemptId). y.serial) is_present) word (value + 1) (subst (IsEntryWord desc) (sym there) refl) x.put.value

    -- an install of the attempt is the slot's
    same_write : (i : Install) → Contains m.installs i → i.attempt ≡ a → (b : AttemptId) (s : Step) → IsInstallOf b s i → IsPut o.shape desc from true s → write_now m i ≡ write
    same_write i made of b s is put =
        let old : i.old ≡ from = is.old ∙ put.does.0 in
        let exists = (kept.slots i made (present_install i of)).exists in
        let j : Install = record { attempt = a; slot = 0; word = cell_word o.shape; old = from } in
        let same : spot_of_install i ≡ spot_of_install j =
        sym (installed_spot i (subst (λ y. count_of y ≤ LAST_COUNT) (sym old) x.room) exists.1)
        ∙ ap (λ y. spot_of (value_of y)) (sym is.left ∙ put.does.1) ∙ installed_spot j x.room (omega arith) in
        let made_of : ℕ → ℕ → ℕ → ℕ → Write = λ s w old n. record { slot = s; word = w; old = old; new = n } in
        ap (λ (y : Spot). made_of y.slot i.word i.old (word_at (shape_of m) m.words (slot_new y.desc y.slot))) same
        ∙ ap (λ w. made_of 0 w i.old (word_at (shape_of m) m.words (slot_new desc 0))) (is.there ∙ put.there)
        ∙ ap (λ old. made_of 0 (cell_word o.shape) old (word_at (shape_of m) m.words (slot_new desc 0))) old
        ∙ ap (λ n. made_of 0 (cell_word o.shape) from n) new_stands

    abbrev writes : List Write
    writes = writes_now m a

    are_it : (w : Write) → Contains writes w → w ≡ write
    are_it w c =
        let found = in_map (write_now m) (installs_by m.installs a) w c in
        let i = found.0 in
        let inside = in_filter (λ (y : Install). same_attempt y.attempt a) m.installs i found.1 in
        let parts = same_parts i.attempt a inside.1 in
        let of = attempt_same i.attempt a parts.0 parts.1 in
        let won = kept.own_installs i inside.0 (present_install i of) pass p acts.at (subst (λ (y : AttemptId). HasDesc (shape_of m) p y.desc) (sym of) fits.own) in
        sym found.2 ∙ same_write i inside.0 of i.attempt won.2.0 won.2.2.1 (x.put.only won.0 won.1 won.2.0 won.2.1 (subst (λ y. WonInstall y won.2.0) of won.2.2.0))

    has_it : Contains writes write
    has_it =
        let put = x.put.some in
        let made = kept.won_installs pass p acts.at put.0 put.1 put.2.0 put.2.1 a put.2.2.0 in
        let i = made.0 in
        let of = made.2.attempt in
        let in_it = filter_in (λ (y : Install). same_attempt y.attempt a) m.installs i made.1
        (same_from i.attempt a (ap (λ (y : AttemptId). y.desc) of) (ap (λ (y : AttemptId). y.serial) of)) in
        subst (Contains writes) (same_write i made.1 of a put.2.0 made.2 put.2.2.1) (map_in (write_now m) (installs_by m.installs a) i in_it)

    first_is : first_content [] writes (cell_word o.shape) ≡ Some from
    first_is = replaced_is write writes are_it has_it

    certified_in : (h : LogicalHeap) → h.words.shape ≡ o.shape → CertifiedIn [] writes (cert ∷ []) h
    certified_in h shape =
        let own = as_found [] writes h in
        let value_is : own.words.value (cell_word o.shape) ≡ 0 = ap (λ f. unwrap_or (option_map value_of f) (h.words.value (cell_word o.shape))) first_is ∙ x.none in
        record {
          stand = (tt, record { recorded = All-nil _; old = All-cons (λ (c : Change). own.words.value c.word ≡ c.old) (record { word = cell_word o.shape; old = 0; new = value + 1 }) [] value_is (All-nil _); facts = All-nil _; fresh = All-nil _ }, tt);
          words = All-nil _;
          last = all_are write (λ w. (after_wholes own (cert ∷ [])).words.value w.word ≡ w.new) writes are_it
              (cond-true _ (value + 1) (own.words.value (cell_word o.shape)) (eq-eqb (cell_word o.shape) (cell_word o.shape) refl));
          rooted = all_are write (λ w. (node : ℕ) → IsNode h.words.shape node → w.word ≡ address h.words.shape (node_next node) → IsPlaced (after_wholes h (cert ∷ [])) node) writes are_it
              (λ node is e. absurd (no_next_of o.shape node (subst (λ s. IsNode s node) shape is) (e ∙ ap (λ s. address s (node_next node)) shape)));
        }

    abbrev have_tidies : Certificate → Type 0
    have_tidies c = All (cell_meaning.tidies (shape_of m)) c.tidy

    certified : IsCertified cell_meaning m p hand (cert ∷ []) [] writes
    certified = record {
      acts = refl;
      certifies = All-cons (cell_meaning.certifies (shape_of m)) cert [] (subst (λ s. CellCertifies s cert) (sym ad.shape) (certifies o desc p p from value x.none x.room)) (All-nil (cell_meaning.certifies (shape_of m)));
      tidies = All-cons have_tidies cert [] (All-nil (cell_meaning.tidies (shape_of m))) (All-nil have_tidies);
      read = All-nil _;
      replaced = all_are write (λ w. first_content [] writes w.word ≡ Some w.old) writes are_it first_is;
      recorded = All-cons (RecordsFound [] writes) cert [] (All-nil (λ (r : WordValue). is_some (first_content [] writes r.word) ≡ true)) (All-nil (RecordsFound [] writes));
      exactly = λ word. written_is write writes are_it has_it word ∙ sym (or_false (cell_word o.shape == word));
      nodes = All-nil _;
      stored = All-nil _;
      differ = λ i j d less within. absurd (let w : j < 0 = within in let no : ⊥ = omega (arith, w) in no);
      chain = λ choice r. certified_in _ ad.shape;
    }

    may_be_ready : MayReady cell_meaning m p hand (cert ∷ []) 0
    may_be_ready = record {
      held = x.hand;
      own = fits.own;
      few = omega arith;
      stored = λ i below. absurd (let no : ⊥ = omega (arith, below) in no);
      recorded = All-nil _;
      installed = all_are write (λ w. SomeStepOf p (InstallsFor a w)) writes are_it (
        x.put.some.0,
        x.put.some.1,
        (
          x.put.some.2.0,
          x.put.some.2.1,
          record {
            kind = x.put.some.2.2.0.kind;
            attempt = x.put.some.2.2.0.attempt;
            won = x.put.some.2.2.0.won;
            left = record { there = x.put.some.2.2.1.there; after = x.put.some.2.2.1.does.1 };
          },
        ),
      );
      certified = λ won. certified;
    }

  pub may_enter : MayBecomeReady cell_meaning o (λ cs. Unit {0}) 0 p
  may_enter m ad pass acts = (hand, cert ∷ [], tt, may_be_ready m ad pass acts)

-- it stored to no node
pub stored_none : (q : PassState) (desc from value : ℕ) → Inserts q.shape desc from value q.view → StoredNoneLeft q
stored_none q desc from value x node left h held (segment, c, (s, i, stores)) =
    let of : h.attempt ≡ attempt_of desc 0 = ap (λ (y : Hand). y.attempt) (some_same h (inserted desc value) (sym held ∙ x.hand)) in
    x.put.nodes segment c s i node (own_node_exists q.shape left.0 node left.2) (subst (λ y. StoresFor y (address q.shape (node_next node)) s) of stores)
