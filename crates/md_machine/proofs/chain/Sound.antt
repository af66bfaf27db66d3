-- What a sound attempt found of the words that it recorded and changed is what they stand for when it becomes ready.
use Rattle.std.proofs.Common.{◌≡◌, ◌==◌, ◌+◌, ◌⊎◌, ℕ, Bool, true, false, not, cond, List, [], ◌∷◌, map, refl, sym, ap, ◌∙◌, subst, inl, inr, ⊎_elim, eqb-true, Option, Some, None, arith}
use Rattle.std.specs.List.{Contains, All, list_all, range_with_len}
use Rattle.std.proofs.lemmas.Bool.{cond_both, and_parts, or_cases, false≢true, true≢false}
use Rattle.std.proofs.lemmas.List.Elements.{All-contains, All-nil, All-cons, All-head, All-tail}
use Rattle.md_words.specs.declared.content.Spot.{Spot}
use Rattle.md_words.specs.Content.{value_of, count_of, is_even, spot_value}
use Rattle.md_words.specs.Status.{serial_of}
use Rattle.md_words.specs.Place.{slot_old, slot_new}
use Rattle.md_words.specs.PlaceAt.{IsCounted}
use Rattle.md_words.proofs.Words.{is_even-zero, zero_is_empty, count_of-counted_word}
use Rattle.md_machine.specs.declared.attempt.AttemptId.{AttemptId}
use Rattle.md_machine.specs.declared.attempt.Read.{Read}
use Rattle.md_machine.specs.declared.pass.PassView.{PassView}
use Rattle.md_machine.specs.Machine.{Machine, Install, shape_of, content, status_at, word_at, present, attempt_of, is_ready, IsAt}
use Rattle.md_machine.specs.Resolution.{or_else, logical_value, logical_heap, value_under}
use Rattle.md_machine.specs.Trail.{read_stands}
use Rattle.md_machine.specs.Installs.{spot_of_install}
use Rattle.md_machine.specs.clauses.words.Formats.{AreFormats}
use Rattle.md_machine.specs.clauses.words.Stamps.{StampsHold, NotedByTrail}
use Rattle.md_machine.specs.events.Ready.{MayRecord, read_now, reads_now, write_now, writes_now, installs_by}
use Rattle.md_machine.specs.Certified.{content_read, content_replaced}
use Rattle.md_machine.proofs.lists.Options.{some_same}
use Rattle.md_machine.proofs.lists.Rising.{here, there}
use Rattle.md_machine.proofs.events.Attempts.{attempt_same}
use Rattle.md_machine.proofs.chain.Entry.{FoundStands}
use Rattle.md_machine.proofs.chain.Values.{value_even, value_odd, unready_kept}
use Rattle.md_machine.proofs.chain.Ready.{BeforeReady, serial_is, own_present, own_stands, own_odd, own_installs, spot_at}

-- a read whose recorded content was found by a pass, and which stands now
pub record ReadHolds (m : Machine) (desc : ℕ) (r : Read) : Type 0 where
  pub counted : IsCounted (shape_of m) r.word
  pub even : is_even (count_of r.content) ≡ true
  pub met : NotedByTrail m r.word r.content
  pub stands : read_stands desc r.content (content m r.word) ≡ true

-- the reads of a sound attempt do so
reads_hold : (m : Machine) (pass : ℕ) (p : PassView) → IsAt m pass p → (desc : ℕ) (numbers : List ℕ) → All (MayRecord m p) (map (read_now m desc) numbers) → list_all (λ r. r.stood) (map (read_now m desc) numbers) ≡ true
    → All (ReadHolds m desc) (map (read_now m desc) numbers)
reads_hold m pass p at desc [] may stood = All-nil (ReadHolds m desc)
reads_hold m pass p at desc (i ∷ numbers) may stood =
    let first = All-head (MayRecord m p) (read_now m desc i) (map (read_now m desc) numbers) may in
    let parts = and_parts _ _ stood in
    All-cons (ReadHolds m desc) (read_now m desc i) (map (read_now m desc) numbers)
    (record { counted = first.counted; even = first.even; met = (pass, p, at, first.met); stands = parts.0 })
    (reads_hold m pass p at desc numbers (All-tail (MayRecord m p) (read_now m desc i) (map (read_now m desc) numbers) may) parts.1)

pub sound_reads : (m : Machine) (pass : ℕ) (p : PassView) → IsAt m pass p → (desc count : ℕ) → All (MayRecord m p) (reads_now m desc count) → list_all (λ r. r.stood) (reads_now m desc count) ≡ true → All (ReadHolds m desc) (reads_now m desc count)
sound_reads m pass p at desc count = reads_hold m pass p at desc (range_with_len 0 count)

no_content : (held : ℕ) → (let o : Option ℕ = None in o) ≡ Some held → ⊥
no_content held e = cc

-- a content that was recorded is that of a read, and one that was replaced that of a slot
read_in : (reads : List Read) (word held : ℕ) → content_read reads word ≡ Some held → (r : Read) × Contains reads r × (r.word ≡ word) × (r.content ≡ held)
read_in [] word held e = absurd (no_content held e)
read_in (r ∷ reads) word held e = cond_both (r.word == word) (Some r.content) (content_read reads word) (λ o. o ≡ Some held → (x : Read) × Contains (r ∷ reads) x × (x.word ≡ word) × (x.content ≡ held))
    (λ t is. (r, here r reads, eqb-true r.word word t, some_same r.content held is))
    (λ _ is. let x = read_in reads word held is in (x.0, there r reads x.0 x.1, x.2, x.3))
    e

replaced_in : (m : Machine) (is : List Install) (word held : ℕ) → content_replaced (map (write_now m) is) word ≡ Some held → (i : Install) × Contains is i × (i.word ≡ word) × (i.old ≡ held)
replaced_in m [] word held e = absurd (no_content held e)
replaced_in m (i ∷ is) word held e = cond_both (i.word == word) (Some i.old) (content_replaced (map (write_now m) is) word) (λ o. o ≡ Some held → (x : Install) × Contains (i ∷ is) x × (x.word ≡ word) × (x.old ≡ held))
    (λ t same. (i, here i is, eqb-true i.word word t, some_same i.old held same))
    (λ _ same. let x = replaced_in m is word held same in (x.0, there i is x.0 x.1, x.2, x.3))
    e

else_cases : (o p : Option ℕ) (held : ℕ) → or_else o p ≡ Some held → (o ≡ Some held) ⊎ (p ≡ Some held)
else_cases None p held e = inr e
else_cases (Some x) p held e = inl e

is_odd : (b : Bool) → not b ≡ true → b ≡ false
is_odd true h = absurd (false≢true h)
is_odd false h = refl

module _ (m : Machine) (a : AttemptId) (u : BeforeReady m a) (formats : AreFormats (shape_of m) m.words) (stamps : StampsHold m) (choice : List Bool) where
  -- an own install's word stands for its old content
  own_value : (i : Install) → Contains m.installs i → i.attempt ≡ a → IsCounted (shape_of m) i.word → logical_value m choice i.word ≡ value_of i.old
  own_value i c mine counted =
      let now = own_present m a u i mine in
      let slot = (u.installs.fits i c).slot now in
      let none = unready_kept m.history choice (present m i.attempt.desc) (ap (is_ready m.history) (sym (ap (attempt_of i.attempt.desc) now) ∙ mine) ∙ u.idle) in
      value_odd m choice i.word counted (own_odd m a u i c mine)
      ∙ ap (value_under m choice) (spot_at m a u i c now i.word (own_stands m a u i c mine))
      ∙ ap (λ b. cond b (word_at (shape_of m) m.words (slot_new i.attempt.desc i.slot)) (value_of (word_at (shape_of m) m.words (slot_old i.attempt.desc i.slot)))) none
      ∙ ap value_of slot.old

  -- its word is a counted one: its slot names one, or word 0, which has an even count
  own_counted : (i : Install) → Contains m.installs i → i.attempt ≡ a → IsCounted (shape_of m) i.word
  own_counted i c mine =
      let slot = (u.installs.fits i c).slot (own_present m a u i mine) in
      ⊎_elim
      (λ none. absurd (true≢false (sym is_even-zero ∙ ap is_even (sym zero_is_empty.1) ∙ ap (λ x. is_even (count_of x)) (sym formats.base ∙ ap (content m) (sym none ∙ slot.word)) ∙ own_odd m a u i c mine)))
      (λ counted. subst (IsCounted (shape_of m)) slot.word counted)
      (formats.slots i.attempt.desc i.slot slot.exists)

  -- a read that stands recorded what its word stands for
  read_value : (r : Read) → ReadHolds m a.desc r → value_of r.content ≡ logical_value m choice r.word
  read_value r h = ⊎_elim
      (λ same. let is = eqb-true (content m r.word) r.content same in
      sym (value_even m choice r.word h.counted (ap (λ x. is_even (count_of x)) is ∙ h.even) ∙ ap value_of is))
      (λ own.
      let parts = and_parts _ _ own in
      let holds = and_parts _ _ parts.0 in
      let s = u.odd_words r.word h.counted (is_odd (is_even (count_of (content m r.word))) holds.0) in
      let i = s.install in
      let fits = u.installs.fits i s.made in
      let desc : i.attempt.desc ≡ a.desc = ap (λ (x : Spot). x.desc) (sym (spot_at m a u i s.made s.present r.word s.holds)) ∙ eqb-true _ a.desc holds.1 in
      let mine : i.attempt ≡ a = attempt_same i.attempt a desc (s.present ∙ ap (λ d. serial_of (status_at m d)) desc ∙ serial_is m a u) in
      let more = eqb-true (count_of (content m r.word)) (count_of r.content + 1) parts.1 in
      let room = fits.room in
      let left = ap count_of s.holds ∙ count_of-counted_word (spot_value (spot_of_install i)) (count_of i.old + 1) (omega (arith, room)) in
      let old : i.old ≡ r.content = stamps.same r.word i.old r.content h.counted
      (inr (inr (i, s.made, s.present, s.there, refl))) (inl h.met) (omega (arith, left, more)) in
      ap value_of (sym old) ∙ sym (own_value i s.made mine (subst (IsCounted (shape_of m)) (sym s.there) h.counted)) ∙ ap (logical_value m choice) s.there)
      (or_cases _ _ h.stands)

  -- so all that it found stands
  pub found_stands : (reads : List Read) → All (ReadHolds m a.desc) reads → FoundStands reads (writes_now m a) (logical_heap m choice)
  found_stands reads holds word held is = ⊎_elim
      (λ e. let x = read_in reads word held e in ap value_of (sym x.3) ∙ read_value x.0 (All-contains (ReadHolds m a.desc) reads x.0 holds x.1) ∙ ap (logical_value m choice) x.2)
      (λ e.
      let x = replaced_in m (installs_by m.installs a) word held e in
      let mine = own_installs m a u x.0 x.1 in
      ap value_of (sym x.3) ∙ sym (own_value x.0 mine.0 mine.1 (own_counted x.0 mine.0 mine.1)) ∙ ap (logical_value m choice) x.2)
      (else_cases (content_read reads word) (content_replaced (writes_now m a) word) held is)
