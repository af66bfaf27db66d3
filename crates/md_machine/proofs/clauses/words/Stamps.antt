-- Each count of a word has one content: what was noted of a word is kept by every event.
use Rattle.std.proofs.Common.{◌≡◌, ℕ, ◌<◌, ◌≤◌, ◌&&◌, cond, eqb, List, set, get_or, refl, sym, ap, ◌∙◌, subst, ⊎_elim, le_trans, le_of_eq, eq-eqb, get_or-set_same, get_or-set_other, arith}
use Rattle.std.specs.List.{Contains}
use Rattle.std.proofs.lemmas.Bool.{cond_both, cond-true, and_parts, and_from, eqb-true, cases_eq}
use Rattle.md_words.specs.Content.{count_of}
use Rattle.md_words.specs.Layout.{words_of}
use Rattle.md_words.specs.LayoutLaws.{IsField}
use Rattle.md_words.specs.PlaceAt.{IsCounted}
use Rattle.md_machine.specs.declared.attempt.HistoryEntry.{HistoryEntry}
use Rattle.md_machine.specs.declared.attempt.Read.{Read}
use Rattle.md_machine.specs.declared.step.Step.{Step}
use Rattle.md_machine.proofs.events.MoveFacts.{MoveFacts, WasMet, reads_met}
use Rattle.md_machine.proofs.events.Steps.{HasStep, adds_step}
use Rattle.md_machine.proofs.events.WordChanges.{MayLeave, at_counted, counts_rise}
use Rattle.md_machine.specs.Machine.{Install, Machine, content, shape_of}
use Rattle.md_machine.specs.clauses.words.Stamps.{IsNoted, NotedByRead, NotedByTrail, StampsHold}

-- the content that a word had with a count
abbrev pub Stamp : Type 0
Stamp = ℕ → ℕ → ℕ

-- a content is the one that its count had, and the word has that count or a later one
pub record Stamped (words : List ℕ) (stamp : Stamp) (word held : ℕ) : Type 0 where
  pub bound : count_of held ≤ count_of (get_or words word 0)
  pub is : stamp word (count_of held) ≡ held

-- the content of each counted word, and all that trails, slots and entries noted
pub record StampsKept (m : Machine) (stamp : Stamp) : Type 0 where
  pub now : (word : ℕ) → IsCounted (shape_of m) word → Stamped m.words stamp word (content m word)
  pub before : (t : Step) → HasStep m.passes t → IsCounted (shape_of m) t.word → Stamped m.words stamp t.word t.before
  pub after : (t : Step) → HasStep m.passes t → IsCounted (shape_of m) t.word → Stamped m.words stamp t.word t.after
  pub installs : (i : Install) → Contains m.installs i → IsCounted (shape_of m) i.word × Stamped m.words stamp i.word i.old
  pub reads : (e : HistoryEntry) (r : Read) → Contains m.history e → Contains e.reads r → IsCounted (shape_of m) r.word × Stamped m.words stamp r.word r.content

-- two contents with one stamp are equal
pub same_stamp : (words : List ℕ) (stamp : Stamp) (word held other : ℕ) → Stamped words stamp word held → Stamped words stamp word other → count_of held ≡ count_of other → held ≡ other
same_stamp words stamp word held other a b e = sym a.is ∙ ap (stamp word) e ∙ b.is

-- the stamps after a word was left with this content
abbrev pub stamp_more : Stamp → (word new : ℕ) → Stamp
stamp_more stamp word new w count = cond (eqb w word && eqb count (count_of new)) new (stamp w count)

module _ (m : Machine) (field : IsField (shape_of m) m.words) (word new : ℕ) (stamp : Stamp) where
  -- what was stamped still is
  pub stamped_kept : MayLeave (Unit {0}) m word new → ((w : ℕ) → IsCounted (shape_of m) w → Stamped m.words stamp w (get_or m.words w 0)) → (w held : ℕ) → IsCounted (shape_of m) w → Stamped m.words stamp w held
      → Stamped (set m.words word new) (stamp_more stamp word new) w held
  stamped_kept left now w held counted s = record {
    bound = le_trans s.bound (counts_rise (Unit {0}) m field word new left w counted);
    is = cond_both (eqb w word && eqb (count_of held) (count_of new)) new (stamp w (count_of held)) (λ x. x ≡ held)
        (λ both. let parts = and_parts _ _ both in
        let here = eqb-true w word parts.0 in let same = eqb-true (count_of held) (count_of new) parts.1 in
        ⊎_elim
        (λ stays. let was = stays ∙ ap (λ v. get_or m.words v 0) (sym here) in
        was ∙ sym (same_stamp m.words stamp w held (get_or m.words w 0) s (now w counted) (same ∙ ap count_of was)))
        (λ c. let rises = (at_counted (Unit {0}) m field word new w counted c here).more in
        let old = ap (λ v. count_of (get_or m.words v 0)) here in let bound = s.bound in absurd (omega (arith, rises, old, bound, same)))
        left)
        (λ _. s.is);
  }

  -- what is left is stamped
  pub stamped_new : word < words_of (shape_of m) → Stamped (set m.words word new) (stamp_more stamp word new) word new
  stamped_new inside = record {
    bound = le_of_eq (sym (ap count_of (get_or-set_same m.words word new 0 (omega (arith, inside, field)))));
    is = cond-true (eqb word word && eqb (count_of new) (count_of new)) new _ (and_from _ _ (eq-eqb word word refl) (eq-eqb (count_of new) (count_of new) refl));
  }

  pub stamped_now : MayLeave (Unit {0}) m word new → ((w : ℕ) → IsCounted (shape_of m) w → Stamped m.words stamp w (get_or m.words w 0)) → (w : ℕ) → IsCounted (shape_of m) w
      → Stamped (set m.words word new) (stamp_more stamp word new) w (get_or (set m.words word new) w 0)
  stamped_now left now w counted = ⊎_elim
      (λ e. let inside : word < words_of (shape_of m) = subst (λ v. v < words_of (shape_of m)) e counted.0 in
      subst (λ v. Stamped (set m.words word new) (stamp_more stamp word new) v (get_or (set m.words word new) v 0)) (sym e)
      (subst (λ x. Stamped (set m.words word new) (stamp_more stamp word new) word x) (sym (get_or-set_same m.words word new 0 (omega (arith, inside, field)))) (stamped_new inside)))
      (λ other. subst (λ x. Stamped (set m.words word new) (stamp_more stamp word new) w x) (sym (get_or-set_other m.words word w new 0 other)) (stamped_kept left now w _ counted (now w counted)))
      (cases_eq w word)

-- what a pass met is stamped
pub met_stamped : (m : Machine) (stamp : Stamp) (k : StampsKept m stamp) (r : Read) → WasMet m r → Stamped m.words stamp r.word r.content
met_stamped m stamp k r h =
    let counted : IsCounted (shape_of m) h.step.word = subst (IsCounted (shape_of m)) (sym h.there) h.counted in
    ⊎_elim
    (λ b. subst (λ w. Stamped m.words stamp w r.content) h.there (subst (Stamped m.words stamp h.step.word) b (k.before h.step h.has counted)))
    (λ a. subst (λ w. Stamped m.words stamp w r.content) h.there (subst (Stamped m.words stamp h.step.word) a (k.after h.step h.has counted)))
    h.met

-- every event keeps the stamps
pub stamps-kept : (m n : Machine) (stamp : Stamp) → IsField (shape_of m) m.words → StampsKept m stamp → (v : MoveFacts m n) → n.words ≡ set m.words v.word v.new → n.opening ≡ m.opening
    → StampsKept (record n { words = set m.words v.word v.new; opening = m.opening }) (stamp_more stamp v.word v.new)
stamps-kept m n stamp field k v words opening =
    let later = set m.words v.word v.new in
    let more = stamp_more stamp v.word v.new in
    let kept : (w held : ℕ) → IsCounted (shape_of m) w → Stamped m.words stamp w held → Stamped later more w held = stamped_kept m field v.word v.new stamp v.left k.now in
    record {
      now = stamped_now m field v.word v.new stamp v.left k.now;
      before = λ t has counted. ⊎_elim
          (λ was. kept t.word t.before counted (k.before t was counted))
          (λ same. let here = ap (λ (s : Step). s.word) (sym same) ∙ v.there in let is = ap (λ (s : Step). s.before) (sym same) ∙ v.before in
          let old = k.now t.word counted in
          kept t.word t.before counted (subst (Stamped m.words stamp t.word) (sym (is ∙ ap (λ w. get_or m.words w 0) (sym here))) old))
          (adds_step m.passes n.passes v.step v.from t has);
      after = λ t has counted. ⊎_elim
          (λ was. kept t.word t.after counted (k.after t was counted))
          (λ same. let here = ap (λ (s : Step). s.word) (sym same) ∙ v.there in let is = ap (λ (s : Step). s.after) (sym same) ∙ v.after in
          subst (Stamped later more t.word) (sym is) (subst (λ w. Stamped later more w v.new) (sym here) (stamped_new m field v.word v.new stamp (subst (λ w. w < words_of (shape_of m)) here counted.0))))
          (adds_step m.passes n.passes v.step v.from t has);
      installs = λ i c. ⊎_elim
          (λ was. let s = k.installs i was in (s.0, kept i.word i.old s.0 s.1))
          (λ h. (h.counted, kept i.word i.old h.counted (subst (Stamped m.words stamp i.word) (sym (h.old ∙ ap (λ w. get_or m.words w 0) (sym h.there))) (k.now i.word h.counted))))
          (v.installs i c);
      reads = λ e r c of. ⊎_elim
          (λ was. let s = k.reads e r was of in (s.0, kept r.word r.content s.0 s.1))
          (λ h. (h.counted, kept r.word r.content h.counted (met_stamped m stamp k r h)))
          (reads_met m n v e r c of);
    }

-- what a trail has is stamped
pub trail_stamped : (m : Machine) (stamp : Stamp) → StampsKept m stamp → (word held : ℕ) → IsCounted (shape_of m) word → NotedByTrail m word held
    → Stamped m.words stamp word held
trail_stamped m stamp k word held counted (pass, p, at, (segment, c, (s, i, meets))) =
    let has : HasStep m.passes s = (pass, p, at, (segment, c, i)) in
    ⊎_elim
    (λ found. let there : IsCounted (shape_of m) s.word = subst (IsCounted (shape_of m)) (sym found.there) counted in
    subst (λ w. Stamped m.words stamp w held) found.there (subst (Stamped m.words stamp s.word) found.before (k.before s has there)))
    (λ left. let there : IsCounted (shape_of m) s.word = subst (IsCounted (shape_of m)) (sym left.there) counted in
    subst (λ w. Stamped m.words stamp w held) left.there (subst (Stamped m.words stamp s.word) left.after (k.after s has there)))
    meets

-- what is noted is stamped, where that is so of what a status counts
pub stamps_hold : (m : Machine) (stamp : Stamp) → StampsKept m stamp → ((word held : ℕ) → NotedByRead m word held → Stamped m.words stamp word held) → StampsHold m
stamps_hold m stamp k reads =
    let noted : (word held : ℕ) → IsCounted (shape_of m) word → IsNoted m word held → Stamped m.words stamp word held = λ word held counted n. ⊎_elim
    (trail_stamped m stamp k word held counted)
    (λ o. ⊎_elim (reads word held) (λ i. subst (λ w. Stamped m.words stamp w held) i.3 (subst (Stamped m.words stamp i.0.word) i.4 (k.installs i.0 i.1).1)) o)
    n in record {
      bound = λ word held counted n. (noted word held counted n).bound;
      now = λ word held counted n. same_stamp m.words stamp word held (content m word) (noted word held counted n) (k.now word counted);
      same = λ word held other counted a b. same_stamp m.words stamp word held other (noted word held counted a) (noted word other counted b);
    }
