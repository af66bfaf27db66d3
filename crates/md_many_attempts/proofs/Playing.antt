-- One attempt more at a caller's lines.
use Rattle.std.proofs.Common.{◌≡◌, ◌≤◌, ◌+◌, ℕ, suc, cond, Some, List, [], ◌∷◌, ◌++◌, length, refl, sym, ap, subst, ◌∙◌, append_assoc, arith, inl, inr}
use Rattle.std.specs.Prelude.{◌==◌}
use Rattle.std.proofs.lemmas.Bool.{cases_Bool}
use Rattle.std.proofs.lemmas.List.{append-nil, length-append}
use Rattle.std.proofs.lemmas.List.Elements.{filter-append}
use Rattle.md_history.specs.declared.acts.Act.{Act}
use Rattle.md_history.specs.declared.entries.Entry.{Entry}
use Rattle.md_history.specs.declared.entries.Fate.{Fate}
use Rattle.md_history.specs.declared.entries.Fate.TheVariants.{Committed, Aborted}
use Rattle.md_history.specs.Front.{Front, BeginsOn, of_lane}
use Rattle.md_history.specs.OwnLaws.{committed_pairs}
use Rattle.md_history.specs.FrontLaws.{begins-self, begins-trans}
use Rattle.md_history.specs.Attempt.{Commits, Stops, NoneOrAborted}
use Rattle.md_many_attempts.specs.Tags.{tag_of}
use Rattle.md_many_attempts.specs.Joined.{HasCommitted, entries_after}
use Rattle.md_many_attempts.specs.Meaning.{Meaning}
use Rattle.md_many_attempts.specs.Lines.{IsLine, AreLines, PlaysLines}
use Rattle.md_many_attempts.proofs.Joining.{AreDecided, entries-more, entries-none, committed_pairs-append, decided-append}

-- an entry more in its lane, and in no other
mine-push : (own es : List Entry) (e : Entry) (lane : ℕ)
    → cond (lane == e.lane) ((own ++ of_lane lane es) ++ e ∷ []) (own ++ of_lane lane es)
    ≡ own ++ of_lane lane (es ++ e ∷ [])
mine-push own es e lane =
    elim (cases_Bool (lane == e.lane)) [
      | inl same ↦ rw same (append_assoc own (of_lane lane es) (e ∷ [])
          ∙ ap (λ xs. own ++ xs)
          (sym (filter-append (λ (d : Entry). lane == d.lane) es (e ∷ [])
          ∙ ap (λ b. of_lane lane es ++ cond b (e ∷ []) []) same)))
      | inr other ↦ rw other
          (ap (λ xs. own ++ xs)
          (sym (filter-append (λ (d : Entry). lane == d.lane) es (e ∷ [])
          ∙ ap (λ b. of_lane lane es ++ cond b (e ∷ []) []) other ∙ append-nil (of_lane lane es))))
    ]

-- what an attempt that stopped added is decided, and none of it is committed
aborted-decided : (tag : ℕ) (ps : List (Entry × Fate)) → NoneOrAborted tag ps → AreDecided ps
aborted-decided tag [] h = tt
aborted-decided tag (p ∷ []) h = ((λ e. cc (sym h.1 ∙ e)), tt)
aborted-decided tag (p ∷ q ∷ ps) h = absurd h

aborted-none : (e : Entry) (f : Fate) → f ≡ Aborted → committed_pairs ((e, f) ∷ []) ≡ []
unfolding committed_pairs
aborted-none e f h = rw h refl

none-committed : (tag : ℕ) (ps : List (Entry × Fate)) → NoneOrAborted tag ps → committed_pairs ps ≡ []
unfolding committed_pairs
none-committed tag [] h = refl
none-committed tag (p ∷ []) h = aborted-none p.0 p.1 h.1
none-committed tag (p ∷ q ∷ ps) h = absurd h

aborted-few : (tag : ℕ) (ps : List (Entry × Fate)) → NoneOrAborted tag ps → length ps ≤ 1
aborted-few tag [] h = omega arith
aborted-few tag (p ∷ []) h = omega arith
aborted-few tag (p ∷ q ∷ ps) h = absurd h

-- the pass has made so many attempts since a front, and holds what it held
pub record HasAttempted (tried : ℕ) (old new : Front) : Type 0 where
  pub lanes : new.lanes ≡ old.lanes
  pub pending : new.pending ≡ old.pending
  pub few : length (entries_after (length old.seen) old.lanes new) ≤ tried

pub attempted-none : (f : Front) → HasAttempted 0 f f
attempted-none f = record { lanes = refl; pending = refl; few = omega (arith, ap length (entries-none f.lanes f.seen f.known)) }

-- nothing is committed yet
committed-none : (f : Front) → HasCommitted f.lanes [] f f
unfolding committed_pairs
committed-none f = record {
  begins = begins-self f;
  joined = ap committed_pairs (entries-none f.lanes f.seen f.known);
  decided = subst AreDecided (sym (entries-none f.lanes f.seen f.known)) tt;
  mine = λ lane in_lanes. sym (append-nil (f.mine lane));
}

module _ (tried : ℕ) (es : List Entry) (f g h : Front) (a : HasAttempted tried f g) (o : HasCommitted f.lanes es f g)
    (fated : length g.known ≡ length g.seen) where
  -- what joined in one more attempt follows what had joined
  joined-more : (ps : List (Entry × Fate)) → BeginsOn g.lanes g h → entries_after (length g.seen) g.lanes h ≡ ps
      → entries_after (length f.seen) f.lanes h ≡ entries_after (length f.seen) f.lanes g ++ ps
  joined-more ps begins is =
      let before : length g.seen ≡ length f.seen + length o.begins.seen.rest =
      ap length o.begins.seen.is ∙ length-append f.seen o.begins.seen.rest in
      entries-more (length f.seen) f.lanes g h fated begins.seen begins.known (omega arith) o.decided
      ∙ ap (λ qs. entries_after (length f.seen) f.lanes g ++ qs)
      (ap (λ ls. entries_after (length g.seen) ls h) (sym a.lanes) ∙ is)

  -- an attempt stopped
  attempted-stopped : (tag : ℕ) → Stops tag g h → HasAttempted (suc tried) f h × HasCommitted f.lanes es f h
  attempted-stopped tag s =
      let ps = entries_after (length g.seen) h.lanes h in
      let is = joined-more ps s.begins (ap (λ ls. entries_after (length g.seen) ls h) (sym s.lanes)) in (
        record {
          lanes = s.lanes ∙ a.lanes;
          pending = s.pending ∙ a.pending;
          few = omega (
            arith,
            ap length is,
            length-append (entries_after (length f.seen) f.lanes g) ps,
            aborted-few tag ps s.own,
            a.few,
          );
        },
        record {
          begins = begins-trans f g h o.begins (subst (λ ls. BeginsOn ls g h) a.lanes s.begins);
          joined = ap committed_pairs is ∙ committed_pairs-append (entries_after (length f.seen) f.lanes g) ps
              ∙ ap (λ qs. committed_pairs (entries_after (length f.seen) f.lanes g) ++ qs)
              (none-committed tag ps s.own) ∙ append-nil (committed_pairs (entries_after (length f.seen) f.lanes g))
              ∙ o.joined;
          decided = subst AreDecided (sym is)
              (decided-append (entries_after (length f.seen) f.lanes g) ps o.decided (aborted-decided tag ps s.own));
          mine = λ lane in_lanes. s.mine lane ∙ o.mine lane in_lanes;
        },
      )

  -- an attempt was committed
  attempted-more : {R : Type 0} (did : List Act → R → Type 0) (tag : ℕ) (r : R) (s : Commits did tag r g h)
      → HasAttempted (suc tried) f h × HasCommitted f.lanes (es ++ s.entry ∷ []) f h
  unfolding committed_pairs
  attempted-more did tag r s =
      let ps : List (Entry × Fate) = (s.entry, Committed) ∷ [] in
      let is = joined-more ps s.begins (ap (λ ls. entries_after (length g.seen) ls h) (sym s.lanes) ∙ s.own) in (
        record {
          lanes = s.lanes ∙ a.lanes;
          pending = s.pending ∙ a.pending;
          few = omega (arith, ap length is, length-append (entries_after (length f.seen) f.lanes g) ps, a.few);
        },
        record {
          begins = begins-trans f g h o.begins (subst (λ ls. BeginsOn ls g h) a.lanes s.begins);
          joined = ap committed_pairs is ∙ committed_pairs-append (entries_after (length f.seen) f.lanes g) ps
              ∙ ap (λ xs. xs ++ s.entry ∷ []) o.joined;
          decided = subst AreDecided (sym is)
              (decided-append (entries_after (length f.seen) f.lanes g) ps o.decided ((λ e. cc e), tt));
          mine = λ lane in_lanes. s.mine lane
              ∙ ap (λ xs. cond (lane == s.entry.lane) (xs ++ s.entry ∷ []) xs) (o.mine lane in_lanes)
              ∙ mine-push (f.mine lane) es s.entry lane;
        },
      )

-- one line more
pub lines-push : {B R : Type 0} (m : Meaning B R) (caller n line : ℕ) (es : List Entry) (rs : List R) (e : Entry) (r : R)
    → AreLines m caller es rs n → line ≡ n + length rs + 1 → IsLine m caller line e r
    → AreLines m caller (es ++ e ∷ []) (rs ++ r ∷ []) n
lines-push m caller n line [] [] e r lines at is = (subst (λ k. IsLine m caller k e r) (at ∙ omega arith) is, tt)
lines-push m caller n line [] (s ∷ rs) e r lines at is = absurd lines
lines-push m caller n line (d ∷ es) [] e r lines at is = absurd lines
lines-push m caller n line (d ∷ es) (s ∷ rs) e r lines at is =
    (lines.0, lines-push m caller (n + 1) line es rs e r lines.1 (at ∙ omega arith) is)

-- a caller's lines after its first n were played, in so many attempts
pub record HasPlayed {B R : Type 0} (m : Meaning B R) (caller n tried : ℕ) (old new : Front) (replies : List R)
    : Type 0 where
  pub plays : PlaysLines m caller n old.lanes old new replies
  pub attempted : HasAttempted tried old new

module _ {B R : Type 0} (m : Meaning B R) (caller n : ℕ) (f : Front) where
  pub played-none : HasPlayed m caller n 0 f f []
  played-none = record {
    plays = record { entries = []; commits = committed-none f; lines = tt };
    attempted = attempted-none f;
  }

  pub played-stopped : (tried tag : ℕ) (g h : Front) (rs : List R) → HasPlayed m caller n tried f g rs
      → length g.known ≡ length g.seen → Stops tag g h
      → HasPlayed m caller n (tried + 1) f h rs
  played-stopped tried tag g h rs p fated s =
      let more = attempted-stopped tried p.plays.entries f g h p.attempted p.plays.commits fated tag s in
      record {
        plays = record { entries = p.plays.entries; commits = more.1; lines = p.plays.lines };
        attempted = subst (λ k. HasAttempted k f h) (omega arith) more.0;
      }

  pub played-more : (tried line : ℕ) (b : B) (r : R) (g h : Front) (rs : List R)
      → HasPlayed m caller n tried f g rs → length g.known ≡ length g.seen
      → line ≡ n + length rs + 1 → Some b ≡ m.body_at caller line → Commits (m.did b) (tag_of caller line) r g h
      → HasPlayed m caller n (tried + 1) f h (rs ++ r ∷ [])
  played-more tried line b r g h rs p fated at there s =
      let more = attempted-more tried p.plays.entries f g h p.attempted p.plays.commits fated (m.did b) (tag_of caller line) r s in
      record {
        plays = record {
          entries = p.plays.entries ++ s.entry ∷ [];
          commits = more.1;
          lines = lines-push m caller n line p.plays.entries rs s.entry r p.plays.lines at
              (record { tagged = s.tagged; body = b; there = sym there; did_it = s.did_it });
        };
        attempted = subst (λ k. HasAttempted k f h) (omega arith) more.0;
      }
