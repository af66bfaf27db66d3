-- What was played from one front to a second, and from there to a third.
use Rattle.std.proofs.Common.{◌≡◌, ◌+◌, ◌≤◌, ℕ, List, [], ◌∷◌, ◌++◌, length, sym, ap, subst, ◌∙◌, append_assoc, arith}
use Rattle.std.proofs.lemmas.List.{length-append}
use Rattle.std.proofs.lemmas.List.Elements.{filter-append}
use Rattle.std.specs.Prelude.{◌==◌}
use Rattle.md_history.specs.declared.entries.Entry.{Entry}
use Rattle.md_history.specs.Front.{Front, BeginsOn, of_lane}
use Rattle.md_history.specs.FrontLaws.{prefix-trans, all_stay-trans}
use Rattle.md_many_attempts.specs.Joined.{HasCommitted, entries_after}
use Rattle.md_many_attempts.specs.Meaning.{Meaning}
use Rattle.md_many_attempts.specs.Lines.{AreLines, PlaysLines}
use Rattle.md_many_attempts.proofs.Joining.{AreDecided, entries-more, committed_pairs-append, decided-append}

pub begins-then : (lanes : List ℕ) (f g h : Front) → BeginsOn lanes f g → BeginsOn lanes g h → BeginsOn lanes f h
begins-then lanes f g h p q = record {
  seen = prefix-trans p.seen q.seen;
  known = all_stay-trans f.known g.known h.known p.known q.known;
  mine = λ lane at. prefix-trans (p.mine lane at) (q.mine lane at);
}

pub committed-then : (lanes : List ℕ) (es ds : List Entry) (f g h : Front) → HasCommitted lanes es f g
    → HasCommitted lanes ds g h → length g.known ≡ length g.seen → HasCommitted lanes (es ++ ds) f h
committed-then lanes es ds f g h p q fated =
    let before : length g.seen ≡ length f.seen + length p.begins.seen.rest =
    ap length p.begins.seen.is ∙ length-append f.seen p.begins.seen.rest in
    let is = entries-more (length f.seen) lanes g h fated q.begins.seen q.begins.known (omega arith) p.decided in
    record {
      begins = begins-then lanes f g h p.begins q.begins;
      joined = rw (
        is,
        committed_pairs-append (entries_after (length f.seen) lanes g)
            (entries_after (length g.seen) lanes h),
        p.joined,
        q.joined,
      );
      decided = subst AreDecided (sym is)
          (decided-append (entries_after (length f.seen) lanes g) (entries_after (length g.seen) lanes h) p.decided
          q.decided);
      mine = λ lane at.
          q.mine lane at ∙ ap (λ xs. xs ++ of_lane lane ds) (p.mine lane at)
          ∙ append_assoc (f.mine lane) (of_lane lane es) (of_lane lane ds)
          ∙ ap (λ xs. f.mine lane ++ xs) (sym (filter-append (λ (e : Entry). lane == e.lane) es ds));
    }

-- attempts follow attempts
pub attempts-then : (lanes : List ℕ) (es ds : List Entry) (f g h : Front) (most : ℕ) → HasCommitted lanes es f g
    → HasCommitted lanes ds g h → length g.known ≡ length g.seen → length (entries_after (length g.seen) lanes h) ≤ most
    → length (entries_after (length f.seen) lanes h) ≤ length (entries_after (length f.seen) lanes g) + most
attempts-then lanes es ds f g h most p q fated more =
    let before : length g.seen ≡ length f.seen + length p.begins.seen.rest =
    ap length p.begins.seen.is ∙ length-append f.seen p.begins.seen.rest in
    let is = entries-more (length f.seen) lanes g h fated q.begins.seen q.begins.known (omega arith) p.decided in
    omega (
      arith,
      more,
      ap length is,
      length-append (entries_after (length f.seen) lanes g) (entries_after (length g.seen) lanes h),
    )

module _ {B R : Type 0} (m : Meaning B R) (caller : ℕ) where
  pub lines-then : (es ds : List Entry) (rs ss : List R) (n next : ℕ) → AreLines m caller es rs n
      → next ≡ n + length rs → AreLines m caller ds ss next → AreLines m caller (es ++ ds) (rs ++ ss) n
  lines-then [] ds [] ss n next lines at more = subst (AreLines m caller ds ss) (at ∙ omega arith) more
  lines-then (e ∷ es) ds (r ∷ rs) ss n next lines at more =
      (lines.0, lines-then es ds rs ss (n + 1) next lines.1 (at ∙ omega arith) more)
  lines-then [] ds (r ∷ rs) ss n next lines at more = absurd lines
  lines-then (e ∷ es) ds [] ss n next lines at more = absurd lines

  module _ (n next : ℕ) (f g h : Front) (rs ss : List R) (p : PlaysLines m caller n f.lanes f g rs) (same : g.lanes ≡ f.lanes)
      (q : PlaysLines m caller next g.lanes g h ss) (fated : length g.known ≡ length g.seen) where
    later : HasCommitted f.lanes q.entries g h
    later = subst (λ ls. HasCommitted ls q.entries g h) same q.commits

    pub plays-then : next ≡ n + length rs → PlaysLines m caller n f.lanes f h (rs ++ ss)
    plays-then at = record {
      entries = p.entries ++ q.entries;
      commits = committed-then f.lanes p.entries q.entries f g h p.commits later fated;
      lines = lines-then p.entries q.entries rs ss n next p.lines at q.lines;
    }

    pub attempted-then : (most : ℕ) → length (entries_after (length g.seen) g.lanes h) ≤ most
        → length (entries_after (length f.seen) f.lanes h) ≤ length (entries_after (length f.seen) f.lanes g) + most
    attempted-then most more =
        attempts-then f.lanes p.entries q.entries f g h most p.commits later fated
        (subst (λ ls. length (entries_after (length g.seen) ls h) ≤ most) same more)
