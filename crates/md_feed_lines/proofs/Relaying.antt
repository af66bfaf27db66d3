-- Each step of a channel keeps its rule.
use Rattle.std.proofs.Common.{◌≡◌, ◌∙◌, ◌+◌, ◌++◌, ◌∷◌, ℕ, zero, suc, List, [], true, false, true≢false, length, refl, sym, ap, subst, arith, append_assoc}
use Rattle.std.specs.Prelude.{Bool, not, is_some, Option, Some, None, IfSome, IfNone}
use mathlib.Core.Option.{some, some-ne-none}
use lib.ListN.{get_elem?}
use Rattle.crossbeam_channel.specs.Fifo.{Pushes, Pops, Forks, Learns}
use Rattle.md_feed_lines.specs.declared.fed.FedLine.{FedLine}
use Rattle.md_feed_lines.specs.declared.fed.Place.{Place}
use Rattle.md_feed_lines.specs.Made.{before_line}
use Rattle.md_feed_lines.specs.Fed.{fed_at, IsMade, lines_from, AreFirstLines, place, IsRelayed, Relays}

-- what holds of an option's value, if it has one
pub if-some : {A : Type 0} (o : Option A) (x : A) (P : A → Type 0) → o ≡ Some x → IfSome o P → P x
if-some o x P is holds = subst (λ t. IfSome t P) is holds

-- what holds if an option has no value
pub if-none : {A : Type 0} (o : Option A) (P : Type 0) → o ≡ None → IfNone o P → P
if-none o P is holds = subst (λ t. IfNone t P) is holds

-- an option that was found to have no value has none
pub none-of : {A : Type 0} (o : Option A) (none : Bool) → is_some o ≡ not none → none ≡ true → o ≡ None
none-of None none is found = refl
none-of (Some x) true is found = absurd (true≢false is)
none-of (Some x) false is found = absurd (true≢false (sym found))

-- a line more
lines-more : (number callers caller n count : ℕ) → lines_from number callers caller n (suc count)
    ≡ lines_from number callers caller n count ++ fed_at number callers (before_line callers caller (n + count)) ∷ []
lines-more number callers caller n zero =
    let same : n ≡ n + 0 = omega arith in ap (λ k. fed_at number callers (before_line callers caller k) ∷ []) same
lines-more number callers caller n (suc count) =
    let same : n + 1 + count ≡ n + suc count = omega arith in
    ap (λ xs. fed_at number callers (before_line callers caller n) ∷ xs) (lines-more number callers caller (n + 1) count
    ∙ ap (λ k. lines_from number callers caller (n + 1) count ++ fed_at number callers (before_line callers caller k) ∷ []) same)

-- the first lines of a caller, and its next one
pub lines-push : (number callers caller count : ℕ) (xs : List FedLine) (x : FedLine) → xs ≡ lines_from number callers caller 0 count
    → x ≡ fed_at number callers (before_line callers caller count) → xs ++ x ∷ [] ≡ lines_from number callers caller 0 (suc count)
lines-push number callers caller count xs x are is =
    let same : count ≡ 0 + count = omega arith in
    ap (λ ys. ys ++ x ∷ []) are ∙ ap (λ y. lines_from number callers caller 0 count ++ y ∷ []) is
    ∙ ap (λ k. lines_from number callers caller 0 count ++ fed_at number callers (before_line callers caller k) ∷ []) same
    ∙ sym (lines-more number callers caller 0 count)

-- the same, as a channel's rule says it
pub next-first : (number callers caller count : ℕ) (xs : List FedLine) (x : FedLine) → xs ≡ lines_from number callers caller 0 count
    → x ≡ fed_at number callers (before_line callers caller count) → AreFirstLines (xs ++ x ∷ [])
next-first number callers caller count xs x are is = record {
  number = number;
  callers = callers;
  caller = caller;
  count = suc count;
  each = lines-push number callers caller count xs x are is;
}

-- the first of some lines
lines-first : (number callers caller n count : ℕ) (xs ys : List FedLine) → xs ++ ys ≡ lines_from number callers caller n count
    → xs ≡ lines_from number callers caller n (length xs)
lines-first number callers caller n count [] ys are = refl
lines-first number callers caller n zero (x ∷ xs) ys are = cc are
lines-first number callers caller n (suc count) (x ∷ xs) ys are =
    let head : x ≡ fed_at number callers (before_line callers caller n) = cc are in
    let rest : xs ++ ys ≡ lines_from number callers caller (n + 1) count = cc are in
    ap (λ y. y ∷ xs) head ∙ ap (λ zs. fed_at number callers (before_line callers caller n) ∷ zs) (lines-first number callers caller (n + 1) count xs ys rest)

-- the last of them is as it is made
last-made : (number callers caller n count : ℕ) (xs : List FedLine) (x : FedLine) → xs ++ x ∷ [] ≡ lines_from number callers caller n count → IsMade x
last-made number callers caller n zero [] x are = cc are
last-made number callers caller n (suc count) [] x are =
    let is : x ≡ fed_at number callers (before_line callers caller n) = cc are in
    is ∙ sym (ap (λ (y : FedLine). fed_at y.number y.callers y.made) is)
last-made number callers caller n zero (y ∷ xs) x are = cc are
last-made number callers caller n (suc count) (y ∷ xs) x are =
    let rest : xs ++ x ∷ [] ≡ lines_from number callers caller (n + 1) count = cc are in
    last-made number callers caller (n + 1) count xs x rest

pub taken-made : (xs : List FedLine) (x : FedLine) → AreFirstLines (xs ++ x ∷ []) → IsMade x
taken-made xs x first = last-made first.number first.callers first.caller 0 first.count xs x first.each

-- no lines are the first ones
pub none-first : AreFirstLines []
none-first = record { number = 0; callers = 0; caller = 0; count = 0; each = refl }

pub begins : Relays [] (place true true [] ∷ [])
begins = (refl, refl)

-- a pass that sends isn't the one that the rule has before the ends are parted
whole-takes : (v f : Place) → some f ≡ some v → f ≡ place true true [] → v.takes ≡ true
whole-takes v f at is = let same : f ≡ v = cc at in ap (λ (p : Place). p.takes) (sym same ∙ is)

pub sends : (n pass : ℕ) (v : Place) (x : FedLine) → (v.sends ≡ true) × (v.takes ≡ false) → AreFirstLines (v.lines ++ x ∷ [])
    → Pushes Relays n pass v x (λ w. w ≡ place v.sends v.takes (v.lines ++ x ∷ []))
sends n pass v x role first items [] room h at = absurd h
sends n zero v x role first items (f ∷ []) room h at = absurd (true≢false (sym (whole-takes v f at h.1) ∙ role.1))
sends n (suc pass) v x role first items (f ∷ []) room h at = absurd (some-ne-none v (sym at))
sends n zero v x role first items (f ∷ t ∷ []) room h at =
    let same : f ≡ v = cc at in
    let w : Place = place v.sends v.takes (v.lines ++ x ∷ []) in (
      w,
      record {
        sends = role;
        takes = h.takes;
        order = ap (λ xs. xs ++ x ∷ []) (ap (λ (p : Place). p.lines) (sym same) ∙ h.order) ∙ append_assoc t.lines items (x ∷ []);
        first = first;
      },
      refl,
    )
sends n (suc zero) v x role first items (f ∷ t ∷ []) room h at =
    let same : t ≡ v = cc at in
    absurd (true≢false (sym h.takes.1 ∙ ap (λ (p : Place). p.takes) same ∙ role.1))
sends n (suc (suc pass)) v x role first items (f ∷ t ∷ []) room h at = absurd (some-ne-none v (sym at))
sends n pass v x role first items (f ∷ t ∷ u ∷ views) room h at = absurd h

pub takes : (pass : ℕ) (v : Place) → (v.sends ≡ false) × (v.takes ≡ true)
    → Pops Relays pass v (λ x w. (w ≡ place v.sends v.takes (v.lines ++ x ∷ [])) × AreFirstLines (v.lines ++ x ∷ []))
takes pass v role x items [] h at = absurd h
takes pass v role x items (f ∷ []) h at = cc h.0
takes zero v role x items (f ∷ t ∷ []) h at =
    let same : f ≡ v = cc at in
    absurd (true≢false (sym h.sends.0 ∙ ap (λ (p : Place). p.sends) same ∙ role.0))
takes (suc zero) v role x items (f ∷ t ∷ []) h at =
    let same : t ≡ v = cc at in
    let w : Place = place v.sends v.takes (v.lines ++ x ∷ []) in
    let order : f.lines ≡ (v.lines ++ x ∷ []) ++ items =
    h.order ∙ ap (λ (p : Place). p.lines ++ x ∷ items) same ∙ sym (append_assoc v.lines (x ∷ []) items) in
    let first : AreFirstLines (v.lines ++ x ∷ []) = record {
      number = h.first.number;
      callers = h.first.callers;
      caller = h.first.caller;
      count = length (v.lines ++ x ∷ []);
      each = lines-first h.first.number h.first.callers h.first.caller 0 h.first.count (v.lines ++ x ∷ []) items (sym order ∙ h.first.each);
    } in (
      w,
      record { sends = h.sends; takes = role; order = order; first = h.first },
      (refl, first),
    )
takes (suc (suc pass)) v role x items (f ∷ t ∷ []) h at = absurd (some-ne-none v (sym at))
takes pass v role x items (f ∷ t ∷ u ∷ views) h at = absurd h

pub forks : (pass : ℕ) (v : Place) → v ≡ place true true []
    → Forks Relays pass v (place true false v.lines) (place false true v.lines)
forks pass v is items [] h at = absurd h
forks zero v is items (f ∷ []) h at =
    let none : v.lines ≡ [] = ap (λ (p : Place). p.lines) is in
    record {
      sends = (refl, refl);
      takes = (refl, refl);
      order = none ∙ sym (ap (λ xs. xs ++ items) none ∙ h.0);
      first = subst AreFirstLines (sym none) none-first;
    }
forks (suc pass) v is items (f ∷ []) h at = absurd (some-ne-none v (sym at))
forks zero v is items (f ∷ t ∷ []) h at =
    let same : f ≡ v = cc at in
    absurd (true≢false (sym (ap (λ (p : Place). p.takes) (same ∙ is)) ∙ h.sends.1))
forks (suc zero) v is items (f ∷ t ∷ []) h at =
    let same : t ≡ v = cc at in
    absurd (true≢false (sym (ap (λ (p : Place). p.sends) (same ∙ is)) ∙ h.takes.0))
forks (suc (suc pass)) v is items (f ∷ t ∷ []) h at = absurd (some-ne-none v (sym at))
forks pass v is items (f ∷ t ∷ u ∷ views) h at = absurd h
