-- Where the words of a field stand.
use Rattle.std.proofs.Common.{◌≡◌, ◌≢◌, ◌==◌, ◌<◌, ℕ, List, true, Option, Some, None, Vec, IfSome, IfNone, if◌then◌else◌, length, slice_set, eqb-true, sym, ap, subst, ◌∙◌, ⊎_elim, arith}
use Rattle.std.specs.declared.alloc.Global.{Global}
use Rattle.std.proofs.lemmas.Bool.{cases_Bool, cond-false, cond_both, eq-eqb, false≢true, ne_eqb}
use Rattle.std.proofs.lemmas.List.{length-set, with_items_is}
use Rattle.std.specs.Vec.{with_items}
use mathlib.Core.Option.{some}
use lib.ListN.{get_elem?}
use Rattle.md_words.specs.declared.shape.Shape.{Shape}
use Rattle.md_words.specs.Layout.{words_of}
use Rattle.atomic_table.specs.Table.{State}
use Rattle.md_machine.proofs.lists.At.{at_one}
use Rattle.md_machine.proofs.lists.Options.{some_same}
use Rattle.md_rule.specs.Private.{AreWords, HasPrivateWords, table_words, words_left}
use Rattle.md_rule.specs.declared.known.Known.{Known}
use Rattle.md_rule.proofs.Events.{has_base}

-- the table has a word
pub has_table : (shape : Shape) → 0 < table_words shape
has_table shape = ⊎_elim
    (λ (is : (shape.lanes == 1) ≡ true). subst (λ b. 0 < (if b then 1 else words_of shape)) (sym is) (omega arith))
    (λ not. subst (λ b. 0 < (if b then 1 else words_of shape)) (sym not) (has_base shape))
    (cases_Bool (shape.lanes == 1))

-- and all words of a field with several lanes
pub shared_words : (shape : Shape) → shape.lanes ≢ 1 → table_words shape ≡ words_of shape
shared_words shape more = cond-false (shape.lanes == 1) 1 (words_of shape) (ne_eqb shape.lanes 1 more)

-- the words stand in the table of a field if a pass has none, and in its pass if it has them
pub in_table : (shape : Shape) (private : Option (Vec ℕ Global)) (k : Known) → HasPrivateWords shape private k → private ≡ None → shape.lanes ≢ 1
in_table shape private k h none = subst (λ p. IfNone p (shape.lanes ≢ 1)) none h.more

pub in_pass : (shape : Shape) (private : Option (Vec ℕ Global)) (k : Known) (ws : Vec ℕ Global) → HasPrivateWords shape private k → private ≡ Some ws
    → (shape.lanes ≡ 1) × (length ws.items ≡ words_of shape) × (k.private ≡ Some ws)
in_pass shape private k ws h is =
    let one = subst (λ p. IfSome p (λ x. (shape.lanes ≡ 1) × (length x.items ≡ words_of shape))) is h.one in
    (one.0, one.1, h.same ∙ is)

-- a pass has the same words while its seat knows the same ones
pub keeps_words : (shape : Shape) (private : Option (Vec ℕ Global)) (k now : Known) → now.private ≡ k.private → HasPrivateWords shape private k → HasPrivateWords shape private now
keeps_words shape private k now same h = record {
  same = same ∙ h.same;
  one = h.one;
  more = h.more;
}

-- private words stay so when one is changed
pub still_has : (shape : Shape) (ws next : Vec ℕ Global) (k : Known) (word value : ℕ) → shape.lanes ≡ 1 → length ws.items ≡ words_of shape
    → next.items ≡ slice_set ws.items word value → k.private ≡ Some next → HasPrivateWords shape (Some next) k
still_has shape ws next k word value one long set same = record {
  same = same;
  one = (one, ap length set ∙ length-set ws.items word value ∙ long);
  more = tt;
}

-- the first seat of a field knows the words that its pass has
pub own_has : (shape : Shape) (ws : Vec ℕ Global) (k : Known) → length ws.items ≡ words_of shape → k.private ≡ (if shape.lanes == 1 then Some ws else None)
    → HasPrivateWords shape (if shape.lanes == 1 then Some ws else None) k
own_has shape ws k long same = record {
  same = same;
  one = cond_both (shape.lanes == 1) (Some ws) None (λ p. IfSome p (λ l. (shape.lanes ≡ 1) × (length l.items ≡ words_of shape))) (λ is. (eqb-true shape.lanes 1 is, long)) (λ not. tt);
  more = cond_both (shape.lanes == 1) (Some ws) None (λ p. IfNone p (shape.lanes ≢ 1)) (λ is. tt) (λ not e. false≢true (sym not ∙ eq-eqb shape.lanes 1 e));
}

-- and they are those with the number at its place
pub items_put : (mine : Vec ℕ Global) (word value : ℕ) (new : List ℕ) → new ≡ slice_set mine.items word value → (with_items mine new).items ≡ slice_set mine.items word value
items_put mine word value new set = with_items_is mine new (ap length set ∙ length-set mine.items word value ∙ sym mine.ok.0) ∙ set

-- a place of a word is one of the table then
pub fits_table : (shape : Shape) (words word : ℕ) → words ≡ table_words shape → shape.lanes ≢ 1 → word < words_of shape → word < words
fits_table shape words word is more fits = subst (λ n. word < n) (sym (is ∙ shared_words shape more)) fits

-- the words of a field that has ended
pub all_left : (shape : Shape) (private : Option (Vec ℕ Global)) (words : List ℕ) (s : State (Unit {0}) Known) (id : ℕ) (k : Known) (ws : List ℕ)
    → AreWords shape words s → get_elem? s.views id ≡ some k → s.words ≡ ws → HasPrivateWords shape private k → words ≡ words_left private ws
all_left shape None words s id k ws are at is has = are.shared has.more ∙ is
all_left shape (Some mine) words s id k ws are at is has =
    let held = are.private has.one.0 in
    let alone = at_one held.known k id (subst (λ (l : List Known). get_elem? l id ≡ some k) held.alone at) in
    held.all ∙ ap (λ (v : Vec ℕ Global). v.items) (some_same held.private mine (sym held.has ∙ ap (λ (x : Known). x.private) alone.1 ∙ has.same))
