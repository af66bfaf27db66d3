-- Made scripts, one command after another.
use Rattle.std.proofs.Common.{◌≡◌, ◌≤◌, ◌+◌, ◌*◌, ◌/◌, ◌%◌, ◌^◌, ◌∙◌, ◌++◌, ◌∷◌, ℕ, suc, List, [], true, false, length, map, replicate, refl, sym, ap, subst, arith, inl, inr}
use Rattle.std.specs.Prelude.{◌==◌, filter}
use Rattle.std.specs.List.{enumerate_from, range_with_len}
use Rattle.std.proofs.lemmas.Bool.{cases_Bool, eqb-true, eq-eqb, false≢true}
use Rattle.std.proofs.lemmas.List.{length-replicate, length-map, map-append}
use Rattle.std.proofs.lemmas.List.FromFn.{length-enumerate_from}
use Rattle.md_book.specs.declared.commands.Command.{Command}
use Rattle.md_orders.specs.declared.generator.Draws.{Draws}
use Rattle.md_orders.specs.Scripts.{list_of, with_list}
use Rattle.md_orders.specs.Generator.{next_state, state_after_draws, draws_from, draws_of, made_command, is_made_by, made_script, AreMade}
use Rattle.md_orders.proofs.ByCaller.{list_of-with_list-same, list_of-with_list-other, length-with_list}
use Rattle.md_orders.proofs.Noted.{list_of-replicate}
use Rattle.md_orders.proofs.Numbered.{numbered-more, numbered-same}
use Rattle.md_orders.proofs.Turns.{range-more}

-- five draws more
pub five_more : (number i state : ℕ) → state ≡ state_after_draws number (5 * i) → state_after_draws state 5 ≡ state_after_draws number (5 * (i + 1))
unfolding state_after_draws
five_more number i state is = rw is (let more : 5 * (i + 1) ≡ suc (suc (suc (suc (suc (5 * i))))) = omega arith in rw more refl)

-- five draws, one after another: the state that they leave, and what they give
pub five_draws : (s a b c d e k w g p q : ℕ) → a ≡ next_state s → b ≡ next_state a → c ≡ next_state b → d ≡ next_state c → e ≡ next_state d
    → k ≡ next_state s / 2 ^ 16 → w ≡ next_state a / 2 ^ 16 → g ≡ next_state b / 2 ^ 16 → p ≡ next_state c / 2 ^ 16 → q ≡ next_state d / 2 ^ 16
    → (e ≡ state_after_draws s 5) × ((let drawn : Draws = record { kind = k; account = w; side = g; price = p; quantity = q } in drawn) ≡ draws_from s)
unfolding state_after_draws
five_draws s a b c d e k w g p q a_is b_is c_is d_is e_is k_is w_is g_is p_is q_is = rw (k_is, w_is, g_is, p_is, q_is, e_is, d_is, c_is, b_is, a_is) (refl, refl)

-- a caller's script has as many lines as the caller has commands
pub length-script : (number lines callers caller : ℕ) → length (made_script number lines callers caller) ≡ length (filter (is_made_by callers caller) (range_with_len 0 lines))
length-script number lines callers caller =
    length-map (enumerate_from 1 (filter (is_made_by callers caller) (range_with_len 0 lines))) _ ∙ length-enumerate_from 1 (filter (is_made_by callers caller) (range_with_len 0 lines))

-- the next command of a caller
pub script-more : (number i callers caller line : ℕ) → is_made_by callers caller i ≡ true → line ≡ length (made_script number i callers caller) + 1
    → made_script number (i + 1) callers caller ≡ made_script number i callers caller ++ made_command caller line (draws_of number i) ∷ []
script-more number i callers caller line mine at =
    let f : ℕ × ℕ → Command = λ p. made_command caller p.0 (draws_of number p.1) in
    let size = length-script number i callers caller in
    ap (λ is. map f (enumerate_from 1 (filter (is_made_by callers caller) is))) (range-more 0 i i (omega arith))
    ∙ ap (map f) (numbered-more (is_made_by callers caller) line (range_with_len 0 i) i mine (omega arith))
    ∙ map-append f (enumerate_from 1 (filter (is_made_by callers caller) (range_with_len 0 i))) ((line, i) ∷ [])

-- a command of another caller leaves a script as it was
pub script-same : (number i callers caller : ℕ) → is_made_by callers caller i ≡ false → made_script number (i + 1) callers caller ≡ made_script number i callers caller
script-same number i callers caller other =
    let f : ℕ × ℕ → Command = λ p. made_command caller p.0 (draws_of number p.1) in
    ap (λ is. map f (enumerate_from 1 (filter (is_made_by callers caller) is))) (range-more 0 i i (omega arith))
    ∙ ap (map f) (numbered-same (is_made_by callers caller) (range_with_len 0 i) i other)

-- no command yet
pub state_none : (number : ℕ) → number ≡ state_after_draws number (5 * 0)
unfolding state_after_draws
state_none number = refl

pub made-none : (number callers : ℕ) (scripts : List (List Command)) → scripts ≡ replicate callers [] → AreMade number 0 callers scripts
made-none number callers scripts is = record {
  callers_are = ap length is ∙ length-replicate callers [];
  each = λ caller. ap (λ (ls : List (List Command)). list_of ls caller) is ∙ list_of-replicate callers caller;
}

-- one command more
pub made-more : (number i callers caller line : ℕ) (scripts : List (List Command)) → AreMade number i callers scripts
    → caller ≡ i % callers + 1 → caller ≤ callers → line ≡ length (list_of scripts caller) + 1
    → AreMade number (i + 1) callers (with_list scripts caller (list_of scripts caller ++ made_command caller line (draws_of number i) ∷ []))
made-more number i callers caller line scripts made turn high at =
    let new = list_of scripts caller ++ made_command caller line (draws_of number i) ∷ [] in
    let number_is = made.callers_are in
    record {
      callers_are = length-with_list scripts caller new ∙ number_is;
      each = λ c. elim (cases_Bool (caller == c)) [
        | inl is ↦ let e : caller ≡ c = eqb-true caller c is in
            subst (λ k. list_of (with_list scripts caller new) k ≡ made_script number (i + 1) callers k) e
            (list_of-with_list-same scripts caller new (omega arith) (omega arith)
            ∙ ap (λ xs. xs ++ made_command caller line (draws_of number i) ∷ []) (made.each caller)
            ∙ sym (script-more number i callers caller line (eq-eqb (i % callers + 1) caller (sym turn)) (at ∙ ap (λ xs. length xs + 1) (made.each caller))))
        | inr other ↦
            list_of-with_list-other scripts caller c new (λ e. false≢true (sym other ∙ eq-eqb caller c (sym e))) ∙ made.each c
            ∙ sym (script-same number i callers c (ap (λ k. k == c) (sym turn) ∙ other))
      ];
    }
