-- A sweep of levels is what the book's sweep comes to.
use Rattle.std.proofs.Common.{◌≡◌, ◌≢◌, ℕ, zero, suc, ◌+◌, ◌-◌, ◌*◌, ◌<◌, ◌≤◌, nat_lt, true, false, cond, List, [], ◌∷◌, ◌++◌, map, length, replicate, refl, sym, ap, subst, ◌∙◌, inl, inr, Option, Some, None, arith}
use Rattle.std.specs.Prelude.{is_none, slice_set}
use Rattle.std.proofs.lemmas.Bool.{cases_eq, eq-eqb, ne_eqb, lt-ltb, le-ltb, and_from, and_left, and_right}
use Rattle.std.proofs.lemmas.List.{append-nil, append_assoc, length_push, set_at}
use Rattle.std.proofs.lemmas.List.Sums.{sum_by_push}
use Rattle.md_history.specs.declared.acts.Act.{Act}
use Rattle.md_history.specs.State.{State}
use Rattle.md_history.specs.Script.{Script, done, bind}
use Rattle.md_history.proofs.Plays.{played, outcome, made, ends-bind}
use Rattle.md_book.specs.declared.commands.Side.{Side}
use Rattle.md_book.specs.Book.{Book, IsAccount, IsPrice, level_of, look}
use Rattle.md_book.proofs.steps.Costs.{costs-append}
use Rattle.md_match.specs.declared.commands.At.{At}
use Rattle.md_match.specs.declared.limits.TheConstants.{MAX_LOOKS}
use Rattle.md_match.specs.declared.sweeping.Sweep.{Sweep}
use Rattle.md_match.specs.Matching.{opposite, best_price, Swept, swept, at_price, look_then, look_best, sweep, taken_in, padded, is_placed}
use Rattle.md_match.specs.Sweeping.{find_best, with_taken, take_at, go_on, sweep_levels}
use Rattle.md_match.proofs.scripts.Sweeping.{at_best, sweep-some, sweep-none}
use Rattle.md_match.proofs.sweeps.BestPrices.{best-within}
use Rattle.md_match.proofs.prices.Best.{Finds, finds-best}
use Rattle.md_match.proofs.steps.Few.{Within, within-costs, within-quiet, within-more, within-append}
use Rattle.md_match.proofs.steps.Looks.{Amid, listed, took, Looks, looks-at}

abbrev no_part : At
no_part = record { name = 0; price = 0; taken = 0 }

-- a part more is written behind those that were taken
padded-push : (parts : List At) (part : At) → length parts < MAX_LOOKS → slice_set (padded parts) (length parts) part ≡ padded (parts ++ part ∷ [])
padded-push parts part room =
    let left : MAX_LOOKS - length parts ≡ suc (MAX_LOOKS - length (parts ++ part ∷ [])) = omega (arith, length_push parts part) in
    ap (λ n. slice_set (parts ++ replicate n no_part) (length parts) part) left
    ∙ set_at parts no_part (replicate (MAX_LOOKS - length (parts ++ part ∷ [])) no_part) part (length parts) refl
    ∙ sym (append_assoc parts (part ∷ []) (replicate (MAX_LOOKS - length (parts ++ part ∷ [])) no_part))

module _ (account : ℕ) (side : Side) (limit : ℕ) where
  -- nothing remains: the book's sweep ends
  none-swept : (looks : ℕ) (b : Book) (rest : ℕ) → rest ≡ 0 → sweep account side limit looks b rest ≡ swept b rest
  unfolding sweep
  none-swept zero b rest none = refl
  none-swept (suc looks) b rest none = ap (λ t. cond t (swept b rest) (look_best account side (best_price b side limit) b rest (sweep account side limit looks))) (eq-eqb rest 0 none)

  some-swept : (looks : ℕ) (b : Book) (rest : ℕ) → rest ≢ 0 → sweep account side limit (suc looks) b rest ≡ look_best account side (best_price b side limit) b rest (sweep account side limit looks)
  unfolding sweep
  some-swept looks b rest some = ap (λ t. cond t (swept b rest) (look_best account side (best_price b side limit) b rest (sweep account side limit looks))) (ne_eqb rest 0 some)

  no-looks : (b : Book) (rest : ℕ) → sweep account side limit 0 b rest ≡ swept b rest
  unfolding sweep
  no-looks b rest = refl

module _ (side : Side) (limit : ℕ) (is : IsPrice limit) (account : ℕ) (in_range : IsAccount account) (takers : ℕ → ℕ) (quantity : ℕ) where
  abbrev from : Side
  from = opposite side

  -- so far a sweep has come
  pub record SoFar (s : State) (b : Book) (f : Sweep) (before : List At) : Type 0 where
    pub amid : Amid from account takers s b (taken_in before)
    pub remains : taken_in before + f.rest ≡ quantity
    pub count : f.count ≡ length before
    pub parts : f.parts ≡ padded before

  -- what it comes to, beside parts that were taken before, in so many looks at most
  pub record Sweeps (before : List At) (looks : ℕ) (l : Swept) (t : State) (f : Sweep) (acts : List Act) : Type 0 where
    pub so_far : SoFar t l.book f (before ++ l.parts)
    pub rest : f.rest ≡ l.rest
    pub clear : f.clear ≡ is_placed l side limit
    pub few : Within acts (8 * looks + 2) (18 * looks + 2) (3 * looks)

  abbrev SweepsAs : ℕ → State → List At → Script Sweep → Swept → Type 0
  SweepsAs looks s before p l = Sweeps before looks l (played p s) (outcome p s) (made p s)

  -- a sweep of so many looks is what the book's sweep comes to
  abbrev pub Goal : ℕ → Type 0
  Goal looks = (s : State) (b : Book) (f : Sweep) (before : List At) → SoFar s b f before → f.clear ≡ false → length before + looks ≤ MAX_LOOKS
      → SweepsAs looks s before (sweep_levels side limit looks f) (sweep account side limit looks b f.rest)

  -- the sweep ends with the book as it is
  ends : (looks : ℕ) (s : State) (b : Book) (f g : Sweep) (before : List At) (acts : List Act) → SoFar s b f before → g.rest ≡ f.rest → g.count ≡ f.count → g.parts ≡ f.parts → g.clear ≡ is_placed (swept b f.rest) side limit
      → Within acts (8 * looks + 2) (18 * looks + 2) (3 * looks) → Sweeps before looks (swept b f.rest) s g acts
  ends looks s b f g before acts far rest count parts clear few = record {
    so_far = subst (SoFar s b g) (sym (append-nil before)) (record { amid = far.amid; remains = omega (arith, far.remains, rest); count = count ∙ far.count; parts = parts ∙ far.parts });
    rest = rest;
    clear = clear;
    few = few;
  }

  nothing-few : (looks : ℕ) → Within [] (8 * looks + 2) (18 * looks + 2) (3 * looks)
  nothing-few looks = record { reads_few = omega arith; writes_few = omega arith; nodes_few = omega arith }

  module _ (s : State) (b : Book) (f : Sweep) (before : List At) (far : SoFar s b f before) (unclear : f.clear ≡ false) (some : f.rest ≢ 0) where
    abbrev search : Script (Option ℕ)
    search = find_best side limit

    found : (q : ℕ) → Finds b limit is s far.amid.prices side q (played search s) (outcome search s) (made search s)
    found q = finds-best b limit is s far.amid.prices side q

    search-few : (looks : ℕ) → Within (made search s ++ []) (8 * looks + 2) (18 * looks + 2) (3 * looks)
    search-few looks = subst (λ xs. Within xs (8 * looks + 2) (18 * looks + 2) (3 * looks)) (sym (append-nil (made search s))) (within-more (within-quiet (λ q. (found q).costs)) (8 * looks + 2) (18 * looks + 2) (3 * looks) (omega arith) (omega arith) (omega arith))

    -- what follows a search, which found this
    abbrev Follows : ℕ → Swept → State → Option ℕ → Type 0
    Follows looks l u best =
        let p = go_on best f (at_best side limit looks f) in
        Sweeps before looks l (played p u) (outcome p u) (made search s ++ made p u)

    follow : (looks : ℕ) (l : Swept) → Follows looks l s (best_price b side limit) → SweepsAs looks s before (bind search (λ best. go_on best f (at_best side limit looks f))) l
    follow looks l goes = ends-bind search (λ best. go_on best f (at_best side limit looks f)) s (Sweeps before looks l)
        (subst (λ u. Follows looks l u (outcome search s)) (sym (found 0).same) (subst (Follows looks l s) (sym (found 0).is_best) goes))

    no-price : (looks : ℕ) → best_price b side limit ≡ None → Follows looks (swept b f.rest) s None
    no-price looks e = ends looks s b f (record f { clear = true }) before (made search s ++ []) far refl refl refl
        (sym (and_from (nat_lt 0 f.rest) (is_none (best_price b side limit)) (lt-ltb 0 f.rest (omega (arith, some))) (ap is_none e))) (search-few looks)

    last-price : (price : ℕ) → best_price b side limit ≡ Some price → Follows 0 (swept b f.rest) s (Some price)
    last-price price e = ends 0 s b f f before (made search s ++ []) far refl refl refl
        (unclear ∙ sym (and_right (nat_lt 0 f.rest) (is_none (best_price b side limit)) (ap is_none e))) (search-few 0)

    module _ (looks : ℕ) (more : Goal looks) (room : length before + suc looks ≤ MAX_LOOKS) (price : ℕ) (e : best_price b side limit ≡ Some price) where
      abbrev level : ℕ
      level = level_of from price

      abbrev then : Option At → Script Sweep
      then part = sweep_levels side limit looks (with_taken f part)

      -- how far it has come with that part
      next : (t : State) (b' : Book) (part : Option At) → Amid from account takers t b' (taken_in before + took part) → took part ≤ f.rest → SoFar t b' (with_taken f part) (before ++ listed part)
      next t b' None amid low = subst (SoFar t b' f) (sym (append-nil before)) (record {
        amid = let none : taken_in before + 0 ≡ taken_in before = omega arith in subst (Amid from account takers t b') none amid;
        remains = far.remains;
        count = far.count;
        parts = far.parts;
      })
      next t b' (Some part) amid low =
          let push : taken_in (before ++ part ∷ []) ≡ taken_in before + part.taken = sum_by_push (λ (p : At). p.taken) before part in
          record {
            amid = subst (Amid from account takers t b') (sym push) amid;
            remains = omega (arith, push, far.remains, low);
            count = omega (arith, length_push before part, far.count);
            parts = ap (λ ps. slice_set ps f.count part) far.parts ∙ ap (λ n. slice_set (padded before) n part) far.count ∙ padded-push before part (omega (arith, room));
          }

      next-rest : (part : Option At) → (with_taken f part).rest ≡ f.rest - took part
      next-rest None = omega arith
      next-rest (Some part) = refl

      next-clear : (part : Option At) → (with_taken f part).clear ≡ false
      next-clear None = unclear
      next-clear (Some part) = unclear

      next-room : (part : Option At) → length (before ++ listed part) + looks ≤ MAX_LOOKS
      next-room None = omega (arith, room, ap length (append-nil before))
      next-room (Some part) = omega (arith, room, length_push before part)

      abbrev l : Book → ℕ → Swept
      l = sweep account side limit looks

      goes-on : (t : State) (part : Option At) (acts : List Act) → Looks from price account takers (taken_in before) f.rest (look level account 1 b f.rest) t part acts
          → Sweeps before (suc looks) (look_then price (look level account 1 b f.rest) l) (played (then part) t) (outcome (then part) t) (made search s ++ (acts ++ made (then part) t))
      goes-on t part acts is =
          let lk = look level account 1 b f.rest in
          let after = more t lk.book (with_taken f part) (before ++ listed part) (next t lk.book part is.amid is.within) (next-clear part) (next-room part) in
          let rest_is : (with_taken f part).rest ≡ lk.rest = next-rest part ∙ sym is.left in
          let done_it = subst (λ n. SweepsAs looks t (before ++ listed part) (then part) (l lk.book n)) rest_is after in
          let parts : (before ++ listed part) ++ (l lk.book lk.rest).parts ≡ before ++ (map (at_price price) lk.parts ++ (l lk.book lk.rest).parts) =
          append_assoc before (listed part) (l lk.book lk.rest).parts ∙ ap (λ ps. before ++ (ps ++ (l lk.book lk.rest).parts)) (sym is.parts) in
          record {
            so_far = subst (SoFar (played (then part) t) (l lk.book lk.rest).book (outcome (then part) t)) parts done_it.so_far;
            rest = done_it.rest;
            clear = done_it.clear;
            few = subst (λ xs. Within xs (8 * suc looks + 2) (18 * suc looks + 2) (3 * suc looks)) (append_assoc (made search s) acts (made (then part) t))
                (within-more (within-append (within-costs (costs-append (found level).costs is.costs)) done_it.few) (8 * suc looks + 2) (18 * suc looks + 2) (3 * suc looks) (omega arith) (omega arith) (omega arith));
          }

      goes : Follows (suc looks) (look_then price (look level account 1 b f.rest) l) s (Some price)
      goes = ends-bind (take_at from price f.rest) then s (λ t g acts. Sweeps before (suc looks) (look_then price (look level account 1 b f.rest) l) t g (made search s ++ acts))
          (goes-on _ _ _ (looks-at from price (best-within b side limit is price e).0.priced account in_range takers far.amid f.rest some))

    first-look : (looks : ℕ) (more : Goal looks) (room : length before + suc looks ≤ MAX_LOOKS) (best : Option ℕ) → best_price b side limit ≡ best
        → Follows (suc looks) (look_best account side best b f.rest (sweep account side limit looks)) s best
    first-look looks more room None e = no-price (suc looks) e
    first-look looks more room (Some price) e = goes looks more room price e

    last-look : (best : Option ℕ) → best_price b side limit ≡ best → Follows 0 (swept b f.rest) s best
    last-look None e = no-price 0 e
    last-look (Some price) e = last-price price e

  none-left : (looks : ℕ) (s : State) (b : Book) (f : Sweep) (before : List At) → SoFar s b f before → f.clear ≡ false → f.rest ≡ 0 → SweepsAs looks s before (sweep_levels side limit looks f) (sweep account side limit looks b f.rest)
  none-left looks s b f before far unclear none =
      subst (λ p. SweepsAs looks s before p (sweep account side limit looks b f.rest)) (sym (sweep-none side limit looks f none))
      (subst (SweepsAs looks s before (done f)) (sym (none-swept account side limit looks b f.rest none))
      (ends looks s b f f before [] far refl refl refl (unclear ∙ sym (and_left (nat_lt 0 f.rest) (is_none (best_price b side limit)) (le-ltb 0 f.rest (omega (arith, none))))) (nothing-few looks)))

  sweeps-none : Goal 0
  sweeps-none s b f before far unclear room = elim (cases_eq f.rest 0) [
    | inl none ↦ none-left 0 s b f before far unclear none
    | inr some ↦
        subst (λ p. SweepsAs 0 s before p (sweep account side limit 0 b f.rest)) (sym (sweep-some side limit 0 f some))
        (subst (SweepsAs 0 s before (bind (find_best side limit) (λ best. go_on best f (at_best side limit 0 f)))) (sym (no-looks account side limit b f.rest))
        (follow s b f before far unclear some 0 (swept b f.rest) (last-look s b f before far unclear some (best_price b side limit) refl)))
  ]

  sweeps-more : (looks : ℕ) → Goal looks → Goal (suc looks)
  sweeps-more looks more s b f before far unclear room = elim (cases_eq f.rest 0) [
    | inl none ↦ none-left (suc looks) s b f before far unclear none
    | inr some ↦
        let l = look_best account side (best_price b side limit) b f.rest (sweep account side limit looks) in
        subst (λ p. SweepsAs (suc looks) s before p (sweep account side limit (suc looks) b f.rest)) (sym (sweep-some side limit (suc looks) f some))
        (subst (SweepsAs (suc looks) s before (bind (find_best side limit) (λ best. go_on best f (at_best side limit (suc looks) f)))) (sym (some-swept account side limit looks b f.rest some))
        (follow s b f before far unclear some (suc looks) l (first-look s b f before far unclear some looks more room (best_price b side limit) refl)))
  ]

  -- so it is, however many looks there are
  pub sweeps-all : (looks : ℕ) → Goal looks
  sweeps-all zero = sweeps-none
  sweeps-all (suc looks) = sweeps-more looks (sweeps-all looks)
