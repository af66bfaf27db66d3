-- Laws of counts: more acts count no less, and what two lists count bounds what both together do.
use Rattle.std.specs.Prelude.{◌≡◌, ◌≤◌, ◌+◌, ℕ, Bool, true, false, cond, Option, Some, List, [], ◌∷◌, ◌++◌, length, ◌||◌, nat_eq}
use Rattle.std.specs.List.{filter_map, list_any, count_by}
use Rattle.std.specs.Cmp.{IsEquivalence}
use Rattle.std.proofs.Common.{sym, ap, subst, ◌∙◌, arith, inl, inr}
use Rattle.std.proofs.lemmas.Bool.{cases_Bool}
use Rattle.std.proofs.lemmas.Cmp.{nat_eq_equiv, and_equiv, on_equiv}
use Rattle.std.proofs.lemmas.List.Sums.{sum_by-append}
use Rattle.std.proofs.lemmas.List.Elements.{filter_map-append}
use Rattle.std.proofs.lemmas.Map.Steps.{list_any_congr}
use Rattle.md_history.specs.declared.acts.Act.{Act}
use Rattle.md_history.specs.declared.acts.Op.{Op}
use Rattle.md_history.specs.declared.acts.Op.TheVariants.{Insert, Remove, Put}
use Rattle.md_history.specs.declared.acts.Reply.{Reply}
use Rattle.md_history.specs.declared.acts.Reply.TheVariants.{Value, Flag}
use Rattle.md_history.specs.State.{State}
use Rattle.md_history.specs.Counts.{Bounds, AllowAll, IsSmall, different_beside, different, same_key, named_key, changed_nothing, changed_key, looked_queue, changed_queue, met_end, added, reads, writes, nodes, AreFew}

-- counts of acts that pass a test add up
pub count-append : {A : Type 0} (p : A → Bool) (xs ys : List A) → count_by p (xs ++ ys) ≡ count_by p xs + count_by p ys
count-append p xs ys = sum_by-append (λ x. cond (p x) 1 0) xs ys

-- a list that begins another has no more different elements
pub different-prefix : {A : Type 0} (eq : A → A → Bool) (xs ys others : List A)
    → different_beside eq xs others ≤ different_beside eq (xs ++ ys) others
different-prefix eq [] ys others = omega arith
different-prefix eq (x ∷ xs) ys others =
    elim (list_any (eq x) others) as (λ b. cond b (different_beside eq xs others) (1 + different_beside eq xs (x ∷ others)) ≤ cond b (different_beside eq (xs ++ ys) others) (1 + different_beside eq (xs ++ ys) (x ∷ others))) [
      | true ↦ different-prefix eq xs ys others
      | false ↦ let more = different-prefix eq xs ys (x ∷ others) in omega arith
    ]

-- a list has no more different elements than elements
pub different-length : {A : Type 0} (eq : A → A → Bool) (xs others : List A) → different_beside eq xs others ≤ length xs
different-length eq [] others = omega arith
different-length eq (x ∷ xs) others =
    elim (list_any (eq x) others) as (λ b. cond b (different_beside eq xs others) (1 + different_beside eq xs (x ∷ others)) ≤ length (x ∷ xs)) [
      | true ↦ let more = different-length eq xs others in omega arith
      | false ↦ let more = different-length eq xs (x ∷ others) in omega arith
    ]

-- every element of one list is among those of another
abbrev AreAmong : {A : Type 0} → (A → A → Bool) → List A → List A → Type 0
AreAmong {A} eq xs ys = (z : A) → list_any (eq z) xs ≡ true → list_any (eq z) ys ≡ true

module _ {A : Type 0} {eq : A → A → Bool} (laws : IsEquivalence eq) where
  -- one element that is among them already
  among-old : (x : A) (xs ys : List A) → AreAmong eq xs ys → list_any (eq x) ys ≡ true → AreAmong eq (x ∷ xs) ys
  among-old x xs ys h is z some = elim (cases_Bool (eq z x)) [
    | inl same ↦ list_any_congr laws z x ys same ∙ is
    | inr other ↦ h z (sym (ap (λ b. b || list_any (eq z) xs) other) ∙ some)
  ]

  -- one element more in both
  among-more : (x : A) (xs ys : List A) → AreAmong eq xs ys → AreAmong eq (x ∷ xs) (x ∷ ys)
  among-more x xs ys h z some = elim (cases_Bool (eq z x)) [
    | inl same ↦ ap (λ b. b || list_any (eq z) ys) same
    | inr other ↦ ap (λ b. b || list_any (eq z) ys) other ∙ h z (sym (ap (λ b. b || list_any (eq z) xs) other) ∙ some)
  ]

  among-push : (x : A) (xs ys : List A) → AreAmong eq xs ys → AreAmong eq xs (x ∷ ys)
  among-push x xs ys h z some = elim (cases_Bool (eq z x)) [
    | inl same ↦ ap (λ b. b || list_any (eq z) ys) same
    | inr other ↦ ap (λ b. b || list_any (eq z) ys) other ∙ h z some
  ]

  -- beside more there are fewer different ones
  different-among : (xs some more : List A) → AreAmong eq some more → different_beside eq xs more ≤ different_beside eq xs some
  different-among [] some more h = omega arith
  different-among (x ∷ xs) some more h = elim (cases_Bool (list_any (eq x) more)) [
    | inl in_more ↦ elim (cases_Bool (list_any (eq x) some)) [
      | inl in_some ↦ rw (in_more, in_some) (different-among xs some more h)
      | inr new ↦ rw (in_more, new) (let less = different-among xs (x ∷ some) more (among-old x some more h in_more) in omega arith)
    ]
    | inr not_more ↦ elim (cases_Bool (list_any (eq x) some)) [
      | inl in_some ↦ let both : true ≡ false = sym (h x in_some) ∙ not_more in cc
      | inr new ↦ rw (not_more, new) (let less = different-among xs (x ∷ some) (x ∷ more) (among-more x some more h) in omega arith)
    ]
  ]

  -- a list has no more different elements than its parts
  pub different-append : (xs ys others : List A)
      → different_beside eq (xs ++ ys) others ≤ different_beside eq xs others + different_beside eq ys others
  different-append [] ys others = omega arith
  different-append (x ∷ xs) ys others =
      elim (list_any (eq x) others) as (λ b. cond b (different_beside eq (xs ++ ys) others) (1 + different_beside eq (xs ++ ys) (x ∷ others)) ≤ cond b (different_beside eq xs others) (1 + different_beside eq xs (x ∷ others)) + different_beside eq ys others) [
        | true ↦ different-append xs ys others
        | false ↦ let more = different-append xs ys (x ∷ others) in let less = different-among ys others (x ∷ others) (among-push x others others (λ z some. some)) in omega arith
      ]

pub same_key_equiv : IsEquivalence same_key
same_key_equiv = and_equiv (on_equiv (λ (k : ℕ × ℕ). k.0) nat_eq_equiv) (on_equiv (λ (k : ℕ × ℕ). k.1) nat_eq_equiv)

-- a key that an operation changed is the one that it named
pub changed-named : (op : Op) (r : Reply) (key : ℕ × ℕ) → changed_key op r ≡ Some key → named_key op ≡ Some key
changed-named (Insert m k v) (Flag true) key is = is
changed-named (Remove m k) (Value (Some v)) key is = is
changed-named (Put m k v) r key is = is
changed-named _ _ key is = absurd (cc is)

-- the elements that acts name, as a test or a limit counts them
module _ {A : Type 0} (eq : A → A → Bool) (named : Act → Option A) (xs ys : List Act) where
  named-prefix : different eq (filter_map named xs) ≤ different eq (filter_map named (xs ++ ys))
  named-prefix =
      subst (λ zs. different eq (filter_map named xs) ≤ different eq zs) (sym (filter_map-append named xs ys)) (different-prefix eq (filter_map named xs) (filter_map named ys) [])

  named-append : IsEquivalence eq
      → different eq (filter_map named (xs ++ ys)) ≤ different eq (filter_map named xs) + different eq (filter_map named ys)
  named-append laws =
      subst (λ zs. different eq zs ≤ different eq (filter_map named xs) + different eq (filter_map named ys)) (sym (filter_map-append named xs ys)) (different-append laws (filter_map named xs) (filter_map named ys) [])

module _ (xs ys : List Act) where
  changed_nothing-append : count_by (λ (a : Act). changed_nothing a.op a.reply) (xs ++ ys) ≡ count_by (λ (a : Act). changed_nothing a.op a.reply) xs + count_by (λ (a : Act). changed_nothing a.op a.reply) ys
  changed_nothing-append = count-append (λ (a : Act). changed_nothing a.op a.reply) xs ys

  met_end-append : count_by (λ (a : Act). met_end a.op a.reply) (xs ++ ys) ≡ count_by (λ (a : Act). met_end a.op a.reply) xs + count_by (λ (a : Act). met_end a.op a.reply) ys
  met_end-append = count-append (λ (a : Act). met_end a.op a.reply) xs ys

  -- the nodes of two lists add up
  pub nodes-append : nodes (xs ++ ys) ≡ nodes xs + nodes ys
  nodes-append = count-append (λ (a : Act). added a.op a.reply) xs ys

  -- both together read and write no more than the one and then the other
  pub reads-append : reads (xs ++ ys) ≤ reads xs + reads ys
  reads-append =
      omega (arith, changed_nothing-append, met_end-append, named-append nat_eq (λ (a : Act). looked_queue a.op a.reply) xs ys nat_eq_equiv)

  pub writes-append : writes (xs ++ ys) ≤ writes xs + writes ys
  writes-append =
      omega (arith, nodes-append, named-append same_key (λ (a : Act). named_key a.op) xs ys same_key_equiv, named-append same_key (λ (a : Act). changed_key a.op a.reply) xs ys same_key_equiv, named-append nat_eq (λ (a : Act). changed_queue a.op a.reply) xs ys nat_eq_equiv)

  -- acts that begin others count no more than all of them
  pub nodes-prefix : nodes xs ≤ nodes (xs ++ ys)
  nodes-prefix = omega (arith, nodes-append)

  pub reads-prefix : reads xs ≤ reads (xs ++ ys)
  reads-prefix =
      omega (arith, changed_nothing-append, met_end-append, named-prefix nat_eq (λ (a : Act). looked_queue a.op a.reply) xs ys)

  pub writes-prefix : writes xs ≤ writes (xs ++ ys)
  writes-prefix =
      omega (arith, nodes-append, named-prefix same_key (λ (a : Act). named_key a.op) xs ys, named-prefix same_key (λ (a : Act). changed_key a.op a.reply) xs ys, named-prefix nat_eq (λ (a : Act). changed_queue a.op a.reply) xs ys)

  pub few-prefix : (most : Bounds) → AreFew most (xs ++ ys) → AreFew most xs
  few-prefix most few =
      record { reads = omega (arith, few.reads, reads-prefix); writes = omega (arith, few.writes, writes-prefix); nodes = omega (arith, few.nodes, nodes-prefix) }

-- what is within bounds is within larger ones
pub few-more : (most more : Bounds) (acts : List Act) → AllowAll most more → AreFew most acts → AreFew more acts
few-more most more acts allow few =
    record { reads = omega (arith, allow.reads, few.reads); writes = omega (arith, allow.writes, few.writes); nodes = omega (arith, allow.nodes, few.nodes) }

pub small-more : (most more : Bounds) (makes : List Act → Type 0) (s : State) → AllowAll most more → IsSmall most makes s
    → IsSmall more makes s
small-more most more makes s allow small acts made right = few-more most more acts allow (small acts made right)
