-- What words write is what is read of them.
use Rattle.std.proofs.Common.{◌≡◌, ◌≢◌, ◌<◌, ◌≤◌, ◌∙◌, ◌++◌, ◌∷◌, ◌↔◌, ◌⊎◌, ℕ, suc, List, [], Bool, true, false, cond, Option, Some, None, is_some, length, get_or, drop, drop-cons, append_assoc, refl, sym, ap, subst, arith, inl, inr}
use Rattle.std.specs.Prelude.{◌==◌, option_and_then, codes, flat_map}
use Rattle.std.specs.Option.{option_map}
use Rattle.std.specs.Str.{bytes_eq}
use Rattle.std.proofs.lemmas.Bool.{cases_Bool, eqb-true}
use Rattle.std.proofs.lemmas.Slice.Eq.{bytes_eq-Decides}
use Rattle.std.proofs.lemmas.Str.Pattern.{IsSplitOnceResult, split_parts}
use Rattle.std.proofs.lemmas.List.{drop_all}
use Rattle.std.specs.Borrow.{Bor}
use Rattle.md_program_edge.specs.Words.{texts}
use Rattle.md_orders.specs.Grammar.{number_within}
use Rattle.md_orders.proofs.Keeps.{and_then-inv, map-inv}
use Rattle.md_program_edge.specs.declared.words.Name.{Name}
use Rattle.md_program_edge.specs.declared.words.Name.TheVariants.{Callers, Nodes, Tries, Make, Lines}
use Rattle.md_program_edge.specs.declared.words.Given.{Given}
use Rattle.md_program_edge.specs.declared.words.Reading.{Reading}
use Rattle.md_program_edge.specs.declared.words.Options.{Options}
use Rattle.md_program_edge.specs.Options.{text_of, lowest, highest, Setting, words_of, is_same, values_of, IsGiven, value_in, AreGiven, options_of, Write}
use Rattle.md_program_edge.specs.Reading.{name_in, at_equals, set_value, with_value, value_read, begins, next_from, next_reading}

-- a text whose first = stands after these bytes
pub at_equals-split : (xs ys : List ℕ) → ((i : ℕ) → i < length xs → get_or xs i 0 ≢ 61) → at_equals (xs ++ 61 ∷ ys) ≡ Some (xs, ys)
unfolding at_equals
at_equals-split [] ys other = refl
at_equals-split (c ∷ xs) ys other = elim (cases_Bool (c == 61)) [
  | inl is ↦ absurd (other 0 (omega arith) (eqb-true c 61 is))
  | inr not ↦ rw not (ap (option_map (λ p. (c ∷ p.0, p.1))) (at_equals-split xs ys (λ i inside. other (suc i) (omega arith))))
]

-- a text without one
pub at_equals-none : (xs : List ℕ) → ((i : ℕ) → i < length xs → get_or xs i 0 ≢ 61) → at_equals xs ≡ None
unfolding at_equals
at_equals-none [] other = refl
at_equals-none (c ∷ xs) other = elim (cases_Bool (c == 61)) [
  | inl is ↦ absurd (other 0 (omega arith) (eqb-true c 61 is))
  | inr not ↦ rw not (ap (option_map (λ p. (c ∷ p.0, p.1))) (at_equals-none xs (λ i inside. other (suc i) (omega arith))))
]

-- what `split_once` finds
pub split-none : (word : List ℕ) (r : Option (Bor (List ℕ) × Bor (List ℕ))) → IsSplitOnceResult 61 word r → r ≡ None → at_equals word ≡ None
split-none word None found e = at_equals-none word (split_parts 61 word None found (omega arith))
split-none word (Some x) found e = cc e

pub split-some : (word : List ℕ) (r : Option (Bor (List ℕ) × Bor (List ℕ))) (text value : Bor (List ℕ)) → IsSplitOnceResult 61 word r → r ≡ Some (text, value) → at_equals word ≡ Some (text.now, value.now)
split-some word None text value found e = cc e
split-some word (Some x) text value found e =
    let parts = split_parts 61 word (Some x) found (omega arith) in
    let same : x ≡ (text, value) = cc e in
    ap at_equals parts.0 ∙ at_equals-split x.0.now x.1.now parts.1 ∙ ap (λ (p : Bor (List ℕ) × Bor (List ℕ)). Some (p.0.now, p.1.now)) same

-- what stands round the first =
at_equals-inv : (xs : List ℕ) (p : List ℕ × List ℕ) → at_equals xs ≡ Some p → xs ≡ p.0 ++ 61 ∷ p.1
unfolding at_equals
at_equals-inv [] p e = cc e
at_equals-inv (c ∷ xs) p e = elim (cases_Bool (c == 61)) [
  | inl is ↦
      let here : p ≡ ([], xs) = cc (rw is at e) in
      let equals = eqb-true c 61 is in
      rw (here, equals) refl
  | inr not ↦
      let (q, found, last) = map-inv _ (at_equals xs) p (rw not at e) in
      let rest = at_equals-inv xs q found in
      subst (λ (r : List ℕ × List ℕ). c ∷ xs ≡ r.0 ++ 61 ∷ r.1) last (ap (λ ys. c ∷ ys) rest)
]

-- an option's name has no =, and ends at the first one after it
name_alone : (name : Name) → at_equals (text_of name) ≡ None
unfolding at_equals
name_alone Callers = refl
name_alone Nodes = refl
name_alone Tries = refl
name_alone Make = refl
name_alone Lines = refl

name_before : (name : Name) (text : List ℕ) → at_equals (text_of name ++ codes "=" ++ text) ≡ Some (text_of name, text)
unfolding at_equals
name_before Callers text = refl
name_before Nodes text = refl
name_before Tries text = refl
name_before Make text = refl
name_before Lines text = refl

-- a name is read as itself
name_read : (name : Name) → name_in (text_of name) ≡ Some name
name_read Callers = refl
name_read Nodes = refl
name_read Tries = refl
name_read Make = refl
name_read Lines = refl

-- and a text that is read as a name is its text
one_choice : (text : List ℕ) (x name : Name) (rest : Option Name) → (rest ≡ Some name → text ≡ text_of name) → cond (bytes_eq text (text_of x)) (Some x) rest ≡ Some name → text ≡ text_of name
one_choice text x name rest other e = elim (cases_Bool (bytes_eq text (text_of x))) [
  | inl same ↦ let is : x ≡ name = cc (rw same at e) in (bytes_eq-Decides text (text_of x)).0 same ∙ ap text_of is
  | inr not ↦ other (rw not at e)
]

name_in-inv : (text : List ℕ) (name : Name) → name_in text ≡ Some name → text ≡ text_of name
name_in-inv text name e =
    one_choice text Callers name _ (one_choice text Nodes name _ (one_choice text Tries name _ (one_choice text Make name _ (one_choice text Lines name None (λ n. cc n))))) e

-- no values
abbrev pub no_values : Given
no_values = record { callers = None; nodes = None; tries = None; make = None; lines = None }

none_in : (name : Name) → value_in no_values name ≡ None
none_in Callers = refl
none_in Nodes = refl
none_in Tries = refl
none_in Make = refl
none_in Lines = refl

-- a name without a value gets the one that a text writes
pub with-set : (given : Given) (name x : Name) (text : List ℕ) (n : ℕ) → name ≡ x → is_some (value_in given name) ≡ false → number_within (lowest name) (highest name) text ≡ Some n → Some (set_value given x n) ≡ with_value given name text
with-set given name x text n is none read = rw (none, read, is) refl

-- a name that got a value has it
set_here : (given : Given) (name : Name) (n : ℕ) → value_in (set_value given name n) name ≡ Some n
set_here given Callers n = refl
set_here given Nodes n = refl
set_here given Tries n = refl
set_here given Make n = refl
set_here given Lines n = refl

-- a name is the one that got a value, or has what it had
same_or_other : (name other : Name) → (name ≡ other) ⊎ ((is_same name other ≡ false) × ((given : Given) (n : ℕ) → value_in (set_value given other n) name ≡ value_in given name))
same_or_other Callers Callers = inl refl
same_or_other Callers Nodes = inr (refl, λ given n. refl)
same_or_other Callers Tries = inr (refl, λ given n. refl)
same_or_other Callers Make = inr (refl, λ given n. refl)
same_or_other Callers Lines = inr (refl, λ given n. refl)
same_or_other Nodes Callers = inr (refl, λ given n. refl)
same_or_other Nodes Nodes = inl refl
same_or_other Nodes Tries = inr (refl, λ given n. refl)
same_or_other Nodes Make = inr (refl, λ given n. refl)
same_or_other Nodes Lines = inr (refl, λ given n. refl)
same_or_other Tries Callers = inr (refl, λ given n. refl)
same_or_other Tries Nodes = inr (refl, λ given n. refl)
same_or_other Tries Tries = inl refl
same_or_other Tries Make = inr (refl, λ given n. refl)
same_or_other Tries Lines = inr (refl, λ given n. refl)
same_or_other Make Callers = inr (refl, λ given n. refl)
same_or_other Make Nodes = inr (refl, λ given n. refl)
same_or_other Make Tries = inr (refl, λ given n. refl)
same_or_other Make Make = inl refl
same_or_other Make Lines = inr (refl, λ given n. refl)
same_or_other Lines Callers = inr (refl, λ given n. refl)
same_or_other Lines Nodes = inr (refl, λ given n. refl)
same_or_other Lines Tries = inr (refl, λ given n. refl)
same_or_other Lines Make = inr (refl, λ given n. refl)
same_or_other Lines Lines = inl refl

same_here : (name : Name) → is_same name name ≡ true
same_here Callers = refl
same_here Nodes = refl
same_here Tries = refl
same_here Make = refl
same_here Lines = refl

-- the same values are the same
same_given : (a b : Given) → ((name : Name) → value_in a name ≡ value_in b name) → a ≡ b
same_given a b same =
    let callers = same Callers in
    let nodes = same Nodes in
    let tries = same Tries in
    let make = same Make in
    let lines = same Lines in
    let first : a ≡ record { callers = b.callers; nodes = b.nodes; tries = b.tries; make = b.make; lines = b.lines } = rw (sym callers, sym nodes, sym tries, sym make, sym lines) refl in
    first

-- a value that was taken
taken-inv : (o v : Option ℕ) (set : ℕ → Given) (given : Given) → cond (is_some o) None (option_map set v) ≡ Some given → (o ≡ None) × (n : ℕ) × (v ≡ Some n) × (set n ≡ given)
taken-inv None v set given e = let (n, is, last) = map-inv set v given e in (refl, n, is, last)
taken-inv (Some x) v set given e = cc e

-- the values after settings, one after another
abbrev collect : Given → List Setting → Option Given
collect given [] = Some given
collect given (s ∷ ss) = option_and_then (λ next. collect next ss) (with_value given s.name s.value)

-- what texts give a name that may have a value before them
abbrev IsGivenAfter : Option ℕ → Name → List (List ℕ) → Option ℕ → Type 0
IsGivenAfter None name texts o = IsGiven name texts o
IsGivenAfter (Some n) name texts o = (texts ≡ []) × (o ≡ Some n)

-- no texts give nothing
after-none : (o : Option ℕ) (name : Name) → IsGivenAfter o name [] o
after-none None name = refl
after-none (Some n) name = (refl, refl)

after-none-inv : (o p : Option ℕ) (name : Name) → IsGivenAfter o name [] p → o ≡ p
after-none-inv None None name given = refl
after-none-inv None (Some n) name given = cc given.1
after-none-inv (Some m) p name given = sym given.1

-- a first text is the only one, and gives the value
after-first : (o p : Option ℕ) (name : Name) (text : List ℕ) (texts : List (List ℕ)) → IsGivenAfter o name (text ∷ texts) p
    → (o ≡ None) × (n : ℕ) × (number_within (lowest name) (highest name) text ≡ Some n) × (texts ≡ []) × (p ≡ Some n)
after-first None None name text texts given = cc given
after-first None (Some n) name text texts given =
    let (own, is, value) = given in
    let same : text ≡ own = cc is in
    let last : texts ≡ [] = cc is in
    (refl, n, ap (number_within (lowest name) (highest name)) same ∙ value, last, refl)
after-first (Some m) p name text texts given = cc given.0

-- the values of a name with one setting more
values-here : (s : Setting) (ss : List Setting) → values_of s.name (s ∷ ss) ≡ s.value ∷ values_of s.name ss
values-here s ss = rw (same_here s.name) refl

values-other : (name : Name) (s : Setting) (ss : List Setting) → is_same name s.name ≡ false → values_of name (s ∷ ss) ≡ values_of name ss
values-other name s ss other = rw other refl

-- what settings collect is what they give each name
collect-gives : (ss : List Setting) (given all : Given) → collect given ss ≡ Some all → (name : Name) → IsGivenAfter (value_in given name) name (values_of name ss) (value_in all name)
collect-gives [] given all e name = let same : given ≡ all = cc e in subst (λ g. IsGivenAfter (value_in given name) name [] (value_in g name)) same (after-none (value_in given name) name)
collect-gives (s ∷ ss) given all e name =
    let (next, took, rest) = and_then-inv (λ g. collect g ss) (with_value given s.name s.value) all e in
    let (none, n, value, set) = taken-inv (value_in given s.name) _ (set_value given s.name) next took in
    let before = collect-gives ss next all rest in
    elim (same_or_other name s.name) [
      | inl same ↦
          let here = subst (λ g. IsGivenAfter (value_in g s.name) s.name (values_of s.name ss) (value_in all s.name)) (sym set) (before s.name) in
          let only = subst (λ o. IsGivenAfter o s.name (values_of s.name ss) (value_in all s.name)) (set_here given s.name n) here in
          let is : IsGiven s.name (values_of s.name (s ∷ ss)) (Some n) = (s.value, values-here s ss ∙ ap (λ texts. s.value ∷ texts) only.0, value) in
          subst (λ k. IsGivenAfter (value_in given k) k (values_of k (s ∷ ss)) (value_in all k)) (sym same)
          (subst (λ o. IsGivenAfter o s.name (values_of s.name (s ∷ ss)) (value_in all s.name)) (sym none)
          (subst (IsGiven s.name (values_of s.name (s ∷ ss))) (sym only.1) is))
      | inr (other, kept) ↦
          subst (λ texts. IsGivenAfter (value_in given name) name texts (value_in all name)) (sym (values-other name s ss other))
          (subst (λ o. IsGivenAfter o name (values_of name ss) (value_in all name)) (ap (λ g. value_in g name) (sym set) ∙ kept given n) (before name))
    ]

gives-collect : (ss : List Setting) (given all : Given) → ((name : Name) → IsGivenAfter (value_in given name) name (values_of name ss) (value_in all name)) → collect given ss ≡ Some all
gives-collect [] given all gives = ap Some (same_given given all (λ name. after-none-inv _ _ name (gives name)))
gives-collect (s ∷ ss) given all gives =
    let (none, n, value, last, has) = after-first _ _ s.name s.value _ (subst (λ texts. IsGivenAfter (value_in given s.name) s.name texts (value_in all s.name)) (values-here s ss) (gives s.name)) in
    let next = set_value given s.name n in
    let took : with_value given s.name s.value ≡ Some next = ap (λ (o : Option ℕ). cond (is_some o) None (option_map (set_value given s.name) (number_within (lowest s.name) (highest s.name) s.value))) none ∙ ap (option_map (set_value given s.name)) value in
    ap (option_and_then (λ g. collect g ss)) took ∙ gives-collect ss next all (λ name. elim (same_or_other name s.name) [
      | inl same ↦
          let is : IsGivenAfter (Some n) s.name (values_of s.name ss) (value_in all s.name) = (last, has) in
          subst (λ k. IsGivenAfter (value_in next k) k (values_of k ss) (value_in all k)) (sym same)
          (subst (λ o. IsGivenAfter o s.name (values_of s.name ss) (value_in all s.name)) (sym (set_here given s.name n)) is)
      | inr (other, kept) ↦
          subst (λ texts. IsGivenAfter (value_in next name) name texts (value_in all name)) (values-other name s ss other)
          (subst (λ o. IsGivenAfter o name (values_of name (s ∷ ss)) (value_in all name)) (sym (kept given n)) (gives name))
    ])

-- the values that are read from words
abbrev pub read_from : Reading → List (List ℕ) → Option Given
read_from reading [] = cond (is_some reading.waiting) None (Some reading.given)
read_from reading (word ∷ words) = option_and_then (λ next. read_from next words) (next_reading reading word)

-- a reading that no name waits in
abbrev pub at_rest : Given → Reading
at_rest given = record { given = given; waiting = None }

-- what is read of the words of a setting
next-one : (given : Given) (name : Name) (text : List ℕ) → next_from given None (text_of name ++ codes "=" ++ text) ≡ value_read given name text
next-one given name text = ap (begins given (text_of name ++ codes "=" ++ text)) (name_before name text) ∙ ap (option_and_then (λ n. value_read given n text)) (name_read name)

next-two : (given : Given) (name : Name) → next_from given None (text_of name) ≡ Some (record { given = given; waiting = Some name })
next-two given name = ap (begins given (text_of name)) (name_alone name) ∙ ap (option_map (λ n. record { given = given; waiting = Some n })) (name_read name)

-- a chain after a step that can't fail, and a chain of the same steps
then-map : {A B C : Type 0} (f : B → Option C) (g : A → B) (o : Option A) → option_and_then f (option_map g o) ≡ option_and_then (λ x. f (g x)) o
then-map f g None = refl
then-map f g (Some x) = refl

then-same : {A B : Type 0} (f g : A → Option B) (o : Option A) → ((x : A) → f x ≡ g x) → option_and_then f o ≡ option_and_then g o
then-same f g None same = refl
then-same f g (Some x) same = same x

-- the words of settings are read as the settings
read-settings : (ss : List Setting) (given : Given) → read_from (at_rest given) (flat_map words_of ss) ≡ collect given ss
read-settings [] given = refl
read-settings (s ∷ ss) given =
    let rest = flat_map words_of ss in
    let one : List ℕ = text_of s.name ++ codes "=" ++ s.value in
    let left : (next : Given) → read_from (at_rest next) rest ≡ collect next ss = λ next. read-settings ss next in
    let read = then-map (λ next. read_from next rest) at_rest (with_value given s.name s.value) ∙ then-same _ _ (with_value given s.name s.value) left in
    elim (cases_Bool s.in_one) [
      | inl is ↦
          ap (λ b. read_from (at_rest given) (cond b (one ∷ []) (text_of s.name ∷ s.value ∷ []) ++ rest)) is
          ∙ ap (option_and_then (λ next. read_from next rest)) (next-one given s.name s.value) ∙ read
      | inr two ↦
          ap (λ b. read_from (at_rest given) (cond b (one ∷ []) (text_of s.name ∷ s.value ∷ []) ++ rest)) two
          ∙ ap (option_and_then (λ next. read_from next (s.value ∷ rest))) (next-two given s.name) ∙ read
    ]

-- the words of a name that waits
abbrev waiting_words : Option Name → List (List ℕ)
waiting_words None = []
waiting_words (Some name) = text_of name ∷ []

-- that words, after a name that waits, are settings, by which these values are collected
abbrev AreSettings : Option Name → List (List ℕ) → Given → Given → Type 0
AreSettings waiting words given all = (ss : List Setting) × (waiting_words waiting ++ words ≡ flat_map words_of ss) × (collect given ss ≡ Some all)

-- a value was read, and the rest are settings
settings-more : (name : Name) (text : List ℕ) (in_one : Bool) (first : List (List ℕ)) (words : List (List ℕ)) (given next all : Given) → first ≡ words_of (record { name = name; value = text; in_one = in_one })
    → with_value given name text ≡ Some next → AreSettings None words next all → (ss : List Setting) × (first ++ words ≡ flat_map words_of ss) × (collect given ss ≡ Some all)
settings-more name text in_one first words given next all is took (ss, written, collected) = (
  (record { name = name; value = text; in_one = in_one }) ∷ ss,
  ap (λ ws. ws ++ words) is ∙ ap (λ ws. words_of (record { name = name; value = text; in_one = in_one }) ++ ws) written,
  ap (option_and_then (λ g. collect g ss)) took ∙ collected,
)

-- by what a word begins
begins-inv : (word : List ℕ) (words : List (List ℕ)) (given all : Given) (parts : Option (List ℕ × List ℕ)) → at_equals word ≡ parts
    → ((given : Given) (waiting : Option Name) → read_from (record { given = given; waiting = waiting }) words ≡ Some all → AreSettings waiting words given all)
    → option_and_then (λ next. read_from next words) (begins given word parts) ≡ Some all → AreSettings None (word ∷ words) given all
begins-inv word words given all None at after e =
    let (next, is, rest) = and_then-inv _ (begins given word None) all e in
    let (name, named, last) = map-inv _ (name_in word) next is in
    let (ss, written, collected) = after given (Some name) (subst (λ r. read_from r words ≡ Some all) (sym last) rest) in
    (ss, ap (λ w. w ∷ words) (name_in-inv word name named) ∙ written, collected)
begins-inv word words given all (Some (before, text)) at after e =
    let (next, is, rest) = and_then-inv _ (begins given word (Some (before, text))) all e in
    let (name, named, had) = and_then-inv _ (name_in before) next is in
    let (given', took, last) = map-inv at_rest (with_value given name text) next had in
    let left = after given' None (subst (λ r. read_from r words ≡ Some all) (sym last) rest) in
    let whole : word ≡ text_of name ++ codes "=" ++ text = at_equals-inv word (before, text) at ∙ ap (λ b. b ++ 61 ∷ text) (name_in-inv before name named) ∙ sym (append_assoc (text_of name) (codes "=") text) in
    settings-more name text true (word ∷ []) words given given' all (ap (λ w. w ∷ []) whole) took left

-- words that are read to their end are settings
read-inv : (words : List (List ℕ)) (given : Given) (waiting : Option Name) (all : Given) → read_from (record { given = given; waiting = waiting }) words ≡ Some all → AreSettings waiting words given all
read-inv [] given None all e = ([], refl, e)
read-inv [] given (Some name) all e = cc e
read-inv (word ∷ words) given None all e = begins-inv word words given all (at_equals word) refl (λ next waiting. read-inv words next waiting all) e
read-inv (word ∷ words) given (Some name) all e =
    let (next, is, rest) = and_then-inv _ (value_read given name word) all e in
    let (given', took, last) = map-inv at_rest (with_value given name word) next is in
    let left = read-inv words given' None all (subst (λ r. read_from r words ≡ Some all) (sym last) rest) in
    settings-more name word false (text_of name ∷ word ∷ []) words given given' all refl took left

-- the values that are read from words are those that the words give
read-given : (words : List (List ℕ)) (given : Given) → (read_from (at_rest no_values) words ≡ Some given) ↔ AreGiven words given
read-given words given = (
  λ e. let (ss, written, collected) = read-inv words no_values None given e in record {
    settings = ss;
    written = written;
    each = λ name. subst (λ o. IsGivenAfter o name (values_of name ss) (value_in given name)) (none_in name) (collect-gives ss no_values given collected name);
  },
  λ are. ap (read_from (at_rest no_values)) are.written ∙ read-settings are.settings no_values
      ∙ gives-collect are.settings no_values given (λ name. subst (λ o. IsGivenAfter o name (values_of name are.settings) (value_in given name)) (sym (none_in name)) (are.each name)),
)

pub given-is : (result : Option Given) (words : List (List ℕ)) → result ≡ read_from (at_rest no_values) words → (given : Given) → (result ≡ Some given) ↔ AreGiven words given
given-is result words is given = rw is (read-given words given)

-- the next word is read as a name that waits, or as one with its value
pub next-none : (r : Reading) (word : List ℕ) → r.waiting ≡ None → at_equals word ≡ None → next_reading r word ≡ option_map (λ name. record { given = r.given; waiting = Some name }) (name_in word)
next-none r word rests at = ap (λ w. next_from r.given w word) rests ∙ ap (begins r.given word) at

pub next-some : (r : Reading) (word : List ℕ) (p : List ℕ × List ℕ) → r.waiting ≡ None → at_equals word ≡ Some p → next_reading r word ≡ option_and_then (λ name. value_read r.given name p.1) (name_in p.0)
next-some r word p rests at = ap (λ w. next_from r.given w word) rests ∙ ap (begins r.given word) at

-- a word that isn't read ends the reading, and so does the last word
pub read-stop : (r : Reading) (words : List (Bor (List ℕ))) (i : ℕ) (none : Bor (List ℕ)) → i < length words → next_reading r (get_or words i none).now ≡ None → read_from r (texts (drop i words)) ≡ None
read-stop r words i none inside stop =
    ap (λ ws. read_from r (texts ws)) (drop-cons words i none inside) ∙ ap (option_and_then (λ next. read_from next (texts (drop (suc i) words)))) stop

pub read-end : (r : Reading) (words : List (Bor (List ℕ))) (i : ℕ) (waiting : Option Name) → length words ≤ i → r.waiting ≡ waiting → read_from r (texts (drop i words)) ≡ cond (is_some waiting) None (Some r.given)
read-end r words i waiting past is = ap (λ ws. read_from r (texts ws)) (drop_all i words past) ∙ ap (λ w. cond (is_some w) None (Some r.given)) is

-- the options of values that words give are those that the words write
write-is : (words : List (List ℕ)) (given : Option Given) → ((g : Given) → (given ≡ Some g) ↔ AreGiven words g) → (options : Options) → (option_and_then options_of given ≡ Some options) ↔ Write words options
write-is words given are options = (
  λ e. let (g, is, last) = and_then-inv options_of given options e in record { given = g; are_given = (are g).0 is; are = last },
  λ w. ap (option_and_then options_of) ((are w.given).1 w.are_given) ∙ w.are,
)

pub write-as : (words : List (List ℕ)) (given : Option Given) (result : Option Options) → ((g : Given) → (given ≡ Some g) ↔ AreGiven words g) → result ≡ option_and_then options_of given → (options : Options) → (result ≡ Some options) ↔ Write words options
write-as words given result are is options = rw is (write-is words given are options)
