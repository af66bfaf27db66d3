-- Commands whose orders get other names.
use Rattle.std.proofs.Common.{◌≡◌, ◌≤◌, ◌+◌, ◌-◌, ◌∙◌, ◌++◌, ◌∷◌, ℕ, zero, suc, List, [], Bool, true, false, cond, Option, Some, None, get_or, set, replicate, length, refl, sym, ap, ap₂, subst, arith, length-append}
use Rattle.std.specs.Prelude.{◌&&◌, ◌==◌, slice_get, option_and_then}
use Rattle.std.specs.Option.{option_map}
use Rattle.std.proofs.lemmas.List.Sums.{sum_by-cons}
use Rattle.md_book.specs.declared.commands.Command.{Command}
use Rattle.md_book.specs.declared.commands.Command.TheVariants.{Place, Cancel, Fill, Kill, Depth, Account}
use Rattle.md_book.specs.Commands.{IsCommand, IsName, name_of}
use Rattle.md_orders.specs.declared.version.Version.{Version}
use Rattle.md_orders.specs.declared.grammar.Terms.{Terms}
use Rattle.md_orders.specs.Records.{Row}
use Rattle.md_orders.specs.Grammar.{byte_at, terms_of, number_at, side_at, price_at, account_at, command_of_kind, command_of}
use Rattle.md_orders.specs.Scripts.{list_of, with_list, at_line, count_of, IsNamed}
use Rattle.md_orders.specs.Renamed.{renamed, renamed_from, scripts_from}
use Rattle.md_orders.specs.Joined.{joined}

-- a command stays in range with another name, and has it
pub renamed-lawful : (name : ℕ) (c : Command) → IsName name → IsCommand c → IsCommand (renamed name c) × IsNamed name (renamed name c)
renamed-lawful name (Place n account side price quantity) is lawful = (record { named = is; offer = lawful.offer }, refl)
renamed-lawful name (Cancel order) is lawful = (lawful, tt)
renamed-lawful name (Fill account side price quantity places) is lawful = (lawful, tt)
renamed-lawful name (Kill account side price quantity places) is lawful = (lawful, tt)
renamed-lawful name (Depth side price) is lawful = (lawful, tt)
renamed-lawful name (Account account) is lawful = (lawful, tt)

-- the last of two names counts
renamed-twice : (n m : ℕ) (c : Command) → renamed n (renamed m c) ≡ renamed n c
renamed-twice n m (Place name account side price quantity) = refl
renamed-twice n m (Cancel order) = refl
renamed-twice n m (Fill account side price quantity places) = refl
renamed-twice n m (Kill account side price quantity places) = refl
renamed-twice n m (Depth side price) = refl
renamed-twice n m (Account account) = refl

-- a command that has the name stays as it is
renamed-same : (name : ℕ) (c : Command) → IsNamed name c → renamed name c ≡ c
renamed-same name (Place n account side price quantity) is = ap (λ k. Place k account side price quantity) (sym is)
renamed-same name (Cancel order) is = refl
renamed-same name (Fill account side price quantity places) is = refl
renamed-same name (Kill account side price quantity places) is = refl
renamed-same name (Depth side price) is = refl
renamed-same name (Account account) is = refl

-- the lines of commands behind others go on
pub renamed_from-append : (caller line : ℕ) (cs ds : List Command) → renamed_from caller line (cs ++ ds) ≡ renamed_from caller line cs ++ renamed_from caller (line + length cs) ds
renamed_from-append caller line [] ds = let same : line ≡ line + 0 = omega arith in ap (λ l. renamed_from caller l ds) same
renamed_from-append caller line (c ∷ cs) ds =
    let same : line + 1 + length cs ≡ line + suc (length cs) = omega arith in
    ap (λ more. renamed (name_of caller line) c ∷ more) (renamed_from-append caller (line + 1) cs ds ∙ ap (λ l. renamed_from caller (line + 1) cs ++ renamed_from caller l ds) same)

-- the last of two first lines counts
pub renamed_from-twice : (caller line before : ℕ) (cs : List Command) → renamed_from caller line (renamed_from caller before cs) ≡ renamed_from caller line cs
renamed_from-twice caller line before [] = refl
renamed_from-twice caller line before (c ∷ cs) = ap₂ (λ x xs. x ∷ xs) (renamed-twice (name_of caller line) (name_of caller before) c) (renamed_from-twice caller (line + 1) (before + 1) cs)

-- the command at an index has the name of its line
pub renamed_from-at : (caller line k : ℕ) (cs : List Command) → slice_get (renamed_from caller line cs) k ≡ option_map (renamed (name_of caller (line + k))) (slice_get cs k)
renamed_from-at caller line k [] = refl
renamed_from-at caller line zero (c ∷ cs) = let same : line ≡ line + 0 = omega arith in ap (λ l. Some (renamed (name_of caller l) c)) same
renamed_from-at caller line (suc k) (c ∷ cs) =
    let same : line + 1 + k ≡ line + suc k = omega arith in
    renamed_from-at caller (line + 1) k cs ∙ ap (λ l. option_map (renamed (name_of caller l)) (slice_get cs k)) same

-- as many commands as before
pub length-renamed_from : (caller line : ℕ) (cs : List Command) → length (renamed_from caller line cs) ≡ length cs
length-renamed_from caller line [] = refl
length-renamed_from caller line (c ∷ cs) = ap suc (length-renamed_from caller (line + 1) cs)

-- a script and one behind it have as many lines as both
pub length-joined : (caller : ℕ) (first second : List Command) → length (joined caller first second) ≡ length first + length second
length-joined caller first second = length-append first _ ∙ ap (λ n. length first + n) (length-renamed_from caller (length first + 1) second)

-- as many scripts as lists
pub length-scripts : (n : ℕ) (lists : List (List Command)) → length (scripts_from n lists) ≡ length lists
length-scripts n [] = refl
length-scripts n (cs ∷ lists) = ap suc (length-scripts (n + 1) lists)

-- the same, of what a value shows
pub length-lists : (lists scripts : List (List Command)) → scripts_from 1 lists ≡ scripts → length lists ≡ length scripts
length-lists lists scripts shown = sym (length-scripts 1 lists) ∙ ap length shown

-- and as many commands
pub count-scripts : (n : ℕ) (lists : List (List Command)) → count_of (scripts_from n lists) ≡ count_of lists
count-scripts n [] = refl
count-scripts n (cs ∷ lists) =
    sum_by-cons length (renamed_from n 1 cs) (scripts_from (n + 1) lists)
    ∙ ap₂ (λ a b. a + b) (length-renamed_from n 1 cs) (count-scripts (n + 1) lists)
    ∙ sym (sum_by-cons length cs lists)

-- the command at a line of a script
pub line-named : (scripts : List (List Command)) (caller line : ℕ) (cs : List Command) → 1 ≤ line → list_of scripts caller ≡ renamed_from caller 1 cs
    → at_line scripts caller line ≡ option_map (renamed (name_of caller line)) (slice_get cs (line - 1))
line-named scripts caller zero cs low is = absurd (omega arith)
line-named scripts caller (suc l) cs low is =
    let index : l ≡ suc l - 1 = omega arith in
    ap (λ xs. slice_get xs l) is ∙ renamed_from-at caller 1 l cs ∙ (λ i. option_map (renamed (name_of caller (one i))) (slice_get cs (index i)))
  where
    one : 1 + l ≡ suc l
    one = omega arith

-- scripts without commands
pub scripts-none : (n count : ℕ) → scripts_from n (replicate count []) ≡ replicate count []
scripts-none n zero = refl
scripts-none n (suc count) = ap (λ lists. [] ∷ lists) (scripts-none (n + 1) count)

-- by the index of a caller
script-at : (n i : ℕ) (lists : List (List Command)) → get_or (scripts_from n lists) i [] ≡ renamed_from (n + i) 1 (get_or lists i [])
script-at n i [] = refl
script-at n zero (cs ∷ lists) = let same : n ≡ n + 0 = omega arith in ap (λ caller. renamed_from caller 1 cs) same
script-at n (suc i) (cs ∷ lists) =
    let same : n + 1 + i ≡ n + suc i = omega arith in
    script-at (n + 1) i lists ∙ ap (λ caller. renamed_from caller 1 (get_or lists i [])) same

-- a caller's script
pub list_of-scripts : (lists : List (List Command)) (caller : ℕ) → list_of (scripts_from 1 lists) caller ≡ renamed_from caller 1 (list_of lists caller)
list_of-scripts lists zero = refl
list_of-scripts lists (suc c) =
    let same : 1 + c ≡ suc c = omega arith in
    script-at 1 c lists ∙ ap (λ caller. renamed_from caller 1 (get_or lists c [])) same

-- by the index of a caller, with another list
scripts-set : (n i : ℕ) (lists : List (List Command)) (list : List Command) → scripts_from n (set lists i list) ≡ set (scripts_from n lists) i (renamed_from (n + i) 1 list)
scripts-set n i [] list = refl
scripts-set n zero (cs ∷ lists) list = let same : n ≡ n + 0 = omega arith in ap (λ caller. renamed_from caller 1 list ∷ scripts_from (n + 1) lists) same
scripts-set n (suc i) (cs ∷ lists) list =
    let same : n + 1 + i ≡ n + suc i = omega arith in
    ap (λ more. renamed_from n 1 cs ∷ more) (scripts-set (n + 1) i lists list ∙ ap (λ caller. set (scripts_from (n + 1) lists) i (renamed_from caller 1 list)) same)

-- the scripts where a caller has another list
scripts-with_list : (lists : List (List Command)) (caller : ℕ) (list : List Command) → scripts_from 1 (with_list lists caller list) ≡ with_list (scripts_from 1 lists) caller (renamed_from caller 1 list)
scripts-with_list lists zero list = refl
scripts-with_list lists (suc c) list =
    let same : 1 + c ≡ suc c = omega arith in
    scripts-set 1 c lists list ∙ ap (λ caller. set (scripts_from 1 lists) c (renamed_from caller 1 list)) same

-- a command that has the name of its line is added as it is
pub scripts-add : (lists : List (List Command)) (caller : ℕ) (x : Command) → IsNamed (name_of caller (length (list_of (scripts_from 1 lists) caller) + 1)) x
    → scripts_from 1 (with_list lists caller (list_of lists caller ++ x ∷ [])) ≡ with_list (scripts_from 1 lists) caller (list_of (scripts_from 1 lists) caller ++ x ∷ [])
scripts-add lists caller x named =
    let mine = list_of lists caller in
    let is = list_of-scripts lists caller in
    let line : length (list_of (scripts_from 1 lists) caller) + 1 ≡ 1 + length mine = let long = ap length is ∙ length-renamed_from caller 1 mine in omega arith in
    let same = renamed-same (name_of caller (1 + length mine)) x (subst (λ l. IsNamed (name_of caller l) x) line named) in
    scripts-with_list lists caller (mine ++ x ∷ [])
    ∙ ap (with_list (scripts_from 1 lists) caller) (renamed_from-append caller 1 mine (x ∷ []) ∙ ap₂ (λ xs y. xs ++ y ∷ []) (sym is) same)

-- a choice, each side of which is renamed
renamed-choice : (m : ℕ) (b : Bool) (x y x2 y2 : Option Command) → x ≡ option_map (renamed m) x2 → y ≡ option_map (renamed m) y2 → cond b x y ≡ option_map (renamed m) (cond b x2 y2)
renamed-choice m true x y x2 y2 l r = l
renamed-choice m false x y x2 y2 l r = r

-- a command that is the same with any name
renamed-map : {A : Type 0} (m : ℕ) (f : A → Command) (o : Option A) → ((x : A) → f x ≡ renamed m (f x)) → option_map f o ≡ option_map (renamed m) (option_map f o)
renamed-map m f None same = refl
renamed-map m f (Some x) same = ap Some (same x)

renamed-then : {A : Type 0} (m : ℕ) (f : A → Option Command) (o : Option A) → ((x : A) → f x ≡ option_map (renamed m) (f x)) → option_and_then f o ≡ option_map (renamed m) (option_and_then f o)
renamed-then m f None same = refl
renamed-then m f (Some x) same = same x

-- a placed order
renamed-place : (n m : ℕ) (o : Option Terms) → option_map (λ t. Place m t.account t.side t.price t.quantity) o ≡ option_map (renamed m) (option_map (λ t. Place n t.account t.side t.price t.quantity) o)
renamed-place n m None = refl
renamed-place n m (Some t) = refl

-- a record whose order gets another name writes the command with that name
pub command_of-renamed : (version : Version) (n m : ℕ) (row : Row) → command_of version m row ≡ option_map (renamed m) (command_of version n row)
unfolding command_of
command_of-renamed version n m row = then-each (byte_at row 1)
  where
    kinds : (kind : ℕ) → command_of_kind version m row kind ≡ option_map (renamed m) (command_of_kind version n row kind)
    kinds kind =
        renamed-choice m ((kind == 80) && (length row == 6)) _ _ _ _ (renamed-place n m (terms_of row))
        (renamed-choice m ((kind == 67) && (length row == 4)) _ _ _ _ (renamed-then m _ (number_at row 2 1 _) (λ caller. renamed-map m _ (number_at row 3 1 _) (λ line. refl)))
        (renamed-choice m ((kind == 70) && (length row == 6)) _ _ _ _ (renamed-map m _ (terms_of row) (λ t. refl))
        (renamed-choice m ((kind == 75) && (length row == 6)) _ _ _ _ (renamed-map m _ (terms_of row) (λ t. refl))
        (renamed-choice m ((kind == 68) && (length row == 4)) _ _ _ _ (renamed-then m _ (side_at row 2) (λ side. renamed-map m _ (price_at row 3) (λ price. refl)))
        (renamed-choice m ((kind == 65) && (length row == 3)) _ _ _ _ (renamed-map m _ (account_at row 2) (λ account. refl)) refl)))))

    then-each : (o : Option ℕ) → option_and_then (command_of_kind version m row) o ≡ option_map (renamed m) (option_and_then (command_of_kind version n row) o)
    then-each None = refl
    then-each (Some kind) = kinds kind
