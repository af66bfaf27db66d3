-- Laws of resolutions: deciding a fate narrows them, and an entry at the end gives those from before, with and without it.
use Rattle.std.specs.Prelude.{◌≡◌, ◌+◌, suc, Bool, true, false, List, [], ◌∷◌, ◌++◌, length, refl}
use Rattle.std.proofs.Common.{sym, ap, subst, ◌∙◌, append_assoc, arith}
use Rattle.std.proofs.lemmas.List.{append-nil, length-append}
use Rattle.md_history.specs.declared.entries.Entry.{Entry}
use Rattle.md_history.specs.declared.entries.Fate.{Fate}
use Rattle.md_history.specs.declared.entries.Fate.TheVariants.{Committed, Aborted, Undecided}
use Rattle.md_history.specs.State.{State, run, IsRight}
use Rattle.md_history.specs.History.{IsResolution, IsLegal, AllCommittedSound, MayKeep, kept_acts}
use Rattle.md_history.specs.Front.{AllStay, Stays}
use Rattle.md_history.specs.HistoryLaws.{right-append}

-- a choice speaks of each entry
pub resolution-length : (es : List Entry) (fs : List Fate) (choice : List Bool) → IsResolution es fs choice
    → length choice ≡ length es
resolution-length [] [] [] r = refl
resolution-length [] [] (k ∷ ks) r = absurd r
resolution-length [] (f ∷ fs) choice r = absurd r
resolution-length (e ∷ es) [] choice r = absurd r
resolution-length (e ∷ es) (f ∷ fs) [] r = absurd r
resolution-length (e ∷ es) (f ∷ fs) (k ∷ ks) r = ap suc (resolution-length es fs ks r.1)

-- what a decided fate allows, the undecided one allowed, if a committed entry is sound
allowed-before : (f g : Fate) (e : Entry) (kept : Bool) → Stays f g → (g ≡ Committed → e.sound ≡ true) → MayKeep g e kept
    → MayKeep f e kept
allowed-before Undecided Committed e kept stays sound may = λ _. sound refl
allowed-before Undecided Aborted e kept stays sound may = λ keeps. let both : true ≡ false = sym keeps ∙ may in cc
allowed-before Undecided Undecided e kept stays sound may = may
allowed-before Committed g e kept stays sound may = subst (λ x. MayKeep x e kept) stays may
allowed-before Aborted g e kept stays sound may = subst (λ x. MayKeep x e kept) stays may

-- deciding narrows: a resolution of fates that go on is one of the earlier fates
pub narrows : (es : List Entry) (fs gs : List Fate) (choice : List Bool) → length fs ≡ length es → AllStay fs gs
    → AllCommittedSound es gs → IsResolution es gs choice → IsResolution es fs choice
narrows [] [] [] choice fated stay sound r = r
narrows [] [] (g ∷ gs) choice fated stay sound r = absurd r
narrows [] (f ∷ fs) gs choice fated stay sound r = absurd (omega arith)
narrows (e ∷ es) [] gs choice fated stay sound r = absurd (omega arith)
narrows (e ∷ es) (f ∷ fs) [] choice fated stay sound r = absurd stay
narrows (e ∷ es) (f ∷ fs) (g ∷ gs) [] fated stay sound r = absurd r
narrows (e ∷ es) (f ∷ fs) (g ∷ gs) (k ∷ ks) fated stay sound r =
    (allowed-before f g e k stay.0 sound.0 r.0, narrows es fs gs ks (omega arith) stay.1 sound.1 r.1)

-- So a legal history stays legal when fates are decided, and each committed entry is sound. There is no such law the other
-- way: fates that know less have more resolutions.
pub legal-narrows : (s : State) (es : List Entry) (fs gs : List Fate) → IsLegal s es fs → AllStay fs gs → length gs ≡ length es
    → AllCommittedSound es gs → IsLegal s es gs
legal-narrows s es fs gs legal stay fated sound = record {
  fated = fated;
  sound = sound;
  right = λ choice r. legal.right choice (narrows es fs gs choice legal.fated stay sound r);
}

-- committed entries are sound also where less is known, of a first part
pub sound-earlier : (es rest : List Entry) (fs gs : List Fate) → AllStay fs gs → AllCommittedSound (es ++ rest) gs
    → AllCommittedSound es fs
sound-earlier [] rest fs gs stay sound = tt
sound-earlier (e ∷ es) rest [] gs stay sound = tt
sound-earlier (e ∷ es) rest (f ∷ fs) [] stay sound = absurd stay
sound-earlier (e ∷ es) rest (Committed ∷ fs) (g ∷ gs) stay sound =
    ((λ _. sound.0 stay.0), sound-earlier es rest fs gs stay.1 sound.1)
sound-earlier (e ∷ es) rest (Aborted ∷ fs) (g ∷ gs) stay sound =
    ((λ other. let both : Aborted ≡ Committed = other in cc), sound-earlier es rest fs gs stay.1 sound.1)
sound-earlier (e ∷ es) rest (Undecided ∷ fs) (g ∷ gs) stay sound =
    ((λ other. let both : Undecided ≡ Committed = other in cc), sound-earlier es rest fs gs stay.1 sound.1)

-- the choice for a history and that for what follows it make one for both
pub resolution-append : (es later : List Entry) (fs gs : List Fate) (choice more : List Bool) → IsResolution es fs choice
    → IsResolution later gs more → IsResolution (es ++ later) (fs ++ gs) (choice ++ more)
resolution-append [] later [] gs [] more r q = q
resolution-append [] later [] gs (k ∷ ks) more r q = absurd r
resolution-append [] later (f ∷ fs) gs choice more r q = absurd r
resolution-append (e ∷ es) later [] gs choice more r q = absurd r
resolution-append (e ∷ es) later (f ∷ fs) gs [] more r q = absurd r
resolution-append (e ∷ es) later (f ∷ fs) gs (k ∷ ks) more r q = (r.0, resolution-append es later fs gs ks more r.1 q)

-- a choice for a history and what follows it, in its two parts
pub record IsInParts (es later : List Entry) (fs gs : List Fate) (choice : List Bool) : Type 0 where
  pub first : List Bool
  pub more : List Bool
  pub joined : choice ≡ first ++ more
  pub of_first : IsResolution es fs first
  pub of_more : IsResolution later gs more

pub resolution-parts : (es later : List Entry) (fs gs : List Fate) (choice : List Bool) → length fs ≡ length es
    → IsResolution (es ++ later) (fs ++ gs) choice → IsInParts es later fs gs choice
resolution-parts [] later [] gs choice fated r = record { first = []; more = choice; joined = refl; of_first = tt; of_more = r }
resolution-parts [] later (f ∷ fs) gs choice fated r = absurd (omega arith)
resolution-parts (e ∷ es) later [] gs choice fated r = absurd (omega arith)
resolution-parts (e ∷ es) later (f ∷ fs) gs [] fated r = absurd r
resolution-parts (e ∷ es) later (f ∷ fs) gs (k ∷ ks) fated r =
    let parts = resolution-parts es later fs gs ks (omega arith) r.1 in
    record { first = k ∷ parts.first; more = parts.more; joined = ap (λ xs. k ∷ xs) parts.joined; of_first = (r.0, parts.of_first); of_more = parts.of_more }

-- the acts that are kept of both
pub kept_acts-append : (es later : List Entry) (choice more : List Bool) → length choice ≡ length es
    → kept_acts (es ++ later) (choice ++ more) ≡ kept_acts es choice ++ kept_acts later more
kept_acts-append [] later [] more fits = refl
kept_acts-append [] later (k ∷ ks) more fits = absurd (omega arith)
kept_acts-append (e ∷ es) later [] more fits = absurd (omega arith)
kept_acts-append (e ∷ es) later (true ∷ ks) more fits =
    ap (λ acts. e.acts ++ acts) (kept_acts-append es later ks more (omega arith))
    ∙ sym (append_assoc e.acts (kept_acts es ks) (kept_acts later more))
kept_acts-append (e ∷ es) later (false ∷ ks) more fits = kept_acts-append es later ks more (omega arith)

-- a resolution with an undecided entry at the end: one from before, and the entry, which may be kept if it is sound
pub record IsWithLast (es : List Entry) (fs : List Fate) (e : Entry) (choice : List Bool) : Type 0 where
  pub first : List Bool
  pub kept : Bool
  pub joined : choice ≡ first ++ kept ∷ []
  pub of_first : IsResolution es fs first
  pub may : kept ≡ true → e.sound ≡ true

with-last : (es : List Entry) (fs : List Fate) (e : Entry) (choice first more : List Bool) → choice ≡ first ++ more
    → IsResolution es fs first → IsResolution (e ∷ []) (Undecided ∷ []) more → IsWithLast es fs e choice
with-last es fs e choice first [] joined r q = absurd q
with-last es fs e choice first (kept ∷ []) joined r q =
    record { first = first; kept = kept; joined = joined; of_first = r; may = q.0 }
with-last es fs e choice first (kept ∷ k ∷ ks) joined r q = absurd q.1

pub resolution-last : (es : List Entry) (fs : List Fate) (e : Entry) (choice : List Bool) → length fs ≡ length es
    → IsResolution (es ++ e ∷ []) (fs ++ Undecided ∷ []) choice → IsWithLast es fs e choice
resolution-last es fs e choice fated r =
    let parts = resolution-parts es (e ∷ []) fs (Undecided ∷ []) choice fated r in
    with-last es fs e choice parts.first parts.more parts.joined parts.of_first parts.of_more

-- each resolution from before goes on without the entry, and with it if it is sound
pub resolution-with : (es : List Entry) (fs : List Fate) (e : Entry) (choice : List Bool) (kept : Bool)
    → IsResolution es fs choice → (kept ≡ true → e.sound ≡ true)
    → IsResolution (es ++ e ∷ []) (fs ++ Undecided ∷ []) (choice ++ kept ∷ [])
resolution-with es fs e choice kept r may = resolution-append es (e ∷ []) fs (Undecided ∷ []) choice (kept ∷ []) r (may, tt)

pub kept_acts-with : (es : List Entry) (e : Entry) (choice : List Bool) → length choice ≡ length es
    → kept_acts (es ++ e ∷ []) (choice ++ true ∷ []) ≡ kept_acts es choice ++ e.acts
kept_acts-with es e choice fits =
    kept_acts-append es (e ∷ []) choice (true ∷ []) fits ∙ ap (λ acts. kept_acts es choice ++ acts) (append-nil e.acts)

pub kept_acts-without : (es : List Entry) (e : Entry) (choice : List Bool) → length choice ≡ length es
    → kept_acts (es ++ e ∷ []) (choice ++ false ∷ []) ≡ kept_acts es choice
kept_acts-without es e choice fits = kept_acts-append es (e ∷ []) choice (false ∷ []) fits ∙ append-nil (kept_acts es choice)

sound-last : (es : List Entry) (fs : List Fate) (e : Entry) → length fs ≡ length es → AllCommittedSound es fs
    → AllCommittedSound (es ++ e ∷ []) (fs ++ Undecided ∷ [])
sound-last [] [] e fated sound = ((λ other. let both : Undecided ≡ Committed = other in cc), tt)
sound-last [] (f ∷ fs) e fated sound = absurd (omega arith)
sound-last (x ∷ es) [] e fated sound = absurd (omega arith)
sound-last (x ∷ es) (f ∷ fs) e fated sound = (sound.0, sound-last es fs e (omega arith) sound.1)

right-with : (s : State) (es : List Entry) (fs : List Fate) (e : Entry) (first : List Bool) (kept : Bool) → IsLegal s es fs
    → (e.sound ≡ true → (choice : List Bool) → IsResolution es fs choice → IsRight (run s (kept_acts es choice)) e.acts)
    → IsResolution es fs first → (kept ≡ true → e.sound ≡ true) → IsRight s (kept_acts (es ++ e ∷ []) (first ++ kept ∷ []))
right-with s es fs e first true legal right r may =
    subst (IsRight s) (sym (kept_acts-with es e first (resolution-length es fs first r))) (right-append s (kept_acts es first) e.acts (legal.right first r) (right (may refl) first r))
right-with s es fs e first false legal right r may =
    subst (IsRight s) (sym (kept_acts-without es e first (resolution-length es fs first r))) (legal.right first r)

-- An undecided entry at the end leaves a legal history legal: if it is sound, its acts must be right after the acts that
-- each resolution from before keeps; if it isn't, nothing is asked, since no resolution keeps it.
pub legal-last : (s : State) (es : List Entry) (fs : List Fate) (e : Entry) → IsLegal s es fs
    → (e.sound ≡ true → (choice : List Bool) → IsResolution es fs choice → IsRight (run s (kept_acts es choice)) e.acts)
    → IsLegal s (es ++ e ∷ []) (fs ++ Undecided ∷ [])
legal-last s es fs e legal right = record {
  fated = length-append fs (Undecided ∷ []) ∙ ap (λ n. n + 1) legal.fated ∙ sym (length-append es (e ∷ []));
  sound = sound-last es fs e legal.fated legal.sound;
  right = λ choice r.
      let last = resolution-last es fs e choice legal.fated r in
      subst (λ c. IsRight s (kept_acts (es ++ e ∷ []) c)) (sym last.joined) (right-with s es fs e last.first last.kept legal right last.of_first last.may);
}
