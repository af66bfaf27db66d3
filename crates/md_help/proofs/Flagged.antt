-- A step on a word of a node that the pass noted before is flagged.
use Rattle.std.proofs.Common.{◌≡◌, ℕ, true, List, [], ◌∷◌, ◌++◌, drop, length, refl, sym, ap, ◌∙◌, subst, inr, ⊎_elim}
use Rattle.std.proofs.lemmas.List.Elements.{Contains-append_left, Contains-push}
use Rattle.std.specs.List.{Contains}
use Rattle.md_words.specs.declared.shape.Shape.{Shape}
use Rattle.md_words.specs.Place.{Place}
use Rattle.md_words.specs.PlaceAt.{place_at}
use Rattle.md_machine.specs.declared.node.PlacedNode.{PlacedNode}
use Rattle.md_machine.specs.declared.pass.PassView.{PassView}
use Rattle.md_machine.specs.declared.step.Kind.{Kind}
use Rattle.md_machine.specs.declared.step.Kind.TheVariants.{Load, Uninstall}
use Rattle.md_machine.specs.declared.step.Step.{Step}
use Rattle.md_machine.specs.Event.{load, uninstall}
use Rattle.md_machine.specs.Machine.{Machine, content, shape_of}
use Rattle.md_machine.specs.Meaning.{Meaning}
use Rattle.md_machine.specs.Resolution.{always_placed}
use Rattle.md_machine.specs.Stepping.{is_of_placed, left_by, step_of, stepped}
use Rattle.md_machine.specs.clauses.nodes.Flags.{NotesWord}
use Rattle.md_machine.specs.events.Uninstall.{uninstalled_word}
use Rattle.md_rule.specs.Steps.{EventOf, Stepped}
use Rattle.md_rule.specs.Views.{Origin}
use Rattle.md_rule.proofs.Moves.{is_kept}
use Rattle.md_rule.proofs.Told.{told_load, told_uninstall}
use Rattle.md_help.specs.After.{IsAfter}
use Rattle.md_help.specs.Clears.{FlagsNoted}
use Rattle.md_help.proofs.Steps.{Made, trail_after}

abbrev first_or : Step → List Step → Step
first_or d [] = d
first_or d (x ∷ xs) = x

drop_first : (xs ys : List Step) → drop (length xs) (xs ++ ys) ≡ ys
drop_first [] ys = refl
drop_first (x ∷ xs) ys = drop_first xs ys

last_same : (xs : List Step) (x y : Step) → xs ++ x ∷ [] ≡ xs ++ y ∷ [] → x ≡ y
last_same xs x y e = ap (first_or x) (sym (drop_first xs (x ∷ [])) ∙ ap (drop (length xs)) e ∙ drop_first xs (y ∷ []))

-- the flag of the step that a pass made tells whether the node of the word is placed
pub flag_is : (shape : Shape) (m : Machine) (kind : Kind) (word held left new : ℕ) (p q : PassView) (a : Made shape kind word held left p q) → q ≡ stepped m p kind word new
    → a.step.placed ≡ is_of_placed m (place_at (shape_of m) word)
flag_is shape m kind word held left new p q a is = ap (λ (s : Step). s.placed)
    (last_same p.trail a.step (step_of m p kind word new) (sym (trail_after shape (a.step ∷ []) p q a.goes) ∙ ap (λ (x : PassView). x.trail) is))

-- a word of a noted node is one of a placed node, where what was noted is placed
of_noted : (m : Machine) (p : PassView) (place : Place) → ((x : PlacedNode) → Contains p.placed x → always_placed m x.node ≡ true) → NotesWord p.placed place → is_of_placed m place ≡ true
of_noted m p place always n = ⊎_elim
    (⊎_elim (λ key. ap (is_of_placed m) key ∙ always n.node n.among) (λ value. ap (is_of_placed m) value ∙ always n.node n.among))
    (λ next. ap (is_of_placed m) next ∙ always n.node n.among)
    n.is

-- what is noted is so after more steps
pub noted_after : (shape : Shape) (steps : List Step) (p q : PassView) (place : Place) → IsAfter shape steps p q → NotesWord p.placed place → NotesWord q.placed place
noted_after shape steps p q place a n = record {
  node = n.node;
  among = subst (λ l. Contains l n.node) (sym (ap (λ (x : PassView). x.placed) a.1)) (Contains-append_left p.placed a.0 n.node n.among);
  is = n.is;
}

-- so the last of some steps is flagged, and met what it left
pub flags_last : (shape : Shape) (kind : Kind) (word held left : ℕ) (earlier : List Step) (p q r : PassView) → IsAfter shape earlier p q → (a : Made shape kind word held left q r)
    → (NotesWord q.placed (place_at shape word) → a.step.placed ≡ true) → FlagsNoted shape p word left (earlier ++ a.step ∷ [])
flags_last shape kind word held left earlier p q r goes a flag n = (
  a.step,
  Contains-push earlier a.step,
  (inr (record { there = a.there; after = a.left_it }), flag (noted_after shape earlier p q (place_at shape word) goes n)),
)

module _ (M : Meaning) (o : Origin) (kind : Kind) (word held left : ℕ) (p q : PassView) (a : Made o.shape kind word held left p q) where
  flagged : (event : EventOf) (s : Stepped M o event p q) (new : ℕ) → q ≡ stepped s.machine p kind word new → NotesWord p.placed (place_at o.shape word) → a.step.placed ≡ true
  flagged event s new is n =
      let m = s.machine in
      flag_is o.shape m kind word held left new p q a is
      ∙ ap (λ (h : Shape). is_of_placed m (place_at h word)) s.admitted.shape
      ∙ of_noted m p (place_at o.shape word) ((is_kept M o m s.admitted).noted s.pass p s.acts.at) n

pub flagged_load : (M : Meaning) (o : Origin) (word held left : ℕ) (p q : PassView) (a : Made o.shape Load word held left p q) → Stepped M o (λ pass. load pass word) p q
    → NotesWord p.placed (place_at o.shape word) → a.step.placed ≡ true
flagged_load M o word held left p q a s = flagged M o Load word held left p q a (λ pass. load pass word) s (content s.machine word) (told_load M o p q word s)

pub flagged_uninstall : (M : Meaning) (o : Origin) (word from value held left : ℕ) (p q : PassView) (a : Made o.shape Uninstall word held left p q) → Stepped M o (λ pass. uninstall pass word from value) p q
    → NotesWord p.placed (place_at o.shape word) → a.step.placed ≡ true
flagged_uninstall M o word from value held left p q a s = flagged M o Uninstall word held left p q a (λ pass. uninstall pass word from value) s (left_by s.machine word from (uninstalled_word from value)) (told_uninstall M o p q word from value s).1
