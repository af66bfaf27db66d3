-- How a course of certificates goes on by one more.
use Rattle.std.proofs.Common.{◌≡◌, ◌++◌, List, [], ◌∷◌, refl, ap, ◌∙◌}
use Rattle.std.proofs.lemmas.Grind.{flat_map-append}
use Rattle.std.proofs.lemmas.List.{append-nil}
use Rattle.std.proofs.lemmas.List.Elements.{All-append, All-cons, All-nil}
use Rattle.std.specs.List.{All}
use Rattle.md_machine.specs.declared.certificate.Certificate.{Certificate}
use Rattle.md_machine.specs.Certified.{AllStandBy, TidiesStandBy, after_tidies, after_whole, after_wholes, all_changes, all_nodes, whole_changes, whole_nodes}
use Rattle.md_machine.specs.LogicalHeap.{LogicalHeap}
use Rattle.md_machine.specs.Meaning.{StandsBy}

-- what one more certificate leaves
pub wholes_push : (h : LogicalHeap) (cs : List Certificate) (c : Certificate) → after_wholes h (cs ++ c ∷ []) ≡ after_whole (after_wholes h cs) c
wholes_push h [] c = refl
wholes_push h (d ∷ cs) c = wholes_push (after_whole h d) cs c

-- and that it stands
pub stand_push : (own h : LogicalHeap) (cs : List Certificate) (c : Certificate) → AllStandBy own h cs
    → TidiesStandBy (after_wholes own cs) (after_wholes h cs) c.tidy
    → StandsBy (after_tidies (after_wholes own cs) c.tidy) (after_tidies (after_wholes h cs) c.tidy) c
    → AllStandBy own h (cs ++ c ∷ [])
stand_push own h [] c all tidies stands = (tidies, stands, tt)
stand_push own h (d ∷ cs) c all tidies stands = (all.0, all.1, stand_push (after_whole own d) (after_whole h d) cs c all.2 tidies stands)

-- its changes and its nodes come last
pub changes_push : (cs : List Certificate) (c : Certificate) → all_changes (cs ++ c ∷ []) ≡ all_changes cs ++ whole_changes c
changes_push cs c = flat_map-append whole_changes cs (c ∷ []) ∙ ap (λ l. all_changes cs ++ l) (append-nil (whole_changes c))

pub nodes_push : (cs : List Certificate) (c : Certificate) → all_nodes (cs ++ c ∷ []) ≡ all_nodes cs ++ whole_nodes c
nodes_push cs c = flat_map-append whole_nodes cs (c ∷ []) ∙ ap (λ l. all_nodes cs ++ l) (append-nil (whole_nodes c))

-- what is true of each, and of one more
pub all_push : {X : Type 0} (P : X → Type 0) (xs : List X) (x : X) → All P xs → P x → All P (xs ++ x ∷ [])
all_push P xs x all one = All-append P xs (x ∷ []) all (All-cons P x [] one (All-nil P))
