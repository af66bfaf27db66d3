-- What steps flagged as placed is noted by the pass, after every event.
use Rattle.std.proofs.Common.{◌≡◌, ℕ, true, ◌⊎◌, List, [], ◌∷◌, ◌++◌, set, refl, sym, ap, ◌∙◌, subst, inl, inr, ⊎_elim, eqb-true, Option, Some, None, is_some}
use Rattle.std.specs.List.{Contains}
use Rattle.std.specs.Prelude.{◌==◌}
use Rattle.std.proofs.lemmas.Bool.{cond_both, false≢true}
use Rattle.std.proofs.lemmas.List.Elements.{Contains-append_left, Contains-append_right, Contains-push, Contains-push_cases, Contains-append_cases}
use Rattle.md_words.specs.declared.shape.Shape.{Shape}
use Rattle.md_words.specs.Place.{Place, base_word, bucket_head, queue_head, queue_tail, node_key, node_value, node_next, desc_status, read_word, read_content, slot_word, slot_old, slot_new}
use Rattle.md_words.specs.PlaceAt.{place_at}
use Rattle.md_history.specs.declared.entries.Fate.{Fate}
use Rattle.md_history.specs.declared.entries.Fate.TheVariants.{Committed, Aborted, Undecided}
use Rattle.md_machine.specs.declared.attempt.HistoryEntry.{HistoryEntry}
use Rattle.md_machine.specs.declared.node.PlacedNode.{PlacedNode}
use Rattle.md_machine.specs.declared.node.Structure.{Structure}
use Rattle.md_machine.specs.declared.pass.PassView.{PassView}
use Rattle.md_machine.specs.declared.step.Step.{Step}
use Rattle.md_machine.proofs.clauses.passes.LanesApart.{At}
use Rattle.md_machine.proofs.events.MoveFacts.{MoveFacts}
use Rattle.md_machine.proofs.events.Moves.{PassesGo, goes_on, is_joined, is_split}
use Rattle.md_machine.proofs.lists.At.{at_append, at_one, at_set}
use Rattle.md_machine.proofs.lists.Rising.{here, in_none, there}
use Rattle.md_machine.specs.Machine.{Machine, shape_of}
use Rattle.md_machine.specs.Own.{IsWordOf}
use Rattle.md_machine.specs.Resolution.{always_nodes, always_placed, kept_nodes, kept_structure, least, or_else, structure_in}
use Rattle.md_machine.specs.Stepping.{is_of_placed}
use Rattle.md_machine.specs.Trail.{segments}
use Rattle.md_machine.specs.clauses.nodes.Flags.{FlaggedAreNoted, NotesFlagged, NotesWord}
use Rattle.md_machine.specs.events.SplitJoin.{given_part, joined, kept_part, moved, moved_step, spent}

-- a node of a list
abbrev pub HasNode : List PlacedNode → ℕ → Type 0
HasNode nodes node = (x : PlacedNode) × Contains nodes x × (x.node ≡ node)

-- a node that a list places is one of it
pub structure_has : (ps : List PlacedNode) (node : ℕ) → is_some (structure_in ps node) ≡ true → HasNode ps node
structure_has [] node h = absurd (false≢true h)
structure_has (p ∷ ps) node h = cond_both (p.node == node) (Some p.structure) (structure_in ps node) (λ (o : Option Structure). is_some o ≡ true → HasNode (p ∷ ps) node)
    (λ yes _. (p, here p ps, eqb-true p.node node yes))
    (λ no k. let r = structure_has ps node k in (r.0, there p ps r.0 r.1, r.2))
    h

one_of_two : (x z : Option Structure) → is_some (or_else x z) ≡ true → (is_some x ≡ true) ⊎ (is_some z ≡ true)
one_of_two (Some s) z h = inl refl
one_of_two None z h = inr h

either_has : (ps qs : List PlacedNode) (node : ℕ) → HasNode ps node ⊎ HasNode qs node → HasNode (ps ++ qs) node
either_has ps qs node = ⊎_elim (λ l. (l.0, Contains-append_left ps qs l.0 l.1, l.2)) (λ r. (r.0, Contains-append_right ps qs r.0 r.1, r.2))

kept_has : (es : List HistoryEntry) (fs : List Fate) (node : ℕ) → is_some (kept_structure es (least fs) node) ≡ true → HasNode (kept_nodes es (least fs)) node
kept_has [] fs node h = absurd (false≢true h)
kept_has (e ∷ es) [] node h = absurd (false≢true h)
kept_has (e ∷ es) (Committed ∷ fs) node h = either_has e.placed (kept_nodes es (least fs)) node
    (⊎_elim (λ a. inl (structure_has e.placed node a)) (λ b. inr (kept_has es fs node b)) (one_of_two (structure_in e.placed node) (kept_structure es (least fs) node) h))
kept_has (e ∷ es) (Aborted ∷ fs) node h = kept_has es fs node h
kept_has (e ∷ es) (Undecided ∷ fs) node h = kept_has es fs node h

pub always_has : (m : Machine) (node : ℕ) → always_placed m node ≡ true → HasNode (always_nodes m) node
always_has m node h = either_has m.opening.placed (kept_nodes m.history (least m.fates)) node
    (⊎_elim (λ a. inl (structure_has m.opening.placed node a)) (λ b. inr (kept_has m.history m.fates node b)) (one_of_two (structure_in m.opening.placed node) (kept_structure m.history (least m.fates) node) h))

-- so the flag of a step tells a node that is placed in every resolution
noted_word : (m : Machine) (node : ℕ) (place : Place) → IsWordOf node place → always_placed m node ≡ true → NotesWord (always_nodes m) place
noted_word m node place is h = let r = always_has m node h in record { node = r.0; among = r.1; is = subst (λ k. IsWordOf k place) (sym r.2) is }

flag_tells : (m : Machine) (place : Place) → is_of_placed m place ≡ true → NotesWord (always_nodes m) place
flag_tells m (node_key node) h = noted_word m node (node_key node) (inl (inl refl)) h
flag_tells m (node_value node) h = noted_word m node (node_value node) (inl (inr refl)) h
flag_tells m (node_next node) h = noted_word m node (node_next node) (inr refl) h
flag_tells m base_word h = absurd (false≢true h)
flag_tells m (bucket_head _ _) h = absurd (false≢true h)
flag_tells m (queue_head _) h = absurd (false≢true h)
flag_tells m (queue_tail _) h = absurd (false≢true h)
flag_tells m (desc_status _) h = absurd (false≢true h)
flag_tells m (read_word _ _) h = absurd (false≢true h)
flag_tells m (read_content _ _) h = absurd (false≢true h)
flag_tells m (slot_word _ _) h = absurd (false≢true h)
flag_tells m (slot_old _ _) h = absurd (false≢true h)
flag_tells m (slot_new _ _) h = absurd (false≢true h)

notes_more : (noted more : List PlacedNode) (place : Place) → ((x : PlacedNode) → Contains noted x → Contains more x) → NotesWord noted place → NotesWord more place
notes_more noted more place all n = record { node = n.node; among = all n.node n.among; is = n.is }

-- what holds of every step of some segments, of whoever has noted more
abbrev pub Flagged : Shape → (noted : List PlacedNode) → List (List Step) → Type 0
Flagged shape noted all = (segment : List Step) → Contains all segment → (s : Step) → Contains segment s → s.placed ≡ true → NotesWord noted (place_at shape s.word)

flagged_more : (shape : Shape) (noted more : List PlacedNode) (all : List (List Step)) → ((x : PlacedNode) → Contains noted x → Contains more x) → Flagged shape noted all → Flagged shape more all
flagged_more shape noted more all f was segment c s i flag = notes_more noted more (place_at shape s.word) f (was segment c s i flag)

flagged_both : (shape : Shape) (noted : List PlacedNode) (all others : List (List Step)) → Flagged shape noted all → Flagged shape noted others → Flagged shape noted (all ++ others)
flagged_both shape noted all others one two segment c = ⊎_elim (λ l. one segment l) (λ r. two segment r) (Contains-append_cases all others segment c)

flagged_empty : (shape : Shape) (noted : List PlacedNode) → Flagged shape noted ([] ∷ [])
flagged_empty shape noted segment c s i = ⊎_elim (λ none. absurd (in_none segment none)) (λ e. absurd (in_none s (subst (λ l. Contains l s) (sym e) i))) (Contains-push_cases [] [] segment c)

-- a pass after one more step, whose flag tells what the pass has noted
stepped_flags : (shape : Shape) (p q : PassView) (s : Step) → q.past ≡ p.past → q.trail ≡ p.trail ++ s ∷ [] → ((x : PlacedNode) → Contains p.placed x → Contains q.placed x)
    → (s.placed ≡ true → NotesWord q.placed (place_at shape s.word)) → NotesFlagged shape p → NotesFlagged shape q
stepped_flags shape p q s past trail more flag was =
    subst (λ all. Flagged shape q.placed (all ++ q.trail ∷ [])) (sym past) (subst (λ last. Flagged shape q.placed (p.past ++ last ∷ [])) (sym trail) (λ segment c t i h. ⊎_elim
    (λ before. old segment (Contains-append_left p.past (p.trail ∷ []) segment before) t i h)
    (λ last. ⊎_elim
    (λ earlier. old p.trail (Contains-push p.past p.trail) t earlier h)
    (λ same. subst (λ w. NotesWord q.placed (place_at shape w)) (ap (λ (x : Step). x.word) same) (flag (ap (λ (x : Step). x.placed) same ∙ h)))
    (Contains-push_cases p.trail s t (subst (λ l. Contains l t) (sym last) i)))
    (Contains-push_cases p.past (p.trail ++ s ∷ []) segment c)))
  where
    old : Flagged shape q.placed (segments p)
    old = flagged_more shape p.placed q.placed (segments p) more was

-- passes that have noted what they flagged
abbrev pub Noting : Shape → List PassView → Type 0
Noting shape passes = (pass : ℕ) (p : PassView) → At passes pass p → NotesFlagged shape p

noting_set : (shape : Shape) (passes : List PassView) (pass : ℕ) (q : PassView) → NotesFlagged shape q → Noting shape passes → Noting shape (set passes pass q)
noting_set shape passes pass q new was j u at = ⊎_elim (λ e. subst (NotesFlagged shape) e.1 new) (λ o. was j u o.1) (at_set passes pass j q u at)

noting_push : (shape : Shape) (passes : List PassView) (r : PassView) → NotesFlagged shape r → Noting shape passes → Noting shape (passes ++ r ∷ [])
noting_push shape passes r new was j u at = ⊎_elim (λ old. was j u old) (λ end. subst (NotesFlagged shape) (at_one r u end.0 end.2).1 new) (at_append passes (r ∷ []) j u at)

joined_flags : (shape : Shape) (p q : PassView) → NotesFlagged shape p → NotesFlagged shape q → NotesFlagged shape (joined shape p q)
joined_flags shape p q mine theirs =
    let noted = p.placed ++ q.placed in
    flagged_both shape noted (segments p ++ segments q) ([] ∷ [])
    (flagged_both shape noted (segments p) (segments q)
    (flagged_more shape p.placed noted (segments p) (λ x. Contains-append_left p.placed q.placed x) mine)
    (flagged_more shape q.placed noted (segments q) (λ x. Contains-append_right p.placed q.placed x) theirs))
    (flagged_empty shape noted)

-- every event keeps it
module _ (m n : Machine) (v : MoveFacts m n) (was : FlaggedAreNoted m) where
  -- the step of the one view that goes on
  flag_here : (q : PassView) → q.placed ≡ v.p.placed ++ always_nodes m → v.step.placed ≡ true → NotesWord q.placed (place_at (shape_of m) v.step.word)
  flag_here q placed h = subst (λ noted. NotesWord noted (place_at (shape_of m) v.step.word)) (sym placed)
      (notes_more (always_nodes m) (v.p.placed ++ always_nodes m) (place_at (shape_of m) v.step.word) (λ x. Contains-append_right v.p.placed (always_nodes m) x)
      (subst (λ w. NotesWord (always_nodes m) (place_at (shape_of m) w)) (sym v.there) (flag_tells m (place_at (shape_of m) v.word) (ap (λ (s : Step). s.placed) (sym v.is_step) ∙ h))))

  -- a move of lanes flags nothing
  moved_flags : (q : PassView) → q.past ≡ v.p.past → q.trail ≡ v.p.trail ++ moved_step v.p ∷ [] → q.placed ≡ v.p.placed → NotesFlagged (shape_of m) q
  moved_flags q past trail placed = stepped_flags (shape_of m) v.p q (moved_step v.p) past trail (λ x c. subst (λ l. Contains l x) (sym placed) c) (λ h. absurd (false≢true h)) (was v.pass v.p v.at)

  flags_go : PassesGo m n v.pass v.p v.step → Noting (shape_of m) n.passes
  flags_go (goes_on q is view) = subst (Noting (shape_of m)) (sym is) (noting_set (shape_of m) m.passes v.pass q
      (stepped_flags (shape_of m) v.p q v.step view.past view.trail (λ x c. subst (λ l. Contains l x) (sym view.placed) (Contains-append_left v.p.placed (always_nodes m) x c)) (flag_here q view.placed) (was v.pass v.p v.at)) was)
  flags_go (is_split _ _ _ _ is) = subst (Noting (shape_of m)) (sym is)
      (noting_push (shape_of m) _ _ (moved_flags (given_part (shape_of m) v.p) refl refl refl) (noting_set (shape_of m) m.passes v.pass _ (moved_flags (kept_part (shape_of m) v.p) refl refl refl) was))
  flags_go (is_joined other q _ acts _ _ _ is) = subst (Noting (shape_of m)) (sym is)
      (noting_set (shape_of m) _ other spent (flagged_empty (shape_of m) []) (noting_set (shape_of m) m.passes v.pass _ (joined_flags (shape_of m) (moved v.p) q (moved_flags (moved v.p) refl refl refl) (was other q acts.at)) was))

  pub flags-kept : Noting (shape_of m) n.passes
  flags-kept = flags_go v.passes
