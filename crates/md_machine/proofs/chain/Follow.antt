-- Certificates that stand one after another: the laws of a theory, taken together.
use Rattle.std.proofs.Common.{◌≡◌, List, [], ◌∷◌, map, get_or, refl, sym, ap, ◌∙◌, subst}
use Rattle.std.specs.List.{All}
use Rattle.std.proofs.lemmas.List.Elements.{All-head, All-tail}
use Rattle.md_words.specs.declared.shape.Shape.{Shape}
use Rattle.md_history.specs.declared.acts.Act.{Act}
use Rattle.md_history.specs.Act.{act_of}
use Rattle.md_history.specs.State.{State, answer, after, run, IsRight}
use Rattle.md_machine.specs.declared.certificate.Certificate.{Certificate}
use Rattle.md_machine.specs.declared.certificate.TidyChange.{TidyChange}
use Rattle.md_machine.specs.LogicalHeap.{LogicalHeap}
use Rattle.md_machine.specs.Meaning.{Meaning, Lawful, TidyStandsBy, TidyStands, StandsBy, Stands, Follows, KeepsFacts, after_tidy}
use Rattle.md_machine.specs.Certified.{TidiesStandBy, AllStandBy, after_tidies, after_whole, after_wholes}
use Rattle.md_machine.proofs.chain.Agree.{SameValues, SameHeap, same_tidy, same_tidies, same_whole, tidy_shape, tidies_shape, whole_shape, same_agrees, same_facts}

-- what stands by the words of one heap stands by those of another one with the same values
tidy_itself : (own h : LogicalHeap) → SameValues own h → (t : TidyChange) → TidyStandsBy own h t → TidyStands h t
tidy_itself own h same t s = record { old = sym (same.value t.change.word) ∙ s.old; facts = s.facts; fresh = s.fresh }

stands_itself : (own h : LogicalHeap) → SameValues own h → (c : Certificate) → StandsBy own h c → Stands h c
stands_itself own h same c s = record {
  recorded = λ i d below. sym (same.value (get_or c.recorded i d).word) ∙ s.recorded i d below;
  old = λ i d below. sym (same.value (get_or c.changes i d).word) ∙ s.old i d below;
  facts = s.facts;
  fresh = s.fresh;
}

-- a heap after acts that are right in the state of another one: it is valid, has the state that they leave, and each
-- fact still holds
pub record FollowsActs (M : Meaning) (h : LogicalHeap) (acts : List Act) (k : LogicalHeap) : Type 0 where
  pub valid : M.valid k
  pub state : M.state k.words ≡ run (M.state h.words) acts
  pub right : IsRight (M.state h.words) acts
  pub facts : KeepsFacts h k

module _ (M : Meaning) (lawful : Lawful M) (shape : Shape) where
  -- tidy changes, one after another, leave the state as it is
  pub tidies_follow : (own h : LogicalHeap) → SameValues own h → h.words.shape ≡ shape → M.valid h → (ts : List TidyChange)
      → All (M.tidies shape) ts → TidiesStandBy own h ts → Follows M h (M.state h.words) (after_tidies h ts)
  tidies_follow own h same is valid [] tidies stand = record { valid = valid; state = refl; facts = λ f holds. holds }
  tidies_follow own h same is valid (t ∷ ts) tidies stand =
      let one = lawful.tidy h t valid (subst (λ s. M.tidies s t) (sym is) (All-head (M.tidies shape) t ts tidies)) (tidy_itself own h same t stand.0) in
      let rest = tidies_follow (after_tidy own t) (after_tidy h t) (same_tidy own h same t) (tidy_shape h t ∙ is) one.valid ts (All-tail (M.tidies shape) t ts tidies) stand.1 in
      record { valid = rest.valid; state = rest.state ∙ one.state; facts = λ f holds. rest.facts f (one.facts f holds) }

  -- a certificate with its tidy changes does what its operation does
  pub whole_follows : (own h : LogicalHeap) → SameValues own h → h.words.shape ≡ shape → M.valid h → (c : Certificate) → M.certifies shape c → All (M.tidies shape) c.tidy
      → TidiesStandBy own h c.tidy → StandsBy (after_tidies own c.tidy) (after_tidies h c.tidy) c
      → (c.reply ≡ answer (M.state h.words) c.op) × Follows M h (after (M.state h.words) c.op) (after_whole h c)
  whole_follows own h same is valid c certifies tidies before stand =
      let tidied = tidies_follow own h same is valid c.tidy tidies before in
      let here = after_tidies h c.tidy in
      let one = lawful.certificate here c tidied.valid (subst (λ s. M.certifies s c) (sym (tidies_shape h c.tidy ∙ is)) certifies)
      (stands_itself (after_tidies own c.tidy) here (same_tidies own h same c.tidy) c stand) in (
        one.0 ∙ ap (λ (s : State). answer s c.op) tidied.state,
        record {
          valid = one.1.valid;
          state = one.1.state ∙ ap (λ (s : State). after s c.op) tidied.state;
          facts = λ f holds. one.1.facts f (tidied.facts f holds);
        },
      )

  -- certificates that stand one after another do what their acts do
  pub wholes_follow : (own h : LogicalHeap) → SameValues own h → h.words.shape ≡ shape → M.valid h → (cs : List Certificate) → All (M.certifies shape) cs
      → All (λ c. All (M.tidies shape) c.tidy) cs → AllStandBy own h cs → FollowsActs M h (map (λ c. act_of c.op c.reply) cs) (after_wholes h cs)
  wholes_follow own h same is valid [] certifies tidies stand = record { valid = valid; state = refl; right = tt; facts = λ f holds. holds }
  wholes_follow own h same is valid (c ∷ cs) certifies tidies stand =
      let one = whole_follows own h same is valid c (All-head (M.certifies shape) c cs certifies) (All-head (λ c. All (M.tidies shape) c.tidy) c cs tidies) stand.0 stand.1 in
      let rest = wholes_follow (after_whole own c) (after_whole h c) (same_whole own h same c) (whole_shape h c ∙ is) one.1.valid cs
      (All-tail (M.certifies shape) c cs certifies) (All-tail (λ c. All (M.tidies shape) c.tidy) c cs tidies) stand.2 in
      let acts = map (λ (c : Certificate). act_of c.op c.reply) cs in
      record {
        valid = rest.valid;
        state = rest.state ∙ ap (λ (s : State). run s acts) one.1.state;
        right = (one.0, subst (λ s. IsRight s acts) one.1.state rest.right);
        facts = λ f holds. rest.facts f (one.1.facts f holds);
      }

  -- and what agrees with a heap that follows does so too
  pub same_follows : (h k l : LogicalHeap) (acts : List Act) → FollowsActs M h acts k → SameHeap k l → FollowsActs M h acts l
  same_follows h k l acts follows same =
      let frame = lawful.frame k l follows.valid (same_agrees k l same) in
      record { valid = frame.0; state = frame.1 ∙ follows.state; right = follows.right; facts = λ f holds. same_facts k l same f (follows.facts f holds) }
