-- What the committed entries of fronts are that hold each line once, one by one and in the order of the history.
use Rattle.std.proofs.Common.{◌≡◌, ◌+◌, ◌<◌, ◌^◌, ℕ, suc, cond, true, Option, List, [], ◌∷◌, length, refl, sym, ap, subst, ◌∙◌, arith, inl, inr}
use Rattle.std.specs.Prelude.{◌==◌, ◌/◌, ◌%◌, slice_get}
use Rattle.std.proofs.lemmas.Bool.{cases_Bool, eq-eqb, eqb-true}
use Rattle.md_history.specs.declared.entries.Entry.{Entry}
use Rattle.md_history.specs.State.{State, run, IsRight}
use Rattle.md_history.specs.History.{acts_of}
use Rattle.md_history.specs.HistoryLaws.{committed-right, right-append, run-append}
use Rattle.md_history.specs.Front.{Front, committed_in, replay_of}
use Rattle.md_history.proofs.PlainFronts.{acts_of-append}
use Rattle.md_many_attempts.specs.Meaning.{Meaning}
use Rattle.md_many_attempts.specs.Tags.{tag_of}
use Rattle.md_many_attempts.specs.Lines.{AreLines}
use Rattle.md_many_attempts.specs.ByCaller.{at_caller, line_at}
use Rattle.md_many.specs.Rounds.{of_caller}
use Rattle.md_many.specs.Played.{committed_of, state_after, AreDecidedAndLegal, EachLineOnce}
use Rattle.md_many.specs.Replied.{AreReplied}
use Rattle.md_many.proofs.Standing.{Head, lines-head, caller-own, caller-other}

-- the acts of fronts, one after another, are right
pub fronts-right : (start : State) (fronts : List Front) → AreDecidedAndLegal start fronts
    → IsRight start (acts_of (committed_of fronts))
fronts-right start [] legal = tt
fronts-right start (f ∷ fs) legal =
    subst (IsRight start) (sym (acts_of-append (committed_in f) (committed_of fs)))
    (right-append start (acts_of (committed_in f)) (acts_of (committed_of fs))
    (committed-right start f.seen f.known legal.0) (fronts-right (replay_of start f) fs legal.2))

-- and leave what the fronts leave
pub fronts-run : (start : State) (fronts : List Front) → state_after start fronts ≡ run start (acts_of (committed_of fronts))
fronts-run start [] = refl
fronts-run start (f ∷ fs) =
    fronts-run (replay_of start f) fs
    ∙ sym (ap (run start) (acts_of-append (committed_in f) (committed_of fs))
    ∙ run-append start (acts_of (committed_in f)) (acts_of (committed_of fs)))

-- the line of a tag whose caller is known
line-of : (t line : ℕ) → t ≡ tag_of (t / 2 ^ 32) line → t % 2 ^ 32 ≡ line
line-of t line is = omega (arith, is)

module _ {B R : Type 0} (m : Meaning B R) (reply_at : ℕ → ℕ → Option R) where
  -- of a caller, entries are its lines after its first n, and their replies are kept
  record PlayedFrom (caller n : ℕ) (es : List Entry) : Type 0 where
    pub list : List R
    pub lines : AreLines m caller (of_caller caller es) list n
    pub kept : (i : ℕ) → i < length list → reply_at caller (n + i + 1) ≡ slice_get list i

  walk : (es : List Entry) (n : ℕ → ℕ) → ((caller : ℕ) → PlayedFrom caller (n caller) es) → AreReplied m reply_at es
  walk [] n each = tt
  walk (e ∷ es) n each =
      let own = e.tag / 2 ^ 32 in
      let here : (own == own) ≡ true = eq-eqb own own refl in
      let p = each own in
      let head : Head m own (n own) e (of_caller own es) p.list =
      lines-head m own (n own) e (of_caller own es) p.list
      (subst (λ xs. AreLines m own xs p.list (n own)) (caller-own own e es here) p.lines) in
      let count : length p.list ≡ suc (length head.rest) = ap length head.is in
      let line : e.tag % 2 ^ 32 ≡ n own + 1 = line-of e.tag (n own + 1) head.line.tagged in
      let first : n own + 0 + 1 ≡ n own + 1 = omega arith in
      let n' : ℕ → ℕ = λ caller. cond (own == caller) (n caller + 1) (n caller) in
      let more : (caller : ℕ) → PlayedFrom caller (n' caller) es = λ caller. elim (cases_Bool (own == caller)) [
        | inl same ↦
            let is : own ≡ caller = eqb-true own caller same in
            subst (λ k. PlayedFrom caller k es) (sym (ap (λ b. cond b (n caller + 1) (n caller)) same))
            (subst (λ c. PlayedFrom c (n c + 1) es) is
            (record {
              list = head.rest;
              lines = head.more;
              kept = λ i low.
                  let next : n own + 1 + i + 1 ≡ n own + suc i + 1 = omega arith in
                  ap (reply_at own) next ∙ p.kept (suc i) (omega (arith, count))
                  ∙ ap (λ xs. slice_get xs (suc i)) head.is;
            }))
        | inr other ↦
            let q = each caller in
            subst (λ k. PlayedFrom caller k es) (sym (ap (λ b. cond b (n caller + 1) (n caller)) other))
            (record {
              list = q.list;
              lines = subst (λ xs. AreLines m caller xs q.list (n caller))
                  (caller-other caller e es other) q.lines;
              kept = q.kept;
            })
      ] in (
        record {
          body = head.line.body;
          reply = head.reply;
          there = ap (m.body_at own) line ∙ head.line.there;
          kept = ap (reply_at own) (line ∙ sym first) ∙ p.kept 0 (omega (arith, count))
              ∙ ap (λ xs. slice_get xs 0) head.is;
          did_it = head.line.did_it;
        },
        walk es n' more,
      )

-- what lists keep of a caller's line
pub kept-in : {R : Type 0} (lists : List (List R)) (caller : ℕ) (rs : List R) → at_caller [] lists caller ≡ rs
    → (i : ℕ) → i < length rs → line_at lists caller (i + 1) ≡ slice_get rs i
kept-in lists caller rs kept i low =
    let next : i + 1 ≡ suc i = omega arith in
    ap (line_at lists caller) next ∙ ap (λ xs. slice_get xs i) kept

-- Each committed entry of fronts that hold each line once did the line that its tag names, with the reply that is kept
-- of it.
pub each-replied : {B R : Type 0} (m : Meaning B R) (reply_at : ℕ → ℕ → Option R) (keeps : ℕ → List R → Type 0)
    (good : State → List ℕ → Type 0) (opening contents : State) (fronts : List Front)
    → ((caller : ℕ) (rs : List R) → keeps caller rs → (i : ℕ) → i < length rs → reply_at caller (i + 1) ≡ slice_get rs i)
    → EachLineOnce m keeps good opening fronts contents
    → AreReplied m reply_at (committed_of fronts)
each-replied m reply_at keeps good opening contents fronts kept once =
    walk m reply_at (committed_of fronts) (λ caller. 0) (λ caller.
    let p = once.each caller in
    record {
      list = p.replies;
      lines = p.lines;
      kept = λ i low. let same : 0 + i + 1 ≡ i + 1 = omega arith in
          ap (reply_at caller) same ∙ kept caller p.replies p.kept i low;
    })
