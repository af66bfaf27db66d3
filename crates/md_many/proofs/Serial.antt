-- Runs of lines as one thread makes them.
use Rattle.std.proofs.Common.{◌≡◌, ℕ, List, [], ◌∷◌, ◌++◌, refl, sym, ap, subst, ◌∙◌, append_assoc}
use Rattle.std.specs.Prelude.{Option}
use Rattle.std.specs.List.{cons_option}
use Rattle.std.proofs.lemmas.List.{append-nil}
use Rattle.md_history.specs.declared.acts.Act.{Act}
use Rattle.md_history.specs.declared.entries.Entry.{Entry}
use Rattle.md_history.specs.State.{State, run, IsRight}
use Rattle.md_history.specs.History.{acts_of}
use Rattle.md_history.specs.HistoryLaws.{right-first, right-rest, run-append}
use Rattle.md_history.specs.Front.{Front}
use Rattle.md_many_attempts.specs.Meaning.{Meaning}
use Rattle.md_many_attempts.specs.ByCaller.{line_at, at_caller}
use Rattle.md_many.specs.Played.{committed_of, tags_of, EachLineOnce}
use Rattle.md_many.specs.Replied.{IsReplied, AreReplied}
use Rattle.md_many.specs.Serial.{IsSerialRun, at_tags, after_each, reply_of_each, added_by}
use Rattle.md_many.proofs.Walking.{fronts-right, fronts-run, kept-in, each-replied}

-- the committed entries of fronts that hold each line once are a serial run
pub once-serial : {B R : Type 0} (m : Meaning B R)
    (replies : List (List R)) (good : State → List ℕ → Type 0) (opening contents : State) (fronts : List Front)
    → EachLineOnce m (λ caller rs. at_caller [] replies caller ≡ rs) good opening fronts contents
    → IsSerialRun m (line_at replies) opening (committed_of fronts) contents
once-serial m replies good opening contents fronts once = record {
  lines = each-replied m (line_at replies) (λ caller rs. at_caller [] replies caller ≡ rs) good
      opening contents fronts (kept-in replies) once;
  right = fronts-right opening fronts once.legal;
  left = once.replay ∙ fronts-run opening fronts;
}

module _ {B R : Type 0} (m : Meaning B R) (reply_at : ℕ → ℕ → Option R) where
  -- what each body keeps is so at the end
  pub serial-keeps : (P : State → Type 0)
      → ((b : B) (s : State) (acts : List Act) (r : R) → P s → m.did b acts r → IsRight s acts → P (run s acts))
      → (start end : State) (es : List Entry) → IsSerialRun m reply_at start es end → P start → P end
  serial-keeps P keeps start end es is here =
      subst P (sym is.left) (each es start is.lines is.right here)
    where
      each : (ds : List Entry) (s : State) → AreReplied m reply_at ds → IsRight s (acts_of ds) → P s
          → P (run s (acts_of ds))
      each [] s lines right here = here
      each (d ∷ ds) s lines right here =
          let first : IsReplied m reply_at d = lines.0 in
          subst P (sym (run-append s d.acts (acts_of ds)))
          (each ds (run s d.acts) lines.1 (right-rest s d.acts (acts_of ds) right)
          (keeps first.body s d.acts first.reply here first.did_it (right-first s d.acts (acts_of ds) right)))

  -- If it is known what a body leaves and replies, by what it finds, then so is what a serial run leaves, and which
  -- replies are kept.
  module _ {S : Type 0} (state_of : S → State) (after : S → B → S) (reply : S → B → R)
      (does : (x : S) (b : B) (acts : List Act) (r : R) → m.did b acts r → IsRight (state_of x) acts
      → (run (state_of x) acts ≡ state_of (after x b)) × (r ≡ reply x b)) where
    each-does : (x : S) (es : List Entry) → AreReplied m reply_at es → IsRight (state_of x) (acts_of es)
        → (run (state_of x) (acts_of es) ≡ state_of (after_each after x (at_tags m.body_at (tags_of es))))
        × (at_tags reply_at (tags_of es) ≡ reply_of_each after reply x (at_tags m.body_at (tags_of es)))
    each-does x [] lines right = (refl, refl)
    each-does x (e ∷ es) lines right =
        let first : IsReplied m reply_at e = lines.0 in
        let d = does x first.body e.acts first.reply first.did_it (right-first (state_of x) e.acts (acts_of es) right) in
        let y = after x first.body in
        let bs = at_tags m.body_at (tags_of es) in
        let more = each-does y es lines.1
        (subst (λ s. IsRight s (acts_of es)) d.0 (right-rest (state_of x) e.acts (acts_of es) right)) in
        let bodies : at_tags m.body_at (tags_of (e ∷ es)) ≡ first.body ∷ bs = ap (λ o. cons_option o bs) first.there in (
          run-append (state_of x) e.acts (acts_of es) ∙ ap (λ s. run s (acts_of es)) d.0 ∙ more.0
              ∙ sym (ap (λ xs. state_of (after_each after x xs)) bodies),
          ap (λ o. cons_option o (at_tags reply_at (tags_of es))) first.kept
              ∙ ap (λ r. r ∷ at_tags reply_at (tags_of es)) d.1 ∙ ap (λ rs. reply x first.body ∷ rs) more.1
              ∙ sym (ap (reply_of_each after reply x) bodies),
        )

    pub serial-does : (x : S) (es : List Entry) (end : State) → IsSerialRun m reply_at (state_of x) es end
        → (end ≡ state_of (after_each after x (at_tags m.body_at (tags_of es))))
        × (at_tags reply_at (tags_of es) ≡ reply_of_each after reply x (at_tags m.body_at (tags_of es)))
    serial-does x es end is = let each = each-does x es is.lines is.right in (is.left ∙ each.0, each.1)

module _ {B S : Type 0} (after : S → B → S) where
  -- what each body leaves as it was is as it was at first
  pub each-same : {A : Type 0} (of : S → A) → ((s : S) (b : B) → of (after s b) ≡ of s) → (s : S) (bs : List B)
      → of (after_each after s bs) ≡ of s
  each-same of same s [] = refl
  each-same of same s (b ∷ bs) = each-same of same (after s b) bs ∙ same s b

  -- a list to which each body adds by its reply has what all of them add
  pub each-adds : {R A : Type 0} (reply : S → B → R) (list : S → List A) (add : B → R → List A)
      → ((s : S) (b : B) → list (after s b) ≡ list s ++ add b (reply s b)) → (s : S) (bs : List B)
      → list (after_each after s bs) ≡ list s ++ added_by add bs (reply_of_each after reply s bs)
  each-adds reply list add adds s [] = sym (append-nil (list s))
  each-adds reply list add adds s (b ∷ bs) =
      let more = added_by add bs (reply_of_each after reply (after s b) bs) in
      each-adds reply list add adds (after s b) bs ∙ ap (λ xs. xs ++ more) (adds s b)
      ∙ append_assoc (list s) (add b (reply s b)) more
