-- Which word a note records.
use Rattle.std.proofs.Common.{◌≡◌, ◌⊎◌, ℕ, [], ◌∷◌, Result, Ok, Err, true, sym, ap, subst, inl, inr, ⊎_elim}
use Rattle.std.proofs.lemmas.List.Elements.{Contains-append_cases}
use Rattle.std.specs.List.{Contains}
use Rattle.md_history.specs.declared.stops.Stop.{Stop}
use Rattle.md_machine.specs.declared.attempt.Read.{Read}
use Rattle.md_machine.proofs.lists.Rising.{in_cons, in_none}
use Rattle.md_nbtc_law.specs.declared.seen.Seen.{Seen}
use Rattle.md_nbtc_law.specs.Calls.{AfterStop, NoteCase, Notes, full, note_case, noted, recorded, unread}
use Rattle.md_nbtc_law.specs.State.{TxnState, seen_content}
use Rattle.md_nbtc_law.proofs.structures.Answering.{after_ok}

-- what is recorded more is of this word
abbrev pub NotesOnly : (t u : TxnState) → (word : ℕ) → Type 0
NotesOnly t u word = (r : Read) → Contains u.reads r → Contains t.reads r ⊎ (r.word ≡ word)

module _ (t u : TxnState) (word : ℕ) (seen : Seen) where
  ok_err : {B : Type 0} (s : Stop) → (let r : Result (Unit {0}) Stop = Ok tt in r) ≡ Err s → B
  ok_err s e = absurd (cc e)

  by_case : (c : NoteCase) → Notes c t u word seen (Ok tt) → NotesOnly t u word
  by_case noted is r among = inl (subst (λ (x : TxnState). Contains x.reads r) is.1 among)
  by_case (recorded held) is r among = ok_err _ is.0
  by_case full is r among = ok_err _ is.0
  by_case unread is r among =
      let new : Read = record { word = word; content = seen_content seen; stood = true } in
      ⊎_elim inl
      (λ last. inr (⊎_elim (λ same. ap (λ (x : Read). x.word) (sym same)) (λ none. absurd (in_none r none)) (in_cons new [] r last)))
      (Contains-append_cases t.reads (new ∷ []) r (subst (λ l. Contains l r) (ap (λ (x : TxnState). x.reads) is.1) among))

  pub notes_only : AfterStop t.stop t u (let r : Result (Unit {0}) Stop = Ok tt in r) (Notes (note_case t word seen) t u word seen (Ok tt)) → NotesOnly t u word
  notes_only is = by_case (note_case t word seen) (after_ok (Unit {0}) t u t.stop tt (Notes (note_case t word seen) t u word seen (Ok tt)) is)
