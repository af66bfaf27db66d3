-- Which words an operation records more, and by which certificate it is answered.
use Rattle.std.proofs.Common.{◌≡◌, ◌≤◌, ◌++◌, ℕ, List, [], ◌∷◌, length, sym, ap, ◌∙◌, subst, inl, inr, ⊎_elim, arith}
use Rattle.std.proofs.lemmas.List.{append-nil, length-append}
use Rattle.std.proofs.lemmas.List.Elements.{Contains-append_left, Contains-append_right}
use Rattle.std.specs.List.{Contains}
use Rattle.md_history.specs.declared.acts.Op.{Op}
use Rattle.md_history.specs.declared.acts.Reply.{Reply}
use Rattle.md_machine.specs.declared.attempt.Read.{Read}
use Rattle.md_machine.specs.declared.certificate.Certificate.{Certificate}
use Rattle.md_machine.specs.Certified.{all_changes}
use Rattle.md_machine.specs.Meaning.{Meaning}
use Rattle.md_rule.specs.Steps.{IsOf as IsOfAct}
use Rattle.md_nbtc_law.specs.Calls.{MayAnswer}
use Rattle.md_nbtc_law.specs.Course.{MayEnd}
use Rattle.md_nbtc_law.specs.Going.{IsGoing, IsUnderWay}
use Rattle.md_nbtc_law.specs.State.{TxnState, shape_in}
use Rattle.md_queue_law.specs.QueueCertificates.{CertifiesOp}
use Rattle.md_queue.specs.Charged.{AreCharged}
use Rattle.md_queue.specs.Operations.{OperationAnswered, GoesBy, IsAnswered, RecordsAmong, words_recorded}

-- where no word more is recorded, the recorded words are the same
pub no_more_reads : (M : Meaning) (t u : TxnState) (writes nodes : ℕ) → GoesBy M t u 0 writes nodes → u.reads ≡ t.reads
no_more_reads M t u writes nodes goes =
    let first = goes.leaves.on.later.reads in
    let few = goes.leaves.reads_few in
    first.is ∙ none first.rest (let l = ap (λ (x : List Read). length x) first.is ∙ length-append t.reads first.rest in omega (arith, l, few))
  where
    none : (rest : List Read) → length rest ≤ 0 → t.reads ++ rest ≡ t.reads
    none [] l = append-nil t.reads
    none (r ∷ rest) l = absurd (omega (arith, l))

-- before and after steps that record none
pub among_from : (M : Meaning) (s t u : TxnState) (writes nodes : ℕ) (words : List ℕ) → GoesBy M s t 0 writes nodes → RecordsAmong t u words → RecordsAmong s u words
among_from M s t u writes nodes words goes among r in_u = ⊎_elim (λ old. inl (subst (λ l. Contains l r) (no_more_reads M s t writes nodes goes) old)) inr (among r in_u)

pub among_to : (M : Meaning) (s t u : TxnState) (writes nodes : ℕ) (words : List ℕ) → RecordsAmong s t words → GoesBy M t u 0 writes nodes → RecordsAmong s u words
among_to M s t u writes nodes words among goes r in_u = among r (subst (λ l. Contains l r) (no_more_reads M t u writes nodes goes) in_u)

pub among_none : (M : Meaning) (s t : TxnState) (writes nodes : ℕ) → GoesBy M s t 0 writes nodes → RecordsAmong s t []
among_none M s t writes nodes goes r in_t = inl (subst (λ l. Contains l r) (no_more_reads M s t writes nodes goes) in_t)

-- one after another
pub among_then : (s t u : TxnState) (xs ys : List ℕ) → RecordsAmong s t xs → RecordsAmong t u ys → RecordsAmong s u (xs ++ ys)
among_then s t u xs ys one two r in_u = ⊎_elim
    (λ in_t. ⊎_elim inl (λ x. inr (Contains-append_left xs ys r.word x)) (one r in_t))
    (λ y. inr (Contains-append_right xs ys r.word y))
    (two r in_u)

-- an operation may be ended by a certificate of its row, which records these words
pub record AnswersBy (M : Meaning) (t : TxnState) (cs : List Certificate) (op : Op) (reply : Reply) (words : List ℕ) : Type 0 where
  pub certificate : Certificate
  pub of : IsOfAct op reply certificate
  pub may : MayEnd M t cs certificate
  pub row : CertifiesOp (shape_in t) op certificate
  pub are : words_recorded certificate ≡ words
  pub charged : AreCharged t (all_changes cs) certificate.tidy

pub is_answered : {M : Meaning} {t u : TxnState} {cs : List Certificate} {op : Op} {reply : Reply} (words : List ℕ)
    → AnswersBy M u cs op reply words → RecordsAmong t u words → IsAnswered M t u cs op reply
is_answered {M} {t} {u} words by among = record {
  certificate = by.certificate;
  of = by.of;
  may = by.may;
  row = by.row;
  recorded = subst (RecordsAmong t u) (sym by.are) among;
  charged = by.charged;
}

-- so it is answered, whatever the certificates are
pub answered : {M : Meaning} {t u : TxnState} {op : Op} {reply : Reply} {reads writes nodes : ℕ} (words : List ℕ)
    → GoesBy M t u reads writes nodes → ((cs : List Certificate) → IsGoing M t cs → AnswersBy M u cs op reply words) → RecordsAmong t u words
    → OperationAnswered M t u op reply reads writes nodes
answered words goes by among = record { goes = goes; by = λ cs going. is_answered words (by cs going) among }

-- and may be ended
pub may_answer : (M : Meaning) (t u : TxnState) (op : Op) (reply : Reply) (reads writes nodes : ℕ) → IsUnderWay M t → OperationAnswered M t u op reply reads writes nodes → MayAnswer M u op reply
may_answer M t u op reply reads writes nodes under a =
    let by = a.by under.0 under.1 in
    record { earlier = under.0; going = a.goes.leaves.on.going under.0 under.1; certificate = by.certificate; of = by.of; may = by.may }
