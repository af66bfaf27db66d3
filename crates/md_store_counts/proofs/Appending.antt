-- For callers: certificates that stand by other words with the same values stand by the heap itself; one more
-- certificate after charged ones; and tidy changes that were charged before their certificate.
use Rattle.std.proofs.Common.{◌++◌, ◌∙◌, List, [], ◌∷◌, get_or, sym, subst}
use Rattle.std.proofs.lemmas.List.{append-nil, append_assoc}
use Rattle.md_words.specs.declared.shape.Shape.{Shape}
use Rattle.md_machine.specs.declared.certificate.Certificate.{Certificate}
use Rattle.md_machine.specs.declared.certificate.TidyChange.{TidyChange}
use Rattle.md_machine.specs.Certified.{AllStandBy, TidiesStandBy, after_tidies, after_whole}
use Rattle.md_machine.specs.LogicalHeap.{LogicalHeap}
use Rattle.md_machine.specs.Meaning.{Stands, StandsBy, after_tidy}
use Rattle.md_machine.proofs.chain.Agree.{SameValues, same_tidies, same_tidy, same_whole}
use Rattle.md_store_counts.specs.Few.{AllCharged, NextCharged}

pub tidies_by_itself : (own h : LogicalHeap) → SameValues own h → (ts : List TidyChange) → TidiesStandBy own h ts → TidiesStandBy h h ts
tidies_by_itself own h same [] stand = tt
tidies_by_itself own h same (t ∷ ts) stand = (
  record { old = sym (same.value t.change.word) ∙ stand.0.old; facts = stand.0.facts; fresh = stand.0.fresh },
  tidies_by_itself (after_tidy own t) (after_tidy h t) (same_tidy own h same t) ts stand.1,
)

by_itself : (own h : LogicalHeap) → SameValues own h → (c : Certificate) → StandsBy own h c → Stands h c
by_itself own h same c s = record {
  recorded = λ i d below. sym (same.value (get_or c.recorded i d).word) ∙ s.recorded i d below;
  old = λ i d below. sym (same.value (get_or c.changes i d).word) ∙ s.old i d below;
  facts = s.facts;
  fresh = s.fresh;
}

pub all_by_itself : (own h : LogicalHeap) → SameValues own h → (cs : List Certificate) → AllStandBy own h cs → AllStandBy h h cs
all_by_itself own h same [] stand = tt
all_by_itself own h same (c ∷ cs) stand = (
  tidies_by_itself own h same c.tidy stand.0,
  by_itself (after_tidies own c.tidy) (after_tidies h c.tidy) (same_tidies own h same c.tidy) c stand.1,
  all_by_itself (after_whole own c) (after_whole h c) (same_whole own h same c) cs stand.2,
)

pub charged_more : (shape : Shape) (before cs : List Certificate) (c : Certificate) → AllCharged shape before cs
    → NextCharged shape (before ++ cs) c → AllCharged shape before (cs ++ c ∷ [])
charged_more shape before [] c charged more = (subst (λ l. NextCharged shape l c) (append-nil before) more, tt)
charged_more shape before (d ∷ ds) c charged more = (
  charged.0,
  charged_more shape (before ++ d ∷ []) ds c charged.1 (subst (λ l. NextCharged shape l c) (sym (append_assoc before (d ∷ []) ds)) more),
)
