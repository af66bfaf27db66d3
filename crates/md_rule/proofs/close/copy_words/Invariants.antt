use Rattle.std.proofs.Common.{◌≡◌, take}
use Rattle.md_rule.proofs.close.copy_words.Given as goal

abbrev pub invariant-loop-place : goal.invariant-loop-place
invariant-loop-place g l = take l.place l.words ≡ take l.place l.ended.words
