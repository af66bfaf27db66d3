-- Words and their parts.
use Rattle.std.proofs.Common.{◌≡◌, ℕ, zero, suc, ◌+◌, ◌*◌, ◌%◌, ◌^◌, ◌<◌, Bool, true, false, cond, None, Some, refl, sym, ap, ◌∙◌, arith}
use Rattle.std.proofs.lemmas.Nat.{div-mul-add, mod-mul-add, div-add-mod', mod_below}
use Rattle.std.proofs.lemmas.Bool.Decides.{nat_tests}
use Rattle.md_words.specs.declared.content.Spot.{Spot}
use Rattle.md_words.specs.declared.status.Status.{Status}
use Rattle.md_words.specs.declared.status.Status.TheVariants.{InPrep, InProg, Committed, Aborted}
use Rattle.md_words.specs.Content.{value_of, count_of, counted_word, is_even, spot_value, spot_of}
use Rattle.md_words.specs.Link.{link_value, linked_node, is_marked}
use Rattle.md_words.specs.Status.{code_of, status_from, status_word, status_of, reads_of, serial_of}
use Rattle.md_words.specs.WordLaws.{ValueFound, CountFound, PartsMakeWord, CountFits, ValueFits, CountedWordFits, ZeroIsEmpty, ZeroIsEven, EvenTurns, SpotFound, SpotMakesValue, SpotStands, StandingSpot, NodeFound, MarkFound, LinkMakesValue, StatusFound, ReadsFound, SerialFound, PartsMakeStatus, ReadsFit, StatusWordFits, StatusAdds, BeginsAt}

pub value_of-counted_word : ValueFound
unfolding value_of counted_word
value_of-counted_word value count h = div-mul-add value (2 ^ 32) count h

pub count_of-counted_word : CountFound
unfolding count_of counted_word
count_of-counted_word value count h = mod-mul-add value (2 ^ 32) count h

pub counted_word-parts : PartsMakeWord
unfolding counted_word value_of count_of
counted_word-parts word = div-add-mod' word (2 ^ 32)

pub count_of_below : CountFits
unfolding count_of
count_of_below word = mod_below word (2 ^ 32) (omega arith)

pub value_of_below : ValueFits
unfolding value_of
value_of_below word h = omega arith

pub counted_word_below : CountedWordFits
unfolding counted_word
counted_word_below value count h k = omega arith

pub zero_is_empty : ZeroIsEmpty
unfolding value_of count_of
zero_is_empty = (refl, refl)

pub is_even-zero : ZeroIsEven
unfolding is_even
is_even-zero = refl

pub is_even-next : EvenTurns
unfolding is_even
is_even-next count = grind (arith, nat_tests)

pub spot_of-spot_value : SpotFound
unfolding spot_of spot_value
spot_of-spot_value spot h =
    let made : ℕ → ℕ → Spot = λ desc slot. record { desc = desc; slot = slot } in
    ap (λ desc. made desc ((spot.desc * 256 + spot.slot) % 256)) (div-mul-add spot.desc 256 spot.slot h)
    ∙ ap (made spot.desc) (mod-mul-add spot.desc 256 spot.slot h)

pub spot_value-spot_of : SpotMakesValue
unfolding spot_of spot_value
spot_value-spot_of value = div-add-mod' value 256

some_of : (b : Bool) (x y : Spot) → cond b None (Some x) ≡ Some y → (b ≡ false) × (x ≡ y)
some_of true x y e = cc
some_of false x y e = (refl, cc)

pub spot_stands : SpotStands
spot_stands spot count h k odd =
    simp (value_of-counted_word (spot_value spot) count k, count_of-counted_word (spot_value spot) count k, odd, spot_of-spot_value spot h)

pub standing_spot : StandingSpot
standing_spot word spot e =
    let f = some_of (is_even (count_of word)) (spot_of (value_of word)) spot e in
    (f.0, sym (spot_value-spot_of (value_of word)) ∙ ap spot_value f.1)

pub linked_node-link_value : NodeFound
unfolding linked_node link_value
linked_node-link_value node true = omega arith
linked_node-link_value node false = omega arith

pub is_marked-link_value : MarkFound
unfolding is_marked link_value
is_marked-link_value node true = grind (arith, nat_tests)
is_marked-link_value node false = grind (arith, nat_tests)

pub link_value-parts : LinkMakesValue
unfolding link_value linked_node is_marked
link_value-parts value = grind (arith, nat_tests)

status_from-code : (status : Status) → status_from (code_of status) ≡ status
status_from-code InPrep = refl
status_from-code InProg = refl
status_from-code Committed = refl
status_from-code Aborted = refl

code_of_below : (status : Status) → code_of status < 4
code_of_below InPrep = omega arith
code_of_below InProg = omega arith
code_of_below Committed = omega arith
code_of_below Aborted = omega arith

code_of-status_from : (code : ℕ) → code < 4 → code_of (status_from code) ≡ code
code_of-status_from zero h = refl
code_of-status_from (suc zero) h = refl
code_of-status_from (suc (suc zero)) h = refl
code_of-status_from (suc (suc (suc zero))) h = refl
code_of-status_from (suc (suc (suc (suc code)))) h = absurd (omega arith)

pub status_of-status_word : StatusFound
unfolding status_of status_word
status_of-status_word status reads serial =
    let h = code_of_below status in
    let e : (code_of status + 4 * reads + 1024 * serial) % 4 ≡ code_of status = omega arith in
    ap status_from e ∙ status_from-code status

pub reads_of-status_word : ReadsFound
unfolding reads_of status_word
reads_of-status_word status reads serial h = omega (arith, code_of_below status)

pub serial_of-status_word : SerialFound
unfolding serial_of status_word
serial_of-status_word status reads serial h = omega (arith, code_of_below status)

pub status_word-parts : PartsMakeStatus
unfolding status_word status_of reads_of serial_of
status_word-parts word = omega (arith, code_of-status_from (word % 4) (mod_below word 4 (omega arith)))

pub reads_of_below : ReadsFit
unfolding reads_of
reads_of_below word = omega arith

pub status_word_below : StatusWordFits
unfolding status_word
status_word_below status reads serial h k = omega (arith, code_of_below status)

pub status_word-adds : StatusAdds
unfolding status_word
status_word-adds status reads serial = omega arith

pub status_word-begins : BeginsAt
unfolding status_word
status_word-begins serial = omega arith
