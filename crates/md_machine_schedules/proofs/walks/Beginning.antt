-- How each of the worked schedules begins.
use Rattle.std.proofs.Common.{refl, lit≤}
use Rattle.md_words.specs.Layout.{words_of, node_count, address}
use Rattle.md_words.specs.Place.{desc_status}
use Rattle.md_words.specs.Lanes.{OwnsDesc}
use Rattle.md_machine.specs.Event.{Does, load, mark_begin, mark_start, opened, split}
use Rattle.md_machine.specs.Machine.{Machine}
use Rattle.md_machine.specs.Meaning.{Meaning}
use Rattle.md_machine_schedules.specs.Field.{bucket, place_word, small_opening}
use Rattle.md_machine_schedules.specs.Transactions.{beginning}
use Rattle.md_machine_schedules.specs.Walk.{Certificates, after_event, hand_at, no_certificates, view_at}
use Rattle.md_machine_schedules.proofs.Walking.{Walks}

abbrev pub m0 : Machine
m0 = opened small_opening

abbrev pub m1 : Machine
m1 = after_event no_certificates m0 (split 0)

abbrev pub m2 : Machine
m2 = after_event no_certificates m1 (load 0 (place_word (desc_status 0)))

abbrev pub m3 : Machine
m3 = after_event no_certificates m2 (mark_begin 0 0 1)

abbrev pub m4 : Machine
m4 = after_event no_certificates m3 (mark_start 0)

abbrev pub m5 : Machine
m5 = after_event no_certificates m4 (load 0 bucket)

module _ (M : Meaning) where
  does_0 : Does M m0 (split 0) m1
  does_0 = (view_at m0 0, record { at = refl; live = lit≤ tt }, lit≤ tt, refl)

  does_1 : Does M m1 (load 0 (place_word (desc_status 0))) m2
  unfolding words_of node_count address
  does_1 = (view_at m1 0, record { at = refl; live = lit≤ tt }, lit≤ tt, refl)

  does_2 : Does M m2 (mark_begin 0 0 1) m3
  unfolding OwnsDesc
  does_2 = (view_at m2 0, record { at = refl; live = lit≤ tt }, record { idle = refl; own = (0, (0, lit≤ tt, refl), (lit≤ tt, refl)); first = refl }, refl)

  does_3 : Does M m3 (mark_start 0) m4
  does_3 = (view_at m3 0, hand_at m3 0, record { at = refl; live = lit≤ tt }, record { held = refl; between = refl }, refl)

  does_4 : Does M m4 (load 0 bucket) m5
  unfolding words_of node_count address
  does_4 = (view_at m4 0, record { at = refl; live = lit≤ tt }, lit≤ tt, refl)

  -- lane 1 goes to pass 1, and pass 0 begins a transaction
  pub begins : (by : Certificates) → Walks M by m0 beginning
  begins by = (does_0, (does_1, (does_2, (does_3, (does_4, tt)))))
