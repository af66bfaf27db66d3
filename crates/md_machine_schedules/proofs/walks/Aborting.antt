-- Pass 1 meets the descriptor of an insert that isn't ready, aborts it and takes it out.
use Rattle.std.proofs.Common.{refl, lit≤, inl, inr}
use Rattle.md_words.specs.Content.{value_of, count_of, is_even, counted_word, spot_value, spot_of}
use Rattle.md_words.specs.Status.{status_word, status_of, reads_of, serial_of}
use Rattle.md_words.specs.Layout.{words_of, node_count, desc_count, address}
use Rattle.md_words.specs.Place.{desc_status, slot_old}
use Rattle.md_words.specs.PlaceAt.{place_at}
use Rattle.md_words.specs.Lanes.{OwnsDesc}
use Rattle.md_machine.specs.Event.{Does, abort, load, mark_begin, mark_start, uninstall}
use Rattle.md_machine.specs.Machine.{Machine}
use Rattle.md_machine.specs.Meaning.{Meaning}
use Rattle.md_machine_schedules.specs.Field.{bucket, place_word, small_shape, standing}
use Rattle.md_machine_schedules.specs.Schedules.{aborting, stopping_certificates}
use Rattle.md_machine_schedules.specs.Walk.{after_event, hand_at, view_at}
use Rattle.md_machine_schedules.proofs.Walking.{Walks, nth, saw_at}
use Rattle.md_machine_schedules.proofs.walks.Inserting.{m13}

abbrev s14 : Machine
s14 = after_event stopping_certificates m13 (load 1 (place_word (desc_status 1)))

abbrev s15 : Machine
s15 = after_event stopping_certificates s14 (mark_begin 1 1 2)

abbrev s16 : Machine
s16 = after_event stopping_certificates s15 (mark_start 1)

abbrev s17 : Machine
s17 = after_event stopping_certificates s16 (load 1 bucket)

abbrev s18 : Machine
s18 = after_event stopping_certificates s17 (load 1 (place_word (desc_status 0)))

abbrev s19 : Machine
s19 = after_event stopping_certificates s18 (load 1 bucket)

abbrev s20 : Machine
s20 = after_event stopping_certificates s19 (abort 1 0 0)

abbrev s21 : Machine
s21 = after_event stopping_certificates s20 (load 1 (place_word (slot_old 0 0)))

abbrev pub s22 : Machine
s22 = after_event stopping_certificates s21 (uninstall 1 bucket (standing 0) 0)

module _ (M : Meaning) where
  does_13 : Does M m13 (load 1 (place_word (desc_status 1))) s14
  unfolding words_of node_count address
  does_13 = (view_at m13 1, record { at = refl; live = lit≤ tt }, lit≤ tt, refl)

  does_14 : Does M s14 (mark_begin 1 1 2) s15
  unfolding OwnsDesc
  does_14 = (view_at s14 1, record { at = refl; live = lit≤ tt }, record { idle = refl; own = (1, (0, lit≤ tt, refl), (lit≤ tt, refl)); first = refl }, refl)

  does_15 : Does M s15 (mark_start 1) s16
  does_15 = (view_at s15 1, hand_at s15 1, record { at = refl; live = lit≤ tt }, record { held = refl; between = refl }, refl)

  does_16 : Does M s16 (load 1 bucket) s17
  unfolding words_of node_count address
  does_16 = (view_at s16 1, record { at = refl; live = lit≤ tt }, lit≤ tt, refl)

  does_17 : Does M s17 (load 1 (place_word (desc_status 0))) s18
  unfolding words_of node_count address
  does_17 = (view_at s17 1, record { at = refl; live = lit≤ tt }, lit≤ tt, refl)

  does_18 : Does M s18 (load 1 bucket) s19
  unfolding words_of node_count address
  does_18 = (view_at s18 1, record { at = refl; live = lit≤ tt }, lit≤ tt, refl)

  does_19 : Does M s19 (abort 1 0 0) s20
  unfolding value_of count_of is_even counted_word spot_value spot_of
      status_word status_of reads_of serial_of words_of node_count desc_count address place_at
  does_19 = (
    view_at s19 1,
    record { at = refl; live = lit≤ tt },
    record {
      exists = lit≤ tt;
      reached = inr (
        bucket,
        standing 0,
        (lit≤ tt, refl),
        refl,
        ((view_at s19 1).trail, (0, lit≤ tt, refl), (nth (view_at s19 1) 4, (4, lit≤ tt, refl), record { there = refl; before = refl; found = refl })),
      );
      undecided = inl refl;
    },
    refl,
  )

  does_20 : Does M s20 (load 1 (place_word (slot_old 0 0))) s21
  unfolding words_of node_count address
  does_20 = (view_at s20 1, record { at = refl; live = lit≤ tt }, lit≤ tt, refl)

  does_21 : Does M s21 (uninstall 1 bucket (standing 0) 0) s22
  unfolding value_of count_of is_even counted_word spot_value spot_of
      status_word status_of reads_of serial_of words_of node_count address place_at OwnsDesc
  does_21 = (
    view_at s21 1,
    record { at = refl; live = lit≤ tt },
    record {
      counted = (lit≤ tt, refl);
      odd = refl;
      status = 3;
      decided = inr refl;
      held = 0;
      knows = inr (saw_at small_shape (view_at s21 1) _ _ _ _ 4 (0, lit≤ tt, refl)
          (record { there = refl; before = refl; found = refl })
          (0, record { there = refl; before = refl; found = refl }, refl)
          (record { there = refl; before = refl; found = refl })
          (inr (record { there = refl; after = refl }))
          (record { kind = refl; finds = record { there = refl; before = refl; found = refl } }));
      is = refl;
    },
    refl,
  )

  -- from where the insert stalls
  pub aborts : Walks M stopping_certificates m13 aborting
  aborts = (does_13, (does_14, (does_15, (does_16, (does_17, (does_18, (does_19, (does_20, (does_21, tt)))))))))
