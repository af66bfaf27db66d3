-- A descriptor that stands in a word is aborted and taken out by another pass.
use Rattle.std.proofs.Common.{refl, lit≤, inl, inr}
use Rattle.md_words.specs.Content.{value_of, count_of, is_even, counted_word, spot_value, spot_of}
use Rattle.md_words.specs.Status.{status_word, status_of, reads_of, serial_of}
use Rattle.md_words.specs.Layout.{words_of, node_count, desc_count, address}
use Rattle.md_words.specs.Place.{desc_status, slot_new, slot_old, slot_word}
use Rattle.md_words.specs.PlaceAt.{place_at}
use Rattle.md_words.specs.Lanes.{OwnsDesc}
use Rattle.md_machine.specs.Event.{Does, abort, install, load, mark_begin, split, store, uninstall}
use Rattle.md_machine.specs.Machine.{Machine}
use Rattle.md_machine.specs.Meaning.{Meaning}
use Rattle.md_machine_schedules.specs.Field.{bucket, first_slot, link_to, place_word, small_shape, standing}
use Rattle.md_machine_schedules.specs.Clearing.{clearing, installed, installing}
use Rattle.md_machine_schedules.specs.Walk.{after_event, hand_at, no_certificates, view_at}
use Rattle.md_machine_schedules.proofs.Walking.{Walks, nth, saw_at}
use Rattle.md_machine_schedules.proofs.walks.Beginning.{m0}

abbrev c1 : Machine
c1 = after_event no_certificates m0 (split 0)

abbrev c2 : Machine
c2 = after_event no_certificates c1 (mark_begin 0 0 0)

abbrev c3 : Machine
c3 = after_event no_certificates c2 (store 0 (place_word (slot_word 0 0)) bucket)

abbrev c4 : Machine
c4 = after_event no_certificates c3 (store 0 (place_word (slot_old 0 0)) 0)

abbrev c5 : Machine
c5 = after_event no_certificates c4 (store 0 (place_word (slot_new 0 0)) (link_to 2))

abbrev c6 : Machine
c6 = after_event no_certificates c5 (install 0 bucket 0 (first_slot 0))

abbrev c7 : Machine
c7 = after_event no_certificates c6 (load 1 bucket)

abbrev c8 : Machine
c8 = after_event no_certificates c7 (load 1 (place_word (desc_status 0)))

abbrev c9 : Machine
c9 = after_event no_certificates c8 (load 1 bucket)

abbrev c10 : Machine
c10 = after_event no_certificates c9 (abort 1 0 0)

abbrev c11 : Machine
c11 = after_event no_certificates c10 (load 1 (place_word (slot_old 0 0)))

abbrev c12 : Machine
c12 = after_event no_certificates c11 (uninstall 1 bucket (standing 0) 0)

module _ (M : Meaning) where
  does_0 : Does M m0 (split 0) c1
  does_0 = (view_at m0 0, record { at = refl; live = lit≤ tt }, lit≤ tt, refl)

  does_1 : Does M c1 (mark_begin 0 0 0) c2
  unfolding OwnsDesc
  does_1 = (view_at c1 0, record { at = refl; live = lit≤ tt }, record { idle = refl; own = (0, (0, lit≤ tt, refl), (lit≤ tt, refl)); first = refl }, refl)

  does_2 : Does M c2 (store 0 (place_word (slot_word 0 0)) bucket) c3
  unfolding words_of node_count address place_at
  does_2 = (
    view_at c2 0,
    hand_at c2 0,
    record { at = refl; live = lit≤ tt },
    record { held = refl; unready = refl; exists = lit≤ tt; place = (refl, (lit≤ tt, refl), refl) },
    refl,
  )

  does_3 : Does M c3 (store 0 (place_word (slot_old 0 0)) 0) c4
  unfolding words_of node_count address place_at
  does_3 = (
    view_at c3 0,
    hand_at c3 0,
    record { at = refl; live = lit≤ tt },
    record { held = refl; unready = refl; exists = lit≤ tt; place = (refl, refl) },
    refl,
  )

  does_4 : Does M c4 (store 0 (place_word (slot_new 0 0)) (link_to 2)) c5
  unfolding words_of node_count address place_at
  does_4 = (
    view_at c4 0,
    hand_at c4 0,
    record { at = refl; live = lit≤ tt },
    record { held = refl; unready = refl; exists = lit≤ tt; place = (refl, lit≤ tt) },
    refl,
  )

  does_5 : Does M c5 (install 0 bucket 0 (first_slot 0)) c6
  unfolding value_of count_of is_even counted_word spot_value words_of node_count address place_at
  does_5 = (
    view_at c5 0,
    hand_at c5 0,
    record { at = refl; live = lit≤ tt },
    record {
      held = refl;
      unready = refl;
      own = refl;
      slot = lit≤ tt;
      counted = (lit≤ tt, refl);
      place = tt;
      from_even = record { even = refl; room = lit≤ tt };
      names = refl;
      old = refl;
    },
    refl,
  )

  does_6 : Does M c6 (load 1 bucket) c7
  unfolding words_of node_count address
  does_6 = (view_at c6 1, record { at = refl; live = lit≤ tt }, lit≤ tt, refl)

  does_7 : Does M c7 (load 1 (place_word (desc_status 0))) c8
  unfolding words_of node_count address
  does_7 = (view_at c7 1, record { at = refl; live = lit≤ tt }, lit≤ tt, refl)

  does_8 : Does M c8 (load 1 bucket) c9
  unfolding words_of node_count address
  does_8 = (view_at c8 1, record { at = refl; live = lit≤ tt }, lit≤ tt, refl)

  does_9 : Does M c9 (abort 1 0 0) c10
  unfolding value_of count_of is_even counted_word spot_value spot_of
      status_word status_of reads_of serial_of words_of node_count desc_count address place_at
  does_9 = (
    view_at c9 1,
    record { at = refl; live = lit≤ tt },
    record {
      exists = lit≤ tt;
      reached = inr (
        bucket,
        standing 0,
        (lit≤ tt, refl),
        refl,
        ((view_at c9 1).trail, (0, lit≤ tt, refl), (nth (view_at c9 1) 1, (1, lit≤ tt, refl), record { there = refl; before = refl; found = refl })),
      );
      undecided = inl refl;
    },
    refl,
  )

  does_10 : Does M c10 (load 1 (place_word (slot_old 0 0))) c11
  unfolding words_of node_count address
  does_10 = (view_at c10 1, record { at = refl; live = lit≤ tt }, lit≤ tt, refl)

  does_11 : Does M c11 (uninstall 1 bucket (standing 0) 0) c12
  unfolding value_of count_of is_even counted_word spot_value spot_of
      status_word status_of reads_of serial_of words_of node_count address place_at OwnsDesc
  does_11 = (
    view_at c11 1,
    record { at = refl; live = lit≤ tt },
    record {
      counted = (lit≤ tt, refl);
      odd = refl;
      status = 3;
      decided = inr refl;
      held = 0;
      knows = inr (saw_at small_shape (view_at c11 1) _ _ _ _ 1 (0, lit≤ tt, refl)
          (record { there = refl; before = refl; found = refl })
          (0, record { there = refl; before = refl; found = refl }, refl)
          (record { there = refl; before = refl; found = refl })
          (inr (record { there = refl; after = refl }))
          (record { kind = refl; finds = record { there = refl; before = refl; found = refl } }));
      is = refl;
    },
    refl,
  )

  -- pass 0 installs the descriptor
  pub installs : Walks M no_certificates m0 installing
  installs = (does_0, (does_1, (does_2, (does_3, (does_4, (does_5, tt))))))

  -- pass 1 clears it
  pub clears : Walks M no_certificates installed clearing
  clears = (does_6, (does_7, (does_8, (does_9, (does_10, (does_11, tt))))))
