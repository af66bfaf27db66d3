-- Then pass 0 becomes ready, finds that its read doesn't stand, and aborts.
use Rattle.std.proofs.Common.{[], ◌∷◌, refl, lit≤, inl, inr, true, false, None}
use Rattle.std.proofs.lemmas.Bool.{false≢true}
use Rattle.md_words.specs.Content.{value_of, count_of, is_even, counted_word, spot_value, spot_of}
use Rattle.md_words.specs.Status.{status_word, status_of, reads_of, serial_of}
use Rattle.md_words.specs.Layout.{words_of, node_count, desc_count, address}
use Rattle.md_words.specs.PlaceAt.{place_at}
use Rattle.md_words.specs.Lanes.{OwnsNode, OwnsDesc}
use Rattle.md_history.specs.declared.acts.Reply.TheVariants.{Value}
use Rattle.md_machine.specs.declared.attempt.Write.{Write}
use Rattle.md_machine.specs.Certified.{CertifiedIn}
use Rattle.md_machine.specs.Event.{Does, abort, load, mark_end, ready}
use Rattle.md_machine.specs.LogicalHeap.{Holds}
use Rattle.md_machine.specs.Machine.{Machine, attempt_of}
use Rattle.md_machine.specs.Meaning.{Meaning}
use Rattle.md_machine.specs.Resolution.{InEveryResolution, logical_heap}
use Rattle.md_machine.specs.Trail.{SomeStepOf}
use Rattle.md_machine.specs.events.Ready.{InstallsFor, IsStoredRead, MayRecord, read_now}
use Rattle.md_machine_schedules.specs.Field.{bucket, link_to, small_shape}
use Rattle.md_machine_schedules.specs.Transactions.{misses}
use Rattle.md_machine_schedules.specs.Schedules.{losing, moving_certificates}
use Rattle.md_machine_schedules.specs.Walk.{after_event, hand_at, view_at}
use Rattle.md_machine_schedules.proofs.Walking.{Walks, nth, one_below, only_none, only_one, step_at, stored_at}
use Rattle.md_machine_schedules.proofs.Certifying.{look_up_certified, look_up_in}
use Rattle.md_machine_schedules.proofs.walks.Winning.{r24}

abbrev r25 : Machine
r25 = after_event moving_certificates r24 (ready 0 1)

abbrev r26 : Machine
r26 = after_event moving_certificates r25 (load 0 bucket)

abbrev r27 : Machine
r27 = after_event moving_certificates r26 (abort 0 0 5)

abbrev r28 : Machine
r28 = after_event moving_certificates r27 (mark_end 0)

chain_24 : InEveryResolution r24 (CertifiedIn (read_now r24 0 0 ∷ []) [] (misses ∷ []))
unfolding value_of count_of is_even counted_word spot_value spot_of
    status_word serial_of words_of node_count address place_at
chain_24 (true ∷ []) r =
    look_up_in (Value None) [] (read_now r24 0 0) (logical_heap r24 (true ∷ [])) refl refl
    (only_none (Holds (logical_heap r24 (true ∷ []))))
chain_24 (false ∷ []) r = absurd (false≢true r.0)
chain_24 (k ∷ j ∷ ks) r = absurd r.1
chain_24 [] r = absurd r

module _ (M : Meaning) (mis : M.certifies small_shape misses) where
  does_24 : Does M r24 (ready 0 1) r25
  unfolding value_of count_of is_even counted_word spot_value status_word serial_of words_of node_count address place_at OwnsNode OwnsDesc
  does_24 = (
    view_at r24 0,
    hand_at r24 0,
    misses ∷ [],
    record { at = refl; live = lit≤ tt },
    record {
      held = refl;
      own = (0, (0, lit≤ tt, refl), (lit≤ tt, refl));
      few = lit≤ tt;
      stored = one_below (IsStoredRead r24 (view_at r24 0) (attempt_of 0 0)) (record {
        word = stored_at (view_at r24 0) _ _ _ 5 (0, lit≤ tt, refl) (record { kind = refl; attempt = refl; there = refl }) refl refl;
        content = stored_at (view_at r24 0) _ _ _ 6 (0, lit≤ tt, refl) (record { kind = refl; attempt = refl; there = refl }) refl refl;
      });
      recorded = only_one (MayRecord r24 (view_at r24 0)) (read_now r24 0 0) (record {
        counted = (lit≤ tt, refl);
        even = refl;
        met = ((view_at r24 0).trail, (0, lit≤ tt, refl), (nth (view_at r24 0) 4, (4, lit≤ tt, refl), inl (record { there = refl; before = refl; found = refl })));
      });
      installed = only_none (λ (w : Write). SomeStepOf (view_at r24 0) (InstallsFor (attempt_of 0 0) w));
      certified = λ won. look_up_certified M r24 (view_at r24 0) (hand_at r24 0) (Value None) [] (read_now r24 0 0) mis refl chain_24;
    },
    refl,
  )

  does_25 : Does M r25 (load 0 bucket) r26
  unfolding value_of count_of is_even counted_word spot_value spot_of
      status_word status_of reads_of serial_of words_of node_count desc_count address place_at
  does_25 = (view_at r25 0, record { at = refl; live = lit≤ tt }, lit≤ tt, refl)

  does_26 : Does M r26 (abort 0 0 5) r27
  unfolding value_of count_of is_even counted_word spot_value spot_of
      status_word status_of reads_of serial_of words_of node_count desc_count address place_at OwnsNode OwnsDesc
  does_26 = (
    view_at r26 0,
    record { at = refl; live = lit≤ tt },
    record {
      exists = lit≤ tt;
      reached = inl (0, (0, lit≤ tt, refl), (lit≤ tt, refl));
      undecided = inr (record {
        in_progress = refl;
        since = step_at (view_at r26 0) _ 8 (0, lit≤ tt, refl) (inr (record { there = refl; after = refl }));
        read = 0;
        counts = lit≤ tt;
        moved = (
          record {
            word = bucket;
            recorded = 0;
            found = counted_word (link_to 18) 2;
            knows_word = inr (stored_at (view_at r26 0) _ _ _ 5 (0, lit≤ tt, refl) (record { kind = refl; attempt = refl; there = refl }) refl refl);
            knows_content = inr (stored_at (view_at r26 0) _ _ _ 6 (0, lit≤ tt, refl) (record { kind = refl; attempt = refl; there = refl }) refl refl);
            loads = (nth (view_at r26 0) 9, (0, lit≤ tt, refl), record { kind = refl; finds = record { there = refl; before = refl; found = refl } });
          },
          refl,
        );
      });
    },
    refl,
  )

  does_27 : Does M r27 (mark_end 0) r28
  unfolding status_word status_of reads_of serial_of words_of node_count address
  does_27 = (
    view_at r27 0,
    hand_at r27 0,
    record { at = refl; live = lit≤ tt },
    record {
      held = refl;
      status = 7;
      serial = refl;
      decided = inr refl;
      met = ((view_at r27 0).trail, (0, lit≤ tt, refl), (nth (view_at r27 0) 10, (10, lit≤ tt, refl), inr (record { there = refl; after = refl })));
    },
    refl,
  )

  -- to the end of the schedule
  pub loses : Walks M moving_certificates r24 losing
  loses = (does_24, (does_25, (does_26, (does_27, tt))))
