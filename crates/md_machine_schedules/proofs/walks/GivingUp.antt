-- Pass 0 becomes ready, finds that its read doesn't stand, aborts, and takes its descriptor out.
use Rattle.std.proofs.Common.{[], ◌∷◌, refl, lit≤, inl, inr, true, false, arith}
use Rattle.std.proofs.lemmas.Bool.{false≢true}
use Rattle.md_words.specs.Content.{value_of, count_of, is_even, counted_word, spot_value, spot_of}
use Rattle.md_words.specs.Status.{status_word, status_of, reads_of, serial_of}
use Rattle.md_words.specs.Layout.{words_of, node_count, desc_count, address}
use Rattle.md_words.specs.PlaceAt.{place_at}
use Rattle.md_words.specs.Lanes.{OwnsNode, OwnsDesc}
use Rattle.md_machine.specs.Machine.{Machine, attempt_of}
use Rattle.md_machine.specs.Meaning.{Meaning}
use Rattle.md_machine_schedules.specs.Walk.{after_event, hand_at, view_at}
use Rattle.md_words.specs.Link.{is_marked}
use Rattle.md_machine.specs.declared.attempt.Write.{Write}
use Rattle.md_machine.specs.Certified.{CertifiedIn}
use Rattle.md_machine.specs.Event.{Does, abort, load, mark_end, ready, uninstall}
use Rattle.md_machine.specs.Resolution.{InEveryResolution, logical_heap}
use Rattle.md_machine.specs.Trail.{SomeStepOf}
use Rattle.md_machine.specs.events.Ready.{InstallsFor, IsStoredRead, MayRecord}
use Rattle.md_machine_schedules.specs.Field.{bucket, link_to, small_shape, standing}
use Rattle.md_machine_schedules.specs.Unlinking.{finds_first, first_link, first_next, giving_up, misses_second, unlinking_certificates, unlinks_first}
use Rattle.md_machine_schedules.proofs.Walking.{Walks, nth, one_below, only_one, step_at, stored_at}
use Rattle.md_machine_schedules.proofs.Unlinks.{first_read, unlink_certified, unlink_in, unlink_slot}
use Rattle.md_machine_schedules.proofs.walks.UnlinkingFirst.{u35}

abbrev u36 : Machine
u36 = after_event unlinking_certificates u35 (ready 0 1)

abbrev u37 : Machine
u37 = after_event unlinking_certificates u36 (load 0 first_next)

abbrev u38 : Machine
u38 = after_event unlinking_certificates u37 (abort 0 0 5)

abbrev u39 : Machine
u39 = after_event unlinking_certificates u38 (uninstall 0 bucket (standing 0) (link_to 1))

abbrev pub u40 : Machine
u40 = after_event unlinking_certificates u39 (mark_end 0)

chain_35 : InEveryResolution u35
    (CertifiedIn (first_read false ∷ []) (unlink_slot ∷ []) (finds_first ∷ misses_second ∷ []))
unfolding value_of count_of is_even counted_word spot_value spot_of is_marked
    status_word serial_of words_of node_count address place_at
chain_35 (true ∷ []) r =
    unlink_in (logical_heap u35 (true ∷ [])) refl (record { placed = refl; key = refl; value = refl; next = tt })
    (record { placed = refl; key = tt; value = tt; next = (refl, refl) })
chain_35 (false ∷ []) r = absurd (false≢true r.0)
chain_35 (k ∷ j ∷ ks) r = absurd r.1
chain_35 [] r = absurd r

module _ (M : Meaning) (fin : M.certifies small_shape finds_first) (mis : M.certifies small_shape misses_second)
    (unl : M.tidies small_shape unlinks_first) where
  does_35 : Does M u35 (ready 0 1) u36
  unfolding value_of count_of is_even counted_word spot_value spot_of
      status_word status_of reads_of serial_of words_of node_count desc_count address place_at OwnsNode OwnsDesc
  does_35 = (
    view_at u35 0,
    hand_at u35 0,
    finds_first ∷ misses_second ∷ [],
    record { at = refl; live = lit≤ tt },
    record {
      held = refl;
      own = (0, (0, lit≤ tt, refl), (lit≤ tt, refl));
      few = lit≤ tt;
      stored = one_below (IsStoredRead u35 (view_at u35 0) (attempt_of 0 0)) (record {
        word = stored_at (view_at u35 0) _ _ _ 8 (0, lit≤ tt, refl) (record { kind = refl; attempt = refl; there = refl }) refl refl;
        content = stored_at (view_at u35 0) _ _ _ 9 (0, lit≤ tt, refl) (record { kind = refl; attempt = refl; there = refl }) refl refl;
      });
      recorded = only_one (MayRecord u35 (view_at u35 0)) (first_read false) (record {
        counted = (lit≤ tt, refl);
        even = refl;
        met = (
          (view_at u35 0).trail,
          (0, lit≤ tt, refl),
          (nth (view_at u35 0) 5, (5, lit≤ tt, refl), inl (record { there = refl; before = refl; found = refl })),
        );
      });
      installed = only_one (λ (w : Write). SomeStepOf (view_at u35 0) (InstallsFor (attempt_of 0 0) w)) unlink_slot (
        (view_at u35 0).trail,
        (0, lit≤ tt, refl),
        (
          nth (view_at u35 0) 17,
          (17, lit≤ tt, refl),
          record { kind = refl; attempt = refl; won = λ e. omega (arith, e); left = record { there = refl; after = refl } },
        ),
      );
      certified = λ won. unlink_certified M u35 (view_at u35 0) (hand_at u35 0) fin mis unl chain_35;
    },
    refl,
  )

  does_36 : Does M u36 (load 0 first_next) u37
  unfolding value_of count_of is_even counted_word spot_value spot_of
      status_word status_of reads_of serial_of words_of node_count desc_count address place_at OwnsNode OwnsDesc
  does_36 = (
    view_at u36 0,
    record { at = refl; live = lit≤ tt },
    lit≤ tt,
    refl,
  )

  does_37 : Does M u37 (abort 0 0 5) u38
  unfolding value_of count_of is_even counted_word spot_value spot_of
      status_word status_of reads_of serial_of words_of node_count desc_count address place_at OwnsNode OwnsDesc
  does_37 = (
    view_at u37 0,
    record { at = refl; live = lit≤ tt },
    record {
      exists = lit≤ tt;
      reached = inl (0, (0, lit≤ tt, refl), (lit≤ tt, refl));
      undecided = inr (record {
        in_progress = refl;
        since = step_at (view_at u37 0) _ 19 (0, lit≤ tt, refl) (inr (record { there = refl; after = refl }));
        read = 0;
        counts = lit≤ tt;
        moved = (
          record {
            word = first_next;
            recorded = 0;
            found = counted_word 1 2;
            knows_word = inr (stored_at (view_at u37 0) _ _ _ 8 (0, lit≤ tt, refl) (record { kind = refl; attempt = refl; there = refl }) refl refl);
            knows_content = inr (stored_at (view_at u37 0) _ _ _ 9 (0, lit≤ tt, refl) (record { kind = refl; attempt = refl; there = refl }) refl refl);
            loads = (nth (view_at u37 0) 20, (0, lit≤ tt, refl), record { kind = refl; finds = record { there = refl; before = refl; found = refl } });
          },
          refl,
        );
      });
    },
    refl,
  )

  does_38 : Does M u38 (uninstall 0 bucket (standing 0) (link_to 1)) u39
  unfolding value_of count_of is_even counted_word spot_value spot_of
      status_word status_of reads_of serial_of words_of node_count desc_count address place_at OwnsNode OwnsDesc
  does_38 = (
    view_at u38 0,
    record { at = refl; live = lit≤ tt },
    record {
      counted = (lit≤ tt, refl);
      odd = refl;
      status = 7;
      decided = inr refl;
      held = first_link;
      knows = inl (record {
        own = (0, (0, lit≤ tt, refl), (lit≤ tt, refl));
        present = refl;
        met = ((view_at u38 0).trail, (0, lit≤ tt, refl), (nth (view_at u38 0) 21, (21, lit≤ tt, refl), inr (record { there = refl; after = refl })));
        slot = inl (stored_at (view_at u38 0) _ _ _ 15 (0, lit≤ tt, refl) (record { kind = refl; attempt = refl; there = refl }) refl refl);
      });
      is = refl;
    },
    refl,
  )

  does_39 : Does M u39 (mark_end 0) u40
  unfolding value_of count_of is_even counted_word spot_value spot_of
      status_word status_of reads_of serial_of words_of node_count desc_count address place_at OwnsNode OwnsDesc
  does_39 = (
    view_at u39 0,
    hand_at u39 0,
    record { at = refl; live = lit≤ tt },
    record {
      held = refl;
      status = 7;
      serial = refl;
      decided = inr refl;
      met = ((view_at u39 0).trail, (0, lit≤ tt, refl), (nth (view_at u39 0) 21, (21, lit≤ tt, refl), inr (record { there = refl; after = refl })));
    },
    refl,
  )

  -- to the end of the schedule
  pub gives_up : Walks M unlinking_certificates u35 giving_up
  gives_up = (does_35, (does_36, (does_37, (does_38, (does_39, tt)))))
