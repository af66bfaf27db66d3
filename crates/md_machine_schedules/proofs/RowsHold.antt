-- The worked schedules are runs of the machine, and lead where they say.
use Rattle.std.proofs.Common.{List, ◌++◌, refl}
use Rattle.md_words.specs.Content.{value_of, count_of, is_even, counted_word, spot_value, spot_of}
use Rattle.md_words.specs.Status.{status_word, status_of, reads_of, serial_of}
use Rattle.md_words.specs.Layout.{words_of, node_count, desc_count, address}
use Rattle.md_words.specs.PlaceAt.{place_at}
use Rattle.md_machine.specs.Event.{Event}
use Rattle.md_machine.specs.Meaning.{Meaning}
use Rattle.md_machine_schedules.specs.Field.{small_shape}
use Rattle.md_machine_schedules.specs.Transactions.{beginning, finds, inserting, inserts, misses}
use Rattle.md_machine_schedules.specs.Schedules.{HelpedRow, MovedRow, StoppedRow, aborting, completing, finding, helping, helping_certificates, losing, missing, moving, moving_certificates, noting, overtaking, stopping, stopping_certificates, winning}
use Rattle.md_machine_schedules.specs.Unlinking.{UnlinkingRow, finding_first, giving_up, removing_first, unlinking, unlinking_certificates, unlinking_first}
use Rattle.md_machine_schedules.specs.Clearing.{ClearingRow, clearing, installed, installing}
use Rattle.md_machine_schedules.specs.Walk.{Certificates, no_certificates}
use Rattle.md_machine_schedules.proofs.Unlinks.{two_in_no_heap}
use Rattle.md_machine_schedules.proofs.Walking.{Walks, walk_on, walk_runs}
use Rattle.md_machine_schedules.proofs.walks.Beginning.{begins, m0, m5}
use Rattle.md_machine_schedules.proofs.walks.Inserting.{inserts_next, m13}
use Rattle.md_machine_schedules.proofs.walks.Clearing.{clears, installs}
use Rattle.md_machine_schedules.proofs.walks.Aborting.{aborts}
use Rattle.md_machine_schedules.proofs.walks.Missing.{misses_next}
use Rattle.md_machine_schedules.proofs.walks.Completing.{completes}
use Rattle.md_machine_schedules.proofs.walks.Finding.{finds_next}
use Rattle.md_machine_schedules.proofs.walks.Noting.{notes, r8}
use Rattle.md_machine_schedules.proofs.walks.Overtaking.{overtakes, r20}
use Rattle.md_machine_schedules.proofs.walks.Winning.{wins}
use Rattle.md_machine_schedules.proofs.walks.Losing.{loses}
use Rattle.md_machine_schedules.proofs.walks.FindingFirst.{finds_it, u0, u11}
use Rattle.md_machine_schedules.proofs.walks.RemovingFirst.{removes_it, u27}
use Rattle.md_machine_schedules.proofs.walks.UnlinkingFirst.{unlinks_it}
use Rattle.md_machine_schedules.proofs.walks.GivingUp.{gives_up}

module _ (M : Meaning) where
  pub clearing_row : ClearingRow M
  unfolding value_of count_of is_even counted_word spot_value spot_of
      status_word status_of reads_of serial_of words_of node_count desc_count address place_at
  clearing_row = record {
    installs = walk_runs M no_certificates m0 installing (installs M);
    stands = refl;
    clears = walk_runs M no_certificates installed clearing (clears M);
    status = refl;
    left = refl;
  }

  -- a schedule in which pass 0 makes its insert first
  after_insert : M.certifies small_shape (inserts 2) → (by : Certificates) (es : List Event) → Walks M by m13 es
      → Walks M by m0 (beginning ++ inserting 0 0 2 ++ es)
  after_insert ins by es rest =
      walk_on M by m0 beginning (inserting 0 0 2 ++ es) (begins M by) (walk_on M by m5 (inserting 0 0 2) es (inserts_next M ins by) rest)

  stops : M.certifies small_shape (inserts 2) → M.certifies small_shape misses → Walks M stopping_certificates m0 stopping
  stops ins mis = after_insert ins stopping_certificates (aborting ++ missing) (walk_on M stopping_certificates m13 aborting missing (aborts M) (misses_next M mis))

  helps : M.certifies small_shape (inserts 2) → M.certifies small_shape finds → Walks M helping_certificates m0 helping
  helps ins fin = after_insert ins helping_certificates (completing ++ finding) (walk_on M helping_certificates m13 completing finding (completes M ins) (finds_next M fin))

  overtaken : M.certifies small_shape (inserts 18) → M.certifies small_shape misses → Walks M moving_certificates m0 moving
  overtaken late mis =
      let by = moving_certificates in
      walk_on M by m0 beginning (noting ++ overtaking ++ winning ++ losing) (begins M by)
      (walk_on M by m5 noting (overtaking ++ winning ++ losing) (notes M mis)
      (walk_on M by r8 overtaking (winning ++ losing) (overtakes M late) (walk_on M by r20 winning losing (wins M late) (loses M mis))))

  pub stopped_row : M.certifies small_shape (inserts 2) → M.certifies small_shape misses → StoppedRow M
  unfolding value_of count_of is_even counted_word spot_value spot_of
      status_word status_of reads_of serial_of words_of node_count desc_count address place_at
  stopped_row ins mis = record { runs = walk_runs M stopping_certificates m0 stopping (stops ins mis); word = refl; status = refl; fates = refl; tags = refl }

  pub helped_row : M.certifies small_shape (inserts 2) → M.certifies small_shape finds → HelpedRow M
  unfolding value_of count_of is_even counted_word spot_value spot_of
      status_word status_of reads_of serial_of words_of node_count desc_count address place_at
  helped_row ins fin = record { runs = walk_runs M helping_certificates m0 helping (helps ins fin); word = refl; fates = refl; tags = refl }

  pub moved_row : M.certifies small_shape (inserts 18) → M.certifies small_shape misses → MovedRow M
  unfolding value_of count_of is_even counted_word spot_value spot_of
      status_word status_of reads_of serial_of words_of node_count desc_count address place_at
  moved_row late mis = record { runs = walk_runs M moving_certificates m0 moving (overtaken late mis); word = refl; status = refl; fates = refl; sound = refl }

  pub unlinked_row : UnlinkingRow M
  unfolding value_of count_of is_even counted_word spot_value spot_of
      status_word status_of reads_of serial_of words_of node_count desc_count address place_at
  unlinked_row fin rem mis unl = record {
    runs = walk_runs M unlinking_certificates u0 unlinking
        (walk_on M unlinking_certificates u0 finding_first (removing_first ++ unlinking_first ++ giving_up) (finds_it M fin)
        (walk_on M unlinking_certificates u11 removing_first (unlinking_first ++ giving_up) (removes_it M rem)
        (walk_on M unlinking_certificates u27 unlinking_first giving_up (unlinks_it M mis unl) (gives_up M fin mis unl))));
    fates = refl;
    sound = refl;
    word = refl;
    marked = refl;
    one_heap = two_in_no_heap;
  }
