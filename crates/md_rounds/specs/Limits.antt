-- The limits by their numbers, and which of them is within which.
use Rattle.std.specs.Prelude.{◌≡◌, ◌≤◌}
use Rattle.md_words.specs.declared.limits.TheConstants.{LANES, SET, MAX_NODES, MAX_BASE, MAX_TRIES, MAX_MAPS}
use Rattle.md_words.specs.declared.limits.TheConstants.{MAX_BUCKETS, MAX_QUEUES, MAX_WORDS}
use Rattle.md_history.specs.declared.acts.TheConstants.{MAX_LINE}
use Rattle.md_book.specs.declared.limits.TheConstants.{PLACES_IN_VERSION_1, PLACES_IN_VERSION_2, MAX_PARTS, MAX_CALLER}
use Rattle.md_book.specs.declared.limits.TheConstants.{MAX_SCRIPT_LINE, MAX_ACCOUNT, MAX_PRICE}
use Rattle.md_book.specs.declared.limits.TheConstants.{MAX_QUANTITY, COMMAND_READS, COMMAND_WRITES, COMMAND_NODES}
use Rattle.md_book.specs.declared.maps.TheConstants.{MAPS, LEVELS}
use Rattle.md_orders.specs.Records.{max_records}
use Rattle.md_orders.specs.Version.{max_caller_in_version_1}

-- of a field and its transactions
pub record LimitsOfWords : Type 0 where
  pub lanes : LANES ≡ 64
  pub set : SET ≡ 128
  pub nodes : MAX_NODES ≡ 8388608
  pub base : MAX_BASE ≡ 4194304
  pub tries : MAX_TRIES ≡ 4294967295
  pub maps : MAX_MAPS ≡ 16
  pub buckets : MAX_BUCKETS ≡ 1048576
  pub queues : MAX_QUEUES ≡ 4096
  pub words : MAX_WORDS ≡ 134217728
  pub line : MAX_LINE ≡ 12

-- of an order file, a book and its commands
pub record LimitsOfBooks : Type 0 where
  pub records : max_records ≡ 1000000
  pub callers_1 : max_caller_in_version_1 ≡ 8
  pub places_1 : PLACES_IN_VERSION_1 ≡ 4
  pub places_2 : PLACES_IN_VERSION_2 ≡ 12
  pub parts : MAX_PARTS ≡ 12
  pub callers : MAX_CALLER ≡ 64
  pub lines : MAX_SCRIPT_LINE ≡ 1000000
  pub accounts : MAX_ACCOUNT ≡ 9999
  pub prices : MAX_PRICE ≡ 1000
  pub quantities : MAX_QUANTITY ≡ 1000000
  pub reads : COMMAND_READS ≡ 39
  pub writes : COMMAND_WRITES ≡ 82
  pub nodes : COMMAND_NODES ≡ 15
  pub maps : MAPS ≡ 4
  pub levels : LEVELS ≡ 2000

-- a transaction's sets hold all that a command reads and writes, a field has a lane for each caller and room for a
-- book's maps and queues, and a line has a value for each place that a kill looks at
pub record SetHoldsCommands : Type 0 where
  pub reads : COMMAND_READS ≤ SET
  pub writes : COMMAND_WRITES ≤ SET
  pub callers : MAX_CALLER ≤ LANES
  pub maps : MAPS ≤ MAX_MAPS
  pub queues : LEVELS ≤ MAX_QUEUES
  pub places : PLACES_IN_VERSION_2 ≤ MAX_LINE
