-- How many base nodes a shape may have.
use Rattle.std.proofs.Common.{◌≡◌, ◌+◌, ◌*◌, ◌-◌, ◌/◌, ◌≤◌, ℕ, min, ap, ◌∙◌, arith}
use Rattle.std.specs.List.{range_with_len}
use Rattle.md_words.specs.declared.limits.TheConstants.{MAX_BASE, MAX_WORDS, SET}
use Rattle.md_words.specs.declared.shape.Shape.{Shape}
use Rattle.md_words.specs.Limits.{count_of_words}
use Rattle.md_history.specs.Engine.{Limits}
use Rattle.md_store_law.specs.Compacted.{IsWithBase, MayHaveBase}
use Rattle.md_store_bodies.specs.Store.{all_lanes, limits_of, room_of}

-- the words of a shape with so many base nodes
words_with : (s : Shape) (base : ℕ) → count_of_words s.lanes s.nodes base s.maps s.buckets s.queues ≡ count_of_words s.lanes s.nodes 0 s.maps s.buckets s.queues + 3 * base
words_with s base = omega arith

-- a shape may have as many as its room, and no more
pub room_fits : (s : Shape) (base : ℕ) → base ≤ room_of s → MayHaveBase s base
room_fits s base most =
    let none = count_of_words s.lanes s.nodes 0 s.maps s.buckets s.queues in
    let first = words_with s base in
    let now = words_with s s.base in
    let fits = s.fits in record {
      in_range = record {
        lanes_fit = s.in_range.lanes_fit;
        nodes_fit = s.in_range.nodes_fit;
        base_fits = omega (arith, most);
        tries_fit = s.in_range.tries_fit;
        maps_fit = s.in_range.maps_fit;
        buckets_fit = s.in_range.buckets_fit;
        queues_fit = s.in_range.queues_fit;
      };
      fits = omega (arith, most, first, now, fits);
    }

-- a shape that is the same but for its base nodes has the same lanes and limits
pub same_lanes : (s fresh : Shape) (base : ℕ) → IsWithBase s base fresh → all_lanes fresh ≡ all_lanes s
same_lanes s fresh base is = ap (λ n. range_with_len 0 n) is.0

pub same_limits : (s fresh : Shape) (base : ℕ) → IsWithBase s base fresh → limits_of fresh ≡ limits_of s
same_limits s fresh base is =
    let by : (lanes nodes tries maps buckets queues : ℕ) → Limits = λ lanes nodes tries maps buckets queues. record {
      reads = SET;
      writes = SET;
      nodes = nodes;
      tries = tries;
      room = min MAX_BASE ((MAX_WORDS - count_of_words lanes nodes 0 maps buckets queues) / 3);
    } in
    ap (λ n. by n fresh.nodes fresh.tries fresh.maps fresh.buckets fresh.queues) is.0
    ∙ ap (λ n. by s.lanes n fresh.tries fresh.maps fresh.buckets fresh.queues) is.1
    ∙ ap (λ n. by s.lanes s.nodes n fresh.maps fresh.buckets fresh.queues) is.3
    ∙ ap (λ n. by s.lanes s.nodes s.tries n fresh.buckets fresh.queues) is.4
    ∙ ap (λ n. by s.lanes s.nodes s.tries s.maps n fresh.queues) is.5
    ∙ ap (λ n. by s.lanes s.nodes s.tries s.maps s.buckets n) is.6
