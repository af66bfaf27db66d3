-- What was found in a list stays found at later times, and a place over steps that change the pass alone.
use Rattle.std.proofs.Common.{◌≡◌, ◌≢◌, ◌+◌, ℕ, refl, subst, sym, arith, List, ap, ◌∙◌, inl, inr, ⊎_elim}
use Rattle.md_machine.specs.declared.node.Structure.TheVariants.{Bucket}
use Rattle.md_machine.specs.Meaning.{Lawful, Meaning}
use Rattle.md_rule.specs.Views.{PassState}
use Rattle.md_nbtc_law.specs.declared.seen.Seen.{Seen}
use Rattle.md_nbtc_law.specs.Calls.{GoesOn}
use Rattle.md_nbtc_law.specs.Seeing.{KeepsGiven}
use Rattle.md_nbtc_law.specs.State.{TxnState, shape_in}
use Rattle.md_nbtc_law.proofs.preparing.Later.{known_later}
use Rattle.md_list_law.specs.HasLists.{HasListsOf}
use Rattle.md_list.specs.declared.walk.Found.{Found}
use Rattle.md_list.specs.Walking.{FindsNode, Gives, HasFound, IsBefore, IsHead}
use Rattle.md_list.proofs.walking.At.{HasFoundBy, before_on, found_stays, stepped, walking_on}
use Rattle.std.proofs.lemmas.List.Elements.{Contains-append_left}
use Rattle.std.specs.List.{Contains}
use Rattle.md_words.specs.Layout.{IsNode, address}
use Rattle.md_words.specs.Place.{node_next}
use Rattle.md_machine.specs.declared.certificate.Certificate.{Certificate}
use Rattle.md_machine.specs.declared.node.Structure.{Structure}
use Rattle.md_nbtc_law.specs.Going.{IsFoundThere}
use Rattle.md_nbtc_law.specs.Known.{IsLater}
use Rattle.md_nbtc_law.proofs.structures.NodesKnown.{shape_later}
use Rattle.md_list_law.specs.ListShape.{next_word}

module _ (M : Meaning) (t u : TxnState) (later : IsLater t u) where
  shape_is : shape_in t ≡ shape_in u
  shape_is = sym (shape_later t u later)

  -- the head of a bucket, and a word before a key
  pub head_later : (map bucket head : ℕ) → IsHead (shape_in t) map bucket head → IsHead (shape_in u) map bucket head
  head_later map bucket head = subst (λ s. IsHead s map bucket head) shape_is

  pub before_later : (cs : List Certificate) (list : Structure) (head key word : ℕ) → IsBefore M t cs list head key word → IsBefore M u cs list head key word
  before_later cs list head key word = ⊎_elim inl
      (λ b. inr (b.0, b.1, subst (λ s. IsNode s b.0) shape_is b.2, known_later M _ t u later b.3, b.4, b.5 ∙ ap (λ s. next_word s b.0) shape_is))

  -- a value that was found first in a word
  pub there_later : (word : ℕ) (seen : Seen) → IsFoundThere M t word seen → IsFoundThere M u word seen
  there_later word seen there other = ⊎_elim
      (λ own. inl (
        own.0,
        subst (λ l. Contains l own.0) (sym later.nodes.is) (Contains-append_left t.nodes later.nodes.rest own.0 own.1),
        (subst (λ s. IsNode s own.0.node) shape_is own.2.0, own.2.1 ∙ ap (λ s. address s (node_next own.0.node)) shape_is),
        own.3,
      ))
      (λ met. inr (known_later M _ t u later met))
      (there other)

apart_more : (n : ℕ) → n ≢ n + 1
apart_more n e = absurd (omega (arith, e))

module _ (M : Meaning) (lawful : Lawful M) (lists : HasListsOf M) (t : TxnState) (head key : ℕ) (found : Found) (has : HasFound M t head key found) where
  module _ (p : PassState) (goes : GoesOn M t (stepped t p)) (given : (other : ℕ) → KeepsGiven t (stepped t p) other) where
    gives_on : (word : ℕ) (seen : Seen) → Gives M t word seen → Gives M (stepped t p) word seen
    gives_on word seen gives = record {
      gave = given (word + 1) word seen (apart_more word) gives.gave;
      there = found_stays M t p goes.later word seen gives.there;
      unmarked = gives.unmarked;
    }

    node_on : FindsNode M t has.walking.certificates (Bucket has.walking.map has.walking.bucket) key found
        → FindsNode M (stepped t p) has.walking.certificates (Bucket has.walking.map has.walking.bucket) key found
    node_on n = record {
      exists = n.exists;
      found_key = n.found_key;
      known = known_later M _ t (stepped t p) goes.later n.known;
      least = n.least;
      here = n.here;
      next = gives_on _ found.next n.next;
    }

    found_there : HasFoundBy M (stepped t p) has.walking.certificates head key found
    found_there = (
      record {
        walking = walking_on M lawful lists t p head goes has.walking;
        place = record {
          before = before_on M lawful lists t p has.walking.certificates (Bucket has.walking.map has.walking.bucket) head key found.prev goes.later has.place.before;
          at = gives_on found.prev found.at has.place.at;
          node = has.place.node;
          some = λ some. node_on (has.place.some some);
          none = λ zero. record { here = (has.place.none zero).here; next = (has.place.none zero).next };
        };
      },
      refl,
    )

  pub found_on : (u : TxnState) → GoesOn M t u → u ≡ record t { pass = u.pass } → ((other : ℕ) → KeepsGiven t u other) → HasFoundBy M u has.walking.certificates head key found
  found_on u goes same given = subst (λ x. HasFoundBy M x has.walking.certificates head key found) (sym same)
      (found_there u.pass (subst (GoesOn M t) same goes) (subst (λ x. (other : ℕ) → KeepsGiven t x other) same given))
