-- What a look-up has after each of its calls.
use Rattle.std.proofs.Common.{◌≡◌, ◌<◌, ℕ, Bool, not, false, true, Result, Ok, refl, sym, ap, ◌∙◌, subst, inl, inr, ⊎_elim}
use Rattle.std.proofs.lemmas.List.Elements.{All-contains}
use Rattle.md_words.specs.Layout.{IsNode, address, words_of}
use Rattle.md_machine.specs.declared.node.Structure.TheVariants.{Bucket}
use Rattle.md_machine.specs.Certified.{all_nodes}
use Rattle.md_nbtc_law.specs.Course.{IsStoredNode, stored_words}
use Rattle.md_nbtc_law.proofs.structures.NodesKnown.{placed_or_own, shape_later}
use Rattle.md_words.specs.Place.{node_value}
use Rattle.md_words.specs.PlaceAt.{place_at}
use Rattle.md_words.proofs.Places.{address_below, place_at-address}
use Rattle.md_history.specs.declared.stops.Stop.{Stop}
use Rattle.md_machine.specs.Meaning.{Lawful, Meaning}
use Rattle.md_nbtc_law.specs.declared.seen.Seen.{Seen}
use Rattle.md_nbtc_law.specs.Calls.{AfterStop, GoesOn, IsData, Notes, note_case}
use Rattle.md_nbtc_law.specs.State.{TxnState, shape_in}
use Rattle.md_nbtc_law.proofs.preparing.Later.{later_over}
use Rattle.md_nbtc_law.proofs.structures.Answering.{after_ok}
use Rattle.md_nbtc_law.proofs.structures.Noting.{HasNoted, has_noted}
use Rattle.md_list.specs.Walking.{FindsNode, HasFound}
use Rattle.md_list.specs.declared.walk.Found.{Found}

-- a note that was answered
pub noted_ok : (t u : TxnState) (word : ℕ) (seen : Seen)
    → AfterStop t.stop t u (let r : Result (Unit {0}) Stop = Ok tt in r) (Notes (note_case t word seen) t u word seen (Ok tt)) → HasNoted t u word seen
noted_ok t u word seen noted = has_noted t u word seen (after_ok (Unit {0}) t u t.stop tt (Notes (note_case t word seen) t u word seen (Ok tt)) noted)

-- what the test of an answer tells
pub is_absent : (b : Bool) → not b ≡ true → b ≡ false
is_absent true e = absurd (cc e)
is_absent false e = refl

pub is_there : (b : Bool) → not b ≡ false → b ≡ true
is_there true e = refl
is_there false e = absurd (cc e)

-- the value of the node that was found may be read
pub value_data : (M : Meaning) (lawful : Lawful M) (t : TxnState) (head key : ℕ) (found : Found) (has : HasFound M t head key found)
    → FindsNode M t has.walking.certificates (Bucket has.walking.map has.walking.bucket) key found
    → (u : TxnState) → GoesOn M t u → (word : ℕ) → word ≡ address (shape_in u) (node_value found.node) → IsData M u word
value_data M lawful t head key found has n u goes word is =
    let w = has.walking in
    let exists = subst (λ s. IsNode s found.node) (sym (shape_later t u goes.later)) n.exists in
    let going = goes.going w.certificates w.going in
    record {
      node = found.node;
      exists = exists;
      within = subst (λ x. x < words_of (shape_in u)) (sym is) (address_below (shape_in u) (node_value found.node) exists);
      is = inr (ap (place_at (shape_in u)) is ∙ place_at-address (shape_in u) (node_value found.node) exists);
      among = ⊎_elim (λ known. inl (Bucket w.map w.bucket, known))
          (λ own. inr (stored_words own.0, (All-contains (IsStoredNode u) (all_nodes w.certificates) own.0 going.course.nodes own.1).own, own.2))
          (placed_or_own M lawful u w.certificates going found.node (Bucket w.map w.bucket)
          (λ v later prepared h of. (n.known v (later_over t u v goes.later later) prepared h of).placed));
    }
