-- What a transaction found first in a word stays that, at later times.
use Rattle.std.proofs.Common.{◌≡◌, ◌==◌, ◌++◌, ℕ, List, [], ◌∷◌, Option, Some, None, refl, sym, ap, ◌∙◌, subst, if◌then◌else◌}
use Rattle.std.proofs.lemmas.Bool.{cond_both}
use Rattle.std.proofs.lemmas.List.Elements.{All-contains, Contains-append_left}
use Rattle.std.proofs.lemmas.Option.{none-some}
use Rattle.std.specs.List.{Contains}
use Rattle.std.specs.Prelude.{option_map, unwrap_or}
use Rattle.md_words.specs.Content.{value_of}
use Rattle.md_machine.specs.declared.attempt.Read.{Read}
use Rattle.md_machine.specs.declared.attempt.Write.{Write}
use Rattle.md_machine.specs.Certified.{content_read, content_replaced, first_content}
use Rattle.md_machine.specs.LogicalHeap.{LogicalHeap}
use Rattle.md_machine.specs.Machine.{Install}
use Rattle.md_machine.specs.Resolution.{or_else}
use Rattle.md_machine.proofs.lists.Rising.{in_map, map_in}
use Rattle.md_nbtc_law.specs.declared.slots.Slot.{Slot}
use Rattle.md_nbtc_law.specs.Known.{IsLater, found_by}
use Rattle.md_nbtc_law.specs.Prepared.{IsPrepared}
use Rattle.md_nbtc_law.specs.State.{TxnState, attempt_in, installs_in, writes_in}
use Rattle.md_nbtc_law.proofs.ready.Lookups.{replaced_found}

-- a recorded content stays recorded, whatever is recorded behind it
pub read_before : (rs more : List Read) (word content : ℕ) → content_read rs word ≡ Some content → content_read (rs ++ more) word ≡ Some content
read_before [] more word content is = absurd (none-some content is)
read_before (r ∷ rs) more word content is = cond_both (r.word == word) (Some r.content) (content_read rs word)
    (λ o. o ≡ Some content → (if r.word == word then Some r.content else content_read (rs ++ more) word) ≡ Some content)
    (λ this e. ap (λ b. if b then Some r.content else content_read (rs ++ more) word) this ∙ e)
    (λ not e. ap (λ b. if b then Some r.content else content_read (rs ++ more) word) not ∙ read_before rs more word content e)
    is

abbrev install_of : TxnState → Slot → Install
install_of t s = record { attempt = attempt_in t; slot = s.write.slot; word = s.write.word; old = s.write.old }

-- a slot of a later state has the word and the old content
pub slot_later : (t u : TxnState) → IsLater t u → (w : Write) → Contains (writes_in t) w
    → (v : Write) × Contains (writes_in u) v × (v.word ≡ w.word) × (v.old ≡ w.old)
slot_later t u later w among =
    let slot = in_map (λ (s : Slot). s.write) t.slots w among in
    let there = map_in (install_of t) t.slots slot.0 slot.1 in
    let was = subst (λ l. Contains l (install_of t slot.0)) (sym later.installs.is)
    (Contains-append_left (installs_in t) later.installs.rest (install_of t slot.0) there) in
    let now = in_map (install_of u) u.slots (install_of t slot.0) was in (
      now.0.write,
      map_in (λ (s : Slot). s.write) u.slots now.0 now.1,
      ap (λ (i : Install). i.word) now.2 ∙ ap (λ (x : Write). x.word) slot.2,
      ap (λ (i : Install). i.old) now.2 ∙ ap (λ (x : Write). x.old) slot.2,
    )

module _ (t u : TxnState) (later : IsLater t u) (prepared : IsPrepared u) (word content : ℕ) where
  by_read : (o : Option ℕ) → content_read t.reads word ≡ o → or_else o (content_replaced (writes_in t) word) ≡ Some content
      → first_content u.reads (writes_in u) word ≡ Some content
  by_read (Some held) is first =
      ap (λ o. or_else o (content_replaced (writes_in u) word))
      (subst (λ rs. content_read rs word ≡ Some held) (sym later.reads.is) (read_before t.reads later.reads.rest word held is)) ∙ first
  by_read None is first =
      let slot = replaced_found (writes_in t) word content first in
      let now = slot_later t u later slot.0 slot.1 in
      ap (first_content u.reads (writes_in u)) (sym (now.2 ∙ slot.2))
      ∙ All-contains (λ (w : Write). first_content u.reads (writes_in u) w.word ≡ Some w.old) (writes_in u) now.0 prepared.has.replaced now.1
      ∙ ap (λ n. Some n) (now.3 ∙ slot.3)

  pub found_later : first_content t.reads (writes_in t) word ≡ Some content → first_content u.reads (writes_in u) word ≡ Some content
  found_later first = by_read (content_read t.reads word) refl first

-- and it is what the transaction sees in the word
pub found_value : (u : TxnState) (h : LogicalHeap) (word content : ℕ) → first_content u.reads (writes_in u) word ≡ Some content
    → (found_by u h).words.value word ≡ value_of content
found_value u h word content first = ap (λ o. unwrap_or (option_map value_of o) (h.words.value word)) first
