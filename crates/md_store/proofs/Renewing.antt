-- A field of a store is renewed.
use Rattle.std.proofs.Common.{◌≡◌, ◌≤◌, ℕ, List, refl, sym, ap, ◌∙◌, subst}
use Rattle.md_words.specs.declared.shape.Shape.{Shape}
use Rattle.md_history.specs.Engine.{HasRoom, needed}
use Rattle.md_history.specs.Front.{replay_of}
use Rattle.md_history.specs.State.{HaveSameNumbers, State}
use Rattle.md_machine.specs.Event.{first_pass}
use Rattle.md_rule.specs.Closing.{plain_words}
use Rattle.md_rule_lanes.specs.Shares.{share_at}
use Rattle.md_rule.specs.Views.{FieldView, IsOf, Origin, PassState}
use Rattle.md_store_law.specs.Untouched.{IsUntouched}
use Rattle.md_store_law.specs.Compacted.{IsCompacted, IsWithBase, MayHaveBase, contents_of}
use Rattle.md_store_law.specs.Field.{logical_words}
use Rattle.md_store.specs.Ending.{EndsField, Renews}
use Rattle.md_store_bodies.specs.Store.{IsPassOf, IsShareUnused, all_lanes, front_in, limits_of, room_of, start_of}
use Rattle.md_store.proofs.Closed.{same_numbers}
use Rattle.md_store_bodies.specs.Laws.{fresh_is}
use Rattle.md_store.proofs.Opening.{opened_fresh, opened_of, start_is}
use Rattle.md_store.proofs.Rooms.{room_fits, same_lanes, same_limits}

module _ (f : FieldView) (before last : PassState) (words : List ℕ) (left : EndsField f before words last) where
  -- the contents that are left have room
  pub has_base : HasRoom (start_of f) (room_of f.origin.shape) (front_in before) → MayHaveBase f.origin.shape (needed (contents_of f.origin.shape words))
  has_base room = room_fits f.origin.shape (needed (contents_of f.origin.shape words))
      (subst (λ (s : State). needed s ≤ room_of f.origin.shape) (sym left.contents) (room (front_in last) left.settles))

  -- they have as many maps and queues as the field had at the start
  pub left_numbers : HaveSameNumbers (contents_of f.origin.shape words) (start_of f)
  left_numbers = same_numbers (logical_words f.origin.shape words) (plain_words f.origin.shape f.origin.words) refl

  module _ (fresh : Shape) (row : List ℕ) (c : IsCompacted f.origin.shape words fresh row) (g : FieldView) (first : PassState) (field : g.origin ≡ record { shape = fresh; words = row })
      (of : IsOf first g) (view : first.view ≡ first_pass fresh) (unused : (lane : ℕ) → IsShareUnused (share_at first.shares lane)) where
    start : start_of g ≡ contents_of f.origin.shape words
    start = start_is g first fresh row (contents_of f.origin.shape words) field c.opens

    is_of : IsPassOf g first
    is_of = opened_of g first fresh row (contents_of f.origin.shape words) field c.opens of view

    pub renews : Renews f g first (replay_of (start_of f) (front_in last))
    renews =
        let new = opened_fresh g first fresh row (contents_of f.origin.shape words) field c.opens of view unused in
        let shape : g.origin.shape ≡ fresh = ap (λ (x : Origin). x.shape) field in record {
          start = start ∙ left.contents;
          shape = subst (IsWithBase f.origin.shape (needed (replay_of (start_of f) (front_in last)))) (sym shape)
              (subst (λ (s : State). IsWithBase f.origin.shape (needed s) fresh) left.contents c.numbers);
          lanes = ap all_lanes shape ∙ same_lanes f.origin.shape fresh (needed (contents_of f.origin.shape words)) c.numbers;
          limits = ap limits_of shape ∙ same_limits f.origin.shape fresh (needed (contents_of f.origin.shape words)) c.numbers;
          of = is_of;
          fresh = new;
          untouched = subst (λ (x : Origin). IsUntouched x.shape x.words) (sym field) c.untouched;
          begun = (fresh_is g first is_of new).1;
          numbers = subst (λ (s : State). HaveSameNumbers s (start_of f)) (sym start) left_numbers;
        }
