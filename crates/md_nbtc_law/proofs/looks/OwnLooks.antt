-- What a load of an own word tells, which finds the own descriptor there or something else.
use Rattle.std.proofs.Common.{◌≡◌, ◌∷◌, ◌<◌, ◌≤◌, ◌^◌, ◌+◌, ℕ, true, [], refl, sym, ap, subst, inl, arith}
use Rattle.std.proofs.lemmas.Bool.{true≢false}
use Rattle.std.specs.List.{Contains}
use Rattle.md_words.specs.Content.{count_of}
use Rattle.md_words.specs.Layout.{IsInSet}
use Rattle.md_words.specs.Place.{slot_new}
use Rattle.md_words.specs.PlaceAt.{IsCounted}
use Rattle.md_words.proofs.Owners.{own_desc_exists}
use Rattle.md_words.proofs.Places.{descs_fit_values}
use Rattle.md_machine.specs.declared.attempt.Write.{Write}
use Rattle.md_machine.specs.declared.pass.PassView.{PassView}
use Rattle.md_machine.specs.declared.step.TheConstants.{LAST_COUNT}
use Rattle.md_machine.specs.Certified.{is_written}
use Rattle.md_machine.specs.Event.{load}
use Rattle.md_machine.specs.Machine.{shape_of}
use Rattle.md_machine.specs.Meaning.{Meaning}
use Rattle.md_machine.specs.Trail.{Meets, is_store}
use Rattle.md_rule.specs.Steps.{SteppedFrom}
use Rattle.md_rule.proofs.Moves.{is_kept}
use Rattle.md_help.specs.After.{StandsInField}
use Rattle.md_nbtc_law.specs.Prepared.{IsPrepared, IsWritten}
use Rattle.md_nbtc_law.specs.Seeing.{Looks}
use Rattle.md_nbtc_law.specs.State.{TxnState, attempt_in, installed_at, shape_in, writes_in}
use Rattle.md_nbtc_law.proofs.looks.Causes.{after_load, made}
use Rattle.md_nbtc_law.proofs.ready.Bridge.{own_desc, slot_at, stands}
use Rattle.md_nbtc_law.proofs.ready.Lookups.{each_in}

-- the number of its descriptor fits a slot's value
pub desc_fits : (t : TxnState) → IsPrepared t → (attempt_in t).desc < 2 ^ 24
desc_fits t prepared =
    let own = prepared.has.own in
    descs_fit_values (shape_in t) (attempt_in t).desc (own_desc_exists (shape_in t) own.0 (attempt_in t).desc own.2)

-- and the content that it replaced has room for the count
pub old_room : (t : TxnState) → IsPrepared t → (w : Write) → Contains (writes_in t) w → count_of w.old ≤ LAST_COUNT
old_room t prepared w among = (each_in (IsWritten t) 0 (writes_in t) prepared.has.writes w among).3.from.room

module _ (M : Meaning) (t : TxnState) (prepared : IsPrepared t) (q : PassView) (word found : ℕ)
    (step : SteppedFrom M t.field.origin (λ pass. load pass word) word found t.pass.view q)
    (w : Write) (among : Contains (writes_in t) w) (there : w.word ≡ word) (written : is_written (writes_in t) word ≡ true)
    (counted : IsCounted (shape_in t) word) where
  -- the descriptor stands there: the word stands for its slot's new value
  pub own_looks : installed_at (attempt_in t).desc (writes_in t) word ≡ found → Looks M t (after_load M t prepared q word found step) word (record { value = w.new; count = count_of w.old + 1; own = true })
  own_looks is =
      let s = made M t prepared q word found step in record {
        gave = record {
          counted = counted;
          own = sym written;
          slot = λ _. record { write = w; among = among; there = there; value = refl; count = refl };
          content = λ other. absurd (true≢false other);
        };
        steps = s.step ∷ [];
        trail = ap (λ (x : PassView). x.trail) s.goes.1;
        now = (s.step, (0, omega arith, refl), subst (λ c. Meets word c s.step) (sym is) (inl (record { there = s.there; before = s.found; found = ap is_store s.is_kind })));
        own_node = λ other. absurd (true≢false other);
        met = λ other. absurd (true≢false other);
        found = λ other. absurd (true≢false other);
      }

-- the new value of a slot fits a content
pub new_fits : (M : Meaning) (t : TxnState) → IsPrepared t → StandsInField M t.field.origin t.pass.view → (w : Write) → Contains (writes_in t) w → w.new < 2 ^ 32
new_fits M t prepared at w among =
    let m = at.machine in
    let k = is_kept M t.field.origin m at.admitted in
    let own = own_desc t prepared.has m k at.admitted.shape at.pass at.acts.at in
    let a = attempt_in t in
    let slot = slot_at t prepared.has m k at.admitted.shape at.pass at.acts.at w among in
    let inside : IsInSet (shape_of m) a.desc slot.0 = (own_desc_exists (shape_of m) own.0 a.desc own.2, slot.1) in
    let is = stands t prepared.has m k at.admitted.shape at.pass at.acts.at (slot_new a.desc slot.0) inside refl w.new slot.2.new in
    let fits = k.formats.values a.desc slot.0 inside in
    omega (arith, is, fits)
