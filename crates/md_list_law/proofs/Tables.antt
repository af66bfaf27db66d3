-- An operation on the finite map of a list, and on the state that has the map.
use Rattle.std.proofs.Common.{◌≡◌, ℕ, ◌≢◌, ◌⊎◌, Bool, true, false, cond, List, Option, Some, None, refl, sym, ap, ◌∙◌, ⊎_elim}
use Rattle.std.specs.Prelude.{is_none}
use Rattle.std.specs.Ordering.{eq_by_cmp, nat_cmp}
use Rattle.std.specs.Cmp.{nat_cmp_total}
use Rattle.std.specs.FinMap as fin
use Rattle.std.proofs.lemmas.List.{set-get_or}
use Rattle.md_history.specs.declared.acts.Op.TheVariants.{Get, Insert, Remove, Put}
use Rattle.md_history.specs.declared.acts.Reply.TheVariants.{Value, Flag}
use Rattle.md_history.specs.State.{State, Table, map_at, with_map, answer, after}
use Rattle.md_machine.specs.declared.certificate.Certificate.{Certificate}
use Rattle.md_list_law.proofs.Keys.{apart_ties}

-- a certificate's operation on a key of a map: what is found afterwards, by what was found before
pub data Does (c : Certificate) (map key : ℕ) (now was : ℕ → Option ℕ) : Type 0 where
  gets : c.op ≡ Get map key → c.reply ≡ Value (was key) → ((q : ℕ) → now q ≡ was q) → Does c map key now was
  inserts : (value : ℕ) → c.op ≡ Insert map key value → c.reply ≡ Flag (is_none (was key))
      → ((q : ℕ) → now q ≡ cond (is_none (was key)) (cond (eq_by_cmp nat_cmp q key) (Some value) (was q)) (was q)) → Does c map key now was
  removes : c.op ≡ Remove map key → c.reply ≡ Value (was key) → ((q : ℕ) → now q ≡ cond (eq_by_cmp nat_cmp q key) None (was q)) → Does c map key now was
  puts : (value : ℕ) → c.op ≡ Put map key value → c.reply ≡ Value (was key) → ((q : ℕ) → now q ≡ cond (eq_by_cmp nat_cmp q key) (Some value) (was q))
      → Does c map key now was

-- the same, told of a map that finds what was found, but for other keys that it finds as before
pub does_as : (c : Certificate) (map key : ℕ) (now was more before : ℕ → Option ℕ)
    → ((q : ℕ) → ((more q ≡ now q) × (before q ≡ was q)) ⊎ ((q ≢ key) × (more q ≡ before q))) → Does c map key now was → Does c map key more before
does_as c map key now was more before how d = told d
  where
    at_key : before key ≡ was key
    at_key = ⊎_elim (λ t. t.1) (λ t. absurd (t.0 refl)) (how key)

    told : Does c map key now was → Does c map key more before
    told (gets op reply same) = gets op (reply ∙ ap Value (sym at_key)) (λ q. ⊎_elim (λ t. t.0 ∙ same q ∙ sym t.1) (λ t. t.1) (how q))
    told (inserts value op reply finds) = inserts value op (reply ∙ ap (λ x. Flag (is_none x)) (sym at_key))
        (λ q. ⊎_elim
        (λ t. t.0 ∙ finds q ∙ ap (λ x. cond (is_none x) (cond (eq_by_cmp nat_cmp q key) (Some value) (was q)) (was q)) (sym at_key)
        ∙ ap (λ x. cond (is_none (before key)) (cond (eq_by_cmp nat_cmp q key) (Some value) x) x) (sym t.1))
        (λ t. t.1 ∙ sym (ap (λ b. cond (is_none (before key)) (cond b (Some value) (before q)) (before q)) (apart_ties q key t.0)
        ∙ either_same (is_none (before key)) (before q)))
        (how q))
      where
        either_same : (b : Bool) (x : Option ℕ) → cond b x x ≡ x
        either_same true x = refl
        either_same false x = refl
    told (removes op reply finds) = removes op (reply ∙ ap Value (sym at_key))
        (λ q. ⊎_elim
        (λ t. t.0 ∙ finds q ∙ ap (cond (eq_by_cmp nat_cmp q key) None) (sym t.1))
        (λ t. t.1 ∙ sym (ap (λ b. cond b None (before q)) (apart_ties q key t.0)))
        (how q))
    told (puts value op reply finds) = puts value op (reply ∙ ap Value (sym at_key))
        (λ q. ⊎_elim
        (λ t. t.0 ∙ finds q ∙ ap (cond (eq_by_cmp nat_cmp q key) (Some value)) (sym t.1))
        (λ t. t.1 ∙ sym (ap (λ b. cond b (Some value) (before q)) (apart_ties q key t.0)))
        (how q))

-- a map that is put where it was
with_same : (s : State) (m : ℕ) → with_map s m (map_at s m) ≡ s
with_same s m = ap (λ (maps : List Table). record { maps = maps; queues = s.queues }) (set-get_or s.maps m fin.empty)

pub same_table : (t u : Table) → ((q : ℕ) → fin.get t q ≡ fin.get u q) → t ≡ u
same_table t u same = fin.same_map nat_cmp_total fin.nat_cmp-IsAntisymmetric t u same

module _ (s : State) (m key : ℕ) (t : Table) where
  kept : ((q : ℕ) → fin.get t q ≡ fin.get (map_at s m) q) → with_map s m t ≡ s
  kept same = ap (with_map s m) (same_table t (map_at s m) same) ∙ with_same s m

  added : (value : ℕ) (b : Bool) → ((q : ℕ) → fin.get t q ≡ cond b (cond (eq_by_cmp nat_cmp q key) (Some value) (fin.get (map_at s m) q))
      (fin.get (map_at s m) q))
      → with_map s m t ≡ cond b (with_map s m (fin.insert (map_at s m) key value)) s
  added value true finds = ap (with_map s m) (same_table t (fin.insert (map_at s m) key value)
      (λ q. finds q ∙ sym (fin.get-insert nat_cmp_total (map_at s m) key value q)))
  added value false finds = kept finds

  taken : ((q : ℕ) → fin.get t q ≡ cond (eq_by_cmp nat_cmp q key) None (fin.get (map_at s m) q)) → with_map s m t ≡ with_map s m (fin.remove (map_at s m) key)
  taken finds = ap (with_map s m) (same_table t (fin.remove (map_at s m) key) (λ q. finds q ∙ sym (fin.get-remove nat_cmp_total (map_at s m) key q)))

  -- so the reply and the state are those of the operation
  pub acts : (c : Certificate) → Does c m key (fin.get t) (fin.get (map_at s m)) → (c.reply ≡ answer s c.op) × (with_map s m t ≡ after s c.op)
  acts c (gets op reply finds) = (reply ∙ ap (answer s) (sym op), kept finds ∙ ap (after s) (sym op))
  acts c (inserts value op reply finds) = (reply ∙ ap (answer s) (sym op), added value (is_none (fin.get (map_at s m) key)) finds ∙ ap (after s) (sym op))
  acts c (removes op reply finds) = (reply ∙ ap (answer s) (sym op), taken finds ∙ ap (after s) (sym op))
  acts c (puts value op reply finds) = (reply ∙ ap (answer s) (sym op), added value true finds ∙ ap (after s) (sym op))
