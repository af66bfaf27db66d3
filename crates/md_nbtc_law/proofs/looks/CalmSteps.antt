-- The steps of a look at a word are calm: loads, what settles another's attempt, and what takes its descriptor out.
use Rattle.std.proofs.Common.{◌≡◌, ◌≢◌, ◌<◌, ◌⊎◌, ℕ, true, IsTrue, sym, ap, ◌∙◌, subst, inl, inr, ⊎_elim, arith}
use Rattle.std.proofs.lemmas.Bool.{false≢true}
use Rattle.std.proofs.lemmas.List.Elements.{All-contains}
use Rattle.std.specs.List.{Contains}
use Rattle.md_words.specs.declared.shape.Shape.{Shape}
use Rattle.md_words.specs.Layout.{Exists, address, desc_count}
use Rattle.md_words.specs.Place.{Place, desc_status, is_counted, node_key}
use Rattle.md_words.specs.PlaceAt.{IsCounted, place_at}
use Rattle.md_words.proofs.Owners.{own_desc_exists, own_node_exists}
use Rattle.md_words.proofs.Places.{address_differs, place_at-address}
use Rattle.md_machine.specs.declared.step.Kind.TheVariants.{Abort, Commit, Load, Uninstall}
use Rattle.md_machine.specs.declared.step.Step.{Step}
use Rattle.md_machine.specs.Moved.{holds_other}
use Rattle.md_machine.specs.Own.{IsWordOf}
use Rattle.md_machine.specs.Trail.{is_store}
use Rattle.md_help.specs.Settles.{Decides}
use Rattle.md_help.proofs.Numbers.{apart_counted}
use Rattle.md_nbtc_law.specs.Looking.{LooksAt}
use Rattle.md_nbtc_law.specs.Prepared.{IsPrepared, IsPreparedNode}
use Rattle.md_nbtc_law.specs.Seeing.{IsNextOf}
use Rattle.md_nbtc_law.specs.State.{OwnNode, TxnState, attempt_in, shape_in}
use Rattle.md_nbtc_law.proofs.preparing.Calm.{IsCalm}
use Rattle.md_nbtc_law.proofs.preparing.StatusApart.{counted_apart}

-- the word of a node exists, and holds no status
word_exists : (shape : Shape) (node : ℕ) (place : Place) → Exists shape (node_key node) → IsWordOf node place → Exists shape place
word_exists shape node place exists is = ⊎_elim
    (⊎_elim (λ key. subst (Exists shape) (sym key) exists) (λ value. subst (Exists shape) (sym value) exists))
    (λ next. subst (Exists shape) (sym next) exists)
    is

no_status : (node desc : ℕ) (place : Place) → IsWordOf node place → place ≢ desc_status desc
no_status node desc place is e = ⊎_elim
    (⊎_elim (λ key. let f = sym key ∙ e in absurd (grind (arith, f))) (λ value. let f = sym value ∙ e in absurd (grind (arith, f))))
    (λ next. let f = sym next ∙ e in absurd (grind (arith, f)))
    is

pub other_desc : (desc other : ℕ) → desc ≢ other → desc_status desc ≢ desc_status other
other_desc desc other apart e = apart (let f : desc_status desc ≡ desc_status other = e in cc)

module _ (t : TxnState) (prepared : IsPrepared t) (word : ℕ) (counted : IsCounted (shape_in t) word) where
  own_exists : (attempt_in t).desc < desc_count (shape_in t)
  own_exists = own_desc_exists (shape_in t) prepared.has.own.0 (attempt_in t).desc prepared.has.own.2

  -- a load that changes nothing
  pub calm_load : (s : Step) → s.kind ≡ Load → s.before ≡ s.after → s.word ≢ address (shape_in t) (desc_status (attempt_in t).desc) → IsCalm t word s
  calm_load s kind same apart = record {
    quiet = record { store = ap is_store kind; install = λ e. let f = sym kind ∙ e in cc };
    still = λ other is there. inl same;
    others = λ other is differ there. same;
    status = apart;
    nodes = λ n among place is there. same;
  }

  -- a look at the word
  pub calm_look : (s : Step) → LooksAt word s → IsCalm t word s
  calm_look s l = calm_load s l.kind l.same (λ e. counted_apart t prepared word counted (sym l.there ∙ e))

  -- a commit or an abort of another's status
  decides_other : (desc : ℕ) → desc < desc_count (shape_in t) → desc ≢ (attempt_in t).desc → (s : Step) → s.word ≡ address (shape_in t) (desc_status desc)
      → (s.kind ≡ Commit) ⊎ (s.kind ≡ Abort) → IsCalm t word s
  decides_other desc exists apart s there kind = record {
    quiet = record { store = ⊎_elim (ap is_store) (ap is_store) kind; install = λ e. ⊎_elim (λ k. let f = sym k ∙ e in absurd (grind (arith, f))) (λ k. let f = sym k ∙ e in absurd (grind (arith, f))) kind };
    still = λ other is at. absurd (apart_counted (shape_in t) other is desc exists (sym at ∙ there));
    others = λ other is differ at. absurd (apart_counted (shape_in t) other is desc exists (sym at ∙ there));
    status = λ e. address_differs (shape_in t) (desc_status desc) (desc_status (attempt_in t).desc) exists own_exists (other_desc desc (attempt_in t).desc apart) (sym there ∙ e);
    nodes = λ n among place is at.
        let own = (All-contains (IsPreparedNode t) t.nodes n prepared.nodes among).own in
        let node = own_node_exists (shape_in t) own.0 n.node own.2 in
        absurd (address_differs (shape_in t) place (desc_status desc) (word_exists (shape_in t) n.node place node is) exists (no_status n.node desc place is) (sym at ∙ there));
  }

  -- a step that settles another attempt
  pub calm_settling : (desc : ℕ) → desc < desc_count (shape_in t) → desc ≢ (attempt_in t).desc → (s : Step) → Decides (shape_in t) desc s → IsCalm t word s
  calm_settling desc exists apart s = ⊎_elim
      (λ l. calm_load s l.0.0 l.0.1 (λ e. l.1 (attempt_in t).desc own_exists e))
      (λ d. decides_other desc exists apart s d.0 d.1)

  -- no such step changes the word
  pub settling_same : (desc : ℕ) → desc < desc_count (shape_in t) → (s : Step) → Decides (shape_in t) desc s → s.word ≡ word → s.before ≡ s.after
  settling_same desc exists s d there = ⊎_elim (λ l. l.0.1) (λ o. absurd (apart_counted (shape_in t) word counted desc exists (sym there ∙ o.0))) d

  -- the word is none of the words of a node whose next word it is not
  word_apart : (n : OwnNode) → ¬ IsNextOf t word n.node → Contains t.nodes n → (place : Place) → IsWordOf n.node place → word ≢ address (shape_in t) place
  word_apart n apart among place is at =
      let own = (All-contains (IsPreparedNode t) t.nodes n prepared.nodes among).own in
      let node = own_node_exists (shape_in t) own.0 n.node own.2 in
      let here : place_at (shape_in t) word ≡ place = ap (place_at (shape_in t)) at ∙ place_at-address (shape_in t) place (word_exists (shape_in t) n.node place node is) in
      ⊎_elim
      (⊎_elim (λ key. false≢true (subst (λ p. IsTrue (is_counted p)) (here ∙ key) counted.1)) (λ value. false≢true (subst (λ p. IsTrue (is_counted p)) (here ∙ value) counted.1)))
      (λ next. apart (node, at ∙ ap (address (shape_in t)) next))
      is

  -- an uninstall that takes another's descriptor out of the word, which is no own node's next word, or that is lost
  pub calm_take : ((n : OwnNode) → Contains t.nodes n → ¬ IsNextOf t word n.node) → (s : Step) → s.kind ≡ Uninstall → s.word ≡ word
      → (holds_other (attempt_in t).desc s.before ≡ true) ⊎ (s.before ≡ s.after) → IsCalm t word s
  calm_take apart s kind there takes = record {
    quiet = record { store = ap is_store kind; install = λ e. let f = sym kind ∙ e in cc };
    still = λ other is at. ⊎_elim (λ h. inr (kind, h)) inl takes;
    others = λ other is differ at. absurd (differ (sym at ∙ there));
    status = λ e. counted_apart t prepared word counted (sym there ∙ e);
    nodes = λ n among place is at. absurd (word_apart n (apart n among) among place is (sym there ∙ at));
  }
