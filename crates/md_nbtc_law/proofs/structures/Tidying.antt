-- Tidy changes after certificates, as one certificate more that has nothing else.
use Rattle.std.proofs.Common.{◌≡◌, ◌++◌, ℕ, List, [], ◌∷◌, Option, refl, sym, ap, ◌∙◌, subst, None, append-nil, IfSome, IsTrue}
use Rattle.std.proofs.lemmas.Option.{IfSome_then}
use Rattle.std.proofs.lemmas.List.Elements.{All-head, All-tail}
use Rattle.std.specs.List.{All, flat_map}
use Rattle.md_history.specs.declared.acts.Op.TheVariants.{Get}
use Rattle.md_history.specs.declared.acts.Reply.TheVariants.{Value}
use Rattle.md_machine.specs.declared.certificate.Certificate.{Certificate}
use Rattle.md_machine.specs.declared.certificate.TidyChange.{TidyChange}
use Rattle.md_machine.specs.declared.certificate.Fact.{Fact}
use Rattle.md_machine.specs.declared.node.Structure.{Structure}
use Rattle.md_machine.specs.Certified.{after_tidies, after_wholes, all_changes, all_nodes, changes_of_tidy}
use Rattle.md_machine.specs.LogicalHeap.{Holds, LogicalHeap, after_nodes, changed, is_settled, next_of}
use Rattle.md_machine.specs.Meaning.{after_tidy}
use Rattle.md_nbtc_law.specs.Tidied.{tidied}
use Rattle.md_nbtc_law.proofs.operations.Courses.{changes_push, nodes_push, wholes_push}

-- its operation and its reply don't matter
abbrev pub tidy_act : List TidyChange → Certificate
tidy_act ts = record { op = Get 0 0; reply = Value None; tidy = ts; recorded = []; changes = []; nodes = []; facts = [] }

abbrev pub with_tidies : List Certificate → List TidyChange → List Certificate
with_tidies cs ts = cs ++ tidy_act ts ∷ []

pub tidied_is : (h : LogicalHeap) (cs : List Certificate) (ts : List TidyChange) → after_wholes h (with_tidies cs ts) ≡ tidied h cs ts
tidied_is h cs ts = wholes_push h cs (tidy_act ts)

pub tidied_changes : (cs : List Certificate) (ts : List TidyChange) → all_changes (with_tidies cs ts) ≡ all_changes cs ++ changes_of_tidy ts
tidied_changes cs ts = changes_push cs (tidy_act ts) ∙ ap (λ l. all_changes cs ++ l) (append-nil (changes_of_tidy ts))

abbrev pub IsBare : TidyChange → Type 0
IsBare c = c.nodes ≡ []

-- tidy changes that place no node
pub bare_nodes : (ts : List TidyChange) → All IsBare ts → flat_map (λ (c : TidyChange). c.nodes) ts ≡ []
bare_nodes [] bare = refl
bare_nodes (c ∷ ts) bare = ap (λ l. l ++ flat_map (λ (d : TidyChange). d.nodes) ts) (All-head IsBare c ts bare) ∙ bare_nodes ts (All-tail IsBare c ts bare)

pub tidied_nodes : (cs : List Certificate) (ts : List TidyChange) → All IsBare ts → all_nodes (with_tidies cs ts) ≡ all_nodes cs
tidied_nodes cs ts bare = nodes_push cs (tidy_act ts)
    ∙ ap (λ l. all_nodes cs ++ (l ++ [])) (bare_nodes ts bare) ∙ append-nil (all_nodes cs)

-- they leave nodes as they are: where they are placed, their keys and their values
pub bare_placed : (h : LogicalHeap) (ts : List TidyChange) → All IsBare ts → (after_tidies h ts).placed ≡ h.placed
bare_placed h [] bare = refl
bare_placed h (c ∷ ts) bare = bare_placed (after_tidy h c) ts (All-tail IsBare c ts bare)
    ∙ ap (λ ns. (after_nodes (record { words = changed h.words c.change; placed = h.placed }) ns).placed) (All-head IsBare c ts bare)

pub bare_keys : (h : LogicalHeap) (ts : List TidyChange) → All IsBare ts → (after_tidies h ts).words.key_of ≡ h.words.key_of
bare_keys h [] bare = refl
bare_keys h (c ∷ ts) bare = bare_keys (after_tidy h c) ts (All-tail IsBare c ts bare)
    ∙ ap (λ ns. (after_nodes (record { words = changed h.words c.change; placed = h.placed }) ns).words.key_of) (All-head IsBare c ts bare)

pub bare_values : (h : LogicalHeap) (ts : List TidyChange) → All IsBare ts → (after_tidies h ts).words.value_of_node ≡ h.words.value_of_node
bare_values h [] bare = refl
bare_values h (c ∷ ts) bare = bare_values (after_tidy h c) ts (All-tail IsBare c ts bare)
    ∙ ap (λ ns. (after_nodes (record { words = changed h.words c.change; placed = h.placed }) ns).words.value_of_node) (All-head IsBare c ts bare)

-- so facts on keys and values still hold
pub bare_holds : (h : LogicalHeap) (ts : List TidyChange) → All IsBare ts → (f : Fact) → f.next ≡ None → Holds h f → Holds (after_tidies h ts) f
bare_holds h ts bare f none holds = record {
  placed = ap (λ (g : ℕ → Option Structure). g f.node) (bare_placed h ts bare) ∙ holds.placed;
  key = IfSome_then f.key holds.key (λ k e. ap (λ (g : ℕ → ℕ). g f.node) (bare_keys h ts bare) ∙ e);
  value = IfSome_then f.value holds.value (λ v e. ap (λ (g : ℕ → ℕ). g f.node) (bare_values h ts bare) ∙ e);
  next = subst (λ o. IfSome o (λ v. (next_of (after_tidies h ts).words f.node ≡ v) × IsTrue (is_settled f.structure v))) (sym none) tt;
}
