-- Runs that go on by one act.
use Rattle.std.proofs.Common.{◌≡◌, ℕ, Bool, true, false, cond, List, [], ◌∷◌, ◌++◌, length, refl, sym, ap, subst, ◌∙◌, Option, Some, None, is_some}
use Rattle.std.specs.Prelude.{is_none}
use Rattle.std.specs.FinMap as fin
use Rattle.std.proofs.lemmas.List.{length-set}
use Rattle.md_history.specs.declared.acts.Op.{Op}
use Rattle.md_history.specs.declared.acts.Op.TheVariants.{Get, Insert, Remove, Put, Enqueue, Dequeue, Front, Line}
use Rattle.md_history.specs.declared.acts.Reply.{Reply}
use Rattle.md_history.specs.declared.acts.Act.{Act}
use Rattle.md_history.specs.State.{State, HaveSameNumbers, run, IsRight, after, answer, map_at}
use Rattle.md_history.specs.History.{acts_of}
use Rattle.md_history.specs.Front.{Front as View, committed_in, replay_of}
use Rattle.md_history.specs.HistoryLaws.{run-append, right-append}
use Rattle.md_history.specs.Act.{act_of}
use Rattle.md_history.specs.Plain.{IsRunning}

chosen : (b : Bool) (s t : State) (n : ℕ) (f : State → ℕ) → f s ≡ n → f t ≡ n → f (cond b s t) ≡ n
chosen true s t n f p q = p
chosen false s t n f p q = q

-- no operation changes how many maps and queues there are
pub length-maps : (s : State) (op : Op) → length (after s op).maps ≡ length s.maps
length-maps s (Get m k) = refl
length-maps s (Insert m k v) =
    chosen (is_none (fin.get (map_at s m) k)) _ s (length s.maps) (λ t. length t.maps) (length-set s.maps m _) refl
length-maps s (Remove m k) = length-set s.maps m _
length-maps s (Put m k v) = length-set s.maps m _
length-maps s (Enqueue q v) = refl
length-maps s (Dequeue q) = refl
length-maps s (Front q) = refl
length-maps s (Line q n) = refl

pub length-queues : (s : State) (op : Op) → length (after s op).queues ≡ length s.queues
length-queues s (Get m k) = refl
length-queues s (Insert m k v) =
    chosen (is_none (fin.get (map_at s m) k)) _ s (length s.queues) (λ t. length t.queues) refl refl
length-queues s (Remove m k) = refl
length-queues s (Put m k v) = refl
length-queues s (Enqueue q v) = length-set s.queues q _
length-queues s (Dequeue q) = length-set s.queues q _
length-queues s (Front q) = refl
length-queues s (Line q n) = refl

no_refusal : (o : Option Op) → is_some o ≡ false → o ≡ None
no_refusal None e = refl
no_refusal (Some op) e = cc

-- a right act goes on
pub running-more : (start now now' : State) (acts acts' : List Act) (op : Op) (reply : Reply) (o o' : Option Op)
    → IsRunning start now acts o → is_some o ≡ false → reply ≡ answer now op → now' ≡ after now op
    → acts' ≡ acts ++ act_of op reply ∷ [] → IsRunning start now' acts' o'
running-more start now now' acts acts' op reply o o' r none replied changed added =
    let at : now ≡ run start acts = r.state (no_refusal o none) in
    record {
      right = subst (IsRight start) (sym added) (right-append start acts _ r.right (replied ∙ ap (λ s. answer s op) at, tt));
      state = λ _. changed ∙ ap (λ s. after s op) at ∙ sym (ap (run start) added ∙ run-append start acts _);
      maps = ap (λ s. length s.maps) changed ∙ length-maps now op ∙ r.maps;
      queues = ap (λ s. length s.queues) changed ∙ length-queues now op ∙ r.queues;
    }

pub length-maps-run : (s : State) (acts : List Act) → length (run s acts).maps ≡ length s.maps
length-maps-run s [] = refl
length-maps-run s (a ∷ acts) = length-maps-run (after s a.op) acts ∙ length-maps s a.op

pub length-queues-run : (s : State) (acts : List Act) → length (run s acts).queues ≡ length s.queues
length-queues-run s [] = refl
length-queues-run s (a ∷ acts) = length-queues-run (after s a.op) acts ∙ length-queues s a.op

-- a replay has as many maps and queues as it starts from
pub replay-numbers : (start : State) (f : View) → HaveSameNumbers (replay_of start f) start
replay-numbers start f =
    record { maps = length-maps-run start (acts_of (committed_in f)); queues = length-queues-run start (acts_of (committed_in f)) }
