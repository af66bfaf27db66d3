use Rattle.std.proofs.Common.{◌+◌, ◌∙◌, ap, sym, subst, arith}
use Rattle.md_words.specs.PlaceAt.{IsCounted}
use Rattle.md_machine.specs.Certified.{is_written}
use Rattle.md_nbtc_law.specs.Calls.{MayBeOf}
use Rattle.md_nbtc_law.specs.Calls.ExchangeCase.{installs}
use Rattle.md_nbtc_law.specs.Known.{IsLater}
use Rattle.md_nbtc_law.specs.State.{TxnState, shape_in, writes_in}
use Rattle.md_nbtc_law.proofs.exchanging.FilledSlot.{both_given, both_on}
use Rattle.md_nbtc_law.proofs.preparing.GoingOn.{change_more, first_more}
use Rattle.md_nbtc.specs.State.{state}
use Rattle.md_nbtc.proofs.txn.Txn.install.Goals as goal

pub install_next-requires-clause-other : goal.install_next-requires-clause-other
install_next-requires-clause-other g c =
    let e = c.store_slot.ensures.only in
    let o = c.requires.other in record {
      operates = ap (λ (x : TxnState). x.hand.operating) e.same ∙ o.operates;
      counted = subst (λ x. IsCounted (shape_in x) c.args.word) (sym e.same) o.counted;
      other = ap (λ x. is_written (writes_in x) c.args.word) e.same ∙ o.other;
      gave = e.given (c.args.word + 1) c.args.word c.args.from (λ e. omega (arith, e)) o.gave;
    }

pub install_next-requires-clause-may : goal.install_next-requires-clause-may
install_next-requires-clause-may g c =
    let M = g.T.Theory.meaning in
    let t = state c.args.self.now in
    let u = state c.store_slot.new.self in
    let e = c.store_slot.ensures in
    let later = subst (IsLater t) e.only.same e.on.later in
    let since = c.requires.going.1.prepared.has.since in
    subst (λ x. MayBeOf installs M x c.args.word c.args.from c.args.to) (sym e.only.same) (
      change_more M t u.pass later since c.args.word c.requires.may.0,
      first_more M t u.pass later since c.args.word c.args.from.value c.requires.may.1,
    )

pub returns-clause-on : goal.returns-clause-on
returns-clause-on g c = both_on g.T.Theory.meaning (state c.args.self.now) (state c.store_slot.new.self) (state c.install_next.new.self) c.store_slot.ensures.on c.install_next.ensures.on

pub returns-clause-gives : goal.returns-clause-gives
returns-clause-gives g c = record {
  given = both_given (state c.args.self.now) (state c.store_slot.new.self) (state c.install_next.new.self) c.args.word (c.store_slot.ensures.only.given c.args.word) c.install_next.ensures.gives.given;
  gave = c.install_next.ensures.gives.gave;
}
