use Rattle.std.proofs.Common.{◌≡◌, ◌∷◌, ◌++◌, ◌<◌, true, [], sym, ap, ◌∙◌, subst, length}
use Rattle.md_words.specs.declared.limits.TheConstants.{SET}
use Rattle.md_words.specs.declared.shape.Shape.{Shape}
use Rattle.md_words.specs.Content.{count_of, value_of}
use Rattle.md_words.specs.Layout.{desc_count}
use Rattle.md_rule.specs.Views.{PassState}
use Rattle.md_nbtc_law.specs.Calls.{GoesOn}
use Rattle.md_nbtc_law.specs.Seeing.{Gave}
use Rattle.md_nbtc_law.specs.State.{TxnState, seen_content, state_of}
use Rattle.md_nbtc_law.proofs.recording.Noted.{next_read, noted, noted_gave, noted_given, noted_on}
use Rattle.md_nbtc_law.proofs.recording.Recording.{both, content_found, may_content, may_word, recorded_is, word_found}
use Rattle.md_nbtc_law.proofs.recording.StoredRead.{StoredRead}
use Rattle.md_nbtc.specs.State.{state}
use Rattle.md_nbtc.proofs.txn.Txn.record.Given.{Over}
use Rattle.md_nbtc.proofs.txn.Txn.record.Goals as goal

-- the next read of the descriptor exists
exists : (g : Over) (c : goal.After-len-i g) → (c.args.self.now.desc < desc_count c.shape-shape.result.now) × (c.len-i.result < SET)
exists g c =
    let t = state c.args.self.now in
    let next = next_read t c.requires.going.1.prepared c.requires.may.room in (
      subst (λ (s : Shape). c.args.self.now.desc < desc_count s) (sym c.shape-shape.ensures)
          (subst (λ d. d < desc_count t.field.origin.shape) (sym c.requires.going.1.prepared.has.numbers.0) next.0),
      subst (λ n. n < SET) (sym c.len-i.ensures) next.1,
    )

pub read_word-word_at-requires : goal.read_word-word_at-requires
read_word-word_at-requires g c = exists g c

pub read_content-content_at-requires : goal.read_content-content_at-requires
read_content-content_at-requires g c = exists g c.before

pub store-requires-clause-may : goal.store-requires-clause-may
store-requires-clause-may g c =
    let x = c.args.self.now in
    may_word g.T.Theory.meaning x.field.now x.pass.now x.began.value x.sets.now.reads x.sets.now.slots x.stop x.desc x.serial x.tag x.sets.now.lots c.requires.going.1.prepared c.requires.may.room c.args.word c.args.seen
    c.read_word-word_at.result
    (word_found g.T.Theory.meaning x.field.now x.pass.now x.began.value x.sets.now.reads x.sets.now.slots x.stop x.desc x.serial x.tag x.sets.now.lots _ _ _ _ c.shape-shape.ensures c.requires.going.1.prepared.has.numbers.0 c.len-i.ensures c.read_word-word_at.ensures.place) c.requires.may.gave.counted

pub store-requires-2-clause-may : goal.store-requires-2-clause-may
store-requires-2-clause-may g c =
    let x = c.args.self.now in
    may_content g.T.Theory.meaning x.field.now x.pass.now x.began.value x.sets.now.reads x.sets.now.slots x.stop x.desc x.serial x.tag x.sets.now.lots c.requires.going.1.prepared c.requires.may.room c.args.word c.args.seen
    c.read_word-word_at.result
    (word_found g.T.Theory.meaning x.field.now x.pass.now x.began.value x.sets.now.reads x.sets.now.slots x.stop x.desc x.serial x.tag x.sets.now.lots _ _ _ _ c.shape-shape.ensures c.requires.going.1.prepared.has.numbers.0 c.len-i.ensures c.read_word-word_at.ensures.place)
    c.store.new.self c.store.ensures.step c.read_content-content_at.result
    (content_found g.T.Theory.meaning x.field.now x.pass.now x.began.value x.sets.now.reads x.sets.now.slots x.stop x.desc x.serial x.tag x.sets.now.lots _ _ _ _ c.shape-shape.ensures c.requires.going.1.prepared.has.numbers.0 c.len-i.ensures c.read_content-content_at.ensures.place) c.content_of.result c.content_of.ensures.whole

-- what the two stores made of the transaction, and that contracts see so much of it
stored : (g : Over) (c : goal.After-push g) → (let t = state c.args.self.now in let prepared = c.requires.going.1.prepared in
    StoredRead g.T.Theory.meaning t.field.origin t.hand (length t.reads) (next_read t prepared c.requires.may.room) t.pass.view c.args.word (seen_content c.args.seen) c.store-2.new.self.view)
stored g c =
    let x = c.args.self.now in
    both g.T.Theory.meaning x.field.now x.pass.now x.began.value x.sets.now.reads x.sets.now.slots x.stop x.desc x.serial x.tag x.sets.now.lots c.requires.going.1.prepared c.requires.may.room c.args.word c.args.seen
    c.read_word-word_at.result (word_found g.T.Theory.meaning x.field.now x.pass.now x.began.value x.sets.now.reads x.sets.now.slots x.stop x.desc x.serial x.tag x.sets.now.lots _ _ _ _ c.shape-shape.ensures c.requires.going.1.prepared.has.numbers.0 c.len-i.ensures c.read_word-word_at.ensures.place)
    c.store.new.self c.store.ensures.step c.read_content-content_at.result
    (content_found g.T.Theory.meaning x.field.now x.pass.now x.began.value x.sets.now.reads x.sets.now.slots x.stop x.desc x.serial x.tag x.sets.now.lots _ _ _ _ c.shape-shape.ensures c.requires.going.1.prepared.has.numbers.0 c.len-i.ensures c.read_content-content_at.ensures.place)
    c.content_of.result c.content_of.ensures.whole c.store-2.new.self c.store-2.ensures.step

after : (g : Over) (c : goal.After-push g) → TxnState
after g c = let t = state c.args.self.now in
    noted g.T.Theory.meaning t c.requires.going.1.prepared c.args.word c.args.seen c.requires.may.room c.store-2.new.self.view (stored g c)

seen_so : (g : Over) (c : goal.After-push g)
    → (let x = c.args.self.now in state_of x.field.now c.store-2.new.self x.began.value c.push.new.self x.sets.now.slots x.stop x.desc x.serial x.tag x.sets.now.lots ≡ after g c)
unfolding after stored
seen_so g c =
    let x = c.args.self.now in
    recorded_is g.T.Theory.meaning x.field.now x.pass.now x.began.value x.sets.now.reads x.sets.now.slots x.stop x.desc x.serial x.tag x.sets.now.lots c.requires.going.1.prepared c.requires.may.room c.args.word c.args.seen
    c.read_word-word_at.result (word_found g.T.Theory.meaning x.field.now x.pass.now x.began.value x.sets.now.reads x.sets.now.slots x.stop x.desc x.serial x.tag x.sets.now.lots _ _ _ _ c.shape-shape.ensures c.requires.going.1.prepared.has.numbers.0 c.len-i.ensures c.read_word-word_at.ensures.place)
    c.store.new.self c.store.ensures.step c.read_content-content_at.result
    (content_found g.T.Theory.meaning x.field.now x.pass.now x.began.value x.sets.now.reads x.sets.now.slots x.stop x.desc x.serial x.tag x.sets.now.lots _ _ _ _ c.shape-shape.ensures c.requires.going.1.prepared.has.numbers.0 c.len-i.ensures c.read_content-content_at.ensures.place)
    c.content_of.result c.content_of.ensures.whole c.store-2.new.self c.store-2.ensures.step c.store.ensures.same c.store-2.ensures.same c.push.new.self c.push.ensures

parts : (g : Over) (c : goal.After-push g) → (value_of (seen_content c.args.seen) ≡ c.args.seen.value) × (count_of (seen_content c.args.seen) ≡ c.args.seen.count)
parts g c = let e = c.content_of.ensures in (ap value_of (sym e.whole) ∙ e.parts.0, ap count_of (sym e.whole) ∙ e.parts.1)

pub returns-clause-on : goal.returns-clause-on
unfolding after
returns-clause-on g c =
    let t = state c.args.self.now in
    let r = c.requires in
    subst (GoesOn g.T.Theory.meaning t) (sym (seen_so g c))
    (noted_on g.T.Theory.meaning t r.going.1.prepared c.args.word c.args.seen r.may.room c.store-2.new.self.view (stored g c) (parts g c) r.may.gave r.may.other (r.may.found r.may.other) r.may.unread)

pub returns-clause-recorded : goal.returns-clause-recorded
unfolding after
returns-clause-recorded g c =
    let x = c.args.self.now in
    let t = state x in
    seen_so g c ∙ ap (λ (p : PassState). record t { pass = p; reads = x.sets.now.reads ++ (record { word = c.args.word; content = seen_content c.args.seen; stood = true }) ∷ [] })
    (sym (c.store-2.ensures.same ∙ ap (λ (p : PassState). record p { view = c.store-2.new.self.view }) c.store.ensures.same))

pub returns-clause-given : goal.returns-clause-given
unfolding after
returns-clause-given g c word seen differ gave =
    let t = state c.args.self.now in
    let r = c.requires in
    subst (λ u. Gave u word seen) (sym (seen_so g c))
    (noted_given g.T.Theory.meaning t r.going.1.prepared c.args.word c.args.seen r.may.room c.store-2.new.self.view (stored g c) (parts g c) r.may.gave r.may.other (r.may.found r.may.other) r.may.unread
    word seen differ gave)

pub returns-clause-gave : goal.returns-clause-gave
unfolding after
returns-clause-gave g c =
    let t = state c.args.self.now in
    let r = c.requires in
    subst (λ u. Gave u c.args.word c.args.seen) (sym (seen_so g c))
    (noted_gave g.T.Theory.meaning t r.going.1.prepared c.args.word c.args.seen r.may.room c.store-2.new.self.view (stored g c) (parts g c) r.may.gave r.may.other (r.may.found r.may.other) r.may.unread)
