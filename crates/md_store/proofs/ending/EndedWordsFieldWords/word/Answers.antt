use Rattle.md_store.proofs.ending.EndedWordsFieldWords.word.Goals as goal

pub returns : goal.returns
returns c = c.word.ensures
