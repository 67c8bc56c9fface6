use Rattle.exchange_model.proofs.Turns.{follows, all_said}
use Rattle.exchange_model.proofs.dialogues.Goals as goal

pub returns-clause-follows : goal.returns-clause-follows
returns-clause-follows g c = λ serve emission decide fuel v ms hs more law. follows serve emission decide fuel v ms hs more law

pub returns-clause-all_said : goal.returns-clause-all_said
returns-clause-all_said g c = λ serve emission decide fuel v ms law. all_said serve emission decide fuel v ms law
