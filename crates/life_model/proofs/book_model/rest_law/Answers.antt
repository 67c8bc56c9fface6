-- The lemmas on nothing left, at the types of the function.
use Rattle.life_model.proofs.Opens.{open_rests, open_each}
use Rattle.life_model.proofs.book_model.rest_law.Goals as goal

pub returns-clause-rests : goal.returns-clause-rests
returns-clause-rests g c = λ w b start live l idle. record {
  live = live;
  rests = open_rests w.exchange w.lawful w.states w.stated w.processor w.table w.cleared w.more w.spot w.frames b.gave b w.forgets w.keeps start l idle;
}

pub returns-clause-done : goal.returns-clause-done
returns-clause-done g c = λ w b start given l idle drained. record {
  rest = record {
    live = given.live;
    rests = open_rests w.exchange w.lawful w.states w.stated w.processor w.table w.cleared w.more w.spot w.frames b.gave b w.forgets w.keeps start l idle;
  };
  never = given.never;
  each = open_each w.exchange w.lawful w.states w.stated w.processor w.table w.cleared w.more w.spot w.frames b.gave b w.forgets w.keeps start l idle drained;
}
