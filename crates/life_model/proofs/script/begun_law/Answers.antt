-- The lemmas on rows and what came into hand, at the types of the function.
use Rattle.std.proofs.Common.{sym, subst}
use Rattle.life_model.specs.Script.{HaveBegun}
use Rattle.life_model.proofs.Opens.{open_rests, open_each}
use Rattle.life_model.proofs.Scripts
use Rattle.life_model.proofs.script.begun_law.Goals as goal

pub returns-clause-rows : goal.returns-clause-rows
returns-clause-rows g c = λ w b l. Scripts.open_rows w b l

pub returns-clause-rests : goal.returns-clause-rests
returns-clause-rests g c = λ w b a start live l idle begun. record {
  rest = record {
    live = live;
    rests = open_rests w.exchange w.lawful w.states w.stated w.processor w.table w.cleared w.more w.spot w.frames b.gave b w.forgets w.keeps start l idle;
  };
  begun = subst (HaveBegun a) (sym (Scripts.open_rows w b l)) begun;
}

pub returns-clause-done : goal.returns-clause-done
returns-clause-done g c = λ w b a start given l idle drained begun. record {
  done = record {
    rest = record {
      live = given.live;
      rests = open_rests w.exchange w.lawful w.states w.stated w.processor w.table w.cleared w.more w.spot w.frames b.gave b w.forgets w.keeps start l idle;
    };
    never = given.never;
    each = open_each w.exchange w.lawful w.states w.stated w.processor w.table w.cleared w.more w.spot w.frames b.gave b w.forgets w.keeps start l idle drained;
  };
  begun = subst (HaveBegun a) (sym (Scripts.open_rows w b l)) begun;
}
