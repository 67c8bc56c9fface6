-- The lemmas on a life's steps, at the types of the function.
use Rattle.std.proofs.Common.{[], ◌∷◌, ◌++◌, length, sym, subst, arith}
use Rattle.life_model.specs.Chain.{AllBegin, Written}
use Rattle.life_model.specs.Open.{OpenLife}
use Rattle.life_model.specs.Steps.{book_of}
use Rattle.life_model.proofs.Grows.{chain_more}
use Rattle.life_model.proofs.Moving.{opens_left, nothing_between, goes_on, over, keeps}
use Rattle.life_model.proofs.steps.steps_law.Goals as goal

pub returns-clause-opens : goal.returns-clause-opens
returns-clause-opens g c = λ w b e h k. record {
  past = k.past;
  carry = k.carry;
  left = k.left;
  epoch = e;
  body = book_of w e;
  last = k.last;
  before = k.before;
  inside = k.inside;
  begun = k.begun;
  timed =
      let now = h.now in
      let until = h.until in
      record {
        returned = h.returned;
        since = omega (arith, now, until);
        within = omega (arith, until);
        begins = subst (AllBegin e.opened) (sym h.started) tt;
        behind = nothing_between w.exchange w.lawful w.states w.stated w.processor w.table w.cleared w.more w.spot e.until (length w.frames) w.frames (omega (arith, until));
        gives = opens_left w.exchange w.lawful w.states w.stated w.processor w.table w.cleared w.more w.spot w.frames e.opened now b.gave;
      };
  written = Written.whole h.tail;
  epochs = k.epochs;
}

pub returns-clause-goes_on : goal.returns-clause-goes_on
returns-clause-goes_on g c = λ w b l next n.
    subst (λ gave. OpenLife w.exchange w.lawful w.states w.stated w.processor w.table w.cleared w.more w.spot (w.frames ++ n.frame ∷ []) gave next) (sym n.next.gave)
    (goes_on w.exchange w.lawful w.states w.stated w.processor w.table w.cleared w.more w.spot w.frames b.gave n.frame b l n.now n.body n.goes next n.next.first n.next.epochs_are)

pub returns-clause-over : goal.returns-clause-over
returns-clause-over g c = λ w b l o. over w.exchange w.lawful w.states w.stated w.processor w.table w.cleared w.more w.spot w.frames o.frames b.gave o.gave b l o.now o.stop o.carry o.body o.is

pub returns-clause-past : goal.returns-clause-past
returns-clause-past g c = λ w p gs hs late inside past.
    chain_more w.exchange w.lawful w.states w.stated w.processor w.table w.cleared w.more w.spot w.frames gs p.gave hs late p.stop p.carry p.left [] p.first p.epochs inside past

pub returns-clause-stays : goal.returns-clause-stays
returns-clause-stays g c = λ w gs e le. keeps w.exchange w.lawful w.states w.stated w.processor w.table w.cleared w.more w.spot w.frames gs e le
