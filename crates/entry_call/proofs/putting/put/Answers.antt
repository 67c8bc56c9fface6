use Rattle.entry_call.proofs.Followed.{told_among}
use Rattle.entry_call.proofs.putting.put.Goals as goal

pub returns-in-Ok-clause-put : goal.returns-in-Ok-clause-put
returns-in-Ok-clause-put g c = λ wanted is.
    let same = rw c.in-Ok.is at is in
    let told = rw c.bytes.ensures at c.tell.ensures.put in
    rw same at told

pub returns-in-Ok-clause-among : goal.returns-in-Ok-clause-among
returns-in-Ok-clause-among g c = told_among c.args.planned c.bytes.result.now (g.O.Sink.written c.args.out.now) (g.O.Sink.written c.tell.new.out) c.tell.result c.tell.ensures.put
