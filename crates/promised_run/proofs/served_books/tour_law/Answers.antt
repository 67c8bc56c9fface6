use Rattle.std.proofs.Common.{map}
use Rattle.run_promises.specs.of_master_node.Toured.{tour_of}
use Rattle.gateway_run.specs.of_run_record.Led.{exchanged}
use Rattle.promised_run.proofs.served_books.tour_law.Goals as goal

pub returns : goal.returns
returns c = λ plan count book ending is a.
    let l = a.answers.serving.leading in
    c.toured_law.ensures plan (map exchanged book.frames) (tour_of a.session.master) l.serves is l.toured
