use Rattle.std.proofs.Common.{ℕ, List, refl, ap, ◌∙◌, subst, arith}
use Rattle.gateway_run.specs.Serving.{Listens}
use Rattle.gateway_core.specs.of_ec_outside.declared.port.Heard.{Heard}
use Rattle.gateway_run.specs.Desk.{Takes}
use Rattle.std.specs.Prelude.{Err}
use Rattle.std.proofs.lemmas.Result.{err_from_is_err_and}
use Rattle.run_record.specs.of_run_book.declared.book.Book.{Book}
use Rattle.gateway_run.proofs.Turns.{took, frames_of, goes_without, over, quiet}
use Rattle.gateway_run.proofs.Room.{not_over, room}
use Rattle.gateway_run.proofs.turn.Serving.take.Goals as goal

pub returns-in_ok-take-in-From-clause-goes : goal.returns-in_ok-take-in-From-clause-goes
returns-in_ok-take-in-From-clause-goes c = λ plan count first now next free h l.
    let r = room c.args.self.now c.args.book.now c.requires in
    let e = c.in_ok-take-in-From.ensures in
    let fits = h.serving.on.fits in
    let few = h.serving.on.few in
    took plan count first now next c.args.self.now _ c.args.book.now c.take.new.book h c.in-From.peer c.args.self.now.gram.items free
    (subst (λ (x : Heard). Listens now next x c.args.self.now.gram.items) c.in-From.is l) r (not_over c.args.self.now c.args.book.now c.requires)
    (subst (λ (o : List ℕ). Takes c.args.self.now.session.homes c.in-From.peer o c.args.book.now c.take.new.book) c.as_slice-bytes.ensures.value e.heard)
    (e.sound (omega (arith, fits, few))) (e.taken (omega (arith, fits, few)) h.serving.on.sound) e.book e.session e.switch refl refl

pub returns-in_err-take-in-From-clause-goes : goal.returns-in_err-take-in-From-clause-goes
returns-in_err-take-in-From-clause-goes c = λ plan count first now next free h l.
    let p = err_from_is_err_and c.from_residual.result c.from_residual.ensures.1 in
    goes_without plan count first _ next _ c.take.new.book c.from_residual.result (p.1 ∙ ap Err p.2)
    (frames_of plan count first now c.args.self.now c.args.book.now c.take.new.book h.serving (ap (λ (b : Book). b.frames) c.take.ensures.book) (ap (λ (b : Book). b.switch) c.take.ensures.book))

pub returns-in-Ended-clause-goes : goal.returns-in-Ended-clause-goes
returns-in-Ended-clause-goes c = λ plan count first now next free h l.
    over plan count first now next c.args.self.now _ c.args.book.now c.args.self.now.gram.items refl refl refl refl h (subst (λ (x : Heard). Listens now next x c.args.self.now.gram.items) c.in-Ended.is l)

pub returns-in-Quiet-clause-goes : goal.returns-in-Quiet-clause-goes
returns-in-Quiet-clause-goes c = λ plan count first now next free h l.
    quiet plan count first now next c.args.self.now c.args.book.now c.args.self.now.gram.items h (subst (λ (x : Heard). Listens now next x c.args.self.now.gram.items) c.in-Quiet.is l)
