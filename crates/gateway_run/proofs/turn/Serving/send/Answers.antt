use Rattle.std.proofs.Common.{◌≡◌, List, length, refl, sym, ap, ◌∙◌}
use Rattle.std.specs.Prelude.{Err}
use Rattle.std.proofs.lemmas.Result.{err_from_is_err_and}
use Rattle.run_record.specs.of_run_book.declared.book.Book.{Book}
use Rattle.run_record.specs.of_run_book.declared.book.GramIn.{GramIn}
use Rattle.gateway_run.proofs.Turns.{handed, all_handed, goes_so, same_desk, left_of}
use Rattle.gateway_run.proofs.turn.Serving.send.Goals as goal

pub loop-reply-preserved : goal.loop-reply-preserved
loop-reply-preserved g c = record {
  goes = λ plan count first h. handed plan count first _ _ c.loop-reply.self _ c.loop-reply.book c.send_one.new.book c.in-Some.reply (c.loop-reply.invariant.goes plan count first h) refl refl refl c.in-Some.ensures.first c.next_out.ensures.gateway c.next_out.ensures.requests c.in_ok-send_one.ensures;
  same =
      ap (λ (l : List GramIn). left_of c.loop-reply.self.session (length l) c.loop-reply.self.count c.loop-reply.self.over) (ap (λ (b : Book). b.grams) c.in_ok-send_one.ensures.puts)
      ∙ c.loop-reply.invariant.same;
  session = c.loop-reply.invariant.session;
}

pub returns-in_err-send_one-clause-goes : goal.returns-in_err-send_one-clause-goes
returns-in_err-send_one-clause-goes g c = λ plan count first h.
    let p = err_from_is_err_and c.from_residual.result c.from_residual.ensures.1 in
    let e = p.1 in
    let e2 = p.2 in
    let same : c.from_residual.result ≡ Err c.in_err-send_one.field-0.0 = cc in
    goes_so plan count first _ _ _ _ c.send_one.new.book c.in_err-send_one.field-0.0 c.send_one.result c.from_residual.result c.in_err-send_one.was same
    (all_handed plan count first _ _ c.loop-reply.self _ c.loop-reply.book c.send_one.new.book c.in-Some.reply (c.loop-reply.invariant.goes plan count first h) refl refl refl c.in-Some.ensures.first c.next_out.ensures.gateway c.next_out.ensures.requests c.send_one.result c.send_one.ensures)

pub returns-clause-goes : goal.returns-clause-goes
returns-clause-goes g c = λ plan count first h.
    same_desk plan count first _ c.loop-reply.self _ c.loop-reply.book (c.loop-reply.invariant.goes plan count first h) refl refl refl (sym c.in_default.ensures.first) c.next_out.ensures.gateway c.next_out.ensures.requests
