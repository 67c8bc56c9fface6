use Rattle.std.proofs.Common.{sym, ◌∙◌, subst}
use Rattle.std.proofs.lemmas.Result.{on_ok_weaker}
use Rattle.run_record.specs.of_run_book.declared.book.Book.{Book}
use Rattle.gateway_run.specs.Goes.{MaySend}
use Rattle.gateway_run.specs.declared.turn.Serving.{Serving}
use Rattle.gateway_run.proofs.Waits.{may_busy, may_full}
use Rattle.gateway_run.proofs.turn.Serving.hear.Goals.{then-can_hear+then-is_empty+in_ok-wait, then-settled, else-settled, else-can_hear, else-can_hear-via-then-can_hear+else-is_empty, else-can_hear-via-else-can_hear}
use Rattle.gateway_run.proofs.turn.Serving.hear.Goals as goal

pub returns-clause-may : goal.returns-clause-may
returns-clause-may g c =
    let before : MaySend c.if-can_hear.self c.if-can_hear.book = elim c.if-can_hear.branch [
      | then-can_hear+then-is_empty+in_ok-wait w ↦ subst (λ (v : Serving). MaySend v c.if-can_hear.book) (sym w.self-is) (subst (λ (b : Book). MaySend w.wait.new.self b) (sym w.book-is) w.in_ok-wait.ensures.may)
      | else-can_hear w ↦ subst (λ (v : Serving). MaySend v c.if-can_hear.book) (sym w.self-is) (subst (λ (b : Book). MaySend c.args.self.now b) (sym w.book-is) (elim w.else-can_hear.branch [
        | else-can_hear-via-then-can_hear+else-is_empty w' ↦ elim w'.if-settled.branch [
          | then-settled w'' ↦ (λ few yet none. absurd (let is = w''.value-is in let asked = w''.if-settled.true in let no = w'.if-is_empty.false in cc))
          | else-settled w'' ↦ may_busy c.args.self.now c.args.book.now w''.is_empty.result w''.is_empty.ensures (sym w''.value-is ∙ w'.if-is_empty.false)
        ]
        | else-can_hear-via-else-can_hear w' ↦ may_full c.args.self.now c.args.book.now (sym c.can_hear.ensures ∙ w'.if-can_hear.false)
      ]))
    ] in
    on_ok_weaker c.poll.result (λ keeps. keeps before) c.poll.ensures.may
