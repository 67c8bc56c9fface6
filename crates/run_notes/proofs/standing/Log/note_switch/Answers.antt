use Rattle.std.proofs.Common.{◌≡◌, Bool, true, false, ◌+◌, ◌++◌, ◌∷◌, [], length, sym, ap, ◌∙◌}
use Rattle.std.proofs.lemmas.List.Elements.{All-head}
use Rattle.std.proofs.lemmas.Result.{on_ok_weaker}
use Rattle.run_notes.proofs.Switched.{IsAt, noted_more}
use Rattle.run_notes.proofs.Ways.{any_ok}
use Rattle.run_notes.proofs.Timings.{event_timed, may_come}
use Rattle.std.specs.Prelude.{if◌then◌else◌}
use Rattle.run_notes.specs.Notes.{received}
use Rattle.run_notes.proofs.standing.Log.note_switch.Goals as goal

-- one at no port is none of them
pub returns-then-not-is_at_port-clause-switch : goal.returns-then-not-is_at_port-clause-switch
returns-then-not-is_at_port-clause-switch c = λ before all h.
    let yes = c.is_at_port.ensures.each (All-head (IsAt (1 + length c.args.self.now.ports)) c.args.row.now [] all) in
    absurd (let bad : true ≡ false = sym yes ∙ c.if-not-is_at_port.true in cc)

pub returns-clause-switch : goal.returns-clause-switch
returns-clause-switch c =
    on_ok_weaker c.note_handed.result
    (λ handed. λ before all h. noted_more before c.args.moment.sent c.args.row.now c.args.book.now _
    (c.in_ok-add.ensures.ok ∙ ap (λ e. c.args.book.now.switch ++ e ∷ []) c.copy_of_event.ensures)
    c.in_ok-add-2.ensures.ok
    handed h)
    c.note_handed.ensures

pub returns-then-not-is_at_port-clause-time : goal.returns-then-not-is_at_port-clause-time
returns-then-not-is_at_port-clause-time c = λ t may h. h

pub returns-clause-time : goal.returns-clause-time
returns-clause-time c =
    let ports = c.args.self.now.ports in
    let event = c.args.row.now.event in
    any_ok c.note_handed.result
    (λ t may h. event_timed t ports c.args.book.now _ event c.args.moment.sent (c.in_ok-add.ensures.ok ∙ ap (λ e. c.args.book.now.switch ++ e ∷ []) c.copy_of_event.ensures) c.in_ok-add-2.ensures.ok c.args.self.now.notes h
    (may_come t ports c.args.moment.sent c.args.row.now may) c.receive.new.self.notes
    (λ k n is. let x = c.receive.ensures.from k n is in (x.0, x.1, x.2 ∙ ap (λ (b : Bool). if b then received x.0 else x.0) (sym (c.port_of.ensures ports k)))))
