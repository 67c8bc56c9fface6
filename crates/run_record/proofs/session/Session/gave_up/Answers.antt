use Rattle.std.proofs.Common.{◌∙◌, ap}
use Rattle.std.specs.List.{list_any}
use Rattle.run_notes.specs.Notes.{has_given_up}
use Rattle.run_record.specs.Session.{SessionState, session_rows, some_given_up}
use Rattle.run_record.proofs.Rows.{given_up_in_notes}
use Rattle.run_record.proofs.session.Session.gave_up.Goals as goal

pub returns : goal.returns
returns c =
    c.some_given_up.ensures ∙ ap (list_any has_given_up) c.as_slice.ensures
    ∙ given_up_in_notes c.self.inside.log.recover c.self.inside.ring.nodes c.self.inside.log.notes c.self.invariant.3
    ∙ ap (λ (s : SessionState). some_given_up (session_rows s)) c.self.view_is
