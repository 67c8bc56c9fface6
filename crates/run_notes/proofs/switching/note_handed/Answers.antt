use Rattle.std.proofs.Common.{Bool, [], ◌++◌, sym, ap, ◌∙◌, append-nil}
use Rattle.std.specs.Prelude.{if◌then◌else◌}
use Rattle.run_book.specs.of_master_node.Happened.{packet_of}
use Rattle.run_notes.specs.Switched.{octets_of}
use Rattle.run_notes.proofs.switching.note_handed.Goals as goal

pub returns-then-not-row : goal.returns-then-not-row
returns-then-not-row c =
    let host = c.args.host.now in
    sym (ap (λ (b : Bool). host ++ octets_of (if b then packet_of c.args.row.now.event else [])) c.if-not-row.true ∙ append-nil host)
