use Rattle.std.proofs.Common.{◌∷◌, [], sym, ap, subst}
use Rattle.std.proofs.lemmas.Result.{on_ok_weaker}
use Rattle.run_notes.specs.Packets.{NotesBeside, rows_of}
use Rattle.run_notes.proofs.Packets.{no_rows}
use Rattle.run_notes.proofs.Stays.{making_same}
use Rattle.run_notes.proofs.standing.Log.note_begun_by.Goals as goal

pub returns-in-Began-clause-beside : goal.returns-in-Began-clause-beside
returns-in-Began-clause-beside c =
    on_ok_weaker c.note_begun_at.result (λ h. subst (λ z. NotesBeside c.args.frame (z ∷ []) c.args.self.now.notes c.note_begun_at.new.self.notes) (sym c.in-Began.is) h) c.note_begun_at.ensures.beside

pub returns-in-Answered-clause-beside : goal.returns-in-Answered-clause-beside
returns-in-Answered-clause-beside c = no_rows c.args.frame c.args.event.now c.args.self.now.notes (λ k. ap (λ z. rows_of c.args.frame k z) c.in-Answered.is)

pub returns-in-Answered-clause-free : goal.returns-in-Answered-clause-free
returns-in-Answered-clause-free c = λ k f. f

pub returns-in-Emergency-clause-beside : goal.returns-in-Emergency-clause-beside
returns-in-Emergency-clause-beside c = no_rows c.args.frame c.args.event.now c.args.self.now.notes (λ k. ap (λ z. rows_of c.args.frame k z) c.in-Emergency.is)

pub returns-in-Emergency-clause-free : goal.returns-in-Emergency-clause-free
returns-in-Emergency-clause-free c = λ k f. f

pub returns-in-GatewayReply-clause-beside : goal.returns-in-GatewayReply-clause-beside
returns-in-GatewayReply-clause-beside c = no_rows c.args.frame c.args.event.now c.args.self.now.notes (λ k. ap (λ z. rows_of c.args.frame k z) c.in-GatewayReply.is)

pub returns-in-GatewayReply-clause-free : goal.returns-in-GatewayReply-clause-free
returns-in-GatewayReply-clause-free c = λ k f. f

pub returns-in-GatewayDone-clause-beside : goal.returns-in-GatewayDone-clause-beside
returns-in-GatewayDone-clause-beside c = no_rows c.args.frame c.args.event.now c.args.self.now.notes (λ k. ap (λ z. rows_of c.args.frame k z) c.in-GatewayDone.is)

pub returns-in-GatewayDone-clause-free : goal.returns-in-GatewayDone-clause-free
returns-in-GatewayDone-clause-free c = λ k f. f

pub returns-in-GivenUp-clause-beside : goal.returns-in-GivenUp-clause-beside
returns-in-GivenUp-clause-beside c = no_rows c.args.frame c.args.event.now c.args.self.now.notes (λ k. ap (λ z. rows_of c.args.frame k z) c.in-GivenUp.is)

pub returns-in-GivenUp-clause-free : goal.returns-in-GivenUp-clause-free
returns-in-GivenUp-clause-free c = λ k f. f

pub returns-in-Cleared-clause-beside : goal.returns-in-Cleared-clause-beside
returns-in-Cleared-clause-beside c = no_rows c.args.frame c.args.event.now c.args.self.now.notes (λ k. ap (λ z. rows_of c.args.frame k z) c.in-Cleared.is)

pub returns-in-Cleared-clause-free : goal.returns-in-Cleared-clause-free
returns-in-Cleared-clause-free c = λ k f. f

pub returns-in-Opened-clause-beside : goal.returns-in-Opened-clause-beside
returns-in-Opened-clause-beside c = no_rows c.args.frame c.args.event.now c.args.self.now.notes (λ k. ap (λ z. rows_of c.args.frame k z) c.in-Opened.is)

pub returns-in-Opened-clause-free : goal.returns-in-Opened-clause-free
returns-in-Opened-clause-free c = λ k f. f

pub returns-in-Answered-clause-stays : goal.returns-in-Answered-clause-stays
returns-in-Answered-clause-stays c = making_same c.args.frame c.args.self.now.notes

pub returns-in-Emergency-clause-stays : goal.returns-in-Emergency-clause-stays
returns-in-Emergency-clause-stays c = making_same c.args.frame c.args.self.now.notes

pub returns-in-GatewayReply-clause-stays : goal.returns-in-GatewayReply-clause-stays
returns-in-GatewayReply-clause-stays c = making_same c.args.frame c.args.self.now.notes

pub returns-in-GatewayDone-clause-stays : goal.returns-in-GatewayDone-clause-stays
returns-in-GatewayDone-clause-stays c = making_same c.args.frame c.args.self.now.notes

pub returns-in-GivenUp-clause-stays : goal.returns-in-GivenUp-clause-stays
returns-in-GivenUp-clause-stays c = making_same c.args.frame c.args.self.now.notes

pub returns-in-Cleared-clause-stays : goal.returns-in-Cleared-clause-stays
returns-in-Cleared-clause-stays c = making_same c.args.frame c.args.self.now.notes

pub returns-in-Opened-clause-stays : goal.returns-in-Opened-clause-stays
returns-in-Opened-clause-stays c = making_same c.args.frame c.args.self.now.notes
