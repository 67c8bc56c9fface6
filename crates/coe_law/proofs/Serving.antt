-- What a server's calls do is what the model's server does.
use Rattle.std.proofs.Common.{◌≡◌, ℕ, Bool, List, [], ◌∷◌, ◌++◌, refl, sym, ap, ◌∙◌, append-nil}
use Rattle.coe_client.specs.of_object_dictionary.Dictionary.{Table}
use Rattle.coe_client.specs.of_protocol_models.CoeMails.{CoeMail, mail, unread, failed, fragment, other, Emergency, Expedited, First, Upload, DownloadAnswer, ExpeditedAnswer, FirstAnswer, Segment, SegmentAnswer, UploadSegment, UploadSegmentAnswer, Abort, ListRequest, ObjectRequest, EntryRequest, Information, InformationError}
use Rattle.coe_client.specs.of_protocol_models.CoeServer.{Transfer, idle, downloading, uploading, Outcome, coe_outcome, Server, serve, behind, issued}
use Rattle.coe_server.specs.declared.state.Emitted.{Emitted}
use Rattle.coe_server.specs.ObjectTables.{object_tables}
use Rattle.coe_server.specs.Serving.{Serving, transfer_of, answers_of, waiting_mails, emergencies, emission_view, outcome_of}
use Rattle.coe_law.specs.Talks.{tables, packet_by, packet_mails}

-- how packets are cut matters to none of the server's outcomes
same_outcome : (al : ℕ) (eoe : Bool) (room : ℕ) (app : Table) (transfer : Transfer) (m : CoeMail) → coe_outcome (tables al) eoe room app transfer m ≡ coe_outcome (object_tables al) eoe room app transfer m
same_outcome al eoe room app transfer (mail (Emergency octets)) = refl
same_outcome al eoe room app transfer (mail (Expedited index sub all bytes)) = refl
same_outcome al eoe room app transfer (mail (First index sub all size bytes)) = refl
same_outcome al eoe room app transfer (mail (Upload index sub all)) = refl
same_outcome al eoe room app transfer (mail (DownloadAnswer index sub)) = refl
same_outcome al eoe room app transfer (mail (ExpeditedAnswer index sub bytes)) = refl
same_outcome al eoe room app transfer (mail (FirstAnswer index sub size bytes)) = refl
same_outcome al eoe room app idle (mail (Segment toggle last bytes)) = refl
same_outcome al eoe room app (downloading t size got expected) (mail (Segment toggle last bytes)) = refl
same_outcome al eoe room app (uploading t rest expected) (mail (Segment toggle last bytes)) = refl
same_outcome al eoe room app transfer (mail (SegmentAnswer toggle)) = refl
same_outcome al eoe room app transfer (mail (UploadSegment toggle)) = refl
same_outcome al eoe room app transfer (mail (UploadSegmentAnswer toggle last bytes)) = refl
same_outcome al eoe room app transfer (mail (Abort index sub code)) = refl
same_outcome al eoe room app transfer (mail (ListRequest kind)) = refl
same_outcome al eoe room app transfer (mail (ObjectRequest index)) = refl
same_outcome al eoe room app transfer (mail (EntryRequest index sub info)) = refl
same_outcome al eoe room app transfer (mail (Information opcode incomplete left bytes)) = refl
same_outcome al eoe room app transfer (mail (InformationError code)) = refl
same_outcome al eoe room app transfer (unread fault service index sub) = refl
same_outcome al eoe room app transfer (failed detail) = refl
same_outcome al eoe room app transfer (fragment body) = refl
same_outcome al eoe room app transfer (other body) = refl

-- one mail served by the model, by what the call did
pub record Served (al : ℕ) (eoe : Bool) (room : ℕ) (w : Server Table) (m : CoeMail) (objects : Table) (server : Serving) : Type 0 where
  pub app : (serve (tables al) eoe room w m).0.app ≡ objects
  pub transfer : (serve (tables al) eoe room w m).0.transfer ≡ transfer_of server
  pub gives : (serve (tables al) eoe room w m).1 ≡ waiting_mails server ++ packet_mails server

issued_app : (al : ℕ) (objects : Table) (e : Emitted) (octets : List ℕ) → (issued (tables al) objects (emission_view e octets)).0 ≡ objects
issued_app al objects Emitted.Nothing octets = refl
issued_app al objects Emitted.Emergency octets = refl
issued_app al objects Emitted.Packet octets = refl

issued_mails : (al : ℕ) (objects : Table) (answers : List CoeMail) (e : Emitted) (octets : List ℕ) → answers ++ (issued (tables al) objects (emission_view e octets)).1 ≡ (answers ++ emergencies e octets) ++ packet_by e octets
issued_mails al objects answers Emitted.Nothing octets = sym (append-nil (answers ++ []))
issued_mails al objects answers Emitted.Emergency octets = sym (append-nil (answers ++ mail (Emergency (record { items = octets })) ∷ []))
issued_mails al objects answers Emitted.Packet octets = ap (λ l. l ++ fragment octets ∷ []) (sym (append-nil answers))

pub served : (al : ℕ) (eoe : Bool) (room : ℕ) (w : Server Table) (m : CoeMail) (before objects : Table) (old server : Serving) (counts : Bool) → w.app ≡ before → w.transfer ≡ transfer_of old →
    coe_outcome (object_tables al) eoe room before (transfer_of old) m ≡ outcome_of objects server counts → Served al eoe room w m objects server
served al eoe room w m before objects old server counts app transfer does =
    let is : coe_outcome (tables al) eoe room w.app w.transfer m ≡ outcome_of objects server counts =
    ap (λ a. coe_outcome (tables al) eoe room a w.transfer m) app ∙ ap (λ t. coe_outcome (tables al) eoe room before t m) transfer ∙ same_outcome al eoe room before (transfer_of old) m ∙ does in
    record {
      app = ap (λ (x : Outcome Table). (behind (tables al) w.handled x).0.app) is ∙ issued_app al objects server.emitted server.octets;
      transfer = ap (λ (x : Outcome Table). (behind (tables al) w.handled x).0.transfer) is;
      gives = ap (λ (x : Outcome Table). (behind (tables al) w.handled x).1) is ∙ issued_mails al objects (answers_of server) server.emitted server.octets;
    }
