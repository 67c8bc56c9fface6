-- WHAT A SERVER OF COE gives has room, and leaves what its tables are.
use Rattle.std.proofs.Common.{◌≡◌, ℕ, suc, ◌+◌, ◌-◌, ◌≤◌, ◌==◌, ◌&&◌, ◌||◌, not, nat_le, nat_lt, Bool, true, false, List, [], ◌∷◌, ◌++◌, map, length, take, drop, Option, Some, None, Result, Ok, Err, refl, ap, sym, ◌∙◌, subst, leb-true}
use Rattle.std.specs.Prelude.{if◌then◌else◌, zero, ⊤}
use Rattle.slave_server.specs.of_protocol_models.CoeMails.{Coe, Emergency, Expedited, First, Upload, DownloadAnswer, ExpeditedAnswer, FirstAnswer, Segment, SegmentAnswer, UploadSegment, UploadSegmentAnswer, Abort, ListRequest, ObjectRequest, EntryRequest, Information, InformationError, CoeFault, Short, Service, Command, Size, CoeMail, mail, unread, failed, fragment, other}
use Rattle.slave_server.specs.of_protocol_models.Tables.{Target, nowhere, Ask, Tables, list, object, entry}
use Rattle.slave_server.specs.of_protocol_models.CoeServer.{Transfer, idle, downloading, uploading, Emission, emergency, packet, Outcome, emission_of, stored, takes_whole, begins, takes_first, takes_segment, is_expedited, opened, takes_upload_segment, parts_of, information_parts, answer_opcode, informed, takes_ask, unknown_command, takes_unread, coe_takes, coe_outcome, issued, abort, download_answer, same, ended, goes_on}
use Rattle.slave_server.specs.of_protocol_models.CoeOctets.{coe_mail_written}
use Rattle.slave_server.specs.of_coe_server.Serving.{IsShort}
use Rattle.slave_server.proofs.of_coe_server.Fits.{short_fits}
use Rattle.whole_ring.specs.of_slave_lives.Nodes.{IsPlaced}
use Rattle.slave_server.proofs.of_slave_model.Stations.{right_of}
use Rattle.plan_ring.specs.Rooms.{AllPlaced}
use Rattle.plan_ring.proofs.Rooms.{body_placed, error_placed, all_append, take_few}

module _ {S : Type 0} (o : Tables S) (Is : S → Type 0) (stays : (s changed : S) (t : Target) (bytes : List ℕ) → Is s → o.download s t bytes ≡ Ok changed → Is changed) (cuts : (s : S) (octets : List ℕ) → Is s → Is (o.packet s octets).0)
    (eight : (s changed : S) (eoe : Bool) (t : Target) (bytes octets : List ℕ) → Is s → o.download s t bytes ≡ Ok changed → emission_of eoe t bytes ≡ Some (emergency octets) → length octets ≡ 8)
    (back : ℕ) (least : 64 ≤ back) (most : back ≤ 1486) (parts : (s : S) (octets : List ℕ) → AllPlaced back (map (λ body. coe_mail_written (fragment body)) (o.packet s octets).1)) (eoe : Bool) where
  -- an emission is an emergency of eight octets, or a packet
  abbrev IsSent : Option Emission → Type 0
  IsSent None = ⊤
  IsSent (Some (emergency octets)) = length octets ≡ 8
  IsSent (Some (packet octets)) = ⊤

  record Good (x : Outcome S) : Type 0 where
    answers : AllPlaced back (map coe_mail_written x.answers)
    app : Is x.app
    sent : IsSent x.emission

  short_placed : (c : Coe) → IsShort back c → IsPlaced back (coe_mail_written (mail c))
  short_placed c short = body_placed back least most _ _ (short_fits back c least short)

  -- one answer
  over : (app : S) (transfer : Transfer) (m : CoeMail) → Is app → IsPlaced back (coe_mail_written m) → Good (ended app transfer m)
  over app transfer m is placed = record { answers = (placed, tt); app = is; sent = tt }

  on : (app : S) (transfer : Transfer) (m : CoeMail) → Is app → IsPlaced back (coe_mail_written m) → Good (goes_on app transfer m)
  on app transfer m is placed = record { answers = (placed, tt); app = is; sent = tt }

  aborts : (app : S) (t : Target) (code : ℕ) → Is app → Good (ended app idle (abort t code))
  aborts app t code is = over app idle (abort t code) is (short_placed (Abort t.index t.sub code) tt)

  -- what is emitted
  none_sent : (e : Option Emission) → ((octets : List ℕ) → e ≡ Some (emergency octets) → length octets ≡ 8) → IsSent e
  none_sent None few = tt
  none_sent (Some (emergency octets)) few = few octets refl
  none_sent (Some (packet octets)) few = tt

  whole : (app : S) (t : Target) (bytes : List ℕ) (answer : CoeMail) → Is app → IsPlaced back (coe_mail_written answer) → Good (takes_whole o eoe app t bytes answer)
  whole app t bytes answer is placed = go (o.download app t bytes) refl
    where
      go : (r : Result S ℕ) → o.download app t bytes ≡ r → Good (stored eoe app t bytes answer r)
      go (Ok changed) e = record { answers = (placed, tt); app = stays app changed t bytes is e; sent = none_sent (emission_of eoe t bytes) (λ octets emits. eight app changed eoe t bytes octets is e emits) }
      go (Err code) e = aborts app t code is

  first : (app : S) (t : Target) (size : ℕ) (part : List ℕ) → Is app → Good (takes_first o eoe app t size part)
  first app t size part is = go (size == length part)
    where
      begun : (r : Option ℕ) → Good (begins app t size part r)
      begun None = on app (downloading t size part false) (download_answer t) is (short_placed (DownloadAnswer t.index t.sub) tt)
      begun (Some code) = aborts app t code is

      go : (b : Bool) → Good (if b then takes_whole o eoe app t part (download_answer t) else begins app t size part (o.check app t size))
      go true = whole app t part (download_answer t) is (short_placed (DownloadAnswer t.index t.sub) tt)
      go false = begun (o.check app t size)

  segment : (app : S) (tr : Transfer) (toggle last : Bool) (part : List ℕ) → Is app → Good (takes_segment o eoe app tr toggle last part)
  segment app idle toggle last part is = aborts app nowhere _ is
  segment app (uploading t rest expected) toggle last part is = aborts app t _ is
  segment app (downloading t size got expected) toggle last part is = go (not (same expected toggle)) (nat_lt size (length (got ++ part))) last (nat_lt (length (got ++ part)) size)
    where
      go : (a b c d : Bool) → Good (if a then ended app idle (abort t 0x05030000) else if b then ended app idle (abort t 0x06070012)
          else if c then (if d then ended app idle (abort t 0x06070013) else takes_whole o eoe app t (got ++ part) (mail (SegmentAnswer toggle)))
          else goes_on app (downloading t size (got ++ part) (not expected)) (mail (SegmentAnswer toggle)))
      go true b c d = aborts app t _ is
      go false true c d = aborts app t _ is
      go false false true true = aborts app t _ is
      go false false true false = whole app t (got ++ part) (mail (SegmentAnswer toggle)) is (short_placed (SegmentAnswer toggle) tt)
      go false false false d = on app _ _ is (short_placed (SegmentAnswer toggle) tt)

  upload : (app : S) (t : Target) (r : Result (List ℕ) ℕ) → Is app → Good (opened back app t r)
  upload app t (Err code) is = aborts app t code is
  upload app t (Ok bytes) is = go (is_expedited bytes) refl (nat_le (length bytes) (back - 16)) refl
    where
      four : (b : Bool) → is_expedited bytes ≡ b → b ≡ true → length bytes ≤ 4
      four b e f = let both : (nat_le 1 (length bytes) && nat_le (length bytes) 4) ≡ true = e ∙ f in leb-true _ _ (right_of (nat_le 1 (length bytes)) _ both)

      go : (a : Bool) → is_expedited bytes ≡ a → (b : Bool) → nat_le (length bytes) (back - 16) ≡ b → Good (if a then ended app idle (mail (ExpeditedAnswer t.index t.sub (record { items = bytes })))
          else if b then ended app idle (mail (FirstAnswer t.index t.sub (length bytes) (record { items = bytes })))
          else ended app (uploading t (drop (back - 16) bytes) false) (mail (FirstAnswer t.index t.sub (length bytes) (record { items = take (back - 16) bytes }))))
      go true e b f = over app idle _ is (short_placed (ExpeditedAnswer t.index t.sub (record { items = bytes })) (four true e refl))
      go false e true f = over app idle _ is (short_placed (FirstAnswer t.index t.sub (length bytes) (record { items = bytes })) (leb-true _ _ f))
      go false e false f = over app _ _ is (short_placed (FirstAnswer t.index t.sub (length bytes) (record { items = take (back - 16) bytes })) (take_few (back - 16) bytes))

  upload_segment : (app : S) (tr : Transfer) (toggle : Bool) → Is app → Good (takes_upload_segment back app tr toggle)
  upload_segment app idle toggle is = aborts app nowhere _ is
  upload_segment app (downloading t size got expected) toggle is = aborts app t _ is
  upload_segment app (uploading t rest expected) toggle is = go (not (same expected toggle)) (nat_le (length rest) (back - 9)) refl
    where
      go : (a b : Bool) → nat_le (length rest) (back - 9) ≡ b → Good (if a then goes_on app idle (abort t 0x05030000)
          else if b then goes_on app idle (mail (UploadSegmentAnswer toggle true (record { items = rest })))
          else goes_on app (uploading t (drop (back - 9) rest) (not expected)) (mail (UploadSegmentAnswer toggle false (record { items = take (back - 9) rest }))))
      go true b e = on app idle _ is (short_placed (Abort t.index t.sub 0x05030000) tt)
      go false true e = on app idle _ is (short_placed (UploadSegmentAnswer toggle true (record { items = rest })) (leb-true _ _ e))
      go false false e = on app _ _ is (short_placed (UploadSegmentAnswer toggle false (record { items = take (back - 9) rest })) (take_few (back - 9) rest))

  -- an information answer in parts
  told_parts : (fuel opcode : ℕ) (bytes : List ℕ) → AllPlaced back (map coe_mail_written (information_parts fuel opcode (back - 12) bytes))
  told_parts zero opcode bytes = tt
  told_parts (suc fuel) opcode bytes = go (told_parts fuel opcode (drop (back - 12) bytes)) (nat_le (length bytes) (back - 12)) refl
    where
      go : AllPlaced back (map coe_mail_written (information_parts fuel opcode (back - 12) (drop (back - 12) bytes))) → (b : Bool) → nat_le (length bytes) (back - 12) ≡ b → AllPlaced back (map coe_mail_written (if b then mail (Information opcode false 0 (record { items = bytes })) ∷ []
          else mail (Information opcode true (parts_of (back - 12) (length bytes - (back - 12))) (record { items = take (back - 12) bytes })) ∷ information_parts fuel opcode (back - 12) (drop (back - 12) bytes)))
      go more true e = (short_placed (Information opcode false 0 (record { items = bytes })) (leb-true _ _ e), tt)
      go more false e = (short_placed (Information opcode true (parts_of (back - 12) (length bytes - (back - 12))) (record { items = take (back - 12) bytes })) (take_few (back - 12) bytes), more)

  asked : (app : S) (tr : Transfer) (a : Ask) → Is app → Good (takes_ask o back app tr a)
  asked app tr a is = go (o.info app a)
    where
      go : (r : Result (List ℕ) ℕ) → Good (informed back app tr a r)
      go (Err code) = over app tr _ is (short_placed (InformationError code) tt)
      go (Ok bytes) = record { answers = told_parts (suc (length bytes)) (answer_opcode a) bytes; app = is; sent = tt }

  unknown : (app : S) (tr : Transfer) (b : Bool) (index sub : ℕ) → Is app → Good (unknown_command app tr b index sub)
  unknown app tr true index sub is = over app tr _ is (short_placed (InformationError 0x05040001) tt)
  unknown app tr false index sub is = over app idle _ is (short_placed (Abort index sub 0x05040001) tt)

  fails : (app : S) (tr : Transfer) (detail : ℕ) → Is app → Good (ended app tr (failed detail))
  fails app tr detail is = over app tr (failed detail) is (error_placed back least most detail)

  faulty : (app : S) (tr : Transfer) (fault : CoeFault) (service index sub : ℕ) → Is app → Good (takes_unread app tr fault service index sub)
  faulty app tr Short service index sub is = fails app tr 6 is
  faulty app tr Service service index sub is = fails app tr 4 is
  faulty app tr Command service index sub is = go (service == 1 || service == 3)
    where
      go : (b : Bool) → Good (if b then ended app tr (failed 4) else unknown_command app tr (service == 8) index sub)
      go true = fails app tr 4 is
      go false = unknown app tr (service == 8) index sub is
  faulty app tr Size service index sub is = go (service == 1 || service == 3)
    where
      go : (b : Bool) → Good (if b then ended app tr (failed 4) else ended app tr (failed 8))
      go true = fails app tr 4 is
      go false = fails app tr 8 is

  takes : (app : S) (tr : Transfer) (c : Coe) → Is app → Good (coe_takes o eoe back app tr c)
  takes app tr (Expedited index sub all bytes) is = whole app _ bytes.items _ is (short_placed (DownloadAnswer index sub) tt)
  takes app tr (First index sub all size bytes) is = first app _ size bytes.items is
  takes app tr (Segment toggle last bytes) is = segment app tr toggle last bytes.items is
  takes app tr (Upload index sub all) is = upload app _ (o.upload app (record { index = index; sub = sub; all = all })) is
  takes app tr (UploadSegment toggle) is = upload_segment app tr toggle is
  takes app tr (Abort index sub code) is = record { answers = tt; app = is; sent = tt }
  takes app tr (ListRequest kind) is = asked app tr (list kind) is
  takes app tr (ObjectRequest index) is = asked app tr (object index) is
  takes app tr (EntryRequest index sub info) is = asked app tr (entry index sub info) is
  takes app tr (Information opcode incomplete left bytes) is = unknown app tr true 0 0 is
  takes app tr (InformationError code) is = unknown app tr true 0 0 is
  takes app tr (Emergency octets) is = fails app tr 4 is
  takes app tr (DownloadAnswer index sub) is = fails app tr 4 is
  takes app tr (ExpeditedAnswer index sub bytes) is = fails app tr 4 is
  takes app tr (FirstAnswer index sub size bytes) is = fails app tr 4 is
  takes app tr (SegmentAnswer toggle) is = fails app tr 4 is
  takes app tr (UploadSegmentAnswer toggle last bytes) is = fails app tr 4 is

  outcome : (app : S) (tr : Transfer) (m : CoeMail) → Is app → Good (coe_outcome o eoe back app tr m)
  outcome app tr (mail c) is = takes app tr c is
  outcome app tr (unread fault service index sub) is = faulty app tr fault service index sub is
  outcome app tr (failed detail) is = record { answers = tt; app = is; sent = tt }
  outcome app tr (fragment body) is = record { answers = tt; app = is; sent = tt }
  outcome app tr (other body) is = record { answers = tt; app = is; sent = tt }

  -- WITH WHAT IS EMITTED
  pub record Given (app : S) (mails : List CoeMail) : Type 0 where
    pub is : Is app
    pub placed : AllPlaced back (map coe_mail_written mails)

  map_append : (xs ys : List CoeMail) → map coe_mail_written (xs ++ ys) ≡ map coe_mail_written xs ++ map coe_mail_written ys
  map_append [] ys = refl
  map_append (x ∷ xs) ys = ap (λ l. coe_mail_written x ∷ l) (map_append xs ys)

  map_twice : (bodies : List (List ℕ)) → map coe_mail_written (map fragment bodies) ≡ map (λ body. coe_mail_written (fragment body)) bodies
  map_twice [] = refl
  map_twice (b ∷ bs) = ap (λ l. coe_mail_written (fragment b) ∷ l) (map_twice bs)

  issues : (app : S) (e : Option Emission) → Is app → IsSent e → Given (issued o app e).0 (issued o app e).1
  issues app None is sent = record { is = is; placed = tt }
  issues app (Some (emergency octets)) is sent = record { is = is; placed = (short_placed (Emergency (record { items = octets })) sent, tt) }
  issues app (Some (packet octets)) is sent = record { is = cuts app octets is; placed = subst (λ l. AllPlaced back l) (sym (map_twice (o.packet app octets).1)) (parts app octets) }

  pub serves : (app : S) (tr : Transfer) (m : CoeMail) → Is app → (let x = coe_outcome o eoe back app tr m in Given (issued o x.app x.emission).0 (x.answers ++ (issued o x.app x.emission).1))
  serves app tr m is =
      let x = coe_outcome o eoe back app tr m in
      let g = outcome app tr m is in
      let i = issues x.app x.emission g.app g.sent in
      record { is = i.is; placed = subst (λ l. AllPlaced back l) (sym (map_append x.answers (issued o x.app x.emission).1)) (all_append back least most (map coe_mail_written x.answers) (map coe_mail_written (issued o x.app x.emission).1) g.answers i.placed) }
