-- WHATEVER MAIL A SLAVE TAKES, what it sends of itself are the fragments of one packet at most, and it may send packets behind it.
use Rattle.std.proofs.Common.{◌≡◌, ℕ, ◌+◌, ◌%◌, ◌≤◌, ◌==◌, ◌&&◌, nat_le, Bool, true, false, List, [], ◌∷◌, ◌++◌, map, length, Option, Some, None, Result, Ok, Err, refl, sym, ◌∙◌, subst, arith, eqb-true, if◌then◌else◌}
use Rattle.std.specs.Prelude.{⊤, slice_index, sum_by}
use Rattle.packets_heard.specs.of_protocol_models.CoeMails as Coe
use Rattle.packets_heard.specs.of_protocol_models.CoeOctets as CoeOctets
use Rattle.packets_heard.specs.of_protocol_models.CoeServer.{Transfer, idle, downloading, uploading, coe_outcome, emission_of, issued, packet}
use Rattle.packets_heard.specs.of_protocol_models.Tables.{Target}
use Rattle.packets_heard.specs.of_eoe.declared.joining.Joined.{Joined}
use Rattle.packets_heard.specs.of_eoe.declared.joining.Joined.TheVariants.{More, Whole as WholePacket, Dropped}
use Rattle.packets_heard.specs.of_eoe.declared.joining.Unfinished.{Unfinished}
use Rattle.packets_heard.specs.of_eoe.Joining.{taken}
use Rattle.packets_heard.specs.of_eoe.Message.{eoe_text}
use Rattle.packets_heard.specs.of_eoe.declared.message.Fragment.{Fragment}
use Rattle.packets_heard.specs.of_protocol_models.Echo.{echo_of}
use Rattle.packets_heard.specs.of_protocol_models.EoeMails as Eoe
use Rattle.packets_heard.specs.of_protocol_models.Network.{Station}
use Rattle.packets_heard.specs.of_protocol_models.EoeOctets as EoeOctets
use Rattle.packets_heard.specs.of_protocol_models.EoeServer.{eoe_outcome, eoe_takes, joined, set_answer, takes_unread, addressed}
use Rattle.packets_heard.specs.of_exchange_model.Refusing.{gated}
use Rattle.packets_heard.specs.of_protocol_models.FoeMails as Foe
use Rattle.packets_heard.specs.of_protocol_models.FoeModel.{foe_exchange}
use Rattle.packets_heard.specs.of_protocol_models.FoeOctets as FoeOctets
use Rattle.packets_heard.specs.of_link_mails.Body.{Body}
use Rattle.served_rings.specs.of_mailbox_mail.Bodies.{mail_with}
use Rattle.served_rings.specs.of_mailbox_mail.declared.mail.Kind.{Kind}
use Rattle.served_rings.specs.of_mailbox_mail.declared.mail.MailFault.TheVariants.{Short, LengthPastArea, UnknownKind}
use Rattle.packets_heard.specs.of_master_hand.Joins.{fragment_in}
use Rattle.packets_heard.specs.of_object_dictionary.Dictionary.{Table}
use Rattle.packets_heard.specs.Packets.{as_part, parts}
use Rattle.run_promises.specs.Sends.{MaySend, Sends, of_emission}
use Rattle.run_promises.proofs.Cuts.{sends_both, sends_none}
use Rattle.run_promises.proofs.Emits.{echo_fits, issued_emits, sent_emits}
use Rattle.run_promises.proofs.FoeKept as FoeKept
use Rattle.run_promises.proofs.Outcomes.{OfMail, OfMessage, OfTransfer, outcome, written}
use Rattle.run_promises.proofs.Owns.{own_fragment}
use Rattle.run_promises.proofs.Passed.{foe_none, map_append, refuses_none, soe_none}
use Rattle.run_promises.proofs.Stays.{emitted_sized, issued_stays, stored_table}
use Rattle.served_rings.specs.of_slave_model.Application.{network, station_elements, station_files, station_tables, stored, with_objects}
use Rattle.served_rings.specs.of_slave_model.Product.{protocol_of, refusal, serve, serve_by, served, side}
use Rattle.served_rings.specs.of_slave_model.Profile.{IsProfile, Profile, Protocol, areas_of, serves}
use Rattle.served_rings.specs.of_slave_model.Server.{heard_by, refused_counts, refused_gives, reseated, seat, told_by}
use Rattle.served_rings.specs.of_slave_parts.Parts.{Core, Server, parts as real_parts}
use Rattle.packets_heard.proofs.of_slave_parts.EoeKeeping as EoeKeeping
use Rattle.packets_heard.proofs.of_slave_parts.SoeKeeping as SoeKeeping
use Rattle.packets_heard.specs.of_protocol_models.SoeMails as Soe
use Rattle.packets_heard.specs.of_protocol_models.SoeModel.{soe_exchange}
use Rattle.packets_heard.specs.of_protocol_models.SoeOctets as SoeOctets

-- a packet of the length that it has to have
abbrev Fits : List ℕ → Type 0
Fits octets = (14 ≤ length octets) × (length octets ≤ 1514)

-- a download to any entry
abbrev Any : Target → Type 0
Any t = ⊤

any_transfer : (transfer : Transfer) → OfTransfer Any transfer
any_transfer idle = tt
any_transfer (downloading t size got toggle) = tt
any_transfer (uploading t rest toggle) = tt

any_message : (c : Coe.Coe) → OfMessage Any c
any_message (Coe.Expedited index sub all bytes) = tt
any_message (Coe.First index sub all size bytes) = tt
any_message c = tt

any_mail : (m : Coe.CoeMail) → OfMail Any m
any_mail (Coe.mail c) = any_message c
any_mail m = tt

-- a mail of EoE of another type is no fragment
silent_word : (body : List ℕ) → (slice_index body 0 % 16 == 0) ≡ false → parts fragment_in (Ok (mail_with Kind.EoE body) ∷ []) ≡ []
silent_word body other = go (fragment_in m) refl
  where
    m : Body
    m = Ok (mail_with Kind.EoE body)

    by : (a b : Bool) → b ≡ false → Coe.is_emission (if a && b then Coe.fragment body else Coe.other body) ≡ false
    by a true e = absurd (cc)
    by true false e = refl
    by false false e = refl

    go : (o : Option Fragment) → fragment_in m ≡ o → as_part o ++ [] ≡ []
    go None e = refl
    go (Some f) e = absurd (let no : true ≡ false = sym (own_fragment m f e) ∙ by (nat_le 4 (length body)) (slice_index body 0 % 16 == 0) other in cc)

abbrev unsupported_body : ℕ → List ℕ
unsupported_body kind = (EoeOctets.eoe_mail_written (Eoe.unsupported (kind + 1))).body.items

odd_type : (kind : ℕ) → kind % 2 ≡ 0 → (slice_index (unsupported_body kind) 0 % 16 == 0) ≡ false
odd_type kind even = go (slice_index (unsupported_body kind) 0 % 16 == 0) refl
  where
    go : (b : Bool) → (slice_index (unsupported_body kind) 0 % 16 == 0) ≡ b → (slice_index (unsupported_body kind) 0 % 16 == 0) ≡ false
    go true e = absurd (let zero_is = eqb-true (slice_index (unsupported_body kind) 0 % 16) 0 e in omega arith)
    go false e = e

-- what weighs nothing
abbrev pub no_weight : List ℕ → ℕ
no_weight octets = 0

-- a download that was stored, stored other objects
stored_ok : (s changed : Station Core) (r : Result Table ℕ) → stored s r ≡ Ok changed → (objects : Table) × (r ≡ Ok objects) × (with_objects s objects ≡ changed)
stored_ok s changed (Ok objects) done = (objects, refl, (let same : with_objects s objects ≡ changed = cc in same))
stored_ok s changed (Err code) done = absurd (cc)

-- MAILS THAT ARE, but for emergencies, the fragments of packets
abbrev pub SendsSome : ℕ → List Body → Type 0
SendsSome room mails = (most : ℕ) × Sends no_weight room mails most

pub sends_nothing : (room : ℕ) (mails : List Body) → parts fragment_in mails ≡ [] → SendsSome room mails
sends_nothing room mails e = (0, sends_none no_weight room mails 0 e)

module _ (p : Profile) (is : IsProfile p) (al : ℕ) where
  nothing : (mails : List Body) → parts fragment_in mails ≡ [] → SendsSome p.back mails
  nothing mails e = sends_nothing p.back mails e

  -- what a mail makes of a slave: what it sends, and the station that it leaves
  abbrev pub LeavesSo : Station Core → List Body → Type 0
  LeavesSo s mails = SendsSome p.back mails × MaySend s

  -- ---- CoE
  coe_leaves : (j : Server) (b : Body) → MaySend j.app → (let g = (served real_parts p al Protocol.CoE).serve (seat Protocol.CoE j) b in LeavesSo g.0.app g.1)
  coe_leaves j b may =
      let o = station_tables real_parts p.back al in
      let m = heard_by CoeOctets.coe_mail_heard (Coe.other []) b in
      let x = coe_outcome o p.has_eoe p.back j.app j.sdo m in
      let q = outcome MaySend Fits Any o p.has_eoe p.back j.app may (λ t bytes changed free done. store t bytes changed done) j.sdo m (any_transfer j.sdo) (any_mail m) in
      let made = (issued o x.app x.emission).1 in
      let emits = issued_emits no_weight p is al x.app x.emission q.sound.frame q.fits in
      let both = sends_both no_weight p.back (map written x.answers) (map written made) 0 (sum_by no_weight (of_emission x.emission)) (sends_none no_weight p.back (map written x.answers) 0 q.none) emits in
      ((0 + sum_by no_weight (of_emission x.emission), subst (λ ms. Sends no_weight p.back ms (0 + sum_by no_weight (of_emission x.emission))) (sym (map_append written x.answers made)) both), issued_stays p.back al x.app x.emission q.sound)
    where
      store : (t : Target) (bytes : List ℕ) (changed : Station Core) → (station_tables real_parts p.back al).download j.app t bytes ≡ Ok changed →
          ((octets : List ℕ) → emission_of p.has_eoe t bytes ≡ Some (packet octets) → Fits octets) × MaySend changed
      store t bytes changed done =
          let k = stored_ok j.app changed _ done in (
            λ octets e. emitted_sized al j.app.app.objects k.0 t bytes octets p.has_eoe may.table k.1 e,
            subst MaySend k.2 (record { table = stored_table al j.app.app.objects k.0 t bytes may.table k.1; frame = may.frame }),
          )

  -- ---- FoE
  foe_leaves : (j : Server) (b : Body) → MaySend j.app → (let g = (served real_parts p al Protocol.FoE).serve (seat Protocol.FoE j) b in LeavesSo g.0.app g.1)
  foe_leaves j b may =
      let m = heard_by FoeOctets.foe_mail_heard (Foe.other []) b in
      let g = (foe_exchange (station_files real_parts al) (areas_of p)).serve (seat Protocol.FoE j) m in (
        nothing (map (told_by FoeOctets.foe_mail_written) g.1) (foe_none g.1),
        FoeKept.keeps (station_files real_parts al) p.out p.back MaySend (λ s name bytes k. record { table = k.table; frame = k.frame }) (seat Protocol.FoE j) m may,
      )

  -- ---- SoE
  soe_leaves : (j : Server) (b : Body) → MaySend j.app → (let g = (served real_parts p al Protocol.SoE).serve (seat Protocol.SoE j) b in LeavesSo g.0.app g.1)
  soe_leaves j b may =
      let m = heard_by SoeOctets.soe_mail_heard (Soe.other []) b in
      let g = (soe_exchange (station_elements real_parts) (areas_of p)).serve (seat Protocol.SoE j) m in (
        nothing (map (told_by SoeOctets.soe_mail_written) g.1) (soe_none g.1),
        SoeKeeping.keeps (station_elements real_parts) p.back MaySend (λ s changed t bytes k done. by s changed (real_parts.elements.write s.app.idns t bytes) k done) (seat Protocol.SoE j) m may,
      )
    where
      by : (s changed : Station Core) (r : Result _ ℕ) → MaySend s → Rattle.served_rings.specs.of_slave_model.Application.written s r ≡ Ok changed → MaySend changed
      by s changed (Ok idns) k done =
          let same : record s { app = record s.app { idns = idns } } ≡ changed = cc in
          subst MaySend same (record { table = k.table; frame = k.frame })
      by s changed (Err code) k done = absurd (cc)

  -- ---- EoE
  abbrev told : Eoe.EoeMail → Body
  told m = told_by EoeOctets.eoe_mail_written m

  sends_stay : (s : Station Core) (sent : Option (List ℕ)) → MaySend s → MaySend (Rattle.packets_heard.specs.of_protocol_models.EoeServer.sends p.back s.frame (s.app, sent)).0
  sends_stay s None may = record { table = may.table; frame = may.frame }
  sends_stay s (Some octets) may = record { table = may.table; frame = omega arith }

  set_stays : (s : Station Core) (app : _) (block : List ℕ) (fixed : Bool) → MaySend s → (if fixed then None else Some (record s.app { block = block })) ≡ Some app → MaySend (record s { app = app })
  set_stays s app block true k e = absurd (cc)
  set_stays s app block false k e = (let same : record s.app { block = block } ≡ app = cc in subst (λ c. MaySend (record s { app = c })) same (record { table = k.table; frame = k.frame }))

  joined_sends : (s : Station Core) (last : Bool) (unfinished : Option Unfinished) (j : Joined) → MaySend s → SendsSome p.back (map told (joined (network real_parts p) p.back s last unfinished j).gives)
  joined_sends s last unfinished More may = nothing [] refl
  joined_sends s last unfinished Dropped may = nothing [] refl
  joined_sends s last unfinished (WholePacket came) may = (_, sent_emits no_weight p is s (echo_of p.mac came.items) may.frame (λ echo e. echo_fits no_weight p is came.items echo e))

  set_sends : (s : Station Core) (unfinished : Option Unfinished) (r : Option _) → SendsSome p.back (map told (set_answer s unfinished r).gives)
  set_sends s unfinished (Some app) = nothing _ refl
  set_sends s unfinished None = nothing _ refl

  takes_sends : (s : Station Core) (unfinished : Option Unfinished) (e : Eoe.Eoe) → MaySend s → SendsSome p.back (map told (eoe_takes (network real_parts p) p.back s unfinished e).gives)
  takes_sends s unfinished (Eoe.Part f) may = joined_sends s f.last (taken unfinished f).unfinished (taken unfinished f).joined may
  takes_sends s unfinished (Eoe.SetIp block) may = set_sends s unfinished (addressed (network real_parts p) p.back s.app block.items)
  takes_sends s unfinished Eoe.GetIp may = nothing _ (silent_word (eoe_text (Eoe.GetIpAnswer 0 (record { items = s.app.block }))) refl)
  takes_sends s unfinished (Eoe.SetIpAnswer result_code) may = nothing [] refl
  takes_sends s unfinished (Eoe.GetIpAnswer result_code block) may = nothing [] refl

  unread_sends : (s : Station Core) (unfinished : Option Unfinished) (fault : Eoe.EoeFault) (kind : ℕ) → SendsSome p.back (map told (takes_unread s unfinished fault kind).gives)
  unread_sends s unfinished Eoe.Short kind = nothing _ refl
  unread_sends s unfinished Eoe.Offset kind = nothing [] refl
  unread_sends s unfinished Eoe.WrongType kind = by (kind % 2 == 0) refl
    where
      by : (b : Bool) → (kind % 2 == 0) ≡ b → SendsSome p.back (map told (if b then Eoe.unsupported (kind + 1) ∷ [] else []))
      by true even = nothing _ (silent_word (unsupported_body kind) (odd_type kind (eqb-true (kind % 2) 0 even)))
      by false odd = nothing [] refl

  eoe_sends : (s : Station Core) (unfinished : Option Unfinished) (m : Eoe.EoeMail) → MaySend s → SendsSome p.back (map told (eoe_outcome (network real_parts p) p.back s unfinished m).gives)
  eoe_sends s unfinished (Eoe.mail e) may = takes_sends s unfinished e may
  eoe_sends s unfinished (Eoe.unread fault kind) may = unread_sends s unfinished fault kind
  eoe_sends s unfinished (Eoe.unsupported kind) may = nothing [] refl
  eoe_sends s unfinished (Eoe.failed detail) may = nothing [] refl
  eoe_sends s unfinished (Eoe.other body) may = nothing [] refl

  eoe_leaves : (j : Server) (b : Body) → MaySend j.app → (let g = (served real_parts p al Protocol.EoE).serve (seat Protocol.EoE j) b in LeavesSo g.0.station g.1)
  eoe_leaves j b may =
      let m = heard_by EoeOctets.eoe_mail_heard (Eoe.other []) b in (
        eoe_sends j.app j.packet m may,
        EoeKeeping.keeps (network real_parts p) p.back MaySend (λ s octets k. sends_stay s (echo_of p.mac octets) k) (λ s app block k e. set_stays s app block p.fixed_ip k e) (seat Protocol.EoE j) m may,
      )

  -- ---- THE SLAVE
  -- a protocol, where it is served
  each_leaves : (i : Protocol) (j : Server) (b : Body) → MaySend j.app → (let g = (served real_parts p al i).serve (seat i j) b in LeavesSo (reseated i j g.0).app g.1)
  each_leaves Protocol.CoE j b may = coe_leaves j b may
  each_leaves Protocol.FoE j b may = foe_leaves j b may
  each_leaves Protocol.SoE j b may = soe_leaves j b may
  each_leaves Protocol.EoE j b may = eoe_leaves j b may

  -- one that isn't counts alone
  counted_may : (i : Protocol) (j : Server) (b : Bool) → MaySend j.app → MaySend (reseated i j (if b then (refusal real_parts p al i).counted (seat i j) else seat i j)).app
  counted_may Protocol.CoE j true may = may
  counted_may Protocol.CoE j false may = may
  counted_may Protocol.FoE j true may = may
  counted_may Protocol.FoE j false may = may
  counted_may Protocol.SoE j true may = may
  counted_may Protocol.SoE j false may = may
  counted_may Protocol.EoE j true may = may
  counted_may Protocol.EoE j false may = may

  side_leaves : (i : Protocol) (j : Server) (b : Body) → MaySend j.app → (let g = (side real_parts p al i).serve (seat i j) b in LeavesSo (reseated i j g.0).app g.1)
  side_leaves i j b may = by (serves p al i)
    where
      by : (on : Bool) → (let g = (gated on (served real_parts p al i) (refusal real_parts p al i)).serve (seat i j) b in LeavesSo (reseated i j g.0).app g.1)
      by true = each_leaves i j b may
      by false = (nothing (refused_gives i b) (refuses_none p al i b), counted_may i j (refused_counts i b) may)

  by_leaves : (j : Server) (b : Body) (kind : Kind) → MaySend j.app → (let g = serve_by real_parts p al j b kind (protocol_of kind) in LeavesSo g.0.app g.1)
  by_leaves j b Kind.CoE may = side_leaves Protocol.CoE j b may
  by_leaves j b Kind.FoE may = side_leaves Protocol.FoE j b may
  by_leaves j b Kind.SoE may = side_leaves Protocol.SoE j b may
  by_leaves j b Kind.EoE may = side_leaves Protocol.EoE j b may
  by_leaves j b Kind.Error may = (nothing [] refl, may)
  by_leaves j b Kind.AoE may = (nothing _ refl, may)
  by_leaves j b Kind.VoE may = (nothing _ refl, may)

  -- BY ANY MAIL
  pub serve_leaves : (j : Server) (b : Body) → MaySend j.app → (let g = serve real_parts p al j b in LeavesSo g.0.app g.1)
  serve_leaves j (Ok m) may = by_leaves j (Ok m) m.kind may
  serve_leaves j (Err UnknownKind) may = (nothing _ refl, may)
  serve_leaves j (Err Short) may = (nothing _ refl, may)
  serve_leaves j (Err LengthPastArea) may = (nothing _ refl, may)
