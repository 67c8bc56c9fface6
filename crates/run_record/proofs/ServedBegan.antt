-- WHAT CAME INTO HAND BESIDE THE SCRIPTS over a serving, as its master lists them and by the lives of its slaves, packets and mails that are passed on.
use Rattle.std.proofs.Common.{◌≡◌, ◌<◌, ◌≤◌, ◌+◌, ◌==◌, ℕ, true, Option, Some, None, List, [], ◌∷◌, map, length, length-append, refl, sym, ◌∙◌, subst, arith}
use Rattle.std.specs.Prelude.{if◌then◌else◌}
use Rattle.served_places.specs.of_datagrams.Datagram as Raw
use Rattle.packets_heard.specs.of_master_node.Begins.{begun_of}
use Rattle.packets_heard.specs.of_master_node.Events.{ServedBegin, begun_told, oldest_in, origin_for, served_tells}
use Rattle.packets_heard.specs.of_master_node.Listing.{number_at}
use Rattle.packets_heard.specs.of_master_node.Origins.{forwards_at}
use Rattle.packets_heard.specs.of_master_node.Serving.{run_lead, run_turn}
use Rattle.packets_heard.specs.of_master_node.declared.node.MasterNode.{MasterNode}
use Rattle.plan_ring.specs.of_frame_view.View.{Lens}
use Rattle.plan_ring.specs.of_frame_view.Shares.{AllBoth}
use Rattle.served_places.specs.of_life_runs.First.{lens_of}
use Rattle.served_places.specs.of_life_runs.Led.{Exchanged, Turn}
use Rattle.served_places.specs.of_state_model.Stated.{Service}
use Rattle.served_places.specs.of_master_hand.Spoken.{Asked, sdo, file, drive, net, passed}
use Rattle.packets_heard.specs.of_protocol_models.EoeClient as EoeClient
use Rattle.packets_heard.specs.Numbers.{each_with}
use Rattle.packets_heard.specs.Over.{packet_begun}
use Rattle.packets_heard.specs.Servings.{served_begun}
use Rattle.run_notes.specs.Packets.{AllBeside, BeginsOn, BesideAt, begun_noted, mail_row, packet_row, rows_by, rows_with}
use Rattle.run_notes.specs.Reports.{AllReport}
use Rattle.run_notes.specs.declared.notes.Notes.{Notes}
use Rattle.run_record.proofs.Began.{ListsPackets, beside_place, came_rows, few_one, lists_packets, no_row, noted_on, one_row, row_by}
use Rattle.run_record.proofs.ServedReports.{turn_by}
use Rattle.run_record.specs.Mails.{mail_begun, served_mails}
use Rattle.run_record.specs.Forwarded.{PacketsNoted}
use Rattle.run_record.specs.Served.{ServeTo}
use Rattle.served_places.specs.of_run_frames.ScriptAnswers.{turned}
use Rattle.served_places.specs.of_run_frames.Came.{is_beside}
use Rattle.served_places.specs.of_run_frames.Steps.{TurnsBy}
use Rattle.packets_heard.specs.of_segment_plan.declared.plan.Scenario.{Scenario}
use Rattle.served_places.specs.of_life_runs.Served.{AllServedTurn, IsServedFrame, IsServedLed, Serves, ServedTurn}

all_by : (lens : ℕ → Lens) (made : ℕ) (ds : List Raw.Datagram) (ws : List Serves) (vs : List ServedTurn) → AllServedTurn lens made ds ws vs → AllBoth (λ a u. TurnsBy lens made a u) (map run_lead ws) (map run_turn vs)
all_by lens made ds [] [] t = tt
all_by lens made ds [] (v ∷ vs) t = absurd t
all_by lens made ds (w ∷ ws) [] t = absurd t
all_by lens made ds (w ∷ ws) (v ∷ vs) t = (turn_by lens made ds w v t.0, all_by lens made ds ws vs t.1)

-- its row, by where it comes from
served_row : (frame k p number forwards oldest : ℕ) (b : Option (Service Asked)) → rows_by frame k (begun_told p number forwards oldest b) ≡ (if p == k then came_rows (origin_for number forwards oldest) frame b else [])
served_row frame k p number forwards oldest None = no_row (p == k)
served_row frame k p number forwards oldest (Some s) = one_row frame (p == k) (origin_for number forwards oldest s)

-- the row of a packet, and that of a mail that is passed on
pub served_packet : (frame number forwards oldest : ℕ) (b : Option (Service Asked)) → rows_with packet_row (came_rows (origin_for number forwards oldest) frame b) ≡ row_by frame forwards b
served_packet frame number forwards oldest None = refl
served_packet frame number forwards oldest (Some (Service.State target)) = refl
served_packet frame number forwards oldest (Some (Service.Mails (sdo q))) = refl
served_packet frame number forwards oldest (Some (Service.Mails (file q))) = refl
served_packet frame number forwards oldest (Some (Service.Mails (drive q))) = refl
served_packet frame number forwards oldest (Some (Service.Mails (net (EoeClient.set_ip block)))) = refl
served_packet frame number forwards oldest (Some (Service.Mails (net EoeClient.get_ip))) = refl
served_packet frame number forwards oldest (Some (Service.Mails (net (EoeClient.packet octets n)))) = refl
served_packet frame number forwards oldest (Some (Service.Mails (passed m))) = refl

served_mail : (frame number forwards oldest : ℕ) (b : Option (Service Asked)) → rows_with mail_row (came_rows (origin_for number forwards oldest) frame b) ≡ mail_begun oldest frame b
served_mail frame number forwards oldest None = refl
served_mail frame number forwards oldest (Some (Service.State target)) = refl
served_mail frame number forwards oldest (Some (Service.Mails (sdo q))) = refl
served_mail frame number forwards oldest (Some (Service.Mails (file q))) = refl
served_mail frame number forwards oldest (Some (Service.Mails (drive q))) = refl
served_mail frame number forwards oldest (Some (Service.Mails (net (EoeClient.set_ip block)))) = refl
served_mail frame number forwards oldest (Some (Service.Mails (net EoeClient.get_ip))) = refl
served_mail frame number forwards oldest (Some (Service.Mails (net (EoeClient.packet octets n)))) = refl
served_mail frame number forwards oldest (Some (Service.Mails (passed m))) = refl

module _ (lens : ℕ → Lens) (made : ℕ) (ds : List Raw.Datagram) (ws : List Serves) (vs : List ServedTurn) (t : AllServedTurn lens made ds ws vs) (forwards : ℕ → ℕ) where
  abbrev us : List Turn
  us = map run_turn vs

  abbrev number : ℕ → ℕ
  number p = number_at (map run_lead ws) p

  came : (p : ℕ) (q : Asked) → begun_of us p ≡ Some (Service.Mails q) → is_beside (Service.Mails q) ≡ true → BesideAt (map turned us) p
  came p q e beside = beside_place lens made (map run_lead ws) us (all_by lens made ds ws vs t) p q e beside

  all_came : (p : ℕ) (b : Option (Service Asked)) → begun_of us p ≡ b → AllBeside (map turned us) (served_tells ws p (forwards p) b)
  all_came p None e = tt
  all_came p (Some (Service.State target)) e = (tt, tt)
  all_came p (Some (Service.Mails (sdo q))) e = (tt, tt)
  all_came p (Some (Service.Mails (file q))) e = (tt, tt)
  all_came p (Some (Service.Mails (drive q))) e = (tt, tt)
  all_came p (Some (Service.Mails (net (EoeClient.set_ip block)))) e = (tt, tt)
  all_came p (Some (Service.Mails (net EoeClient.get_ip))) e = (tt, tt)
  all_came p (Some (Service.Mails (net (EoeClient.packet octets n)))) e = (came p (net (EoeClient.packet octets n)) e refl, tt)
  all_came p (Some (Service.Mails (passed mail))) e = (came p (passed mail) e refl, tt)

  served_lists : (m : MasterNode) → ServedBegin forwards ws vs m → ListsPackets (map turned us) made forwards (λ k. begun_of us k) (λ k. mail_begun (oldest_in ws k) made (begun_of us k)) m
  served_lists m x =
      lists_packets (map turned us) made forwards (λ k. begun_of us k) (λ k. mail_begun (oldest_in ws k) made (begun_of us k)) m (λ p. served_tells ws p (forwards p) (begun_of us p)) (λ p. origin_for (number p) (forwards p) (oldest_in ws p))
      (λ p. all_came p (begun_of us p) refl) (λ k p. served_row made k p (number p) (forwards p) (oldest_in ws p) (begun_of us p)) x.visited x.once x.listed x.others
      (λ k. served_packet made (number k) (forwards k) (oldest_in ws k) (begun_of us k)) (λ k. served_mail made (number k) (forwards k) (oldest_in ws k) (begun_of us k)) x.counts

few_frames : {lens : ℕ → Lens} {recover retry : ℕ} {first : List Serves} {fs : List Exchanged} {missed : ℕ} {ws : List Serves} (led : IsServedLed lens recover retry first fs missed ws) (k : ℕ) → length (served_begun led k) ≤ length fs
few_frames IsServedLed.start k = omega arith
few_frames (IsServedLed.asks fs missed ws place keyed led may) k = few_frames led k
few_frames (IsServedLed.on fs missed ws f vs led frame) k =
    let before = few_frames led k in
    let one = few_one (length fs) (begun_of (map run_turn vs) k) in
    let left = length-append (served_begun led k) (each_with (length fs) (packet_begun (begun_of (map run_turn vs) k))) in
    let right = length-append fs (f ∷ []) in
    omega (arith, before, one, left, right)

-- ONE FRAME MORE
pub served_packets : (plan : Scenario) (fs : List Exchanged) (missed : ℕ) (ws : List Serves) (lives : ServeTo plan fs missed ws) (f : Exchanged) (vs : List ServedTurn) (frame : IsServedFrame (lens_of plan.slaves) (length fs) f.sent ws vs) (m0 m1 m2 : MasterNode) (old mid new : List Notes) →
    PacketsNoted (λ k. served_begun lives k) (λ k. served_mails lives k) m0 old → ServedBegin (λ k. forwards_at m0.posts.items k) ws vs m1 → ((k : ℕ) → forwards_at m2.posts.items k ≡ forwards_at m1.posts.items k) → length fs + 1 < 4294967296 → length mid ≡ length old → begun_noted new ≡ begun_noted mid →
    BeginsOn (length fs) m1 old mid (map run_lead ws) (map turned (map run_turn vs)) → AllReport (map run_lead ws) old → PacketsNoted (λ k. served_begun (IsServedLed.on fs missed ws f vs lives frame) k) (λ k. served_mails (IsServedLed.on fs missed ws f vs lives frame) k) m2 new
served_packets plan fs missed ws lives f vs frame m0 m1 m2 old mid new w x kept few many same begins told =
    noted_on (λ k. served_begun lives k) (λ k. served_mails lives k) (λ k. mail_begun (oldest_in ws k) (length fs) (begun_of (map run_turn vs) k)) (length fs) (few_frames lives) few (map run_lead ws) (map turned (map run_turn vs)) (λ k. begun_of (map run_turn vs) k) m0 m1 m2 old mid new w
    (served_lists (lens_of plan.slaves) (length fs) frame.datagrams ws vs frame.each (λ k. forwards_at m0.posts.items k) m1 x) kept many same begins told

-- NO FRAME: what was counted and noted stays
pub packets_stay : (frames : ℕ → List ℕ) (mails : ℕ → List (ℕ × ℕ)) (m n : MasterNode) (old new : List Notes) → ((k : ℕ) → forwards_at n.posts.items k ≡ forwards_at m.posts.items k) → new ≡ old → PacketsNoted frames mails m old → PacketsNoted frames mails n new
packets_stay frames mails m n old new counts same w = subst (λ (ns : List Notes). PacketsNoted frames mails n ns) (sym same) (record { counts = λ k. counts k ∙ w.counts k; rows = w.rows; mailed = w.mailed })
