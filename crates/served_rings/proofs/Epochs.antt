-- AN EPOCH THAT ITS MASTER LED AND ITS NODE LIVED: what its slave carried out of it.
use Rattle.std.proofs.Common.{◌≡◌, ℕ, Bool, true, List, map, length, take, ap, sym, ◌∙◌, subst, arith}
use Rattle.std.proofs.lemmas.List.{length-map, take-map}
use Rattle.served_places.specs.of_exchange_model.Rows.{heard_all}
use Rattle.run_work.specs.of_frame_view.View.{Lens}
use Rattle.served_rings.specs.Led.{LedEra}
use Rattle.run_work.specs.of_life_counts.Seen.{service_seen}
use Rattle.served_places.specs.of_life_model.Eras.{era_frames}
use Rattle.served_places.specs.of_life_model.Lives.{Spot, Era}
use Rattle.served_places.specs.of_link_mails.Body.{Body}
use Rattle.run_work.specs.of_master_duty.Reply.{Reply}
use Rattle.run_work.specs.of_master_hand.Spoken.{Asked, is_followed, is_passed}
use Rattle.run_work.specs.of_few_replies.Clearing.{Forgets}
use Rattle.served_rings.specs.Speakers.{cleared_whole, seer_of, speaker, table_of, whole_states}
use Rattle.run_work.specs.Sessions.{named_wanted}
use Rattle.served_places.specs.of_segment_model.Record.{Frame, heard}
use Rattle.served_places.specs.of_segment_model.Seats.{rows_of}
use Rattle.served_places.specs.of_segment_model.Slaves.{Slave}
use Rattle.served_rings.specs.Serves.{serves}
use Rattle.served_places.specs.of_serving_model.Tagged.{ideal}
use Rattle.run_work.specs.of_slave_lives.Lived as Lived
use Rattle.run_work.specs.of_slave_lives.Lived.{IsBehind, node_seen}
use Rattle.run_work.specs.of_slave_model.Profile.{Profile}
use Rattle.run_work.specs.of_slave_parts.Parts.{Server, parts}
use Rattle.run_work.specs.of_slave_parts.Served.{product_whole}
use Rattle.run_work.specs.of_slave_server.Serving.{Serving}
use Rattle.run_work.specs.of_slave_node.Node.{Node}
use Rattle.served_places.specs.of_state_model.Families.{InState}
use Rattle.run_work.specs.of_life_counts.Epochs.{IsSpeaker, IsSeen}
use Rattle.served_places.specs.of_state_model.Promise.{services_in}
use Rattle.served_rings.specs.Served.{IsServedEra, NothingLeft, RestsIf, WasServed, server_behind}
use Rattle.served_rings.proofs.Mails.{AllNamed, behind_named, is_mail, mailer, mailer_speaks, named_take, services_named, start_named}
use Rattle.run_work.proofs.of_plan_ring.Settled.{settled_seen}
use Rattle.served_rings.proofs.Newest.{exec_is}
use Rattle.served_rings.proofs.Replied.{emissions_so, replies_so}
use Rattle.served_rings.proofs.Rested.{left_so}
use Rattle.served_rings.proofs.Heard.{all_heard, newest_there, seen_so}
use Rattle.served_rings.proofs.HeardTold.{era_heard}
use Rattle.served_rings.proofs.Sessions.{led_session}
use Rattle.served_rings.proofs.Seen.{clears_so, promised, valid}
use Rattle.served_rings.proofs.TakenSo.{packet_so, taken_so}

module _ (p : Profile) (k : IsSpeaker (speaker p)) (forgets : Forgets (speaker p).exchange (speaker p).core cleared_whole) (boot : Bool) (lens : ℕ → Lens) (spot : Spot) (from : InState Server) (counts : Bool) (e : Era Body Asked Reply) (fs : List (Frame Body)) (n : Node Serving)
    (l : LedEra (serves p boot lens) is_followed is_passed spot from counts e fs n) where
  speaks : IsSpeaker (mailer p)
  speaks = mailer_speaks p k

  abbrev seen_node : Slave (InState Server) Body
  seen_node = node_seen (serves p boot lens) n

  -- IT IS SEEN with what is meant by its mails
  seen : IsSeen (mailer p) (seer_of p boot) (table_of boot) spot l.opened l.server l.registers fs counts e seen_node
  seen = seen_so p k boot lens spot l.opened l.server l.registers l.plan l.answers fs counts e seen_node l.led

  -- all mails that were heard in it were heard in its rows
  in_rows : heard spot.station (era_frames spot l.opened (length fs) fs) ≡ heard_all (rows_of e.side)
  in_rows =
      let u = serves p boot lens in
      era_heard u.exchange u.states u.processor (Lived.table_of u) spot e l.opened (length fs) fs l.server l.registers seen_node
      (led_session u.exchange u.states u.processor (Lived.table_of u) is_followed is_passed spot l.opened l.server l.registers l.plan l.answers fs counts e seen_node l.led)

  module _ (i : IsSeen (mailer p) (seer_of p boot) (table_of boot) spot l.opened l.server l.registers fs counts e seen_node) where
    abbrev left : InState Server
    left = seen_node.node.server.server

    abbrev done : InState Server
    done = ideal (product_whole parts p) i.slave.node.server.server

    -- what came into hand, by its names
    started_is : e.account.started ≡ map start_named i.era.account.started
    started_is = ap (λ (d : Era Body Asked Reply). d.account.started) (sym i.named)

    services_is : services_in e.account.started ≡ map (λ q. service_seen named_wanted q) (services_in i.era.account.started)
    services_is = ap services_in started_is ∙ services_named p i.era.account.started

    all_valid : AllNamed p (services_in i.era.account.started)
    all_valid = valid (mailer p) speaks (seer_of p boot) (table_of boot) spot l.opened l.server l.registers fs counts e seen_node i

    -- what its slave left, cleared, is what was carried out, cleared
    cleared_so : cleared_whole left ≡ cleared_whole done
    cleared_so = ap cleared_whole (ap (λ (s : Slave (InState Server) Body). s.node.server.server) (sym i.stands)) ∙ clears_so (mailer p) speaks (seer_of p boot) (table_of boot) spot l.opened l.server l.registers fs counts e seen_node i cleared_whole forgets

    -- WHAT ITS SLAVE DID
    pub served_era : IsServedEra p boot spot.station l.server e left done
    served_era =
        let did = promised (mailer p) speaks (seer_of p boot) (table_of boot) spot l.opened l.server l.registers fs counts e seen_node i in
        let long : length e.account.started ≡ length i.era.account.started = ap length started_is ∙ length-map i.era.account.started start_named in
        record {
          count = did.count;
          prefix = omega (arith, long, did.prefix);
          behind = omega (arith, long, did.behind);
          packet = packet_so p speaks boot spot l.opened l.server l.registers fs counts e seen_node i;
          done_is = did.app
              ∙ exec_is (product_whole parts p) (λ v. true) is_mail whole_states (table_of boot spot.station) l.server 0 (take did.count (services_in i.era.account.started))
              ∙ behind_named p boot spot.station l.server (take did.count (services_in i.era.account.started)) (named_take p did.count (services_in i.era.account.started) all_valid)
              ∙ ap (server_behind p boot spot.station l.server) (sym (take-map (λ q. service_seen named_wanted q) did.count (services_in i.era.account.started)) ∙ ap (take did.count) (sym services_is));
          app = ap (λ (v : InState Server). v.inner.app.app) cleared_so;
          handled = ap (λ (v : InState Server). v.inner.handled) cleared_so;
          state = ap (λ (s : Slave (InState Server) Body). s.registers.state) (sym i.stands) ∙ did.state;
          heard = all_heard p k boot lens spot l.opened l.server l.registers l.plan l.answers fs counts e seen_node l.led;
          replies = replies_so p speaks boot spot l.opened l.server l.registers fs counts e seen_node i;
          taken = taken_so p speaks boot spot l.opened l.server l.registers fs counts e seen_node i;
          emissions = emissions_so p speaks boot spot l.opened l.server l.registers fs counts e seen_node i in_rows;
          newest = newest_there p k boot lens spot l.opened l.server l.registers l.plan l.answers fs counts e seen_node l.led;
        }

  -- OF THE EPOCH, from another server with the same parts
  pub record EraServed (at : InState Server) : Type 0 where
    pub done : InState Server
    pub was : WasServed p boot spot.station spot.start at e seen_node.node.server.server done
    pub cleared : cleared_whole seen_node.node.server.server ≡ cleared_whole done
    pub rests : RestsIf p boot spot.station (record at { state = was.state }) e done n

  pub era_served : IsBehind (serves p boot lens) → (at : InState Server) → from.inner ≡ at.inner → EraServed at
  era_served behind at same =
      let i = seen in
      let begins : l.server ≡ record at { state = l.registers.state } = l.begins ∙ (λ j. record { inner = same j; state = l.registers.state }) in
      record {
        done = ideal (product_whole parts p) i.slave.node.server.server;
        was = record {
          state = l.registers.state;
          first = l.first;
          in_state = l.in_state;
          era = subst (λ z. IsServedEra p boot spot.station z e seen_node.node.server.server (ideal (product_whole parts p) i.slave.node.server.server)) begins (served_era i);
        };
        cleared = cleared_so i;
        rests = λ settled wants hand over. subst (λ z. NothingLeft p boot spot.station z e (ideal (product_whole parts p) i.slave.node.server.server)) begins
            (left_so p speaks boot spot l.opened l.server l.registers fs counts e seen_node i (settled_seen (serves p boot lens) behind n l.stands settled) wants hand over in_rows);
      }
