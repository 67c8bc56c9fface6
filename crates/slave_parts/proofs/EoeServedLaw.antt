-- EoE services from whatever server, with an unfinished packet or without one.
use Rattle.std.proofs.Common.{◌≡◌, ℕ, ◌+◌, ◌-◌, ◌*◌, ◌/◌, ◌%◌, ◌<◌, nat_le, nat_lt, Bool, true, false, List, [], ◌∷◌, map, length, Option, None, Some, refl, sym, ◌∙◌, ap, arith, leb-true, ltb-true, lt-ltb}
use Rattle.std.specs.Prelude.{if◌then◌else◌}
use Rattle.eoe_server.specs.of_eoe.declared.message.Fragment.{Fragment}
use Rattle.eoe_server.specs.of_eoe.declared.joining.Joined.{Joined}
use Rattle.eoe_server.specs.of_eoe.declared.joining.Joined.TheVariants.{More, Whole, Dropped}
use Rattle.eoe_server.specs.of_eoe.declared.joining.Unfinished.{Unfinished}
use Rattle.eoe_server.specs.of_eoe.Joining.{Taken, awaited, ended, added, payload_of, taken, taken_by, joins, GivesWhole}
use Rattle.eoe_server.specs.of_eoe.Cutting.{fragments_of}
use Rattle.eoe_server.proofs.of_eoe.Whole.{every_area_gives_the_packet}
use Rattle.idn_table.specs.of_exchange_model.Areas.{Areas, AreMailboxes}
use Rattle.idn_table.specs.of_exchange_model.Exchange.{after}
use Rattle.eoe_server.specs.of_protocol_models.EoeMails.{EoeMail, part}
use Rattle.eoe_server.specs.of_protocol_models.Network.{Network, IsSound, Station, is_ready}
use Rattle.eoe_server.specs.of_protocol_models.EoeServer.{Server, sends, joined, addressed, set_answer, serve}
use Rattle.eoe_server.specs.of_protocol_models.EoeClient.{Service, packet, set_ip, get_ip, is_service, mails_of, meaning_of}
use Rattle.eoe_server.specs.of_protocol_models.EoeModel.{eoe_exchange}
use Rattle.idn_table.proofs.of_protocol_models.EoeLaw.{eoe_law, both, both_are}
use Rattle.serving_model.specs.Tagged.{IsServed}
use Rattle.slave_parts.proofs.WholeLaw.{whole_served}
use Rattle.slave_parts.specs.EoeServed.{unfinished_behind, server_behind, eoe_served, station_of}
use Rattle.slave_parts.proofs.EoeKeeping.{keeps}

-- a fragment that ends a packet leaves none unfinished
abbrev is_over : Joined → Bool
is_over More = false
is_over (Whole p) = true
is_over Dropped = true

chosen : Fragment → Unfinished → Bool → Taken
chosen f u last = if last then record { unfinished = None; joined = ended u (payload_of f) } else record { unfinished = Some (added u f.bytes.items); joined = More }

over_none : (f : Fragment) (u : Unfinished) (last : Bool) → is_over (chosen f u last).joined ≡ true → (chosen f u last).unfinished ≡ None
unfolding chosen
over_none f u true e = refl
over_none f u false e = absurd (cc)

none_by : (f : Fragment) (before : Option Unfinished) → is_over (taken_by f before).joined ≡ true → (taken_by f before).unfinished ≡ None
unfolding chosen
none_by f None e = refl
none_by f (Some u) e = over_none f u f.last e

-- behind a whole packet nothing is unfinished
abbrev left_by : Option Unfinished → List Fragment → Option Unfinished
left_by before [] = before
left_by before (f ∷ fs) = left_by (taken before f).unfinished fs

-- one fragment: later is what is left behind the others
one_leaves : (octets : List ℕ) (f : Fragment) (fs : List Fragment) (before : Option Unfinished) → (GivesWhole octets (joins (taken before f).unfinished fs) → left_by (taken before f).unfinished fs ≡ None) →
    (j : Joined) → (taken before f).joined ≡ j → GivesWhole octets (j ∷ joins (taken before f).unfinished fs) → left_by (taken before f).unfinished fs ≡ None
one_leaves octets f fs before later More came whole = later whole
one_leaves octets f [] before later (Whole p) came whole = none_by f (awaited before f) (ap is_over came)
one_leaves octets f (g ∷ gs) before later (Whole p) came whole = absurd whole
one_leaves octets f fs before later Dropped came whole = absurd whole

whole_leaves : (octets : List ℕ) (fs : List Fragment) (before : Option Unfinished) → GivesWhole octets (joins before fs) → left_by before fs ≡ None
whole_leaves octets [] before whole = absurd whole
whole_leaves octets (f ∷ fs) before whole = one_leaves octets f fs before (whole_leaves octets fs (taken before f).unfinished) (taken before f).joined refl whole

module _ {S : Type 0} (o : Network S) (sound : IsSound o) (areas : Areas) (sized : AreMailboxes areas) where
  joined_leaves : (station : Station S) (last : Bool) (unfinished : Option Unfinished) (j : Joined) → (joined o areas.back station last unfinished j).unfinished ≡ unfinished
  joined_leaves station last unfinished More = refl
  joined_leaves station last unfinished (Whole p) = refl
  joined_leaves station last unfinished Dropped = refl

  fragments_leave : (v : Server S) (fs : List Fragment) → (after (serve o areas.back) v (map part fs)).unfinished ≡ left_by v.unfinished fs
  fragments_leave v [] = refl
  fragments_leave v (f ∷ fs) = fragments_leave (serve o areas.back v (part f)).0 fs
      ∙ ap (λ u. left_by u fs) (joined_leaves v.station f.last (taken v.unfinished f).unfinished (taken v.unfinished f).joined)

  set_leaves : (station : Station S) (unfinished : Option Unfinished) (r : Option S) → (set_answer station unfinished r).unfinished ≡ unfinished
  set_leaves station unfinished (Some app) = refl
  set_leaves station unfinished None = refl

  left_behind : (v : Server S) (q : Service) → is_service q ≡ true → (after (serve o areas.back) v (mails_of areas.out q)).unfinished ≡ unfinished_behind v.unfinished q
  left_behind v (packet octets frame) valid =
      let sizes = both o sound areas sized (nat_le 14 (length octets)) (nat_le (length octets) 1514) (nat_lt frame 16) valid in
      let fs = fragments_of octets (32 * ((areas.out - 10) / 32)) frame in
      fragments_leave v fs ∙ whole_leaves octets fs v.unfinished (every_area_gives_the_packet v.unfinished octets areas.out frame (leb-true _ _ sizes.0) (leb-true _ _ sizes.1) sized.out_least)
  left_behind v (set_ip block) valid = set_leaves v.station v.unfinished (addressed o areas.back v.station.app block)
  left_behind v get_ip valid = refl

  whole : (v : Server S) (q : Service) → is_ready o v.station ≡ true → is_service q ≡ true → after (serve o areas.back) v (mails_of areas.out q) ≡ server_behind o areas.back v q
  whole v q fine valid =
      let k = (eoe_law o sound areas sized).whole v q fine valid in
      let t = left_behind v q valid in
      λ i. record { station = k.app i; handled = k.handled i; unfinished = t i }

  again : (v : Server S) (q : Service) → is_ready o v.station ≡ true → is_service q ≡ true → is_ready o (meaning_of o areas.back v.station q).station ≡ true
  again v q fine valid = ap (is_ready o) (sym ((eoe_law o sound areas sized).whole v q fine valid).app) ∙ (eoe_law o sound areas sized).ready v q fine valid

  ready_from : (app : S) (frame : ℕ) → o.valid app ≡ true → frame < 16 → is_ready o (record { app = app; frame = frame }) ≡ true
  ready_from app frame fine few = let short = lt-ltb frame 16 few in rw (fine, short) refl

  sends_ready : (frame : ℕ) (r : S × Option (List ℕ)) → o.valid r.0 ≡ true → frame < 16 → is_ready o (sends areas.back frame r).0 ≡ true
  sends_ready frame (app, None) fine few = ready_from app frame fine few
  sends_ready frame (app, Some octets) fine few = ready_from app ((frame + 1) % 16) fine (omega arith)

  passes : (v : Server S) (m : EoeMail) → is_ready o v.station ≡ true → is_ready o (serve o areas.back v m).0.station ≡ true
  passes v m fine = keeps o areas.back (λ station. is_ready o station ≡ true)
      (λ station octets ready.
      let now = both_are (o.valid station.app) (nat_lt station.frame 16) ready in
      sends_ready station.frame (o.packet station.app octets) (sound.packet station.app octets now.0) (ltb-true station.frame 16 now.1))
      (λ station app block ready is.
      let now = both_are (o.valid station.app) (nat_lt station.frame 16) ready in
      ready_from app station.frame (sound.set_ip station.app app block now.0 is) (ltb-true station.frame 16 now.1))
      v m fine

  pub eoe_is_served : IsServed (eoe_served o areas) station_of
  eoe_is_served = whole_served (eoe_exchange o areas) (λ v. is_ready o v.station) (server_behind o areas.back) (eoe_law o sound areas sized)
      (record { lawful = λ v fine. fine; again = again; passes = passes; whole = whole })
