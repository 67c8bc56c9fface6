-- EACH EPOCH OF A LIFE sends whole packets, whatever mails are passed on in it.
use Rattle.std.proofs.Common.{◌≡◌, ℕ, Bool, true, false, None, All, List, [], ◌∷◌, length, map, take, Ok, refl, sym, ap, ◌∙◌, subst, arith}
use Rattle.std.specs.Prelude.{sum_by}
use Rattle.std.proofs.lemmas.List.Elements.{All-head, All-tail}
use Rattle.packets_heard.specs.of_exchange_model.Exchange.{Exchange, emitted}
use Rattle.packets_heard.specs.of_exchange_model.Rows.{heard_all}
use Rattle.packets_heard.specs.of_life_model.Lives.{Era, Life, Stand}
use Rattle.packets_heard.specs.of_link_mails.Body.{Body}
use Rattle.served_rings.specs.of_mailbox_mail.declared.mail.Mail.{Mail}
use Rattle.packets_heard.specs.of_master_duty.Reply.{Reply}
use Rattle.packets_heard.specs.of_master_hand.Joins.{fragment_in}
use Rattle.packets_heard.specs.of_master_hand.Spoken.{Asked, sdo, file, drive, net, passed}
use Rattle.packets_heard.specs.Packets.{parts}
use Rattle.packets_heard.proofs.PacketParts.{heard_own, joined_first}
use Rattle.packets_heard.proofs.Parts.{packets_whole}
use Rattle.served_rings.proofs.of_plan_ring.Valid.{core_is_valid}
use Rattle.packets_heard.specs.of_slave_server.Serving.{Serving}
use Rattle.packets_heard.specs.of_slave_server.Spec.{profile_of}
use Rattle.served_rings.specs.of_run_work.Lives.{first_server}
use Rattle.served_rings.specs.of_run_work.Sessions.{OwnService}
use Rattle.packets_heard.specs.of_segment_plan.Sound.{IsSlave}
use Rattle.packets_heard.specs.of_segment_plan.declared.slave.SlaveSpec.{SlaveSpec}
use Rattle.run_promises.specs.Sends.{MaySend, Sends, may_send}
use Rattle.run_promises.specs.Whole.{AllSendWhole, EraSends, LifeSends, NewestSends, PastSends, heard_in}
use Rattle.run_promises.proofs.All.{valid_sends}
use Rattle.run_promises.proofs.Cuts.{sends_both}
use Rattle.run_promises.proofs.Emits.{side_emits}
use Rattle.run_promises.proofs.Epochs.{heard_cut}
use Rattle.run_promises.proofs.Folds.{same_emits, untag_own}
use Rattle.run_promises.proofs.Owns.{own_fragment}
use Rattle.run_promises.proofs.Stays.{coe_stays, eoe_stays, foe_stays, soe_stays}
use Rattle.run_promises.proofs.Wholes.{SendsSome, no_weight, sends_nothing, serve_leaves}
use Rattle.served_rings.specs.Served.{AllServeSo, AreServedEras, IsServedEra, IsServedLife, IsServedNewest, emitted_behind, server_behind}
use Rattle.served_rings.specs.Speakers.{cleared_whole, spoken}
use Rattle.packets_heard.specs.of_life_runs.Served.{Serves}
use Rattle.served_rings.specs.of_serving_model.Tagged.{own_gift, untag}
use Rattle.served_rings.specs.of_slave_model.Product.{emission, refusal}
use Rattle.served_rings.specs.of_slave_model.Profile.{IsProfile, Profile, Protocol, serves}
use Rattle.served_rings.specs.of_slave_model.Server.{ServiceOf, reseated, seat}
use Rattle.served_rings.specs.of_slave_parts.Parts.{Server, parts as real_parts}
use Rattle.served_rings.specs.of_slave_parts.Served.{product_whole, served_whole, side_whole}
use Rattle.served_rings.specs.of_slave_parts.SoeServed.{met}
use Rattle.served_rings.specs.of_slave_parts.Whole.{gated_whole}
use Rattle.packets_heard.specs.of_slave_node.Node.{Node}
use Rattle.packets_heard.specs.of_state_model.Families.{InState}
use Rattle.packets_heard.specs.of_state_model.Stated.{Service}
use Rattle.packets_heard.specs.of_state_model.Promise.{services_in}

module _ (p : Profile) (is : IsProfile p) where
  -- ---- A SERVICE of the script: what it sends, and the server that it leaves
  script_may : (al : ℕ) (j : Server) (i : Protocol) (q : ServiceOf i) → MaySend j.app → MaySend (reseated i j ((side_whole real_parts p al i).exec (seat i j) q)).app
  script_may al j i q may = go i q (serves p al i)
    where
      go : (i : Protocol) (q : ServiceOf i) (on : Bool) → MaySend (reseated i j ((gated_whole on (served_whole real_parts p al i) (refusal real_parts p al i)).exec (seat i j) q)).app
      go Protocol.CoE q true = coe_stays p al j.app q may
      go Protocol.FoE q true = foe_stays al j.app q may
      go Protocol.SoE q true = soe_stays j.app (met j.join q) may
      go Protocol.EoE q true = eoe_stays p j.app q may
      go Protocol.CoE q false = may
      go Protocol.FoE q false = may
      go Protocol.SoE q false = may
      go Protocol.EoE q false = may

  abbrev x : Exchange (InState Server) (InState Server) Body OwnService Rattle.served_rings.specs.of_slave_model.Server.Reply
  x = product_whole real_parts p

  script_sends : (v : InState Server) (i : Protocol) (q : ServiceOf i) → MaySend v.inner.app → SendsSome p.back (untag {Q = OwnService} (map (λ g. own_gift g) (x.emits v (i, q))))
  script_sends v i q may =
      let same = sym (same_emits p v.state v.inner i q) ∙ sym (untag_own OwnService (x.emits v (i, q))) in
      (sum_by no_weight (may_send p i q), subst (λ ms. Sends no_weight p.back ms (sum_by no_weight (may_send p i q))) same (side_emits no_weight p is v.state v.inner.app i q may))

  -- ---- A MAIL that is passed on: what the server's step for it sends of itself
  passed_sends : (v : InState Server) (m : Mail) → MaySend v.inner.app → SendsSome p.back (untag {Q = OwnService} (map (λ g. own_gift g) (emitted emission (x.serve v (Ok m)).1)))
  passed_sends v m may =
      let gives = (x.serve v (Ok m)).1 in
      let some = (serve_leaves p is v.state v.inner (Ok m) may).0 in
      let s = some.1 in (
        some.0,
        record {
          packets = s.packets;
          whole = record { cut = ap (parts fragment_in) (untag_own OwnService (emitted emission gives)) ∙ sym (heard_own emission fragment_in own_fragment gives) ∙ s.whole.cut; are = s.whole.are };
          few = s.few;
        },
      )

  -- ---- BOTH, by the master's names
  pub asked_sends : (v : InState Server) (q : Asked) → MaySend v.inner.app → SendsSome p.back ((spoken p).emits v q)
  asked_sends v (sdo q) may = script_sends v Protocol.CoE q may
  asked_sends v (file q) may = script_sends v Protocol.FoE q may
  asked_sends v (drive q) may = script_sends v Protocol.SoE q may
  asked_sends v (net q) may = script_sends v Protocol.EoE q may
  asked_sends v (passed m) may = passed_sends v m may

  asked_may : (v : InState Server) (q : Asked) → MaySend v.inner.app → MaySend ((spoken p).exec v q).inner.app
  asked_may v (sdo q) may = script_may v.state v.inner Protocol.CoE q may
  asked_may v (file q) may = script_may v.state v.inner Protocol.FoE q may
  asked_may v (drive q) may = script_may v.state v.inner Protocol.SoE q may
  asked_may v (net q) may = script_may v.state v.inner Protocol.EoE q may
  asked_may v (passed m) may = (serve_leaves p is v.state v.inner (Ok m) may).1

  cleared_may : (v : InState Server) → MaySend v.inner.app → MaySend (cleared_whole v).inner.app
  cleared_may v may = record { table = may.table; frame = omega arith }

  module _ (boot : Bool) (station : ℕ) where
    -- ---- ROWS, one behind the other
    pub rows_send : (v : InState Server) (qs : List (Service Asked)) → MaySend v.inner.app → SendsSome p.back (emitted_behind p boot station v qs)
    rows_send v [] may = sends_nothing p.back [] refl
    rows_send v (Service.Mails q ∷ qs) may =
        let now = asked_sends v q may in
        let rest = rows_send ((spoken p).exec v q) qs (asked_may v q may) in
        (_, sends_both no_weight p.back ((spoken p).emits v q) (emitted_behind p boot station ((spoken p).exec v q) qs) now.0 rest.0 now.1 rest.1)
    rows_send v (Service.State target ∷ qs) may = rows_send _ qs may

    rows_may : (v : InState Server) (qs : List (Service Asked)) → MaySend v.inner.app → MaySend (server_behind p boot station v qs).inner.app
    rows_may v [] may = may
    rows_may v (Service.Mails q ∷ qs) may = rows_may ((spoken p).exec v q) qs (asked_may v q may)
    rows_may v (Service.State target ∷ qs) may = rows_may _ qs may

    -- ---- AN EPOCH
    era_sends : (from : InState Server) (e : Era Body Asked Reply) (left done : InState Server) (i : IsServedEra p boot station from e left done) → MaySend from.inner.app → EraSends p boot station from e left done i
    era_sends from e left done i may =
        let rows = emitted_behind p boot station from (take i.count (services_in e.account.started)) in
        let s = (rows_send from (take i.count (services_in e.account.started)) may).1 in
        let heard = heard_in e in
        let all = heard_cut p.back emission own_fragment heard rows s.packets s.whole.cut i.emissions in
        record {
          packets = s.packets;
          whole = s.whole;
          arrived = joined_first p.back is.back_least s.packets s.whole.are (parts fragment_in heard) (parts fragment_in i.emissions.0) all;
          joined = packets_whole None heard;
        }

    done_may : (from : InState Server) (e : Era Body Asked Reply) (left done : InState Server) → IsServedEra p boot station from e left done → MaySend from.inner.app → MaySend done.inner.app
    done_may from e left done i may = subst (λ (v : InState Server). MaySend v.inner.app) (sym i.done_is) (rows_may from (take i.count (services_in e.account.started)) may)

    -- ---- ALL THAT ARE OVER
    module _ (start : ℕ) (first : InState Server) (may : MaySend first.inner.app) where
      abbrev So : (es : List (Era Body Asked Reply)) (b : InState Server) → AreServedEras p boot station start first es b → Type 0
      So es b d = PastSends p boot station start first es b d × MaySend b.inner.app

      past_sends : (es : List (Era Body Asked Reply)) (b : InState Server) (d : AreServedEras p boot station start first es b) → So es b d
      past_sends _ _ AreServedEras.none = (tt, may)
      past_sends _ _ (AreServedEras.unopened es b e before none) =
          let rest = past_sends es b before in
          ((rest.0, ap heard_all none.rows), cleared_may b rest.1)
      past_sends _ _ (AreServedEras.opened es b e left done before was) =
          let rest = past_sends es b before in
          ((rest.0, era_sends (record b { state = was.state }) e left done was.era rest.1), cleared_may done (done_may (record b { state = was.state }) e left done was.era rest.1))

      newest_sends : (from : InState Server) (e : Era Body Asked Reply) (n : Node Serving) (stand : Stand) (d : IsServedNewest p boot station start from e n stand) → MaySend from.inner.app → NewestSends p boot station start from e n stand d
      newest_sends from e n _ (IsServedNewest.lives left done inner state was rests) k = era_sends (record from { state = was.state }) e left done was.era k
      newest_sends from e n _ (IsServedNewest.unopened stand shut none holds) k = ap heard_all none.rows
      newest_sends from e n _ (IsServedNewest.over stand shut left done was holds) k = era_sends (record from { state = was.state }) e left done was.era k

      -- OF A WHOLE LIFE
      pub life_sends : (l : Life Body Asked Reply) (n : Node Serving) (d : IsServedLife p boot station start first l n) → LifeSends p boot station start first l n d
      life_sends l n d =
          let past = past_sends l.past d.from d.past in
          record { past = past.0; newest = newest_sends d.from l.era n l.stand d.newest past.1 }

-- OF EACH SLAVE of a plan
pub all_send_whole : (ss : List SlaveSpec) (ws : List Serves) (ns : List (Node Serving)) (d : AllServeSo ss ws ns) → All IsSlave ss → All (λ (s : SlaveSpec). length s.mac ≡ 6) ss → AllSendWhole ss ws ns d
all_send_whole [] [] [] d slaves macs = tt
all_send_whole [] [] (n ∷ ns) d slaves macs = absurd d
all_send_whole [] (w ∷ ws) ns d slaves macs = absurd d
all_send_whole (s ∷ ss) [] ns d slaves macs = absurd d
all_send_whole (s ∷ ss) (w ∷ ws) [] d slaves macs = absurd d
all_send_whole (s ∷ ss) (w ∷ ws) (n ∷ ns) d slaves macs =
    let here = All-head IsSlave s ss slaves in
    let profile : IsProfile (profile_of s) = record { out_least = here.out_least; out_most = here.out_most; back_least = here.in_least; back_most = here.in_most; mac = All-head (λ (s : SlaveSpec). length s.mac ≡ 6) s ss macs } in (
      life_sends (profile_of s) profile s.boot s.station s.start (first_server s) (valid_sends (first_server s).inner.app (core_is_valid s here)) w.lead.lived.life n d.0,
      all_send_whole ss ws ns d.1 (All-tail IsSlave s ss slaves) (All-tail (λ (s : SlaveSpec). length s.mac ≡ 6) s ss macs),
    )
