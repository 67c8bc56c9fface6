-- While nothing is gained an empty read counts behind each step of its slave.
use Rattle.std.proofs.Common.{◌≡◌, ℕ, suc, ◌%◌, ◌==◌, ◌&&◌, Bool, true, false, not, Option, List, [], ◌∷◌, map, refl, sym, ap, ◌∙◌, if◌then◌else◌}
use Rattle.std.specs.Prelude.{nat_le}
use Rattle.idle_slaves.specs.Eager.{Remembered}
use Rattle.idle_slaves.specs.of_frame_view.Seen.{seen}
use Rattle.idle_slaves.specs.of_frame_view.View.{Lens}
use Rattle.idle_slaves.specs.of_life_model.Lives.{Spot, Stand}
use Rattle.idle_slaves.specs.of_life_runs.Led.{Exchanged}
use Rattle.idle_slaves.specs.of_datagrams.Datagram as Raw
use Rattle.idle_slaves.specs.of_link_mails.Body.{Body}
use Rattle.idle_slaves.proofs.of_master_tour.Backs.{seen_aims}
use Rattle.served_rings.specs.of_master_side.Counts.{counts_behind, counts_on}
use Rattle.idle_slaves.specs.of_run_frames.Led.{AreLed}
use Rattle.idle_slaves.specs.of_run_frames.Waits.{Waits, all_anew, all_on, waits_on}
use Rattle.idle_slaves.specs.of_segment_model.Record.{did_read}
use Rattle.idle_slaves.specs.of_segment_model.Slaves.{Datagram, grams}
use Rattle.idle_slaves.specs.of_segment_plan.declared.service.Service as Plan
use Rattle.idle_slaves.specs.of_segment_plan.declared.slave.SlaveSpec.{SlaveSpec}
use Rattle.idle_slaves.specs.of_segment_ring.declared.wire.Fate.{Fate}
use Rattle.idle_slaves.specs.of_segment_ring.declared.wire.Fate.TheVariants.{Pass}
use Rattle.idle_slaves.specs.of_life_runs.Served.{Serves, ServedTurn, AllServedTurn, IsServedTurn, recorded, served_behind}
use Rattle.served_rings.specs.of_served_places.Toured.{back_under}
use Rattle.seen_slaves.specs.Eager.{leads_of}
use Rattle.seen_slaves.proofs.Ready.{AllCounted, AllStationed, nexts_then}
use Rattle.seen_slaves.proofs.Unread.{unread_on}
use Rattle.idle_slaves.specs.of_slave_server.Serving.{Serving}
use Rattle.idle_slaves.specs.of_slave_node.Node.{Node}
use Rattle.idle_slaves.proofs.Fits.{AllReady, IsReady, Slave, next_of, nexts_of}
use Rattle.idle_slaves.proofs.Lists.{AllStanding, IsStanding}

-- where something was gained just now
pub counted_anew : (ws : List Serves) (cs : List Slave) → AreLed (leads_of ws) cs → AllCounted (all_anew cs) ws
counted_anew [] [] l = tt
counted_anew [] (c ∷ cs) l = absurd l
counted_anew (w ∷ ws) [] l = absurd l
counted_anew (w ∷ ws) (c ∷ cs) l = ((λ e. absurd (cc)), counted_anew ws cs l.2)

by_step : (step counts read stepped : Bool) → (stepped ≡ true → counts ≡ true) → read ≡ false → (if step then true else stepped) ≡ true → (if step then true else counts && not read) ≡ true
by_step true counts read stepped k n e = refl
by_step false counts read stepped k n e = (λ i. k e i && not (n i))

module _ (lens : ℕ → Lens) (number : ℕ) (f : Exchanged) (recover retry : ℕ) (gives : Bool) (made : ℕ) (fate : f.fate ≡ Pass) (same_number : made ≡ number) where
  by_stand : (z : Stand) (station pace : ℕ) (counts : Bool) → (z ≡ Stand.Open → counts_behind station pace made (seen lens f.back) counts ≡ true) → counts_on z station pace made (seen lens f.back) counts ≡ true
  by_stand (Stand.Opens o) station pace counts k = refl
  by_stand Stand.Gone station pace counts k = refl
  by_stand Stand.Open station pace counts k = k refl

  -- one slave
  one_counted : (ds : List Raw.Datagram) (s : SlaveSpec) (w : Serves) (c : Slave) (v : ServedTurn) (next' : Option Plan.Service) (n k : Node Serving) (m m' : Remembered) (t : Waits) → c.spot ≡ w.lead.lived.spot → nat_le 1 w.lead.lived.spot.station ≡ true → IsServedTurn lens number ds w v →
      c.pace ≡ w.pace → IsReady lens number (seen lens f.sent) (seen lens f.back) s w.lead c (back_under (seen lens f.back) v) next' n k m m' t → IsStanding lens s (next_of w.lead) c n m t → (t.stepped ≡ true → w.counts ≡ true) →
      (waits_on number c (back_under (seen lens f.back) v) t).stepped ≡ true → (served_behind lens recover retry gives made f v).counts ≡ true
  one_counted ds s w c v next' n k m m' t spot some turn pace r before counted e =
      ap (λ (z : Fate). counts_on v.turn.lived.life.stand v.turn.lived.spot.station v.pace made (recorded lens recover retry f z).back v.counts) fate
      ∙ by_stand v.turn.lived.life.stand v.turn.lived.spot.station v.pace v.counts (λ open_now.
      (let back : List (Datagram Body) = seen lens f.back in
      let at : c.spot ≡ v.turn.lived.spot = spot ∙ sym turn.next.spot in
      let read : did_read v.turn.lived.spot.station (grams back) ≡ false = sym (ap (λ (z : Spot). did_read z.station (grams back)) at)
      ∙ unread_on lens number (seen lens f.sent) back s w.lead c (back_under back v) next' n k m m' t r before (seen_aims lens f.back c.spot.station (ap (λ (z : Spot). nat_le 1 z.station) spot ∙ some)) open_now in
      let paces : v.pace ≡ c.pace = turn.pace ∙ sym pace in
      let step : (if suc made % v.pace == 0 then true else t.stepped) ≡ true = (λ i. if suc (same_number i) % paces i == 0 then true else t.stepped) ∙ e in
      by_step (suc made % v.pace == 0) v.counts (did_read v.turn.lived.spot.station (grams back)) t.stepped (λ stepped. turn.counts ∙ counted stepped) read step))

  -- all slaves
  pub counted_on : (ds : List Raw.Datagram) (ss : List SlaveSpec) (ws : List Serves) (cs : List Slave) (vs : List ServedTurn) (ns ks : List (Node Serving)) (ms ms' : List Remembered) (ts : List Waits) → AreLed (leads_of ws) cs → AllStationed ws → AllServedTurn lens number ds ws vs →
      map (λ (c : Slave). c.pace) cs ≡ map (λ (w : Serves). w.pace) ws → AllReady lens number (seen lens f.sent) (seen lens f.back) ss (leads_of ws) cs (map (back_under (seen lens f.back)) vs) (nexts_then vs) ns ks ms ms' ts → AllStanding lens ss (nexts_of (leads_of ws)) cs ns ms ts → AllCounted ts ws →
      AllCounted (all_on number cs (map (back_under (seen lens f.back)) vs) ts) (map (served_behind lens recover retry gives made f) vs)
  counted_on ds ss [] cs [] ns ks ms ms' ts l z t p AllReady.none b q = tt
  counted_on ds ss [] cs (v ∷ vs) ns ks ms ms' ts l z t p r b q = absurd t
  counted_on ds ss (w ∷ ws) cs [] ns ks ms ms' ts l z t p r b q = absurd t
  counted_on ds _ (w ∷ ws) _ (v ∷ vs) _ _ _ _ _ l z t p (AllReady.one s ss a as' c cs u us next' nexts n ns n' ks m ms m' ms' y ts r rs) b q =
      let pace : c.pace ≡ w.pace = (let both : c.pace ∷ map (λ (i : Slave). i.pace) cs ≡ w.pace ∷ map (λ (i : Serves). i.pace) ws = p in cc) in
      let paces : map (λ (i : Slave). i.pace) cs ≡ map (λ (i : Serves). i.pace) ws = (let both : c.pace ∷ map (λ (i : Slave). i.pace) cs ≡ w.pace ∷ map (λ (i : Serves). i.pace) ws = p in cc) in (
        one_counted ds s w c v next' n n' m m' y l.0 z.0 t.0 pace r b.0 q.0,
        counted_on ds ss ws cs vs ns ks ms ms' ts l.2 z.1 t.1 paces rs b.1 q.1,
      )
