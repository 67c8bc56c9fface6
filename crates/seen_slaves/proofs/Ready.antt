-- The slaves of a serving by a frame that came back and gained nothing, and by which no mail that is passed on came a step on.
use Rattle.std.proofs.Common.{◌≡◌, ℕ, ◌==◌, Bool, true, false, Option, Some, None, List, [], ◌∷◌, map, refl, sym, ap, ◌∙◌, subst}
use Rattle.std.specs.Prelude.{nat_le, slice_get, ⊤}
use Rattle.idle_slaves.specs.of_datagrams.Datagram as Raw
use Rattle.idle_slaves.specs.Eager.{Remembered, AllEager, AllRemember, IsEager, RemembersOn}
use Rattle.idle_slaves.specs.EagerFrames.{One, TellsBy}
use Rattle.idle_slaves.proofs.Choices.{stand_next}
use Rattle.idle_slaves.proofs.Sent.{counter_is, met, none_sent, one_sent}
use Rattle.idle_slaves.specs.of_exchange_model.Exchange.{Speech}
use Rattle.idle_slaves.specs.of_frame_view.Seen.{datagrams_seen, seen}
use Rattle.idle_slaves.specs.of_frame_view.View.{Lens}
use Rattle.idle_slaves.specs.of_life_model.Gains.{gains}
use Rattle.idle_slaves.specs.of_life_model.Lives.{Life, Spot, Stand}
use Rattle.idle_slaves.specs.of_life_model.Own.{own}
use Rattle.idle_slaves.specs.of_life_runs.Led.{Exchanged, speech_at, is_passed}
use Rattle.idle_slaves.specs.of_link_mails.Body.{Body}
use Rattle.served_rings.specs.of_master_duty.Reply.{Reply}
use Rattle.served_rings.specs.of_master_hand.Spoken.{Asked, acknowledged, is_followed, passed}
use Rattle.idle_slaves.proofs.of_master_tour.Backs.{seen_aims}
use Rattle.idle_slaves.specs.of_plan_ring.PlanMet.{slave_at, AllMet, IsMet}
use Rattle.idle_slaves.specs.of_run_frames.Goes.{Under, back_life}
use Rattle.idle_slaves.specs.of_run_frames.Led.{AreLed}
use Rattle.idle_slaves.specs.of_run_frames.Waits.{Waits}
use Rattle.idle_slaves.specs.of_segment_model.Slaves.{Access, Datagram, counter_met, frame_after}
use Rattle.idle_slaves.specs.of_segment_plan.declared.service.Service as Plan
use Rattle.idle_slaves.specs.of_segment_plan.declared.slave.SlaveSpec.{SlaveSpec}
use Rattle.idle_slaves.specs.of_segment_ring.declared.wire.Fate.{Fate}
use Rattle.idle_slaves.specs.of_segment_ring.declared.wire.Fate.TheVariants.{Pass}
use Rattle.idle_slaves.specs.of_life_runs.Served.{Keyed, Serves, ServedTurn, AllServedTurn, IsServedTurn, ServedComes, served_behind, served_life}
use Rattle.idle_slaves.specs.of_life_runs.Told.{Passed}
use Rattle.served_rings.specs.of_served_places.Toured.{back_under}
use Rattle.seen_slaves.specs.Eager.{AllStill, leads_of, turns_of}
use Rattle.seen_slaves.proofs.Tells.{tells}
use Rattle.idle_slaves.specs.of_slave_server.Serving.{Serving}
use Rattle.idle_slaves.specs.of_slave_node.Node.{Node}
use Rattle.idle_slaves.specs.of_state_model.Stated.{Service}
use Rattle.idle_slaves.proofs.Fits.{AllReady, AllSeated, IsReady, IsSeated, Slave, next_of, nexts_of}
use Rattle.idle_slaves.proofs.Lists.{AllStanding, SameAll}
use Rattle.idle_slaves.proofs.Ready.{script_end, state_left}
use Rattle.idle_slaves.proofs.Rests.{over_rests}

-- a script at its end stays there; and a change of state that comes into hand was left of it
served_end : (room : ℕ) (script : List Plan.Service) (waits : List Keyed) (hand : Option Passed) (n : ℕ) (begun : Option (Service Asked)) (n' : ℕ) (rest : List Keyed) (later : Option Passed) → ServedComes room script waits hand n begun n' rest later →
    slice_get script n ≡ None → slice_get script n' ≡ None
served_end room script waits hand n begun n' rest later ServedComes.none none = none
served_end room script waits hand n begun n' rest later (ServedComes.own s m comes) none = script_end room script n m (Some s) comes none
served_end room script waits hand n begun n' rest later (ServedComes.mail k others is) none = none

served_left : (room : ℕ) (script : List Plan.Service) (waits : List Keyed) (hand : Option Passed) (n : ℕ) (begun : Option (Service Asked)) (n' : ℕ) (rest : List Keyed) (later : Option Passed) → ServedComes room script waits hand n begun n' rest later →
    (target : ℕ) → begun ≡ Some (Service.State target) → slice_get script n ≡ None → ⊥
served_left room script waits hand n begun n' rest later ServedComes.none target is none = (let no : None ≡ Some (Service.State target) = is in cc)
served_left room script waits hand n begun n' rest later (ServedComes.own s m comes) target is none = state_left room script n m (Some s) target comes is none
served_left room script waits hand n begun n' rest later (ServedComes.mail k others e) target is none = (let no : Some (Service.Mails (passed k.mail)) ≡ Some (Service.State target) = is in cc)

-- their scripts behind a frame
abbrev pub nexts_then : List ServedTurn → List (Option Plan.Service)
nexts_then [] = []
nexts_then (v ∷ vs) = slice_get v.turn.script v.turn.number ∷ nexts_then vs

pub nexts_served : (lens : ℕ → Lens) (recover retry : ℕ) (gives : Bool) (made : ℕ) (f : Exchanged) (vs : List ServedTurn) → nexts_of (leads_of (map (served_behind lens recover retry gives made f) vs)) ≡ nexts_then vs
nexts_served lens recover retry gives made f [] = refl
nexts_served lens recover retry gives made f (v ∷ vs) = ap (λ zs. slice_get v.turn.script v.turn.number ∷ zs) (nexts_served lens recover retry gives made f vs)

-- AN EMPTY READ COUNTS where the slave made a step since something was gained
abbrev pub AllCounted : List Waits → List Serves → Type 0
AllCounted [] [] = ⊤
AllCounted (t ∷ ts) (w ∷ ws) = (t.stepped ≡ true → w.counts ≡ true) × AllCounted ts ws
AllCounted _ _ = ⊥

-- each has a station
abbrev pub AllStationed : List Serves → Type 0
AllStationed [] = ⊤
AllStationed (w ∷ ws) = (nat_le 1 w.lead.lived.spot.station ≡ true) × AllStationed ws

module _ (lens : ℕ → Lens) (number : ℕ) (f : Exchanged) (ds : List Raw.Datagram) (view : seen lens f.sent ≡ datagrams_seen lens ds) (recover retry : ℕ) (gives : Bool) (made : ℕ) (fate : f.fate ≡ Pass) where
  abbrev sent : List (Datagram Body)
  sent = seen lens f.sent

  abbrev back : List (Datagram Body)
  back = seen lens f.back

  abbrev behind : ServedTurn → Serves
  behind v = served_behind lens recover retry gives made f v

  -- ONE SLAVE, at the station and with the life that its master has for it
  module _ (s : SlaveSpec) (w : Serves) (pace : ℕ) (stepped : Bool) (v : ServedTurn) (n k : Node Serving) (m m' : Remembered) (t : Waits) (turn : IsServedTurn lens number ds w v) (seat : IsSeated lens s w.lead n) (some : nat_le 1 w.lead.lived.spot.station ≡ true)
      (met_so : w.lead.lived.life.stand ≡ Stand.Open → IsMet lens (seen lens f.sent) (seen lens f.back) number pace s n k)
      (eager : IsEager (speech_at lens w.lead.lived.spot) w.lead.lived.spot.station (seen lens f.sent) m v.turn.share.under v.turn.begun (next_of w.lead) w.lead.lived.life v.turn.lived.life)
      (remembers : RemembersOn w.lead.lived.spot.station (seen lens f.back) m m' v.turn.share.under w.lead.lived.life v.turn.lived.life)
      (still : (served_behind lens recover retry gives made f v).lead.lived.life.era.passing ≡ v.turn.lived.life.era.passing) (same_number : made ≡ number) (counted : t.stepped ≡ true → w.counts ≡ true) where
    abbrev led : Slave
    led = record { spot = w.lead.lived.spot; life = w.lead.lived.life; pace = pace; stepped = stepped }

    abbrev x : Speech Body Asked Reply
    x = speech_at lens w.lead.lived.spot

    abbrev l : Life Body Asked Reply
    l = w.lead.lived.life

    abbrev station : ℕ
    station = w.lead.lived.spot.station

    abbrev u : Under Body Asked Reply
    u = back_under back v

    stand_is : v.turn.lived.life.stand ≡ l.stand
    stand_is = ap (λ (z : Life Body Asked Reply). z.stand) turn.next.life ∙ stand_next x acknowledged is_followed is_passed number l turn.next.pick

    one : v.turn.lived.life.stand ≡ Stand.Open → v.turn.share.under ≡ true → One w.lead.lived.spot.station (seen lens f.sent)
    one stands under = subst (λ (z : Spot). One z.station sent) turn.next.spot (one_sent lens ds sent view v.turn.lived.spot v.turn.share v.turn.lived.life.stand stands turn.asked.has under)

    none : v.turn.share.under ≡ false → own w.lead.lived.spot.station (seen lens f.sent) ≡ []
    none out = subst (λ (z : Spot). own z.station sent ≡ []) turn.next.spot (none_sent lens ds sent view v.turn.lived.spot v.turn.share v.turn.lived.life.stand turn.asked.has out)

    -- its life behind the frame
    behind_is : (back_life (speech_at lens) acknowledged is_followed is_passed number (seen lens f.back) led (back_under (seen lens f.back) v)).era.passing ≡ (served_behind lens recover retry gives made f v).lead.lived.life.era.passing
    behind_is =
        ap (λ (z : Spot). (back_life (speech_at lens) acknowledged is_followed is_passed number back (record { spot = z; life = l; pace = pace; stepped = stepped }) u).era.passing) (sym turn.next.spot)
        ∙ ap (λ (i : ℕ). (back_life (speech_at lens) acknowledged is_followed is_passed i back (record { spot = v.turn.lived.spot; life = l; pace = pace; stepped = stepped }) u).era.passing) (sym same_number)
        ∙ sym (ap (λ (z : Fate). (served_life lens recover retry gives made f z v).life.era.passing) fate)

    -- what comes back of it is what its slave makes of what was sent
    abbrev Silent : Datagram Body → Type 0
    Silent d = d.access ≡ Access.Elsewhere → (d.counter == 0) ≡ true

    silent_one : (stands : l.stand ≡ Stand.Open) (o : One w.lead.lived.spot.station (seen lens f.sent)) (d : Datagram Body) → own w.lead.lived.spot.station (seen lens f.back) ≡ d ∷ [] → Silent d
    silent_one stands o d mine =
        let here = (seat.fits stands).here ∙ sym seat.station in
        let z = met_so stands in
        let back_is : own station back ≡ frame_after station (slave_at lens s n) (own station sent) = subst (λ (h : ℕ). own h back ≡ frame_after h (slave_at lens s n) (own h sent)) (sym seat.station) z.back_is in
        let one_back : own station back ≡ met station (slave_at lens s n) here o.datagram o.sent_so ∷ [] = back_is ∙ ap (frame_after station (slave_at lens s n)) o.is in
        let same : met station (slave_at lens s n) here o.datagram o.sent_so ≡ d = (let both : met station (slave_at lens s n) here o.datagram o.sent_so ∷ [] ≡ d ∷ [] = sym one_back ∙ mine in cc) in
        subst Silent same (λ access. ap (λ c. c == 0) (counter_is station (slave_at lens s n) here o.datagram o.sent_so ∙ ap (counter_met 0) access))

    silent_any : (stands : l.stand ≡ Stand.Open) (b : Bool) → v.turn.share.under ≡ b → (d : Datagram Body) → own w.lead.lived.spot.station (seen lens f.back) ≡ d ∷ [] → Silent d
    silent_any stands true under d mine = silent_one stands (one (stand_is ∙ stands) under) d mine
    silent_any stands false out d mine = absurd (
        let z = met_so stands in
        let back_is : own station back ≡ frame_after station (slave_at lens s n) (own station sent) = subst (λ (h : ℕ). own h back ≡ frame_after h (slave_at lens s n) (own h sent)) (sym seat.station) z.back_is in
        let no : [] ≡ d ∷ [] = sym (back_is ∙ ap (frame_after station (slave_at lens s n)) (none out)) ∙ mine in cc)

    told : v.turn.lived.life.stand ≡ Stand.Open → (d : Datagram Body) → own w.lead.lived.spot.station (seen lens f.back) ≡ d ∷ [] → TellsBy t.stepped (back_under (seen lens f.back) v).news d
    told stands d mine =
        subst (λ (z : Spot). own z.station back ≡ d ∷ [] → TellsBy t.stepped u.news d) turn.next.spot
        (λ own_is. tells v.turn.lived.spot.station v.kept v.counts back (seen_aims lens f.back v.turn.lived.spot.station (ap (λ (z : Spot). nat_le 1 z.station) turn.next.spot ∙ some)) d own_is t.stepped (λ made_one. turn.counts ∙ counted made_one)
        (silent_any (sym stand_is ∙ stands) v.turn.share.under refl d mine)) mine

    pub ready : gains (back_life (speech_at lens) acknowledged is_followed is_passed number (seen lens f.back) led (back_under (seen lens f.back) v)) ≡ gains l →
        IsReady lens number (seen lens f.sent) (seen lens f.back) s w.lead led (back_under (seen lens f.back) v) (slice_get v.turn.script v.turn.number) n k m m' t
    ready same = record {
      begun = v.turn.begun;
      pick = turn.next.pick;
      life = turn.next.life;
      wish = turn.begun;
      took = turn.took;
      script = λ end. ap (λ z. slice_get z v.turn.number) turn.script ∙ served_end (lens station).out w.lead.script w.waits w.hand w.lead.number v.turn.begun v.turn.number v.waits v.hand turn.comes end;
      own_state = λ target is end. served_left (lens station).out w.lead.script w.waits w.hand w.lead.number v.turn.begun v.turn.number v.waits v.hand turn.comes target is end;
      one = one;
      none = none;
      station = seat.station;
      fits = seat.fits;
      met = met_so;
      eager = eager;
      remembers = remembers;
      same = same;
      still = λ stands. behind_is ∙ still;
      tells = λ stands passes d mine. told stands d mine;
      rest = over_rests lens s w.lead n m seat;
    }

  -- as it is counted
  counted_ready : (s : SlaveSpec) (w : Serves) (c : Slave) (v : ServedTurn) (n k : Node Serving) (m m' : Remembered) (t : Waits) → c.spot ≡ w.lead.lived.spot → c.life ≡ w.lead.lived.life → IsServedTurn lens number ds w v → IsSeated lens s w.lead n →
      nat_le 1 w.lead.lived.spot.station ≡ true → (w.lead.lived.life.stand ≡ Stand.Open → IsMet lens (seen lens f.sent) (seen lens f.back) number c.pace s n k) →
      IsEager (speech_at lens w.lead.lived.spot) w.lead.lived.spot.station (seen lens f.sent) m v.turn.share.under v.turn.begun (next_of w.lead) w.lead.lived.life v.turn.lived.life →
      RemembersOn w.lead.lived.spot.station (seen lens f.back) m m' v.turn.share.under w.lead.lived.life v.turn.lived.life → (served_behind lens recover retry gives made f v).lead.lived.life.era.passing ≡ v.turn.lived.life.era.passing → made ≡ number → (t.stepped ≡ true → w.counts ≡ true) →
      gains (back_life (speech_at lens) acknowledged is_followed is_passed number (seen lens f.back) c (back_under (seen lens f.back) v)) ≡ gains c.life →
      IsReady lens number (seen lens f.sent) (seen lens f.back) s w.lead c (back_under (seen lens f.back) v) (slice_get v.turn.script v.turn.number) n k m m' t
  counted_ready s w c v n k m m' t spot life turn seat some met_so eager remembers still same_number counted same =
      let as_led : c ≡ record { spot = w.lead.lived.spot; life = w.lead.lived.life; pace = c.pace; stepped = c.stepped } = (λ i. record { spot = spot i; life = life i; pace = c.pace; stepped = c.stepped }) in
      subst (λ (z : Slave). IsReady lens number sent back s w.lead z (back_under back v) (slice_get v.turn.script v.turn.number) n k m m' t) (sym as_led)
      (ready s w c.pace c.stepped v n k m m' t turn seat some met_so eager remembers still same_number counted (subst (λ (z : Slave). gains (back_life (speech_at lens) acknowledged is_followed is_passed number back z (back_under back v)) ≡ gains z.life) as_led same))

  pub all_ready : (ss : List SlaveSpec) (ws : List Serves) (cs : List Slave) (vs : List ServedTurn) (paces : List ℕ) (ns ks : List (Node Serving)) (ms ms' : List Remembered) (ts : List Waits) → AllSeated lens ss (leads_of ws) ns → AllStationed ws → AreLed (leads_of ws) cs → AllServedTurn lens number ds ws vs →
      AllMet lens (seen lens f.sent) (seen lens f.back) number ss (leads_of ws) paces ns ks → map (λ (c : Slave). c.pace) cs ≡ paces → AllEager lens (seen lens f.sent) ms (leads_of ws) (turns_of vs) → AllRemember (seen lens f.back) ms ms' (leads_of ws) (turns_of vs) →
      AllStill (served_behind lens recover retry gives made f) vs → made ≡ number → AllCounted ts ws → SameAll (speech_at lens) number (seen lens f.sent) (seen lens f.back) cs (map (back_under (seen lens f.back)) vs) → AllStanding lens ss (nexts_of (leads_of ws)) cs ns ms ts →
      AllReady lens number (seen lens f.sent) (seen lens f.back) ss (leads_of ws) cs (map (back_under (seen lens f.back)) vs) (nexts_then vs) ns ks ms ms' ts
  all_ready [] [] [] [] [] [] [] [] [] [] o z l t met p e r b i q same k = AllReady.none
  all_ready [] (w ∷ ws) cs vs ps ns ks ms ms' ts o z l t met p e r b i q same k = absurd o
  all_ready [] [] (c ∷ cs) vs ps ns ks ms ms' ts o z l t met p e r b i q same k = absurd l
  all_ready [] [] [] (v ∷ vs) ps ns ks ms ms' ts o z l t met p e r b i q same k = absurd t
  all_ready [] [] [] [] (h ∷ ps) ns ks ms ms' ts o z l t met p e r b i q same k = absurd met
  all_ready [] [] [] [] [] (n ∷ ns) ks ms ms' ts o z l t met p e r b i q same k = absurd o
  all_ready [] [] [] [] [] [] (n ∷ ks) ms ms' ts o z l t met p e r b i q same k = absurd met
  all_ready [] [] [] [] [] [] [] (m ∷ ms) ms' ts o z l t met p e r b i q same k = absurd e
  all_ready [] [] [] [] [] [] [] [] (m ∷ ms') ts o z l t met p e r b i q same k = absurd r
  all_ready [] [] [] [] [] [] [] [] [] (y ∷ ts) o z l t met p e r b i q same k = absurd k
  all_ready (s ∷ ss) [] cs vs ps ns ks ms ms' ts o z l t met p e r b i q same k = absurd o
  all_ready (s ∷ ss) (w ∷ ws) [] vs ps ns ks ms ms' ts o z l t met p e r b i q same k = absurd l
  all_ready (s ∷ ss) (w ∷ ws) (c ∷ cs) [] ps ns ks ms ms' ts o z l t met p e r b i q same k = absurd t
  all_ready (s ∷ ss) (w ∷ ws) (c ∷ cs) (v ∷ vs) [] ns ks ms ms' ts o z l t met p e r b i q same k = absurd met
  all_ready (s ∷ ss) (w ∷ ws) (c ∷ cs) (v ∷ vs) (h ∷ ps) [] ks ms ms' ts o z l t met p e r b i q same k = absurd o
  all_ready (s ∷ ss) (w ∷ ws) (c ∷ cs) (v ∷ vs) (h ∷ ps) (n ∷ ns) [] ms ms' ts o z l t met p e r b i q same k = absurd met
  all_ready (s ∷ ss) (w ∷ ws) (c ∷ cs) (v ∷ vs) (h ∷ ps) (n ∷ ns) (n' ∷ ks) [] ms' ts o z l t met p e r b i q same k = absurd e
  all_ready (s ∷ ss) (w ∷ ws) (c ∷ cs) (v ∷ vs) (h ∷ ps) (n ∷ ns) (n' ∷ ks) (m ∷ ms) [] ts o z l t met p e r b i q same k = absurd r
  all_ready (s ∷ ss) (w ∷ ws) (c ∷ cs) (v ∷ vs) (h ∷ ps) (n ∷ ns) (n' ∷ ks) (m ∷ ms) (m' ∷ ms') [] o z l t met p e r b i q same k = absurd k
  all_ready (s ∷ ss) (w ∷ ws) (c ∷ cs) (v ∷ vs) (h ∷ ps) (n ∷ ns) (n' ∷ ks) (m ∷ ms) (m' ∷ ms') (y ∷ ts) o z l t met p e r b i q same k =
      let pace : c.pace ≡ h = (let both : c.pace ∷ map (λ (a : Slave). a.pace) cs ≡ h ∷ ps = p in cc) in
      let paces : map (λ (a : Slave). a.pace) cs ≡ ps = (let both : c.pace ∷ map (λ (a : Slave). a.pace) cs ≡ h ∷ ps = p in cc) in
      AllReady.one s ss w.lead (leads_of ws) c cs (back_under back v) (map (back_under back) vs) (slice_get v.turn.script v.turn.number) (nexts_then vs) n ns n' ks m ms m' ms' y ts
      (counted_ready s w c v n n' m m' y l.0 l.1 t.0 o.0 z.0 (λ e. subst (λ a. IsMet lens sent back number a s n n') (sym pace) (met.0 e)) e.0 r.0 b.0 i q.0 same.0)
      (all_ready ss ws cs vs ps ns ks ms ms' ts o.1 z.1 l.2 t.1 met.1 paces e.1 r.1 b.1 i q.1 same.1 k.1)
