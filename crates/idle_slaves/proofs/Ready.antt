-- The slaves of a plan's run by such a frame, where no mail is passed on.
use Rattle.std.proofs.Common.{◌≡◌, ℕ, suc, Bool, true, false, is_some, Option, Some, None, List, [], ◌∷◌, length, map, refl, sym, ap, ◌∙◌, subst, if◌then◌else◌}
use Rattle.std.specs.Prelude.{◌&&◌, nat_lt, slice_get, All, ⊤}
use Rattle.std.proofs.lemmas.List.Elements.{All-head, All-tail}
use Rattle.plan_ring.specs.of_datagrams.Datagram as Raw
use Rattle.idle_slaves.specs.Eager.{Remembered, IsEager, RemembersOn, AllEager, AllRemember}
use Rattle.idle_slaves.specs.EagerFrames.{One}
use Rattle.idle_slaves.proofs.Choices.{stand_next}
use Rattle.idle_slaves.proofs.Sent.{one_sent, none_sent}
use Rattle.plan_ring.specs.of_exchange_model.Exchange.{Speech}
use Rattle.plan_ring.specs.of_frame_view.Seen.{datagrams_seen}
use Rattle.plan_ring.specs.of_frame_view.View.{Lens}
use Rattle.idle_slaves.proofs.Returning.{passing_is}
use Rattle.plan_ring.specs.of_life_model.Gains.{gains}
use Rattle.plan_ring.specs.of_life_model.Lives.{Life, Spot, Stand, life_next, life_back, granted, passes, passing_begins}
use Rattle.plan_ring.specs.of_life_model.Own.{own}
use Rattle.plan_ring.specs.of_life_runs.First.{lens_of}
use Rattle.plan_ring.specs.of_life_runs.Led.{Exchanged, Leads, Turn, IsTurn, AllTurn, Comes, led_behind, speech_at, is_passed}
use Rattle.plan_ring.specs.of_link_mails.Body.{Body}
use Rattle.plan_ring.specs.of_link_model.Frames.{all_accepted}
use Rattle.plan_ring.specs.of_master_duty.Reply.{Reply}
use Rattle.plan_ring.specs.of_master_hand.Spoken.{Asked, acknowledged, is_followed}
use Rattle.plan_ring.specs.of_slave_model.Waits.{NeverWaits}
use Rattle.plan_ring.specs.PlanMet.{IsMet, AllOpenAt, AllMet}
use Rattle.plan_ring.specs.Asked.{asked, is_service}
use Rattle.plan_ring.specs.of_run_frames.Goes.{Under, back_life}
use Rattle.plan_ring.specs.of_run_frames.Led.{AreLed, under_of, unders}
use Rattle.plan_ring.specs.of_run_frames.Waits.{Waits}
use Rattle.plan_ring.specs.of_segment_model.Ends.{Passing}
use Rattle.plan_ring.specs.of_segment_model.Slaves.{Datagram, grams}
use Rattle.plan_ring.specs.of_segment_plan.Sound.{IsSlave}
use Rattle.plan_ring.specs.of_segment_plan.declared.plan.Scenario.{Scenario}
use Rattle.plan_ring.specs.of_segment_plan.declared.service.Service as Plan
use Rattle.plan_ring.specs.of_segment_plan.declared.slave.SlaveSpec.{SlaveSpec}
use Rattle.plan_ring.specs.of_slave_model.Profile.{Profile, IsProfile}
use Rattle.plan_ring.specs.of_slave_server.Serving.{Serving}
use Rattle.plan_ring.specs.of_slave_server.Spec.{profile_of}
use Rattle.plan_ring.specs.of_slave_node.Node.{Node}
use Rattle.plan_ring.specs.of_state_model.Stated.{Service}
use Rattle.plan_ring.specs.of_state_model.Accounts.{Account}
use Rattle.idle_slaves.specs.WaitEager.{AllSilent, AllUnpassed}
use Rattle.idle_slaves.proofs.Fits.{AllReady, AllSeated, IsReady, IsSeated, Slave, next_of, nexts_of}
use Rattle.idle_slaves.proofs.Lists.{AllQuiet, AllStanding, SameAll}
use Rattle.idle_slaves.proofs.Opened.{seated}
use Rattle.idle_slaves.proofs.Rests.{over_rests}
use Rattle.idle_slaves.proofs.Took.{mails_is}

-- a service of the slave's passes no mail on
plain_service : (q : Asked) → is_service q ≡ true → is_passed q ≡ false
plain_service (Asked.sdo q) e = refl
plain_service (Asked.file q) e = refl
plain_service (Asked.drive q) e = refl
plain_service (Asked.net q) e = refl
plain_service (Asked.passed m) e = absurd (cc)

-- a script at its end stays there
pub script_end : (room : ℕ) (script : List Plan.Service) (n n' : ℕ) (begun : Option (Service Asked)) → Comes room script n begun n' → slice_get script n ≡ None → slice_get script n' ≡ None
script_end room script n n' begun Comes.none none = none
script_end room script n n' begun (Comes.mails s q at asks) none = absurd (let no : Some s ≡ None = sym at ∙ none in cc)
script_end room script n n' begun (Comes.state target at) none = absurd (let no : Some (Plan.Service.State target) ≡ None = sym at ∙ none in cc)
script_end room script n n' begun (Comes.packet octets frame) none = none

-- a change of state that comes into hand was left of the script
pub state_left : (room : ℕ) (script : List Plan.Service) (n n' : ℕ) (begun : Option (Service Asked)) (target : ℕ) → Comes room script n begun n' → begun ≡ Some (Service.State target) → slice_get script n ≡ None → ⊥
state_left room script n n' begun target Comes.none is none = (let no : None ≡ Some (Service.State target) = is in cc)
state_left room script n n' begun target (Comes.mails s q at asks) is none = (let no : Some s ≡ None = sym at ∙ none in cc)
state_left room script n n' begun target (Comes.state word at) is none = (let no : Some (Plan.Service.State word) ≡ None = sym at ∙ none in cc)
state_left room script n n' begun target (Comes.packet octets frame) is none = (let no : Some (Service.Mails _) ≡ Some (Service.State target) = is in cc)

-- their scripts behind a frame
abbrev pub nexts_behind : List Turn → List (Option Plan.Service)
nexts_behind [] = []
nexts_behind (u ∷ us) = slice_get u.script u.number ∷ nexts_behind us

pub nexts_led : (lens : ℕ → Lens) (recover retry : ℕ) (gives : Bool) (made : ℕ) (f : Exchanged) (us : List Turn) → nexts_of (map (led_behind lens recover retry gives made f) us) ≡ nexts_behind us
nexts_led lens recover retry gives made f [] = refl
nexts_led lens recover retry gives made f (u ∷ us) = ap (λ zs. slice_get u.script u.number ∷ zs) (nexts_led lens recover retry gives made f us)

module _ (plan : Scenario) where
  abbrev pub NeverAll : List SlaveSpec → Type 0
  NeverAll [] = ⊤
  NeverAll (s ∷ ss) = NeverWaits (asked (profile_of s) s.boot (lens_of plan.slaves)).exchange × NeverAll ss

  -- no client of a plan's slave waits in vain
  pub never_all : ((p : Profile) → IsProfile p → (boot : Bool) (lens : ℕ → Lens) → NeverWaits (asked p boot lens).exchange) → (ss : List SlaveSpec) → All IsSlave ss → All (λ (s : SlaveSpec). length s.mac ≡ 6) ss → NeverAll ss
  never_all law [] a b = tt
  never_all law (s ∷ ss) a b =
      let slave : IsSlave s = All-head IsSlave s ss a in
      let mac : length s.mac ≡ 6 = All-head (λ (z : SlaveSpec). length z.mac ≡ 6) s ss b in (
        law (profile_of s) (record { out_least = slave.out_least; out_most = slave.out_most; back_least = slave.in_least; back_most = slave.in_most; mac = mac }) s.boot (lens_of plan.slaves),
        never_all law ss (All-tail IsSlave s ss a) (All-tail (λ (z : SlaveSpec). length z.mac ≡ 6) s ss b),
      )

  pub all_seated : (fs : List Exchanged) (place : ℕ) (ss : List SlaveSpec) (as' : List Leads) (ns : List (Node Serving)) → AllOpenAt plan fs place ss as' ns → NeverAll ss → AllUnpassed as' → AllSeated (lens_of plan.slaves) ss as' ns
  all_seated fs place [] [] [] o never b = tt
  all_seated fs place [] (a ∷ as') ns o never b = absurd o
  all_seated fs place [] [] (n ∷ ns) o never b = absurd o
  all_seated fs place (s ∷ ss) [] ns o never b = absurd o
  all_seated fs place (s ∷ ss) (a ∷ as') [] o never b = absurd o
  all_seated fs place (s ∷ ss) (a ∷ as') (n ∷ ns) o never b = (seated plan fs place s a n o.0 never.0 b.0, all_seated fs (suc place) ss as' ns o.1 never.1 b.1)

module _ (lens : ℕ → Lens) (number : ℕ) (sent back : List (Datagram Body)) (ds : List Raw.Datagram) (view : sent ≡ datagrams_seen lens ds) where
  -- ONE SLAVE, at the station and with the life that its master has for it
  module _ (s : SlaveSpec) (a : Leads) (pace : ℕ) (stepped : Bool) (u : Turn) (n k : Node Serving) (m m' : Remembered) (t : Waits) (turn : IsTurn lens number ds a u) (seat : IsSeated lens s a n)
      (met : a.lived.life.stand ≡ Stand.Open → IsMet lens sent back number pace s n k) (eager : IsEager (speech_at lens a.lived.spot) a.lived.spot.station sent m u.share.under u.begun (next_of a) a.lived.life u.lived.life)
      (remembers : RemembersOn a.lived.spot.station back m m' u.share.under a.lived.life u.lived.life) (unpassed : a.lived.life.era.passing ≡ None) where
    abbrev led : Slave
    led = record { spot = a.lived.spot; life = a.lived.life; pace = pace; stepped = stepped }

    abbrev x : Speech Body Asked Reply
    x = speech_at lens a.lived.spot

    abbrev l : Life Body Asked Reply
    l = a.lived.life

    abbrev v : Under Body Asked Reply
    v = under_of back u

    stand_is : u.lived.life.stand ≡ l.stand
    stand_is = ap (λ (z : Life Body Asked Reply). z.stand) turn.next.life ∙ stand_next x acknowledged is_followed is_passed number l turn.next.pick

    -- none is passed on by it
    none_passes : (b : Option (Service Asked)) → u.begun ≡ b → passing_begins x acknowledged is_followed is_passed None l.era.account u.lived.life.era.account b ≡ None
    none_passes None is = refl
    none_passes (Some (Service.State target)) is = refl
    none_passes (Some (Service.Mails q)) is =
        ap (λ (z : Bool). if z && nat_lt (length l.era.account.started) (length u.lived.life.era.account.started) then Some Passing.Waiting else None)
        (plain_service q (mails_is (lens a.lived.spot.station).out a.script a.number q u.begun u.number turn.comes is))

    at_open : l.stand ≡ Stand.Open → u.lived.life ≡ life_next x acknowledged is_followed is_passed number l Stand.Open turn.next.pick
    at_open stands = turn.next.life ∙ ap (λ y. life_next x acknowledged is_followed is_passed number l y turn.next.pick) stands

    unpassed_u : l.stand ≡ Stand.Open → u.lived.life.era.passing ≡ None
    unpassed_u stands =
        ap (λ (z : Life Body Asked Reply). z.era.passing) (at_open stands)
        ∙ ap (λ (b : Account Asked Reply). passing_begins x acknowledged is_followed is_passed l.era.passing l.era.account b (granted l.era.passing turn.next.pick).begin) (sym (ap (λ (z : Life Body Asked Reply). z.era.account) (at_open stands)))
        ∙ ap (λ b. passing_begins x acknowledged is_followed is_passed l.era.passing l.era.account u.lived.life.era.account b) (ap (λ z. (granted z turn.next.pick).begin) unpassed ∙ turn.begun)
        ∙ ap (λ p. passing_begins x acknowledged is_followed is_passed p l.era.account u.lived.life.era.account u.begun) unpassed ∙ none_passes u.begun refl

    still : l.stand ≡ Stand.Open → (back_life (speech_at lens) acknowledged is_followed is_passed number back led v).era.passing ≡ u.lived.life.era.passing
    still stands =
        ap (λ y. (life_back x acknowledged is_followed is_passed number a.lived.spot [] back v.came u.lived.life y).era.passing) (stand_is ∙ stands)
        ∙ passing_is x acknowledged is_followed is_passed number a.lived.spot [] back v.came u.lived.life
        ∙ ap (λ p. passes x acknowledged is_followed is_passed p []) (unpassed_u stands) ∙ sym (unpassed_u stands)

    pub ready : gains (back_life (speech_at lens) acknowledged is_followed is_passed number back led v) ≡ gains l → IsReady lens number sent back s a led v (slice_get u.script u.number) n k m m' t
    ready same = record {
      begun = u.begun;
      pick = turn.next.pick;
      life = turn.next.life;
      wish = turn.begun;
      took = turn.took;
      script = λ none. ap (λ z. slice_get z u.number) turn.script ∙ script_end (lens a.lived.spot.station).out a.script a.number u.number u.begun turn.comes none;
      own_state = λ target is. state_left (lens a.lived.spot.station).out a.script a.number u.number u.begun target turn.comes is;
      one = λ stands under. subst (λ (z : Spot). One z.station sent) turn.next.spot (one_sent lens ds sent view u.lived.spot u.share u.lived.life.stand stands turn.asked.has under);
      none = λ out. subst (λ (z : Spot). own z.station sent ≡ []) turn.next.spot (none_sent lens ds sent view u.lived.spot u.share u.lived.life.stand turn.asked.has out);
      station = seat.station;
      fits = seat.fits;
      met = met;
      eager = eager;
      remembers = remembers;
      same = same;
      still = still;
      tells = λ open_now some d one. absurd (let no : false ≡ true = sym (ap is_some (unpassed_u (sym stand_is ∙ open_now))) ∙ some in cc);
      rest = over_rests lens s a n m seat;
    }

  -- as it is counted
  counted_ready : (s : SlaveSpec) (a : Leads) (c : Slave) (u : Turn) (n k : Node Serving) (m m' : Remembered) (t : Waits) → c.spot ≡ a.lived.spot → c.life ≡ a.lived.life → IsTurn lens number ds a u → IsSeated lens s a n →
      (a.lived.life.stand ≡ Stand.Open → IsMet lens sent back number c.pace s n k) → IsEager (speech_at lens a.lived.spot) a.lived.spot.station sent m u.share.under u.begun (next_of a) a.lived.life u.lived.life →
      RemembersOn a.lived.spot.station back m m' u.share.under a.lived.life u.lived.life → a.lived.life.era.passing ≡ None → gains (back_life (speech_at lens) acknowledged is_followed is_passed number back c (under_of back u)) ≡ gains c.life →
      IsReady lens number sent back s a c (under_of back u) (slice_get u.script u.number) n k m m' t
  counted_ready s a c u n k m m' t spot life turn seat met eager remembers unpassed same =
      let as_led : c ≡ record { spot = a.lived.spot; life = a.lived.life; pace = c.pace; stepped = c.stepped } = (λ i. record { spot = spot i; life = life i; pace = c.pace; stepped = c.stepped }) in
      subst (λ (z : Slave). IsReady lens number sent back s a z (under_of back u) (slice_get u.script u.number) n k m m' t) (sym as_led)
      (ready s a c.pace c.stepped u n k m m' t turn seat met eager remembers unpassed (subst (λ (z : Slave). gains (back_life (speech_at lens) acknowledged is_followed is_passed number back z (under_of back u)) ≡ gains z.life) as_led same))

  pub all_ready : (ss : List SlaveSpec) (as' : List Leads) (cs : List Slave) (us : List Turn) (paces : List ℕ) (ns ks : List (Node Serving)) (ms ms' : List Remembered) (ts : List Waits) → AllSeated lens ss as' ns → AreLed as' cs → AllTurn lens number ds as' us →
      AllMet lens sent back number ss as' paces ns ks → map (λ (c : Slave). c.pace) cs ≡ paces → AllEager lens sent ms as' us → AllRemember back ms ms' as' us → AllUnpassed as' → SameAll (speech_at lens) number sent back cs (unders back us) →
      AllStanding lens ss (nexts_of as') cs ns ms ts → AllReady lens number sent back ss as' cs (unders back us) (nexts_behind us) ns ks ms ms' ts
  all_ready [] [] [] [] [] [] [] [] [] [] o l t met p e r b s k = AllReady.none
  all_ready [] (a ∷ as') cs us ps ns ks ms ms' ts o l t met p e r b s k = absurd o
  all_ready [] [] (c ∷ cs) us ps ns ks ms ms' ts o l t met p e r b s k = absurd l
  all_ready [] [] [] (u ∷ us) ps ns ks ms ms' ts o l t met p e r b s k = absurd t
  all_ready [] [] [] [] (h ∷ ps) ns ks ms ms' ts o l t met p e r b s k = absurd met
  all_ready [] [] [] [] [] (n ∷ ns) ks ms ms' ts o l t met p e r b s k = absurd o
  all_ready [] [] [] [] [] [] (n ∷ ks) ms ms' ts o l t met p e r b s k = absurd met
  all_ready [] [] [] [] [] [] [] (m ∷ ms) ms' ts o l t met p e r b s k = absurd e
  all_ready [] [] [] [] [] [] [] [] (m ∷ ms') ts o l t met p e r b s k = absurd r
  all_ready [] [] [] [] [] [] [] [] [] (w ∷ ts) o l t met p e r b s k = absurd k
  all_ready (s ∷ ss) [] cs us ps ns ks ms ms' ts o l t met p e r b same k = absurd o
  all_ready (s ∷ ss) (a ∷ as') [] us ps ns ks ms ms' ts o l t met p e r b same k = absurd l
  all_ready (s ∷ ss) (a ∷ as') (c ∷ cs) [] ps ns ks ms ms' ts o l t met p e r b same k = absurd t
  all_ready (s ∷ ss) (a ∷ as') (c ∷ cs) (u ∷ us) [] ns ks ms ms' ts o l t met p e r b same k = absurd met
  all_ready (s ∷ ss) (a ∷ as') (c ∷ cs) (u ∷ us) (h ∷ ps) [] ks ms ms' ts o l t met p e r b same k = absurd o
  all_ready (s ∷ ss) (a ∷ as') (c ∷ cs) (u ∷ us) (h ∷ ps) (n ∷ ns) [] ms ms' ts o l t met p e r b same k = absurd met
  all_ready (s ∷ ss) (a ∷ as') (c ∷ cs) (u ∷ us) (h ∷ ps) (n ∷ ns) (n' ∷ ks) [] ms' ts o l t met p e r b same k = absurd e
  all_ready (s ∷ ss) (a ∷ as') (c ∷ cs) (u ∷ us) (h ∷ ps) (n ∷ ns) (n' ∷ ks) (m ∷ ms) [] ts o l t met p e r b same k = absurd r
  all_ready (s ∷ ss) (a ∷ as') (c ∷ cs) (u ∷ us) (h ∷ ps) (n ∷ ns) (n' ∷ ks) (m ∷ ms) (m' ∷ ms') [] o l t met p e r b same k = absurd k
  all_ready (s ∷ ss) (a ∷ as') (c ∷ cs) (u ∷ us) (h ∷ ps) (n ∷ ns) (n' ∷ ks) (m ∷ ms) (m' ∷ ms') (w ∷ ts) o l t met p e r b same k =
      let pace : c.pace ≡ h = (let both : c.pace ∷ map (λ (z : Slave). z.pace) cs ≡ h ∷ ps = p in cc) in
      let paces : map (λ (z : Slave). z.pace) cs ≡ ps = (let both : c.pace ∷ map (λ (z : Slave). z.pace) cs ≡ h ∷ ps = p in cc) in
      AllReady.one s ss a as' c cs (under_of back u) (unders back us) (slice_get u.script u.number) (nexts_behind us) n ns n' ks m ms m' ms' w ts
      (counted_ready s a c u n n' m m' w l.0 l.1 t.0 o.0 (λ e. subst (λ z. IsMet lens sent back number z s n n') (sym pace) (met.0 e)) e.0 r.0 b.0 same.0)
      (all_ready ss as' cs us ps ns ks ms ms' ts o.1 l.2 t.1 met.1 paces e.1 r.1 b.1 same.1 k.1)

  -- no mail is heard of any open one
  pub all_silent : (as' : List Leads) (cs : List Slave) (us : List Turn) → AreLed as' cs → AllTurn lens number ds as' us → AllQuiet lens number sent back cs (unders back us) → AllSilent back us
  all_silent [] [] [] l t k = tt
  all_silent [] [] (u ∷ us) l t k = absurd t
  all_silent [] (c ∷ cs) us l t k = absurd l
  all_silent (a ∷ as') [] us l t k = absurd l
  all_silent (a ∷ as') (c ∷ cs) [] l t k = absurd t
  all_silent (a ∷ as') (c ∷ cs) (u ∷ us) l t k = (
    λ stands. subst (λ (z : Spot). all_accepted z.station u.lived.life.era.side.halves (grams (own z.station back)) ≡ []) (l.0 ∙ sym t.0.next.spot) (k.0 stands),
    all_silent as' cs us l.2 t.1 k.1,
  )
