-- WHAT IS NOTED BEFORE A FRAME: what came into hand of a slave.
use Rattle.std.proofs.Common.{◌≡◌, ◌⊎◌, inl, inr, ℕ, suc, ◌+◌, ◌<◌, Bool, true, false, Option, Some, None, List, [], ◌∷◌, ◌++◌, length, length-append, refl, ap, sym, ◌∙◌, subst, arith, append_assoc, append-nil}
use Rattle.std.specs.Prelude.{nat_lt, is_some, if◌then◌else◌}
use Rattle.std.specs.List.{All}
use Rattle.std.proofs.lemmas.Bool.{ltb-true, ltb-false}
use Rattle.std.proofs.lemmas.List.{map-append}
use Rattle.life_runs.specs.of_datagrams.Datagram as Raw
use Rattle.life_runs.specs.of_protocol_models.EoeClient as EoeClient
use Rattle.life_runs.specs.of_exchange_model.Areas.{Areas}
use Rattle.life_runs.specs.of_exchange_model.Exchange.{Speech}
use Rattle.life_runs.specs.of_exchange_model.Rows.{Row}
use Rattle.life_runs.specs.of_frame_view.View.{Lens}
use Rattle.life_runs.specs.Spans.{SameEpochs, is_leaving, is_open}
use Rattle.life_runs.specs.of_life_model.Lives.{Era, Life, Stand, granted, life_next, returns_to_init}
use Rattle.life_runs.specs.Led.{Leads, Turn, Comes, Took, IsTurn, is_passed, speech_at}
use Rattle.life_runs.specs.of_link_mails.Body.{Body}
use Rattle.life_runs.specs.of_master_duty.Reply.{Reply}
use Rattle.life_runs.specs.of_master_hand.Spoken.{Asked, sdo, file, drive, net, handed, acknowledged, is_followed}
use Rattle.life_runs.specs.of_master_hand.Talk.{asked_of}
use Rattle.run_frames.specs.Came.{is_beside}
use Rattle.life_runs.specs.of_segment_model.Ends.{Passing}
use Rattle.life_runs.specs.of_segment_model.Seats.{newest, rows_of}
use Rattle.life_runs.specs.of_segment_plan.declared.service.Service as Plan
use Rattle.life_runs.specs.of_state_model.Stated.{Service}
use Rattle.life_runs.specs.of_state_model.Accounts.{Duty, Stage, Pick, is_free, starts, Started}
use Rattle.life_runs.specs.of_state_model.Promise.{services_in, mails_in}
use Rattle.run_frames.specs.ScriptAnswers.{Came, Noted, AllNoted, EraRests, NewestBeside, RestsSo, Awaits, Changes, ComesAnew, IsStill, IsAwaiting, Waits, StandsBy, IsNew, IsSpared, FreshBy, IsNoted, answers_in, side_answers, states_in, now_answer, scripted_in, scripted_mails, era_scripted, eras_scripted, over_scripted, life_scripted, turned}
use Rattle.run_frames.specs.Steps.{awaited, with_begun, ComesBy, IsBefore, Turns, TurnsBy, TurnsSo}
use Rattle.run_frames.proofs.Backs.{past_scripted}
use Rattle.run_frames.proofs.Lists.{Answer, scripted_state, scripted_one, no_outcome, mails_more, states_more, changes_same, noted_more}
use Rattle.run_frames.proofs.Sides.{Rests, Mails, State, longer, rests, mails, state, not_free}

-- NO SERVICE OF A SCRIPT is a packet, and each has a reply
abbrev among : (Asked → Bool) → Option Asked → Bool
among test None = false
among test (Some q) = test q

none_set : (test : Asked → Bool) → ((block : List ℕ) → test (net (EoeClient.set_ip block)) ≡ false) → (b : Bool) (block : List ℕ) → among test (if b then None else Some (net (EoeClient.set_ip block))) ≡ false
none_set test h true block = refl
none_set test h false block = h block

none_of : (test : Asked → Bool) → ((q : _) → test (sdo q) ≡ false) → ((q : _) → test (file q) ≡ false) → ((q : _) → test (drive q) ≡ false) → ((block : List ℕ) → test (net (EoeClient.set_ip block)) ≡ false) → test (net EoeClient.get_ip) ≡ false →
    (room : ℕ) (s : Plan.Service) → among test (asked_of room s) ≡ false
none_of test a b c d e room (Plan.Service.Sdo service) = a _
none_of test a b c d e room (Plan.Service.ReadFile name pass) = b _
none_of test a b c d e room (Plan.Service.WriteFile name pass bytes) = b _
none_of test a b c d e room (Plan.Service.ReadIdn number idn elements) = c _
none_of test a b c d e room (Plan.Service.WriteIdn number idn elements bytes) = c _
none_of test a b c d e room (Plan.Service.SetIp block) = none_set test d (nat_lt room (length block + 10)) block
none_of test a b c d e room Plan.Service.GetIp = e
none_of test a b c d e room (Plan.Service.State target) = refl
none_of test a b c d e room (Plan.Service.Forward packet) = refl

pub not_packet : (room : ℕ) (s : Plan.Service) (q : Asked) → asked_of room s ≡ Some q → is_beside (Service.Mails q) ≡ false
not_packet room s q e = ap (among (λ q. is_beside (Service.Mails q))) (sym e) ∙ none_of (λ q. is_beside (Service.Mails q)) (λ q. refl) (λ q. refl) (λ q. refl) (λ b. refl) refl room s

-- nor a mail that is passed on
pub none_passed : (room : ℕ) (s : Plan.Service) (q : Asked) → asked_of room s ≡ Some q → is_passed q ≡ false
none_passed room s q e = ap (among is_passed) (sym e) ∙ none_of is_passed (λ q. refl) (λ q. refl) (λ q. refl) (λ b. refl) refl room s

pub has_reply : (areas : Areas) (room : ℕ) (s : Plan.Service) (q : Asked) → asked_of room s ≡ Some q → handed areas q ≡ false
has_reply areas room s q e = ap (among (handed areas)) (sym e) ∙ none_of (handed areas) (λ q. refl) (λ q. refl) (λ q. refl) (λ b. refl) refl room s

-- WHERE A SLAVE STANDS as before, its epoch is as new as before
pub fresh_same : (stand : Stand) (gave : List ℕ) (e e' : Era Body Asked Reply) → e'.opened ≡ e.opened → (is_open stand ≡ false → e' ≡ e) → FreshBy stand gave e → FreshBy stand gave e'
fresh_same (Stand.Opens o) gave e e' opened same h = λ stays. subst (λ (z : Era Body Asked Reply). IsNew z) (sym (same refl)) (h stays)
fresh_same Stand.Open gave e e' opened same h = record { from = h.from; opened = opened ∙ h.opened; before = h.before }
fresh_same Stand.Gone gave e e' opened same h = tt

-- one that is open goes on so
pub spared : (stand : Stand) (gave : List ℕ) (e : Era Body Asked Reply) → stand ≡ Stand.Open → FreshBy stand gave e → IsSpared gave e
spared stand gave e s h = subst (λ (z : Stand). FreshBy z gave e) s h

pub fresh_open : (l m : Life Body Asked Reply) → l.stand ≡ Stand.Open → m.stand ≡ Stand.Open → m.gave ≡ l.gave → m.era.opened ≡ l.era.opened → FreshBy l.stand l.gave l.era → FreshBy m.stand m.gave m.era
fresh_open l m s t gave opened h =
    let k : IsSpared l.gave l.era = spared l.stand l.gave l.era s h in
    let on : IsSpared m.gave m.era = record { from = k.from; opened = opened ∙ k.opened; before = subst (λ (z : List ℕ). All (λ n. n < k.from) z) (sym gave) k.before } in
    subst (λ (z : Stand). FreshBy z m.gave m.era) (sym t) on

-- what its services come to, if a frame opens it anew
pub over_same : (l m : Life Body Asked Reply) → m.gave ≡ l.gave → m.past ≡ l.past → m.stand ≡ l.stand → m.era ≡ l.era → (x : Option ℕ) → over_scripted m x ≡ over_scripted l x
over_same l m gave past stand era x = λ i. eras_scripted (gave i) (if is_leaving (stand i) then past i ++ era i ∷ [] else past i) x

-- A LIFE BEFORE A FRAME
not_granted : {Q : Type 0} (passing : Option Passing) (p : Pick Q) → p.begin ≡ None → (granted passing p).begin ≡ None
not_granted None p e = e
not_granted (Some passing) p e = refl

as_wished : {Q : Type 0} (passing : Option Passing) (p : Pick Q) (s : Service Q) → p.begin ≡ Some s → ((granted passing p).begin ≡ Some s) ⊎ ((granted passing p).begin ≡ None)
as_wished None p s e = inl e
as_wished (Some passing) p s e = inr refl

module _ (x : Speech Body Asked Reply) (made : ℕ) (l : Life Body Asked Reply) (pick : Pick Asked) where
  abbrev next : Stand → Life Body Asked Reply
  next stand = life_next x acknowledged is_followed is_passed made l stand pick

  pub record LifeRests (m : Life Body Asked Reply) : Type 0 where
    pub past : m.past ≡ l.past
    pub stand : m.stand ≡ l.stand
    pub era : Rests x acknowledged made l.era.side l.era.account m.era.account m.era.side
    pub still : is_open l.stand ≡ false → m.era ≡ l.era
    pub gave : m.gave ≡ l.gave
    pub opened : m.era.opened ≡ l.era.opened

  pub record LifeMails (q : Asked) (m : Life Body Asked Reply) : Type 0 where
    pub past : m.past ≡ l.past
    pub stand : m.stand ≡ Stand.Open
    pub was : l.stand ≡ Stand.Open
    pub era : Mails x acknowledged made l.era.side l.era.account q m.era.account m.era.side
    pub gave : m.gave ≡ l.gave
    pub opened : m.era.opened ≡ l.era.opened

  pub record LifeState (target : ℕ) (m : Life Body Asked Reply) : Type 0 where
    pub past : m.past ≡ l.past
    pub stand : m.stand ≡ Stand.Open
    pub was : l.stand ≡ Stand.Open
    pub era : State x acknowledged made l.era.side l.era.account target m.era.account m.era.side
    pub gave : m.gave ≡ l.gave
    pub opened : m.era.opened ≡ l.era.opened

  same_era : Rests x acknowledged made l.era.side l.era.account l.era.account l.era.side
  same_era = record { started = refl; hand = refl; answers = refl; past = refl; row = λ r e. record { row = r; is = e; service = refl; answer = refl }; over = refl; rests = λ h. h }

  abbrev granted_pick : Pick Asked
  granted_pick = granted l.era.passing pick

  pub life_rests : (stand : Stand) → l.stand ≡ stand → pick.begin ≡ None → LifeRests (next stand)
  life_rests (Stand.Opens o) s e = record { past = refl; stand = refl; era = same_era; still = λ t. refl; gave = refl; opened = refl }
  life_rests Stand.Open s e = record { past = refl; stand = refl; era = rests x acknowledged made l.era.side l.era.account granted_pick.begin granted_pick.hold (not_granted l.era.passing pick e); still = λ t. absurd (let bad : true ≡ false = sym (ap is_open s) ∙ t in cc); gave = refl; opened = refl }
  life_rests Stand.Gone s e = record { past = refl; stand = refl; era = same_era; still = λ t. refl; gave = refl; opened = refl }

  pub life_mails : (stand : Stand) → l.stand ≡ stand → (q : Asked) → pick.begin ≡ Some (Service.Mails q) → (next stand).era.account.started ≡ starts l.era.account (Service.Mails q) made → LifeMails q (next stand)
  life_mails (Stand.Opens o) s q e grew = absurd (longer l.era.account.started _ grew)
  life_mails Stand.Gone s q e grew = absurd (longer l.era.account.started _ grew)
  life_mails Stand.Open s q e grew = by (as_wished l.era.passing pick (Service.Mails q) e)
    where
      by : (granted_pick.begin ≡ Some (Service.Mails q)) ⊎ (granted_pick.begin ≡ None) → LifeMails q (next Stand.Open)
      by (inl is) = record { past = refl; stand = s; was = s; era = mails x acknowledged made l.era.side l.era.account granted_pick.begin granted_pick.hold q is grew; gave = refl; opened = refl }
      by (inr none) = absurd (longer l.era.account.started _ (sym (rests x acknowledged made l.era.side l.era.account granted_pick.begin granted_pick.hold none).started ∙ grew))

  pub life_state : (stand : Stand) → l.stand ≡ stand → (target : ℕ) → pick.begin ≡ Some (Service.State target) → (next stand).era.account.started ≡ starts l.era.account (Service.State target) made → LifeState target (next stand)
  life_state (Stand.Opens o) s target e grew = absurd (longer l.era.account.started _ grew)
  life_state Stand.Gone s target e grew = absurd (longer l.era.account.started _ grew)
  life_state Stand.Open s target e grew = by (as_wished l.era.passing pick (Service.State target) e)
    where
      by : (granted_pick.begin ≡ Some (Service.State target)) ⊎ (granted_pick.begin ≡ None) → LifeState target (next Stand.Open)
      by (inl is) = record { past = refl; stand = s; was = s; era = state x acknowledged made l.era.side l.era.account granted_pick.begin granted_pick.hold target is grew; gave = refl; opened = refl }
      by (inr none) = absurd (longer l.era.account.started _ (sym (rests x acknowledged made l.era.side l.era.account granted_pick.begin granted_pick.hold none).started ∙ grew))

  -- what that makes of the scripted services
  pub rests_scripted : (m : Life Body Asked Reply) → LifeRests m → life_scripted m ≡ life_scripted l
  rests_scripted m r = λ i. eras_scripted (r.gave i) (r.past i) (r.opened i) ++ scripted_in None (r.era.started i) (r.era.answers i) (r.era.over i)

  mails_answers : (m : Life Body Asked Reply) (q : Asked) → LifeMails q m → side_answers m.era.side ≡ side_answers l.era.side ++ None ∷ []
  mails_answers m q r =
      let s = r.era.side in
      (λ i. answers_in (s.past i ++ newest (s.now i))) ∙ map-append (λ (k : Row Body Asked Reply). k.answer) (rows_of l.era.side) (s.row ∷ []) ∙ ap (λ (z : Answer). side_answers l.era.side ++ z ∷ []) s.answer

  pub mails_scripted : (m : Life Body Asked Reply) (q : Asked) → LifeMails q m → mails_in (services_in l.era.account.started) ≡ length (side_answers l.era.side) →
      life_scripted m ≡ life_scripted l ++ scripted_mails (is_beside (Service.Mails q)) made None []
  mails_scripted m q r b =
      (λ i. eras_scripted (r.gave i) (r.past i) (r.opened i) ++ scripted_in None (r.era.started i) (mails_answers m q r i) (r.era.over i))
      ∙ ap (λ ss. past_scripted l ++ ss) (scripted_one None l.era.account.started (side_answers l.era.side) l.era.account.over q made None b)
      ∙ sym (append_assoc (past_scripted l) (era_scripted None l.era) (scripted_mails (is_beside (Service.Mails q)) made None []))

  pub mails_beside : (m : Life Body Asked Reply) (q : Asked) → LifeMails q m → mails_in (services_in l.era.account.started) ≡ length (side_answers l.era.side) → mails_in (services_in m.era.account.started) ≡ length (side_answers m.era.side)
  mails_beside m q r b =
      let n = ap (λ ss. mails_in (services_in ss)) r.era.started ∙ mails_more l.era.account.started q made in
      let k = ap length (mails_answers m q r) ∙ length-append (side_answers l.era.side) (None ∷ []) in
      omega (arith, n, k, b)

  pub state_scripted : (m : Life Body Asked Reply) (target : ℕ) → LifeState target m → states_in (services_in l.era.account.started) ≡ length l.era.account.over →
      life_scripted m ≡ life_scripted l ++ record { frame = made; came = Came.state None } ∷ []
  state_scripted m target r e =
      (λ i. eras_scripted (r.gave i) (r.past i) (r.opened i) ++ scripted_in None (r.era.started i) (r.era.answers i) ((r.era.over ∙ sym (append-nil l.era.account.over)) i))
      ∙ ap (λ ss. past_scripted l ++ ss) (scripted_state None l.era.account.started (side_answers l.era.side) l.era.account.over [] target made e
      ∙ ap (λ z. era_scripted None l.era ++ record { frame = made; came = Came.state z } ∷ []) (no_outcome (returns_to_init target)))
      ∙ sym (append_assoc (past_scripted l) (era_scripted None l.era) (record { frame = made; came = Came.state None } ∷ []))

  pub state_beside : (m : Life Body Asked Reply) (target : ℕ) → LifeState target m → mails_in (services_in l.era.account.started) ≡ length (side_answers l.era.side) → mails_in (services_in m.era.account.started) ≡ length (side_answers m.era.side)
  state_beside m target r b = ap (λ ss. mails_in (services_in ss)) r.era.started ∙ states_more l.era.account.started target made ∙ b ∙ ap length (sym r.era.answers)

  -- what stands in it was before that frame as well
  pub still_before : (stand : Stand) → IsBefore made l → IsBefore made (next stand)
  still_before (Stand.Opens o) h = h
  still_before Stand.Open h = record { past = h.past; era = h.era; gave = h.gave }
  still_before Stand.Gone h = h

-- it goes on awaiting its reply
abbrev pub awaits_on : (e e' : Era Body Asked Reply) (w : Awaits e) (row : Row Body Asked Reply) → e'.account.started ≡ e.account.started → e'.account.over ≡ e.account.over → e'.side.past ≡ e.side.past → e'.account.hand ≡ None → e'.side.now ≡ Some row → row.service ≡ w.row.service → Awaits e'
awaits_on e e' w row started over past hand now service = record {
  front = w.front;
  asked = w.asked;
  frame = w.frame;
  row = row;
  started = started ∙ w.started;
  script = w.script;
  beside = w.beside ∙ ap (λ rs. length (answers_in rs)) (sym past);
  now = now;
  replies = λ areas. ap (handed areas) service ∙ w.replies areas;
  hand = hand;
  states = ap (λ ss. states_in (services_in ss)) started ∙ w.states ∙ ap length (sym over);
}

-- a change of state goes on
abbrev pub changes_on : (e e' : Era Body Asked Reply) (w : Changes e) (duty : Duty) → e'.account.started ≡ e.account.started → e'.account.over ≡ e.account.over → e'.account.hand ≡ Some duty → duty.target ≡ w.duty.target → EraRests e' → Changes e'
changes_on e e' w duty started over hand target row = record {
  front = w.front;
  frame = w.frame;
  duty = duty;
  started = started ∙ w.started ∙ ap (λ (k : ℕ). w.front ++ record { service = Service.State k; frame = w.frame } ∷ []) (sym target);
  beside = w.beside ∙ ap length (sym over);
  hand = hand;
  row = row;
}

-- the newest service by mails stays one that is none of the script
abbrev pub beside_on : (e e' : Era Body Asked Reply) (w : NewestBeside e) (more : List (Started Asked)) (row : Row Body Asked Reply) → e'.account.started ≡ e.account.started ++ more → e'.side.past ≡ e.side.past → e'.side.now ≡ Some row → NewestBeside e'
beside_on e e' w more row started past now = record {
  front = w.front;
  asked = w.asked;
  frame = w.frame;
  behind = w.behind ++ more;
  started = started ∙ ap (λ ss. ss ++ more) w.started ∙ append_assoc w.front (record { service = Service.Mails w.asked; frame = w.frame } ∷ w.behind) more;
  other = w.other;
  beside = w.beside ∙ ap (λ rs. length (answers_in rs)) (sym past);
  row = row;
  now = now;
}

-- nothing comes into hand
abbrev pub rests_on : (e e' : Era Body Asked Reply) → RestsSo e → e'.account.started ≡ e.account.started → e'.account.over ≡ e.account.over → e'.account.hand ≡ e.account.hand → EraRests e' → RestsSo e'
rests_on e e' r started over hand row = record { hand = hand ∙ r.hand; states = ap (λ ss. states_in (services_in ss)) started ∙ r.states ∙ ap length (sym over); row = row }

-- A TURN of a slave of which this is noted
module _ (lens : ℕ → Lens) (made : ℕ) (a : Leads) (u : Turn) (y : TurnsBy lens made a u) where
  abbrev x : Speech Body Asked Reply
  x = speech_at lens a.lived.spot

  abbrev old : Era Body Asked Reply
  old = a.lived.life.era

  abbrev new : Era Body Asked Reply
  new = u.lived.life.era

  abbrev Nothing : Type 0
  Nothing = LifeRests x made a.lived.life y.next.pick u.lived.life

  -- WHERE SOMETHING COMES INTO HAND nothing is awaited
  not_waiting : IsAwaiting a → is_free x old.side old.side.now ≡ true → ⊥
  not_waiting w free =
      let row = w.era.row in
      let no = not_free x acknowledged made old.side old.account row w.era.now (w.era.replies (record { out = (lens a.lived.spot.station).out; back = (lens a.lived.spot.station).back })) (sym (ap now_answer w.era.now) ∙ w.unanswered) in
      absurd (let bad : true ≡ false = sym free ∙ no in cc)

  pub record Free (w : Waits) : Type 0 where
    pub nothing : w ≡ Waits.nothing
    pub rests : RestsSo old

  free_by : (w : Waits) → StandsBy w a → a.lived.life.stand ≡ Stand.Open → is_free x old.side old.side.now ≡ true → old.account.hand ≡ None → Free w
  free_by Waits.nothing h s free none = record { nothing = refl; rests = h.rests s }
  free_by Waits.reply h s free none = absurd (not_waiting h free)
  free_by Waits.change (inl g) s free none = absurd (let bad = sym g.era.hand ∙ none in cc)
  free_by Waits.change (inr c) s free none = absurd (let bad : true ≡ false = sym (ap is_open s) ∙ c.away in cc)

  -- WHERE NOTHING DOES it is awaited as before
  rests_waiting : Nothing → IsAwaiting a → IsAwaiting (turned u)
  rests_waiting r w =
      let s = r.era.row w.era.row w.era.now in
      record {
        stand = r.stand ∙ w.stand;
        era = awaits_on old new w.era s.row r.era.started r.era.over r.era.past (r.era.hand ∙ w.era.hand) s.is s.service;
        unanswered = ap now_answer s.is ∙ s.answer ∙ sym (ap now_answer w.era.now) ∙ w.unanswered;
      }

  -- nor does what its services come to, if a frame opens it anew
  rests_over : (r : Nothing) → is_open a.lived.life.stand ≡ false → (g : Option ℕ) → over_scripted u.lived.life g ≡ over_scripted a.lived.life g
  rests_over r away g = over_same a.lived.life u.lived.life r.gave r.past r.stand (r.still away) g

  rests_era : Nothing → EraRests old → EraRests new
  rests_era r (inl h) = inl (r.era.rests h)
  rests_era r (inr w) = let s = r.era.row w.row w.now in inr (beside_on old new w [] s.row (r.era.started ∙ sym (append-nil old.account.started)) r.era.past s.is)

  rests_still : Nothing → IsStill a.lived.life → IsStill u.lived.life
  rests_still r h = record {
    rests = λ s. let k = h.rests (sym r.stand ∙ s) in rests_on old new k r.era.started r.era.over r.era.hand (rests_era r k.row);
    opens = λ o s g before.
        let was : a.lived.life.stand ≡ Stand.Opens o = sym r.stand ∙ s in
        rests_over r (ap is_open was) (Some g) ∙ h.opens o was g (subst (λ (z : List ℕ). All (λ k. k < g) z) r.gave before) ∙ sym (rests_over r (ap is_open was) None);
  }

  rests_anew : Nothing → ComesAnew a.lived.life → ComesAnew u.lived.life
  rests_anew r c = record {
    front = c.front;
    frame = c.frame;
    whole = rests_scripted x made a.lived.life y.next.pick u.lived.life r ∙ c.whole;
    opens = λ g. rests_over r c.away (Some g) ∙ c.opens g;
    away = ap is_open r.stand ∙ c.away;
  }

  rests_by : Nothing → (w : Waits) → StandsBy w a → StandsBy w (turned u)
  rests_by r Waits.nothing h = rests_still r h
  rests_by r Waits.reply h = rests_waiting r h
  rests_by r Waits.change (inl g) = inl (record { stand = r.stand ∙ g.stand; era = changes_on old new g.era g.era.duty r.era.started r.era.over (r.era.hand ∙ g.era.hand) refl (rests_era r g.era.row) })
  rests_by r Waits.change (inr c) = inr (rests_anew r c)

  -- one that was open goes on
  goes_fresh : a.lived.life.stand ≡ Stand.Open → u.lived.life.stand ≡ Stand.Open → u.lived.life.gave ≡ a.lived.life.gave → new.opened ≡ old.opened → FreshBy a.lived.life.stand a.lived.life.gave old → FreshBy u.lived.life.stand u.lived.life.gave new
  goes_fresh was stand gave opened h = fresh_open a.lived.life u.lived.life was stand gave opened h

  module _ (waits : Waits) (number : ℕ) (ns : List Noted) (h : IsNoted a waits number ns) where
    same_number : {P : Type 0} → u.number ≡ a.number → nat_lt number u.number ≡ true → P
    same_number k e = absurd (let t = ltb-true number u.number e in let m = h.many in omega (arith, t, m, k))

    more_number : {P : Type 0} → u.number ≡ suc a.number → nat_lt number u.number ≡ false → P
    more_number k e = absurd (let t = ltb-false number u.number e in let m = h.many in omega (arith, t, m, k))

    turn_rests : u.begun ≡ None → u.number ≡ a.number → Turns made (turned u) waits number ns
    turn_rests b k =
        let r = subst (λ z. LifeRests x made a.lived.life y.next.pick z) (sym y.next.life) (life_rests x made a.lived.life y.next.pick a.lived.life.stand refl (y.begun ∙ b)) in
        record {
          same = λ e. record {
            many = h.many ∙ sym k;
            beside = ap (λ ss. mails_in (services_in ss)) r.era.started ∙ h.beside ∙ ap length (sym r.era.answers);
            noted = subst (λ z. AllNoted z ns) (sym (rests_scripted x made a.lived.life y.next.pick u.lived.life r)) h.noted;
            fresh = subst (λ (s : Stand). FreshBy s u.lived.life.gave new) (sym r.stand)
                (subst (λ (g : List ℕ). FreshBy a.lived.life.stand g new) (sym r.gave) (fresh_same a.lived.life.stand a.lived.life.gave old new r.opened r.still h.fresh));
            stands = rests_by r waits h.stands;
          };
          more = λ e. same_number k e;
        }

    took : (s : Service Asked) → u.begun ≡ Some s → (life_next x acknowledged is_followed is_passed made a.lived.life a.lived.life.stand y.next.pick).era.account.started ≡ starts old.account s made
    took s b = ap (λ (z : Life Body Asked Reply). z.era.account.started) (sym y.next.life) ∙ subst (λ z. Took made old.account u.lived.life.era.account z) b y.took

    came_mails : (q : Asked) → u.begun ≡ Some (Service.Mails q) → LifeMails x made a.lived.life y.next.pick q u.lived.life
    came_mails q b = subst (λ z. LifeMails x made a.lived.life y.next.pick q z) (sym y.next.life) (life_mails x made a.lived.life y.next.pick a.lived.life.stand refl q (y.begun ∙ b) (took (Service.Mails q) b))

    came_state : (target : ℕ) → u.begun ≡ Some (Service.State target) → LifeState x made a.lived.life y.next.pick target u.lived.life
    came_state target b = subst (λ z. LifeState x made a.lived.life y.next.pick target z) (sym y.next.life) (life_state x made a.lived.life y.next.pick a.lived.life.stand refl target (y.begun ∙ b) (took (Service.State target) b))

    -- as many changes of state as before
    mails_states : (q : Asked) → LifeMails x made a.lived.life y.next.pick q u.lived.life → RestsSo old → states_in (services_in new.account.started) ≡ length new.account.over
    mails_states q r k = ap (λ ss. states_in (services_in ss)) r.era.started ∙ changes_same old.account.started q made ∙ k.states ∙ ap length (sym r.era.over)

    turn_beside : (q : Asked) → u.begun ≡ Some (Service.Mails q) → is_beside (Service.Mails q) ≡ true → u.number ≡ a.number → Turns made (turned u) waits number ns
    turn_beside q b p k =
        let r = came_mails q b in
        let free = free_by waits h.stands r.was r.era.free r.era.old in
        let scripted = mails_scripted x made a.lived.life y.next.pick u.lived.life q r h.beside ∙ ap (λ z. life_scripted a.lived.life ++ scripted_mails z made None []) p ∙ append-nil (life_scripted a.lived.life) in
        let row : EraRests new =
        inr (record {
          front = old.account.started;
          asked = q;
          frame = made;
          behind = [];
          started = r.era.started;
          other = p;
          beside = h.beside ∙ ap (λ rs. length (answers_in rs)) (sym r.era.side.past);
          row = r.era.side.row;
          now = r.era.side.now;
        }) in
        record {
          same = λ e. record {
            many = h.many ∙ sym k;
            beside = mails_beside x made a.lived.life y.next.pick u.lived.life q r h.beside;
            noted = subst (λ z. AllNoted z ns) (sym scripted) h.noted;
            fresh = goes_fresh r.was r.stand r.gave r.opened h.fresh;
            stands = subst (λ (w : Waits). StandsBy w (turned u)) (sym free.nothing) (record {
              rests = λ s. record { hand = r.era.hand; states = mails_states q r free.rests; row = row };
              opens = λ o s. absurd (let bad = sym r.stand ∙ s in cc);
            });
          };
          more = λ e. same_number k e;
        }

    turn_mails : (q : Asked) → u.begun ≡ Some (Service.Mails q) → is_beside (Service.Mails q) ≡ false → ((areas : Areas) → handed areas q ≡ false) → u.number ≡ suc a.number → Turns made (turned u) waits number ns
    turn_mails q b p replies k =
        let r = came_mails q b in
        let free = free_by waits h.stands r.was r.era.free r.era.old in
        let scripted = mails_scripted x made a.lived.life y.next.pick u.lived.life q r h.beside ∙ ap (λ z. life_scripted a.lived.life ++ scripted_mails z made None []) p in
        let waits_now : IsAwaiting (turned u) = record {
          stand = r.stand;
          era = record {
            front = old.account.started;
            asked = q;
            frame = made;
            row = r.era.side.row;
            started = r.era.started;
            script = p;
            beside = h.beside ∙ ap (λ rs. length (answers_in rs)) (sym r.era.side.past);
            now = r.era.side.now;
            replies = λ areas. ap (handed areas) r.era.side.service ∙ replies areas;
            hand = r.era.hand;
            states = mails_states q r free.rests;
          };
          unanswered = ap now_answer r.era.side.now ∙ r.era.side.answer;
        } in
        record {
          same = λ e. more_number k e;
          more = λ e state shown. subst (λ z. IsNoted (turned u) (awaited z) u.number (with_begun made ns)) (sym (shown r.stand ∙ ap is_some r.era.hand)) (record {
            many = refl;
            beside = mails_beside x made a.lived.life y.next.pick u.lived.life q r h.beside;
            noted = subst (λ z. AllNoted z (with_begun made ns)) (sym scripted)
                (noted_more (life_scripted a.lived.life) ns (record { frame = made; came = Came.mails None }) (record { frame = made; reply = None }) h.noted refl refl);
            fresh = goes_fresh r.was r.stand r.gave r.opened h.fresh;
            stands = waits_now;
          });
        }

    state_era : {target : ℕ} → LifeState x made a.lived.life y.next.pick target u.lived.life → EraRests old → EraRests new
    state_era r (inl h) = inl (r.era.rests h)
    state_era {target} r (inr w) = let s = r.era.row w.row w.now in inr (beside_on old new w (record { service = Service.State target; frame = made } ∷ []) s.row r.era.started r.era.past s.is)

    turn_state : (target : ℕ) → u.begun ≡ Some (Service.State target) → u.number ≡ suc a.number → Turns made (turned u) waits number ns
    turn_state target b k =
        let r = came_state target b in
        let free = free_by waits h.stands r.was r.era.free r.era.old in
        let scripted = state_scripted x made a.lived.life y.next.pick u.lived.life target r free.rests.states in
        record {
          same = λ e. more_number k e;
          more = λ e state shown. subst (λ z. IsNoted (turned u) (awaited z) u.number (with_begun made ns)) (sym (shown r.stand ∙ ap is_some r.era.hand)) (record {
            many = refl;
            beside = state_beside x made a.lived.life y.next.pick u.lived.life target r h.beside;
            noted = subst (λ z. AllNoted z (with_begun made ns)) (sym scripted)
                (noted_more (life_scripted a.lived.life) ns (record { frame = made; came = Came.state None }) (record { frame = made; reply = None }) h.noted refl refl);
            fresh = goes_fresh r.was r.stand r.gave r.opened h.fresh;
            stands = inl (record {
              stand = r.stand;
              era = record {
                front = old.account.started;
                frame = made;
                duty = record { target = target; frame = made; stage = Stage.Drains };
                started = r.era.started;
                beside = free.rests.states ∙ ap length (sym r.era.over);
                hand = r.era.hand;
                row = state_era r free.rests.row;
              };
            });
          });
        }

    by_comes : (b : Option (Service Asked)) (k : ℕ) → Comes (lens a.lived.spot.station).out a.script a.number b k → u.begun ≡ b → u.number ≡ k → Turns made (turned u) waits number ns
    by_comes _ _ Comes.none b k = turn_rests b k
    by_comes _ _ (Comes.mails s q at asked) b k = turn_mails q b (not_packet _ s q asked) (λ areas. has_reply areas _ s q asked) k
    by_comes _ _ (Comes.state target at) b k = turn_state _ b k
    by_comes _ _ (Comes.packet octets frame) b k = turn_beside _ b refl k

    by_any : (b : Option (Service Asked)) (k : ℕ) → ComesBy (lens a.lived.spot.station).out a.script a.number b k → u.begun ≡ b → u.number ≡ k → Turns made (turned u) waits number ns
    by_any _ _ (ComesBy.own b k comes) e f = by_comes b k comes e f
    by_any _ _ (ComesBy.mail m) e f = turn_beside _ e refl f

    pub turn_noted : Turns made (turned u) waits number ns
    turn_noted = by_any u.begun u.number y.comes refl refl

  -- whatever is noted
  turn_gave : u.lived.life.gave ≡ a.lived.life.gave
  turn_gave = ap (λ (z : Life Body Asked Reply). z.gave) y.next.life ∙ go a.lived.life.stand
    where
      go : (stand : Stand) → (life_next x acknowledged is_followed is_passed made a.lived.life stand y.next.pick).gave ≡ a.lived.life.gave
      go (Stand.Opens o) = refl
      go Stand.Open = refl
      go Stand.Gone = refl

  -- the script goes on by one, or by none
  next_number : (b : Option (Service Asked)) (k : ℕ) → Comes (lens a.lived.spot.station).out a.script a.number b k → (k ≡ a.number) ⊎ (k ≡ suc a.number)
  next_number _ _ Comes.none = inl refl
  next_number _ _ (Comes.mails s q at asked) = inr refl
  next_number _ _ (Comes.state target at) = inr refl
  next_number _ _ (Comes.packet octets frame) = inl refl

  any_number : (b : Option (Service Asked)) (k : ℕ) → ComesBy (lens a.lived.spot.station).out a.script a.number b k → (k ≡ a.number) ⊎ (k ≡ suc a.number)
  any_number _ _ (ComesBy.own b k comes) = next_number b k comes
  any_number _ _ (ComesBy.mail m) = inl refl

  -- and its epochs stay
  next_epochs : (stand : Stand) → SameEpochs a.lived.life (life_next x acknowledged is_followed is_passed made a.lived.life stand y.next.pick)
  next_epochs (Stand.Opens o) = record { spans = refl; stand = refl }
  next_epochs Stand.Open = record { spans = refl; stand = refl }
  next_epochs Stand.Gone = record { spans = refl; stand = refl }

  turn_before : IsBefore made a.lived.life → IsBefore made u.lived.life
  turn_before h = subst (λ (z : Life Body Asked Reply). IsBefore made z) (sym y.next.life) (still_before x made a.lived.life y.next.pick a.lived.life.stand h)

  pub turns_by : TurnsSo made a (turned u)
  turns_by = record {
    turns = λ waits number ns h. turn_noted waits number ns h;
    gave = turn_gave;
    goes = record { script = y.script; number = any_number u.begun u.number y.comes };
    epochs = subst (λ (m : Life Body Asked Reply). SameEpochs a.lived.life m) (sym y.next.life) (next_epochs a.lived.life.stand);
    before = turn_before;
  }

-- of a run
pub turns_so : (lens : ℕ → Lens) (made : ℕ) (ds : List Raw.Datagram) (a : Leads) (u : Turn) → IsTurn lens made ds a u → TurnsSo made a (turned u)
turns_so lens made ds a u y = turns_by lens made a u (record { script = y.script; comes = ComesBy.own u.begun u.number y.comes; next = y.next; begun = y.begun; took = y.took })
