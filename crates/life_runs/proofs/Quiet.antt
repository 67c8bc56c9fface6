-- A run is a serving to which no mail is asked.
use Rattle.std.proofs.Common.{◌≡◌, ℕ, ◌+◌, Bool, true, false, Option, Some, None, List, [], ◌∷◌, map, length, refl, ap, sym, ◌∙◌, subst}
use Rattle.std.specs.Prelude.{◌&&◌, ◌%◌, nat_lt, if◌then◌else◌, All}
use Rattle.std.proofs.lemmas.List.Elements.{All-head, All-tail}
use Rattle.master_tour.specs.of_datagrams.Datagram as Raw
use Rattle.master_hand.specs.of_protocol_models.EoeClient as EoeClient
use Rattle.master_hand.specs.of_exchange_model.Exchange.{Speech}
use Rattle.master_tour.specs.of_frame_view.View.{Lens}
use Rattle.master_tour.specs.of_frame_view.Seen.{seen}
use Rattle.master_tour.specs.of_frame_view.Shares.{Lived, AllBoth, given_where, came_at}
use Rattle.master_tour.specs.of_life_model.Lives as Lives
use Rattle.master_tour.specs.of_life_model.Lives.{Life, Spot, passes, era_back, life_back, life_lost, reopens}
use Rattle.master_tour.specs.of_link_mails.Body.{Body}
use Rattle.master_tour.specs.of_master_duty.Reply.{Reply}
use Rattle.master_hand.specs.Spoken.{Asked, net, acknowledged, is_followed, is_passed}
use Rattle.master_hand.specs.Talk.{asked_of}
use Rattle.master_hand.specs.of_segment_plan.declared.service.Service as Plan
use Rattle.segment_ring.specs.declared.wire.Fate.{Fate}
use Rattle.segment_ring.specs.declared.wire.Fate.TheVariants.{Pass, Lost}
use Rattle.life_runs.specs.Led.{Comes, Exchanged, Leads, Turn, IsTurn, AllTurn, IsLed, gives_up_at, led_behind, life_behind, speech_at}
use Rattle.master_hand.specs.of_segment_model.Record.{News}
use Rattle.master_hand.specs.of_segment_model.Ends.{Passing}
use Rattle.master_hand.specs.of_segment_model.Slaves.{Datagram, Found}
use Rattle.master_hand.specs.of_state_model.Stated.{Service}
use Rattle.master_tour.proofs.Unpassed.{unpassed_next, unpassed_back, unpassed_lost}
use Rattle.life_runs.specs.Told.{Passed}
use Rattle.life_runs.specs.Served.{Serves, ServedTurn, ServedComes, IsServedTurn, AllServedTurn, IsServedLed, IsQuiet, IsRunOf, all_serve, gives_it, served_behind, served_life}

-- no script passes a mail on
abbrev pub passed_in : Option Asked → Bool
passed_in None = false
passed_in (Some q) = is_passed q

none_set : (b : Bool) (block : List ℕ) → passed_in (if b then None else Some (net (EoeClient.set_ip block))) ≡ false
none_set true block = refl
none_set false block = refl

pub none_in : (room : ℕ) (s : Plan.Service) → passed_in (asked_of room s) ≡ false
none_in room (Plan.Service.Sdo service) = refl
none_in room (Plan.Service.ReadFile name pass) = refl
none_in room (Plan.Service.WriteFile name pass bytes) = refl
none_in room (Plan.Service.ReadIdn drive idn elements) = refl
none_in room (Plan.Service.WriteIdn drive idn elements bytes) = refl
none_in room (Plan.Service.SetIp block) = none_set (nat_lt room (length block + 10)) block
none_in room Plan.Service.GetIp = refl
none_in room (Plan.Service.State target) = refl
none_in room (Plan.Service.Forward packet) = refl

pub comes_own : (room : ℕ) (script : List Plan.Service) (n m : ℕ) (b : Option (Service Asked)) → Comes room script n b m → (q : Asked) → b ≡ Some (Service.Mails q) → is_passed q ≡ false
comes_own room script n m _ Comes.none q e = absurd (cc)
comes_own room script n m _ (Comes.mails s p at asked) q e = (let same : p ≡ q = cc in ap is_passed (sym same) ∙ ap passed_in (sym asked) ∙ none_in room s)
comes_own room script n m _ (Comes.state target at) q e = absurd (cc)
comes_own room script n m _ (Comes.packet octets frame) q e = (let same : net (EoeClient.packet octets frame) ≡ q = cc in ap is_passed (sym same))

-- what comes into hand of a run may come into hand of a serving; the mail passed on last is forgotten with the next service
abbrev hand_behind : Option Passed → Option (Service Asked) → Option Passed
hand_behind hand None = hand
hand_behind hand (Some s) = None

comes_so : (room : ℕ) (script : List Plan.Service) (w : Serves) (n m : ℕ) (b : Option (Service Asked)) → Comes room script n b m → ServedComes room script w.waits w.hand n b m w.waits (hand_behind w.hand b)
comes_so room script w n m _ Comes.none = ServedComes.none
comes_so room script w n m _ (Comes.mails s q at asked) = ServedComes.own (Service.Mails q) m (Comes.mails s q at asked)
comes_so room script w n m _ (Comes.state target at) = ServedComes.own (Service.State (target % 16)) m (Comes.state target at)
comes_so room script w n m _ (Comes.packet octets frame) = ServedComes.own (Service.Mails (net (EoeClient.packet octets frame))) m (Comes.packet octets frame)

-- WHERE NO MAIL IS IN HAND THAT IS PASSED ON the news of it change nothing
module _ (x : Speech Body Asked Reply) where
  passes_same : (p : Option Passing) (ns : List (News Body)) → p ≡ None → passes x acknowledged is_followed is_passed p ns ≡ passes x acknowledged is_followed is_passed p []
  passes_same None ns e = refl
  passes_same (Some p) ns e = absurd (cc)

  back_same : (frame : ℕ) (spot : Spot) (ns : List (News Body)) (back : List (Datagram Body)) (came : Option (Bool × Option Found)) (l : Life Body Asked Reply) (stand : Lives.Stand) → l.era.passing ≡ None →
      life_back x acknowledged is_followed is_passed frame spot ns back came l stand ≡ life_back x acknowledged is_followed is_passed frame spot [] back came l stand
  back_same frame spot ns back None l (Lives.Stand.Opens o) e = refl
  back_same frame spot ns back (Some came) l (Lives.Stand.Opens o) e = refl
  back_same frame spot ns back came l Lives.Stand.Open e =
      let old = era_back x acknowledged is_followed is_passed spot.station frame [] back l.era in
      ap (λ p. reopens (record l { era = record old { passing = p } }) old.account.hand) (passes_same l.era.passing ns e)
  back_same frame spot ns back came l Lives.Stand.Gone e = refl

  lost_same : (spot : Spot) (ns : List (News Body)) (sent : List (Datagram Body)) (l : Life Body Asked Reply) (stand : Lives.Stand) → l.era.passing ≡ None →
      life_lost x acknowledged is_followed is_passed spot ns sent l stand ≡ life_lost x acknowledged is_followed is_passed spot [] sent l stand
  lost_same spot ns sent l (Lives.Stand.Opens o) e = refl
  lost_same spot ns sent l Lives.Stand.Open e =
      let old = Lives.era_lost x acknowledged is_followed is_passed spot.station [] sent l.era in
      ap (λ p. record l { era = record old { passing = p } }) (passes_same l.era.passing ns e)
  lost_same spot ns sent l Lives.Stand.Gone e = refl

-- before a frame
record IsQuietTurn (v : ServedTurn) (u : Turn) : Type 0 where
  turn : v.turn ≡ u
  waits : v.waits ≡ []
  unpassed : u.lived.life.era.passing ≡ None

record Turned (lens : ℕ → Lens) (made : ℕ) (ds : List Raw.Datagram) (ws : List Serves) (us : List Turn) : Type 0 where
  turns : List ServedTurn
  each : AllServedTurn lens made ds ws turns
  quiet : AllBoth IsQuietTurn turns us

module _ (lens : ℕ → Lens) where
  turn_unpassed : (made : ℕ) (ds : List Raw.Datagram) (a : Leads) (u : Turn) → IsTurn lens made ds a u → a.lived.life.era.passing ≡ None → u.lived.life.era.passing ≡ None
  turn_unpassed made ds a u t e =
      ap (λ (l : Life Body Asked Reply). l.era.passing) t.next.life
      ∙ unpassed_next (speech_at lens a.lived.spot) acknowledged is_followed is_passed made a.lived.life a.lived.life.stand t.next.pick e (λ q w. comes_own (lens a.lived.spot.station).out a.script a.number u.number u.begun t.comes q (sym t.begun ∙ w))

  one_turn : (made : ℕ) (ds : List Raw.Datagram) (w : Serves) (u : Turn) → IsTurn lens made ds w.lead u → IsServedTurn lens made ds w (record { turn = u; pace = w.pace; asked = w.asked; waits = w.waits; hand = hand_behind w.hand u.begun; kept = w.kept; counts = w.counts })
  one_turn made ds w u t = record {
    script = t.script;
    comes = comes_so (lens w.lead.lived.spot.station).out w.lead.script w w.lead.number u.number u.begun t.comes;
    next = t.next;
    begun = t.begun;
    took = t.took;
    asked = t.asked;
    same = refl;
    pace = refl;
    kept = refl;
    counts = refl;
  }

  all_turns : (made : ℕ) (ds : List Raw.Datagram) (ws : List Serves) (as' : List Leads) (us : List Turn) → IsRunOf ws as' → AllTurn lens made ds as' us → Turned lens made ds ws us
  all_turns made ds [] [] [] r t = record { turns = []; each = tt; quiet = tt }
  all_turns made ds [] [] (u ∷ us) r t = absurd t
  all_turns made ds [] (a ∷ as') us r t = absurd r
  all_turns made ds (w ∷ ws) [] us r t = absurd r
  all_turns made ds (w ∷ ws) (a ∷ as') [] r t = absurd t
  all_turns made ds (w ∷ ws) (a ∷ as') (u ∷ us) r t =
      let rest = all_turns made ds ws as' us r.1 t.1 in
      record {
        turns = record { turn = u; pace = w.pace; asked = w.asked; waits = w.waits; hand = hand_behind w.hand u.begun; kept = w.kept; counts = w.counts } ∷ rest.turns;
        each = (one_turn made ds w u (subst (λ b. IsTurn lens made ds b u) (sym r.0.lead) t.0), rest.each);
        quiet = (record { turn = refl; waits = r.0.waits; unpassed = turn_unpassed made ds a u t.0 r.0.unpassed }, rest.quiet);
      }

  -- behind it
  module _ (recover retry : ℕ) (gives : Bool) (made : ℕ) (f : Exchanged) where
    life_same : (fate : Fate) (v : ServedTurn) → v.turn.lived.life.era.passing ≡ None → served_life lens recover retry gives made f fate v ≡ life_behind lens recover retry gives made f fate v.turn.lived v.turn.share
    life_same Pass v e = ap (λ l. record { spot = v.turn.lived.spot; life = l }) (back_same (speech_at lens v.turn.lived.spot) made v.turn.lived.spot _ (seen lens f.back) (came_at v.turn.share.under v.turn.share.at (seen lens f.back)) v.turn.lived.life v.turn.lived.life.stand e)
    life_same (Lost after) v e = ap (λ l. record { spot = v.turn.lived.spot; life = given_where (gives && v.turn.share.under) recover v.turn.lived.spot made l }) (lost_same (speech_at lens v.turn.lived.spot) v.turn.lived.spot _ (seen lens f.sent) v.turn.lived.life v.turn.lived.life.stand e)

    behind_none : (fate : Fate) (u : Turn) → u.lived.life.era.passing ≡ None → (life_behind lens recover retry gives made f fate u.lived u.share).life.era.passing ≡ None
    behind_none Pass u e = unpassed_back (speech_at lens u.lived.spot) acknowledged is_followed is_passed made (seen lens f.back) u.lived u.share [] e
    behind_none (Lost after) u e = unpassed_lost (speech_at lens u.lived.spot) acknowledged is_followed is_passed gives recover made (seen lens f.sent) u.lived u.share [] e

    none_wait : (z : Bool) (v : ServedTurn) → v.waits ≡ [] → (if z then [] else v.waits) ≡ []
    none_wait true v e = refl
    none_wait false v e = e

    one_behind : (v : ServedTurn) (u : Turn) → IsQuietTurn v u → IsQuiet (served_behind lens recover retry gives made f v) (led_behind lens recover retry gives made f u)
    one_behind v u q =
        let none : v.turn.lived.life.era.passing ≡ None = ap (λ (t : Turn). t.lived.life.era.passing) q.turn ∙ q.unpassed in
        record {
          lead = ap (λ (l : Lived Asked Reply). record { script = v.turn.script; number = v.turn.number; lived = l }) (life_same f.fate v none) ∙ ap (led_behind lens recover retry gives made f) q.turn;
          waits = none_wait (gives_it lens recover retry gives f.fate v) v q.waits;
          unpassed = behind_none f.fate u q.unpassed;
        }

    all_behind : (vs : List ServedTurn) (us : List Turn) → AllBoth IsQuietTurn vs us → IsRunOf (map (served_behind lens recover retry gives made f) vs) (map (led_behind lens recover retry gives made f) us)
    all_behind [] [] q = tt
    all_behind [] (u ∷ us) q = absurd q
    all_behind (v ∷ vs) [] q = absurd q
    all_behind (v ∷ vs) (u ∷ us) q = (one_behind v u q.0, all_behind vs us q.1)

first_quiet : (paces : List ℕ) (as' : List Leads) → All (λ a. a.lived.life.era.passing ≡ None) as' → IsRunOf (all_serve paces as') as'
first_quiet paces [] n = tt
first_quiet [] (a ∷ as') n = (record { lead = refl; waits = refl; unpassed = All-head (λ b. b.lived.life.era.passing ≡ None) a as' n }, first_quiet [] as' (All-tail (λ b. b.lived.life.era.passing ≡ None) a as' n))
first_quiet (pace ∷ paces) (a ∷ as') n = (record { lead = refl; waits = refl; unpassed = All-head (λ b. b.lived.life.era.passing ≡ None) a as' n }, first_quiet paces as' (All-tail (λ b. b.lived.life.era.passing ≡ None) a as' n))

-- ALL FRAMES
module _ (lens : ℕ → Lens) (recover retry : ℕ) (paces : List ℕ) (first : List Leads) (none : All (λ a. a.lived.life.era.passing ≡ None) first) where
  pub run_served : (fs : List Exchanged) (missed : ℕ) (as' : List Leads) → IsLed lens recover retry first fs missed as' → (ws : List Serves) × IsServedLed lens recover retry (all_serve paces first) fs missed ws × IsRunOf ws as'
  run_served _ _ _ IsLed.start = (all_serve paces first, IsServedLed.start, first_quiet paces first none)
  run_served _ _ _ (IsLed.on fs missed as' f us led frame) =
      let before = run_served fs missed as' led in
      let t = all_turns lens (length fs) frame.datagrams before.0 as' us before.2 frame.each in
      let gives = gives_up_at lens recover retry missed in (
        map (served_behind lens recover retry gives (length fs) f) t.turns,
        IsServedLed.on fs missed before.0 f t.turns before.1 (record { datagrams = frame.datagrams; frame = frame.frame; each = t.each }),
        all_behind lens recover retry gives (length fs) f t.turns us t.quiet,
      )
