-- A frame that came back brought each slave what its access asks for: by what was sent, what comes back of it, and what the slaves answer.
use Rattle.std.proofs.Common.{◌≡◌, ℕ, zero, suc, ◌==◌, Bool, true, false, Option, Some, List, [], ◌∷◌, ◌++◌, length, refl, sym, ap, ◌∙◌, subst, cond, eq-eqb, inl, inr}
use Rattle.std.specs.Prelude.{◌⊎◌, if◌then◌else◌}
use Rattle.life_runs.specs.of_datagrams.declared.command.Command.{Command}
use Rattle.life_runs.specs.of_datagrams.declared.command.Command.TheVariants.{Fprd, Fpwr}
use Rattle.life_runs.specs.of_datagrams.Datagram as Raw
use Rattle.life_runs.specs.of_frame_view.Seen.{datagrams_seen}
use Rattle.life_runs.specs.of_frame_view.View.{Lens, datagram_seen, address_of, station_of}
use Rattle.life_runs.specs.of_frame_view.Frames.{FrameFor, HasOne, GramFor, IsOpenGram}
use Rattle.life_runs.specs.of_frame_view.Shares.{Asked, came_at, came_of}
use Rattle.life_runs.proofs.of_frame_view.Frames.{own_none, own_one}
use Rattle.life_runs.specs.of_life_model.Lives.{Stand}
use Rattle.life_runs.specs.of_life_model.Own.{own}
use Rattle.life_runs.specs.of_life_model.Tours.{item_at}
use Rattle.life_runs.specs.Led.{Leads, Turn, AllTurn}
use Rattle.life_runs.specs.of_link_mails.Body.{Body}
use Rattle.life_runs.specs.of_link_model.Frames as Link
use Rattle.life_runs.specs.of_link_model.Frames.{Gram, IsSent, in_ask}
use Rattle.life_runs.specs.of_link_model.Mails.{LinkMail}
use Rattle.life_runs.specs.of_link_model.Master.{InHalf, InState}
use Rattle.life_runs.specs.of_master_duty.Reply.{Reply}
use Rattle.life_runs.specs.of_master_hand.Spoken as Spoken
use Rattle.life_runs.specs.of_segment_model.Record.{is_for}
use Rattle.life_runs.specs.of_segment_model.Returned.{IsReturn, Returns}
use Rattle.life_runs.specs.of_segment_model.Slaves.{Datagram, grams}
use Rattle.run_frames.specs.Answers.{AsksHalf, EachAsks, AsksFirst, AllAsk, HalfAnswers, EachAnswers, StandAnswers, AllAnswer}
use Rattle.run_frames.specs.Brings.{AsksClear, HalfAsks, HalfBrings, StandBrings, Brings, AllBring}
use Rattle.run_frames.specs.Clocks.{Clocked}
use Rattle.run_frames.specs.Led.{AreLed, under_of, unders}

-- ---- what came back of a frame
returns_own : (station : ℕ) (sent back : List (Datagram Body)) → Returns sent back → Returns (own station sent) (own station back)
returns_own station [] [] r = tt
returns_own station [] (b ∷ back) r = absurd r
returns_own station (s ∷ sent) [] r = absurd r
returns_own station (s ∷ sent) (b ∷ back) r = by (is_for station s.address) (is_for station b.address) (r.0.address station) (returns_own station sent back r.1)
  where
    by : (x y : Bool) → y ≡ x → Returns (own station sent) (own station back) → Returns (cond x (s ∷ own station sent) (own station sent)) (cond y (b ∷ own station back) (own station back))
    by true true e l = (r.0, l)
    by false false e l = l
    by true false e l = absurd (cc)
    by false true e l = absurd (cc)

returns_none : (back : List (Datagram Body)) → Returns [] back → back ≡ []
returns_none [] r = refl
returns_none (b ∷ back) r = absurd r

-- one datagram
record One (d : Datagram Body) (back : List (Datagram Body)) : Type 0 where
  datagram : Datagram Body
  is : back ≡ datagram ∷ []
  returns : IsReturn d datagram

returns_one : (d : Datagram Body) (back : List (Datagram Body)) → Returns (d ∷ []) back → One d back
returns_one d [] r = absurd r
returns_one d (b ∷ []) r = record { datagram = b; is = refl; returns = r.0 }
returns_one d (b ∷ (c ∷ back)) r = absurd (r.1)

-- that at a place
record ItemBack (at : ℕ) (back : List (Datagram Body)) : Type 0 where
  datagram : Datagram Body
  is : item_at at back ≡ Some datagram

item_back : (at : ℕ) (sent back : List (Datagram Body)) (d : Datagram Body) → Returns sent back → item_at at sent ≡ Some d → ItemBack at back
item_back at [] back d r e = absurd (cc)
item_back at (s ∷ sent) [] d r e = absurd r
item_back zero (s ∷ sent) (b ∷ back) d r e = record { datagram = b; is = refl }
item_back (suc at) (s ∷ sent) (b ∷ back) d r e = let i = item_back at sent back d r.1 e in record { datagram = i.datagram; is = i.is }

item_sent : (lens : ℕ → Lens) (front : List Raw.Datagram) (d : Raw.Datagram) (behind : List Raw.Datagram) → item_at (length front) (datagrams_seen lens (front ++ d ∷ behind)) ≡ Some (datagram_seen lens d)
item_sent lens [] d behind = refl
item_sent lens (e ∷ front) d behind = item_sent lens front d behind

-- ---- what is sent to a station
to_it : (station : ℕ) (c : Command) (adp : ℕ) → (c ≡ Fprd) ⊎ (c ≡ Fpwr) → is_for station (address_of c adp) ≡ (adp == station)
to_it station c adp (inl e) = ap (λ z. is_for station (address_of z adp)) e
to_it station c adp (inr e) = ap (λ z. is_for station (address_of z adp)) e

of_it : (c : Command) (adp : ℕ) → (c ≡ Fprd) ⊎ (c ≡ Fpwr) → station_of c adp ≡ adp
of_it c adp (inl e) = ap (λ z. station_of z adp) e
of_it c adp (inr e) = ap (λ z. station_of z adp) e

-- where nothing is in doubt: the write of the mail held, the read of mailbox 1, or another register
clear_asks : (held : Option (LinkMail Body)) (inn : Option InHalf) (g : Gram Body) (gs : List (Gram Body)) → IsSent held inn (g ∷ gs) → ((h : InHalf) → inn ≡ Some h → h.state ≡ InState.Clear) → AsksClear g.ask
clear_asks held inn g gs (IsSent.other x xs e s) clear = subst AsksClear (sym e) AsksClear.other
clear_asks held inn g gs (IsSent.write m x xs e z s) clear = subst AsksClear (sym e) (AsksClear.write m)
clear_asks held inn g gs (IsSent.inward h x xs e z s) clear =
    subst AsksClear (sym (e ∙ ap (λ state. in_ask state h.bit) (clear h refl))) AsksClear.read

half_asks : (stepped : Bool) (state : InState) (bit : Bool) (d b : Datagram Body) → IsReturn d b → AsksHalf state bit d.gram.ask → HalfAnswers stepped state bit b → (state ≡ InState.Clear → AsksClear d.gram.ask) → HalfAsks stepped state bit b
half_asks stepped InState.Clear bit d b r asks answers clear = subst AsksClear (sym r.ask) (clear refl)
half_asks stepped InState.Doubt bit d b r asks answers clear = (r.ask ∙ asks, answers)
half_asks stepped InState.Asked bit d b r asks answers clear = (r.ask ∙ asks, answers)
half_asks stepped InState.Refetch bit d b r asks answers clear = r.ask ∙ asks

module _ (lens : ℕ → Lens) (made : ℕ) (ds : List Raw.Datagram) (sent back : List (Datagram Body)) (view : sent ≡ datagrams_seen lens ds) (r : Returns sent back) where
  abbrev Slave : Type 0
  Slave = Clocked Body Spoken.Asked Reply

  -- ONE SLAVE that the frame carries
  module _ (c : Slave) (u : Turn) (spot : c.spot ≡ u.lived.spot) (asked : Asked lens ds u.lived u.share) (asks : AsksFirst sent u) (answers : StandAnswers back c u u.lived.life.stand) where
    station_is : c.spot.station ≡ u.lived.spot.station
    station_is = ap (λ s. s.station) spot

    carried : (d : Raw.Datagram) → HasOne u.lived.spot u.share.at d ds → ItemBack u.share.at back
    carried d has =
        let place : item_at u.share.at sent ≡ Some (datagram_seen lens d) = (λ i. item_at (sym has.place i) (view i)) ∙ ap (λ z. item_at (length has.front) (datagrams_seen lens z)) has.split ∙ item_sent lens has.front d has.behind in
        item_back u.share.at sent back (datagram_seen lens d) r place

    -- of an open one
    open_brings : (d : Raw.Datagram) → HasOne u.lived.spot u.share.at d ds → IsOpenGram u.lived.spot.station d → u.lived.life.stand ≡ Stand.Open → StandAnswers back c u Stand.Open →
        HalfBrings c.spot.station c.stepped u.lived.life.era.side.halves.inn.state u.lived.life.era.side.halves.inn.bit back
    open_brings d has gram stand answered = record {
      datagram = one.datagram;
      one = ap (λ s. own s back) station_is ∙ one.is;
      station_is = one.returns.station ∙ at ∙ sym station_is;
      asks = half_asks c.stepped u.lived.life.era.side.halves.inn.state u.lived.life.era.side.halves.inn.bit x one.datagram one.returns
          (subst (λ z. EachAsks u.lived.life.era.side.halves.inn.state u.lived.life.era.side.halves.inn.bit z) mine (asks stand)).0
          (subst (λ z. EachAnswers c.stepped u.lived.life.era.side.halves.inn.state u.lived.life.era.side.halves.inn.bit z) one.is answered).0
          (λ clear. clear_asks u.lived.life.era.side.halves.out.holding (Some u.lived.life.era.side.halves.inn) x.gram [] whole (λ h e. ap (λ z. z.state) (sym (some_half u.lived.life.era.side.halves.inn h e)) ∙ clear));
    }
      where
        some_half : (h k : InHalf) → Some h ≡ Some k → h ≡ k
        some_half h k e = cc

        x : Datagram Body
        x = datagram_seen lens d

        at : x.gram.station ≡ u.lived.spot.station
        at = of_it d.head.command d.head.adp gram.to.command ∙ gram.to.adp

        mine : own u.lived.spot.station sent ≡ x ∷ []
        mine = ap (own u.lived.spot.station) view
            ∙ own_one lens u.lived.spot u.share.at d ds has (to_it u.lived.spot.station d.head.command d.head.adp gram.to.command ∙ eq-eqb d.head.adp u.lived.spot.station gram.to.adp)

        one : One x (own u.lived.spot.station back)
        one = returns_one x (own u.lived.spot.station back) (subst (λ z. Returns z (own u.lived.spot.station back)) mine (returns_own u.lived.spot.station sent back r))

        whole : IsSent u.lived.life.era.side.halves.out.holding (Some u.lived.life.era.side.halves.inn) (x.gram ∷ [])
        whole =
            let halves = (asked.asks stand).halves in
            let mine' = subst (λ z. IsSent u.lived.life.era.side.halves.out.holding (Some u.lived.life.era.side.halves.inn) (Link.own u.lived.spot.station (grams z))) (ap (own u.lived.spot.station) (sym view) ∙ mine) halves in
            subst (λ (b : Bool). IsSent u.lived.life.era.side.halves.out.holding (Some u.lived.life.era.side.halves.inn) (if b then x.gram ∷ [] else [])) (eq-eqb x.gram.station u.lived.spot.station at) mine'

    by_stand : (s : Stand) → u.lived.life.stand ≡ s → u.share.under ≡ true → (d : Raw.Datagram) → HasOne u.lived.spot u.share.at d ds → GramFor lens u.lived.spot s d → StandAnswers back c u s → StandBrings back c (under_of back u) s
    by_stand (Stand.Opens o) e under d has gram answered =
        let i = carried d has in
        let is : came_at u.share.under u.share.at back ≡ Some (i.datagram.counter == 1, i.datagram.found) = ap (λ z. came_at z u.share.at back) under ∙ ap came_of i.is in
        record { done = i.datagram.counter == 1; found = i.datagram.found; is = is; shows = answered (i.datagram.counter == 1) i.datagram.found is }
    by_stand Stand.Open e under d has gram answered = open_brings d has gram e answered
    by_stand Stand.Gone e under d has gram answered = absurd gram

    pub one_brings : Brings back c (under_of back u)
    one_brings = by asked.has
      where
        by : FrameFor lens u.lived.spot u.lived.life.stand u.share ds → Brings back c (under_of back u)
        by (FrameFor.none out n) = record {
          none = λ e. (
            ap (λ s. own s back) station_is
                ∙ returns_none (own u.lived.spot.station back) (subst (λ z. Returns z (own u.lived.spot.station back)) (ap (own u.lived.spot.station) view ∙ own_none lens u.lived.spot ds n) (returns_own u.lived.spot.station sent back r)),
            ap (λ z. came_at z u.share.at back) e,
          );
          some = λ e. absurd (let no : true ≡ false = sym e ∙ out in cc);
        }
        by (FrameFor.one under d has gram) = record {
          none = λ e. absurd (let no : true ≡ false = sym under ∙ e in cc);
          some = λ e. by_stand u.lived.life.stand refl under d has gram answers;
        }

  -- ALL OF THEM
  pub all_bring : (cs : List Slave) (as' : List Leads) (us : List Turn) → AreLed as' cs → AllTurn lens made ds as' us → AllAsk sent us → AllAnswer back cs us → AllBring back cs (unders back us)
  all_bring [] [] [] l t asks answers = tt
  all_bring [] [] (u ∷ us) l t asks answers = absurd t
  all_bring [] (a ∷ as') us l t asks answers = absurd l
  all_bring (c ∷ cs) [] us l t asks answers = absurd l
  all_bring (c ∷ cs) (a ∷ as') [] l t asks answers = absurd t
  all_bring (c ∷ cs) (a ∷ as') (u ∷ us) l t asks answers = (one_brings c u (l.0 ∙ sym t.0.next.spot) t.0.asked asks.0 answers.0, all_bring cs as' us l.2 t.1 asks.1 answers.1)
