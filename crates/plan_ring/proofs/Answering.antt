-- What a slave answers by a frame that came back.
use Rattle.std.proofs.Common.{◌≡◌, ◌+◌, ◌%◌, ◌==◌, ◌&&◌, Bool, true, false, Option, Some, List, [], ◌∷◌, refl, sym, ap, ap₂, ◌∙◌, subst}
use Rattle.whole_ring.specs.of_frame_view.Seen.{seen}
use Rattle.whole_ring.specs.of_frames_seen.Own.{own_seen}
use Rattle.whole_ring.specs.of_frames_seen.Slaves.{registers_seen, slave_of}
use Rattle.plan_ring.specs.SlaveAsked.{AllAsk, AllMet, AllRead}
use Rattle.plan_ring.proofs.Answers.{just_one}
use Rattle.whole_ring.specs.of_life_model.Repairs.{awaits_at, awaited}
use Rattle.whole_ring.specs.of_life_model.Eras.{Clearing}
use Rattle.whole_ring.specs.of_life_model.Lives.{Spot, Era, Opening, AsksOpen, Stand, is_shown}
use Rattle.whole_ring.specs.of_life_model.Own.{own}
use Rattle.slave_server.specs.of_link_mails.Body.{Body}
use Rattle.whole_ring.specs.of_link_model.Frames.{grams_after, in_ask}
use Rattle.whole_ring.specs.of_link_model.Link.{Halves}
use Rattle.whole_ring.specs.of_link_model.Mails.{differs}
use Rattle.whole_ring.specs.of_link_model.Master.{InHalf, InState}
use Rattle.whole_ring.specs.of_mailbox_slave.Registers.{acknowledge_of}
use Rattle.run_frames.specs.Answers.{EachAsks, EachAnswers, OpeningAnswers}
use Rattle.slave_server.specs.of_segment_model.Record.{Frame, News}
use Rattle.slave_server.specs.of_segment_model.Slaves.{Datagram, Found, Slave, grams}
use Rattle.run_frames.specs.of_segment_ring.declared.wire.Fate.TheVariants.{Pass}
use Rattle.whole_ring.specs.of_slave_lives.Lived.{Behind, RingFrame, LivesEra, fate_of, frame_of}
use Rattle.whole_ring.specs.of_slave_lives.Opening.{Plan}
use Rattle.whole_ring.specs.of_slave_lives.Stands.{Closing}
use Rattle.whole_ring.specs.of_slave_lives.Shown.{StandsFor}
use Rattle.whole_ring.proofs.of_slave_lives.Standing.{access_shows}
use Rattle.slave_server.specs.of_state_model.Accounts.{Pick}
use Rattle.whole_ring.specs.Turns.{FrameComes, era_before}
use Rattle.whole_ring.specs.Whole.{IsWhole, OpensAs, OpensBy, plan_to}
use Rattle.plan_ring.specs.Stands.{Asked, CameFirst}
use Rattle.plan_ring.proofs.Halves.{half_same, sent_so, own_here, grams_same, mine_is, back_mine}

-- ---- an access of an opening
module _ {S V A Q R : Type 0} (w : Behind S V A Q R) (p : Plan) (spot : Spot) (from : A) (e : Era Body Q R) (fs : List (Frame Body)) (o : Opening) (t : RingFrame S) where
  closed_shows : (stepped : Bool) → Closing w.running w.boot w.lens (plan_to p o.state) o t.node → StandsFor stepped o t.node.registers → (done : Bool) (found : Option Found) → CameFirst w p o t done found → awaits_at o.again o.step ≡ true → stepped ≡ true → (done && is_shown (awaited o) found) ≡ true
  closed_shows stepped cl s done found k a now = access_shows w.running w.boot w.lens (plan_to p o.state) cl.plan o cl.state t.node k.access done found cl.closed a k.back.back k.first (s.shows a now)

  pub opening_answers : (stepped : Bool) → OpensAs w p spot from e fs o t.node → StandsFor stepped o t.node.registers → (came : Option (Bool × Option Found)) → ((done : Bool) (found : Option Found) → came ≡ Some (done, found) → CameFirst w p o t done found) → OpeningAnswers stepped o came
  opening_answers stepped (OpensBy.yet again step plan l) s came first done found is a now = absurd (let no : true ≡ false = sym a ∙ ap₂ awaits_at again step in cc)
  opening_answers stepped (OpensBy.anew cl x start) s came first done found is a now = closed_shows stepped cl s done found (first done found is) a now
  opening_answers stepped (OpensBy.over cl again early x) s came first done found is a now = closed_shows stepped cl s done found (first done found is) a now

-- ---- the inward half
none_clear : (b bit : Bool) (ds : List (Datagram Body)) → EachAnswers b InState.Clear bit ds
none_clear b bit [] = tt
none_clear b bit (d ∷ ds) = (tt, none_clear b bit ds)

none_refetch : (b bit : Bool) (ds : List (Datagram Body)) → EachAnswers b InState.Refetch bit ds
none_refetch b bit [] = tt
none_refetch b bit (d ∷ ds) = (tt, none_refetch b bit ds)

each_met : (b bit : Bool) (ds : List (Datagram Body)) → AllMet (grams ds) → EachAnswers b InState.Doubt bit ds
each_met b bit [] m = tt
each_met b bit (d ∷ ds) m = (m.0, each_met b bit ds m.1)

no_difference : (a b : Bool) → a ≡ b → differs a b ≡ false
no_difference true b e = ap (λ x. differs true x) (sym e)
no_difference false b e = sym e

each_read : (b bit ack : Bool) → (b ≡ true → ack ≡ bit) → (ds : List (Datagram Body)) → AllRead ack (grams ds) → EachAnswers b InState.Asked bit ds
each_read b bit ack f [] m = tt
each_read b bit ack f (d ∷ ds) m = (λ s. (m.0, no_difference d.gram.acknowledge bit (m.1 ∙ f s)), each_read b bit ack f ds m.2)

asks_doubt : (bit : Bool) (ds : List (Datagram Body)) → EachAsks InState.Doubt bit ds → AllAsk (in_ask InState.Doubt bit) (grams ds)
asks_doubt bit [] a = tt
asks_doubt bit (d ∷ ds) a = (a.0, asks_doubt bit ds a.1)

asks_asked : (bit : Bool) (ds : List (Datagram Body)) → EachAsks InState.Asked bit ds → AllAsk (in_ask InState.Asked bit) (grams ds)
asks_asked bit [] a = tt
asks_asked bit (d ∷ ds) a = (a.0, asks_asked bit ds a.1)

module _ {S V A Q R : Type 0} (w : Behind S V A Q R) (c : Clearing V A) (p : Plan) (spot : Spot) (whole : IsWhole w c p spot) (from : A) (e : Era Body Q R) (fs : List (Frame Body)) (t : RingFrame S) (more : Body → Bool) (passed : Q → Bool) (pick : Pick Q) (news : List (News Body))
    (lives : LivesEra w spot from e fs t.node) (f : FrameComes w p spot Stand.Open t) (asks : AsksOpen spot.station (era_before w more passed spot fs t pick news e) (seen w.lens t.octets)) (stepped : Bool) (prior : Asked stepped e.side.halves.inn t.node.registers) (is : fate_of t ≡ Pass) where
  abbrev half : Halves Body
  half = (era_before w more passed spot fs t pick news e).side.halves

  abbrev back : List (Datagram Body)
  back = own spot.station (frame_of w.lens t).back

  abbrev slave : Slave V Body
  slave = slave_of t.node.kept t.node.registers (w.sees (registers_seen t.node.registers).state t.node.server)

  back_grams : grams (own spot.station (frame_of w.lens t).back) ≡ grams_after spot.station slave.node (grams (own_seen w.lens spot.station t.datagrams))
  back_grams = ap grams (back_mine w c p spot whole from e fs t more passed pick news lives f asks is) ∙ grams_same spot.station slave (own_seen w.lens spot.station t.datagrams)

  bit_is : half.inn.state ≡ InState.Asked → stepped ≡ true → acknowledge_of t.node.registers ≡ half.inn.bit
  bit_is a s =
      let same = half_same w c p spot whole from e fs t more passed pick news lives f asks in
      prior.acknowledge (ap (λ (h : InHalf). h.state) (sym same) ∙ a) s ∙ ap (λ (h : InHalf). h.bit) (sym same)

  by_state : (st : InState) → half.inn.state ≡ st → EachAsks st half.inn.bit (own_seen w.lens spot.station t.datagrams) → EachAnswers stepped st half.inn.bit (own spot.station (frame_of w.lens t).back)
  by_state InState.Clear s a = none_clear stepped half.inn.bit back
  by_state InState.Refetch s a = none_refetch stepped half.inn.bit back
  by_state InState.Doubt s a = each_met stepped half.inn.bit back
      (subst (λ gs. AllMet gs) (sym back_grams)
      (just_one spot.station (in_ask InState.Doubt half.inn.bit) refl (λ l. AllMet l) slave.node tt (λ g zero. (ap (λ n. (n + 1) % 65536 == 0) zero, tt)) half.out.holding half.inn (grams (own_seen w.lens spot.station t.datagrams))
      (sent_so w c p spot whole from e fs t more passed pick news lives f asks) (own_here w.lens spot.station t.datagrams) (asks_doubt half.inn.bit (own_seen w.lens spot.station t.datagrams) a)))
  by_state InState.Asked s a = each_read stepped half.inn.bit (acknowledge_of t.node.registers) (bit_is s) back
      (subst (λ gs. AllRead (acknowledge_of t.node.registers) gs) (sym back_grams)
      (just_one spot.station (in_ask InState.Asked half.inn.bit) refl (λ l. AllRead (acknowledge_of t.node.registers) l) slave.node tt (λ g zero. (ap (λ n. (n + 1) % 65536 == 0) zero, refl, tt)) half.out.holding half.inn (grams (own_seen w.lens spot.station t.datagrams))
      (sent_so w c p spot whole from e fs t more passed pick news lives f asks) (own_here w.lens spot.station t.datagrams) (asks_asked half.inn.bit (own_seen w.lens spot.station t.datagrams) a)))

  pub half_answers : EachAsks half.inn.state half.inn.bit (own spot.station (seen w.lens t.octets)) → EachAnswers stepped half.inn.state half.inn.bit (own spot.station (frame_of w.lens t).back)
  half_answers a = by_state half.inn.state refl (subst (λ ds. EachAsks half.inn.state half.inn.bit ds) (mine_is w c p spot whole from e fs t more passed pick news lives f asks) a)
