-- WHETHER A FRAME HAS ROOM for a slave's datagram; and behind a lost frame that of each slave is no longer than before.
use Rattle.std.specs.Prelude.{◌≡◌, ◌≤◌, ◌+◌, ℕ, Bool, true, false, List, length, ⊤}
use Rattle.master_side.specs.of_al_state.BringUp.{octets_of}
use Rattle.master_side.specs.Again.{HasNoRoom, IsOnWay, Repeats, area_of, sent_len}
use Rattle.master_side.specs.declared.hand.Hand.{Ghosts}
use Rattle.master_side.specs.declared.side.Side.{Side}
use Rattle.master_tour.specs.Goes.{is_live}
use Rattle.master_tour.specs.declared.stop.Stand.{Stand}
use Rattle.master_tour.specs.declared.stop.Stop.{Stop}

module _ {H : Type 0} {G : Ghosts H} where
  -- how many octets the datagram of a slave has in the frame under way, by how the master stands to it: the access of its opening, or that of a visit
  abbrev pub stand_len : Stand → Side H G → ℕ
  stand_len (Stand.Opening up) s = length (octets_of up)
  stand_len Stand.Open s = sent_len s
  stand_len Stand.Gone s = 0

  -- that is what its next visit has, should nothing come back
  abbrev pub StandOnWay : Stand → Side H G → Type 0
  StandOnWay (Stand.Opening up) s = ⊤
  StandOnWay Stand.Open s = IsOnWay s
  StandOnWay Stand.Gone s = ⊥

  -- and behind a lost frame its next visit has one of the same kind
  abbrev pub StandRepeats : Stand → Side H G → Type 0
  StandRepeats (Stand.Opening up) s = ⊤
  StandRepeats Stand.Open s = Repeats s
  StandRepeats Stand.Gone s = ⊥

  abbrev pub stop_len : Stop H G → ℕ
  stop_len s = stand_len s.stand s.side

  abbrev pub StopOnWay : Stop H G → Type 0
  StopOnWay s = StandOnWay s.stand s.side

  abbrev pub StopRepeats : Stop H G → Type 0
  StopRepeats s = StandRepeats s.stand s.side

  -- A SLAVE IS LOOKED AT before its visit: where its datagram does not fit, the frame has no room for one as long as its larger mailbox; nor, behind a
  -- lost frame, for the one that was lost
  pub record Looks (octets : List ℕ) (fits : Bool) (s t : Stop H G) : Type 0 where
    pub area : fits ≡ false → HasNoRoom octets (area_of s.side)
    pub again : StopRepeats s → StopRepeats t × (stop_len t ≡ stop_len s) × (fits ≡ false → HasNoRoom octets (stop_len s))

  -- A VISIT: a live slave whose datagram the frame does not get has none as long as its larger mailbox there; nor, behind a lost frame, as long as the one
  -- that was lost. One that it gets makes the frame so much longer, and behind a lost frame is no longer than that one
  pub record Visits (before behind : List ℕ) (s t : Stop H G) : Type 0 where
    pub area : is_live s.stand ≡ true → t.under ≡ false → HasNoRoom before (area_of s.side)
    pub again : StopRepeats s → (t.under ≡ false → HasNoRoom before (stop_len s)) × (t.under ≡ true → stop_len t ≤ stop_len s)
    pub way : t.under ≡ true → StopOnWay t × (length behind ≡ length before + (12 + stop_len t))
    pub still : t.under ≡ false → behind ≡ before

  -- A LOST FRAME, by which no slave is given up
  abbrev pub LosesAgain : Stop H G → Stop H G → Type 0
  LosesAgain s t = StopOnWay s → s.under ≡ true → StopRepeats t × (stop_len t ≤ stop_len s)
