-- WHETHER A FRAME HAS ROOM for the datagram with which a service begins.
use Rattle.std.specs.Prelude.{◌≡◌, ◌≤◌, ◌-◌, Bool, true, false, Option, Some, List, ℕ, length}
use Rattle.master_side.specs.Again.{HasNoRoom}
use Rattle.master_side.specs.First.{HoldsFirst, first_of}
use Rattle.master_side.specs.Free.{is_free_side}
use Rattle.master_side.specs.declared.carried.Wish.{Wish}
use Rattle.master_side.specs.declared.hand.Hand.{Ghosts}
use Rattle.master_tour.specs.declared.stop.Stand.{Stand}
use Rattle.master_tour.specs.declared.stop.Stop.{Stop}

module _ {H : Type 0} {G : Ghosts H} where
  -- it has for that of an open slave whose side is free
  abbrev pub FitsFirst : List ℕ → Option Wish → Stop H G → Type 0
  FitsFirst octets wish s = s.stand ≡ Stand.Open → is_free_side s.side ≡ true → (w : Wish) → wish ≡ Some w → first_of s.side w ≤ 1514 - length octets - 12

  -- A VISIT WITHOUT A DATAGRAM by which a service came into hand: the frame has none for that
  abbrev pub LacksFirst : List ℕ → Bool → Option Wish → Stop H G → Stop H G → Type 0
  LacksFirst octets began wish s t = began ≡ true → t.under ≡ false → (w : Wish) → wish ≡ Some w → HoldsFirst w t.side.out.state → HasNoRoom octets (first_of s.side w)
