-- WHAT THE NUMBER OF HANDLED SERVICES TELLS OF A SLAVE: what isn't counted changes nothing but unfinished transfers and the AL state.
use Rattle.std.specs.Prelude.{◌≡◌, ◌≤◌, ℕ, suc, Bool, List, take}
use Rattle.idle_slaves.specs.of_link_mails.Body.{Body}
use Rattle.idle_slaves.specs.of_life_model.Lives.{Era}
use Rattle.served_rings.specs.of_master_duty.Reply.{Reply}
use Rattle.served_rings.specs.of_master_hand.Spoken.{Asked}
use Rattle.served_rings.specs.Served.{server_behind}
use Rattle.served_rings.specs.Speakers.{cleared_whole}
use Rattle.idle_slaves.specs.of_slave_model.Profile.{Profile}
use Rattle.idle_slaves.specs.of_slave_model.Server as Slave
use Rattle.idle_slaves.specs.of_slave_parts.Parts.{Server}
use Rattle.idle_slaves.specs.of_state_model.Families.{InState}
use Rattle.idle_slaves.specs.of_state_model.Stated.{Service}
use Rattle.idle_slaves.specs.of_state_model.Promise.{services_in}

-- A STEP of a server: it is counted, once; or it isn't, and leaves objects, files, IDNs, addresses and the frame number of the next packet as they were
pub data IsCounted {T F I : Type 0} (before behind : Slave.Server T F I) : Type 0 where
  once : behind.handled ≡ suc before.handled → IsCounted before behind
  never : behind.handled ≡ before.handled → behind.app ≡ before.app → IsCounted before behind

module _ (p : Profile) (boot : Bool) (station : ℕ) where
  -- ROWS, from this server: the number of handled services never falls over them, and where it is the same behind them, so are objects, files, IDNs and addresses
  pub record AreCounted (v : InState Server) (qs : List (Service Asked)) : Type 0 where
    pub grows : v.inner.handled ≤ (server_behind p boot station v qs).inner.handled
    pub stays : (server_behind p boot station v qs).inner.handled ≡ v.inner.handled → (server_behind p boot station v qs).inner.app ≡ v.inner.app

  -- A FIRST PART of an epoch's rows, from the server with which it began: behind it stand objects, files, IDNs and addresses of the server that the slave left, and a
  -- return to Init makes the same of both
  pub record StandsSo (from : InState Server) (e : Era Body Asked Reply) (left : InState Server) (k : ℕ) : Type 0 where
    pub app : (server_behind p boot station from (take k (services_in e.account.started))).inner.app.app ≡ left.inner.app.app
    pub cleared : cleared_whole (server_behind p boot station from (take k (services_in e.account.started))) ≡ cleared_whole left

  -- AN EPOCH: so stands any first part of its rows over which as many services are handled as the slave has handled, the longest one among them
  abbrev pub IsToldByNumber : InState Server → Era Body Asked Reply → InState Server → Type 0
  IsToldByNumber from e left = (k : ℕ) → (server_behind p boot station from (take k (services_in e.account.started))).inner.handled ≡ left.inner.handled → StandsSo from e left k
