-- A SLAVE THAT IS RETURNED TO INIT AND OPENED ANEW, over its registers, while access 1 to 9 of a reopening is in hand. At access 1 it is open as
-- it stands, or frozen, or where an opening before was given up it is as that one left it; at access 2 frozen or in Init; behind it in Init.
use Rattle.std.specs.Prelude.{◌≡◌, ◌⊎◌, ℕ, suc, ◌<◌, ◌==◌, Bool, true, false, if◌then◌else◌, Some, None, option_map, length}
use Rattle.frames_seen.specs.of_esc_registers.declared.registers.Registers as Esc
use Rattle.frames_seen.specs.of_esc_registers.Manager.{is_right, is_enabled}
use Rattle.frames_seen.specs.of_al_state.Request.{is_state}
use Rattle.frames_seen.specs.of_mailbox_slave.Kept.{Kept, offered}
use Rattle.frames_seen.specs.of_mailbox_slave.Registers.{request_of, acknowledge_of}
use Rattle.frames_seen.specs.of_link_mails.Body.{link_mail}
use Rattle.frames_seen.specs.of_frame_view.View.{Lens}
use Rattle.frames_seen.specs.Slaves.{registers_seen, IsOpen}
use Rattle.slave_lives.specs.Steps.{Running}
use Rattle.slave_lives.specs.Opening.{Plan}

-- a server that was cleared has nothing waiting, and is so once and for all
pub record Clears {S : Type 0} (u : Running S) : Type 0 where
  pub again : (s : S) → u.clear (u.clear s) ≡ u.clear s
  pub none : (s : S) → u.next (u.clear s) ≡ None

-- the box is new
pub record IsNewBox (k : Kept) : Type 0 where
  pub last_taken : k.last_taken ≡ 0
  pub offers : option_map link_mail (offered k) ≡ None
  pub again : k.again ≡ false
  pub last_read : option_map link_mail k.last_read ≡ None
  pub withdrawn : option_map link_mail k.withdrawn ≡ None
  pub newest : k.newest ≡ 0

-- INIT, or from access 8 on the state that is opened: the box is new and the server cleared; a word that waits is the return to Init, while
-- the slave is there, or from access 8 on asks for the state; a mailbox that is off is empty; and what the accesses before n set
pub record IsReturned {S : Type 0} (u : Running S) (p : Plan) (n : ℕ) (r : Esc.Registers) (k : Kept) (s : S) : Type 0 where
  pub box : IsNewBox k
  pub cleared : u.clear s ≡ s
  pub waits : u.next s ≡ None
  pub out : length r.out_manager.area ≡ p.out
  pub back : length r.in_manager.area ≡ p.back
  pub status : r.al_status < 32
  pub code : r.al_code < 65536
  pub refused : (registers_seen r).refused ≡ None
  pub state : ((registers_seen r).state ≡ 1) ⊎ ((7 < n) × ((registers_seen r).state ≡ p.start))
  pub word : (w : ℕ × Bool) → (registers_seen r).control ≡ Some w → ((w ≡ (1, true)) × ((registers_seen r).state ≡ 1)) ⊎ ((w ≡ (p.start, false)) × (7 < n))
  pub off_out : is_enabled r.out_manager.activate ≡ false → r.out_manager.full ≡ false
  pub off_in : is_enabled r.in_manager.activate ≡ false → r.in_manager.full ≡ false
  pub called : (r.station ≡ 0) ⊎ (r.station ≡ p.station)
  pub station : 3 < n → r.station ≡ p.station
  pub out_empty : 4 < n → r.out_manager.full ≡ false
  pub in_empty : 5 < n → (r.in_manager.full ≡ false) × (request_of r ≡ false)
  pub first : 6 < n → is_right 4096 38 r.out_manager ≡ true
  pub second : 7 < n → is_right 6144 34 r.in_manager ≡ true
  pub acknowledged : (registers_seen r).state ≡ p.start → acknowledge_of r ≡ false

-- FROZEN: open still, but the word that returns it to Init waits
pub record IsFrozen (lens : ℕ → Lens) (p : Plan) (r : Esc.Registers) : Type 0 where
  pub opens : IsOpen lens r
  pub station : r.station ≡ p.station
  pub word : (registers_seen r).control ≡ Some (1, true)
  pub state : is_state (registers_seen r).state ≡ true
  pub up : ((registers_seen r).state == 1) ≡ false

-- the accesses of a reopening
pub data IsTurn : ℕ → Type 0 where
  return : IsTurn 1
  watch : IsTurn 2
  address : IsTurn 3
  out_off : IsTurn 4
  in_off : IsTurn 5
  out_on : IsTurn 6
  in_on : IsTurn 7
  word : IsTurn 8
  status : IsTurn 9

-- the access behind this one, of nine
abbrev pub turn_behind : ℕ → ℕ
turn_behind n = if n == 9 then 9 else suc n
