-- Own datagrams: other slaves leave them, and an open slave is moved by them alone.
use Rattle.std.proofs.Common.{◌≡◌, ℕ, Bool, true, false, List, [], ◌∷◌, length, refl, ap, sym, ◌∙◌, subst}
use Rattle.std.specs.Prelude.{if◌then◌else◌, Option, Some, None}
use Rattle.slave_node.specs.of_datagrams.declared.command.Command.{Command}
use Rattle.slave_node.specs.of_datagrams.declared.command.Command.TheVariants.{Aprd, Apwr, Aprw, Fprd, Fpwr, Fprw}
use Rattle.slave_node.specs.of_datagrams.Datagram as Raw
use Rattle.slave_node.specs.of_esc_registers.declared.registers.Registers.{Registers}
use Rattle.slave_node.specs.of_esc_registers.declared.row.Row.{Row}
use Rattle.slave_node.specs.of_esc_registers.Access.{passed_at, row_of}
use Rattle.slave_node.specs.Passing.{passed, datagram_after, registers_after, datagrams_after}
use Rattle.frame_view.specs.of_link_mails.Body.{Body}
use Rattle.slave_node.specs.of_mailbox_slave.Kept.{Kept}
use Rattle.frame_view.specs.of_segment_model.Slaves.{Serving}
use Rattle.frame_view.specs.View.{Lens}
use Rattle.frame_view.specs.Seen.{datagrams_seen}
use Rattle.frames_seen.specs.Slaves.{slave_of, IsOpen}
use Rattle.frames_seen.specs.Spoken.{means, AllSpoken}
use Rattle.frames_seen.specs.Own.{is_to, own_of, IsApart, IsAlone, IsOwnMet}
use Rattle.frames_seen.proofs.Boxes.{aimed}
use Rattle.frames_seen.proofs.Frames.{open_view}

-- whom a datagram by station is addressed to stays, whatever the slave does with it
to_row : (station : ℕ) (r : Registers) (d : Raw.Datagram) (row : Option Row) → (c : Command) →
    is_to station (record d { head = (passed_at r (aimed d c d.head.adp d.head.ado).head d.body row).head }) ≡ is_to station (aimed d c d.head.adp d.head.ado)
to_row station r d None Aprd = refl
to_row station r d None Apwr = refl
to_row station r d None Aprw = refl
to_row station r d None c = refl
to_row station r d (Some row) Aprd = refl
to_row station r d (Some row) Apwr = refl
to_row station r d (Some row) Aprw = refl
to_row station r d (Some row) c = refl

pub to_stays : (station : ℕ) (r : Registers) (d : Raw.Datagram) → is_to station (datagram_after r d) ≡ is_to station d
to_stays station r d = to_row station r d (if means r.station d.head then row_of r d.head.ado (length d.body) else None) d.head.command

-- a datagram that doesn't mean a slave leaves it
pub unmoved : (r : Registers) (d : Raw.Datagram) → means r.station d.head ≡ false → (passed r d).registers ≡ r
unmoved r d not_ = ap (λ b. (passed_at r d.head d.body (if b then row_of r d.head.ado (length d.body) else None)).registers) not_

-- and one by station is left by it
left_by : (station : ℕ) (r : Registers) (d : Raw.Datagram) (c : Command) → is_to station (aimed d c d.head.adp d.head.ado) ≡ true → means r.station (aimed d c d.head.adp d.head.ado).head ≡ false →
    datagram_after r (aimed d c d.head.adp d.head.ado) ≡ aimed d c d.head.adp d.head.ado
left_by station r d Fprd to not_ = rw not_ refl
left_by station r d Fpwr to not_ = rw not_ refl
left_by station r d Fprw to not_ = rw not_ refl
left_by station r d c to not_ = absurd (cc)

left : (station : ℕ) (r : Registers) (d : Raw.Datagram) → is_to station d ≡ true → means r.station d.head ≡ false → datagram_after r d ≡ d
left station r d to not_ = left_by station r d d.head.command to not_

-- ANOTHER SLAVE leaves the own datagrams of a station
pub other_view : (station : ℕ) (r : Registers) (ds : List Raw.Datagram) → IsApart station r ds → own_of station (datagrams_after r ds) ≡ own_of station ds
other_view station r [] apart = refl
other_view station r (d ∷ ds) apart =
    let rest = datagrams_after (passed r d).registers ds in
    ap (λ b. if b then datagram_after r d ∷ own_of station rest else own_of station rest) (to_stays station r d)
    ∙ ap (λ l. if is_to station d then datagram_after r d ∷ l else l) (other_view station (passed r d).registers ds apart.1)
    ∙ go (is_to station d) refl
  where
    go : (b : Bool) → is_to station d ≡ b → (if b then datagram_after r d ∷ own_of station ds else own_of station ds) ≡ (if b then d ∷ own_of station ds else own_of station ds)
    go true is = ap (λ e. e ∷ own_of station ds) (left station r d is (apart.0 is))
    go false is = refl

-- AN OPEN SLAVE is moved by its own datagrams alone
pub own_registers : (station : ℕ) (r : Registers) (ds : List Raw.Datagram) → IsAlone station r ds → registers_after r ds ≡ registers_after r (own_of station ds)
own_registers station r [] alone = refl
own_registers station r (d ∷ ds) alone = own_registers station (passed r d).registers ds alone.1 ∙ go (is_to station d) refl
  where
    go : (b : Bool) → is_to station d ≡ b → registers_after (passed r d).registers (own_of station ds) ≡ registers_after r (if b then d ∷ own_of station ds else own_of station ds)
    go true is = refl
    go false is = ap (λ q. registers_after q (own_of station ds)) (unmoved r d (alone.0 is))

pub own_datagrams : (station : ℕ) (r : Registers) (ds : List Raw.Datagram) → IsAlone station r ds → own_of station (datagrams_after r ds) ≡ datagrams_after r (own_of station ds)
own_datagrams station r [] alone = refl
own_datagrams station r (d ∷ ds) alone =
    let rest = datagrams_after (passed r d).registers ds in
    ap (λ b. if b then datagram_after r d ∷ own_of station rest else own_of station rest) (to_stays station r d)
    ∙ ap (λ l. if is_to station d then datagram_after r d ∷ l else l) (own_datagrams station (passed r d).registers ds alone.1)
    ∙ go (is_to station d) refl
  where
    go : (b : Bool) → is_to station d ≡ b →
        (if b then datagram_after r d ∷ datagrams_after (passed r d).registers (own_of station ds) else datagrams_after (passed r d).registers (own_of station ds))
        ≡ datagrams_after r (if b then d ∷ own_of station ds else own_of station ds)
    go true is = refl
    go false is = ap (λ q. datagrams_after q (own_of station ds)) (unmoved r d (alone.0 is))

pub own_view : {V : Type 0} (lens : ℕ → Lens) (r : Registers) (k : Kept) (v : Serving V Body) (ds : List Raw.Datagram) → IsOpen lens r → IsAlone r.station r ds → AllSpoken r.station (own_of r.station ds) → IsOwnMet lens r k v ds
own_view lens r k v ds open_ alone spoken =
    let m = open_view lens r k v (own_of r.station ds) open_ spoken in
    let moves = own_registers r.station r ds alone in
    record {
      frame = ap (datagrams_seen lens) (own_datagrams r.station r ds alone) ∙ m.frame;
      slave = ap (λ q. slave_of k q v) moves ∙ m.slave;
      stays = subst (λ q. IsOpen lens q) (sym moves) m.stays;
      station = ap (λ q. q.station) moves ∙ m.station;
    }
