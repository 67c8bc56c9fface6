-- A DATAGRAM OF OCTETS accesses a mailbox or another register, not both, and a mailbox by its own address.
use Rattle.std.proofs.Common.{◌≡◌, ◌⊎◌, inl, inr, ℕ, ◌==◌, Bool, true, false, List, [], ◌∷◌, map, length, Result, Ok, Err, refl, ap, ◌∙◌, eqb-true, if◌then◌else◌}
use Rattle.std.specs.Prelude.{take, drop, slice_index, ◌+◌}
use Rattle.served_places.specs.of_datagrams.declared.command.Command.{Command}
use Rattle.served_places.specs.of_datagrams.declared.command.Command.TheVariants.{Nop, Aprd, Apwr, Aprw, Fprd, Fpwr, Fprw, Brd, Bwr, Brw, Lrd, Lwr, Lrw, Armw, Frmw, Other}
use Rattle.served_places.specs.of_datagrams.declared.frame.Frame.{Frame}
use Rattle.served_places.specs.of_datagrams.declared.frame.FrameFault.{FrameFault}
use Rattle.served_places.specs.of_datagrams.declared.frame.Part.{Part}
use Rattle.served_places.specs.of_datagrams.Frame.{frame_read}
use Rattle.run_work.specs.of_frame_view.Seen.{seen, part_seen, parts_seen}
use Rattle.run_work.specs.of_frame_view.View.{Lens, write_ask, write_access, read_ask, read_access, ask_of, access_of, address_of, station_of}
use Rattle.served_places.specs.of_life_model.Own.{own, AreSeen}
use Rattle.served_places.specs.of_link_mails.Body.{Body, link_read, bit_1}
use Rattle.served_places.specs.of_link_model.Frames.{Ask}
use Rattle.run_work.specs.of_mailbox_mail.Mail.{mail_read}
use Rattle.run_work.specs.of_few_replies.Led.{AreSingle}
use Rattle.served_places.specs.of_segment_model.Record.{is_for}
use Rattle.served_places.specs.of_segment_model.Slaves.{Access, Address, Datagram}

-- one or the other
abbrev One : Ask Body → Access → Type 0
One ask access = (ask ≡ Ask.Other) ⊎ (access ≡ Access.Elsewhere)

module _ (lens : Lens) (octets : List ℕ) where
  -- by the register: where the link is written no other register is
  write_one : (ado : ℕ) → One (write_ask lens ado octets) (write_access lens ado octets)
  write_one ado = go (ado == 4096) refl (ado == 2062) refl
    where
      go : (a : Bool) → (ado == 4096) ≡ a → (b : Bool) → (ado == 2062) ≡ b → One (write_ask lens ado octets) (write_access lens ado octets)
      go true e b f = inr (ap (λ k. write_access lens k octets) (eqb-true ado 4096 e))
      go false e true f = inr (ap (λ k. write_access lens k octets) (eqb-true ado 2062 f))
      go false e false f = inl (ap (λ c. if c then (if length octets == lens.out then Ask.WriteMail (link_read (mail_read octets)) else Ask.Other) else if ado == 2062 then (if length octets == 1 then Ask.WriteRequest (bit_1 (slice_index octets 0)) else Ask.Other) else Ask.Other) e ∙ ap (λ c. let other : Ask Body = if c then (if length octets == 1 then Ask.WriteRequest (bit_1 (slice_index octets 0)) else Ask.Other) else Ask.Other in other) f)

  read_one : (ado len : ℕ) → One (read_ask lens ado len) (read_access ado len)
  read_one ado len = go (ado == 6144) refl (ado == 2063) refl
    where
      go : (a : Bool) → (ado == 6144) ≡ a → (b : Bool) → (ado == 2063) ≡ b → One (read_ask lens ado len) (read_access ado len)
      go true e b f = inr (ap (λ k. read_access k len) (eqb-true ado 6144 e))
      go false e true f = inr (ap (λ k. read_access k len) (eqb-true ado 2063 f))
      go false e false f = inl (ap (λ c. if c then (if len == lens.back then Ask.ReadMail else Ask.Other) else if ado == 2063 then (if len == 1 then Ask.ReadAcknowledge else Ask.Other) else Ask.Other) e ∙ ap (λ c. let other : Ask Body = if c then (if len == 1 then Ask.ReadAcknowledge else Ask.Other) else Ask.Other in other) f)

  by_command : (c : Command) (ado : ℕ) → One (ask_of lens c ado octets) (access_of lens c ado octets)
  by_command Nop ado = inl refl
  by_command Aprd ado = inl refl
  by_command Apwr ado = inl refl
  by_command Aprw ado = inl refl
  by_command Fprd ado = read_one ado (length octets)
  by_command Fpwr ado = write_one ado
  by_command Fprw ado = inl refl
  by_command Brd ado = inl refl
  by_command Bwr ado = inl refl
  by_command Brw ado = inl refl
  by_command Lrd ado = inl refl
  by_command Lwr ado = inl refl
  by_command Lrw ado = inl refl
  by_command Armw ado = inl refl
  by_command Frmw ado = inl refl
  by_command (Other n) ado = inl refl

  -- a mailbox is accessed by the station that the datagram is addressed to
  by_station : (c : Command) (adp ado : ℕ) → (ask_of lens c ado octets ≡ Ask.Other) ⊎ (address_of c adp ≡ Address.Station (station_of c adp))
  by_station Nop adp ado = inl refl
  by_station Aprd adp ado = inl refl
  by_station Apwr adp ado = inl refl
  by_station Aprw adp ado = inl refl
  by_station Fprd adp ado = inr refl
  by_station Fpwr adp ado = inr refl
  by_station Fprw adp ado = inr refl
  by_station Brd adp ado = inl refl
  by_station Bwr adp ado = inl refl
  by_station Brw adp ado = inl refl
  by_station Lrd adp ado = inl refl
  by_station Lwr adp ado = inl refl
  by_station Lrw adp ado = inl refl
  by_station Armw adp ado = inl refl
  by_station Frmw adp ado = inl refl
  by_station (Other n) adp ado = inl refl

-- of a frame
own_single : (station : ℕ) (ds : List (Datagram Body)) → AreSingle ds → AreSingle (own station ds)
own_single station [] all = tt
own_single station (d ∷ ds) all = go (is_for station d.address) (own_single station ds all.1)
  where
    go : (b : Bool) → AreSingle (own station ds) → AreSingle (let l : List (Datagram Body) = if b then d ∷ own station ds else own station ds in l)
    go true rest = (all.0, rest)
    go false rest = rest

parts_single : (lens : ℕ → Lens) (octets : List ℕ) (ps : List Part) → AreSingle (map (part_seen lens octets) ps)
parts_single lens octets [] = tt
parts_single lens octets (p ∷ ps) =
    let body = take p.head.len (drop (p.at + 10) octets) in
    (by_command (lens (station_of p.head.command p.head.adp)) body p.head.command p.head.ado, parts_single lens octets ps)

read_single : (lens : ℕ → Lens) (octets : List ℕ) (r : Result Frame FrameFault) → AreSingle (parts_seen lens octets r)
read_single lens octets (Ok frame) = parts_single lens octets frame.parts.items
read_single lens octets (Err fault) = tt

pub seen_single : (lens : ℕ → Lens) (octets : List ℕ) (station : ℕ) → AreSingle (own station (seen lens octets))
seen_single lens octets station = own_single station (seen lens octets) (read_single lens octets (frame_read octets))

-- EACH DATAGRAM OF OCTETS accesses a mailbox only by its own address
parts_own : (lens : ℕ → Lens) (octets : List ℕ) (ps : List Part) → AreSeen (map (part_seen lens octets) ps)
parts_own lens octets [] = tt
parts_own lens octets (p ∷ ps) =
    let body = take p.head.len (drop (p.at + 10) octets) in
    (by_station (lens (station_of p.head.command p.head.adp)) body p.head.command p.head.adp p.head.ado, parts_own lens octets ps)

read_own : (lens : ℕ → Lens) (octets : List ℕ) (r : Result Frame FrameFault) → AreSeen (parts_seen lens octets r)
read_own lens octets (Ok frame) = parts_own lens octets frame.parts.items
read_own lens octets (Err fault) = tt

pub all_own : (lens : ℕ → Lens) (octets : List ℕ) → AreSeen (seen lens octets)
all_own lens octets = read_own lens octets (frame_read octets)
